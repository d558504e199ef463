use Rattle.std.proofs.Common.{ap, ◌∙◌}
use Rattle.imap_types.specs.declared.request.Request.TheVariants as asks
use Rattle.imap_command.specs.Request.{tag_or_star, first_tag, too_big_request}
use Rattle.imap_command.proofs.RequestLaws.{first_tag_is, one_first_tag}
use Rattle.imap_command.proofs.request.too_big.Goals as goal

pub returns : goal.returns
unfolding too_big_request
returns c = ap asks.TooBig
    (c.or_star.ensures ∙ ap tag_or_star
    (one_first_tag c.args.frame.now c.in_ok-first_tag.field-0 (first_tag c.args.frame.now) c.in_ok-first_tag.ensures (first_tag_is c.args.frame.now)))

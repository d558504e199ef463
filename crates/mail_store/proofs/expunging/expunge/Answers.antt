use Rattle.std.proofs.Common.{◌∙◌, rules, List, ℕ, map, ap}
use Rattle.mail_message.specs.declared.change.Change.TheVariants.{Gone}
use Rattle.mail_message.specs.Boxes.{Content, message_at, content_after_all}
use Rattle.mail_message.proofs.OtherLaws.{other-after_all}
use Rattle.mail_store.proofs.TouchedLaws.{content-gone, touched-gone}
use Rattle.mail_store.proofs.expunging.expunge.Goals as goal

pub returns-clause-uids : goal.returns-clause-uids
returns-clause-uids c = search rules

pub returns-clause-ok : goal.returns-clause-ok
returns-clause-ok c =
    rw (c.remove_all.ensures, c.as_slice.ensures)
    (content-gone c.args.to.now c.match-only.uids
    ∙ ap (λ (uids : List ℕ). content_after_all c.args.to.now (map (λ uid. Gone uid) uids)) (returns-clause-uids c))

pub returns-clause-others : goal.returns-clause-others
returns-clause-others c q untouched =
    rw (c.remove_all.ensures, c.as_slice.ensures)
    (ap (λ (box : Content). message_at box.messages q) (content-gone c.args.to.now c.match-only.uids)
    ∙ other-after_all c.args.to.now (map (λ uid. Gone uid) c.match-only.uids) q (touched-gone c.match-only.uids q ∙ untouched))

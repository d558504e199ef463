use Rattle.std.proofs.Common.{◌∙◌, ap, sym}
use Rattle.mail_message.specs.Boxes.{Content, message_at}
use Rattle.mail_message.specs.Slots.{filled}
use Rattle.mail_message.proofs.BoxLaws.{content-parts}
use Rattle.mail_message.proofs.OtherLaws.{other-after_all}
use Rattle.mail_message.proofs.mail_box.MailBox.apply_all.Goals as goal

pub returns-clause-ok : goal.returns-clause-ok
returns-clause-ok c =
    let old = c.self.inside in
    let carried = c.carry_out_all.ensures in
    rw (c.clear_all.ensures, carried.messages, carried.next, c.into_vec.ensures, c.in_ok-reserve_all.ensures.same, ← c.self.view_is)
    (sym (content-parts (record { serial = old.serial; next = old.next; acl = old.acl; messages = filled old.slots }) c.args.changes))

pub returns-clause-others : goal.returns-clause-others
returns-clause-others c q untouched = ap (λ (box : Content). message_at box.messages q) (returns-clause-ok c)
    ∙ other-after_all c.args.self.now c.args.changes q untouched

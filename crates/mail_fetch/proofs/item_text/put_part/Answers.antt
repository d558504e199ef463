use Rattle.std.proofs.Common.{length}
use Rattle.std.proofs.Math.Logic.{⊎_elim}
use Rattle.mail_fetch.proofs.PartLaws.{uid_is_part, flags_is_part, dated, date_is_part, size_is_part, body_is_part}
use Rattle.mail_fetch.proofs.item_text.put_part.Goals as goal

pub returns-in-Flags-clause-part : goal.returns-in-Flags-clause-part
returns-in-Flags-clause-part c ruled = rw c.in-Flags.is (flags_is_part c.args.message.now.flags ruled)

pub returns-in-Uid-clause-part : goal.returns-in-Uid-clause-part
returns-in-Uid-clause-part c ruled = rw c.in-Uid.is (uid_is_part c.args.message.now.uid)

pub returns-in-InternalDate-clause-part : goal.returns-in-InternalDate-clause-part
returns-in-InternalDate-clause-part c ruled =
    let date = dated c.args.message.now.date c.args.message.now.date (rw c.as_bytes.ensures.text at c.as_bytes.ensures.date) in
    rw c.in-InternalDate.is (date_is_part c.args.message.now.date date)

pub returns-in-Size-clause-part : goal.returns-in-Size-clause-part
returns-in-Size-clause-part c ruled = rw c.in-Size.is (size_is_part (length c.args.message.now.body))

pub returns-in-Body-clause-part : goal.returns-in-Body-clause-part
returns-in-Body-clause-part c ruled =
    let counted = rw c.as_slice.ensures at c.as_slice.type_inv.0 in
    let sound = body_is_part c.in-Body.partial c.args.message.now.body counted in
    ⊎_elim (λ is. rw is sound) (λ is. rw is sound) c.in-Body.is

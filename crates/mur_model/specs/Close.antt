-- CLOSE and UNSELECT (RFC 9051, 6.4.1 and 6.4.2).
use Rattle.std.specs.Prelude.{ℕ, if◌then◌else◌, List, None, Some, codes}
use Rattle.mail_message.specs.Boxes.{Content}
use Rattle.mail_store.specs.Expunge.{expunged}
use Rattle.mur_model.specs.Needed.{Needed, Turned, at_mailbox}
use Rattle.mur_model.specs.declared.work.ViewWork.TheVariants as work
use Rattle.mur_model.specs.declared.session.Sess.TheVariants.{In}
use Rattle.mur_model.specs.declared.session.Turn.{Turn}
use Rattle.mur_model.specs.declared.view.View.{View}
use Rattle.mur_model.specs.Left.{Worked, changed}
use Rattle.imap_types.specs.Reply.{completed}

-- no mailbox is selected any more
abbrev pub left_by : View → List ℕ → Turn
left_by view name = record { session = Some (In view.user); reply = completed name }

-- what is not writable is left at once
abbrev pub close : View → Needed
close view = if view.is_writable then at_mailbox view work.Close else Turned (left_by view (codes "CLOSE"))

-- a CLOSE expunges, and tells nothing of it
abbrev pub close_at : View → Content → Worked
close_at view box = record { left = changed (expunged box None); turn = left_by view (codes "CLOSE") }

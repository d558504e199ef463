-- Messages, rows and changes: each value has one text.
use Rattle.std.proofs.Common.{◌≡◌, ℕ, List, [], ◌∷◌, length, true, refl}
use Rattle.grammar.specs.Part.{between}
use Rattle.grammar.specs.Forms.{Form, ◌and◌, made}
use Rattle.mail_message.specs.declared.message.Message.{Message}
use Rattle.mail_message.specs.declared.message.Row.{Row}
use Rattle.mail_message.specs.declared.change.Change.{Change}
use Rattle.mail_message.specs.declared.change.Change.TheVariants.{Put, SetFlags, Gone, NextUid}
use Rattle.node_record.specs.declared.change.ChangeKind.{ChangeKind}
use Rattle.node_record.specs.declared.change.ChangeKind.TheVariants as of_change
use Rattle.node_record.specs.Parts.{number, text, date, kind_from}
use Rattle.node_record.specs.Flags.{flags}
use Rattle.node_record.specs.Messages.{message, message_of, message_text, row, row_of, row_text, change, change_kinds, change_number, change_of, change_fields, change_parts, kind_of_change}
use Rattle.node_record.specs.Ruled.{IsNumber, IsText, IsDate, IsFlags, IsMessage, IsRow, IsChange}
use Rattle.node_record.proofs.StoredLaw.{Stored, Branch, branch, spell_made, stored_and, stored_made, stored_dispatch}
use Rattle.node_record.proofs.PartsLaw.{stored_number, stored_text, stored_date, stored_kind}
use Rattle.node_record.proofs.FlagsLaw.{stored_flags}

message_parts : Stored (λ x. IsNumber x.0 × (IsFlags x.1.0 × (IsDate x.1.1.0 × IsText x.1.1.1))) (number and (flags and (date and text)))
message_parts =
    stored_and number (flags and (date and text)) stored_number
    (stored_and flags (date and text) stored_flags (stored_and date text stored_date stored_text))

pub stored_message : Stored IsMessage message
unfolding message_text
stored_message =
    stored_made IsMessage message_of message_text (number and (flags and (date and text))) message_parts
    (λ x is. (refl, record { uid = is.0; flags = is.1.0; date = is.1.1.0; body = is.1.1.1 }))
    (λ it is.
    spell_made message_of message_text (number and (flags and (date and text))) message_parts (it.uid, (it.flags, (it.date, it.body)))
    (is.uid, (is.flags, (is.date, is.body))) refl)

pub stored_row : Stored IsRow row
unfolding row_text
stored_row =
    stored_made IsRow row_of row_text (number and flags) (stored_and number flags stored_number stored_flags)
    (λ x is. (refl, record { uid = is.0; flags = is.1 }))
    (λ it is. spell_made row_of row_text (number and flags) (stored_and number flags stored_number stored_flags) (it.uid, it.flags) (is.uid, is.flags) refl)

-- changes

change_branch : (k : ChangeKind) → Branch (λ it. IsChange it × (kind_of_change it ≡ k)) (change_of k)
unfolding change_of change_parts
change_branch of_change.Put =
    branch (λ it. IsChange it × (kind_of_change it ≡ of_change.Put)) Put change_fields message stored_message (λ x is. (refl, (is, refl)))
change_branch of_change.SetFlags =
    branch (λ it. IsChange it × (kind_of_change it ≡ of_change.SetFlags)) (λ x. SetFlags x.0 x.1) change_fields (number and flags) (stored_and number flags stored_number stored_flags) (λ x is. (refl, (is, refl)))
change_branch of_change.Gone =
    branch (λ it. IsChange it × (kind_of_change it ≡ of_change.Gone)) Gone change_fields number stored_number (λ x is. (refl, (is, refl)))
change_branch of_change.NextUid =
    branch (λ it. IsChange it × (kind_of_change it ≡ of_change.NextUid)) NextUid change_fields number stored_number (λ x is. (refl, (is, refl)))

change_all : (it : Change) → IsChange it → (change_of (kind_of_change it)).part.lang ((change_of (kind_of_change it)).text it) it
unfolding change_of change_parts
change_all (Put it) is = spell_made Put change_fields message stored_message it is refl
change_all (SetFlags uid it) is = spell_made (λ x. SetFlags x.0 x.1) change_fields (number and flags) (stored_and number flags stored_number stored_flags) (uid, it) is refl
change_all (Gone uid) is = spell_made Gone change_fields number stored_number uid is refl
change_all (NextUid uid) is = spell_made NextUid change_fields number stored_number uid is refl

change_kind : Stored (λ _. Unit {0}) change_kinds
change_kind = stored_kind change_number of_change.NextUid (of_change.Put ∷ of_change.SetFlags ∷ of_change.Gone ∷ of_change.NextUid ∷ []) refl refl each
  where
    each : (k : ChangeKind) → (between 1 (length (of_change.Put ∷ of_change.SetFlags ∷ of_change.Gone ∷ of_change.NextUid ∷ [])) (change_number k) ≡ true) × (kind_from 1 of_change.NextUid (of_change.Put ∷ of_change.SetFlags ∷ of_change.Gone ∷ of_change.NextUid ∷ []) (change_number k) ≡ k)
    each of_change.Put = (refl, refl)
    each of_change.SetFlags = (refl, refl)
    each of_change.Gone = (refl, refl)
    each of_change.NextUid = (refl, refl)

pub stored_change : Stored IsChange change
stored_change = stored_dispatch IsChange change_kinds kind_of_change change_of change_kind change_branch change_all

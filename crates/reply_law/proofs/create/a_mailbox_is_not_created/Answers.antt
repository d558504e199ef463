use Rattle.std.proofs.Common.{◌≡◌, ℕ, false, List, ap, codes, length, refl, None, Some}
use Rattle.mail_message.specs.Boxes.{Content}
use Rattle.imap_types.specs.Reply.{refused}
use Rattle.imap_types.specs.declared.command.Tag.TheVariants.{Text}
use Rattle.imap_types.specs.declared.reply.NoText.TheVariants.{AlreadyExists, Limit}
use Rattle.mur_model.specs.Create.{create_on, make}
use Rattle.mur_model.specs.Left.{Worked, kept, replied}
use Rattle.mur_model.specs.Store.{box_at, is_full}
use Rattle.mur_model.specs.declared.store.Store.{Store}
use Rattle.imap_talk.specs.Transcript.{answer_text}
use Rattle.reply_law.proofs.Computes.{computes}
use Rattle.reply_law.proofs.create.a_mailbox_is_not_created.Goals as goal

pub returns-clause-inbox : goal.returns-clause-inbox
unfolding computes
returns-clause-inbox c = refl

pub returns-clause-inbox_any_case : goal.returns-clause-inbox_any_case
unfolding computes
returns-clause-inbox_any_case c = refl

pub returns-clause-inbox_separator : goal.returns-clause-inbox_separator
unfolding computes
returns-clause-inbox_separator c = refl

pub returns-clause-empty_level : goal.returns-clause-empty_level
unfolding computes
returns-clause-empty_level c = refl

pub returns-clause-two_separators : goal.returns-clause-two_separators
unfolding computes
returns-clause-two_separators c = refl

pub returns-clause-star : goal.returns-clause-star
unfolding computes
returns-clause-star c = refl

pub returns-clause-empty : goal.returns-clause-empty
unfolding computes
returns-clause-empty c = refl

pub returns-clause-no_name_before_rights : goal.returns-clause-no_name_before_rights
unfolding computes
returns-clause-no_name_before_rights c = refl

pub returns-clause-own : goal.returns-clause-own
unfolding computes
returns-clause-own c = refl

pub returns-clause-of_other : goal.returns-clause-of_other
unfolding computes
returns-clause-of_other c = refl

pub returns-clause-of_nobody : goal.returns-clause-of_nobody
unfolding computes
returns-clause-of_nobody c = refl

pub returns-clause-longer_name : goal.returns-clause-longer_name
unfolding computes
returns-clause-longer_name c = refl

pub returns-clause-rights_before_there : goal.returns-clause-rights_before_there
unfolding computes
returns-clause-rights_before_there c = refl

pub returns-clause-there : goal.returns-clause-there
unfolding computes
returns-clause-there c = refl

pub returns-clause-there_below : goal.returns-clause-there_below
unfolding computes
returns-clause-there_below c = refl

-- what a CREATE leaves where there is no mailbox of the name, by whether the store is full
none_made : (store : Store) (name : List ℕ) → length store.boxes ≡ 4096 → box_at store name ≡ None
    → create_on name 9 (is_full store) (box_at store name) ≡ record { left = kept; turn = replied (refused Limit) }
unfolding create_on make is_full
none_made store name many none = rw (none, many) refl

one_made : (store : Store) (name : List ℕ) → length store.boxes ≡ 4095 → box_at store name ≡ None
    → create_on name 9 (is_full store) (box_at store name) ≡ make name 9 false
unfolding create_on is_full
one_made store name many none = rw (none, many) refl

one_there : (store : Store) (name : List ℕ) (box : Content) → box_at store name ≡ Some box
    → create_on name 9 (is_full store) (box_at store name) ≡ record { left = kept; turn = replied (refused AlreadyExists) }
unfolding create_on
one_there store name box there = rw there refl

abbrev answer_to : Worked → List ℕ
answer_to worked = answer_text (record { tag = Text (codes "a"); reply = (worked.turn).reply })

pub returns-clause-full : goal.returns-clause-full
unfolding computes
returns-clause-full c store many none = ap answer_to (none_made store (codes "top") many none)

pub returns-clause-room_for_one : goal.returns-clause-room_for_one
unfolding computes
returns-clause-room_for_one c store many none = ap answer_to (one_made store (codes "top") many none)

pub returns-clause-there_before_full : goal.returns-clause-there_before_full
unfolding computes
returns-clause-there_before_full c store box many there = ap answer_to (one_there store (codes "top") box there)

-- At the start each message is left, none was sent, and `Agrees` holds.
use Rattle.std.proofs.Common.{◌≡◌, ◌≢◌, ◌⊎◌, inl, inr, ℕ, Bool, true, false, cond, ◌==◌, List, [], ◌∷◌, map, Some, None, refl, sym, ◌∙◌, ap, subst, arith}
use Rattle.std.specs.Option.{is_some}
use Rattle.std.specs.List.{fold}
use Rattle.std.specs.Ordering.{nat_cmp}
use Rattle.std.proofs.lemmas.Bool.Decides.{nat_tests}
use Rattle.mur_base.proofs.MapLaws.{numbers_apart, value_at-with_entry, value_at-with_entry-other}
use Rattle.mail_message.specs.declared.message.Message.{Message}
use Rattle.mail_message.specs.Boxes.{message_at, row_of}
use Rattle.mail_batch.specs.Sweeps.{SweepState, is_left, is_sent, noted, noted_row, nothing_left, all_left}
use Rattle.mail_batch.proofs.Agreement.{Agrees}
use Rattle.mail_batch.proofs.SweepLaws.{either, sent-with_place}
use Rattle.mail_batch.proofs.StepLaws.{agrees-noted}

pub left-noted : (sweep : SweepState) (uid : ℕ) → is_left (noted sweep uid) uid ≡ true
left-noted sweep uid = ap is_some (value_at-with_entry nat_cmp numbers_apart sweep.left uid tt)

pub stays-left : (sweep : SweepState) (uid q : ℕ) → is_left sweep q ≡ true → (q ≡ uid) ⊎ (q ≢ uid) → is_left (noted sweep uid) q ≡ true
stays-left sweep uid q h (inl same) = subst (λ k. is_left (noted sweep uid) k ≡ true) (sym same) (left-noted sweep uid)
stays-left sweep uid q h (inr ne) = ap is_some (value_at-with_entry-other nat_cmp numbers_apart sweep.left uid q tt ne) ∙ h

abbrev all_noted : SweepState → List Message → SweepState
all_noted sweep messages = fold noted_row sweep (map row_of messages)

stays_left : (messages : List Message) (sweep : SweepState) (q : ℕ) → is_left sweep q ≡ true → is_left (all_noted sweep messages) q ≡ true
stays_left [] sweep q h = h
stays_left (message ∷ messages) sweep q h =
    stays_left messages (noted sweep message.uid) q (stays-left sweep message.uid q h (either q message.uid))

none_by : (message : Message) (messages : List Message) (sweep : SweepState) (q : ℕ) → is_left (all_noted (noted sweep message.uid) messages) q ≡ false
    → message_at messages q ≡ None → (b : Bool) → (message.uid == q) ≡ b → cond b (Some message) (message_at messages q) ≡ None
none_by message messages sweep q h ih true same =
    let uid : message.uid ≡ q = grind (arith, nat_tests, same) in
    let left : is_left (all_noted (noted sweep message.uid) messages) q ≡ true =
    stays_left messages (noted sweep message.uid) q (subst (λ k. is_left (noted sweep message.uid) k ≡ true) uid (left-noted sweep message.uid)) in cc
none_by message messages sweep q h ih false same = ih

none_found : (messages : List Message) (sweep : SweepState) (q : ℕ) → is_left (all_noted sweep messages) q ≡ false → message_at messages q ≡ None
none_found [] sweep q h = refl
none_found (message ∷ messages) sweep q h =
    none_by message messages sweep q h (none_found messages (noted sweep message.uid) q h) (message.uid == q) refl

none_sent : (messages : List Message) (sweep : SweepState) (q : ℕ) → is_sent (all_noted sweep messages) q ≡ is_sent sweep q
none_sent [] sweep q = refl
none_sent (message ∷ messages) sweep q = none_sent messages (noted sweep message.uid) q ∙ sent-with_place sweep.known message.uid q

agrees_empty : (messages : List Message) (sweep : SweepState) → Agrees sweep [] [] → Agrees (all_noted sweep messages) [] []
agrees_empty [] sweep agrees = agrees
agrees_empty (message ∷ messages) sweep agrees = agrees_empty messages (noted sweep message.uid) (agrees-noted sweep [] [] message.uid agrees)

pub agrees-all_left : (messages : List Message) → Agrees (all_left messages) messages []
agrees-all_left messages = record {
  kept = λ q h. sym (none_found messages nothing_left q h);
  sent = λ q h. let never : is_sent (all_left messages) q ≡ false = none_sent messages nothing_left q in cc;
  placed = (agrees_empty messages nothing_left (record { kept = λ q h. refl; sent = λ q h. tt; placed = λ q h. cc })).placed;
}

-- nothing was sent yet
pub none-sent : (messages : List Message) (q : ℕ) → is_sent (all_left messages) q ≡ false
none-sent messages q = none_sent messages nothing_left q

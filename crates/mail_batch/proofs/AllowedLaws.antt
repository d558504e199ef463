-- Changes at noted UIDs, with new messages at new UIDs alone, are allowed.
use Rattle.std.proofs.Common.{◌≡◌, ◌⊎◌, inl, inr, ℕ, Bool, true, false, ◌==◌, ◌||◌, List, [], ◌∷◌, map, Option, Some, None, refl, sym, ◌∙◌, ap, subst, arith}
use Rattle.std.specs.Option.{is_some}
use Rattle.std.specs.List.{fold, list_any}
use Rattle.std.proofs.lemmas.Bool.Decides.{nat_tests}
use Rattle.mail_message.specs.declared.message.Message.{Message}
use Rattle.mail_message.specs.declared.change.Change.{Change}
use Rattle.mail_message.specs.declared.change.Change.TheVariants.{Put, SetFlags, Gone, NextUid}
use Rattle.mail_message.specs.FlagSets.{Flags}
use Rattle.mail_message.specs.Boxes.{Content, message_at, without_uid, with_flags, relabelled, messages_after, content_after_all, is_touched, IsRising}
use Rattle.mail_message.proofs.OtherLaws.{first_not, later_not, other-after, other-after_all}
use Rattle.mail_batch.specs.Transfers.{Transfer, TransferStep, transfer_of, after_steps, lists_uid, IsAllowed, AreAllowed, IsAllowedChange}
use Rattle.mail_batch.specs.Transfers.{puts_at, MayCarryOut, carries_out}
use Rattle.mail_batch.proofs.StepLaws.{flagged, gone_there, flags_there}
use Rattle.mail_batch.proofs.EndLaws.{messages-after_all, rising-content}
use Rattle.mail_batch.proofs.TransferLaw.{IsUnderWay, under-way}

-- ---- a message that the mailbox had keeps all but its flags, or goes

allowed-itself : (found : Option Message) → IsAllowedChange true found found
allowed-itself None = tt
allowed-itself (Some message) = refl

allowed_trans : (a b c : Option Message) → IsAllowedChange true a b → IsAllowedChange true b c → IsAllowedChange true a c
allowed_trans a b None x y = tt
allowed_trans a None (Some last) x y = cc
allowed_trans None (Some next) (Some last) x y = cc
allowed_trans (Some first) (Some next) (Some last) x y = ap (λ m. relabelled m last.flags) x ∙ y

allowed_flagged : (flags : Flags) (found : Option Message) → IsAllowedChange true found (flagged flags found)
allowed_flagged flags None = tt
allowed_flagged flags (Some message) = refl

same_of : (k q : ℕ) → (k == q) ≡ true → k ≡ q
same_of k q h = grind (arith, nat_tests, h)

untouched_allowed : (messages : List Message) (change : Change) (q : ℕ) → is_touched q change ≡ false
    → IsAllowedChange true (message_at messages q) (message_at (messages_after messages change) q)
untouched_allowed messages change q not_so =
    subst (IsAllowedChange true (message_at messages q)) (sym (other-after messages change q not_so)) (allowed-itself (message_at messages q))

flags_allowed : (b : Bool) (messages : List Message) (uid : ℕ) (flags : Flags) (q : ℕ) → (uid == q) ≡ b
    → IsAllowedChange true (message_at messages q) (message_at (map (with_flags uid flags) messages) q)
flags_allowed true messages uid flags q h =
    subst (λ k. IsAllowedChange true (message_at messages k) (message_at (map (with_flags uid flags) messages) k)) (same_of uid q h)
    (subst (IsAllowedChange true (message_at messages uid)) (sym (flags_there messages uid flags)) (allowed_flagged flags (message_at messages uid)))
flags_allowed false messages uid flags q h = untouched_allowed messages (SetFlags uid flags) q h

gone_allowed : (b : Bool) (messages : List Message) (uid q : ℕ) → (uid == q) ≡ b
    → IsAllowedChange true (message_at messages q) (message_at (without_uid messages uid) q)
gone_allowed true messages uid q h =
    subst (λ k. IsAllowedChange true (message_at messages k) (message_at (without_uid messages uid) k)) (same_of uid q h)
    (subst (IsAllowedChange true (message_at messages uid)) (sym (gone_there messages uid)) tt)
gone_allowed false messages uid q h = untouched_allowed messages (Gone uid) q h

change_allowed : (messages : List Message) (change : Change) (q : ℕ) → puts_at q change ≡ false
    → IsAllowedChange true (message_at messages q) (message_at (messages_after messages change) q)
change_allowed messages (Put message) q not_so = untouched_allowed messages (Put message) q not_so
change_allowed messages (SetFlags uid flags) q not_so = flags_allowed (uid == q) messages uid flags q refl
change_allowed messages (Gone uid) q not_so = gone_allowed (uid == q) messages uid q refl
change_allowed messages (NextUid next) q not_so = allowed-itself (message_at messages q)

changes_allowed : (changes : List Change) (messages : List Message) (q : ℕ) → list_any (puts_at q) changes ≡ false
    → IsAllowedChange true (message_at messages q) (message_at (fold messages_after messages changes) q)
changes_allowed [] messages q not_so = allowed-itself (message_at messages q)
changes_allowed (change ∷ changes) messages q not_so =
    allowed_trans (message_at messages q) (message_at (messages_after messages change) q) (message_at (fold messages_after messages (change ∷ changes)) q)
    (change_allowed messages change q (first_not (puts_at q change) (list_any (puts_at q) changes) not_so))
    (changes_allowed changes (messages_after messages change) q (later_not (puts_at q change) (list_any (puts_at q) changes) not_so))

-- ---- a message comes where the mailbox had none

new_allowed : (had : Bool) (old new : Option Message) → had ≡ false → (is_some old ≡ true → had ≡ true) → IsAllowedChange had old new
new_allowed had old None h found = tt
new_allowed had None (Some message) h found = h
new_allowed had (Some other) (Some message) h found = let yes : had ≡ true = found refl in cc

put_never : (b had : Bool) → had ≡ true → (b ≡ true → had ≡ false) → b ≡ false
put_never true had h new = let not_so : had ≡ false = new refl in cc
put_never false had h new = refl

allowed_at : (had : Bool) (changes : List Change) (messages : List Message) (q : ℕ) (b : Bool) → had ≡ b → (is_some (message_at messages q) ≡ true → had ≡ true)
    → (list_any (puts_at q) changes ≡ true → had ≡ false)
    → IsAllowedChange had (message_at messages q) (message_at (fold messages_after messages changes) q)
allowed_at had changes messages q true h found new =
    subst (λ x. IsAllowedChange x (message_at messages q) (message_at (fold messages_after messages changes) q)) (sym h)
    (changes_allowed changes messages q (put_never (list_any (puts_at q) changes) had h new))
allowed_at had changes messages q false h found new = new_allowed had (message_at messages q) (message_at (fold messages_after messages changes) q) h found

-- ---- all changes

module _ (transfer : Transfer) (changes : List Change) (way : IsUnderWay transfer) (may : MayCarryOut transfer changes) where
  abbrev after : List Message
  after = (content_after_all transfer.giver changes).messages

  changed_at : (q : ℕ) (b : Bool) → list_any (is_touched q) changes ≡ b
      → (message_at after q ≡ message_at transfer.giver.messages q)
      ⊎ ((lists_uid transfer.fresh q ≡ true) × IsAllowedChange (lists_uid transfer.had q) (message_at transfer.giver.messages q) (message_at after q))
  changed_at q false h = inl (other-after_all transfer.giver changes q h)
  changed_at q true h =
      inr (
        may.noted_first q h,
        subst (λ ms. IsAllowedChange (lists_uid transfer.had q) (message_at transfer.giver.messages q) (message_at ms q))
            (sym (messages-after_all transfer.giver changes))
            (allowed_at (lists_uid transfer.had q) changes transfer.giver.messages q (lists_uid transfer.had q) refl (way.had_found q) (may.new_only q)),
      )

  pub allowed-changes : IsAllowed transfer (carries_out transfer changes)
  allowed-changes = (rising-content transfer.giver changes way.rising, λ q. changed_at q (list_any (is_touched q) changes) refl)

pub allowed-carries_out : (giver : Content) (steps : List TransferStep) (changes : List Change) → IsRising giver.messages → AreAllowed (transfer_of giver) steps
    → MayCarryOut (after_steps (transfer_of giver) steps) changes
    → IsAllowed (after_steps (transfer_of giver) steps) (carries_out (after_steps (transfer_of giver) steps) changes)
allowed-carries_out giver steps changes rising allowed may =
    allowed-changes (after_steps (transfer_of giver) steps) changes (under-way giver steps rising allowed) may

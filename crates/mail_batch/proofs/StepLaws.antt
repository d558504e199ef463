-- A note, a change at the giver and a change that is sent each keep `Agrees`.
use Rattle.std.proofs.Common.{◌≡◌, ◌≢◌, ◌⊎◌, inl, inr, ℕ, nat_eq, Bool, true, false, cond, ◌==◌, not, List, [], ◌∷◌, map, Option, Some, None, refl, sym, ◌∙◌}
use Rattle.std.proofs.Common.{ap, subst, arith}
use Rattle.std.specs.Option.{is_some}
use Rattle.std.specs.Ordering.{is_eq, nat_cmp, match_ordering}
use Rattle.std.specs.declared.cmp.Ordering.{Ordering}
use Rattle.std.specs.declared.cmp.Ordering.TheVariants.{Less, Equal, Greater}
use Rattle.std.proofs.lemmas.Bool.Decides.{nat_tests}
use Rattle.mur_base.specs.Map.{value_at, with_value}
use Rattle.mur_base.proofs.MapLaws.{numbers_apart, value_at-with_entry, value_at-with_entry-other, value_at-with_value, value_at-with_value-other}
use Rattle.mail_message.specs.declared.message.Message.{Message}
use Rattle.mail_message.specs.FlagSets.{Flags}
use Rattle.mail_message.specs.Boxes.{message_at, with_message, without_uid, with_flags, relabelled, messages_after, is_touched}
use Rattle.mail_message.proofs.FoundUids.{IsOf, found_is}
use Rattle.mail_message.proofs.OtherLaws.{other-after}
use Rattle.mail_batch.specs.Sweeps.{SweepState, is_left, is_sent, or_false, noted, settled, after_sending, change_by}
use Rattle.mail_batch.proofs.Agreement.{Agrees, IsLabelled, MayBecome, MayChange}
use Rattle.mail_batch.proofs.SweepLaws.{either, value_at-without_key, sent-with_place, place-made, place-others}

-- ---- the message with a change's UID, after the change

itself : (uid : ℕ) → (uid == uid) ≡ true
itself uid = grind (arith, nat_tests)

greater_apart : (k j : ℕ) → nat_cmp k j ≡ Greater → (b : Bool) → (j == k) ≡ b → b ≡ false
greater_apart k j h true hb =
    let same : j ≡ k = grind (arith, nat_tests, hb) in
    let equal : is_eq (nat_cmp k j) ≡ true = subst (λ x. is_eq (nat_cmp k x) ≡ true) (sym same) (numbers_apart.itself k) in
    let not_equal : is_eq (nat_cmp k j) ≡ false = ap is_eq h in cc
greater_apart k j h false hb = refl

put_by : (message other : Message) (messages others : List Message) → message_at others message.uid ≡ Some message
    → (o : Ordering) → nat_cmp message.uid other.uid ≡ o
    → message_at (match_ordering o (message ∷ other ∷ messages) (message ∷ messages) (other ∷ others)) message.uid ≡ Some message
put_by message other messages others ih Less h = rw (itself message.uid) refl
put_by message other messages others ih Equal h = rw (itself message.uid) refl
put_by message other messages others ih Greater h =
    let apart : (other.uid == message.uid) ≡ false = greater_apart message.uid other.uid h (other.uid == message.uid) refl in rw apart ih

put_there : (messages : List Message) (message : Message) → message_at (with_message messages message) message.uid ≡ Some message
put_there [] message = rw (itself message.uid) refl
put_there (other ∷ messages) message =
    put_by message other messages (with_message messages message) (put_there messages message) (nat_cmp message.uid other.uid) refl

gone_by : (k : ℕ) (other : Message) (others : List Message) → message_at others k ≡ None → (b : Bool) → (other.uid == k) ≡ b
    → message_at (cond (not b) (other ∷ others) others) k ≡ None
gone_by k other others ih true h = ih
gone_by k other others ih false h = rw h ih

pub gone_there : (messages : List Message) (k : ℕ) → message_at (without_uid messages k) k ≡ None
gone_there [] k = refl
gone_there (other ∷ messages) k = gone_by k other (without_uid messages k) (gone_there messages k) (other.uid == k) refl

-- the message with other flags, if it is there
abbrev pub flagged : Flags → Option Message → Option Message
flagged flags None = None
flagged flags (Some message) = Some (relabelled message flags)

flags_by : (k : ℕ) (flags : Flags) (other : Message) (messages others : List Message) → message_at others k ≡ flagged flags (message_at messages k)
    → (b : Bool) → (other.uid == k) ≡ b
    → message_at (cond b (relabelled other flags) other ∷ others) k ≡ flagged flags (cond b (Some other) (message_at messages k))
flags_by k flags other messages others ih true h = rw h refl
flags_by k flags other messages others ih false h = rw h ih

pub flags_there : (messages : List Message) (k : ℕ) (flags : Flags)
    → message_at (map (with_flags k flags) messages) k ≡ flagged flags (message_at messages k)
flags_there [] k flags = refl
flags_there (other ∷ messages) k flags =
    flags_by k flags other messages (map (with_flags k flags) messages) (flags_there messages k flags) (other.uid == k) refl

labelled_by : (flags : Flags) (message : Message) (taken : Option Message) → message.flags ≡ flags → IsLabelled (Some message) taken
    → flagged flags taken ≡ Some message
labelled_by flags message None is labelled = absurd labelled
labelled_by flags message (Some old) is labelled = ap Some (ap (λ f. relabelled old f) (sym is) ∙ labelled)

-- the change that is sent for a UID makes of the taker's message with it the giver's
change_there : (uid : ℕ) (sent : Bool) (found : Option Message) (taken : List Message) → IsOf uid found
    → (sent ≡ true → IsLabelled found (message_at taken uid)) → message_at (messages_after taken (change_by uid sent found)) uid ≡ found
change_there uid sent None taken is labelled = gone_there taken uid
change_there uid false (Some message) taken is labelled =
    subst (λ k. message_at (with_message taken message) k ≡ Some message) is (put_there taken message)
change_there uid true (Some message) taken is labelled =
    flags_there taken uid message.flags ∙ labelled_by message.flags message (message_at taken uid) refl (labelled refl)

apart_of : (uid q : ℕ) → q ≢ uid → (uid == q) ≡ false
apart_of uid q ne = grind (arith, nat_tests, ne)

-- and names no other
untouched : (uid q : ℕ) (sent : Bool) (found : Option Message) → IsOf uid found → q ≢ uid → is_touched q (change_by uid sent found) ≡ false
untouched uid q sent None is ne = apart_of uid q ne
untouched uid q false (Some message) is ne = subst (λ k. (k == q) ≡ false) (sym is) (apart_of uid q ne)
untouched uid q true (Some message) is ne = apart_of uid q ne

pub after_sending-is : (sweep : SweepState) (uid : ℕ) (sent : Bool) (found : Option Message) → IsOf uid found
    → after_sending sweep (change_by uid sent found) ≡ settled sweep uid (is_some found)
after_sending-is sweep uid sent None is = refl
after_sending-is sweep uid false (Some message) is = ap (λ k. settled sweep k true) is
after_sending-is sweep uid true (Some message) is = refl

pub labelled-itself : (found : Option Message) → IsLabelled found found
labelled-itself None = tt
labelled-itself (Some message) = refl

-- ---- a change that is sent

-- the taker has, of the messages that it was sent, all but the flags
abbrev pub AreLabelled : (ℕ → Bool) → List Message → List Message → Type 0
AreLabelled sent messages taken = (uid : ℕ) → sent uid ≡ true → IsLabelled (message_at messages uid) (message_at taken uid)

module _ (sweep : SweepState) (messages taken after : List Message) (uid : ℕ) (sent : Bool)
    (there : message_at after uid ≡ message_at messages uid) (others : (q : ℕ) → q ≢ uid → message_at after q ≡ message_at taken q) where
  kept_by : Agrees sweep messages taken → (q : ℕ) → (q ≡ uid) ⊎ (q ≢ uid) → is_left (settled sweep uid sent) q ≡ false
      → message_at after q ≡ message_at messages q
  kept_by agrees q (inl same) h = rw same there
  kept_by agrees q (inr ne) h =
      others q ne ∙ agrees.kept q (ap is_some (sym (value_at-without_key sweep.left uid q ne)) ∙ h)

  labelled_at : (q : ℕ) → (q ≡ uid) ⊎ (q ≢ uid) → IsLabelled (message_at messages q) (message_at taken q) ⊎ (q ≡ uid)
      → IsLabelled (message_at messages q) (message_at after q)
  labelled_at q (inl same) was =
      subst (λ k. IsLabelled (message_at messages k) (message_at after k)) (sym same)
      (subst (IsLabelled (message_at messages uid)) (sym there) (labelled-itself (message_at messages uid)))
  labelled_at q (inr ne) (inl was) = subst (IsLabelled (message_at messages q)) (sym (others q ne)) was
  labelled_at q (inr ne) (inr same) = absurd (ne same)

  sent_by : Agrees sweep messages taken → (q : ℕ) → (q ≡ uid) ⊎ (q ≢ uid) → is_sent (settled sweep uid sent) q ≡ true
      → IsLabelled (message_at messages q) (message_at after q)
  sent_by agrees q (inl same) h = labelled_at q (inl same) (inr same)
  sent_by agrees q (inr ne) h =
      labelled_at q (inr ne) (inl (agrees.sent q (ap or_false (sym (value_at-with_value-other nat_cmp numbers_apart sweep.known uid q sent ne)) ∙ h)))

known_by : (found : Option Bool) → is_some found ≡ true → (old : Bool) × (found ≡ Some old)
known_by None h = cc
known_by (Some old) h = (old, refl)

placed_there : (sweep : SweepState) (uid : ℕ) (sent : Bool) → is_some (value_at nat_cmp sweep.known uid) ≡ true
    → is_some (value_at nat_cmp (with_value nat_cmp sweep.known uid sent) uid) ≡ true
placed_there sweep uid sent h =
    let old = known_by (value_at nat_cmp sweep.known uid) h in
    ap is_some (value_at-with_value nat_cmp numbers_apart sweep.known uid sent old.0 old.1)

-- a place stays
pub stays-placed : (sweep : SweepState) (uid q : ℕ) (sent : Bool) → is_some (value_at nat_cmp sweep.known q) ≡ true
    → (q ≡ uid) ⊎ (q ≢ uid) → is_some (value_at nat_cmp (with_value nat_cmp sweep.known uid sent) q) ≡ true
stays-placed sweep uid q sent h (inl same) =
    subst (λ k. is_some (value_at nat_cmp (with_value nat_cmp sweep.known uid sent) k) ≡ true) (sym same)
    (placed_there sweep uid sent (subst (λ k. is_some (value_at nat_cmp sweep.known k) ≡ true) same h))
stays-placed sweep uid q sent h (inr ne) = ap is_some (value_at-with_value-other nat_cmp numbers_apart sweep.known uid q sent ne) ∙ h

placed_by : (sweep : SweepState) (messages taken : List Message) (uid q : ℕ) (sent : Bool) → Agrees sweep messages taken
    → is_some (value_at nat_cmp sweep.known uid) ≡ true → (q ≡ uid) ⊎ (q ≢ uid)
    → is_left (settled sweep uid sent) q ≡ true → is_some (value_at nat_cmp (settled sweep uid sent).known q) ≡ true
placed_by sweep messages taken uid q sent agrees place (inl same) h =
    stays-placed sweep uid q sent (subst (λ k. is_some (value_at nat_cmp sweep.known k) ≡ true) (sym same) place) (inl same)
placed_by sweep messages taken uid q sent agrees place (inr ne) h =
    stays-placed sweep uid q sent (agrees.placed q (ap is_some (sym (value_at-without_key sweep.left uid q ne)) ∙ h)) (inr ne)

module _ (sweep : SweepState) (messages taken : List Message) (uid : ℕ) (sent : Bool)
    (labelled : sent ≡ true → IsLabelled (message_at messages uid) (message_at taken uid)) where
  abbrev sent_now : List Message
  sent_now = messages_after taken (change_by uid sent (message_at messages uid))

  pub there-after : message_at sent_now uid ≡ message_at messages uid
  there-after = change_there uid sent (message_at messages uid) taken (found_is messages uid) labelled

  pub others-after : (q : ℕ) → q ≢ uid → message_at sent_now q ≡ message_at taken q
  others-after q ne =
      other-after taken (change_by uid sent (message_at messages uid)) q (untouched uid q sent (message_at messages uid) (found_is messages uid) ne)

  pub agrees-after_sending : Agrees sweep messages taken → is_some (value_at nat_cmp sweep.known uid) ≡ true
      → Agrees (after_sending sweep (change_by uid sent (message_at messages uid))) messages sent_now
  agrees-after_sending agrees place =
      subst (λ s. Agrees s messages sent_now) (sym (after_sending-is sweep uid sent (message_at messages uid) (found_is messages uid)))
      (record {
        kept = λ q h. kept_by sweep messages taken sent_now uid (is_some (message_at messages uid)) there-after others-after agrees q (either q uid) h;
        sent = λ q h. sent_by sweep messages taken sent_now uid (is_some (message_at messages uid)) there-after others-after agrees q (either q uid) h;
        placed = λ q h. placed_by sweep messages taken uid q (is_some (message_at messages uid)) agrees place (either q uid) h;
      })

  -- no place is lost
  pub placed-after_sending : (q : ℕ) → is_some (value_at nat_cmp sweep.known q) ≡ true
      → is_some (value_at nat_cmp (after_sending sweep (change_by uid sent (message_at messages uid))).known q) ≡ true
  placed-after_sending q h =
      subst (λ s. is_some (value_at nat_cmp s.known q) ≡ true) (sym (after_sending-is sweep uid sent (message_at messages uid) (found_is messages uid)))
      (stays-placed sweep uid q (is_some (message_at messages uid)) h (either q uid))

  pub labelled-after : (others : ℕ → Bool) → AreLabelled others messages taken → AreLabelled others messages sent_now
  labelled-after others were q h =
      labelled_at sweep messages taken sent_now uid sent there-after others-after q (either q uid) (inl (were q h))

-- ---- a note

module _ (sweep : SweepState) (messages taken : List Message) (uid : ℕ) (agrees : Agrees sweep messages taken) where
  kept_noted : (q : ℕ) → (q ≡ uid) ⊎ (q ≢ uid) → is_left (noted sweep uid) q ≡ false → message_at taken q ≡ message_at messages q
  kept_noted q (inl same) h =
      let left : is_left (noted sweep uid) q ≡ true = rw same (ap is_some (value_at-with_entry nat_cmp numbers_apart sweep.left uid tt)) in cc
  kept_noted q (inr ne) h = agrees.kept q (ap is_some (sym (value_at-with_entry-other nat_cmp numbers_apart sweep.left uid q tt ne)) ∙ h)

  placed_noted : (q : ℕ) → (q ≡ uid) ⊎ (q ≢ uid) → is_left (noted sweep uid) q ≡ true
      → is_some (value_at nat_cmp (noted sweep uid).known q) ≡ true
  placed_noted q (inl same) h = rw same (place-made sweep.known uid)
  placed_noted q (inr ne) h =
      ap is_some (place-others sweep.known uid q ne)
      ∙ agrees.placed q (ap is_some (sym (value_at-with_entry-other nat_cmp numbers_apart sweep.left uid q tt ne)) ∙ h)

  pub agrees-noted : Agrees (noted sweep uid) messages taken
  agrees-noted = record {
    kept = λ q h. kept_noted q (either q uid) h;
    sent = λ q h. agrees.sent q (sym (sent-with_place sweep.known uid q) ∙ h);
    placed = λ q h. placed_noted q (either q uid) h;
  }

-- ---- a change at the giver

labelled_become : (old new taken : Option Message) → MayBecome true old new → IsLabelled old taken → IsLabelled new taken
labelled_become old None taken may was = tt
labelled_become None (Some message) taken may was = absurd may
labelled_become (Some old) (Some message) None may was = absurd was
labelled_become (Some old) (Some message) (Some taken) may was = ap (λ m. relabelled m message.flags) was ∙ may

module _ (sweep : SweepState) (old new taken : List Message) (agrees : Agrees sweep old taken) where
  kept_changed : (q : ℕ)
      → (message_at new q ≡ message_at old q) ⊎ ((is_left sweep q ≡ true) × MayBecome (is_sent sweep q) (message_at old q) (message_at new q))
      → is_left sweep q ≡ false → message_at taken q ≡ message_at new q
  kept_changed q (inl same) h = agrees.kept q h ∙ sym same
  kept_changed q (inr noted) h = let left = noted.0 in cc

  sent_changed : (q : ℕ)
      → (message_at new q ≡ message_at old q) ⊎ ((is_left sweep q ≡ true) × MayBecome (is_sent sweep q) (message_at old q) (message_at new q))
      → is_sent sweep q ≡ true → IsLabelled (message_at new q) (message_at taken q)
  sent_changed q (inl same) h = subst (λ found. IsLabelled found (message_at taken q)) (sym same) (agrees.sent q h)
  sent_changed q (inr noted) h =
      labelled_become (message_at old q) (message_at new q) (message_at taken q)
      (subst (λ b. MayBecome b (message_at old q) (message_at new q)) h noted.1) (agrees.sent q h)

  pub agrees-changed : MayChange sweep old new → Agrees sweep new taken
  agrees-changed may = record {
    kept = λ q h. kept_changed q (may q) h;
    sent = λ q h. sent_changed q (may q) h;
    placed = agrees.placed;
  }

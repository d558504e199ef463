-- Each step of a transfer keeps that the taker's mailbox, after the batches on the way and the changes left, is the giver's.
use Rattle.std.proofs.Common.{◌≡◌, ◌≢◌, ◌⊎◌, inl, inr, ℕ, Bool, true, false, cond, ◌==◌, ◌||◌, List, [], ◌∷◌, ◌++◌, map, take, drop, Option, Some, None}
use Rattle.std.proofs.Common.{refl, sym, ◌∙◌, ap, subst, arith}
use Rattle.std.specs.Option.{is_some}
use Rattle.std.specs.List.{fold}
use Rattle.std.specs.List.Sorted.{IsStrictlySortedBy}
use Rattle.std.specs.Map.{keys_of}
use Rattle.std.specs.Ordering.{nat_cmp}
use Rattle.mur_base.specs.declared.limits.TheConstants.{BATCH_WEIGHT_LIMIT}
use Rattle.std.proofs.lemmas.Bool.Decides.{nat_tests}
use Rattle.std.proofs.lemmas.Cmp.{nat_cmp_total}
use Rattle.std.proofs.lemmas.List.{take-append-drop}
use Rattle.std.proofs.lemmas.List.Sums.{fold-append}
use Rattle.mur_base.specs.Map.{value_at, IsInOrder}
use Rattle.mur_base.proofs.MapOrder.{with_entry-in_order}
use Rattle.mur_base.proofs.MapLaws.{numbers_apart, value_at-with_value, value_at-with_value-other}
use Rattle.mail_message.specs.declared.message.Message.{Message}
use Rattle.mail_message.specs.declared.change.Change.{Change}
use Rattle.mail_message.specs.Boxes.{Content, message_at, uids_of, row_of, content_after_all, IsRising}
use Rattle.mail_batch.specs.Sweeps.{SweepState, noted_row, nothing_left, all_left, is_left, is_sent, or_false, noted, settled, after_sending}
use Rattle.mail_batch.specs.Sweeps.{after_sending_all, change_by, change_at, batch_of}
use Rattle.mail_batch.proofs.Agreement.{Agrees, MayBecome}
use Rattle.mail_batch.specs.Transfers.{Transfer, TransferStep, transfer_of, after_step, after_steps, IsAllowed, AreAllowed, IsAllowedChange}
use Rattle.mail_batch.specs.Transfers.{ChangesOnlyNoted, lists_uid}
use Rattle.mail_batch.specs.Transfers.{content_to_come, TakerWillHaveAll, TakerHasAll}
use Rattle.mail_batch.specs.Transfers.TransferStep.{notes, becomes, sends, comes}
use Rattle.mail_batch.proofs.SweepLaws.{either, sent-with_place, with_value-absent}
use Rattle.mail_message.proofs.FoundUids.{found_is}
use Rattle.mail_batch.proofs.StepLaws.{after_sending-is, agrees-noted, agrees-changed}
use Rattle.mail_batch.proofs.StartLaws.{agrees-all_left, left-noted, stays-left, none-sent}
use Rattle.mail_batch.proofs.LimitLaws.{batch-part}
use Rattle.mail_batch.proofs.BatchFront.{in-order-batch}
use Rattle.mail_batch.proofs.EndLaws.{agrees-content, rising-content, serial-after_all, acl-after_all, left-makes-content, nothing-left-is-content}

-- ---- the mailbox had each message that was sent

or_later : (a b : Bool) → b ≡ true → (a || b) ≡ true
or_later true b h = refl
or_later false b h = h

had_more : (had more : List ℕ) (q : ℕ) → lists_uid more q ≡ true → lists_uid (had ++ more) q ≡ true
had_more [] more q h = h
had_more (uid ∷ had) more q h = or_later (uid == q) (lists_uid (had ++ more) q) (had_more had more q h)

had_still_by : (a b c : Bool) → (b ≡ true → c ≡ true) → (a || b) ≡ true → (a || c) ≡ true
had_still_by true b c more h = refl
had_still_by false b c more h = more h

had_still : (had more : List ℕ) (q : ℕ) → lists_uid had q ≡ true → lists_uid (had ++ more) q ≡ true
had_still [] more q h = cc
had_still (uid ∷ had) more q h = had_still_by (uid == q) (lists_uid had q) (lists_uid (had ++ more) q) (had_still had more q) h

found_had_by : (message : Message) (messages : List Message) (q : ℕ) (b : Bool) → (message.uid == q) ≡ b
    → (is_some (message_at messages q) ≡ true → lists_uid (uids_of messages) q ≡ true)
    → is_some (cond b (Some message) (message_at messages q)) ≡ true → (b || lists_uid (uids_of messages) q) ≡ true
found_had_by message messages q true same ih h = refl
found_had_by message messages q false same ih h = ih h

found_had : (messages : List Message) (q : ℕ) → is_some (message_at messages q) ≡ true → lists_uid (uids_of messages) q ≡ true
found_had [] q h = cc
found_had (message ∷ messages) q h = found_had_by message messages q (message.uid == q) refl (found_had messages q) h

-- ---- each message that is sent is one of the giver's

settled_by : (sweep : SweepState) (uid q : ℕ) (sent : Bool) (found : Option Bool) → value_at nat_cmp sweep.known uid ≡ found → (q ≡ uid) ⊎ (q ≢ uid)
    → is_sent (settled sweep uid sent) q ≡ true → (is_sent sweep q ≡ true) ⊎ ((q ≡ uid) × (sent ≡ true))
settled_by sweep uid q sent None is which h =
    inl (ap (λ k. or_false (value_at nat_cmp k q)) (sym (with_value-absent sweep.known uid sent is)) ∙ h)
settled_by sweep uid q sent (Some old) is (inl same) h =
    inr (
      same,
      sym (ap or_false (value_at-with_value nat_cmp numbers_apart sweep.known uid sent old is))
          ∙ subst (λ k. is_sent (settled sweep uid sent) k ≡ true) same h,
    )
settled_by sweep uid q sent (Some old) is (inr ne) h =
    inl (ap or_false (sym (value_at-with_value-other nat_cmp numbers_apart sweep.known uid q sent ne)) ∙ h)

had_by : (sweep : SweepState) (messages : List Message) (had : List ℕ) (uid q : ℕ) → (is_sent sweep q ≡ true → lists_uid had q ≡ true)
    → ((k : ℕ) → is_some (message_at messages k) ≡ true → lists_uid had k ≡ true)
    → (is_sent sweep q ≡ true) ⊎ ((q ≡ uid) × (is_some (message_at messages uid) ≡ true)) → lists_uid had q ≡ true
had_by sweep messages had uid q was found (inl sent) = was sent
had_by sweep messages had uid q was found (inr now) = subst (λ k. lists_uid had k ≡ true) (sym now.0) (found uid now.1)

abbrev HadSent : SweepState → List ℕ → Type 0
HadSent sweep had = (q : ℕ) → is_sent sweep q ≡ true → lists_uid had q ≡ true

abbrev HadFound : List Message → List ℕ → Type 0
HadFound messages had = (q : ℕ) → is_some (message_at messages q) ≡ true → lists_uid had q ≡ true

had_after_sending : (sweep : SweepState) (messages : List Message) (had : List ℕ) (uid : ℕ) (sent : Bool) → HadSent sweep had → HadFound messages had
    → HadSent (after_sending sweep (change_by uid sent (message_at messages uid))) had
had_after_sending sweep messages had uid sent was found =
    subst (λ s. HadSent s had) (sym (after_sending-is sweep uid sent (message_at messages uid) (found_is messages uid)))
    (λ q h. had_by sweep messages had uid q (was q) found
    (settled_by sweep uid q (is_some (message_at messages uid)) (value_at nat_cmp sweep.known uid) refl (either q uid) h))

had_after_sending_all : (messages : List Message) (sent : ℕ → Bool) (had : List ℕ) (uids : List ℕ) (sweep : SweepState)
    → HadSent sweep had → HadFound messages had
    → HadSent (after_sending_all sweep (map (λ uid. change_by uid (sent uid) (message_at messages uid)) uids)) had
had_after_sending_all messages sent had [] sweep was found = was
had_after_sending_all messages sent had (uid ∷ uids) sweep was found =
    had_after_sending_all messages sent had uids (after_sending sweep (change_by uid (sent uid) (message_at messages uid)))
    (had_after_sending sweep messages had uid (sent uid) was found) found

had_batch : (messages : List Message) (had : List ℕ) (sweep : SweepState) → HadSent sweep had → HadFound messages had
    → HadSent (after_sending_all sweep (batch_of sweep messages)) had
had_batch messages had sweep was found =
    let part = batch-part (change_at sweep messages) (λ q. true) 0 BATCH_WEIGHT_LIMIT (keys_of sweep.left) in
    subst (λ cs. HadSent (after_sending_all sweep cs) had) (sym part.same) (had_after_sending_all messages (is_sent sweep) had part.part sweep was found)

-- ---- the law of a transfer

abbrev AreLeft : SweepState → List ℕ → Type 0
AreLeft sweep uids = (q : ℕ) → lists_uid uids q ≡ true → is_left sweep q ≡ true

left_more : (sweep : SweepState) (uid q : ℕ) (b : Bool) {more : Bool} → (uid == q) ≡ b → (more ≡ true → is_left sweep q ≡ true) → (b || more) ≡ true
    → is_left (noted sweep uid) q ≡ true
left_more sweep uid q true same was h =
    let is : uid ≡ q = grind (arith, nat_tests, same) in subst (λ k. is_left (noted sweep uid) k ≡ true) is (left-noted sweep uid)
left_more sweep uid q false same was h = stays-left sweep uid q (was h) (either q uid)

-- the taker's mailbox, once the batches on the way have come, has all of the giver's but the changes left
pub record IsOnCourse (sweep : SweepState) (giver : Content) (had fresh : List ℕ) (coming : Content) : Type 0 where
  pub agrees : Agrees sweep giver.messages coming.messages
  pub rising : IsRising giver.messages
  pub coming_rises : IsRising coming.messages
  pub serial : coming.serial ≡ giver.serial
  pub acl : coming.acl ≡ giver.acl
  pub had_sent : HadSent sweep had
  pub had_found : HadFound giver.messages had
  pub ordered : IsInOrder nat_cmp sweep.left
  pub fresh_left : AreLeft sweep fresh

abbrev pub IsUnderWay : Transfer → Type 0
IsUnderWay transfer = IsOnCourse transfer.sweep transfer.giver transfer.had transfer.fresh (content_to_come transfer)

rising_none : IsRising []
unfolding IsStrictlySortedBy
rising_none = tt

order_none : IsInOrder {X = Unit {0}} nat_cmp []
unfolding IsStrictlySortedBy
order_none = tt

notes_in_order : (messages : List Message) (sweep : SweepState) → IsInOrder nat_cmp sweep.left
    → IsInOrder nat_cmp (fold noted_row sweep (map row_of messages)).left
notes_in_order [] sweep sorted = sorted
notes_in_order (message ∷ messages) sweep sorted =
    notes_in_order messages (noted sweep message.uid) (with_entry-in_order nat_cmp nat_cmp_total sweep.left message.uid tt sorted)

all_left_in_order : (messages : List Message) → IsInOrder nat_cmp (all_left messages).left
all_left_in_order messages = notes_in_order messages nothing_left order_none

pub under-way-transfer_of : (giver : Content) → IsRising giver.messages → IsUnderWay (transfer_of giver)
under-way-transfer_of giver rising = record {
  agrees = agrees-all_left giver.messages;
  rising = rising;
  coming_rises = rising_none;
  serial = refl;
  acl = refl;
  had_sent = λ q h. let never = none-sent giver.messages q in cc;
  had_found = found_had giver.messages;
  ordered = all_left_in_order giver.messages;
  fresh_left = λ q h. cc;
}

become_by : (sent had : Bool) (old new : Option Message) → (sent ≡ true → had ≡ true) → IsAllowedChange had old new → MayBecome sent old new
become_by sent had old None was may = tt
become_by false had old (Some message) was may = tt
become_by true had (Some old) (Some message) was may = may
become_by true had None (Some message) was may = let yes : had ≡ true = was refl in cc

change_by_note : (sweep : SweepState) (fresh had : List ℕ) (old new : List Message) (q : ℕ)
    → (lists_uid fresh q ≡ true → is_left sweep q ≡ true) → (is_sent sweep q ≡ true → lists_uid had q ≡ true)
    → (message_at new q ≡ message_at old q) ⊎ ((lists_uid fresh q ≡ true) × IsAllowedChange (lists_uid had q) (message_at old q) (message_at new q))
    → (message_at new q ≡ message_at old q) ⊎ ((is_left sweep q ≡ true) × MayBecome (is_sent sweep q) (message_at old q) (message_at new q))
change_by_note sweep fresh had old new q left was (inl same) = inl same
change_by_note sweep fresh had old new q left was (inr may) =
    inr (left may.0, become_by (is_sent sweep q) (lists_uid had q) (message_at old q) (message_at new q) was may.1)

module _ (sweep : SweepState) (giver : Content) (had fresh : List ℕ) (coming : Content) (way : IsOnCourse sweep giver had fresh coming) where
  course_noted : (uid : ℕ) → IsOnCourse (noted sweep uid) giver had (uid ∷ fresh) coming
  course_noted uid = record {
    agrees = agrees-noted sweep giver.messages coming.messages uid way.agrees;
    rising = way.rising;
    coming_rises = way.coming_rises;
    serial = way.serial;
    acl = way.acl;
    had_sent = λ q h. way.had_sent q (sym (sent-with_place sweep.known uid q) ∙ h);
    had_found = way.had_found;
    ordered = with_entry-in_order nat_cmp nat_cmp_total sweep.left uid tt way.ordered;
    fresh_left = λ q h. left_more sweep uid q (uid == q) refl (way.fresh_left q) h;
  }

  course_changed : (messages : List Message) (next : ℕ) → IsRising messages → ChangesOnlyNoted fresh had giver.messages messages
      → IsOnCourse sweep (record giver { next = next; messages = messages }) (had ++ uids_of messages) fresh coming
  course_changed messages next rising may = record {
    agrees = agrees-changed sweep giver.messages messages coming.messages way.agrees
        (λ q. change_by_note sweep fresh had giver.messages messages q (way.fresh_left q) (way.had_sent q) (may q));
    rising = rising;
    coming_rises = way.coming_rises;
    serial = way.serial;
    acl = way.acl;
    had_sent = λ q h. had_still had (uids_of messages) q (way.had_sent q h);
    had_found = λ q h. had_more had (uids_of messages) q (found_had messages q h);
    ordered = way.ordered;
    fresh_left = way.fresh_left;
  }

  course_sent : IsOnCourse (after_sending_all sweep (batch_of sweep giver.messages)) giver had []
      (content_after_all coming (batch_of sweep giver.messages))
  course_sent = record {
    agrees = agrees-content sweep giver.messages coming way.agrees;
    rising = way.rising;
    coming_rises = rising-content coming (batch_of sweep giver.messages) way.coming_rises;
    serial = serial-after_all coming (batch_of sweep giver.messages) ∙ way.serial;
    acl = acl-after_all coming (batch_of sweep giver.messages) ∙ way.acl;
    had_sent = had_batch giver.messages had sweep way.had_sent way.had_found;
    had_found = way.had_found;
    ordered = in-order-batch sweep giver.messages way.ordered;
    fresh_left = λ q h. cc;
  }

-- a batch that comes was on the way
came : (taken : Content) (way : List (List Change))
    → fold content_after_all taken way ≡ fold content_after_all (fold content_after_all taken (take 1 way)) (drop 1 way)
came taken way = sym (ap (fold content_after_all taken) (take-append-drop 1 way)) ∙ fold-append content_after_all taken (take 1 way) (drop 1 way)

pub under-way-after_step : (transfer : Transfer) (step : TransferStep) → IsUnderWay transfer → IsAllowed transfer step → IsUnderWay (after_step transfer step)
under-way-after_step transfer (notes uid) way may =
    course_noted transfer.sweep transfer.giver transfer.had transfer.fresh (content_to_come transfer) way uid
under-way-after_step transfer (becomes messages next) way may =
    course_changed transfer.sweep transfer.giver transfer.had transfer.fresh (content_to_come transfer) way messages next may.0 may.1
under-way-after_step transfer sends way may =
    subst (IsOnCourse _ transfer.giver transfer.had [])
    (sym (fold-append content_after_all transfer.taken transfer.way (batch_of transfer.sweep transfer.giver.messages ∷ [])))
    (course_sent transfer.sweep transfer.giver transfer.had transfer.fresh (content_to_come transfer) way)
under-way-after_step transfer comes way may =
    subst (IsOnCourse transfer.sweep transfer.giver transfer.had transfer.fresh) (came transfer.taken transfer.way) way

pub under-way-after_steps : (steps : List TransferStep) (transfer : Transfer) → IsUnderWay transfer → AreAllowed transfer steps
    → IsUnderWay (after_steps transfer steps)
under-way-after_steps [] transfer way may = way
under-way-after_steps (step ∷ steps) transfer way may =
    under-way-after_steps steps (after_step transfer step) (under-way-after_step transfer step way may.0) may.1

-- with the changes left, and with the giver's UIDNEXT
pub will-have-all : (transfer : Transfer) → IsUnderWay transfer → TakerWillHaveAll transfer
will-have-all transfer way =
    left-makes-content transfer.sweep transfer.giver (content_to_come transfer) way.agrees way.rising way.coming_rises way.serial way.acl

pub has-all : (transfer : Transfer) → IsUnderWay transfer → transfer.sweep.left ≡ [] → transfer.way ≡ [] → TakerHasAll transfer
has-all transfer way none arrived =
    subst (λ batches. record (fold content_after_all transfer.taken batches) { next = transfer.giver.next } ≡ transfer.giver) arrived
    (nothing-left-is-content transfer.sweep transfer.giver (content_to_come transfer) way.agrees way.rising way.coming_rises way.serial way.acl none)

-- ---- from the start on

pub under-way : (giver : Content) (steps : List TransferStep) → IsRising giver.messages → AreAllowed (transfer_of giver) steps
    → IsUnderWay (after_steps (transfer_of giver) steps)
under-way giver steps rising may = under-way-after_steps steps (transfer_of giver) (under-way-transfer_of giver rising) may

pub taker-will-have-all : (giver : Content) (steps : List TransferStep) → IsRising giver.messages → AreAllowed (transfer_of giver) steps
    → TakerWillHaveAll (after_steps (transfer_of giver) steps)
taker-will-have-all giver steps rising may = will-have-all (after_steps (transfer_of giver) steps) (under-way giver steps rising may)

pub taker-has-all : (giver : Content) (steps : List TransferStep) → IsRising giver.messages → AreAllowed (transfer_of giver) steps
    → (after_steps (transfer_of giver) steps).sweep.left ≡ [] → (after_steps (transfer_of giver) steps).way ≡ []
    → TakerHasAll (after_steps (transfer_of giver) steps)
taker-has-all giver steps rising may none arrived = has-all (after_steps (transfer_of giver) steps) (under-way giver steps rising may) none arrived

pub keeps-order : (giver : Content) (steps : List TransferStep) → IsRising giver.messages → AreAllowed (transfer_of giver) steps
    → IsInOrder nat_cmp (after_steps (transfer_of giver) steps).sweep.left
keeps-order giver steps rising may = (under-way giver steps rising may).ordered

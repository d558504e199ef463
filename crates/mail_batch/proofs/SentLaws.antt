-- A batch that is sent keeps `Agrees`, and the changes left make the taker's messages the giver's.
use Rattle.std.proofs.Common.{◌≡◌, ◌≢◌, ◌⊎◌, inl, inr, ℕ, Bool, true, false, cond, ◌||◌, List, [], ◌∷◌, map, Some, refl, sym, ◌∙◌, subst}
use Rattle.std.specs.Option.{is_some}
use Rattle.std.specs.List.{AllByRecursion, fold, list_any}
use Rattle.std.specs.Map.{keys_of}
use Rattle.std.specs.BTreeMap.{is_at}
use Rattle.std.specs.Ordering.{is_eq, nat_cmp}
use Rattle.std.proofs.lemmas.Map.Made.{is_some-lookup}
use Rattle.mur_base.specs.declared.limits.TheConstants.{BATCH_WEIGHT_LIMIT}
use Rattle.mur_base.specs.Map.{value_at}
use Rattle.mur_base.proofs.MapLaws.{numbers_apart}
use Rattle.mail_message.specs.declared.message.Message.{Message}
use Rattle.mail_message.specs.declared.change.Change.{Change}
use Rattle.mail_message.specs.Boxes.{message_at, messages_after, IsRising}
use Rattle.mail_batch.specs.Sweeps.{SweepState, SentMarks, nothing_left, is_left, is_sent, after_sending, after_sending_all, change_by, change_at}
use Rattle.mail_batch.specs.Sweeps.{changes_left, batch_of}
use Rattle.mail_batch.proofs.Agreement.{Agrees}
use Rattle.mail_batch.proofs.SweepLaws.{either}
use Rattle.mail_batch.proofs.StepLaws.{AreLabelled, agrees-after_sending, placed-after_sending, labelled-after, there-after, others-after}
use Rattle.mail_batch.proofs.RisingLaws.{rising-after_all, same-messages}
use Rattle.mail_batch.proofs.LimitLaws.{batch-part}

abbrev has_place : SentMarks → ℕ → Bool
has_place known uid = is_some (value_at nat_cmp known uid)

abbrev ArePlaced : SentMarks → List ℕ → Type 0
ArePlaced known uids = AllByRecursion (λ uid. has_place known uid ≡ true) uids

module _ (messages : List Message) (sent : ℕ → Bool) where
  abbrev change_of : ℕ → Change
  change_of uid = change_by uid (sent uid) (message_at messages uid)

  placed_all : (sweep : SweepState) (taken : List Message) (uid : ℕ) → AreLabelled sent messages taken → (uids : List ℕ) → ArePlaced sweep.known uids
      → ArePlaced (after_sending sweep (change_of uid)).known uids
  placed_all sweep taken uid labelled [] placed = tt
  placed_all sweep taken uid labelled (q ∷ uids) placed =
      (placed-after_sending sweep messages taken uid (sent uid) (labelled uid) q placed.0, placed_all sweep taken uid labelled uids placed.1)

  -- changes that are sent one after the other
  pub agrees-all : (uids : List ℕ) (sweep : SweepState) (taken : List Message) → Agrees sweep messages taken → AreLabelled sent messages taken
      → ArePlaced sweep.known uids → Agrees (after_sending_all sweep (map change_of uids)) messages (fold messages_after taken (map change_of uids))
  agrees-all [] sweep taken agrees labelled placed = agrees
  agrees-all (uid ∷ uids) sweep taken agrees labelled placed =
      agrees-all uids (after_sending sweep (change_of uid)) (messages_after taken (change_of uid))
      (agrees-after_sending sweep messages taken uid (sent uid) (labelled uid) agrees placed.0)
      (labelled-after sweep messages taken uid (sent uid) (labelled uid) sent labelled)
      (placed_all sweep taken uid labelled uids placed.1)

  reached_by : (uid q : ℕ) (uids : List ℕ) (taken : List Message) → (sent uid ≡ true → AreLabelled sent messages taken)
      → AreLabelled sent messages taken
      → (q ≡ uid) ⊎ (q ≢ uid) → (b : Bool) → is_eq (nat_cmp q uid) ≡ b
      → ((b || list_any (is_at (nat_cmp q)) uids) ≡ true) ⊎ (message_at taken q ≡ message_at messages q)
      → (list_any (is_at (nat_cmp q)) uids ≡ true) ⊎ (message_at (messages_after taken (change_of uid)) q ≡ message_at messages q)
  reached_by uid q uids taken l labelled (inl same) b h which =
      inr (subst (λ k. message_at (messages_after taken (change_of uid)) k ≡ message_at messages k) (sym same)
      (there-after nothing_left messages taken uid (sent uid) (labelled uid)))
  reached_by uid q uids taken l labelled (inr ne) true h which = absurd (ne (numbers_apart.exact q uid h))
  reached_by uid q uids taken l labelled (inr ne) false h (inl later) = inl later
  reached_by uid q uids taken l labelled (inr ne) false h (inr same) =
      inr (others-after nothing_left messages taken uid (sent uid) (labelled uid) q ne ∙ same)

  -- each UID has then what the giver has
  pub reached : (uids : List ℕ) (taken : List Message) → AreLabelled sent messages taken → (q : ℕ)
      → (list_any (is_at (nat_cmp q)) uids ≡ true) ⊎ (message_at taken q ≡ message_at messages q)
      → message_at (fold messages_after taken (map change_of uids)) q ≡ message_at messages q
  reached [] taken labelled q (inl never) = cc
  reached [] taken labelled q (inr same) = same
  reached (uid ∷ uids) taken labelled q which =
      reached uids (messages_after taken (change_of uid))
      (labelled-after nothing_left messages taken uid (sent uid) (labelled uid) sent labelled) q
      (reached_by uid q uids taken (λ s. labelled) labelled (either q uid) (is_eq (nat_cmp q uid)) refl which)

-- ---- the UIDs that are left have places

left_more : (left : List (ℕ × Unit {0})) (e : ℕ × Unit {0}) (q : ℕ) → is_some (value_at nat_cmp left q) ≡ true → (b : Bool)
    → is_some (cond b (Some e.1) (value_at nat_cmp left q)) ≡ true
left_more left e q h true = refl
left_more left e q h false = h

left_all : (left more : List (ℕ × Unit {0})) → ((q : ℕ) → is_some (value_at nat_cmp left q) ≡ true → is_some (value_at nat_cmp more q) ≡ true)
    → AllByRecursion (λ q. is_some (value_at nat_cmp more q) ≡ true) (keys_of left)
left_all [] more h = tt
left_all (e ∷ left) more h =
    let at : is_some (value_at nat_cmp (e ∷ left) e.0) ≡ true = rw (numbers_apart.itself e.0) refl in
    (h e.0 at, left_all left more (λ q found. h q (left_more left e q found (is_eq (nat_cmp q e.0)))))

weaker : (P Q : ℕ → Type 0) → ((q : ℕ) → P q → Q q) → (uids : List ℕ) → AllByRecursion P uids → AllByRecursion Q uids
weaker P Q more [] all = tt
weaker P Q more (uid ∷ uids) all = (more uid all.0, weaker P Q more uids all.1)

placed_left : (sweep : SweepState) (messages taken : List Message) → Agrees sweep messages taken → ArePlaced sweep.known (keys_of sweep.left)
placed_left sweep messages taken agrees =
    weaker (λ q. is_left sweep q ≡ true) (λ q. has_place sweep.known q ≡ true) agrees.placed (keys_of sweep.left)
    (left_all sweep.left sweep.left (λ q h. h))

-- ---- a batch

pub agrees-batch : (sweep : SweepState) (messages taken : List Message) → Agrees sweep messages taken
    → Agrees (after_sending_all sweep (batch_of sweep messages)) messages (fold messages_after taken (batch_of sweep messages))
agrees-batch sweep messages taken agrees =
    let part = batch-part (change_at sweep messages) (has_place sweep.known) 0 BATCH_WEIGHT_LIMIT (keys_of sweep.left) in
    subst (λ cs. Agrees (after_sending_all sweep cs) messages (fold messages_after taken cs)) (sym part.same)
    (agrees-all messages (is_sent sweep) part.part sweep taken agrees agrees.sent (part.held (placed_left sweep messages taken agrees)))

-- ---- the changes left

left_or_same : (sweep : SweepState) (messages taken : List Message) → Agrees sweep messages taken → (q : ℕ) → (b : Bool) → is_left sweep q ≡ b
    → (list_any (is_at (nat_cmp q)) (keys_of sweep.left) ≡ true) ⊎ (message_at taken q ≡ message_at messages q)
left_or_same sweep messages taken agrees q true h = inl (sym (is_some-lookup (is_at (nat_cmp q)) sweep.left) ∙ h)
left_or_same sweep messages taken agrees q false h = inr (agrees.kept q h)

pub left-makes : (sweep : SweepState) (messages taken : List Message) → Agrees sweep messages taken → IsRising messages → IsRising taken
    → fold messages_after taken (changes_left sweep messages) ≡ messages
left-makes sweep messages taken agrees rising taken_rises =
    same-messages (fold messages_after taken (changes_left sweep messages)) messages
    (rising-after_all taken (changes_left sweep messages) taken_rises) rising
    (λ q. reached messages (is_sent sweep) (keys_of sweep.left) taken agrees.sent q
    (left_or_same sweep messages taken agrees q (is_left sweep q) refl))

-- The map of opened connections keeps up with the events.
use Rattle.std.proofs.Common.{◌≡◌, ℕ, Bool, true, false, ◌||◌, nat_eq, List, [], ◌∷◌, ◌++◌, is_some, refl, sym, ap, ◌∙◌, subst}
use Rattle.std.specs.Ordering.{nat_cmp}
use Rattle.std.proofs.lemmas.List.Folds.{list_any-append}
use Rattle.std.proofs.lemmas.Bool.{eqb-true, eqb-false}
use Rattle.mur_base.specs.Map.{value_at, with_entry}
use Rattle.mur_base.proofs.MapLaws.{numbers_apart, value_at-with_entry, value_at-with_entry-other}
use Rattle.schedule_text.specs.declared.event.Event.{Event}
use Rattle.schedule_text.specs.declared.event.Event.TheVariants.{Open, Data, Hang, Deliver, Cut, Join, Crash, Arm, Start, Flow, Heal}
use Rattle.schedule_text.specs.ScheduleOpened.{opens_connection, is_opened, opened_after}

or_last : (a b : Bool) → (a || (b || false)) ≡ (a || b)
or_last true b = refl
or_last false true = refl
or_last false false = refl

or_true : (a : Bool) → (a || true) ≡ true
or_true true = refl
or_true false = refl

or_false : (a : Bool) → (a || false) ≡ a
or_false true = refl
or_false false = refl

-- whether the events and one more open a connection
pub is_opened-push : (events : List Event) (event : Event) (conn : ℕ)
    → is_opened (events ++ event ∷ []) conn ≡ (is_opened events conn || opens_connection conn event)
unfolding is_opened
is_opened-push events event conn = list_any-append (opens_connection conn) events (event ∷ []) ∙ or_last (is_opened events conn) (opens_connection conn event)

opened_by : (es : List (ℕ × Unit {0})) (events : List Event) (node : List ℕ) (conn q : ℕ) → is_some (value_at nat_cmp es q) ≡ is_opened events q
    → (same : Bool) → nat_eq q conn ≡ same → is_some (value_at nat_cmp (with_entry nat_cmp es conn tt) q) ≡ (is_opened events q || same)
opened_by es events node conn q knows true same =
    let e = eqb-true q conn same in
    subst (λ k. is_some (value_at nat_cmp (with_entry nat_cmp es conn tt) k) ≡ (is_opened events k || true)) (sym e)
    (ap is_some (value_at-with_entry nat_cmp numbers_apart es conn tt) ∙ sym (or_true (is_opened events conn)))
opened_by es events node conn q knows false other =
    ap is_some (value_at-with_entry-other nat_cmp numbers_apart es conn q tt (eqb-false q conn other))
    ∙ (knows ∙ sym (or_false (is_opened events q)))

-- the map after an event has what the events with it opened
pub knows_after : (es : List (ℕ × Unit {0})) (events : List Event) (event : Event) → ((conn : ℕ) → is_some (value_at nat_cmp es conn) ≡ is_opened events conn)
    → (q : ℕ) → is_some (value_at nat_cmp (opened_after es event) q) ≡ is_opened (events ++ event ∷ []) q
unfolding opens_connection opened_after
knows_after es events (Open node conn) knows q = opened_by es events node conn q (knows q) (nat_eq q conn) refl ∙ sym (is_opened-push events (Open node conn) q)
knows_after es events (Data conn bytes) knows q = knows q ∙ sym (is_opened-push events (Data conn bytes) q ∙ or_false (is_opened events q))
knows_after es events (Hang conn) knows q = knows q ∙ sym (is_opened-push events (Hang conn) q ∙ or_false (is_opened events q))
knows_after es events (Deliver from to) knows q = knows q ∙ sym (is_opened-push events (Deliver from to) q ∙ or_false (is_opened events q))
knows_after es events (Cut one other kept_one kept_other) knows q = knows q
    ∙ sym (is_opened-push events (Cut one other kept_one kept_other) q ∙ or_false (is_opened events q))
knows_after es events (Join one other) knows q = knows q ∙ sym (is_opened-push events (Join one other) q ∙ or_false (is_opened events q))
knows_after es events (Crash node choice keep) knows q = knows q ∙ sym (is_opened-push events (Crash node choice keep) q ∙ or_false (is_opened events q))
knows_after es events (Arm node call choice keep) knows q = knows q ∙ sym (is_opened-push events (Arm node call choice keep) q ∙ or_false (is_opened events q))
knows_after es events (Start node) knows q = knows q ∙ sym (is_opened-push events (Start node) q ∙ or_false (is_opened events q))
knows_after es events (Flow count) knows q = knows q ∙ sym (is_opened-push events (Flow count) q ∙ or_false (is_opened events q))
knows_after es events Heal knows q = knows q ∙ sym (is_opened-push events Heal q ∙ or_false (is_opened events q))

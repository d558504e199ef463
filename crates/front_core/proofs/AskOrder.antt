-- What a step lets out, its asks by the names of mailboxes: all else stays as it was, and so do the asks of one connection.
use Rattle.std.proofs.Common.{◌≡◌, ℕ, ◌≤◌, Bool, true, false, cond, List, [], ◌∷◌, length, filter, Option, None, Some, refl, ap, ◌∙◌, arith}
use Rattle.std.specs.Prelude.{⊤}
use Rattle.std.specs.Cmp.{IsStrictWeakOrder}
use Rattle.std.specs.Cmp.Lexicographic.{nat_list_cmp_total, options_total, slice_cmp}
use Rattle.std.specs.List.{AllByRecursion}
use Rattle.std.specs.Option.{option_cmp}
use Rattle.std.specs.Ordering.{is_lt, nat_cmp}
use Rattle.std.proofs.lemmas.List.MinMax.{ranks_by}
use Rattle.link_msg.specs.declared.out.Out.{Out}
use Rattle.front_core.specs.AskOrder.{asked_name, asks_earlier, in_ask_order}
use Rattle.front_core.proofs.InOrder.{Rise, ordered_all, part_stays, rising_stays}

pub ask_order : IsStrictWeakOrder asks_earlier
ask_order = ranks_by (options_total nat_list_cmp_total) asked_name

-- what holds of each still does
pub outs_all : (P : Out → Type 0) (outs : List Out) → AllByRecursion P outs → AllByRecursion P (in_ask_order outs)
outs_all P outs are = ordered_all asks_earlier P outs are

-- ---- what goes in order already

abbrev pub AsksNone : Out → Type 0
AsksNone out = asked_name out ≡ None

-- of all of them only the last may ask
abbrev pub AsksLast : List Out → Type 0
AsksLast [] = ⊤
AsksLast (out ∷ []) = ⊤
AsksLast (out ∷ next ∷ outs) = AsksNone out × AsksLast (next ∷ outs)

-- nothing is earlier than what asks of no mailbox
none_earlier : (name : Option (List ℕ)) → is_lt (option_cmp (slice_cmp nat_cmp) name None) ≡ false
none_earlier None = refl
none_earlier (Some name) = refl

none_follow : (out : Out) (outs : List Out) → AsksNone out → AllByRecursion (λ it. asks_earlier it out ≡ false) outs
none_follow out [] none = tt
none_follow out (next ∷ outs) none = (
  ap (λ (name : Option (List ℕ)). is_lt (option_cmp (slice_cmp nat_cmp) (asked_name next) name)) none ∙ none_earlier (asked_name next),
  none_follow out outs none,
)

last_rise : (outs : List Out) → AsksLast outs → Rise asks_earlier outs
last_rise [] last = tt
last_rise (out ∷ []) last = (tt, tt)
last_rise (out ∷ next ∷ outs) last = (none_follow out (next ∷ outs) last.0, last_rise (next ∷ outs) last.1)

none_last : (outs : List Out) → AllByRecursion AsksNone outs → AsksLast outs
none_last [] none = tt
none_last (out ∷ []) none = tt
none_last (out ∷ next ∷ outs) none = (none.0, none_last (next ∷ outs) none.1)

short_last : (outs : List Out) → length outs ≤ 1 → AsksLast outs
short_last [] short = tt
short_last (out ∷ []) short = tt
short_last (out ∷ next ∷ outs) short = absurd (omega arith)

-- where only the last asks, all of them stay
pub last_stay : (outs : List Out) → AsksLast outs → in_ask_order outs ≡ outs
last_stay outs last = rising_stays asks_earlier outs (last_rise outs last)

-- where none asks, all of them stay
pub none_stay : (outs : List Out) → AllByRecursion AsksNone outs → in_ask_order outs ≡ outs
none_stay outs none = last_stay outs (none_last outs none)

-- ---- a part of them, such as what is for one connection

module _ (p : Out → Bool) where
  -- where only the last of a part asks, the part is as it was
  pub last_part_stays : (outs : List Out) → AsksLast (filter p outs) → filter p (in_ask_order outs) ≡ filter p outs
  last_part_stays outs last = part_stays asks_earlier ask_order p outs (last_rise (filter p outs) last)

  -- where there is at most one of it
  pub few_stay : (outs : List Out) → length (filter p outs) ≤ 1 → filter p (in_ask_order outs) ≡ filter p outs
  few_stay outs short = last_part_stays outs (short_last (filter p outs) short)

  none_kept : (outs : List Out) → ((out : Out) → p out ≡ true → AsksNone out) → AllByRecursion AsksNone (filter p outs)
  none_kept [] others = tt
  none_kept (out ∷ outs) others = by_test (none_kept outs others) (p out) refl
    where
      by_test : AllByRecursion AsksNone (filter p outs) → (b : Bool) → p out ≡ b → AllByRecursion AsksNone (cond b (out ∷ filter p outs) (filter p outs))
      by_test more true e = (others out e, more)
      by_test more false e = more

  -- and of what asks of no mailbox
  pub others_stay : (outs : List Out) → ((out : Out) → p out ≡ true → AsksNone out) → filter p (in_ask_order outs) ≡ filter p outs
  others_stay outs others = last_part_stays outs (none_last (filter p outs) (none_kept outs others))

-- A mirror agrees with the view behind a silent STORE: only messages that it names have other flags than were told.
use Rattle.std.proofs.Common.{◌≡◌, ℕ, ◌+◌, ◌<◌, ◌≤◌, ◌==◌, ◌||◌, Bool, true, false, List, [], ◌∷◌, length, map, Option, None, Some}
use Rattle.std.proofs.Common.{refl, sym, ◌∙◌, ap, subst, inl, inr, arith}
use Rattle.std.specs.Prelude.{⊤, IfSome}
use Rattle.std.specs.List.{list_any, zip}
use Rattle.std.proofs.lemmas.Bool.Decides.{nat_tests}
use Rattle.mail_fetch.specs.FlagText.{flags_text}
use Rattle.mail_fetch.specs.Parts.{uid_text}
use Rattle.mail_message.specs.RowOrder.{row_at}
use Rattle.mail_message.specs.Sets.{set_at, set_holds}
use Rattle.mail_message.specs.declared.message.Row.{Row}
use Rattle.mail_message.specs.declared.set.SetEnd.TheVariants.{Number, Last}
use Rattle.mail_message.specs.declared.set.SetPart.{SetPart}
use Rattle.mail_message.specs.declared.set.SetPart.TheVariants.{One, Range}
use Rattle.mur_model.specs.NamedRows.{named_uids, numbers_from, picked}
use Rattle.store_law.specs.Mirror.{IsSeenOf, Mirror, Mirrors, Seen, names, silenced_by, with_silent}
use Rattle.store_law.specs.SetNames.{IsInPart, IsInSet, last_number}
use Rattle.store_law.proofs.ContainsLaws.{stands}
use Rattle.store_law.proofs.MirrorNews.{found_uid, less_seen, mirrors_length, rows_told_by, told_row}
use Rattle.store_law.proofs.RisingViews.{RowsRise}
use Rattle.store_law.proofs.SetNames.{set_in, taken_named}

-- the rows that were told to be others are named, by their numbers and UIDs
abbrev AreNamed : (ℕ → ℕ → Bool) → (ℕ → Bool) → ℕ → List Row → Type 0
AreNamed is_named is_told number [] = ⊤
AreNamed is_named is_told number (row ∷ rows) =
    (is_told row.uid ≡ true → is_named number row.uid ≡ true) × AreNamed is_named is_told (number + 1) rows

named_here : (before named : Bool) (flags : Option (List ℕ)) (text : List ℕ) → named ≡ true → IfSome flags (λ told. (before || named) ≡ false → told ≡ text)
named_here before named None text is = tt
named_here true named (Some told) text is = λ silent. cc
named_here false named (Some told) text is = λ silent. (let both : false ≡ true = sym silent ∙ is in cc)

untold : (is_named : ℕ → Bool) (is_told : Bool) (seen : Seen) (row : Row) (it : Option Row) → (is_told ≡ true → is_named row.uid ≡ true)
    → IfSome it (λ (r : Row). r.uid ≡ row.uid) → IsSeenOf seen row → IsSeenOf (silenced_by is_named seen) (told_row is_told row it)
untold is_named false seen row it named own so = less_seen is_named seen row so
untold is_named true seen row None named own so = less_seen is_named seen row so
untold is_named true seen row (Some it) named own so = (
  subst (λ n. IfSome seen.uid (λ text. text ≡ uid_text n)) (sym own) so.0,
  named_here (seen.silenced it.uid) (is_named it.uid) seen.flags (flags_text it.flags) (ap is_named own ∙ named refl),
)

silent_rows : (is_named : ℕ → ℕ → Bool) (is_told : ℕ → Bool) (now : List Row) (number : ℕ) (mirror : Mirror) (rows : List Row)
    → AreNamed is_named is_told number rows → Mirrors mirror rows → Mirrors (with_silent is_named number mirror) (rows_told_by is_told now rows)
unfolding Mirrors with_silent
silent_rows is_named is_told now number [] [] named agrees = tt
silent_rows is_named is_told now number [] (row ∷ rows) named agrees = absurd agrees
silent_rows is_named is_told now number (seen ∷ mirror) [] named agrees = absurd agrees
silent_rows is_named is_told now number (seen ∷ mirror) (row ∷ rows) named agrees = (
  untold (is_named number) (is_told row.uid) seen row (row_at now row.uid) named.0 (found_uid now row.uid) agrees.0,
  silent_rows is_named is_told now (number + 1) mirror rows named.1 agrees.1,
)

-- ---- the rows that a set of numbers names

-- a UID is one that numbers of a set name
abbrev any_named : (ℕ → Bool) → ℕ → ℕ → List Row → Bool
any_named names uid number rows = list_any (λ other. other == uid) (picked (zip rows (map names (numbers_from number rows))))

none_by : (uid : ℕ) (row : Row) (is : Bool) (pairs : List (Row × Bool)) → (row.uid == uid) ≡ false → list_any (λ other. other == uid) (picked pairs) ≡ false
    → list_any (λ other. other == uid) (picked ((row, is) ∷ pairs)) ≡ false
none_by uid row true pairs apart none = rw (apart, none) refl
none_by uid row false pairs apart none = none

none_named : (names : ℕ → Bool) (uid low number : ℕ) (rows : List Row) → RowsRise low rows → uid < low → any_named names uid number rows ≡ false
none_named names uid low number [] rises lt = refl
none_named names uid low number (row ∷ rows) rises lt =
    none_by uid row (names number) (zip rows (map names (numbers_from (number + 1) rows)))
    (let apart : (row.uid == uid) ≡ false = grind (arith, nat_tests, lt, rises.0) in apart)
    (none_named names uid (row.uid + 1) (number + 1) rows rises.1 (omega (arith, lt, rises.0)))

first_by : (row : Row) (is : Bool) (pairs : List (Row × Bool)) → list_any (λ other. other == row.uid) (picked pairs) ≡ false
    → list_any (λ other. other == row.uid) (picked ((row, is) ∷ pairs)) ≡ true → is ≡ true
first_by row true pairs none any = refl
first_by row false pairs none any = sym none ∙ any

rest_by : (uid : ℕ) (row : Row) (is : Bool) (pairs : List (Row × Bool)) → (row.uid == uid) ≡ false
    → list_any (λ other. other == uid) (picked ((row, is) ∷ pairs)) ≡ true → list_any (λ other. other == uid) (picked pairs) ≡ true
rest_by uid row true pairs apart any = sym (ap (λ b. b || list_any (λ other. other == uid) (picked pairs)) apart) ∙ any
rest_by uid row false pairs apart any = any

numbers_named : (named is_told : ℕ → Bool) (low number : ℕ) (rows : List Row) → RowsRise low rows
    → ((uid : ℕ) → low ≤ uid → is_told uid ≡ true → any_named named uid number rows ≡ true) → AreNamed (λ n uid. named n) is_told number rows
numbers_named named is_told low number [] rises is = tt
numbers_named named is_told low number (row ∷ rows) rises is =
    let pairs = zip rows (map named (numbers_from (number + 1) rows)) in (
      λ told. first_by row (named number) pairs (none_named named row.uid (row.uid + 1) (number + 1) rows rises.1 (omega arith)) (is row.uid rises.0 told),
      numbers_named named is_told (row.uid + 1) (number + 1) rows rises.1 (λ uid above told.
          let apart : (row.uid == uid) ≡ false = grind (arith, nat_tests, above) in
          rest_by uid row (named number) pairs apart (is uid (omega (arith, above, rises.0)) told)),
    )

-- ---- the rows that a set of UIDs names

-- a UID below the largest is in the set whatever that is
module _ (largest uid : ℕ) (below : uid < largest) where
  part_below : (part : SetPart) → IsInPart largest part uid → IsInPart (uid + 1) part uid
  part_below (One (Number one)) is = is
  part_below (One Last) is = absurd (omega (arith, below, is))
  part_below (Range (Number one) (Number other)) is = is
  part_below (Range (Number one) Last) (inl is) = inl (is.0, omega arith)
  part_below (Range (Number one) Last) (inr is) = absurd (omega (arith, below, is.0))
  part_below (Range Last (Number other)) (inl is) = absurd (omega (arith, below, is.0))
  part_below (Range Last (Number other)) (inr is) = inr (is.0, omega arith)
  part_below (Range Last Last) (inl is) = absurd (omega (arith, below, is.0))
  part_below (Range Last Last) (inr is) = absurd (omega (arith, below, is.0))

  set_below : (set : List SetPart) → IsInSet largest set uid → IsInSet (uid + 1) set uid
  unfolding IsInSet
  set_below [] is = absurd is
  set_below (part ∷ set) (inl is) = inl (part_below part is)
  set_below (part ∷ set) (inr is) = inr (set_below set is)

last_above : (low place : ℕ) (row : Row) (rows : List Row) → RowsRise low (row ∷ rows) → low ≤ last_number true place (row ∷ rows)
unfolding last_number
last_above low place row [] rises = rises.0
last_above low place row (other ∷ rows) rises = omega (arith, rises.0, last_above (row.uid + 1) (place + 1) other rows rises.1)

module _ (set : List SetPart) (count : ℕ) (is_told : ℕ → Bool) where
  held : (largest uid : ℕ) → IsInSet largest set uid → set_holds (set_at largest set) uid ≡ true
  held largest uid is = set_in largest uid set is

  uids_named : (low number place : ℕ) (rows : List Row) → RowsRise low rows → count + 1 ≡ number + length rows
      → ((uid : ℕ) → is_told uid ≡ true → IsInSet (last_number true place rows) set uid) → AreNamed (names true set count) is_told number rows
  unfolding names last_number
  uids_named low number place [] rises all is = tt
  uids_named low number place (row ∷ []) rises all is =
      let here : (number == count) ≡ true = grind (arith, nat_tests, all) in
      (λ told. rw here (held row.uid row.uid (is row.uid told)), tt)
  uids_named low number place (row ∷ other ∷ rows) rises all is =
      let apart : (number == count) ≡ false = grind (arith, nat_tests, all) in
      let above : row.uid < last_number true (place + 1) (other ∷ rows) = omega (arith, last_above (row.uid + 1) (place + 1) other rows rises.1) in (
        λ told. rw apart (held (row.uid + 1) row.uid (set_below (last_number true (place + 1) (other ∷ rows)) row.uid above set (is row.uid told))),
        uids_named (row.uid + 1) (number + 1) (place + 1) (other ∷ rows) rises.1 (omega (arith, all)) is,
      )

-- ---- a STORE by either

in_uids : (set : List SetPart) (rows : List Row) (uid : ℕ) → list_any (λ other. other == uid) (named_uids true set rows) ≡ true
    → IsInSet (last_number true 0 rows) set uid
in_uids set rows uid is =
    let it = taken_named true set rows uid (stands (named_uids true set rows) uid is) in
    subst (IsInSet (last_number true 0 rows) set) it.own it.named

pub silent_agree : (by_uid : Bool) (set : List SetPart) (is_told : ℕ → Bool) (mirror : Mirror) (rows now : List Row) → RowsRise 0 rows
    → ((uid : ℕ) → is_told uid ≡ true → list_any (λ other. other == uid) (named_uids by_uid set rows) ≡ true) → Mirrors mirror rows
    → Mirrors (with_silent (names by_uid set (length mirror)) 1 mirror) (rows_told_by is_told now rows)
unfolding named_uids names
silent_agree true set is_told mirror rows now rises named agrees =
    silent_rows (names true set (length mirror)) is_told now 1 mirror rows
    (uids_named set (length mirror) is_told 0 1 0 rows rises (omega (arith, mirrors_length mirror rows agrees))
    (λ uid is. in_uids set rows uid (named uid is))) agrees
silent_agree false set is_told mirror rows now rises named agrees =
    let all : AreNamed (names false set (length rows)) is_told 1 rows =
    numbers_named (set_holds (set_at (length rows) set)) is_told 0 1 rows rises (λ uid low is. named uid is) in
    silent_rows (names false set (length mirror)) is_told now 1 mirror rows
    (subst (λ count. AreNamed (names false set count) is_told 1 rows) (sym (mirrors_length mirror rows agrees)) all) agrees

-- Search keys of which it computes whether their numbers are those of messages, and what they match: keys beside their layers, put together as
-- keys are. What a fold makes of a key is stuck elsewhere; here each constructor has its one step (RFC 9051, 6.4.4).
use Rattle.std.proofs.Common.{◌≡◌, ◌∙◌, ℕ, Bool, cond, ◌&&◌, List, [], ◌∷◌, map, refl, sym, ap, ap₂}
use Rattle.std.specs.List.{filter, list_all, zip}
use Rattle.mail_message.specs.Sets.{set_at}
use Rattle.mail_message.specs.declared.day.Day.{Day}
use Rattle.mail_message.specs.declared.flag_name.FlagName.{FlagName}
use Rattle.mail_message.specs.declared.key.Key.{Key, roll-Key}
use Rattle.mail_message.specs.declared.key.Key.TheVariants as key_is
use Rattle.mail_message.specs.declared.key.Key.TheOpen.{Key-F}
use Rattle.mail_message.specs.declared.key.Key.TheFolds.{fold-roll-Key, map-Key}
use Rattle.mail_message.specs.declared.message.Summary.{Summary}
use Rattle.mail_message.specs.declared.set.SetPart.{SetPart}
use Rattle.mail_search.specs.Matching.{Test, all_match, key_matches, matches_by}
use Rattle.mail_search.specs.Search.{Numbered, found}
use Rattle.mur_model.specs.Keys.{has_key_numbers, have_all_numbers, key_at, key_by, keys_at, numbers_by}

-- ---- one step of each fold

pub numbers_step : (key : Key) (layer : Key-F Key) → roll-Key layer ≡ key → (count : ℕ)
    → has_key_numbers count key ≡ numbers_by count (map-Key Key Bool (has_key_numbers count) layer)
numbers_step key layer rolled count = ap (has_key_numbers count) (sym rolled) ∙ fold-roll-Key Bool (numbers_by count) layer

-- a layer whose numbers are put in the place of `*`, and then what it matches
pub match_step : (key : Key) (layer at : Key-F Key) → roll-Key layer ≡ key → (count last : ℕ)
    → key_by count last (map-Key Key Key (key_at count last) layer) ≡ roll-Key at
    → key_matches (key_at count last key) ≡ matches_by (map-Key Key Test key_matches at)
match_step key layer at rolled count last made =
    ap key_matches (ap (key_at count last) (sym rolled) ∙ fold-roll-Key Key (key_by count last) layer ∙ made) ∙ fold-roll-Key Test matches_by at

-- ---- keys

-- a key; whether each number in it is that of a message, where there are so many; and what it matches in a view of so many messages whose last has
-- this UID
pub record Sought : Type 0 where
  pub key : Key
  pub fits : ℕ → Bool
  pub test : ℕ → ℕ → Test
  pub has_fits : (count : ℕ) → has_key_numbers count key ≡ fits count
  pub has_test : (count last : ℕ) → key_matches (key_at count last key) ≡ test count last

-- a key that holds neither a key nor a set
abbrev pub flat : (key : Key) (layer : Key-F Key) → roll-Key layer ≡ key
    → ((count last : ℕ) → key_by count last (map-Key Key Key (key_at count last) layer) ≡ roll-Key layer) → Sought
flat key layer rolled stays = record {
  key = key;
  fits = λ count. numbers_by count (map-Key Key Bool (has_key_numbers count) layer);
  test = λ count last. matches_by (map-Key Key Test key_matches layer);
  has_fits = numbers_step key layer rolled;
  has_test = λ count last. match_step key layer layer rolled count last (stays count last);
}

abbrev pub all : Sought
all = flat key_is.All Key-F.All key_is.rolls-All (λ count last. refl)

abbrev pub answered : Sought
answered = flat key_is.Answered Key-F.Answered key_is.rolls-Answered (λ count last. refl)

abbrev pub deleted : Sought
deleted = flat key_is.Deleted Key-F.Deleted key_is.rolls-Deleted (λ count last. refl)

abbrev pub draft : Sought
draft = flat key_is.Draft Key-F.Draft key_is.rolls-Draft (λ count last. refl)

abbrev pub flagged : Sought
flagged = flat key_is.Flagged Key-F.Flagged key_is.rolls-Flagged (λ count last. refl)

abbrev pub seen : Sought
seen = flat key_is.Seen Key-F.Seen key_is.rolls-Seen (λ count last. refl)

abbrev pub unanswered : Sought
unanswered = flat key_is.Unanswered Key-F.Unanswered key_is.rolls-Unanswered (λ count last. refl)

abbrev pub undeleted : Sought
undeleted = flat key_is.Undeleted Key-F.Undeleted key_is.rolls-Undeleted (λ count last. refl)

abbrev pub undraft : Sought
undraft = flat key_is.Undraft Key-F.Undraft key_is.rolls-Undraft (λ count last. refl)

abbrev pub unflagged : Sought
unflagged = flat key_is.Unflagged Key-F.Unflagged key_is.rolls-Unflagged (λ count last. refl)

abbrev pub unseen : Sought
unseen = flat key_is.Unseen Key-F.Unseen key_is.rolls-Unseen (λ count last. refl)

abbrev pub keyword : FlagName → Sought
keyword flag = flat (key_is.Keyword flag) (Key-F.Keyword flag) (key_is.rolls-Keyword flag) (λ count last. refl)

abbrev pub unkeyword : FlagName → Sought
unkeyword flag = flat (key_is.Unkeyword flag) (Key-F.Unkeyword flag) (key_is.rolls-Unkeyword flag) (λ count last. refl)

abbrev pub larger : ℕ → Sought
larger size = flat (key_is.Larger size) (Key-F.Larger size) (key_is.rolls-Larger size) (λ count last. refl)

abbrev pub smaller : ℕ → Sought
smaller size = flat (key_is.Smaller size) (Key-F.Smaller size) (key_is.rolls-Smaller size) (λ count last. refl)

abbrev pub before : Day → Sought
before day = flat (key_is.Before day) (Key-F.Before day) (key_is.rolls-Before day) (λ count last. refl)

abbrev pub on : Day → Sought
on day = flat (key_is.On day) (Key-F.On day) (key_is.rolls-On day) (λ count last. refl)

abbrev pub since : Day → Sought
since day = flat (key_is.Since day) (Key-F.Since day) (key_is.rolls-Since day) (λ count last. refl)

abbrev pub uid : List SetPart → Sought
uid set = record {
  key = key_is.Uid set;
  fits = λ count. numbers_by count (Key-F.Uid set);
  test = λ count last. matches_by (Key-F.Uid (set_at last set));
  has_fits = numbers_step (key_is.Uid set) (Key-F.Uid set) (key_is.rolls-Uid set);
  has_test = λ count last. match_step (key_is.Uid set) (Key-F.Uid set) (Key-F.Uid (set_at last set)) (key_is.rolls-Uid set) count last refl;
}

abbrev pub numbers : List SetPart → Sought
numbers set = record {
  key = key_is.Numbers set;
  fits = λ count. numbers_by count (Key-F.Numbers set);
  test = λ count last. matches_by (Key-F.Numbers (set_at count set));
  has_fits = numbers_step (key_is.Numbers set) (Key-F.Numbers set) (key_is.rolls-Numbers set);
  has_test = λ count last. match_step (key_is.Numbers set) (Key-F.Numbers set) (Key-F.Numbers (set_at count set)) (key_is.rolls-Numbers set) count last refl;
}

abbrev pub is_not : Sought → Sought
is_not it = record {
  key = key_is.Not it.key;
  fits = λ count. numbers_by count (Key-F.Not (it.fits count));
  test = λ count last. matches_by (Key-F.Not (it.test count last));
  has_fits = λ count.
      numbers_step (key_is.Not it.key) (Key-F.Not it.key) (key_is.rolls-Not it.key) count
      ∙ ap (λ (fits : Bool). numbers_by count (Key-F.Not fits)) (it.has_fits count);
  has_test = λ count last.
      match_step (key_is.Not it.key) (Key-F.Not it.key) (Key-F.Not (key_at count last it.key)) (key_is.rolls-Not it.key) count last refl
      ∙ ap (λ (test : Test). matches_by (Key-F.Not test)) (it.has_test count last);
}

abbrev pub either : Sought → Sought → Sought
either one other = record {
  key = key_is.Or one.key other.key;
  fits = λ count. numbers_by count (Key-F.Or (one.fits count) (other.fits count));
  test = λ count last. matches_by (Key-F.Or (one.test count last) (other.test count last));
  has_fits = λ count.
      numbers_step (key_is.Or one.key other.key) (Key-F.Or one.key other.key) (key_is.rolls-Or one.key other.key) count
      ∙ ap₂ (λ (first second : Bool). numbers_by count (Key-F.Or first second)) (one.has_fits count) (other.has_fits count);
  has_test = λ count last.
      match_step (key_is.Or one.key other.key) (Key-F.Or one.key other.key) (Key-F.Or (key_at count last one.key) (key_at count last other.key))
      (key_is.rolls-Or one.key other.key) count last refl
      ∙ ap₂ (λ (first second : Test). matches_by (Key-F.Or first second)) (one.has_test count last) (other.has_test count last);
}

-- ---- several keys, of which all are meant

abbrev pub keys_of : List Sought → List Key
keys_of sought = map (λ (it : Sought). it.key) sought

abbrev pub fits_of : ℕ → List Sought → List Bool
fits_of count sought = map (λ (it : Sought). it.fits count) sought

abbrev pub tests_of : ℕ → ℕ → List Sought → List Test
tests_of count last sought = map (λ (it : Sought). it.test count last) sought

pub have_fits : (count : ℕ) (sought : List Sought) → map (has_key_numbers count) (keys_of sought) ≡ fits_of count sought
have_fits count [] = refl
have_fits count (it ∷ sought) = ap₂ (λ (fits : Bool) (more : List Bool). fits ∷ more) (it.has_fits count) (have_fits count sought)

pub have_tests : (count last : ℕ) (sought : List Sought)
    → map key_matches (map (key_at count last) (keys_of sought)) ≡ tests_of count last sought
have_tests count last [] = refl
have_tests count last (it ∷ sought) = ap₂ (λ (test : Test) (more : List Test). test ∷ more) (it.has_test count last) (have_tests count last sought)

abbrev pub group : List Sought → Sought
group sought = record {
  key = key_is.Group (keys_of sought);
  fits = λ count. numbers_by count (Key-F.Group (fits_of count sought));
  test = λ count last. matches_by (Key-F.Group (tests_of count last sought));
  has_fits = λ count.
      numbers_step (key_is.Group (keys_of sought)) (Key-F.Group (keys_of sought)) (key_is.rolls-Group (keys_of sought)) count
      ∙ ap (λ (fits : List Bool). numbers_by count (Key-F.Group fits)) (have_fits count sought);
  has_test = λ count last.
      match_step (key_is.Group (keys_of sought)) (Key-F.Group (keys_of sought)) (Key-F.Group (map (key_at count last) (keys_of sought)))
      (key_is.rolls-Group (keys_of sought)) count last refl
      ∙ ap (λ (tests : List Test). matches_by (Key-F.Group tests)) (have_tests count last sought);
}

abbrev pub all_fit : ℕ → List Sought → Bool
all_fit count sought = list_all (λ (it : Sought). it.fits count) sought

abbrev pub all_test : ℕ → ℕ → List Sought → Test
all_test count last sought message number = list_all (λ (it : Sought). it.test count last message number) sought

both_step : (one other two more : Bool) → one ≡ two → other ≡ more → (one && other) ≡ (two && more)
both_step one other two more same alike = rw (same, alike) refl

pub keys_fit : (count : ℕ) (sought : List Sought) → have_all_numbers count (keys_of sought) ≡ all_fit count sought
keys_fit count [] = refl
keys_fit count (it ∷ sought) = both_step _ _ _ _ (it.has_fits count) (keys_fit count sought)

keys_test : (count last : ℕ) (sought : List Sought) (message : Summary) (number : ℕ)
    → all_match (keys_at count last (keys_of sought)) message number ≡ all_test count last sought message number
keys_test count last [] message number = refl
keys_test count last (it ∷ sought) message number =
    both_step _ _ _ _ (ap (λ (test : Test). test message number) (it.has_test count last)) (keys_test count last sought message number)

-- ---- what is found

abbrev pub uids_where : Test → Numbered → List ℕ
uids_where test rows = map (λ row. row.0.uid) (filter (λ row. test row.0 row.1) rows)

kept_step : (one other : Bool) (row : Summary × ℕ) (rows more : Numbered) → one ≡ other → rows ≡ more
    → cond one (row ∷ rows) rows ≡ cond other (row ∷ more) more
kept_step one other row rows more same alike = rw (same, alike) refl

same_rows : (one other : Test) → ((message : Summary) (number : ℕ) → one message number ≡ other message number)
    → (rows : Numbered) → filter (λ row. one row.0 row.1) rows ≡ filter (λ row. other row.0 row.1) rows
same_rows one other same [] = refl
same_rows one other same (row ∷ rows) = kept_step _ _ row _ _ (same row.0 row.1) (same_rows one other same rows)

abbrev pub found_by : ℕ → ℕ → List Sought → List Summary → List ℕ → List ℕ
found_by count last sought messages numbers = uids_where (all_test count last sought) (zip messages numbers)

pub is_found : (count last : ℕ) (sought : List Sought) (messages : List Summary) (numbers : List ℕ)
    → found (keys_at count last (keys_of sought)) messages numbers ≡ found_by count last sought messages numbers
is_found count last sought messages numbers =
    ap (λ rows. map (λ row. row.0.uid) rows)
    (same_rows (all_match (keys_at count last (keys_of sought))) (all_test count last sought) (keys_test count last sought) (zip messages numbers))

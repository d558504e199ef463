-- Patterns '*' and '%', and those without wildcards.
use Rattle.std.proofs.Common.{◌≡◌, ◌⊎◌, inl, inr, ℕ, Bool, true, false, ◌&&◌, ◌||◌, not, nat_eq, List, [], ◌∷◌, ◌++◌, length}
use Rattle.std.proofs.Common.{Some, None, refl, sym, ap, ◌∙◌, subst, arith}
use Rattle.std.specs.Prelude.{codes}
use Rattle.std.specs.List.{list_all, Any, Contains}
use Rattle.std.proofs.lemmas.Bool.{and_parts, or_right, eqb-true, eq-eqb, ne_eqb, true≢false, not-true, not_from_false}
use Rattle.std.proofs.lemmas.List.{get_or_at, length_push}
use Rattle.std.proofs.lemmas.List.Elements.{All-head, All-tail, All-get_or}
use Rattle.std.proofs.lemmas.List.Sums.{AllPass-from_list_all, list_all-from_AllPass}
use Rattle.mur_base.specs.Ascii.{percent, dot}
use Rattle.mur_base.specs.Patterns.{matches, behind_byte, behind_some, behind_one, covers, is_wildcard}
use Rattle.imap_types.specs.declared.reply.Attribute.{Attribute}
use Rattle.imap_types.specs.declared.reply.Attribute.TheVariants.{None as no_attribute, NonExistent}
use Rattle.name_listing.specs.Listing.{ends_in_percent, listed_as}
use Rattle.name_listing.specs.Told.{StandsAbove, IsOneLevel, HasNoWildcard}
use Rattle.name_listing.proofs.ToldLaw.{listed_fits, among_from, from_among, not_among, some_below, any_below, mailbox_told, level_told, told_kind}
use Rattle.name_listing.proofs.ToldLaw.{ends_from, from_ends}

star_matches : (text : List ℕ) → matches (codes "*") text ≡ true
unfolding matches behind_byte behind_some is_wildcard covers
star_matches [] = refl
star_matches (b ∷ text) = or_right (matches [] (b ∷ text)) (matches (codes "*") text) (star_matches text)

pub star_all : (names : List (List ℕ)) (name : List ℕ) → Contains names name → listed_as (codes "*") names name ≡ Some no_attribute
star_all names name there = mailbox_told (codes "*") names name (among_from names name there) (star_matches name)

pub star_only : (names : List (List ℕ)) (name : List ℕ) → (Contains names name → ⊥) → listed_as (codes "*") names name ≡ None
unfolding listed_as ends_in_percent
star_only names name none = rw (star_matches name, not_among names name none) refl

no_dot : ℕ → Bool
no_dot b = not (nat_eq b dot)

one_more : (first within one other : Bool) → first ≡ false → one ≡ other → (first || (within && one)) ≡ (within && other)
one_more first within one other none same = rw (none, same) refl

percent_matches : (text : List ℕ) → matches (codes "%") text ≡ list_all no_dot text
unfolding matches behind_byte behind_some is_wildcard covers no_dot
percent_matches [] = refl
percent_matches (b ∷ text) =
    one_more (matches [] (b ∷ text)) (no_dot b) (matches (codes "%") text) (list_all no_dot text) (ne_eqb (length (b ∷ text)) 0 (λ e. omega (arith, e)))
    (percent_matches text)

one_level_from : (text : List ℕ) → list_all no_dot text ≡ true → IsOneLevel text
unfolding no_dot
one_level_from text h = λ k d within same.
    let no = AllPass-from_list_all no_dot text h k d within in
    true≢false (sym (eq-eqb _ dot same) ∙ not-true _ no)

fits_one_level : (text : List ℕ) → IsOneLevel text → matches (codes "%") text ≡ true
unfolding no_dot
fits_one_level text one =
    percent_matches text ∙ list_all-from_AllPass no_dot text (λ k d within. not_from_false _ (ne_eqb _ dot (one k d within)))

pub percent_mailboxes : (names : List (List ℕ)) (name : List ℕ) → IsOneLevel name → Contains names name
    → listed_as (codes "%") names name ≡ Some no_attribute
percent_mailboxes names name one there = mailbox_told (codes "%") names name (among_from names name there) (fits_one_level name one)

pub percent_levels : (names : List (List ℕ)) (name : List ℕ) → IsOneLevel name → Any (StandsAbove name) names → (Contains names name → ⊥)
    → listed_as (codes "%") names name ≡ Some NonExistent
percent_levels names name one some none =
    level_told (codes "%") names name (fits_one_level name one) (not_among names name none) (ends_from (codes "%") [] refl)
    (any_below name names some)

pub percent_only : (names : List (List ℕ)) (name : List ℕ) (attribute : Attribute) → listed_as (codes "%") names name ≡ Some attribute
    → IsOneLevel name × (Contains names name ⊎ Any (StandsAbove name) names)
percent_only names name attribute h = (
  one_level_from name (sym (percent_matches name) ∙ listed_fits (codes "%") names name attribute h),
  elim (told_kind (codes "%") names name attribute h) [
    | inl here ↦ inl (from_among names name here)
    | inr above ↦ inr (some_below name names above.1)
  ],
)

-- a byte that is no wildcard stands for itself
pub plain_byte : (byte : ℕ) (test : List ℕ → Bool) (text : List ℕ) → is_wildcard byte ≡ false → behind_byte byte test text ≡ behind_one byte test text
unfolding behind_byte
plain_byte byte test text h = rw h refl

abbrev StandsForItself : ℕ → Type 0
StandsForItself byte = is_wildcard byte ≡ false

first_plain : (b : ℕ) (rest : List ℕ) → HasNoWildcard (b ∷ rest) → StandsForItself b
first_plain b rest plain = All-head StandsForItself b rest plain

rest_plain : (b : ℕ) (rest : List ℕ) → HasNoWildcard (b ∷ rest) → HasNoWildcard rest
rest_plain b rest plain = All-tail StandsForItself b rest plain

plain_fits : (pattern : List ℕ) → HasNoWildcard pattern → matches pattern pattern ≡ true
unfolding matches behind_one
plain_fits [] plain = refl
plain_fits (b ∷ rest) plain =
    plain_byte b (matches rest) (b ∷ rest) (first_plain b rest plain)
    ∙ rw (eq-eqb b b refl) (plain_fits rest (rest_plain b rest plain))

fits_plain : (pattern text : List ℕ) → HasNoWildcard pattern → matches pattern text ≡ true → text ≡ pattern
unfolding matches behind_one
fits_plain [] [] plain h = refl
fits_plain [] (t ∷ text) plain h = absurd (omega (arith, eqb-true (length (t ∷ text)) 0 h))
fits_plain (b ∷ rest) [] plain h =
    absurd (true≢false (sym h ∙ plain_byte b (matches rest) [] (first_plain b rest plain)))
fits_plain (b ∷ rest) (t ∷ text) plain h =
    let parts = and_parts (nat_eq t b) (matches rest text)
    (sym (plain_byte b (matches rest) (t ∷ text) (first_plain b rest plain)) ∙ h) in
    ap (λ l. t ∷ l) (fits_plain rest text (rest_plain b rest plain) parts.1) ∙ ap (λ x. x ∷ rest) (eqb-true t b parts.0)

pub plain_there : (pattern : List ℕ) (names : List (List ℕ)) → HasNoWildcard pattern → Contains names pattern
    → listed_as pattern names pattern ≡ Some no_attribute
plain_there pattern names plain there = mailbox_told pattern names pattern (among_from names pattern there) (plain_fits pattern plain)

-- a pattern without wildcards ends in none
plain_end : (pattern : List ℕ) → HasNoWildcard pattern → ends_in_percent pattern ≡ true → ⊥
unfolding is_wildcard
plain_end pattern plain h =
    let ends = from_ends pattern h in
    let all : HasNoWildcard (ends.0 ++ percent ∷ []) = subst HasNoWildcard ends.1 plain in
    let last = All-get_or StandsForItself (ends.0 ++ percent ∷ []) (length ends.0) 0 (rw (length_push ends.0 percent) (omega arith)) all in
    true≢false (subst StandsForItself (get_or_at ends.0 percent [] 0 (length ends.0) refl) last)

pub plain_only : (pattern : List ℕ) (names : List (List ℕ)) (name : List ℕ) (attribute : Attribute) → HasNoWildcard pattern
    → listed_as pattern names name ≡ Some attribute → (name ≡ pattern) × Contains names name
plain_only pattern names name attribute plain h = (
  fits_plain pattern name plain (listed_fits pattern names name attribute h),
  elim (told_kind pattern names name attribute h) [
    | inl here ↦ from_among names name here
    | inr above ↦ absurd (plain_end pattern plain above.0)
  ],
)

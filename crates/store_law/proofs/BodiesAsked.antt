-- A body stands among the items of a line exactly where the command asked for one.
use Rattle.std.proofs.Common.{◌≡◌, Bool, true, false, ◌||◌, if◌then◌else◌, List, [], ◌∷◌, ◌++◌, Option, refl, sym, ◌∙◌, ap, ⊎_elim}
use Rattle.std.specs.List.{Contains, list_any}
use Rattle.std.proofs.lemmas.List.Folds.{list_any-append}
use Rattle.mail_message.specs.declared.item.Item.{Item}
use Rattle.mail_message.specs.declared.item.Item.TheVariants as item
use Rattle.mail_message.specs.declared.item.Partial.{Partial}
use Rattle.mur_model.specs.Fetch.{each_once, is_body, same_item}
use Rattle.store_law.specs.DoneIsDone.{AsksBody}
use Rattle.store_law.proofs.ContainsLaws.{at_first, behind_first, first_or_behind, none_there}
use Rattle.store_law.proofs.NeedsFit.{once_asked}

-- ---- asked for

or_is : (a b : Bool) → b ≡ true → (a || b) ≡ true
or_is true b is = refl
or_is false b is = is

body_there : (items : List Item) (part : Option Partial) → Contains items (item.Body part) → list_any is_body items ≡ true
body_there [] part is = absurd (none_there (item.Body part) is)
body_there (one ∷ items) part is = ⊎_elim
    (λ (here : one ≡ item.Body part). rw (ap is_body here) refl)
    (λ (behind : Contains items (item.Body part)). or_is (is_body one) (list_any is_body items) (body_there items part behind))
    (first_or_behind one (item.Body part) items is)

pub asks : (items : List Item) → AsksBody items → list_any is_body items ≡ true
asks items (part, is) = body_there items part is

put_behind : (one : Item) (items : List Item) → AsksBody items → AsksBody (one ∷ items)
put_behind one items (part, is) = (part, behind_first one (item.Body part) items is)

pub asked : (items : List Item) → list_any is_body items ≡ true → AsksBody items
asked [] is = cc
asked (item.Body part ∷ items) is = (part, at_first (item.Body part) items)
asked (item.Flags ∷ items) is = put_behind item.Flags items (asked items is)
asked (item.Uid ∷ items) is = put_behind item.Uid items (asked items is)
asked (item.InternalDate ∷ items) is = put_behind item.InternalDate items (asked items is)
asked (item.Size ∷ items) is = put_behind item.Size items (asked items is)
asked (item.BodyPeek part ∷ items) is = put_behind (item.BodyPeek part) items (asked items is)

-- ---- and in the line

alike : (one other : Item) → same_item one other ≡ true → is_body one ≡ is_body other
alike item.Flags item.Flags is = refl
alike item.Uid item.Uid is = refl
alike item.InternalDate item.InternalDate is = refl
alike item.Size item.Size is = refl
alike (item.Body one) (item.Body other) is = refl
alike (item.BodyPeek one) (item.BodyPeek other) is = refl
alike one other is = cc

told_there : (one : Item) (told : List Item) → is_body one ≡ true → list_any (same_item one) told ≡ true → list_any is_body told ≡ true
told_there one [] body is = cc
told_there one (other ∷ told) body is = by (same_item one other) refl is (told_there one told body)
  where
    by : (same : Bool) → same_item one other ≡ same → (same || list_any (same_item one) told) ≡ true
        → (list_any (same_item one) told ≡ true → list_any is_body told ≡ true) → (is_body other || list_any is_body told) ≡ true
    by true e is rest = rw (sym (alike one other e) ∙ body) refl
    by false e is rest = or_is (is_body other) (list_any is_body told) (rest is)
      where
        or_is : (a b : Bool) → b ≡ true → (a || b) ≡ true
        or_is true b is = refl
        or_is false b is = is

-- from a body that was told, or is this one, or comes later
one_told : (told one more : Bool) → (told || (one || more)) ≡ true → (one ≡ true → told ≡ true) → (told || more) ≡ true
one_told true one more is there = refl
one_told false true more is there = let both : false ≡ true = there refl in cc
one_told false false more is there = is

one_put : (told one more : Bool) → (told || (one || more)) ≡ true → ((told || (one || false)) || more) ≡ true
one_put true one more is = refl
one_put false true more is = refl
one_put false false more is = is

pub in_the_line : (told items : List Item) → (list_any is_body told || list_any is_body items) ≡ true → list_any is_body (each_once told items) ≡ true
in_the_line told [] is = by (list_any is_body told) is
  where
    by : (b : Bool) → (b || false) ≡ true → b ≡ true
    by true is = refl
    by false is = is
in_the_line told (one ∷ items) is = by (list_any (same_item one) told) refl (λ next. in_the_line next items)
  where
    by : (same : Bool) → list_any (same_item one) told ≡ same
        → ((next : List Item) → (list_any is_body next || list_any is_body items) ≡ true → list_any is_body (each_once next items) ≡ true)
        → list_any is_body (each_once (if same then told else told ++ one ∷ []) items) ≡ true
    by true e again =
        again told (one_told (list_any is_body told) (is_body one) (list_any is_body items) is (λ body. told_there one told body e))
    by false e again =
        again (told ++ one ∷ [])
        (ap (λ b. b || list_any is_body items) (list_any-append is_body told (one ∷ []))
        ∙ one_put (list_any is_body told) (is_body one) (list_any is_body items) is)

pub line_asked : (items : List Item) → list_any is_body (each_once [] items) ≡ true → AsksBody items
line_asked items is = asked items (once_asked [] items is)

pub asked_line : (items : List Item) → AsksBody items → list_any is_body (each_once [] items) ≡ true
asked_line items it = in_the_line [] items (asks items it)

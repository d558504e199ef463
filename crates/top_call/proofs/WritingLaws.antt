-- How a list of items is written, one behind the other.
use Rattle.std.proofs.Common.{◌≡◌, ℕ, List, [], ◌∷◌, ◌++◌, ◌+◌, ◌<◌, length, get_or, subst, take, drop, Option, None, Some, Result, Ok, Err, IsErr, refl, arith}
use Rattle.std.proofs.Common.{sym, ap, ◌∙◌, append_assoc}
use Rattle.std.proofs.lemmas.List.{append-nil, take_at, take-append-drop, at_drop_more}
use Rattle.std.proofs.Math.Seq.{take-length}
use Rattle.std.specs.List.{flat_map}
use Rattle.std.specs.Io.KnownBytes.{append_known}
use Rattle.mur_edge.specs.Sink.{Took, TookFront}
use Rattle.mur_edge.proofs.Known.{Took-append, TookFront-append_right}
use Rattle.top_call.specs.Writing.{TakesIn, TookPart, DidPut}

known-nil : (t : Option (List ℕ)) → t ≡ append_known t []
known-nil None = refl
known-nil (Some bytes) = ap Some (sym (append-nil bytes))

-- what was taken, what is kept back and the texts of the items that are left make up the whole
pub record OnWay {X : Type 0} (text : X → List ℕ) (t0 t : Option (List ℕ)) (part kept : List ℕ) (left : List X) (all : List ℕ) : Type 0 where
  pub front : List ℕ
  pub took : Took t0 t front
  pub whole : front ++ (kept ++ flat_map text left) ≡ part ++ all

pub begins : {X : Type 0} (text : X → List ℕ) (t : Option (List ℕ)) (part : List ℕ) (items : List X) → OnWay text t t part part items (flat_map text items)
begins text t part items = record { front = []; took = known-nil t; whole = refl }

-- what was taken before, then a front of what is kept back and a line, then what is left
joined : (front kept line left step back whole : List ℕ) → step ++ back ≡ kept ++ line → front ++ (kept ++ (line ++ left)) ≡ whole
    → front ++ step ++ (back ++ left) ≡ whole
joined front kept line left step back whole same all =
    append_assoc front step (back ++ left)
    ∙ (ap (λ (x : List ℕ). front ++ x) (sym (append_assoc step back left) ∙ (ap (λ (x : List ℕ). x ++ left) same ∙ append_assoc kept line left)) ∙ all)

-- an item of those that are left is taken in
pub goes_on : {X : Type 0} (text : X → List ℕ) (t0 t t1 : Option (List ℕ)) (part kept now : List ℕ) (before rest : List X) (item : X) (all : List ℕ)
    → before ≡ item ∷ rest
    → OnWay text t0 t part kept before all → TakesIn t t1 kept now (text item) → OnWay text t0 t1 part now rest all
goes_on text t0 t t1 part kept now before rest item all is way step =
    let on : way.front ++ (kept ++ (text item ++ flat_map text rest)) ≡ part ++ all =
    subst (λ items. way.front ++ (kept ++ flat_map text items) ≡ part ++ all) is way.whole in record {
      front = way.front ++ step.front;
      took = Took-append t0 t t1 way.front step.front way.took step.took;
      whole = joined way.front kept (text item) (flat_map text rest) step.front now (part ++ all) step.whole on;
    }

-- writing fails inside an item of those that are left
pub breaks : {X : Type 0} (text : X → List ℕ) (t0 t t1 : Option (List ℕ)) (part kept : List ℕ) (before rest : List X) (item : X) (all : List ℕ)
    → before ≡ item ∷ rest
    → OnWay text t0 t part kept before all → TookPart t t1 (kept ++ text item) → TookPart t0 t1 (part ++ all)
breaks text t0 t t1 part kept before rest item all is way step =
    let on : way.front ++ (kept ++ (text item ++ flat_map text rest)) ≡ part ++ all =
    subst (λ items. way.front ++ (kept ++ flat_map text items) ≡ part ++ all) is way.whole in record {
      front = way.front ++ step.front;
      back = step.back ++ flat_map text rest;
      took = Took-append t0 t t1 way.front step.front way.took step.took;
      whole = joined way.front kept (text item) (flat_map text rest) step.front step.back (part ++ all) step.whole on;
    }

-- a call that failed inside has put a front out
pub fails : {E : Type 0} (t now : Option (List ℕ)) (part kept lines : List ℕ) (answer : Result (Unit {0}) E) → IsErr answer → TookPart t now (part ++ lines)
    → DidPut t now part kept lines answer
fails t now part kept lines (Ok done) is took = absurd (grind arith)
fails t now part kept lines (Err fault) is took = took

-- no item is left
pub ends : {X : Type 0} (text : X → List ℕ) (t0 t : Option (List ℕ)) (part kept : List ℕ) (left : List X) (all : List ℕ) → left ≡ []
    → OnWay text t0 t part kept left all → TakesIn t0 t part kept all
ends text t0 t part kept left all is way = record {
  front = way.front;
  took = way.took;
  whole = ap (λ (x : List ℕ). way.front ++ x) (sym (append-nil kept)) ∙ subst (λ items. way.front ++ (kept ++ flat_map text items) ≡ part ++ all) is way.whole;
}

-- the items from one on begin with it
pub items_at : {X : Type 0} (xs : List X) (i : ℕ) (x : X) → i < length xs → x ≡ get_or xs i x → drop i xs ≡ x ∷ drop (i + 1) xs
items_at {X} xs i x h is = at_drop_more (λ items. items) xs i x h ∙ ap (λ (y : X). y ∷ drop (i + 1) xs) (sym is)

-- nothing was taken
pub untouched : (t : Option (List ℕ)) (text : List ℕ) → TookPart t t text
untouched t text = record { front = []; back = text; took = known-nil t; whole = refl }

-- a line is kept back
pub keeps : (t : Option (List ℕ)) (part kept line : List ℕ) → kept ≡ part ++ line → TakesIn t t part kept line
keeps t part kept line is = record { front = []; took = known-nil t; whole = is }

-- all was taken
pub spills : (t now : Option (List ℕ)) (part whole line : List ℕ) → whole ≡ part ++ line → Took t now whole → TakesIn t now part [] line
spills t now part whole line is took = record { front = whole; took = took; whole = append-nil whole ∙ is }

pub part_of_front : (t now : Option (List ℕ)) (text whole : List ℕ) → text ≡ whole → TookFront t now text → TookPart t now whole
part_of_front t now text whole is took = record {
  front = take took.0 text;
  back = drop took.0 text;
  took = took.1;
  whole = take-append-drop took.0 text ∙ is;
}

pub ruleset by_line = (untouched, keeps, spills, part_of_front)

front_of_part : (t now : Option (List ℕ)) (text : List ℕ) → TookPart t now text → TookFront t now text
front_of_part t now text took = (
  length took.front,
  took.took ∙ ap (append_known t)
      (sym (take_at took.front took.back (length took.front) refl) ∙ ap (take (length took.front)) took.whole),
)

-- what is kept back at the end is written
pub all_written : (t t1 t2 : Option (List ℕ)) (none kept last all : List ℕ) → none ≡ [] → last ≡ kept → TakesIn t t1 none kept all → Took t1 t2 last
    → Took t t2 all
all_written t t1 t2 none kept last all empty is taken took =
    subst (λ (text : List ℕ). Took t t2 text)
    (ap (λ (x : List ℕ). taken.front ++ x) is ∙ (taken.whole ∙ ap (λ (x : List ℕ). x ++ all) empty))
    (Took-append t t1 t2 taken.front last taken.took took)

pub last_breaks : (t t1 t2 : Option (List ℕ)) (none kept last all : List ℕ) → none ≡ [] → last ≡ kept → TakesIn t t1 none kept all → TookFront t1 t2 last
    → TookFront t t2 all
last_breaks t t1 t2 none kept last all empty is taken took =
    subst (λ (text : List ℕ). TookFront t t2 text)
    (ap (λ (x : List ℕ). taken.front ++ x) is ∙ (taken.whole ∙ ap (λ (x : List ℕ). x ++ all) empty))
    (TookFront-append_right t t1 t2 taken.front last taken.took took)

pub lines_break : (t now : Option (List ℕ)) (none all : List ℕ) → none ≡ [] → TookPart t now (none ++ all) → TookFront t now all
lines_break t now none all empty took = subst (λ (x : List ℕ). TookFront t now (x ++ all)) empty (front_of_part t now (none ++ all) took)

pub all_in_front : (t now : Option (List ℕ)) (all : List ℕ) → Took t now all → TookFront t now all
all_in_front t now all took = (length all, rw (take-length all) took)

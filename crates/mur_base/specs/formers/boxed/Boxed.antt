-- Where `Boxed` keeps its value, so that a type may hold itself in a box: a search key negates a search key.
use mathlib.Core.Path.{refl}
use mathlib.Core.Former.{Former, this, const, pair, via}
use base.Stored.{gnil}
use base.Fml.{ftrue}
use denote.RattleType.{RattleType}
use denote.Memory.{part_of}
use denote.RawPtr.{Ptr}
use denote.Sharing.{nothing}
use denote.HoleLaws.{Alike}
use denote.HolePlaces.{Recodes, struct_places, laid, one_value}
use denote.Hole.Fix.{over}
use denote.Param.Weighed.{Weighed}
use denote.Model.Placed.{view_places}
use Rattle.std.specs.declared.boxed.Box.{Box}
use Rattle.std.specs.contracts.boxed.Box as boxes
use Rattle.std.specs.declared.alloc.Global.{Global}
use Rattle.std.specs.contracts.alloc.Global as heap
use Rattle.std.specs.contracts.impls.GlobalAllocator.TheImpl.{ghosts}
use Rattle.mur_base.specs.declared.boxed.Boxed.TheInside.{Inside}
use Rattle.mur_base.specs.declared.boxed.Boxed.TheView.{view, invariant}
use Rattle.mur_base.specs.contracts.boxed.Boxed as seen
use Rattle.mur_base.specs.contracts.boxed.Boxed.TheInside as inside

-- contracts see the value, so its former is that of the value
abbrev pub the_former : Former {0} → Former {0}
the_former value = value

abbrev pub the_weighed : {value : Former {0}} → Weighed value → Weighed (the_former value)
the_weighed weighed = weighed

-- the one field: a pointer with its allocator, and the value behind it
abbrev field : Former {0}
field =
    via (pair (const (Ptr × Global)) this) Inside (λ T boxed. ((boxed.held.ptr, boxed.held.alloc), boxed.held.value))
    (λ T parts. record { held = record { ptr = parts.0.0; alloc = parts.0.1; value = parts.1 } }) (λ T boxed. refl) (λ T parts. refl)

-- the same place with another value
abbrev with_value : {T U : Type 0} → Box T Global → U → Box U Global
with_value held value = record { ptr = held.ptr; alloc = held.alloc; value = value }

abbrev box_of : RattleType → RattleType
box_of R = boxes.the_row R heap.the_row ghosts

module _ (R S : RattleType) (h : R.Denot → S.Denot) where
  box_places : Alike R S h → Alike (box_of R) (box_of S) (λ held. with_value held (h held.value))
  unfolding part_of
  box_places alike = record {
    mir_same = λ i. (box_of (one_value R (alike.mir_same i) (λ _. ftrue) (λ _ _. nothing) gnil)).mir;
    own_same = λ held i.
        (box_of (one_value R (alike.mir_same i) (alike.own_same held.value i) (alike.shr_same held.value i) gnil)).own_val (with_value held tt);
    shr_same = λ held i.
        (box_of (one_value R (alike.mir_same i) (alike.own_same held.value i) (alike.shr_same held.value i) gnil)).shr_at (with_value held tt);
  }

  pub the_places : Alike R S h → Alike (seen.the_row R) (seen.the_row S) ((the_former this).map R.Denot S.Denot h)
  the_places alike =
      view_places field this view (λ T U k boxed. refl) (λ T boxed. refl) R.Denot S.Denot h (seen.the_row R).coded (seen.the_row S).coded
      (invariant R.Denot) (invariant S.Denot) (λ boxed p q. refl) (λ boxed p q. refl) (λ boxed e. tt) (λ boxed e. tt)
      (over (inside.the_row R)) (over (inside.the_row S))
      (struct_places (inside.the_type R) (inside.the_type S) ((λ held. with_value held (h held.value)), tt) _ (λ boxed. refl) refl
      (laid _ _ _ (box_places alike), tt))

  pub the_codes_placed : Recodes R S h → Recodes (seen.the_row R) (seen.the_row S) ((the_former this).map R.Denot S.Denot h)
  the_codes_placed same value = same value

-- What a loan from a map gives back.
use Rattle.std.specs.Prelude.{List, Option}
use Rattle.std.specs.Borrow.{LendsIf, MutBor, Fml, RattleType}
use Rattle.std.specs.BTreeMap.Lent.{OrdMembers}
use Rattle.mur_base.specs.Map.{with_value}
use Rattle.mur_base.specs.contracts.map.Map.{the_row}

module _ (K V : RattleType) (order : OrdMembers K.Denot) (map : MutBor (List (K.Denot × V.Denot))) where
  -- the map ends with the last value written through the loan at the key, or unchanged where the key is not there
  abbrev pub lends_value : K.Denot → Option (MutBor V.Denot) → Fml
  lends_value key loan =
      LendsIf (the_row K V (record { cmp = order.cmp }) (record { eq = order.eq }) (record { partial_cmp = order.partial_cmp })) V
      map loan (with_value order.cmp map.now key) map.now

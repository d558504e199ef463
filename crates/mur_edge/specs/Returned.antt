-- What came back, in order.
use Rattle.std.specs.Prelude.{List, [], ◌∷◌, ◌++◌}
use Rattle.mur_edge.specs.declared.returned.Chain.{Chain}
use Rattle.mur_edge.specs.declared.returned.Chain.TheVariants.{End, More'}

-- the entries of a chain, the oldest first
abbrev pub chain_entries : {T : Type 0} → Chain T → List T
chain_entries End = []
chain_entries (More' entry _ older) = chain_entries older ++ entry ∷ []

-- An entry about some things, by how many there are.
use Rattle.std.proofs.Common.{◌≡◌, ◌≢◌, List, [], ◌∷◌, length, refl}
use Rattle.node_record.specs.declared.backend.BackendRecord.{BackendRecord}
use Rattle.backend_core.specs.OpPlan.{entry_of}

pub entry_none : {A : Type 0} (entry : List A → BackendRecord) (list : List A) → length list ≡ 0 → entry_of entry list ≡ []
unfolding entry_of
entry_none entry [] none = refl
entry_none entry (first ∷ rest) none = cc

pub entry_some : {A : Type 0} (entry : List A → BackendRecord) (list : List A) → length list ≢ 0 → entry_of entry list ≡ entry list ∷ []
unfolding entry_of
entry_some entry [] some = absurd (some refl)
entry_some entry (first ∷ rest) some = refl

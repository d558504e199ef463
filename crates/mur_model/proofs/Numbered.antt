-- Lists of connections, and what has a number in them.
use Rattle.std.proofs.Common.{◌≡◌, ◌≢◌, ℕ, suc, zero, ◌+◌, ◌≤◌, Bool, true, false, cond, nat_eq, List, [], ◌∷◌, ◌++◌, length, Some, refl, ◌∙◌, ap, arith}
use Rattle.std.proofs.Common.{add-one, length-append}
use Rattle.std.specs.Prelude.{slice_get}
use Rattle.std.proofs.lemmas.Bool.Decides.{nat_tests}
use Rattle.mur_model.specs.History.{numbered}

-- one item more at a connection
unfoldable pub with_item : {T : Type 0} → (ℕ → List T) → ℕ → T → ℕ → List T
with_item lists conn item other = cond (nat_eq other conn) (lists other ++ item ∷ []) (lists other)

pub with_item-same : {T : Type 0} (lists : ℕ → List T) (conn : ℕ) (item : T) → with_item lists conn item conn ≡ lists conn ++ item ∷ []
unfolding with_item
with_item-same lists conn item = let same : nat_eq conn conn ≡ true = grind (arith, nat_tests) in rw same refl

pub with_item-other : {T : Type 0} (lists : ℕ → List T) (conn : ℕ) (item : T) (other : ℕ) → other ≢ conn → with_item lists conn item other ≡ lists other
unfolding with_item
with_item-other lists conn item other ne = let apart : nat_eq other conn ≡ false = grind (arith, nat_tests) in rw apart refl

pub length_with_item : {T : Type 0} (lists : ℕ → List T) (conn : ℕ) (item : T) → length (with_item lists conn item conn) ≡ length (lists conn) + 1
length_with_item lists conn item = ap length (with_item-same lists conn item) ∙ length-append (lists conn) (item ∷ [])

get_more : {T : Type 0} (items more : List T) (k : ℕ) (item : T) → slice_get items k ≡ Some item → slice_get (items ++ more) k ≡ Some item
get_more [] more k item h = cc
get_more (first ∷ items) more zero item h = h
get_more (first ∷ items) more (suc k) item h = get_more items more k item h

get_last : {T : Type 0} (items : List T) (item : T) → slice_get (items ++ item ∷ []) (length items) ≡ Some item
get_last [] item = refl
get_last (first ∷ items) item = get_last items item

-- what is numbered stays so in a longer list
pub numbered_more : {T : Type 0} (items more : List T) (number : ℕ) (item : T) → numbered items number ≡ Some item → numbered (items ++ more) number ≡ Some item
unfolding numbered
numbered_more items more zero item h = cc
numbered_more items more (suc number) item h = get_more items more number item h

-- the item that was put at the end has the next number
pub numbered_last : {T : Type 0} (items : List T) (item : T) → numbered (items ++ item ∷ []) (length items + 1) ≡ Some item
unfolding numbered
numbered_last items item = rw (add-one (length items)) (get_last items item)

pub numbered_new : {T : Type 0} (lists : ℕ → List T) (conn : ℕ) (item : T) (n : ℕ) → n ≡ length (lists conn)
    → numbered (with_item lists conn item conn) (n + 1) ≡ Some item
numbered_new lists conn item n e = rw (with_item-same lists conn item, e) (numbered_last (lists conn) item)

by_lengths : {T U : Type 0} (lists : ℕ → List T) (others : ℕ → List U) (conn : ℕ) (item : T) (another : U) (at : ℕ) (same : Bool) → nat_eq at conn ≡ same
    → length (lists at) ≡ length (others at) → length (with_item lists conn item at) ≡ length (with_item others conn another at)
unfolding with_item
by_lengths lists others conn item another at true h e = rw h (omega (arith, e, length-append (lists at) (item ∷ []), length-append (others at) (another ∷ [])))
by_lengths lists others conn item another at false h e = rw h e

-- lists of one length get one item each
pub with_item-lengths : {T U : Type 0} (lists : ℕ → List T) (others : ℕ → List U) (conn : ℕ) (item : T) (another : U) (at : ℕ)
    → length (lists at) ≡ length (others at) → length (with_item lists conn item at) ≡ length (with_item others conn another at)
with_item-lengths lists others conn item another at e = by_lengths lists others conn item another at (nat_eq at conn) refl e

by_longer : {T : Type 0} (lists : ℕ → List T) (conn : ℕ) (item : T) (other : ℕ) (same : Bool) → nat_eq other conn ≡ same
    → length (lists other) ≤ length (with_item lists conn item other)
unfolding with_item
by_longer lists conn item other true h = rw h (omega (arith, length-append (lists other) (item ∷ [])))
by_longer lists conn item other false h = rw h (omega arith)

pub with_item-longer : {T : Type 0} (lists : ℕ → List T) (conn : ℕ) (item : T) (other : ℕ) → length (lists other) ≤ length (with_item lists conn item other)
with_item-longer lists conn item other = by_longer lists conn item other (nat_eq other conn) refl

-- What is computed for all values of the finite types holds for each.
use Rattle.std.proofs.Common.{◌≡◌, ℕ, zero, suc, Bool, true, false, ◌&&◌, List, [], ◌∷◌, refl}
use Rattle.std.specs.Prelude.{⊤}
use Rattle.home_law.specs.Items.{bare, kept, active, Seen, free, other, own, Mine, away, mine, HomePhase, no_phase, creating, serving, closing, pointer, HomeFlow, idle, reserving, making, pausing, deleting, Resync, synced, listing, listed, Item, backend_up, backend_end, listed_active, listed_reserved, list_ok, reserve_ok, reserve_no, make_ok, make_no, again_ok, deactivate_ok, delete_ok, wipe_ok, found, found_ok, not_found, refused, master_up, master_end, list, reserve, make, again, deactivate, delete, wipe, find, Ctl}
use Rattle.home_law.specs.LinkOk.{EachItem}

-- a row of tests, all true
unfoldable pub all_true : List Bool → Bool
all_true [] = true
all_true (b ∷ bs) = b && all_true bs

unfoldable pub AllTrue : List Bool → Type 0
AllTrue [] = ⊤
AllTrue (b ∷ bs) = (b ≡ true) × AllTrue bs

split_by : (b : Bool) (bs : List Bool) → b && all_true bs ≡ true → (all_true bs ≡ true → AllTrue bs) → (b ≡ true) × AllTrue bs
split_by true bs h more = (refl, more h)
split_by false bs h more = cc

pub split : (bs : List Bool) → all_true bs ≡ true → AllTrue bs
unfolding all_true AllTrue
split [] h = tt
split (b ∷ bs) h = split_by b bs h (split bs)

-- a test that is asked only under another; the other is not computed where the first fails
unfoldable pub provided : Bool → (Bool → Bool) → Bool
provided true f = f true
provided false f = true

pub given : (b : Bool) (f : Bool → Bool) → provided b f ≡ true → b ≡ true → f true ≡ true
unfolding provided
given true f h e = h
given false f h e = cc

unfoldable pub every : (Item → Bool) → List Item → Bool
every f [] = true
every f (x ∷ xs) = f x && every f xs

every_by : (f : Item → Bool) (b : Bool) (e : Bool) → b && e ≡ true → (b ≡ true) × (e ≡ true)
every_by f true e h = (refl, h)
every_by f false e h = cc

pub each_from_every : (f : Item → Bool) (xs : List Item) → every f xs ≡ true → EachItem (λ x. f x ≡ true) xs
unfolding every EachItem
each_from_every f [] h = tt
each_from_every f (x ∷ xs) h = ((every_by f (f x) (every f xs) h).0, each_from_every f xs (every_by f (f x) (every f xs) h).1)

abbrev pub items : List Item
items = backend_up ∷ backend_end ∷ listed_active ∷ listed_reserved ∷ list_ok ∷ reserve_ok ∷ reserve_no ∷ make_ok ∷ make_no ∷ again_ok ∷ deactivate_ok ∷ delete_ok ∷ wipe_ok ∷ found ∷ found_ok ∷ not_found ∷ refused ∷ master_up ∷ master_end ∷ list ∷ reserve ∷ make ∷ again ∷ deactivate ∷ delete ∷ wipe ∷ find ∷ []

unfoldable pub at : List Item → ℕ → Item
at [] n = backend_up
at (x ∷ xs) zero = x
at (x ∷ xs) (suc n) = at xs n

every_at : (f : Item → Bool) (xs : List Item) (n : ℕ) → f backend_up ≡ true → every f xs ≡ true → f (at xs n) ≡ true
unfolding every at
every_at f [] n d h = d
every_at f (x ∷ xs) zero d h = (every_by f (f x) (every f xs) h).0
every_at f (x ∷ xs) (suc n) d h = every_at f xs n d (every_by f (f x) (every f xs) h).1

unfoldable pub all_items : (Item → Bool) → Bool
unfolding every
all_items f = every f items

item_at : (f : Item → Bool) (n : ℕ) → all_items f ≡ true → f (at items n) ≡ true
unfolding all_items every
item_at f n h = every_at f items n (every_by f (f backend_up) (every f (backend_end ∷ listed_active ∷ listed_reserved ∷ list_ok ∷ reserve_ok ∷ reserve_no ∷ make_ok ∷ make_no ∷ again_ok ∷ deactivate_ok ∷ delete_ok ∷ wipe_ok ∷ found ∷ found_ok ∷ not_found ∷ refused ∷ master_up ∷ master_end ∷ list ∷ reserve ∷ make ∷ again ∷ deactivate ∷ delete ∷ wipe ∷ find ∷ [])) h).0 h

pub items_all : (f : Item → Bool) → all_items f ≡ true → (x : Item) → f x ≡ true
unfolding at
items_all f h backend_up = item_at f 0 h
items_all f h backend_end = item_at f 1 h
items_all f h listed_active = item_at f 2 h
items_all f h listed_reserved = item_at f 3 h
items_all f h list_ok = item_at f 4 h
items_all f h reserve_ok = item_at f 5 h
items_all f h reserve_no = item_at f 6 h
items_all f h make_ok = item_at f 7 h
items_all f h make_no = item_at f 8 h
items_all f h again_ok = item_at f 9 h
items_all f h deactivate_ok = item_at f 10 h
items_all f h delete_ok = item_at f 11 h
items_all f h wipe_ok = item_at f 12 h
items_all f h found = item_at f 13 h
items_all f h found_ok = item_at f 14 h
items_all f h not_found = item_at f 15 h
items_all f h refused = item_at f 16 h
items_all f h master_up = item_at f 17 h
items_all f h master_end = item_at f 18 h
items_all f h list = item_at f 19 h
items_all f h reserve = item_at f 20 h
items_all f h make = item_at f 21 h
items_all f h again = item_at f 22 h
items_all f h deactivate = item_at f 23 h
items_all f h delete = item_at f 24 h
items_all f h wipe = item_at f 25 h
items_all f h find = item_at f 26 h

unfoldable pub all_bools : (Bool → Bool) → Bool
unfolding all_true
all_bools f = all_true (f true ∷ f false ∷ [])

pub bools_all : (f : Bool → Bool) → all_bools f ≡ true → (b : Bool) → f b ≡ true
unfolding all_bools AllTrue
bools_all f h true = (split (f true ∷ f false ∷ []) h).0
bools_all f h false = (split (f true ∷ f false ∷ []) h).1.0

unfoldable pub all_mines : (Mine → Bool) → Bool
unfolding all_true
all_mines f = all_true (f away ∷ f (mine bare) ∷ f (mine kept) ∷ f (mine active) ∷ [])

pub mines_all : (f : Mine → Bool) → all_mines f ≡ true → (m : Mine) → f m ≡ true
unfolding all_mines AllTrue
mines_all f h away = (split (f away ∷ f (mine bare) ∷ f (mine kept) ∷ f (mine active) ∷ []) h).0
mines_all f h (mine bare) = (split (f away ∷ f (mine bare) ∷ f (mine kept) ∷ f (mine active) ∷ []) h).1.0
mines_all f h (mine kept) = (split (f away ∷ f (mine bare) ∷ f (mine kept) ∷ f (mine active) ∷ []) h).1.1.0
mines_all f h (mine active) = (split (f away ∷ f (mine bare) ∷ f (mine kept) ∷ f (mine active) ∷ []) h).1.1.1.0

unfoldable pub all_seens : (Seen → Bool) → Bool
unfolding all_true
all_seens f = all_true (f free ∷ f other ∷ f (own bare) ∷ f (own kept) ∷ f (own active) ∷ [])

pub seens_all : (f : Seen → Bool) → all_seens f ≡ true → (s : Seen) → f s ≡ true
unfolding all_seens AllTrue
seens_all f h free = (split (f free ∷ f other ∷ f (own bare) ∷ f (own kept) ∷ f (own active) ∷ []) h).0
seens_all f h other = (split (f free ∷ f other ∷ f (own bare) ∷ f (own kept) ∷ f (own active) ∷ []) h).1.0
seens_all f h (own bare) = (split (f free ∷ f other ∷ f (own bare) ∷ f (own kept) ∷ f (own active) ∷ []) h).1.1.0
seens_all f h (own kept) = (split (f free ∷ f other ∷ f (own bare) ∷ f (own kept) ∷ f (own active) ∷ []) h).1.1.1.0
seens_all f h (own active) = (split (f free ∷ f other ∷ f (own bare) ∷ f (own kept) ∷ f (own active) ∷ []) h).1.1.1.1.0

unfoldable pub all_phases : (HomePhase → Bool) → Bool
unfolding all_true
all_phases f = all_true (f no_phase ∷ f creating ∷ f serving ∷ f closing ∷ f pointer ∷ [])

phases_all : (f : HomePhase → Bool) → all_phases f ≡ true → (p : HomePhase) → f p ≡ true
unfolding all_phases AllTrue
phases_all f h no_phase = (split (f no_phase ∷ f creating ∷ f serving ∷ f closing ∷ f pointer ∷ []) h).0
phases_all f h creating = (split (f no_phase ∷ f creating ∷ f serving ∷ f closing ∷ f pointer ∷ []) h).1.0
phases_all f h serving = (split (f no_phase ∷ f creating ∷ f serving ∷ f closing ∷ f pointer ∷ []) h).1.1.0
phases_all f h closing = (split (f no_phase ∷ f creating ∷ f serving ∷ f closing ∷ f pointer ∷ []) h).1.1.1.0
phases_all f h pointer = (split (f no_phase ∷ f creating ∷ f serving ∷ f closing ∷ f pointer ∷ []) h).1.1.1.1.0

unfoldable pub all_flows : (HomeFlow → Bool) → Bool
unfolding all_true
all_flows f = all_true (f idle ∷ f reserving ∷ f making ∷ f pausing ∷ f deleting ∷ [])

flows_all : (f : HomeFlow → Bool) → all_flows f ≡ true → (p : HomeFlow) → f p ≡ true
unfolding all_flows AllTrue
flows_all f h idle = (split (f idle ∷ f reserving ∷ f making ∷ f pausing ∷ f deleting ∷ []) h).0
flows_all f h reserving = (split (f idle ∷ f reserving ∷ f making ∷ f pausing ∷ f deleting ∷ []) h).1.0
flows_all f h making = (split (f idle ∷ f reserving ∷ f making ∷ f pausing ∷ f deleting ∷ []) h).1.1.0
flows_all f h pausing = (split (f idle ∷ f reserving ∷ f making ∷ f pausing ∷ f deleting ∷ []) h).1.1.1.0
flows_all f h deleting = (split (f idle ∷ f reserving ∷ f making ∷ f pausing ∷ f deleting ∷ []) h).1.1.1.1.0

unfoldable pub all_resyncs : (Resync → Bool) → Bool
unfolding all_true
all_resyncs f = all_true (f synced ∷ f listing ∷ f listed ∷ [])

resyncs_all : (f : Resync → Bool) → all_resyncs f ≡ true → (p : Resync) → f p ≡ true
unfolding all_resyncs AllTrue
resyncs_all f h synced = (split (f synced ∷ f listing ∷ f listed ∷ []) h).0
resyncs_all f h listing = (split (f synced ∷ f listing ∷ f listed ∷ []) h).1.0
resyncs_all f h listed = (split (f synced ∷ f listing ∷ f listed ∷ []) h).1.1.0

abbrev pub ctl_of : HomePhase → HomeFlow → Resync → Bool → Bool → Ctl
ctl_of p f s h l = record { phase = p; flow = f; resync = s; hears = h; linked = l }

unfoldable pub all_ctls : (Ctl → Bool) → Bool
unfolding all_phases all_flows all_resyncs all_bools
all_ctls g = all_phases (λ p. all_flows (λ f. all_resyncs (λ s. all_bools (λ h. all_bools (λ l. g (ctl_of p f s h l))))))

pub ctls_all : (g : Ctl → Bool) → all_ctls g ≡ true → (c : Ctl) → g c ≡ true
unfolding all_ctls
ctls_all g e c =
    bools_all (λ l. g (ctl_of c.phase c.flow c.resync c.hears l))
    (bools_all (λ h. all_bools (λ l. g (ctl_of c.phase c.flow c.resync h l)))
    (resyncs_all (λ s. all_bools (λ h. all_bools (λ l. g (ctl_of c.phase c.flow s h l))))
    (flows_all (λ f. all_resyncs (λ s. all_bools (λ h. all_bools (λ l. g (ctl_of c.phase f s h l)))))
    (phases_all (λ p. all_flows (λ f. all_resyncs (λ s. all_bools (λ h. all_bools (λ l. g (ctl_of p f s h l)))))) e c.phase)
    c.flow) c.resync) c.hears) c.linked

-- The phase of a name at a backend.
use Rattle.std.specs.Prelude.{ℕ, Bool, true, false, List, Option, None, Some}
use Rattle.mur_base.specs.declared.home.Phase.{Phase}
use Rattle.mur_base.specs.declared.home.Phase.TheVariants.{Creating, Open, Closing, Receiving, Ready, Pointer}
use Rattle.node_record.specs.declared.held.Held.{Held}

abbrev pub is_creating_phase : Phase → Bool
is_creating_phase Creating = true
is_creating_phase phase = false

abbrev pub is_open_phase : Phase → Bool
is_open_phase Open = true
is_open_phase phase = false

abbrev pub is_closing_phase : Phase → Bool
is_closing_phase Closing = true
is_closing_phase phase = false

abbrev pub pointer_of : Phase → Option (List ℕ)
pointer_of (Pointer server) = Some server
pointer_of phase = None

-- the mailbox was made here, and isn't yet known to be active
abbrev pub is_creating : Option Held → Bool
is_creating None = false
is_creating (Some it) = is_creating_phase it.phase

-- the mailbox is open here
abbrev pub is_open : Option Held → Bool
is_open None = false
is_open (Some it) = is_open_phase it.phase

-- the mailbox is closed here
abbrev pub is_closing : Option Held → Bool
is_closing None = false
is_closing (Some it) = is_closing_phase it.phase

-- the server that the mailbox has moved to
abbrev pub pointer_in : Option Held → Option (List ℕ)
pointer_in None = None
pointer_in (Some it) = pointer_of it.phase

-- The home law of one name: what holds at every moment of every run, whatever is asked, breaks and crashes.
use Rattle.std.specs.Prelude.{◌≡◌, Bool, true, ◌⊎◌, List, [], ◌∷◌}
use Rattle.home_law.specs.Items.{RecordKind, kept, active, recorded, Server, HomePhase, creating, serving, closing, Item, refused}
use Rattle.home_law.specs.Steps.{answer}
use Rattle.home_law.specs.Link.{see}
use Rattle.home_law.specs.NameRun.{NameWorld, NameEvent, name_start, name_run}
use Rattle.home_law.specs.LinkOk.{EachItem}

-- the phase at a backend
abbrev pub phase_at : NameWorld → Server → HomePhase
phase_at w b = (w.back b).ctl.phase

pub record NameLaw (w : NameWorld) : Type 0 where
  -- at most one backend serves the name
  pub one_home : (a b : Server) → phase_at w a ≡ serving → phase_at w b ≡ serving → a ≡ b
  -- and the record says which one: it is active there, or reserved there with an access list
  pub home_is_named : (b : Server) → phase_at w b ≡ serving → (w.known ≡ recorded active b) ⊎ (w.known ≡ recorded kept b)
  -- a mailbox is at the backend that its record names: one that is active
  pub active_is_there : (b : Server) → w.known ≡ recorded active b → (phase_at w b ≡ creating) ⊎ (phase_at w b ≡ serving) ⊎ (phase_at w b ≡ closing)
  -- and one that is reserved
  pub reserved_is_there : (b : Server) → w.known ≡ recorded kept b → (phase_at w b ≡ serving) ⊎ (phase_at w b ≡ closing)
  -- the master refuses no line but RESERVE and ACTIVATE of a CREATE, also of a backend whose link is broken
  pub none_refused : (b : Server) (is_full : Bool) (x : Item) (u : List Item) → (w.back b).up ≡ x ∷ u
      → EachItem (λ y. y ≡ refused → ⊥) (answer is_full (see w.known b) x).says
  -- no name stays reserved: if nothing is on a whole link, a record that names its backend is active
  pub reserved_ends : (b : Server) (k : RecordKind) → w.known ≡ recorded k b → (w.back b).ctl.linked ≡ true → (w.back b).down ≡ [] → (w.back b).up ≡ []
      → k ≡ active

abbrev pub KeepsNameLaw : Type 0
KeepsNameLaw = (events : List NameEvent) → NameLaw (name_run name_start events)

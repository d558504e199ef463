-- The invariant of one name: what holds of a backend, of the record as it finds it, and of both queues of its link, at each moment.
use Rattle.std.specs.Prelude.{◌≡◌, Bool, true, false, ◌⊎◌, List, [], ◌∷◌, ⊤}
use Rattle.home_law.specs.Items.{Mine, Item, backend_up, backend_end, Server}
use Rattle.home_law.specs.Link.{Back, see}
use Rattle.home_law.specs.NameRun.{NameWorld}
use Rattle.home_law.specs.Rows.{mine_of, control_ok, answer_ok, line_ok, precedes, first_answer_ok, first_line_ok, is_unfinished, finishes, waits, is_awaited}

-- each message of a queue
unfoldable pub EachItem : (Item → Type 0) → List Item → Type 0
EachItem P [] = ⊤
EachItem P (x ∷ xs) = P x × EachItem P xs

-- each message of a queue may come before each later one
unfoldable pub InSequence : List Item → Type 0
unfolding EachItem
InSequence [] = ⊤
InSequence (x ∷ xs) = EachItem (λ y. precedes x y ≡ true) xs × InSequence xs

-- the first message of a queue, if there is one
unfoldable pub FirstItem : (Item → Type 0) → List Item → Type 0
FirstItem P [] = ⊤
FirstItem P (x ∷ xs) = P x

-- some message of a queue
unfoldable pub SomeItem : (Item → Type 0) → List Item → Type 0
SomeItem P [] = ⊥
SomeItem P (x ∷ xs) = P x ⊎ SomeItem P xs

-- whether the backend will treat the link as up when it has taken all that comes
unfoldable pub hears_then : Bool → List Item → Bool
hears_then h [] = h
hears_then h (backend_up ∷ xs) = hears_then true xs
hears_then h (backend_end ∷ xs) = hears_then false xs
hears_then h (x ∷ xs) = hears_then h xs

pub record LinkOk (m : Mine) (k : Back) : Type 0 where
  -- record, phase, flow and resync fit
  pub control : control_ok m k.ctl ≡ true
  -- each message on its way fits them
  pub downs : EachItem (λ x. answer_ok m k.ctl x ≡ true) k.down
  pub ups : EachItem (λ x. line_ok m k.ctl x ≡ true) k.up
  -- the messages come in an order, those to the backend before its lines
  pub down_sorted : InSequence k.down
  pub up_sorted : InSequence k.up
  pub across : EachItem (λ x. EachItem (λ y. precedes x y ≡ true) k.up) k.down
  -- and the first of each queue fits
  pub down_first : FirstItem (λ x. first_answer_ok m k.ctl x ≡ true) k.down
  pub up_first : FirstItem (λ x. first_line_ok m k.ctl x ≡ true) k.up
  -- when the backend has taken all that comes, it treats the link as it is
  pub tied : hears_then k.ctl.hears k.down ≡ k.ctl.linked
  -- on a whole link a name doesn't stay reserved
  pub finished : is_unfinished m k.ctl ≡ true → SomeItem (λ x. finishes m k.ctl x ≡ true) k.down ⊎ SomeItem (λ x. finishes m k.ctl x ≡ true) k.up
  -- on a whole link what a flow or a resync waits for is on its way
  pub awaited : waits k.ctl ≡ true → SomeItem (λ x. is_awaited k.ctl x ≡ true) k.down ⊎ SomeItem (λ x. is_awaited k.ctl x ≡ true) k.up

-- the invariant at every backend
abbrev pub NameOk : NameWorld → Type 0
NameOk w = (b : Server) → LinkOk (mine_of (see w.known b)) (w.back b)

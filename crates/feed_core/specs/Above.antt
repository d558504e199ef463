-- The names above a name, by whose homes a new mailbox finds its own.
use Rattle.std.specs.Prelude.{◌≡◌, ℕ, ◌+◌, ◌≤◌, List, ◌∷◌, ◌++◌, length, Option, None, Some}
use Rattle.mur_base.specs.Ascii.{dot}
use Rattle.mur_base.specs.Names.{mail_name_fault}
use Rattle.mur_base.specs.declared.name.NameFault.{NameFault}
use Rattle.feed_core.specs.declared.rec.Rec.{Rec}
use Rattle.feed_core.specs.Feed.{Recs, rec_at}

-- the record of the name that a text is, if it is one and has one
abbrev pub rec_by : Recs → List ℕ → Option NameFault → Option Rec
rec_by recs text None = rec_at recs text
rec_by recs text (Some fault) = None

abbrev pub rec_of_text : Recs → List ℕ → Option Rec
rec_of_text recs text = rec_by recs text (mail_name_fault text)

-- a text is above a name: the name goes on with a separator
abbrev pub IsAbove : List ℕ → List ℕ → Type 0
IsAbove above name = (rest : List ℕ) × (name ≡ above ++ dot ∷ rest)

-- none above of at least so many bytes has a record
abbrev pub NoneAbove : Recs → List ℕ → ℕ → Type 0
NoneAbove recs name least = (above : List ℕ) → IsAbove above name → least ≤ length above → rec_of_text recs above ≡ None

-- one above has this record, and no longer one has any
pub record HasAbove (recs : Recs) (name : List ℕ) (it : Rec) : Type 0 where
  pub above : List ℕ
  pub is_above : IsAbove above name
  pub has : rec_of_text recs above ≡ Some it
  pub nearest : NoneAbove recs name (length above + 1)

-- this is the record of the nearest one above that has one, or none above has any
abbrev pub IsNearestAbove : Recs → List ℕ → Option Rec → Type 0
IsNearestAbove recs name None = NoneAbove recs name 0
IsNearestAbove recs name (Some it) = HasAbove recs name it

-- Whom a frontend asks for a command on a name: the server of its record; for a new mailbox that of the nearest name above.
use Rattle.std.specs.Prelude.{ℕ, zero, suc, nat_eq, get_or, if◌then◌else◌, take, length, List, Option, None, Some}
use Rattle.mur_base.specs.Ascii.{dot}
use Rattle.feed_core.specs.declared.rec.Rec.{Rec}
use Rattle.feed_core.specs.Above.{rec_of_text}
use Rattle.feed_core.specs.Feed.{Recs, place_in, rec_at}

abbrev pub server_in : Rec → List ℕ
server_in it = (place_in it).server

abbrev pub server_by : Option Rec → Option (List ℕ)
server_by None = None
server_by (Some it) = Some (server_in it)

-- the server of a name's record, if it has one
abbrev pub server_at : Recs → List ℕ → Option (List ℕ)
server_at recs name = server_by (rec_at recs name)

abbrev pub or_else : Option Rec → Option Rec → Option Rec
or_else None other = other
or_else (Some it) other = Some it

-- of the names above of fewer bytes than so many, the record of the longest that has one
unfoldable pub above_within : Recs → List ℕ → ℕ → Option Rec
above_within recs name zero = None
above_within recs name (suc n) =
    if nat_eq (get_or name n 0) dot then or_else (rec_of_text recs (take n name)) (above_within recs name n) else above_within recs name n

-- the record of the nearest name above, of those that have one
abbrev pub above_at : Recs → List ℕ → Option Rec
above_at recs name = above_within recs name (length name)

abbrev pub home_by : List ℕ → Option Rec → List ℕ
home_by first None = first
home_by first (Some it) = server_in it

-- the server at which a new mailbox of this name is made: that of the nearest name above, else the first one
abbrev pub home_for : Recs → List ℕ → List ℕ → List ℕ
home_for recs first name = home_by first (above_at recs name)

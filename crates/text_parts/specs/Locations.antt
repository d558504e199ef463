-- Locations: the name of a server, "!" and the name of a partition.
use Rattle.std.specs.Prelude.{ℕ, ◌-◌, Bool, ◌&&◌, nat_le, List, ◌∷◌, ◌++◌, length, max, min}
use Rattle.std.specs.List.{list_all}
use Rattle.mur_base.specs.Names.{is_short_name_byte}
use Rattle.mur_base.specs.declared.home.Location.{Location}
use Rattle.mur_base.specs.declared.limits.TheConstants.{SHORT_NAME_LIMIT}
use Rattle.grammar.specs.Part.{Part, ◌then◌, map, byte, exactly}
use Rattle.grammar.specs.Words.{Words, word}
use Rattle.grammar.specs.Runs.{run_upto}

-- from `least` to `most` bytes that pass the test (least*most X)
abbrev pub run_within : ℕ → ℕ → (ℕ → Bool) → Words
run_within least most test = record {
  begins = λ s. list_all test s && nat_le (length s) most;
  whole = λ s. (list_all test s && nat_le (length s) most) && nat_le least (length s);
}

-- the nearest number between two bounds
abbrev pub clamped : ℕ → ℕ → ℕ → ℕ
clamped low high n = max low (min high n)

abbrev pub bang : ℕ
bang = 33

abbrev pub located : List ℕ → List ℕ → Location
located server partition = record { server = server; partition = partition }

-- the name of a server or of a partition
abbrev pub short_names : Words
short_names = run_upto SHORT_NAME_LIMIT is_short_name_byte

-- servers in a location of so many bytes, in which a partition has room
abbrev pub servers_of : ℕ → Words
servers_of n = run_within (max 1 (n - 1 - SHORT_NAME_LIMIT)) (min SHORT_NAME_LIMIT (n - 2)) is_short_name_byte

-- a location of so many bytes
abbrev pub location_of : ℕ → Part Location
location_of n = word (servers_of n) then λ server. byte bang then λ _. map (located server) (exactly is_short_name_byte (n - 1 - length server))

-- the text of a location
abbrev pub location_text : Location → List ℕ
location_text it = it.server ++ bang ∷ it.partition

-- The parts of entries on a disk: numbers, texts, names, locations, dates and lists.
use Rattle.std.specs.Prelude.{ℕ, zero, suc, ◌+◌, ◌%◌, ◌^◌, Bool, ◌==◌, nat_lt, if◌then◌else◌, List, [], ◌∷◌, ◌++◌, length}
use Rattle.std.specs.Int.{w32, from_be_bytes, to_be_bytes}
use Rattle.mur_base.specs.Names.{is_short_name_byte}
use Rattle.mur_base.specs.declared.home.Location.{Location}
use Rattle.mur_base.specs.declared.limits.TheConstants.{NAME_LIMIT, SHORT_NAME_LIMIT}
use Rattle.mail_message.specs.declared.date_text.TheConstants.{DATE_LENGTH}
use Rattle.grammar.specs.Part.{Part, give, ◌then◌, map, byte, one_of, exactly, between}
use Rattle.grammar.specs.Exact.{any}
use Rattle.grammar.specs.Forms.{Form}
use Rattle.grammar.specs.Words.{word}
use Rattle.text_parts.specs.Names.{names_of_size}
use Rattle.text_parts.specs.Locations.{location_of, location_text, clamped}
use Rattle.text_parts.specs.Dates.{dates}

abbrev pub is_byte : ℕ → Bool
is_byte c = nat_lt c 256

-- a number: four bytes, the highest first
unfoldable pub number_text : ℕ → List ℕ
number_text n = to_be_bytes w32 (n % 2 ^ 32)

abbrev pub number : Form ℕ
number = record { part = map (from_be_bytes w32) (exactly is_byte 4); text = number_text }

-- a number below 256 that passes a test
abbrev pub small : (ℕ → Bool) → Part ℕ
small test = byte 0 then λ _. byte 0 then λ _. byte 0 then λ _. one_of test

-- a text: how many bytes it has, and its bytes
unfoldable pub sized_text : List ℕ → List ℕ
sized_text octets = number_text (length octets) ++ octets

abbrev pub text : Form (List ℕ)
text = record { part = number.part then λ n. exactly any n; text = sized_text }

-- the name of a mailbox
abbrev pub name : Form (List ℕ)
name = record { part = small (between 1 NAME_LIMIT) then λ n. word (names_of_size n); text = sized_text }

-- the name of a node
abbrev pub node : Form (List ℕ)
node = record { part = small (between 1 SHORT_NAME_LIMIT) then λ n. exactly is_short_name_byte n; text = sized_text }

abbrev pub place_text : Location → List ℕ
place_text it = sized_text (location_text it)

-- a location: the text `server!partition`
abbrev pub place : Form Location
place = record { part = small (between 3 129) then λ n. location_of (clamped 3 129 n); text = place_text }

-- a date text (RFC 9051, 9: date-time)
abbrev pub date : Form (List ℕ)
date = record { part = small (λ n. n == DATE_LENGTH) then λ _. word dates; text = sized_text }

-- members one behind another, behind those so far
abbrev pub more : {A : Type 0} → Part A → ℕ → List A → Part (List A)
more p zero so_far = give so_far
more p (suc n) so_far = p then λ a. more p n (so_far ++ a ∷ [])

abbrev pub members_text : {A : Type 0} → (A → List ℕ) → List A → List ℕ
members_text put [] = []
members_text put (a ∷ members) = put a ++ members_text put members

unfoldable pub list_text : {A : Type 0} → (A → List ℕ) → List A → List ℕ
list_text put members = number_text (length members) ++ members_text put members

-- a list: how many members it has, and its members
abbrev pub list : {A : Type 0} → Form A → Form (List A)
list p = record { part = number.part then λ n. more p.part n []; text = list_text p.text }

-- the kind of a number, where the kinds are numbered in their order from a number on
abbrev pub kind_from : {K : Type 0} → ℕ → K → List K → ℕ → K
kind_from from last [] c = last
kind_from from last (kind ∷ kinds) c = if c == from then kind else kind_from (from + 1) last kinds c

-- one of some kinds, numbered from 1 on: one byte
abbrev pub kind_byte : {K : Type 0} → (K → ℕ) → K → List K → Form K
kind_byte number last kinds = record {
  part = map (kind_from 1 last kinds) (one_of (between 1 (length kinds)));
  text = λ kind. number kind ∷ [];
}

-- Which messages a set names, among those that its client was told of (RFC 9051, 2.3.1, 6.4.9 and 9: sequence-set).
use Rattle.std.specs.Prelude.{◌≡◌, ◌⊎◌, ℕ, ◌+◌, ◌≤◌, Bool, true, false, List, [], ◌∷◌, slice_get, Some}
use Rattle.mail_message.specs.declared.message.Row.{Row}
use Rattle.mail_message.specs.declared.set.SetEnd.{SetEnd}
use Rattle.mail_message.specs.declared.set.SetEnd.TheVariants.{Number, Last}
use Rattle.mail_message.specs.declared.set.SetPart.{SetPart}
use Rattle.mail_message.specs.declared.set.SetPart.TheVariants.{One, Range}

-- `*` is the largest number in use
abbrev pub end_number : ℕ → SetEnd → ℕ
end_number largest (Number number) = number
end_number largest Last = largest

abbrev pub IsBetween : ℕ → ℕ → ℕ → Type 0
IsBetween one other number = (one ≤ number) × (number ≤ other)

-- a range has all numbers between its ends, whichever is written first
abbrev pub IsInPart : ℕ → SetPart → ℕ → Type 0
IsInPart largest (One end) number = number ≡ end_number largest end
IsInPart largest (Range one other) number =
    IsBetween (end_number largest one) (end_number largest other) number ⊎ IsBetween (end_number largest other) (end_number largest one) number

unfoldable pub IsInSet : ℕ → List SetPart → ℕ → Type 0
IsInSet largest [] number = ⊥
IsInSet largest (part ∷ set) number = IsInPart largest part number ⊎ IsInSet largest set number

-- the number of the row behind so many others: its sequence number, or its UID
abbrev pub number_of : Bool → ℕ → Row → ℕ
number_of false place row = place + 1
number_of true place row = row.uid

-- the number of the last of some rows, behind so many others; 0 where there is none
unfoldable pub last_number : Bool → ℕ → List Row → ℕ
last_number by_uid place [] = 0
last_number by_uid place (row ∷ []) = number_of by_uid place row
last_number by_uid place (row ∷ other ∷ rows) = last_number by_uid (place + 1) (other ∷ rows)

-- the set names the message of a UID: one of the rows is the message's, and its number is in the set
pub record Names (by_uid : Bool) (set : List SetPart) (rows : List Row) (uid : ℕ) : Type 0 where
  pub place : ℕ
  pub row : Row
  pub stands : slice_get rows place ≡ Some row
  pub own : row.uid ≡ uid
  pub named : IsInSet (last_number by_uid 0 rows) set (number_of by_uid place row)

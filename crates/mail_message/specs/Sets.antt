-- Sets of message numbers (RFC 9051, 9: sequence-set): the one meaning of a set, whether of sequence numbers or of UIDs.
use Rattle.std.specs.Prelude.{ℕ, Bool, false, ◌&&◌, nat_le, min, max, List, map, Option, Some, None}
use Rattle.std.specs.List.{list_any}
use Rattle.mail_message.specs.declared.set.SetEnd.{SetEnd}
use Rattle.mail_message.specs.declared.set.SetEnd.TheVariants.{Number, Last}
use Rattle.mail_message.specs.declared.set.SetPart.{SetPart}
use Rattle.mail_message.specs.declared.set.SetPart.TheVariants.{One, Range}

-- `*` stands for the largest number in use
abbrev pub end_at : ℕ → SetEnd → SetEnd
end_at last (Number number) = Number number
end_at last Last = Number last

abbrev pub part_at : ℕ → SetPart → SetPart
part_at last (One end) = One (end_at last end)
part_at last (Range one other) = Range (end_at last one) (end_at last other)

-- the set in which a number stands for `*`
abbrev pub set_at : ℕ → List SetPart → List SetPart
set_at last set = map (part_at last) set

-- the least and the greatest number of a part, in whichever order a range is written; none where `*` stands in it
abbrev pub part_bounds : SetPart → Option (ℕ × ℕ)
part_bounds (One (Number number)) = Some (number, number)
part_bounds (One Last) = None
part_bounds (Range (Number one) (Number other)) = Some (min one other, max one other)
part_bounds (Range (Number one) Last) = None
part_bounds (Range Last other) = None

-- the number is between bounds, if there are any
abbrev pub is_in_range : ℕ → Option (ℕ × ℕ) → Bool
is_in_range number None = false
is_in_range number (Some bounds) = nat_le bounds.0 number && nat_le number bounds.1

-- the number is in the part
abbrev pub part_holds : SetPart → ℕ → Bool
part_holds part number = is_in_range number (part_bounds part)

-- the number is in some part of the set
abbrev pub set_holds : List SetPart → ℕ → Bool
set_holds set number = list_any (λ part. part_holds part number) set

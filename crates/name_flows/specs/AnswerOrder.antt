-- Answers that go out together go by connection, and by the number of the command there, in whatever order the commands came.
use Rattle.std.specs.Prelude.{Bool, if◌then◌else◌, List, [], ◌∷◌}
use Rattle.std.specs.declared.cmp.Ordering.{Ordering}
use Rattle.std.specs.List.{fold}
use Rattle.std.specs.Ordering.{is_lt, nat_cmp, ordering_then}
use Rattle.mur_base.specs.declared.point.AskId.{AskId}
use Rattle.name_flows.specs.declared.ask.Told.{Told}

abbrev pub command_cmp : AskId → AskId → Ordering
command_cmp one other = ordering_then (nat_cmp one.conn other.conn) (nat_cmp one.command other.command)

abbrev pub is_earlier : Told → Told → Bool
is_earlier one other = is_lt (command_cmp (one.answer).id (other.answer).id)

-- an answer is put before the first one to a later command
unfoldable pub with_answer : List Told → Told → List Told
with_answer [] it = it ∷ []
with_answer (first ∷ rest) it = if is_earlier it first then it ∷ first ∷ rest else first ∷ with_answer rest it

-- all of them, by their commands: answers to one command stay in the order that they had
abbrev pub in_command_order : List Told → List Told
in_command_order answers = fold with_answer [] answers

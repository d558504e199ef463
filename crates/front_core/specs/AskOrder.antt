-- Asks that one step sends go by the names of their mailboxes, behind all else that the step lets out: of one name they stay in the order that they had.
use Rattle.std.specs.Prelude.{Bool, if◌then◌else◌, ℕ, List, [], ◌∷◌, Option, None, Some}
use Rattle.std.specs.Cmp.Lexicographic.{slice_cmp}
use Rattle.std.specs.Option.{option_cmp}
use Rattle.std.specs.Ordering.{is_lt, nat_cmp}
use Rattle.std.specs.declared.cmp.Ordering.{Ordering}
use Rattle.link_msg.specs.declared.message.LinkMsg.{LinkMsg}
use Rattle.link_msg.specs.declared.message.LinkMsg.TheVariants.{Ask}
use Rattle.link_msg.specs.declared.out.Out.{Out}
use Rattle.link_msg.specs.declared.out.Out.TheVariants.{Link}

-- ---- a list in an order

-- one is put in front of the first that isn't earlier
unfoldable pub put_in : {X : Type 0} → (X → X → Bool) → X → List X → List X
put_in is_earlier it [] = it ∷ []
put_in is_earlier it (first ∷ rest) = if is_earlier first it then first ∷ put_in is_earlier it rest else it ∷ first ∷ rest

unfoldable pub in_order : {X : Type 0} → (X → X → Bool) → List X → List X
in_order is_earlier [] = []
in_order is_earlier (it ∷ all) = put_in is_earlier it (in_order is_earlier all)

-- ---- what a step lets out

abbrev pub name_in : LinkMsg → Option (List ℕ)
name_in (Ask ask) = Some ask.name
name_in message = None

-- the mailbox of which an output asks, if it asks of one
abbrev pub asked_name : Out → Option (List ℕ)
asked_name (Link node message) = name_in message
asked_name out = None

abbrev pub ask_cmp : Out → Out → Ordering
ask_cmp one other = option_cmp (slice_cmp nat_cmp) (asked_name one) (asked_name other)

abbrev pub asks_earlier : Out → Out → Bool
asks_earlier one other = is_lt (ask_cmp one other)

abbrev pub in_ask_order : List Out → List Out
in_ask_order outs = in_order asks_earlier outs

-- UIDVALIDITYs are given by RESERVE, in order (RFC 3656, 4.9; RFC 9051, 2.3.1.1): how many lines RESERVE the master has taken, whatever it replied, and
-- which one it gave last.
use Rattle.std.specs.Prelude.{◌≡◌, ℕ, ◌+◌, ◌*◌, ◌^◌, ◌<◌, ◌≤◌, Bool, false, true, if◌then◌else◌, List, [], ◌∷◌, ◌++◌, Option, Some}
use Rattle.guest_links.specs.Happenings.{Happening, sends}
use Rattle.link_msg.specs.declared.message.LinkMsg.{LinkMsg}
use Rattle.link_msg.specs.declared.message.LinkMsg.TheVariants.{Line}
use Rattle.mupdate_codec.specs.declared.command.MCommand.{MCommand}
use Rattle.mupdate_codec.specs.declared.command.MCommand.TheVariants.{Reserve}
use Rattle.mupdate_codec.specs.declared.tag.Tag.{Tag}
use Rattle.mupdate_codec.specs.Whole.{command_in}
use Rattle.mur_config.specs.declared.config.Config.{Config}
use Rattle.schedule_text.specs.Brings.{bytes_of_all}
use Rattle.schedule_text.specs.declared.event.Event.{Event}
use Rattle.cluster_core.specs.declared.world.World.{World}
use Rattle.cluster_core.specs.Flow.{run_steps, steps_of_run}
use Rattle.cluster_core.specs.Headline.Outside.{happening_of, table_at}
use Rattle.cluster_core.specs.World.{master_of, start, steps_by}

abbrev pub is_reserve : Option (Tag × MCommand) → Bool
is_reserve (Some (tag, Reserve name place)) = true
is_reserve other = false

-- a message is such a line
abbrev pub asks_reserve : LinkMsg → Bool
asks_reserve (Line bytes) = is_reserve (command_in bytes)
asks_reserve message = false

-- what a node sends the master in one step is such a line, or not
abbrev pub reserves_in : Option Happening → ℕ
reserves_in (Some (sends from message)) = if asks_reserve message then 1 else 0
reserves_in happening = 0

unfoldable pub reserves_from : Config → World → List Event → ℕ
reserves_from config world [] = 0
reserves_from config world (event ∷ events) = reserves_in (happening_of config world event) + reserves_from config (steps_by world event) events

abbrev pub reserves_taken : Config → List Event → ℕ
reserves_taken config steps = reserves_from config (start config) steps

-- the one that the master gave last, with the OK to a RESERVE
abbrev pub last_serial : Config → World → ℕ
last_serial config world = (table_at world (master_of config)).serial

-- it isn't the last that there is, so the next RESERVE isn't refused for want of one
abbrev pub HasSerialsLeft : Config → World → Type 0
HasSerialsLeft config world = last_serial config world < 4294967295

-- After each step: a command of a client uses up one at most, and takes two bytes or more, since it ends with CRLF (RFC 9051, 2.2.1). So the last one is
-- never reached where clients send fewer than 2^32 bytes.
pub record LeavesSerials (config : Config) (events : List Event) : Type 0 where
  pub few : (before later : List Event) → steps_of_run config events ≡ before ++ later
      → 2 * last_serial config (run_steps (start config) before) ≤ bytes_of_all before
  pub left : bytes_of_all events < 2 ^ 32 → (before later : List Event) → steps_of_run config events ≡ before ++ later
      → HasSerialsLeft config (run_steps (start config) before)

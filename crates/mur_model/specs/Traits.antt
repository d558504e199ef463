-- The traits of a command, a row each (RFC 9051, 6; RFC 4314, 3): the states of a session that have it, the line that it waits for; and, for the laws,
-- what it may change of the messages of its mailbox.
use Rattle.std.specs.Prelude.{Bool, true, false, not, if◌then◌else◌, List, None, Some}
use Rattle.std.specs.List.{list_any}
use Rattle.mail_message.specs.FlagSets.{Flags, flags_after, with_flag}
use Rattle.mail_message.specs.declared.flag_name.FlagName.TheVariants.{System}
use Rattle.mail_message.specs.declared.set.SetPart.{SetPart}
use Rattle.mail_message.specs.declared.system_flags.SystemFlag.TheVariants.{Seen}
use Rattle.imap_types.specs.declared.command.Command.{Command}
use Rattle.imap_types.specs.declared.command.Command.TheVariants as command
use Rattle.mur_model.specs.declared.session.Sess.{Sess}
use Rattle.mur_model.specs.declared.session.Sess.TheVariants.{Off, In, Selected as selected, Ended}
use Rattle.mur_model.specs.declared.traits.States.{States}
use Rattle.mur_model.specs.declared.traits.States.TheVariants.{Any, NotAuthenticated, Authenticated, Selected}
use Rattle.mur_model.specs.declared.traits.Traits.{Traits}
use Rattle.mur_model.specs.declared.wait.Wait.{Wait}
use Rattle.mur_model.specs.declared.wait.Wait.TheVariants as wait
use Rattle.mur_model.specs.Fetch.{is_body}

-- a session that has begun, or that hasn't, can be in one of these states
unfoldable pub may_be : Bool → States → Bool
may_be begun Any = true
may_be begun NotAuthenticated = not begun
may_be begun Authenticated = begun
may_be begun Selected = begun

-- a session is in one of these states; one that has ended is in none
unfoldable pub is_in : Sess → States → Bool
is_in Off states = may_be false states
is_in (In user) Selected = false
is_in (In user) states = may_be true states
is_in (selected view) states = may_be true states
is_in Ended states = false

-- taken in these states, with no line more of its client
abbrev pub taken_in : States → Traits
taken_in states = record { states = states; waits = None }

-- taken in these states, and waits for a line
abbrev pub waits_in : States → Wait → Traits
waits_in states line = record { states = states; waits = Some line }

-- Those of RFC 4314 are refused alike in each state. COPY, and a MOVE, which is left out, are refused alike in each state that is authenticated.
unfoldable pub traits_of : Command → Traits
traits_of command.Capability = taken_in Any
traits_of command.Noop = taken_in Any
traits_of command.Logout = taken_in Any
traits_of (command.Login name password) = taken_in NotAuthenticated
traits_of (command.Authenticate None) = waits_in NotAuthenticated wait.Authenticate
traits_of (command.Authenticate (Some response)) = taken_in NotAuthenticated
traits_of (command.Enable names) = taken_in Authenticated
traits_of (command.Select text) = taken_in Authenticated
traits_of (command.Examine text) = taken_in Authenticated
traits_of (command.Create text) = taken_in Authenticated
traits_of (command.Delete text) = taken_in Authenticated
traits_of (command.List reference pattern) = taken_in Authenticated
traits_of (command.Append text flags date body) = taken_in Authenticated
traits_of (command.Status text items) = taken_in Authenticated
traits_of (command.Idle None) = waits_in Authenticated wait.Idle
traits_of (command.Idle (Some line)) = taken_in Authenticated
traits_of (command.Xfer text server partition) = taken_in Authenticated
traits_of command.Close = taken_in Selected
traits_of command.Unselect = taken_in Selected
traits_of (command.Expunge only) = taken_in Selected
traits_of (command.Search by_uid keys) = taken_in Selected
traits_of (command.Fetch by_uid set items) = taken_in Selected
traits_of (command.Store by_uid set mode is_silent flags) = taken_in Selected
traits_of (command.Copy by_uid set text) = taken_in Authenticated
traits_of (command.LeftOut line) = taken_in Authenticated
traits_of (command.SetAcl text id mode rights) = taken_in Any
traits_of (command.DeleteAcl text id) = taken_in Any
traits_of (command.GetAcl text) = taken_in Any
traits_of (command.MyRights text) = taken_in Any

-- ---- what a command may change

-- the messages that a command is about: all, or those that a set names by their numbers, or by their UIDs where that is true (RFC 9051, 6.4.9)
pub data Named : Type 0 where
  Each : Named
  These : Bool → List SetPart → Named

-- messages that have \Deleted are removed, or flags become others
pub data Change : Type 0 where
  Nothing : Change
  Removes : Change
  Labels : (Flags → Flags) → Change

pub record Effect : Type 0 where
  pub named : Named
  pub change : Change

-- a FETCH of a body adds \Seen, which a peek doesn't (RFC 9051, 6.4.5)
unfoldable pub effect_of : Command → Effect
effect_of command.Close = record { named = Each; change = Removes }
effect_of (command.Expunge None) = record { named = Each; change = Removes }
effect_of (command.Expunge (Some set)) = record { named = These true set; change = Removes }
effect_of (command.Store by_uid set mode is_silent flags) = record { named = These by_uid set; change = Labels (λ old. flags_after mode old flags) }
effect_of (command.Fetch by_uid set items) = record {
  named = These by_uid set;
  change = if list_any is_body items then Labels (λ old. with_flag old (System Seen)) else Nothing;
}
effect_of it = record { named = Each; change = Nothing }

-- Every operation of a home on a mailbox leaves the UIDs of its messages below UIDNEXT.
use Rattle.std.proofs.Common.{ℕ, Bool, true, false, List, Option, None, Some}
use Rattle.mail_message.specs.declared.message.Message.{Message}
use Rattle.mail_message.specs.declared.mode.Mode.{Mode}
use Rattle.mail_message.specs.declared.mode.Mode.TheVariants.{Add}
use Rattle.mail_message.specs.Boxes.{Content}
use Rattle.mail_message.specs.FlagSets.{Flags}
use Rattle.mail_store.specs.declared.fault.StoreFault.{StoreFault}
use Rattle.mail_store.specs.Append.{append_fault}
use Rattle.mail_store.specs.Store.{has_too_many_flags, rows_stored}
use Rattle.mail_store.specs.Kept.{AreUidsBelowNext}
use Rattle.backend_core.specs.Append.{append_within_limits}
use Rattle.backend_core.specs.Expunge.{expunge_to}
use Rattle.backend_core.specs.Flags.{flags_to, flags_unless}
use Rattle.backend_core.specs.Read.{read_in, read_to, seen_flag}
use Rattle.mail_store.proofs.UidsBelow.{appended_below, stored_below, expunged_below}

appends_below : (box : Content) (messages : List Message) (fault : Option StoreFault) → AreUidsBelowNext box
    → AreUidsBelowNext (append_within_limits box messages fault).content
unfolding append_within_limits
appends_below box messages (Some fault) below = below
appends_below box messages None below = appended_below box messages below

pub append_below : (messages : List Message) (box : Content) → AreUidsBelowNext box
    → AreUidsBelowNext (append_within_limits box messages (append_fault box messages)).content
append_below messages box below = appends_below box messages (append_fault box messages) below

flags_by : (box : Content) (uids : List ℕ) (mode : Mode) (flags : Flags) (too_many : Bool) → AreUidsBelowNext box
    → AreUidsBelowNext (flags_unless box uids mode flags too_many).content
unfolding flags_unless
flags_by box uids mode flags true below = below
flags_by box uids mode flags false below = stored_below box uids mode flags below

pub flags_below : (uids : List ℕ) (mode : Mode) (flags : Flags) (box : Content) → AreUidsBelowNext box
    → AreUidsBelowNext (flags_to box uids mode flags).content
flags_below uids mode flags box below = flags_by box uids mode flags (has_too_many_flags (rows_stored box uids mode flags)) below

pub read_below : (uids : List ℕ) (sees : Bool) (box : Content) → AreUidsBelowNext box → AreUidsBelowNext (read_to box uids sees).content
unfolding read_in
read_below uids true box below = stored_below box uids Add seen_flag below
read_below uids false box below = below

pub expunge_below : (only : Option (List ℕ)) (box : Content) → AreUidsBelowNext box → AreUidsBelowNext (expunge_to box only).content
expunge_below only box below = expunged_below box only below

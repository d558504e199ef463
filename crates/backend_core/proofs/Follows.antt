-- Every operation of a home on a mailbox keeps its UIDVALIDITY, and UIDNEXT never falls.
use Rattle.std.proofs.Common.{ℕ, Bool, true, false, List, Option, None, Some, refl, arith}
use Rattle.mail_message.specs.declared.message.Message.{Message}
use Rattle.mail_message.specs.declared.mode.Mode.{Mode}
use Rattle.mail_message.specs.declared.mode.Mode.TheVariants.{Add}
use Rattle.mail_message.specs.Boxes.{Content}
use Rattle.mail_message.specs.FlagSets.{Flags}
use Rattle.mail_store.specs.declared.fault.StoreFault.{StoreFault}
use Rattle.mail_store.specs.Append.{append_fault}
use Rattle.mail_store.specs.Store.{has_too_many_flags, rows_stored}
use Rattle.mail_store.proofs.FollowsLaws.{appended_follows, stored_follows, expunged_follows}
use Rattle.mail_store.specs.Kept.{IsLaterContent}
use Rattle.backend_core.specs.Append.{append_within_limits}
use Rattle.backend_core.specs.Expunge.{expunge_to}
use Rattle.backend_core.specs.Flags.{flags_to, flags_unless}
use Rattle.backend_core.specs.Read.{read_in, read_to, seen_flag}

appends_to : (box : Content) (messages : List Message) (fault : Option StoreFault) → IsLaterContent box (append_within_limits box messages fault).content
unfolding append_within_limits
appends_to box messages (Some fault) = (refl, omega arith)
appends_to box messages None = appended_follows box messages

pub append_follows : (messages : List Message) (box : Content) → IsLaterContent box (append_within_limits box messages (append_fault box messages)).content
append_follows messages box = appends_to box messages (append_fault box messages)

flags_by : (box : Content) (uids : List ℕ) (mode : Mode) (flags : Flags) (too_many : Bool) → IsLaterContent box (flags_unless box uids mode flags too_many).content
unfolding flags_unless
flags_by box uids mode flags true = (refl, omega arith)
flags_by box uids mode flags false = stored_follows box uids mode flags

pub flags_follow : (uids : List ℕ) (mode : Mode) (flags : Flags) (box : Content) → IsLaterContent box (flags_to box uids mode flags).content
flags_follow uids mode flags box = flags_by box uids mode flags (has_too_many_flags (rows_stored box uids mode flags))

pub read_follows : (uids : List ℕ) (sees : Bool) (box : Content) → IsLaterContent box (read_to box uids sees).content
unfolding read_in
read_follows uids true box = stored_follows box uids Add seen_flag
read_follows uids false box = (refl, omega arith)

pub expunge_follows : (only : Option (List ℕ)) (box : Content) → IsLaterContent box (expunge_to box only).content
expunge_follows only box = expunged_follows box only

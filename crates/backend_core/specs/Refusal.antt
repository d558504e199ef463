-- Which asks for a mailbox's messages its home doesn't carry out.
use Rattle.std.specs.Prelude.{ℕ, Bool, true, false, not, ◌==◌, Option, Some, None}
use Rattle.mur_base.specs.declared.home.Phase.{Phase}
use Rattle.mur_base.specs.declared.home.Phase.TheVariants.{Open, Pointer}
use Rattle.mail_message.specs.Boxes.{Content}
use Rattle.link_msg.specs.declared.outcome.Outcome.TheVariants.{Gone}
use Rattle.node_record.specs.declared.held.Held.{Held}
use Rattle.backend_core.specs.declared.response.Response.{Response}
use Rattle.backend_core.specs.Response.{no_snapshot, done, not_now, moved_to}

-- the session has selected a mailbox of another UIDVALIDITY (RFC 9051, 2.3.1.1)
unfoldable pub is_other : Option ℕ → Content → Bool
is_other None content = false
is_other (Some serial) content = not (serial == content.serial)

-- by the phase, and by whether the selected mailbox is another one: only where the name is Open are its messages served
unfoldable pub refusal_in : Phase → Bool → Option Response
refusal_in Open true = Some (done Gone no_snapshot)
refusal_in Open false = None
refusal_in (Pointer server) other = Some (moved_to server)
refusal_in _ other = Some not_now

-- what is answered instead, where the operation isn't carried out
unfoldable pub refusal : Option ℕ → Held → Option Response
refusal selected held = refusal_in held.phase (is_other selected held.content)

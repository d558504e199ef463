-- Commands that the server answers at once, whatever mailboxes there are.
use Rattle.std.specs.Prelude.{ℕ, Bool, List, [], ◌∷◌, Some, codes}
use Rattle.std.specs.Str.{str_eq_ignore_ascii_case}
use Rattle.mur_model.specs.Needed.{Needed, Turned}
use Rattle.imap_types.specs.declared.reply.Bye.TheVariants.{Logout as bye}
use Rattle.imap_types.specs.declared.reply.Code.TheVariants.{None as no_code}
use Rattle.imap_types.specs.declared.reply.ReplyLine.{ReplyLine}
use Rattle.imap_types.specs.declared.reply.ReplyLine.TheVariants.{Bye, Capability, Enabled}
use Rattle.imap_types.specs.declared.reply.Verdict.TheVariants.{Ok as ok_reply}
use Rattle.mur_model.specs.declared.session.Sess.TheVariants.{Ended}
use Rattle.mur_model.specs.declared.session.Turn.{Turn}
use Rattle.mur_model.specs.Left.{replied}

-- a line, and that the command of this name was carried out
abbrev pub told_at_once : ReplyLine → List ℕ → Turn
told_at_once line name = replied (record { lines = line ∷ []; verdict = ok_reply no_code name })

-- CAPABILITY (RFC 9051, 6.1.1)
abbrev pub capability : Needed
capability = Turned (told_at_once Capability (codes "CAPABILITY"))

-- LOGOUT (RFC 9051, 6.1.3): a BYE stands before the tagged line, and behind that the session has ended
abbrev pub logout : Needed
logout = Turned (record (told_at_once (Bye bye) (codes "LOGOUT")) { session = Some Ended })

-- ENABLE (RFC 9051, 6.3.1): no capability can be enabled, and names that aren't known are passed over
abbrev pub enable : Needed
enable = Turned (told_at_once Enabled (codes "ENABLE"))

-- the line that ends an IDLE: DONE in any case (RFC 9051, 6.3.13)
unfoldable pub is_done : List ℕ → Bool
is_done line = str_eq_ignore_ascii_case line (codes "done")

-- The names of the commands, each with what it says (RFC 9051, 9; RFC 4314, 4).
use Rattle.std.specs.Prelude.{ℕ, Bool, true, false, List, [], ◌∷◌, codes}
use Rattle.grammar.specs.Forms.{Form, Row, table}
use Rattle.imap_command.specs.declared.verb.Verb.{Verb}
use Rattle.imap_command.specs.declared.verb.Verb.TheVariants as verb
use Rattle.imap_command.specs.declared.verb.MailboxVerb.TheVariants as mailbox_verb
use Rattle.imap_command.specs.declared.verb.UidVerb.{UidVerb}
use Rattle.imap_command.specs.declared.verb.UidVerb.TheVariants as uid
use Rattle.imap_types.specs.declared.command.Command.{Command}
use Rattle.imap_types.specs.declared.command.Command.TheVariants as command

abbrev pub verbs : List (Row Verb)
verbs =
    (codes "APPEND", verb.Append) ∷ (codes "AUTHENTICATE", verb.Authenticate) ∷ (codes "CAPABILITY", verb.Capability)
    ∷ (codes "CLOSE", verb.Close) ∷ (codes "COPY", verb.Copy) ∷ (codes "CREATE", verb.Mailbox mailbox_verb.Create)
    ∷ (codes "DELETE", verb.Mailbox mailbox_verb.Delete) ∷ (codes "DELETEACL", verb.DeleteAcl) ∷ (codes "ENABLE", verb.Enable)
    ∷ (codes "EXAMINE", verb.Mailbox mailbox_verb.Examine) ∷ (codes "EXPUNGE", verb.Expunge) ∷ (codes "FETCH", verb.Fetch)
    ∷ (codes "GETACL", verb.Mailbox mailbox_verb.GetAcl) ∷ (codes "IDLE", verb.Idle) ∷ (codes "LIST", verb.List)
    ∷ (codes "LOGIN", verb.Login) ∷ (codes "LOGOUT", verb.Logout) ∷ (codes "MYRIGHTS", verb.Mailbox mailbox_verb.MyRights)
    ∷ (codes "NOOP", verb.Noop) ∷ (codes "SEARCH", verb.Search) ∷ (codes "SELECT", verb.Mailbox mailbox_verb.Select) ∷ (codes "SETACL", verb.SetAcl)
    ∷ (codes "STATUS", verb.Status) ∷ (codes "STORE", verb.Store) ∷ (codes "UID", verb.Uid)
    ∷ (codes "UNSELECT", verb.Unselect) ∷ (codes "XFER", verb.Xfer) ∷ []

unfoldable pub name_text : Verb → List ℕ
name_text verb.Append = codes "APPEND"
name_text verb.Authenticate = codes "AUTHENTICATE"
name_text verb.Capability = codes "CAPABILITY"
name_text verb.Close = codes "CLOSE"
name_text verb.Copy = codes "COPY"
name_text (verb.Mailbox mailbox_verb.Create) = codes "CREATE"
name_text (verb.Mailbox mailbox_verb.Delete) = codes "DELETE"
name_text verb.DeleteAcl = codes "DELETEACL"
name_text verb.Enable = codes "ENABLE"
name_text (verb.Mailbox mailbox_verb.Examine) = codes "EXAMINE"
name_text verb.Expunge = codes "EXPUNGE"
name_text verb.Fetch = codes "FETCH"
name_text (verb.Mailbox mailbox_verb.GetAcl) = codes "GETACL"
name_text verb.Idle = codes "IDLE"
name_text verb.List = codes "LIST"
name_text verb.Login = codes "LOGIN"
name_text verb.Logout = codes "LOGOUT"
name_text (verb.Mailbox mailbox_verb.MyRights) = codes "MYRIGHTS"
name_text verb.Noop = codes "NOOP"
name_text verb.Search = codes "SEARCH"
name_text (verb.Mailbox mailbox_verb.Select) = codes "SELECT"
name_text verb.SetAcl = codes "SETACL"
name_text verb.Status = codes "STATUS"
name_text verb.Store = codes "STORE"
name_text verb.Uid = codes "UID"
name_text verb.Unselect = codes "UNSELECT"
name_text verb.Xfer = codes "XFER"

abbrev pub verb_form : Form Verb
verb_form = table verb.Uid verbs name_text

-- uid = "UID" SP (copy / uid-expunge / fetch / search / store)
abbrev pub uid_verbs : List (Row UidVerb)
uid_verbs =
    (codes "COPY", uid.Copy) ∷ (codes "EXPUNGE", uid.Expunge) ∷ (codes "FETCH", uid.Fetch) ∷ (codes "SEARCH", uid.Search) ∷ (codes "STORE", uid.Store) ∷ []

abbrev pub uid_name_text : UidVerb → List ℕ
uid_name_text uid.Copy = codes "COPY"
uid_name_text uid.Expunge = codes "EXPUNGE"
uid_name_text uid.Fetch = codes "FETCH"
uid_name_text uid.Search = codes "SEARCH"
uid_name_text uid.Store = codes "STORE"

abbrev pub uid_verb_form : Form UidVerb
uid_verb_form = table uid.Copy uid_verbs uid_name_text

-- the word behind UID of a command that has one
abbrev pub uid_verb_of : Command → UidVerb
uid_verb_of (command.Expunge set) = uid.Expunge
uid_verb_of (command.Fetch by_uid set items) = uid.Fetch
uid_verb_of (command.Search by_uid keys) = uid.Search
uid_verb_of (command.Store by_uid set mode is_silent flags) = uid.Store
uid_verb_of it = uid.Copy

unfoldable pub is_uid_verb : Verb → Bool
is_uid_verb verb.Uid = true
is_uid_verb it = false

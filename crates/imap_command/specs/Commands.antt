-- What stands behind the name of each command (RFC 9051, 9; RFC 4314, 4).
use Rattle.std.specs.Prelude.{ℕ, Bool, true, false, List, [], ◌∷◌, ◌++◌, if◌then◌else◌, Option, None, Some}
use Rattle.mur_base.specs.Ascii.{space}
use Rattle.grammar.specs.Forms.{Form, ◌and◌, preceded, constant, dispatch, made, several, ◌spaced◌}
use Rattle.mail_message.specs.declared.set.SetPart.{SetPart}
use Rattle.imap_types.specs.declared.command.Command.{Command}
use Rattle.imap_types.specs.declared.command.Command.TheVariants as command
use Rattle.imap_command.specs.declared.verb.Verb.{Verb}
use Rattle.imap_command.specs.declared.verb.Verb.TheVariants as verb
use Rattle.imap_command.specs.declared.verb.MailboxVerb.{MailboxVerb}
use Rattle.imap_command.specs.declared.verb.MailboxVerb.TheVariants as mailbox_verb
use Rattle.imap_command.specs.declared.verb.UidVerb.{UidVerb}
use Rattle.imap_command.specs.declared.verb.UidVerb.TheVariants as uid
use Rattle.imap_command.specs.Append.{append_form}
use Rattle.imap_command.specs.Arguments.{one_string, two_strings, optional_string}
use Rattle.imap_command.specs.Authenticate.{authenticate_form}
use Rattle.imap_command.specs.Fetch.{fetch_form}
use Rattle.imap_command.specs.List.{list}
use Rattle.imap_command.specs.Search.{search_form}
use Rattle.imap_command.specs.SetAcl.{set_acl}
use Rattle.imap_command.specs.Sets.{set}
use Rattle.imap_command.specs.Status.{status_form}
use Rattle.imap_command.specs.Store.{store_form}
use Rattle.imap_text.specs.Strings.{argument, atom}
use Rattle.imap_command.specs.Verbs.{is_uid_verb, name_text, uid_verb_form, uid_verb_of, uid_name_text}

-- SP sequence-set SP mailbox
abbrev pub copy : Form (List SetPart × List ℕ)
copy = preceded space (set spaced argument)

-- SP mailbox SP server [SP partition]
abbrev pub xfer : Form ((List ℕ × List ℕ) × Option (List ℕ))
xfer = two_strings and optional_string

-- the first word of a command that may be by UID
abbrev pub uid_or : Bool → Verb → Verb
uid_or by_uid name = if by_uid then verb.Uid else name

-- the first word of each command, and how its arguments are printed; of one that is left out, which is printed as it stands, they say nothing
unfoldable pub printed_as : Command → Verb × List ℕ
printed_as (command.Append mailbox flags date message) = (verb.Append, append_form.text (mailbox, (flags, (date, message))))
printed_as (command.Authenticate response) = (verb.Authenticate, authenticate_form.text response)
printed_as command.Capability = (verb.Capability, [])
printed_as command.Close = (verb.Close, [])
printed_as (command.Copy by_uid set mailbox) = (uid_or by_uid verb.Copy, copy.text (set, mailbox))
printed_as (command.Create mailbox) = (verb.Mailbox mailbox_verb.Create, one_string.text mailbox)
printed_as (command.Delete mailbox) = (verb.Mailbox mailbox_verb.Delete, one_string.text mailbox)
printed_as (command.DeleteAcl mailbox id) = (verb.DeleteAcl, two_strings.text (mailbox, id))
printed_as (command.Enable names) = (verb.Enable, (preceded space (several space atom)).text names)
printed_as (command.Examine mailbox) = (verb.Mailbox mailbox_verb.Examine, one_string.text mailbox)
printed_as (command.Expunge None) = (verb.Expunge, [])
printed_as (command.Expunge (Some parts)) = (verb.Uid, (preceded space set).text parts)
printed_as (command.Fetch by_uid set items) = (uid_or by_uid verb.Fetch, fetch_form.text (set, items))
printed_as (command.GetAcl mailbox) = (verb.Mailbox mailbox_verb.GetAcl, one_string.text mailbox)
printed_as (command.Idle line) = (verb.Idle, [])
printed_as (command.LeftOut octets) = (verb.Noop, [])
printed_as (command.List reference pattern) = (verb.List, list.text (reference, pattern))
printed_as (command.Login user password) = (verb.Login, two_strings.text (user, password))
printed_as command.Logout = (verb.Logout, [])
printed_as (command.MyRights mailbox) = (verb.Mailbox mailbox_verb.MyRights, one_string.text mailbox)
printed_as command.Noop = (verb.Noop, [])
printed_as (command.Search by_uid keys) = (uid_or by_uid verb.Search, search_form.text keys)
printed_as (command.Select mailbox) = (verb.Mailbox mailbox_verb.Select, one_string.text mailbox)
printed_as (command.SetAcl mailbox id mode rights) = (verb.SetAcl, set_acl.text (mailbox, (id, (mode, rights))))
printed_as (command.Status mailbox items) = (verb.Status, status_form.text (mailbox, items))
printed_as (command.Store by_uid set mode is_silent flags) = (uid_or by_uid verb.Store, store_form.text (set, ((mode, is_silent), flags)))
printed_as command.Unselect = (verb.Unselect, [])
printed_as (command.Xfer mailbox server partition) = (verb.Xfer, xfer.text ((mailbox, server), partition))

abbrev pub verb_of : Command → Verb
verb_of it = (printed_as it).0

abbrev pub arguments_text : Command → List ℕ
arguments_text it = (printed_as it).1

-- the word behind UID
abbrev pub uid_words : Verb → Command → List ℕ
uid_words first it = if is_uid_verb first then space ∷ uid_name_text (uid_verb_of it) else []

-- the words that a command begins with
unfoldable pub words_text : Command → List ℕ
words_text it = name_text (verb_of it) ++ uid_words (verb_of it) it

-- commands that may be by UID
abbrev pub copy_command : Bool → Form Command
copy_command by_uid = made (λ x. command.Copy by_uid x.0 x.1) arguments_text copy

abbrev pub fetch_command : Bool → Form Command
fetch_command by_uid = made (λ x. command.Fetch by_uid x.0 x.1) arguments_text fetch_form

abbrev pub search_command : Bool → Form Command
search_command by_uid = made (command.Search by_uid) arguments_text search_form

abbrev pub store_command : Bool → Form Command
store_command by_uid = made (λ x. command.Store by_uid x.0 x.1.0.0 x.1.0.1 x.1.1) arguments_text store_form

unfoldable pub uid_arguments : UidVerb → Form Command
uid_arguments uid.Copy = copy_command true
uid_arguments uid.Expunge = made (λ parts. command.Expunge (Some parts)) arguments_text (preceded space set)
uid_arguments uid.Fetch = fetch_command true
uid_arguments uid.Search = search_command true
uid_arguments uid.Store = store_command true

-- SP (copy / uid-expunge / fetch / search / store)
abbrev pub uid_command : Form Command
uid_command = preceded space (dispatch uid_verb_form uid_verb_of uid_arguments)

-- the command of a mailbox that a name says
abbrev pub mailbox_command : MailboxVerb → List ℕ → Command
mailbox_command mailbox_verb.Create mailbox = command.Create mailbox
mailbox_command mailbox_verb.Delete mailbox = command.Delete mailbox
mailbox_command mailbox_verb.Examine mailbox = command.Examine mailbox
mailbox_command mailbox_verb.GetAcl mailbox = command.GetAcl mailbox
mailbox_command mailbox_verb.MyRights mailbox = command.MyRights mailbox
mailbox_command mailbox_verb.Select mailbox = command.Select mailbox

unfoldable pub arguments : Verb → Form Command
arguments verb.Append = made (λ x. command.Append x.0 x.1.0 x.1.1.0 x.1.1.1) arguments_text append_form
arguments verb.Authenticate = made command.Authenticate arguments_text authenticate_form
arguments verb.Capability = constant command.Capability arguments_text
arguments verb.Close = constant command.Close arguments_text
arguments verb.Copy = copy_command false
arguments verb.DeleteAcl = made (λ x. command.DeleteAcl x.0 x.1) arguments_text two_strings
arguments verb.Enable = made command.Enable arguments_text (preceded space (several space atom))
arguments verb.Expunge = constant (command.Expunge None) arguments_text
arguments verb.Fetch = fetch_command false
arguments verb.Idle = constant (command.Idle None) arguments_text
arguments verb.List = made (λ x. command.List x.0 x.1) arguments_text list
arguments verb.Login = made (λ x. command.Login x.0 x.1) arguments_text two_strings
arguments verb.Logout = constant command.Logout arguments_text
arguments (verb.Mailbox name) = made (mailbox_command name) arguments_text one_string
arguments verb.Noop = constant command.Noop arguments_text
arguments verb.Search = search_command false
arguments verb.SetAcl = made (λ x. command.SetAcl x.0 x.1.0 x.1.1.0 x.1.1.1) arguments_text set_acl
arguments verb.Status = made (λ x. command.Status x.0 x.1) arguments_text status_form
arguments verb.Store = store_command false
arguments verb.Uid = uid_command
arguments verb.Unselect = constant command.Unselect arguments_text
arguments verb.Xfer = made (λ x. command.Xfer x.0.0 x.0.1 x.1) arguments_text xfer

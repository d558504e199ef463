-- What stands behind the name of each command: its law, and that it is of that name.
use Rattle.std.proofs.Common.{◌≡◌, ℕ, true, false, List, [], ◌∷◌, ◌==◌, None, Some, refl, ap}
use Rattle.grammar.specs.Exact.{among}
use Rattle.grammar.specs.Forms.{Law, preceded, dispatch, nothing, several}
use Rattle.grammar.proofs.FormLaw.{Branch, branch, one_byte, apart_byte, law_and, law_closed, law_dispatch, law_nothing, law_spaced, law_weaker}
use Rattle.grammar.proofs.NamesLaw.{law_table}
use Rattle.grammar.proofs.SeveralLaw.{law_several}
use Rattle.imap_types.specs.declared.command.Command.{Command}
use Rattle.imap_types.specs.declared.command.Command.TheVariants as command
use Rattle.imap_types.specs.declared.command.StatusItem.TheVariants.{Messages}
use Rattle.imap_command.specs.declared.verb.Verb.{Verb}
use Rattle.imap_command.specs.declared.verb.Verb.TheVariants as verb
use Rattle.imap_command.specs.declared.verb.MailboxVerb.{MailboxVerb}
use Rattle.imap_command.specs.declared.verb.MailboxVerb.TheVariants as mailbox_verb
use Rattle.imap_command.specs.declared.verb.UidVerb.{UidVerb}
use Rattle.imap_command.specs.declared.verb.UidVerb.TheVariants as uid
use Rattle.imap_command.specs.Append.{append_form}
use Rattle.imap_command.specs.Arguments.{one_string, two_strings, optional_string}
use Rattle.imap_command.specs.Commands.{arguments, arguments_text, copy, mailbox_command, printed_as, uid_arguments, uid_command, verb_of, xfer}
use Rattle.imap_command.specs.Authenticate.{authenticate_form}
use Rattle.imap_command.specs.Fetch.{fetch_form}
use Rattle.imap_command.specs.List.{list}
use Rattle.imap_command.specs.Search.{search_form}
use Rattle.imap_command.specs.SetAcl.{set_acl}
use Rattle.imap_command.specs.Sets.{set}
use Rattle.imap_command.specs.Status.{status_items, status_form}
use Rattle.imap_text.specs.StatusItems.{status_item_rows, item_text, status_item}
use Rattle.imap_command.specs.Store.{store_form}
use Rattle.imap_text.specs.Strings.{argument, atom}
use Rattle.imap_command.specs.Verbs.{uid_name_text, uid_verb_form, uid_verb_of, uid_verbs}
use Rattle.imap_command.proofs.ArgumentsLaw.{ends_atom, ends_line, line_ends_atom, law_argument, arguments_behind, law_one_string}
use Rattle.imap_command.proofs.ArgumentsLaw.{law_two_strings, law_strings, law_optional_string, law_atoms}
use Rattle.imap_command.proofs.AppendLaw.{law_append}
use Rattle.imap_command.proofs.AuthenticateLaw.{law_authenticate}
use Rattle.imap_command.proofs.FetchLaw.{law_fetch}
use Rattle.imap_command.proofs.ListLaw.{law_list}
use Rattle.imap_command.proofs.SearchLaw.{law_search}
use Rattle.imap_command.proofs.SetAclLaw.{law_set_acl}
use Rattle.imap_command.proofs.SetsLaw.{law_set}
use Rattle.imap_command.proofs.StoreLaw.{law_store}

law_copy : Law ends_atom ends_line copy
law_copy = arguments_behind _ refl (law_spaced set argument refl law_set law_argument)

law_spaced_set : Law ends_atom ends_line (preceded 32 set)
law_spaced_set = arguments_behind set refl law_set

law_status_items : Law (λ c. c == 40) ends_line status_items
unfolding item_text
law_status_items =
    law_closed ends_line 40 (several 32 status_item) 41 refl
    (law_several (λ c. c == 41) 32 status_item (law_table Messages status_item_rows item_text refl refl (32 ∷ 41 ∷ []) refl refl) refl
    (apart_byte 32 (λ c. c == 41) refl) (one_byte 41 (among (32 ∷ 41 ∷ [])) refl))

law_status : Law ends_atom ends_line status_form
law_status = arguments_behind _ refl (law_spaced argument status_items refl law_argument law_status_items)

-- a command without arguments
law_none : Law ends_atom ends_line nothing
law_none = law_weaker ends_atom ends_line nothing line_ends_atom (λ c h. h) (law_nothing ends_line)

pub uid_branch : (k : UidVerb) → Branch ends_atom ends_line uid_verb_of k (uid_arguments k)
unfolding printed_as uid_arguments
uid_branch uid.Copy = branch uid_verb_of uid.Copy (λ x. command.Copy true x.0 x.1) arguments_text copy law_copy (λ x. (refl, refl))
uid_branch uid.Expunge =
    branch uid_verb_of uid.Expunge (λ parts. command.Expunge (Some parts)) arguments_text (preceded 32 set) law_spaced_set (λ parts. (refl, refl))
uid_branch uid.Fetch = branch uid_verb_of uid.Fetch (λ x. command.Fetch true x.0 x.1) arguments_text fetch_form law_fetch (λ x. (refl, refl))
uid_branch uid.Search = branch uid_verb_of uid.Search (command.Search true) arguments_text search_form law_search (λ _. (refl, refl))
uid_branch uid.Store = branch uid_verb_of uid.Store (λ x. command.Store true x.0 x.1.0.0 x.1.0.1 x.1.1) arguments_text store_form law_store (λ x. (refl, refl))

-- a command behind UID
is_uid_command : (k : UidVerb) (bytes : List ℕ) (it : Command) → (uid_arguments k).part.lang bytes it → verb_of it ≡ verb.Uid
unfolding uid_arguments printed_as
is_uid_command uid.Copy bytes it j = ap verb_of j.goes_on.1
is_uid_command uid.Expunge bytes it j = ap verb_of j.goes_on.1
is_uid_command uid.Fetch bytes it j = ap verb_of j.goes_on.1
is_uid_command uid.Search bytes it j = ap verb_of j.goes_on.1
is_uid_command uid.Store bytes it j = ap verb_of j.goes_on.1

law_uid : Law ends_atom ends_line uid_command
law_uid =
    arguments_behind (dispatch uid_verb_form uid_verb_of uid_arguments) refl
    (law_dispatch uid_verb_form uid_verb_of uid_arguments (law_table uid.Copy uid_verbs uid_name_text refl refl (32 ∷ 13 ∷ []) refl refl) uid_branch)

of_mailbox : (name : MailboxVerb) (mailbox : List ℕ)
    → (verb_of (mailbox_command name mailbox) ≡ verb.Mailbox name) × (arguments_text (mailbox_command name mailbox) ≡ one_string.text mailbox)
unfolding printed_as
of_mailbox mailbox_verb.Create mailbox = (refl, refl)
of_mailbox name mailbox = (refl, refl)

law_xfer : Law ends_atom ends_line xfer
law_xfer = law_and two_strings optional_string law_strings law_optional_string

pub branch_of : (v : Verb) → Branch ends_atom ends_line verb_of v (arguments v)
unfolding arguments printed_as
branch_of verb.Append = branch verb_of verb.Append (λ x. command.Append x.0 x.1.0 x.1.1.0 x.1.1.1) arguments_text append_form law_append (λ x. (refl, refl))
branch_of verb.Authenticate = branch verb_of verb.Authenticate command.Authenticate arguments_text authenticate_form law_authenticate (λ _. (refl, refl))
branch_of verb.Capability = branch verb_of verb.Capability (λ _. command.Capability) arguments_text nothing law_none (λ _. (refl, refl))
branch_of verb.Close = branch verb_of verb.Close (λ _. command.Close) arguments_text nothing law_none (λ _. (refl, refl))
branch_of verb.Copy = branch verb_of verb.Copy (λ x. command.Copy false x.0 x.1) arguments_text copy law_copy (λ x. (refl, refl))
branch_of verb.DeleteAcl = branch verb_of verb.DeleteAcl (λ x. command.DeleteAcl x.0 x.1) arguments_text two_strings law_two_strings (λ x. (refl, refl))
branch_of verb.Enable = branch verb_of verb.Enable command.Enable arguments_text (preceded 32 (several 32 atom)) law_atoms (λ _. (refl, refl))
branch_of verb.Expunge = branch verb_of verb.Expunge (λ _. command.Expunge None) arguments_text nothing law_none (λ _. (refl, refl))
branch_of verb.Fetch = branch verb_of verb.Fetch (λ x. command.Fetch false x.0 x.1) arguments_text fetch_form law_fetch (λ x. (refl, refl))
branch_of verb.Idle = branch verb_of verb.Idle (λ _. command.Idle None) arguments_text nothing law_none (λ _. (refl, refl))
branch_of verb.List = branch verb_of verb.List (λ x. command.List x.0 x.1) arguments_text list law_list (λ x. (refl, refl))
branch_of verb.Login = branch verb_of verb.Login (λ x. command.Login x.0 x.1) arguments_text two_strings law_two_strings (λ x. (refl, refl))
branch_of verb.Logout = branch verb_of verb.Logout (λ _. command.Logout) arguments_text nothing law_none (λ _. (refl, refl))
branch_of (verb.Mailbox name) = branch verb_of (verb.Mailbox name) (mailbox_command name) arguments_text one_string law_one_string (of_mailbox name)
branch_of verb.Noop = branch verb_of verb.Noop (λ _. command.Noop) arguments_text nothing law_none (λ _. (refl, refl))
branch_of verb.Search = branch verb_of verb.Search (command.Search false) arguments_text search_form law_search (λ _. (refl, refl))
branch_of verb.SetAcl =
    branch verb_of verb.SetAcl (λ x. command.SetAcl x.0 x.1.0 x.1.1.0 x.1.1.1) arguments_text set_acl law_set_acl (λ x. (refl, refl))
branch_of verb.Status = branch verb_of verb.Status (λ x. command.Status x.0 x.1) arguments_text status_form law_status (λ x. (refl, refl))
branch_of verb.Store =
    branch verb_of verb.Store (λ x. command.Store false x.0 x.1.0.0 x.1.0.1 x.1.1) arguments_text store_form law_store (λ x. (refl, refl))
branch_of verb.Uid = record { law = law_uid; keyed = λ bytes it j. is_uid_command j.goes_on.between j.goes_on.back it j.goes_on.goes_on }
branch_of verb.Unselect = branch verb_of verb.Unselect (λ _. command.Unselect) arguments_text nothing law_none (λ _. (refl, refl))
branch_of verb.Xfer = branch verb_of verb.Xfer (λ x. command.Xfer x.0.0 x.0.1 x.1) arguments_text xfer law_xfer (λ x. (refl, refl))

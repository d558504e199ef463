-- What is told of a refusal for a move or for a server is what the history of one store has of it, whatever the command awaited.
use Rattle.std.proofs.Common.{◌≡◌, ℕ, Bool, true, false, List, Option, None, Some, refl, sym, ◌∙◌, ap, subst}
use Rattle.std.specs.Prelude.{⊤}
use Rattle.mur_base.specs.Inbox.{taken_name}
use Rattle.mur_base.specs.Names.{mail_name_fault}
use Rattle.mur_base.specs.declared.name.NameFault.{NameFault}
use Rattle.mur_base.specs.declared.point.What.{What}
use Rattle.mur_base.specs.declared.point.What.TheVariants.{Reply as replied_to, Read as read, Lost as lost, Reserved as reserved, Unreached as unreached}
use Rattle.imap_types.specs.declared.command.Command.{Command}
use Rattle.imap_types.specs.declared.command.Command.TheVariants as command
use Rattle.imap_types.specs.declared.reply.NoText.{NoText}
use Rattle.imap_types.specs.declared.reply.NoText.TheVariants.{BeingMoved, NotReached}
use Rattle.mur_model.specs.declared.commands.list.Listing.{Listing}
use Rattle.mur_model.specs.declared.commands.select.Opening.{Opening}
use Rattle.mur_model.specs.declared.session.Sess.{Sess}
use Rattle.mur_model.specs.declared.session.Sess.TheVariants.{Off, In, Selected as selected, Ended}
use Rattle.mur_model.specs.declared.setting.Setting.{Setting}
use Rattle.mur_model.specs.declared.view.View.{View}
use Rattle.mur_model.specs.Act.{need_begun, need_in, need_of, need_selected, need_taken}
use Rattle.mur_model.specs.Asking.{asked_for}
use Rattle.mur_model.specs.Left.{replied}
use Rattle.mur_model.specs.Needed.{Needed, Refusal, Turned, Mailbox, Names, Work, Make, Delete, Append, Status, Select, Viewed}
use Rattle.mur_model.specs.Relocation.{cause_text, refused_for}
use Rattle.mur_model.specs.Rights.{has_rights}
use Rattle.mur_model.specs.Select.{opening, select, select_as, select_by}
use Rattle.mur_model.specs.Traits.{is_in, may_be, traits_of}
use Rattle.mur_model.proofs.EachNeed.{OfAnswers, OfBegun, OfViewed, each_need, of_refusals, selecting}
use Rattle.imap_types.specs.Reply.{refused}
use Rattle.session_core.specs.Relocated.{goes_on, moved_turn, relocated, why_moved}

-- the text is the cause's
its_text : (what : What) (why : NoText) → cause_text what ≡ Some why → why_moved what ≡ why
unfolding cause_text why_moved
its_text reserved why e = let is : BeingMoved ≡ why = cc in is
its_text (unreached node) why e = let is : NotReached ≡ why = cc in is
its_text replied_to why e = cc
its_text read why e = cc
its_text lost why e = cc

-- what is told for work that a command of a session needs, for each text
abbrev Refuses : Sess → Command → List ℕ → Work → Type 0
Refuses session it name work = (why : NoText) → goes_on session (moved_turn (asked_for name work).awaited why) ≡ goes_on session (refused_for session it why)

abbrev RefusesNeeded : Sess → Command → Needed → Type 0
RefusesNeeded session it (Refusal verdict) = ⊤
RefusesNeeded session it (Turned turn) = ⊤
RefusesNeeded session it (Names listing) = (why : NoText) → refused_for session it why ≡ replied (refused why)
RefusesNeeded session it (Mailbox name work) = Refuses session it name work

-- ---- a SELECT, an EXAMINE

by_rights : (session : Sess) (it : Command) (name : List ℕ) (opened : Opening) (may : Bool) → Refuses session it name (Select opened)
    → RefusesNeeded session it (select_by name opened may)
unfolding select_by
by_rights session it name opened true so = so
by_rights session it name opened false so = tt

by_name : (setting : Setting) (session : Sess) (it : Command) (user name : List ℕ) (is_writable was_selected : Bool) (fault : Option NameFault)
    → Refuses session it name (Select (opening user name is_writable was_selected))
    → RefusesNeeded session it (select_as setting user name is_writable was_selected fault)
unfolding select_as
by_name setting session it user name is_writable was_selected (Some fault) so = tt
by_name setting session it user name is_writable was_selected None so =
    by_rights session it name (opening user name is_writable was_selected) (has_rights setting.users user name) so

select_refuses : (setting : Setting) (session : Sess) (text : List ℕ) → RefusesNeeded session (command.Select text) (need_of setting session (command.Select text))
unfolding need_of need_taken need_in need_selected need_begun select is_in may_be traits_of asked_for moved_turn refused_for
select_refuses setting Off text = tt
select_refuses setting (In user) text =
    by_name setting (In user) (command.Select text) user (taken_name user text) true false (mail_name_fault (taken_name user text)) (λ why. refl)
select_refuses setting (selected view) text =
    by_name setting (selected view) (command.Select text) view.user (taken_name view.user text) true true (mail_name_fault (taken_name view.user text))
    (λ why. refl)
select_refuses setting Ended text = tt

examine_refuses : (setting : Setting) (session : Sess) (text : List ℕ) → RefusesNeeded session (command.Examine text) (need_of setting session (command.Examine text))
unfolding need_of need_taken need_in need_selected need_begun select is_in may_be traits_of asked_for moved_turn refused_for
examine_refuses setting Off text = tt
examine_refuses setting (In user) text =
    by_name setting (In user) (command.Examine text) user (taken_name user text) false false (mail_name_fault (taken_name user text)) (λ why. refl)
examine_refuses setting (selected view) text =
    by_name setting (selected view) (command.Examine text) view.user (taken_name view.user text) false true (mail_name_fault (taken_name view.user text))
    (λ why. refl)
examine_refuses setting Ended text = tt

-- ---- any other command selects nothing

unfoldable SelectsNone : Command → Type 0
SelectsNone (command.Select text) = ⊥
SelectsNone (command.Examine text) = ⊥
SelectsNone it = ⊤

unfoldable NoSelecting : Needed → Type 0
NoSelecting (Mailbox name (Select it)) = ⊥
NoSelecting needed = ⊤

no_selecting : (is_writable : Bool) (text : List ℕ) → SelectsNone (selecting is_writable text) → ⊥
unfolding SelectsNone
no_selecting true text none = none
no_selecting false text none = none

none_answers : OfAnswers NoSelecting
unfolding NoSelecting
none_answers = of_refusals (λ verdict. tt) (λ name plain. tt) (λ name user plain. tt) tt tt

none_begun : (setting : Setting) → OfBegun setting SelectsNone NoSelecting
unfolding NoSelecting
none_begun setting = record {
  answers = none_answers;
  enable = tt;
  separator = tt;
  names = λ user pattern. tt;
  unselected = λ user was_selected why. tt;
  make = λ name named. tt;
  delete = λ name named. tt;
  append = λ name text flags date body asked. tt;
  status = λ user name items named. tt;
  select = λ user name text is_writable was_selected asked named. absurd (no_selecting is_writable text asked);
}

none_viewed : (view : View) → OfViewed SelectsNone NoSelecting view
unfolding NoSelecting
none_viewed view = record {
  left = λ name plain. tt;
  news = λ why. tt;
  close = tt;
  expunge = λ only. tt;
  store = λ by_uid set mode is_silent flags asked. tt;
  fetch = λ it. tt;
  search = λ it. tt;
}

stays_told : (session : Sess) (it : Command) (why : NoText) → SelectsNone it → refused_for session it why ≡ replied (refused why)
unfolding SelectsNone refused_for
stays_told (selected view) (command.Select text) why none = absurd none
stays_told (selected view) (command.Examine text) why none = absurd none
stays_told session it why none = refl

other_refuses : (session : Sess) (it : Command) (needed : Needed) → SelectsNone it → NoSelecting needed → RefusesNeeded session it needed
unfolding NoSelecting asked_for moved_turn
other_refuses session it (Refusal verdict) none selecting = tt
other_refuses session it (Turned turn) none selecting = tt
other_refuses session it (Names listing) none selecting = λ why. stays_told session it why none
other_refuses session it (Mailbox name Make) none selecting = λ why. ap (goes_on session) (sym (stays_told session it why none))
other_refuses session it (Mailbox name Delete) none selecting = λ why. ap (goes_on session) (sym (stays_told session it why none))
other_refuses session it (Mailbox name (Append message)) none selecting = λ why. ap (goes_on session) (sym (stays_told session it why none))
other_refuses session it (Mailbox name (Status shown items)) none selecting = λ why. ap (goes_on session) (sym (stays_told session it why none))
other_refuses session it (Mailbox name (Select opened)) none selecting = absurd selecting
other_refuses session it (Mailbox name (Viewed view work)) none selecting = λ why. ap (goes_on session) (sym (stays_told session it why none))

need_refuses : (setting : Setting) (session : Sess) (it : Command) → RefusesNeeded session it (need_of setting session it)
unfolding SelectsNone
need_refuses setting session (command.Select text) = select_refuses setting session text
need_refuses setting session (command.Examine text) = examine_refuses setting session text
need_refuses setting session it =
    other_refuses session it (need_of setting session it) tt (each_need (none_begun setting) session (λ view is. none_viewed view) it tt)

pub refused_as_told : (setting : Setting) (session : Sess) (it : Command) (name : List ℕ) (work : Work) (what : What) (why : NoText)
    → need_of setting session it ≡ Mailbox name work → cause_text what ≡ Some why
    → relocated session (asked_for name work).awaited what ≡ goes_on session (refused_for session it why)
refused_as_told setting session it name work what why need cause =
    ap (λ t. goes_on session (moved_turn (asked_for name work).awaited t)) (its_text what why cause)
    ∙ subst (λ n. RefusesNeeded session it n) need (need_refuses setting session it) why

pub refused_list : (setting : Setting) (session : Sess) (it : Command) (listing : Listing) (why : NoText) → need_of setting session it ≡ Names listing
    → refused_for session it why ≡ replied (refused why)
refused_list setting session it listing why need = subst (λ n. RefusesNeeded session it n) need (need_refuses setting session it) why

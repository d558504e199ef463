-- What a frontend answered alone needed nothing of the store, so it is no LIST of names that was answered OK.
use Rattle.std.proofs.Common.{◌≡◌, ◌≢◌, ℕ, ◌+◌, List, [], ◌∷◌, ◌++◌, length, Some, sym, ◌∙◌, ap, subst}
use Rattle.std.specs.Prelude.{All}
use Rattle.std.proofs.lemmas.List.Elements.{All-nil, All-push, All-weaker}
use Rattle.imap_types.specs.declared.command.Command.TheVariants as command
use Rattle.imap_types.specs.declared.command.Tag.{Tag}
use Rattle.imap_types.specs.declared.reply.BadText.TheVariants.{State}
use Rattle.imap_types.specs.declared.reply.Code.{Code}
use Rattle.imap_types.specs.declared.reply.Verdict.TheVariants.{Ok as ok_reply, Bad as bad_reply}
use Rattle.imap_types.specs.declared.reply.NoText.TheVariants.{BeingMoved, NotReached}
use Rattle.imap_types.specs.declared.request.Answer.{Answer}
use Rattle.imap_types.specs.declared.request.Request.{Request}
use Rattle.imap_types.specs.declared.request.Request.TheVariants.{Command as a_command}
use Rattle.link_msg.specs.declared.how.How.TheVariants.{Here}
use Rattle.mark_history.specs.Marked.{AreMarked, Tale, done, refusal, telling}
use Rattle.mark_history.specs.Marked.AreMarked.{nothing, a_step, asks, sees, sees_late, carries_out, tells, tells_at_once, refuses, refuses_at_once, takes_back}
use Rattle.mark_history.specs.declared.mark.Mark.{Mark}
use Rattle.mark_history.specs.declared.mark.MarkKind.TheVariants.{Told}
use Rattle.mark_history.proofs.SettledTalk.{settled_talk}
use Rattle.mark_history.proofs.TakenBack.{list_at}
use Rattle.mur_base.specs.declared.point.AskId.{AskId}
use Rattle.mur_model.specs.Act.{act_by, act_of, need_begun, need_in, need_of, need_selected, need_taken}
use Rattle.mur_model.specs.Answer.{NeedsNoStore, answer_of}
use Rattle.mur_model.specs.History.{GoesOn, numbered}
use Rattle.mur_model.specs.Listing.{list}
use Rattle.mur_model.specs.Needed.{Needed, NeedsNothing, Refusal}
use Rattle.mur_model.specs.Traits.{is_in, may_be, traits_of}
use Rattle.mur_model.specs.declared.session.Sess.{Sess}
use Rattle.mur_model.specs.declared.session.Sess.TheVariants.{Off, In, Selected as selected, Ended}
use Rattle.mur_model.specs.declared.setting.Setting.{Setting}
use Rattle.mur_model.specs.declared.store.Store.{Store}
use Rattle.mur_model.proofs.HistoryGrows.{numbered_on, same_lists}
use Rattle.mur_model.proofs.Numbered.{numbered_last}
use Rattle.store_law.proofs.ListedLaw.{lists_names}
use Rattle.cluster_core.specs.Headline.Routing.{IsListed}
use Rattle.cluster_core.proofs.Connections.Tales.{list_more}

-- ---- each mark of what a frontend answered alone

-- the command of this number was answered so, in a session in which it needs nothing of the store
record IsAnsweredSo (setting : Setting) (tale : Tale) (ask : AskId) : Type 0 where
  session : Sess
  request : Request
  store : Store
  serial : ℕ
  asked : numbered (tale.talk.requests ask.conn) ask.command ≡ Some request
  alone : NeedsNoStore setting session request
  told : numbered (tale.told ask.conn) ask.command ≡ Some (answer_of setting store session request serial).answer

abbrev IfHere : Setting → Tale → Mark → Type 0
IfHere setting tale mark = mark.kind ≡ Told Here → IsAnsweredSo setting tale mark.ask

module _ (setting : Setting) where
  -- more was asked, or told
  still_so : (tale later : Tale) → GoesOn tale.talk.requests later.talk.requests → GoesOn tale.told later.told → (marks : List Mark)
      → All (IfHere setting tale) marks → All (IfHere setting later) marks
  still_so tale later asked told marks all =
      All-weaker (IfHere setting tale) (IfHere setting later)
      (λ mark so here.
      let its = so here in
      record {
        session = its.session;
        request = its.request;
        store = its.store;
        serial = its.serial;
        asked = numbered_on tale.talk.requests later.talk.requests asked (mark.ask).conn (mark.ask).command its.request its.asked;
        alone = its.alone;
        told = numbered_on tale.told later.told told (mark.ask).conn (mark.ask).command _ its.told;
      })
      marks all

  push : (tale : Tale) (marks : List Mark) (mark : Mark) → All (IfHere setting tale) marks → IfHere setting tale mark
      → All (IfHere setting tale) (marks ++ mark ∷ [])
  push tale marks mark all so = All-push (IfHere setting tale) marks mark all so

  tells_one : (tale : Tale) (conn : ℕ) (answer : Answer) → GoesOn tale.told (telling tale conn answer).told
  tells_one tale conn answer = list_more tale.told conn answer

  answered_alone : (now : ℕ) (marks : List Mark) (tale : Tale) → AreMarked setting now marks tale → All (IfHere setting tale) marks
  answered_alone now marks tale (nothing moving) = All-nil (IfHere setting _)
  answered_alone now marks tale (a_step earlier later those its le made) = answered_alone earlier those its made
  answered_alone now marks tale (asks at those its requests more made) =
      still_so its _ more (same_lists its.told) those (answered_alone at those its made)
  answered_alone now marks tale (sees at those its conn request unreplied asked made) =
      push its those _ (answered_alone at those its made) (λ here. cc)
  answered_alone now marks tale (sees_late at those its id low made) =
      push its those _ (answered_alone at those its made) (λ here. cc)
  answered_alone now marks tale (carries_out at those its conn counts request serial can unless made) =
      push _ those _ (still_so its _ (same_lists its.talk.requests) (same_lists its.told) those (answered_alone at those its made)) (λ here. cc)
  answered_alone now marks tale (tells at those its conn answer untold made) =
      push _ those _ (still_so its _ (same_lists its.talk.requests) (tells_one its conn answer) those (answered_alone at those its made)) (λ here. cc)
  answered_alone now marks tale (tells_at_once at those its conn request serial can alone made) =
      let answer : Answer = (done setting its conn request serial).answer in
      push _ those _
      (still_so its _ (same_lists its.talk.requests) (tells_one its conn answer) those (answered_alone at those its made))
      (λ here. record {
        session = its.course.sessions conn;
        request = request;
        store = its.course.store;
        serial = serial;
        asked = can.asked;
        alone = alone;
        told = ap (λ l. numbered l (length (its.told conn) + 1)) (list_at its.told conn (its.told conn ++ answer ∷ [])) ∙ numbered_last (its.told conn) answer;
      })
  answered_alone now marks tale (refuses at those its conn tag it serial can made) =
      push _ those _
      (still_so its _ (same_lists its.talk.requests) (tells_one its conn (refusal its conn tag it BeingMoved).answer) those (answered_alone at those its made))
      (λ here. cc)
  answered_alone now marks tale (refuses_at_once at those its conn tag it node serial can made) =
      push _ those _
      (still_so its _ (same_lists its.talk.requests) (tells_one its conn (refusal its conn tag it NotReached).answer) those (answered_alone at those its made))
      (λ here. cc)
  answered_alone now marks tale (takes_back at those its conn answer untold last made) =
      still_so its _ (same_lists its.talk.requests) (same_lists its.told) those (answered_alone at those its made)

-- ---- a LIST of names

-- what needs nothing of the store isn't answered OK
abbrev IsNoOk : Needed → Type 0
IsNoOk need = NeedsNothing need → (store : Store) (session : Sess) (serial : ℕ) (code : Code) (name : List ℕ)
    → (act_by store session serial need).reply.verdict ≡ ok_reply code name → ⊥

refused_so : IsNoOk (Refusal (bad_reply State))
unfolding act_by
refused_so alone store session serial code name is = cc

names_so : (setting : Setting) (user reference mailbox : List ℕ) → mailbox ≢ [] → IsNoOk (list setting user reference mailbox)
unfolding NeedsNothing
names_so setting user reference mailbox some =
    let names = lists_names setting user reference mailbox some in
    λ alone store session serial code name is. subst NeedsNothing names.1 alone

list_so : (setting : Setting) (session : Sess) (reference mailbox : List ℕ) → mailbox ≢ [] → IsNoOk (need_of setting session (command.List reference mailbox))
unfolding need_of need_taken need_in need_selected need_begun is_in may_be traits_of
list_so setting Off reference mailbox some = refused_so
list_so setting (In user) reference mailbox some = names_so setting user reference mailbox some
list_so setting (selected view) reference mailbox some = names_so setting view.user reference mailbox some
list_so setting Ended reference mailbox some = refused_so

not_ok : (setting : Setting) (store : Store) (session : Sess) (request : Request) (serial : ℕ) (tag : Tag) (reference mailbox : List ℕ) (code : Code)
    (name : List ℕ) → request ≡ a_command tag (command.List reference mailbox) → mailbox ≢ [] → NeedsNoStore setting session request
    → (answer_of setting store session request serial).answer.reply.verdict ≡ ok_reply code name → ⊥
unfolding NeedsNoStore answer_of act_of
not_ok setting store session request serial tag reference mailbox code name is some alone ok =
    list_so setting session reference mailbox some (subst (NeedsNoStore setting session) is alone) store session serial code name
    (subst (λ (r : Request). (answer_of setting store session r serial).answer.reply.verdict ≡ ok_reply code name) is ok)

just : {X : Type 0} {one other : X} → Some one ≡ Some other → one ≡ other
just e = cc

-- no frontend answers it alone
pub none_listed : (setting : Setting) (now : ℕ) (marks : List Mark) (tale : Tale) → AreMarked setting now marks tale
    → All (λ (mark : Mark). mark.kind ≡ Told Here → IsListed (settled_talk marks tale) mark.ask → ⊥) marks
none_listed setting now marks tale made =
    All-weaker (IfHere setting tale) (λ (mark : Mark). mark.kind ≡ Told Here → IsListed (settled_talk marks tale) mark.ask → ⊥)
    (λ mark so here listed.
    let its = so here in
    let list = listed.is_list in
    let request : its.request ≡ a_command list.tag (command.List list.reference list.mailbox) = just (sym its.asked ∙ list.asked) in
    let answer : (answer_of setting its.store its.session its.request its.serial).answer ≡ listed.answer = just (sym its.told ∙ listed.answered) in
    not_ok setting its.store its.session its.request its.serial list.tag list.reference list.mailbox listed.code listed.name request listed.of_names its.alone
    (ap (λ (a : Answer). a.reply.verdict) answer ∙ listed.ok))
    marks (answered_alone setting now marks tale made)

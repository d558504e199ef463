-- It holds after the master took the first message of a backend, which is one command of the store or nothing.
use Rattle.std.proofs.Common.{◌≡◌, ◌≢◌, ◌⊎◌, inl, inr, ℕ, true, false, is_some, List, [], ◌∷◌, ◌++◌, map, Option}
use Rattle.std.proofs.Common.{None, Some, refl, sym, ap, subst, ◌∙◌, append-nil}
use Rattle.std.specs.List.{AllByRecursion}
use Rattle.std.specs.Ordering.{nat_cmp}
use Rattle.std.specs.Cmp.Lexicographic.{slice_cmp}
use Rattle.std.proofs.lemmas.List.{append_cancel_left, map-append}
use Rattle.link_msg.specs.declared.counts.Counts.{Counts}
use Rattle.link_msg.specs.declared.counts.Counts.TheVariants.{Always}
use Rattle.link_msg.specs.declared.message.LinkMsg.{LinkMsg}
use Rattle.link_queue.specs.Links.{Links, on_link, without_first}
use Rattle.master_core.specs.declared.reply.Reply.{Reply}
use Rattle.master_core.specs.declared.sender.Sender.TheVariants.{Backend}
use Rattle.master_core.specs.Linked.{node_says}
use Rattle.master_core.specs.Outside.{Stepped}
use Rattle.master_core.specs.Replies.{reply_to}
use Rattle.master_core.specs.Step.{mark_of, replied, table_with}
use Rattle.mupdate_codec.specs.declared.command.MCommand.{MCommand}
use Rattle.mupdate_codec.specs.declared.command.MCommand.TheVariants as command
use Rattle.mupdate_codec.specs.declared.tag.Tag.{Tag}
use Rattle.mupdate_codec.specs.Arguments.{exact}
use Rattle.mupdate_codec.specs.Asks.{ask_id_of}
use Rattle.mupdate_codec.specs.Commands.{command_line}
use Rattle.mur_base.proofs.MapLaws.{names_apart, same_or_other}
use Rattle.mur_base.specs.declared.point.AskId.{AskId}
use Rattle.mur_model.specs.declared.store.Pair.{Pair}
use Rattle.mur_model.specs.declared.store.Store.{Store}
use Rattle.node_record.specs.declared.master.MasterRecord.{MasterRecord}
use Rattle.node_record.specs.declared.master.MasterRecord.TheVariants as entry
use Rattle.node_record.specs.Table.{IsCounted, MailboxTable, is_mailbox_if, record_at, table_after}
use Rattle.back_node.specs.declared.node.BackNode.{BackNode}
use Rattle.home_law.specs.Items.{Server}
use Rattle.home_law.specs.ManyNames.{Mailbox}
use Rattle.name_links.specs.Lines.{backend_line, is_asked}
use Rattle.name_links.specs.OneLink.{OneLink, server_of, table_by}
use Rattle.name_links.specs.Serials.{Given, gives}
use Rattle.name_links.proofs.MadeLaw.{create_makes_one}
use Rattle.back_links.specs.MasterEvents.{TalkAfterMaster, given_in}
use Rattle.back_links.specs.OneTalk.{link_of, HasTalk}
use Rattle.back_links.specs.Written.{command_message}
use Rattle.back_links.proofs.FirstLine.{IsItsLine, its_line, says_reply, gives_same}
use Rattle.back_links.proofs.MasterLaw.{others_keep_talk, takes_keeps_talk}
use Rattle.back_links.proofs.Queues.{IsFirst, first_of}
use Rattle.back_links.proofs.Texts.{command_read}
use Rattle.store_links.specs.Given.{HasGiven, given_pair}
use Rattle.store_links.specs.Lines.{IsTaken, nothing as is_nothing, created as is_created, removed as is_removed}
use Rattle.store_links.specs.Shown.{Homes, Shows}
use Rattle.mur_model.specs.Store.{without_box}
use Rattle.store_links.specs.TableEntries.{store_with}
use Rattle.store_links.proofs.BoxesLaw.{box_is_there, each_is_a_box}
use Rattle.store_links.proofs.LineLaw.{each_is_one}
use Rattle.store_links.proofs.TableLaw.{delete_is_one}
use Rattle.many_links.specs.Murder.{Murder, held_in, homes_of, after_master}
use Rattle.many_links.specs.ManyHold.{IsLinked, ManyHold}
use Rattle.many_links.specs.MasterEvents.{IsDoneFor, IsOneCommand, nothing, created, removed, TakesKeepsMany}
use Rattle.many_links.specs.Marks.{IsOnlyTold, marks_in}
use Rattle.many_links.proofs.Carried.{taken_else, taken_first}
use Rattle.many_links.proofs.Carrying.{Carries, activates, deletes, activate_counts, asked_for, at_backend, carries, delete_counts, of_mailbox, only_told}
use Rattle.many_links.proofs.Marked.{reply_marks}
use Rattle.many_links.proofs.MasterLaw.{then_linked}

counted_with : (table : MailboxTable) (made : Option MasterRecord) → IsCounted table → IsCounted (table_with table made)
counted_with table None counted = counted
counted_with table (Some it) counted = refl

-- the one that is given, behind the others
one_given : (store : Store) (given more : Given) (n : Mailbox) (serial : ℕ) → HasGiven store given → HasGiven (store_with store n serial) (given ++ more)
    → more ≡ (n, serial) ∷ []
one_given store given more n serial has gave =
    let pair : Pair = record { name = n; serial = serial } in
    append_cancel_left given more ((n, serial) ∷ [])
    (sym gave ∙ map-append given_pair store.given (pair ∷ []) ∙ ap (λ (g : Given). g ++ (n, serial) ∷ []) has)

module _ (murder : Murder) (given : Given) (store : Store) (hold : ManyHold murder given store) (name : List ℕ) (node : BackNode)
    (there : murder.nodes name ≡ Some node) (message : LinkMsg) (rest : List LinkMsg)
    (first : on_link murder.links name murder.master.me ≡ message ∷ rest) where
  abbrev me : List ℕ
  me = murder.master.me

  abbrev table : MailboxTable
  table = murder.master.table

  abbrev left : Links LinkMsg
  left = without_first murder.links name me

  abbrev says : Stepped
  says = node_says murder.master name message

  abbrev then : Murder
  then = after_master murder left says

  abbrev more : Given
  more = given_in table name message

  -- ---- each backend

  with_first : (its : BackNode) → murder.nodes name ≡ Some its → HasTalk murder.master name its (message ∷ rest) (on_link murder.links me name) given
  with_first its at =
      subst (λ (u : List LinkMsg). HasTalk murder.master name its u (on_link murder.links me name) given) first (hold.each name its at).talk

  own_then : (its : BackNode) → murder.nodes name ≡ Some its → TalkAfterMaster says name its rest (on_link murder.links me name) (given ++ more)
  own_then its at = takes_keeps_talk murder.master name its rest (on_link murder.links me name) given message (with_first its at)

  own_linked : (its : BackNode) → murder.nodes name ≡ Some its → IsLinked then (given ++ more) name its
  own_linked its at =
      let was : IsLinked murder given name its = hold.each name its at in
      then_linked murder given (given ++ more) left says name its was rest (taken_first murder.links name me message rest first)
      (taken_else murder.links name me me name (inr was.apart)) (own_then its at)

  else_linked : (q : List ℕ) (its : BackNode) → q ≢ name → murder.nodes q ≡ Some its → IsLinked then (given ++ more) q its
  else_linked q its ne at =
      let was : IsLinked murder given q its = hold.each q its at in
      then_linked murder given (given ++ more) left says q its was (on_link murder.links q me) (taken_else murder.links name me q me (inl ne))
      (taken_else murder.links name me me q (inr was.apart))
      (others_keep_talk murder.master q name its node (on_link murder.links q me) (on_link murder.links me q) rest (on_link murder.links me name) given message
      (λ e. ne (sym e)) was.talk (with_first node there))

  each_linked : (q : List ℕ) (its : BackNode) → murder.nodes q ≡ Some its → IsLinked then (given ++ more) q its
  each_linked q its at = by_name (same_or_other (slice_cmp nat_cmp) names_apart q name)
    where
      by_name : (q ≡ name) ⊎ (q ≢ name) → IsLinked then (given ++ more) q its
      by_name (inl same) =
          subst (λ (k : List ℕ). murder.nodes k ≡ Some its → IsLinked then (given ++ more) k its) (sym same) (own_linked its) at
      by_name (inr ne) = else_linked q its ne at

  -- ---- the line, and the store

  abbrev talk : HasTalk murder.master name node (message ∷ rest) (on_link murder.links me name) given
  talk = with_first node there

  module _ (line : IsFirst command_message message rest talk.ups) where
    abbrev it : Tag × MCommand
    it = line.it

    abbrev its : IsItsLine murder.master name message it
    its = its_line murder.master name node rest (on_link murder.links me name) given message talk line

    abbrev link : OneLink
    link = link_of murder.master node talk.ups talk.downs

    abbrev b : Server
    b = server_of link

    abbrev homes : Homes
    homes = homes_of murder.nodes

    at_home : homes b ≡ link.held
    at_home = ap homes talk.each.named ∙ ap held_in there

    is_one : IsTaken link homes store given it
    is_one = each_is_one link homes store given it line.more talk.holds.names talk.holds.contents talk.holds.serials line.are at_home hold.shows hold.gave

    table_is : says.master.table ≡ table_by table b it.1
    unfolding replied
    table_is =
        ap (λ (s : Stepped). s.master.table) (says_reply murder.master name message it its)
        ∙ ap (λ (q : Server). table_by table q it.1) (sym talk.each.named)

    meant : backend_line b it.0 it.1 ≡ Some its.line
    meant = subst (λ (q : Server). backend_line q it.0 it.1 ≡ Some its.line) (sym talk.each.named) its.meant

    more_is : more ≡ gives table b it.1
    more_is = gives_same murder.master name message it its ∙ ap (λ (q : Server). gives table q it.1) (sym talk.each.named)

    counted_then : IsCounted says.master.table
    counted_then = subst IsCounted (sym table_is) (counted_with table (reply_to table (Backend b) it.1).entry hold.counted)

    with_store : (later : Store) → Shows says.master.table homes later → HasGiven later (given ++ more) → ManyHold then (given ++ more) later
    with_store later shows gave = record {
      each = each_linked;
      shows = shows;
      gave = gave;
      serials = (own_then node there).holds.serials;
      counted = counted_then;
    }

    abbrev reply : Reply
    reply = reply_to table (Backend b) it.1

    marks_are : marks_in says.outs ≡ marks_in (mark_of (ask_id_of it.0) reply.counts)
    unfolding replied
    marks_are =
        ap (λ (s : Stepped). marks_in s.outs) (says_reply murder.master name message it its)
        ∙ reply_marks murder.master (Backend name) it.0 (reply_to table (Backend name) it.1)
        ∙ ap (λ (q : Server). marks_in (mark_of (ask_id_of it.0) (reply_to table (Backend q) it.1).counts)) (sym talk.each.named)

    done_for : (asked : is_asked it.0 ≡ true) (command : MCommand) → it.1 ≡ command → reply.counts ≡ Some Always
        → IsDoneFor (asked_for it.0 asked).0 message command says.outs
    done_for asked command same counts =
        let ask = asked_for it.0 asked in
        record {
          bytes = (command_line exact).text it;
          tag = it.0;
          is = line.is;
          read = command_read it its.spelled ∙ ap (λ (c : MCommand). Some (it.0, c)) same;
          asked = ask.1;
          marked = marks_are ∙ ap (λ (found : Option AskId). marks_in (mark_of found reply.counts)) ask.1
              ∙ ap (λ (c : Option Counts). marks_in (mark_of (Some ask.0) c)) counts;
        }

    -- where nothing is carried out, no command counts whatever becomes of it
    nothing_done : Shows (table_by table b it.1) homes store → gives table b it.1 ≡ [] → is_asked it.0 ≡ true → reply.counts ≡ Some Always → ⊥
    nothing_done shows none asked counts = by_line it.1 refl (carries table (Backend b) it.1 counts)
      where
        by_line : (command : MCommand) → it.1 ≡ command → Carries table (Backend b) command → ⊥
        by_line _ same (activates n place acl made) =
            let new = create_makes_one link given it line.more n place acl talk.holds.names talk.holds.contents talk.holds.serials line.are asked
            (subst (λ (c : MCommand). (reply_to table (Backend b) c).entry ≡ Some (entry.Active n place acl)) (sym same) made) in
            let no : (n, new.serial) ∷ [] ≡ [] = sym new.gives_it ∙ none in cc
        by_line _ same (deletes n made) =
            let at = of_mailbox link it line.more n talk.holds.names line.are same asked in
            let box = box_is_there table homes store b n at.0 hold.shows at.1 in
            let was : is_mailbox_if (record_at table n) ≡ true = each_is_a_box table homes store hold.shows n ∙ ap is_some box.2 in
            let gone = delete_is_one table homes store n hold.shows was in
            let after : table_by table b it.1 ≡ table_after table (entry.Deleted n) =
            ap (λ (c : MCommand). table_by table b c) same ∙ ap (λ (m : Option MasterRecord). table_with table m) made in
            let then_shows = subst (λ (t : MailboxTable). Shows t homes store) after shows in
            let no : true ≡ false = sym (each_is_a_box (table_after table (entry.Deleted n)) homes store then_shows n ∙ ap is_some box.2)
            ∙ each_is_a_box (table_after table (entry.Deleted n)) homes (without_box store n) gone.shows n ∙ ap is_some gone.gone in cc

    none_given : (later : Store) → later.given ≡ store.given → more ≡ [] → HasGiven later (given ++ more)
    none_given later same none =
        ap (λ pairs. map given_pair pairs) same ∙ hold.gave ∙ sym (ap (λ (g : Given). given ++ g) none ∙ append-nil given)

    one_command : IsTaken link homes store given it → IsOneCommand murder given store name message
    one_command (is_nothing shows none) = record {
      later = store;
      does = nothing (more_is ∙ none)
          (subst (AllByRecursion IsOnlyTold) (sym marks_are) (only_told it.0 reply.counts (nothing_done shows none)));
      hold = with_store store (subst (λ (t : MailboxTable). Shows t homes store) (sym table_is) shows) (none_given store refl (more_is ∙ none));
    }
    one_command (is_created n place acl serial asked is made) =
        let gave : HasGiven (store_with store n serial) (given ++ more) =
        subst (λ (g : Given). HasGiven (store_with store n serial) (given ++ g)) (sym more_is) made.gave in
        let one : more ≡ (n, serial) ∷ [] = one_given store given more n serial hold.gave gave in
        let counts : reply.counts ≡ Some Always = ap (λ (c : MCommand). (reply_to table (Backend b) c).counts) is
        ∙ activate_counts table b n n place acl serial
        (at_backend b it.0 n place acl its.line (subst (λ (c : MCommand). backend_line b it.0 c ≡ Some its.line) is meant))
        (ap (λ (c : MCommand). gives table b c) (sym is) ∙ sym more_is ∙ one) in
        record {
          later = store_with store n serial;
          does = created (asked_for it.0 asked).0 n place acl serial (done_for asked (command.Activate n place acl) is counts) made.none made.free one;
          hold = with_store (store_with store n serial)
              (subst (λ (t : MailboxTable). Shows t homes (store_with store n serial)) (sym table_is) made.shows) gave;
        }
    one_command (is_removed n asked is after none gone) =
        let counts : reply.counts ≡ Some Always = ap (λ (c : MCommand). (reply_to table (Backend b) c).counts) is
        ∙ delete_counts table (table_after table (entry.Deleted n)) b n (ap (λ (c : MCommand). table_by table b c) (sym is) ∙ after)
        (each_is_a_box table homes store hold.shows n ∙ ap is_some gone.was)
        (each_is_a_box (table_after table (entry.Deleted n)) homes (without_box store n) gone.shows n ∙ ap is_some gone.gone) in
        record {
          later = without_box store n;
          does = removed (asked_for it.0 asked).0 n gone.box (done_for asked (command.Delete n) is counts) gone.was (more_is ∙ none);
          hold = with_store (without_box store n)
              (subst (λ (t : MailboxTable). Shows t homes (without_box store n)) (sym (table_is ∙ after)) gone.shows)
              (none_given (without_box store n) refl (more_is ∙ none));
        }

  takes_one : IsOneCommand murder given store name message
  takes_one =
      let line = first_of command_message message rest talk.ups talk.written.up_is in
      one_command line (is_one line)

pub takes_keeps_many : TakesKeepsMany
takes_keeps_many murder given store name node message rest hold there first = takes_one murder given store hold name node there message rest first

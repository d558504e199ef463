-- It holds after a step of the master that takes no line of a backend.
use Rattle.std.proofs.Common.{◌≡◌, ◌≢◌, inl, inr, ℕ, true, false, nat_eq, List, ◌++◌, Some, refl, sym, ap, subst, ◌∙◌, append-nil}
use Rattle.std.specs.List.{list_any}
use Rattle.std.specs.Cmp.Lexicographic.{pointwise}
use Rattle.link_msg.specs.declared.message.LinkMsg.{LinkMsg}
use Rattle.link_msg.specs.declared.message.LinkMsg.TheVariants.{Up}
use Rattle.link_queue.specs.Links.{Links, on_link, without_first}
use Rattle.master_core.specs.declared.master.Master.{Master}
use Rattle.master_core.specs.declared.sender.Sender.TheVariants.{Outside}
use Rattle.master_core.specs.Linked.{node_says}
use Rattle.master_core.specs.Outside.{Stepped, bytes_in, connect, still}
use Rattle.master_core.specs.Streams.{without}
use Rattle.master_core.proofs.OutsideAlone.{bytes_alone, connects_alone, ends_alone}
use Rattle.mur_model.specs.declared.store.Store.{Store}
use Rattle.node_record.specs.Table.{IsCounted, MailboxTable}
use Rattle.back_node.specs.declared.node.BackNode.{BackNode}
use Rattle.feed_links.specs.Lines.{messages_to}
use Rattle.name_links.specs.Serials.{Given, SerialsHold}
use Rattle.back_links.specs.MasterEvents.{TalkAfterMaster}
use Rattle.back_links.specs.OneTalk.{HasTalk}
use Rattle.back_links.proofs.OtherSteps.{clients_keep_talk, frontends_keep_talk, ups_keep_talk}
use Rattle.store_links.specs.Shown.{Shows}
use Rattle.many_links.specs.Murder.{Murder, homes_of, after_master}
use Rattle.many_links.specs.ManyHold.{HasTalkIn, IsLinked, ManyHold}
use Rattle.many_links.specs.MasterEvents.{FrontendsKeepMany, UpsKeepMany, ClientsLeaveMany, ClientsKeepMany}
use Rattle.many_links.proofs.Carried.{taken_else, puts_own, puts_else}
use Rattle.many_links.proofs.FrontTable.{front_table}

-- ---- the links of one backend after a step of the master

module _ (murder : Murder) (given then_given : Given) (left : Links LinkMsg) (next : Stepped) (q : List ℕ) (its : BackNode)
    (was : IsLinked murder given q its) where
  abbrev me : List ℕ
  me = murder.master.me

  abbrev then : Murder
  then = after_master murder left next

  abbrev down : List LinkMsg
  down = on_link murder.links me q

  -- the backend knows the master's name
  me_stays : (up : List LinkMsg) → TalkAfterMaster next q its up down then_given → next.master.me ≡ me
  me_stays up talk = sym talk.each.its_master ∙ was.talk.each.its_master

  pub then_linked : (up : List LinkMsg) → on_link left q me ≡ up → on_link left me q ≡ down → TalkAfterMaster next q its up down then_given
      → IsLinked then then_given q its
  then_linked up up_is down_is talk = record {
    talk = subst (λ (m : List ℕ). HasTalk next.master q its (on_link then.links q m) (on_link then.links m q) then_given) (sym (me_stays up talk))
        (subst (λ (d : List LinkMsg). HasTalk next.master q its (on_link then.links q me) d then_given)
        (sym (puts_own me left next.outs q ∙ ap (λ (l : List LinkMsg). l ++ messages_to q next.outs) down_is))
        (subst (λ (u : List LinkMsg). HasTalk next.master q its u (down ++ messages_to q next.outs) then_given)
        (sym (puts_else me left next.outs q me was.apart ∙ up_is)) talk));
    apart = λ e. was.apart (e ∙ me_stays up talk);
    rising = was.rising;
  }

-- ---- a step that leaves the table

module _ (murder : Murder) (given : Given) (store : Store) (hold : ManyHold murder given store) (left : Links LinkMsg) (next : Stepped)
    (table_is : next.master.table ≡ murder.master.table) where
  -- and, of each backend, what it has on its way to the master
  table_stays : ((q : List ℕ) (its : BackNode) → murder.nodes q ≡ Some its → IsLinked (after_master murder left next) given q its)
      → ManyHold (after_master murder left next) given store
  table_stays each = record {
    each = each;
    shows = subst (λ (t : MailboxTable). Shows t (homes_of murder.nodes) store) (sym table_is) hold.shows;
    gave = hold.gave;
    serials = subst (λ (t : MailboxTable). SerialsHold t given) (sym table_is) hold.serials;
    counted = subst IsCounted (sym table_is) hold.counted;
  }

-- ---- a message of a node that is no backend

apart_from : (backends : List (List ℕ)) (front q : List ℕ) → list_any (pointwise nat_eq front) backends ≡ false
    → list_any (pointwise nat_eq q) backends ≡ true → q ≢ front
apart_from backends front q none some same =
    let no : list_any (pointwise nat_eq q) backends ≡ false = subst (λ (n : List ℕ). list_any (pointwise nat_eq n) backends ≡ false) (sym same) none in
    let both : true ≡ false = sym some ∙ no in cc

pub frontends_keep_many : FrontendsKeepMany
frontends_keep_many murder given store front message hold none =
    let me : List ℕ = murder.master.me in
    let left : Links LinkMsg = without_first murder.links front me in
    let next : Stepped = node_says murder.master front message in
    table_stays murder given store hold left next (front_table murder.master front message none)
    (λ q its at. (let was : IsLinked murder given q its = hold.each q its at in
    then_linked murder given given left next q its was (on_link murder.links q me)
    (taken_else murder.links front me q me (inl (apart_from murder.master.backends front q none was.talk.each.backend)))
    (taken_else murder.links front me me q (inr was.apart))
    (frontends_keep_talk murder.master q front its (on_link murder.links q me) (on_link murder.links me q) given message none was.talk)))

-- ---- what takes no message

-- each talk goes on
does_leave : (murder : Murder) (given : Given) (store : Store) (next : Stepped) → ManyHold murder given store → next.master.table ≡ murder.master.table
    → ((q : List ℕ) (its : BackNode) → HasTalkIn murder given q its
    → TalkAfterMaster next q its (on_link murder.links q murder.master.me) (on_link murder.links murder.master.me q) given)
    → ManyHold (after_master murder murder.links next) given store
does_leave murder given store next hold table_is goes_on =
    table_stays murder given store hold murder.links next table_is
    (λ q its at. (let was : IsLinked murder given q its = hold.each q its at in
    then_linked murder given given murder.links next q its was (on_link murder.links q murder.master.me) refl refl (goes_on q its was.talk)))

up_table : (master : Master) (other : List ℕ) → (node_says master other Up).master.table ≡ master.table
unfolding node_says
up_table master other = refl

pub ups_keep_many : UpsKeepMany
ups_keep_many murder given store other hold =
    does_leave murder given store (node_says murder.master other Up) hold (up_table murder.master other)
    (λ q its talk. ups_keep_talk murder.master q other its (on_link murder.links q murder.master.me) (on_link murder.links murder.master.me q) given talk)

module _ (murder : Murder) (given : Given) (store : Store) (hold : ManyHold murder given store) where
  abbrev its_up : List ℕ → List LinkMsg
  its_up q = on_link murder.links q murder.master.me

  abbrev its_down : List ℕ → List LinkMsg
  its_down q = on_link murder.links murder.master.me q

  clients_leave : ClientsLeaveMany murder given store
  clients_leave = record {
    connects = λ conn. does_leave murder given store (connect murder.master conn) hold (connects_alone murder.master conn).beside.table
        (λ q its talk. (clients_keep_talk murder.master q its (its_up q) (its_down q) given talk).connects conn);
    says = λ conn bytes. does_leave murder given store (bytes_in murder.master conn bytes) hold (bytes_alone murder.master conn bytes).beside.table
        (λ q its talk. (clients_keep_talk murder.master q its (its_up q) (its_down q) given talk).says conn bytes);
    ends = λ conn. does_leave murder given store (still (without murder.master (Outside conn))) hold (ends_alone murder.master conn).beside.table
        (λ q its talk. subst (λ (d : List LinkMsg). HasTalk (without murder.master (Outside conn)) q its (its_up q) d given) (sym (append-nil (its_down q)))
        ((clients_keep_talk murder.master q its (its_up q) (its_down q) given talk).ends conn));
  }

pub clients_keep_many : ClientsKeepMany
clients_keep_many murder given store hold = clients_leave murder given store hold

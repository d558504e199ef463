-- It holds at the start.
use Rattle.std.proofs.Common.{◌≡◌, ℕ, nat_eq, true, List, [], refl, sym, ap, subst, ◌∙◌}
use Rattle.std.specs.List.{list_any}
use Rattle.std.specs.List.Sorted.{IsStrictlySortedBy}
use Rattle.std.specs.Cmp.Lexicographic.{pointwise}
use Rattle.link_msg.specs.declared.message.LinkMsg.{LinkMsg}
use Rattle.link_msg.specs.declared.message.LinkMsg.TheVariants.{Up}
use Rattle.link_queue.specs.Links.{on_link}
use Rattle.master_core.specs.declared.master.Master.{Master}
use Rattle.master_core.specs.Boot.{booted}
use Rattle.mur_model.specs.Store.{empty_store}
use Rattle.node_record.specs.Table.{IsCounted, MailboxTable, empty_table}
use Rattle.back_node.specs.declared.node.BackNode.{BackNode}
use Rattle.back_node.specs.Node.{new_node}
use Rattle.feed_links.specs.Lines.{messages_to}
use Rattle.name_links.specs.Serials.{SerialsHold}
use Rattle.name_links.proofs.SerialTurn.{first_serials}
use Rattle.back_links.specs.OneTalk.{HasTalk}
use Rattle.back_links.proofs.BackLaw.{talk_begins}
use Rattle.store_links.specs.Shown.{Homes, Shows}
use Rattle.many_links.specs.Murder.{Murder, homes_of}
use Rattle.many_links.specs.ManyHold.{AreRising, IsLinked}
use Rattle.many_links.specs.Start.{HasBegun, IsStart, ManyBegin, told_up}
use Rattle.many_links.proofs.Rising.{none_rising, step_rising}

-- an empty table shows the empty store, whatever is at backends
none_shown : (homes : Homes) → Shows empty_table homes empty_store
unfolding IsStrictlySortedBy
none_shown homes = record { names = λ n. refl; records_in_order = tt; boxes_in_order = tt }

module _ (murder : Murder) (me : List ℕ) (backends : List (List ℕ)) (first : IsStart murder me backends) where
  table_is : murder.master.table ≡ empty_table
  unfolding booted
  table_is = ap (λ (m : Master). m.table) first.master

  me_is : murder.master.me ≡ me
  unfolding booted
  me_is = ap (λ (m : Master). m.me) first.master

  module _ (name : List ℕ) (node : BackNode) (begun : HasBegun murder me backends name node) where
    abbrev After : Master → List ℕ → BackNode → List LinkMsg → List LinkMsg → Type 0
    After master name node up down = HasTalk master name node up down []

    -- with what the link carries
    begun_talk : HasTalk (booted me backends empty_table) name node (on_link murder.links name me) (on_link murder.links me name) []
    unfolding booted
    begun_talk =
        subst (λ (down : List LinkMsg). After (booted me backends empty_table) name node (on_link murder.links name me) down) (sym begun.down)
        (subst (λ (up : List LinkMsg). After (booted me backends empty_table) name node up []) (sym begun.up)
        (subst (λ (it : BackNode). After (booted me backends empty_table) name it (messages_to me (told_up begun.place me).outs) []) (sym begun.state)
        (subst (λ (n : List ℕ). After (booted me backends empty_table) n (told_up begun.place me).state (messages_to me (told_up begun.place me).outs) [])
        begun.named
        (talk_begins begun.place me backends begun.spelled
        (subst (λ (n : List ℕ). list_any (pointwise nat_eq n) backends ≡ true) (sym begun.named) begun.backend)))))

    begun_linked : IsLinked murder [] name node
    unfolding booted
    begun_linked = record {
      talk = subst (λ (m : Master). HasTalk m name node (on_link murder.links name m.me) (on_link murder.links m.me name) []) (sym first.master) begun_talk;
      apart = λ same. begun.apart (same ∙ me_is);
      rising = subst (λ (it : BackNode). AreRising it.home.held) (sym begun.state) (step_rising (new_node begun.place me) me Up none_rising);
    }

pub many_begin : ManyBegin
many_begin murder me backends first = record {
  each = λ name node there. begun_linked murder me backends first name node (first.begun name node there);
  shows = subst (λ (t : MailboxTable). Shows t (homes_of murder.nodes) empty_store) (sym (table_is murder me backends first))
      (none_shown (homes_of murder.nodes));
  gave = refl;
  serials = subst (λ (t : MailboxTable). SerialsHold t []) (sym (table_is murder me backends first)) first_serials;
  counted = subst IsCounted (sym (table_is murder me backends first)) refl;
}

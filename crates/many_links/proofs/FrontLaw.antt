-- It holds whatever frontends do, since it is of the master, the backends and the links between these alone.
use Rattle.std.proofs.Common.{◌≡◌, ◌≢◌, inl, inr, ℕ, List, None, Some, refl, sym, ap, subst, ◌∙◌}
use Rattle.link_msg.specs.declared.message.LinkMsg.{LinkMsg}
use Rattle.link_queue.specs.Links.{on_link}
use Rattle.master_core.specs.declared.master.Master.{Master}
use Rattle.mur_model.specs.declared.store.Store.{Store}
use Rattle.node_record.specs.Table.{IsCounted}
use Rattle.back_node.specs.declared.node.BackNode.{BackNode}
use Rattle.name_links.specs.Serials.{Given, SerialsHold}
use Rattle.back_links.specs.OneTalk.{HasTalk}
use Rattle.store_links.specs.Shown.{Shows}
use Rattle.many_links.specs.Murder.{Murder, held_in, homes_of, taken, after_front}
use Rattle.many_links.specs.ManyHold.{IsLinked, ManyHold}
use Rattle.many_links.specs.FrontEvents.{OutsKeepMany, PassingKeepsMany, AreAlike, AlikeHold}
use Rattle.many_links.proofs.Carried.{taken_else, puts_else}
use Rattle.many_links.proofs.ShownLater.{homes_stay}

module _ (one other : Murder) (given : Given) (store : Store) (alike : AreAlike one other) (hold : ManyHold one given store) where
  linked : (q : List ℕ) (its : BackNode) → one.nodes q ≡ Some its → IsLinked other given q its
  linked q its at =
      let was : IsLinked one given q its = hold.each q its at in
      record {
        talk = subst (λ (m : Master). HasTalk m q its (on_link other.links q m.me) (on_link other.links m.me q) given) (sym alike.master)
            (subst (λ (d : List LinkMsg). HasTalk one.master q its (on_link other.links q one.master.me) d given) (sym (alike.down q its at))
            (subst (λ (u : List LinkMsg). HasTalk one.master q its u (on_link one.links one.master.me q) given) (sym (alike.up q its at)) was.talk));
        apart = λ e. was.apart (e ∙ ap (λ (m : Master). m.me) alike.master);
        rising = was.rising;
      }

  alike_holds : ManyHold other given store
  alike_holds = record {
    each = λ q its at. linked q its (sym (alike.nodes q) ∙ at);
    shows = subst (λ (m : Master). Shows m.table (homes_of other.nodes) store) (sym alike.master)
        (homes_stay one.master.table (homes_of one.nodes) (homes_of other.nodes) store one.master.me hold.shows (λ b. ap held_in (alike.nodes b)));
    gave = hold.gave;
    serials = subst (λ (m : Master). SerialsHold m.table given) (sym alike.master) hold.serials;
    counted = subst (λ (m : Master). IsCounted m.table) (sym alike.master) hold.counted;
  }

pub alike_hold : AlikeHold
alike_hold one other given store alike hold = alike_holds one other given store alike hold

-- a backend is no frontend
apart_from : (murder : Murder) (front name : List ℕ) (node : BackNode) → murder.nodes front ≡ None → murder.nodes name ≡ Some node → name ≢ front
apart_from murder front name node none there same = let no : None ≡ Some node = sym none ∙ ap murder.nodes (sym same) ∙ there in cc

pub outs_keep_many : OutsKeepMany
outs_keep_many murder given store front outs hold is =
    alike_hold murder (after_front murder murder.links front outs) given store
    (record {
      master = refl;
      nodes = λ name. refl;
      up = λ name node there. puts_else front murder.links outs name murder.master.me (apart_from murder front name node is.0 there);
      down = λ name node there. puts_else front murder.links outs murder.master.me name (λ e. is.1 (sym e));
    }) hold

pub passing_keeps_many : PassingKeepsMany
passing_keeps_many murder given store from to hold (inl is) =
    alike_hold murder (record { master = murder.master; nodes = murder.nodes; links = taken murder from to }) given store
    (record {
      master = refl;
      nodes = λ name. refl;
      up = λ name node there. taken_else murder.links from to name murder.master.me (inl (apart_from murder from name node is.0 there));
      down = λ name node there. taken_else murder.links from to murder.master.me name (inl (λ e. is.1 (sym e)));
    }) hold
passing_keeps_many murder given store from to hold (inr is) =
    alike_hold murder (record { master = murder.master; nodes = murder.nodes; links = taken murder from to }) given store
    (record {
      master = refl;
      nodes = λ name. refl;
      up = λ name node there. taken_else murder.links from to name murder.master.me (inr (λ e. is.1 (sym e)));
      down = λ name node there. taken_else murder.links from to murder.master.me name (inr (apart_from murder to name node is.0 there));
    }) hold

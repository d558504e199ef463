-- What follows for names that are open, and for names that are no mailboxes.
use Rattle.std.proofs.Common.{◌≡◌, ℕ, Bool, true, false, is_some, List, None, Some, refl, sym, ap, subst, ◌∙◌}
use Rattle.link_queue.specs.Links.{on_link}
use Rattle.mur_model.specs.declared.store.Store.{Store}
use Rattle.mur_model.specs.Store.{box_at}
use Rattle.node_record.specs.Held.{IsWritableHome, held_at}
use Rattle.backend_core.specs.HomeLaws.{is_open_here}
use Rattle.home_law.specs.ManyNames.{Mailbox}
use Rattle.back_node.specs.declared.node.BackNode.{BackNode}
use Rattle.back_node.proofs.OpenHere.{open_is_carried_out}
use Rattle.name_links.specs.Serials.{Given}
use Rattle.back_links.specs.OneHome.{IsNamedAt}
use Rattle.back_links.proofs.OneHome.{open_at_one, open_is_named}
use Rattle.store_links.proofs.BoxesLaw.{box_is_there}
use Rattle.store_links.proofs.OpenLaw.{none_is_missing, open_is_alike}
use Rattle.many_links.specs.Murder.{Murder, held_in, homes_of}
use Rattle.many_links.specs.ManyHold.{ManyHold, IsLinked}
use Rattle.many_links.specs.OpenNames.{IsOpenAt, OpenIsTheStores, OneHasItOpen, NoMailboxIsNowhere}
use Rattle.many_links.proofs.HomeLaw.{opened}
use Rattle.many_links.proofs.Rising.{rises_at}

module _ (murder : Murder) (given : Given) (store : Store) (name : List ℕ) (node : BackNode) (n : Mailbox) (hold : ManyHold murder given store)
    (there : murder.nodes name ≡ Some node) (is_here : is_open_here (held_at node.home.held n) ≡ true) where
  linked : IsLinked murder given name node
  linked = hold.each name node there

  is_open_there : IsWritableHome node.home.held n
  is_open_there = opened (held_at node.home.held n) is_here

  named_there : IsNamedAt murder.master name n
  named_there =
      open_is_named murder.master name node (on_link murder.links name murder.master.me) (on_link murder.links murder.master.me name) given linked.talk n
      is_open_there

  pub open_there : IsOpenAt murder store name node n
  open_there = record {
    named = named_there;
    alike = open_is_alike murder.master.table (homes_of murder.nodes) store name node.home n hold.shows (ap held_in there)
        (named_there.acl, named_there.recorded) is_open_there;
    served = λ from ask same of. open_is_carried_out node from ask of
        (subst (λ (m : Mailbox). is_open_here (held_at node.home.held m) ≡ true) (sym same) is_here) (rises_at node ask.name linked.rising);
  }

pub open_is_the_stores : OpenIsTheStores
open_is_the_stores murder given store name node n hold there is_here = open_there murder given store name node n hold there is_here

pub one_has_it_open : OneHasItOpen
one_has_it_open murder given store name other node its n hold there also here too =
    open_at_one murder.master name other node its (on_link murder.links name murder.master.me) (on_link murder.links murder.master.me name)
    (on_link murder.links other murder.master.me) (on_link murder.links murder.master.me other) given (hold.each name node there).talk
    (hold.each other its also).talk n (opened (held_at node.home.held n) here) (opened (held_at its.home.held n) too)

-- a name that is open somewhere has a box
open_has_box : (murder : Murder) (given : Given) (store : Store) (name : List ℕ) (node : BackNode) (n : Mailbox) → ManyHold murder given store
    → murder.nodes name ≡ Some node → is_open_here (held_at node.home.held n) ≡ true → is_some (box_at store n) ≡ true
open_has_box murder given store name node n hold there is_here =
    let named = (open_there murder given store name node n hold there is_here).named in
    let box = box_is_there murder.master.table (homes_of murder.nodes) store name n named.acl hold.shows named.recorded in
    ap is_some box.2

pub no_mailbox_is_nowhere : NoMailboxIsNowhere
no_mailbox_is_nowhere murder given store n hold none = record {
  missing = missing;
  closed = λ name node there. by_test (is_open_here (held_at node.home.held n)) (is_open_here (held_at node.home.held n)) refl
      (λ e. open_has_box murder given store name node n hold there e);
}
  where
    missing : box_at store n ≡ None
    missing = none_is_missing murder.master.table (homes_of murder.nodes) store n hold.shows none

    by_test : (test found : Bool) → found ≡ test → (found ≡ true → is_some (box_at store n) ≡ true) → found ≡ false
    by_test true found e has =
        let no : false ≡ true = sym (ap is_some missing) ∙ has e in cc
    by_test false found e has = e

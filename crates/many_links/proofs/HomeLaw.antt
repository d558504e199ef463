-- It holds after a step of a backend.
use Rattle.std.proofs.Common.{◌≡◌, ◌≢◌, inl, inr, ◌&&◌, ℕ, Bool, true, false, cond, List, ◌∷◌, ◌++◌, map, Option, None, Some, refl, sym, ap, subst, ◌∙◌}
use Rattle.link_msg.specs.declared.message.LinkMsg.{LinkMsg}
use Rattle.link_msg.specs.declared.message.LinkMsg.TheVariants.{Ask}
use Rattle.link_queue.specs.Links.{Links, on_link, without_first}
use Rattle.mur_base.specs.declared.home.Phase.{Phase}
use Rattle.mur_base.specs.declared.home.Phase.TheVariants.{Creating, Open, Closing, Receiving, Ready, Pointer}
use Rattle.mur_model.specs.declared.store.Store.{Store}
use Rattle.node_record.specs.declared.held.Held.{Held}
use Rattle.node_record.specs.Held.{IsOpen, Names, has_content, held_at}
use Rattle.backend_core.specs.HomeLaws.{is_open, is_open_here}
use Rattle.home_law.specs.Items.{Server}
use Rattle.home_law.specs.ManyNames.{Mailbox}
use Rattle.name_flows.specs.declared.ask.AskKind.{AskKind}
use Rattle.back_node.specs.declared.node.BackNode.{BackNode}
use Rattle.back_node.specs.Acted.{BackActed}
use Rattle.back_node.specs.NodeLaws.{is_of_messages}
use Rattle.back_node.specs.Node.{is_my_master}
use Rattle.back_node.specs.Takes.{name_kind, node_takes}
use Rattle.back_node.proofs.OpenHere.{no_kind}
use Rattle.feed_links.specs.Lines.{messages_to}
use Rattle.feed_links.proofs.Names.{other_name}
use Rattle.name_links.specs.Contents.{HasAcl, content_in}
use Rattle.name_links.specs.Serials.{Given}
use Rattle.back_links.specs.BackEvents.{TalkAfterNode, IsFitting, fits_by}
use Rattle.back_links.specs.OneHome.{IsNamedAt}
use Rattle.back_links.specs.OneTalk.{HasTalk}
use Rattle.back_links.proofs.BackLaw.{asks_keep_talk, hears_keeps_talk}
use Rattle.back_links.proofs.OneHome.{open_is_named}
use Rattle.serve_law.specs.AsTheStore.HaveAlike.{neither, both as both_have}
use Rattle.store_links.specs.Given.{given_pair}
use Rattle.store_links.specs.Shown.{Homes, Shows}
use Rattle.store_links.specs.TableEntries.{acl_at}
use Rattle.store_links.proofs.HeldLaw.{contents_stay}
use Rattle.many_links.specs.Murder.{Murder, held_in, homes_of, with_node, after_home}
use Rattle.many_links.specs.ManyHold.{AreRising, IsLinked, ManyHold}
use Rattle.many_links.specs.HomeEvents.{HearsKeepsMany, AsksKeepMany, ServesKeepsMany, IsStoreWith, AlikeHasIt}
use Rattle.many_links.proofs.Carried.{taken_else, taken_first, puts_own, puts_else}
use Rattle.many_links.proofs.NodesLaw.{each_node, home_own, home_else}
use Rattle.many_links.proofs.Rising.{step_rising}
use Rattle.many_links.proofs.ShownLater.{later_shows}
use Rattle.many_links.proofs.HomeStays.{contents_left, home_stays, others_left}

-- ---- open names

is_it_open : (phase : Phase) → is_open phase ≡ true → phase ≡ Open
unfolding is_open
is_it_open Open e = refl
is_it_open Creating e = cc
is_it_open Closing e = cc
is_it_open Receiving e = cc
is_it_open Ready e = cc
is_it_open (Pointer server) e = cc

pub opened : (found : Option Held) → is_open_here found ≡ true → IsOpen found
unfolding is_open_here
opened None e = cc
opened (Some it) e = is_it_open it.phase e

-- ---- the links and the backends after a step

module _ (murder : Murder) (given : Given) (store : Store) (hold : ManyHold murder given store) (name : List ℕ) (node : BackNode)
    (there : murder.nodes name ≡ Some node) (from : List ℕ) (next : BackActed) where
  abbrev me : List ℕ
  me = murder.master.me

  abbrev left : Links LinkMsg
  left = without_first murder.links from name

  abbrev then : Murder
  then = after_home murder left name next

  own : IsLinked murder given name node
  own = hold.each name node there

  not_mine : me ≢ name
  not_mine = λ e. own.apart (sym e)

  -- what the backend sent the master stands behind what is on its way
  own_up : on_link then.links name me ≡ on_link murder.links name me ++ messages_to me next.outs
  own_up =
      puts_own name left next.outs me
      ∙ ap (λ (l : List LinkMsg). l ++ messages_to me next.outs) (taken_else murder.links from name name me (inr not_mine))

  own_linked : (down : List LinkMsg) → on_link left me name ≡ down → TalkAfterNode murder.master name next (on_link murder.links name me) down given
      → AreRising next.state.home.held → IsLinked then given name next.state
  own_linked down is talk rising = record {
    talk = subst (λ (d : List LinkMsg). HasTalk murder.master name next.state (on_link then.links name me) d given)
        (sym (puts_else name left next.outs me name not_mine ∙ is))
        (subst (λ (u : List LinkMsg). HasTalk murder.master name next.state u down given) (sym own_up) talk);
    apart = own.apart;
    rising = rising;
  }

  -- of each other backend nothing changes
  else_linked : (q : List ℕ) (its : BackNode) → q ≢ name → murder.nodes q ≡ Some its → IsLinked then given q its
  else_linked q its ne at =
      let was : IsLinked murder given q its = hold.each q its at in
      record {
        talk = subst (λ (d : List LinkMsg). HasTalk murder.master q its (on_link then.links q me) d given)
            (sym (puts_else name left next.outs me q not_mine ∙ taken_else murder.links from name me q (inr ne)))
            (subst (λ (u : List LinkMsg). HasTalk murder.master q its u (on_link murder.links me q) given)
            (sym (puts_else name left next.outs q me ne ∙ taken_else murder.links from name q me (inr not_mine))) was.talk);
        apart = was.apart;
        rising = was.rising;
      }

  abbrev homes : Homes
  homes = homes_of murder.nodes

  abbrev homes_then : Homes
  homes_then = homes_of then.nodes

  others_same : (q : Server) → q ≢ name → homes_then q ≡ homes q
  others_same q ne = home_else murder.nodes name next.state q ne

  own_was : homes name ≡ node.home.held
  own_was = ap held_in there

  own_is : homes_then name ≡ next.state.home.held
  own_is = home_own murder.nodes name next.state

  -- what is to be shown of the backend's own, and of the store
  goes_on : (later : Store) → IsLinked then given name next.state → Shows murder.master.table homes_then later → later.given ≡ store.given
      → ManyHold then given later
  goes_on later linked shows gave = record {
    each = each_node murder.nodes name next.state (λ (q : List ℕ) (its : BackNode). IsLinked then given q its) linked else_linked;
    shows = shows;
    gave = ap (λ pairs. map given_pair pairs) gave ∙ hold.gave;
    serials = hold.serials;
    counted = hold.counted;
  }

-- ---- the first message of the master

module _ (murder : Murder) (given : Given) (store : Store) (hold : ManyHold murder given store) (name : List ℕ) (node : BackNode)
    (there : murder.nodes name ≡ Some node) (message : LinkMsg) (rest : List LinkMsg)
    (first : on_link murder.links murder.master.me name ≡ message ∷ rest) where
  abbrev next : BackActed
  next = node_takes node murder.master.me message

  was : HasTalk murder.master name node (on_link murder.links name murder.master.me) (message ∷ rest) given
  was =
      subst (λ (d : List LinkMsg). HasTalk murder.master name node (on_link murder.links name murder.master.me) d given) first
      (hold.each name node there).talk

  linked : IsLinked (after_home murder (without_first murder.links murder.master.me name) name next) given name next.state
  linked =
      own_linked murder given store hold name node there murder.master.me next rest (taken_first murder.links murder.master.me name message rest first)
      (hears_keeps_talk murder.master name node (on_link murder.links name murder.master.me) rest given message was)
      (step_rising node murder.master.me message (hold.each name node there).rising)

  contents : (n : Mailbox) (acl : List ℕ) → acl_at murder.master.table name n ≡ Some acl
      → content_in (held_at (homes_of (with_node murder.nodes name next.state) name) n) ≡ content_in (held_at (homes_of murder.nodes name) n)
  contents n acl at =
      ap (λ (held : Names). content_in (held_at held n)) (own_is murder given store hold name node there murder.master.me next)
      ∙ contents_left murder.master name node (on_link murder.links name murder.master.me) rest given message was n acl at
      ∙ sym (ap (λ (held : Names). content_in (held_at held n)) (own_was murder given store hold name node there murder.master.me next))

  heard : ManyHold (after_home murder (without_first murder.links murder.master.me name) name next) given store
  heard =
      goes_on murder given store hold name node there murder.master.me next store linked
      (contents_stay murder.master.table (homes_of murder.nodes) (homes_of (with_node murder.nodes name next.state)) store name hold.shows
      (others_same murder given store hold name node there murder.master.me next) contents) refl

pub hears_keeps_many : HearsKeepsMany
hears_keeps_many murder given store name node message rest hold there first = heard murder given store hold name node there message rest first

-- ---- a message of another node

module _ (murder : Murder) (given : Given) (store : Store) (hold : ManyHold murder given store) (name : List ℕ) (node : BackNode)
    (there : murder.nodes name ≡ Some node) (from : List ℕ) (ne : from ≢ murder.master.me) (message : LinkMsg) (fits : IsFitting message) where
  abbrev asked : BackActed
  asked = node_takes node from message

  before : IsLinked murder given name node
  before = hold.each name node there

  abbrev after : Murder
  after = after_home murder (without_first murder.links from name) name asked

  asked_linked : IsLinked after given name asked.state
  asked_linked =
      own_linked murder given store hold name node there from asked (on_link murder.links murder.master.me name)
      (taken_else murder.links from name murder.master.me name (inl (λ e. ne (sym e))))
      (asks_keep_talk murder.master name node (on_link murder.links name murder.master.me) (on_link murder.links murder.master.me name) given from message ne
      fits before.talk)
      (step_rising node from message before.rising)

  not_its_master : is_my_master node from ≡ false
  not_its_master = other_name from node.flows.master (λ e. ne (e ∙ before.talk.each.its_master))

  -- its names stay
  stays : asked.state.home.held ≡ node.home.held → ManyHold after given store
  stays same =
      goes_on murder given store hold name node there from asked store asked_linked
      (contents_stay murder.master.table (homes_of murder.nodes) (homes_of after.nodes) store name hold.shows
      (others_same murder given store hold name node there from asked)
      (λ n acl at. ap (λ (held : Names). content_in (held_at held n))
      (own_is murder given store hold name node there from asked ∙ same ∙ sym (own_was murder given store hold name node there from asked)))) refl

  -- a mailbox that is here after the step, with the record's access list
  has_acl : (n : Mailbox) (acl : List ℕ) → acl_at murder.master.table name n ≡ Some acl → HasAcl (held_at asked.state.home.held n) acl
  has_acl n acl at =
      let talk = asked_linked.talk in
      talk.holds.contents.mailboxes n acl (subst (λ (b : Server). acl_at murder.master.table b n ≡ Some acl) (sym talk.each.named) at)

  -- the names but one stay, and this one is open
  served : (later : Store) (n : Mailbox) → is_open_here (held_at node.home.held n) ≡ true
      → ((m : Mailbox) → m ≢ n → held_at asked.state.home.held m ≡ held_at node.home.held m) → IsStoreWith store later asked.state.home n
      → ManyHold after given later
  served later n is_here others is =
      let named : IsNamedAt murder.master name n =
      open_is_named murder.master name node (on_link murder.links name murder.master.me) (on_link murder.links murder.master.me name) given before.talk n
      (opened (held_at node.home.held n) is_here) in
      let own_now = own_is murder given store hold name node there from asked in
      goes_on murder given store hold name node there from asked later asked_linked
      (later_shows murder.master.table (homes_of murder.nodes) (homes_of after.nodes) store later name n named.acl hold.shows
      (others_same murder given store hold name node there from asked) named.recorded
      (subst (λ (held : Names). HasAcl (held_at held n) named.acl) (sym own_now) (has_acl n named.acl named.recorded))
      (λ m apart. ap (λ (held : Names). content_in (held_at held m)) own_now ∙ ap content_in (others m apart)
      ∙ sym (ap (λ (held : Names). content_in (held_at held m)) (own_was murder given store hold name node there from asked)))
      (is.own ∙ sym (ap (λ (held : Names). content_in (held_at held n)) own_now))
      is.others is.order) is.gave

pub asks_keep_many : AsksKeepMany
asks_keep_many murder given store name node from message hold there ne fits closed =
    stays murder given store hold name node there from ne message fits
    (home_stays node from (not_its_master murder given store hold name node there from ne message fits) message closed)

both : (one two : Bool) → (one && two) ≡ true → (one ≡ true) × (two ≡ true)
both true true e = (refl, refl)
both true false e = cc
both false two e = cc

pub serves_keeps_many : ServesKeepsMany
serves_keeps_many murder given store later name node from ask hold there ne serving is =
    let is_so = both (is_of_messages ask.op) (is_open_here (held_at node.home.held ask.name)) serving in
    let none : name_kind ask.op ≡ None = no_kind ask.op is_so.0 in
    let fits : IsFitting (Ask ask) = subst (λ (kind : Option AskKind). fits_by kind ask) (sym none) tt in
    served murder given store hold name node there from ne (Ask ask) fits later ask.name is_so.1 (λ m apart. others_left node from ask m none apart) is

pub alike_has_it : AlikeHasIt
alike_has_it later home n (neither none absent) = none ∙ sym (ap content_in absent)
alike_has_it later home n (both_have it here is there) =
    there ∙ sym (ap (λ (p : Phase). cond (has_content p) (Some it.content) None) is) ∙ sym (ap content_in here)

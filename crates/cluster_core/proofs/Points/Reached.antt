-- While its link is whole, a backend has reached the master.
use Rattle.std.proofs.Common.{◌≡◌, ℕ, Bool, true, false, cond, List, [], ◌∷◌, ◌++◌, Some, refl, sym, ◌∙◌, ap}
use Rattle.back_links.specs.OneTalk.{HasTalk, link_of}
use Rattle.back_node.specs.declared.node.BackNode.{BackNode}
use Rattle.home_law.specs.Items.{Item, listed_active, listed_reserved, reserve_ok, reserve_no, make_ok, make_no, again_ok, deactivate_ok, delete_ok, wipe_ok, found, found_ok, not_found}
use Rattle.home_law.specs.LinkOk.{hears_then}
use Rattle.home_law.specs.ManyNames.{BackMessage, Mailbox, NameResponse, SentLine, downs_of, is_same_mailbox, line_items, mailbox_told, no_items, no_told, ok_items, ok_told, reserve_told, response, sent_again, sent_deactivate, sent_delete, sent_find, sent_list, sent_make, sent_reserve, sent_wipe, with_line}
use Rattle.home_law.proofs.Lists.{hears_append}
use Rattle.link_msg.specs.declared.message.LinkMsg.{LinkMsg}
use Rattle.link_queue.specs.Links.{on_link}
use Rattle.many_links.specs.Murder.{Murder}
use Rattle.many_links.specs.ManyHold.{ManyHold}
use Rattle.master_core.specs.declared.master.Master.{Master}
use Rattle.mupdate_codec.specs.declared.command.MResponse.{MResponse}
use Rattle.mupdate_codec.specs.declared.command.MResponse.TheVariants as answer
use Rattle.mupdate_codec.specs.declared.tag.Tag.{Tag}
use Rattle.name_flows.specs.OneName.{open_lines, told_by}
use Rattle.name_links.specs.OneLink.{OneLink, back_of, told_of}
use Rattle.name_links.specs.Serials.{Given}
use Rattle.mur_model.specs.declared.store.Store.{Store}

abbrev pub HasReached : Type 0
HasReached = (master : Master) (name : List ℕ) (node : BackNode) (up down : List LinkMsg) (given : Given) → HasTalk master name node up down given
    → node.flows.up ≡ true

-- ---- no response says that the link is up or down

abbrev Unheard : List Item → Type 0
Unheard items = (h : Bool) → hears_then h items ≡ h

none_unheard : Unheard []
unfolding hears_then
none_unheard h = refl

both_unheard : (one two : List Item) → Unheard one → Unheard two → Unheard (one ++ two)
both_unheard one two first second h = hears_append h one two ∙ ap (λ (b : Bool). hears_then b two) (first h) ∙ second h

if_unheard : (here : Bool) (item : Item) → Unheard (item ∷ []) → Unheard (cond here (item ∷ []) [])
if_unheard true item one = one
if_unheard false item one = none_unheard

module _ (n : Mailbox) where
  line_unheard : (sent : SentLine) (m : Mailbox) (item : Item) → Unheard (item ∷ []) → Unheard (line_items n sent m item)
  unfolding line_items hears_then
  line_unheard sent_list m item one = if_unheard (is_same_mailbox m n) item one
  line_unheard (sent_find k told) m item one = if_unheard (is_same_mailbox k n) found (λ h. refl)
  line_unheard (sent_reserve k) m item one = none_unheard
  line_unheard (sent_make k) m item one = none_unheard
  line_unheard (sent_again k) m item one = none_unheard
  line_unheard (sent_deactivate k) m item one = none_unheard
  line_unheard (sent_delete k) m item one = none_unheard
  line_unheard (sent_wipe k) m item one = none_unheard

  ok_unheard : (sent : SentLine) → Unheard (ok_items n sent)
  unfolding ok_items hears_then
  ok_unheard sent_list = λ h. refl
  ok_unheard (sent_reserve m) = if_unheard (is_same_mailbox m n) reserve_ok (λ h. refl)
  ok_unheard (sent_make m) = if_unheard (is_same_mailbox m n) make_ok (λ h. refl)
  ok_unheard (sent_again m) = if_unheard (is_same_mailbox m n) again_ok (λ h. refl)
  ok_unheard (sent_deactivate m) = if_unheard (is_same_mailbox m n) deactivate_ok (λ h. refl)
  ok_unheard (sent_delete m) = if_unheard (is_same_mailbox m n) delete_ok (λ h. refl)
  ok_unheard (sent_wipe m) = if_unheard (is_same_mailbox m n) wipe_ok (λ h. refl)
  ok_unheard (sent_find m true) = if_unheard (is_same_mailbox m n) found_ok (λ h. refl)
  ok_unheard (sent_find m false) = if_unheard (is_same_mailbox m n) not_found (λ h. refl)

  no_unheard : (sent : SentLine) → Unheard (no_items n sent)
  unfolding no_items hears_then
  no_unheard sent_list = none_unheard
  no_unheard (sent_reserve m) = if_unheard (is_same_mailbox m n) reserve_no (λ h. refl)
  no_unheard (sent_make m) = if_unheard (is_same_mailbox m n) make_no (λ h. refl)
  no_unheard (sent_again m) = none_unheard
  no_unheard (sent_deactivate m) = none_unheard
  no_unheard (sent_delete m) = none_unheard
  no_unheard (sent_wipe m) = none_unheard
  no_unheard (sent_find m told) = none_unheard

  -- one response, and what comes behind it
  first_unheard : (sents : List SentLine) (it : NameResponse) (queue : List BackMessage) → ((left : List SentLine) → Unheard (downs_of n left queue))
      → Unheard (downs_of n sents (response it ∷ queue))
  unfolding downs_of hears_then
  first_unheard [] it queue more = more []
  first_unheard (sent ∷ sents) (mailbox_told m) queue more =
      both_unheard (line_items n sent m listed_active) (downs_of n (with_line sent ∷ sents) queue) (line_unheard sent m listed_active (λ h. refl))
      (more (with_line sent ∷ sents))
  first_unheard (sent ∷ sents) (reserve_told m) queue more =
      both_unheard (line_items n sent m listed_reserved) (downs_of n (with_line sent ∷ sents) queue) (line_unheard sent m listed_reserved (λ h. refl))
      (more (with_line sent ∷ sents))
  first_unheard (sent ∷ sents) ok_told queue more = both_unheard (ok_items n sent) (downs_of n sents queue) (ok_unheard sent) (more sents)
  first_unheard (sent ∷ sents) no_told queue more = both_unheard (no_items n sent) (downs_of n sents queue) (no_unheard sent) (more sents)

  told_unheard : (it : MResponse) (queue : List BackMessage) → ((left : List SentLine) → Unheard (downs_of n left queue)) → (sents : List SentLine)
      → Unheard (downs_of n sents (told_by it ++ queue))
  told_unheard (answer.Mailbox name place acl) queue more sents = first_unheard sents (mailbox_told name) queue more
  told_unheard (answer.Reserve name place) queue more sents = first_unheard sents (reserve_told name) queue more
  told_unheard (answer.Delete name) queue more sents = more sents
  told_unheard (answer.Ok text) queue more sents = first_unheard sents ok_told queue more
  told_unheard (answer.No text) queue more sents = first_unheard sents no_told queue more
  told_unheard (answer.Bad text) queue more sents = first_unheard sents no_told queue more

  queue_unheard : (downs : List (Tag × MResponse)) (sents : List SentLine) → Unheard (downs_of n sents (told_of downs))
  unfolding downs_of
  queue_unheard [] sents = none_unheard
  queue_unheard (it ∷ downs) sents = told_unheard it.1 (told_of downs) (λ left. queue_unheard downs left) sents

pub has_reached : HasReached
unfolding back_of
has_reached master name node up down given talk =
    let link : OneLink = link_of master node talk.ups talk.downs in
    sym (queue_unheard name talk.downs (open_lines node.flows) node.flows.up) ∙ (talk.holds.names.is.named name).tied

-- so each backend
abbrev pub EachHasReached : Type 0
EachHasReached = (murder : Murder) (given : Given) (store : Store) (name : List ℕ) (node : BackNode) → ManyHold murder given store
    → murder.nodes name ≡ Some node → node.flows.up ≡ true

pub each_has_reached : EachHasReached
each_has_reached murder given store name node holds there =
    has_reached murder.master name node (on_link murder.links name murder.master.me) (on_link murder.links murder.master.me name) given
    (holds.each name node there).talk

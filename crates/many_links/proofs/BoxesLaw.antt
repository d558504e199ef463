-- The table's mailboxes are the store's boxes, each with a UIDVALIDITY of its own.
use Rattle.std.proofs.Common.{◌≡◌, ℕ, Bool, true, false, cond, List, Option, None, Some, refl, sym, ap, ◌∙◌}
use Rattle.link_queue.specs.Links.{on_link}
use Rattle.mail_message.specs.Boxes.{Content}
use Rattle.mur_model.specs.declared.store.Store.{Store}
use Rattle.mur_model.specs.Store.{box_at}
use Rattle.node_record.specs.declared.held.Held.{Held}
use Rattle.node_record.specs.declared.table.Record.{Record}
use Rattle.node_record.specs.declared.table.State.{State}
use Rattle.node_record.specs.declared.table.State.TheVariants.{Bare, Kept, Active}
use Rattle.node_record.specs.Held.{has_content, held_at}
use Rattle.node_record.specs.Table.{record_at}
use Rattle.home_law.specs.Items.{Server}
use Rattle.home_law.specs.ManyNames.{Mailbox}
use Rattle.home_law.proofs.SameName.{is_itself}
use Rattle.back_node.specs.declared.node.BackNode.{BackNode}
use Rattle.name_links.specs.Contents.{acl_in, content_in, state_by}
use Rattle.name_links.specs.Serials.{Given, uid_validity}
use Rattle.back_links.specs.OneHome.{IsNamedAt}
use Rattle.back_links.specs.Validities.{HasValidity}
use Rattle.back_links.proofs.OneHome.{validities_differ}
use Rattle.store_links.specs.Shown.{Homes, IsMailboxOf, RecordShows, StateShows, content_at}
use Rattle.store_links.proofs.BoxesLaw.{as_many, full_alike, same_names}
use Rattle.many_links.specs.Murder.{Murder, held_in, homes_of}
use Rattle.many_links.specs.ManyHold.{ManyHold}
use Rattle.many_links.specs.OpenNames.{MailboxesAreBoxes, BoxesDiffer}

pub mailboxes_are_boxes : MailboxesAreBoxes
mailboxes_are_boxes murder given store hold = record {
  names = same_names murder.master.table (homes_of murder.nodes) store hold.shows;
  many = as_many murder.master.table (homes_of murder.nodes) store hold.shows hold.counted;
  full = full_alike murder.master.table (homes_of murder.nodes) store hold.shows hold.counted;
}

-- ---- a box is at the backend of its record

-- by what the record names
record IsAt (homes : Homes) (n : Mailbox) (box : Content) (found : Option Record) : Type 0 where
  server : Server
  acl : List ℕ
  named : acl_in (state_by server found) ≡ Some acl
  has : content_at homes server n ≡ Some box

module _ (homes : Homes) (n : Mailbox) (box : Content) (there : Option Content) (is : there ≡ Some box) where
  at_server : (it : Record) (acl : List ℕ) → acl_in (Some it.state) ≡ Some acl → IsMailboxOf (content_at homes (it.place).server n) there acl
      → IsAt homes n box (Some it)
  at_server it acl list mailbox = record {
    server = (it.place).server;
    acl = acl;
    named = ap (λ (t : Bool). acl_in (cond t (Some it.state) None)) (is_itself (it.place).server) ∙ list;
    has = mailbox.at_home ∙ sym mailbox.in_store ∙ is;
  }

  by_state : (it : Record) (z : State) → it.state ≡ z → StateShows (content_at homes (it.place).server n) there z → IsAt homes n box (Some it)
  by_state it (Bare serial) e shows = let no : None ≡ Some box = sym shows ∙ is in cc
  by_state it (Kept acl) e shows = at_server it acl (ap (λ (z : State). acl_in (Some z)) e) shows
  by_state it (Active acl) e shows = at_server it acl (ap (λ (z : State). acl_in (Some z)) e) shows

  by_record : (found : Option Record) → RecordShows homes n there found → IsAt homes n box found
  by_record None shows = let no : None ≡ Some box = sym shows ∙ is in cc
  by_record (Some it) shows = by_state it it.state refl shows

-- by the backend
record IsBoxOf (murder : Murder) (n : Mailbox) (box : Content) : Type 0 where
  name : List ℕ
  node : BackNode
  there : murder.nodes name ≡ Some node
  named : IsNamedAt murder.master name n
  validity : HasValidity node n box.serial

validity_of : (found : Option Held) (box : Content) → content_in found ≡ Some box → uid_validity found ≡ Some box.serial
validity_of None box e = cc
validity_of (Some it) box e = by_content (has_content it.phase) e
  where
    by_content : (t : Bool) → cond t (Some it.content) None ≡ Some box → cond t (Some it.content.serial) None ≡ Some box.serial
    by_content true f = let same : it.content ≡ box = cc in ap (λ (c : Content). Some c.serial) same
    by_content false f = cc

box_of : (murder : Murder) (given : Given) (store : Store) (n : Mailbox) (box : Content) → ManyHold murder given store → box_at store n ≡ Some box
    → IsBoxOf murder n box
box_of murder given store n box hold is = by_node (murder.nodes at.server) refl
  where
    at : IsAt (homes_of murder.nodes) n box (record_at murder.master.table n)
    at = by_record (homes_of murder.nodes) n box (box_at store n) is (record_at murder.master.table n) (hold.shows.names n)

    by_node : (found : Option BackNode) → murder.nodes at.server ≡ found → IsBoxOf murder n box
    by_node None e =
        let no : None ≡ Some box = sym (ap (λ (f : Option BackNode). content_in (held_at (held_in f) n)) e) ∙ at.has in cc
    by_node (Some node) e = record {
      name = at.server;
      node = node;
      there = e;
      named = record { acl = at.acl; recorded = at.named };
      validity = validity_of (held_at node.home.held n) box
          (sym (ap (λ (f : Option BackNode). content_in (held_at (held_in f) n)) e) ∙ at.has);
    }

pub boxes_differ : BoxesDiffer
boxes_differ murder given store one two box other hold is has same =
    let first : IsBoxOf murder one box = box_of murder given store one box hold is in
    let second : IsBoxOf murder two other = box_of murder given store two other hold has in
    validities_differ murder.master first.name second.name first.node second.node
    (on_link murder.links first.name murder.master.me) (on_link murder.links murder.master.me first.name)
    (on_link murder.links second.name murder.master.me) (on_link murder.links murder.master.me second.name) given
    (hold.each first.name first.node first.there).talk (hold.each second.name second.node second.there).talk one two box.serial
    first.named second.named first.validity (second.validity ∙ ap Some (sym same))

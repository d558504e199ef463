-- Who has a name open, its record names; and no two mailboxes have one UIDVALIDITY.
use Rattle.std.proofs.Common.{◌≡◌, ◌⊎◌, inl, inr, ℕ, Bool, true, false, List, Option, None, Some, refl, sym, ap, subst, ◌∙◌}
use Rattle.std.proofs.Math.Logic.{⊎_elim}
use Rattle.link_msg.specs.declared.message.LinkMsg.{LinkMsg}
use Rattle.master_core.specs.declared.master.Master.{Master}
use Rattle.node_record.specs.declared.held.Held.{Held}
use Rattle.node_record.specs.declared.table.Record.{Record}
use Rattle.node_record.specs.declared.table.State.{State}
use Rattle.node_record.specs.declared.table.State.TheVariants.{Bare, Kept, Active}
use Rattle.node_record.specs.Held.{IsOpen, IsWritableHome, held_at}
use Rattle.node_record.specs.Table.{record_at}
use Rattle.home_law.specs.Items.{Server, is_same_server, RecordKind, kept, active, recorded, Mine, mine, serving}
use Rattle.home_law.specs.Link.{see}
use Rattle.home_law.specs.Rows.{mine_of}
use Rattle.home_law.proofs.LinkSays.{serving_mine}
use Rattle.home_law.proofs.Records.{own_record}
use Rattle.home_law.proofs.SameName.{is_itself, is_the_same}
use Rattle.name_flows.specs.OneName.{phase_in, phase_of}
use Rattle.back_node.specs.declared.node.BackNode.{BackNode}
use Rattle.name_links.specs.Contents.{acl_in, state_at, state_by}
use Rattle.name_links.specs.Known.{kind_of, known, known_by}
use Rattle.name_links.specs.OneLink.{OneLink, server_of, back_of}
use Rattle.name_links.specs.Serials.{Given}
use Rattle.name_links.proofs.BoxLaw.{mailboxes_differ}
use Rattle.back_links.specs.OneHome.{IsNamedAt, OpenIsNamed, OpenAtOne}
use Rattle.back_links.specs.Validities.{ValiditiesDiffer}
use Rattle.back_links.specs.OneTalk.{link_of, HasTalk}

open_serves : (found : Option Held) → IsOpen found → phase_in found ≡ serving
open_serves None opened = absurd opened
open_serves (Some it) opened = ap phase_of opened

-- ---- records

-- a mailbox whose record names this server
abbrev IsAt : Server → Option Record → Type 0
IsAt b found = (acl : List ℕ) × (acl_in (state_by b found) ≡ Some acl)

server_again : {k j : RecordKind} {a b : Server} → recorded k a ≡ recorded j b → (k ≡ j) × (a ≡ b)
server_again e = (cc, cc)

of_state : (b : Server) (it : Record) (s : State) → it.state ≡ s → (it.place).server ≡ b → (kind_of s ≡ kept) ⊎ (kind_of s ≡ active) → IsAt b (Some it)
of_state b it (Bare serial) is same (inl e) = cc
of_state b it (Bare serial) is same (inr e) = cc
of_state b it (Kept acl) is same kind = (acl, rw (same, is_itself b, is) refl)
of_state b it (Active acl) is same kind = (acl, rw (same, is_itself b, is) refl)

of_record : (b : Server) (found : Option Record) (k : RecordKind) → known_by found ≡ recorded k b → (k ≡ kept) ⊎ (k ≡ active) → IsAt b found
of_record b None k e kind = cc
of_record b (Some it) k e kind =
    let both = server_again e in
    of_state b it it.state refl both.1 (subst (λ (j : RecordKind). (j ≡ kept) ⊎ (j ≡ active)) (sym both.0) kind)

server_of_record : (b : Server) (found : Option Record) (acl : List ℕ) → acl_in (state_by b found) ≡ Some acl
    → (it : Record) × (found ≡ Some it) × ((it.place).server ≡ b)
server_of_record b None acl e = cc
server_of_record b (Some it) acl e = by_test (is_same_server (it.place).server b) refl
  where
    by_test : (same : Bool) → is_same_server (it.place).server b ≡ same → (other : Record) × (Some it ≡ Some other) × ((other.place).server ≡ b)
    by_test true is = (it, refl, is_the_same (it.place).server b is)
    by_test false is = let none : acl_in (state_by b (Some it)) ≡ None = rw is refl in cc

-- ---- the record of a name that is open

module _ (master : Master) (name : List ℕ) (node : BackNode) (up down : List LinkMsg) (given : Given) (talk : HasTalk master name node up down given)
    (mailbox : List ℕ) (opened : IsWritableHome node.home.held mailbox) where
  abbrev link : OneLink
  link = link_of master node talk.ups talk.downs

  abbrev its_own : Mine
  its_own = mine_of (see (known master.table mailbox) (server_of link))

  own_mine : (its_own ≡ mine active) ⊎ (its_own ≡ mine kept)
  unfolding back_of
  own_mine =
      serving_mine its_own (back_of link mailbox) (talk.holds.names.is.named mailbox)
      (open_serves (held_at node.home.held mailbox) opened)

  recorded_there : IsAt (server_of link) (record_at master.table mailbox)
  recorded_there =
      ⊎_elim
      (λ (e : its_own ≡ mine active).
      of_record (server_of link) (record_at master.table mailbox) active (own_record (known master.table mailbox) (server_of link) active e) (inr refl))
      (λ (e : its_own ≡ mine kept).
      of_record (server_of link) (record_at master.table mailbox) kept (own_record (known master.table mailbox) (server_of link) kept e) (inl refl))
      own_mine

  named_there : IsNamedAt master name mailbox
  named_there =
      let there = subst (λ (b : Server). IsAt b (record_at master.table mailbox)) talk.each.named recorded_there in record { acl = there.0; recorded = there.1 }

pub open_is_named : OpenIsNamed
open_is_named master name node up down given talk mailbox opened = named_there master name node up down given talk mailbox opened

record_again : {one other : Record} → (let o : Option Record = Some one in o ≡ Some other) → one ≡ other
record_again e = cc

pub open_at_one : OpenAtOne
open_at_one master name other node its up down its_up its_down given talk others mailbox opened here =
    let one = named_there master name node up down given talk mailbox opened in
    let two = named_there master other its its_up its_down given others mailbox here in
    let first = server_of_record name (record_at master.table mailbox) one.acl one.recorded in
    let second = server_of_record other (record_at master.table mailbox) two.acl two.recorded in
    let same : first.0 ≡ second.0 = record_again (sym first.1 ∙ second.1) in
    sym second.2 ∙ ap (λ (it : Record). (it.place).server) (sym same) ∙ first.2

-- ---- UIDVALIDITYs

pub validities_differ : ValiditiesDiffer
validities_differ master name other node its up down its_up its_down given talk others one two serial first second has have =
    mailboxes_differ (link_of master node talk.ups talk.downs) (link_of master its others.ups others.downs) given talk.holds.serials talk.holds.boxes
    others.holds.boxes one two first.acl second.acl serial
    (subst (λ (b : Server). acl_in (state_at master.table b one) ≡ Some first.acl) (sym talk.each.named) first.recorded)
    (subst (λ (b : Server). acl_in (state_at master.table b two) ≡ Some second.acl) (sym others.each.named) second.recorded) has have

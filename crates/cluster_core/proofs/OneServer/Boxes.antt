-- The store has of each name the mailbox that the server of its record has.
use Rattle.std.proofs.Common.{◌≡◌, ℕ, List, Option, None, Some, refl, sym, ◌∙◌, ap}
use Rattle.back_node.specs.declared.node.BackNode.{BackNode}
use Rattle.mail_message.specs.Boxes.{Content}
use Rattle.mur_base.specs.declared.home.Location.{Location}
use Rattle.mur_config.specs.declared.config.Config.{Config}
use Rattle.mur_model.specs.Store.{box_at}
use Rattle.name_links.specs.Contents.{acl_in, content_in}
use Rattle.node_record.specs.declared.table.Record.{Record}
use Rattle.node_record.specs.declared.table.State.{State}
use Rattle.node_record.specs.declared.table.State.TheVariants.{Bare, Kept, Active}
use Rattle.node_record.specs.Held.{held_at}
use Rattle.node_record.specs.Table.{MailboxTable, record_at}
use Rattle.many_links.specs.Murder.{held_in, homes_of}
use Rattle.store_links.specs.Shown.{Homes, IsMailboxOf, RecordShows, StateShows, content_at}
use Rattle.imap_talk.specs.Heard.{Heard}
use Rattle.cluster_core.specs.World.{master_of, home_at}
use Rattle.cluster_core.specs.declared.world.World.{World}
use Rattle.cluster_core.specs.Headline.OneStore.{HasBoxesOf, HasItsRights, box_by, box_in, rights_by}
use Rattle.cluster_core.specs.Headline.Outside.{table_by, table_at}
use Rattle.cluster_core.specs.Shown.{held_at_node, held_by}
use Rattle.cluster_core.proofs.Connections.KeepsLaw.{KeepsLaw}

-- the table of the master
pub table_is : (config : Config) (heard : ℕ → Heard) (world : World) (law : KeepsLaw config heard world)
    → table_at world (master_of config) ≡ law.master.table
table_is config heard world law = ap table_by law.nodes.is_there

-- what a backend has, as both say it
pub same_held : (found : Option BackNode) → held_in found ≡ held_by found
same_held None = refl
same_held (Some node) = refl

pub same_content : (world : World) (server name : List ℕ)
    → content_at (homes_of (home_at world)) server name ≡ content_in (held_at (held_at_node world server) name)
same_content world server name = ap (λ held. content_in (held_at held name)) (same_held (home_at world server))

state_box : (world : World) (name : List ℕ) (place : Location) (state : State) (there : Option Content)
    → StateShows (content_at (homes_of (home_at world)) place.server name) there state → there ≡ box_in world name place state
state_box world name place (Bare serial) there shows = shows
state_box world name place (Kept acl) there shows = shows.in_store ∙ sym shows.at_home ∙ same_content world place.server name
state_box world name place (Active acl) there shows = shows.in_store ∙ sym shows.at_home ∙ same_content world place.server name

record_box : (world : World) (name : List ℕ) (there : Option Content) (found : Option Record)
    → RecordShows (homes_of (home_at world)) name there found → there ≡ box_by world name found
record_box world name there None shows = shows
record_box world name there (Some it) shows = state_box world name it.place it.state there shows

pub has_boxes : (config : Config) (heard : ℕ → Heard) (world : World) (law : KeepsLaw config heard world)
    → HasBoxesOf config law.story.course.store world
has_boxes config heard world law = λ name.
    record_box world name (box_at law.story.course.store name) (record_at law.master.table name) (law.many.shows.names name)
    ∙ sym (ap (λ (table : MailboxTable). box_by world name (record_at table name)) (table_is config heard world law))

-- ---- access lists

mailbox_rights : (here there : Option Content) (acl : List ℕ) (box : Content) → IsMailboxOf here there acl → there ≡ Some box → Some acl ≡ Some box.acl
mailbox_rights here there acl box it is =
    let both : Some it.content ≡ Some box = sym it.in_store ∙ is in
    let same : it.content ≡ box = cc in
    ap Some (sym it.has_acl ∙ ap (λ (c : Content). c.acl) same)

state_rights : (here there : Option Content) (state : State) (box : Content) → StateShows here there state → there ≡ Some box
    → acl_in (Some state) ≡ Some box.acl
state_rights here there (Bare serial) box shows is = (let no : None ≡ Some box = sym shows ∙ is in cc)
state_rights here there (Kept acl) box shows is = mailbox_rights here there acl box shows is
state_rights here there (Active acl) box shows is = mailbox_rights here there acl box shows is

record_rights : (homes : Homes) (name : List ℕ) (there : Option Content) (found : Option Record) (box : Content) → RecordShows homes name there found
    → there ≡ Some box → rights_by found ≡ Some box.acl
record_rights homes name there None box shows is = (let no : None ≡ Some box = sym shows ∙ is in cc)
record_rights homes name there (Some it) box shows is =
    state_rights (content_at homes (it.place).server name) there it.state box shows is

pub has_rights : (config : Config) (heard : ℕ → Heard) (world : World) (law : KeepsLaw config heard world)
    → HasItsRights config law.story.course.store world
has_rights config heard world law = λ name box is.
    ap (λ (table : MailboxTable). rights_by (record_at table name)) (table_is config heard world law)
    ∙ record_rights (homes_of (home_at world)) name (box_at law.story.course.store name) (record_at law.master.table name) box
    (law.many.shows.names name) is

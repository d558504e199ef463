-- Where no message is on the links between a backend and the master, the backend's resync has ended, so no CREATE and no DELETE waits for that.
use Rattle.std.proofs.Common.{◌≡◌, ℕ, Bool, true, false, ◌&&◌, ◌||◌, not, is_some, if◌then◌else◌, List, [], ◌∷◌, map, filter, Option, None, Some, refl, sym, ◌∙◌, ap}
use Rattle.std.specs.Ordering.{nat_cmp}
use Rattle.std.specs.Cmp.Lexicographic.{slice_cmp}
use Rattle.mur_base.specs.Map.{value_at}
use Rattle.back_node.specs.declared.node.BackNode.{BackNode}
use Rattle.back_links.specs.OneTalk.{HasTalk, link_of}
use Rattle.home_law.specs.Items.{listed as in_list, listing as in_listing}
use Rattle.home_law.specs.Rows.{is_idle, is_synced, mine_of, waits}
use Rattle.home_law.specs.Link.{see}
use Rattle.home_law.specs.ManyNames.{downs_of}
use Rattle.home_law.proofs.LinkSays.{none_waits}
use Rattle.link_msg.specs.declared.message.LinkMsg.{LinkMsg}
use Rattle.master_core.specs.declared.master.Master.{Master}
use Rattle.name_commands.specs.Places.{FlowsShow, NamePlace as name_at}
use Rattle.name_commands.specs.Whose.{Whose, is_own_ask}
use Rattle.name_flows.specs.declared.ask.NameAsk.{NameAsk}
use Rattle.name_flows.specs.declared.resync.Resync.{Resync}
use Rattle.name_flows.specs.Link.{waiting_in}
use Rattle.name_flows.specs.OneName.{flow_in, progress_in}
use Rattle.name_flows.specs.Running.{flow_at}
use Rattle.name_links.specs.Known.{known}
use Rattle.name_links.specs.LinkIs.{LinkHolds}
use Rattle.name_links.specs.OneLink.{OneLink, back_of, server_of}
use Rattle.name_links.specs.Serials.{Given}

-- a link without lines and responses
empty_down : (link : OneLink) → link.downs ≡ [] → (back_of link []).down ≡ []
unfolding back_of downs_of
empty_down link none = rw none refl

empty_up : (link : OneLink) → link.ups ≡ [] → (back_of link []).up ≡ []
unfolding back_of
empty_up link none = rw none refl

unsynced_waits : (idle synced : Bool) → (true && (not idle || not synced)) ≡ false → synced ≡ true
unsynced_waits true true e = refl
unsynced_waits true false e = cc
unsynced_waits false synced e = cc

unlisted : (listed : Bool) → is_synced (if listed then in_list else in_listing) ≡ true → ⊥
unfolding is_synced
unlisted true e = cc
unlisted false e = cc

synced_none : (found : Option Resync) → is_synced (progress_in [] found) ≡ true → found ≡ None
synced_none None e = refl
synced_none (Some it) e = absurd (unlisted (is_some (value_at (slice_cmp nat_cmp) it.listed [])) e)

no_resync : (link : OneLink) → LinkHolds link → link.ups ≡ [] → link.downs ≡ [] → link.flows.resync ≡ None
unfolding back_of waits
no_resync link holds up down =
    synced_none link.flows.resync
    (unsynced_waits (is_idle (flow_in (flow_at link.flows []))) (is_synced (progress_in [] link.flows.resync))
    (none_waits (mine_of (see (known link.table []) (server_of link))) (back_of link []) (holds.is.named []) (empty_down link down) (empty_up link up)))

mapped_none : {A B : Type 0} (f : A → B) (xs : List A) → [] ≡ map f xs → xs ≡ []
mapped_none f [] e = refl
mapped_none f (x ∷ xs) e = cc

pub rests : (master : Master) (name : List ℕ) (node : BackNode) (up down : List LinkMsg) (given : Given) → HasTalk master name node up down given
    → up ≡ [] → down ≡ [] → node.flows.resync ≡ None
rests master name node up down given talk up_none down_none =
    no_resync (link_of master node talk.ups talk.downs) talk.holds.names
    (mapped_none _ talk.ups (sym up_none ∙ talk.written.up_is)) (mapped_none _ talk.downs (sym down_none ∙ talk.written.down_is))

-- so none of its asks waits
pub none_waits_there : (whose : Whose) (node : BackNode) (ask : NameAsk) → FlowsShow whose node.flows (name_at.waits ask) → node.flows.resync ≡ None → ⊥
none_waits_there whose node ask shows none =
    (let both : [] ≡ ask ∷ [] = sym (ap (λ (r : Option Resync). filter (is_own_ask whose) (waiting_in r)) none) ∙ shows.waiting in cc)

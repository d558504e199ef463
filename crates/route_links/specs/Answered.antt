-- The master answers the NOOP of a command in the step in which it takes it (RFC 3656, 4.8).
use Rattle.std.specs.Prelude.{◌≡◌, ℕ, ◌<◌, ◌^◌, List, [], ◌∷◌, Some}
use Rattle.ask_routes.specs.Barrier.{barrier_answered, noop_line}
use Rattle.feed_links.specs.OneFeed.{IsNoop}
use Rattle.feed_links.specs.Replicas.{IsNoNews}
use Rattle.link_msg.specs.declared.counts.Counts.TheVariants.{IfAnswered}
use Rattle.link_msg.specs.declared.message.LinkMsg.{LinkMsg}
use Rattle.link_msg.specs.declared.message.LinkMsg.TheVariants.{Line}
use Rattle.link_msg.specs.declared.out.Out.TheVariants.{Link, Mark}
use Rattle.master_core.specs.declared.master.Master.{Master}
use Rattle.master_core.specs.Changes.{text_of}
use Rattle.master_core.specs.Linked.{node_says}
use Rattle.master_core.specs.Replies.{done}
use Rattle.mupdate_codec.specs.declared.command.MResponse.TheVariants as response
use Rattle.mupdate_codec.specs.Asks.{tag_of}
use Rattle.mur_base.specs.declared.point.AskId.{AskId}

-- a command whose numbers are those of a program
abbrev pub IsNumbered : AskId → Type 0
IsNumbered ask = (ask.conn < 2 ^ 64) × (ask.command < 2 ^ 64)

-- the NOOP of a command, and its OK
abbrev pub noop_of : AskId → LinkMsg
noop_of ask = Line (noop_line ask)

abbrev pub ok_line : AskId → List ℕ
ok_line ask = text_of (tag_of ask) (response.Ok done)

abbrev pub ok_of : AskId → LinkMsg
ok_of ask = Line (ok_line ask)

-- whichever node sent it, with a stream or without: nothing changes, the OK is sent, and the command is marked
abbrev pub NoopIsAnswered : Type 0
NoopIsAnswered = (master : Master) (node : List ℕ) (ask : AskId) → IsNumbered ask
    → node_says master node (noop_of ask) ≡ record { master = master; outs = Link node (ok_of ask) ∷ Mark ask IfAnswered ∷ [] }

-- for the frontend's stream it is a NOOP as others
abbrev pub IsANoop : Type 0
IsANoop = (ask : AskId) → IsNumbered ask → IsNoop (noop_of ask)

-- the frontend reads the answer as the OK of this command, and it changes no replica
abbrev pub OkIsRead : Type 0
OkIsRead = (ask : AskId) → IsNumbered ask → barrier_answered (ok_line ask) ≡ Some ask

abbrev pub OkIsNoNews : Type 0
OkIsNoNews = (ask : AskId) → IsNumbered ask → IsNoNews (ok_of ask)

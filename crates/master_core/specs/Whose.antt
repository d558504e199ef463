-- Whose the lines are that the master sends nodes, by their tags alone.
use Rattle.std.specs.Prelude.{◌≡◌, ◌⊎◌, ⊤, ℕ, List, All, Option, None}
use Rattle.link_msg.specs.declared.message.LinkMsg.{LinkMsg}
use Rattle.link_msg.specs.declared.message.LinkMsg.TheVariants.{Line}
use Rattle.link_msg.specs.declared.out.Out.{Out}
use Rattle.link_msg.specs.declared.out.Out.TheVariants.{Link}
use Rattle.mur_base.specs.declared.point.AskId.{AskId}
use Rattle.mupdate_codec.specs.declared.tag.Tag.{Tag}
use Rattle.mupdate_codec.specs.Asks.{line_ask}
use Rattle.mupdate_codec.specs.Tags.{mupdate_tag_text}

-- a line to a node is this command's, or nobody's, and nothing but lines goes to nodes
abbrev pub IsOf : Option AskId → Out → Type 0
IsOf ask (Link node (Line bytes)) = (line_ask bytes ≡ ask) ⊎ (line_ask bytes ≡ None)
IsOf ask (Link node message) = ⊥
IsOf ask out = ⊤

-- lines under the tag are nobody's
abbrev pub IsNobodys : Tag → Type 0
IsNobodys tag = line_ask (mupdate_tag_text tag) ≡ None

-- each stream is told under such a tag
abbrev pub TellNobody : List (List ℕ × Tag) → Type 0
TellNobody streams = All (λ (s : List ℕ × Tag). IsNobodys s.1) streams

-- the command whose line a message is
abbrev pub message_ask : LinkMsg → Option AskId
message_ask (Line bytes) = line_ask bytes
message_ask message = None

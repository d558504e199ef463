-- The tag of a backend's RESERVE tells the command that waits for it (RFC 3656, 4.9).
use Rattle.std.proofs.Common.{◌≡◌, ℕ, Bool, true, false, cond, List, [], ◌∷◌, map, None, Some, sym, subst}
use Rattle.std.specs.List.{AllByRecursion}
use Rattle.home_law.specs.Items.{Server, is_same_server}
use Rattle.home_law.specs.ManyNames.{SentLine as OpenLine, with_line}
use Rattle.home_law.specs.ManyNames.SentLine.{sent_list, sent_reserve, sent_make, sent_again, sent_deactivate, sent_delete, sent_wipe, sent_find}
use Rattle.mupdate_codec.specs.declared.command.MCommand.{MCommand}
use Rattle.mupdate_codec.specs.declared.command.MCommand.TheVariants.{Reserve}
use Rattle.mupdate_codec.specs.declared.command.MResponse.{MResponse}
use Rattle.mupdate_codec.specs.declared.command.MResponse.TheVariants as response
use Rattle.mupdate_codec.specs.declared.tag.Tag.{Tag}
use Rattle.mur_base.specs.declared.home.Location.{Location}
use Rattle.name_flows.specs.declared.sent.Sent.{Sent}
use Rattle.name_flows.specs.declared.sent.Sent.TheVariants as sent
use Rattle.name_flows.specs.declared.sent.SentLine.{SentLine}
use Rattle.name_flows.specs.OneName.{open_line}
use Rattle.name_links.specs.Lines.{backend_line, is_asked}
use Rattle.name_links.specs.LinkIs.{AreAnswers, AreSent, IsTied, IsTagged, is_tagged_as, lines_after, tagged_by, tagged_line, tagged_lines}
use Rattle.name_links.specs.OneLink.{OneLink, server_of}

-- a RESERVE has the tag of a command
abbrev has_tag : Tag → OpenLine → Type 0
has_tag tag (sent_reserve m) = is_asked tag ≡ true
has_tag tag line = Unit {0}

abbrev HasTag : Tag × OpenLine → Type 0
HasTag line = has_tag line.0 line.1

-- ---- the lines that were sent

sent_so : (tag : Tag) (found : Bool) (it : Sent) → is_tagged_as (is_asked tag) it → has_tag tag (open_line found it)
sent_so tag found sent.List is = tt
sent_so tag found (sent.Reserve m) is = is
sent_so tag found (sent.Make m) is = tt
sent_so tag found (sent.Again m) is = tt
sent_so tag found (sent.Deactivate m) is = tt
sent_so tag found (sent.Delete m) is = tt
sent_so tag found (sent.Wipe m) is = tt
sent_so tag found (sent.Find m) is = tt

behind_so : (lines : List SentLine) → AllByRecursion IsTagged lines → AllByRecursion HasTag (map (tagged_line false) lines)
behind_so [] all = tt
behind_so (line ∷ lines) all = (sent_so line.tag false line.what all.0, behind_so lines all.1)

all_so : (found : Bool) (lines : List SentLine) → AllByRecursion IsTagged lines → AllByRecursion HasTag (tagged_by found lines)
all_so found [] all = tt
all_so found (line ∷ lines) all = (sent_so line.tag found line.what all.0, behind_so lines all.1)

-- ---- those that no response came to

with_line_so : (tag : Tag) (line : OpenLine) → has_tag tag line → has_tag tag (with_line line)
unfolding with_line
with_line_so tag sent_list has = tt
with_line_so tag (sent_reserve m) has = has
with_line_so tag (sent_make m) has = tt
with_line_so tag (sent_again m) has = tt
with_line_so tag (sent_deactivate m) has = tt
with_line_so tag (sent_delete m) has = tt
with_line_so tag (sent_wipe m) has = tt
with_line_so tag (sent_find m told) has = tt

after_so : (line : Tag × OpenLine) (lines : List (Tag × OpenLine)) (it : MResponse) → HasTag line → AllByRecursion HasTag lines
    → AllByRecursion HasTag (lines_after line lines it)
after_so line lines (response.Mailbox name place acl) has all = (with_line_so line.0 line.1 has, all)
after_so line lines (response.Reserve name place) has all = (with_line_so line.0 line.1 has, all)
after_so line lines (response.Delete name) has all = (has, all)
after_so line lines (response.Ok text) has all = all
after_so line lines (response.No text) has all = all
after_so line lines (response.Bad text) has all = all

left_so : (lines : List (Tag × OpenLine)) (downs : List (Tag × MResponse)) (left : List (Tag × OpenLine)) → AreAnswers lines downs left
    → AllByRecursion HasTag lines → AllByRecursion HasTag left
unfolding AreAnswers
left_so lines [] left answers all = subst (AllByRecursion HasTag) answers all
left_so [] (it ∷ more) left answers all = absurd answers
left_so (line ∷ lines) (it ∷ more) left answers all = left_so (lines_after line lines it.1) more left answers.2 (after_so line lines it.1 all.0 all.1)

-- ---- the first on its way

module _ (b : Server) (tag : Tag) (mailbox : List ℕ) (place : Location) where
  line_so : (here : Bool) (line : OpenLine) → cond here (Some (sent_reserve mailbox)) None ≡ Some line → has_tag tag line → is_asked tag ≡ true
  line_so true line e has = let same : sent_reserve mailbox ≡ line = cc in subst (has_tag tag) (sym same) has
  line_so false line e has = cc

  first_so : (left : List (Tag × OpenLine)) (more : List (Tag × MCommand)) → AreSent b left ((tag, Reserve mailbox place) ∷ more)
      → AllByRecursion HasTag left → is_asked tag ≡ true
  unfolding AreSent backend_line
  first_so [] more sends all = absurd sends
  first_so (line ∷ lines) more sends all =
      line_so (is_same_server place.server b) line.1 sends.1 (subst (λ t. has_tag t line.1) sends.0 all.0)

-- THE TAG OF A RESERVE IS A COMMAND'S
pub reserve_is_asked : (link : OneLink) (tag : Tag) (mailbox : List ℕ) (place : Location) (more : List (Tag × MCommand)) → IsTied link
    → link.ups ≡ (tag, Reserve mailbox place) ∷ more → is_asked tag ≡ true
reserve_is_asked link tag mailbox place more tied ups =
    first_so (server_of link) tag mailbox place tied.left more (subst (AreSent (server_of link) tied.left) ups tied.sent)
    (left_so (tagged_lines link.flows) link.downs tied.left tied.answers (all_so link.flows.found link.flows.sent tied.tagged))

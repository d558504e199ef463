-- The lines of a backend as messages, each under its tag.
use Rattle.std.proofs.Common.{◌≡◌, true, false, is_some, codes, List, [], ◌∷◌, ◌++◌, map, Some, refl, sym, ap, ◌∙◌}
use Rattle.std.specs.List.{AllByRecursion}
use Rattle.mur_base.specs.declared.home.Location.{Location}
use Rattle.mupdate_codec.specs.declared.tag.Tag.{Tag}
use Rattle.mupdate_codec.specs.declared.tag.Tag.TheVariants.{Star, Text}
use Rattle.mupdate_codec.specs.Asks.{ask_in, ask_id_of}
use Rattle.mupdate_codec.proofs.AsksLaw.{none_of}
use Rattle.node_record.specs.Held.{Names}
use Rattle.home_law.specs.Items.{Server}
use Rattle.home_law.proofs.SameName.{is_itself}
use Rattle.name_flows.specs.declared.sent.Sent.{Sent}
use Rattle.name_flows.specs.declared.sent.Sent.TheVariants.{List as List_line, Reserve, Make, Again, Deactivate, Delete, Wipe, Find}
use Rattle.name_flows.specs.declared.sent.SentLine.{SentLine}
use Rattle.name_flows.specs.Heard.{is_same_tag}
use Rattle.name_flows.specs.Lines.{server_prefix, command_of}
use Rattle.name_flows.specs.OneName.{open_line, open_behind}
use Rattle.name_links.specs.Lines.{is_asked, backend_line}
use Rattle.name_links.specs.OneLink.{message_of}
use Rattle.name_links.specs.LinkIs.{tagged_line, AreSent, is_tagged_as, IsTagged}

-- ---- tags

pub same_tag_itself : (tag : Tag) → is_same_tag tag tag ≡ true
same_tag_itself Star = refl
same_tag_itself (Text text) = is_itself text

pub unasked : is_asked (Text (codes "r0")) ≡ false
unfolding ask_id_of
unasked = ap (λ p. is_some (ask_in p)) (none_of (codes "r0") refl [])

-- ---- a line as a message is that line

pub message_is : (me : Location) (held : Names) (line : SentLine) → IsTagged line
    → backend_line me.server line.tag (command_of me held line.what) ≡ Some (open_behind line)
unfolding backend_line
message_is me held line t = by_what line.what t
  where
    by_what : (what : Sent) → is_tagged_as (is_asked line.tag) what → backend_line me.server line.tag (command_of me held what) ≡ Some (open_line false what)
    by_what List_line t = rw (is_itself (server_prefix me)) refl
    by_what (Reserve m) t = rw (is_itself me.server) refl
    by_what (Make m) t = rw (is_itself me.server, t) refl
    by_what (Again m) t = rw (is_itself me.server, t) refl
    by_what (Deactivate m) t = rw (is_itself me.server) refl
    by_what (Delete m) t = rw t refl
    by_what (Wipe m) t = rw t refl
    by_what (Find m) t = refl

pub all_more : (xs ys : List SentLine) → AllByRecursion IsTagged xs → AllByRecursion IsTagged ys → AllByRecursion IsTagged (xs ++ ys)
all_more [] ys a b = b
all_more (x ∷ xs) ys a b = (a.0, all_more xs ys a.1 b)

pub sends_sent : (b : Server) (me : Location) (held : Names) (sends : List SentLine) → me.server ≡ b → AllByRecursion IsTagged sends
    → AreSent b (map (tagged_line false) sends) (map (message_of me held) sends)
unfolding AreSent
sends_sent b me held [] e t = tt
sends_sent b me held (line ∷ sends) e t =
    (refl, ap (λ s. backend_line s line.tag (command_of me held line.what)) (sym e) ∙ message_is me held line t.0, sends_sent b me held sends e t.1)

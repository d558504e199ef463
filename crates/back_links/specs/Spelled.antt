-- What a backend can tell the master by lines that are read again: its names are names, its access lists aren't too long, and its tags are tags.
use Rattle.std.specs.Prelude.{All}
use Rattle.std.specs.List.{AllByRecursion}
use Rattle.std.specs.Map.{keys_of, values_of}
use Rattle.mupdate_codec.specs.declared.command.MCommand.{MCommand}
use Rattle.mupdate_codec.specs.declared.command.MResponse.{MResponse}
use Rattle.mupdate_codec.specs.declared.tag.Tag.{Tag}
use Rattle.mupdate_codec.specs.declared.tag.Tag.TheVariants.{Star, Text}
use Rattle.node_record.specs.declared.held.Held.{Held}
use Rattle.node_record.specs.Held.{Names}
use Rattle.name_flows.specs.declared.ask.NameAsk.{NameAsk}
use Rattle.name_flows.specs.declared.flows.Flows.{Flows}
use Rattle.name_flows.specs.declared.sent.Sent.{Sent}
use Rattle.name_flows.specs.declared.sent.Sent.TheVariants.{List as List_line, Reserve, Make, Again, Deactivate, Delete, Wipe, Find}
use Rattle.name_flows.specs.declared.sent.SentLine.{SentLine}
use Rattle.name_flows.specs.Asked.{begun_line}
use Rattle.name_flows.specs.Link.{waiting_in}
use Rattle.name_links.specs.Spelled.{IsTagText, IsNameText, IsPlaceText, IsShort, HasTexts, TellsTexts}

-- the tag of a command
abbrev pub IsTextTag : Tag → Type 0
IsTextTag Star = ⊥
IsTextTag (Text text) = IsTagText text

-- a command and a response that can be read again, each under its tag

abbrev pub HasCommandTexts : Tag × MCommand → Type 0
HasCommandTexts it = IsTextTag it.0 × HasTexts it.1

abbrev pub HasResponseTexts : Tag × MResponse → Type 0
HasResponseTexts it = IsTextTag it.0 × TellsTexts it.1

-- the name that a line is about
abbrev pub IsAboutName : Sent → Type 0
IsAboutName List_line = Unit {0}
IsAboutName (Reserve name) = IsNameText name
IsAboutName (Make name) = IsNameText name
IsAboutName (Again name) = IsNameText name
IsAboutName (Deactivate name) = IsNameText name
IsAboutName (Delete name) = IsNameText name
IsAboutName (Wipe name) = IsNameText name
IsAboutName (Find name) = IsNameText name

abbrev pub HasLineTexts : SentLine → Type 0
HasLineTexts line = IsTextTag line.tag × IsAboutName line.what

-- the line with which an ask begins
abbrev pub HasAskTexts : NameAsk → Type 0
HasAskTexts ask = HasLineTexts (begun_line ask)

abbrev pub HasShortAcl : Held → Type 0
HasShortAcl it = IsShort it.content.acl

-- mailboxes
pub record HaveTexts (held : Names) : Type 0 where
  pub names : All IsNameText (keys_of held)
  pub acls : All HasShortAcl (values_of held)

pub record CanTellMaster (flows : Flows) (held : Names) : Type 0 where
  pub place : IsPlaceText flows.me
  pub mailboxes : HaveTexts held
  -- the lines whose last answer hasn't come, and the asks that wait
  pub sent : AllByRecursion HasLineTexts flows.sent
  pub waiting : AllByRecursion HasAskTexts (waiting_in flows.resync)

-- Which lines can be printed so that they are read again: names that are names, locations whose parts are, strings that aren't too long.
use Rattle.std.specs.Prelude.{◌≡◌, ℕ, ◌≤◌, true, List, length, None, Some}
use Rattle.mur_base.specs.Names.{mail_name_fault}
use Rattle.mur_base.specs.declared.home.Location.{Location}
use Rattle.text_parts.specs.Locations.{short_names}
use Rattle.mupdate_codec.specs.declared.command.MCommand.{MCommand}
use Rattle.mupdate_codec.specs.declared.command.MCommand.TheVariants as command
use Rattle.mupdate_codec.specs.declared.command.MResponse.{MResponse}
use Rattle.mupdate_codec.specs.declared.command.MResponse.TheVariants as response
use Rattle.mupdate_codec.specs.declared.tag.Tag.TheVariants.{Text}
use Rattle.mupdate_codec.specs.Commands.{IsSpelledCommand}
use Rattle.mupdate_codec.specs.Responses.{IsSpelledResponse}
use Rattle.mupdate_codec.specs.Tags.{mupdate_tags}

-- 1 to 41 letters, digits and `-`
abbrev pub IsTagText : List ℕ → Type 0
IsTagText text = mupdate_tags.whole text ≡ true

abbrev pub IsNameText : List ℕ → Type 0
IsNameText name = mail_name_fault name ≡ None

abbrev pub IsPlaceText : Location → Type 0
IsPlaceText place = (short_names.whole place.server ≡ true) × (short_names.whole place.partition ≡ true)

abbrev pub IsShort : List ℕ → Type 0
IsShort text = length text ≤ 65536

-- the arguments of a command
abbrev pub HasTexts : MCommand → Type 0
HasTexts (command.Reserve name place) = IsNameText name × IsPlaceText place
HasTexts (command.Activate name place acl) = IsNameText name × IsPlaceText place × IsShort acl
HasTexts (command.Deactivate name place) = IsNameText name × IsPlaceText place
HasTexts (command.Delete name) = IsNameText name
HasTexts (command.Find name) = IsNameText name
HasTexts (command.List None) = Unit {0}
HasTexts (command.List (Some prefix)) = IsShort prefix
HasTexts command.Update = Unit {0}
HasTexts command.Noop = Unit {0}
HasTexts command.Logout = Unit {0}

-- those of a response
abbrev pub TellsTexts : MResponse → Type 0
TellsTexts (response.Mailbox name place acl) = IsNameText name × IsPlaceText place × IsShort acl
TellsTexts (response.Reserve name place) = IsNameText name × IsPlaceText place
TellsTexts (response.Delete name) = IsNameText name
TellsTexts (response.Ok text) = IsShort text
TellsTexts (response.No text) = IsShort text
TellsTexts (response.Bad text) = IsShort text

abbrev pub CommandsAreSpelled : Type 0
CommandsAreSpelled = (tag : List ℕ) (it : MCommand) → IsTagText tag → HasTexts it → IsSpelledCommand (Text tag) it

abbrev pub ResponsesAreSpelled : Type 0
ResponsesAreSpelled = (tag : List ℕ) (it : MResponse) → IsTagText tag → TellsTexts it → IsSpelledResponse (Text tag) it

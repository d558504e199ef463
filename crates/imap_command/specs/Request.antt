-- What a frame asks for: the command that it spells, under its tag. A frame that spells none, or that is too big, is refused
-- under its first word, where that is a tag with a space behind it, else under `*` (RFC 9051, 2.2.1 and 7.1.3).
use Rattle.std.specs.Prelude.{◌≡◌, ℕ, ◌==◌, Bool, true, false, List, [], Option, None, Some, Result, Ok, Err}
use Rattle.mur_base.specs.Ascii.{space}
use Rattle.grammar.specs.Exact.{whole_at}
use Rattle.grammar.specs.Part.{starts}
use Rattle.grammar.specs.Words.{scan}
use Rattle.imap_types.specs.declared.command.Command.{Command}
use Rattle.imap_types.specs.declared.command.Tag.{Tag}
use Rattle.imap_types.specs.declared.command.Tag.TheVariants.{Star, Text}
use Rattle.imap_types.specs.declared.request.Request.{Request}
use Rattle.imap_types.specs.declared.request.Request.TheVariants.{Command as a_command, Unknown as unknown, TooBig as too_big}
use Rattle.imap_command.specs.Bad.{IsFirstTag}
use Rattle.imap_command.specs.Spells.{Spells, tags, tagged_command}

abbrev pub tag_or_star : Option Tag → Tag
tag_or_star None = Star
tag_or_star (Some tag) = tag

-- what a whole frame asks for
pub data IsRequest (frame : List ℕ) : Request → Type 0 where
  spells : (tag : Tag) (it : Command) → Spells frame (tag, it) → IsRequest frame (a_command tag it)
  spells_nothing : (tag : Option Tag) → ((tagged : Tag × Command) → ¬ Spells frame tagged) → IsFirstTag frame tag → IsRequest frame (unknown (tag_or_star tag))

-- what is told of a frame that is too big
pub record IsTooBig (frame : List ℕ) (request : Request) : Type 0 where
  pub tag : Option Tag
  pub first : IsFirstTag frame tag
  pub refused : request ≡ too_big (tag_or_star tag)

-- The same as functions.

abbrev pub is_space : ℕ → Bool
is_space c = c == space

abbrev pub tag_before : List ℕ → Bool → Option Tag
tag_before word true = Some (Text word)
tag_before word false = None

abbrev pub tag_in : Result (List ℕ × List ℕ) ℕ → Option Tag
tag_in (Ok x) = tag_before x.0 (starts is_space x.1)
tag_in (Err left) = None

-- the longest run of characters of tags, where it is a tag with a space behind it
unfoldable pub first_tag : List ℕ → Option Tag
first_tag frame = tag_in (scan tags [] frame)

abbrev pub request_by : Option Tag → Result (Tag × Command) ℕ → Request
request_by tag (Ok tagged) = a_command tagged.0 tagged.1
request_by tag (Err left) = unknown (tag_or_star tag)

unfoldable pub request_of : List ℕ → Request
request_of frame = request_by (first_tag frame) (whole_at tagged_command frame)

unfoldable pub too_big_request : List ℕ → Request
too_big_request frame = too_big (tag_or_star (first_tag frame))

-- Tags (RFC 3656, 2).
use Rattle.std.specs.Prelude.{ℕ, List, [], ◌∷◌, ◌==◌}
use Rattle.mur_base.specs.Ascii.{star}
use Rattle.grammar.specs.Forms.{Form, as_it_stands, preceded, choice, constant, made}
use Rattle.grammar.specs.Runs.{run_upto}
use Rattle.grammar.specs.Words.{Words}
use Rattle.mupdate_codec.specs.declared.tag.Tag.{Tag}
use Rattle.mupdate_codec.specs.declared.tag.Tag.TheVariants.{Star, Text}
use Rattle.mupdate_codec.specs.declared.limits.TheConstants.{TAG_MOST}
use Rattle.mupdate_codec.specs.Characters.{is_mupdate_tag_byte}

unfoldable pub mupdate_tag_text : Tag → List ℕ
mupdate_tag_text Star = star ∷ []
mupdate_tag_text (Text text) = text

-- 1 to 41 letters, digits and `-`
abbrev pub mupdate_tags : Words
mupdate_tags = run_upto TAG_MOST is_mupdate_tag_byte

-- the tag of a command
abbrev pub command_tag : Form Tag
command_tag = made Text mupdate_tag_text (as_it_stands mupdate_tags)

-- the tag of a response, which may be `*`
abbrev pub response_tag : Form Tag
response_tag = choice (λ c. c == star) mupdate_tag_text (preceded star (constant Star (λ _. []))) command_tag

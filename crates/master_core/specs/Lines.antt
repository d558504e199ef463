-- The tag under which bytes that are no command are answered.
use Rattle.std.specs.Prelude.{ℕ, Bool, ◌&&◌, nat_le, nat_lt, List, [], length, take, position, Option, None, Some, ◌==◌, if◌then◌else◌}
use Rattle.std.specs.List.{list_all}
use Rattle.mur_base.specs.Ascii.{space}
use Rattle.mupdate_codec.specs.declared.tag.Tag.{Tag}
use Rattle.mupdate_codec.specs.declared.tag.Tag.TheVariants.{Star, Text}
use Rattle.mupdate_codec.specs.declared.limits.TheConstants.{TAG_MOST}
use Rattle.mupdate_codec.specs.Characters.{is_mupdate_tag_byte}

-- 1 to 41 letters, digits and `-`
abbrev pub is_tag : List ℕ → Bool
is_tag text = list_all is_mupdate_tag_byte text && (nat_lt 0 (length text) && nat_le (length text) TAG_MOST)

abbrev pub tag_if : List ℕ → Tag
tag_if text = if is_tag text then Text text else Star

abbrev pub tag_to : List ℕ → Option ℕ → Tag
tag_to bytes None = Star
tag_to bytes (Some at) = tag_if (take at bytes)

-- the first word, if that is a tag and a space follows it
unfoldable pub tag_before : List ℕ → Tag
tag_before bytes = tag_to bytes (position (λ b. b == space) bytes)

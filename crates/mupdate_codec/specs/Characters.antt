-- The bytes of tags (RFC 3656, 2).
use Rattle.std.specs.Prelude.{ℕ, Bool, ◌||◌, ◌==◌}
use Rattle.std.specs.Char.{is_ascii_alphanumeric}
use Rattle.mur_base.specs.Ascii.{dash}

-- a byte of a tag: a letter, a digit or `-`
unfoldable pub is_mupdate_tag_byte : ℕ → Bool
is_mupdate_tag_byte b = is_ascii_alphanumeric b || (b == dash)

-- What stands for a tag in a response: a command whose tag can't be read has `*` (RFC 9051, 2.2.1 and 7.1.3).
use Rattle.std.specs.Prelude.{ℕ, List, codes}
use Rattle.imap_types.specs.declared.command.Tag.{Tag}
use Rattle.imap_types.specs.declared.command.Tag.TheVariants.{Star, Text}

unfoldable pub tag_text : Tag → List ℕ
tag_text Star = codes "*"
tag_text (Text text) = text

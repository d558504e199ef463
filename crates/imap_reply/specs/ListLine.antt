-- A name that a LIST found, and the separator of its levels (RFC 9051, 7.3.1).
use Rattle.std.specs.Prelude.{ℕ, List, [], ◌++◌, codes}
use Rattle.imap_types.specs.declared.reply.Attribute.{Attribute}
use Rattle.imap_types.specs.declared.reply.Attribute.TheVariants.{None as no_attribute, NoSelect, NonExistent}
use Rattle.imap_reply.specs.Mailbox.{mailbox_text}

unfoldable pub attribute_text : Attribute → List ℕ
attribute_text no_attribute = []
attribute_text NoSelect = codes "\\Noselect"
attribute_text NonExistent = codes "\\NonExistent"

unfoldable pub list_line : Attribute → List ℕ → List ℕ
list_line attribute name = codes "* LIST (" ++ attribute_text attribute ++ codes ") \".\" " ++ mailbox_text name ++ codes "\r\n"

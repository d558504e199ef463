-- The line that says that a connection ends: with the reply that holds it, or at once where it stands alone (RFC 9051, 7.1.5).
use Rattle.std.specs.Prelude.{ℕ, List, ◌++◌, codes}
use Rattle.imap_types.specs.declared.reply.Bye.{Bye}
use Rattle.imap_types.specs.declared.reply.Bye.TheVariants.{Logout, Gone, Lost, LineTooLong, LiteralTooLong}

unfoldable pub bye_text : Bye → List ℕ
bye_text Logout = codes "bye"
bye_text Gone = codes "mailbox is gone"
bye_text Lost = codes "[UNAVAILABLE] server lost"
bye_text LineTooLong = codes "line too long"
bye_text LiteralTooLong = codes "literal too long"

unfoldable pub bye_line : Bye → List ℕ
bye_line bye = codes "* BYE " ++ bye_text bye ++ codes "\r\n"

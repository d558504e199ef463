-- The BYE of a client whose bytes can be read no more (RFC 9051, 7.1.5).
use Rattle.imap_types.specs.declared.reply.Bye.{Bye}
use Rattle.imap_types.specs.declared.reply.Bye.TheVariants.{LineTooLong, LiteralTooLong}
use Rattle.imap_wire.specs.declared.frame.FrameFault.{FrameFault}
use Rattle.imap_wire.specs.declared.frame.FrameFault.TheVariants.{LineTooLong as line_fault, PlusTooLong as literal_fault}

-- why a connection ends whose bytes no frame can hold
unfoldable pub bye_of : FrameFault → Bye
bye_of line_fault = LineTooLong
bye_of literal_fault = LiteralTooLong

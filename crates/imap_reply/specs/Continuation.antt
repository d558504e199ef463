-- Lines that ask the client to go on (RFC 9051, 7.6).
use Rattle.std.specs.Prelude.{ℕ, List, codes}
use Rattle.imap_reply.specs.declared.continuation.Continuation.{Continuation}
use Rattle.imap_reply.specs.declared.continuation.Continuation.TheVariants.{Literal, Response, Done}

-- before it sends a literal (RFC 9051, 4.3)
unfoldable pub ready : List ℕ
ready = codes "+ ready\r\n"

-- before it sends its response to AUTHENTICATE: the challenge of PLAIN is empty (RFC 9051, 6.2.2)
unfoldable pub challenge : List ℕ
challenge = codes "+ \r\n"

-- before it sends the DONE of its IDLE (RFC 9051, 6.3.13)
unfoldable pub idling : List ℕ
idling = codes "+ idling\r\n"

unfoldable pub continuation_line : Continuation → List ℕ
continuation_line Literal = ready
continuation_line Response = challenge
continuation_line Done = idling

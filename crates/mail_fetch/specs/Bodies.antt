-- The body of a message, and parts of it, as a FETCH gives them (RFC 9051, 6.4.5 and 7.5.2).
use Rattle.std.specs.Prelude.{ℕ, List, ◌++◌, take, drop, codes, decimal, Option, Some, None}
use Rattle.mail_message.specs.declared.item.Partial.{Partial}
use Rattle.mail_message.specs.Literals.{server_literal}

-- the octets from a place on, at most so many; none where the place is behind the last
abbrev pub octets_of : Partial → List ℕ → List ℕ
octets_of partial body = take partial.count (drop partial.from body)

-- the whole body, or a part of it beside the place at which it begins
abbrev pub body_text : Option Partial → List ℕ → List ℕ
body_text None body = codes "BODY[] " ++ server_literal body
body_text (Some partial) body = codes "BODY[]<" ++ decimal partial.from ++ codes "> " ++ server_literal (octets_of partial body)

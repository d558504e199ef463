-- Parts of a body (RFC 9051, 9: partial).
use Rattle.std.specs.Prelude.{ℕ, ◌==◌, if◌then◌else◌, Option, Some, None}
use Rattle.mail_message.specs.declared.item.Partial.{Partial}

-- so many bytes from a place on, at least one
abbrev pub partial_of : ℕ → ℕ → Option Partial
partial_of from count = if count == 0 then None else Some (record { from = from; count = count })

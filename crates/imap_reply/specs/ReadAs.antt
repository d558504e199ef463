-- How a client reads bytes: as lines, each announced literal taken whole (RFC 9051, 2.2.2 and 4.3).
use Rattle.std.specs.Prelude.{◌≡◌, ℕ, List, All}
use Rattle.std.specs.List.{concat}
use Rattle.imap_reply.specs.Lines.{IsLine}

-- these lines make the bytes, each of them is one line, and the bytes can be cut into no other lines
pub record IsReadAs (bytes : List ℕ) (lines : List (List ℕ)) : Type 0 where
  pub whole : concat lines ≡ bytes
  pub each : All IsLine lines
  pub only : (others : List (List ℕ)) → All IsLine others → concat others ≡ bytes → others ≡ lines

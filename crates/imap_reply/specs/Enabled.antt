-- What ENABLE has switched on: no extension is known (RFC 9051, 7.2.1).
use Rattle.std.specs.Prelude.{ℕ, List, codes}

unfoldable pub enabled_line : List ℕ
enabled_line = codes "* ENABLED\r\n"

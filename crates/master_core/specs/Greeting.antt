-- The greeting of an outside connection (RFC 3656, 2 and 3.4): no mechanism to authenticate by, and who greets.
use Rattle.std.specs.Prelude.{ℕ, List, ◌++◌, codes}

unfoldable pub greeting : List ℕ → List ℕ
greeting me = codes "* AUTH\r\n* OK MUPDATE \"" ++ me ++ codes "\" \"murder\" \"1\" \"(master)\"\r\n"

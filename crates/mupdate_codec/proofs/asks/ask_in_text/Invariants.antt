use Rattle.std.proofs.Common.{◌≡◌, [], take, drop}
use Rattle.mupdate_codec.specs.Asks.{split_dash}
use Rattle.mupdate_codec.proofs.asks.ask_in_text.Given as goal

-- the split of what is left of the text is that of the whole
abbrev pub invariant-loop-i : goal.invariant-loop-i
invariant-loop-i l = split_dash (take l.i l.text) (drop l.i l.text) ≡ split_dash [] l.text

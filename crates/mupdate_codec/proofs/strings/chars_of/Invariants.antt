use Rattle.std.proofs.Common.{◌≡◌, []}
use Rattle.grammar.specs.Part.{turns}
use Rattle.grammar.specs.Quoted.{is_no_quote}
use Rattle.mupdate_codec.specs.Strings.{mupdate_quoted_char}
use Rattle.mupdate_codec.proofs.strings.chars_of.Given as goal

-- the characters that are left, behind the text so far, read what all of them do
abbrev pub invariant-loop-left : goal.invariant-loop-left
invariant-loop-left l = (turns is_no_quote mupdate_quoted_char l.left l.text).at l.rest ≡ (turns is_no_quote mupdate_quoted_char l.most []).at l.bytes

abbrev pub decreases-loop-left : goal.decreases-loop-left
decreases-loop-left l = l.left

-- A refusal of relocation that a client was given has its cause in the history: its name was reserved, or a node wasn't reached.
use Rattle.std.specs.Prelude.{◌≡◌, ℕ, ◌<◌, Bool, true, false, List, Some, count_by}
use Rattle.mur_base.specs.declared.point.Point.{Point}
use Rattle.mur_base.specs.declared.point.What.{What}
use Rattle.mur_base.specs.declared.point.What.TheVariants.{Reserved as reserved, Unreached as unreached}
use Rattle.imap_types.specs.declared.reply.NoText.TheVariants.{BeingMoved, NotReached}
use Rattle.imap_types.specs.declared.reply.Verdict.{Verdict}
use Rattle.imap_types.specs.declared.reply.Verdict.TheVariants.{No as no_reply}
use Rattle.imap_types.specs.declared.request.Answer.{Answer}
use Rattle.mur_model.specs.History.{Talk, numbered, is_about}

-- `mailbox is being moved`, and `server not reached`
unfoldable pub wants_cause : Verdict → Bool
wants_cause (no_reply BeingMoved) = true
wants_cause (no_reply NotReached) = true
wants_cause verdict = false

-- what the point of a command says that is refused so
unfoldable pub is_cause : Verdict → What → Bool
is_cause (no_reply BeingMoved) reserved = true
is_cause (no_reply NotReached) (unreached node) = true
is_cause verdict what = false

-- each command that was refused so has a point that says why
abbrev pub HaveCauses : Talk → List Point → Type 0
HaveCauses talk points =
    (conn number : ℕ) (answer : Answer) → numbered (talk.answers conn) number ≡ Some answer → wants_cause answer.reply.verdict ≡ true
    → 0 < count_by (is_about (is_cause answer.reply.verdict) conn number) points

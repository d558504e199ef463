use Rattle.std.proofs.Common.{◌≡◌, ℕ, drop, Option}
use Rattle.mail_message.specs.declared.message.Row.{Row}
use Rattle.mail_delta.specs.Notes.{row_before}
use Rattle.mail_delta.specs.Spans.{was_at}
use Rattle.mail_delta.proofs.log.ChangeLog.notes_since.Given as goal

abbrev pub invariant-loop-place : goal.invariant-loop-place
invariant-loop-place l = (uid : ℕ) (now : Option Row)
    → was_at l.mark.0 (drop l.place l.self.spans) uid (row_before l.notes uid now) ≡ was_at l.mark.0 l.self.spans uid now

-- What a client reads of all that it is given: the greeting, the continuations and the lines of its replies, each in its turn, and no other
-- line, whatever the texts in them are; and, where a command of it was lost, last the line that says so.
use Rattle.std.specs.Prelude.{◌≡◌, ℕ, false, List, [], ◌∷◌, Option, All}
use Rattle.imap_types.specs.declared.request.Answer.{Answer}
use Rattle.mur_model.specs.declared.setting.Setting.{Setting}
use Rattle.imap_reply.specs.ByeLine.{bye_line}
use Rattle.imap_reply.specs.Continuation.{continuation_line}
use Rattle.imap_reply.specs.Greeting.{greeting}
use Rattle.imap_reply.specs.ReadAs.{IsReadAs}
use Rattle.imap_reply.specs.ReadAsMeant.{line_begins_with, untagged_lines, meant_lines, IsReadAsMeant}
use Rattle.imap_reply.specs.SoundTexts.{IsTag}
use Rattle.imap_talk.specs.Transcript.{Stop, Telling, all_told_till}

abbrev pub with_lines : (Answer → List (List ℕ)) → Telling (List ℕ)
with_lines answers = record { greets = greeting ∷ []; goes_on = λ why. continuation_line why ∷ []; answers = answers; ends_by = λ bye. bye_line bye ∷ [] }

abbrev pub as_lines : Telling (List ℕ)
as_lines = with_lines (λ answer. meant_lines answer.tag answer.reply)

-- without the last of each reply
abbrev pub as_untagged : Telling (List ℕ)
as_untagged = with_lines (λ answer. untagged_lines answer.tag answer.reply)

-- the lines that are meant for a client that has sent these bytes
abbrev pub lines_till : Stop → Setting → Option (List ℕ) → List Answer → List (List ℕ)
lines_till stop setting bytes answers = all_told_till as_lines stop setting bytes answers

abbrev pub untagged_till : Stop → Setting → Option (List ℕ) → List Answer → List (List ℕ)
untagged_till stop setting bytes answers = all_told_till as_untagged stop setting bytes answers

abbrev pub IsAnswerReadAsMeant : Answer → Type 0
IsAnswerReadAsMeant answer = IsReadAsMeant answer.tag answer.reply

-- a client that has sent these bytes, and whose requests have these answers, reads just the lines that were meant; no line begins with a tag
-- but the last of each reply, which begins with its own and says its verdict
pub record IsAllReadTill (stop : Stop) (setting : Setting) (given : List ℕ) (bytes : Option (List ℕ)) (answers : List Answer) : Type 0 where
  pub lines : IsReadAs given (lines_till stop setting bytes answers)
  pub untagged : (word : List ℕ) → IsTag word → All (λ line. line_begins_with word line ≡ false) (untagged_till stop setting bytes answers)
  pub replies : All IsAnswerReadAsMeant answers

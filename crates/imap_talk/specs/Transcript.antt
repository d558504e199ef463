-- What a client is given: the greeting, and then for each input in order a continuation or an answer (RFC 9051, 2.2.2 and 7). The line of
-- a fault is the last, and so is that of a lost command. Behind a reply that holds a BYE nothing is given (RFC 9051, 7.1.5), and nothing behind
-- a request that has no answer.
use Rattle.std.specs.Prelude.{ℕ, Bool, true, false, List, [], ◌∷◌, ◌++◌, Option, None, Some}
use Rattle.std.specs.List.{list_any}
use Rattle.imap_wire.specs.Frames.{frames}
use Rattle.imap_types.specs.declared.reply.Bye as bye
use Rattle.imap_types.specs.declared.reply.Bye.TheVariants.{Lost}
use Rattle.imap_types.specs.declared.reply.Reply.{Reply}
use Rattle.imap_types.specs.declared.reply.ReplyLine.{ReplyLine}
use Rattle.imap_types.specs.declared.reply.ReplyLine.TheVariants.{Bye}
use Rattle.imap_types.specs.declared.request.Answer.{Answer}
use Rattle.mur_model.specs.declared.setting.Setting.{Setting}
use Rattle.imap_reply.specs.declared.continuation.Continuation.{Continuation}
use Rattle.imap_talk.specs.declared.inputs.Input.{Input}
use Rattle.imap_talk.specs.declared.inputs.Input.TheVariants.{GoesOn, Asks, Faults}
use Rattle.imap_reply.specs.ByeLine.{bye_line}
use Rattle.imap_talk.specs.FaultBye.{bye_of}
use Rattle.imap_reply.specs.Continuation.{continuation_line}
use Rattle.imap_reply.specs.Greeting.{greeting}
use Rattle.imap_talk.specs.Inputs.{inputs_from}
use Rattle.imap_reply.specs.ReplyText.{reply_text}

abbrev pub answer_text : Answer → List ℕ
answer_text answer = reply_text answer.tag answer.reply

unfoldable pub is_bye : ReplyLine → Bool
is_bye (Bye bye) = true
is_bye _ = false

-- whether a reply ends its connection: it has a BYE
unfoldable pub ends : Reply → Bool
ends reply = list_any is_bye reply.lines

-- what is given behind a reply: nothing where it ends the connection
unfoldable pub unless_ended : {T : Type 0} → Bool → List T → List T
unless_ended true told = []
unless_ended false told = told

-- what stands in place of the first answer that never came: nothing, or the line of a command that is lost
pub data Stop : Type 0 where
  silent : Stop
  is_lost : Stop

-- how each thing that a client is given is told: as its bytes, or as its lines
pub record Telling (T : Type 0) : Type 0 where
  pub greets : List T
  pub goes_on : Continuation → List T
  pub answers : Answer → List T
  pub ends_by : bye.Bye → List T

unfoldable pub stop_told : {T : Type 0} → Telling T → Stop → List T
stop_told telling silent = []
stop_told telling is_lost = telling.ends_by Lost

-- what is given for these inputs, whose requests have these answers
unfoldable pub told_till : {T : Type 0} → Telling T → Stop → List Input → List Answer → List T
told_till telling stop [] answers = []
told_till telling stop (GoesOn why ∷ inputs) answers = telling.goes_on why ++ told_till telling stop inputs answers
told_till telling stop (Faults fault ∷ inputs) answers = telling.ends_by (bye_of fault)
told_till telling stop (Asks request ∷ inputs) [] = stop_told telling stop
told_till telling stop (Asks request ∷ inputs) (answer ∷ answers) =
    telling.answers answer ++ unless_ended (ends answer.reply) (told_till telling stop inputs answers)

-- what is given to a client that has sent these bytes; nothing to one that was never connected
unfoldable pub all_told_till : {T : Type 0} → Telling T → Stop → Setting → Option (List ℕ) → List Answer → List T
all_told_till telling stop setting None answers = []
all_told_till telling stop setting (Some bytes) answers = telling.greets ++ told_till telling stop (inputs_from setting (frames bytes)) answers

abbrev pub as_bytes : Telling ℕ
as_bytes = record { greets = greeting; goes_on = continuation_line; answers = answer_text; ends_by = bye_line }

abbrev pub stop_text : Stop → List ℕ
stop_text stop = stop_told as_bytes stop

abbrev pub replies_till : Stop → List Input → List Answer → List ℕ
replies_till stop inputs answers = told_till as_bytes stop inputs answers

-- the same where no command was lost, or none is told so
abbrev pub replies_to : List Input → List Answer → List ℕ
replies_to inputs answers = replies_till silent inputs answers

-- the bytes of all of it
abbrev pub transcript_till : Stop → Setting → Option (List ℕ) → List Answer → List ℕ
transcript_till stop setting bytes answers = all_told_till as_bytes stop setting bytes answers

abbrev pub transcript_of : Setting → Option (List ℕ) → List Answer → List ℕ
transcript_of setting bytes answers = transcript_till silent setting bytes answers

-- The master's step, to each name.
use Rattle.std.proofs.Common.{◌≡◌, ℕ, List, [], ◌∷◌, ◌++◌, refl, ap, ◌∙◌}
use Rattle.std.specs.List.{flat_map}
use Rattle.mupdate_codec.specs.declared.command.MCommand.{MCommand}
use Rattle.mupdate_codec.specs.declared.tag.Tag.{Tag}
use Rattle.master_core.specs.declared.master.Master.{Master}
use Rattle.master_core.specs.declared.sender.Sender.TheVariants.{Backend}
use Rattle.master_core.specs.Replies.{reply_to}
use Rattle.master_core.specs.Step.{Planned, replied, line_step}
use Rattle.home_law.specs.Items.{Server}
use Rattle.home_law.specs.ManyNames.{Mailbox, SentLine, BackMessage, up_told, end_told, response, ok_told, no_told, mailbox_told, reserve_told, with_line, downs_of, left_of}
use Rattle.home_law.proofs.ManyNamesLaw.{downs-append}
use Rattle.name_links.specs.Known.{known}
use Rattle.name_links.specs.Lines.{is_full_for}
use Rattle.name_links.specs.Answers.{lines_to, told_in, told_all, answers_to, AreSpelled}
use Rattle.name_links.specs.MasterLaw.{IsLineOf, step_of, sent_to_by, StepIsReply, RecordIsOne, AnswersAreOne, AnswersTakeOff, OthersHearNothing}
use Rattle.name_links.proofs.Outcome.{IsStep}
use Rattle.name_links.proofs.EachCommand.{each_command}
use Rattle.name_links.proofs.Outs.{line_is_reply, lines_to_sender, lines_to_other}
use Rattle.name_links.proofs.Reading.{told_again}

-- the lines that are left after one queue and another
pub left-append : (one two : List BackMessage) (sents : List SentLine) → left_of (one ++ two) sents ≡ left_of two (left_of one sents)
unfolding left_of
left-append [] two sents = refl
left-append (up_told ∷ one) two sents = left-append one two sents
left-append (end_told ∷ one) two sents = left-append one two sents
left-append (response ok_told ∷ one) two [] = left-append one two []
left-append (response no_told ∷ one) two [] = left-append one two []
left-append (response (mailbox_told m) ∷ one) two [] = left-append one two []
left-append (response (reserve_told m) ∷ one) two [] = left-append one two []
left-append (response ok_told ∷ one) two (sent ∷ sents) = left-append one two sents
left-append (response no_told ∷ one) two (sent ∷ sents) = left-append one two sents
left-append (response (mailbox_told m) ∷ one) two (sent ∷ sents) = left-append one two (with_line sent ∷ sents)
left-append (response (reserve_told m) ∷ one) two (sent ∷ sents) = left-append one two (with_line sent ∷ sents)

module _ (master : Master) (b : Server) (bytes : List ℕ) (tag : Tag) (it : MCommand) (line : SentLine) (comes : IsLineOf master b bytes tag it line) where
  is_reply : line_step master (Backend b) bytes ≡ replied master (Backend b) tag (reply_to master.table (Backend b) it)
  is_reply = line_is_reply master b bytes tag it line comes.read comes.is comes.no_stream

  steps : (n : Mailbox) → IsStep master.table b (reply_to master.table (Backend b) it) line (is_full_for master.table line) n
  steps n = each_command master.table comes.table b comes.name n tag it line comes.is

  pub record_one : (n : Mailbox) → known (line_step master (Backend b) bytes).master.table n ≡ (step_of master.table b line n).known
  unfolding replied
  record_one n = ap (λ (p : Planned). known p.master.table n) is_reply ∙ (steps n).now

  told_is : AreSpelled tag (answers_to master.table b it) → sent_to_by master b bytes b ≡ told_all (answers_to master.table b it)
  told_is spelled =
      ap (λ (p : Planned). flat_map told_in (lines_to b p.outs)) is_reply
      ∙ ap (λ ls. flat_map told_in ls) (lines_to_sender master b tag (reply_to master.table (Backend b) it) comes.no_stream)
      ∙ told_again tag (answers_to master.table b it) spelled

pub step_is_reply : StepIsReply
unfolding replied
step_is_reply master b bytes tag it line comes = (
  ap (λ (p : Planned). p.master.table) (is_reply master b bytes tag it line comes),
  ap (λ (p : Planned). lines_to b p.outs) (is_reply master b bytes tag it line comes)
      ∙ lines_to_sender master b tag (reply_to master.table (Backend b) it) comes.no_stream,
)

pub record_is_one : RecordIsOne
record_is_one master b bytes tag it line comes n = record_one master b bytes tag it line comes n

pub answers_are_one : AnswersAreOne
answers_are_one master b bytes tag it line comes spelled n granted sents rest queue first =
    ap (λ ms. downs_of n sents (queue ++ ms)) (told_is master b bytes tag it line comes spelled)
    ∙ downs-append n sents queue (told_all (answers_to master.table b it))
    ∙ ap (λ o. downs_of n sents queue ++ downs_of n o (told_all (answers_to master.table b it))) first
    ∙ ap (λ xs. downs_of n sents queue ++ xs) ((steps master b bytes tag it line comes n).says rest granted)

pub answers_take_off : AnswersTakeOff
answers_take_off master b bytes tag it line comes spelled sents rest queue first =
    ap (λ ms. left_of (queue ++ ms) sents) (told_is master b bytes tag it line comes spelled)
    ∙ left-append queue (told_all (answers_to master.table b it)) sents
    ∙ ap (λ o. left_of (told_all (answers_to master.table b it)) o) first
    ∙ (steps master b bytes tag it line comes []).left rest

pub others_hear_nothing : OthersHearNothing
others_hear_nothing master b q bytes tag it line comes ne none =
    ap (λ (p : Planned). flat_map told_in (lines_to q p.outs)) (is_reply master b bytes tag it line comes)
    ∙ ap (λ ls. flat_map told_in ls) (lines_to_other master b q tag (reply_to master.table (Backend b) it) ne none)

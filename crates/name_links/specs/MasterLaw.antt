-- The master's step, to each name, is `home_law`'s.
use Rattle.std.specs.Prelude.{◌≡◌, ◌≢◌, ℕ, false, List, [], ◌∷◌, ◌++◌, map, Some}
use Rattle.std.specs.List.{flat_map}
use Rattle.mupdate_codec.specs.declared.command.MCommand.{MCommand}
use Rattle.mupdate_codec.specs.declared.tag.Tag.{Tag}
use Rattle.node_record.specs.Table.{MailboxTable}
use Rattle.master_core.specs.declared.master.Master.{Master}
use Rattle.master_core.specs.declared.sender.Sender.TheVariants.{Backend}
use Rattle.mupdate_codec.specs.Whole.{command_in}
use Rattle.master_core.specs.Changes.{text_of}
use Rattle.master_core.specs.Replies.{reply_to}
use Rattle.master_core.specs.Step.{table_with, line_step}
use Rattle.master_core.specs.Streams.{is_stream}
use Rattle.home_law.specs.Items.{Server}
use Rattle.home_law.specs.ManyNames.{Mailbox, SentLine, BackMessage, downs_of, left_of}
use Rattle.name_links.specs.Known.{known}
use Rattle.name_links.specs.Lines.{backend_line, items_of, is_full_for, NameStep, answered}
use Rattle.name_links.specs.Answers.{HasNoBang, IsTable, lines_to, told_in, answers_to, AreSpelled, NoneRefused}

-- A backend's line comes to the master. Backends send no UPDATE, so that each line to one answers its own.
pub record IsLineOf (master : Master) (b : Server) (bytes : List ℕ) (tag : Tag) (it : MCommand) (line : SentLine) : Type 0 where
  pub read : command_in bytes ≡ Some (tag, it)
  pub is : backend_line b tag it ≡ Some line
  pub table : IsTable master.table
  pub name : HasNoBang b
  pub no_stream : is_stream master (Backend b) ≡ false

-- what the line is in the protocol of one name
abbrev pub step_of : MailboxTable → Server → SentLine → Mailbox → NameStep
step_of table b line n = answered (is_full_for table line) b (known table n) (items_of n line)

-- the lines for a backend
abbrev pub sent_to_by : Master → Server → List ℕ → Server → List BackMessage
sent_to_by master b bytes q = flat_map told_in (lines_to q (line_step master (Backend b) bytes).outs)

-- the table after the line, and the lines for the backend
abbrev pub StepIsReply : Type 0
StepIsReply = (master : Master) (b : Server) (bytes : List ℕ) (tag : Tag) (it : MCommand) (line : SentLine) → IsLineOf master b bytes tag it line
    → ((line_step master (Backend b) bytes).master.table ≡ table_with master.table (reply_to master.table (Backend b) it).entry)
    × (lines_to b (line_step master (Backend b) bytes).outs ≡ map (text_of tag) (answers_to master.table b it))

-- the record of each name
abbrev pub RecordIsOne : Type 0
RecordIsOne = (master : Master) (b : Server) (bytes : List ℕ) (tag : Tag) (it : MCommand) (line : SentLine) → IsLineOf master b bytes tag it line
    → (n : Mailbox) → known (line_step master (Backend b) bytes).master.table n ≡ (step_of master.table b line n).known

-- The answers, to each name, behind what stands on the link already; and the lines that wait for an answer then. What `home_law` never refuses is
-- not refused: a NO to another line is to no name anything.
abbrev pub AnswersAreOne : Type 0
AnswersAreOne = (master : Master) (b : Server) (bytes : List ℕ) (tag : Tag) (it : MCommand) (line : SentLine) → IsLineOf master b bytes tag it line
    → AreSpelled tag (answers_to master.table b it) → (n : Mailbox) → NoneRefused (step_of master.table b line n).says
    → (sents rest : List SentLine) (queue : List BackMessage) → left_of queue sents ≡ line ∷ rest
    → downs_of n sents (queue ++ sent_to_by master b bytes b) ≡ downs_of n sents queue ++ (step_of master.table b line n).says

abbrev pub AnswersTakeOff : Type 0
AnswersTakeOff = (master : Master) (b : Server) (bytes : List ℕ) (tag : Tag) (it : MCommand) (line : SentLine) → IsLineOf master b bytes tag it line
    → AreSpelled tag (answers_to master.table b it)
    → (sents rest : List SentLine) (queue : List BackMessage) → left_of queue sents ≡ line ∷ rest
    → left_of (queue ++ sent_to_by master b bytes b) sents ≡ rest

-- other backends are sent nothing
abbrev pub OthersHearNothing : Type 0
OthersHearNothing = (master : Master) (b q : Server) (bytes : List ℕ) (tag : Tag) (it : MCommand) (line : SentLine) → IsLineOf master b bytes tag it line
    → b ≢ q → is_stream master (Backend q) ≡ false → sent_to_by master b bytes q ≡ []

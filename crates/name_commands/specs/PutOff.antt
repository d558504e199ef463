-- What an ask that is refused is answered: its backend did nothing, and the command is asked anew or refused.
use Rattle.std.specs.Prelude.{◌≡◌, ℕ, List}
use Rattle.link_msg.specs.declared.answer.AnswerBody.{AnswerBody}
use Rattle.link_msg.specs.declared.answer.AnswerBody.TheVariants.{NotNow, Moved, Unreached}
use Rattle.node_record.specs.Held.{Names}
use Rattle.name_flows.specs.declared.ask.AskKind.{AskKind}
use Rattle.name_flows.specs.declared.ask.AskKind.TheVariants.{Delete}
use Rattle.name_flows.specs.declared.ask.NameAsk.{NameAsk}
use Rattle.name_flows.specs.declared.flows.Flows.{Flows}
use Rattle.name_flows.specs.Asked.{flow_for, refusal}
use Rattle.name_commands.specs.Moves.{asked_move, is_answered, is_kept, is_sent, Move, tested_move}

-- the name can't be served now, the master isn't reached, or the mailbox that is to be deleted has moved
pub data IsPutOff (master : List ℕ) (kind : AskKind) (body : AnswerBody) : Type 0 where
  not_now : body ≡ NotNow → IsPutOff master kind body
  unreached : body ≡ Unreached master → IsPutOff master kind body
  moved : (server : List ℕ) → kind ≡ Delete → body ≡ Moved server → IsPutOff master kind body

-- an ask is put off, or the line of its flow is sent
pub data IsTestedSo (master : List ℕ) (ask : NameAsk) (move : Move) : Type 0 where
  put_off : (body : AnswerBody) → move ≡ is_answered ask.front ask.id body → IsPutOff master ask.kind body → IsTestedSo master ask move
  sends_line : move ≡ is_sent ask.name (flow_for ask) → IsTestedSo master ask move

-- where it comes during a resync, it waits
pub data IsAskedSo (master : List ℕ) (ask : NameAsk) (move : Move) : Type 0 where
  is_tested_now : IsTestedSo master ask move → IsAskedSo master ask move
  is_kept_so : move ≡ is_kept ask → IsAskedSo master ask move

abbrev pub TestedMoves : Type 0
TestedMoves = (flows : Flows) (held : Names) (ask : NameAsk) → IsTestedSo flows.master ask (tested_move ask (refusal flows held ask.name ask.kind))

abbrev pub AskedMoves : Type 0
AskedMoves = (flows : Flows) (held : Names) (ask : NameAsk) → IsAskedSo flows.master ask (asked_move flows held ask)

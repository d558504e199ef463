-- Which names the tale has as moving behind a step, by the master's table; and the step that saw a command last, by whose table its frontend decides.
use Rattle.std.specs.Prelude.{◌≡◌, ℕ, Bool, List, Some}
use Rattle.link_msg.specs.declared.counts.Counts.TheVariants.{IfAnswered}
use Rattle.mark_history.specs.Marked.{last_mark}
use Rattle.mark_history.specs.declared.mark.Mark.{Mark}
use Rattle.mark_history.specs.declared.mark.MarkKind.TheVariants.{Home}
use Rattle.master_core.specs.Refusals.{is_reserved}
use Rattle.mur_base.specs.declared.point.AskId.{AskId}
use Rattle.node_record.specs.Table.{MailboxTable, record_at}

-- a mailbox is being moved where its name is reserved
abbrev pub MovesBy : (ℕ → List ℕ → Bool) → ℕ → MailboxTable → Type 0
MovesBy moving step table = (name : List ℕ) → moving step name ≡ is_reserved (record_at table name)

-- a step that had this table saw the command last
pub record IsSeenBy (moving : ℕ → List ℕ → Bool) (marks : List Mark) (id : AskId) (table : MailboxTable) : Type 0 where
  pub step : ℕ
  pub saw : last_mark id marks ≡ Some (record { step = step; ask = id; kind = Home IfAnswered })
  pub moves : MovesBy moving step table

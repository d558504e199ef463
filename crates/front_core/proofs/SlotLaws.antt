-- What bytes make of a connection is what they make of its frontend; an answer, the master's OK and the end of a link are nothing to a connection whose
-- command doesn't wait.
use Rattle.std.proofs.Common.{◌≡◌, ℕ, ◌+◌, ◌==◌, Bool, true, false, List, [], Some, refl, sym, ap, ◌∙◌}
use Rattle.std.specs.Ordering.{nat_cmp}
use Rattle.std.specs.BTreeMap.{is_at}
use Rattle.std.proofs.lemmas.Map.Steps.{set_value_same}
use Rattle.link_msg.specs.declared.answer.BackAnswer.{BackAnswer}
use Rattle.link_msg.specs.declared.out.Out.{Out}
use Rattle.mur_base.specs.declared.point.AskId.{AskId}
use Rattle.mur_base.specs.Map.{with_value}
use Rattle.mur_model.specs.declared.setting.Setting.{Setting}
use Rattle.front_core.specs.declared.connection.Connection.{Connection}
use Rattle.front_core.specs.declared.connection.Stage.{Stage}
use Rattle.front_core.specs.declared.connection.Stage.TheVariants.{Reading, Waits, Lists, Ended}
use Rattle.front_core.specs.declared.front.Front.{Front}
use Rattle.front_core.specs.Answered.{answer_by, answer_comes, end_by, end_comes, ok_by, ok_comes}
use Rattle.front_core.specs.Ended.{ended, released_at, with_released}
use Rattle.front_core.specs.Front.{Stepped, connection_at, bytes_at, bytes_by, bytes_in, front_bytes_at, ways_of}
use Rattle.front_core.specs.Slots.{new_connection}
use Rattle.front_core.specs.Stages.{stage_has_ended}
use Rattle.front_core.specs.Taken.{Turned, Ways}

-- the frontend with what became of one connection
abbrev with_kept : Front → ℕ → Turned → Stepped
with_kept front conn turned = record {
  front = record front { connections = with_value nat_cmp front.connections conn turned.connection };
  outs = turned.outs;
}

by_stage : (front : Front) (conn : ℕ) (bytes : List ℕ) (connection : Connection) (stage : Stage) → connection_at front conn ≡ Some connection
    → with_kept front conn (bytes_at front.setting (ways_of front) conn connection bytes (stage_has_ended stage)) ≡ bytes_by front conn bytes connection stage
unfolding bytes_at bytes_by stage_has_ended
by_stage front conn bytes connection Reading there = refl
by_stage front conn bytes connection (Waits tag it) there = refl
by_stage front conn bytes connection (Lists tag it) there = refl
by_stage front conn bytes connection Ended there =
    ap (λ connections. record { front = record front { connections = connections }; outs = [] })
    (set_value_same (is_at (nat_cmp conn)) front.connections connection there)

pub bytes_kept : (front : Front) (conn : ℕ) (bytes : List ℕ) (connection next : Connection) (outs : List Out) → connection_at front conn ≡ Some connection
    → record { connection = next; outs = outs } ≡ bytes_at front.setting (ways_of front) conn connection bytes (stage_has_ended connection.stage)
    → record { front = record front { connections = with_value nat_cmp front.connections conn next }; outs = outs } ≡ bytes_in front conn bytes
unfolding bytes_in front_bytes_at
bytes_kept front conn bytes connection next outs there is =
    ap (with_kept front conn) is ∙ by_stage front conn bytes connection connection.stage there ∙ sym (ap (front_bytes_at front conn bytes) there)

module _ (setting : Setting) (ways : Ways) (conn : ℕ) (answer : BackAnswer) where
  fresh_by : (fits : Bool) → with_released (answer_by setting ways conn new_connection answer fits Reading) ≡ record { connection = new_connection; outs = [] }
  unfolding answer_by new_connection released_at
  fresh_by true = refl
  fresh_by false = refl

  pub fresh_answer : with_released (answer_comes setting ways conn new_connection answer) ≡ record { connection = new_connection; outs = [] }
  unfolding answer_comes new_connection
  fresh_answer = fresh_by ((answer.id).command == 1)

  over_by : (answered : ℕ) (fits : Bool) → with_released (answer_by setting ways conn (ended answered) answer fits Ended) ≡ record { connection = ended answered; outs = [] }
  unfolding answer_by released_at
  over_by answered true = refl
  over_by answered false = refl

  pub over_answer : (answered : ℕ) → with_released (answer_comes setting ways conn (ended answered) answer) ≡ record { connection = ended answered; outs = [] }
  unfolding answer_comes
  over_answer answered = over_by answered ((answer.id).command == answered + 1)

module _ (setting : Setting) (ways : Ways) (conn : ℕ) (id : AskId) where
  fresh_ok_by : (fits : Bool) → with_released (ok_by setting ways conn new_connection fits Reading) ≡ record { connection = new_connection; outs = [] }
  unfolding ok_by new_connection released_at
  fresh_ok_by true = refl
  fresh_ok_by false = refl

  pub fresh_ok : with_released (ok_comes setting ways conn new_connection id) ≡ record { connection = new_connection; outs = [] }
  unfolding ok_comes new_connection
  fresh_ok = fresh_ok_by (id.command == 1)

  over_ok_by : (answered : ℕ) (fits : Bool) → with_released (ok_by setting ways conn (ended answered) fits Ended) ≡ record { connection = ended answered; outs = [] }
  unfolding ok_by released_at
  over_ok_by answered true = refl
  over_ok_by answered false = refl

  pub over_ok : (answered : ℕ) → with_released (ok_comes setting ways conn (ended answered) id) ≡ record { connection = ended answered; outs = [] }
  unfolding ok_comes
  over_ok answered = over_ok_by answered (id.command == answered + 1)

module _ (setting : Setting) (ways : Ways) (conn : ℕ) where
  pub fresh_end : with_released (end_comes setting ways conn new_connection) ≡ record { connection = new_connection; outs = [] }
  unfolding end_by new_connection released_at
  fresh_end = refl

  pub over_end : (answered : ℕ) → with_released (end_comes setting ways conn (ended answered)) ≡ record { connection = ended answered; outs = [] }
  unfolding end_by released_at
  over_end answered = refl

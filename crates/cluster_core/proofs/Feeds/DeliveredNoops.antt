-- What a frontend sends the master as it takes a message, of its whole step.
use Rattle.std.proofs.Common.{◌≡◌, ℕ, ◌<◌, ◌^◌, nat_eq, Bool, true, false, List, Option, None, Some, refl}
use Rattle.std.specs.Cmp.Lexicographic.{pointwise}
use Rattle.ask_routes.specs.Barrier.{barrier_answered}
use Rattle.feed_links.specs.Lines.{messages_to}
use Rattle.feed_links.specs.OneFeed.{AreNoops}
use Rattle.front_core.specs.declared.connection.Connection.{Connection}
use Rattle.front_core.specs.declared.front.Front.{Front}
use Rattle.front_core.specs.Front.{answer_at, answer_from, connection_at, deliver, line_by, line_from, ok_at, waits_for, ways_of}
use Rattle.link_msg.specs.declared.answer.BackAnswer.{BackAnswer}
use Rattle.link_msg.specs.declared.message.LinkMsg.TheVariants.{Line, Answer}
use Rattle.mur_base.specs.declared.point.AskId.{AskId}
use Rattle.cluster_core.proofs.Feeds.AnsweredNoops.{HasRoomAt, IsWellAnswer, answer_well, ok_well}
use Rattle.cluster_core.proofs.Feeds.Noops.{AreApart, AreWellSent, well_sent_noops}

-- the connections of a frontend have 64-bit numbers, and numbers left for the commands that wait
pub record HasNumbers (front : Front) (conn : ℕ) : Type 0 where
  pub fits : conn < 2 ^ 64
  pub room : (connection : Connection) → connection_at front conn ≡ Some connection → HasRoomAt connection connection.stage

module _ (front : Front) (apart : AreApart (ways_of front)) where
  answer_at_well : (it : BackAnswer) (found : Option Connection) → connection_at front (it.id).conn ≡ found → HasNumbers front (it.id).conn
      → IsWellAnswer front.master it.body → AreWellSent front.master (answer_at front it found).outs
  unfolding answer_at
  answer_at_well it None at has well = tt
  answer_at_well it (Some connection) at has well =
      answer_well front.setting (ways_of front) apart (it.id).conn has.fits connection it (has.room connection at) well

  answer_from_well : (it : BackAnswer) (asked : Bool) → HasNumbers front (it.id).conn → IsWellAnswer front.master it.body
      → AreWellSent front.master (answer_from asked front it).outs
  unfolding answer_from
  answer_from_well it true has well = answer_at_well it (connection_at front (it.id).conn) refl has well
  answer_from_well it false has well = tt

  -- an answer
  pub answer_noops : (from : List ℕ) (it : BackAnswer) → HasNumbers front (it.id).conn → IsWellAnswer front.master it.body
      → AreNoops (messages_to front.master (deliver front from (Answer it)).outs)
  unfolding deliver
  answer_noops from it has well =
      well_sent_noops front.master (deliver front from (Answer it)).outs (answer_from_well it (waits_for (connection_at front (it.id).conn) from) has well)

  ok_at_well : (id : AskId) (found : Option Connection) → connection_at front id.conn ≡ found → HasNumbers front id.conn
      → AreWellSent front.master (ok_at front id found).outs
  unfolding ok_at
  ok_at_well id None at has = tt
  ok_at_well id (Some connection) at has = ok_well front.setting (ways_of front) apart id.conn has.fits connection id (has.room connection at)

  line_by_well : (bytes : List ℕ) (found : Option AskId) → ((id : AskId) → found ≡ Some id → HasNumbers front id.conn)
      → AreWellSent front.master (line_by front bytes found).outs
  line_by_well bytes None has = tt
  line_by_well bytes (Some id) has = ok_at_well id (connection_at front id.conn) refl (has id refl)

  line_from_well : (bytes : List ℕ) (same : Bool) → ((id : AskId) → barrier_answered bytes ≡ Some id → HasNumbers front id.conn)
      → AreWellSent front.master (line_from same front bytes).outs
  unfolding line_from
  line_from_well bytes true has = line_by_well bytes (barrier_answered bytes) has
  line_from_well bytes false has = tt

  -- a line
  pub line_noops : (from bytes : List ℕ) → ((id : AskId) → barrier_answered bytes ≡ Some id → HasNumbers front id.conn)
      → AreNoops (messages_to front.master (deliver front from (Line bytes)).outs)
  unfolding deliver
  line_noops from bytes has =
      well_sent_noops front.master (deliver front from (Line bytes)).outs (line_from_well bytes (pointwise nat_eq from front.master) has)

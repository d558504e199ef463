-- A connection that has ended stays so, whatever comes to its frontend.
use Rattle.std.proofs.Common.{◌≡◌, ◌≢◌, ◌==◌, ◌+◌, ℕ, nat_eq, Bool, true, false, List, Option, None, Some, refl, sym, ◌∙◌, ap, subst}
use Rattle.std.specs.Ordering.{nat_cmp}
use Rattle.std.specs.Cmp.Lexicographic.{pointwise}
use Rattle.std.proofs.Math.Logic.{⊎_elim}
use Rattle.ask_routes.specs.Barrier.{barrier_answered}
use Rattle.front_core.specs.Answered.{answer_comes, ok_by, ok_comes}
use Rattle.front_core.specs.Ended.{released, released_at}
use Rattle.front_core.specs.Front.{answer_at, answer_from, bytes_by, bytes_in, connect, connect_at, connection_at, deliver, end_from, front_bytes_at, front_hang_at}
use Rattle.front_core.specs.Front.{hang, having_read, hung_up, line_by, line_from, ok_at, up_from, waits_for, ways_of, with_turned, with_up, without_up}
use Rattle.front_core.specs.Reading.{inputs_of_more}
use Rattle.front_core.specs.Slots.{new_connection}
use Rattle.front_core.specs.Stages.{has_asked}
use Rattle.front_core.specs.Taken.{Turned, inputs_come}
use Rattle.front_core.specs.declared.connection.Connection.{Connection}
use Rattle.front_core.specs.declared.connection.Stage.{Stage}
use Rattle.front_core.specs.declared.connection.Stage.TheVariants.{Reading, Waits, Lists, Ended}
use Rattle.front_core.specs.declared.front.Front.{Front}
use Rattle.link_msg.specs.declared.answer.BackAnswer.{BackAnswer}
use Rattle.link_msg.specs.declared.message.LinkMsg.{LinkMsg}
use Rattle.link_msg.specs.declared.message.LinkMsg.TheVariants.{Up, End, Line, Ask, Answer}
use Rattle.mur_base.proofs.MapLaws.{numbers_apart, same_or_other, value_at-with_entry-other, value_at-with_value, value_at-with_value-other}
use Rattle.mur_base.specs.declared.point.AskId.{AskId}
use Rattle.node_step.specs.NodeStep.{as_front, front_takes}
use Rattle.node_step.specs.declared.input.NodeInput.{NodeInput}
use Rattle.node_step.specs.declared.input.NodeInput.TheVariants.{Opened, Piece, Hung, From}
use Rattle.cluster_core.proofs.Asking.LinkEnds.{EndsOrGoes, goes_on, has_ended, link_ends, stays}

same_connection : {one other : Connection} → Some one ≡ Some other → one ≡ other
same_connection e = cc

same_front : {one other : Front} → Some one ≡ Some other → one ≡ other
same_front e = cc

released_end : (connection : Connection) → connection.stage ≡ Ended → (released connection).stage ≡ Ended
unfolding released_at
released_end connection ended = ap (λ s. (released_at connection s).stage) ended

not_asked : (stage : Stage) (node : List ℕ) → stage ≡ Ended → has_asked stage node ≡ true → ⊥
unfolding has_asked
not_asked stage node ended asked = (let no : false ≡ true = sym (ap (λ s. has_asked s node) ended) ∙ asked in cc)

module _ (front : Front) (conn : ℕ) (c : Connection) (there : connection_at front conn ≡ Some c) (ended : c.stage ≡ Ended) where
  abbrev pub StaysEnded : Front → Type 0
  StaysEnded now = (later : Connection) → connection_at now conn ≡ Some later → later.stage ≡ Ended

  kept : (now : Front) → connection_at now conn ≡ connection_at front conn → StaysEnded now
  kept now same later at = ap (λ (d : Connection). d.stage) (same_connection (sym at ∙ same ∙ there)) ∙ ended

  its : (other : ℕ) (found : Connection) → connection_at front other ≡ Some found → conn ≡ other → found ≡ c
  its other found at e = same_connection (sym at ∙ ap (connection_at front) (sym e) ∙ there)

  its_stage : (other : ℕ) (found : Connection) → connection_at front other ≡ Some found → conn ≡ other → found.stage ≡ Ended
  its_stage other found at e = ap (λ (d : Connection). d.stage) (its other found at e) ∙ ended

  changed : (other : ℕ) (found now : Connection) (next : Front) → connection_at front other ≡ Some found → connection_at next other ≡ Some now
      → (conn ≢ other → connection_at next conn ≡ connection_at front conn) → (found.stage ≡ Ended → now.stage ≡ Ended) → StaysEnded next
  changed other found now next at own else still later there_then = ⊎_elim
      (λ (e : conn ≡ other).
      ap (λ (d : Connection). d.stage) (same_connection (sym there_then ∙ ap (connection_at next) e ∙ own)) ∙ still (its_stage other found at e))
      (λ (ne : conn ≢ other). kept next (else ne) later there_then)
      (same_or_other nat_cmp numbers_apart conn other)

  a_turn : (other : ℕ) (found : Connection) → connection_at front other ≡ Some found → (turned : Turned) → (found.stage ≡ Ended → turned.connection.stage ≡ Ended)
      → StaysEnded (with_turned front other turned).front
  a_turn other found at turned still =
      changed other found (released turned.connection) (with_turned front other turned).front at
      (value_at-with_value nat_cmp numbers_apart front.connections other (released turned.connection) found at)
      (λ ne. value_at-with_value-other nat_cmp numbers_apart front.connections other conn (released turned.connection) ne)
      (λ e. released_end turned.connection (still e))

  connect_by : (other : ℕ) (found : Option Connection) → connection_at front other ≡ found → StaysEnded (connect_at front other found).front
  unfolding connect_at
  connect_by other (Some before) at = kept front refl
  connect_by other None at =
      kept (connect_at front other None).front
      (value_at-with_entry-other nat_cmp numbers_apart front.connections other conn new_connection
      (λ e. (let no : None ≡ Some c = sym at ∙ ap (connection_at front) (sym e) ∙ there in cc)))

  read_so : (other : ℕ) (bytes : List ℕ) (found : Connection) → connection_at front other ≡ Some found → found.stage ≢ Ended
      → StaysEnded (with_turned front other
      (inputs_come front.setting (ways_of front) other (having_read front.setting found bytes) (inputs_of_more front.setting found.reader bytes))).front
  read_so other bytes found at lasts =
      a_turn other found at
      (inputs_come front.setting (ways_of front) other (having_read front.setting found bytes) (inputs_of_more front.setting found.reader bytes))
      (λ e. absurd (lasts e))

  bytes_by_so : (other : ℕ) (bytes : List ℕ) (found : Connection) (stage : Stage) → found.stage ≡ stage → connection_at front other ≡ Some found
      → StaysEnded (bytes_by front other bytes found stage).front
  unfolding bytes_by
  bytes_by_so other bytes found Ended is at = kept front refl
  bytes_by_so other bytes found Reading is at = read_so other bytes found at (λ e. (let no : Reading ≡ Ended = sym is ∙ e in cc))
  bytes_by_so other bytes found (Waits tag it) is at = read_so other bytes found at (λ e. (let no : Waits tag it ≡ Ended = sym is ∙ e in cc))
  bytes_by_so other bytes found (Lists tag it) is at = read_so other bytes found at (λ e. (let no : Lists tag it ≡ Ended = sym is ∙ e in cc))

  bytes_at_so : (other : ℕ) (bytes : List ℕ) (found : Option Connection) → connection_at front other ≡ found → StaysEnded (front_bytes_at front other bytes found).front
  unfolding front_bytes_at
  bytes_at_so other bytes None at = kept front refl
  bytes_at_so other bytes (Some found) at = bytes_by_so other bytes found found.stage refl at

  hang_by : (other : ℕ) (found : Option Connection) → connection_at front other ≡ found → StaysEnded (front_hang_at front other found)
  unfolding front_hang_at
  hang_by other None at = kept front refl
  hang_by other (Some found) at =
      changed other found (hung_up found) (front_hang_at front other (Some found)) at
      (value_at-with_value nat_cmp numbers_apart front.connections other (hung_up found) found at)
      (λ ne. value_at-with_value-other nat_cmp numbers_apart front.connections other conn (hung_up found) ne)
      (λ e. refl)

  answer_at_so : (from : List ℕ) (answer : BackAnswer) (found : Option Connection) → waits_for found from ≡ true → connection_at front (answer.id).conn ≡ found
      → StaysEnded (answer_at front answer found).front
  unfolding answer_at waits_for
  answer_at_so from answer None waits at = kept front refl
  answer_at_so from answer (Some found) waits at =
      a_turn (answer.id).conn found at (answer_comes front.setting (ways_of front) (answer.id).conn found answer)
      (λ e. absurd (not_asked found.stage from e waits))

  answer_so : (from : List ℕ) (answer : BackAnswer) (is_its : Bool) → waits_for (connection_at front (answer.id).conn) from ≡ is_its
      → StaysEnded (answer_from is_its front answer).front
  unfolding answer_from
  answer_so from answer true e = answer_at_so from answer (connection_at front (answer.id).conn) e refl
  answer_so from answer false e = kept front refl

  up_so : (from : List ℕ) (is_master : Bool) → StaysEnded (up_from is_master (with_up front from)).front
  unfolding up_from
  up_so from true = kept (up_from true (with_up front from)).front refl
  up_so from false = kept (up_from false (with_up front from)).front refl

  ok_still : (other : ℕ) (found : Connection) (fits : Bool) (stage : Stage) → found.stage ≡ stage → stage ≡ Ended
      → (ok_by front.setting (ways_of front) other found fits stage).connection.stage ≡ Ended
  unfolding ok_by
  ok_still other found true Ended is e = is
  ok_still other found false Ended is e = is
  ok_still other found fits Reading is e = cc
  ok_still other found fits (Waits tag it) is e = cc
  ok_still other found fits (Lists tag it) is e = cc

  ok_comes_still : (other : ℕ) (found : Connection) (id : AskId) → found.stage ≡ Ended
      → (ok_comes front.setting (ways_of front) other found id).connection.stage ≡ Ended
  unfolding ok_comes
  ok_comes_still other found id e = ok_still other found (id.command == found.answered + 1) found.stage refl e

  ok_at_so : (id : AskId) (found : Option Connection) → connection_at front id.conn ≡ found → StaysEnded (ok_at front id found).front
  unfolding ok_at
  ok_at_so id None at = kept front refl
  ok_at_so id (Some found) at = a_turn id.conn found at (ok_comes front.setting (ways_of front) id.conn found id) (ok_comes_still id.conn found id)

  line_by_so : (bytes : List ℕ) (found : Option AskId) → StaysEnded (line_by front bytes found).front
  line_by_so bytes None = kept (line_by front bytes None).front refl
  line_by_so bytes (Some id) = ok_at_so id (connection_at front id.conn) refl

  line_so : (bytes : List ℕ) (is_master : Bool) → StaysEnded (line_from is_master front bytes).front
  unfolding line_from
  line_so bytes true = line_by_so bytes (barrier_answered bytes)
  line_so bytes false = kept front refl

  end_so : (from : List ℕ) → EndsOrGoes from (connection_at front conn) (connection_at (end_from (without_up front from) from).front conn)
      → StaysEnded (end_from (without_up front from) from).front
  end_so from (stays same) = kept (end_from (without_up front from) from).front same
  end_so from (has_ended b d was asked is stage count) = λ later at. ap (λ (x : Connection). x.stage) (same_connection (sym at ∙ is)) ∙ stage
  end_so from (goes_on b d was lasts is more) =
      absurd (lasts (ap (λ (x : Connection). x.stage) (same_connection (sym was ∙ there)) ∙ ended))

  message_so : (from : List ℕ) (message : LinkMsg) → StaysEnded (deliver front from message).front
  unfolding deliver
  message_so from (Answer answer) = answer_so from answer (waits_for (connection_at front (answer.id).conn) from) refl
  message_so from Up = up_so from (pointwise nat_eq from front.master)
  message_so from End = end_so from (link_ends front from conn)
  message_so from (Line line) = line_so line (pointwise nat_eq from front.master)
  message_so from (Ask ask) = kept front refl

  pub front_stays : (input : NodeInput) (now : Front) → as_front (Some (front_takes front input).state) ≡ Some now → StaysEnded now
  unfolding front_takes as_front connect bytes_in hang
  front_stays (Opened other) now is = subst StaysEnded (same_front is) (connect_by other (connection_at front other) refl)
  front_stays (Piece other bytes) now is = subst StaysEnded (same_front is) (bytes_at_so other bytes (connection_at front other) refl)
  front_stays (Hung other) now is = subst StaysEnded (same_front is) (hang_by other (connection_at front other) refl)
  front_stays (From name message) now is = subst StaysEnded (same_front is) (message_so name message)

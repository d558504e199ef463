-- The link from a node to a frontend ends. Each connection is as it was; or its command waited for the answer of that node, and it has ended; or its command
-- waited for something else from there, the master's OK, and a command more was answered.
use Rattle.std.proofs.Common.{◌≡◌, ◌≢◌, ℕ, ◌+◌, ◌≤◌, Bool, true, false, List, [], ◌∷◌, Option, None, Some, refl, sym, ◌∙◌, ap, arith}
use Rattle.std.proofs.Math.Logic.{⊎_elim}
use Rattle.std.specs.Map.{keys_of}
use Rattle.std.specs.Ordering.{nat_cmp}
use Rattle.asking_core.specs.declared.waiting.At.{At}
use Rattle.asking_core.specs.declared.waiting.At.TheVariants.{Home, Barrier}
use Rattle.asking_core.specs.declared.waiting.Waiting.{Waiting}
use Rattle.front_core.specs.Answered.{end_by, end_comes, ends_at, reading_again, refused_behind}
use Rattle.front_core.specs.Ended.{released, released_at}
use Rattle.front_core.specs.Front.{all_end, awaited, connection_at, end_at, end_from, end_if, one_ends, ways_of, with_turned, without_up}
use Rattle.front_core.specs.Stages.{asks_at, awaits, has_asked, waits_at}
use Rattle.front_core.specs.Taken.{Turned}
use Rattle.front_core.specs.declared.connection.Connection.{Connection}
use Rattle.front_core.specs.declared.connection.Stage.{Stage}
use Rattle.front_core.specs.declared.connection.Stage.TheVariants.{Reading, Waits, Lists, Ended}
use Rattle.front_core.specs.declared.front.Front.{Front}
use Rattle.imap_types.specs.declared.command.Tag.{Tag}
use Rattle.mur_base.proofs.MapLaws.{numbers_apart, same_or_other, value_at-with_value, value_at-with_value-other}
use Rattle.session_core.specs.Relocated.{Refused}
use Rattle.cluster_core.proofs.Asking.Asked.{inputs_so}

-- a connection then
pub data EndsOrGoes (node : List ℕ) (was now : Option Connection) : Type 0 where
  stays : now ≡ was → EndsOrGoes node was now
  has_ended : (b c : Connection) → was ≡ Some b → has_asked b.stage node ≡ true → now ≡ Some c → c.stage ≡ Ended → c.answered ≡ b.answered
      → EndsOrGoes node was now
  goes_on : (b c : Connection) → was ≡ Some b → b.stage ≢ Ended → now ≡ Some c → b.answered + 1 ≤ c.answered → EndsOrGoes node was now

same_connection : {one other : Connection} → Some one ≡ Some other → one ≡ other
same_connection e = cc

not_ended : (node : List ℕ) (stage : Stage) → has_asked stage node ≡ true → stage ≢ Ended
unfolding has_asked
not_ended node stage asked ended = (let no : false ≡ true = sym (ap (λ s. has_asked s node) ended) ∙ asked in cc)

then_so : (node : List ℕ) (one two three : Option Connection) → EndsOrGoes node one two → EndsOrGoes node two three → EndsOrGoes node one three
then_so node one two three (stays same) (stays again) = stays (again ∙ same)
then_so node one two three (stays same) (has_ended b c was asked is stage count) = has_ended b c (sym same ∙ was) asked is stage count
then_so node one two three (stays same) (goes_on b c was lasts is more) = goes_on b c (sym same ∙ was) lasts is more
then_so node one two three (has_ended b c was asked is stage count) (stays again) = has_ended b c was asked (again ∙ is) stage count
then_so node one two three (has_ended b c was asked is stage count) (has_ended d e was_then asked_then is_then stage_then count_then) =
    let its : c ≡ d = same_connection (sym is ∙ was_then) in
    absurd (not_ended node d.stage asked_then (sym (ap (λ (x : Connection). x.stage) its) ∙ stage))
then_so node one two three (has_ended b c was asked is stage count) (goes_on d e was_then lasts is_then more) =
    let its : c ≡ d = same_connection (sym is ∙ was_then) in
    absurd (lasts (sym (ap (λ (x : Connection). x.stage) its) ∙ stage))
then_so node one two three (goes_on b c was lasts is more) (stays again) = goes_on b c was lasts (again ∙ is) more
then_so node one two three (goes_on b c was lasts is more) (has_ended d e was_then asked is_then stage count) =
    let its : c ≡ d = same_connection (sym is ∙ was_then) in
    goes_on b e was lasts is_then (omega (arith, more, count, ap (λ (x : Connection). x.answered) its))
then_so node one two three (goes_on b c was lasts is more) (goes_on d e was_then open_then is_then more_then) =
    let its : c ≡ d = same_connection (sym is ∙ was_then) in
    goes_on b e was lasts is_then (omega (arith, more, more_then, ap (λ (x : Connection). x.answered) its))

-- ---- one connection

released_count : (connection : Connection) (stage : Stage) → (released_at connection stage).answered ≡ connection.answered
unfolding released_at
released_count connection Reading = refl
released_count connection (Waits tag it) = refl
released_count connection (Lists tag it) = refl
released_count connection Ended = refl

released_end : (connection : Connection) → (released_at connection Ended).stage ≡ Ended
unfolding released_at
released_end connection = refl

-- what became of it
data TurnsSo (node : List ℕ) (c : Connection) (turned : Turned) : Type 0 where
  ends : has_asked c.stage node ≡ true → turned.connection.stage ≡ Ended → turned.connection.answered ≡ c.answered → TurnsSo node c turned
  reads_on : c.stage ≢ Ended → c.answered + 1 ≤ turned.connection.answered → TurnsSo node c turned

module _ (front : Front) (node : List ℕ) (conn : ℕ) (c : Connection) where
  refused_so : (tag : Tag) (refused : Refused) → c.stage ≢ Ended
      → TurnsSo node c (refused_behind front.setting (ways_of front) conn c tag refused front.master)
  refused_so tag refused lasts =
      let session : Connection = record c { session = refused.session } in
      reads_on lasts (omega (arith, (inputs_so (ways_of front) conn front.setting (reading_again session) c.waiting refl).more))

  at_so : (tag : Tag) (it : Waiting) (at : At) → c.stage ≡ Waits tag it → it.at ≡ at → waits_at front.master at node ≡ true
      → TurnsSo node c (ends_at front.setting (ways_of front) conn c tag it at)
  unfolding has_asked
  at_so tag it (Home server) is same waits = ends (ap (λ s. has_asked s node) is ∙ ap (λ a. asks_at a node) same ∙ waits) refl refl
  at_so tag it (Barrier why) is same waits = refused_so tag _ (λ ended. (let no : Waits tag it ≡ Ended = sym is ∙ ended in cc))

  by_stage : (stage : Stage) → c.stage ≡ stage → awaits front.master stage node ≡ true → TurnsSo node c (end_by front.setting (ways_of front) conn c stage)
  unfolding awaits end_by
  by_stage Reading is waits = cc
  by_stage (Waits tag it) is waits = at_so tag it it.at is refl waits
  by_stage (Lists tag it) is waits = refused_so tag _ (λ ended. (let no : Lists tag it ≡ Ended = sym is ∙ ended in cc))
  by_stage Ended is waits = cc

  module _ (turned : Turned) (there : connection_at front conn ≡ Some c) where
    abbrev now : Front
    now = (with_turned front conn turned).front

    its : connection_at now conn ≡ Some (released turned.connection)
    its = value_at-with_value nat_cmp numbers_apart front.connections conn (released turned.connection) c there

    own_so : TurnsSo node c turned → (other : ℕ) → other ≡ conn → EndsOrGoes node (connection_at front other) (connection_at now other)
    own_so (ends asked ended count) other e =
        has_ended c (released turned.connection) (ap (connection_at front) e ∙ there) asked (ap (connection_at now) e ∙ its)
        (ap (λ s. (released_at turned.connection s).stage) ended ∙ released_end turned.connection)
        (released_count turned.connection turned.connection.stage ∙ count)
    own_so (reads_on lasts more) other e =
        goes_on c (released turned.connection) (ap (connection_at front) e ∙ there) lasts (ap (connection_at now) e ∙ its)
        (omega (arith, more, released_count turned.connection turned.connection.stage))

    turned_so : TurnsSo node c turned → (other : ℕ) → EndsOrGoes node (connection_at front other) (connection_at now other)
    turned_so so other = ⊎_elim
        (λ (e : other ≡ conn). own_so so other e)
        (λ (ne : other ≢ conn). stays (value_at-with_value-other nat_cmp numbers_apart front.connections conn other (released turned.connection) ne))
        (same_or_other nat_cmp numbers_apart other conn)

-- ---- all of them

abbrev AllGo : List ℕ → Front → Front → Type 0
AllGo node was now = (other : ℕ) → EndsOrGoes node (connection_at was other) (connection_at now other)

module _ (front : Front) (node : List ℕ) (conn : ℕ) where
  found_goes : (found : Option Connection) → connection_at front conn ≡ found → awaited front.master found node ≡ true → AllGo node front (end_at front conn found).front
  unfolding end_at awaited
  found_goes None there waits = λ other. stays refl
  found_goes (Some c) there waits =
      turned_so front node conn c (end_comes front.setting (ways_of front) conn c) there
      (by_stage front node conn c c.stage refl waits)

  if_goes : (waits : Bool) → awaited front.master (connection_at front conn) node ≡ waits → AllGo node front (end_if waits front conn).front
  if_goes true e = found_goes (connection_at front conn) refl e
  if_goes false e = λ other. stays refl

all_go : (front : Front) (node : List ℕ) (conns : List ℕ) → AllGo node front (all_end front node conns).front
unfolding all_end
all_go front node [] = λ other. stays refl
all_go front node (conn ∷ conns) = λ other.
    then_so node _ _ _ (if_goes front node conn (awaited front.master (connection_at front conn) node) refl other)
    (all_go (one_ends front node conn).front node conns other)

-- A LINK ENDS
pub link_ends : (front : Front) (node : List ℕ) (conn : ℕ)
    → EndsOrGoes node (connection_at front conn) (connection_at (end_from (without_up front node) node).front conn)
link_ends front node conn = all_go (without_up front node) node (keys_of front.connections) conn

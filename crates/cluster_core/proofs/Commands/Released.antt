-- A connection stands as it did when what it held is let go, since it has ended; only the last answer of a connection may end it; and a command that waits
-- is the next to be answered.
use Rattle.std.proofs.Common.{◌≡◌, ℕ, List, Option, inl, refl, sym, ap, subst}
use Rattle.front_core.specs.Ending.{EndsOnlyLast}
use Rattle.front_core.specs.Reading.{Reading as Read}
use Rattle.front_core.proofs.OneConnection.LastAnswer.{all_go_on, ends_last, none_ends}
use Rattle.front_core.specs.declared.connection.Connection.{Connection}
use Rattle.front_core.specs.declared.connection.Stage.{Stage}
use Rattle.front_core.specs.declared.connection.Stage.TheVariants.{Reading, Waits, Lists, Ended}
use Rattle.front_core.specs.Ended.{released, released_at}
use Rattle.imap_talk.specs.declared.inputs.Input.{Input}
use Rattle.imap_types.specs.declared.request.Answer.{Answer}
use Rattle.mur_model.specs.declared.session.Sess.{Sess}
use Rattle.cluster_core.proofs.Commands.Place.{Place}
use Rattle.cluster_core.proofs.Commands.Standing.{Fixed, HasBegunSo, IsNext, Stands, Waiting}
use Rattle.cluster_core.proofs.Commands.Standing.Stands.{reads, waits, lists, faulted, finished}

count_by : (connection : Connection) (stage : Stage) → (released_at connection stage).answered ≡ connection.answered
unfolding released_at
count_by connection Reading = refl
count_by connection (Waits tag it) = refl
count_by connection (Lists tag it) = refl
count_by connection Ended = refl

pub released_count : (connection : Connection) → (released connection).answered ≡ connection.answered
released_count connection = count_by connection connection.stage

begun_by : (connection : Connection) (reading : Read) (stage : Stage) → HasBegunSo connection reading → HasBegunSo (released_at connection stage) reading
unfolding released_at
begun_by connection reading Reading is = is
begun_by connection reading (Waits tag it) is = is
begun_by connection reading (Lists tag it) is = is
begun_by connection reading Ended is = inl refl

pub begun_released : (connection : Connection) (reading : Read) → HasBegunSo connection reading → HasBegunSo (released connection) reading
begun_released connection reading is = begun_by connection reading connection.stage is

pub stands_released : (fixed : Fixed) (front : List ℕ) (conn : ℕ) (all : List Input) (held : Option (List ℕ)) (connection : Connection)
    (told said : List Answer) (session : Sess) (here : Place) → Stands fixed front conn all held connection told said session here
    → Stands fixed front conn all held (released connection) told said session here
unfolding released_at
stands_released fixed front conn all held connection told said session here (reads stage waiting s lasts answered same none) =
    subst (λ c. Stands fixed front conn all held c told said session here) (sym (ap (released_at connection) stage))
    (reads stage waiting s lasts answered same none)
stands_released fixed front conn all held connection told said session here (waits waiting) =
    subst (λ c. Stands fixed front conn all held c told said session here) (sym (ap (released_at connection) waiting.stage)) (waits waiting)
stands_released fixed front conn all held connection told said session here (lists waiting) =
    subst (λ c. Stands fixed front conn all held c told said session here) (sym (ap (released_at connection) waiting.stage)) (lists waiting)
stands_released fixed front conn all held connection told said session here (faulted stage none lengths same lasts at) =
    subst (λ c. Stands fixed front conn all held c told said session here) (sym (ap (released_at connection) stage))
    (faulted refl none lengths same lasts at)
stands_released fixed front conn all held connection told said session here
    (finished passed more request before final stage parts answered is_told is_end same at) =
    subst (λ c. Stands fixed front conn all held c told said session here) (sym (ap (released_at connection) stage))
    (finished passed more request before final refl parts answered is_told is_end same at)

pub stands_last : (fixed : Fixed) (front : List ℕ) (conn : ℕ) (all : List Input) (held : Option (List ℕ)) (connection : Connection)
    (told said : List Answer) (session : Sess) (here : Place) → Stands fixed front conn all held connection told said session here → EndsOnlyLast told
stands_last fixed front conn all held connection told said session here (reads a b c d e f none) = all_go_on all told e
stands_last fixed front conn all held connection told said session here (waits waiting) = all_go_on waiting.passed told waiting.answered
stands_last fixed front conn all held connection told said session here (lists waiting) =
    all_go_on waiting.next.passed told waiting.next.answered
stands_last fixed front conn all held connection told said session here (faulted a b c d e none) = e
stands_last fixed front conn all held connection told said session here (finished passed more request before last a b c d e f none) =
    subst EndsOnlyLast (sym d) (ends_last before last (none_ends passed before c))

pub waits_next : (fixed : Fixed) (front : List ℕ) (conn : ℕ) (all : List Input) (held : Option (List ℕ)) (connection : Connection)
    (told said : List Answer) (session : Sess) (here : Place) (waiting : Waiting fixed front conn all held connection told said session here)
    → IsNext all held connection told waiting.tag (waiting.c).it
waits_next fixed front conn all held connection told said session here waiting = record {
  passed = waiting.passed;
  request = waiting.request;
  parts = waiting.parts;
  answered = waiting.answered;
  is = waiting.is;
  last = waiting.last;
}

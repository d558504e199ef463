-- What can be taken back of a connection still can where what it held is let go, since it has ended: then no OK is on its way to it.
use Rattle.std.proofs.Common.{ℕ, List, Option, sym, ap, subst}
use Rattle.front_core.specs.declared.connection.Connection.{Connection}
use Rattle.front_core.specs.Ended.{released, released_at}
use Rattle.imap_talk.specs.declared.inputs.Input.{Input}
use Rattle.imap_types.specs.declared.request.Answer.{Answer}
use Rattle.mark_history.specs.Marked.{Tale}
use Rattle.mur_model.specs.declared.session.Sess.{Sess}
use Rattle.cluster_core.proofs.Commands.Place.{Place}
use Rattle.cluster_core.proofs.Commands.Standing.{Fixed, Stands}
use Rattle.cluster_core.proofs.Commands.Standing.Stands.{reads, waits, lists, faulted, finished}
use Rattle.cluster_core.proofs.Connections.ConnectionLaw.{CanRestore}

pub restores_released : (fixed : Fixed) (front : List ℕ) (conn : ℕ) (all : List Input) (held : Option (List ℕ)) (connection : Connection)
    (told said : List Answer) (session : Sess) (story : Tale) (here : Place) → Stands fixed front conn all held connection told said session here
    → CanRestore story conn connection here → CanRestore story conn (released connection) here
unfolding released_at
restores_released fixed front conn all held connection told said session story here (reads stage waiting s lasts answered same none) is =
    subst (λ c. CanRestore story conn c here) (sym (ap (released_at connection) stage)) is
restores_released fixed front conn all held connection told said session story here (waits waiting) is =
    subst (λ c. CanRestore story conn c here) (sym (ap (released_at connection) waiting.stage)) is
restores_released fixed front conn all held connection told said session story here (lists waiting) is =
    subst (λ c. CanRestore story conn c here) (sym (ap (released_at connection) waiting.stage)) is
restores_released fixed front conn all held connection told said session story here (faulted stage none lengths same lasts at) is =
    subst (λ h. CanRestore story conn (released connection) h) (sym at) tt
restores_released fixed front conn all held connection told said session story here
    (finished passed more request before final stage parts answered is_told is_end same at) is =
    subst (λ h. CanRestore story conn (released connection) h) (sym at) tt

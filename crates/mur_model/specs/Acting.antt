-- A command as it is carried out on the store: by what its session asks of a home. Act has what it means.
use Rattle.std.specs.Prelude.{◌≡◌, ℕ, List, Option}
use Rattle.std.specs.Option.{IfSome}
use Rattle.mur_model.specs.declared.need.Need.{Need}
use Rattle.mur_model.specs.declared.need.Need.TheVariants.{Reply, Leave, Home, Names}
use Rattle.mur_model.specs.declared.session.Sess.{Sess}
use Rattle.mur_model.specs.declared.session.Turn.{Turn}
use Rattle.mur_model.specs.declared.store.Store.{Store}
use Rattle.mur_model.specs.Act.{Acted, act_by, session_after}
use Rattle.mur_model.specs.Asking.{work_for}
use Rattle.mur_model.specs.Left.{Worked, store_after}
use Rattle.mur_model.specs.Listing.{list_reply, names_in}
use Rattle.mur_model.specs.Needed.{Mailbox}

-- the store is left so, and this comes of the work for the session
abbrev pub IsWorked : Store → List ℕ → Worked → Store → Turn → Type 0
IsWorked store name worked left turn = (left ≡ store_after store name worked.left) × (turn ≡ worked.turn)

unfoldable pub IsActed : Store → Sess → ℕ → Option Sess → Need → Acted → Type 0
IsActed store session serial later (Reply reply) acted = acted ≡ record { store = store; session = session_after session later; reply = reply }
IsActed store session serial later (Leave reply) acted = acted ≡ record { store = store; session = session_after session later; reply = reply }
IsActed store session serial later (Home name asking) acted =
    IfSome (work_for session asking.op asking.awaited) (λ work. acted ≡ act_by store session serial (Mailbox name work))
IsActed store session serial later (Names it) acted =
    acted ≡ record { store = store; session = session_after session later; reply = list_reply it (names_in store) }

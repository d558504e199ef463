-- What a session needs behind a command. Only one that has begun asks a home.
use Rattle.std.specs.Prelude.{⊤, ℕ, List, []}
use Rattle.imap_types.specs.declared.command.Command.{Command}
use Rattle.mur_model.specs.declared.session.Sess.{Sess}
use Rattle.mur_model.specs.declared.session.Sess.TheVariants.{Off, In, Selected, Ended}
use Rattle.mur_model.specs.declared.setting.Setting.{Setting}
use Rattle.mur_model.specs.Act.{need_of}
use Rattle.mur_model.specs.declared.need.Need.{Need}
use Rattle.mur_model.specs.declared.need.Need.TheVariants.{Reply, Leave, Home, Names}
use Rattle.session_core.specs.Need.{Behind, begun_by_need}

abbrev pub begin : Setting → Sess → Command → Behind
begin setting session it = begun_by_need session (need_of setting session it)

unfoldable pub HasBegun : Sess → Type 0
HasBegun Off = ⊥
HasBegun (In user) = ⊤
HasBegun (Selected view) = ⊤
HasBegun Ended = ⊥

-- the user of a session that has begun
unfoldable pub user_of : Sess → List ℕ
user_of Off = []
user_of (In user) = user
user_of (Selected view) = view.user
user_of Ended = []

-- a home is asked by a session that has begun alone
unfoldable pub MayNeed : Sess → Need → Type 0
MayNeed session (Reply reply) = ⊤
MayNeed session (Leave reply) = ⊤
MayNeed session (Home name asking) = HasBegun session
MayNeed session (Names it) = ⊤

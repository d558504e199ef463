use Rattle.mur_base.proofs.UsersLaw.{users_kept}
use Rattle.mur_base.proofs.user.Users.as_slice.Goals as goal

pub returns-clause-kept : goal.returns-clause-kept
returns-clause-kept c = rw (← c.self.view_is) (users_kept _ c.self.invariant)

-- Where a history begins.
use Rattle.mur_model.specs.declared.session.Sess.TheVariants.{Off}
use Rattle.mur_model.specs.History.{Course}
use Rattle.mur_model.specs.Store.{empty_store}

-- the empty store, and no session begun
abbrev pub first_course : Course
first_course = record { store = empty_store; sessions = λ _. Off }

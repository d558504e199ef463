use Rattle.std.proofs.Common.{sym, subst}
use Rattle.mupdate_codec.specs.Waits.{HasBegunLine}
use Rattle.mupdate_codec.proofs.BegunLaw.{holds_nothing}
use Rattle.mupdate_codec.proofs.cutter.Cutter.new.Goals as goal

pub invariant_of-result : goal.invariant_of-result
invariant_of-result c = λ _. subst (λ bytes. HasBegunLine bytes 0) (sym c.new.ensures) holds_nothing

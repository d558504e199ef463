-- What an outside connection keeps of a line that has begun, as the cutter that it stands for.
use Rattle.std.specs.Prelude.{ℕ, List, [], Option, Some}
use Rattle.master_core.specs.declared.intake.Held.{Held}
use Rattle.master_core.specs.declared.intake.Held.TheVariants.{Fresh, Live}

abbrev pub cutter_of : Held → Option (List ℕ)
cutter_of Fresh = Some []
cutter_of (Live cutter) = cutter.value

use Rattle.mur_base.proofs.DecimalReadBack.{number_of-decimal}
use Rattle.mur_base.proofs.number.put_number.Goals as goal

pub returns-clause-read_back : goal.returns-clause-read_back
returns-clause-read_back c = number_of-decimal _ c.ranges.n.fits

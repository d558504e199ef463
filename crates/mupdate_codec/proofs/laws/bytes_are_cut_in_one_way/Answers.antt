use Rattle.std.proofs.Common.{refl}
use Rattle.mupdate_codec.proofs.CutLaw.{cut_once}
use Rattle.mupdate_codec.proofs.laws.bytes_are_cut_in_one_way.Goals as goal

pub returns : goal.returns
returns c = λ bytes lines other left rest one two. cut_once bytes bytes lines other left rest refl one two

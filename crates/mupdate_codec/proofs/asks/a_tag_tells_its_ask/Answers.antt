use Rattle.std.proofs.Common.{refl}
use Rattle.mupdate_codec.specs.Asks.{ask_id_of, split_dash}
use Rattle.mupdate_codec.proofs.AsksLaw.{ask_again}
use Rattle.mupdate_codec.proofs.asks.a_tag_tells_its_ask.Goals as goal

pub returns-clause-ask : goal.returns-clause-ask
returns-clause-ask c = ask_again

pub returns-clause-update : goal.returns-clause-update
unfolding ask_id_of split_dash
returns-clause-update c = refl

pub returns-clause-resync : goal.returns-clause-resync
unfolding ask_id_of split_dash
returns-clause-resync c = refl

pub returns-clause-unasked : goal.returns-clause-unasked
unfolding ask_id_of split_dash
returns-clause-unasked c = refl

pub returns-clause-back : goal.returns-clause-back
unfolding ask_id_of split_dash
returns-clause-back c = refl

pub returns-clause-find : goal.returns-clause-find
unfolding ask_id_of split_dash
returns-clause-find c = refl

use Rattle.grammar.proofs.WordLaw.{good_word}
use Rattle.grammar.proofs.laws.words_are_good.Goals as goal

pub returns : goal.returns
returns g c = good_word

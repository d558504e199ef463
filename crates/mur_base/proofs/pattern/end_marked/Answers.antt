use Rattle.std.proofs.Common.{length, set, true, false, replicate, arith, ◌∙◌}
use Rattle.std.proofs.lemmas.List.{get_or-replicate, get_or-set_same, get_or-set_other}
use Rattle.mur_base.proofs.PatternMarks.{end_matches}
use Rattle.mur_base.proofs.pattern.end_marked.Goals as goal

pub returns : goal.returns
returns c =
    let last = length c.args.text.now in
    end_matches c.args.text.now (set (replicate 256 false) last true)
    (λ k less. get_or-set_other (replicate 256 false) last k true false (omega arith) ∙ get_or-replicate 256 k false false (omega arith))
    (get_or-set_same (replicate 256 false) last true false (omega arith))

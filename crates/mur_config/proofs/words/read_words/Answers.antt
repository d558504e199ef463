use Rattle.std.proofs.Common.{◌∙◌, sym}
use Rattle.std.proofs.lemmas.Result.{IfOk-weaker}
use Rattle.clap.specs.Words.{found_of}
use Rattle.mur_config.proofs.WordsLaw.{has_no_job, failed, parsed, got, same_job}
use Rattle.mur_config.proofs.words.read_words.Goals.{in-OutOfMemory, in_default}
use Rattle.mur_config.proofs.words.read_words.Goals as goal

pub returns-then-has_option : goal.returns-then-has_option
returns-then-has_option c =
    let none = rw c.as_slice-words.ensures.value at c.has_option.ensures in
    record { job = sym (has_no_job _ (sym none ∙ c.if-has_option.true)); size = tt }

pub returns-in-Err-clause-job : goal.returns-in-Err-clause-job
returns-in-Err-clause-job c = elim c.match-kind.branch [
  | in-OutOfMemory w ↦ rw w.result-is tt
  | in_default w ↦
      let some = sym c.has_option.ensures ∙ c.if-has_option.false in
      rw (w.result-is, ← c.as_slice-words.ensures.value)
      (failed _ _ c.in-Err.error c.in_ok-command.ensures some c.in-Err.ensures.kinds (λ memory. w.in_default.not-OutOfMemory (c.kind.ensures ∙ memory)))
]

pub returns-in_default-get_str-clause-job : goal.returns-in_default-get_str-clause-job
returns-in_default-get_str-clause-job c =
    let some = sym c.has_option.ensures ∙ c.if-has_option.false in
    let operands = parsed _ _ c.in-Ok.matches c.in-Some.form.now (found_of c.in-Some.operands.now) c.in_ok-command.ensures some
    c.in-Ok.ensures.kinds c.in-Ok.ensures.matches c.in-Some.ensures.name c.in-Some.ensures.rows in
    let missing = got (found_of c.in-Some.operands.now) _ operands.one _ operands.first c.in_default-get_str.ensures in
    cc

pub returns-in_default-get_str-2-clause-job : goal.returns-in_default-get_str-2-clause-job
returns-in_default-get_str-2-clause-job c =
    let some = sym c.has_option.ensures ∙ c.if-has_option.false in
    let operands = parsed _ _ c.in-Ok.matches c.in-Some.form.now (found_of c.in-Some.operands.now) c.in_ok-command.ensures some
    c.in-Ok.ensures.kinds c.in-Ok.ensures.matches c.in-Some.ensures.name c.in-Some.ensures.rows in
    let missing = got (found_of c.in-Some.operands.now) _ operands.other _ operands.second c.in_default-get_str-2.ensures in
    cc

pub returns-clause-job : goal.returns-clause-job
returns-clause-job c =
    let some = sym c.has_option.ensures ∙ c.if-has_option.false in
    let operands = parsed _ _ c.in-Ok.matches c.in-Some.form.now (found_of c.in-Some.operands.now) c.in_ok-command.ensures some
    c.in-Ok.ensures.kinds c.in-Ok.ensures.matches c.in-Some.ensures.name c.in-Some.ensures.rows in
    let one = got (found_of c.in-Some.operands.now) _ operands.one _ operands.first c.in-Some-get_str.ensures in
    let other = got (found_of c.in-Some.operands.now) _ operands.other _ operands.second c.in-Some-get_str-2.ensures in
    rw (← c.as_slice-words.ensures.value) (IfOk-weaker c.job_named.result _ _ (λ job is. is ∙ same_job _ _ _ operands _ _ one other) c.job_named.ensures.job)

use Rattle.mail_search.specs.Matching.{all_match}
use Rattle.mail_search.proofs.FoundLaw.{length-marks, marked-found}
use Rattle.mail_search.proofs.searching.search.Goals as goal

pub marked-requires : goal.marked-requires
marked-requires c =
    rw (c.deref.ensures.value, c.in_ok-marks.ensures, c.as_slice-messages.ensures, c.as_slice.ensures, c.as_slice-2.ensures)
    (length-marks (all_match c.args.keys.now) c.args.list.now c.args.numbers.now c.requires)

pub returns : goal.returns
returns c =
    rw (c.in_ok-marked.ensures, c.deref.ensures.value, c.in_ok-marks.ensures, c.as_slice-messages.ensures, c.as_slice.ensures, c.as_slice-2.ensures)
    (marked-found (all_match c.args.keys.now) c.args.list.now c.args.numbers.now c.requires)

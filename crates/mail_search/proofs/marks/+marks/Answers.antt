use Rattle.std.proofs.lemmas.List.{take_all}
use Rattle.mail_search.proofs.MarkLaws.{uid-marks, number-marks, not-marks, or-marks, group-marks, no-marks, next-marks}
use Rattle.mail_search.proofs.marks.+marks.Goals as goal

pub marks_of-returns-in_ok-marks_of_set-in-Uid : goal.marks_of-returns-in_ok-marks_of_set-in-Uid
marks_of-returns-in_ok-marks_of_set-in-Uid t c =
    rw (c.in_ok-marks_of_set-in-Uid.ensures, c.as_slice.ensures, c.deref.ensures.value, c.in_ok-uids_of-in-Uid.ensures, c.in-Uid.is)
    (uid-marks c.in-Uid.set c.args.messages.now c.args.numbers.now c.requires)

pub marks_of-returns-in_ok-marks_of_set-in-Numbers : goal.marks_of-returns-in_ok-marks_of_set-in-Numbers
marks_of-returns-in_ok-marks_of_set-in-Numbers t c =
    rw (c.in_ok-marks_of_set-in-Numbers.ensures, c.as_slice-in-Numbers.ensures, c.in-Numbers.is)
    (number-marks c.in-Numbers.set c.args.messages.now c.args.numbers.now c.requires)

pub marks_of-returns-in_ok-negated-in-Not : goal.marks_of-returns-in_ok-negated-in-Not
marks_of-returns-in_ok-negated-in-Not t c =
    rw (c.in_ok-negated-in-Not.ensures, c.deref-in-Not.ensures.value, c.in_ok-marks_of-in-Not.ensures, c.get.ensures, c.in-Not.is)
    (not-marks c.in-Not.key _)

pub marks_of-returns-in_ok-either-in-Or : goal.marks_of-returns-in_ok-either-in-Or
marks_of-returns-in_ok-either-in-Or t c =
    rw (
      c.in_ok-either-in-Or.ensures,
      c.deref-in-Or.ensures.value,
      c.deref-in-Or-2.ensures.value,
      c.in_ok-one-in-Or.ensures,
      c.in_ok-other-in-Or.ensures,
      c.get-in-Or.ensures,
      c.get-in-Or-2.ensures,
      c.in-Or.is,
    )
    (or-marks c.in-Or.one c.in-Or.other _)

pub marks_of-returns-in_ok-marks_of_all-in-Group : goal.marks_of-returns-in_ok-marks_of_all-in-Group
marks_of-returns-in_ok-marks_of_all-in-Group t c =
    rw (c.in_ok-marks_of_all-in-Group.ensures, c.as_slice-in-Group.ensures, c.in-Group.is) (group-marks c.in-Group.keys _)

pub marks_of_all-loop-key-init : goal.marks_of_all-loop-key-init
marks_of_all-loop-key-init t c = rw c.in_ok-made.ensures (no-marks c.args.messages.now c.args.numbers.now c.requires)

pub marks_of_all-loop-key-preserved : goal.marks_of_all-loop-key-preserved
marks_of_all-loop-key-preserved t c =
    rw (c.in_ok-made-2.ensures, c.deref.ensures.value, c.deref-in-loop-key.ensures.value, c.in_ok-others.ensures, c.loop-key.invariant)
    (next-marks c.args.keys.now c.loop-key.key-index c.key-item.result _ c.loop-key-test.true c.key-item.is)

pub marks_of_all-returns : goal.marks_of_all-returns
marks_of_all-returns t c = rw (take_all c.loop-key.key-index c.args.keys.now c.loop-key-test.false) at c.loop-key.invariant

use Rattle.std.proofs.Common.{sym, subst}
use Rattle.mupdate_codec.specs.Waits.{HasBegunLine, Ended}
use Rattle.mupdate_codec.proofs.CutSteps.{text_some, text_taken, ended_by}
use Rattle.mupdate_codec.proofs.cutter.Begun.take_text.Goals as goal

pub end_line-requires : goal.end_line-requires
end_line-requires c = record {
  ended = subst Ended (sym c.in_ok-extend_from_slice-in-Some.ensures.ok)
      (ended_by c.args.self.now.bytes c.args.piece.now c.in-Some.at (subst (HasBegunLine c.args.self.now.bytes) c.requires.none c.requires.holds)
      (text_some c.args.piece.now c.in-Some.at c.in-Some.ensures));
}

pub returns-in_ok-extend_from_slice-in-None-clause-holds : goal.returns-in_ok-extend_from_slice-in-None-clause-holds
returns-in_ok-extend_from_slice-in-None-clause-holds c =
    subst (λ bytes. HasBegunLine bytes c.args.self.now.literal_left) (sym c.in_ok-extend_from_slice-in-None.ensures.ok)
    (text_taken c.args.self.now.bytes c.args.piece.now c.args.self.now.literal_left c.requires.none c.requires.holds c.in-None.ensures)

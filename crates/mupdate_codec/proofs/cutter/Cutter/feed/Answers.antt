use Rattle.std.proofs.Common.{refl, sym}
use Rattle.mupdate_codec.proofs.CutSteps.{feeds_of, uncut_of}
use Rattle.mupdate_codec.proofs.cutter.Cutter.feed.Goals as goal

pub returns-in-Ok-clause-feeds : goal.returns-in-Ok-clause-feeds
returns-in-Ok-clause-feeds c =
    feeds_of c.args.self.now _ c.self.inside.is_spent c.self.inside.begun.bytes c.args.piece.now _ _ c.take.new.self.bytes c.take.new.self.literal_left
    (sym c.self.view_is) c.if-self.false c.in-Ok.ensures.takes c.in-Ok.ensures.whole c.in-Ok.ensures.holds refl

pub returns-in-Ok-clause-uncut : goal.returns-in-Ok-clause-uncut
returns-in-Ok-clause-uncut c =
    uncut_of c.args.self.now c.self.inside.is_spent c.self.inside.begun.bytes c.self.inside.begun.literal_left (sym c.self.view_is) c.self.invariant

pub returns-in-Err-clause-uncut : goal.returns-in-Err-clause-uncut
returns-in-Err-clause-uncut c =
    uncut_of c.args.self.now c.self.inside.is_spent c.self.inside.begun.bytes c.self.inside.begun.literal_left (sym c.self.view_is) c.self.invariant

use Rattle.std.proofs.Common.{◌∙◌, ap, sym, take, ◌++◌, arith}
use Rattle.std.proofs.lemmas.Grind.{common_steps}
use Rattle.std.specs.Io.KnownBytes.{prepend_known}
use Rattle.mur_edge.proofs.Known.{prepend_known-append}
use Rattle.mur_edge.proofs.source.read_front.Goals as goal

pub returns-in_err-extend_from_slice-clause-at_most : goal.returns-in_err-extend_from_slice-clause-at_most
returns-in_err-extend_from_slice-clause-at_most g c =
    let piece = take c.in_ok-n.n c.read.new.buf in record {
      bytes = c.loop-piece.bytes ++ piece;
      given = c.loop-piece.invariant.read ∙ ap (λ known. prepend_known c.loop-piece.bytes known) c.in_ok-n.ensures.did.bytes.0
          ∙ sym (prepend_known-append c.loop-piece.bytes piece (g.S.Source.facts c.read.new.self).left);
      bounded = grind (arith, common_steps);
    }

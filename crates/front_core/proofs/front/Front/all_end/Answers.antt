use Rattle.std.proofs.Common.{◌≡◌, ◌+◌, ℕ, List, ap, arith, ◌∙◌, sym, drop}
use Rattle.std.proofs.lemmas.List.{drop_more}
use Rattle.front_core.specs.Front.{all_end, behind_them}
use Rattle.front_core.proofs.EndLaws.{ends_on, rooms_after}
use Rattle.front_core.proofs.front.Front.all_end.Goals as goal

pub loop-conn-preserved : goal.loop-conn-preserved
loop-conn-preserved c =
    let next = drop_more c.args.conns.now c.loop-conn.conn-index 0 (omega (arith, c.loop-conn-test.true)) in
    record {
      turned = ends_on c.loop-conn.self c.one_ends.new.self c.args.from.now _ (drop (c.loop-conn.conn-index + 1) c.args.conns.now) c.loop-conn.outs c.one_ends.new.outs
          c.in_ok-one_ends.ensures
          ∙ ap (λ (conns : List ℕ). behind_them c.loop-conn.outs (all_end c.loop-conn.self c.args.from.now conns)) (sym next)
          ∙ c.loop-conn.invariant.turned;
      rooms = rooms_after c.loop-conn.self c.one_ends.new.self c.args.from.now _ c.loop-conn.outs c.one_ends.new.outs c.in_ok-one_ends.ensures
          c.loop-conn.invariant.rooms;
    }

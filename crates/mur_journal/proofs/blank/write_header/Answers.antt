use Rattle.std.proofs.Common.{List, ℕ, ◌∷◌, [], ◌++◌, ◌≡◌, ◌≤◌, ◌∙◌, sym, ap, subst, arith, length, max, drop}
use Rattle.std.proofs.lemmas.List.{drop_all}
use Rattle.std.proofs.lemmas.Result.{on_ok_weaker}
use Rattle.mur_disk.proofs.MomentLaws.{weaker}
use Rattle.mur_journal.specs.Image.{magic}
use Rattle.mur_journal.proofs.Answered.{on_two}
use Rattle.mur_journal.proofs.blank.write_header.Goals as goal

-- an empty disk has nothing past the header
pub returns-clause-header : goal.returns-clause-header
returns-clause-header g c told =
    let old = g.D.Disk.seen c.args.disk.now in
    let none : drop 9 old ≡ [] = drop_all 9 old (omega (arith, c.requires, g.met.D.Disk.is_size c.args.disk.now told)) in
    on_ok_weaker c.write_synced.result (λ holds. holds ∙ ap (λ (l : List ℕ). (magic ++ 0 ∷ []) ++ l) none) (c.write_synced.ensures.written told)

pub returns-clause-durable : goal.returns-clause-durable
returns-clause-durable g c told =
    let old = g.D.Disk.seen c.args.disk.now in
    let none : drop 9 old ≡ [] = drop_all 9 old (omega (arith, c.requires, g.met.D.Disk.is_size c.args.disk.now told)) in
    on_two c.write_synced.result _ _ _ (c.write_synced.ensures.written told) (c.write_synced.ensures.durable told)
    (λ holds only image may. only image may ∙ (holds ∙ ap (λ (l : List ℕ). (magic ++ 0 ∷ []) ++ l) none))

-- a torn header is no longer than the header
pub returns-clause-any_moment : goal.returns-clause-any_moment
returns-clause-any_moment g c told still =
    let none : length (g.D.Disk.seen c.args.disk.now) ≡ 0 = sym (g.met.D.Disk.is_size c.args.disk.now told) ∙ c.requires in
    weaker g.D.Disk.moment g.D.Disk.left_since c.args.disk.now c.write_synced.new.disk _ _ (c.write_synced.ensures.any_moment told still)
    (λ image torn. subst (λ (n : ℕ). length image ≤ max n 9) none torn.no_longer)

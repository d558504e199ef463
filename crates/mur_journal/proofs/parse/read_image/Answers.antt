use Rattle.std.proofs.Common.{◌≡◌, ◌++◌, ◌∷◌, [], List, ℕ, sym, ◌∙◌, ap, subst}
use Rattle.std.proofs.lemmas.List.{nil_from_length}
use Rattle.mur_journal.specs.Image.{Bad}
use Rattle.mur_journal.proofs.Reading.{Reading, begun, ends, is_short, has_no_gate, to_next}
use Rattle.mur_journal.proofs.parse.read_image.Goals as goal

pub loop-gate-init : goal.loop-gate-init
loop-gate-init c = subst (λ (es : List (List ℕ)). Reading c.args.image.now es 8 c.in-Ok.rest.now) (sym c.new-entries.ensures)
    (begun c.args.image.now c.in-Ok.rest.now c.in-Ok.ensures.there.0 c.in-Ok.ensures.there.1)

pub returns-then-gate-ne1-clause-good : goal.returns-then-gate-ne1-clause-good
returns-then-gate-ne1-clause-good c =
    ends c.args.image.now c.loop-gate.entries c.loop-gate.at c.in-Some.gate.now c.in-Some.bytes.now
    (subst (Reading c.args.image.now c.loop-gate.entries c.loop-gate.at) c.in-Some.ensures.cases.0 c.loop-gate.invariant) c.if-gate-ne1.true

pub loop-gate-preserved : goal.loop-gate-preserved
loop-gate-preserved c =
    let parts = c.in-Some-next_block.ensures.whole in
    let bytes = c.in-Some.bytes.now in
    let is : c.loop-gate.rest.now ≡ 1 ∷ bytes = c.in-Some.ensures.cases.0 ∙ ap (λ (g : ℕ). g ∷ bytes) c.if-gate-ne1.false in
    to_next c.args.image.now c.loop-gate.entries c.loop-gate.at c.loop-gate.rest.now bytes c.in-Some-next_block.entry.now
    c.in-Some-next_block.after.now c.push.new.self c.loop-gate.invariant is
    parts.0 parts.1 parts.2 (c.in_ok-push-in-Some-next_block.ensures.ok
    ∙ ap (λ (e : List ℕ). c.loop-gate.entries ++ e ∷ []) c.in_ok-from_slice-in-Some-next_block.ensures)

pub returns-in-None-clause-bad : goal.returns-in-None-clause-bad
returns-in-None-clause-bad c offset same =
    let bytes = c.in-Some.bytes.now in
    let is : c.loop-gate.rest.now ≡ 1 ∷ bytes = c.in-Some.ensures.cases.0 ∙ ap (λ (g : ℕ). g ∷ bytes) c.if-gate-ne1.false in
    is_short c.args.image.now c.loop-gate.entries c.loop-gate.at bytes
    (subst (Reading c.args.image.now c.loop-gate.entries c.loop-gate.at) is c.loop-gate.invariant) c.in-None.ensures.short
    ∙ ap Bad (cc same)

pub returns-clause-bad : goal.returns-clause-bad
returns-clause-bad c offset same =
    let none : c.loop-gate.rest.now ≡ [] = nil_from_length c.loop-gate.rest.now c.in_default.ensures.cases in
    has_no_gate c.args.image.now c.loop-gate.entries c.loop-gate.at
    (subst (Reading c.args.image.now c.loop-gate.entries c.loop-gate.at) none c.loop-gate.invariant)
    ∙ ap Bad (cc same)

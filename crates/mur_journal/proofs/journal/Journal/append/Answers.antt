use Rattle.std.proofs.Common.{◌∷◌, [], List, ℕ, ◌+◌, length, drop, IsTrue, sym, ◌∙◌, ap, subst}
use Rattle.mur_journal.specs.Image.{Good, IsBlock, parsed}
use Rattle.mur_journal.proofs.journal.Journal.append.Goals as goal

-- a write that fails
pub returns-in_err-commit-clause-any_moment : goal.returns-in_err-commit-clause-any_moment
returns-in_err-commit-clause-any_moment g c whole told =
    let is : IsBlock (c.args.entry.now ∷ []) c.without_gate-block.result.now =
    subst (IsBlock (c.args.entry.now ∷ [])) (sym (c.without_gate-block.ensures ∙ ap (drop 1) c.as_slice.ensures)) c.in_ok-blocks.ensures.block in
    c.commit.ensures.any_moment (c.args.entry.now ∷ []) is told

pub invariant_of-self-2 : goal.invariant_of-self-2
invariant_of-self-2 g c =
    let is : IsBlock (c.args.entry.now ∷ []) c.without_gate-block.result.now =
    subst (IsBlock (c.args.entry.now ∷ [])) (sym (c.without_gate-block.ensures ∙ ap (drop 1) c.as_slice.ensures)) c.in_ok-blocks.ensures.block in
    record {
      within = λ _. c.in_ok-commit.ensures.within;
      settled = λ _ told. c.in_ok-commit.ensures.settled (c.args.entry.now ∷ []) is (subst IsTrue c.commit.ensures.told told);
    }

pub returns-clause-added : goal.returns-clause-added
returns-clause-added g c told =
    let is : IsBlock (c.args.entry.now ∷ []) c.without_gate-block.result.now =
    subst (IsBlock (c.args.entry.now ∷ [])) (sym (c.without_gate-block.ensures ∙ ap (drop 1) c.as_slice.ensures)) c.in_ok-blocks.ensures.block in
    c.in_ok-commit.ensures.entries (c.args.entry.now ∷ []) is told

pub returns-clause-acknowledged : goal.returns-clause-acknowledged
returns-clause-acknowledged g c told image may =
    let is : IsBlock (c.args.entry.now ∷ []) c.without_gate-block.result.now =
    subst (IsBlock (c.args.entry.now ∷ [])) (sym (c.without_gate-block.ensures ∙ ap (drop 1) c.as_slice.ensures)) c.in_ok-blocks.ensures.block in
    let s = c.in_ok-commit.ensures.settled (c.args.entry.now ∷ []) is told in
    let place = c.args.self.now.gate + length c.without_gate-block.result.now in (
      place,
      ap parsed (s.durable image may) ∙ s.form
          ∙ ap (λ (es : List (List ℕ)). Good es place) (c.in_ok-commit.ensures.entries (c.args.entry.now ∷ []) is told),
    )

pub returns-clause-any_moment : goal.returns-clause-any_moment
returns-clause-any_moment g c whole told =
    let is : IsBlock (c.args.entry.now ∷ []) c.without_gate-block.result.now =
    subst (IsBlock (c.args.entry.now ∷ [])) (sym (c.without_gate-block.ensures ∙ ap (drop 1) c.as_slice.ensures)) c.in_ok-blocks.ensures.block in
    c.commit.ensures.any_moment (c.args.entry.now ∷ []) is told

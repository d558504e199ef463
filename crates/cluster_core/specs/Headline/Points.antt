-- What the points of a history may be, by where the run is.
use Rattle.std.specs.Prelude.{◌≡◌, ℕ, ◌+◌, ◌≤◌, true, List, length, All}
use Rattle.mur_base.specs.declared.point.Point.{Point}
use Rattle.mur_model.specs.History.{Talk, loses}

-- no point is of a step that wasn't made yet
abbrev pub AreMadeBy : ℕ → List Point → Type 0
AreMadeBy now points = All (λ (point : Point). point.step ≤ now) points

-- a command is lost only as the first of its connection that wasn't answered: none that waited behind it was carried out
abbrev pub LosesTheNext : Talk → List Point → Type 0
LosesTheNext talk points =
    All (λ (point : Point). loses point.what ≡ true → point.ask.command ≡ length (talk.answers point.ask.conn) + 1) points

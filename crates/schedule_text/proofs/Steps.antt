-- What steps that may break a rule gave.
use Rattle.std.proofs.Common.{◌≡◌, Bool, true, false, cond, Result, Ok, Err, refl}
use Rattle.schedule_text.specs.ScheduleRules.{◌>>=◌}

-- both steps of two gave something
pub both : {A B E : Type 0} (first : Result A E) (next : A → Result B E) (b : B) → (first >>= next) ≡ Ok b → (a : A) × (first ≡ Ok a) × (next a ≡ Ok b)
both (Ok a) next b h = (a, refl, h)
both (Err e) next b h = cc

pub kept_if : {A E : Type 0} (b : Bool) (kept found : A) (rule : E) → cond b (Ok kept) (Err rule) ≡ Ok found → kept ≡ found
kept_if true kept found rule h = cc
kept_if false kept found rule h = cc

pub kept_true : {A E : Type 0} (b : Bool) (kept found : A) (rule : E) → cond b (Ok kept) (Err rule) ≡ Ok found → b ≡ true
kept_true true kept found rule h = refl
kept_true false kept found rule h = cc

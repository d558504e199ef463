-- One flag more, put in where there is room.
use Rattle.std.proofs.Common.{◌≡◌, ℕ, ◌≤◌, List, length, Bool, true, false, ◌⊎◌, Result, Ok, Err, OnOk, IfErr, refl, sym, ap, subst, arith}
use Rattle.std.proofs.Math.Logic.{⊎_elim, inl, inr}
use Rattle.std.proofs.lemmas.Bool.Decides.{nat_tests}
use Rattle.mail_message.specs.FlagSets.{Flags, with_flag, has_too_many, IsMade, IsMadeBy, now_holding, IsNoRoom}
use Rattle.mail_message.specs.Keywords.{with_keyword}
use Rattle.mail_message.specs.declared.system_flags.SystemFlag.{SystemFlag}
use Rattle.mail_message.specs.declared.flag_name.FlagFault.{FlagFault}
use Rattle.mail_message.specs.declared.flag_name.FlagFault.TheVariants.{TooMany, Memory}
use Rattle.mail_message.specs.declared.flag_name.FlagName.TheVariants.{System, Keyword}

few_made : (flags made : Flags) → length flags.keywords ≤ 16 → made ≡ flags → IsMade flags (Ok made)
few_made flags made few is =
    let fits : has_too_many flags ≡ false = grind (arith, nat_tests, few) in
    subst (λ b. IsMadeBy b flags (Ok made)) (sym fits) is

pub made_system : (old new : Flags) (flag : SystemFlag) → length old.keywords ≤ 16 → new ≡ with_flag old (System flag) → IsMade (with_flag old (System flag)) (Ok new)
made_system old new flag few is = few_made (with_flag old (System flag)) new few is

refused_is : (fault : FlagFault) (keywords : List (List ℕ)) → IsNoRoom keywords fault → (fault ≡ TooMany) ⊎ (fault ≡ Memory)
refused_is fault keywords why = ⊎_elim (λ memory. inr memory) (λ many. inl many.0) why

pub made_keyword : {A : Type 0} (old new : Flags) (keyword : List ℕ) (result : Result A FlagFault) → length new.keywords ≤ 16
    → OnOk result (new ≡ with_flag old (Keyword keyword)) → IfErr result (IsNoRoom (with_keyword old.keywords keyword))
    → IsMade (with_flag old (Keyword keyword)) (now_holding new result)
made_keyword old new keyword (Ok done) few is why =
    few_made (with_flag old (Keyword keyword)) new (subst (λ (f : Flags). length f.keywords ≤ 16) is few) is
made_keyword old new keyword (Err fault) few is why = by (has_too_many (with_flag old (Keyword keyword))) refl
  where
    by : (b : Bool) → has_too_many (with_flag old (Keyword keyword)) ≡ b → IsMadeBy b (with_flag old (Keyword keyword)) (Err fault)
    by true e = ⊎_elim (λ many. inl (ap (λ f. Err f) many)) (λ memory. inr (ap (λ f. Err f) memory)) (refused_is fault (with_keyword old.keywords keyword) why)
    by false e = ⊎_elim (λ memory. memory) (λ many. let over = many.1 in let no : ⊥ = grind (arith, nat_tests, e, over) in absurd no) why

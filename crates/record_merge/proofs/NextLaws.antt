-- The next step of two lists that are mixed.
use Rattle.std.proofs.Common.{◌≡◌, Bool, true, false, List, [], ◌∷◌, ◌++◌, Option, Some, None, refl, sym, ◌∙◌, subst}
use Rattle.std.specs.List.{slice_get}
use Rattle.std.specs.Option.{option_to_list, IfNone, IfSome}
use Rattle.record_merge.specs.declared.logged.MergedStep.{MergedStep}
use Rattle.record_merge.specs.Mix.{is_earlier, mix}

module _ {I : Type 0} where
  abbrev earlier_of : List (MergedStep I) → List (MergedStep I) → Bool
  earlier_of first others = is_earlier (slice_get others 0) (slice_get first 0)

  pub earlier-told : (first others : List (MergedStep I)) (other own : Option (MergedStep I)) (result told : Bool) → other ≡ slice_get others 0
      → own ≡ slice_get first 0 → result ≡ is_earlier other own → result ≡ told → earlier_of first others ≡ told
  earlier-told first others other own result told is own_is gives is_told = rw (← is, ← own_is) (sym gives ∙ is_told)

  other_first : (first : List (MergedStep I)) (step : MergedStep I) (rest : List (MergedStep I)) → earlier_of first (step ∷ rest) ≡ true
      → mix first (step ∷ rest) ≡ step ∷ mix first rest
  other_first [] step rest earlier = refl
  other_first (own ∷ front) step rest earlier = rw earlier refl

  own_first : (step : MergedStep I) (rest others : List (MergedStep I)) → earlier_of (step ∷ rest) others ≡ false
      → mix (step ∷ rest) others ≡ step ∷ mix rest others
  own_first step rest [] earlier = refl
  own_first step rest (other ∷ others) earlier = rw earlier refl

  none_left : (others : List (MergedStep I)) → earlier_of [] others ≡ false → others ≡ []
  none_left [] earlier = refl
  none_left (other ∷ others) earlier = cc

  pub other-next : (result : Option (MergedStep I)) (first others rest : List (MergedStep I)) → earlier_of first others ≡ true
      → IfNone result ((others ≡ []) × (rest ≡ [])) → IfSome result (λ step. others ≡ step ∷ rest)
      → mix first others ≡ option_to_list result ++ mix first rest
  other-next None first others rest earlier none some =
      let never : earlier_of first [] ≡ true = subst (λ xs. earlier_of first xs ≡ true) none.0 earlier in cc
  other-next (Some step) first others rest earlier none some =
      rw some (other_first first step rest (subst (λ xs. earlier_of first xs ≡ true) some earlier))

  pub own-next : (result : Option (MergedStep I)) (first others rest : List (MergedStep I)) → earlier_of first others ≡ false
      → IfNone result ((first ≡ []) × (rest ≡ [])) → IfSome result (λ step. first ≡ step ∷ rest)
      → mix first others ≡ option_to_list result ++ mix rest others
  own-next None first others rest earlier none some = rw (none.0, none.1) refl
  own-next (Some step) first others rest earlier none some =
      rw some (own_first step rest others (subst (λ xs. earlier_of xs others ≡ false) some earlier))

  pub none-next : (result : Option (MergedStep I)) (first others rest : List (MergedStep I)) → earlier_of first others ≡ false
      → IfNone result ((first ≡ []) × (rest ≡ [])) → IfNone result (mix rest others ≡ [])
  none-next None first others rest earlier none =
      rw none.1 (none_left others (subst (λ xs. earlier_of xs others ≡ false) none.0 earlier))
  none-next (Some step) first others rest earlier none = tt

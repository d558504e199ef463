-- The bytes of short names are neither spaces nor `!` nor LF, so what is printed of a place is read in one way.
use Rattle.std.proofs.Common.{◌≡◌, ℕ, Bool, true, false, ◌&&◌, not, cond, nat_eq, nat_lt, List, [], ◌∷◌, length, None, Some, refl, subst}
use Rattle.std.specs.Prelude.{All}
use Rattle.std.specs.List.{list_all}
use Rattle.std.proofs.lemmas.List.Elements.{All-nil, All-cons}
use Rattle.mur_base.specs.Names.{is_short_name_byte, has_short_name_bytes, short_name_fault}
use Rattle.mur_base.specs.declared.limits.TheConstants.{SHORT_NAME_LIMIT}
use Rattle.mur_base.specs.declared.name.NameFault.TheVariants.{Empty, TooLong, BadByte}
use Rattle.top_call.specs.ReadBack.{GoesOn}

goes_on : (c : ℕ) → is_short_name_byte c ≡ true → GoesOn c
unfolding is_short_name_byte
goes_on c h = (
  λ e. (let no : is_short_name_byte 32 ≡ true = subst (λ b. is_short_name_byte b ≡ true) e h in cc),
  λ e. (let no : is_short_name_byte 33 ≡ true = subst (λ b. is_short_name_byte b ≡ true) e h in cc),
  λ e. (let no : is_short_name_byte 10 ≡ true = subst (λ b. is_short_name_byte b ≡ true) e h in cc),
)

first_and : (one other : Bool) → (one && other) ≡ true → (one ≡ true) × (other ≡ true)
first_and true other h = (refl, h)
first_and false other h = cc

all_go_on : (text : List ℕ) → list_all is_short_name_byte text ≡ true → All GoesOn text
all_go_on [] h = All-nil GoesOn
all_go_on (c ∷ text) h =
    let both = first_and (is_short_name_byte c) (list_all is_short_name_byte text) h in
    All-cons GoesOn c text (goes_on c both.0) (all_go_on text both.1)

short_bytes : (none long all : Bool) → cond none (Some Empty) (cond long (Some TooLong) (cond (not all) (Some BadByte) None)) ≡ None → all ≡ true
short_bytes true long all e = cc
short_bytes false true all e = cc
short_bytes false false true e = refl
short_bytes false false false e = cc

pub short_goes_on : (text : List ℕ) → short_name_fault text ≡ None → All GoesOn text
unfolding short_name_fault has_short_name_bytes
short_goes_on text short =
    all_go_on text (short_bytes (nat_eq (length text) 0) (nat_lt SHORT_NAME_LIMIT (length text)) (list_all is_short_name_byte text) short)

-- What the code of a flag rests on.
use Rattle.std.proofs.Common.{◌≡◌, ℕ, ◌<◌, List, [], ◌∷◌, length, Bool, true, false, nat_le, nat_lt, ◌==◌, cond, None, Ok}
use Rattle.std.proofs.Common.{Err, ⊎_elim, refl, arith}
use Rattle.std.proofs.lemmas.Bool.Decides.{nat_tests}
use Rattle.std.specs.List.{list_all}
use Rattle.grammar.proofs.Conditions.{and_left, and_right}
use Rattle.mail_message.specs.FlagSets.{Flags, with_flag, has_too_many, IsMade, IsMadeBy}
use Rattle.mail_message.specs.Keywords.{is_atom_byte, has_atom_bytes, keyword_fault}
use Rattle.mail_message.specs.declared.flag_name.FlagFault.TheVariants.{TooMany}
use Rattle.mail_message.specs.declared.flag_name.FlagName.{FlagName}
use Rattle.imap_command.specs.Flags.{any_keyword, keywords_beside, put_flag}

-- a keyword breaks no rule of keywords
pub no_fault : (text : List ℕ) → any_keyword.whole text ≡ true → keyword_fault text ≡ None
unfolding keyword_fault has_atom_bytes
no_fault [] h = let no : false ≡ true = and_right (any_keyword.begins []) false h in cc
no_fault (c ∷ text) h =
    let small : nat_le (length (c ∷ text)) 64 ≡ true = and_right (list_all is_atom_byte (c ∷ text)) _ (and_left _ _ h) in
    let long : nat_lt 64 (length (c ∷ text)) ≡ false = grind (arith, nat_tests) in
    let atom : list_all is_atom_byte (c ∷ text) ≡ true = and_left _ _ (and_left _ _ h) in
    let there : (length (c ∷ text) == 0) ≡ false = grind (arith, nat_tests) in
    rw (there, long, atom) refl

-- any keyword may stand beside few
pub beside_few : (known : List (List ℕ)) → length known < 16 → keywords_beside known ≡ any_keyword
beside_few known few =
    let short : nat_le 16 (length known) ≡ false = grind (arith, nat_tests, few) in
    rw short refl

-- what is made of flags and one more, where there is room, and what is left where there is none
pub made_is : (so_far : Flags) (name : FlagName) (made : Flags) → IsMade (with_flag so_far name) (Ok made) → made ≡ put_flag so_far name
made_is so_far name made m = by_room (has_too_many (with_flag so_far name)) m
  where
    by_room : (b : Bool) → IsMadeBy b (with_flag so_far name) (Ok made) → made ≡ cond b so_far (with_flag so_far name)
    by_room true m = ⊎_elim (λ e. cc) (λ e. cc) m
    by_room false m = m

pub no_room : (so_far : Flags) (name : FlagName) → IsMade (with_flag so_far name) (Err TooMany) → so_far ≡ put_flag so_far name
no_room so_far name m = by_room (has_too_many (with_flag so_far name)) m
  where
    by_room : (b : Bool) → IsMadeBy b (with_flag so_far name) (Err TooMany) → so_far ≡ cond b so_far (with_flag so_far name)
    by_room true m = refl
    by_room false m = cc

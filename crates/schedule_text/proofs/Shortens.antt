-- What is read from a text is no longer than the text.
use Rattle.std.proofs.Common.{◌≡◌, ℕ, ◌+◌, ◌-◌, ◌≤◌, Bool, true, false, nat_eq, nat_lt, List, [], ◌∷◌, length, slice_index, sum_by, Option, None, Some, Ok}
use Rattle.std.proofs.Common.{refl, subst, arith}
use Rattle.std.specs.Option.{ok_or}
use Rattle.std.proofs.lemmas.List.{length-take}
use Rattle.std.proofs.lemmas.List.Sums.{sum_by-cons}
use Rattle.mur_base.specs.Names.{with_first}
use Rattle.schedule_text.specs.declared.text.Spelling.{Spelling}
use Rattle.schedule_text.specs.declared.text.Spelling.TheVariants.{Between, Escape, Hex, HexDigit}
use Rattle.schedule_text.specs.declared.text.Character.{Character}
use Rattle.schedule_text.specs.declared.text.Character.TheVariants.{Inside, Ends, Bad}
use Rattle.schedule_text.specs.declared.schedule.fault.Rule.TheVariants.{BadText}
use Rattle.schedule_text.specs.Text.{bytes_of, bytes_spelled_from, bytes_behind, with_byte, spelling_end, character_at}
use Rattle.schedule_text.specs.Cuts.{cuts_of, line_in, without_end}
use Rattle.schedule_text.specs.Rows.{text_in}

onto_byte : (b : ℕ) (size : ℕ) (rest : Option (List ℕ)) → ((bytes : List ℕ) → rest ≡ Some bytes → length bytes ≤ size)
    → (bytes : List ℕ) → with_byte b rest ≡ Some bytes → length bytes ≤ size + 1
unfolding with_byte
onto_byte b size None ih bytes h = cc
onto_byte b size (Some rest) ih bytes h =
    let same : b ∷ rest ≡ bytes = cc in subst (λ (found : List ℕ). length found ≤ size + 1) same (omega (arith, ih rest refl))

behind_character : (char : Character) (text : List ℕ) → ((place : Spelling) (bytes : List ℕ) → bytes_spelled_from text place ≡ Some bytes → length bytes ≤ length text)
    → (bytes : List ℕ) → bytes_behind char (bytes_spelled_from text) ≡ Some bytes → length bytes ≤ length text + 1
behind_character Bad text ih bytes h = cc
behind_character (Inside place) text ih bytes h = omega (arith, ih place bytes h)
behind_character (Ends b) text ih bytes h = onto_byte b (length text) (bytes_spelled_from text Between) (ih Between) bytes h

ended : (place : Spelling) (bytes : List ℕ) → spelling_end place ≡ Some bytes → length bytes ≤ 0
ended Between bytes h = let same : [] ≡ bytes = cc in subst (λ (found : List ℕ). length found ≤ 0) same (omega arith)
ended Escape bytes h = cc
ended Hex bytes h = cc
ended (HexDigit high) bytes h = cc

bytes_shorten : (text : List ℕ) (place : Spelling) (bytes : List ℕ) → bytes_spelled_from text place ≡ Some bytes → length bytes ≤ length text
unfolding bytes_spelled_from
bytes_shorten [] place bytes h = ended place bytes h
bytes_shorten (c ∷ text) place bytes h = omega (arith, behind_character (character_at place c) text (bytes_shorten text) bytes h)

pub some_text : (found : Option (List ℕ)) (bytes : List ℕ) → ok_or found BadText ≡ Ok bytes → found ≡ Some bytes
some_text None bytes h = cc
some_text (Some found) bytes h = cc

pub text_shortens : (text bytes : List ℕ) → text_in text ≡ Ok bytes → length bytes ≤ length text
unfolding text_in
text_shortens text bytes h = bytes_shorten text Between bytes (some_text (bytes_of text) bytes h)

end_by : (text : List ℕ) (b : ℕ) (there : Bool) → nat_eq (slice_index text (length text - 1)) b ≡ there → length (without_end text b) ≤ length text
unfolding without_end
end_by text b true e = rw e (omega (arith, length-take (length text - 1) text))
end_by text b false e = rw e (omega arith)

end_shortens : (text : List ℕ) (b : ℕ) → length (without_end text b) ≤ length text
end_shortens text b = end_by text b _ refl

line_by : (piece : List ℕ) (feed : Bool) → nat_lt (length (without_end piece 10)) (length piece) ≡ feed → length (line_in piece) ≤ length piece
unfolding line_in
line_by piece true e = rw e (omega (arith, end_shortens piece 10, end_shortens (without_end piece 10) 13))
line_by piece false e = rw e (omega arith)

pub line_shortens : (piece : List ℕ) → length (line_in piece) ≤ length piece
line_shortens piece = line_by piece _ refl

lengths-with_first : (b : ℕ) (pieces : List (List ℕ)) → sum_by length (with_first b pieces) ≡ sum_by length pieces + 1
unfolding with_first
lengths-with_first b [] = refl
lengths-with_first b (piece ∷ pieces) = omega (arith, sum_by-cons length (b ∷ piece) pieces, sum_by-cons length piece pieces)

lengths_by : (b : ℕ) (text : List ℕ) → sum_by length (cuts_of text) ≡ length text → (feed : Bool) → nat_eq b 10 ≡ feed
    → sum_by length (cuts_of (b ∷ text)) ≡ length (b ∷ text)
unfolding cuts_of
lengths_by b text ih true e = rw e (omega (arith, sum_by-cons length (b ∷ []) (cuts_of text)))
lengths_by b text ih false e = rw e (omega (arith, lengths-with_first b (cuts_of text)))

-- the pieces of a text have its bytes
pub lengths-cuts : (text : List ℕ) → sum_by length (cuts_of text) ≡ length text
unfolding cuts_of
lengths-cuts [] = refl
lengths-cuts (b ∷ text) = lengths_by b text (lengths-cuts text) (nat_eq b 10) refl

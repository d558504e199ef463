-- Arguments of commands: strings and atoms, which a space or the end of the line ends, and what stands behind a space.
use Rattle.std.proofs.Common.{◌≡◌, ℕ, [], ◌∷◌, Bool, true, false, not, ◌==◌, refl}
use Rattle.grammar.specs.Exact.{any, among}
use Rattle.grammar.specs.Forms.{Form, Law, preceded, several, ◌spaced◌}
use Rattle.grammar.specs.Runs.{run_of}
use Rattle.grammar.proofs.Conditions.{not_true, among_all}
use Rattle.grammar.proofs.FormLaw.{Within, one_byte, apart_byte, law_weaker, law_behind, law_maybe, law_spaced}
use Rattle.grammar.proofs.RepetitionLaw.{begins_any}
use Rattle.grammar.proofs.RunLaw.{lawful_run, apart_run}
use Rattle.grammar.proofs.SeveralLaw.{law_several}
use Rattle.grammar.proofs.WordLaw.{good_word}
use Rattle.imap_command.specs.Arguments.{one_string, two_strings, optional_string}
use Rattle.imap_text.specs.Characters.{is_astring_char, is_atom_char}
use Rattle.imap_text.specs.Strings.{astring, literal, argument, message, atom}
use Rattle.imap_text.proofs.StringsLaw.{good_astring, good_literal}
use Rattle.imap_text.proofs.StringsPrinted.{prints_argument, prints_message}

-- a space or the end of the line
abbrev pub ends_atom : ℕ → Bool
ends_atom = among (32 ∷ 13 ∷ [])

-- the end of the line
abbrev pub ends_line : ℕ → Bool
ends_line c = c == 13

pub line_ends_atom : Within ends_line ends_atom
line_ends_atom = one_byte 13 ends_atom refl

ends_astring : (c : ℕ) → ends_atom c ≡ true → is_astring_char c ≡ false
unfolding is_astring_char
ends_astring c h = not_true (is_astring_char c) (among_all (λ c. not (is_astring_char c)) (32 ∷ 13 ∷ []) refl c h)

atom_ends : (c : ℕ) → ends_atom c ≡ true → is_atom_char c ≡ false
unfolding is_astring_char is_atom_char
atom_ends c h = not_true (is_atom_char c) (among_all (λ c. not (is_atom_char c)) (32 ∷ 13 ∷ []) refl c h)

pub law_argument : Law any ends_atom argument
law_argument = record { good = λ V. good_astring ends_atom ends_astring; begins = begins_any ends_atom astring; prints = prints_argument }

pub law_message : (after : ℕ → Bool) → Law any after message
law_message after = record { good = λ V. good_literal after; begins = begins_any after literal; prints = prints_message }

pub law_atom : Law any ends_atom atom
unfolding is_astring_char is_atom_char
law_atom = record {
  good = λ V. good_word (run_of is_atom_char) (lawful_run is_atom_char 97 refl) ends_atom (apart_run is_atom_char ends_atom atom_ends);
  begins = begins_any ends_atom atom.part;
  prints = λ bytes text l. (refl, l.1);
}

-- what stands behind a space, up to the end of the line
pub arguments_behind : {A : Type 0} {starts wide : ℕ → Bool} (p : Form A) → wide 13 ≡ true → Law starts wide p → Law ends_atom ends_line (preceded 32 p)
arguments_behind {A} {starts} {wide} p is g =
    law_weaker ends_atom ends_line (preceded 32 p) (one_byte 32 ends_atom refl) (one_byte 13 wide is) (law_behind 32 p g)

pub law_one_string : Law ends_atom ends_line one_string
law_one_string = arguments_behind argument refl law_argument

-- two strings, behind which a space may stand
pub law_strings : Law ends_atom ends_atom two_strings
law_strings =
    law_weaker ends_atom ends_atom two_strings (one_byte 32 ends_atom refl) (λ c h. h)
    (law_behind 32 (argument spaced argument) (law_spaced argument argument refl law_argument law_argument))

pub law_two_strings : Law ends_atom ends_line two_strings
law_two_strings = law_weaker ends_atom ends_line two_strings (λ c h. h) line_ends_atom law_strings

pub law_optional_string : Law ends_atom ends_line optional_string
law_optional_string =
    law_weaker ends_atom ends_line optional_string (λ c h. h) (one_byte 13 line_only refl)
    (law_maybe line_only 32 argument refl (law_weaker any line_only argument (λ c h. h) line_within law_argument))
  where
    line_only : ℕ → Bool
    line_only = among (13 ∷ [])

    line_within : Within line_only ends_atom
    line_within = among_all ends_atom (13 ∷ []) refl

pub law_atoms : Law ends_atom ends_line (preceded 32 (several 32 atom))
law_atoms = arguments_behind (several 32 atom) refl (law_several ends_line 32 atom law_atom refl (apart_byte 32 ends_line refl) line_ends_atom)

-- AUTHENTICATE: the law of its arguments.
use Rattle.std.proofs.Common.{◌≡◌, ℕ, [], ◌∷◌, true, false, not, refl, codes}
use Rattle.grammar.specs.Exact.{any, among}
use Rattle.grammar.specs.Forms.{Law, maybe, worded}
use Rattle.grammar.specs.Runs.{run_of}
use Rattle.grammar.proofs.Conditions.{not_true, among_all}
use Rattle.grammar.proofs.FormLaw.{law_maybe}
use Rattle.grammar.proofs.NamesLaw.{law_worded}
use Rattle.grammar.proofs.RepetitionLaw.{begins_any}
use Rattle.grammar.proofs.RunLaw.{lawful_run, apart_run}
use Rattle.grammar.proofs.WordLaw.{good_word}
use Rattle.imap_command.specs.Authenticate.{is_base64_char, response, authenticate_form}
use Rattle.imap_command.proofs.ArgumentsLaw.{ends_atom, ends_line, arguments_behind}

base64_ends : (c : ℕ) → among (13 ∷ []) c ≡ true → is_base64_char c ≡ false
unfolding is_base64_char
base64_ends c h = not_true (is_base64_char c) (among_all (λ c. not (is_base64_char c)) (13 ∷ []) refl c h)

law_response : Law any (among (13 ∷ [])) response
unfolding is_base64_char
law_response = record {
  good = λ V. good_word (run_of is_base64_char) (lawful_run is_base64_char 97 refl) (among (13 ∷ [])) (apart_run is_base64_char (among (13 ∷ [])) base64_ends);
  begins = begins_any (among (13 ∷ [])) response.part;
  prints = λ bytes text l. (refl, l.1);
}

pub law_authenticate : Law ends_atom ends_line authenticate_form
law_authenticate =
    arguments_behind (worded (codes "PLAIN") (maybe 32 response)) refl
    (law_worded (codes "PLAIN") (32 ∷ 13 ∷ []) (maybe 32 response) refl refl refl (law_maybe (among (13 ∷ [])) 32 response refl law_response))

-- The commands that are left out (RFC 9051, 6.3.6 to 6.3.8, 6.3.10, 6.4.8 and 6.4.9; RFC 3501, 6.3.9): a name, and behind a space anything. The
-- octets are kept as they are spelled, lines and literals among them.
use Rattle.std.specs.Prelude.{ℕ, ◌==◌, List, [], ◌∷◌, ◌++◌, codes}
use Rattle.mur_base.specs.Ascii.{space, crlf}
use Rattle.grammar.specs.Ends.{all_before}
use Rattle.grammar.specs.Part.{Part, ◌then◌, map, byte, choose}
use Rattle.grammar.specs.Tables.{any_case}
use Rattle.grammar.specs.Words.{word}
use Rattle.imap_types.specs.declared.command.Command.{Command}
use Rattle.imap_types.specs.declared.command.Command.TheVariants as command
use Rattle.imap_text.specs.Strings.{crlf_part}

abbrev pub left_out_names : List (List ℕ)
left_out_names =
    codes "LSUB" ∷ codes "MOVE" ∷ codes "NAMESPACE" ∷ codes "RENAME" ∷ codes "SUBSCRIBE" ∷ codes "UID MOVE" ∷ codes "UNSUBSCRIBE" ∷ []

-- [SP *OCTET] CRLF, without the CRLF that is the last
abbrev pub to_the_end : Part (List ℕ)
to_the_end = choose (λ c. c == space) (byte space then λ _. map (λ text. space ∷ text) (all_before crlf)) (map (λ _. []) crlf_part)

abbrev pub left_out : Part Command
left_out = word (any_case left_out_names) then λ name. map (λ text. command.LeftOut (name ++ text)) to_the_end

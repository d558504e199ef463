-- Commands are read exactly.
use Rattle.std.proofs.Common.{◌≡◌, ℕ, List, Bool, ◌==◌, Result, Ok, inl, inr, ⊎_elim, refl, sym, ap, subst, eqb-true, lit<}
use Rattle.grammar.specs.Part.{map}
use Rattle.grammar.specs.Exact.{Good, Exact, any, none, whole_at}
use Rattle.grammar.specs.Forms.{Law}
use Rattle.grammar.specs.Words.{word, Lawful, Apart}
use Rattle.grammar.proofs.EndsLaw.{good_beside}
use Rattle.grammar.proofs.RepetitionLaw.{begins_any}
use Rattle.grammar.proofs.SequenceLaw.{good_map, exact_whole}
use Rattle.grammar.proofs.WordLaw.{good_word}
use Rattle.grammar.proofs.RunLaw.{lawful_run_upto, apart_run_upto}
use Rattle.grammar.proofs.ToolLaws.{good_sp}
use Rattle.imap_text.specs.Characters.{is_tag_byte}
use Rattle.imap_command.specs.LeftOut.{left_out}
use Rattle.imap_command.specs.Spells.{tags, known, command_text, commands, tagged_command, Spells}
use Rattle.imap_types.specs.declared.command.Command.{Command}
use Rattle.imap_types.specs.declared.command.Command.TheVariants as command
use Rattle.imap_types.specs.declared.command.Tag.{Tag}
use Rattle.imap_types.specs.declared.command.Tag.TheVariants.{Text}
use Rattle.imap_command.proofs.KnownLaw.{law_known, not_known}
use Rattle.imap_command.proofs.LeftOutLaw.{good_left_out, known_apart, left_out_text}

abbrev pub is_space : ℕ → Bool
is_space c = c == 32

pub lawful_tags : Lawful tags
unfolding is_tag_byte
lawful_tags = lawful_run_upto is_tag_byte 32 97 refl (lit< tt)

pub apart_tags : Apart tags is_space
unfolding is_tag_byte
apart_tags = apart_run_upto is_tag_byte 32 is_space (λ c h. ap is_tag_byte (eqb-true c 32 h))

text_is_known : (bytes : List ℕ) (it : Command) → known.part.lang bytes it → command_text it ≡ known.text it
unfolding command_text
text_is_known bytes (command.LeftOut octets) l = absurd (not_known octets bytes l)
text_is_known bytes it l = refl

pub law_commands : Law any none commands
law_commands = record {
  good = λ V. good_beside known.part left_out (exact_whole known.part (law_known.good Command)) (exact_whole left_out good_left_out) known_apart;
  begins = begins_any none commands.part;
  prints = λ bytes it l.
      ⊎_elim (λ l. inl (subst (λ s. known.part.lang s it) (sym (text_is_known bytes it l)) (law_known.prints bytes it l)))
      (λ l. inr (subst (λ s. left_out.lang s it) (left_out_text bytes it l) l)) l;
}

good_command : {V : Type 0} → Good V none tagged_command
unfolding tagged_command
good_command {V} =
    good_sp (word tags) (λ tag. map (λ it. (Text tag, it)) commands.part) refl (good_word tags lawful_tags is_space apart_tags)
    (λ tag. good_map (λ it. (Text tag, it)) commands.part (law_commands.good V))

-- what is read is spelled, what is spelled is read, and a stop is behind the longest prefix that begins some command
pub exact_command : Exact Spells (whole_at tagged_command)
exact_command = exact_whole tagged_command good_command

-- no frame spells two commands
pub spelled_once : (frame : List ℕ) (one other : Tag × Command) → Spells frame one → Spells frame other → one ≡ other
spelled_once frame one other h k = same (exact_command.only frame one h) (exact_command.only frame other k)
  where
    same : {r : Result (Tag × Command) ℕ} → r ≡ Ok one → r ≡ Ok other → one ≡ other
    same h k = cc

-- How texts make lines.
use Rattle.std.proofs.Common.{◌≡◌, ℕ, ◌==◌, Bool, true, false, cond}
use Rattle.std.proofs.Common.{List, [], ◌∷◌, ◌++◌, refl, sym, ◌∙◌, ap, subst, append_assoc, arith}
use Rattle.std.proofs.lemmas.Bool.{and_parts}
use Rattle.std.proofs.lemmas.Bool.Decides.{nat_tests}
use Rattle.std.specs.List.{list_all}
use Rattle.std.specs.Prelude.{All}
use Rattle.std.proofs.lemmas.List.Elements.{All-head, All-tail}
use Rattle.mur_base.specs.Ascii.{crlf}
use Rattle.mur_base.specs.Number.{is_digit}
use Rattle.imap_text.specs.Strings.{escaped_text, quoted_text, is_atom}
use Rattle.mail_message.specs.Literals.{IsPlain, server_literal, is_within, IsPart}
use Rattle.imap_reply.specs.Lines.{Announcing, after_byte, after_text, is_announced, IsLine}
use Rattle.imap_reply.specs.Lines.Announcing.{nothing}
use Rattle.imap_reply.specs.Lines.IsLine.{ends, goes_on}
use Rattle.mail_message.specs.Literals.IsPart.{plain, with_literal}
use Rattle.std.proofs.lemmas.Bool.{and_parts}
use Rattle.std.specs.Prelude.{◌&&◌, not}
use Rattle.imap_reply.specs.Mailbox.{is_bare, is_nil, mailbox_text}
use Rattle.imap_reply.specs.Spaced.{more_spaced, spaced_text}
use Rattle.imap_reply.specs.SoundTexts.{is_calm, IsCalm}
use Rattle.mail_message.proofs.PlainTexts.{all_append}
use Rattle.imap_reply.proofs.Texts.{atom_calm}

pub after_append : (state : Announcing) (s t : List ℕ) → after_text state (s ++ t) ≡ after_text (after_text state s) t
unfolding after_text
after_append state [] t = refl
after_append state (c ∷ s) t = after_append (after_byte state c) s t

calm_byte : (c : ℕ) → is_calm c ≡ true → after_byte nothing c ≡ nothing
unfolding after_byte
calm_byte c h =
    let brace : (c == 123) ≡ false = grind (arith, nat_tests, h) in
    rw brace (no_change (is_digit c) (c == 43) (c == 125))
  where
    no_change : (x y z : Bool) → cond x nothing (cond y nothing (cond z nothing nothing)) ≡ nothing
    no_change true y z = refl
    no_change false true z = refl
    no_change false false true = refl
    no_change false false false = refl

pub after_calm : (text : List ℕ) → IsCalm text → after_text nothing text ≡ nothing
unfolding after_text
after_calm [] calm = refl
after_calm (c ∷ text) calm =
    let both = and_parts (is_calm c) (list_all is_calm text) calm in
    rw (calm_byte c both.0) (after_calm text both.1)

-- a text whose end announces nothing, whatever stands before it
pub line_of : (front end : List ℕ) → IsPlain front → IsPlain end → ((state : Announcing) → is_announced (after_text state end) ≡ false)
    → IsLine (front ++ (end ++ crlf))
line_of front end one other silent =
    subst IsLine (append_assoc front end crlf)
    (ends (front ++ end) (all_append is_within front end one other) (ap is_announced (after_append nothing front end) ∙ silent (after_text nothing front)))

-- a line before which a text is put, where something stands before its first CRLF or literal
pub record Fits (line : List ℕ) : Type 0 where
  pub before : (text : List ℕ) → IsPlain text → IsLine (text ++ line)

pub fits_of : (end : List ℕ) → IsPlain end → ((state : Announcing) → is_announced (after_text state end) ≡ false) → Fits (end ++ crlf)
fits_of end other silent = record { before = λ text one. line_of text end one other silent }

-- a text stands in front
pub text_fits : (text line : List ℕ) → IsPlain text → Fits line → Fits (text ++ line)
text_fits text line one fits = record {
  before = λ front before. subst IsLine (append_assoc front text line) (fits.before (front ++ text) (all_append is_within front text before one));
}

-- a part stands in front
pub part_fits : (part line : List ℕ) → IsPart part → Fits line → Fits (part ++ line)
part_fits _ line (plain text one) fits = text_fits text line one fits
part_fits _ line (with_literal text octets rest one counted inner) fits =
    let behind : IsLine (rest ++ line) = (part_fits rest line inner fits).before [] refl in
    record {
      before = λ front before.
          subst IsLine (regroup front text (server_literal octets) rest line)
          (goes_on (front ++ text) octets (rest ++ line) (all_append is_within front text before one) counted behind);
    }
  where
    regroup : (a b c d e : List ℕ) → (a ++ b) ++ (c ++ (d ++ e)) ≡ a ++ ((b ++ (c ++ d)) ++ e)
    regroup a b c d e = simp append_assoc refl

more_parts_fit : (parts : List (List ℕ)) (line : List ℕ) → All IsPart parts → Fits line → Fits (more_spaced parts ++ line)
unfolding more_spaced
more_parts_fit [] line all fits = fits
more_parts_fit (part ∷ parts) line all fits =
    subst Fits (ap (λ t. 32 ∷ t) (sym (append_assoc part (more_spaced parts) line)))
    (text_fits (32 ∷ []) (part ++ (more_spaced parts ++ line)) refl
    (part_fits part (more_spaced parts ++ line) (All-head IsPart part parts all)
    (more_parts_fit parts line (All-tail IsPart part parts all) fits)))

pub parts_fit : (parts : List (List ℕ)) (line : List ℕ) → All IsPart parts → Fits line → Fits (spaced_text parts ++ line)
unfolding spaced_text
parts_fit [] line all fits = fits
parts_fit (part ∷ parts) line all fits =
    subst Fits (sym (append_assoc part (more_spaced parts) line))
    (part_fits part (more_spaced parts ++ line) (All-head IsPart part parts all)
    (more_parts_fit parts line (All-tail IsPart part parts all) fits))

-- a name announces nothing
quoted_state : (text : List ℕ) → after_text nothing (quoted_text text) ≡ nothing
unfolding quoted_text after_text after_byte is_digit
quoted_state text = after_append nothing (escaped_text text) (34 ∷ [])

either : (b : Bool) (s t : List ℕ) → (b ≡ true → after_text nothing s ≡ nothing) → after_text nothing t ≡ nothing → after_text nothing (cond b s t) ≡ nothing
either true s t one other = one refl
either false s t one other = other

pub mailbox_state : (name : List ℕ) → after_text nothing (mailbox_text name) ≡ nothing
unfolding mailbox_text is_bare
mailbox_state name = either (is_atom name && not (is_nil name)) name (quoted_text name)
    (λ h. after_calm name (atom_calm name (and_parts (is_atom name) (not (is_nil name)) h).0)) (quoted_state name)

-- the end of a line from a space on, which announces nothing
pub end_fits : (text : List ℕ) → IsPlain text → after_text nothing text ≡ nothing → Fits (32 ∷ (text ++ crlf))
unfolding after_text after_byte is_digit
end_fits text one state = fits_of (32 ∷ text) one (λ from. ap is_announced state)

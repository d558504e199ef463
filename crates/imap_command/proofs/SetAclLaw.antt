-- SETACL: the law of its arguments.
use Rattle.std.proofs.Common.{◌≡◌, ℕ, List, [], ◌∷◌, Bool, true, false, ◌==◌, cond, refl, sym, ap, eqb-true}
use Rattle.grammar.specs.Exact.{any}
use Rattle.grammar.specs.Forms.{Law, ◌spaced◌}
use Rattle.grammar.proofs.FormLaw.{law_made, law_spaced}
use Rattle.mail_message.specs.declared.mode.Mode.TheVariants.{Replace, Add, Remove}
use Rattle.imap_command.specs.SetAcl.{rights_of, signed, mod_rights, set_acl}
use Rattle.imap_text.specs.Strings.{argument, astring_text}
use Rattle.imap_command.proofs.ArgumentsLaw.{ends_atom, ends_line, law_argument, arguments_behind}

-- a sign and the rights behind it are what was there
signed_again : (text : List ℕ) → signed (rights_of text) ≡ text
signed_again [] = refl
signed_again (c ∷ text) = by_sign (c == 43) (c == 45) refl refl
  where
    by_sign : (add remove : Bool) → (c == 43) ≡ add → (c == 45) ≡ remove
        → signed (cond add (Add, text) (cond remove (Remove, text) (Replace, c ∷ text))) ≡ c ∷ text
    by_sign true remove e k = ap (λ d. d ∷ text) (sym (eqb-true c 43 e))
    by_sign false true e k = ap (λ d. d ∷ text) (sym (eqb-true c 45 k))
    by_sign false false e k = refl

law_mod_rights : Law any ends_atom mod_rights
law_mod_rights = law_made rights_of (λ x. astring_text (signed x)) argument (λ text. ap astring_text (signed_again text)) law_argument

pub law_set_acl : Law ends_atom ends_line set_acl
law_set_acl =
    arguments_behind _ refl
    (law_spaced argument (argument spaced mod_rights) refl law_argument (law_spaced argument mod_rights refl law_argument law_mod_rights))

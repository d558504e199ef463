-- A mailbox's name as a user is shown it holds no end of a line.
use Rattle.std.proofs.Common.{◌≡◌, ℕ, zero, suc, ◌==◌, Bool, true, false, ◌&&◌, not, cond, List, [], ◌∷◌, length, drop, codes, refl, arith}
use Rattle.std.proofs.Common.{None, Some}
use Rattle.std.specs.Prelude.{nat_lt, nat_eq}
use Rattle.std.specs.List.{list_all, starts_with}
use Rattle.std.specs.Str.{is_utf8}
use Rattle.std.proofs.lemmas.Bool.{and_parts}
use Rattle.std.proofs.lemmas.Bool.Decides.{nat_tests}
use Rattle.mur_base.specs.declared.limits.TheConstants.{NAME_LIMIT}
use Rattle.mur_base.specs.declared.name.NameFault.TheVariants.{Empty, TooLong, BadByte, BadLevel}
use Rattle.mur_base.specs.Inbox.{own_name, is_level_end, behind, moved, shown_name}
use Rattle.mur_base.specs.Names.{is_mail_name_byte, has_mail_name_bytes, has_empty_level, mail_name_fault}
use Rattle.mail_message.specs.Literals.{IsPlain, is_within}
use Rattle.mail_message.proofs.PlainTexts.{all_weaker}

name_byte_within : (c : ℕ) → is_mail_name_byte c ≡ true → is_within c ≡ true
unfolding is_mail_name_byte
name_byte_within c h = grind (arith, nat_tests, h)

bytes_rule : (x y z w : Bool) → cond x (Some Empty) (cond y (Some TooLong) (cond (not z) (Some BadByte) (cond w (Some BadLevel) None))) ≡ None → z ≡ true
bytes_rule x y true w h = refl
bytes_rule true y false w h = cc
bytes_rule false true false w h = cc
bytes_rule false false false w h = cc

pub name_plain : (name : List ℕ) → mail_name_fault name ≡ None → IsPlain name
unfolding mail_name_fault has_mail_name_bytes
name_plain name h =
    let bytes = bytes_rule (length name == 0) (nat_lt NAME_LIMIT (length name)) (is_utf8 name && list_all is_mail_name_byte name) (has_empty_level name) h in
    all_weaker is_mail_name_byte is_within name_byte_within name (and_parts (is_utf8 name) (list_all is_mail_name_byte name) bytes).1

dropped_plain : (n : ℕ) (text : List ℕ) → IsPlain text → IsPlain (drop n text)
dropped_plain zero text plain = plain
dropped_plain (suc n) [] plain = refl
dropped_plain (suc n) (c ∷ text) plain = dropped_plain n text (and_parts (is_within c) (list_all is_within text) plain).1

moved_plain : (b : Bool) (name rest : List ℕ) → IsPlain name → IsPlain rest → IsPlain (moved name (codes "INBOX") (cond b (Some rest) None))
moved_plain true name rest one other = other
moved_plain false name rest one other = one

pub shown_plain : (user name : List ℕ) → mail_name_fault name ≡ None → IsPlain (shown_name user name)
unfolding shown_name behind
shown_plain user name h =
    let plain = name_plain name h in
    let top = own_name user in
    moved_plain (starts_with nat_eq name top && is_level_end (drop (length top) name)) name (drop (length top) name) plain
    (dropped_plain (length top) name plain)

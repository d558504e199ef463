-- The lines of a search, of a message and of rights are each one line.
use Rattle.std.proofs.Common.{◌≡◌, ℕ, Bool, true, false, cond, List, [], ◌∷◌, ◌++◌, codes, decimal, refl, sym, ◌∙◌, ap, subst, append_assoc}
use Rattle.std.specs.Prelude.{All}
use Rattle.std.specs.List.{list_all, list_any, slice_split, onto_first}
use Rattle.std.proofs.lemmas.Bool.{and_parts}
use Rattle.std.proofs.lemmas.List.Elements.{All-nil, All-cons, All-head, All-tail}
use Rattle.mur_base.specs.Ascii.{crlf}
use Rattle.mur_base.specs.Number.{is_digit}
use Rattle.imap_types.specs.declared.command.Tag.{Tag}
use Rattle.imap_types.specs.declared.command.Tag.TheVariants.{Star, Text}
use Rattle.mail_message.specs.Literals.{IsPlain, IsPart, is_within}
use Rattle.imap_reply.specs.Lines.{IsLine, is_announced, after_text, after_byte}
use Rattle.imap_reply.specs.Lines.Announcing.{nothing}
use Rattle.imap_reply.specs.SoundTexts.{IsSoundTag, IsCalm, is_calm}
use Rattle.imap_reply.specs.AccessLines.{is_tab, is_create, is_delete, create_text, delete_text, rights_text, entries_text, acl_line, my_rights_line}
use Rattle.imap_reply.specs.FetchLine.{fetch_line}
use Rattle.imap_reply.specs.Mailbox.{mailbox_text}
use Rattle.imap_reply.specs.SearchLine.{uid_word, all_text, search_line}
use Rattle.imap_reply.specs.Spaced.{spaced_text}
use Rattle.imap_text.specs.Tags.{tag_text}
use Rattle.mail_message.proofs.PlainTexts.{all_append, one_of}
use Rattle.imap_reply.proofs.LineLaws.{line_of, fits_of, parts_fit, end_fits, mailbox_state, after_append, after_calm}
use Rattle.imap_reply.proofs.Texts.{calm_plain, decimal_calm, set_calm, tag_calm, mailbox_calm, mailbox_plain}

-- searches

pub tag_plain : (tag : Tag) → IsSoundTag tag → IsPlain (tag_text tag)
unfolding tag_text IsSoundTag
tag_plain Star sound = refl
tag_plain (Text text) sound = calm_plain text (tag_calm text sound.bytes)

found_calm : (by_uid : Bool) (numbers : List ℕ) → IsCalm (uid_word by_uid ++ all_text numbers)
unfolding uid_word all_text
found_calm true [] = refl
found_calm false [] = refl
found_calm true (number ∷ numbers) = set_calm (number ∷ numbers)
found_calm false (number ∷ numbers) = set_calm (number ∷ numbers)

pub search_is_line : (tag : Tag) (by_uid : Bool) (numbers : List ℕ) → IsSoundTag tag → IsLine (search_line tag by_uid numbers)
unfolding search_line after_text after_byte is_digit
search_is_line tag by_uid numbers sound =
    let found = uid_word by_uid ++ all_text numbers in
    let calm : IsCalm found = found_calm by_uid numbers in
    subst IsLine (regroup (codes "* ESEARCH (TAG \"") (tag_text tag) (codes "\")") (uid_word by_uid) (all_text numbers) crlf)
    (line_of (codes "* ESEARCH (TAG \"" ++ tag_text tag) (codes "\")" ++ found) (tag_plain tag sound) (calm_plain found calm)
    (λ state. ap is_announced (after_calm found calm)))
  where
    regroup : (a b c d e f : List ℕ) → (a ++ b) ++ ((c ++ (d ++ e)) ++ f) ≡ a ++ b ++ c ++ d ++ e ++ f
    regroup a b c d e f = simp append_assoc refl

-- messages

pub fetch_is_line : (number : ℕ) (parts : List (List ℕ)) → All IsPart parts → IsLine (fetch_line number parts)
unfolding fetch_line after_text after_byte is_digit
fetch_is_line number parts sound =
    let front = codes "* " ++ decimal number ++ codes " FETCH (" in
    subst IsLine (sym (append_assoc front (spaced_text parts) (codes ")\r\n")))
    ((parts_fit parts (codes ")\r\n") sound (fits_of (codes ")") refl (λ state. refl))).before front
    (all_append is_within (decimal number) (codes " FETCH (") (calm_plain (decimal number) (decimal_calm number)) refl))

-- rights

rights_calm : (letters : List ℕ) → IsCalm letters → IsCalm (rights_text letters)
unfolding rights_text create_text delete_text
rights_calm letters calm =
    all_append is_calm (letters ++ create_text letters) (delete_text letters)
    (all_append is_calm letters (create_text letters) calm (one_of is_calm (list_any is_create letters) (codes "c") [] refl refl))
    (one_of is_calm (list_any is_delete letters) (codes "d") [] refl refl)

entries_calm : (fields : List (List ℕ)) → All IsCalm fields → IsCalm (entries_text fields)
unfolding entries_text
entries_calm [] all = refl
entries_calm (identifier ∷ []) all = refl
entries_calm (identifier ∷ rights ∷ fields) all =
    let more = All-tail IsCalm identifier (rights ∷ fields) all in
    all_append is_calm (mailbox_text identifier) (32 ∷ (rights_text rights ++ entries_text fields))
    (mailbox_calm identifier (All-head IsCalm identifier (rights ∷ fields) all))
    (all_append is_calm (rights_text rights) (entries_text fields) (rights_calm rights (All-head IsCalm rights fields more))
    (entries_calm fields (All-tail IsCalm rights fields more)))

onto_calm : (c : ℕ) (fields : List (List ℕ)) → is_calm c ≡ true → All IsCalm fields → All IsCalm (onto_first c fields)
onto_calm c [] calm all = All-cons IsCalm (c ∷ []) [] (rw calm refl) (All-nil IsCalm)
onto_calm c (field ∷ fields) calm all =
    All-cons IsCalm (c ∷ field) fields (rw (calm, All-head IsCalm field fields all) refl) (All-tail IsCalm field fields all)

cut_calm : (b : Bool) (c : ℕ) (fields : List (List ℕ)) → is_calm c ≡ true → All IsCalm fields → All IsCalm (cond b ([] ∷ fields) (onto_first c fields))
cut_calm true c fields calm all = All-cons IsCalm [] fields refl all
cut_calm false c fields calm all = onto_calm c fields calm all

fields_calm : (text : List ℕ) → IsCalm text → All IsCalm (slice_split is_tab text)
fields_calm [] calm = All-cons IsCalm [] [] refl (All-nil IsCalm)
fields_calm (c ∷ text) calm =
    let both = and_parts (is_calm c) (list_all is_calm text) calm in
    cut_calm (is_tab c) c (slice_split is_tab text) both.0 (fields_calm text both.1)

named : (front name end : List ℕ) → IsPlain front → IsPlain name → IsCalm end → IsLine (((front ++ 32 ∷ []) ++ mailbox_text name ++ end) ++ crlf)
named front name end one other calm =
    let text = mailbox_text name ++ end in
    let plain : IsPlain text = all_append is_within (mailbox_text name) end (mailbox_plain name other) (calm_plain end calm) in
    let state : after_text nothing text ≡ nothing =
    after_append nothing (mailbox_text name) end ∙ ap (λ state. after_text state end) (mailbox_state name) ∙ after_calm end calm in
    subst IsLine (regroup front (mailbox_text name) end crlf) ((end_fits text plain state).before front one)
  where
    regroup : (a b c d : List ℕ) → a ++ (32 ∷ ((b ++ c) ++ d)) ≡ (((a ++ 32 ∷ []) ++ b) ++ c) ++ d
    regroup a b c d = simp append_assoc refl

pub acl_is_line : (name acl : List ℕ) → IsPlain name → IsCalm acl → IsLine (acl_line name acl)
unfolding acl_line
acl_is_line name acl sound calm =
    named (codes "* ACL") name (entries_text (slice_split is_tab acl)) refl sound (entries_calm (slice_split is_tab acl) (fields_calm acl calm))

pub my_rights_is_line : (name letters : List ℕ) → IsPlain name → IsCalm letters → IsLine (my_rights_line name letters)
unfolding my_rights_line
my_rights_is_line name letters sound calm = named (codes "* MYRIGHTS") name (32 ∷ rights_text letters) refl sound (rights_calm letters calm)

-- What an item gives is a part of a line: no line ends in it but within a literal.
use Rattle.std.proofs.Common.{◌≡◌, ℕ, ◌<◌, ◌^◌, Bool, true, false, List, [], ◌∷◌, ◌++◌, length, drop, codes, decimal, Option, Some, None}
use Rattle.std.proofs.Common.{if◌then◌else◌, refl, subst, arith}
use Rattle.std.specs.Prelude.{All}
use Rattle.std.proofs.lemmas.List.{append-nil, length-take, length-drop}
use Rattle.std.proofs.lemmas.List.Elements.{All-nil, All-cons, All-head, All-tail, All-weaker, All-append}
use Rattle.mur_base.specs.Ascii.{quote}
use Rattle.mail_message.specs.declared.item.Item.{Item}
use Rattle.mail_message.specs.declared.item.Item.TheVariants.{Flags as flags_item, Uid, InternalDate, Size, Body, BodyPeek}
use Rattle.mail_message.specs.declared.item.Partial.{Partial}
use Rattle.mail_message.specs.declared.message.Message.{Message}
use Rattle.mail_message.specs.declared.system_flags.SystemFlags.{SystemFlags}
use Rattle.mail_message.specs.Date.{is_date, date_of}
use Rattle.mail_message.specs.FlagNames.{backslashed}
use Rattle.mail_message.specs.FlagSets.{Flags, HasRuledKeywords}
use Rattle.mail_message.specs.Keywords.{keyword_fault}
use Rattle.mail_message.specs.Literals.{is_within, IsPlain, server_literal, IsPart}
use Rattle.mail_message.specs.Literals.IsPart.{plain, with_literal}
use Rattle.mail_message.proofs.PlainTexts.{all_append, decimal_plain, keyword_plain, date_plain}
use Rattle.mail_fetch.specs.Bodies.{octets_of, body_text}
use Rattle.mail_fetch.specs.FlagText.{name_if_set, system_names, spaced_names, flags_text}
use Rattle.mail_fetch.specs.Parts.{date_text, part_text, size_text, uid_text}

counted_part : (name : List ℕ) (n : ℕ) → IsPlain name → IsPart (name ++ decimal n)
counted_part name n one = plain (name ++ decimal n) (all_append is_within name (decimal n) one (decimal_plain n))

pub uid_is_part : (uid : ℕ) → IsPart (uid_text uid)
uid_is_part uid = counted_part (codes "UID ") uid refl

-- ---- flags

named_plain : (is_set : Bool) (name : List ℕ) → IsPlain name → All IsPlain (name_if_set is_set name)
named_plain true name one = All-cons IsPlain name [] one (All-nil IsPlain)
named_plain false name one = All-nil IsPlain

both_plain : (names others : List (List ℕ)) → All IsPlain names → All IsPlain others → All IsPlain (names ++ others)
both_plain names others one other = All-append IsPlain names others one other

system_plain : (flags : SystemFlags) → All IsPlain (system_names flags)
system_plain flags =
    both_plain (name_if_set flags.answered (backslashed (codes "Answered"))) _ (named_plain flags.answered (backslashed (codes "Answered")) refl)
    (both_plain (name_if_set flags.flagged (backslashed (codes "Flagged"))) _ (named_plain flags.flagged (backslashed (codes "Flagged")) refl)
    (both_plain (name_if_set flags.deleted (backslashed (codes "Deleted"))) _ (named_plain flags.deleted (backslashed (codes "Deleted")) refl)
    (both_plain (name_if_set flags.seen (backslashed (codes "Seen"))) _ (named_plain flags.seen (backslashed (codes "Seen")) refl)
    (named_plain flags.draft (backslashed (codes "Draft")) refl))))

spaced_plain : (begun : Bool) (names : List (List ℕ)) → All IsPlain names → IsPlain (spaced_names begun names)
spaced_plain begun [] all = refl
spaced_plain true (name ∷ names) all =
    all_append is_within name (spaced_names true names) (All-head IsPlain name names all) (spaced_plain true names (All-tail IsPlain name names all))
spaced_plain false (name ∷ names) all =
    all_append is_within name (spaced_names true names) (All-head IsPlain name names all) (spaced_plain true names (All-tail IsPlain name names all))

pub flags_is_part : (flags : Flags) → HasRuledKeywords flags → IsPart (flags_text flags)
flags_is_part flags ruled =
    let keywords = All-weaker (λ keyword. keyword_fault keyword ≡ None) IsPlain keyword_plain flags.keywords ruled in
    let names = both_plain (system_names flags.system) flags.keywords (system_plain flags.system) keywords in
    let text = spaced_names false (system_names flags.system ++ flags.keywords) in
    plain (flags_text flags) (all_append is_within text (codes ")") (spaced_plain false (system_names flags.system ++ flags.keywords) names) refl)

-- ---- bodies

behind_plain : (text octets : List ℕ) → IsPlain text → length octets < 2 ^ 64 → IsPart (text ++ server_literal octets)
behind_plain text octets one counted =
    subst (λ end. IsPart (text ++ end)) (append-nil (server_literal octets)) (with_literal text octets [] one counted (plain [] refl))

fewer : (partial : Partial) (body : List ℕ) → length body < 2 ^ 64 → length (octets_of partial body) < 2 ^ 64
fewer partial body counted =
    let taken = length-take partial.count (drop partial.from body) in
    let dropped = length-drop partial.from body in omega (arith, taken, dropped, counted)

placed_part : (front place behind octets : List ℕ) → IsPlain front → IsPlain place → IsPlain behind → length octets < 2 ^ 64
    → IsPart (front ++ place ++ behind ++ server_literal octets)
placed_part front place behind octets one two three counted =
    behind_plain (front ++ place ++ behind) octets (all_append is_within (front ++ place) behind (all_append is_within front place one two) three) counted

pub body_is_part : (partial : Option Partial) (body : List ℕ) → length body < 2 ^ 64 → IsPart (body_text partial body)
body_is_part None body counted = behind_plain (codes "BODY[] ") body refl counted
body_is_part (Some partial) body counted =
    placed_part (codes "BODY[]<") (decimal partial.from) (codes "> ") (octets_of partial body) refl (decimal_plain partial.from) refl
    (fewer partial body counted)

-- ---- dates

dated_by : (b : Bool) (text date : List ℕ) → (if b then Some text else None) ≡ Some date → b ≡ true
dated_by true text date h = refl
dated_by false text date h = cc

pub dated : (text date : List ℕ) → date_of text ≡ Some date → is_date text ≡ true
unfolding date_of
dated text date h = dated_by (is_date text) text date h

pub date_is_part : (date : List ℕ) → is_date date ≡ true → IsPart (date_text date)
date_is_part date is = plain (date_text date) (all_append is_within date (quote ∷ []) (date_plain date is) refl)

pub size_is_part : (size : ℕ) → IsPart (size_text size)
size_is_part size = counted_part (codes "RFC822.SIZE ") size refl

-- ---- each item

pub item_is_part : (item : Item) (message : Message) → HasRuledKeywords message.flags → is_date message.date ≡ true → length message.body < 2 ^ 64
    → IsPart (part_text item message)
item_is_part flags_item message ruled date counted = flags_is_part message.flags ruled
item_is_part Uid message ruled date counted = uid_is_part message.uid
item_is_part InternalDate message ruled date counted = date_is_part message.date date
item_is_part Size message ruled date counted = size_is_part (length message.body)
item_is_part (Body partial) message ruled date counted = body_is_part partial message.body counted
item_is_part (BodyPeek partial) message ruled date counted = body_is_part partial message.body counted

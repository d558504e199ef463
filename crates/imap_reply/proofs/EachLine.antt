-- Each line that is written is one line.
use Rattle.std.proofs.Common.{◌≡◌, ℕ, Bool, true, false, List, [], ◌∷◌, ◌++◌, map}
use Rattle.std.proofs.Common.{codes, decimal, refl, subst, append_assoc}
use Rattle.std.specs.Prelude.{All}
use Rattle.std.proofs.lemmas.List.Elements.{All-nil, All-cons, All-weaker, All-map, All-append}
use Rattle.mur_base.specs.Ascii.{crlf}
use Rattle.mur_base.specs.Number.{is_digit}
use Rattle.mail_message.specs.declared.flag_name.FlagName.{FlagName}
use Rattle.mail_message.specs.declared.flag_name.FlagName.TheVariants.{System, Keyword}
use Rattle.mail_message.specs.declared.system_flags.SystemFlag.TheVariants.{Answered, Flagged, Deleted, Seen, Draft}
use Rattle.imap_text.specs.FlagNames.{system_text, flag_text}
use Rattle.imap_text.specs.StatusItems.{item_text}
use Rattle.imap_types.specs.declared.command.StatusItem.{StatusItem}
use Rattle.imap_types.specs.declared.command.StatusItem.TheVariants.{Messages, UidNext, UidValidity, Unseen, Deleted as deleted_item, Size}
use Rattle.imap_types.specs.declared.reply.StatusCount.{StatusCount}
use Rattle.imap_types.specs.declared.reply.Attribute.{Attribute}
use Rattle.imap_types.specs.declared.reply.Attribute.TheVariants.{None as no_attribute, NoSelect, NonExistent}
use Rattle.imap_types.specs.declared.reply.Bye as bye
use Rattle.imap_types.specs.declared.reply.Bye.TheVariants.{Logout, Gone, Lost, LineTooLong, LiteralTooLong}
use Rattle.mail_message.specs.Literals.{IsPlain, is_within}
use Rattle.imap_reply.specs.Lines.{IsLine, after_text, after_byte}
use Rattle.imap_reply.specs.SoundTexts.{IsSoundFlag}
use Rattle.imap_reply.specs.ByeLine.{bye_text, bye_line}
use Rattle.imap_reply.specs.Capability.{capability_line}
use Rattle.imap_reply.specs.Enabled.{enabled_line}
use Rattle.imap_reply.specs.ExistsLine.{exists_line}
use Rattle.imap_reply.specs.ExpungeLine.{expunge_line}
use Rattle.imap_reply.specs.FlagsLine.{flag_names_text, flags_line}
use Rattle.imap_reply.specs.ListLine.{attribute_text, list_line}
use Rattle.imap_reply.specs.Mailbox.{mailbox_text}
use Rattle.imap_reply.specs.OkLines.{closed_line, new_keywords, permanent_texts, permanent_line, uid_next_line, uid_validity_line}
use Rattle.imap_reply.specs.Spaced.{spaced_text}
use Rattle.imap_reply.specs.StatusLine.{count_text, more_counts_text, counts_text, status_line}
use Rattle.mail_message.proofs.PlainTexts.{all_append, decimal_plain, keyword_plain}
use Rattle.imap_reply.proofs.LineLaws.{line_of, end_fits, mailbox_state}
use Rattle.imap_reply.proofs.Texts.{spaced_plain, mailbox_plain}

-- texts that stand as they are

pub capability_is_line : IsLine capability_line
unfolding capability_line after_text after_byte is_digit
capability_is_line = line_of [] (codes "* CAPABILITY IMAP4rev2 AUTH=PLAIN") refl refl (λ state. refl)

pub enabled_is_line : IsLine enabled_line
unfolding enabled_line after_text after_byte is_digit
enabled_is_line = line_of [] (codes "* ENABLED") refl refl (λ state. refl)

pub closed_is_line : IsLine closed_line
unfolding closed_line after_text after_byte is_digit
closed_is_line = line_of [] (codes "* OK [CLOSED] closed") refl refl (λ state. refl)

pub bye_is_line : (why : bye.Bye) → IsLine (bye_line why)
unfolding bye_line bye_text after_text after_byte is_digit
bye_is_line Logout = line_of [] (codes "* BYE bye") refl refl (λ state. refl)
bye_is_line Gone = line_of [] (codes "* BYE mailbox is gone") refl refl (λ state. refl)
bye_is_line Lost = line_of [] (codes "* BYE [UNAVAILABLE] server lost") refl refl (λ state. refl)
bye_is_line LineTooLong = line_of [] (codes "* BYE line too long") refl refl (λ state. refl)
bye_is_line LiteralTooLong = line_of [] (codes "* BYE literal too long") refl refl (λ state. refl)

-- numbers

pub exists_is_line : (count : ℕ) → IsLine (exists_line count)
unfolding exists_line after_text after_byte is_digit
exists_is_line count = line_of (codes "* " ++ decimal count) (codes " EXISTS") (decimal_plain count) refl (λ state. refl)

pub expunge_is_line : (number : ℕ) → IsLine (expunge_line number)
unfolding expunge_line after_text after_byte is_digit
expunge_is_line number = line_of (codes "* " ++ decimal number) (codes " EXPUNGE") (decimal_plain number) refl (λ state. refl)

pub uid_next_is_line : (uid : ℕ) → IsLine (uid_next_line uid)
unfolding uid_next_line after_text after_byte is_digit
uid_next_is_line uid = line_of (codes "* OK [UIDNEXT " ++ decimal uid) (codes "] next") (decimal_plain uid) refl (λ state. refl)

pub uid_validity_is_line : (serial : ℕ) → IsLine (uid_validity_line serial)
unfolding uid_validity_line after_text after_byte is_digit
uid_validity_is_line serial = line_of (codes "* OK [UIDVALIDITY " ++ decimal serial) (codes "] validity") (decimal_plain serial) refl (λ state. refl)

-- flags

flag_plain : (flag : FlagName) → IsSoundFlag flag → IsPlain (flag_text flag)
unfolding system_text IsSoundFlag
flag_plain (System Answered) sound = refl
flag_plain (System Flagged) sound = refl
flag_plain (System Deleted) sound = refl
flag_plain (System Seen) sound = refl
flag_plain (System Draft) sound = refl
flag_plain (Keyword keyword) sound = keyword_plain keyword sound

flags_plain : (flags : List FlagName) → All IsSoundFlag flags → All IsPlain (map flag_text flags)
flags_plain flags sound = All-map IsPlain flag_text flags (All-weaker IsSoundFlag (λ flag. IsPlain (flag_text flag)) flag_plain flags sound)

pub flags_is_line : (flags : List FlagName) → All IsSoundFlag flags → IsLine (flags_line flags)
unfolding flags_line flag_names_text after_text after_byte is_digit
flags_is_line flags sound =
    line_of (codes "* FLAGS (" ++ spaced_text (map flag_text flags)) (codes ")") (spaced_plain (map flag_text flags) (flags_plain flags sound)) refl (λ state. refl)

permanent_plain : (flags : List FlagName) (new : Bool) → All IsSoundFlag flags → All IsPlain (permanent_texts flags new)
unfolding permanent_texts
permanent_plain flags true sound =
    All-append IsPlain (map flag_text flags) (new_keywords ∷ []) (flags_plain flags sound) (All-cons IsPlain new_keywords [] refl (All-nil IsPlain))
permanent_plain flags false sound = flags_plain flags sound

pub permanent_is_line : (flags : List FlagName) (new : Bool) → All IsSoundFlag flags → IsLine (permanent_line flags new)
unfolding permanent_line after_text after_byte is_digit
permanent_is_line flags new sound =
    line_of (codes "* OK [PERMANENTFLAGS (" ++ spaced_text (permanent_texts flags new)) (codes ")] flags")
    (spaced_plain (permanent_texts flags new) (permanent_plain flags new sound)) refl (λ state. refl)

-- names

before_name : (front name : List ℕ) → IsPlain front → IsPlain name → IsLine (((front ++ 32 ∷ []) ++ mailbox_text name) ++ crlf)
before_name front name one other =
    subst IsLine (regroup front (mailbox_text name) crlf) ((end_fits (mailbox_text name) (mailbox_plain name other) (mailbox_state name)).before front one)
  where
    regroup : (a b c : List ℕ) → a ++ (32 ∷ (b ++ c)) ≡ ((a ++ 32 ∷ []) ++ b) ++ c
    regroup a b c = simp append_assoc refl

pub list_is_line : (attribute : Attribute) (name : List ℕ) → IsPlain name → IsLine (list_line attribute name)
unfolding list_line attribute_text
list_is_line no_attribute name sound = before_name (codes "* LIST () \".\"") name refl sound
list_is_line NoSelect name sound = before_name (codes "* LIST (\\Noselect) \".\"") name refl sound
list_is_line NonExistent name sound = before_name (codes "* LIST (\\NonExistent) \".\"") name refl sound

item_plain : (item : StatusItem) → IsPlain (item_text item)
unfolding item_text
item_plain Messages = refl
item_plain UidNext = refl
item_plain UidValidity = refl
item_plain Unseen = refl
item_plain deleted_item = refl
item_plain Size = refl

count_plain : (count : StatusCount) → IsPlain (count_text count)
unfolding count_text
count_plain count = all_append is_within (item_text count.item) (32 ∷ decimal count.count) (item_plain count.item) (decimal_plain count.count)

more_counts_plain : (counts : List StatusCount) → IsPlain (more_counts_text counts)
unfolding more_counts_text
more_counts_plain [] = refl
more_counts_plain (count ∷ counts) = all_append is_within (count_text count) (more_counts_text counts) (count_plain count) (more_counts_plain counts)

counts_plain : (counts : List StatusCount) → IsPlain (counts_text counts)
unfolding counts_text
counts_plain [] = refl
counts_plain (count ∷ counts) = all_append is_within (count_text count) (more_counts_text counts) (count_plain count) (more_counts_plain counts)

pub status_is_line : (name : List ℕ) (counts : List StatusCount) → IsPlain name → IsLine (status_line name counts)
unfolding status_line after_text after_byte is_digit
status_is_line name counts sound =
    let front = codes "* STATUS " ++ mailbox_text name ++ codes " (" in
    line_of (front ++ counts_text counts) (codes ")")
    (all_append is_within front (counts_text counts)
    (all_append is_within (mailbox_text name) (codes " (") (mailbox_plain name sound) refl) (counts_plain counts))
    refl (λ state. refl)

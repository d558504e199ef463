-- The tagged line is one line.
use Rattle.std.proofs.Common.{◌≡◌, ℕ, false, List, [], ◌∷◌, ◌++◌, codes, decimal, refl, ap, subst, append_assoc}
use Rattle.mur_base.specs.Ascii.{crlf}
use Rattle.mur_base.specs.Number.{is_digit}
use Rattle.imap_types.specs.declared.command.Tag.{Tag}
use Rattle.imap_types.specs.declared.reply.Code.{Code}
use Rattle.imap_types.specs.declared.reply.Code.TheVariants.{None as no_code, AppendUid, CopyUid, ExpungeIssued, ReadWrite, ReadOnly}
use Rattle.imap_types.specs.declared.reply.NoText.{NoText}
use Rattle.imap_types.specs.declared.reply.NoText.TheVariants.{AuthenticationFailed, AlreadyExists, NonExistent, TryCreate, NoPerm, Cannot, Limit}
use Rattle.imap_types.specs.declared.reply.NoText.TheVariants.{BeingMoved, NotReached}
use Rattle.imap_types.specs.declared.reply.BadText.{BadText}
use Rattle.imap_types.specs.declared.reply.BadText.TheVariants.{Syntax, State, Message}
use Rattle.mail_message.specs.Literals.{IsPlain, is_within}
use Rattle.imap_reply.specs.Lines.{IsLine, is_announced, after_text, after_byte, Announcing}
use Rattle.imap_reply.specs.Codes.{code_text}
use Rattle.imap_reply.specs.Sets.{set_text}
use Rattle.imap_reply.specs.SoundTexts.{IsSoundTag}
use Rattle.imap_reply.specs.TaggedLine.{no_text, bad_text, ok_text, under}
use Rattle.imap_text.specs.Tags.{tag_text}
use Rattle.imap_reply.proofs.LineLaws.{line_of, after_append}
use Rattle.imap_reply.proofs.LongLines.{tag_plain}
use Rattle.mail_message.proofs.PlainTexts.{decimal_plain, all_append}
use Rattle.imap_reply.proofs.Texts.{calm_plain, set_calm}

under_is_line : (tag : Tag) (text : List ℕ) → IsSoundTag tag → IsPlain text → ((state : Announcing) → is_announced (after_text state (32 ∷ text)) ≡ false)
    → IsLine (under tag text)
unfolding under
under_is_line tag text sound plain silent =
    subst IsLine (regroup (tag_text tag) text crlf) (line_of (tag_text tag) (32 ∷ text) (tag_plain tag sound) plain silent)
  where
    regroup : (a b c : List ℕ) → a ++ (32 ∷ (b ++ c)) ≡ ((a ++ 32 ∷ []) ++ b) ++ c
    regroup a b c = simp append_assoc refl

code_plain : (code : Code) → IsPlain (code_text code)
unfolding code_text
code_plain no_code = refl
code_plain (AppendUid serial uid) =
    all_append is_within (decimal serial) (32 ∷ (decimal uid ++ codes "] ")) (decimal_plain serial)
    (all_append is_within (decimal uid) (codes "] ") (decimal_plain uid) refl)
code_plain (CopyUid serial uids copies) =
    all_append is_within (decimal serial) (32 ∷ (set_text uids ++ 32 ∷ (set_text copies ++ codes "] "))) (decimal_plain serial)
    (all_append is_within (set_text uids) (32 ∷ (set_text copies ++ codes "] ")) (calm_plain (set_text uids) (set_calm uids))
    (all_append is_within (set_text copies) (codes "] ") (calm_plain (set_text copies) (set_calm copies)) refl))
code_plain ExpungeIssued = refl
code_plain ReadWrite = refl
code_plain ReadOnly = refl

pub ok_is_line : (tag : Tag) (code : Code) (name : List ℕ) → IsSoundTag tag → IsPlain name → IsLine (under tag (ok_text code name))
unfolding ok_text after_text after_byte is_digit
ok_is_line tag code name sound plain =
    let front = codes "OK " ++ code_text code ++ name in
    under_is_line tag (front ++ codes " completed") sound
    (all_append is_within front (codes " completed") (all_append is_within (code_text code) name (code_plain code) plain) refl)
    (λ state. ap is_announced (after_append state (32 ∷ front) (codes " completed")))

pub no_is_line : (tag : Tag) (why : NoText) → IsSoundTag tag → IsLine (under tag (codes "NO " ++ no_text why))
unfolding no_text after_text after_byte is_digit
no_is_line tag AuthenticationFailed sound = under_is_line tag (codes "NO [AUTHENTICATIONFAILED] login failed") sound refl (λ state. refl)
no_is_line tag AlreadyExists sound = under_is_line tag (codes "NO [ALREADYEXISTS] mailbox exists") sound refl (λ state. refl)
no_is_line tag NonExistent sound = under_is_line tag (codes "NO [NONEXISTENT] no such mailbox") sound refl (λ state. refl)
no_is_line tag TryCreate sound = under_is_line tag (codes "NO [TRYCREATE] no such mailbox") sound refl (λ state. refl)
no_is_line tag NoPerm sound = under_is_line tag (codes "NO [NOPERM] not permitted") sound refl (λ state. refl)
no_is_line tag Cannot sound = under_is_line tag (codes "NO [CANNOT] cannot be done") sound refl (λ state. refl)
no_is_line tag Limit sound = under_is_line tag (codes "NO [LIMIT] too large or too many") sound refl (λ state. refl)
no_is_line tag BeingMoved sound = under_is_line tag (codes "NO [UNAVAILABLE] mailbox is being moved") sound refl (λ state. refl)
no_is_line tag NotReached sound = under_is_line tag (codes "NO [UNAVAILABLE] server not reached") sound refl (λ state. refl)

pub bad_is_line : (tag : Tag) (why : BadText) → IsSoundTag tag → IsLine (under tag (codes "BAD " ++ bad_text why))
unfolding bad_text after_text after_byte is_digit
bad_is_line tag Syntax sound = under_is_line tag (codes "BAD syntax error") sound refl (λ state. refl)
bad_is_line tag State sound = under_is_line tag (codes "BAD not in this state") sound refl (λ state. refl)
bad_is_line tag Message sound = under_is_line tag (codes "BAD no such message") sound refl (λ state. refl)

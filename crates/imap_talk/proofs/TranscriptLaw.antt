-- A client reads all that it is given as it was meant, if it reads each reply so: a cut of texts one behind another is the cuts of each.
use Rattle.std.proofs.Common.{◌≡◌, ℕ, ◌==◌, Bool, true, false, List, [], ◌∷◌, ◌++◌, refl, sym, ◌∙◌, ap, codes, Option, None, Some, arith}
use Rattle.std.specs.Prelude.{All}
use Rattle.std.specs.List.{concat, list_all}
use Rattle.std.proofs.lemmas.Bool.{and_parts}
use Rattle.std.proofs.lemmas.Bool.Decides.{nat_tests}
use Rattle.std.proofs.lemmas.List.{append-nil}
use Rattle.std.proofs.lemmas.List.Folds.{concat-append}
use Rattle.std.proofs.lemmas.List.Elements.{All-nil, All-cons, All-append, All-head, All-tail, All-weaker}
use Rattle.mur_base.specs.Number.{is_digit}
use Rattle.imap_text.specs.Characters.{is_tag_byte}
use Rattle.imap_wire.specs.Frames.{frames}
use Rattle.imap_types.specs.declared.reply.Bye as bye
use Rattle.imap_types.specs.declared.reply.Bye.TheVariants.{Lost}
use Rattle.imap_types.specs.declared.request.Answer.{Answer}
use Rattle.mur_model.specs.declared.setting.Setting.{Setting}
use Rattle.imap_reply.specs.declared.continuation.Continuation.{Continuation}
use Rattle.imap_reply.specs.declared.continuation.Continuation.TheVariants.{Literal, Response, Done}
use Rattle.imap_talk.specs.declared.inputs.Input.{Input}
use Rattle.imap_talk.specs.declared.inputs.Input.TheVariants.{GoesOn, Asks, Faults}
use Rattle.imap_reply.specs.ByeLine.{bye_line}
use Rattle.imap_talk.specs.FaultBye.{bye_of}
use Rattle.imap_reply.specs.Continuation.{challenge, continuation_line, idling, ready}
use Rattle.imap_reply.specs.Greeting.{greeting}
use Rattle.imap_talk.specs.Inputs.{inputs_from}
use Rattle.imap_reply.specs.Lines.{IsLine, after_text, after_byte}
use Rattle.imap_reply.specs.ReadAsMeant.{line_begins_with, untagged_lines, meant_lines}
use Rattle.imap_reply.specs.SoundTexts.{IsTag}
use Rattle.imap_talk.specs.Transcript.{answer_text, ends, unless_ended, Stop, Telling, stop_told, told_till, all_told_till, as_bytes, transcript_till}
use Rattle.imap_talk.specs.Transcript.Stop.{silent, is_lost}
use Rattle.imap_talk.specs.TranscriptRead.{as_lines, as_untagged, lines_till, untagged_till, IsAnswerReadAsMeant, IsAllReadTill}
use Rattle.imap_reply.proofs.EachLine.{bye_is_line}
use Rattle.imap_reply.proofs.LineLaws.{line_of}
use Rattle.imap_reply.proofs.NoForgery.{no_star}
use Rattle.imap_reply.proofs.ReadParts.{read_by}

-- what is so of each thing that is told

all_behind : {T : Type 0} (P : T → Type 0) (is_end : Bool) (items : List T) → All P items → All P (unless_ended is_end items)
unfolding unless_ended
all_behind P true items all = All-nil P
all_behind P false items all = all

all_stopped : {T : Type 0} (P : T → Type 0) (telling : Telling T) → ((why : bye.Bye) → All P (telling.ends_by why)) → (stop : Stop)
    → All P (stop_told telling stop)
unfolding stop_told
all_stopped P telling last silent = All-nil P
all_stopped P telling last is_lost = last Lost

all_answered : {T : Type 0} (P : T → Type 0) (telling : Telling T) (answer : Answer) (items : List T) → All P (telling.answers answer) → All P items
    → All P (telling.answers answer ++ unless_ended (ends answer.reply) items)
all_answered P telling answer items one rest =
    All-append P (telling.answers answer) (unless_ended (ends answer.reply) items) one (all_behind P (ends answer.reply) items rest)

all_till : {T : Type 0} (P : T → Type 0) (telling : Telling T) → ((why : Continuation) → All P (telling.goes_on why)) → ((why : bye.Bye)
    → All P (telling.ends_by why))
    → (stop : Stop) (inputs : List Input) (answers : List Answer) → All (λ answer. All P (telling.answers answer)) answers
    → All P (told_till telling stop inputs answers)
unfolding told_till
all_till P telling on last stop [] answers each = All-nil P
all_till P telling on last stop (GoesOn why ∷ inputs) answers each =
    All-append P (telling.goes_on why) (told_till telling stop inputs answers) (on why) (all_till P telling on last stop inputs answers each)
all_till P telling on last stop (Faults fault ∷ inputs) answers each = last (bye_of fault)
all_till P telling on last stop (Asks request ∷ inputs) [] each = all_stopped P telling last stop
all_till P telling on last stop (Asks request ∷ inputs) (answer ∷ answers) each =
    all_answered P telling answer (told_till telling stop inputs answers) (All-head (λ a. All P (telling.answers a)) answer answers each)
    (all_till P telling on last stop inputs answers (All-tail (λ a. All P (telling.answers a)) answer answers each))

all_told : {T : Type 0} (P : T → Type 0) (telling : Telling T) → All P telling.greets → ((why : Continuation) → All P (telling.goes_on why))
    → ((why : bye.Bye) → All P (telling.ends_by why)) → (stop : Stop) (setting : Setting) (bytes : Option (List ℕ)) (answers : List Answer)
    → All (λ answer. All P (telling.answers answer)) answers → All P (all_told_till telling stop setting bytes answers)
unfolding all_told_till
all_told P telling first on last stop setting None answers each = All-nil P
all_told P telling first on last stop setting (Some bytes) answers each =
    All-append P telling.greets (told_till telling stop (inputs_from setting (frames bytes)) answers) first (all_till P telling on last stop
    (inputs_from setting (frames bytes)) answers each)

-- the lines make the bytes

cut_behind : (is_end : Bool) (lines : List (List ℕ)) (bytes : List ℕ) → concat lines ≡ bytes → concat (unless_ended is_end lines) ≡ unless_ended is_end bytes
unfolding unless_ended
cut_behind true lines bytes e = refl
cut_behind false lines bytes e = e

cut_both : (one other : List (List ℕ)) (text more : List ℕ) → concat one ≡ text → concat other ≡ more → concat (one ++ other) ≡ text ++ more
cut_both one other text more e f = concat-append one other ∙ ap (λ t. t ++ concat other) e ∙ ap (λ t. text ++ t) f

cut_stop : (stop : Stop) → concat (stop_told as_lines stop) ≡ stop_told as_bytes stop
unfolding stop_told
cut_stop silent = refl
cut_stop is_lost = append-nil (bye_line Lost)

cut_answer : (answer : Answer) (lines : List (List ℕ)) (bytes : List ℕ) → IsAnswerReadAsMeant answer → concat lines ≡ bytes
    → concat (meant_lines answer.tag answer.reply ++ unless_ended (ends answer.reply) lines) ≡ answer_text answer ++ unless_ended (ends answer.reply) bytes
cut_answer answer lines bytes meant e =
    cut_both (meant_lines answer.tag answer.reply) (unless_ended (ends answer.reply) lines) (answer_text answer) (unless_ended (ends answer.reply) bytes)
    meant.read.whole (cut_behind (ends answer.reply) lines bytes e)

cut_till : (stop : Stop) (inputs : List Input) (answers : List Answer) → All IsAnswerReadAsMeant answers
    → concat (told_till as_lines stop inputs answers) ≡ told_till as_bytes stop inputs answers
unfolding told_till
cut_till stop [] answers meant = refl
cut_till stop (GoesOn why ∷ inputs) answers meant = ap (λ t. continuation_line why ++ t) (cut_till stop inputs answers meant)
cut_till stop (Faults fault ∷ inputs) answers meant = append-nil (bye_line (bye_of fault))
cut_till stop (Asks request ∷ inputs) [] meant = cut_stop stop
cut_till stop (Asks request ∷ inputs) (answer ∷ answers) meant =
    cut_answer answer _ _ (All-head IsAnswerReadAsMeant answer answers meant)
    (cut_till stop inputs answers (All-tail IsAnswerReadAsMeant answer answers meant))

cut_all : (stop : Stop) (setting : Setting) (bytes : Option (List ℕ)) (answers : List Answer) → All IsAnswerReadAsMeant answers
    → concat (lines_till stop setting bytes answers) ≡ transcript_till stop setting bytes answers
unfolding all_told_till
cut_all stop setting None answers meant = refl
cut_all stop setting (Some bytes) answers meant = ap (λ t. greeting ++ t) (cut_till stop (inputs_from setting (frames bytes)) answers meant)

-- each of them is one line

greeting_is_line : IsLine greeting
unfolding greeting after_text after_byte is_digit
greeting_is_line = line_of [] (codes "* OK [CAPABILITY IMAP4rev2 AUTH=PLAIN] murder ready") refl refl (λ state. refl)

ready_is_line : IsLine ready
unfolding ready after_text after_byte is_digit
ready_is_line = line_of [] (codes "+ ready") refl refl (λ state. refl)

continuation_is_line : (why : Continuation) → IsLine (continuation_line why)
unfolding continuation_line challenge idling after_text after_byte is_digit
continuation_is_line Literal = ready_is_line
continuation_is_line Response = line_of [] (codes "+ ") refl refl (λ state. refl)
continuation_is_line Done = line_of [] (codes "+ idling") refl refl (λ state. refl)

one : (P : List ℕ → Type 0) (line : List ℕ) → P line → All P (line ∷ [])
one P line is = All-cons P line [] is (All-nil P)

lines_are : (stop : Stop) (setting : Setting) (bytes : Option (List ℕ)) (answers : List Answer) → All IsAnswerReadAsMeant answers
    → All IsLine (lines_till stop setting bytes answers)
lines_are stop setting bytes answers meant =
    all_told IsLine as_lines (one IsLine greeting greeting_is_line) (λ why. one IsLine (continuation_line why) (continuation_is_line why)) (λ why. one IsLine
    (bye_line why) (bye_is_line why))
    stop setting bytes answers
    (All-weaker IsAnswerReadAsMeant (λ answer. All IsLine (meant_lines answer.tag answer.reply)) (λ answer is. is.read.each) answers meant)

-- none but the last of each reply begins with a tag

no_plus : (c : ℕ) → is_tag_byte c ≡ true → (c == 43) ≡ false
unfolding is_tag_byte
no_plus c h = grind (arith, nat_tests, h)

tag_first : (c : ℕ) (word : List ℕ) → IsTag (c ∷ word) → is_tag_byte c ≡ true
tag_first c word is = (and_parts (is_tag_byte c) (list_all is_tag_byte word) is.bytes).0

greeting_untagged : (word : List ℕ) → IsTag word → line_begins_with word greeting ≡ false
unfolding line_begins_with greeting
greeting_untagged [] is = absurd (omega (arith, is.some))
greeting_untagged (c ∷ word) is = rw (no_star c (tag_first c word is)) refl

ready_untagged : (word : List ℕ) → IsTag word → line_begins_with word ready ≡ false
unfolding line_begins_with ready
ready_untagged [] is = absurd (omega (arith, is.some))
ready_untagged (c ∷ word) is = rw (no_plus c (tag_first c word is)) refl

continuation_untagged : (word : List ℕ) → IsTag word → (why : Continuation) → line_begins_with word (continuation_line why) ≡ false
unfolding line_begins_with continuation_line challenge idling
continuation_untagged word is Literal = ready_untagged word is
continuation_untagged [] is Response = absurd (omega (arith, is.some))
continuation_untagged (c ∷ word) is Response = rw (no_plus c (tag_first c word is)) refl
continuation_untagged [] is Done = absurd (omega (arith, is.some))
continuation_untagged (c ∷ word) is Done = rw (no_plus c (tag_first c word is)) refl

bye_untagged : (word : List ℕ) → IsTag word → (why : bye.Bye) → line_begins_with word (bye_line why) ≡ false
unfolding line_begins_with bye_line
bye_untagged [] is why = absurd (omega (arith, is.some))
bye_untagged (c ∷ word) is why = rw (no_star c (tag_first c word is)) refl

untagged_are : (word : List ℕ) → IsTag word → (stop : Stop) (setting : Setting) (bytes : Option (List ℕ)) (answers : List Answer) → All IsAnswerReadAsMeant answers
    → All (λ line. line_begins_with word line ≡ false) (untagged_till stop setting bytes answers)
untagged_are word is stop setting bytes answers meant =
    let P : List ℕ → Type 0 = λ line. line_begins_with word line ≡ false in
    all_told P as_untagged (one P greeting (greeting_untagged word is)) (λ why. one P (continuation_line why) (continuation_untagged word is why))
    (λ why. one P (bye_line why) (bye_untagged word is why)) stop setting bytes answers
    (All-weaker IsAnswerReadAsMeant (λ answer. All P (untagged_lines answer.tag answer.reply)) (λ answer so. so.untagged word is) answers meant)

pub all_read_till : (stop : Stop) (setting : Setting) (given : List ℕ) (bytes : Option (List ℕ)) (answers : List Answer)
    → given ≡ transcript_till stop setting bytes answers → All IsAnswerReadAsMeant answers → IsAllReadTill stop setting given bytes answers
all_read_till stop setting given bytes answers is meant = record {
  lines = read_by given (lines_till stop setting bytes answers) (cut_all stop setting bytes answers meant ∙ sym is) (lines_are stop setting bytes answers meant);
  untagged = λ word tagged. untagged_are word tagged stop setting bytes answers meant;
  replies = meant;
}

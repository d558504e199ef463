-- The tagged line begins with its tag and its verdict, and tells which refusal it is.
use Rattle.std.proofs.Common.{◌≡◌, ℕ, true, List, [], ◌∷◌, ◌++◌, length, codes, filter, refl, sym, ◌∙◌, ap, append_assoc, arith}
use Rattle.std.specs.Prelude.{All}
use Rattle.std.proofs.lemmas.Bool.Decides.{nat_tests}
use Rattle.std.proofs.lemmas.List.{append_cancel_left}
use Rattle.std.proofs.lemmas.List.Elements.{All-nil, All-cons}
use Rattle.imap_types.specs.declared.command.Tag.{Tag}
use Rattle.imap_types.specs.declared.reply.BadText.{BadText}
use Rattle.imap_types.specs.declared.reply.Code.{Code}
use Rattle.imap_types.specs.declared.reply.NoText.{NoText}
use Rattle.imap_types.specs.declared.reply.NoText.TheVariants.{AuthenticationFailed, AlreadyExists, NonExistent, TryCreate, NoPerm, Cannot, Limit}
use Rattle.imap_types.specs.declared.reply.NoText.TheVariants.{BeingMoved, NotReached}
use Rattle.imap_types.specs.declared.reply.Verdict.{Verdict}
use Rattle.imap_types.specs.declared.reply.Verdict.TheVariants.{Nothing, Ok as ok_reply, No as no_reply, Bad as bad_reply}
use Rattle.imap_reply.specs.ReadAsMeant.{line_begins_with, last_line}
use Rattle.imap_reply.specs.TaggedLine.{tagged_line, under, ok_text, no_text, bad_text}
use Rattle.imap_text.specs.Tags.{tag_text}
use Rattle.imap_reply.specs.VerdictBegins.{refusal_code, verdict_begins}

-- what stands behind the tag, with the end of the line
abbrev behind_tag : List ℕ → List ℕ
behind_tag text = text ++ codes "\r\n"

behind_front : (front first text : List ℕ) → line_begins_with first text ≡ true → line_begins_with (front ++ first) (front ++ text) ≡ true
unfolding line_begins_with
behind_front [] first text h = h
behind_front (c ∷ front) first text h = grind (arith, nat_tests, behind_front front first text h)

under_parts : (tag : Tag) (text : List ℕ) → under tag text ≡ (tag_text tag ++ codes " ") ++ behind_tag text
unfolding under
under_parts tag text = append_assoc (tag_text tag ++ codes " ") text (codes "\r\n")

-- it begins so

abbrev Begins : Tag → List ℕ → List ℕ → Type 0
Begins tag first line = line_begins_with (tag_text tag ++ codes " " ++ first) line ≡ true

under_begins : (tag : Tag) (first text : List ℕ) → line_begins_with first (behind_tag text) ≡ true → Begins tag first (under tag text)
under_begins tag first text h =
    ap (line_begins_with (tag_text tag ++ codes " " ++ first)) (under_parts tag text) ∙ behind_front (tag_text tag ++ codes " ") first (behind_tag text) h

one_begins : (tag : Tag) (first text : List ℕ) → line_begins_with first (behind_tag text) ≡ true → All (Begins tag first) (under tag text ∷ [])
one_begins tag first text h = All-cons (Begins tag first) (under tag text) [] (under_begins tag first text h) (All-nil (Begins tag first))

ok_begins : (code : Code) (name : List ℕ) → line_begins_with (codes "OK ") (behind_tag (ok_text code name)) ≡ true
unfolding line_begins_with ok_text
ok_begins code name = refl

no_begins : (why : NoText) → line_begins_with (codes "NO " ++ refusal_code why) (behind_tag (codes "NO " ++ no_text why)) ≡ true
unfolding line_begins_with refusal_code no_text
no_begins AuthenticationFailed = refl
no_begins AlreadyExists = refl
no_begins NonExistent = refl
no_begins TryCreate = refl
no_begins NoPerm = refl
no_begins Cannot = refl
no_begins Limit = refl
no_begins BeingMoved = refl
no_begins NotReached = refl

bad_begins : (why : BadText) → line_begins_with (codes "BAD ") (behind_tag (codes "BAD " ++ bad_text why)) ≡ true
unfolding line_begins_with
bad_begins why = refl

pub last_begins : (tag : Tag) (verdict : Verdict) → All (Begins tag (verdict_begins verdict)) (last_line tag verdict)
unfolding last_line tagged_line verdict_begins
last_begins tag Nothing = All-nil (Begins tag [])
last_begins tag (ok_reply code name) = one_begins tag (codes "OK ") (ok_text code name) (ok_begins code name)
last_begins tag (no_reply why) = one_begins tag (codes "NO " ++ refusal_code why) (codes "NO " ++ no_text why) (no_begins why)
last_begins tag (bad_reply why) = one_begins tag (codes "BAD ") (codes "BAD " ++ bad_text why) (bad_begins why)

-- which refusals a text behind the tag tells

every : List NoText
every =
    AuthenticationFailed ∷ AlreadyExists ∷ NonExistent ∷ TryCreate ∷ NoPerm ∷ Cannot ∷ Limit ∷ BeingMoved ∷ NotReached ∷ []

abbrev refusals_in : List ℕ → List NoText
refusals_in text = filter (λ why. line_begins_with (codes "NO " ++ refusal_code why) text) every

of_no : (why : NoText) → refusals_in (behind_tag (codes "NO " ++ no_text why)) ≡ why ∷ []
unfolding line_begins_with refusal_code no_text every
of_no AuthenticationFailed = refl
of_no AlreadyExists = refl
of_no NonExistent = refl
of_no TryCreate = refl
of_no NoPerm = refl
of_no Cannot = refl
of_no Limit = refl
of_no BeingMoved = refl
of_no NotReached = refl

of_ok : (code : Code) (name : List ℕ) → refusals_in (behind_tag (ok_text code name)) ≡ []
unfolding line_begins_with refusal_code ok_text every
of_ok code name = refl

of_bad : (why : BadText) → refusals_in (behind_tag (codes "BAD " ++ bad_text why)) ≡ []
unfolding line_begins_with refusal_code every
of_bad why = refl

-- a line that two texts make tells the same refusals by both
same_told : (tag : Tag) (text other : List ℕ) → under tag text ∷ [] ≡ under tag other ∷ []
    → refusals_in (behind_tag text) ≡ refusals_in (behind_tag other)
same_told tag text other e =
    let lines : under tag text ≡ under tag other = cc in
    let whole : (tag_text tag ++ codes " ") ++ behind_tag text ≡ (tag_text tag ++ codes " ") ++ behind_tag other =
    sym (under_parts tag text) ∙ lines ∙ under_parts tag other in
    ap refusals_in (append_cancel_left (tag_text tag ++ codes " ") (behind_tag text) (behind_tag other) whole)

no_other : (why : NoText) → [] ≡ why ∷ [] → ⊥
no_other why e = omega (arith, ap length e)

pub refusal_told : (tag : Tag) (verdict : Verdict) (why : NoText) → last_line tag verdict ≡ last_line tag (no_reply why) → verdict ≡ no_reply why
unfolding last_line tagged_line
refusal_told tag Nothing why e = absurd (omega (arith, ap length e))
refusal_told tag (ok_reply code name) why e =
    absurd (no_other why (sym (of_ok code name) ∙ same_told tag (ok_text code name) (codes "NO " ++ no_text why) e ∙ of_no why))
refusal_told tag (no_reply first) why e =
    let told : first ∷ [] ≡ why ∷ [] = sym (of_no first) ∙ same_told tag (codes "NO " ++ no_text first) (codes "NO " ++ no_text why) e ∙ of_no why in
    let same : first ≡ why = cc in
    ap no_reply same
refusal_told tag (bad_reply text) why e =
    absurd (no_other why (sym (of_bad text) ∙ same_told tag (codes "BAD " ++ bad_text text) (codes "NO " ++ no_text why) e ∙ of_no why))

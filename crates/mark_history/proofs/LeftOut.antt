-- Marks of steps that only saw their command, left out: the others make the same history.
use Rattle.std.proofs.Common.{◌≡◌, ℕ, Bool, true, false, not, nat_le, List, [], ◌∷◌, ◌++◌, Option, None, Some, refl, sym, ◌∙◌, ap}
use Rattle.std.proofs.Common.{if◌then◌else◌}
use Rattle.std.specs.Prelude.{All}
use Rattle.std.proofs.lemmas.List.Elements.{All-head, All-tail}
use Rattle.link_msg.specs.declared.counts.Counts.TheVariants.{IfAnswered}
use Rattle.link_msg.specs.declared.how.How.TheVariants.{Here, Behind, Reserved, Unreached}
use Rattle.mur_base.specs.declared.point.AskId.{AskId}
use Rattle.mark_history.specs.declared.mark.Mark.{Mark}
use Rattle.mark_history.specs.declared.mark.MarkKind.{MarkKind}
use Rattle.mark_history.specs.declared.mark.MarkKind.TheVariants.{Home, Told}
use Rattle.mark_history.specs.History.{is_of, next_of, counts_as, untold_as, points_by, points_of}
use Rattle.mark_history.proofs.Tally.{acts, conn_of, command_of, its_kind, next_or, next_push}

-- whether a step may only have seen its command, by the next mark of it and whether it was replied to: another step acts on it, or none has yet
unfoldable pub only_saw : Option MarkKind → Bool → Bool
only_saw None replied = not replied
only_saw (Some kind) replied = acts kind

-- the second are the first without marks of steps that only saw their command, where so many commands of each connection were replied to. Of a command
-- none stands between a step that acts and the mark that tells its client.
pub data LeavesOut (said : ℕ → ℕ) : List Mark → List Mark → Type 0 where
  no_marks : LeavesOut said [] []
  stays : (mark : Mark) (marks acting : List Mark) → (acts mark.kind ≡ true → next_of mark.ask marks ≡ next_of mark.ask acting) → LeavesOut said marks acting
      → LeavesOut said (mark ∷ marks) (mark ∷ acting)
  left_out : (mark : Mark) (marks acting : List Mark) → mark.kind ≡ Home IfAnswered
      → only_saw (next_of mark.ask marks) (nat_le (command_of mark) (said (conn_of mark))) ≡ true → LeavesOut said marks acting
      → LeavesOut said (mark ∷ marks) acting

pub leaves_none : (said : ℕ → ℕ) (marks : List Mark) → LeavesOut said marks marks
leaves_none said [] = no_marks
leaves_none said (mark ∷ marks) = stays mark marks marks (λ acting. refl) (leaves_none said marks)

-- ---- the history

counts_alike : (kind : MarkKind) (one other : Option MarkKind) → (acts kind ≡ true → one ≡ other) → counts_as kind one ≡ counts_as kind other
unfolding counts_as acts
counts_alike (Home counts) one other same = ap (counts_as (Home counts)) (same refl)
counts_alike (Told Here) one other same = refl
counts_alike (Told Behind) one other same = refl
counts_alike (Told Reserved) one other same = refl
counts_alike (Told (Unreached node)) one other same = refl

pub counts_not : (next : Option MarkKind) (replied : Bool) → only_saw next replied ≡ true → counts_as (Home IfAnswered) next ≡ None
unfolding only_saw counts_as untold_as acts
counts_not None replied saw = refl
counts_not (Some (Home counts)) replied saw = refl
counts_not (Some (Told Here)) replied saw = refl
counts_not (Some (Told Behind)) replied saw = cc
counts_not (Some (Told Reserved)) replied saw = cc
counts_not (Some (Told (Unreached node))) replied saw = refl

pub no_point : (mark : Mark) → points_by mark None ≡ []
unfolding points_by
no_point mark = refl

pub same_points : (said : ℕ → ℕ) (marks acting : List Mark) → LeavesOut said marks acting → points_of marks ≡ points_of acting
unfolding points_of
same_points said marks acting no_marks = refl
same_points said marks acting (stays mark more rest next leaves) =
    ap (λ w. points_by mark w ++ points_of more) (counts_alike mark.kind (next_of mark.ask more) (next_of mark.ask rest) next)
    ∙ ap (λ p. points_by mark (counts_as mark.kind (next_of mark.ask rest)) ++ p) (same_points said more rest leaves)
same_points said marks acting (left_out mark more rest kind saw leaves) =
    ap (λ k. points_by mark (counts_as k (next_of mark.ask more)) ++ points_of more) kind
    ∙ ap (λ w. points_by mark w ++ points_of more) (counts_not (next_of mark.ask more) _ saw)
    ∙ ap (λ p. p ++ points_of more) (no_point mark) ∙ same_points said more rest leaves

-- ---- a mark more

-- a step that only saw its command still did when this mark is put behind, where so many were replied to and then so many
abbrev pub StillSaw : (ℕ → ℕ) → (ℕ → ℕ) → Mark → Type 0
StillSaw said now more = (mark : Mark) (next : Option MarkKind) → only_saw next (nat_le (command_of mark) (said (conn_of mark))) ≡ true
    → only_saw (next_or next (its_kind mark.ask more)) (nat_le (command_of mark) (now (conn_of mark))) ≡ true

pub leaves_push : (said now : ℕ → ℕ) (marks acting : List Mark) (more : Mark) → LeavesOut said marks acting → StillSaw said now more
    → LeavesOut now (marks ++ more ∷ []) (acting ++ more ∷ [])
leaves_push said now marks acting more no_marks still = stays more [] [] (λ acting. refl) no_marks
leaves_push said now marks acting more (stays mark others rest next leaves) still =
    stays mark (others ++ more ∷ []) (rest ++ more ∷ [])
    (λ acting. next_push mark.ask others more ∙ ap (λ n. next_or n (its_kind mark.ask more)) (next acting) ∙ sym (next_push mark.ask rest more))
    (leaves_push said now others rest more leaves still)
leaves_push said now marks acting more (left_out mark others rest kind saw leaves) still =
    left_out mark (others ++ more ∷ []) (rest ++ more ∷ []) kind
    (ap (λ n. only_saw n (nat_le (command_of mark) (now (conn_of mark)))) (next_push mark.ask others more) ∙ still mark (next_of mark.ask others) saw)
    (leaves_push said now others rest more leaves still)

pub next_none : (next : Option MarkKind) → next_or next None ≡ next
unfolding next_or
next_none None = refl
next_none (Some kind) = refl

kind_apart : (ask : AskId) (more : Mark) → is_of ask more ≡ false → its_kind ask more ≡ None
kind_apart ask more other = ap (λ b. if b then Some more.kind else None) other

pub next_apart : (ask : AskId) (marks : List Mark) (more : Mark) → is_of ask more ≡ false → next_of ask (marks ++ more ∷ []) ≡ next_of ask marks
next_apart ask marks more other = next_push ask marks more ∙ ap (next_or (next_of ask marks)) (kind_apart ask more other) ∙ next_none (next_of ask marks)

none_yet : (replied : Bool) → replied ≡ false → only_saw None replied ≡ true
unfolding only_saw
none_yet replied unreplied = ap not unreplied

-- a step that only saw a command which has no reply
pub leaves_seen : (said : ℕ → ℕ) (marks acting : List Mark) (more : Mark) → LeavesOut said marks acting → StillSaw said said more
    → more.kind ≡ Home IfAnswered → nat_le (command_of more) (said (conn_of more)) ≡ false
    → All (λ (mark : Mark). acts mark.kind ≡ true → is_of mark.ask more ≡ false) acting → LeavesOut said (marks ++ more ∷ []) acting
unfolding next_of
leaves_seen said marks acting more no_marks still kind unreplied apart = left_out more [] [] kind (none_yet _ unreplied) no_marks
leaves_seen said marks acting more (stays mark others rest next leaves) still kind unreplied apart =
    stays mark (others ++ more ∷ []) rest
    (λ a. next_apart mark.ask others more (All-head (λ (m : Mark). acts m.kind ≡ true → is_of m.ask more ≡ false) mark rest apart a) ∙ next a)
    (leaves_seen said others rest more leaves still kind unreplied (All-tail (λ (m : Mark). acts m.kind ≡ true → is_of m.ask more ≡ false) mark rest apart))
leaves_seen said marks acting more (left_out mark others rest its saw leaves) still kind unreplied apart =
    left_out mark (others ++ more ∷ []) rest its
    (ap (λ n. only_saw n (nat_le (command_of mark) (said (conn_of mark)))) (next_push mark.ask others more) ∙ still mark (next_of mark.ask others) saw)
    (leaves_seen said others rest more leaves still kind unreplied apart)

-- Only the last answer of a connection may end it.
use Rattle.std.proofs.Common.{◌≡◌, false, List, [], ◌∷◌, ◌++◌, sym, subst, arith}
use Rattle.std.specs.Prelude.{All}
use Rattle.std.proofs.lemmas.List.Elements.{All-cons, All-nil, All-head, All-tail}
use Rattle.std.proofs.lemmas.List.Kept.{AllPairs-cons}
use Rattle.imap_talk.specs.Transcript.{ends}
use Rattle.imap_talk.specs.declared.inputs.Input.{Input}
use Rattle.imap_talk.specs.declared.inputs.Input.TheVariants.{GoesOn, Asks, Faults}
use Rattle.imap_talk.proofs.TranscriptGrows.{AreAnswered}
use Rattle.imap_types.specs.declared.request.Answer.{Answer}
use Rattle.front_core.specs.Ending.{EndsOnlyLast}

abbrev pub GoesOnBehind : Answer → Type 0
GoesOnBehind answer = ends answer.reply ≡ false

pub none_ends : (inputs : List Input) (answers : List Answer) → AreAnswered inputs answers → All GoesOnBehind answers
unfolding AreAnswered
none_ends [] [] all = All-nil GoesOnBehind
none_ends [] (answer ∷ answers) all = absurd all
none_ends (GoesOn why ∷ inputs) answers all = none_ends inputs answers all
none_ends (Faults fault ∷ inputs) answers all = absurd all
none_ends (Asks request ∷ inputs) [] all = absurd all
none_ends (Asks request ∷ inputs) (answer ∷ answers) all = All-cons GoesOnBehind answer answers all.0 (none_ends inputs answers all.1)

-- no answer ends the connection
pub all_go_on : (inputs : List Input) (answers : List Answer) → AreAnswered inputs answers → EndsOnlyLast answers
all_go_on inputs answers all = λ i j d h k. none_ends inputs answers all i d (omega arith)

-- or the last does
pub ends_last : (before : List Answer) (last : Answer) → All GoesOnBehind before → EndsOnlyLast (before ++ last ∷ [])
ends_last [] last all = λ i j d h k. absurd (omega arith)
ends_last (answer ∷ before) last all =
    AllPairs-cons (λ (earlier later : Answer). ends earlier.reply ≡ false) answer (before ++ last ∷ [])
    (λ k d h. All-head GoesOnBehind answer before all) (ends_last before last (All-tail GoesOnBehind answer before all))

pub none_given : (answers : List Answer) → answers ≡ [] → EndsOnlyLast answers
none_given answers e = subst EndsOnlyLast (sym e) (λ i j d h k. absurd (omega arith))

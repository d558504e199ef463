-- A transcript with one more input at its end.
use Rattle.std.proofs.Common.{◌≡◌, ℕ, Bool, true, false, List, [], ◌∷◌, ◌++◌, refl, sym, ◌∙◌, ap, subst, append_assoc}
use Rattle.std.specs.Prelude.{⊤}
use Rattle.std.proofs.lemmas.List.{append-nil}
use Rattle.imap_wire.specs.declared.frame.FrameFault.{FrameFault}
use Rattle.imap_types.specs.declared.request.Answer.{Answer}
use Rattle.imap_types.specs.declared.request.Request.{Request}
use Rattle.imap_reply.specs.declared.continuation.Continuation.{Continuation}
use Rattle.imap_talk.specs.declared.inputs.Input.{Input}
use Rattle.imap_talk.specs.declared.inputs.Input.TheVariants.{GoesOn, Asks, Faults}
use Rattle.imap_reply.specs.ByeLine.{bye_line}
use Rattle.imap_talk.specs.FaultBye.{bye_of}
use Rattle.imap_reply.specs.Continuation.{continuation_line}
use Rattle.imap_types.specs.declared.reply.Bye.TheVariants.{Lost}
use Rattle.imap_talk.specs.Transcript.{answer_text, ends, unless_ended, Stop, stop_text, stop_told, told_till, replies_till}
use Rattle.imap_talk.specs.Transcript.Stop.{silent, is_lost}

-- every request in the inputs has its answer, no answer ends the connection, and no input is a fault
unfoldable pub AreAnswered : List Input → List Answer → Type 0
AreAnswered [] [] = ⊤
AreAnswered [] (answer ∷ answers) = ⊥
AreAnswered (GoesOn why ∷ inputs) answers = AreAnswered inputs answers
AreAnswered (Faults fault ∷ inputs) answers = ⊥
AreAnswered (Asks request ∷ inputs) [] = ⊥
AreAnswered (Asks request ∷ inputs) (answer ∷ answers) = (ends answer.reply ≡ false) × AreAnswered inputs answers

pub none_answered : AreAnswered [] []
unfolding AreAnswered
none_answered = tt

in_front : (front text more whole : List ℕ) → whole ≡ text ++ more → front ++ whole ≡ (front ++ text) ++ more
in_front front text more whole e = ap (λ t. front ++ t) e ∙ sym (append_assoc front text more)

-- behind an answer that doesn't end the connection
goes_on : (front : List ℕ) (is_end : Bool) (text more whole : List ℕ) → is_end ≡ false → whole ≡ text ++ more
    → front ++ unless_ended is_end whole ≡ (front ++ unless_ended is_end text) ++ more
unfolding unless_ended
goes_on front true text more whole stays e = cc
goes_on front false text more whole stays e = in_front front text more whole e

pub all_given : (stop : Stop) (inputs next : List Input) (answers more : List Answer) (text : List ℕ) → AreAnswered inputs answers
    → replies_till stop next more ≡ text → replies_till stop (inputs ++ next) (answers ++ more) ≡ replies_till stop inputs answers ++ text
unfolding AreAnswered told_till
all_given stop [] next [] more text all e = e
all_given stop [] next (a ∷ answers) more text all e = absurd all
all_given stop (GoesOn why ∷ inputs) next answers more text all e = in_front (continuation_line why) _ _ _ (all_given stop inputs next answers more text all e)
all_given stop (Faults fault ∷ inputs) next answers more text all e = absurd all
all_given stop (Asks request ∷ inputs) next [] more text all e = absurd all
all_given stop (Asks request ∷ inputs) next (a ∷ answers) more text all e =
    goes_on (answer_text a) (ends a.reply) _ _ _ all.0 (all_given stop inputs next answers more text all.1 e)

pub all_answered : (inputs next : List Input) (answers more : List Answer) → AreAnswered inputs answers → AreAnswered next more
    → AreAnswered (inputs ++ next) (answers ++ more)
unfolding AreAnswered
all_answered [] next [] more all new = new
all_answered [] next (a ∷ answers) more all new = absurd all
all_answered (GoesOn why ∷ inputs) next answers more all new = all_answered inputs next answers more all new
all_answered (Faults fault ∷ inputs) next answers more all new = absurd all
all_answered (Asks request ∷ inputs) next [] more all new = absurd all
all_answered (Asks request ∷ inputs) next (a ∷ answers) more all new = (all.0, all_answered inputs next answers more all.1 new)

-- what an input that asks for something brings
pub record Grows (inputs next : List Input) (answers more : List Answer) (text : List ℕ) : Type 0 where
  pub answered : AreAnswered next more
  pub text_is : replies_till silent next more ≡ replies_till silent inputs answers ++ text

nothing_behind : (is_end : Bool) → unless_ended {T = ℕ} is_end [] ≡ []
unfolding unless_ended
nothing_behind true = refl
nothing_behind false = refl

one_text : (answer : Answer) → answer_text answer ++ unless_ended (ends answer.reply) [] ≡ answer_text answer
one_text answer = ap (λ t. answer_text answer ++ t) (nothing_behind (ends answer.reply)) ∙ append-nil (answer_text answer)

-- the answer to the last request is told, whether it ends the connection or not
pub request_told : (inputs : List Input) (answers : List Answer) (request : Request) (answer : Answer) → AreAnswered inputs answers
    → replies_till silent (inputs ++ Asks request ∷ []) (answers ++ answer ∷ []) ≡ replies_till silent inputs answers ++ answer_text answer
unfolding told_till
request_told inputs answers request answer all = all_given silent inputs (Asks request ∷ []) answers (answer ∷ []) (answer_text answer) all (one_text answer)

pub request_answered : (inputs : List Input) (answers : List Answer) (request : Request) (answer : Answer) → AreAnswered inputs answers
    → ends answer.reply ≡ false → Grows inputs (inputs ++ Asks request ∷ []) answers (answers ++ answer ∷ []) (answer_text answer)
unfolding AreAnswered
request_answered inputs answers request answer all stays = record {
  answered = all_answered inputs (Asks request ∷ []) answers (answer ∷ []) all (stays, tt);
  text_is = request_told inputs answers request answer all;
}

no_more : (answers : List Answer) → answers ++ [] ≡ answers
no_more answers = append-nil answers

pub continued : (inputs : List Input) (answers : List Answer) (why : Continuation) → AreAnswered inputs answers
    → Grows inputs (inputs ++ GoesOn why ∷ []) answers answers (continuation_line why)
unfolding AreAnswered told_till
continued inputs answers why all =
    let next = inputs ++ GoesOn why ∷ [] in
    record {
      answered = subst (λ a. AreAnswered next a) (no_more answers) (all_answered inputs (GoesOn why ∷ []) answers [] all tt);
      text_is =
          ap (λ a. replies_till silent next a) (sym (no_more answers))
          ∙ all_given silent inputs (GoesOn why ∷ []) answers [] (continuation_line why) all (append-nil (continuation_line why));
    }

-- a fault is answered by its line, and then by nothing
pub fault_told : (inputs : List Input) (answers : List Answer) (fault : FrameFault) → AreAnswered inputs answers
    → replies_till silent (inputs ++ Faults fault ∷ []) answers ≡ replies_till silent inputs answers ++ bye_line (bye_of fault)
unfolding told_till
fault_told inputs answers fault all =
    ap (λ a. replies_till silent (inputs ++ Faults fault ∷ []) a) (sym (no_more answers))
    ∙ all_given silent inputs (Faults fault ∷ []) answers [] (bye_line (bye_of fault)) all refl

-- a request that has no answer stops what is given, whatever stands behind it
pub unanswered_told : (stop : Stop) (inputs : List Input) (answers : List Answer) (request : Request) (more : List Input) → AreAnswered inputs answers
    → replies_till stop (inputs ++ Asks request ∷ more) answers ≡ replies_till stop inputs answers ++ stop_text stop
unfolding told_till
unanswered_told stop inputs answers request more all =
    ap (λ a. replies_till stop (inputs ++ Asks request ∷ more) a) (sym (no_more answers))
    ∙ all_given stop inputs (Asks request ∷ more) answers [] (stop_text stop) all refl

-- where every request has its answer, nothing is said of a lost command
answered_till : (stop other : Stop) (inputs : List Input) (answers : List Answer) → AreAnswered inputs answers
    → replies_till stop inputs answers ≡ replies_till other inputs answers
unfolding AreAnswered told_till
answered_till stop other [] [] all = refl
answered_till stop other [] (a ∷ answers) all = absurd all
answered_till stop other (GoesOn why ∷ inputs) answers all = ap (λ t. continuation_line why ++ t) (answered_till stop other inputs answers all)
answered_till stop other (Faults fault ∷ inputs) answers all = absurd all
answered_till stop other (Asks request ∷ inputs) [] all = absurd all
answered_till stop other (Asks request ∷ inputs) (a ∷ answers) all =
    ap (λ t. answer_text a ++ unless_ended (ends a.reply) t) (answered_till stop other inputs answers all.1)

-- its line comes behind all that was given before
pub lost_told : (inputs : List Input) (answers : List Answer) (request : Request) (more : List Input) → AreAnswered inputs answers
    → replies_till is_lost (inputs ++ Asks request ∷ more) answers ≡ replies_till silent (inputs ++ Asks request ∷ more) answers ++ bye_line Lost
unfolding stop_told
lost_told inputs answers request more all =
    unanswered_told is_lost inputs answers request more all
    ∙ ap (λ t. t ++ bye_line Lost) (answered_till is_lost silent inputs answers all ∙ sym (append-nil (replies_till silent inputs answers))
    ∙ sym (unanswered_told silent inputs answers request more all))

cut_off : (text : List ℕ) (is_end : Bool) (more : List ℕ) → is_end ≡ true → text ++ unless_ended is_end more ≡ text
unfolding unless_ended
cut_off text true more e = append-nil text
cut_off text false more e = cc

-- behind an answer that ends the connection nothing is given, whatever else was sent
pub end_told : (stop : Stop) (inputs : List Input) (answers : List Answer) (request : Request) (more : List Input) (answer : Answer) (others : List Answer)
    → AreAnswered inputs answers → ends answer.reply ≡ true
    → replies_till stop (inputs ++ Asks request ∷ more) (answers ++ answer ∷ others) ≡ replies_till stop inputs answers ++ answer_text answer
unfolding told_till
end_told stop inputs answers request more answer others all is_end =
    all_given stop inputs (Asks request ∷ more) answers (answer ∷ others) (answer_text answer) all
    (cut_off (answer_text answer) (ends answer.reply) _ is_end)

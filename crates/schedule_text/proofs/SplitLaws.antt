-- A text is cut at its first space, and the arguments of a line one after another.
use Rattle.std.proofs.Common.{◌≡◌, ℕ, zero, suc, ◌<◌, true, false, nat_eq, List, [], ◌∷◌, ◌++◌, length, slice_index, take, drop, None, Some, Result, Ok, Err, refl, sym, ap, arith}
use Rattle.std.proofs.Common.{◌∙◌, append_assoc, append-nil}
use Rattle.std.proofs.lemmas.Bool.{false_from_ne_true}
use Rattle.memchr.specs.Find.{IsFirstByte, is_byte}
use Rattle.schedule_text.specs.declared.schedule.fault.Rule.{Rule}
use Rattle.schedule_text.specs.declared.schedule.fault.Rule.TheVariants.{WrongCount}
use Rattle.schedule_text.specs.ScheduleRules.{◌>>=◌}
use Rattle.schedule_text.specs.ScheduleWords.{WordAndRest, split_word, first_argument, arguments_in, with_arguments}
use Rattle.schedule_text.specs.declared.words.Kind.{Kind}

pub no_space : (text : List ℕ) → IsFirstByte (is_byte 32) text None → split_word text ≡ record { word = text; rest = [] }
unfolding split_word
no_space [] none = refl
no_space (b ∷ text) none =
    rw (false_from_ne_true _ (none 0 (omega arith) (omega arith)), no_space text (λ k low high. none (suc k) (omega arith) (omega arith))) refl

split_at : (text : List ℕ) (k : ℕ) → k < length text → ((q : ℕ) → q < k → nat_eq (slice_index text q) 32 ≡ false) → nat_eq (slice_index text k) 32 ≡ true
    → split_word text ≡ record { word = take k text; rest = drop k text }
unfolding split_word
split_at [] k within none found = absurd (omega arith)
split_at (b ∷ text) zero within none found = rw found refl
split_at (b ∷ text) (suc k) within none found =
    rw (none 0 (omega arith), split_at text k (omega arith) (λ q h. none (suc q) (omega arith)) found) refl

pub space_at : (text : List ℕ) (k : ℕ) → IsFirstByte (is_byte 32) text (Some k) → split_word text ≡ record { word = take k text; rest = drop k text }
space_at text k first = split_at text k first.0.high (λ q h. false_from_ne_true _ (first.0.before q (omega arith) h)) first.1

pub ruleset by_space = (no_space, space_at)

pub none_before : (more : Result (List (List ℕ)) Rule) → with_arguments [] more ≡ more
unfolding with_arguments
none_before (Ok more) = refl
none_before (Err rule) = refl

one_before : (before : List (List ℕ)) (word : List ℕ) (more : Result (List (List ℕ)) Rule)
    → with_arguments (before ++ word ∷ []) more ≡ with_arguments before (more >>= λ arguments. Ok (word ∷ arguments))
unfolding with_arguments
one_before before word (Ok more) = ap Ok (append_assoc before (word ∷ []) more)
one_before before word (Err rule) = refl

none_left : (rest : List ℕ) → length rest ≡ 0 → arguments_in [] rest ≡ Ok []
unfolding arguments_in
none_left [] h = refl
none_left (b ∷ rest) h = absurd (omega arith)

some_left : (rest : List ℕ) → 0 < length rest → arguments_in [] rest ≡ Err WrongCount
unfolding arguments_in
some_left [] h = absurd (omega arith)
some_left (b ∷ rest) h = refl

-- one argument more is cut
pub goes_on : (before : List (List ℕ)) (kinds more : List Kind) (kind : Kind) (left : List ℕ) (words : WordAndRest) (all : Result (List (List ℕ)) Rule)
    → kinds ≡ kind ∷ more → first_argument kind left ≡ Ok words → with_arguments before (arguments_in kinds left) ≡ all
    → with_arguments (before ++ words.word ∷ []) (arguments_in more words.rest) ≡ all
unfolding arguments_in
goes_on before kinds more kind left words all k first so_far =
    one_before before words.word (arguments_in more words.rest) ∙ (rw (k, first) at so_far)

-- an argument is none
pub stops : (before : List (List ℕ)) (kinds more : List Kind) (kind : Kind) (left : List ℕ) (rule : Rule) (all : Result (List (List ℕ)) Rule)
    → kinds ≡ kind ∷ more → first_argument kind left ≡ Err rule → with_arguments before (arguments_in kinds left) ≡ all → all ≡ Err rule
unfolding arguments_in with_arguments
stops before kinds more kind left rule all k first so_far = sym (rw (k, first) at so_far)

-- all arguments are cut, and nothing is left
pub ends : (before : List (List ℕ)) (kinds : List Kind) (left : List ℕ) (all : Result (List (List ℕ)) Rule) → kinds ≡ [] → length left ≡ 0
    → with_arguments before (arguments_in kinds left) ≡ all → all ≡ Ok before
unfolding with_arguments
ends before kinds left all k none so_far = sym (rw (k, none_left left none) at so_far) ∙ ap Ok (append-nil before)

pub ends_early : (before : List (List ℕ)) (kinds : List Kind) (left : List ℕ) (all : Result (List (List ℕ)) Rule) → kinds ≡ [] → 0 < length left
    → with_arguments before (arguments_in kinds left) ≡ all → all ≡ Err WrongCount
unfolding with_arguments
ends_early before kinds left all k some so_far = sym (rw (k, some_left left some) at so_far)

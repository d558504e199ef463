-- The mark that saw a command, among those that were left out: it is put back among the marks of steps that act.
use Rattle.std.proofs.Common.{◌≡◌, ◌≢◌, ℕ, ◌+◌, ◌&&◌, Bool, true, false, not, cond, nat_eq, nat_le, List, ◌∷◌, if◌then◌else◌, Option, None, Some, refl, sym, ◌∙◌, ap, arith}
use Rattle.std.specs.Prelude.{All, AllPairs}
use Rattle.std.proofs.Math.Logic.{⊎_elim}
use Rattle.std.proofs.lemmas.Bool.{cases_eq}
use Rattle.std.proofs.lemmas.Bool.Decides.{nat_tests}
use Rattle.std.proofs.lemmas.List.Elements.{All-cons, All-head, All-tail}
use Rattle.std.proofs.lemmas.List.Kept.{AllPairs-cons}
use Rattle.link_msg.specs.declared.counts.Counts.TheVariants.{IfAnswered}
use Rattle.mur_base.specs.declared.point.AskId.{AskId}
use Rattle.mur_model.proofs.HistoryGrows.{one_up_to}
use Rattle.mark_history.specs.declared.mark.Mark.{Mark}
use Rattle.mark_history.specs.declared.mark.MarkKind.{MarkKind}
use Rattle.mark_history.specs.declared.mark.MarkKind.TheVariants.{Home}
use Rattle.mark_history.specs.History.{is_of, next_of}
use Rattle.mark_history.specs.Marked.{last_mark, last_mark_from}
use Rattle.mark_history.proofs.LastMarks.{found_last, none_last}
use Rattle.mark_history.proofs.LeftOut.{LeavesOut, only_saw}
use Rattle.mark_history.proofs.LeftOut.LeavesOut.{no_marks, stays, left_out}
use Rattle.mark_history.proofs.Marks.{MarkedOnce, acting_mark, head_pairs, is_mark, one_next, tail_pairs}
use Rattle.mark_history.proofs.Tally.{acts, command_of, conn_of, Fit, fits, of_ask, of_equal, of_other, same_id}
use Rattle.mark_history.proofs.Without.{Without, count_without, next_without, none_of}
use Rattle.mark_history.proofs.Without.Without.{here, behind}

-- ---- marks with one of a command more

pub each_with : (P : Mark → Type 0) (mark : Mark) (marks less : List Mark) → Without mark marks less → P mark → All P less → All P marks
each_with P mark marks less (here more) own all = All-cons P mark less own all
each_with P mark marks less (behind first more rest out) own all =
    All-cons P first more (All-head P first rest all) (each_with P mark more rest out own (All-tail P first rest all))

pub fit_with : (told : ℕ → ℕ) (mark : Mark) (marks less : List Mark) → Without mark marks less → All (λ (m : Mark). is_of m.ask mark ≡ false) less
    → All (λ (m : Mark). is_of mark.ask m ≡ false) less → fits mark.kind None (nat_le (command_of mark) (told (conn_of mark))) ≡ true
    → Fit told less → Fit told marks
unfolding Fit
fit_with told mark marks less (here more) apart alone own fit = (
  ap (λ n. fits mark.kind n (nat_le (command_of mark) (told (conn_of mark)))) (none_of mark.ask less alone) ∙ own,
  fit,
)
fit_with told mark marks less (behind first more rest out) apart alone own fit = (
  ap (λ n. fits first.kind n (nat_le (command_of first) (told (conn_of first))))
      (next_without first.ask mark more rest out (All-head (λ (m : Mark). is_of m.ask mark ≡ false) first rest apart))
      ∙ fit.0,
  fit_with told mark more rest out (All-tail (λ (m : Mark). is_of m.ask mark ≡ false) first rest apart)
      (All-tail (λ (m : Mark). is_of mark.ask m ≡ false) first rest alone) own fit.1,
)

pub once_with : (counts next : ℕ → ℕ) (mark : Mark) (marks less : List Mark) → Without mark marks less → acts mark.kind ≡ true
    → command_of mark ≡ counts (conn_of mark) + 1 → next (conn_of mark) ≡ counts (conn_of mark) + 1
    → ((other : ℕ) → other ≢ conn_of mark → next other ≡ counts other) → MarkedOnce counts less → MarkedOnce next marks
once_with counts next mark marks less out acting is more others once other number =
    ⊎_elim
    (λ (same : other ≡ conn_of mark).
    let tested : nat_eq (conn_of mark) other ≡ true = grind (arith, nat_tests) in
    let its : is_mark other number mark ≡ nat_eq (counts (conn_of mark) + 1) number =
    acting_mark other number mark acting ∙ ap (λ t. t && nat_eq (command_of mark) number) tested ∙ ap (λ c. nat_eq c number) is in
    omega (
      arith,
      count_without (is_mark other number) mark marks less out,
      once other number,
      ap (λ c. one_up_to (counts c) number) same,
      ap (λ c. one_up_to c number) more,
      one_next (counts (conn_of mark)) number,
      ap {B = ℕ} (λ b. cond b 1 0) its,
      ap (λ c. one_up_to (next c) number) same,
    ))
    (λ (ne : other ≢ conn_of mark).
    let tested : nat_eq (conn_of mark) other ≡ false = grind (arith, nat_tests) in
    let its : is_mark other number mark ≡ false = acting_mark other number mark acting ∙ ap (λ t. t && nat_eq (command_of mark) number) tested in
    omega (
      arith,
      count_without (is_mark other number) mark marks less out,
      once other number,
      ap {B = ℕ} (λ b. cond b 1 0) its,
      ap (λ c. one_up_to c number) (others other ne),
    ))
    (cases_eq other (conn_of mark))

-- ---- the mark that saw the command, among those that were left out

pub each_left : (P : Mark → Type 0) (said : ℕ → ℕ) (marks acting : List Mark) → LeavesOut said marks acting → All P marks → All P acting
each_left P said marks acting no_marks all = all
each_left P said marks acting (stays mark more rest next leaves) all =
    All-cons P mark rest (All-head P mark more all) (each_left P said more rest leaves (All-tail P mark more all))
each_left P said marks acting (left_out mark more rest kind saw leaves) all = each_left P said more acting leaves (All-tail P mark more all)

pub pairs_left : (R : Mark → Mark → Type 0) (said : ℕ → ℕ) (marks acting : List Mark) → LeavesOut said marks acting → AllPairs R marks → AllPairs R acting
pairs_left R said marks acting no_marks pairs = pairs
pairs_left R said marks acting (stays mark more rest next leaves) pairs =
    AllPairs-cons R mark rest (each_left (R mark) said more rest leaves (head_pairs R mark more pairs))
    (pairs_left R said more rest leaves (tail_pairs R mark more pairs))
pairs_left R said marks acting (left_out mark more rest kind saw leaves) pairs = pairs_left R said more acting leaves (tail_pairs R mark more pairs)

-- what had no reply has none, but for the one that is put in
abbrev pub StillUnreplied : (ℕ → ℕ) → (ℕ → ℕ) → AskId → Type 0
StillUnreplied said now ask = (mark : Mark) → is_of ask mark ≡ false → nat_le (command_of mark) (said (conn_of mark)) ≡ false
    → nat_le (command_of mark) (now (conn_of mark)) ≡ false

saw_still : (next : Option MarkKind) (one other : Bool) → (one ≡ false → other ≡ false) → only_saw next one ≡ true → only_saw next other ≡ true
unfolding only_saw
saw_still None true other still saw = cc
saw_still None false other still saw = ap not (still refl)
saw_still (Some kind) one other still saw = saw

saw_some : (next : Option MarkKind) (kind : MarkKind) (one other : Bool) → next ≡ Some kind → only_saw next one ≡ true → only_saw next other ≡ true
unfolding only_saw
saw_some None kind one other e saw = cc
saw_some (Some its) kind one other e saw = saw

pub record PutIn (now : ℕ → ℕ) (ask : AskId) (marks acting : List Mark) : Type 0 where
  pub mark : Mark
  pub more : List Mark
  pub out : Without mark more acting
  pub leaves : LeavesOut now marks more
  pub its_ask : mark.ask ≡ ask
  pub kind : mark.kind ≡ Home IfAnswered
  pub last : last_mark ask marks ≡ Some mark

rest_by : (ask : AskId) (mark : Mark) (marks : List Mark) (b : Bool) → is_of ask mark ≡ b → (if b then Some mark.kind else next_of ask marks) ≡ None
    → (is_of ask mark ≡ false) × (next_of ask marks ≡ None)
rest_by ask mark marks true e none = cc
rest_by ask mark marks false e none = (e, none)

rest_none : (ask : AskId) (mark : Mark) (marks : List Mark) → next_of ask (mark ∷ marks) ≡ None → (is_of ask mark ≡ false) × (next_of ask marks ≡ None)
unfolding next_of
rest_none ask mark marks none = rest_by ask mark marks (is_of ask mark) refl none

-- none is of the command
leaves_still : (said now : ℕ → ℕ) (ask : AskId) (marks acting : List Mark) → StillUnreplied said now ask → next_of ask marks ≡ None
    → LeavesOut said marks acting → LeavesOut now marks acting
leaves_still said now ask marks acting still none no_marks = no_marks
leaves_still said now ask marks acting still none (stays mark more rest next leaves) =
    stays mark more rest next (leaves_still said now ask more rest still (rest_none ask mark more none).1 leaves)
leaves_still said now ask marks acting still none (left_out mark more rest kind saw leaves) =
    left_out mark more acting kind
    (saw_still (next_of mark.ask more) _ _ (still mark (rest_none ask mark more none).0) saw)
    (leaves_still said now ask more acting still (rest_none ask mark more none).1 leaves)

own_by : (ask : AskId) (mark : Mark) (marks : List Mark) (b : Bool) → is_of ask mark ≡ b → next_of ask marks ≡ None
    → ((if b then Some mark.kind else next_of ask marks) ≡ None → ⊥) → is_of ask mark ≡ true
own_by ask mark marks true e none some = e
own_by ask mark marks false e none some = absurd (some none)

-- the last of the command
own_last : (ask : AskId) (mark : Mark) (marks : List Mark) → next_of ask marks ≡ None → (next_of ask (mark ∷ marks) ≡ None → ⊥) → is_of ask mark ≡ true
unfolding next_of
own_last ask mark marks none some = own_by ask mark marks (is_of ask mark) refl none some

some_behind : (ask : AskId) (mark : Mark) (marks : List Mark) → is_of ask mark ≡ false → (next_of ask (mark ∷ marks) ≡ None → ⊥)
    → next_of ask marks ≡ None → ⊥
unfolding next_of
some_behind ask mark marks other some none = some (ap (λ b. if b then Some mark.kind else next_of ask marks) other ∙ none)

its_id : (ask : AskId) (mark : Mark) → is_of ask mark ≡ true → mark.ask ≡ ask
its_id ask mark same = let both = of_equal ask mark same in same_id mark.ask ask both.0 both.1

not_its : (ask : AskId) (mark other : Mark) → is_of ask mark ≡ false → other.ask ≡ ask → is_of mark.ask other ≡ false
not_its ask mark other apart its = of_other mark other _ refl (λ c n.
    (let both : true ≡ false =
    sym (of_ask ask mark (c ∙ ap (λ (a : AskId). a.conn) its) (n ∙ ap (λ (a : AskId). a.command) its)) ∙ apart in cc))

module _ (said now : ℕ → ℕ) (ask : AskId) (still : StillUnreplied said now ask) where
  stays_in : (mark : Mark) (more rest : List Mark) → is_of ask mark ≡ false → (acts mark.kind ≡ true → next_of mark.ask more ≡ next_of mark.ask rest)
      → PutIn now ask more rest → PutIn now ask (mark ∷ more) (mark ∷ rest)
  unfolding last_mark_from
  stays_in mark more rest apart next its = record {
    mark = its.mark;
    more = mark ∷ its.more;
    out = behind mark its.more rest its.out;
    leaves = stays mark more its.more
        (λ a. next a ∙ sym (next_without mark.ask its.mark its.more rest its.out (not_its ask mark its.mark apart its.its_ask))) its.leaves;
    its_ask = its.its_ask;
    kind = its.kind;
    last = found_last ask (if is_of ask mark then Some mark else None) more its.mark its.last;
  }

  saw_by : (mark : Mark) (more : List Mark) (kind : MarkKind) → next_of ask more ≡ Some kind
      → only_saw (next_of mark.ask more) (nat_le (command_of mark) (said (conn_of mark))) ≡ true
      → (b : Bool) → is_of ask mark ≡ b → only_saw (next_of mark.ask more) (nat_le (command_of mark) (now (conn_of mark))) ≡ true
  saw_by mark more kind next saw true e = saw_some (next_of mark.ask more) kind _ _ (ap (λ a. next_of a more) (its_id ask mark e) ∙ next) saw
  saw_by mark more kind next saw false e = saw_still (next_of mark.ask more) _ _ (still mark e) saw

  left_in : (mark : Mark) (more acting : List Mark) → mark.kind ≡ Home IfAnswered
      → only_saw (next_of mark.ask more) (nat_le (command_of mark) (said (conn_of mark))) ≡ true → All (λ (m : Mark). is_of ask m ≡ false) acting
      → LeavesOut said more acting → (next_of ask (mark ∷ more) ≡ None → ⊥) → (next : Option MarkKind) → next_of ask more ≡ next
      → ((next_of ask more ≡ None → ⊥) → PutIn now ask more acting) → PutIn now ask (mark ∷ more) acting
  unfolding last_mark_from
  left_in mark more acting kind saw apart leaves some None next further =
      let id : mark.ask ≡ ask = its_id ask mark (own_last ask mark more next some) in
      record {
        mark = mark;
        more = mark ∷ acting;
        out = here acting;
        leaves = stays mark more acting
            (λ a. ap (λ x. next_of x more) id ∙ next ∙ sym (none_of ask acting apart) ∙ ap (λ x. next_of x acting) (sym id))
            (leaves_still said now ask more acting still next leaves);
        its_ask = id;
        kind = kind;
        last = ap (λ own. last_mark_from ask (if own then Some mark else None) more) (own_last ask mark more next some) ∙ none_last ask (Some mark) more next;
      }
  left_in mark more acting kind saw apart leaves some (Some its_kind) next further =
      let its = further (λ none. (let both : None ≡ Some its_kind = sym none ∙ next in cc)) in
      record {
        mark = its.mark;
        more = its.more;
        out = its.out;
        leaves = left_out mark more its.more kind (saw_by mark more its_kind next saw (is_of ask mark) refl) its.leaves;
        its_ask = its.its_ask;
        kind = its.kind;
        last = found_last ask (if is_of ask mark then Some mark else None) more its.mark its.last;
      }

  -- the last mark of the command is put in, where no step acts on it
  pub put_in : (marks acting : List Mark) → All (λ (m : Mark). is_of ask m ≡ false) acting → LeavesOut said marks acting
      → (next_of ask marks ≡ None → ⊥) → PutIn now ask marks acting
  unfolding next_of
  put_in marks acting apart no_marks some = absurd (some refl)
  put_in marks acting apart (stays mark more rest next leaves) some =
      let other : is_of ask mark ≡ false = All-head (λ (m : Mark). is_of ask m ≡ false) mark rest apart in
      stays_in mark more rest other next
      (put_in more rest (All-tail (λ (m : Mark). is_of ask m ≡ false) mark rest apart) leaves (some_behind ask mark more other some))
  put_in marks acting apart (left_out mark more rest kind saw leaves) some =
      left_in mark more rest kind saw apart leaves some (next_of ask more) refl (λ further. put_in more rest apart leaves further)

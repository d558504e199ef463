-- Marks without one of them, which is the only one of its command.
use Rattle.std.proofs.Common.{◌≡◌, ℕ, zero, suc, ◌+◌, ◌≤◌, ◌<◌, Bool, true, false, cond, nat_eq, nat_le, List, [], ◌∷◌, length, get_or, Option, None, Some, refl, sym, ◌∙◌, ap, subst, arith}
use Rattle.std.proofs.Common.{if◌then◌else◌}
use Rattle.std.specs.Prelude.{All, AllPairs, count_by}
use Rattle.std.proofs.lemmas.Bool.Decides.{nat_tests}
use Rattle.std.proofs.lemmas.List.Elements.{All-cons, All-head, All-nil, All-tail}
use Rattle.std.proofs.lemmas.List.Kept.{AllPairs-cons}
use Rattle.link_msg.specs.declared.counts.Counts.TheVariants.{IfAnswered}
use Rattle.link_msg.specs.declared.how.How.TheVariants.{Here, Behind, Reserved, Unreached}
use Rattle.mur_base.specs.declared.point.AskId.{AskId}
use Rattle.mark_history.specs.declared.mark.Mark.{Mark}
use Rattle.mark_history.specs.declared.mark.MarkKind.{MarkKind}
use Rattle.mark_history.specs.declared.mark.MarkKind.TheVariants.{Home, Told}
use Rattle.mark_history.specs.History.{is_of, next_of}
use Rattle.mark_history.proofs.Numbers.{count_cons, none_are}
use Rattle.mark_history.proofs.LeftOut.{LeavesOut, only_saw}
use Rattle.mark_history.proofs.LeftOut.LeavesOut.{no_marks, stays, left_out}
use Rattle.mark_history.proofs.Marks.{head_pairs, is_mark, tail_pairs}
use Rattle.mark_history.proofs.Tally.{acts, command_of, conn_of, Fit, fits, of_other}

-- the second are the first without this mark
pub data Without (mark : Mark) : List Mark → List Mark → Type 0 where
  here : (marks : List Mark) → Without mark (mark ∷ marks) marks
  behind : (first : Mark) (marks less : List Mark) → Without mark marks less → Without mark (first ∷ marks) (first ∷ less)

pub taken_out : (marks : List Mark) (k : ℕ) (mark : Mark) → k < length marks → get_or marks k mark ≡ mark → (less : List Mark) × Without mark marks less
taken_out [] k mark within at = absurd (omega arith)
taken_out (first ∷ marks) zero mark within at = (marks, subst (λ m. Without mark (m ∷ marks) marks) (sym at) (here marks))
taken_out (first ∷ marks) (suc k) mark within at = let rest = taken_out marks k mark (omega arith) at in (first ∷ rest.0, behind first marks rest.0 rest.1)

pub each_without : (P : Mark → Type 0) (mark : Mark) (marks less : List Mark) → Without mark marks less → All P marks → All P less
each_without P mark marks less (here more) all = All-tail P mark more all
each_without P mark marks less (behind first more rest out) all =
    All-cons P first rest (All-head P first more all) (each_without P mark more rest out (All-tail P first more all))

pub pairs_without : (R : Mark → Mark → Type 0) (mark : Mark) (marks less : List Mark) → Without mark marks less → AllPairs R marks → AllPairs R less
pairs_without R mark marks less (here more) pairs = tail_pairs R mark more pairs
pairs_without R mark marks less (behind first more rest out) pairs =
    AllPairs-cons R first rest (each_without (R first) mark more rest out (head_pairs R first more pairs))
    (pairs_without R mark more rest out (tail_pairs R first more pairs))

pub count_without : (p : Mark → Bool) (mark : Mark) (marks less : List Mark) → Without mark marks less
    → count_by p marks ≡ count_by p less + cond (p mark) 1 0
count_without p mark marks less (here more) = omega (arith, count_cons p mark more)
count_without p mark marks less (behind first more rest out) =
    omega (arith, count_cons p first more, count_cons p first rest, count_without p mark more rest out)

pub next_without : (ask : AskId) (mark : Mark) (marks less : List Mark) → Without mark marks less → is_of ask mark ≡ false
    → next_of ask marks ≡ next_of ask less
unfolding next_of
next_without ask mark marks less (here more) other = ap (λ b. if b then Some mark.kind else next_of ask more) other
next_without ask mark marks less (behind first more rest out) other =
    ap (λ n. if is_of ask first then Some first.kind else n) (next_without ask mark more rest out other)

pub fit_without : (told : ℕ → ℕ) (mark : Mark) (marks less : List Mark) → Without mark marks less → All (λ (m : Mark). is_of m.ask mark ≡ false) less
    → Fit told marks → Fit told less
unfolding Fit
fit_without told mark marks less (here more) apart fit = fit.1
fit_without told mark marks less (behind first more rest out) apart fit = (
  ap (λ n. fits first.kind n (nat_le (command_of first) (told (conn_of first))))
      (sym (next_without first.ask mark more rest out (All-head (λ (m : Mark). is_of m.ask mark ≡ false) first rest apart)))
      ∙ fit.0,
  fit_without told mark more rest out (All-tail (λ (m : Mark). is_of m.ask mark ≡ false) first rest apart) fit.1,
)

-- ---- the others are of other commands

pub acts_by : (kind : MarkKind) (next : Option MarkKind) → fits kind next false ≡ true → acts kind ≡ true
unfolding fits acts
acts_by (Home counts) next fit = refl
acts_by (Told Here) next fit = refl
acts_by (Told Behind) next fit = cc
acts_by (Told Reserved) next fit = cc
acts_by (Told (Unreached node)) next fit = refl

-- a mark of a command that its client wasn't told of
abbrev pub ActsUntold : (ℕ → ℕ) → Mark → Type 0
ActsUntold told mark = nat_le (command_of mark) (told (conn_of mark)) ≡ false → acts mark.kind ≡ true

pub untold_acts : (told : ℕ → ℕ) (marks : List Mark) → Fit told marks → All (ActsUntold told) marks
unfolding Fit
untold_acts told [] fit = All-nil (ActsUntold told)
untold_acts told (mark ∷ marks) fit =
    All-cons (ActsUntold told) mark marks
    (λ untold. acts_by mark.kind (next_of mark.ask marks) (ap (fits mark.kind (next_of mark.ask marks)) (sym untold) ∙ fit.0))
    (untold_acts told marks fit.1)

of_same : (mark : Mark) (conn command : ℕ) → acts mark.kind ≡ true → conn_of mark ≡ conn → command_of mark ≡ command → is_mark conn command mark ≡ true
of_same mark conn command acting c n =
    let one : nat_eq (conn_of mark) conn ≡ true = grind (arith, nat_tests) in
    let two : nat_eq (command_of mark) command ≡ true = grind (arith, nat_tests) in rw (acting, one, two) refl

-- a mark of another command
abbrev pub IsApart : Mark → Mark → Type 0
IsApart mark other = conn_of other ≡ conn_of mark → command_of other ≡ command_of mark → ⊥

-- a mark of an earlier command, if it is of the same connection
abbrev pub IsBefore : Mark → Mark → Type 0
IsBefore mark other = conn_of other ≡ conn_of mark → command_of other < command_of mark

-- of a command that its client wasn't told of, and of which one step acts, there is one mark
pub others_apart : (told : ℕ → ℕ) (mark : Mark) (marks less : List Mark) → Without mark marks less → acts mark.kind ≡ true
    → nat_le (command_of mark) (told (conn_of mark)) ≡ false → count_by (is_mark (conn_of mark) (command_of mark)) marks ≤ 1
    → All (ActsUntold told) less → All (IsApart mark) less
others_apart told mark marks less out acting untold few all =
    let its : is_mark (conn_of mark) (command_of mark) mark ≡ true = of_same mark (conn_of mark) (command_of mark) acting refl refl in
    let more = count_without (is_mark (conn_of mark) (command_of mark)) mark marks less out in
    let none : count_by (is_mark (conn_of mark) (command_of mark)) less ≡ 0 = omega (arith, few, more, ap {B = ℕ} (λ b. cond b 1 0) its) in
    λ k d h. λ c n. none_are (is_mark (conn_of mark) (command_of mark)) less none k d h
    (of_same (get_or less k d) (conn_of mark) (command_of mark)
    (all k d h (ap (λ x. nat_le (command_of (get_or less k d)) (told x)) c ∙ ap (λ x. nat_le x (told (conn_of mark))) n ∙ untold)) c n)

pub none_of : (ask : AskId) (marks : List Mark) → All (λ (m : Mark). is_of ask m ≡ false) marks → next_of ask marks ≡ None
unfolding next_of
none_of ask [] apart = refl
none_of ask (mark ∷ marks) apart =
    ap (λ b. if b then Some mark.kind else next_of ask marks) (All-head (λ (m : Mark). is_of ask m ≡ false) mark marks apart)
    ∙ none_of ask marks (All-tail (λ (m : Mark). is_of ask m ≡ false) mark marks apart)

-- ---- and so are the marks that leave some out

fewer_saw : (next : Option MarkKind) (number one other : ℕ) → one ≤ other → only_saw next (nat_le number other) ≡ true
    → only_saw next (nat_le number one) ≡ true
unfolding only_saw
fewer_saw None number one other le saw = grind (arith, nat_tests)
fewer_saw (Some kind) number one other le saw = saw

leaves_fewer : (said now : ℕ → ℕ) (marks acting : List Mark) → ((conn : ℕ) → now conn ≤ said conn) → LeavesOut said marks acting → LeavesOut now marks acting
leaves_fewer said now marks acting fewer no_marks = no_marks
leaves_fewer said now marks acting fewer (stays mark more rest next leaves) = stays mark more rest next (leaves_fewer said now more rest fewer leaves)
leaves_fewer said now marks acting fewer (left_out mark more rest kind saw leaves) =
    left_out mark more rest kind
    (fewer_saw (next_of mark.ask more) (command_of mark) (now (conn_of mark)) (said (conn_of mark)) (fewer (conn_of mark)) saw)
    (leaves_fewer said now more rest fewer leaves)

unreplied_saw : (next : Option MarkKind) (replied : Bool) → next ≡ None → replied ≡ false → only_saw next replied ≡ true
unfolding only_saw
unreplied_saw next replied none unreplied = ap (λ n. only_saw n replied) none ∙ ap (only_saw None) unreplied

pub acts_home : (mark : Mark) → mark.kind ≡ Home IfAnswered → acts mark.kind ≡ true
unfolding acts
acts_home mark kind = ap acts kind

-- a mark that counts only if its client is told is left out, too: its command then has no reply
pub leaves_without : (said now : ℕ → ℕ) (mark : Mark) (marks acting less : List Mark) → LeavesOut said marks acting → Without mark acting less
    → mark.kind ≡ Home IfAnswered → nat_le (command_of mark) (now (conn_of mark)) ≡ false → ((conn : ℕ) → now conn ≤ said conn)
    → All (IsApart mark) less → LeavesOut now marks less
leaves_without said now mark marks acting less (stays first more rest next leaves) (here others) kind unreplied fewer apart =
    left_out mark more others kind
    (unreplied_saw (next_of mark.ask more) _
    (next (acts_home mark kind) ∙ none_of mark.ask others (λ k d h. of_other mark (get_or others k d) _ refl (λ c n. apart k d h (sym c) (sym n)))) unreplied)
    (leaves_fewer said now more others fewer leaves)
leaves_without said now mark marks acting less (stays first more rest next leaves) (behind again others fewer_others out) kind unreplied fewer apart =
    stays first more fewer_others
    (λ a. next a ∙ next_without first.ask mark rest fewer_others out (of_other first mark _ refl
    (All-head (IsApart mark) first fewer_others apart)))
    (leaves_without said now mark more rest fewer_others leaves out kind unreplied fewer (All-tail (IsApart mark) first fewer_others apart))
leaves_without said now mark marks acting less (left_out first more rest its saw leaves) out kind unreplied fewer apart =
    left_out first more less its
    (fewer_saw (next_of first.ask more) (command_of first) (now (conn_of first)) (said (conn_of first)) (fewer (conn_of first)) saw)
    (leaves_without said now mark more rest less leaves out kind unreplied fewer apart)
leaves_without said now mark marks acting less no_marks out kind unreplied fewer apart = elim out [ ]

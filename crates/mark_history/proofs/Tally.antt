-- What each mark of a run counts as, by how many commands of each connection its client was told of.
use Rattle.std.proofs.Common.{◌≡◌, ℕ, suc, ◌<◌, ◌&&◌, Bool, true, false, not, nat_eq, nat_le, List, [], ◌∷◌, ◌++◌, if◌then◌else◌, Option, None, Some, refl, sym, ◌∙◌, ap}
use Rattle.std.proofs.Common.{arith}
use Rattle.std.specs.Prelude.{All, ⊤}
use Rattle.std.proofs.lemmas.Bool.Decides.{nat_tests}
use Rattle.std.proofs.lemmas.List.Elements.{All-cons, All-nil}
use Rattle.link_msg.specs.declared.counts.Counts.{Counts}
use Rattle.link_msg.specs.declared.counts.Counts.TheVariants.{Always, IfAnswered}
use Rattle.link_msg.specs.declared.how.How.{How}
use Rattle.link_msg.specs.declared.how.How.TheVariants.{Here, Behind, Reserved, Unreached}
use Rattle.mur_base.specs.declared.point.AskId.{AskId}
use Rattle.mur_base.specs.declared.point.What.TheVariants.{Reply as replied, Lost as lost, Reserved as reserved, Unreached as unreached}
use Rattle.mark_history.specs.declared.mark.Mark.{Mark}
use Rattle.mark_history.specs.declared.mark.MarkKind.{MarkKind}
use Rattle.mark_history.specs.declared.mark.MarkKind.TheVariants.{Home, Told}
use Rattle.mark_history.specs.History.{is_of, next_of, counts_as, refused_as, untold_as}

abbrev pub conn_of : Mark → ℕ
conn_of mark = (mark.ask).conn

abbrev pub command_of : Mark → ℕ
command_of mark = (mark.ask).command

-- whether the step of a mark carries its command out or answers it
unfoldable pub acts : MarkKind → Bool
acts (Home counts) = true
acts (Told Here) = true
acts (Told (Unreached node)) = true
acts (Told Behind) = false
acts (Told Reserved) = false

-- whether a client is told that a node isn't reached
unfoldable pub tells_unreached : MarkKind → Bool
tells_unreached (Home counts) = false
tells_unreached (Told Here) = false
tells_unreached (Told (Unreached node)) = true
tells_unreached (Told Behind) = false
tells_unreached (Told Reserved) = false

-- whether the client of a command may be told that it was refused, by whether the step that answered always counts, and whether the client is told at all
unfoldable pub may_refuse : Counts → Bool → Bool
may_refuse Always told = false
may_refuse IfAnswered told = told

-- whether a client is told next that its command was refused
unfoldable pub tells_refusal : Option MarkKind → Bool
tells_refusal None = false
tells_refusal (Some (Home counts)) = false
tells_refusal (Some (Told Here)) = false
tells_refusal (Some (Told Behind)) = false
tells_refusal (Some (Told Reserved)) = true
tells_refusal (Some (Told (Unreached node))) = false

-- whether a mark may have this next mark of its command, by whether its client was told of the command
unfoldable pub fits : MarkKind → Option MarkKind → Bool → Bool
fits (Told Here) next told = told
fits (Told Behind) next told = told
fits (Told Reserved) next told = told
fits (Told (Unreached node)) next told = told
fits (Home counts) None told = not told
fits (Home counts) (Some (Told Behind)) told = told
fits (Home counts) (Some (Told Reserved)) told = may_refuse counts told
fits (Home counts) (Some kind) told = false

-- each mark fits, where so many commands of each connection were told of
unfoldable pub Fit : (ℕ → ℕ) → List Mark → Type 0
Fit told [] = ⊤
Fit told (mark ∷ marks) = (fits mark.kind (next_of mark.ask marks) (nat_le (command_of mark) (told (conn_of mark))) ≡ true) × Fit told marks

-- what a mark that fits counts as
pub data Verdict (told : Bool) (kind : MarkKind) (next : Option MarkKind) : Type 0 where
  replies : told ≡ true → acts kind ≡ true → tells_unreached kind ≡ false → (kind ≡ Home IfAnswered → tells_refusal next ≡ false)
      → counts_as kind next ≡ Some replied → Verdict told kind next
  refuses : told ≡ true → kind ≡ Home IfAnswered → next ≡ Some (Told Reserved) → counts_as kind next ≡ Some reserved → Verdict told kind next
  is_unreached : (node : List ℕ) → told ≡ true → kind ≡ Told (Unreached node) → counts_as kind next ≡ Some (unreached node) → Verdict told kind next
  is_lost : told ≡ false → kind ≡ Home Always → next ≡ None → counts_as kind next ≡ Some lost → Verdict told kind next
  is_open : told ≡ false → kind ≡ Home IfAnswered → next ≡ None → counts_as kind next ≡ None → Verdict told kind next
  tells : acts kind ≡ false → counts_as kind next ≡ None → Verdict told kind next

pub verdict : (kind : MarkKind) (next : Option MarkKind) (told : Bool) → fits kind next told ≡ true → Verdict told kind next
unfolding fits counts_as untold_as refused_as acts may_refuse tells_refusal tells_unreached
verdict (Told Here) next true h = replies refl refl refl (λ k. cc) refl
verdict (Told Here) next false h = cc
verdict (Told Behind) next told h = tells refl refl
verdict (Told Reserved) next told h = tells refl refl
verdict (Told (Unreached node)) next true h = is_unreached node refl refl refl
verdict (Told (Unreached node)) next false h = cc
verdict (Home counts) (Some (Told Behind)) true h = replies refl refl refl (λ k. refl) refl
verdict (Home counts) (Some (Told Behind)) false h = cc
verdict (Home IfAnswered) (Some (Told Reserved)) true h = refuses refl refl refl refl
verdict (Home IfAnswered) (Some (Told Reserved)) false h = cc
verdict (Home Always) (Some (Told Reserved)) told h = cc
verdict (Home counts) (Some (Told Here)) told h = cc
verdict (Home counts) (Some (Told (Unreached node))) told h = cc
verdict (Home counts) (Some (Home other)) told h = cc
verdict (Home counts) None true h = cc
verdict (Home Always) None false h = is_lost refl refl refl refl
verdict (Home IfAnswered) None false h = is_open refl refl refl refl

none_by : (ask : AskId) (mark : Mark) (marks : List Mark)
    → (next_of ask marks ≡ None → All (λ (m : Mark). is_of ask m ≡ false) marks)
    → (b : Bool) → is_of ask mark ≡ b → (if b then Some mark.kind else next_of ask marks) ≡ None → All (λ (m : Mark). is_of ask m ≡ false) (mark ∷ marks)
none_by ask mark marks rest true h none = cc
none_by ask mark marks rest false h none = All-cons (λ (m : Mark). is_of ask m ≡ false) mark marks h (rest none)

-- a command without a next mark has none behind
pub none_next : (ask : AskId) (marks : List Mark) → next_of ask marks ≡ None → All (λ (m : Mark). is_of ask m ≡ false) marks
unfolding next_of
none_next ask [] e = All-nil (λ (m : Mark). is_of ask m ≡ false)
none_next ask (mark ∷ marks) e = none_by ask mark marks (none_next ask marks) (is_of ask mark) refl e

-- a command by its connection and its number
pub same_id : (one other : AskId) → one.conn ≡ other.conn → one.command ≡ other.command → one ≡ other
same_id one other c n =
    let first : one ≡ record { conn = other.conn; command = one.command } = ap {B = AskId} (λ k. record { conn = k; command = one.command }) c in
    first ∙ ap {B = AskId} (λ k. record { conn = other.conn; command = k }) n

-- a mark that is of a command, and one that isn't
pub of_ask : (ask : AskId) (mark : Mark) → conn_of mark ≡ ask.conn → command_of mark ≡ ask.command → is_of ask mark ≡ true
of_ask ask mark c n =
    let one : nat_eq (conn_of mark) ask.conn ≡ true = grind (arith, nat_tests) in
    let two : nat_eq (command_of mark) ask.command ≡ true = grind (arith, nat_tests) in rw (one, two) refl

pub of_equal : (ask : AskId) (mark : Mark) → is_of ask mark ≡ true → (conn_of mark ≡ ask.conn) × (command_of mark ≡ ask.command)
of_equal ask mark h = by (nat_eq (conn_of mark) ask.conn) refl (nat_eq (command_of mark) ask.command) refl h
  where
    by : (a : Bool) → nat_eq (conn_of mark) ask.conn ≡ a → (c : Bool) → nat_eq (command_of mark) ask.command ≡ c → a && c ≡ true
        → (conn_of mark ≡ ask.conn) × (command_of mark ≡ ask.command)
    by true e true f both = (grind (arith, nat_tests), grind (arith, nat_tests))
    by true e false f both = cc
    by false e c f both = cc

-- two marks of one command
pub of_both : (mark later : Mark) → conn_of later ≡ conn_of mark → command_of later ≡ command_of mark → is_of mark.ask later ≡ true
of_both mark later c n = of_ask mark.ask later c n

-- two marks of different commands
pub of_other : (one other : Mark) (b : Bool) → is_of one.ask other ≡ b → (conn_of one ≡ conn_of other → command_of one ≡ command_of other → ⊥) → b ≡ false
of_other one other true h apart = (let both = of_equal one.ask other h in absurd (apart (sym both.0) (sym both.1)))
of_other one other false h apart = refl

pub of_another : (mark later : Mark) (b : Bool) → is_of mark.ask later ≡ b → (conn_of later ≡ conn_of mark → command_of mark < command_of later) → b ≡ false
of_another mark later b h apart = of_other mark later b h (λ c n. absurd (omega (arith, apart (sym c), n)))

unfoldable pub next_or : Option MarkKind → Option MarkKind → Option MarkKind
next_or None other = other
next_or (Some kind) other = Some kind

-- what a mark says of a command, if it is of it
abbrev pub its_kind : AskId → Mark → Option MarkKind
its_kind ask mark = if is_of ask mark then Some mark.kind else None

next_if : (b : Bool) (kind : MarkKind) (one other : Option MarkKind)
    → (if b then Some kind else next_or one other) ≡ next_or (if b then Some kind else one) other
unfolding next_or
next_if true kind one other = refl
next_if false kind one other = refl

-- the next mark of a command where one was put behind
pub next_push : (ask : AskId) (marks : List Mark) (mark : Mark) → next_of ask (marks ++ mark ∷ []) ≡ next_or (next_of ask marks) (its_kind ask mark)
unfolding next_of next_or
next_push ask [] mark = refl
next_push ask (first ∷ marks) mark =
    ap (λ x. if is_of ask first then Some first.kind else x) (next_push ask marks mark) ∙ next_if (is_of ask first) first.kind (next_of ask marks) _

-- a mark still fits when another one is put behind, where the clients were told of so many and then of so many
abbrev pub StillFits : (ℕ → ℕ) → (ℕ → ℕ) → Mark → Mark → Type 0
StillFits told now mark first = (next : Option MarkKind) → fits first.kind next (nat_le (command_of first) (told (conn_of first))) ≡ true
    → fits first.kind (next_or next (its_kind first.ask mark)) (nat_le (command_of first) (now (conn_of first))) ≡ true

pub fit_push : (told now : ℕ → ℕ) (marks : List Mark) (mark : Mark) → Fit told marks → All (StillFits told now mark) marks
    → fits mark.kind None (nat_le (command_of mark) (now (conn_of mark))) ≡ true → Fit now (marks ++ mark ∷ [])
unfolding Fit next_of
fit_push told now [] mark fit all own = (own, tt)
fit_push told now (first ∷ marks) mark fit all own = (
  ap (λ n. fits first.kind n (nat_le (command_of first) (now (conn_of first)))) (next_push first.ask marks mark)
      ∙ all 0 first (omega arith) (next_of first.ask marks) fit.0,
  fit_push told now marks mark fit.1 (λ k d h. all (suc k) d (omega arith)) own,
)

next_none : (next : Option MarkKind) → next_or next None ≡ next
unfolding next_or
next_none None = refl
next_none (Some kind) = refl

-- so does a mark of another command, of which as much is told
pub fits_apart : (told now : ℕ → ℕ) (mark first : Mark) → is_of first.ask mark ≡ false
    → nat_le (command_of first) (now (conn_of first)) ≡ nat_le (command_of first) (told (conn_of first)) → StillFits told now mark first
fits_apart told now mark first other same = λ next fit.
    ap (λ b. fits first.kind (next_or next (if b then Some mark.kind else None)) (nat_le (command_of first) (now (conn_of first)))) other
    ∙ ap (λ n. fits first.kind n (nat_le (command_of first) (now (conn_of first)))) (next_none next)
    ∙ ap (fits first.kind next) same ∙ fit

-- what a step did isn't refused when a mark is put behind that refuses nothing, or is of another command
abbrev pub IsUnrefusedBy : Mark → Mark → Type 0
IsUnrefusedBy more mark = is_of mark.ask more ≡ true → tells_refusal (Some more.kind) ≡ false

unrefused_by : (next : Option MarkKind) (more : Mark) (b : Bool) → (b ≡ true → tells_refusal (Some more.kind) ≡ false)
    → tells_refusal (next_or next (if b then Some more.kind else None)) ≡ tells_refusal next
unfolding next_or tells_refusal
unrefused_by None more true plain = plain refl
unrefused_by None more false plain = refl
unrefused_by (Some kind) more b plain = refl

pub still_unrefused : (mark more : Mark) (marks : List Mark) → IsUnrefusedBy more mark
    → tells_refusal (next_of mark.ask (marks ++ more ∷ [])) ≡ tells_refusal (next_of mark.ask marks)
still_unrefused mark more marks plain =
    ap tells_refusal (next_push mark.ask marks more) ∙ unrefused_by (next_of mark.ask marks) more (is_of mark.ask more) plain

pub acting_unrefused : (kind : MarkKind) → acts kind ≡ true → tells_refusal (Some kind) ≡ false
unfolding acts tells_refusal
acting_unrefused (Home counts) acting = refl
acting_unrefused (Told Here) acting = refl
acting_unrefused (Told Behind) acting = refl
acting_unrefused (Told (Unreached node)) acting = refl
acting_unrefused (Told Reserved) acting = cc

-- what the client of a command is told of it fits, where it was told of it
pub told_fits : (how : How) (next : Option MarkKind) (told : Bool) → told ≡ true → fits (Told how) next told ≡ true
unfolding fits
told_fits Here next told e = e
told_fits Behind next told e = e
told_fits Reserved next told e = e
told_fits (Unreached node) next told e = e

pub unreached_acts : (kind : MarkKind) (node : List ℕ) → kind ≡ Told (Unreached node) → acts kind ≡ true
unfolding acts
unreached_acts kind node e = ap acts e

pub reached_home : (counts : Counts) → tells_unreached (Home counts) ≡ false
unfolding tells_unreached
reached_home counts = refl

pub reached_here : tells_unreached (Told Here) ≡ false
unfolding tells_unreached
reached_here = refl

pub unreached_tells : (kind : MarkKind) (node : List ℕ) → kind ≡ Told (Unreached node) → tells_unreached kind ≡ true
unfolding tells_unreached
unreached_tells kind node e = ap tells_unreached e

told_now : (kind : MarkKind) (next : Option MarkKind) → fits kind next false ≡ true → fits kind (next_or next (Some (Told Behind))) true ≡ true
unfolding fits next_or may_refuse
told_now (Told Here) next h = cc
told_now (Told Behind) next h = refl
told_now (Told Reserved) next h = refl
told_now (Told (Unreached node)) next h = cc
told_now (Home counts) None h = refl
told_now (Home counts) (Some (Told Behind)) h = cc
told_now (Home Always) (Some (Told Reserved)) h = cc
told_now (Home IfAnswered) (Some (Told Reserved)) h = cc
told_now (Home counts) (Some (Told Here)) h = cc
told_now (Home counts) (Some (Told (Unreached node))) h = cc
told_now (Home counts) (Some (Home other)) h = cc

-- and a mark of the command that its client is told of now
pub fits_told : (told now : ℕ → ℕ) (mark first : Mark) → mark.kind ≡ Told Behind → is_of first.ask mark ≡ true
    → nat_le (command_of first) (told (conn_of first)) ≡ false → nat_le (command_of first) (now (conn_of first)) ≡ true → StillFits told now mark first
fits_told told now mark first telling own before after = λ next fit.
    ap (λ b. fits first.kind (next_or next (if b then Some mark.kind else None)) (nat_le (command_of first) (now (conn_of first)))) own
    ∙ ap (λ c. fits first.kind (next_or next (Some c)) (nat_le (command_of first) (now (conn_of first)))) telling
    ∙ ap (fits first.kind (next_or next (Some (Told Behind)))) after
    ∙ told_now first.kind next (ap (fits first.kind next) (sym before) ∙ fit)

-- Marks of steps that saw a command of which its client was told before, left out: the others make the same history.
use Rattle.std.proofs.Common.{◌≡◌, ℕ, zero, suc, ◌≤◌, ◌<◌, Bool, true, false, nat_le, List, [], ◌∷◌, ◌++◌, length, get_or, if◌then◌else◌, Option, None, Some}
use Rattle.std.proofs.Common.{refl, sym, ◌∙◌, ap, arith}
use Rattle.std.specs.Prelude.{All, Contains, ⊤}
use Rattle.std.proofs.lemmas.Bool.Decides.{nat_tests}
use Rattle.std.proofs.lemmas.List.Elements.{All-cons, All-head, All-nil, All-tail}
use Rattle.link_msg.specs.declared.counts.Counts.TheVariants.{Always, IfAnswered}
use Rattle.link_msg.specs.declared.how.How.TheVariants.{Here, Behind, Reserved, Unreached}
use Rattle.mur_base.specs.declared.point.AskId.{AskId}
use Rattle.mark_history.specs.declared.mark.Mark.{Mark}
use Rattle.mark_history.specs.declared.mark.MarkKind.{MarkKind}
use Rattle.mark_history.specs.declared.mark.MarkKind.TheVariants.{Home, Told}
use Rattle.mark_history.specs.History.{counts_as, is_of, next_of, points_by, points_of, untold_as}
use Rattle.mark_history.specs.Marked.{last_from, last_mark_from}
use Rattle.mark_history.proofs.ByLast.{unreplied_is}
use Rattle.mark_history.proofs.LeftOut.{LeavesOut, next_apart, next_none, no_point, only_saw}
use Rattle.mark_history.proofs.LeftOut.LeavesOut.{no_marks as none_out, stays as stays_in, left_out}
use Rattle.mark_history.proofs.Tally.{Fit, acts, command_of, conn_of, fits, its_kind, next_or, next_push, of_equal, of_other}
use Rattle.mark_history.proofs.Tellings.{tells_client}

-- the second are the first without marks of such steps, where the clients were told of so many commands: none of these has a next mark by which it counts
pub data LeavesLate (told : ℕ → ℕ) : List Mark → List Mark → Type 0 where
  no_marks : LeavesLate told [] []
  stays : (mark : Mark) (marks early : List Mark) → (tells_client mark.kind ≡ false → next_of mark.ask marks ≡ next_of mark.ask early)
      → LeavesLate told marks early → LeavesLate told (mark ∷ marks) (mark ∷ early)
  is_late : (mark : Mark) (marks early : List Mark) → mark.kind ≡ Home IfAnswered → command_of mark ≤ told (conn_of mark)
      → counts_as (Home IfAnswered) (next_of mark.ask marks) ≡ None → LeavesLate told marks early → LeavesLate told (mark ∷ marks) early

-- ---- the history

counts_alike : (kind : MarkKind) (one other : Option MarkKind) → (tells_client kind ≡ false → one ≡ other) → counts_as kind one ≡ counts_as kind other
unfolding counts_as tells_client
counts_alike (Home counts) one other same = ap (counts_as (Home counts)) (same refl)
counts_alike (Told Here) one other same = refl
counts_alike (Told Behind) one other same = refl
counts_alike (Told Reserved) one other same = refl
counts_alike (Told (Unreached node)) one other same = refl

pub same_points : (told : ℕ → ℕ) (marks early : List Mark) → LeavesLate told marks early → points_of marks ≡ points_of early
unfolding points_of
same_points told marks early no_marks = refl
same_points told marks early (stays mark more rest next leaves) =
    ap (λ w. points_by mark w ++ points_of more) (counts_alike mark.kind (next_of mark.ask more) (next_of mark.ask rest) next)
    ∙ ap (λ p. points_by mark (counts_as mark.kind (next_of mark.ask rest)) ++ p) (same_points told more rest leaves)
same_points told marks early (is_late mark more rest kind low none leaves) =
    ap (λ k. points_by mark (counts_as k (next_of mark.ask more)) ++ points_of more) kind
    ∙ ap (λ w. points_by mark w ++ points_of more) none
    ∙ ap (λ p. p ++ points_of more) (no_point mark) ∙ same_points told more rest leaves

-- ---- what holds of marks

pub each_early : (P : Mark → Type 0) (told : ℕ → ℕ) (marks early : List Mark) → LeavesLate told marks early → All P marks → All P early
each_early P told marks early no_marks all = All-nil P
each_early P told marks early (stays mark more rest next leaves) all =
    All-cons P mark rest (All-head P mark more all) (each_early P told more rest leaves (All-tail P mark more all))
each_early P told marks early (is_late mark more rest kind low none leaves) all = each_early P told more rest leaves (All-tail P mark more all)

always_only : {kind : MarkKind} → kind ≡ Home Always → kind ≡ Home IfAnswered → ⊥
always_only e f = (let no : Home Always ≡ Home IfAnswered = sym e ∙ f in cc)

-- a mark that always counts isn't left out
pub always_early : (told : ℕ → ℕ) (marks early : List Mark) → LeavesLate told marks early → (k : ℕ) (mark : Mark) → k < length marks
    → get_or marks k mark ≡ mark → mark.kind ≡ Home Always → Contains early mark
always_early told marks early no_marks k mark within at always = absurd (omega (arith, within))
always_early told marks early (stays first more rest next leaves) zero mark within at always = (0, omega arith, at)
always_early told marks early (stays first more rest next leaves) (suc k) mark within at always =
    let its = always_early told more rest leaves k mark (omega (arith, within)) at always in (suc its.0, omega (arith, its.1), its.2)
always_early told marks early (is_late first more rest kind low none leaves) zero mark within at always =
    absurd (always_only always (ap (λ (m : Mark). m.kind) (sym at) ∙ kind))
always_early told marks early (is_late first more rest kind low none leaves) (suc k) mark within at always =
    always_early told more rest leaves k mark (omega (arith, within)) at always

-- ---- the last mark of a command of which the client wasn't told

late_apart : (told : ℕ → ℕ) (ask : AskId) (mark : Mark) → told ask.conn < ask.command → command_of mark ≤ told (conn_of mark)
    → (b : Bool) → is_of ask mark ≡ b → b ≡ false
late_apart told ask mark high low true e =
    (let both = of_equal ask mark e in absurd (omega (arith, high, low, both.1, ap told both.0)))
late_apart told ask mark high low false e = refl

pub same_last_mark : (told : ℕ → ℕ) (ask : AskId) → told ask.conn < ask.command → (earlier : Option Mark) (marks early : List Mark)
    → LeavesLate told marks early → last_mark_from ask earlier marks ≡ last_mark_from ask earlier early
unfolding last_mark_from
same_last_mark told ask high earlier marks early no_marks = refl
same_last_mark told ask high earlier marks early (stays mark more rest next leaves) =
    same_last_mark told ask high (if is_of ask mark then Some mark else earlier) more rest leaves
same_last_mark told ask high earlier marks early (is_late mark more rest kind low none leaves) =
    ap (λ b. last_mark_from ask (if b then Some mark else earlier) more) (late_apart told ask mark high low (is_of ask mark) refl)
    ∙ same_last_mark told ask high earlier more rest leaves

pub same_last : (told : ℕ → ℕ) (ask : AskId) → told ask.conn < ask.command → (earlier : Option MarkKind) (marks early : List Mark)
    → LeavesLate told marks early → last_from ask earlier marks ≡ last_from ask earlier early
unfolding last_from
same_last told ask high earlier marks early no_marks = refl
same_last told ask high earlier marks early (stays mark more rest next leaves) =
    same_last told ask high (if is_of ask mark then Some mark.kind else earlier) more rest leaves
same_last told ask high earlier marks early (is_late mark more rest kind low none leaves) =
    ap (λ b. last_from ask (if b then Some mark.kind else earlier) more) (late_apart told ask mark high low (is_of ask mark) refl)
    ∙ same_last told ask high earlier more rest leaves

-- ---- a mark more, of a command of which the client wasn't told yet

pub late_push : (told now : ℕ → ℕ) (marks early : List Mark) (more : Mark) → ((conn : ℕ) → told conn ≤ now conn) → told (conn_of more) < command_of more
    → LeavesLate told marks early → LeavesLate now (marks ++ more ∷ []) (early ++ more ∷ [])
late_push told now marks early more grows high no_marks = stays more [] [] (λ home. refl) no_marks
late_push told now marks early more grows high (stays mark others rest next leaves) =
    stays mark (others ++ more ∷ []) (rest ++ more ∷ [])
    (λ home. next_push mark.ask others more ∙ ap (λ n. next_or n (its_kind mark.ask more)) (next home) ∙ sym (next_push mark.ask rest more))
    (late_push told now others rest more grows high leaves)
late_push told now marks early more grows high (is_late mark others rest kind low none leaves) =
    is_late mark (others ++ more ∷ []) (rest ++ more ∷ []) kind (omega (arith, low, grows (conn_of mark)))
    (ap (counts_as (Home IfAnswered)) (next_apart mark.ask others more
    (of_other mark more _ refl (λ c n. absurd (omega (arith, low, high, n, ap told c))))) ∙ none)
    (late_push told now others rest more grows high leaves)

-- ---- or of one of which it was told

-- each home's mark of a command of which the client was told has a next one
unfoldable pub HaveNext : (ℕ → ℕ) → List Mark → Type 0
HaveNext told [] = ⊤
HaveNext told (mark ∷ marks) =
    (tells_client mark.kind ≡ false → command_of mark ≤ told (conn_of mark) → next_of mark.ask marks ≡ None → ⊥) × HaveNext told marks

home_acts : (kind : MarkKind) → tells_client kind ≡ false → acts kind ≡ true
unfolding tells_client acts
home_acts (Home counts) home = refl
home_acts (Told how) home = cc

home_untold : (kind : MarkKind) (next : Option MarkKind) (told : Bool) → tells_client kind ≡ false → next ≡ None → told ≡ true → fits kind next told ≡ true → ⊥
unfolding tells_client fits
home_untold (Home counts) None true home none low fit = cc
home_untold (Home counts) None false home none low fit = cc
home_untold (Home counts) (Some next) told home none low fit = cc
home_untold (Told how) next told home none low fit = cc

is_low : (number count : ℕ) → number ≤ count → nat_le number count ≡ true
is_low number count low = grind (arith, nat_tests)

pub have_next : (said told : ℕ → ℕ) → ((conn : ℕ) → told conn ≤ said conn) → (marks acting : List Mark) → LeavesOut said marks acting → Fit told acting
    → HaveNext told marks
unfolding HaveNext Fit
have_next said told ahead marks acting none_out fit = tt
have_next said told ahead marks acting (stays_in mark more rest next leaves) fit = (
  λ home low none. home_untold mark.kind (next_of mark.ask rest) (nat_le (command_of mark) (told (conn_of mark))) home
      (sym (next (home_acts mark.kind home)) ∙ none) (is_low (command_of mark) (told (conn_of mark)) low) fit.0,
  have_next said told ahead more rest leaves fit.1,
)
have_next said told ahead marks acting (left_out mark more rest kind saw leaves) fit = (
  λ home low none.
      let high : said (conn_of mark) < command_of mark = unreplied_is (command_of mark) (said (conn_of mark))
      (ap (λ n. only_saw n (nat_le (command_of mark) (said (conn_of mark)))) (sym none) ∙ saw) in
      absurd (omega (arith, high, low, ahead (conn_of mark))),
  have_next said told ahead more acting leaves fit,
)

counts_none : counts_as (Home IfAnswered) None ≡ None
unfolding counts_as untold_as
counts_none = refl

still_none : (next : Option MarkKind) (kind : MarkKind) (own : Bool) → kind ≡ Home IfAnswered → counts_as (Home IfAnswered) next ≡ None
    → counts_as (Home IfAnswered) (next_or next (if own then Some kind else None)) ≡ None
unfolding counts_as next_or
still_none None kind true late none = ap (λ k. counts_as (Home IfAnswered) (Some k)) late
still_none None kind false late none = none
still_none (Some next) kind own late none = none

still_next : (next : Option MarkKind) (its : Option MarkKind) → (next ≡ None → ⊥) → next_or next its ≡ next
unfolding next_or
still_next None its some = absurd (some refl)
still_next (Some kind) its some = refl

-- a mark that has a next one keeps it
keeps_next : (told : ℕ → ℕ) (mark more : Mark) (next : Option MarkKind) (own : Bool) → is_of mark.ask more ≡ own → command_of more ≤ told (conn_of more)
    → (command_of mark ≤ told (conn_of mark) → next ≡ None → ⊥) → next_or next (if own then Some more.kind else None) ≡ next
keeps_next told mark more next true own low some =
    let both = of_equal mark.ask more own in
    still_next next (Some more.kind) (some (omega (arith, low, both.1, ap told both.0)))
keeps_next told mark more next false own low some = next_none next

pub late_seen : (told : ℕ → ℕ) (marks early : List Mark) (more : Mark) → more.kind ≡ Home IfAnswered → command_of more ≤ told (conn_of more)
    → HaveNext told early → LeavesLate told marks early → LeavesLate told (marks ++ more ∷ []) early
unfolding HaveNext next_of
late_seen told marks early more kind low have no_marks = is_late more [] [] kind low counts_none no_marks
late_seen told marks early more kind low have (stays mark others rest next leaves) =
    stays mark (others ++ more ∷ []) rest
    (λ home. next_push mark.ask others more ∙ ap (λ n. next_or n (its_kind mark.ask more)) (next home)
    ∙ keeps_next told mark more (next_of mark.ask rest) (is_of mark.ask more) refl low (have.0 home))
    (late_seen told others rest more kind low have.1 leaves)
late_seen told marks early more kind low have (is_late mark others rest its its_low none leaves) =
    is_late mark (others ++ more ∷ []) rest its its_low
    (ap (counts_as (Home IfAnswered)) (next_push mark.ask others more)
    ∙ still_none (next_of mark.ask others) more.kind (is_of mark.ask more) kind none)
    (late_seen told others rest more kind low have leaves)

-- How many replies of a connection can't be taken back: those of which its client was told, and the one of a command whose step counts whatever the client is
-- told. Behind such a step that number never falls.
use Rattle.std.proofs.Common.{◌≡◌, ◌≢◌, ◌⊎◌, inl, inr, ℕ, zero, suc, ◌+◌, ◌≤◌, ◌<◌, Bool, true, false, ◌&&◌, nat_eq, nat_le, List, [], ◌∷◌, ◌++◌, length, get_or}
use Rattle.std.proofs.Common.{if◌then◌else◌, Option, None, Some, refl, sym, ◌∙◌, ap, subst, arith, length-append}
use Rattle.std.specs.Prelude.{All, Contains}
use Rattle.std.proofs.Math.Logic.{⊎_elim}
use Rattle.std.proofs.lemmas.Bool.{cases_eq}
use Rattle.std.proofs.lemmas.Bool.Decides.{nat_tests}
use Rattle.std.proofs.lemmas.List.Elements.{All-contains, All-contains_itself, All-head, All-tail, Contains-append_left}
use Rattle.link_msg.specs.declared.counts.Counts.TheVariants.{Always, IfAnswered}
use Rattle.link_msg.specs.declared.how.How.{How}
use Rattle.mur_base.specs.declared.point.AskId.{AskId}
use Rattle.mur_base.specs.declared.point.Point.{Point}
use Rattle.mur_model.specs.declared.setting.Setting.{Setting}
use Rattle.mark_history.specs.declared.mark.Mark.{Mark}
use Rattle.mark_history.specs.declared.mark.MarkKind.{MarkKind}
use Rattle.mark_history.specs.declared.mark.MarkKind.TheVariants.{Home, Told}
use Rattle.mark_history.specs.History.{is_of, next_of, points_of}
use Rattle.mark_history.specs.Marked.{AreMarked, Tale, last_from, last_of, open_ask, said_by}
use Rattle.mark_history.proofs.Counted.{each_told}
use Rattle.mark_history.proofs.Late.{always_early, same_last}
use Rattle.mark_history.proofs.LeftOut.{LeavesOut}
use Rattle.mark_history.proofs.LeftOut.LeavesOut.{no_marks, stays, left_out}
use Rattle.mark_history.proofs.Marks.{counts_of}
use Rattle.mark_history.proofs.MarkLaw.{holds}
use Rattle.mark_history.proofs.Tally.{Fit, acts, command_of, conn_of, fits, of_equal, same_id}
use Rattle.mark_history.proofs.TakenBack.{last_none, none_untold}
use Rattle.mark_history.proofs.Tellings.{has_tellings, tells_client}

-- by the last mark of the open command
unfoldable pub settled_by : Option MarkKind → ℕ → ℕ → ℕ
settled_by None told said = told
settled_by (Some (Home Always)) told said = said
settled_by (Some (Home IfAnswered)) told said = told
settled_by (Some (Told how)) told said = told

abbrev pub settled : List Mark → Tale → ℕ → ℕ
settled marks tale conn = settled_by (last_of (open_ask tale conn) marks) (length (tale.told conn)) (length (tale.talk.answers conn))

-- ---- the mark that always counts is the last one of its command

found_by : (ask : AskId) (earlier : Option MarkKind) (mark : Mark) (marks : List Mark) (kind : MarkKind) (own : Bool) → is_of ask mark ≡ own
    → ((if own then Some mark.kind else earlier) ≡ Some kind) → (earlier ≡ Some kind) ⊎ ((is_of ask mark ≡ true) × (mark.kind ≡ kind))
found_by ask earlier mark marks kind true own is = inr (own, (let same : mark.kind ≡ kind = cc in same))
found_by ask earlier mark marks kind false own is = inl is

-- a mark of the command that says so
record IsFoundOf (ask : AskId) (marks : List Mark) (kind : MarkKind) : Type 0 where
  mark : Mark
  there : Contains marks mark
  own : is_of ask mark ≡ true
  says : mark.kind ≡ kind

found_behind : (ask : AskId) (mark : Mark) (marks : List Mark) (kind : MarkKind) → IsFoundOf ask marks kind → IsFoundOf ask (mark ∷ marks) kind
found_behind ask mark marks kind is =
    record { mark = is.mark; there = (suc (is.there).0, omega (arith, (is.there).1), (is.there).2); own = is.own; says = is.says }

last_found : (ask : AskId) (earlier : Option MarkKind) (marks : List Mark) (kind : MarkKind) → last_from ask earlier marks ≡ Some kind
    → (earlier ≡ Some kind) ⊎ IsFoundOf ask marks kind
unfolding last_from
last_found ask earlier [] kind last = inl last
last_found ask earlier (mark ∷ marks) kind last = ⊎_elim
    (λ (front : said_by ask mark earlier ≡ Some kind). ⊎_elim
    (λ (before : earlier ≡ Some kind). inl before)
    (λ (its : (is_of ask mark ≡ true) × (mark.kind ≡ kind)).
    inr (record { mark = mark; there = (0, omega arith, refl); own = its.0; says = its.1 }))
    (found_by ask earlier mark marks kind (is_of ask mark) refl front))
    (λ (is : IsFoundOf ask marks kind). inr (found_behind ask mark marks kind is))
    (last_found ask (said_by ask mark earlier) marks kind last)

none_is : {kind : MarkKind} → None ≡ Some kind → ⊥
none_is e = cc

acts_always : (kind : MarkKind) → kind ≡ Home Always → acts kind ≡ true
unfolding acts
acts_always (Home counts) e = refl
acts_always (Told how) e = cc

not_if : {kind : MarkKind} → kind ≡ Home Always → kind ≡ Home IfAnswered → ⊥
not_if e f = (let no : Home Always ≡ Home IfAnswered = sym e ∙ f in cc)

of_itself : (ask : AskId) → (nat_eq ask.conn ask.conn && nat_eq ask.command ask.command) ≡ true
of_itself ask = grind (arith, nat_tests)

untold_so : (number count : ℕ) → count < number → nat_le number count ≡ false
untold_so number count high = grind (arith, nat_tests)

-- it is the last one, and its command has a reply
record IsLastAlways (said : ℕ → ℕ) (earlier : Option MarkKind) (marks : List Mark) (mark : Mark) : Type 0 where
  last : last_from mark.ask earlier marks ≡ Some (Home Always)
  replied : command_of mark ≤ said (conn_of mark)

abbrev IsReplied : (ℕ → ℕ) → Mark → Type 0
IsReplied said mark = command_of mark ≤ said (conn_of mark)

module _ (said told : ℕ → ℕ) where
  last_there : (earlier : Option MarkKind) (marks acting : List Mark) → LeavesOut said marks acting → Fit told acting → All (IsReplied said) acting
      → (k : ℕ) (mark : Mark) → k < length marks → get_or marks k mark ≡ mark → mark.kind ≡ Home Always → told (conn_of mark) < command_of mark
      → IsLastAlways said earlier marks mark
  unfolding last_from Fit
  last_there earlier marks acting no_marks fit all k mark within at always high = absurd (omega (arith, within))
  last_there earlier marks acting (stays first more rest next leaves) fit all zero mark within at always high =
      let kind : first.kind ≡ Home Always = ap (λ (m : Mark). m.kind) at ∙ always in
      let untold : nat_le (command_of first) (told (conn_of first)) ≡ false =
      ap (λ (m : Mark). nat_le (command_of m) (told (conn_of m))) at ∙ untold_so (command_of mark) (told (conn_of mark)) high in
      let none : next_of first.ask more ≡ None =
      next (acts_always first.kind kind)
      ∙ none_untold first.kind (next_of first.ask rest) (ap (fits first.kind (next_of first.ask rest)) (sym untold) ∙ fit.0) in
      subst (λ (m : Mark). IsLastAlways said earlier (first ∷ more) m) at
      (record {
        last = last_none first.ask (said_by first.ask first earlier) more none
            ∙ ap (λ own. if own then Some first.kind else earlier) (of_itself first.ask) ∙ ap {B = Option MarkKind} (λ k. Some k) kind;
        replied = All-head (IsReplied said) first rest all;
      })
  last_there earlier marks acting (stays first more rest next leaves) fit all (suc k) mark within at always high =
      let its = last_there (said_by mark.ask first earlier) more rest leaves fit.1 (All-tail (IsReplied said) first rest all) k mark (omega (arith, within)) at
      always high in
      record { last = its.last; replied = its.replied }
  last_there earlier marks acting (left_out first more rest kind saw leaves) fit all zero mark within at always high =
      absurd (not_if always (ap (λ (m : Mark). m.kind) (sym at) ∙ kind))
  last_there earlier marks acting (left_out first more rest kind saw leaves) fit all (suc k) mark within at always high =
      let its = last_there (said_by mark.ask first earlier) more acting leaves fit all k mark (omega (arith, within)) at always high in
      record { last = its.last; replied = its.replied }

-- a command of which its client wasn't told, and one of whose marks always counts, has a reply, and that is its last mark
pub record IsSettled (marks : List Mark) (tale : Tale) (conn : ℕ) : Type 0 where
  pub last : last_of (open_ask tale conn) marks ≡ Some (Home Always)
  pub replied : length (tale.told conn) + 1 ≤ length (tale.talk.answers conn)

module _ (setting : Setting) (now : ℕ) (marks : List Mark) (tale : Tale) (made : AreMarked setting now marks tale) where
  few_said : (conn : ℕ) → (length (tale.told conn) ≤ length (tale.talk.answers conn)) × (length (tale.talk.answers conn) ≤ length (tale.told conn) + 1)
  few_said conn =
      let so = (holds setting now marks tale made).so conn in (
        omega (arith, ap length so.parts, length-append (tale.told conn) so.rest),
        omega (arith, ap length so.parts, length-append (tale.told conn) so.rest, so.few),
      )

  pub always_settled : (mark : Mark) → Contains marks mark → mark.kind ≡ Home Always → length (tale.told (conn_of mark)) < command_of mark
      → IsSettled marks tale (conn_of mark)
  always_settled mark there always high =
      let its = holds setting now marks tale made in
      let early = always_early (counts_of tale.told) marks its.early its.late there.0 mark there.1 there.2 always in
      let is = last_there (λ conn. length (tale.talk.answers conn)) (counts_of tale.told) None its.early its.law.acting its.law.leaves its.law.is_told.fit
      its.law.is_told.numbers early.0 mark early.1 early.2 always high in
      let number : command_of mark ≡ length (tale.told (conn_of mark)) + 1 = omega (arith, is.replied, (few_said (conn_of mark)).1, high) in
      let ask : mark.ask ≡ open_ask tale (conn_of mark) = same_id mark.ask (open_ask tale (conn_of mark)) refl number in
      record {
        last = ap (λ a. last_of a marks) (sym ask) ∙ same_last (counts_of tale.told) mark.ask high None marks its.early its.late ∙ is.last;
        replied = omega (arith, is.replied, high);
      }

  -- no fewer than were told, and no more than were replied
  pub told_settled : (conn : ℕ) → length (tale.told conn) ≤ settled marks tale conn
  unfolding settled_by
  told_settled conn = by (last_of (open_ask tale conn) marks)
    where
      by : (last : Option MarkKind) → length (tale.told conn) ≤ settled_by last (length (tale.told conn)) (length (tale.talk.answers conn))
      by None = omega arith
      by (Some (Home Always)) = (few_said conn).0
      by (Some (Home IfAnswered)) = omega arith
      by (Some (Told how)) = omega arith

  pub settled_said : (conn : ℕ) → settled marks tale conn ≤ length (tale.talk.answers conn)
  unfolding settled_by
  settled_said conn = by (last_of (open_ask tale conn) marks)
    where
      by : (last : Option MarkKind) → settled_by last (length (tale.told conn)) (length (tale.talk.answers conn)) ≤ length (tale.talk.answers conn)
      by None = (few_said conn).0
      by (Some (Home Always)) = omega arith
      by (Some (Home IfAnswered)) = (few_said conn).0
      by (Some (Told how)) = (few_said conn).0

  pub all_settled : (conn : ℕ) → IsSettled marks tale conn → settled marks tale conn ≡ length (tale.talk.answers conn)
  unfolding settled_by
  all_settled conn is = ap (λ last. settled_by last (length (tale.told conn)) (length (tale.talk.answers conn))) is.last

  -- each point is of a command whose reply is settled
  pub points_settled : All (λ (p : Point). p.ask.command ≤ settled marks tale p.ask.conn) (points_of marks)
  unfolding tells_client
  points_settled =
      each_told setting now marks tale made (Contains marks) (λ (p : Point). p.ask.command ≤ settled marks tale p.ask.conn)
      (λ mark next what there low counts. by mark there low mark.kind refl) (All-contains_itself marks)
    where
      if_told : (mark : Mark) → command_of mark ≤ length (tale.told (conn_of mark)) → command_of mark ≤ settled marks tale (conn_of mark)
      if_told mark low = omega (arith, low, told_settled (conn_of mark))

      tells : (kind : MarkKind) (how : How) → kind ≡ Told how → tells_client kind ≡ true
      tells (Told it) how e = refl
      tells (Home counts) how e = cc

      within : (mark : Mark) (b : Bool) → nat_le (command_of mark) (length (tale.told (conn_of mark))) ≡ b
          → (command_of mark ≤ length (tale.told (conn_of mark))) ⊎ (length (tale.told (conn_of mark)) < command_of mark)
      within mark true e = inl (grind (arith, nat_tests))
      within mark false e = inr (grind (arith, nat_tests))

      by : (mark : Mark) → Contains marks mark → (mark.kind ≡ Home IfAnswered → command_of mark ≤ length (tale.told (conn_of mark)))
          → (kind : MarkKind) → mark.kind ≡ kind → command_of mark ≤ settled marks tale (conn_of mark)
      by mark there low (Told how) kind =
          if_told mark
          (All-contains (λ (m : Mark). tells_client m.kind ≡ true → command_of m ≤ length (tale.told (conn_of m))) marks mark
          (has_tellings setting now marks tale made).low there (tells mark.kind how kind))
      by mark there low (Home IfAnswered) kind = if_told mark (low kind)
      by mark there low (Home Always) kind = ⊎_elim
          (λ (few : command_of mark ≤ length (tale.told (conn_of mark))). if_told mark few)
          (λ (high : length (tale.told (conn_of mark)) < command_of mark).
          let is = always_settled mark there kind high in
          omega (arith, all_settled (conn_of mark) is, numbers mark there kind high))
          (within mark _ refl)
        where
          numbers : (mark : Mark) → Contains marks mark → mark.kind ≡ Home Always → length (tale.told (conn_of mark)) < command_of mark
              → command_of mark ≤ length (tale.talk.answers (conn_of mark))
          numbers mark there always high =
              let its = holds setting now marks tale made in
              let early = always_early (counts_of tale.told) marks its.early its.late there.0 mark there.1 there.2 always in
              (last_there (λ conn. length (tale.talk.answers conn)) (counts_of tale.told) None its.early its.law.acting its.law.leaves its.law.is_told.fit
              its.law.is_told.numbers early.0 mark early.1 early.2 always high).replied

-- ---- whatever is made then

still_settled : (setting : Setting) (later : ℕ) (marks more : List Mark) (tale longer : Tale) → AreMarked setting later (marks ++ more) longer → (conn : ℕ)
    → last_of (open_ask tale conn) marks ≡ Some (Home Always) → length (longer.told conn) ≡ length (tale.told conn) → IsSettled (marks ++ more) longer conn
still_settled setting later marks more tale longer made conn last same = ⊎_elim
    (λ (none : None ≡ Some (Home Always)). absurd (none_is none))
    (λ (is : IsFoundOf (open_ask tale conn) marks (Home Always)).
    let both = of_equal (open_ask tale conn) is.mark is.own in
    subst (IsSettled (marks ++ more) longer) both.0
    (always_settled setting later (marks ++ more) longer made is.mark (Contains-append_left marks more is.mark is.there) is.says
    (omega (arith, both.1, same, ap (λ c. length (longer.told c)) both.0))))
    (last_found (open_ask tale conn) None marks (Home Always) last)

module _ (setting : Setting) (now later : ℕ) (marks more : List Mark) (tale longer : Tale) (made : AreMarked setting now marks tale)
    (last : AreMarked setting later (marks ++ more) longer) (conn : ℕ) (told : length (tale.told conn) ≤ length (longer.told conn)) where
  by_last : (kind : Option MarkKind) → last_of (open_ask tale conn) marks ≡ kind
      → settled_by kind (length (tale.told conn)) (length (tale.talk.answers conn)) ≤ settled (marks ++ more) longer conn
  unfolding settled_by
  by_last None e = omega (arith, told, told_settled setting later (marks ++ more) longer last conn)
  by_last (Some (Home IfAnswered)) e = omega (arith, told, told_settled setting later (marks ++ more) longer last conn)
  by_last (Some (Told how)) e = omega (arith, told, told_settled setting later (marks ++ more) longer last conn)
  by_last (Some (Home Always)) e = ⊎_elim
      (λ (same : length (longer.told conn) ≡ length (tale.told conn)).
      let is = still_settled setting later marks more tale longer last conn e same in
      omega (arith, all_settled setting later (marks ++ more) longer last conn is, is.replied, (few_said setting now marks tale made conn).1, same))
      (λ (ne : length (longer.told conn) ≢ length (tale.told conn)).
      omega (arith, told, ne, told_settled setting later (marks ++ more) longer last conn, (few_said setting now marks tale made conn).1))
      (cases_eq (length (longer.told conn)) (length (tale.told conn)))

  -- of no connection whose client was told as much as before are fewer settled
  pub settled_goes_on : settled marks tale conn ≤ settled (marks ++ more) longer conn
  settled_goes_on = by_last (last_of (open_ask tale conn) marks) refl

-- Merged logs run as logged: by induction over the merged steps, where what is left of each log stays closed over what is on the links.
use Rattle.std.proofs.Common.{◌≡◌, ℕ, nat_eq, ◌+◌, ◌<◌, ◌≤◌, ◌&&◌, Bool, true, false, cond, List, [], ◌∷◌, ◌++◌, drop, map, Option, Some, None}
use Rattle.std.proofs.Common.{refl, sym, ◌∙◌, ap, subst, append_assoc, arith}
use Rattle.std.specs.List.{AllByRecursion}
use Rattle.std.proofs.lemmas.List.{append-nil}
use Rattle.record_merge.specs.declared.logged.Logged.{Logged}
use Rattle.record_merge.specs.declared.logged.MergedStep.{MergedStep}
use Rattle.record_merge.specs.declared.logged.Sent.{Sent}
use Rattle.record_merge.specs.Rules.{Rules}
use Rattle.record_merge.specs.Logs.{RisesFrom, AreLogs, log_from, log_at, log_of, IsBefore, IsOrdered, IsMerged}
use Rattle.record_merge.specs.Run.{Service, acted, without_first_sent, delivered_by, happening_by, happenings_of, run_service}
use Rattle.record_merge.specs.Replay.{stamped, taken_from, logged_inputs, replayed, outputs_of, sent_to}
use Rattle.record_merge.specs.RunsAsLogged.{IsBeginning, IsClosed, RunsAsLogged, HasOnItsWay, MergedRuns}

pub same_node : (n : ℕ) → nat_eq n n ≡ true
same_node n = grind arith

module _ {M : Type 0} where
  abbrev message_of : Sent M → M
  message_of sent = sent.message

  -- sent in steps with this stamp or greater ones
  abbrev pub Late : ℕ → List (Sent M) → Type 0
  Late t sent = AllByRecursion (λ (message : Sent M). t ≤ message.stamp) sent

  late_stamped : (t stamp : ℕ) (messages : List M) (more : List (Sent M)) → t ≤ stamp → Late t more → Late t (stamped stamp messages ++ more)
  late_stamped t stamp [] more h l = l
  late_stamped t stamp (message ∷ messages) more h l = (h, late_stamped t stamp messages more h l)

  messages_stamped : (stamp : ℕ) (messages : List M) → map message_of (stamped stamp messages) ≡ messages
  messages_stamped stamp [] = refl
  messages_stamped stamp (message ∷ messages) = ap (λ (x : List M). message ∷ x) (messages_stamped stamp messages)

  map_both : (xs ys : List (Sent M)) → map message_of (xs ++ ys) ≡ map message_of xs ++ map message_of ys
  map_both [] ys = refl
  map_both (x ∷ xs) ys = ap (λ (z : List M). message_of x ∷ z) (map_both xs ys)

  -- a message that was taken is the first of its link
  closed_from_by : (this there : Bool) (heard : Sent M) (t : ℕ) (taken rest waiting sends : List (Sent M))
      → cond there (cond this (heard ∷ []) []) [] ++ taken ++ rest ≡ waiting ++ sends
      → heard.stamp < t → Late t sends
      → taken ++ rest ≡ cond (this && there) (drop 1 waiting) waiting ++ sends
  closed_from_by true true heard t taken rest [] sends e less late =
      (let l : Late t (heard ∷ taken ++ rest) = subst (λ (x : List (Sent M)). Late t x) (sym e) late in absurd (omega (arith, l.0, less)))
  closed_from_by true true heard t taken rest (x ∷ waiting) sends e less late = cc
  closed_from_by true false heard t taken rest waiting sends e less late = e
  closed_from_by false true heard t taken rest waiting sends e less late = e
  closed_from_by false false heard t taken rest waiting sends e less late = e

  -- so its link isn't empty
  first_of : (waiting taken rest sends : List (Sent M)) (heard : Sent M) (t : ℕ) → heard ∷ taken ++ rest ≡ waiting ++ sends
      → heard.stamp < t → Late t sends → (more : List M) × (map message_of waiting ≡ heard.message ∷ more)
  first_of [] taken rest sends heard t e less late =
      (let l : Late t (heard ∷ taken ++ rest) = subst (λ (x : List (Sent M)). Late t x) (sym e) late in absurd (omega (arith, l.0, less)))
  first_of (x ∷ waiting) taken rest sends heard t e less late =
      (map message_of waiting, (let s : heard ≡ x = cc in ap (λ (y : Sent M). message_of y ∷ map message_of waiting) (sym s)))

  drop_map : (same : Bool) (waiting : List (Sent M)) (link : List M) → link ≡ map message_of waiting
      → cond same (drop 1 link) link ≡ map message_of (cond same (drop 1 waiting) waiting)
  drop_map false waiting link h = h
  drop_map true [] link h = rw h refl
  drop_map true (x ∷ waiting) link h = rw h refl

  holds_by : (same : Bool) (link messages : List M) (waiting : List (Sent M)) (stamp : ℕ) → link ≡ map message_of waiting
      → link ++ cond same messages [] ≡ map message_of (waiting ++ cond same (stamped stamp messages) [])
  holds_by true link messages waiting stamp h =
      ap (λ (x : List M). x ++ messages) h ∙ ap (λ (x : List M). map message_of waiting ++ x) (sym (messages_stamped stamp messages))
      ∙ sym (map_both waiting (stamped stamp messages))
  holds_by false link messages waiting stamp h =
      append-nil link ∙ h ∙ ap (λ (x : List (Sent M)). map message_of x) (sym (append-nil waiting))

-- ---- what the order of merged steps gives

module _ {I : Type 0} where
  -- stamps never fall, and each is above the one that its step heard
  abbrev pub AreFrom : ℕ → List (MergedStep I) → Type 0
  AreFrom stamp merged = AllByRecursion (λ (step : MergedStep I). stamp ≤ step.entry.stamp) merged

  abbrev pub Hears : Logged I → Type 0
  Hears entry = entry.heard < entry.stamp

  abbrev AllHear : List (MergedStep I) → Type 0
  AllHear merged = AllByRecursion (λ (step : MergedStep I). Hears step.entry) merged

  abbrev pub NeverFalls : List (MergedStep I) → Type 0
  NeverFalls [] = Unit {0}
  NeverFalls (step ∷ merged) = Hears step.entry × AreFrom step.entry.stamp merged × NeverFalls merged

  from_before : (step : MergedStep I) (merged : List (MergedStep I)) → AllByRecursion (IsBefore step) merged → AreFrom step.entry.stamp merged
  from_before step [] before = tt
  from_before step (other ∷ merged) before = (before.0.0, from_before step merged before.1)

  never_falls : (merged : List (MergedStep I)) → IsOrdered merged → AllHear merged → NeverFalls merged
  never_falls [] ordered hears = tt
  never_falls (step ∷ merged) ordered hears = (hears.0, from_before step merged ordered.0, never_falls merged ordered.1 hears.1)

  tail_all : (P : Logged I → Type 0) (same : Bool) (entry : Logged I) (log : List (Logged I)) → AllByRecursion P (cond same (entry ∷ []) [] ++ log)
      → AllByRecursion P log
  tail_all P true entry log all = all.1
  tail_all P false entry log all = all

  all_hear : (merged : List (MergedStep I)) → ((node : ℕ) → AllByRecursion Hears (log_of node merged)) → AllHear merged
  all_hear [] hears = tt
  all_hear (step ∷ merged) hears =
      let own : AllByRecursion Hears (step.entry ∷ log_of step.node merged) =
      subst (λ (b : Bool). AllByRecursion Hears (cond b (step.entry ∷ []) [] ++ log_of step.node merged)) (same_node step.node) (hears step.node) in
      (own.0, all_hear merged (λ node. tail_all Hears (nat_eq node step.node) step.entry (log_of node merged) (hears node)))

  log_hears : (last : ℕ) (log : List (Logged I)) → RisesFrom last log → AllByRecursion Hears log
  log_hears last [] rises = tt
  log_hears last (entry ∷ log) rises = (rises.1, log_hears entry.stamp log rises.2)

  either_hears : (b : Bool) (log other : List (Logged I)) → AllByRecursion Hears log → AllByRecursion Hears other → AllByRecursion Hears (cond b log other)
  either_hears true log other f g = f
  either_hears false log other f g = g

  logs_hear : (place : ℕ) (logs : List (List (Logged I))) (node : ℕ) → AreLogs logs → AllByRecursion Hears (log_from place logs node)
  logs_hear place [] node are = tt
  logs_hear place (log ∷ logs) node are =
      either_hears (nat_eq node place) log (log_from (place + 1) logs node) (log_hears 0 log are.0) (logs_hear (place + 1) logs node are.1)

  pub merged_falls : (logs : List (List (Logged I))) (merged : List (MergedStep I)) → AreLogs logs → IsMerged logs merged → NeverFalls merged
  merged_falls logs merged are is =
      never_falls merged is.ordered (all_hear merged (λ node. subst (AllByRecursion Hears) (sym (is.entries node)) (logs_hear 0 logs node are)))

module _ {S I O M : Type 0} (rules : Rules S I O M) where
  late_by : (same : Bool) (t to : ℕ) (s : S) (entry : Logged I) (log : List (Logged I)) → t ≤ entry.stamp
      → ((s : S) → Late t (sent_to rules to s log)) → Late t (sent_to rules to s (cond same (entry ∷ []) [] ++ log))
  late_by true t to s entry log h rest =
      late_stamped t entry.stamp (rules.messages_for to (rules.outputs s entry.input)) _ h (rest (rules.after s entry.input))
  late_by false t to s entry log h rest = rest s

  late_sends : (t to from : ℕ) (merged : List (MergedStep I)) → AreFrom t merged → (s : S) → Late t (sent_to rules to s (log_of from merged))
  late_sends t to from [] h s = tt
  late_sends t to from (step ∷ merged) h s =
      late_by (nat_eq from step.node) t to s step.entry (log_of from merged) h.0 (late_sends t to from merged h.1)

  -- a step's messages are on its links, or the log has yet to send them
  sends_step : (same : Bool) (to : ℕ) (s : S) (entry : Logged I) (log : List (Logged I)) (front : List (Sent M))
      → front ++ sent_to rules to s (cond same (entry ∷ []) [] ++ log)
      ≡ (front ++ cond same (stamped entry.stamp (rules.messages_for to (rules.outputs s entry.input))) [])
      ++ sent_to rules to (cond same (rules.after s entry.input) s) log
  sends_step true to s entry log front = sym (append_assoc front _ _)
  sends_step false to s entry log front = ap (λ (x : List (Sent M)). x ++ sent_to rules to s log) (sym (append-nil front))

  abbrev pub sent_by : (ℕ → ℕ → List (Sent M)) → (ℕ → S) → ℕ → Logged I → ℕ → ℕ → List (Sent M)
  sent_by waiting state n entry from to =
      waiting from to ++ cond (nat_eq from n) (stamped entry.stamp (rules.messages_for to (rules.outputs (state from) entry.input))) []

  abbrev pub state_after : (ℕ → S) → ℕ → Logged I → ℕ → S
  state_after state n entry k = cond (nat_eq k n) (rules.after (state k) entry.input) (state k)

  state_by : (same : Bool) (s : S) (entry : Logged I) (log : List (Logged I))
      → replayed rules (cond same (rules.after s entry.input) s) log ≡ replayed rules s (cond same (entry ∷ []) [] ++ log)
  state_by true s entry log = refl
  state_by false s entry log = refl

  took_by : (same : Bool) (took : List I) (entry : Logged I) (log : List (Logged I))
      → (took ++ cond same (entry.input ∷ []) []) ++ logged_inputs log ≡ took ++ logged_inputs (cond same (entry ∷ []) [] ++ log)
  took_by true took entry log = append_assoc took _ _
  took_by false took entry log = ap (λ (x : List I). x ++ logged_inputs log) (append-nil took)

  gave_by : (same : Bool) (gave : List O) (s : S) (entry : Logged I) (log : List (Logged I))
      → (gave ++ cond same (rules.outputs s entry.input) []) ++ outputs_of rules (cond same (rules.after s entry.input) s) log
      ≡ gave ++ outputs_of rules s (cond same (entry ∷ []) [] ++ log)
  gave_by true gave s entry log = append_assoc gave _ _
  gave_by false gave s entry log = ap (λ (x : List O). x ++ outputs_of rules s log) (append-nil gave)

  -- if the rest runs as logged after a step, all runs as logged
  after_step : (w : Service S I O M) (step : MergedStep I) (merged : List (MergedStep I)) (end : Service S I O M)
      → RunsAsLogged rules (acted rules w step.node step.entry.input) (λ n. log_of n merged) end
      → RunsAsLogged rules w (λ n. log_of n (step ∷ merged)) end
  after_step w step merged end r = record {
    state = λ n. r.state n ∙ state_by (nat_eq n step.node) (w.state n) step.entry (log_of n merged);
    took = λ n. r.took n ∙ took_by (nat_eq n step.node) (w.took n) step.entry (log_of n merged);
    gave = λ n. r.gave n ∙ gave_by (nat_eq n step.node) (w.gave n) (w.state n) step.entry (log_of n merged);
  }

  -- a client's input leaves each link as closed as it was
  taken_own_by : (same : Bool) (from : ℕ) (entry : Logged I) (log : List (Logged I)) → rules.taken entry.input ≡ None
      → taken_from rules from (cond same (entry ∷ []) [] ++ log) ≡ taken_from rules from log
  taken_own_by true from entry log e = rw e refl
  taken_own_by false from entry log e = refl

  took_from_by : (there : Bool) (from f : ℕ) (message : M) (entry : Logged I) (log : List (Logged I)) → rules.taken entry.input ≡ Some (f, message)
      → taken_from rules from (cond there (entry ∷ []) [] ++ log)
      ≡ cond there (cond (nat_eq from f) (record { stamp = entry.heard; message = message } ∷ []) []) [] ++ taken_from rules from log
  took_from_by true from f message entry log e = rw e refl
  took_from_by false from f message entry log e = refl

  -- once the step is done, what is left of the logs is closed
  pub closed_after : (state : ℕ → S) (waiting : ℕ → ℕ → List (Sent M)) (step : MergedStep I) (merged : List (MergedStep I))
      → ((from to : ℕ) → IsBeginning (taken_from rules from (log_of to merged))
      (waiting from to ++ sent_to rules to (state from) (log_of from (step ∷ merged))))
      → IsClosed rules (sent_by waiting state step.node step.entry) (state_after state step.node step.entry) (λ n. log_of n merged)
  closed_after state waiting step merged c from to =
      let old = c from to in
      (old.0, old.1 ∙ sends_step (nat_eq from step.node) to (state from) step.entry (log_of from merged) (waiting from to))

  pub closed_own : (state : ℕ → S) (waiting : ℕ → ℕ → List (Sent M)) (step : MergedStep I) (merged : List (MergedStep I))
      → rules.taken step.entry.input ≡ None → IsClosed rules waiting state (λ k. log_of k (step ∷ merged))
      → (from to : ℕ) → IsBeginning (taken_from rules from (log_of to merged))
      (waiting from to ++ sent_to rules to (state from) (log_of from (step ∷ merged)))
  closed_own state waiting step merged own c from to =
      let old = c from to in
      (old.0, ap (λ (x : List (Sent M)). x ++ old.0) (sym (taken_own_by (nat_eq to step.node) from step.entry (log_of to merged) own)) ∙ old.1)

  pub late_now : (to from : ℕ) (step : MergedStep I) (merged : List (MergedStep I)) → AreFrom step.entry.stamp merged → (s : S)
      → Late step.entry.stamp (sent_to rules to s (log_of from (step ∷ merged)))
  late_now to from step merged later s = late_sends step.entry.stamp to from (step ∷ merged) (omega arith, later) s

  pub closed_delivery : (state : ℕ → S) (waiting : ℕ → ℕ → List (Sent M)) (step : MergedStep I) (merged : List (MergedStep I)) (f : ℕ) (message : M)
      → rules.taken step.entry.input ≡ Some (f, message) → Hears step.entry → AreFrom step.entry.stamp merged
      → IsClosed rules waiting state (λ k. log_of k (step ∷ merged))
      → (from to : ℕ) → IsBeginning (taken_from rules from (log_of to merged))
      (cond (nat_eq from f && nat_eq to step.node) (drop 1 (waiting from to)) (waiting from to)
      ++ sent_to rules to (state from) (log_of from (step ∷ merged)))
  closed_delivery state waiting step merged f message takes less later c from to =
      let old = c from to in
      let late = late_now to from step merged later (state from) in (
        old.0,
        closed_from_by (nat_eq from f) (nat_eq to step.node) (record { stamp = step.entry.heard; message = message }) step.entry.stamp
            (taken_from rules from (log_of to merged)) old.0 (waiting from to) _
            (ap (λ (x : List (Sent M)). x ++ old.0) (sym (took_from_by (nat_eq to step.node) from f message step.entry (log_of to merged) takes)) ∙ old.1)
            less late,
      )

  -- the log of the node that takes a message begins with it
  pub taken_here : (n f : ℕ) (message : M) (entry : Logged I) (log : List (Logged I)) → rules.taken entry.input ≡ Some (f, message)
      → taken_from rules f (cond (nat_eq n n) (entry ∷ []) [] ++ log) ≡ record { stamp = entry.heard; message = message } ∷ taken_from rules f log
  taken_here n f message entry log e = rw (same_node n, e, same_node f) refl

  first_message : (w : Service S I O M) (waiting : ℕ → ℕ → List (Sent M)) (step : MergedStep I) (merged : List (MergedStep I)) (f : ℕ) (message : M)
      → rules.taken step.entry.input ≡ Some (f, message) → Hears step.entry → AreFrom step.entry.stamp merged → HasOnItsWay rules w waiting
      → IsClosed rules waiting w.state (λ k. log_of k (step ∷ merged)) → (more : List M) × (w.link f step.node ≡ message ∷ more)
  first_message w waiting step merged f message takes less later holds c =
      let old = c f step.node in
      let late = late_now step.node f step merged later (w.state f) in
      let found = first_of (waiting f step.node) (taken_from rules f (log_of step.node merged)) old.0 _
      (record { stamp = step.entry.heard; message = message }) step.entry.stamp
      (ap (λ (x : List (Sent M)). x ++ old.0) (sym (taken_here step.node f message step.entry (log_of step.node merged) takes)) ∙ old.1) less late in
      (found.0, holds f step.node ∙ found.1)

  delivered : (w : Service S I O M) (from to : ℕ) (message : M) (input : I) (queue more : List M) → queue ≡ message ∷ more
      → rules.taken input ≡ Some (from, message) → delivered_by rules w from to queue ≡ acted rules (without_first_sent rules w from to) to input
  delivered w from to message input queue more e takes =
      rw e (ap (λ (x : I). acted rules (without_first_sent rules w from to) to x) (rules.taking_taken input from message takes))

  -- services that differ in their links alone run as logged alike
  same_begin : (w off : Service S I O M) (step : MergedStep I) (merged : List (MergedStep I)) (end : Service S I O M)
      → RunsAsLogged rules (record w { link = off.link }) (λ n. log_of n (step ∷ merged)) end
      → RunsAsLogged rules w (λ n. log_of n (step ∷ merged)) end
  same_begin w off step merged end r = record { state = r.state; took = r.took; gave = r.gave }

  abbrev RestRuns : List (MergedStep I) → Type 0
  RestRuns merged = (w : Service S I O M) (waiting : ℕ → ℕ → List (Sent M)) → HasOnItsWay rules w waiting
      → IsClosed rules waiting w.state (λ n. log_of n merged) → RunsAsLogged rules w (λ n. log_of n merged) (run_service rules w (happenings_of rules merged))

  holds_after : (w : Service S I O M) (waiting : ℕ → ℕ → List (Sent M)) (step : MergedStep I) → HasOnItsWay rules w waiting
      → HasOnItsWay rules (acted rules w step.node step.entry.input) (sent_by waiting w.state step.node step.entry)
  holds_after w waiting step holds from to =
      holds_by (nat_eq from step.node) (w.link from to) (rules.messages_for to (rules.outputs (w.state from) step.entry.input))
      (waiting from to) step.entry.stamp (holds from to)

  step_runs : (step : MergedStep I) (merged : List (MergedStep I)) (w : Service S I O M) (waiting : ℕ → ℕ → List (Sent M))
      → Hears step.entry → AreFrom step.entry.stamp merged → RestRuns merged → HasOnItsWay rules w waiting
      → IsClosed rules waiting w.state (λ k. log_of k (step ∷ merged))
      → (found : Option (ℕ × M)) → rules.taken step.entry.input ≡ found
      → RunsAsLogged rules w (λ k. log_of k (step ∷ merged)) (run_service rules w (happening_by rules step.node step.entry.input found ∷ happenings_of rules merged))
  step_runs step merged w waiting less later rest holds closed None own =
      after_step w step merged _
      (rest (acted rules w step.node step.entry.input) (sent_by waiting w.state step.node step.entry) (holds_after w waiting step holds)
      (closed_after w.state waiting step merged (closed_own w.state waiting step merged own closed)))
  step_runs step merged w waiting less later rest holds closed (Some (f, message)) takes =
      let n : ℕ = step.node in
      let first = first_message w waiting step merged f message takes less later holds closed in
      let off : Service S I O M = without_first_sent rules w f n in
      let waiting_off : ℕ → ℕ → List (Sent M) = λ a b. cond (nat_eq a f && nat_eq b n) (drop 1 (waiting a b)) (waiting a b) in
      let off_holds : HasOnItsWay rules off waiting_off = λ a b. drop_map (nat_eq a f && nat_eq b n) (waiting a b) (w.link a b) (holds a b) in
      subst (λ (x : Service S I O M). RunsAsLogged rules w (λ k. log_of k (step ∷ merged)) (run_service rules x (happenings_of rules merged)))
      (sym (delivered w f n message step.entry.input (w.link f n) first.0 first.1 takes))
      (same_begin w off step merged _
      (after_step off step merged _
      (rest (acted rules off n step.entry.input) (sent_by waiting_off w.state n step.entry) (holds_after off waiting_off step off_holds)
      (closed_after off.state waiting_off step merged (closed_delivery w.state waiting step merged f message takes less later closed)))))

  runs : (merged : List (MergedStep I)) (w : Service S I O M) (waiting : ℕ → ℕ → List (Sent M)) → NeverFalls merged → HasOnItsWay rules w waiting
      → IsClosed rules waiting w.state (λ n. log_of n merged) → RunsAsLogged rules w (λ n. log_of n merged) (run_service rules w (happenings_of rules merged))
  runs [] w waiting falls holds closed = record {
    state = λ n. refl;
    took = λ n. sym (append-nil (w.took n));
    gave = λ n. sym (append-nil (w.gave n));
  }
  runs (step ∷ merged) w waiting falls holds closed =
      step_runs step merged w waiting falls.0 falls.1 (λ v more h c. runs merged v more falls.2 h c) holds closed
      (rules.taken step.entry.input) refl

  -- ---- the same of the logs that were merged

  pub closed_of : (waiting : ℕ → ℕ → List (Sent M)) (state : ℕ → S) (logs : List (List (Logged I))) (merged : List (MergedStep I)) → IsMerged logs merged
      → IsClosed rules waiting state (log_at logs) → IsClosed rules waiting state (λ n. log_of n merged)
  closed_of waiting state logs merged is closed from to =
      subst (λ (log : List (Logged I)). IsBeginning (taken_from rules from log) (waiting from to ++ sent_to rules to (state from) (log_of from merged)))
      (sym (is.entries to))
      (subst (λ (log : List (Logged I)). IsBeginning (taken_from rules from (log_at logs to)) (waiting from to ++ sent_to rules to (state from) log))
      (sym (is.entries from)) (closed from to))

  pub merged-runs : MergedRuns rules
  merged-runs logs merged begun waiting are is holds closed =
      let r = runs merged begun waiting (merged_falls logs merged are is) holds (closed_of waiting begun.state logs merged is closed) in
      record {
        state = λ n. r.state n ∙ ap (replayed rules (begun.state n)) (is.entries n);
        took = λ n. r.took n ∙ ap (λ (log : List (Logged I)). begun.took n ++ logged_inputs log) (is.entries n);
        gave = λ n. r.gave n ∙ ap (λ (log : List (Logged I)). begun.gave n ++ outputs_of rules (begun.state n) log) (is.entries n);
      }

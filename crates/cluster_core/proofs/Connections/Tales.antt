-- A tale in which a connection's client is told of one answer more, and the marks of that.
use Rattle.std.proofs.Common.{◌≡◌, ◌≢◌, ℕ, Bool, true, false, cond, nat_eq, if◌then◌else◌, List, [], ◌∷◌, ◌++◌, Option, None, Some, refl, sym, ◌∙◌, ap, arith}
use Rattle.std.proofs.lemmas.Bool.Decides.{nat_tests}
use Rattle.std.proofs.lemmas.List.{append-nil}
use Rattle.mark_history.specs.Marked.{last_mark, last_mark_from, with_list}
use Rattle.mark_history.specs.History.{is_of}
use Rattle.mark_history.specs.declared.mark.Mark.{Mark}
use Rattle.mur_base.specs.declared.point.AskId.{AskId}
use Rattle.mur_model.specs.History.{GoesOn}
use Rattle.cluster_core.proofs.Connections.ConnectionLaw.{MarksStay}

-- a list that has one item more at a connection
pub list_more : {T : Type 0} (lists : ℕ → List T) (conn : ℕ) (item : T) → GoesOn lists (with_list lists conn (lists conn ++ item ∷ []))
unfolding with_list
list_more lists conn item = record { more = λ other. cond (nat_eq other conn) (item ∷ []) []; parts = λ other. by other (nat_eq other conn) refl }
  where
    by : (other : ℕ) (same : Bool) → nat_eq other conn ≡ same
        → (if same then lists conn ++ item ∷ [] else lists other) ≡ lists other ++ cond same (item ∷ []) []
    by other true e = let is : other ≡ conn = grind (arith, nat_tests) in ap (λ c. lists c ++ item ∷ []) (sym is)
    by other false e = sym (append-nil (lists other))

-- ---- marks

last_mark-push : (id : AskId) (earlier : Option Mark) (marks : List Mark) (mark : Mark)
    → last_mark_from id earlier (marks ++ mark ∷ []) ≡ (if is_of id mark then Some mark else last_mark_from id earlier marks)
unfolding last_mark_from
last_mark-push id earlier [] mark = refl
last_mark-push id earlier (first ∷ marks) mark = last_mark-push id (if is_of id first then Some first else earlier) marks mark

-- the mark of another connection says nothing of one
pub others_marked : (conn : ℕ) (marks : List Mark) (mark : Mark) → mark.ask.conn ≢ conn → MarksStay conn marks (marks ++ mark ∷ [])
others_marked conn marks mark ne command =
    let id : AskId = record { conn = conn; command = command } in
    let apart : nat_eq mark.ask.conn conn ≡ false = grind (arith, nat_tests) in
    let none : is_of id mark ≡ false = rw apart refl in
    last_mark-push id None marks mark ∙ ap (λ b. if b then Some mark else last_mark id marks) none

-- and the last one of a command is the one that was made last
pub own_marked : (id : AskId) (marks : List Mark) (mark : Mark) → mark.ask ≡ id → last_mark id (marks ++ mark ∷ []) ≡ Some mark
own_marked id marks mark e =
    let one : nat_eq mark.ask.conn id.conn ≡ true = (let s : mark.ask.conn ≡ id.conn = ap (λ (a : AskId). a.conn) e in grind (arith, nat_tests)) in
    let two : nat_eq mark.ask.command id.command ≡ true =
    (let s : mark.ask.command ≡ id.command = ap (λ (a : AskId). a.command) e in grind (arith, nat_tests)) in
    let own : is_of id mark ≡ true = rw (one, two) refl in
    last_mark-push id None marks mark ∙ ap (λ b. if b then Some mark else last_mark id marks) own

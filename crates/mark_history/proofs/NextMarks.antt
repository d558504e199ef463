-- What the next mark of each command says, kept while the marks are walked from the last to the first, and the points found so far.
use Rattle.std.proofs.Common.{◌≡◌, ◌≢◌, ℕ, Bool, true, false, ◌&&◌, nat_eq, List, [], ◌∷◌, ◌++◌, length, drop, get_or, if◌then◌else◌, Option, None, Some, option_map, reverse, refl, sym, ◌∙◌, ap, subst, arith}
use Rattle.std.proofs.Common.{◌<◌, ◌≤◌, ◌+◌, ◌-◌}
use Rattle.std.proofs.Math.Logic.{⊎_elim}
use Rattle.std.proofs.lemmas.Bool.Decides.{nat_tests}
use Rattle.std.proofs.lemmas.Cmp.{tied_itself, nat_cmp_total}
use Rattle.std.proofs.lemmas.List.{reverse-append, drop_more, drop_all}
use Rattle.std.proofs.lemmas.Map.Lookups.{exact_unsigned, exact_pairs}
use Rattle.std.specs.declared.cmp.Ordering.{Ordering}
use Rattle.std.specs.declared.cmp.Ordering.TheVariants.{Less, Equal, Greater}
use Rattle.std.specs.Ordering.{is_eq, nat_cmp, ordering_then}
use Rattle.mur_base.specs.Map.{value_at, with_entry}
use Rattle.mur_base.specs.declared.point.AskId.{AskId}
use Rattle.mur_base.specs.declared.point.Point.{Point}
use Rattle.mur_base.specs.declared.point.What.{What}
use Rattle.mur_base.proofs.MapLaws.{TellsApart, same_or_other, value_at-with_entry, value_at-with_entry-other}
use Rattle.link_msg.specs.declared.how.How.TheVariants.{Here, Behind, Reserved, Unreached}
use Rattle.mark_history.specs.declared.history.Later.{Later}
use Rattle.mark_history.specs.declared.mark.Mark.{Mark}
use Rattle.mark_history.specs.declared.mark.MarkKind.{MarkKind}
use Rattle.mark_history.specs.declared.mark.MarkKind.TheVariants.{Home, Told}
use Rattle.mark_history.specs.History.{is_of, next_of, counts_as, points_by, points_of}
use Rattle.mark_history.specs.Laters.{counts_by, later_of}
use Rattle.mark_history.proofs.Tally.{conn_of, command_of}

-- commands in the order of their connections, and then of their numbers
abbrev pub ask_cmp : ℕ × ℕ → ℕ × ℕ → Ordering
ask_cmp one other = ordering_then (nat_cmp one.0 other.0) (nat_cmp one.1 other.1)

equal_by : (o : Ordering) → is_eq o ≡ true → o ≡ Equal
equal_by Less h = cc
equal_by Equal h = refl
equal_by Greater h = cc

pub asks_apart : TellsApart ask_cmp
asks_apart = record {
  itself = λ x. ap (λ o. is_eq (ordering_then o (nat_cmp x.1 x.1))) (tied_itself nat_cmp_total x.0) ∙ ap is_eq (tied_itself nat_cmp_total x.1);
  exact = λ x y h. exact_pairs nat_cmp nat_cmp exact_unsigned exact_unsigned x y (equal_by _ h);
}

abbrev pub key_of : Mark → ℕ × ℕ
key_of mark = (conn_of mark, command_of mark)

-- the map has what the next mark of each command says among these marks
abbrev pub HasNext : List ((ℕ × ℕ) × Later) → List Mark → Type 0
HasNext next marks = (ask : AskId) → value_at ask_cmp next (ask.conn, ask.command) ≡ option_map later_of (next_of ask marks)

-- which is enough
counts_so : (kind : MarkKind) (next : Option MarkKind) → counts_by kind (option_map later_of next) ≡ counts_as kind next
unfolding counts_by counts_as later_of
counts_so (Told Here) next = refl
counts_so (Told Behind) next = refl
counts_so (Told Reserved) next = refl
counts_so (Told (Unreached node)) next = refl
counts_so (Home counts) None = refl
counts_so (Home counts) (Some (Told Here)) = refl
counts_so (Home counts) (Some (Told Behind)) = refl
counts_so (Home counts) (Some (Told Reserved)) = refl
counts_so (Home counts) (Some (Told (Unreached node))) = refl
counts_so (Home counts) (Some (Home other)) = refl

same_key : (ask : AskId) (mark : Mark) → (ask.conn, ask.command) ≡ key_of mark → is_of ask mark ≡ true
same_key ask mark e =
    let conn : conn_of mark ≡ ask.conn = ap (λ (k : ℕ × ℕ). k.0) (sym e) in
    let command : command_of mark ≡ ask.command = ap (λ (k : ℕ × ℕ). k.1) (sym e) in
    let one : nat_eq (conn_of mark) ask.conn ≡ true = grind (arith, nat_tests) in
    let two : nat_eq (command_of mark) ask.command ≡ true = grind (arith, nat_tests) in rw (one, two) refl

same_pair : (a b c d : ℕ) → a ≡ c → b ≡ d → ◌≡◌ {A = ℕ × ℕ} (a, b) (c, d)
same_pair a b c d e f =
    let one : ◌≡◌ {A = ℕ × ℕ} (a, b) (c, b) = ap {B = ℕ × ℕ} (λ x. (x, b)) e in
    let two : ◌≡◌ {A = ℕ × ℕ} (c, b) (c, d) = ap {B = ℕ × ℕ} (λ y. (c, y)) f in
    one ∙ two

other_key : (ask : AskId) (mark : Mark) (b : Bool) → is_of ask mark ≡ b → (ask.conn, ask.command) ≢ key_of mark → b ≡ false
other_key ask mark true h ne = by (nat_eq (conn_of mark) ask.conn) refl (nat_eq (command_of mark) ask.command) refl h
  where
    by : (a : Bool) → nat_eq (conn_of mark) ask.conn ≡ a → (c : Bool) → nat_eq (command_of mark) ask.command ≡ c → a && c ≡ true → true ≡ false
    by true e true f both =
        (let conn : ask.conn ≡ conn_of mark = grind (arith, nat_tests) in
        let command : ask.command ≡ command_of mark = grind (arith, nat_tests) in
        absurd (ne (same_pair ask.conn ask.command (conn_of mark) (command_of mark) conn command)))
    by true e false f both = cc
    by false e c f both = cc
other_key ask mark false h ne = refl

-- it does with one mark more in front
pub has_next : (next : List ((ℕ × ℕ) × Later)) (mark : Mark) (marks : List Mark) → HasNext next marks
    → HasNext (with_entry ask_cmp next (key_of mark) (later_of mark.kind)) (mark ∷ marks)
unfolding next_of
has_next next mark marks has = λ ask. ⊎_elim
    (λ (e : (ask.conn, ask.command) ≡ key_of mark).
    ap (value_at ask_cmp (with_entry ask_cmp next (key_of mark) (later_of mark.kind))) e
    ∙ value_at-with_entry ask_cmp asks_apart next (key_of mark) (later_of mark.kind)
    ∙ sym (ap (λ b. option_map later_of (if b then Some mark.kind else next_of ask marks)) (same_key ask mark e)))
    (λ (ne : (ask.conn, ask.command) ≢ key_of mark).
    value_at-with_entry-other ask_cmp asks_apart next (key_of mark) (ask.conn, ask.command) (later_of mark.kind) ne ∙ has ask
    ∙ sym (ap (λ b. option_map later_of (if b then Some mark.kind else next_of ask marks)) (other_key ask mark (is_of ask mark) refl ne)))
    (same_or_other ask_cmp asks_apart (ask.conn, ask.command) (key_of mark))

pub has_none : HasNext [] []
unfolding next_of
has_none ask = refl

reversed_by : (mark : Mark) (what : Option What) → reverse (points_by mark what) ≡ points_by mark what
unfolding points_by
reversed_by mark None = refl
reversed_by mark (Some what) = refl

-- the points found so far, from the last to the first, with those of one mark more in front
pub points_on : (found : List Point) (mark : Mark) (marks : List Mark) (later : Option Later) → reverse found ≡ points_of marks
    → later ≡ option_map later_of (next_of mark.ask marks) → reverse (found ++ points_by mark (counts_by mark.kind later)) ≡ points_of (mark ∷ marks)
unfolding points_of
points_on found mark marks later is e =
    reverse-append found (points_by mark (counts_by mark.kind later))
    ∙ ap (λ l. l ++ reverse found) (reversed_by mark (counts_by mark.kind later))
    ∙ ap (λ l. points_by mark (counts_by mark.kind l) ++ reverse found) e
    ∙ ap (λ w. points_by mark w ++ reverse found) (counts_so mark.kind (next_of mark.ask marks))
    ∙ ap (λ l. points_by mark (counts_as mark.kind (next_of mark.ask marks)) ++ l) is

-- behind the last mark there is none
pub walked_none : (marks : List Mark) (next : List ((ℕ × ℕ) × Later)) (found : List Point) → next ≡ [] → found ≡ []
    → HasNext next (drop (length marks) marks) × (reverse found ≡ points_of (drop (length marks) marks))
unfolding points_of
walked_none marks next found n f =
    let none : drop (length marks) marks ≡ [] = drop_all (length marks) marks (omega arith) in (
      subst (HasNext next) (sym none) (subst (λ m. HasNext m []) (sym n) has_none),
      ap reverse f ∙ ap points_of (sym none),
    )

-- and one mark back
pub walked : (marks : List Mark) (left : ℕ) (mark d : Mark) (next later_next : List ((ℕ × ℕ) × Later)) (found now : List Point) (later : Option Later)
    → mark ≡ get_or marks (left - 1) d → 0 < left → left ≤ length marks → HasNext next (drop left marks) → reverse found ≡ points_of (drop left marks)
    → later ≡ value_at ask_cmp next (key_of mark) → later_next ≡ with_entry ask_cmp next (key_of mark) (later_of mark.kind)
    → now ≡ found ++ points_by mark (counts_by mark.kind later)
    → HasNext later_next (drop (left - 1) marks) × (reverse now ≡ points_of (drop (left - 1) marks))
walked marks left mark d next later_next found now later at some within has is l n f =
    let again : left - 1 + 1 ≡ left = omega arith in
    let parts : drop (left - 1) marks ≡ mark ∷ drop left marks =
    drop_more marks (left - 1) d (omega arith) ∙ ap (λ k. get_or marks (left - 1) d ∷ drop k marks) again ∙ ap (λ m. m ∷ drop left marks) (sym at) in (
      subst (HasNext later_next) (sym parts) (subst (λ m. HasNext m (mark ∷ drop left marks)) (sym n) (has_next next mark (drop left marks) has)),
      ap reverse f ∙ points_on found mark (drop left marks) later is (l ∙ has mark.ask) ∙ ap points_of (sym parts),
    )

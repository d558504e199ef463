-- Whose lines, flows and asks are: tests that hold and tests that don't.
use Rattle.std.proofs.Common.{◌≡◌, ◌≢◌, ℕ, ◌&&◌, nat_eq, Bool, true, false, cond, codes, List, [], ◌∷◌, ◌++◌, filter, Option, None, Some, refl, sym, ap, subst, ◌∙◌, append-nil, arith, eqb-true}
use Rattle.std.specs.Ordering.{nat_cmp}
use Rattle.std.specs.Cmp.Lexicographic.{same_text, slice_cmp}
use Rattle.std.specs.List.{AllByRecursion}
use Rattle.std.proofs.lemmas.Bool.Decides.{nat_tests}
use Rattle.std.proofs.lemmas.List.Elements.{filter-append}
use Rattle.grammar.proofs.Conditions.{and_left, and_right}
use Rattle.link_msg.specs.declared.answer.AnswerBody.{AnswerBody}
use Rattle.mupdate_codec.specs.declared.tag.Tag.{Tag}
use Rattle.mupdate_codec.specs.declared.tag.Tag.TheVariants.{Star, Text}
use Rattle.mupdate_codec.specs.Asks.{ask_in, ask_id_of}
use Rattle.mupdate_codec.proofs.AsksLaw.{ask_again, none_of}
use Rattle.mur_base.specs.declared.point.AskId.{AskId}
use Rattle.mur_base.proofs.MapLaws.{names_apart, not_equal}
use Rattle.name_flows.specs.declared.flow.Flow.{Flow}
use Rattle.name_flows.specs.declared.sent.Sent.{Sent}
use Rattle.name_flows.specs.Heard.{is_same_tag}
use Rattle.name_flows.specs.Lines.{asked_line, unasked_line}
use Rattle.name_flows.specs.Listed.{find_line}
use Rattle.name_flows.specs.Listing.{resync_line}
use Rattle.name_flows.specs.Running.{answers_for}
use Rattle.name_commands.specs.Places.{IsNumbered, on_name}
use Rattle.name_commands.specs.Whose.{Whose, is_command, is_own, is_own_line, is_own_told, own_flow}

-- ---- one command

same_number : (n : ℕ) → nat_eq n n ≡ true
same_number n = grind (arith, nat_tests)

pub is_itself : (id : AskId) → is_command id id ≡ true
is_itself id = ap (λ b. b && nat_eq id.command id.command) (same_number id.conn) ∙ same_number id.command

id_of : ℕ → ℕ → AskId
id_of conn command = record { conn = conn; command = command }

pub is_only : (id other : AskId) → is_command id other ≡ true → other ≡ id
unfolding id_of
is_only id other e =
    let conn : other.conn ≡ id.conn = eqb-true other.conn id.conn (and_left (nat_eq other.conn id.conn) _ e) in
    let command : other.command ≡ id.command = eqb-true other.command id.command (and_right (nat_eq other.conn id.conn) _ e) in
    ap (λ n. id_of n other.command) conn ∙ ap (λ n. id_of id.conn n) command

-- ---- tags

pub same_tag : (one other : Tag) → is_same_tag one other ≡ true → one ≡ other
same_tag Star Star e = refl
same_tag Star (Text text) e = cc
same_tag (Text text) Star e = cc
same_tag (Text one) (Text other) e = ap (λ (t : List ℕ). Text t) (same_text one other (sym e))

-- the line that a command waits for is its own
pub asked_own : (whose : Whose) (id : AskId) (what : Sent) → IsNumbered id → is_own_line whose (asked_line id what) ≡ whose id
asked_own whose id what fit = ap (λ (i : Option AskId). is_own whose i) (ask_again id fit.0 fit.1)

pub none_asked : ask_id_of (Text (codes "r0")) ≡ None
unfolding ask_id_of
none_asked = ap (λ p. ask_in p) (none_of (codes "r0") refl [])

none_resyncs : ask_id_of (Text (codes "l")) ≡ None
unfolding ask_id_of
none_resyncs = ap (λ p. ask_in p) (none_of (codes "l") refl [])

none_finds : ask_id_of (Text (codes "r2")) ≡ None
unfolding ask_id_of
none_finds = ap (λ p. ask_in p) (none_of (codes "r2") refl [])

-- lines that no command waits for are nobody's
pub unasked_own : (whose : Whose) (what : Sent) → is_own_line whose (unasked_line what) ≡ false
unasked_own whose what = ap (λ (i : Option AskId). is_own whose i) none_asked

pub resync_own : (whose : Whose) → is_own_line whose resync_line ≡ false
resync_own whose = ap (λ (i : Option AskId). is_own whose i) none_resyncs

pub find_own : (whose : Whose) (name : List ℕ) → is_own_line whose (find_line name) ≡ false
find_own whose name = ap (λ (i : Option AskId). is_own whose i) none_finds

-- ---- what a test leaves of a list

module _ {X : Type 0} (p : X → Bool) where
  pub kept : (x : X) (xs : List X) → p x ≡ true → filter p (x ∷ xs) ≡ x ∷ filter p xs
  kept x xs e = ap (λ b. cond b (x ∷ filter p xs) (filter p xs)) e

  pub passed : (x : X) (xs : List X) → p x ≡ false → filter p (x ∷ xs) ≡ filter p xs
  passed x xs e = ap (λ b. cond b (x ∷ filter p xs) (filter p xs)) e

  pub none_kept : (x : X) (xs : List X) → filter p (x ∷ xs) ≡ [] → (p x ≡ false) × (filter p xs ≡ [])
  none_kept x xs e = by (p x) refl e
    where
      by : (here : Bool) → p x ≡ here → cond here (x ∷ filter p xs) (filter p xs) ≡ [] → (p x ≡ false) × (filter p xs ≡ [])
      by true h none = cc
      by false h none = (h, none)

  -- what holds of all holds of the one that is left
  pub of_one : (P : X → Type 0) (xs : List X) (y : X) → AllByRecursion P xs → filter p xs ≡ y ∷ [] → P y
  of_one P [] y all e = cc
  of_one P (x ∷ xs) y all e = by (p x) e (of_one P xs y all.1)
    where
      by : (here : Bool) → cond here (x ∷ filter p xs) (filter p xs) ≡ y ∷ [] → (filter p xs ≡ y ∷ [] → P y) → P y
      by true f more = let is : x ≡ y = cc in subst P is all.0
      by false f more = more f

  -- one is put behind others
  pub kept_behind : (xs : List X) (x : X) → p x ≡ true → filter p xs ≡ [] → filter p (xs ++ x ∷ []) ≡ x ∷ []
  kept_behind xs x e none = filter-append p xs (x ∷ []) ∙ ap (λ l. l ++ filter p (x ∷ [])) none ∙ kept x [] e

  pub passed_behind : (xs : List X) (x : X) → p x ≡ false → filter p (xs ++ x ∷ []) ≡ filter p xs
  passed_behind xs x e =
      filter-append p xs (x ∷ []) ∙ ap (λ l. filter p xs ++ l) (passed x [] e) ∙ append-nil (filter p xs)

  -- and none of them, or all that are theirs
  pub none_behind : (xs ys : List X) → filter p ys ≡ [] → filter p (xs ++ ys) ≡ filter p xs
  none_behind xs ys none = filter-append p xs ys ∙ ap (λ l. filter p xs ++ l) none ∙ append-nil (filter p xs)

  pub all_behind : (xs ys zs : List X) → filter p xs ≡ [] → filter p ys ≡ zs → filter p (xs ++ ys) ≡ zs
  all_behind xs ys zs none is = filter-append p xs ys ∙ ap (λ l. l ++ filter p ys) none ∙ is

-- ---- flows

pub own_is : (whose : Whose) (found : Option Flow) (flow : Flow) → own_flow whose found ≡ Some flow → (found ≡ Some flow) × (whose flow.ask ≡ true)
own_is whose None flow e = cc
own_is whose (Some other) flow e = by (whose other.ask) refl e
  where
    by : (own : Bool) → whose other.ask ≡ own → cond own (Some other) None ≡ Some flow → (Some other ≡ Some flow) × (whose flow.ask ≡ true)
    by true t same = let is : other ≡ flow = cc in (same, subst (λ (f : Flow). whose f.ask ≡ true) is t)
    by false t same = cc

pub own_here : (whose : Whose) (flow : Flow) → whose flow.ask ≡ true → own_flow whose (Some flow) ≡ Some flow
own_here whose flow own = ap (λ b. cond b (Some flow) None) own

pub not_here : (whose : Whose) (flow : Flow) → whose flow.ask ≡ false → own_flow whose (Some flow) ≡ None
not_here whose flow other = ap (λ b. cond b (Some flow) None) other

pub is_not : (whose : Whose) (flow : Flow) → own_flow whose (Some flow) ≡ None → whose flow.ask ≡ false
is_not whose flow none = by (whose flow.ask) refl none
  where
    by : (own : Bool) → whose flow.ask ≡ own → cond own (Some flow) None ≡ None → whose flow.ask ≡ false
    by true t e = cc
    by false t e = t

pub on_itself : (name : List ℕ) (flow : Flow) → on_name name flow name ≡ Some flow
on_itself name flow = ap (λ b. cond b (Some flow) None) (names_apart.itself name)

pub on_other : (name : List ℕ) (flow : Flow) (other : List ℕ) → name ≢ other → on_name name flow other ≡ None
on_other name flow other ne = ap (λ b. cond b (Some flow) None) (not_equal (slice_cmp nat_cmp) names_apart name other ne)

-- the answer to another's flow is another's
pub answers_none : (whose : Whose) (body : AnswerBody) (found : Option Flow) → own_flow whose found ≡ None
    → filter (is_own_told whose) (answers_for body found) ≡ []
answers_none whose body None none = refl
answers_none whose body (Some flow) none = passed (is_own_told whose) _ [] (is_not whose flow none)

-- Each answer of a legal history is the one store's to the request of its number, and an invariant of the store and the sessions that each
-- request keeps holds where it is answered.
use Rattle.std.proofs.Common.{◌≡◌, ℕ, zero, suc, ◌+◌, ◌<◌, ◌==◌, ◌&&◌, Bool, true, false, cond, List, [], ◌∷◌, Some, refl, sym, ◌∙◌, ap, subst, arith}
use Rattle.std.specs.Prelude.{All, count_by}
use Rattle.std.proofs.lemmas.Bool.Decides.{nat_tests}
use Rattle.std.proofs.lemmas.List.Sums.{sum_by-append}
use Rattle.std.proofs.lemmas.Option.{get_or_from_slice_get, slice_get_within}
use Rattle.mur_base.specs.declared.point.Point.{Point}
use Rattle.mur_base.specs.declared.point.What.{What}
use Rattle.mur_base.specs.declared.point.What.TheVariants.{Reply as replied, Lost as lost}
use Rattle.imap_types.specs.declared.command.Command.{Command}
use Rattle.imap_types.specs.declared.command.Tag.{Tag}
use Rattle.imap_types.specs.declared.reply.NoText.{NoText}
use Rattle.imap_types.specs.declared.request.Answer.{Answer}
use Rattle.imap_types.specs.declared.request.Request.{Request}
use Rattle.imap_types.specs.declared.request.Request.TheVariants.{Command as a_command}
use Rattle.mur_model.specs.declared.setting.Setting.{Setting}
use Rattle.mur_model.specs.History.{Course, Talk, course_after, numbered, point_of, carried_out, refused_out, Follows, answers_its_command, is_about, IsLegal}
use Rattle.mur_model.specs.History.Follows.{no_points, a_reply, a_loss, a_refusal}

-- each request of a kind keeps an invariant of the store and the sessions, and where that holds its answer has a property
pub record Keeps (setting : Setting) (Q : Request → Type 0) (I : Course → Type 0) (P : Answer → Type 0) : Type 0 where
  pub kept : (course : Course) (conn : ℕ) (request : Request) (serial : ℕ) → I course → Q request
      → I (course_after course conn (carried_out setting course conn request serial))
  pub told : (course : Course) (conn : ℕ) (request : Request) (serial : ℕ) → I course → Q request
      → P (carried_out setting course conn request serial).answer
  -- and where it is refused for a move or for a server
  pub refused : (course : Course) (conn : ℕ) (tag : Tag) (it : Command) (why : NoText) → I course → Q (a_command tag it)
      → I (course_after course conn (refused_out course conn tag it why))
  pub refusal : (course : Course) (conn : ℕ) (tag : Tag) (it : Command) (why : NoText) → I course → Q (a_command tag it)
      → P (refused_out course conn tag it why).answer

count_cons : (p : Point → Bool) (x : Point) (xs : List Point) → count_by p (x ∷ xs) ≡ cond (p x) 1 0 + count_by p xs
count_cons p x xs = sum_by-append (λ y. cond (p y) 1 0) (x ∷ []) xs ∙ ap (λ n. n + count_by p xs) (omega arith)

-- a point that doesn't answer this command is passed over
behind_it : (p : Point → Bool) (x : Point) (xs : List Point) → p x ≡ false → 0 < count_by p (x ∷ xs) → 0 < count_by p xs
behind_it p x xs none some = omega (arith, some, count_cons p x xs, ap {B = ℕ} (λ b. cond b 1 0) none)

not_about : (kind same its : Bool) → same ≡ true → its ≡ false → (kind && same && its) ≡ false
not_about true same its e f = rw (e, f) refl
not_about false same its e f = refl

not_conn : (kind same its : Bool) → same ≡ false → (kind && same && its) ≡ false
not_conn true same its e = rw e refl
not_conn false same its e = refl

asked_so : {T : Type 0} (Q : T → Type 0) (items : List T) (number : ℕ) (item : T) → numbered items number ≡ Some item → All Q items → Q item
unfolding numbered
asked_so Q items zero item e all = cc
asked_so Q items (suc k) item e all = subst Q (get_or_from_slice_get items k item item e) (all k item (slice_get_within items k item e))

module _ (setting : Setting) (talk : Talk) (Q : Request → Type 0) (I : Course → Type 0) (P : Answer → Type 0) (keeps : Keeps setting Q I P)
    (asked : (conn : ℕ) → All Q (talk.requests conn)) where
  record IsItsAnswer (conn number : ℕ) : Type 0 where
    answer : Answer
    told : numbered (talk.answers conn) number ≡ Some answer
    so : P answer

  -- a point of an answer: it is this command's, or one behind it is
  here : (step other n conn number : ℕ) (what : What) (answer : Answer) (rest : List Point) → numbered (talk.answers other) n ≡ Some answer → P answer
      → 0 < count_by (is_about answers_its_command conn number) (point_of step other n what ∷ rest)
      → (0 < count_by (is_about answers_its_command conn number) rest → IsItsAnswer conn number) → IsItsAnswer conn number
  here step other n conn number what answer rest told so some on = by (other == conn) (n == number) refl refl
    where
      by : (same its : Bool) → (other == conn) ≡ same → (n == number) ≡ its → IsItsAnswer conn number
      by true true e f =
          let conn_is : other ≡ conn = grind (arith, nat_tests, e) in
          let number_is : n ≡ number = grind (arith, nat_tests, f) in
          subst (λ c. IsItsAnswer c number) conn_is
          (subst (λ m. IsItsAnswer other m) number_is (record { answer = answer; told = told; so = so }))
      by true false e f = on (behind_it (is_about answers_its_command conn number) (point_of step other n what) rest
          (not_about (answers_its_command what) (other == conn) (n == number) e f) some)
      by false its e f = on (behind_it (is_about answers_its_command conn number) (point_of step other n what) rest
          (not_conn (answers_its_command what) (other == conn) (n == number) e) some)

  answered_at : (first last : Course) (points : List Point) (conn number : ℕ) → Follows setting talk first points last
      → 0 < count_by (is_about answers_its_command conn number) points → I first → IsItsAnswer conn number
  unfolding answers_its_command
  answered_at first last points conn number (no_points course) some holds = absurd (omega (arith, some))
  answered_at first last points conn number (a_loss course end step other n request serial rest takes later) some holds =
      answered_at _ end rest conn number later (behind_it (is_about answers_its_command conn number) (point_of step other n lost) rest refl some)
      (keeps.kept course other request serial holds (asked_so Q (talk.requests other) n request takes.asked (asked other)))
  answered_at first last points conn number (a_reply course end step other n request serial rest takes told later) some holds =
      let is = asked_so Q (talk.requests other) n request takes.asked (asked other) in
      here step other n conn number replied (carried_out setting course other request serial).answer rest told
      (keeps.told course other request serial holds is) some
      (λ more. answered_at _ end rest conn number later more (keeps.kept course other request serial holds is))
  answered_at first last points conn number (a_refusal course end step other n tag it what why rest refused told later) some holds =
      let is = asked_so Q (talk.requests other) n (a_command tag it) refused.asked (asked other) in
      here step other n conn number what (refused_out course other tag it why).answer rest told
      (keeps.refusal course other tag it why holds is) some
      (λ more. answered_at _ end rest conn number later more (keeps.refused course other tag it why holds is))

  -- what is so of the answer to each request of a kind is so of all answers, where all requests are of that kind
  pub each_answer : (first : Course) (points : List Point) (last : Course) → IsLegal setting first talk points last → I first
      → (conn : ℕ) → All P (talk.answers conn)
  unfolding numbered
  each_answer first points last legal holds conn = λ k d within.
      let at = answered_at first last points conn (suc k) legal.follows
      (omega (arith, legal.answered_once conn (suc k) (omega arith) (omega (arith, within)))) holds in
      subst P (sym (get_or_from_slice_get (talk.answers conn) k at.answer d at.told)) at.so

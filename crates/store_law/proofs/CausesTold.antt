-- In a legal history each command that was refused for a move, or for a server, has a point that says why: the store itself refuses none so.
use Rattle.std.proofs.Common.{◌≡◌, ℕ, zero, suc, ◌+◌, ◌<◌, ◌≤◌, ◌==◌, ◌&&◌, Bool, true, false, cond, List, [], ◌∷◌, length, Some, refl, sym, ◌∙◌, ap, subst, arith}
use Rattle.std.specs.Prelude.{count_by}
use Rattle.std.proofs.lemmas.Bool.Decides.{nat_tests}
use Rattle.std.proofs.lemmas.List.Sums.{sum_by-append}
use Rattle.std.proofs.lemmas.Option.{slice_get_within}
use Rattle.mur_base.specs.declared.point.Point.{Point}
use Rattle.mur_base.specs.declared.point.What.{What}
use Rattle.mur_base.specs.declared.point.What.TheVariants.{Reply as replied, Read as read, Lost as lost, Reserved as reserved, Unreached as unreached}
use Rattle.imap_types.specs.declared.command.Command.{Command}
use Rattle.imap_types.specs.declared.command.Command.TheVariants.{Select, Examine}
use Rattle.imap_types.specs.declared.reply.NoText.{NoText}
use Rattle.imap_types.specs.declared.reply.NoText.TheVariants.{BeingMoved, NotReached}
use Rattle.imap_types.specs.declared.reply.Verdict.TheVariants.{No as no_reply}
use Rattle.imap_types.specs.declared.request.Answer.{Answer}
use Rattle.mur_model.specs.declared.session.Sess.{Sess}
use Rattle.mur_model.specs.declared.session.Sess.TheVariants.{Selected as selected}
use Rattle.mur_model.specs.declared.setting.Setting.{Setting}
use Rattle.mur_model.specs.History.{Course, Talk, Follows, IsLegal, answers_its_command, carried_out, is_about, numbered, point_of, refused_out}
use Rattle.mur_model.specs.History.Follows.{no_points, a_reply, a_loss, a_refusal}
use Rattle.mur_model.specs.Relocation.{cause_text, refused_for}
use Rattle.store_law.specs.Refusals.{HaveCauses, is_cause, wants_cause}
use Rattle.store_law.proofs.NoRelocation.{answer_is}

-- ---- counts of points

count_cons : (p : Point → Bool) (x : Point) (xs : List Point) → count_by p (x ∷ xs) ≡ cond (p x) 1 0 + count_by p xs
count_cons p x xs = sum_by-append (λ y. cond (p y) 1 0) (x ∷ []) xs ∙ ap (λ n. n + count_by p xs) (omega arith)

-- a point is one of these, or it isn't
counted : (p : Point → Bool) (x : Point) (xs : List Point) → p x ≡ true → 0 < count_by p (x ∷ xs)
counted p x xs is = omega (arith, count_cons p x xs, ap {B = ℕ} (λ b. cond b 1 0) is)

behind : (p : Point → Bool) (x : Point) (xs : List Point) → 0 < count_by p xs → 0 < count_by p (x ∷ xs)
behind p x xs some = omega (arith, some, count_cons p x xs)

passed : (p : Point → Bool) (x : Point) (xs : List Point) → p x ≡ false → 0 < count_by p (x ∷ xs) → 0 < count_by p xs
passed p x xs none some = omega (arith, some, count_cons p x xs, ap {B = ℕ} (λ b. cond b 1 0) none)

not_about : (kind same its : Bool) → (same && its) ≡ false → (kind && same && its) ≡ false
not_about true same its e = e
not_about false same its e = refl

-- ---- a refusal says why

refused_says : (session : Sess) (it : Command) (why : NoText) → (refused_for session it why).reply.verdict ≡ no_reply why
unfolding refused_for
refused_says (selected view) (Select text) why = refl
refused_says (selected view) (Examine text) why = refl
refused_says session it why = refl

its_cause : (what : What) (why : NoText) → cause_text what ≡ Some why → is_cause (no_reply why) what ≡ true
unfolding cause_text is_cause
its_cause reserved why e = let is : BeingMoved ≡ why = cc in subst (λ t. is_cause (no_reply t) reserved ≡ true) is refl
its_cause (unreached node) why e = let is : NotReached ≡ why = cc in subst (λ t. is_cause (no_reply t) (unreached node) ≡ true) is refl
its_cause replied why e = cc
its_cause read why e = cc
its_cause lost why e = cc

module _ (setting : Setting) (talk : Talk) (conn number : ℕ) (answer : Answer) (told : numbered (talk.answers conn) number ≡ Some answer)
    (wants : wants_cause answer.reply.verdict ≡ true) where
  abbrev HasCause : List Point → Type 0
  HasCause points = 0 < count_by (is_about (is_cause answer.reply.verdict) conn number) points

  -- a point with this answer: it is this command's, or one behind it is
  here : (step other n : ℕ) (what : What) (given : Answer) (rest : List Point) → numbered (talk.answers other) n ≡ Some given
      → (given ≡ answer → is_cause answer.reply.verdict what ≡ true)
      → 0 < count_by (is_about answers_its_command conn number) (point_of step other n what ∷ rest)
      → (0 < count_by (is_about answers_its_command conn number) rest → HasCause rest) → HasCause (point_of step other n what ∷ rest)
  here step other n what given rest at why some on = by (other == conn) (n == number) refl refl
    where
      apart : ((other == conn) && (n == number)) ≡ false → HasCause (point_of step other n what ∷ rest)
      apart e = behind (is_about (is_cause answer.reply.verdict) conn number) (point_of step other n what) rest
          (on (passed (is_about answers_its_command conn number) (point_of step other n what) rest (not_about (answers_its_command what) (other == conn) (n == number) e) some))

      by : (same its : Bool) → (other == conn) ≡ same → (n == number) ≡ its → HasCause (point_of step other n what ∷ rest)
      by true true e f =
          let conn_is : other ≡ conn = grind (arith, nat_tests, e) in
          let number_is : n ≡ number = grind (arith, nat_tests, f) in
          let both : Some given ≡ Some answer = sym at ∙ ap (λ c. numbered (talk.answers c) n) conn_is ∙ ap (numbered (talk.answers conn)) number_is ∙ told in
          let same : given ≡ answer = cc in
          counted (is_about (is_cause answer.reply.verdict) conn number) (point_of step other n what) rest (let one = why same in rw (one, e, f) refl)
      by true false e f = apart (rw (e, f) refl)
      by false its e f = apart (rw e refl)

  cause_at : (first last : Course) (points : List Point) → Follows setting talk first points last
      → 0 < count_by (is_about answers_its_command conn number) points → HasCause points
  unfolding answers_its_command
  cause_at first last points (no_points course) some = absurd (omega (arith, some))
  cause_at first last points (a_loss course end step other n request serial rest takes later) some =
      behind (is_about (is_cause answer.reply.verdict) conn number) (point_of step other n lost) rest
      (cause_at _ end rest later (passed (is_about answers_its_command conn number) (point_of step other n lost) rest refl some))
  cause_at first last points (a_reply course end step other n request serial rest takes at later) some =
      here step other n replied (carried_out setting course other request serial).answer rest at
      (λ same. (let none : wants_cause answer.reply.verdict ≡ false =
      subst (λ (a : Answer). wants_cause a.reply.verdict ≡ false) same (answer_is setting course.store (course.sessions other) request serial) in cc))
      some (cause_at _ end rest later)
  cause_at first last points (a_refusal course end step other n tag it what why rest refused at later) some =
      here step other n what (refused_out course other tag it why).answer rest at
      (λ same. subst (λ (a : Answer). is_cause a.reply.verdict what ≡ true) same
      (ap (λ v. is_cause v what) (refused_says (course.sessions other) it why) ∙ its_cause what why refused.cause))
      some (cause_at _ end rest later)

numbered_within : {T : Type 0} (items : List T) (number : ℕ) (item : T) → numbered items number ≡ Some item → (0 < number) × (number ≤ length items)
unfolding numbered
numbered_within items zero item e = cc
numbered_within items (suc k) item e = (omega arith, omega (arith, slice_get_within items k item e))

pub have_causes : (setting : Setting) (first : Course) (talk : Talk) (points : List Point) (last : Course) → IsLegal setting first talk points last
    → HaveCauses talk points
have_causes setting first talk points last legal = λ conn number answer at wants.
    cause_at setting talk conn number answer at wants first last points legal.follows
    (let once = legal.answered_once conn number (numbered_within (talk.answers conn) number answer at).0
    (numbered_within (talk.answers conn) number answer at).1 in omega (arith, once))

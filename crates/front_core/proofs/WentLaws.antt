-- What comes of an answer, or of the master's OK: where the command waits on without a message, it waits as it did; and only a session that has begun
-- asks a home.
use Rattle.std.proofs.Common.{◌≡◌, ℕ, ◌+◌, Bool, true, false, List, Option, None, Some, refl, sym, ap, ◌∙◌, subst, arith}
use Rattle.std.proofs.lemmas.Bool.Decides.{nat_tests}
use Rattle.std.specs.Prelude.{⊤, ◌==◌}
use Rattle.link_msg.specs.declared.answer.BackAnswer.{BackAnswer}
use Rattle.asking_core.specs.declared.waiting.At.{At}
use Rattle.asking_core.specs.declared.waiting.At.TheVariants.{Home as at_home, Barrier as at_barrier}
use Rattle.feed_core.specs.Feed.{Recs}
use Rattle.link_msg.specs.declared.answer.AnswerBody.{AnswerBody}
use Rattle.link_msg.specs.declared.answer.AnswerBody.TheVariants as answer
use Rattle.imap_types.specs.declared.command.Tag.{Tag}
use Rattle.mur_base.specs.declared.point.AskId.{AskId}
use Rattle.mur_model.specs.declared.need.Need.{Need}
use Rattle.mur_model.specs.declared.need.Need.TheVariants.{Reply, Leave, Home, Names}
use Rattle.mur_model.specs.declared.session.Sess.{Sess}
use Rattle.mur_model.specs.declared.session.Turn.{Turn}
use Rattle.mur_model.specs.declared.setting.Setting.{Setting}
use Rattle.session_core.specs.declared.result.OpResult.TheVariants.{Done, Missing}
use Rattle.session_core.specs.Begin.{MayNeed}
use Rattle.session_core.specs.Finish.{finished_by, turn_of}
use Rattle.session_core.proofs.NeedLaw.{may_need_behind}
use Rattle.ask_routes.specs.declared.next.Next.{Next}
use Rattle.ask_routes.specs.declared.next.Next.TheVariants as next
use Rattle.ask_routes.specs.declared.next.Why.{Why}
use Rattle.ask_routes.specs.Ways.{ask_for, behind_ok}
use Rattle.asking_core.specs.Answered.{WentOn, answered, goes_on, told_in}
use Rattle.asking_core.specs.Cleared.{cleared}
use Rattle.asking_core.specs.declared.then.Then.{Then}
use Rattle.asking_core.specs.declared.then.Then.TheVariants as then
use Rattle.asking_core.specs.declared.waiting.Sent.{Sent}
use Rattle.asking_core.specs.declared.waiting.Waiting.{Waiting}
use Rattle.link_msg.specs.declared.how.How.{How}
use Rattle.link_msg.specs.declared.how.How.TheVariants as how
use Rattle.front_core.specs.declared.connection.Connection.{Connection}
use Rattle.front_core.specs.declared.connection.Stage.{Stage}
use Rattle.front_core.specs.declared.connection.Stage.TheVariants.{Waits}
use Rattle.front_core.specs.Answered.{answer_by, answer_comes, by_then, clears_at, goes_on_by, need_behind, ok_by, ok_comes, sends_if, unchanged}
use Rattle.front_core.specs.Behind.{ThenFits, does}
use Rattle.front_core.specs.Stages.{clears}
use Rattle.front_core.specs.Taken.{Ways, next_of}
use Rattle.front_core.specs.Ups.{is_up}

abbrev pub FitAt : Sess → Waiting → Sess → Waiting → Then → Type 0
FitAt was it session later (then.Sends sent) = session ≡ was
FitAt was it session later (then.Needs need) = MayNeed session need
FitAt was it session later (then.Refused cause reply) = ⊤
FitAt was it session later then.Lost = (session ≡ was) × (later ≡ it)
FitAt was it session later then.Stays = (session ≡ was) × (later ≡ it)

abbrev pub IsFit : Sess → Waiting → WentOn → Type 0
IsFit was it on = FitAt was it on.session on.waiting on.then

turn_fit : (session : Sess) (it : Waiting) (turn : Option Turn) → IsFit session it (told_in it (finished_by session turn))
unfolding finished_by
turn_fit session it None = (refl, refl)
turn_fit session it (Some turn) = may_need_behind session (Some turn)

next_fit : (master : List ℕ) (id : AskId) (session : Sess) (it : Waiting) (found : Next) → IsFit session it (goes_on master id session it found)
next_fit master id session it (next.Ask server) = refl
next_fit master id session it (next.Barrier cause) = refl
next_fit master id session it next.Missing = turn_fit session it (turn_of session it.asking.awaited Missing)
next_fit master id session it next.Refused = tt

pub answered_fit : (master : List ℕ) (id : AskId) (session : Sess) (it : Waiting) (body : AnswerBody) → IsFit session it (answered master id session it body)
unfolding answered
answered_fit master id session it (answer.Done outcome seen) = turn_fit session it (turn_of session it.asking.awaited (Done outcome seen))
answered_fit master id session it answer.NotNow = refl
answered_fit master id session it (answer.Moved server) = refl
answered_fit master id session it (answer.Unreached node) = tt
answered_fit master id session it answer.Lost = (refl, refl)

pub cleared_fit : (recs : Recs) (master first : List ℕ) (id : AskId) (session : Sess) (it : Waiting) (why : Why)
    → IsFit session it (cleared recs master first id session it why)
unfolding cleared
cleared_fit recs master first id session it why = next_fit master id session it (behind_ok recs first (ask_for it.name it.asking.op) why)

-- what the connection is then asked to do

fits_by : (was session : Sess) (it later : Waiting) (what : Then) → FitAt was it session later what → ThenFits session what
unfolding ThenFits
fits_by was session it later (then.Sends sent) fit = tt
fits_by was session it later (then.Needs need) fit = fit
fits_by was session it later (then.Refused cause reply) fit = tt
fits_by was session it later then.Lost fit = tt
fits_by was session it later then.Stays fit = tt

pub then_fits : (was session : Sess) (it later : Waiting) (what : Then) (on : WentOn) → record { session = session; waiting = later; then = what } ≡ on
    → IsFit was it on → ThenFits session what
then_fits was session it later what on is fit = fits_by was session it later what (subst (λ (w : WentOn). IsFit was it w) (sym is) fit)

module _ (setting : Setting) (ways : Ways) (conn : ℕ) (c : Connection) (tag : Tag) where
  -- the connection as it is while the command is carried on
  abbrev carried : Sess → Waiting → Connection
  carried session later = record c { session = session; stage = Waits tag later }

  need_done : (session : Sess) (later : Waiting) (told : How) (need : Need)
      → need_behind setting ways conn (carried session later) tag told need ≡ need_behind setting ways conn (record c { session = session }) tag told need
  need_done session later told (Reply reply) = refl
  need_done session later told (Leave reply) = refl
  need_done session later told (Home name asking) = refl
  need_done session later told (Names it) = refl

  sent_done : (up : Bool) (session : Sess) (later : Waiting) (sent : Sent)
      → sends_if up setting ways conn (carried session later) tag later sent ≡ sends_if up setting ways conn (record c { session = session }) tag later sent
  sent_done true session later sent = refl
  sent_done false session later sent = refl

  stays : (session : Sess) (it later : Waiting) → c.stage ≡ Waits tag it → later ≡ it → carried session later ≡ record c { session = session }
  stays session it later is same = ap (λ (s : Stage). record c { session = session; stage = s }) (ap (Waits tag) same ∙ sym is)

  done_by : (session : Sess) (it later : Waiting) (what : Then) → c.stage ≡ Waits tag it → FitAt c.session it session later what
      → does setting ways conn (carried session later) what ≡ by_then setting ways conn (record c { session = session }) tag later what
  unfolding does
  done_by session it later (then.Sends sent) is fit = sent_done (is_up ways.ups sent.to) session later sent
  done_by session it later (then.Needs need) is fit = need_done session later how.Behind need
  done_by session it later (then.Refused cause reply) is fit = refl
  done_by session it later then.Lost is fit = refl
  done_by session it later then.Stays is fit = ap unchanged (stays session it later is fit.1)

  -- so it does what is defined
  pub went_done : (it later : Waiting) (session : Sess) (what : Then) (on : WentOn) → c.stage ≡ Waits tag it
      → record { session = session; waiting = later; then = what } ≡ on → IsFit c.session it on
      → does setting ways conn (carried session later) what ≡ goes_on_by setting ways conn c tag on
  went_done it later session what on is same fit =
      done_by session it later what is (subst (λ (w : WentOn). IsFit c.session it w) (sym same) fit)
      ∙ ap (λ (w : WentOn). goes_on_by setting ways conn c tag w) same

-- the numbers are the same
same_number : (one other : ℕ) → one ≡ other → (one == other) ≡ true
same_number one other is = grind (arith, nat_tests, is)

is_barrier : (at : At) (why : Why) → Some why ≡ clears at → at ≡ at_barrier why
is_barrier (at_home server) why is = cc
is_barrier (at_barrier other) why is = cc

module _ (setting : Setting) (ways : Ways) (conn : ℕ) (c : Connection) (tag : Tag) (it later : Waiting) (session : Sess) (what : Then) (id : AskId)
    (is : c.stage ≡ Waits tag it) (numbered : id ≡ next_of conn c) where
  pub answer_done : (answer : BackAnswer) (master : List ℕ) → (answer.id).command ≡ c.answered + 1 → master ≡ ways.master
      → record { session = session; waiting = later; then = what } ≡ answered master id c.session it answer.body
      → does setting ways conn (record c { session = session; stage = Waits tag later }) what ≡ answer_comes setting ways conn c answer
  unfolding answer_comes answer_by
  answer_done answer master fits known came =
      went_done setting ways conn c tag it later session what (answered master id c.session it answer.body) is came
      (answered_fit master id c.session it answer.body)
      ∙ ap (λ m. goes_on_by setting ways conn c tag (answered m id c.session it answer.body)) known
      ∙ ap (λ i. goes_on_by setting ways conn c tag (answered ways.master i c.session it answer.body)) numbered
      ∙ sym (
      ap (λ b. answer_by setting ways conn c answer b c.stage) (same_number (answer.id).command (c.answered + 1) fits)
      ∙ ap (answer_by setting ways conn c answer true) is)

  pub ok_done : (ok : AskId) (why : Why) (recs : Recs) (master first : List ℕ) → ok.command ≡ c.answered + 1 → Some why ≡ clears it.at
      → recs ≡ ways.recs → master ≡ ways.master → first ≡ ways.first
      → record { session = session; waiting = later; then = what } ≡ cleared recs master first id c.session it why
      → does setting ways conn (record c { session = session; stage = Waits tag later }) what ≡ ok_comes setting ways conn c ok
  unfolding ok_comes ok_by
  ok_done ok why recs master first fits at known asks begins came =
      went_done setting ways conn c tag it later session what (cleared recs master first id c.session it why) is came
      (cleared_fit recs master first id c.session it why)
      ∙ ap (λ r. goes_on_by setting ways conn c tag (cleared r master first id c.session it why)) known
      ∙ ap (λ m. goes_on_by setting ways conn c tag (cleared ways.recs m first id c.session it why)) asks
      ∙ ap (λ f. goes_on_by setting ways conn c tag (cleared ways.recs ways.master f id c.session it why)) begins
      ∙ ap (λ i. goes_on_by setting ways conn c tag (cleared ways.recs ways.master ways.first i c.session it why)) numbered
      ∙ sym (
      ap (λ b. ok_by setting ways conn c b c.stage) (same_number ok.command (c.answered + 1) fits)
      ∙ ap (ok_by setting ways conn c true) is
      ∙ ap (clears_at setting ways conn c tag it) (is_barrier it.at why at))

-- What the step of a mark does: it carries its command out, what it saw is refused behind it, or it refuses its command by itself.
use Rattle.std.proofs.Common.{◌≡◌, ℕ, Bool, true, false, List, Some, sym, ◌∙◌, ap, subst}
use Rattle.link_msg.specs.declared.counts.Counts.TheVariants.{IfAnswered}
use Rattle.link_msg.specs.declared.how.How.TheVariants.{Unreached}
use Rattle.imap_types.specs.declared.command.Command.{Command}
use Rattle.imap_types.specs.declared.command.Tag.{Tag}
use Rattle.imap_types.specs.declared.reply.NoText.{NoText}
use Rattle.imap_types.specs.declared.reply.NoText.TheVariants.{BeingMoved, NotReached}
use Rattle.imap_types.specs.declared.request.Request.TheVariants.{Command as a_command}
use Rattle.imap_types.specs.declared.request.Request.{Request}
use Rattle.mur_base.specs.declared.point.What.{What}
use Rattle.mur_base.specs.declared.point.What.TheVariants.{Reserved as reserved, Unreached as unreached}
use Rattle.mur_model.specs.declared.setting.Setting.{Setting}
use Rattle.mur_model.specs.Act.{need_of}
use Rattle.mur_model.specs.Answer.{Answered, answer_of, MayTake}
use Rattle.mur_model.specs.History.{Course, Talk, TalkGoesOn, IsRefused, Takes, numbered, carried_out, refused_out}
use Rattle.mur_model.specs.Relocation.{MayBeRefused, after_refusal}
use Rattle.mur_model.proofs.HistoryGrows.{takes_on, numbered_on}
use Rattle.mark_history.specs.declared.mark.Mark.{Mark}
use Rattle.mark_history.specs.declared.mark.MarkKind.TheVariants.{Home, Told}
use Rattle.mark_history.proofs.Tally.{acts, command_of, conn_of, tells_unreached}

-- by whether the client is told that the command was refused: a step that always counts, or only where its client is told of its own reply, isn't refused
pub data IsDeed (setting : Setting) (talk : Talk) (course : Course) (mark : Mark) (refused : Bool) (done : Answered) : Type 0 where
  carries_it_out : (request : Request) (serial : ℕ) → refused ≡ false → tells_unreached mark.kind ≡ false
      → Takes setting talk course (conn_of mark) (command_of mark) request serial
      → done ≡ carried_out setting course (conn_of mark) request serial → IsDeed setting talk course mark refused done
  is_refused : (tag : Tag) (it : Command) → refused ≡ true → mark.kind ≡ Home IfAnswered
      → IsRefused setting talk course mark.step (conn_of mark) (command_of mark) tag it reserved BeingMoved
      → done ≡ refused_out course (conn_of mark) tag it BeingMoved → IsDeed setting talk course mark refused done
  is_unreached : (tag : Tag) (it : Command) (node : List ℕ) → mark.kind ≡ Told (Unreached node)
      → IsRefused setting talk course mark.step (conn_of mark) (command_of mark) tag it (unreached node) NotReached
      → done ≡ refused_out course (conn_of mark) tag it NotReached → IsDeed setting talk course mark refused done

-- the step of a mark acts so, which its answer is; one that counts only for an answered command leaves the store as it was
pub record IsStep (setting : Setting) (talk : Talk) (course : Course) (mark : Mark) (refused : Bool) (done : Answered) : Type 0 where
  pub acting : acts mark.kind ≡ true
  pub deed : IsDeed setting talk course mark refused done
  pub answer : numbered (talk.answers (conn_of mark)) (command_of mark) ≡ Some done.answer
  pub unless : mark.kind ≡ Home IfAnswered → done.store ≡ course.store

-- ---- of another course with the same store, and the same session at the connection

pub same_carried : (setting : Setting) (course other : Course) (conn : ℕ) (request : Request) (serial : ℕ) → other.store ≡ course.store
    → other.sessions conn ≡ course.sessions conn → carried_out setting other conn request serial ≡ carried_out setting course conn request serial
same_carried setting course other conn request serial store session =
    ap (λ s. answer_of setting s (other.sessions conn) request serial) store
    ∙ ap (λ s. answer_of setting course.store s request serial) session

pub same_refused : (course other : Course) (conn : ℕ) (tag : Tag) (it : Command) (why : NoText) → other.store ≡ course.store
    → other.sessions conn ≡ course.sessions conn → refused_out other conn tag it why ≡ refused_out course conn tag it why
same_refused course other conn tag it why store session =
    ap {B = Answered} (λ s. after_refusal s (other.sessions conn) tag it why) store
    ∙ ap {B = Answered} (λ s. after_refusal course.store s tag it why) session

pub same_takes : (setting : Setting) (talk : Talk) (course other : Course) (conn number : ℕ) (request : Request) (serial : ℕ) → other.store ≡ course.store
    → other.sessions conn ≡ course.sessions conn → Takes setting talk course conn number request serial → Takes setting talk other conn number request serial
same_takes setting talk course other conn number request serial store session takes = record {
  asked = takes.asked;
  given = takes.given;
  free = subst (λ s. MayTake setting s (other.sessions conn) request serial) (sym store)
      (subst (λ s. MayTake setting course.store s request serial) (sym session) takes.free);
}

pub same_is_refused : (setting : Setting) (talk : Talk) (course other : Course) (step conn number : ℕ) (tag : Tag) (it : Command) (what : What) (why : NoText)
    → other.sessions conn ≡ course.sessions conn → IsRefused setting talk course step conn number tag it what why
    → IsRefused setting talk other step conn number tag it what why
same_is_refused setting talk course other step conn number tag it what why session is = record {
  asked = is.asked;
  cause = is.cause;
  may = subst (λ s. MayBeRefused talk.moving step what (need_of setting s it)) (sym session) is.may;
}

-- of another talk with the same mailboxes being moved, in which it was asked
pub refused_with : (setting : Setting) (talk other : Talk) (course : Course) (step conn number : ℕ) (tag : Tag) (it : Command) (what : What) (why : NoText)
    → numbered (other.requests conn) number ≡ Some (a_command tag it) → other.moving ≡ talk.moving
    → IsRefused setting talk course step conn number tag it what why → IsRefused setting other course step conn number tag it what why
refused_with setting talk other course step conn number tag it what why asked moving is = record {
  asked = asked;
  cause = is.cause;
  may = subst (λ m. MayBeRefused m step what (need_of setting (course.sessions conn) it)) (sym moving) is.may;
}

same_deed : (setting : Setting) (talk : Talk) (course other : Course) (mark : Mark) (refused : Bool) (done : Answered) → other.store ≡ course.store
    → other.sessions (conn_of mark) ≡ course.sessions (conn_of mark) → IsDeed setting talk course mark refused done
    → IsDeed setting talk other mark refused done
same_deed setting talk course other mark refused done store session (carries_it_out request serial plain reached takes is) =
    carries_it_out request serial plain reached (same_takes setting talk course other (conn_of mark) (command_of mark) request serial store session takes)
    (is ∙ sym (same_carried setting course other (conn_of mark) request serial store session))
same_deed setting talk course other mark refused done store session (is_refused tag it refuses kind may is) =
    is_refused tag it refuses kind
    (same_is_refused setting talk course other mark.step (conn_of mark) (command_of mark) tag it reserved BeingMoved session may)
    (is ∙ sym (same_refused course other (conn_of mark) tag it BeingMoved store session))
same_deed setting talk course other mark refused done store session (is_unreached tag it node kind may is) =
    is_unreached tag it node kind
    (same_is_refused setting talk course other mark.step (conn_of mark) (command_of mark) tag it (unreached node) NotReached session may)
    (is ∙ sym (same_refused course other (conn_of mark) tag it NotReached store session))

pub same_step : (setting : Setting) (talk : Talk) (course other : Course) (mark : Mark) (refused : Bool) (done : Answered) → other.store ≡ course.store
    → other.sessions (conn_of mark) ≡ course.sessions (conn_of mark) → IsStep setting talk course mark refused done
    → IsStep setting talk other mark refused done
same_step setting talk course other mark refused done store session step = record {
  acting = step.acting;
  deed = same_deed setting talk course other mark refused done store session step.deed;
  answer = step.answer;
  unless = λ kind. step.unless kind ∙ sym store;
}

pub step_as : (setting : Setting) (talk : Talk) (course : Course) (mark : Mark) (one other : Bool) (done : Answered) → other ≡ one
    → IsStep setting talk course mark one done → IsStep setting talk course mark other done
step_as setting talk course mark one other done e step = subst (λ b. IsStep setting talk course mark b done) (sym e) step

-- ---- of another talk that has what the mark needs

pub record HasItsAct (talk other : Talk) (mark : Mark) : Type 0 where
  pub request : numbered (other.requests (conn_of mark)) (command_of mark) ≡ numbered (talk.requests (conn_of mark)) (command_of mark)
  pub answer : numbered (other.answers (conn_of mark)) (command_of mark) ≡ numbered (talk.answers (conn_of mark)) (command_of mark)
  pub serial : numbered (other.serials (conn_of mark)) (command_of mark) ≡ numbered (talk.serials (conn_of mark)) (command_of mark)
  pub moving : other.moving ≡ talk.moving

deed_with : (setting : Setting) (talk other : Talk) (course : Course) (mark : Mark) (refused : Bool) (done : Answered) → HasItsAct talk other mark
    → IsDeed setting talk course mark refused done → IsDeed setting other course mark refused done
deed_with setting talk other course mark refused done has (carries_it_out request serial plain reached takes is) =
    carries_it_out request serial plain reached (record { asked = has.request ∙ takes.asked; given = has.serial ∙ takes.given; free = takes.free }) is
deed_with setting talk other course mark refused done has (is_refused tag it refuses kind may is) =
    is_refused tag it refuses kind
    (refused_with setting talk other course mark.step (conn_of mark) (command_of mark) tag it reserved BeingMoved (has.request ∙ may.asked) has.moving may) is
deed_with setting talk other course mark refused done has (is_unreached tag it node kind may is) =
    is_unreached tag it node kind
    (refused_with setting talk other course mark.step (conn_of mark) (command_of mark) tag it (unreached node) NotReached (has.request ∙ may.asked)
    has.moving may)
    is

pub step_with : (setting : Setting) (talk other : Talk) (course : Course) (mark : Mark) (refused : Bool) (done : Answered) → HasItsAct talk other mark
    → IsStep setting talk course mark refused done → IsStep setting other course mark refused done
step_with setting talk other course mark refused done has step = record {
  acting = step.acting;
  deed = deed_with setting talk other course mark refused done has step.deed;
  answer = has.answer ∙ step.answer;
  unless = step.unless;
}

deed_on : (setting : Setting) (talk longer : Talk) → TalkGoesOn talk longer → (course : Course) (mark : Mark) (refused : Bool) (done : Answered)
    → IsDeed setting talk course mark refused done → IsDeed setting longer course mark refused done
deed_on setting talk longer on course mark refused done (carries_it_out request serial plain reached takes is) =
    carries_it_out request serial plain reached (takes_on setting talk longer on course (conn_of mark) (command_of mark) request serial takes) is
deed_on setting talk longer on course mark refused done (is_refused tag it refuses kind may is) =
    is_refused tag it refuses kind
    (refused_with setting talk longer course mark.step (conn_of mark) (command_of mark) tag it reserved BeingMoved
    (numbered_on talk.requests longer.requests on.requests (conn_of mark) (command_of mark) _ may.asked) on.moving may) is
deed_on setting talk longer on course mark refused done (is_unreached tag it node kind may is) =
    is_unreached tag it node kind
    (refused_with setting talk longer course mark.step (conn_of mark) (command_of mark) tag it (unreached node) NotReached
    (numbered_on talk.requests longer.requests on.requests (conn_of mark) (command_of mark) _ may.asked) on.moving may) is

pub step_on : (setting : Setting) (talk longer : Talk) → TalkGoesOn talk longer → (course : Course) (mark : Mark) (refused : Bool) (done : Answered)
    → IsStep setting talk course mark refused done → IsStep setting longer course mark refused done
step_on setting talk longer on course mark refused done step = record {
  acting = step.acting;
  deed = deed_on setting talk longer on course mark refused done step.deed;
  answer = numbered_on talk.answers longer.answers on.answers (conn_of mark) (command_of mark) done.answer step.answer;
  unless = step.unless;
}

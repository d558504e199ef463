-- What a step did, as a point of the history.
use Rattle.std.proofs.Common.{◌≡◌, ℕ, Bool, true, false, List, ◌∷◌, Option, Some, refl, sym, ◌∙◌, ap, subst}
use Rattle.link_msg.specs.declared.counts.Counts.TheVariants.{Always, IfAnswered}
use Rattle.link_msg.specs.declared.how.How.TheVariants.{Reserved, Unreached}
use Rattle.imap_types.specs.declared.command.Command.{Command}
use Rattle.imap_types.specs.declared.command.Tag.{Tag}
use Rattle.imap_types.specs.declared.reply.NoText.{NoText}
use Rattle.imap_types.specs.declared.reply.NoText.TheVariants.{BeingMoved, NotReached}
use Rattle.imap_types.specs.declared.request.Answer.{Answer}
use Rattle.imap_types.specs.declared.request.Request.{Request}
use Rattle.mur_base.specs.declared.point.Point.{Point}
use Rattle.mur_base.specs.declared.point.What.{What}
use Rattle.mur_base.specs.declared.point.What.TheVariants.{Reply as replied, Lost as lost, Reserved as reserved, Unreached as unreached}
use Rattle.mur_model.specs.declared.setting.Setting.{Setting}
use Rattle.mur_model.specs.Answer.{Answered}
use Rattle.mur_model.specs.History.{Course, Talk, IsRefused, Takes, numbered, carried_out, course_after, refused_out, Follows}
use Rattle.mur_model.specs.History.Follows.{a_reply, a_loss, a_refusal}
use Rattle.mark_history.specs.declared.mark.Mark.{Mark}
use Rattle.mark_history.specs.declared.mark.MarkKind.{MarkKind}
use Rattle.mark_history.specs.declared.mark.MarkKind.TheVariants.{Home, Told}
use Rattle.mark_history.specs.History.{point_as}
use Rattle.mark_history.proofs.Deeds.{IsDeed, refused_with}
use Rattle.mark_history.proofs.Deeds.IsDeed.{carries_it_out, is_refused, is_unreached}
use Rattle.mark_history.proofs.Tally.{command_of, conn_of, tells_refusal, tells_unreached, unreached_tells}

-- it carried its command out, and its client was told
pub reply_point : (setting : Setting) (talk : Talk) (course last : Course) (mark : Mark) (request : Request) (serial : ℕ) (done : Answered) (points : List Point)
    → Takes setting talk course (conn_of mark) (command_of mark) request serial → done ≡ carried_out setting course (conn_of mark) request serial
    → numbered (talk.answers (conn_of mark)) (command_of mark) ≡ Some done.answer → Follows setting talk (course_after course (conn_of mark) done) points last
    → Follows setting talk course (point_as mark replied ∷ points) last
reply_point setting talk course last mark request serial done points takes is answer later =
    a_reply course last mark.step (conn_of mark) (command_of mark) request serial points takes (answer ∙ ap (λ (a : Answered). Some a.answer) is)
    (subst (λ d. Follows setting talk (course_after course (conn_of mark) d) points last) is later)

-- its client wasn't
pub loss_point : (setting : Setting) (talk : Talk) (course last : Course) (mark : Mark) (request : Request) (serial : ℕ) (done : Answered) (points : List Point)
    → Takes setting talk course (conn_of mark) (command_of mark) request serial → done ≡ carried_out setting course (conn_of mark) request serial
    → Follows setting talk (course_after course (conn_of mark) done) points last → Follows setting talk course (point_as mark lost ∷ points) last
loss_point setting talk course last mark request serial done points takes is later =
    a_loss course last mark.step (conn_of mark) (command_of mark) request serial points takes
    (subst (λ d. Follows setting talk (course_after course (conn_of mark) d) points last) is later)

-- its command was refused
pub refusal_point : (setting : Setting) (talk : Talk) (course last : Course) (mark : Mark) (tag : Tag) (it : Command) (what : What) (why : NoText)
    (done : Answered) (points : List Point) → IsRefused setting talk course mark.step (conn_of mark) (command_of mark) tag it what why
    → done ≡ refused_out course (conn_of mark) tag it why
    → numbered (talk.answers (conn_of mark)) (command_of mark) ≡ Some done.answer → Follows setting talk (course_after course (conn_of mark) done) points last
    → Follows setting talk course (point_as mark what ∷ points) last
refusal_point setting talk course last mark tag it what why done points may is answer later =
    a_refusal course last mark.step (conn_of mark) (command_of mark) tag it what why points may (answer ∙ ap (λ (a : Answered). Some a.answer) is)
    (subst (λ d. Follows setting talk (course_after course (conn_of mark) d) points last) is later)

-- ---- by what its client was told: of the talk as far as clients were told it

abbrev pub told_talk : Talk → (ℕ → List Answer) → Talk
told_talk talk told = record { requests = talk.requests; answers = told; serials = talk.serials; moving = talk.moving }

told_takes : (setting : Setting) (talk : Talk) (told : ℕ → List Answer) (course : Course) (conn number : ℕ) (request : Request) (serial : ℕ)
    → Takes setting talk course conn number request serial → Takes setting (told_talk talk told) course conn number request serial
told_takes setting talk told course conn number request serial takes = record { asked = takes.asked; given = takes.given; free = takes.free }

pub answered_point : (setting : Setting) (talk : Talk) (told : ℕ → List Answer) (course last : Course) (mark : Mark) (done : Answered) (points : List Point)
    (next : Option MarkKind) → IsDeed setting talk course mark (tells_refusal next) done → tells_unreached mark.kind ≡ false
    → (mark.kind ≡ Home IfAnswered → tells_refusal next ≡ false) → numbered (told (conn_of mark)) (command_of mark) ≡ Some done.answer
    → Follows setting (told_talk talk told) (course_after course (conn_of mark) done) points last
    → Follows setting (told_talk talk told) course (point_as mark replied ∷ points) last
answered_point setting talk told course last mark done points next (carries_it_out request serial unrefused reached takes is) none plain answer later =
    reply_point setting (told_talk talk told) course last mark request serial done points
    (told_takes setting talk told course (conn_of mark) (command_of mark) request serial takes) is answer later
answered_point setting talk told course last mark done points next (is_refused tag it refusing kind may is) none plain answer later =
    (let both : true ≡ false = sym refusing ∙ plain kind in cc)
answered_point setting talk told course last mark done points next (is_unreached tag it node kind may is) none plain answer later =
    (let both : true ≡ false = sym (unreached_tells mark.kind node kind) ∙ none in cc)

pub lost_point : (setting : Setting) (talk : Talk) (told : ℕ → List Answer) (course last : Course) (mark : Mark) (done : Answered) (points : List Point)
    (refused : Bool) → IsDeed setting talk course mark refused done → mark.kind ≡ Home Always
    → Follows setting (told_talk talk told) (course_after course (conn_of mark) done) points last
    → Follows setting (told_talk talk told) course (point_as mark lost ∷ points) last
lost_point setting talk told course last mark done points refused (carries_it_out request serial unrefused reached takes is) always later =
    loss_point setting (told_talk talk told) course last mark request serial done points
    (told_takes setting talk told course (conn_of mark) (command_of mark) request serial takes) is later
lost_point setting talk told course last mark done points refused (is_refused tag it refusing kind may is) always later =
    (let both : Home Always ≡ Home IfAnswered = sym always ∙ kind in cc)
lost_point setting talk told course last mark done points refused (is_unreached tag it node kind may is) always later =
    (let both : Home Always ≡ Told (Unreached node) = sym always ∙ kind in cc)

pub refuses_next : (next : Option MarkKind) → next ≡ Some (Told Reserved) → tells_refusal next ≡ true
unfolding tells_refusal
refuses_next next after = ap tells_refusal after

pub refused_point : (setting : Setting) (talk : Talk) (told : ℕ → List Answer) (course last : Course) (mark : Mark) (done : Answered) (points : List Point)
    (next : Option MarkKind) → IsDeed setting talk course mark (tells_refusal next) done → mark.kind ≡ Home IfAnswered → next ≡ Some (Told Reserved)
    → numbered (told (conn_of mark)) (command_of mark) ≡ Some done.answer
    → Follows setting (told_talk talk told) (course_after course (conn_of mark) done) points last
    → Follows setting (told_talk talk told) course (point_as mark reserved ∷ points) last
refused_point setting talk told course last mark done points next (carries_it_out request serial unrefused reached takes is) only after answer later =
    (let both : false ≡ true = sym unrefused ∙ refuses_next next after in cc)
refused_point setting talk told course last mark done points next (is_refused tag it refusing kind may is) only after answer later =
    refusal_point setting (told_talk talk told) course last mark tag it reserved BeingMoved done points
    (refused_with setting talk (told_talk talk told) course mark.step (conn_of mark) (command_of mark) tag it reserved BeingMoved may.asked refl may) is answer
    later
refused_point setting talk told course last mark done points next (is_unreached tag it node kind may is) only after answer later =
    (let both : Home IfAnswered ≡ Told (Unreached node) = sym only ∙ kind in cc)

same_node : {one other : List ℕ} → Told (Unreached one) ≡ Told (Unreached other) → one ≡ other
same_node e = cc

pub unreached_point : (setting : Setting) (talk : Talk) (told : ℕ → List Answer) (course last : Course) (mark : Mark) (done : Answered) (points : List Point)
    (refused : Bool) (node : List ℕ) → IsDeed setting talk course mark refused done → mark.kind ≡ Told (Unreached node)
    → numbered (told (conn_of mark)) (command_of mark) ≡ Some done.answer
    → Follows setting (told_talk talk told) (course_after course (conn_of mark) done) points last
    → Follows setting (told_talk talk told) course (point_as mark (unreached node) ∷ points) last
unreached_point setting talk told course last mark done points refused node (carries_it_out request serial unrefused reached takes is) tells answer later =
    (let both : true ≡ false = sym (unreached_tells mark.kind node tells) ∙ reached in cc)
unreached_point setting talk told course last mark done points refused node (is_refused tag it refusing kind may is) tells answer later =
    (let both : Home IfAnswered ≡ Told (Unreached node) = sym kind ∙ tells in cc)
unreached_point setting talk told course last mark done points refused node (is_unreached tag it other kind may is) tells answer later =
    subst (λ n. Follows setting (told_talk talk told) course (point_as mark (unreached n) ∷ points) last) (same_node (sym kind ∙ tells))
    (refusal_point setting (told_talk talk told) course last mark tag it (unreached other) NotReached done points
    (refused_with setting talk (told_talk talk told) course mark.step (conn_of mark) (command_of mark) tag it (unreached other) NotReached may.asked refl may)
    is answer later)

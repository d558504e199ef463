use Rattle.mur_model.specs.Asking.{work_for}
use Rattle.mur_model.proofs.ActedLaw.{acted_at}
use Rattle.mur_model.proofs.acting.act_at.Goals as goal

pub returns : goal.returns
returns c =
    acted_at c.args.store.now c.work_at.new.store c.args.sess.now c.turned.new.sess c.args.serial c.args.name.now
    (work_for c.args.sess.now c.args.asking.op c.args.asking.awaited) c.in_ok-turn.turn c.turned.result c.in_ok-turn.ensures c.turned.ensures.session
    c.turned.ensures.reply

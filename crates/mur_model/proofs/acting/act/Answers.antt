use Rattle.mur_model.proofs.ActedLaw.{act_is, begun_has_work}
use Rattle.mur_model.proofs.acting.act.Goals as goal

pub act_by-requires : goal.act_by-requires
act_by-requires c = begun_has_work c.args.with.now c.args.sess.now c.args.command c.in_ok-begun.begun c.in_ok-begun.ensures

pub returns : goal.returns
returns c =
    act_is c.args.with.now c.args.store.now c.act_by.new.store c.args.sess.now c.act_by.new.sess c.args.command c.args.serial c.in_ok-begun.begun c.act_by.result
    c.in_ok-begun.ensures c.act_by.ensures

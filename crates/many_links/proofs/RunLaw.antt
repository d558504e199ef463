-- It holds after any events.
use Rattle.std.proofs.Common.{◌++◌, subst}
use Rattle.mur_model.specs.declared.store.Store.{Store}
use Rattle.name_links.specs.Serials.{Given}
use Rattle.back_links.specs.MasterEvents.{given_in}
use Rattle.master_core.specs.Linked.{node_says}
use Rattle.many_links.specs.Murder.{Murder, master_takes}
use Rattle.many_links.specs.ManyHold.{ManyHold}
use Rattle.many_links.specs.Runs.{Event, hears, asks, serves, takes, listens, is_up, connects, says, ends, lets_out, passes, begins, goes_on, RunsHold}
use Rattle.many_links.proofs.BegunLaw.{many_begin}
use Rattle.many_links.proofs.FrontLaw.{outs_keep_many, passing_keeps_many}
use Rattle.many_links.proofs.HomeLaw.{asks_keep_many, hears_keeps_many, serves_keeps_many}
use Rattle.many_links.proofs.MasterLaw.{clients_keep_many, frontends_keep_many, ups_keep_many}
use Rattle.many_links.proofs.OneOfThree.{exactly_one}
use Rattle.many_links.proofs.TakesLaw.{takes_keeps_many}

event_keeps : (murder then : Murder) (given then_given : Given) (store later : Store) → ManyHold murder given store
    → Event murder given store then then_given later → ManyHold then then_given later
event_keeps murder _ given _ store _ hold (hears name node message rest there first) =
    hears_keeps_many murder given store name node message rest hold there first
event_keeps murder _ given _ store _ hold (asks name node from message there ne fits closed) =
    asks_keep_many murder given store name node from message hold there ne fits closed
event_keeps murder _ given _ store _ hold (serves name node from ask later there ne serving is) =
    serves_keeps_many murder given store later name node from ask hold there ne serving is
event_keeps murder _ given _ store _ hold (takes name node message rest later there first does) =
    let one = takes_keeps_many murder given store name node message rest hold there first in
    subst (λ (s : Store). ManyHold (master_takes murder name message) (given ++ given_in murder.master.table name message) s)
    (exactly_one message (node_says murder.master name message).outs (given_in murder.master.table name message) store one.later later one.does does) one.hold
event_keeps murder _ given _ store _ hold (listens front message none) = frontends_keep_many murder given store front message hold none
event_keeps murder _ given _ store _ hold (is_up other) = ups_keep_many murder given store other hold
event_keeps murder _ given _ store _ hold (connects conn) = (clients_keep_many murder given store hold).connects conn
event_keeps murder _ given _ store _ hold (says conn bytes) = (clients_keep_many murder given store hold).says conn bytes
event_keeps murder _ given _ store _ hold (ends conn) = (clients_keep_many murder given store hold).ends conn
event_keeps murder _ given _ store _ hold (lets_out front outs is) = outs_keep_many murder given store front outs hold is
event_keeps murder _ given _ store _ hold (passes from to is) = passing_keeps_many murder given store from to hold is

pub runs_hold : RunsHold
runs_hold me backends murder _ _ (begins _ is) = many_begin murder me backends is
runs_hold me backends _ _ _ (goes_on murder then given then_given store later run event) =
    event_keeps murder then given then_given store later (runs_hold me backends murder given store run) event

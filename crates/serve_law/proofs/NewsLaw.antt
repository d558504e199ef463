-- What a NOOP, a CHECK or an IDLE looks for at the home of its mailbox is what the store tells it.
use Rattle.std.proofs.Common.{ℕ, List, Some, refl}
use Rattle.backend_core.specs.declared.backend.Backend.{Backend}
use Rattle.node_record.specs.declared.held.Held.{Held}
use Rattle.backend_core.specs.Look.{look_step}
use Rattle.mur_model.specs.declared.work.NewsFor.{NewsFor}
use Rattle.mur_model.specs.declared.work.ViewWork.TheVariants.{News}
use Rattle.mur_model.specs.declared.store.Store.{Store}
use Rattle.mur_model.specs.declared.view.View.{View}
use Rattle.mur_model.specs.Noop.{news_told}
use Rattle.mur_model.specs.Selected.{rows_of}
use Rattle.mur_model.specs.Viewing.{work_there}
use Rattle.session_core.specs.Viewed.{viewed_done}
use Rattle.serve_law.proofs.HomeStore.{IsAtHome}
use Rattle.serve_law.proofs.ViewedAlike.{LooksAlike, looks_alike, ViewsAlike}

news_look : (view : View) (why : NewsFor) → LooksAlike view (News why)
unfolding work_there viewed_done
news_look view why box = (news_told view why (rows_of box), refl, refl)

pub news_views : (store : Store) (home : Backend) (name : List ℕ) (view : View) (why : NewsFor) (held : Held)
    → IsAtHome store home name held → ViewsAlike store home name view (News why) (Some held) (look_step home (Some view.serial) (Some held))
news_views store home name view why held at = looks_alike store home name view (News why) held (news_look view why) at

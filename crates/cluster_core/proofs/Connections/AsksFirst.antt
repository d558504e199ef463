-- Whom a frontend asks first for a command: a backend, by the record of the name or by that of the nearest name above; or the master.
use Rattle.std.proofs.Common.{◌≡◌, ◌≢◌, ℕ, false, List, [], Option, None, Some, refl, ap}
use Rattle.std.specs.Option.{IsSome}
use Rattle.ask_routes.specs.Ways.{ask_for, first_step, mailbox_first}
use Rattle.ask_routes.specs.declared.next.Why.{Why}
use Rattle.ask_routes.specs.declared.next.Why.TheVariants as why
use Rattle.asking_core.specs.Begins.{Begun, asks_master, asks_server, first_by, first_sent}
use Rattle.asking_core.specs.declared.waiting.Waiting.{Waiting}
use Rattle.feed_core.specs.Above.{IsNearestAbove, rec_by}
use Rattle.feed_core.specs.Feed.{Recs, rec_at}
use Rattle.feed_core.specs.Routes.{above_at, home_by, home_for, server_at, server_by, server_in}
use Rattle.feed_core.specs.declared.rec.Rec.{Rec}
use Rattle.feed_core.proofs.RoutesLaw.{found_nearest}
use Rattle.front_core.specs.Ups.{Ups, is_up}
use Rattle.imap_types.specs.declared.op.Op.{Op}
use Rattle.imap_types.specs.declared.op.Op.TheVariants as op
use Rattle.link_queue.specs.Broken.{Broken}
use Rattle.many_links.specs.Murder.{Nodes}
use Rattle.mur_base.specs.Names.{mail_name_fault}
use Rattle.mur_base.specs.declared.name.NameFault.{NameFault}
use Rattle.mur_base.specs.declared.point.AskId.{AskId}
use Rattle.mur_model.specs.declared.session.Sess.{Sess}
use Rattle.cluster_core.proofs.Connections.KeepsLaw.{NamesBackends}

-- ---- the server of the nearest name above, or the first one, is a backend

in_text : (recs : Recs) (text : List ℕ) (it : Rec) (fault : Option NameFault) → rec_by recs text fault ≡ Some it → rec_at recs text ≡ Some it
in_text recs text it None e = e
in_text recs text it (Some fault) e = cc

home_of_nearest : (P : List ℕ → Type 0) (recs : Recs) (first name : List ℕ) (found : Option Rec)
    → ((name server : List ℕ) → server_at recs name ≡ Some server → P server) → P first → IsNearestAbove recs name found → P (home_by first found)
home_of_nearest P recs first name None known there near = there
home_of_nearest P recs first name (Some it) known there near =
    known near.above (server_in it) (ap server_by (in_text recs near.above it (mail_name_fault near.above) near.has))

-- what holds of the servers of the records and of the first backend holds of the server at which a new mailbox is made
pub home_is_so : (P : List ℕ → Type 0) (recs : Recs) (first name : List ℕ) → ((name server : List ℕ) → server_at recs name ≡ Some server → P server)
    → P first → P (home_for recs first name)
home_is_so P recs first name known there = home_of_nearest P recs first name (above_at recs name) known there (found_nearest recs name)

-- that is a backend
pub home_is_backend : (nodes : Nodes) (recs : Recs) (first name : List ℕ) → NamesBackends nodes recs → IsSome (nodes first)
    → IsSome (nodes (home_for recs first name))
home_is_backend nodes recs first name known there = home_is_so (λ server. IsSome (nodes server)) recs first name known there

-- ---- what is sent first

-- a backend is asked, or the master
pub data FirstWay (nodes : Nodes) (master : List ℕ) (id : AskId) (session : Sess) (it : Waiting) : Begun → Type 0 where
  by_server : (server : List ℕ) → IsSome (nodes server) → FirstWay nodes master id session it (asks_server id session it server)
  by_master : (cause : Why) → FirstWay nodes master id session it (asks_master master id it cause)

-- the link to the master or to a backend isn't up only once a link has broken
pub record Reaches (master : List ℕ) (nodes : Nodes) (broken : Broken) (ups : Ups) : Type 0 where
  pub master_cut : is_up ups master ≡ false → broken ≢ []
  pub cut : (server : List ℕ) → is_up ups server ≡ false → IsSome (nodes server) → broken ≢ []

-- what is asked stays what it was
pub way_asking : (nodes : Nodes) (master : List ℕ) (id : AskId) (session : Sess) (it : Waiting) (begun : Begun) → FirstWay nodes master id session it begun
    → begun.waiting.asking ≡ it.asking
way_asking nodes master id session it begun (by_server server there) = refl
way_asking nodes master id session it begun (by_master cause) = refl

-- where the link to whom it is sent isn't up, one has broken
way_cut : (nodes : Nodes) (master : List ℕ) (id : AskId) (session : Sess) (it : Waiting) (begun : Begun) (broken : Broken) (ups : Ups)
    → Reaches master nodes broken ups → FirstWay nodes master id session it begun → is_up ups begun.sent.to ≡ false → broken ≢ []
way_cut nodes master id session it begun broken ups reaches (by_server server there) down = reaches.cut server down there
way_cut nodes master id session it begun broken ups reaches (by_master cause) down = reaches.master_cut down

module _ (nodes : Nodes) (recs : Recs) (master first : List ℕ) (id : AskId) (session : Sess) (it : Waiting) where
  mailbox_way : (name : List ℕ) (server : Option (List ℕ)) → server_at recs name ≡ server → NamesBackends nodes recs
      → FirstWay nodes master id session it (first_by master id session it (mailbox_first server))
  mailbox_way name None e known = by_master why.Missing
  mailbox_way name (Some server) e known = by_server server (known name server e)

  way_of : (name : List ℕ) (asks : Op) → NamesBackends nodes recs → IsSome (nodes first)
      → FirstWay nodes master id session it (first_by master id session it (first_step recs first (ask_for name asks)))
  way_of name op.Create known there = by_server (home_for recs first name) (home_is_backend nodes recs first name known there)
  way_of name op.Look known there = mailbox_way name (server_at recs name) refl known
  way_of name (op.Read uids sees) known there = mailbox_way name (server_at recs name) refl known
  way_of name (op.Summaries uids) known there = mailbox_way name (server_at recs name) refl known
  way_of name (op.Flags uids mode flags) known there = mailbox_way name (server_at recs name) refl known
  way_of name (op.Expunge only) known there = mailbox_way name (server_at recs name) refl known
  way_of name (op.Append messages) known there = mailbox_way name (server_at recs name) refl known
  way_of name op.Delete known there = mailbox_way name (server_at recs name) refl known
  way_of name (op.Xfer server partition) known there = mailbox_way name (server_at recs name) refl known

  pub first_way : NamesBackends nodes recs → IsSome (nodes first) → FirstWay nodes master id session it (first_sent recs master first id session it)
  unfolding first_sent
  first_way known there = way_of it.name it.asking.op known there

  pub first_cut : (broken : Broken) (ups : Ups) → Reaches master nodes broken ups → NamesBackends nodes recs → IsSome (nodes first)
      → is_up ups (first_sent recs master first id session it).sent.to ≡ false → broken ≢ []
  first_cut broken ups reaches known there down =
      way_cut nodes master id session it (first_sent recs master first id session it) broken ups reaches (first_way known there) down

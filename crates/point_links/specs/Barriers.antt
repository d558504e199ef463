-- The point of a command that waits for the master's OK: the step in which the master takes its NOOP. What the frontend makes of the OK is decided by the
-- table of that step, which its replica is then (route_links, `a_barrier_decides_by_the_table`).
use Rattle.std.specs.Prelude.{◌≡◌, ◌≢◌, ℕ, nat_eq, true, false, List, [], ◌∷◌, None}
use Rattle.std.specs.List.{list_any}
use Rattle.std.specs.Cmp.Lexicographic.{pointwise}
use Rattle.asking_core.specs.Answered.{WentOn, sends}
use Rattle.asking_core.specs.Begins.{asks_server}
use Rattle.asking_core.specs.Cleared.{cleared}
use Rattle.ask_routes.specs.declared.next.Why.{Why}
use Rattle.ask_routes.specs.declared.next.Why.TheVariants as why
use Rattle.feed_links.specs.Replicas.{replica_of}
use Rattle.imap_types.specs.declared.reply.NoText.TheVariants.{BeingMoved}
use Rattle.link_msg.specs.declared.counts.Counts.TheVariants.{IfAnswered}
use Rattle.link_msg.specs.declared.out.Out.TheVariants.{Link, Mark}
use Rattle.master_core.specs.Linked.{node_says}
use Rattle.master_core.specs.Refusals.{is_reserved}
use Rattle.mur_base.specs.declared.point.AskId.{AskId}
use Rattle.mur_model.specs.declared.store.Store.{Store}
use Rattle.mur_model.specs.Act.{need_of}
use Rattle.mur_model.specs.Needed.{Make}
use Rattle.mur_model.specs.Relocation.{refused_for}
use Rattle.mur_model.specs.Store.{box_at}
use Rattle.name_links.specs.Serials.{Given}
use Rattle.node_record.specs.Table.{MailboxTable, record_at}
use Rattle.route_links.specs.Answered.{IsNumbered, noop_of, ok_of}
use Rattle.many_links.specs.Murder.{Murder, master_takes}
use Rattle.many_links.specs.ManyHold.{ManyHold}
use Rattle.point_links.specs.Carried.{CarriesOut, turn_at}
use Rattle.point_links.specs.Commands.{ClientCommand, WaitsOn, refused_turn, told_turn}

-- a frontend's NOOP for a command comes to the master
pub record NoopComes (murder : Murder) (given : Given) (store : Store) (front : List ℕ) (id : AskId) : Type 0 where
  pub holds : ManyHold murder given store
  pub its_front : list_any (pointwise nat_eq front) murder.master.backends ≡ false
  pub numbered : IsNumbered id

-- and is taken: the OK is sent, the step counts where the client is answered, and the store does nothing
pub record NoopTaken (murder : Murder) (given : Given) (store : Store) (front : List ℕ) (id : AskId) : Type 0 where
  pub step : node_says murder.master front (noop_of id) ≡ record { master = murder.master; outs = Link front (ok_of id) ∷ Mark id IfAnswered ∷ [] }
  pub then_holds : ManyHold (master_takes murder front (noop_of id)) given store

-- what comes of the command at the OK, for the reason for which the NOOP was sent, by this table
abbrev pub decided : MailboxTable → List ℕ → List ℕ → ClientCommand → Why → WentOn
decided table master first c cause = cleared (replica_of table).records master first c.id c.was c.waiting cause

-- the mailbox is missing: there is no record of the name, and the store, which has no box of it, refuses the command so
pub record IsMissing (murder : Murder) (given : Given) (store : Store) (front master first : List ℕ) (c : ClientCommand) (cause : Why) : Type 0 where
  pub taken : NoopTaken murder given store front c.id
  pub none : record_at murder.master.table c.name ≡ None
  pub no_box : box_at store c.name ≡ None
  pub carries : (serial : ℕ) → CarriesOut store store c.name c.work serial IfAnswered
  pub told : (serial : ℕ) → decided murder.master.table master first c cause ≡ told_turn c (turn_at store c.name c.work serial)

-- the name is reserved, and a home couldn't serve it: the command is refused as a history has it, and the store does nothing
pub record IsReserved (murder : Murder) (given : Given) (store : Store) (front master first : List ℕ) (c : ClientCommand) (cause : Why) : Type 0 where
  pub taken : NoopTaken murder given store front c.id
  pub reserved : is_reserved (record_at murder.master.table c.name) ≡ true
  pub told : decided murder.master.table master first c cause ≡ refused_turn c (refused_for c.was c.it BeingMoved)

-- a server is asked, so this isn't its point
pub record IsAskedOn (murder : Murder) (given : Given) (store : Store) (front master first : List ℕ) (c : ClientCommand) (cause : Why) : Type 0 where
  pub taken : NoopTaken murder given store front c.id
  pub server : List ℕ
  pub told : decided murder.master.table master first c cause ≡ sends c.was (asks_server c.id c.was c.waiting server)
  pub waits : WaitsOn master c (decided murder.master.table master first c cause)

-- ---- laws

abbrev pub MissingIsAPoint : Type 0
MissingIsAPoint = (murder : Murder) (given : Given) (store : Store) (front master first : List ℕ) (c : ClientCommand) (cause : Why)
    → NoopComes murder given store front c.id → c.work ≢ Make → record_at murder.master.table c.name ≡ None
    → IsMissing murder given store front master first c cause

abbrev pub ReservedIsAPoint : Type 0
ReservedIsAPoint = (murder : Murder) (given : Given) (store : Store) (front master first : List ℕ) (c : ClientCommand)
    → NoopComes murder given store front c.id → is_reserved (record_at murder.master.table c.name) ≡ true
    → IsReserved murder given store front master first c why.NotNow

-- it is always one of these, and which one the table tells
pub data BarrierIs (murder : Murder) (given : Given) (store : Store) (front master first : List ℕ) (c : ClientCommand) (cause : Why) : Type 0 where
  is_missing : c.work ≢ Make → IsMissing murder given store front master first c cause → BarrierIs murder given store front master first c cause
  is_refused : cause ≡ why.NotNow → IsReserved murder given store front master first c cause → BarrierIs murder given store front master first c cause
  is_asked : IsAskedOn murder given store front master first c cause → BarrierIs murder given store front master first c cause

abbrev pub EachBarrier : Type 0
EachBarrier = (murder : Murder) (given : Given) (store : Store) (front master first : List ℕ) (c : ClientCommand) (cause : Why)
    → NoopComes murder given store front c.id → BarrierIs murder given store front master first c cause

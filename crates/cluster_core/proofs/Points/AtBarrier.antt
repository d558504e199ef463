-- The master takes the NOOP of a command that waits for its OK: where the mailbox is missing this is the command's point, and else the step only sees it. The
-- OK will tell it by the table of this step, for whatever reason the NOOP was sent.
use Rattle.std.proofs.Common.{◌≡◌, ◌≢◌, ◌⊎◌, inl, inr, ℕ, List, [], ◌∷◌, ◌++◌, Option, None, Some, refl, sym, ◌∙◌}
use Rattle.ask_routes.specs.declared.next.Why.{Why}
use Rattle.ask_routes.specs.declared.next.Why.TheVariants as why
use Rattle.asking_core.specs.declared.waiting.At.{At}
use Rattle.imap_types.specs.declared.command.Tag.{Tag}
use Rattle.link_msg.specs.declared.counts.Counts.TheVariants.{IfAnswered}
use Rattle.link_msg.specs.declared.out.Out.TheVariants.{Link, Mark as mark}
use Rattle.link_queue.specs.Broken.{Broken}
use Rattle.many_links.specs.Murder.{Murder, master_takes}
use Rattle.many_links.specs.ManyHold.{ManyHold}
use Rattle.mark_history.specs.Marked.{Tale, last_mark}
use Rattle.mark_history.specs.declared.mark.Mark.{Mark}
use Rattle.master_core.specs.Linked.{node_says}
use Rattle.mur_model.specs.declared.store.Store.{Store}
use Rattle.mur_model.specs.Needed.{Make}
use Rattle.name_links.specs.Serials.{Given}
use Rattle.node_record.specs.declared.table.Record.{Record}
use Rattle.node_record.specs.Table.{MailboxTable, record_at}
use Rattle.point_links.specs.Barriers.{BarrierIs, IsMissing, NoopComes, NoopTaken, decided, is_asked, is_missing, is_refused}
use Rattle.point_links.specs.Commands.{ClientCommand}
use Rattle.point_links.proofs.BarrierLaw.{each_barrier, missing_is_a_point}
use Rattle.point_links.proofs.Works.{is_make}
use Rattle.route_links.specs.Answered.{noop_of, ok_of}
use Rattle.route_links.specs.Barriers.{Place as barrier}
use Rattle.cluster_core.proofs.Commands.Knows.{GoesOnAtOk, waiting_at}
use Rattle.cluster_core.proofs.Commands.Knows.GoesOnAtOk.{asks_on, is_refused as is_refused_at}
use Rattle.cluster_core.proofs.Commands.Place.{Place, Place as place}
use Rattle.cluster_core.proofs.Commands.Standing.{Fixed}
use Rattle.cluster_core.proofs.Connections.Tales.{own_marked}
use Rattle.cluster_core.proofs.Points.Acts.{IsCarriedOut, IsOpen, IsSeen, carried_so, home_mark, seen_so}

-- the master's OK is on its way, by this table
abbrev pub cleared_at : MailboxTable → Place
cleared_at table = place.is_barred (barrier.answered table)

-- it is carried out, and the store does nothing; or it is only seen
pub data IsDecidedSo (fixed : Fixed) (front : List ℕ) (conn : ℕ) (broken : Broken) (now : ℕ) (marks : List Mark) (story : Tale) (tag : Tag) (c : ClientCommand)
    (table : MailboxTable) : Type 0 where
  is_point : IsCarriedOut fixed front conn broken now marks story tag c story.course.store IfAnswered (cleared_at table)
      → IsDecidedSo fixed front conn broken now marks story tag c table
  is_seen : IsSeen fixed front conn broken now marks story tag c (cleared_at table) → IsDecidedSo fixed front conn broken now marks story tag c table

pub record ClearsIt (fixed : Fixed) (front : List ℕ) (conn : ℕ) (broken : Broken) (now : ℕ) (marks : List Mark) (story : Tale) (tag : Tag) (c : ClientCommand)
    (murder : Murder) (given : Given) : Type 0 where
  pub step : node_says murder.master front (noop_of c.id)
      ≡ record { master = murder.master; outs = Link front (ok_of c.id) ∷ mark c.id IfAnswered ∷ [] }
  pub then_holds : ManyHold (master_takes murder front (noop_of c.id)) given story.course.store
  pub decides : IsDecidedSo fixed front conn broken now marks story tag c murder.master.table
  pub marked : last_mark c.id (marks ++ home_mark now c.id IfAnswered ∷ []) ≡ Some (home_mark now c.id IfAnswered)

abbrev pub NoopClears : Type 0
NoopClears = (fixed : Fixed) (front : List ℕ) (conn : ℕ) (broken : Broken) (now : ℕ) (marks : List Mark) (story : Tale) (tag : Tag) (c : ClientCommand)
    (murder : Murder) (given : Given) → IsOpen fixed conn broken now marks story tag c → NoopComes murder given story.course.store front c.id
    → ClearsIt fixed front conn broken now marks story tag c murder given

-- ---- which

module _ (fixed : Fixed) (front : List ℕ) (conn : ℕ) (broken : Broken) (now : ℕ) (marks : List Mark) (story : Tale) (tag : Tag) (c : ClientCommand) (murder : Murder) (given : Given)
    (is_open : IsOpen fixed conn broken now marks story tag c) (comes : NoopComes murder given story.course.store front c.id) where
  abbrev table : MailboxTable
  table = murder.master.table

  abbrev store : Store
  store = story.course.store

  missing_at : c.work ≢ Make → record_at table c.name ≡ None → (at : At) (cause : Why)
      → IsMissing murder given store front fixed.master fixed.first (waiting_at c at) cause
  missing_at ne none at cause = missing_is_a_point murder given store front fixed.master fixed.first (waiting_at c at) cause comes ne none

  -- the mailbox is missing
  is_its_point : c.work ≢ Make → record_at table c.name ≡ None
      → IsCarriedOut fixed front conn broken now marks story tag c store IfAnswered (cleared_at table)
  is_its_point ne none =
      carried_so fixed front conn broken now marks story tag c is_open 0 store IfAnswered (cleared_at table)
      ((missing_is_a_point murder given store front fixed.master fixed.first c why.Missing comes ne none).carries 0)
      (λ at cause. (missing_at ne none at cause).told 0)

  -- it isn't
  goes_on_by : (at : At) (cause : Why) → (c.work ≢ Make → record_at table c.name ≡ None → ⊥)
      → BarrierIs murder given store front fixed.master fixed.first (waiting_at c at) cause
      → GoesOnAtOk table fixed.master (waiting_at c at) (decided table fixed.master fixed.first (waiting_at c at) cause)
  goes_on_by at cause there (is_missing ne it) = absurd (there ne it.none)
  goes_on_by at cause there (is_refused why_so it) = is_refused_at it.told it.reserved
  goes_on_by at cause there (is_asked it) = asks_on it.waits

  is_only_seen : (c.work ≢ Make → record_at table c.name ≡ None → ⊥) → IsSeen fixed front conn broken now marks story tag c (cleared_at table)
  is_only_seen there =
      seen_so fixed front conn broken now marks story tag c is_open (cleared_at table)
      (λ at cause. goes_on_by at cause there (each_barrier murder given store front fixed.master fixed.first (waiting_at c at) cause comes))

  decides_by : (c.work ≡ Make) ⊎ (c.work ≢ Make) → (found : Option Record) → record_at table c.name ≡ found
      → IsDecidedSo fixed front conn broken now marks story tag c table
  decides_by (inl makes) found is = is_seen (is_only_seen (λ ne none. ne makes))
  decides_by (inr ne) None is = is_point (is_its_point ne is)
  decides_by (inr ne) (Some it) is = is_seen (is_only_seen (λ _ none. (let no : Some it ≡ None = sym is ∙ none in cc)))

  taken_by : (cause : Why) → BarrierIs murder given store front fixed.master fixed.first c cause → NoopTaken murder given store front c.id
  taken_by cause (is_missing ne it) = it.taken
  taken_by cause (is_refused why_so it) = it.taken
  taken_by cause (is_asked it) = it.taken

  clears : ClearsIt fixed front conn broken now marks story tag c murder given
  clears =
      let taken = taken_by why.Missing (each_barrier murder given store front fixed.master fixed.first c why.Missing comes) in
      record {
        step = taken.step;
        then_holds = taken.then_holds;
        decides = decides_by (is_make c.work) (record_at table c.name) refl;
        marked = own_marked c.id marks (home_mark now c.id IfAnswered) refl;
      }

pub noop_clears : NoopClears
noop_clears fixed front conn broken now marks story tag c murder given is_open comes = clears fixed front conn broken now marks story tag c murder given is_open comes

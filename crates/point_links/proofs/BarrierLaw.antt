-- The master takes a command's NOOP, and by the table of this step the frontend decides at the OK.
use Rattle.std.proofs.Common.{◌≡◌, ◌≢◌, ◌⊎◌, inl, inr, ℕ, true, List, Option, None, Some, refl, sym, ◌∙◌, ap, subst}
use Rattle.std.specs.Prelude.{not}
use Rattle.asking_core.specs.Answered.{WentOn, goes_on}
use Rattle.asking_core.specs.Cleared.{cleared}
use Rattle.ask_routes.specs.declared.ask_for.AskFor.{AskFor}
use Rattle.ask_routes.specs.declared.ask_for.AskFor.TheVariants as about
use Rattle.ask_routes.specs.declared.next.Next.{Next}
use Rattle.ask_routes.specs.declared.next.Next.TheVariants as next
use Rattle.ask_routes.specs.declared.next.Why.{Why}
use Rattle.ask_routes.specs.declared.next.Why.TheVariants as why
use Rattle.ask_routes.specs.Ways.{ask_for, behind_reserved}
use Rattle.feed_core.specs.Routes.{home_for}
use Rattle.feed_links.specs.Replicas.{recs_of}
use Rattle.imap_types.specs.declared.reply.NoText.TheVariants.{BeingMoved}
use Rattle.mail_message.specs.Boxes.{Content}
use Rattle.master_core.specs.Refusals.{is_active_state, is_reserved}
use Rattle.mur_model.specs.declared.need.Asking.{Asking}
use Rattle.mur_model.specs.declared.store.Store.{Store}
use Rattle.mur_model.specs.Act.{work_on, worked_at}
use Rattle.mur_model.specs.Asking.{asked_for}
use Rattle.mur_model.specs.Left.{store_after}
use Rattle.mur_model.specs.Needed.{Mailbox, Work, Make}
use Rattle.mur_model.specs.Relocation.{refused_for}
use Rattle.mur_model.specs.Store.{box_at, is_full}
use Rattle.mur_model.proofs.OwnView.{IsOfNeeded, IsOfWork, work_own}
use Rattle.name_links.specs.Serials.{Given}
use Rattle.node_record.specs.declared.table.Record.{Record}
use Rattle.node_record.specs.declared.table.State.{State}
use Rattle.node_record.specs.declared.table.State.TheVariants.{Bare, Kept, Active}
use Rattle.node_record.specs.Table.{MailboxTable, is_mailbox_if, record_at}
use Rattle.route_links.specs.Answered.{noop_of}
use Rattle.route_links.specs.Decided.{by_state, by_table, create_by, mailbox_by}
use Rattle.route_links.proofs.AnsweredLaw.{noop_is_answered}
use Rattle.route_links.proofs.DecidedLaw.{by_its_table}
use Rattle.store_links.proofs.OpenLaw.{none_is_missing}
use Rattle.many_links.specs.Murder.{Murder, homes_of}
use Rattle.many_links.proofs.MasterLaw.{frontends_keep_many}
use Rattle.point_links.specs.Barriers.{NoopComes, NoopTaken, decided, IsMissing, IsReserved, MissingIsAPoint, ReservedIsAPoint, BarrierIs}
use Rattle.point_links.specs.Barriers.{is_missing, is_refused, is_asked, EachBarrier}
use Rattle.point_links.specs.Carried.{turn_at}
use Rattle.point_links.specs.Commands.{ClientCommand, WaitsOn, refused_turn}
use Rattle.point_links.proofs.Told.{refused_so, server_waits, told_so}
use Rattle.point_links.proofs.Works.{about_mailbox, is_make, may_work}
use Rattle.serve_law.proofs.MissingAlike.{IsMissed, misses}
use Rattle.session_core.specs.declared.result.OpResult.TheVariants.{Missing}

make_about : (name : List ℕ) (work : Work) → work ≡ Make → ask_for name (asked_for name work).op ≡ about.Create name
unfolding asked_for
make_about name work e = rw e refl

-- the refusal of a name that is reserved, where a home couldn't serve it

state_refused : (server : List ℕ) (z : State) → not (is_active_state z) ≡ true → by_state why.NotNow server z ≡ next.Refused
state_refused server (Bare serial) e = refl
state_refused server (Kept acl) e = refl
state_refused server (Active acl) e = cc

mailbox_refused : (found : Option Record) → is_reserved found ≡ true → mailbox_by why.NotNow found ≡ next.Refused
mailbox_refused None e = cc
mailbox_refused (Some it) e = state_refused (it.place).server it.state e

create_refused : (table : MailboxTable) (first name : List ℕ) (found : Option Record) → is_reserved found ≡ true
    → create_by table first name why.NotNow found ≡ next.Refused
create_refused table first name None e = cc
create_refused table first name (Some it) e = state_refused (it.place).server it.state e

module _ (murder : Murder) (given : Given) (store : Store) (front master first : List ℕ) (c : ClientCommand)
    (comes : NoopComes murder given store front c.id) where
  abbrev table : MailboxTable
  table = murder.master.table

  abbrev found_at : Option Record
  found_at = record_at murder.master.table c.name

  taken : NoopTaken murder given store front c.id
  taken = record {
    step = noop_is_answered murder.master front c.id comes.numbered;
    then_holds = frontends_keep_many murder given store front (noop_of c.id) comes.holds comes.its_front;
  }

  -- ---- what is decided

  by_about : (cause : Why) (what : AskFor) → ask_for c.name (asked_for c.name c.work).op ≡ what
      → decided table master first c cause ≡ goes_on master c.id c.was c.waiting (by_table table first what cause)
  unfolding cleared
  by_about cause what is =
      ap (goes_on master c.id c.was c.waiting) (by_its_table table first (ask_for c.waiting.name c.waiting.asking.op) cause)
      ∙ ap (λ (n : List ℕ). goes_on master c.id c.was c.waiting (by_table table first (ask_for n c.waiting.asking.op) cause)) c.name_is
      ∙ ap (λ (a : Asking). goes_on master c.id c.was c.waiting (by_table table first (ask_for c.name a.op) cause)) c.asking_is
      ∙ ap (λ (w : AskFor). goes_on master c.id c.was c.waiting (by_table table first w cause)) is

  -- about a mailbox that is there
  by_mailbox : (cause : Why) → c.work ≢ Make → decided table master first c cause ≡ goes_on master c.id c.was c.waiting (mailbox_by cause found_at)
  by_mailbox cause ne = by_about cause (about.Mailbox c.name) (about_mailbox c.name c.work ne)

  -- about one that is to be made
  by_create : (cause : Why) → c.work ≡ Make
      → decided table master first c cause ≡ goes_on master c.id c.was c.waiting (create_by table first c.name cause found_at)
  by_create cause is = by_about cause (about.Create c.name) (make_about c.name c.work is)

  -- ---- missing

  its_own : IsOfWork c.was c.work
  unfolding IsOfNeeded
  its_own = work_own c.setting c.was c.it (Mailbox c.name c.work) c.need

  missed : c.work ≢ Make → box_at store c.name ≡ None → (serial : ℕ)
      → IsMissed c.name c.work (worked_at store c.name c.work serial)
  missed ne none serial =
      subst (λ (b : Option Content). IsMissed c.name c.work (work_on c.name c.work serial (is_full store) b)) (sym none)
      (misses c.name c.work serial (is_full store) ne)

  missing : (cause : Why) → c.work ≢ Make → found_at ≡ None → IsMissing murder given store front master first c cause
  unfolding store_after
  missing cause ne none =
      let no_box : box_at store c.name ≡ None =
      none_is_missing table (homes_of murder.nodes) store c.name comes.holds.shows (ap is_mailbox_if none) in
      record {
        taken = taken;
        none = none;
        no_box = no_box;
        carries = λ serial. record {
          free = may_work store c.name serial c.work ne;
          later_is = ap (store_after store c.name) (sym (missed ne no_box serial).stays);
          stays = λ _. (missed ne no_box serial).stays;
        };
        told = λ serial. by_mailbox cause ne ∙ ap (λ (f : Option Record). goes_on master c.id c.was c.waiting (mailbox_by cause f)) none
            ∙ told_so c Missing (turn_at store c.name c.work serial) ((missed ne no_box serial).shown c.was its_own);
      }

  -- ---- reserved

  reserved_by : (found : Next) → decided table master first c why.NotNow ≡ goes_on master c.id c.was c.waiting found → found ≡ next.Refused
      → decided table master first c why.NotNow ≡ refused_turn c (refused_for c.was c.it BeingMoved)
  reserved_by found decides e = decides ∙ ap (goes_on master c.id c.was c.waiting) e ∙ refused_so c

  reserved_told : is_reserved found_at ≡ true → (c.work ≡ Make) ⊎ (c.work ≢ Make)
      → decided table master first c why.NotNow ≡ refused_turn c (refused_for c.was c.it BeingMoved)
  reserved_told is (inl make) =
      reserved_by (create_by table first c.name why.NotNow found_at) (by_create why.NotNow make) (create_refused table first c.name found_at is)
  reserved_told is (inr ne) = reserved_by (mailbox_by why.NotNow found_at) (by_mailbox why.NotNow ne) (mailbox_refused found_at is)

  reserved : is_reserved found_at ≡ true → IsReserved murder given store front master first c why.NotNow
  reserved is = record {
    taken = taken;
    reserved = is;
    told = reserved_told is (is_make c.work);
  }

  -- ---- each

  asked : (cause : Why) (server : List ℕ) → decided table master first c cause ≡ goes_on master c.id c.was c.waiting (next.Ask server)
      → BarrierIs murder given store front master first c cause
  asked cause server e = is_asked (record {
    taken = taken;
    server = server;
    told = e;
    waits = subst (λ (n : WentOn). WaitsOn master c n) (sym e) (server_waits c master server);
  })

  by_reserved : (cause : Why) (server : List ℕ) → is_reserved found_at ≡ true
      → decided table master first c cause ≡ goes_on master c.id c.was c.waiting (behind_reserved server cause)
      → BarrierIs murder given store front master first c cause
  by_reserved why.NotNow server is e = is_refused refl (reserved is)
  by_reserved why.Missing server is e = asked why.Missing server e

  by_the_state : (cause : Why) (server : List ℕ) (z : State) → not (is_active_state z) ≡ is_reserved found_at
      → decided table master first c cause ≡ goes_on master c.id c.was c.waiting (by_state cause server z)
      → BarrierIs murder given store front master first c cause
  by_the_state cause server (Bare serial) is e = by_reserved cause server (sym is) e
  by_the_state cause server (Kept acl) is e = by_reserved cause server (sym is) e
  by_the_state cause server (Active acl) is e = asked cause server e

  by_found : (cause : Why) → (c.work ≡ Make) ⊎ (c.work ≢ Make) → (found : Option Record) → found_at ≡ found
      → BarrierIs murder given store front master first c cause
  by_found cause (inl make) None is =
      asked cause (home_for (recs_of table) first c.name)
      (by_create cause make ∙ ap (λ (f : Option Record). goes_on master c.id c.was c.waiting (create_by table first c.name cause f)) is)
  by_found cause (inr ne) None is = is_missing ne (missing cause ne is)
  by_found cause (inl make) (Some it) is =
      by_the_state cause (it.place).server it.state (sym (ap is_reserved is))
      (by_create cause make ∙ ap (λ (f : Option Record). goes_on master c.id c.was c.waiting (create_by table first c.name cause f)) is)
  by_found cause (inr ne) (Some it) is =
      by_the_state cause (it.place).server it.state (sym (ap is_reserved is))
      (by_mailbox cause ne ∙ ap (λ (f : Option Record). goes_on master c.id c.was c.waiting (mailbox_by cause f)) is)

pub missing_is_a_point : MissingIsAPoint
missing_is_a_point murder given store front master first c cause comes ne none = missing murder given store front master first c comes cause ne none

pub reserved_is_a_point : ReservedIsAPoint
reserved_is_a_point murder given store front master first c comes is = reserved murder given store front master first c comes is

pub each_barrier : EachBarrier
each_barrier murder given store front master first c cause comes =
    by_found murder given store front master first c comes cause (is_make c.work) (record_at murder.master.table c.name) refl

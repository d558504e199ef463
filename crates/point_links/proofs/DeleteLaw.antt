-- The master takes the line of a DELETE.
use Rattle.std.proofs.Common.{◌≡◌, ℕ, List, ◌++◌, Option, None, Some, refl}
use Rattle.std.proofs.Common.{sym, ◌∙◌, ap, subst}
use Rattle.back_links.specs.MasterEvents.{given_in}
use Rattle.back_node.specs.declared.node.BackNode.{BackNode}
use Rattle.link_msg.specs.declared.counts.Counts.{Counts}
use Rattle.link_msg.specs.declared.counts.Counts.TheVariants.{Always}
use Rattle.link_msg.specs.declared.message.LinkMsg.{LinkMsg}
use Rattle.link_msg.specs.declared.out.Out.{Out}
use Rattle.link_msg.specs.declared.outcome.Outcome.TheVariants.{None as nothing_told}
use Rattle.mail_message.specs.Boxes.{Content}
use Rattle.master_core.specs.declared.reply.Reply.{Reply}
use Rattle.master_core.specs.Linked.{node_says}
use Rattle.mupdate_codec.specs.declared.command.MCommand.TheVariants as command
use Rattle.mur_base.specs.declared.home.Location.{Location}
use Rattle.mur_model.specs.declared.session.Sess.{Sess}
use Rattle.mur_model.specs.declared.store.Store.{Store}
use Rattle.mur_model.specs.Act.{MayWork, work_on, worked_at}
use Rattle.mur_model.specs.Asking.{asked_for}
use Rattle.mur_model.specs.Left.{Worked, store_after}
use Rattle.mur_model.specs.Needed.{Work}
use Rattle.mur_model.specs.Store.{box_at}
use Rattle.name_commands.specs.Moves.{Move, ends, heard_move}
use Rattle.name_commands.specs.MasterSteps.{flow_reply}
use Rattle.name_commands.specs.Places.{stage_command}
use Rattle.name_commands.specs.Replied.{IsReplied, name_reserved, was_active, was_reserved, serials_spent, name_activated, table_full, name_closed}
use Rattle.name_commands.specs.Replied.{name_deleted}
use Rattle.name_commands.specs.Whose.{is_command, is_own_out}
use Rattle.name_flows.specs.declared.flow.Flow.{Flow}
use Rattle.name_flows.specs.declared.flow.Stage.{Stage}
use Rattle.name_flows.specs.declared.flow.Stage.TheVariants.{Reserving, Making, Deactivating, Deleting}
use Rattle.name_flows.specs.Running.{done}
use Rattle.name_links.specs.Serials.{Given}
use Rattle.node_record.specs.Table.{MailboxTable}
use Rattle.session_core.specs.Finish.{turn_of}
use Rattle.session_core.specs.declared.result.OpResult.TheVariants.{Done}
use Rattle.serve_law.proofs.ServedAlike.{apart}
use Rattle.many_links.specs.Murder.{Murder, master_takes}
use Rattle.many_links.specs.ManyHold.{ManyHold}
use Rattle.many_links.specs.MasterEvents.{StoreTakes, nothing, created, removed}
use Rattle.point_links.specs.Carried.{CarriesOut, turn_at}
use Rattle.point_links.specs.Commands.{ClientCommand}
use Rattle.point_links.specs.FlowLines.{LineComes}
use Rattle.point_links.proofs.Told.{done_so}
use Rattle.point_links.proofs.LineLaw.{LineIs, line_is, none_always, nothing_seen}
use Rattle.mur_model.specs.Delete.{delete_on}
use Rattle.mur_model.specs.Needed.{Delete}
use Rattle.mur_model.specs.Store.{without_box}
use Rattle.name_commands.specs.Moves.Move.{is_sent}
use Rattle.point_links.specs.Deletes.{DeactivateCloses, DeleteDeletes, IsClosed, IsDeleted}
use Rattle.session_core.specs.Delete.{reply_to_delete, reply_to_deleted}

-- ---- what the store does with a DELETE

deleted_as : (store : Store) (name : List ℕ) (serial : ℕ) (box : Content) → box_at store name ≡ Some box
    → worked_at store name Delete serial ≡ delete_on (Some box)
unfolding work_on
deleted_as store name serial box is = ap delete_on is

deleted_shown : (session : Sess) (name : List ℕ) (box : Content)
    → turn_of session (asked_for name Delete).awaited (Done nothing_told nothing_seen) ≡ Some (delete_on (Some box)).turn
unfolding asked_for turn_of reply_to_delete reply_to_deleted delete_on
deleted_shown session name box = refl

deleted_so : (store : Store) (name : List ℕ) (box : Content) → without_box store name ≡ store_after store name (delete_on (Some box)).left
unfolding delete_on store_after
deleted_so store name box = refl

-- ---- its line is the first

module _ (murder : Murder) (given : Given) (store : Store) (c : ClientCommand) (name : List ℕ) (node : BackNode) (message : LinkMsg) (rest : List LinkMsg)
    (flow : Flow) (comes : LineComes murder given store c name node message rest flow) where
  abbrev me : Location
  me = node.flows.me

  abbrev table : MailboxTable
  table = murder.master.table

  abbrev says : List Out
  says = (node_says murder.master name message).outs

  line : LineIs murder given store c name node message rest flow
  line = line_is murder given store c name node message rest flow comes

  abbrev its_reply : Reply
  its_reply = flow_reply murder.master.table name me c.name flow

  -- ---- what the master's reply is, and what the backend does at it

  record HasReply (counts : Option Counts) (move : Move) : Type 0 where
    are : its_reply.counts ≡ counts
    heard : heard_move c.name flow line.taken.it ≡ Some move

  abbrev closing : Flow
  closing = record flow { stage = Deleting }

  deleted : flow.stage ≡ Deleting → IsReplied table me c.name flow line.taken.it its_reply → HasReply (Some Always) (ends flow (done nothing_told))
  deleted at (name_deleted stage is heard) = record { are = ap (λ (r : Reply). r.counts) is; heard = heard }
  deleted at (name_closed stage is heard) = absurd (let no : Deleting ≡ Deactivating = sym at ∙ stage in cc)
  deleted at (name_activated stage full is heard) = absurd (let no : Deleting ≡ Making = sym at ∙ stage in cc)
  deleted at (table_full stage full is heard) = absurd (let no : Deleting ≡ Making = sym at ∙ stage in cc)
  deleted at (name_reserved stage none is heard) = absurd (let no : Deleting ≡ Reserving = sym at ∙ stage in cc)
  deleted at (was_active stage active is heard) = absurd (let no : Deleting ≡ Reserving = sym at ∙ stage in cc)
  deleted at (was_reserved stage reserved is heard) = absurd (let no : Deleting ≡ Reserving = sym at ∙ stage in cc)
  deleted at (serials_spent stage none full is heard) = absurd (let no : Deleting ≡ Reserving = sym at ∙ stage in cc)

  closed : flow.stage ≡ Deactivating → IsReplied table me c.name flow line.taken.it its_reply → HasReply None (is_sent c.name closing)
  closed at (name_closed stage is heard) = record { are = ap (λ (r : Reply). r.counts) is; heard = heard }
  closed at (name_deleted stage is heard) = absurd (let no : Deactivating ≡ Deleting = sym at ∙ stage in cc)
  closed at (name_activated stage full is heard) = absurd (let no : Deactivating ≡ Making = sym at ∙ stage in cc)
  closed at (table_full stage full is heard) = absurd (let no : Deactivating ≡ Making = sym at ∙ stage in cc)
  closed at (name_reserved stage none is heard) = absurd (let no : Deactivating ≡ Reserving = sym at ∙ stage in cc)
  closed at (was_active stage active is heard) = absurd (let no : Deactivating ≡ Reserving = sym at ∙ stage in cc)
  closed at (was_reserved stage reserved is heard) = absurd (let no : Deactivating ≡ Reserving = sym at ∙ stage in cc)
  closed at (serials_spent stage none full is heard) = absurd (let no : Deactivating ≡ Reserving = sym at ∙ stage in cc)

  -- ---- what the store does

  abbrev more : Given
  more = given_in table name message

  abbrev HoldsThen : Store → Type 0
  HoldsThen later = ManyHold (master_takes murder name message) (given ++ more) later

  record DoesDelete : Type 0 where
    box : Content
    was : box_at store c.name ≡ Some box
    holds : HoldsThen (without_box store c.name)

  deletes : flow.stage ≡ Deleting → its_reply.counts ≡ Some Always → (later : Store) → StoreTakes message says more store later → HoldsThen later → DoesDelete
  deletes at always _ (nothing given none) holds = absurd (none_always (is_own_out (is_command c.id)) says _ c.id none (line.outs (Some Always) always))
  deletes at always _ (created ask n place acl serial is none free given) holds =
      absurd (let no : command.Activate n place acl ≡ command.Delete c.name =
      line.read is.bytes is.tag _ is.is is.read ∙ ap (λ (z : Stage). stage_command me c.name z) at in cc)
  deletes at always _ (removed ask n box is there given) holds =
      let same : command.Delete n ≡ command.Delete c.name =
      line.read is.bytes is.tag _ is.is is.read ∙ ap (λ (z : Stage). stage_command me c.name z) at in
      let n_is : n ≡ c.name = cc in
      record {
        box = box;
        was = subst (λ (m : List ℕ). box_at store m ≡ Some box) n_is there;
        holds = subst (λ (m : List ℕ). HoldsThen (without_box store m)) n_is holds;
      }

  -- ---- the points

  is_deleted : c.work ≡ Delete → flow.stage ≡ Deleting → IsDeleted murder given store c name message flow
  unfolding MayWork
  is_deleted is at =
      let reply = deleted at line.taken.replied in
      let does : DoesDelete = deletes at reply.are line.one.later line.one.does line.one.hold in
      record {
        box = does.box;
        was = does.was;
        point = λ serial. (let worked = deleted_as store c.name serial does.box does.was in record {
          it = line.taken.it;
          step = line.outs (Some Always) reply.are;
          then_holds = does.holds;
          carries = subst (λ (w : Work). CarriesOut store (without_box store c.name) c.name w serial Always) (sym is) (record {
            free = tt;
            later_is = deleted_so store c.name does.box ∙ ap (λ (w : Worked). store_after store c.name w.left) (sym worked);
            stays = λ h. absurd (apart h);
          });
          heard = reply.heard;
          told = λ master. done_so c master nothing_told nothing_seen (turn_at store c.name c.work serial)
              (subst (λ (w : Work). turn_of c.was (asked_for c.name w).awaited (Done nothing_told nothing_seen) ≡ Some (turn_at store c.name w serial)) (sym is)
              (deleted_shown c.was c.name does.box ∙ ap (λ (w : Worked). Some w.turn) (sym worked)));
        });
      }

  is_closed : flow.stage ≡ Deactivating → IsClosed murder given store c name message flow
  is_closed at =
      let reply = closed at line.taken.replied in
      record {
        it = line.taken.it;
        step = line.outs None reply.are;
        then_holds = line.nothing_done Deactivating at tt;
        heard = reply.heard;
      }

pub delete_deletes : DeleteDeletes
delete_deletes murder given store c name node message rest flow comes deletes at =
    is_deleted murder given store c name node message rest flow comes deletes at

pub deactivate_closes : DeactivateCloses
deactivate_closes murder given store c name node message rest flow comes at =
    is_closed murder given store c name node message rest flow comes at

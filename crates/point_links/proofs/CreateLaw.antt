-- The master takes the line of a CREATE.
use Rattle.std.proofs.Common.{◌≡◌, ℕ, ◌&&◌, nat_le, Bool, true, false, is_some, List, ◌++◌, Option, None, Some, refl}
use Rattle.std.proofs.Common.{sym, ◌∙◌, ap, subst}
use Rattle.std.specs.Prelude.{not}
use Rattle.asking_core.specs.Answered.{answered}
use Rattle.back_links.specs.MasterEvents.{given_in}
use Rattle.back_node.specs.declared.node.BackNode.{BackNode}
use Rattle.link_msg.specs.declared.answer.AnswerBody.{AnswerBody}
use Rattle.link_msg.specs.declared.answer.AnswerBody.TheVariants.{NotNow}
use Rattle.link_msg.specs.declared.counts.Counts.{Counts}
use Rattle.link_msg.specs.declared.counts.Counts.TheVariants.{Always, IfAnswered}
use Rattle.link_msg.specs.declared.message.LinkMsg.{LinkMsg}
use Rattle.link_msg.specs.declared.out.Out.{Out}
use Rattle.link_msg.specs.declared.outcome.Outcome.{Outcome}
use Rattle.link_msg.specs.declared.outcome.Outcome.TheVariants.{None as nothing_told, Exists, Limit}
use Rattle.mail_message.specs.Boxes.{Content}
use Rattle.mail_message.specs.FirstAcl.{first_acl}
use Rattle.master_core.specs.declared.reply.Reply.{Reply}
use Rattle.master_core.specs.Linked.{node_says}
use Rattle.master_core.specs.Refusals.{is_active, is_active_state, is_full, is_reserved}
use Rattle.mupdate_codec.specs.declared.command.MCommand.TheVariants as command
use Rattle.mur_base.specs.declared.home.Location.{Location}
use Rattle.mur_model.specs.declared.session.Sess.{Sess}
use Rattle.mur_model.specs.declared.store.Store.{Store}
use Rattle.mur_model.specs.Act.{MayWork, work_on, worked_at}
use Rattle.mur_model.specs.Asking.{asked_for}
use Rattle.mur_model.specs.Create.{create_on, make}
use Rattle.mur_model.specs.Left.{Worked, kept, store_after}
use Rattle.mur_model.specs.Needed.{Work, Make}
use Rattle.mur_base.specs.declared.limits.TheConstants.{MAILBOX_LIMIT}
use Rattle.mur_model.specs.Store.{box_at, is_full as store_is_full, IsFree}
use Rattle.name_commands.specs.Moves.{ends, heard_move}
use Rattle.name_commands.specs.MasterSteps.{flow_reply}
use Rattle.name_commands.specs.Places.{stage_command}
use Rattle.name_commands.specs.Replied.{IsReplied, name_reserved, was_active, was_reserved, serials_spent, name_activated, table_full, name_closed}
use Rattle.name_commands.specs.Replied.{name_deleted}
use Rattle.name_commands.specs.Whose.{is_command, is_own_out}
use Rattle.name_flows.specs.declared.flow.Flow.{Flow}
use Rattle.name_flows.specs.declared.flow.Stage.{Stage}
use Rattle.name_flows.specs.declared.flow.Stage.TheVariants.{Reserving, Making, Deactivating, Deleting}
use Rattle.name_flows.specs.Running.{done}
use Rattle.name_links.specs.Serials.{Given}
use Rattle.node_record.specs.declared.table.Record.{Record}
use Rattle.node_record.specs.declared.table.State.{State}
use Rattle.node_record.specs.declared.table.State.TheVariants.{Bare, Kept, Active}
use Rattle.node_record.specs.Table.{MailboxTable, has_acl, is_mailbox_if, record_at}
use Rattle.session_core.specs.Create.{reply_to_create, reply_to_created}
use Rattle.session_core.specs.Finish.{turn_of}
use Rattle.session_core.specs.declared.result.OpResult.TheVariants.{Done}
use Rattle.serve_law.proofs.ServedAlike.{apart}
use Rattle.store_links.specs.TableEntries.{store_with}
use Rattle.store_links.proofs.BoxesLaw.{each_is_a_box}
use Rattle.many_links.specs.Murder.{Murder, homes_of, master_takes}
use Rattle.many_links.specs.ManyHold.{ManyHold}
use Rattle.many_links.specs.MasterEvents.{StoreTakes, nothing, created, removed}
use Rattle.many_links.proofs.BoxesLaw.{mailboxes_are_boxes}
use Rattle.point_links.specs.Carried.{CarriesOut, turn_at}
use Rattle.point_links.specs.Commands.{ClientCommand, told_turn}
use Rattle.point_links.specs.Creates.{ActivateCreates, ActivateOfFull, IsCreated, IsPutOff, IsThere, ReserveOfOneReserved, ReserveOfOneThere}
use Rattle.point_links.specs.FlowLines.{LineComes, LineIsPoint}
use Rattle.point_links.proofs.Told.{done_so, not_now_waits}
use Rattle.point_links.proofs.LineLaw.{LineIs, has_box, line_is, none_always, none_if_answered, nothing_seen}

-- ---- what the store does with a CREATE

-- where the name is no mailbox, the table isn't full only if it has room
room_of : (mailbox many : Bool) → mailbox ≡ false → (not mailbox && many) ≡ false → many ≡ false
room_of false many e room = room
room_of true many e room = cc

-- and it is full only if it hasn't
full_of : (mailbox many : Bool) → (not mailbox && many) ≡ true → (mailbox ≡ false) × (many ≡ true)
full_of false true e = (refl, refl)
full_of false false e = cc
full_of true many e = cc

makes_by : (store : Store) (name : List ℕ) (serial : ℕ) (full : Bool) → box_at store name ≡ None → store_is_full store ≡ full
    → worked_at store name Make serial ≡ make name serial full
unfolding work_on create_on
makes_by store name serial full none left =
    ap (λ (b : Option Content). create_on name serial (store_is_full store) b) none ∙ ap (λ (s : Bool). make name serial s) left

there_kept : (store : Store) (name : List ℕ) (serial : ℕ) (box : Content) → box_at store name ≡ Some box
    → worked_at store name Make serial ≡ create_on name serial (store_is_full store) (Some box)
unfolding work_on
there_kept store name serial box is = ap (λ (b : Option Content). create_on name serial (store_is_full store) b) is

created_shown : (session : Sess) (name : List ℕ) (serial : ℕ)
    → turn_of session (asked_for name Make).awaited (Done nothing_told nothing_seen) ≡ Some (make name serial false).turn
unfolding asked_for turn_of reply_to_create reply_to_created make
created_shown session name serial = refl

exists_shown : (session : Sess) (name : List ℕ) (serial : ℕ) (full : Bool) (box : Content)
    → turn_of session (asked_for name Make).awaited (Done Exists nothing_seen) ≡ Some (create_on name serial full (Some box)).turn
unfolding asked_for turn_of reply_to_create reply_to_created create_on
exists_shown session name serial full box = refl

full_shown : (session : Sess) (name : List ℕ) (serial : ℕ)
    → turn_of session (asked_for name Make).awaited (Done Limit nothing_seen) ≡ Some (make name serial true).turn
unfolding asked_for turn_of reply_to_create reply_to_created make
full_shown session name serial = refl

full_stays : (store : Store) (name : List ℕ) (serial : ℕ) → store ≡ store_after store name (make name serial true).left
unfolding make store_after
full_stays store name serial = refl

full_left : (name : List ℕ) (serial : ℕ) → (make name serial true).left ≡ kept
unfolding make
full_left name serial = refl

made_so : (store : Store) (name : List ℕ) (serial : ℕ) → store_with store name serial ≡ store_after store name (make name serial false).left
unfolding make store_after
made_so store name serial = refl

stays_so : (store : Store) (name : List ℕ) (serial : ℕ) (full : Bool) (box : Content)
    → store ≡ store_after store name (create_on name serial full (Some box)).left
unfolding create_on store_after
stays_so store name serial full box = refl

left_so : (name : List ℕ) (serial : ℕ) (full : Bool) (box : Content) → (create_on name serial full (Some box)).left ≡ kept
unfolding create_on
left_so name serial full box = refl

-- ---- records

not_both : (found : Option Record) → is_active found ≡ true → is_reserved found ≡ true → ⊥
not_both None active reserved = cc
not_both (Some it) active reserved =
    let no : not true ≡ true = ap not (sym active) ∙ reserved in cc

state_is_one : (z : State) → is_active_state z ≡ true → has_acl z ≡ true
state_is_one (Bare serial) e = cc
state_is_one (Kept acl) e = refl
state_is_one (Active acl) e = refl

active_is_one : (found : Option Record) → is_active found ≡ true → is_mailbox_if found ≡ true
active_is_one None active = cc
active_is_one (Some it) active = state_is_one it.state active

no_box : (found : Option Content) → is_some found ≡ false → found ≡ None
no_box None e = refl
no_box (Some box) e = cc

-- ---- its line is the first

module _ (murder : Murder) (given : Given) (store : Store) (c : ClientCommand) (name : List ℕ) (node : BackNode) (message : LinkMsg) (rest : List LinkMsg)
    (flow : Flow) (comes : LineComes murder given store c name node message rest flow) (makes : c.work ≡ Make) where
  abbrev me : Location
  me = node.flows.me

  abbrev table : MailboxTable
  table = murder.master.table

  abbrev found_at : Option Record
  found_at = record_at murder.master.table c.name

  abbrev says : List Out
  says = (node_says murder.master name message).outs

  line : LineIs murder given store c name node message rest flow
  line = line_is murder given store c name node message rest flow comes

  abbrev its_reply : Reply
  its_reply = flow_reply murder.master.table name me c.name flow

  -- ---- what the master's reply is, and what the backend answers at it

  record HasReply (counts : Option Counts) (body : AnswerBody) : Type 0 where
    are : its_reply.counts ≡ counts
    heard : heard_move c.name flow line.taken.it ≡ Some (ends flow body)

  activated : flow.stage ≡ Making → is_full table found_at ≡ false → IsReplied table me c.name flow line.taken.it its_reply
      → HasReply (Some Always) (done nothing_told)
  activated making room (name_activated stage full is heard) = record { are = ap (λ (r : Reply). r.counts) is; heard = heard }
  activated making room (table_full stage full is heard) = absurd (let no : true ≡ false = sym full ∙ room in cc)
  activated making room (name_reserved stage none is heard) = absurd (let no : Making ≡ Reserving = sym making ∙ stage in cc)
  activated making room (was_active stage active is heard) = absurd (let no : Making ≡ Reserving = sym making ∙ stage in cc)
  activated making room (was_reserved stage reserved is heard) = absurd (let no : Making ≡ Reserving = sym making ∙ stage in cc)
  activated making room (serials_spent stage none full is heard) = absurd (let no : Making ≡ Reserving = sym making ∙ stage in cc)
  activated making room (name_closed stage is heard) = absurd (let no : Making ≡ Deactivating = sym making ∙ stage in cc)
  activated making room (name_deleted stage is heard) = absurd (let no : Making ≡ Deleting = sym making ∙ stage in cc)

  too_many : flow.stage ≡ Making → is_full table found_at ≡ true → IsReplied table me c.name flow line.taken.it its_reply
      → HasReply (Some IfAnswered) (done Limit)
  too_many making over (table_full stage full is heard) = record { are = ap (λ (r : Reply). r.counts) is; heard = heard }
  too_many making over (name_activated stage room is heard) = absurd (let no : true ≡ false = sym over ∙ room in cc)
  too_many making over (name_reserved stage none is heard) = absurd (let no : Making ≡ Reserving = sym making ∙ stage in cc)
  too_many making over (was_active stage active is heard) = absurd (let no : Making ≡ Reserving = sym making ∙ stage in cc)
  too_many making over (was_reserved stage reserved is heard) = absurd (let no : Making ≡ Reserving = sym making ∙ stage in cc)
  too_many making over (serials_spent stage none full is heard) = absurd (let no : Making ≡ Reserving = sym making ∙ stage in cc)
  too_many making over (name_closed stage is heard) = absurd (let no : Making ≡ Deactivating = sym making ∙ stage in cc)
  too_many making over (name_deleted stage is heard) = absurd (let no : Making ≡ Deleting = sym making ∙ stage in cc)

  refuses : flow.stage ≡ Reserving → is_active found_at ≡ true → IsReplied table me c.name flow line.taken.it its_reply
      → HasReply (Some IfAnswered) (done Exists)
  refuses reserving active (was_active stage too is heard) = record { are = ap (λ (r : Reply). r.counts) is; heard = heard }
  refuses reserving active (was_reserved stage reserved is heard) = absurd (not_both found_at active reserved)
  refuses reserving active (name_reserved stage none is heard) = absurd (let no : false ≡ true = sym (ap is_active none) ∙ active in cc)
  refuses reserving active (serials_spent stage none full is heard) = absurd (let no : false ≡ true = sym (ap is_active none) ∙ active in cc)
  refuses reserving active (name_activated stage full is heard) = absurd (let no : Reserving ≡ Making = sym reserving ∙ stage in cc)
  refuses reserving active (table_full stage full is heard) = absurd (let no : Reserving ≡ Making = sym reserving ∙ stage in cc)
  refuses reserving active (name_closed stage is heard) = absurd (let no : Reserving ≡ Deactivating = sym reserving ∙ stage in cc)
  refuses reserving active (name_deleted stage is heard) = absurd (let no : Reserving ≡ Deleting = sym reserving ∙ stage in cc)

  put_off : flow.stage ≡ Reserving → is_reserved found_at ≡ true → IsReplied table me c.name flow line.taken.it its_reply → HasReply None NotNow
  put_off reserving reserved (was_reserved stage too is heard) = record { are = ap (λ (r : Reply). r.counts) is; heard = heard }
  put_off reserving reserved (was_active stage active is heard) = absurd (not_both found_at active reserved)
  put_off reserving reserved (name_reserved stage none is heard) = absurd (let no : false ≡ true = sym (ap is_reserved none) ∙ reserved in cc)
  put_off reserving reserved (serials_spent stage none full is heard) = absurd (let no : false ≡ true = sym (ap is_reserved none) ∙ reserved in cc)
  put_off reserving reserved (name_activated stage full is heard) = absurd (let no : Reserving ≡ Making = sym reserving ∙ stage in cc)
  put_off reserving reserved (table_full stage full is heard) = absurd (let no : Reserving ≡ Making = sym reserving ∙ stage in cc)
  put_off reserving reserved (name_closed stage is heard) = absurd (let no : Reserving ≡ Deactivating = sym reserving ∙ stage in cc)
  put_off reserving reserved (name_deleted stage is heard) = absurd (let no : Reserving ≡ Deleting = sym reserving ∙ stage in cc)

  -- ---- what the store does

  abbrev pub more : Given
  more = given_in table name message

  abbrev pub HoldsThen : Store → Type 0
  HoldsThen later = ManyHold (master_takes murder name message) (given ++ more) later

  record DoesCreate : Type 0 where
    serial : ℕ
    none : box_at store c.name ≡ None
    free : IsFree store c.name serial
    holds : HoldsThen (store_with store c.name serial)

  creates : flow.stage ≡ Making → its_reply.counts ≡ Some Always → (later : Store) → StoreTakes message says more store later → HoldsThen later → DoesCreate
  creates making always _ (nothing given none) holds = absurd (none_always (is_own_out (is_command c.id)) says _ c.id none (line.outs (Some Always) always))
  creates making always _ (removed ask n box is there given) holds =
      absurd (let no : command.Delete n ≡ command.Activate c.name me (first_acl c.name) =
      line.read is.bytes is.tag _ is.is is.read ∙ ap (λ (z : Stage). stage_command me c.name z) making in cc)
  creates making always _ (created ask n place acl serial is none free given) holds =
      let same : command.Activate n place acl ≡ command.Activate c.name me (first_acl c.name) =
      line.read is.bytes is.tag _ is.is is.read ∙ ap (λ (z : Stage). stage_command me c.name z) making in
      let n_is : n ≡ c.name = cc in
      record {
        serial = serial;
        none = subst (λ (m : List ℕ). box_at store m ≡ None) n_is none;
        free = subst (λ (m : List ℕ). IsFree store m serial) n_is free;
        holds = subst (λ (m : List ℕ). HoldsThen (store_with store m serial)) n_is holds;
      }

  makes_none : flow.stage ≡ Making → its_reply.counts ≡ Some IfAnswered → (later : Store) → StoreTakes message says more store later → HoldsThen later
      → HoldsThen store
  makes_none making counts _ (nothing given none) holds = holds
  makes_none making counts _ (removed ask n box is there given) holds =
      absurd (let no : command.Delete n ≡ command.Activate c.name me (first_acl c.name) =
      line.read is.bytes is.tag _ is.is is.read ∙ ap (λ (z : Stage). stage_command me c.name z) making in cc)
  makes_none making counts _ (created ask n place acl serial is none free given) holds =
      absurd (none_if_answered (is_own_out (is_command c.id)) says _ c.id ask is.marked (line.outs (Some IfAnswered) counts))

  -- ---- the points

  -- what its client is told, by what the store does
  told_as : (master : List ℕ) (outcome : Outcome) (serial : ℕ) (worked : Worked) → worked_at store c.name Make serial ≡ worked
      → turn_of c.was (asked_for c.name Make).awaited (Done outcome nothing_seen) ≡ Some worked.turn
      → answered master c.id c.was c.waiting (done outcome) ≡ told_turn c (turn_at store c.name c.work serial)
  told_as master outcome serial worked is shown =
      done_so c master outcome nothing_seen (turn_at store c.name c.work serial)
      (subst (λ (w : Work). turn_of c.was (asked_for c.name w).awaited (Done outcome nothing_seen) ≡ Some (turn_at store c.name w serial)) (sym makes)
      (shown ∙ ap (λ (w : Worked). Some w.turn) (sym is)))

  carries_as : (later : Store) (serial : ℕ) (counts : Counts) → CarriesOut store later c.name Make serial counts
      → CarriesOut store later c.name c.work serial counts
  carries_as later serial counts carries = subst (λ (w : Work). CarriesOut store later c.name w serial counts) (sym makes) carries

  is_created : flow.stage ≡ Making → is_full table found_at ≡ false → IsCreated murder given store c name message flow
  unfolding MayWork
  is_created making room =
      let reply : HasReply (Some Always) (done nothing_told) = activated making room line.taken.replied in
      let does : DoesCreate = creates making reply.are line.one.later line.one.does line.one.hold in
      let serial : ℕ = does.serial in
      let worked : worked_at store c.name Make serial ≡ make c.name serial false =
      makes_by store c.name serial false does.none ((mailboxes_are_boxes murder given store comes.holds).full
      ∙ room_of (is_mailbox_if found_at) (nat_le MAILBOX_LIMIT table.mailboxes)
      (each_is_a_box table (homes_of murder.nodes) store comes.holds.shows c.name ∙ ap is_some does.none) room) in
      record {
        serial = serial;
        none = does.none;
        point = record {
          it = line.taken.it;
          step = line.outs (Some Always) reply.are;
          then_holds = does.holds;
          carries = carries_as (store_with store c.name serial) serial Always (record {
            free = λ _. λ _. does.free;
            later_is = made_so store c.name serial ∙ ap (λ (w : Worked). store_after store c.name w.left) (sym worked);
            stays = λ h. absurd (apart h);
          });
          heard = reply.heard;
          told = λ master. told_as master nothing_told serial (make c.name serial false) worked (created_shown c.was c.name serial);
        };
      }

  is_over : flow.stage ≡ Making → is_full table found_at ≡ true → (serial : ℕ)
      → LineIsPoint murder given store c name message flow store serial IfAnswered (done Limit)
  unfolding MayWork
  is_over making over serial =
      let reply : HasReply (Some IfAnswered) (done Limit) = too_many making over line.taken.replied in
      let parts = full_of (is_mailbox_if found_at) (nat_le MAILBOX_LIMIT table.mailboxes) over in
      let none : box_at store c.name ≡ None =
      no_box (box_at store c.name) (sym (each_is_a_box table (homes_of murder.nodes) store comes.holds.shows c.name) ∙ parts.0) in
      let full : store_is_full store ≡ true = (mailboxes_are_boxes murder given store comes.holds).full ∙ parts.1 in
      let worked : worked_at store c.name Make serial ≡ make c.name serial true = makes_by store c.name serial true none full in
      record {
        it = line.taken.it;
        step = line.outs (Some IfAnswered) reply.are;
        then_holds = makes_none making reply.are line.one.later line.one.does line.one.hold;
        carries = carries_as store serial IfAnswered (record {
          free = λ _. λ room. absurd (let no : true ≡ false = sym full ∙ room in cc);
          later_is = full_stays store c.name serial ∙ ap (λ (w : Worked). store_after store c.name w.left) (sym worked);
          stays = λ _. ap (λ (w : Worked). w.left) worked ∙ full_left c.name serial;
        });
        heard = reply.heard;
        told = λ master. told_as master Limit serial (make c.name serial true) worked (full_shown c.was c.name serial);
      }

  is_there : flow.stage ≡ Reserving → is_active found_at ≡ true → IsThere murder given store c name message flow
  unfolding MayWork
  is_there reserving active =
      let reply : HasReply (Some IfAnswered) (done Exists) = refuses reserving active line.taken.replied in
      let found = has_box (box_at store c.name)
      (sym (each_is_a_box table (homes_of murder.nodes) store comes.holds.shows c.name) ∙ active_is_one found_at active) in
      let there : box_at store c.name ≡ Some found.0 = found.1 in
      record {
        box = found.0;
        is = there;
        point = λ serial. (let worked = there_kept store c.name serial found.0 there in record {
          it = line.taken.it;
          step = line.outs (Some IfAnswered) reply.are;
          then_holds = line.nothing_done Reserving reserving tt;
          carries = carries_as store serial IfAnswered (record {
            free = λ none. λ _. absurd (let no : false ≡ true = ap is_some (sym none ∙ there) in cc);
            later_is = stays_so store c.name serial (store_is_full store) found.0
                ∙ ap (λ (w : Worked). store_after store c.name w.left) (sym worked);
            stays = λ _. ap (λ (w : Worked). w.left) worked ∙ left_so c.name serial (store_is_full store) found.0;
          });
          heard = reply.heard;
          told = λ master. told_as master Exists serial (create_on c.name serial (store_is_full store) (Some found.0)) worked
              (exists_shown c.was c.name serial (store_is_full store) found.0);
        });
      }

  is_put_off : flow.stage ≡ Reserving → is_reserved found_at ≡ true → IsPutOff murder given store c name message flow
  is_put_off reserving reserved =
      let reply : HasReply None NotNow = put_off reserving reserved line.taken.replied in
      record {
        it = line.taken.it;
        step = line.outs None reply.are;
        then_holds = line.nothing_done Reserving reserving tt;
        heard = reply.heard;
        waits = λ master. not_now_waits c master;
      }

pub activate_creates : ActivateCreates
activate_creates murder given store c name node message rest flow comes makes making room =
    is_created murder given store c name node message rest flow comes makes making room

pub activate_of_full : ActivateOfFull
activate_of_full murder given store c name node message rest flow comes makes making over serial =
    is_over murder given store c name node message rest flow comes makes making over serial

pub reserve_of_one_there : ReserveOfOneThere
reserve_of_one_there murder given store c name node message rest flow comes makes reserving active =
    is_there murder given store c name node message rest flow comes makes reserving active

pub reserve_of_one_reserved : ReserveOfOneReserved
reserve_of_one_reserved murder given store c name node message rest flow comes makes reserving reserved =
    is_put_off murder given store c name node message rest flow comes makes reserving reserved

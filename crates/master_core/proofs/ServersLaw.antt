-- Only the server of a name changes its record.
use Rattle.std.proofs.Common.{◌≡◌, ℕ, ◌+◌, Bool, true, false, ◌&&◌, ◌||◌, not, cond, nat_eq, is_none, List, [], ◌∷◌, Option, None, Some, refl, sym, ap, ◌∙◌, subst, arith}
use Rattle.std.proofs.lemmas.Bool.Decides.{nat_tests}
use Rattle.std.specs.Cmp.Lexicographic.{pointwise}
use Rattle.mur_base.specs.declared.home.Location.{Location}
use Rattle.mupdate_codec.specs.declared.command.MCommand.{MCommand}
use Rattle.mupdate_codec.specs.declared.command.MCommand.TheVariants as command
use Rattle.mupdate_codec.specs.declared.tag.Tag.{Tag}
use Rattle.node_record.specs.declared.master.MasterRecord.{MasterRecord}
use Rattle.node_record.specs.declared.master.MasterRecord.TheVariants as entry
use Rattle.node_record.specs.declared.table.Record.{Record}
use Rattle.node_record.specs.Table.{MailboxTable, record_at}
use Rattle.master_core.specs.declared.master.Master.{Master}
use Rattle.master_core.specs.declared.refusal.Refusal.{Refusal}
use Rattle.master_core.specs.declared.sender.Sender.{Sender}
use Rattle.master_core.specs.declared.sender.Sender.TheVariants.{Backend, Frontend, Outside}
use Rattle.master_core.specs.declared.streams.StreamStep.{StreamStep}
use Rattle.master_core.specs.declared.streams.StreamStep.TheVariants as stream
use Rattle.mupdate_codec.specs.Whole.{command_in}
use Rattle.master_core.specs.Lines.{tag_before}
use Rattle.master_core.specs.Refusals.{is_active_state, is_active, is_reserved, is_elsewhere, place_in, reserve_refusal, activate_refusal, deactivate_refusal, delete_refusal}
use Rattle.master_core.specs.Replies.{reply_to, bad_reply, reserve_by, activate_by, deactivate_by, delete_by, reserve_reply, activate_reply, deactivate_reply, delete_reply, find_reply, list_reply, update_reply, noop_reply, logout_reply}
use Rattle.master_core.specs.Senders.{is_backend, is_server}
use Rattle.master_core.specs.Servers.{name_of, IsByServer}
use Rattle.master_core.specs.Step.{Planned, replied, settled, bad_step, command_step, line_by, line_step}
use Rattle.master_core.specs.Streams.{is_stream, may_follow_update, stream_step}

-- the first test doesn't hold where none does
none_first : (b : Bool) (why : Refusal) (rest : Option Refusal) → cond b (Some why) rest ≡ None → (b ≡ false) × (rest ≡ None)
none_first true why rest e = absurd (no_some e)
  where
    no_some : (let o : Option Refusal = Some why in o ≡ None) → ⊥
    no_some e = cc
none_first false why rest e = (refl, e)

is_so : (b : Bool) → not b ≡ false → b ≡ true
is_so true e = refl
is_so false e = cc

neither : (a b : Bool) → (a || b) ≡ false → (a ≡ false) × (b ≡ false)
neither true b e = cc
neither false b e = (refl, e)

-- two names that are compared as one
same_texts : (xs ys : List ℕ) → pointwise nat_eq xs ys ≡ true → xs ≡ ys
same_texts [] [] h = refl
same_texts [] (y ∷ ys) h = cc
same_texts (x ∷ xs) [] h = cc
same_texts (x ∷ xs) (y ∷ ys) h =
    let heads : x ≡ y = grind (arith, nat_tests) in
    let tails = same_texts xs ys (grind (arith, nat_tests)) in cc

-- the sender is a backend

by_backend : (table : MailboxTable) (name : List ℕ) (from : Sender) → is_backend from ≡ true
    → ((node : List ℕ) → from ≡ Backend node → (it : Record) → record_at table name ≡ Some it → (it.place).server ≡ node) → IsByServer table from name
by_backend table name (Backend node) e holds = record { node = node; is = refl; holds = holds node refl }
by_backend table name (Frontend node) e holds = cc
by_backend table name (Outside conn) e holds = cc

-- a location at a backend
at_server : (from : Sender) (place : Location) (node : List ℕ) → from ≡ Backend node → is_server from place ≡ true → place.server ≡ node
at_server from place node is h = sym (same_texts node place.server (ap (λ (s : Sender). is_server s place) (sym is) ∙ h))

some_is : {x y : MasterRecord} → (let o : Option MasterRecord = Some x in o ≡ Some y) → x ≡ y
some_is e = cc

none_some : {A : Type 0} (e : MasterRecord) → (let o : Option MasterRecord = None in o ≡ Some e) → A
none_some e h = cc

no_record : (found : Option Record) (it : Record) → is_active found ≡ false → is_reserved found ≡ false → found ≡ Some it → ⊥
no_record found it a r e =
    let yes : is_active_state it.state ≡ true = is_so (is_active_state it.state) (ap is_reserved (sym e) ∙ r) in
    let no : is_active_state it.state ≡ false = ap is_active (sym e) ∙ a in
    let both : true ≡ false = sym yes ∙ no in cc

module _ (table : MailboxTable) (from : Sender) (e : MasterRecord) where
  is_by : (x : MasterRecord) → x ≡ e → IsByServer table from (name_of x) → IsByServer table from (name_of e)
  is_by x same i = subst (λ n. IsByServer table from n) (ap name_of same) i

  by_reserve : (name : List ℕ) (place : Location) → (reserve_reply table from name place).entry ≡ Some e → IsByServer table from (name_of e)
  unfolding reserve_reply reserve_refusal
  by_reserve name place h = by_refusal (reserve_refusal table from (record_at table name) place) refl h
    where
      by_refusal : (r : Option Refusal) → reserve_refusal table from (record_at table name) place ≡ r → (reserve_by table name place r).entry ≡ Some e
          → IsByServer table from (name_of e)
      by_refusal (Some why) is h = none_some e h
      by_refusal None is h =
          let a = none_first (not (is_backend from)) _ _ is in
          let b = none_first (not (is_server from place)) _ _ a.1 in
          let c = none_first (is_active (record_at table name)) _ _ b.1 in
          let d = none_first (is_reserved (record_at table name)) _ _ c.1 in
          is_by (entry.Reserved name place (table.serial + 1)) (some_is h)
          (by_backend table name from (is_so (is_backend from) a.0) (λ node is_node it there. absurd (no_record (record_at table name) it c.0 d.0 there)))

  by_activate : (name : List ℕ) (place : Location) (acl : List ℕ) → (activate_reply table from name place acl).entry ≡ Some e → IsByServer table from (name_of e)
  unfolding activate_reply activate_refusal
  by_activate name place acl h = by_refusal (activate_refusal table from (record_at table name) place) refl h
    where
      by_refusal : (r : Option Refusal) → activate_refusal table from (record_at table name) place ≡ r → (activate_by from name place acl r).entry ≡ Some e
          → IsByServer table from (name_of e)
      by_refusal (Some why) is h = none_some e h
      by_refusal None is h =
          let a = none_first (not (is_backend from)) _ _ is in
          let b = none_first (not (is_server from (place_in (record_at table name) place))) _ _ a.1 in
          is_by (entry.Active name place acl) (some_is h)
          (by_backend table name from (is_so (is_backend from) a.0) (λ node is_node it there.
          at_server from it.place node is_node (ap (λ (f : Option Record). is_server from (place_in f place)) (sym there) ∙ is_so _ b.0)))

  by_deactivate : (name : List ℕ) (place : Location) → (deactivate_reply table from name place).entry ≡ Some e → IsByServer table from (name_of e)
  unfolding deactivate_reply deactivate_refusal
  by_deactivate name place h = by_refusal (deactivate_refusal from (record_at table name) place) refl h
    where
      by_refusal : (r : Option Refusal) → deactivate_refusal from (record_at table name) place ≡ r → (deactivate_by name place r).entry ≡ Some e
          → IsByServer table from (name_of e)
      by_refusal (Some why) is h = none_some e h
      by_refusal None is h =
          let a = none_first (not (is_backend from)) _ _ is in
          let b = none_first (is_none (record_at table name)) _ _ a.1 in
          let c = none_first (is_elsewhere from (record_at table name) || not (is_server from place)) _ _ b.1 in
          let d = neither (is_elsewhere from (record_at table name)) _ c.0 in
          is_by (entry.Inactive name place) (some_is h)
          (by_backend table name from (is_so (is_backend from) a.0) (λ node is_node it there.
          at_server from it.place node is_node (is_so (is_server from it.place) (ap (is_elsewhere from) (sym there) ∙ d.0))))

  by_delete : (name : List ℕ) → (delete_reply table from name).entry ≡ Some e → IsByServer table from (name_of e)
  unfolding delete_reply delete_refusal
  by_delete name h = by_refusal (delete_refusal from (record_at table name)) refl h
    where
      by_refusal : (r : Option Refusal) → delete_refusal from (record_at table name) ≡ r → (delete_by name r).entry ≡ Some e → IsByServer table from (name_of e)
      by_refusal (Some why) is h = none_some e h
      by_refusal None is h =
          let a = none_first (not (is_backend from)) _ _ is in
          let b = none_first (is_none (record_at table name)) _ _ a.1 in
          let c = none_first (is_elsewhere from (record_at table name)) _ _ b.1 in
          is_by (entry.Deleted name) (some_is h)
          (by_backend table name from (is_so (is_backend from) a.0) (λ node is_node it there.
          at_server from it.place node is_node (is_so (is_server from it.place) (ap (is_elsewhere from) (sym there) ∙ c.0))))

  by_reply : (it : MCommand) → (reply_to table from it).entry ≡ Some e → IsByServer table from (name_of e)
  unfolding reply_to find_reply list_reply update_reply noop_reply logout_reply
  by_reply (command.Reserve name place) h = by_reserve name place h
  by_reply (command.Activate name place acl) h = by_activate name place acl h
  by_reply (command.Deactivate name place) h = by_deactivate name place h
  by_reply (command.Delete name) h = by_delete name h
  by_reply (command.Find name) h = none_some e h
  by_reply (command.List prefix) h = none_some e h
  by_reply command.Update h = none_some e h
  by_reply command.Noop h = none_some e h
  by_reply command.Logout h = none_some e h

-- what becomes of the sender changes no entry
settled_entry : (planned : Planned) (from : Sender) (tag : Tag) (step : StreamStep) → (settled planned from tag step).entry ≡ planned.entry
unfolding settled
settled_entry planned from tag stream.Stays = refl
settled_entry planned from tag stream.Begins = refl
settled_entry planned from tag stream.Ends = refl

bad_entry : (master : Master) (from : Sender) (tag : Tag) → (bad_step master from tag).entry ≡ None
unfolding bad_step replied bad_reply
bad_entry master from tag = refl

module _ (master : Master) (from : Sender) (e : MasterRecord) where
  by_command : (tag : Tag) (it : MCommand) → (command_step master from tag it).entry ≡ Some e → IsByServer master.table from (name_of e)
  unfolding command_step replied
  by_command tag it h = by_test (is_stream master from && not (may_follow_update it)) h
    where
      by_test : (b : Bool) → (cond b (bad_step master from tag) (settled (replied master from tag (reply_to master.table from it)) from tag (stream_step it))).entry ≡ Some e
          → IsByServer master.table from (name_of e)
      by_test true h = none_some e (sym (bad_entry master from tag) ∙ h)
      by_test false h =
          by_reply master.table from e it (sym (settled_entry (replied master from tag (reply_to master.table from it)) from tag (stream_step it)) ∙ h)

  pub by_line : (line : List ℕ) → (line_step master from line).entry ≡ Some e → IsByServer master.table from (name_of e)
  unfolding line_step line_by
  by_line line h = by_meaning (command_in line) h
    where
      by_meaning : (it : Option (Tag × MCommand)) → (line_by master from line it).entry ≡ Some e → IsByServer master.table from (name_of e)
      by_meaning None h = none_some e (sym (bad_entry master from (tag_before line)) ∙ h)
      by_meaning (Some it) h = by_command it.0 it.1 h

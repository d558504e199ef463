-- A line that the master takes is a CREATE of the store, a DELETE, or nothing.
use Rattle.std.proofs.Common.{◌≡◌, ℕ, Bool, true, false, ◌||◌, not, cond, List, [], ◌∷◌, ◌++◌, Option, None, Some, refl, sym, ap, subst, ◌∙◌}
use Rattle.std.specs.List.{flat_map}
use Rattle.mur_base.specs.declared.home.Location.{Location}
use Rattle.mur_model.specs.declared.store.Store.{Store}
use Rattle.mupdate_codec.specs.declared.command.MCommand.{MCommand}
use Rattle.mupdate_codec.specs.declared.command.MCommand.TheVariants as command
use Rattle.mupdate_codec.specs.declared.tag.Tag.{Tag}
use Rattle.node_record.specs.declared.master.MasterRecord.{MasterRecord}
use Rattle.node_record.specs.declared.master.MasterRecord.TheVariants as entry
use Rattle.node_record.specs.declared.table.State.{State}
use Rattle.node_record.specs.declared.table.State.TheVariants.{Bare, Kept, Active}
use Rattle.node_record.specs.declared.table.Record.{Record}
use Rattle.node_record.specs.Held.{Names, held_at}
use Rattle.node_record.specs.Table.{MailboxTable, is_mailbox_if, record_at}
use Rattle.master_core.specs.declared.refusal.Refusal.{Refusal}
use Rattle.master_core.specs.declared.sender.Sender.TheVariants.{Backend}
use Rattle.master_core.specs.Refusals.{reserve_refusal, activate_refusal, deactivate_refusal, delete_refusal}
use Rattle.master_core.specs.Replies.{reserve_by, activate_by, deactivate_by, delete_by, reserve_reply, activate_reply, deactivate_reply, delete_reply}
use Rattle.master_core.specs.Replies.{find_reply, list_reply, update_reply, noop_reply, logout_reply, reply_to}
use Rattle.master_core.specs.Step.{table_with}
use Rattle.home_law.specs.Items.{Server, Mine, Ctl, Item, again, delete, wipe}
use Rattle.home_law.specs.Link.{see}
use Rattle.home_law.specs.LinkOk.{EachItem}
use Rattle.home_law.specs.ManyNames.{Mailbox, SentLine as OpenLine, sent_delete, sent_wipe}
use Rattle.home_law.specs.Rows.{mine_of, is_bare, is_kept, is_closing, is_idle, is_reserving, is_deleting, line_ok}
use Rattle.home_law.proofs.SameName.{is_itself, is_the_same}
use Rattle.name_flows.specs.OneName.{ctl_of}
use Rattle.name_links.specs.Contents.{state_by, acl_in, HasAcl, command_fits, ContentHolds}
use Rattle.name_links.specs.Known.{known}
use Rattle.name_links.specs.Lines.{is_asked, backend_line, items_of}
use Rattle.name_links.specs.LinkIs.{AreSent, LinkHolds}
use Rattle.name_links.specs.OneLink.{OneLink, server_of, items_if, up_items, back_of}
use Rattle.name_links.specs.Serials.{serial_in, Given, given_at, given_by, SerialsHold}
use Rattle.name_links.proofs.BoxLaw.{reserved_serial}
use Rattle.name_links.proofs.ContentTakes.{taken_fits, LineNow, it_now}
use Rattle.name_links.proofs.HearParts.{and_left, and_right}
use Rattle.name_links.proofs.LinkEvents.{line_is, none_sent}
use Rattle.name_links.proofs.MadeLaw.{create_makes_one}
use Rattle.name_links.proofs.OnWay.{item_fits}
use Rattle.name_links.proofs.PhaseFacts.{kept_state, bare_state, again_kept}
use Rattle.name_links.proofs.StateTurn.{state_here, table_is}
use Rattle.name_links.proofs.TableTurn.{entry_of, Change, nothing as changes_nothing, reserved, activated, deactivated, deleted, line_changes}
use Rattle.store_links.specs.Given.{HasGiven}
use Rattle.store_links.specs.Lines.{IsTaken, nothing, created, removed, EachIsOne}
use Rattle.store_links.specs.Shown.{Homes, Shows}
use Rattle.store_links.specs.TableEntries.{acl_at}
use Rattle.store_links.proofs.CreateLaw.{no_mailbox, create_is_one}
use Rattle.store_links.proofs.ShownLaw.{record_of}
use Rattle.store_links.proofs.TableLaw.{others_make_none, delete_is_one}

-- ---- records

-- a name that has an access list is a mailbox, and has no serial
has_list : (b : Server) (r : Option Record) (acl : List ℕ) → acl_in (state_by b r) ≡ Some acl → (is_mailbox_if r ≡ true) × (serial_in r ≡ None)
has_list b r acl e =
    let at = record_of b r acl e in
    subst (λ (f : Option Record). (is_mailbox_if f ≡ true) × (serial_in f ≡ None)) (sym at.is) (by_state at.it at.it.state refl at.list)
  where
    by_state : (it : Record) (z : State) → it.state ≡ z → acl_in (Some z) ≡ Some acl → (is_mailbox_if (Some it) ≡ true) × (serial_in (Some it) ≡ None)
    by_state it (Bare serial) f g = cc
    by_state it (Kept list) f g = rw f (refl, refl)
    by_state it (Active list) f g = rw f (refl, refl)

-- ---- lines

-- only DELETE deletes
deletes : (table : MailboxTable) (b : Server) (it : MCommand) (m : Mailbox) → entry_of table b it ≡ Some (entry.Deleted m) → it ≡ command.Delete m
unfolding reply_to reserve_reply activate_reply deactivate_reply delete_reply find_reply list_reply update_reply noop_reply logout_reply
deletes table b (command.Reserve n place) m e = by_refusal (reserve_refusal table (Backend b) (record_at table n) place) e
  where
    by_refusal : (r : Option Refusal) → (reserve_by table n place r).entry ≡ Some (entry.Deleted m) → command.Reserve n place ≡ command.Delete m
    by_refusal (Some why) e = cc
    by_refusal None e = cc
deletes table b (command.Activate n place acl) m e = by_refusal (activate_refusal table (Backend b) (record_at table n) place) e
  where
    by_refusal : (r : Option Refusal) → (activate_by (Backend b) n place acl r).entry ≡ Some (entry.Deleted m) → command.Activate n place acl ≡ command.Delete m
    by_refusal (Some why) e = cc
    by_refusal None e = cc
deletes table b (command.Deactivate n place) m e = by_refusal (deactivate_refusal (Backend b) (record_at table n) place) e
  where
    by_refusal : (r : Option Refusal) → (deactivate_by n place r).entry ≡ Some (entry.Deleted m) → command.Deactivate n place ≡ command.Delete m
    by_refusal (Some why) e = cc
    by_refusal None e = cc
deletes table b (command.Delete n) m e = by_refusal (delete_refusal (Backend b) (record_at table n)) e
  where
    by_refusal : (r : Option Refusal) → (delete_by n r).entry ≡ Some (entry.Deleted m) → command.Delete n ≡ command.Delete m
    by_refusal (Some why) e = cc
    by_refusal None e = let same : n ≡ m = cc in ap command.Delete same
deletes table b (command.Find n) m e = cc
deletes table b (command.List prefix) m e = cc
deletes table b command.Update m e = cc
deletes table b command.Noop m e = cc
deletes table b command.Logout m e = cc

delete_line : (b : Server) (tag : Tag) (m : Mailbox) → backend_line b tag (command.Delete m) ≡ Some (cond (is_asked tag) (sent_delete m) (sent_wipe m))
unfolding backend_line
delete_line b tag m = refl

-- what it is to its name
one_item : (P : Item → Type 0) (m : Mailbox) (t : Bool) (rest : List Item) → EachItem P (items_of m (cond t (sent_delete m) (sent_wipe m)) ++ rest)
    → P (cond t delete wipe)
unfolding items_of EachItem
one_item P m true rest a = let all : EachItem P (delete ∷ rest) = subst (λ (s : Bool). EachItem P (cond s (delete ∷ []) [] ++ rest)) (is_itself m) a in all.0
one_item P m false rest a = let all : EachItem P (wipe ∷ rest) = subst (λ (s : Bool). EachItem P (cond s (wipe ∷ []) [] ++ rest)) (is_itself m) a in all.0

delete_kept : (m : Mine) (c : Ctl) → line_ok m c delete ≡ true → is_kept m ≡ true
unfolding line_ok
delete_kept m c e = and_right _ (is_kept m) (and_left _ (is_closing c.phase) (and_left _ (not c.hears || is_deleting c.flow) e))

wipe_bare : (m : Mine) (c : Ctl) → line_ok m c wipe ≡ true → is_bare m ≡ true
unfolding line_ok
wipe_bare m c e = and_right _ (is_bare m) (and_left _ (not c.hears || is_idle c.flow || is_reserving c.flow) e)

module _ (link : OneLink) (homes : Homes) (store : Store) (given : Given) (it : Tag × MCommand) (ups : List (Tag × MCommand)) (holds : LinkHolds link)
    (c : ContentHolds link)
    (serials : SerialsHold link.table given) (e : link.ups ≡ it ∷ ups) (at_home : homes (server_of link) ≡ link.held) (shown : Shows link.table homes store)
    (has : HasGiven store given) (line : Tag × OpenLine) (lines : List (Tag × OpenLine)) (first : holds.is.tied.left ≡ line ∷ lines) where
  abbrev b : Server
  b = server_of link

  abbrev Taken : Type 0
  Taken = IsTaken link homes store given it

  is_line : backend_line b it.0 it.1 ≡ Some line.1
  is_line = line_is link it ups holds.ready holds.is e line lines first

  -- no mailbox is made or removed
  still : (made : Option MasterRecord) → entry_of link.table b it.1 ≡ made → Shows (table_with link.table made) homes store → given_by link.table made ≡ []
      → Taken
  still made f s none =
      nothing (subst (λ (t : MailboxTable). Shows t homes store) (sym (table_is link.table b it.1 made f)) s)
      (ap (λ (m : Option MasterRecord). given_by link.table m) f ∙ none)

  -- ---- ACTIVATE

  again_is : (m : Mailbox) (place : Location) (acl : List ℕ) → place.server ≡ b → entry_of link.table b it.1 ≡ Some (entry.Active m place acl)
      → LineNow link it ups holds c e line lines first m again → HasAcl (held_at link.held m) acl → Taken
  again_is m place acl at made now own =
      let was = kept_state b (record_at link.table m) (again_kept (mine_of (see (known link.table m) b)) (ctl_of true link.held link.flows m) now) in
      let list : acl_at link.table b m ≡ Some was.0 = ap acl_in was.1 in
      still (Some (entry.Active m place acl)) made
      (others_make_none link.table homes store (entry.Active m place acl) shown (
        (was.0, subst (λ (q : Server). acl_at link.table q m ≡ Some was.0) (sym at) list),
        subst (λ (held : Names). HasAcl (held_at held m) acl) (sym (ap homes at ∙ at_home)) own,
      ))
      (ap (λ (z : Option ℕ). given_at m z) (has_list b (record_at link.table m) was.0 list).1)

  activates : (m : Mailbox) (place : Location) (acl : List ℕ) → it.1 ≡ command.Activate m place acl → place.server ≡ b
      → entry_of link.table b it.1 ≡ Some (entry.Active m place acl)
      → (t : Bool) → is_asked it.0 ≡ t → Taken
  activates m place acl is at made true asked =
      let new = create_makes_one link given it ups m place acl holds c serials e asked made in
      created m place acl new.serial asked is
      (create_is_one link homes store given it.0 it.1 line.1 m place acl at_home shown has is_line made new)
  activates m place acl is at made false asked =
      again_is m place acl at made
      (subst (λ (t : Bool). item_fits (LineNow link it ups holds c e line lines first) t (command.Activate m place acl)) asked
      (subst (λ (k : MCommand). item_fits (LineNow link it ups holds c e line lines first) (is_asked it.0) k) is
      (it_now link it ups holds c e line lines first)))
      (subst (λ (t : Bool). command_fits link.table b link.held t (command.Activate m place acl)) asked
      (subst (λ (k : MCommand). command_fits link.table b link.held (is_asked it.0) k) is (taken_fits link it ups holds c e line lines first)))

  -- ---- DELETE

  delete_now : (m : Mailbox) → it.1 ≡ command.Delete m → LineNow link it ups holds c e line lines first m (cond (is_asked it.0) delete wipe)
  unfolding back_of
  delete_now m is =
      let all : EachItem (LineNow link it ups holds c e line lines first m) (flat_map (up_items b m) link.ups) = (holds.is.named m).ups in
      one_item (LineNow link it ups holds c e line lines first m) m (is_asked it.0) (flat_map (up_items b m) ups)
      (subst (λ (o : Option OpenLine). EachItem (LineNow link it ups holds c e line lines first m) (items_if m o ++ flat_map (up_items b m) ups))
      (delete_line b it.0 m)
      (subst (λ (k : MCommand). EachItem (LineNow link it ups holds c e line lines first m)
      (items_if m (backend_line b it.0 k) ++ flat_map (up_items b m) ups)) is
      (subst (λ (us : List (Tag × MCommand)). EachItem (LineNow link it ups holds c e line lines first m) (flat_map (up_items b m) us)) e all)))

  deletes_one : (m : Mailbox) → it.1 ≡ command.Delete m → entry_of link.table b it.1 ≡ Some (entry.Deleted m) → (t : Bool) → is_asked it.0 ≡ t
      → LineNow link it ups holds c e line lines first m (cond t delete wipe) → Taken
  deletes_one m is made true asked now =
      let was = kept_state b (record_at link.table m) (delete_kept (mine_of (see (known link.table m) b)) (ctl_of true link.held link.flows m) now) in
      removed m asked is (table_is link.table b it.1 (Some (entry.Deleted m)) made) (ap (λ (k : Option MasterRecord). given_by link.table k) made)
      (delete_is_one link.table homes store m shown (has_list b (record_at link.table m) was.0 (ap acl_in was.1)).0)
  deletes_one m is made false asked now =
      let was = bare_state b (record_at link.table m) (wipe_bare (mine_of (see (known link.table m) b)) (ctl_of true link.held link.flows m) now) in
      still (Some (entry.Deleted m)) made
      (others_make_none link.table homes store (entry.Deleted m) shown
      (no_mailbox (record_at link.table m) was.0 (reserved_serial b (record_at link.table m) was.0 was.1))) refl

  -- ---- by what the line finds

  taken : Change link.table b it.1 → Taken
  taken (changes_nothing made) = still None made shown refl
  taken (reserved m place is at none made) = still _ made (others_make_none link.table homes store (entry.Reserved m place _) shown
      (ap is_mailbox_if none)) refl
  taken (activated m place acl is at free made) = activates m place acl is (is_the_same place.server b at) made (is_asked it.0) refl
  taken (deactivated m place was acl at there here active made) =
      let list : acl_at link.table b m ≡ Some acl =
      ap (λ (r : Option Record). acl_in (state_by b r)) there ∙ ap acl_in (state_here b was here) ∙ ap (λ (z : State). acl_in (Some z)) active in
      still _ made
      (others_make_none link.table homes store (entry.Inactive m place) shown
      (acl, subst (λ (q : Server). acl_at link.table q m ≡ Some acl) (sym (is_the_same place.server b at)) list)) refl
  taken (deleted m here made) =
      let is = deletes link.table b it.1 m made in deletes_one m is made (is_asked it.0) refl (delete_now m is)

  pub line_taken : Taken
  line_taken = taken (line_changes link.table b it.0 it.1 line.1 is_line)

pub each_is_one : EachIsOne
each_is_one link homes store given it ups holds c serials e at_home shown has = by_left holds.is.tied.left refl
  where
    by_left : (ls : List (Tag × OpenLine)) → holds.is.tied.left ≡ ls → IsTaken link homes store given it
    by_left [] first =
        absurd (none_sent (server_of link) it ups (subst (λ (us : List (Tag × MCommand)). AreSent (server_of link) [] us) e
        (subst (λ (ls : List (Tag × OpenLine)). AreSent (server_of link) ls link.ups) first holds.is.tied.sent)))
    by_left (line ∷ lines) first = line_taken link homes store given it ups holds c serials e at_home shown has line lines first

-- ACTIVATE of a mailbox that a CREATE made is the one store's CREATE.
use Rattle.std.proofs.Common.{◌≡◌, ℕ, ◌+◌, true, false, List, [], ◌∷◌, ◌++◌, Option, None, Some, refl, sym, ap, subst, ◌∙◌}
use Rattle.std.specs.Ordering.{nat_cmp}
use Rattle.std.specs.Cmp.Lexicographic.{slice_cmp}
use Rattle.std.proofs.lemmas.Cmp.{nat_list_cmp_total}
use Rattle.std.proofs.lemmas.List.{map-append}
use Rattle.mail_message.specs.Boxes.{empty_box}
use Rattle.mail_message.specs.FirstAcl.{first_acl}
use Rattle.mur_base.specs.declared.home.Location.{Location}
use Rattle.mur_base.proofs.MapLaws.{names_apart, value_at-with_entry, value_at-with_entry-other}
use Rattle.mur_base.proofs.MapOrder.{with_entry-in_order}
use Rattle.mur_model.specs.declared.store.Store.{Store}
use Rattle.mur_model.specs.Store.{box_at}
use Rattle.mupdate_codec.specs.declared.command.MCommand.{MCommand}
use Rattle.node_record.specs.declared.master.MasterRecord.{MasterRecord}
use Rattle.node_record.specs.declared.master.MasterRecord.TheVariants as entry
use Rattle.node_record.specs.declared.table.State.{State}
use Rattle.node_record.specs.declared.table.State.TheVariants.{Bare, Kept, Active}
use Rattle.node_record.specs.declared.table.Record.{Record}
use Rattle.node_record.specs.Held.{Names, held_at}
use Rattle.node_record.specs.Table.{MailboxTable, is_mailbox_if, record_at, table_after}
use Rattle.home_law.specs.Items.{Server, is_same_server}
use Rattle.home_law.specs.ManyNames.{Mailbox}
use Rattle.home_law.proofs.SameName.{is_the_same}
use Rattle.name_links.specs.Contents.{content_in, new_box}
use Rattle.name_links.specs.OneLink.{server_of}
use Rattle.name_links.specs.Serials.{serial_in, serial_at, Given, given_at, given_by, gives}
use Rattle.name_links.proofs.StateTurn.{own_active, table_is}
use Rattle.name_links.proofs.TableTurn.{entry_of, Change, nothing, reserved, activated, deactivated, deleted, line_changes}
use Rattle.store_links.specs.Given.{given_pair, HasGiven}
use Rattle.store_links.specs.Shown.{Homes, content_at, IsMailboxOf, RecordShows, Shows}
use Rattle.store_links.specs.TableEntries.{OthersStay, store_with, CreateIsOne}
use Rattle.store_links.proofs.GivenLaw.{new_is_free}
use Rattle.store_links.proofs.ShownLaw.{none_by}
use Rattle.store_links.proofs.TableLaw.{by_name}

-- ---- what the line is

-- a name with a serial is no mailbox
pub no_mailbox : (r : Option Record) (serial : ℕ) → serial_in r ≡ Some serial → is_mailbox_if r ≡ false
no_mailbox None serial e = cc
no_mailbox (Some it) serial e = by_state it.state refl
  where
    by_state : (z : State) → it.state ≡ z → is_mailbox_if (Some it) ≡ false
    by_state (Bare s) f = rw f refl
    by_state (Kept acl) f = let no : serial_in (Some it) ≡ None = rw f refl in cc
    by_state (Active acl) f = let no : serial_in (Some it) ≡ None = rw f refl in cc

abbrev first_serial : Given → Option ℕ
first_serial [] = None
first_serial (g ∷ given) = Some g.1

one_given : (n : Mailbox) (z : Option ℕ) (serial : ℕ) → given_at n z ≡ (n, serial) ∷ [] → z ≡ Some serial
one_given n None serial e = ap first_serial e
one_given n (Some s) serial e = ap first_serial e

-- an ACTIVATE at the sender's server
at_server : (table : MailboxTable) (b : Server) (it : MCommand) (n : Mailbox) (place : Location) (acl : List ℕ) → Change table b it
    → entry_of table b it ≡ Some (entry.Active n place acl) → place.server ≡ b
at_server table b it n place acl (nothing made) g = let no : (let k : Option MasterRecord = None in k ≡ Some (entry.Active n place acl)) = sym made ∙ g in cc
at_server table b it n place acl (reserved m p is at none made) g =
    let no : Some (entry.Reserved m p (table.serial + 1)) ≡ Some (entry.Active n place acl) = sym made ∙ g in cc
at_server table b it n place acl (activated m p l is at free made) g =
    let both : Some (entry.Active m p l) ≡ Some (entry.Active n place acl) = sym made ∙ g in
    let same : p ≡ place = cc in is_the_same place.server b (subst (λ (q : Location). is_same_server q.server b ≡ true) same at)
at_server table b it n place acl (deactivated m p was l at there here active made) g =
    let no : Some (entry.Inactive m p) ≡ Some (entry.Active n place acl) = sym made ∙ g in cc
at_server table b it n place acl (deleted m here made) g = let no : Some (entry.Deleted m) ≡ Some (entry.Active n place acl) = sym made ∙ g in cc

-- ---- what it makes

module _ (table : MailboxTable) (homes : Homes) (store : Store) (n : Mailbox) (serial : ℕ) (shown : Shows table homes store) where
  abbrev now : Store
  now = store_with store n serial

  pub others_kept : OthersStay store now n
  others_kept m ne = value_at-with_entry-other (slice_cmp nat_cmp) names_apart store.boxes n m (empty_box serial (first_acl n)) ne

  own_is : (place : Location) (acl : List ℕ) → acl ≡ first_acl n → held_at (homes place.server) n ≡ Some (new_box n serial)
      → IsMailboxOf (content_at homes place.server n) (box_at now n) acl
  own_is place acl first made = record {
    content = empty_box serial (first_acl n);
    at_home = ap content_in made;
    in_store = value_at-with_entry (slice_cmp nat_cmp) names_apart store.boxes n (empty_box serial (first_acl n));
    has_acl = sym first;
  }

  pub made_shows : (place : Location) (acl : List ℕ) → acl ≡ first_acl n → held_at (homes place.server) n ≡ Some (new_box n serial)
      → Shows (table_after table (entry.Active n place acl)) homes now
  made_shows place acl first made =
      by_name table homes store now shown (entry.Active n place acl)
      (subst (λ (r : Option Record). RecordShows homes n (box_at now n) r) (sym (own_active table n place acl)) (own_is place acl first made))
      others_kept (with_entry-in_order (slice_cmp nat_cmp) nat_list_cmp_total store.boxes n (empty_box serial (first_acl n)) shown.boxes_in_order)

  gave_now : (given more : Given) → HasGiven store given → more ≡ (n, serial) ∷ [] → HasGiven now (given ++ more)
  gave_now given more has e =
      map-append given_pair store.given ((record { name = n; serial = serial }) ∷ []) ∙ ap (λ (gs : Given). gs ++ (n, serial) ∷ []) has
      ∙ ap (λ (gs : Given). given ++ gs) (sym e)

pub create_is_one : CreateIsOne
create_is_one link homes store given tag it line n place acl at shown has is gave made =
    let serial_is : serial_at link.table n ≡ Some made.serial =
    one_given n (serial_at link.table n) made.serial (sym (ap (λ (m : Option MasterRecord). given_by link.table m) gave) ∙ made.gives_it) in
    let here : place.server ≡ server_of link = at_server link.table (server_of link) it n place acl
    (line_changes link.table (server_of link) tag it line is) gave in
    let there : held_at (homes place.server) n ≡ Some (new_box n made.serial) =
    ap (λ (q : Server). held_at (homes q) n) here ∙ ap (λ (held : Names). held_at held n) at ∙ made.made in
    record {
      none = none_by homes n (box_at store n) (record_at link.table n) (no_mailbox (record_at link.table n) made.serial serial_is) (shown.names n);
      free = new_is_free store given n made.serial has made.positive made.new;
      shows = subst (λ (t : MailboxTable). Shows t homes (store_with store n made.serial))
          (sym (table_is link.table (server_of link) it (Some (entry.Active n place acl)) gave))
          (made_shows link.table homes store n made.serial shown place acl made.first there);
      gave = gave_now link.table homes store n made.serial shown given (gives link.table (server_of link) it) has made.gives_it;
      others = others_kept link.table homes store n made.serial shown;
    }

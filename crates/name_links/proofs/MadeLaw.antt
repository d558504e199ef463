-- The mailbox that a CREATE makes is new, and so is the UIDVALIDITY that it is given.
use Rattle.std.proofs.Common.{◌≡◌, ℕ, ◌+◌, Bool, true, false, List, [], ◌∷◌, Option, None, Some, refl, sym, ap, subst, ◌∙◌}
use Rattle.mur_base.specs.declared.home.Location.{Location}
use Rattle.mupdate_codec.specs.declared.command.MCommand.{MCommand}
use Rattle.mupdate_codec.specs.declared.command.MCommand.TheVariants as command
use Rattle.mupdate_codec.specs.declared.tag.Tag.{Tag}
use Rattle.node_record.specs.declared.master.MasterRecord.{MasterRecord}
use Rattle.node_record.specs.declared.master.MasterRecord.TheVariants as entry
use Rattle.node_record.specs.Table.{record_at}
use Rattle.home_law.specs.Items.{Server}
use Rattle.home_law.specs.ManyNames.{Mailbox, SentLine as OpenLine}
use Rattle.name_links.specs.Contents.{command_fits, ContentHolds}
use Rattle.name_links.specs.Lines.{is_asked}
use Rattle.name_links.specs.LinkIs.{AreSent, LinkHolds}
use Rattle.name_links.specs.OneLink.{OneLink, server_of}
use Rattle.name_links.specs.Serials.{serial_at, Given, given_at, given_by, SerialsHold, IsMade, CreateMakesOne}
use Rattle.name_links.proofs.BoxLaw.{reserved_serial}
use Rattle.name_links.proofs.ContentTakes.{taken_fits}
use Rattle.name_links.proofs.LinkEvents.{line_is, none_sent}
use Rattle.name_links.proofs.TableTurn.{entry_of, Change, nothing, reserved, activated, deactivated, deleted, line_changes}

module _ (link : OneLink) (given : Given) (it : Tag × MCommand) (ups : List (Tag × MCommand)) (holds : LinkHolds link) (c : ContentHolds link) (e : link.ups ≡ it ∷ ups)
    (line : Tag × OpenLine) (lines : List (Tag × OpenLine)) (first : holds.is.tied.left ≡ line ∷ lines) where
  abbrev b : Server
  b = server_of link

  active_is : (n : Mailbox) (place : Location) (acl : List ℕ) → Change link.table b it.1 → entry_of link.table b it.1 ≡ Some (entry.Active n place acl) → it.1 ≡ command.Activate n place acl
  active_is n place acl (nothing made) g = let no : (let k : Option MasterRecord = None in k ≡ Some (entry.Active n place acl)) = sym made ∙ g in cc
  active_is n place acl (reserved m p is at none made) g = let no : Some (entry.Reserved m p (link.table.serial + 1)) ≡ Some (entry.Active n place acl) = sym made ∙ g in cc
  active_is n place acl (activated m p l is at free made) g = let both : Some (entry.Active m p l) ≡ Some (entry.Active n place acl) = sym made ∙ g in cc
  active_is n place acl (deactivated m p was l at there here active made) g = let no : Some (entry.Inactive m p) ≡ Some (entry.Active n place acl) = sym made ∙ g in cc
  active_is n place acl (deleted m here made) g = let no : Some (entry.Deleted m) ≡ Some (entry.Active n place acl) = sym made ∙ g in cc

  create_makes : (n : Mailbox) (place : Location) (acl : List ℕ) → SerialsHold link.table given → (t : Bool) → t ≡ true → entry_of link.table b it.1 ≡ Some (entry.Active n place acl)
      → command_fits link.table b link.held t (command.Activate n place acl) → IsMade link given it.1 n acl
  create_makes n place acl serials true asked gave f =
      let at : serial_at link.table n ≡ Some f.serial = reserved_serial b (record_at link.table n) f.serial f.reserved in
      record {
        serial = f.serial;
        made = f.made;
        first = f.first;
        gives_it = ap (λ (m : Option MasterRecord). given_by link.table m) gave ∙ ap (λ (z : Option ℕ). given_at n z) at;
        positive = serials.positive n f.serial at;
        new = serials.unused n f.serial at;
      }
  create_makes n place acl serials false asked gave f = cc

  make_one : (n : Mailbox) (place : Location) (acl : List ℕ) → SerialsHold link.table given → is_asked it.0 ≡ true → entry_of link.table b it.1 ≡ Some (entry.Active n place acl)
      → IsMade link given it.1 n acl
  make_one n place acl serials asked gave =
      create_makes n place acl serials (is_asked it.0) asked gave
      (subst (λ (k : MCommand). command_fits link.table b link.held (is_asked it.0) k) (active_is n place acl (line_changes link.table b it.0 it.1 line.1 (line_is link it ups holds.ready holds.is e line lines first)) gave) (taken_fits link it ups holds c e line lines first))

pub create_makes_one : CreateMakesOne
create_makes_one link given it ups n place acl holds c serials e asked gave = by_left holds.is.tied.left refl
  where
    by_left : (ls : List (Tag × OpenLine)) → holds.is.tied.left ≡ ls → IsMade link given it.1 n acl
    by_left [] first =
        absurd (none_sent (server_of link) it ups (subst (λ (us : List (Tag × MCommand)). AreSent (server_of link) [] us) e
        (subst (λ (ls : List (Tag × OpenLine)). AreSent (server_of link) ls link.ups) first holds.is.tied.sent)))
    by_left (line ∷ lines) first = make_one link given it ups holds c e line lines first n place acl serials asked gave

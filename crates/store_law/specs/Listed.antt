-- What LIST tells of a store (RFC 9051, 6.3.9): the mailboxes on which its user has rights, under the names by which they are shown to the user.
use Rattle.std.specs.Prelude.{◌≡◌, ◌≢◌, ◌↔◌, ℕ, true, List, [], ◌∷◌, map, IsSome, Some, codes}
use Rattle.std.specs.List.{Contains}
use Rattle.mur_base.specs.Inbox.{shown_name}
use Rattle.imap_types.specs.declared.command.Command.TheVariants as command
use Rattle.imap_types.specs.declared.reply.Attribute.TheVariants.{NoSelect}
use Rattle.imap_types.specs.declared.reply.Code.TheVariants.{None as no_code}
use Rattle.imap_types.specs.declared.reply.ReplyLine.{ReplyLine}
use Rattle.imap_types.specs.declared.reply.ReplyLine.TheVariants.{Listed}
use Rattle.imap_types.specs.declared.reply.Verdict.TheVariants.{Ok as ok_reply}
use Rattle.name_listing.specs.Listing.{Lines, IsListing, pattern_of}
use Rattle.name_listing.specs.Told.{line_of}
use Rattle.mur_model.specs.declared.session.Sess.{Sess}
use Rattle.mur_model.specs.declared.setting.Setting.{Setting}
use Rattle.mur_model.specs.declared.store.Store.{Store}
use Rattle.mur_model.specs.Act.{Acted, act_of}
use Rattle.mur_model.specs.Rights.{has_rights}
use Rattle.mur_model.specs.Store.{box_at}
use Rattle.store_law.specs.Logins.{session_user}

-- a mailbox is there on which the user has rights, and which is shown to the user under this name
pub record IsShown (setting : Setting) (store : Store) (user shown : List ℕ) : Type 0 where
  pub name : List ℕ
  pub there : IsSome (box_at store name)
  pub may : has_rights setting.users user name ≡ true
  pub so : shown ≡ shown_name user name

-- the lines are the listing of the names that are shown to the user
pub record AreListed (setting : Setting) (store : Store) (user reference mailbox : List ℕ) (lines : List ReplyLine) : Type 0 where
  pub names : List (List ℕ)
  pub shown : (name : List ℕ) → Contains names name ↔ IsShown setting store user name
  pub listed : Lines
  pub listing : IsListing (pattern_of reference mailbox) names listed
  pub told : lines ≡ map line_of listed

-- A LIST changes nothing. An empty mailbox argument asks for the separator alone, which is told as that of the empty name; any other lists.
pub record IsListReply (setting : Setting) (store : Store) (session : Sess) (user reference mailbox : List ℕ) (acted : Acted) : Type 0 where
  pub separator : mailbox ≡ [] → acted.reply.lines ≡ Listed NoSelect [] ∷ []
  pub lists : mailbox ≢ [] → AreListed setting store user reference mailbox acted.reply.lines
  pub verdict : acted.reply.verdict ≡ ok_reply no_code (codes "LIST")
  pub store_stays : acted.store ≡ store
  pub session_stays : acted.session ≡ session

-- in each session of a user, whatever it asks for
abbrev pub ListsMailboxes : Setting → Store → Type 0
ListsMailboxes setting store = (session : Sess) (user reference mailbox : List ℕ) (serial : ℕ) → session_user session ≡ Some user
    → IsListReply setting store session user reference mailbox (act_of setting store session (command.List reference mailbox) serial)

-- What a command needs of the store (RFC 9051, 6): nothing, as it is refused or as this comes of it at once; work at a mailbox; or the names of all.
use Rattle.std.specs.Prelude.{ℕ, ⊤, List}
use Rattle.imap_types.specs.declared.command.StatusItem.{StatusItem}
use Rattle.imap_types.specs.declared.reply.BadText.TheVariants.{Message as no_message}
use Rattle.imap_types.specs.declared.reply.NoText.TheVariants.{Cannot}
use Rattle.imap_types.specs.declared.reply.Verdict.{Verdict}
use Rattle.imap_types.specs.declared.reply.Verdict.TheVariants.{No as no_reply, Bad as bad_reply}
use Rattle.mail_message.specs.declared.message.Message.{Message}
use Rattle.mur_model.specs.declared.commands.list.Listing.{Listing}
use Rattle.mur_model.specs.declared.commands.select.Opening.{Opening}
use Rattle.mur_model.specs.declared.session.Turn.{Turn}
use Rattle.mur_model.specs.declared.view.View.{View}
use Rattle.mur_model.specs.declared.work.ViewWork.{ViewWork}

-- What is to be done at one mailbox: it is made; it is deleted; it gets a message, whose UID isn't told yet; it is told of under a name; it is selected; or
-- what a command of a session that has this view of it does.
pub data Work : Type 0 where
  Make : Work
  Delete : Work
  Append : Message → Work
  Status : List ℕ → List StatusItem → Work
  Select : Opening → Work
  Viewed : View → ViewWork → Work

-- A home does work by itself, in one step; but a mailbox is made and deleted with the master.
unfoldable pub IsOfHome : Work → Type 0
IsOfHome Make = ⊥
IsOfHome Delete = ⊥
IsOfHome work = ⊤

pub data Needed : Type 0 where
  Refusal : Verdict → Needed
  Turned : Turn → Needed
  Mailbox : List ℕ → Work → Needed
  Names : Listing → Needed

-- nothing of the store is needed
unfoldable pub NeedsNothing : Needed → Type 0
NeedsNothing (Refusal verdict) = ⊤
NeedsNothing (Turned turn) = ⊤
NeedsNothing (Mailbox name work) = ⊥
NeedsNothing (Names it) = ⊥

-- work at the mailbox of a view
abbrev pub at_mailbox : View → ViewWork → Needed
at_mailbox view it = Mailbox view.name (Viewed view it)

-- the refusal of a number that no message has
abbrev pub no_such_number : Needed
no_such_number = Refusal (bad_reply no_message)

-- the refusal of a change where the mailbox was selected to be read
abbrev pub read_only : Needed
read_only = Refusal (no_reply Cannot)

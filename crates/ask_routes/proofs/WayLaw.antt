-- Why a command does what it does.
use Rattle.std.proofs.Common.{◌≡◌, ◌≢◌, ℕ, List, Option, None, Some, refl, sym, ap, subst}
use Rattle.feed_core.specs.declared.rec.Rec.{Rec}
use Rattle.feed_core.specs.declared.rec.Rec.TheVariants.{Active, Reserved}
use Rattle.feed_core.specs.Feed.{Recs, rec_at}
use Rattle.feed_core.specs.Routes.{home_for, server_by}
use Rattle.imap_types.specs.declared.op.Op.TheVariants as op
use Rattle.link_msg.specs.declared.answer.AnswerBody.TheVariants as answer
use Rattle.ask_routes.specs.declared.ask_for.AskFor.TheVariants as about
use Rattle.ask_routes.specs.declared.next.Why.{Why}
use Rattle.ask_routes.specs.declared.next.Why.TheVariants as why
use Rattle.ask_routes.specs.Ways.{create_behind, mailbox_behind, mailbox_first}
use Rattle.ask_routes.specs.WayLaws.{EachAbout, IsFirst, EachFirst, EachAnswered, RecordAsks, CreateAsks, is_reserved_if, IsBehind, EachBehind}

-- what an operation is about

pub each_about : EachAbout
each_about name op.Create = (refl, refl)
each_about name op.Look = (refl, λ e. cc)
each_about name (op.Read uids peeks) = (refl, λ e. cc)
each_about name (op.Summaries uids) = (refl, λ e. cc)
each_about name (op.Flags uids mode flags) = (refl, λ e. cc)
each_about name (op.Expunge uids) = (refl, λ e. cc)
each_about name (op.Append messages) = (refl, λ e. cc)
each_about name op.Delete = (refl, λ e. cc)
each_about name (op.Xfer server partition) = (refl, λ e. cc)

-- before anything

first_by : (recs : Recs) (first name : List ℕ) (found : Option Rec) → rec_at recs name ≡ found
    → IsFirst recs first (about.Mailbox name) (mailbox_first (server_by found))
first_by recs first name None is = (refl, is)
first_by recs first name (Some found) is = ap server_by is

pub each_first : EachFirst
each_first recs first (about.Mailbox name) = first_by recs first name (rec_at recs name) refl
each_first recs first (about.Create name) = refl

-- behind an answer

pub each_answered : EachAnswered
each_answered answer.NotNow = (refl, refl)
each_answered (answer.Moved server) = refl
each_answered (answer.Done outcome seen) = (λ e. cc, λ server e. cc)
each_answered (answer.Unreached node) = (λ e. cc, λ server e. cc)
each_answered answer.Lost = (λ e. cc, λ server e. cc)

-- behind the OK

missing_is_other : why.Missing ≢ why.NotNow
missing_is_other e = cc

module _ (recs : Recs) (first name : List ℕ) where
  abbrev MailboxAsks : Why → Option Rec → List ℕ → Type 0
  MailboxAsks it found server = rec_at recs name ≡ found → RecordAsks it found server → RecordAsks it (rec_at recs name) server

  mailbox_asks : (it : Why) (found : Option Rec) (server : List ℕ) → MailboxAsks it found server
  mailbox_asks it found server is asks = subst (λ f. RecordAsks it f server) (sym is) asks

  create_asks : (it : Why) (found : Option Rec) (server : List ℕ) → rec_at recs name ≡ found → CreateAsks (home_for recs first name) it found server
      → CreateAsks (home_for recs first name) it (rec_at recs name) server
  create_asks it found server is asks = subst (λ f. CreateAsks (home_for recs first name) it f server) (sym is) asks

  mailbox_by : (it : Why) (found : Option Rec) → rec_at recs name ≡ found → IsBehind recs first (about.Mailbox name) it (mailbox_behind it found)
  mailbox_by it None is = (name, refl, is)
  mailbox_by it (Some (Active place acl)) is = mailbox_asks it (Some (Active place acl)) place.server is refl
  mailbox_by why.Missing (Some (Reserved place acl)) is = mailbox_asks why.Missing (Some (Reserved place acl)) place.server is (refl, missing_is_other)
  mailbox_by why.NotNow (Some (Reserved place acl)) is = (ap is_reserved_if is, refl)

  create_by : (it : Why) (found : Option Rec) → rec_at recs name ≡ found → IsBehind recs first (about.Create name) it (create_behind recs first name it found)
  create_by it None is = create_asks it None (home_for recs first name) is refl
  create_by it (Some (Active place acl)) is = create_asks it (Some (Active place acl)) place.server is refl
  create_by why.Missing (Some (Reserved place acl)) is = create_asks why.Missing (Some (Reserved place acl)) place.server is (refl, missing_is_other)
  create_by why.NotNow (Some (Reserved place acl)) is = (ap is_reserved_if is, refl)

pub each_behind : EachBehind
each_behind recs first (about.Mailbox name) it = mailbox_by recs first name it (rec_at recs name) refl
each_behind recs first (about.Create name) it = create_by recs first name it (rec_at recs name) refl

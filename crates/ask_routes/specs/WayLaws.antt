-- Why a command does what it does, at each of its moments: nothing is told of a mailbox before the OK of a barrier.
use Rattle.std.specs.Prelude.{◌≡◌, ◌≢◌, ℕ, Bool, true, false, List, Option, None, Some}
use Rattle.feed_core.specs.declared.rec.Rec.{Rec}
use Rattle.feed_core.specs.declared.rec.Rec.TheVariants.{Active, Reserved}
use Rattle.feed_core.specs.Feed.{Recs, rec_at}
use Rattle.feed_core.specs.Routes.{home_for, server_at}
use Rattle.imap_types.specs.declared.op.Op.{Op}
use Rattle.imap_types.specs.declared.op.Op.TheVariants as op
use Rattle.link_msg.specs.declared.answer.AnswerBody.{AnswerBody}
use Rattle.link_msg.specs.declared.answer.AnswerBody.TheVariants as answer
use Rattle.ask_routes.specs.declared.ask_for.AskFor.{AskFor}
use Rattle.ask_routes.specs.declared.ask_for.AskFor.TheVariants as about
use Rattle.ask_routes.specs.declared.next.Next.{Next}
use Rattle.ask_routes.specs.declared.next.Next.TheVariants as next
use Rattle.ask_routes.specs.declared.next.Why.{Why}
use Rattle.ask_routes.specs.declared.next.Why.TheVariants as why
use Rattle.ask_routes.specs.Ways.{ask_for, behind_answer, behind_ok, first_step}

-- ---- what an operation is about: CREATE alone is about a new mailbox

abbrev pub IsAbout : List ℕ → Op → AskFor → Type 0
IsAbout name it (about.Mailbox own) = (own ≡ name) × (it ≢ op.Create)
IsAbout name it (about.Create own) = (own ≡ name) × (it ≡ op.Create)

abbrev pub EachAbout : Type 0
EachAbout = (name : List ℕ) (it : Op) → IsAbout name it (ask_for name it)

-- ---- before anything

-- the name has a record at this server, or a new mailbox of the name is made there
abbrev pub AsksFirst : Recs → List ℕ → AskFor → List ℕ → Type 0
AsksFirst recs first (about.Mailbox name) server = server_at recs name ≡ Some server
AsksFirst recs first (about.Create name) server = server ≡ home_for recs first name

-- the command is at a mailbox whose name has no record
abbrev pub WaitsFirst : Recs → AskFor → Why → Type 0
WaitsFirst recs (about.Mailbox name) it = (it ≡ why.Missing) × (rec_at recs name ≡ None)
WaitsFirst recs (about.Create name) it = ⊥

abbrev pub IsFirst : Recs → List ℕ → AskFor → Next → Type 0
IsFirst recs first what (next.Ask server) = AsksFirst recs first what server
IsFirst recs first what (next.Barrier it) = WaitsFirst recs what it
IsFirst recs first what next.Missing = ⊥
IsFirst recs first what next.Refused = ⊥

abbrev pub EachFirst : Type 0
EachFirst = (recs : Recs) (first : List ℕ) (what : AskFor) → IsFirst recs first what (first_step recs first what)

-- ---- behind an answer of the home

abbrev pub IsAnswered : AnswerBody → Option Next → Type 0
IsAnswered body None = (body ≢ answer.NotNow) × ((server : List ℕ) → body ≢ answer.Moved server)
IsAnswered body (Some (next.Ask server)) = body ≡ answer.Moved server
IsAnswered body (Some (next.Barrier it)) = (body ≡ answer.NotNow) × (it ≡ why.NotNow)
IsAnswered body (Some next.Missing) = ⊥
IsAnswered body (Some next.Refused) = ⊥

abbrev pub EachAnswered : Type 0
EachAnswered = (body : AnswerBody) → IsAnswered body (behind_answer body)

-- ---- behind the OK of the barrier: the command doesn't wait again

abbrev pub name_of : AskFor → List ℕ
name_of (about.Mailbox name) = name
name_of (about.Create name) = name

-- the record names this server; a reserved one isn't asked again for a home that couldn't serve it
abbrev pub RecordAsks : Why → Option Rec → List ℕ → Type 0
RecordAsks it None server = ⊥
RecordAsks it (Some (Active place acl)) server = server ≡ place.server
RecordAsks it (Some (Reserved place acl)) server = (server ≡ place.server) × (it ≢ why.NotNow)

-- for CREATE of a name without a record a new mailbox of the name is made there
abbrev pub CreateAsks : List ℕ → Why → Option Rec → List ℕ → Type 0
CreateAsks home it None server = server ≡ home
CreateAsks home it (Some found) server = RecordAsks it (Some found) server

abbrev pub AsksBehind : Recs → List ℕ → AskFor → Why → List ℕ → Type 0
AsksBehind recs first (about.Mailbox name) it server = RecordAsks it (rec_at recs name) server
AsksBehind recs first (about.Create name) it server = CreateAsks (home_for recs first name) it (rec_at recs name) server

abbrev pub is_reserved_if : Option Rec → Bool
is_reserved_if None = false
is_reserved_if (Some (Active place acl)) = false
is_reserved_if (Some (Reserved place acl)) = true

abbrev pub IsBehind : Recs → List ℕ → AskFor → Why → Next → Type 0
IsBehind recs first what it (next.Ask server) = AsksBehind recs first what it server
IsBehind recs first what it (next.Barrier again) = ⊥
IsBehind recs first what it next.Missing = (name : List ℕ) × (what ≡ about.Mailbox name) × (rec_at recs name ≡ None)
IsBehind recs first what it next.Refused = (is_reserved_if (rec_at recs (name_of what)) ≡ true) × (it ≡ why.NotNow)

abbrev pub EachBehind : Type 0
EachBehind = (recs : Recs) (first : List ℕ) (what : AskFor) (it : Why) → IsBehind recs first what it (behind_ok recs first what it)

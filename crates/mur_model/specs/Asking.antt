-- What the home of a mailbox is asked for some work there, and what is awaited then. The answer of a home, and not the mailbox, is what a session has.
use Rattle.std.specs.Prelude.{ℕ, ⊤, Bool, true, false, List, [], ◌∷◌, Option, None, Some, IsSome}
use Rattle.imap_types.specs.declared.op.Op.{Op}
use Rattle.imap_types.specs.declared.op.Op.TheVariants.{Look, Create as create_op, Delete as delete_op, Append as append_op, Expunge as expunge_op, Flags as flags_op, Read as read_op}
use Rattle.imap_types.specs.declared.op.Op.TheVariants.{Summaries as summaries_op}
use Rattle.mur_model.specs.declared.commands.fetch.Fetching.{Fetching}
use Rattle.mur_model.specs.declared.need.Asking.{Asking}
use Rattle.mur_model.specs.declared.need.Awaited.{Awaited}
use Rattle.mur_model.specs.declared.need.Awaited.TheVariants as awaited
use Rattle.mur_model.specs.declared.need.Need.{Need}
use Rattle.mur_model.specs.declared.need.Need.TheVariants.{Reply, Leave, Home, Names}
use Rattle.mur_model.specs.declared.session.Sess.{Sess}
use Rattle.mur_model.specs.declared.session.Sess.TheVariants.{Selected}
use Rattle.mur_model.specs.declared.view.View.{View}
use Rattle.mur_model.specs.declared.work.ViewWork.{ViewWork}
use Rattle.mur_model.specs.declared.work.ViewWork.TheVariants.{News, Close, Expunge, Store, Fetch, Search}
use Rattle.mur_model.specs.ClientView.{uids as uids_of}
use Rattle.mur_model.specs.Fetch.{sees}
use Rattle.mur_model.specs.FetchRows.{asks_rows}
use Rattle.mur_model.specs.FetchSummaries.{asks_summaries}
use Rattle.mur_model.specs.Needed.{Work, Make, Delete, Append, Status, Select, Viewed}
use Rattle.mur_model.specs.SearchRows.{are_keys_in_rows}

-- what rows tell needs no message, and what summaries tell no body
unfoldable pub fetch_op : View → Fetching → Bool → Bool → Op
fetch_op view it true summaries = Look
fetch_op view it false true = summaries_op it.uids
fetch_op view it false false = read_op it.uids (sees view it)

unfoldable pub search_op : View → Bool → Op
search_op view true = Look
search_op view false = summaries_op (uids_of view.rows)

-- the operation of a command of a selected session
unfoldable pub view_op : View → ViewWork → Op
view_op view (News why) = Look
view_op view Close = expunge_op None
view_op view (Expunge only) = expunge_op only
view_op view (Store it) = flags_op it.uids it.mode it.flags
view_op view (Fetch it) = fetch_op view it (asks_rows it) (asks_summaries it)
view_op view (Search it) = search_op view (are_keys_in_rows it.keys)

-- an ask for which no selected mailbox matters names no UIDVALIDITY
abbrev pub unselected : Op → Awaited → Asking
unselected op it = record { op = op; selected = None; awaited = it }

-- an ask of a session that has a mailbox selected names its UIDVALIDITY (RFC 9051, 2.3.1.1)
unfoldable pub asked_for : List ℕ → Work → Asking
asked_for name Make = unselected create_op awaited.Create
asked_for name Delete = unselected delete_op awaited.Delete
asked_for name (Append message) = unselected (append_op (message ∷ [])) awaited.Append
asked_for name (Status shown items) = unselected Look (awaited.Status shown items)
asked_for name (Select it) = unselected Look (awaited.Select name it)
asked_for name (Viewed view it) = record { op = view_op view it; selected = Some view.serial; awaited = awaited.Viewed it }

-- the work for which a session asked so, if there is such work

unfoldable pub appended_for : Op → Option Work
appended_for (append_op (message ∷ [])) = Some (Append message)
appended_for op = None

unfoldable pub viewed_for : Sess → ViewWork → Option Work
viewed_for (Selected view) it = Some (Viewed view it)
viewed_for session it = None

unfoldable pub work_for : Sess → Op → Awaited → Option Work
work_for session op awaited.Create = Some Make
work_for session op awaited.Delete = Some Delete
work_for session op awaited.Append = appended_for op
work_for session op (awaited.Status shown items) = Some (Status shown items)
work_for session op (awaited.Select name it) = Some (Select it)
work_for session op (awaited.Viewed it) = viewed_for session it

-- a session asks a home for work alone
unfoldable pub HasWork : Sess → Need → Type 0
HasWork session (Reply reply) = ⊤
HasWork session (Leave reply) = ⊤
HasWork session (Home name asking) = IsSome (work_for session asking.op asking.awaited)
HasWork session (Names it) = ⊤

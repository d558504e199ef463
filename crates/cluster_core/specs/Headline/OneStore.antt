-- The one-store law: what each client was given is what one mailbox store replies to the printed history, at every step.
use Rattle.std.specs.Prelude.{◌≡◌, ◌⊎◌, ℕ, ◌+◌, ◌≤◌, true, false, List, [], ◌∷◌, ◌++◌, length, Option, None, Some, IfSome, All, AllPairs}
use Rattle.std.specs.List.{list_any}
use Rattle.mail_store.specs.Kept.{AreUidsBelowNext}
use Rattle.imap_talk.specs.Transcript.{Stop, transcript_till, ends}
use Rattle.imap_talk.specs.Transcript.Stop.{is_lost, silent}
use Rattle.imap_talk.specs.TranscriptRead.{IsAllReadTill}
use Rattle.mail_message.specs.Boxes.{Content, IsRising}
use Rattle.mark_history.specs.FirstCourse.{first_course}
use Rattle.mark_history.specs.Reached.{IsReached}
use Rattle.mur_base.specs.declared.home.Location.{Location}
use Rattle.name_links.specs.Contents.{acl_in, content_in}
use Rattle.node_record.specs.Held.{held_at}
use Rattle.node_record.specs.declared.table.Record.{Record}
use Rattle.node_record.specs.declared.table.State.{State}
use Rattle.node_record.specs.declared.table.State.TheVariants.{Bare, Kept, Active}
use Rattle.node_record.specs.Table.{record_at}
use Rattle.mur_base.specs.declared.point.Point.{Point}
use Rattle.mur_config.specs.declared.config.Config.{Config}
use Rattle.imap_types.specs.declared.request.Answer.{Answer}
use Rattle.imap_types.specs.declared.request.Request.{Request}
use Rattle.mur_model.specs.declared.store.Pair.{Pair}
use Rattle.mur_model.specs.declared.store.Store.{Store}
use Rattle.mur_model.specs.History.{Course, Talk, TalkGoesOn, IsLegal}
use Rattle.mur_model.specs.Store.{box_at}
use Rattle.schedule_text.specs.declared.event.Event.{Event}
use Rattle.schedule_text.specs.declared.event.Event.TheVariants.{Cut}
use Rattle.cluster_core.specs.declared.world.World.{World}
use Rattle.store_law.specs.Begun.{BeginsAsRead}
use Rattle.store_law.specs.Logins.{BeginsByLogin}
use Rattle.front_core.specs.Ending.{EndsOnlyLast}
use Rattle.store_law.specs.Appended.{KeepsAppended}
use Rattle.store_law.specs.DoneIsDone.{DoesWhatItSays}
use Rattle.cluster_core.specs.Flow.{run_steps, steps_of_run}
use Rattle.cluster_core.specs.Heard.{heard}
use Rattle.imap_talk.specs.Heard.{bytes_heard, frames_heard, has_closed}
use Rattle.cluster_core.specs.History.{history_of}
use Rattle.cluster_core.specs.Headline.Homes.{ShowsBoxesOf}
use Rattle.cluster_core.specs.Headline.Outside.{guest_of, is_guest, table_at}
use Rattle.cluster_core.specs.Headline.Refusals.{AreReserved}
use Rattle.cluster_core.specs.Headline.Routing.{AreRouted}
use Rattle.cluster_core.specs.Headline.Serials.{reserves_taken}
use Rattle.cluster_core.specs.Headline.WaitedFor.{IsWaitedFor}
use Rattle.cluster_core.specs.LawSetting.{law_setting}
use Rattle.link_queue.specs.Links.{on_link}
use Rattle.store_law.specs.Refusals.{HaveCauses}
use Rattle.store_law.specs.NoneLost.{LosesNone}
use Rattle.store_law.specs.OthersUnseen.{KeepsToItsOwn}
use Rattle.store_law.specs.Examined.{ReadsWhatIsExamined}
use Rattle.store_law.specs.Lines.{SpeaksByNumbers}
use Rattle.store_law.specs.Listed.{ListsMailboxes}
use Rattle.store_law.specs.Mirror.{ViewsAreTold}
use Rattle.store_law.specs.NewsTold.{NewsAreTold}
use Rattle.cluster_core.specs.Headline.Points.{AreMadeBy, LosesTheNext}
use Rattle.imap_talk.specs.Requests.{AreRequests}
use Rattle.cluster_core.specs.Shown.{given_to, held_at_node}
use Rattle.cluster_core.specs.World.{master_of, may_cut, start}

-- what the server of a record has of the name, if the record has an access list: a name that was never active is no mailbox
abbrev pub box_in : World → List ℕ → Location → State → Option Content
box_in world name place (Bare serial) = None
box_in world name place (Kept acl) = content_in (held_at (held_at_node world place.server) name)
box_in world name place (Active acl) = content_in (held_at (held_at_node world place.server) name)

abbrev pub box_by : World → List ℕ → Option Record → Option Content
box_by world name None = None
box_by world name (Some it) = box_in world name it.place it.state

-- the mailbox of a name, by the master's record of it
abbrev pub box_of_name : Config → World → List ℕ → Option Content
box_of_name config world name = box_by world name (record_at (table_at world (master_of config)) name)

-- one content: the store has of each name the mailbox that the server of its record has, in whatever phase, and none where there is no such record
abbrev pub HasBoxesOf : Config → Store → World → Type 0
HasBoxesOf config store world = (name : List ℕ) → box_at store name ≡ box_of_name config world name

abbrev pub rights_by : Option Record → Option (List ℕ)
rights_by None = None
rights_by (Some it) = acl_in (Some it.state)

-- each mailbox, being made, open or closed, has the access list that the master's record of its name tells (RFC 3656, 4.1)
abbrev pub HasItsRights : Config → Store → World → Type 0
HasItsRights config store world = (name : List ℕ) (box : Content) → box_at store name ≡ Some box
    → rights_by (record_at (table_at world (master_of config)) name) ≡ Some box.acl

-- no message is on its way
abbrev pub AreEmpty : World → Type 0
AreEmpty world = (from to : List ℕ) → on_link world.links from to ≡ []

-- each request was answered, or an answer ended the connection: behind a BYE nothing is answered (RFC 9051, 7.1.5)
abbrev pub IsAnsweredThrough : List Request → List Answer → Type 0
IsAnsweredThrough requests answers = (length answers ≡ length requests) ⊎ (list_any (λ (answer : Answer). ends answer.reply) answers ≡ true)

-- in time: of the whole history, the points up to this step stand behind their commands, and every command that was answered
-- by now has its point here
pub record StandsInTime (talk : Talk) (now : ℕ) (points : List Point) : Type 0 where
  pub behind_command : All (λ (point : Point). point.step ≤ now → point.ask.command ≤ length (talk.requests point.ask.conn)) points
  pub before_reply : All (λ (point : Point). point.ask.command ≤ length (talk.answers point.ask.conn) → point.step ≤ now) points

-- a link has broken in these steps
pub record HasCut (config : Config) (steps : List Event) : Type 0 where
  pub before : List Event
  pub one : List ℕ
  pub other : List ℕ
  pub kept : ℕ
  pub kept_back : ℕ
  pub later : List Event
  pub parts : steps ≡ before ++ Cut one other kept kept_back ∷ later
  pub may : may_cut (run_steps (start config) before) one other ≡ true

-- after these steps of a run whose whole history is this: so far the clients asked and were answered a front of what they are
-- in the whole run; each client was given its transcript; and one store that takes the requests of the points one at a time, in
-- each session's order, gave these answers and has the mailboxes that the homes have
pub record IsToldSoFar (config : Config) (talk : Talk) (points : List Point) (steps : List Event) (world : World) : Type 0 where
  pub so_far : Talk
  pub goes_on : TalkGoesOn so_far talk
  pub asked : (conn : ℕ) → AreRequests (law_setting config) (frames_heard (heard config conn steps)) (so_far.requests conn)
  -- where what a client is given stops: silently, or with the line that its command is lost
  pub stops : ℕ → Stop
  -- of each client that doesn't talk with the master
  pub given : (conn : ℕ) → is_guest (guest_of config conn steps) ≡ false
      → given_to world conn ≡ transcript_till (stops conn) (law_setting config) (bytes_heard (heard config conn steps)) (so_far.answers conn)
  -- no text of a user forges a reply: each client reads just the greeting, the continuations and the lines of these answers
  pub read : (conn : ℕ) → is_guest (guest_of config conn steps) ≡ false
      → IsAllReadTill (stops conn) (law_setting config) (given_to world conn) (bytes_heard (heard config conn steps)) (so_far.answers conn)
  pub ends_only_last : (conn : ℕ) → EndsOnlyLast (so_far.answers conn)
  pub last : Course
  pub legal : IsLegal (law_setting config) first_course so_far (history_of world) last
  -- before any link has broken no command is lost to its client, and each server is reached
  pub stops_late : HasCut config steps ⊎ ((conn : ℕ) → stops conn ≡ silent)
  pub reached : HasCut config steps ⊎ All IsReached (history_of world)
  pub refusals : HaveCauses so_far (history_of world)
  pub one_content : HasBoxesOf config last.store world
  pub rights : HasItsRights config last.store world
  pub homes_shown : ShowsBoxesOf config last.store world
  -- each message has a UID of its own, below its mailbox's UIDNEXT (RFC 9051, 2.3.1.1), and no command, whoever sends it, loses one or
  -- its flags, but where it is for that
  pub below_next : (name : List ℕ) → IfSome (box_at last.store name) AreUidsBelowNext
  pub uids_rise : (name : List ℕ) → IfSome (box_at last.store name) (λ box. IsRising box.messages)
  pub none_lost : LosesNone (law_setting config) last.store
  -- and what an APPEND was answered OK for is there
  pub appended_there : KeepsAppended (law_setting config) last.store
  -- and what any other command was answered OK for is done
  pub done : DoesWhatItSays (law_setting config) last.store
  -- whatever a client asks, its user learns nothing of a mailbox on which they have no rights, and changes nothing in it
  pub others_unseen : (conn : ℕ) → KeepsToItsOwn (law_setting config) last.store (last.sessions conn)
  -- a LIST tells the mailboxes on which its user has rights, as they are shown to the user, and changes nothing (RFC 9051, 6.3.9)
  pub lists : ListsMailboxes (law_setting config) last.store
  -- what a client concludes of its mailbox from the lines that it is given is so of its session's view (RFC 9051, 2.3.1.2)
  pub views_told : ViewsAreTold so_far (history_of world) last
  -- and of its mailbox as it is then, once it is answered OK a NOOP or another command behind which it is told all (RFC 9051, 5.2 and 6.1.2)
  pub news_told : NewsAreTold (law_setting config) so_far (history_of world) last
  -- UIDVALIDITYs are given one by one (RFC 9051, 2.3.1.1): none is above the number of RESERVEs that the master has taken
  pub low_serials : All (λ (pair : Pair). pair.serial ≤ reserves_taken config steps) last.store.given
  -- which points there may be
  pub lost_next : LosesTheNext so_far (history_of world)
  pub made_by_now : AreMadeBy world.steps (history_of world)
  pub in_time : StandsInTime so_far world.steps points
  -- and at which steps they stand
  pub routed : AreRouted config so_far steps (history_of world)
  -- steps count from 1: the last one has the number of the steps made
  pub counted : world.steps ≡ length steps
  -- nothing waits on empty links: then each whole command of a client that hasn't closed its connection was answered, up to an
  -- answer that ended the connection, or to a command that was lost
  pub nothing_waits : AreEmpty world → (conn : ℕ) → has_closed (heard config conn steps) ≡ false
      → IsAnsweredThrough (so_far.requests conn) (so_far.answers conn) ⊎ (stops conn ≡ is_lost)
  -- and whatever is on its way: of a client that hasn't closed its connection the first whole command that wasn't answered waits
  pub next_waits : (conn : ℕ) → has_closed (heard config conn steps) ≡ false → stops conn ≡ silent → (IsAnsweredThrough (so_far.requests conn) (so_far.answers conn) → ⊥)
      → IsWaitedFor world (record { conn = conn; command = length (so_far.answers conn) + 1 })

-- at every step, each delivery of a flow being one; so a point stands at a step that is not before the one whose bytes
-- completed its command, and not behind the one that gave its reply: a command that was answered before another one was sent
-- stands before it, whoever sent them (linearizability)
pub record IsToldByOneStore (config : Config) (events : List Event) : Type 0 where
  pub begins_as_read : BeginsAsRead (law_setting config)
  -- what EXAMINE selected stays as it is (RFC 9051, 6.3.3)
  pub examined_stays : ReadsWhatIsExamined (law_setting config)
  -- `* n FETCH` speaks of the message that stands at n in what was told (RFC 9051, 7.5.2)
  pub speaks_by_numbers : SpeaksByNumbers (law_setting config)
  -- a session begins by the login of a user of the configuration, and stays this user's
  pub begins_by_login : BeginsByLogin config.users (law_setting config)
  pub talk : Talk
  -- a mailbox is being moved where the master has its name reserved: only there is a command refused for that
  pub moving : AreReserved config (steps_of_run config events) talk.moving
  pub at_each_step : (before later : List Event) → steps_of_run config events ≡ before ++ later
      → IsToldSoFar config talk (history_of (run_steps (start config) (steps_of_run config events))) before (run_steps (start config) before)
  pub steps_rise : AllPairs (λ (earlier later : Point). earlier.step ≤ later.step)
      (history_of (run_steps (start config) (steps_of_run config events)))

-- Where a connection stands: what its client was told of what the one store replied, and at most one command waits, of which its place tells.
use Rattle.std.specs.Prelude.{◌≡◌, ◌⊎◌, ℕ, ◌+◌, ◌≤◌, true, false, List, [], ◌∷◌, ◌++◌, length, Option, None, Some}
use Rattle.asking_core.specs.declared.waiting.At.{At}
use Rattle.asking_core.specs.declared.waiting.At.TheVariants.{Home, Barrier as at_master}
use Rattle.front_core.specs.Ending.{EndsOnlyLast}
use Rattle.front_core.specs.Reading.{Reading as Read}
use Rattle.front_core.specs.declared.connection.Connection.{Connection}
use Rattle.front_core.specs.declared.connection.Stage.TheVariants.{Reading, Waits, Lists as lists_names, Ended}
use Rattle.front_core.proofs.OneConnection.Readings.{FaultsLast}
use Rattle.imap_talk.specs.SessionEnds.{has_ended}
use Rattle.imap_talk.specs.Transcript.{ends}
use Rattle.imap_talk.proofs.TranscriptGrows.{AreAnswered}
use Rattle.imap_talk.specs.declared.inputs.Input.{Input}
use Rattle.imap_talk.specs.declared.inputs.Input.TheVariants.{Asks}
use Rattle.imap_talk.specs.Inputs.{requests_in}
use Rattle.imap_types.specs.declared.command.Command.{Command}
use Rattle.imap_types.specs.declared.command.Tag.{Tag}
use Rattle.imap_types.specs.declared.request.Answer.{Answer}
use Rattle.imap_types.specs.declared.request.Request.{Request}
use Rattle.imap_types.specs.declared.request.Request.TheVariants.{Command as a_command}
use Rattle.mur_base.specs.declared.point.AskId.{AskId}
use Rattle.mur_model.specs.declared.commands.list.Listing.{Listing}
use Rattle.mur_model.specs.declared.session.Sess.{Sess}
use Rattle.mur_model.specs.declared.setting.Setting.{Setting}
use Rattle.mur_model.specs.Act.{need_of}
use Rattle.mur_model.specs.History.{numbered}
use Rattle.mur_model.specs.Needed.{Names}
use Rattle.point_links.specs.Commands.{ClientCommand}
use Rattle.cluster_core.proofs.Commands.Knows.{Knows, KnowsNames}
use Rattle.cluster_core.proofs.Commands.Place.{Place, Place as place}

-- the reader has begun so; one of a connection that has ended reads no more
abbrev pub HasBegunSo : Connection → Read → Type 0
HasBegunSo connection reading = (connection.stage ≡ Ended) ⊎ (connection.reader ≡ reading)

-- the next command of a connection whose client was told so much
abbrev pub next_id : ℕ → List Answer → AskId
next_id conn told = record { conn = conn; command = length told + 1 }

-- what is fixed of the nodes: the master, and the server of a new mailbox without a name above it
pub record Fixed : Type 0 where
  pub setting : Setting
  pub master : List ℕ
  pub first : List ℕ

-- the command of this number, of a session that was so
pub record IsCommandOf (fixed : Fixed) (conn : ℕ) (told : List Answer) (was : Sess) (c : ClientCommand) : Type 0 where
  pub setting_is : c.setting ≡ fixed.setting
  pub its : c.id ≡ next_id conn told
  pub was_is : c.was ≡ was

-- its frontend waits for whom its place is with
abbrev pub WaitsAt : At → Place → Type 0
WaitsAt at place.nowhere = ⊥
WaitsAt at (place.is_asked server ask) = at ≡ Home server
WaitsAt at (place.is_answered server answer) = at ≡ Home server
WaitsAt at (place.is_dropped server) = at ≡ Home server
WaitsAt at (place.is_at me name) = at ≡ Home me.server
WaitsAt (Home server) (place.is_barred barrier) = ⊥
WaitsAt (at_master cause) (place.is_barred barrier) = Unit {0}

-- a command waits at its frontend, and behind it the inputs that came since
pub record Waiting (fixed : Fixed) (front : List ℕ) (conn : ℕ) (inputs : List Input) (held : Option (List ℕ)) (connection : Connection)
    (told said : List Answer) (session : Sess) (here : Place) : Type 0 where
  pub passed : List Input
  pub request : Request
  pub tag : Tag
  pub c : ClientCommand
  pub of : IsCommandOf fixed conn told connection.session c
  pub stage : connection.stage ≡ Waits tag c.waiting
  pub at : WaitsAt c.waiting.at here
  pub parts : inputs ≡ passed ++ Asks request ∷ connection.waiting
  pub lasts : has_ended connection.session ≡ false
  pub answered : AreAnswered passed told
  pub is : request ≡ a_command tag c.it
  pub last : FaultsLast connection.waiting held
  pub knows : Knows fixed.master fixed.first front c tag told said session here

-- a request is the next to be answered, and behind it wait the inputs that came since
pub record IsNext (inputs : List Input) (held : Option (List ℕ)) (connection : Connection) (told : List Answer) (tag : Tag) (it : Command) : Type 0 where
  pub passed : List Input
  pub request : Request
  pub parts : inputs ≡ passed ++ Asks request ∷ connection.waiting
  pub answered : AreAnswered passed told
  pub is : request ≡ a_command tag it
  pub last : FaultsLast connection.waiting held

-- a LIST waits at its frontend for the master's OK
pub record Lists (fixed : Fixed) (inputs : List Input) (held : Option (List ℕ)) (connection : Connection) (told said : List Answer) (session : Sess)
    (here : Place) : Type 0 where
  pub tag : Tag
  pub it : Command
  pub listing : Listing
  pub need : need_of fixed.setting connection.session it ≡ Names listing
  pub stage : connection.stage ≡ lists_names tag listing
  pub lasts : has_ended connection.session ≡ false
  pub next : IsNext inputs held connection told tag it
  pub knows : KnowsNames tag listing connection.session told said session here

-- a connection of a client that hasn't closed it: it reads, a command waits, a fault ended it, or its session ended with an answer
pub data Stands (fixed : Fixed) (front : List ℕ) (conn : ℕ) (inputs : List Input) (held : Option (List ℕ)) (connection : Connection)
    (told said : List Answer) (session : Sess) (here : Place) : Type 0 where
  reads : connection.stage ≡ Reading → connection.waiting ≡ [] → connection.session ≡ session → has_ended session ≡ false → AreAnswered inputs told
      → said ≡ told → here ≡ place.nowhere → Stands fixed front conn inputs held connection told said session here
  waits : Waiting fixed front conn inputs held connection told said session here
      → Stands fixed front conn inputs held connection told said session here
  lists : Lists fixed inputs held connection told said session here → Stands fixed front conn inputs held connection told said session here
  faulted : connection.stage ≡ Ended → held ≡ None → length (requests_in inputs) ≡ length told → said ≡ told
      → EndsOnlyLast told → here ≡ place.nowhere → Stands fixed front conn inputs held connection told said session here
  finished : (passed more : List Input) (request : Request) (before : List Answer) (last : Answer) → connection.stage ≡ Ended
      → inputs ≡ passed ++ Asks request ∷ more → AreAnswered passed before → told ≡ before ++ last ∷ [] → ends last.reply ≡ true → said ≡ told
      → here ≡ place.nowhere → Stands fixed front conn inputs held connection told said session here

-- a command that waited when its client closed the connection
pub record LeftWaiting (fixed : Fixed) (front : List ℕ) (conn : ℕ) (requests : List Request) (told said : List Answer) (session : Sess) (here : Place)
    : Type 0 where
  pub tag : Tag
  pub c : ClientCommand
  pub of : IsCommandOf fixed conn told c.was c
  pub next : numbered requests (length told + 1) ≡ Some (a_command tag c.it)
  pub knows : Knows fixed.master fixed.first front c tag told said session here

-- a LIST that waited then, of a session that was so
pub record LeftListing (fixed : Fixed) (requests : List Request) (told said : List Answer) (session : Sess) (here : Place) : Type 0 where
  pub tag : Tag
  pub it : Command
  pub listing : Listing
  pub was : Sess
  pub need : need_of fixed.setting was it ≡ Names listing
  pub next : numbered requests (length told + 1) ≡ Some (a_command tag it)
  pub knows : KnowsNames tag listing was told said session here

-- what a connection leaves whose client closed it, or that ended as its command was lost: nothing but an answer that comes no more, or a command that waits
pub data IsLeft (fixed : Fixed) (front : List ℕ) (conn : ℕ) (requests : List Request) (told said : List Answer) (session : Sess) (here : Place)
    : Type 0 where
  nothing : (rest : List Answer) → said ≡ told ++ rest → length rest ≤ 1 → here ≡ place.nowhere → IsLeft fixed front conn requests told said session here
  left_waiting : LeftWaiting fixed front conn requests told said session here → IsLeft fixed front conn requests told said session here
  left_listing : LeftListing fixed requests told said session here → IsLeft fixed front conn requests told said session here

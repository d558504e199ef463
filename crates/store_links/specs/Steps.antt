-- What a step of a backend is to the one store: a message step is one of the store's, and what comes of CREATE and DELETE is nothing, for these are done
-- where the master takes their lines.
use Rattle.std.specs.Prelude.{◌≡◌, ◌≢◌, ◌∷◌, List, Some}
use Rattle.mail_message.specs.declared.change.Change.{Change}
use Rattle.mur_model.specs.declared.store.Store.{Store}
use Rattle.mupdate_codec.specs.declared.command.MResponse.{MResponse}
use Rattle.mupdate_codec.specs.declared.tag.Tag.{Tag}
use Rattle.node_record.specs.declared.backend.BackendRecord.{BackendRecord}
use Rattle.node_record.specs.Held.{Names}
use Rattle.home_law.specs.Items.{Server}
use Rattle.home_law.specs.ManyNames.{Mailbox}
use Rattle.name_flows.specs.declared.ask.NameAsk.{NameAsk}
use Rattle.name_links.specs.Contents.{ContentHolds}
use Rattle.name_links.specs.LinkIs.{LinkHolds}
use Rattle.name_links.specs.OneLink.{OneLink, server_of, asks, hears, IsMessageStep, serves}
use Rattle.store_links.specs.HeldEntries.{changes_in, IsChanged}
use Rattle.store_links.specs.Shown.{Homes, Shows}

-- the backend of the link has these names now, and each other one what it had
pub record IsNow (link : OneLink) (homes then : Homes) (held : Names) : Type 0 where
  pub was : homes (server_of link) ≡ link.held
  pub own : then (server_of link) ≡ held
  pub others : (q : Server) → q ≢ server_of link → then q ≡ homes q

-- a frontend's ask for CREATE or DELETE
abbrev pub AsksAreNothing : Type 0
AsksAreNothing = (link : OneLink) (homes then : Homes) (store : Store) (ask : NameAsk) → IsNow link homes then (asks link ask).held
    → Shows link.table homes store
    → Shows link.table then store

-- a response of the master
abbrev pub HearsAreNothing : Type 0
HearsAreNothing = (link : OneLink) (homes then : Homes) (store : Store) (it : Tag × MResponse) (downs : List (Tag × MResponse)) → LinkHolds link
    → ContentHolds link
    → link.downs ≡ it ∷ downs → IsNow link homes then (hears link it downs).held → Shows link.table homes store → Shows link.table then store

-- messages of an open mailbox
abbrev pub MessageStepsAreOne : Type 0
MessageStepsAreOne = (link : OneLink) (homes then : Homes) (store : Store) (it : BackendRecord) (n : Mailbox) (changes : List Change) → LinkHolds link
    → IsMessageStep link.held it → changes_in it ≡ Some (n, changes) → IsNow link homes then (serves link it).held → Shows link.table homes store
    → IsChanged link.table then store (server_of link) n changes

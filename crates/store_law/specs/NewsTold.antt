-- What a client knows once it was answered OK a command behind which it is told all that has changed (RFC 9051, 5.2, 6.1.2 and 7).
use Rattle.std.specs.Prelude.{◌≡◌, ℕ, ⊤, Bool, true, false, List, [], map, Some}
use Rattle.mail_message.specs.Boxes.{Content, row_of}
use Rattle.mur_base.specs.declared.point.Point.{Point}
use Rattle.imap_types.specs.declared.command.Command.{Command}
use Rattle.imap_types.specs.declared.command.Command.TheVariants as command
use Rattle.imap_types.specs.declared.reply.Code.{Code}
use Rattle.imap_types.specs.declared.reply.Verdict.TheVariants.{Ok as ok_reply}
use Rattle.mur_model.specs.declared.session.Sess.{Sess}
use Rattle.mur_model.specs.declared.session.Sess.TheVariants.{Selected as selected}
use Rattle.mur_model.specs.declared.setting.Setting.{Setting}
use Rattle.mur_model.specs.declared.store.Store.{Store}
use Rattle.mur_model.specs.declared.view.View.{View}
use Rattle.mur_model.specs.Act.{act_of}
use Rattle.mur_model.specs.History.{Course, Talk}
use Rattle.mur_model.specs.Store.{box_at}
use Rattle.store_law.specs.Mirror.{LosesNoneOf, Mirror, Mirrors, asked, mirror_of, read_lines}

-- NOOP, an IDLE that has ended, EXPUNGE, and what names messages by UIDs: behind a FETCH, STORE or SEARCH by numbers no number may change, so that
-- messages that are gone are told later (RFC 9051, 7.5.1)
unfoldable pub tells_all : Command → Bool
tells_all command.Noop = true
tells_all (command.Idle (Some line)) = true
tells_all (command.Expunge only) = true
tells_all (command.Fetch by_uid set items) = by_uid
tells_all (command.Store by_uid set mode is_silent flags) = by_uid
tells_all (command.Search by_uid keys) = by_uid
tells_all it = false

-- The mailbox of the view is there, and has as many messages as its client knows of; and of each whose UID or flags it was told, those told last are the
-- message's now. But the flags of one that a silent STORE of its own has named since may be others.
pub record KnowsAll (mirror : Mirror) (store : Store) (view : View) : Type 0 where
  pub box : Content
  pub there : box_at store view.name ≡ Some box
  pub same : box.serial ≡ view.serial
  pub knows : Mirrors mirror (map row_of box.messages)

-- where a session has a mailbox selected, and its client has read this so far: whichever such command comes next and is answered OK
unfoldable pub IsToldAll : Setting → Store → Mirror → Sess → Type 0
IsToldAll setting store mirror (selected view) = (it : Command) (serial : ℕ) (code : Code) (name : List ℕ) → tells_all it ≡ true
    → let acted = act_of setting store (selected view) it serial in
    acted.reply.verdict ≡ ok_reply code name → KnowsAll (read_lines (asked mirror it) acted.reply.lines) acted.store view
IsToldAll setting store mirror session = ⊤

-- along each connection, behind its answers up to now
abbrev pub NewsAreTold : Setting → Talk → List Point → Course → Type 0
NewsAreTold setting talk points last = (conn : ℕ) → LosesNoneOf conn points
    → IsToldAll setting last.store (mirror_of [] (talk.requests conn) (talk.answers conn)) (last.sessions conn)

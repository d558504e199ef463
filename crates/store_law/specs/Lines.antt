-- Of which message a FETCH line speaks (RFC 9051, 7.5.2 and 2.3.1.2): of the one whose number it has, among those that the client was told of.
use Rattle.std.specs.Prelude.{◌≡◌, ℕ, ⊤, List, [], ◌∷◌, map, Option, Some, IfSome, All}
use Rattle.mail_fetch.specs.Parts.{part_text}
use Rattle.mail_message.specs.Boxes.{Content, message_at}
use Rattle.mail_message.specs.declared.item.Item.{Item}
use Rattle.mail_message.specs.declared.message.Message.{Message}
use Rattle.imap_types.specs.declared.command.Command.{Command}
use Rattle.imap_types.specs.declared.reply.ReplyLine.{ReplyLine}
use Rattle.imap_types.specs.declared.reply.ReplyLine.TheVariants.{Fetch}
use Rattle.mur_model.specs.ClientView.{Known, known_after, uids}
use Rattle.mur_model.specs.History.{numbered}
use Rattle.mur_model.specs.declared.session.Sess.TheVariants.{Selected as selected}
use Rattle.mur_model.specs.declared.setting.Setting.{Setting}
use Rattle.mur_model.specs.declared.store.Store.{Store}
use Rattle.mur_model.specs.declared.view.View.{View}
use Rattle.mur_model.specs.Act.{act_of}
use Rattle.mur_model.specs.Store.{box_at}

-- the part is what some item gives of the message
pub record IsPartOf (message : Message) (part : List ℕ) : Type 0 where
  pub asked : Item
  pub says : part ≡ part_text asked message

-- the mailbox has the message of the UID, and the parts are of it
pub record SpeaksOf (box : Content) (uid : ℕ) (parts : List (List ℕ)) : Type 0 where
  pub message : Message
  pub there : message_at box.messages uid ≡ Some message
  pub parts_of_it : All (IsPartOf message) parts

-- by what is known of the message of the line's number
abbrev pub SpeaksOfKnown : Content → Option (Option ℕ) → List (List ℕ) → Type 0
SpeaksOfKnown box (Some (Some uid)) parts = SpeaksOf box uid parts
SpeaksOfKnown box found parts = ⊥

-- each FETCH line speaks of the message of its number; EXISTS and EXPUNGE lines before it have changed the numbers
unfoldable pub LinesSpeak : Content → Known → List ReplyLine → Type 0
LinesSpeak box known [] = ⊤
LinesSpeak box known (Fetch number parts ∷ lines) = SpeaksOfKnown box (numbered known number) parts × LinesSpeak box known lines
LinesSpeak box known (line ∷ lines) = LinesSpeak box (known_after known line) lines

-- the UIDs of a view, by number
abbrev pub known_of : View → Known
known_of view = map (λ uid. Some uid) (uids view.rows)

-- whatever the store and the command: the lines of a reply speak of the messages of the view that the session had, as its mailbox has them then
abbrev pub SpeaksByNumbers : Setting → Type 0
SpeaksByNumbers setting = (store : Store) (view : View) (it : Command) (serial : ℕ)
    → let acted = act_of setting store (selected view) it serial in
    IfSome (box_at acted.store view.name) (λ box. box.serial ≡ view.serial → LinesSpeak box (known_of view) acted.reply.lines)

use Rattle.std.proofs.Common.{◌≡◌, List, ap, codes, length, refl, Some}
use Rattle.mail_message.specs.Boxes.{Content}
use Rattle.mail_message.specs.FlagSets.{no_flags}
use Rattle.mail_message.specs.declared.message.Message.{Message}
use Rattle.imap_types.specs.Reply.{refused}
use Rattle.imap_types.specs.declared.command.Tag.TheVariants.{Text}
use Rattle.imap_types.specs.declared.reply.NoText.TheVariants.{Limit}
use Rattle.mur_model.specs.Append.{append_on, append_reply, append_to}
use Rattle.mur_model.specs.Left.{Worked, kept, replied}
use Rattle.mur_model.specs.declared.session.Turn.{Turn}
use Rattle.imap_talk.specs.Transcript.{answer_text}
use Rattle.reply_law.specs.Scenes.{setting, two}
use Rattle.reply_law.proofs.Computes.{computes}
use Rattle.reply_law.proofs.limits.a_mailbox_has_limits.Goals as goal

-- a mailbox that is full stays as it is
full_box : (message : Message) (box : Content) → length box.messages ≡ 20000
    → append_on message (Some box) ≡ record { left = kept; turn = replied (refused Limit) }
unfolding append_on append_to
full_box message box full = rw full refl

-- one with room for a message more gets it
room_for_one : (message : Message) (messages : List Message) → length messages ≡ 19999
    → (append_on message (Some (record two { messages = messages }))).turn ≡ replied (append_reply 7 3)
unfolding append_on append_to
room_for_one message messages many = rw many refl

pub returns-clause-room : goal.returns-clause-room
unfolding computes
returns-clause-room c messages many =
    ap (λ (turn : Turn). answer_text (record { tag = Text (codes "a"); reply = turn.reply }))
    (room_for_one (record { uid = 0; flags = no_flags; date = setting.date; body = codes "x" }) messages many)

pub returns-clause-full : goal.returns-clause-full
unfolding computes
returns-clause-full c box full =
    ap (λ (worked : Worked). answer_text (record { tag = Text (codes "a"); reply = (worked.turn).reply }))
    (full_box (record { uid = 0; flags = no_flags; date = setting.date; body = codes "x" }) box full)

pub returns-clause-last_uid : goal.returns-clause-last_uid
unfolding computes
returns-clause-last_uid c = refl

pub returns-clause-no_uid : goal.returns-clause-no_uid
unfolding computes
returns-clause-no_uid c = refl

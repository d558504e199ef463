-- What keeps the texts of replies sound: requests as the grammar reads them, and a store in which such messages and such names of mailboxes alone came.
use Rattle.std.specs.Prelude.{◌≡◌, ◌<◌, ◌^◌, ⊤, length, None, All}
use Rattle.std.specs.Map.{keys_of, values_of}
use Rattle.mur_base.specs.Names.{mail_name_fault}
use Rattle.imap_command.specs.Ruled.{IsDate, IsRuled}
use Rattle.imap_wire.specs.declared.frame.Frame.{Frame}
use Rattle.imap_wire.specs.declared.frame.Frame.TheVariants.{Whole}
use Rattle.mail_message.specs.Boxes.{Content}
use Rattle.mail_message.specs.FlagSets.{HasRuledKeywords}
use Rattle.mail_message.specs.declared.message.Message.{Message}
use Rattle.imap_types.specs.declared.request.Request.{Request}
use Rattle.imap_types.specs.declared.request.Request.TheVariants.{Command as command, Unknown as unknown, TooBig as too_big}
use Rattle.mur_model.specs.declared.store.Store.{Store}
use Rattle.imap_reply.specs.SoundTexts.{IsSoundTag}

-- a literal can hold whatever part of a whole frame
abbrev pub IsShortFrame : Frame → Type 0
IsShortFrame (Whole bytes) = length bytes < 2 ^ 64
IsShortFrame frame = ⊤

abbrev pub IsSoundRequest : Request → Type 0
IsSoundRequest (command tag it) = IsSoundTag tag × IsRuled (2 ^ 64) it
IsSoundRequest (unknown tag) = IsSoundTag tag
IsSoundRequest (too_big tag) = IsSoundTag tag

-- keywords by their rule, a date, and a body that a literal can hold (RFC 9051, 9: flag-keyword, date-time, literal)
pub record IsSoundMessage (message : Message) : Type 0 where
  pub ruled : HasRuledKeywords message.flags
  pub dated : IsDate message.date
  pub counted : length message.body < 2 ^ 64

abbrev pub IsSoundBox : Content → Type 0
IsSoundBox box = All IsSoundMessage box.messages

-- each mailbox is sound, and has a name by the rules of names (RFC 9051, 5.1)
pub record IsSoundStore (store : Store) : Type 0 where
  pub boxes : All IsSoundBox (values_of store.boxes)
  pub names : All (λ name. mail_name_fault name ≡ None) (keys_of store.boxes)

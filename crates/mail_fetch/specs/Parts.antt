-- What a fetch item gives of a message (RFC 9051, 7.5.2), as the response has it between its parentheses.
use Rattle.std.specs.Prelude.{ℕ, List, ◌++◌, length, codes, decimal}
use Rattle.mail_message.specs.declared.item.Item.{Item}
use Rattle.mail_message.specs.declared.item.Item.TheVariants.{Flags, Uid, InternalDate, Size, Body, BodyPeek}
use Rattle.mail_message.specs.declared.message.Message.{Message}
use Rattle.mail_fetch.specs.Bodies.{body_text}
use Rattle.mail_fetch.specs.FlagText.{flags_text}
use Rattle.mur_base.specs.Ascii.{quote}
use Rattle.std.specs.Prelude.{[], ◌∷◌}

abbrev pub uid_text : ℕ → List ℕ
uid_text uid = codes "UID " ++ decimal uid

abbrev pub date_text : List ℕ → List ℕ
date_text date = codes "INTERNALDATE " ++ quote ∷ date ++ quote ∷ []

abbrev pub size_text : ℕ → List ℕ
size_text size = codes "RFC822.SIZE " ++ decimal size

abbrev pub part_text : Item → Message → List ℕ
part_text Flags message = flags_text message.flags
part_text Uid message = uid_text message.uid
part_text InternalDate message = date_text message.date
part_text Size message = size_text (length message.body)
part_text (Body partial) message = body_text partial message.body
part_text (BodyPeek partial) message = body_text partial message.body

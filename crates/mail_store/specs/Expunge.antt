-- What EXPUNGE does to a mailbox (RFC 9051, 6.4.3 and 6.4.9).
use Rattle.std.specs.Prelude.{ℕ, if◌then◌else◌, List, [], ◌∷◌, ◌++◌, map, Option, Some, None}
use Rattle.std.specs.List.{filter}
use Rattle.mail_message.specs.declared.message.Message.{Message}
use Rattle.mail_message.specs.declared.change.Change.TheVariants.{Gone}
use Rattle.mail_message.specs.Boxes.{Content, is_deleted, message_at, uids_of, content_after_all}
use Rattle.mail_store.specs.Named.{set_of}

-- the UID of a message that has \Deleted, where there is one
abbrev pub deleted_uid : Option Message → List ℕ
deleted_uid None = []
deleted_uid (Some message) = if is_deleted message then message.uid ∷ [] else []

-- the UIDs of those messages among some UIDs that have \Deleted, in the order of the UIDs
abbrev pub deleted_among : List Message → List ℕ → List ℕ
deleted_among messages [] = []
deleted_among messages (uid ∷ uids) = deleted_uid (message_at messages uid) ++ deleted_among messages uids

-- the UIDs of the messages that an EXPUNGE takes away, in rising order: those that have \Deleted, of all or of some
abbrev pub expunged_uids : Content → Option (List ℕ) → List ℕ
expunged_uids box None = uids_of (filter is_deleted box.messages)
expunged_uids box (Some uids) = deleted_among box.messages (set_of uids)

-- the content after an EXPUNGE
abbrev pub expunged : Content → Option (List ℕ) → Content
expunged box only = content_after_all box (map (λ uid. Gone uid) (expunged_uids box only))

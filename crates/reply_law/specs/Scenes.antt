-- The mailboxes that the talks are about, and how far the clients are with them.
use Rattle.std.specs.Prelude.{ℕ, true, false, List, [], ◌∷◌, codes}
use Rattle.mail_message.specs.Boxes.{Content}
use Rattle.mail_message.specs.declared.message.Message.{Message}
use Rattle.mail_message.specs.declared.system_flags.SystemFlags.{SystemFlags}
use Rattle.mur_model.specs.declared.setting.Setting.{Setting}
use Rattle.mur_model.specs.declared.store.Store.{Store}
use Rattle.reply_law.specs.Talk.{Scene, newcomer, one, other, after}

-- an administrator and two other users
abbrev pub setting : Setting
setting = record {
  users =
      (record { name = codes "adm"; password = codes "x"; admin = true }) ∷ (record { name = codes "bob"; password = codes "y"; admin = false })
      ∷ (record { name = codes "amy"; password = codes "z"; admin = false }) ∷ [];
  date = codes "17-Jul-1996 02:44:25 -0700";
}

abbrev pub none : SystemFlags
none = record { answered = false; flagged = false; deleted = false; seen = false; draft = false }

-- four messages at UIDs with gaps between them
abbrev pub seen_message : Message
seen_message = record {
  uid = 3;
  flags = record { system = record none { seen = true }; keywords = [] };
  date = codes "17-Jul-1996 02:44:25 -0700";
  body = codes "hello";
}

abbrev pub new_message : Message
new_message = record { uid = 5; flags = record { system = none; keywords = [] }; date = codes "18-Jul-1996 23:59:59 +0000"; body = codes "hi" }

abbrev pub deleted_message : Message
deleted_message = record {
  uid = 8;
  flags = record { system = record none { answered = true; deleted = true }; keywords = codes "$Fwd" ∷ codes "Work" ∷ [] };
  date = codes " 1-Aug-1996 23:30:00 -0700";
  body = codes "good day";
}

abbrev pub draft_message : Message
draft_message = record {
  uid = 9;
  flags = record { system = record none { flagged = true; draft = true }; keywords = [] };
  date = codes "17-Jul-1997 00:00:00 +0200";
  body = [];
}

abbrev pub four : Content
four = record {
  serial = 7;
  next = 12;
  acl = [];
  messages = seen_message ∷ new_message ∷ deleted_message ∷ draft_message ∷ [];
}

-- two messages without a flag
abbrev pub two : Content
two = record {
  serial = 7;
  next = 3;
  acl = [];
  messages = (record new_message { uid = 1 }) ∷ (record new_message { uid = 2 }) ∷ [];
}

abbrev pub empty : ℕ → Content
empty serial = record { serial = serial; next = 1; acl = []; messages = [] }

-- a store with this mailbox of bob, beside others
abbrev pub store_with : Content → Store
store_with box = record {
  boxes = (codes "news", empty 1) ∷ (codes "user.amy", empty 2) ∷ (codes "user.bob", box) ∷ (codes "user.bob.To do", empty 4) ∷ [];
  given =
      (record { name = codes "news"; serial = 1 }) ∷ (record { name = codes "user.amy"; serial = 2 })
      ∷ (record { name = codes "user.bob"; serial = box.serial }) ∷ (record { name = codes "user.bob.To do"; serial = 4 }) ∷ [];
}

abbrev pub scene_with : Store → Scene
scene_with store = record { setting = setting; store = store; serial = 9; first_client = newcomer; second_client = newcomer }

-- two clients have just connected
unfoldable pub connected : Scene
connected = scene_with (store_with four)

-- two clients have just connected where the administrator has this password, and is the only user
abbrev pub connected_with : List ℕ → Scene
connected_with password = record (scene_with (store_with four)) {
  setting = record setting { users = (record { name = codes "adm"; password = password; admin = true }) ∷ [] };
}

-- bob, amy or the administrator has logged in
unfoldable pub as_bob : Scene
unfolding connected
as_bob = after connected ((one, "l LOGIN bob y") ∷ [])

unfoldable pub as_amy : Scene
unfolding connected
as_amy = after connected ((one, "l LOGIN amy z") ∷ [])

unfoldable pub as_admin : Scene
unfolding connected
as_admin = after connected ((one, "l LOGIN adm x") ∷ [])

-- bob has selected his mailbox, to change it or to read it
unfoldable pub selected : Scene
unfolding as_bob
selected = after as_bob ((one, "l SELECT INBOX") ∷ [])

unfoldable pub examined : Scene
unfolding as_bob
examined = after as_bob ((one, "l EXAMINE INBOX") ∷ [])

-- bob has selected a mailbox without messages
unfoldable pub selected_empty : Scene
unfolding as_bob
selected_empty = after as_bob ((one, "l SELECT \"INBOX.To do\"") ∷ [])

-- bob has selected it twice
unfoldable pub both_selected : Scene
unfolding selected
both_selected = after selected ((other, "l LOGIN bob y") ∷ (other, "l SELECT INBOX") ∷ [])

-- the same with the mailbox of two messages
unfoldable pub both_selected_two : Scene
both_selected_two = after (scene_with (store_with two))
    ((one, "l LOGIN bob y") ∷ (one, "l SELECT INBOX") ∷ (other, "l LOGIN bob y") ∷ (other, "l SELECT INBOX") ∷ [])

-- behind the back of the first, the second takes \Seen from the first message, expunges the third and appends one
unfoldable pub changed_behind : Scene
unfolding both_selected
changed_behind = after both_selected
    ((other, "l STORE 1 FLAGS.SILENT ()") ∷ (other, "l EXPUNGE") ∷ (other, "l APPEND INBOX {0+}\r\n") ∷ [])

-- in place of the mailbox that bob has selected there is another of its name
unfoldable pub replaced : Scene
unfolding selected
replaced = record selected { store = store_with (empty 8) }

-- bob, with another mailbox of his
unfoldable pub as_bob_with : Content → Scene
as_bob_with box = after (scene_with (store_with box)) ((one, "l LOGIN bob y") ∷ [])

-- the administrator, with any store
unfoldable pub as_admin_at : Store → Scene
as_admin_at store = after (scene_with store) ((one, "l LOGIN adm x") ∷ [])

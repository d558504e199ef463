-- What a command leaves of its mailbox.
use Rattle.std.specs.Prelude.{◌≡◌, ℕ, List, None}
use Rattle.mail_message.specs.Boxes.{Content}
use Rattle.imap_types.specs.declared.reply.Reply.{Reply}
use Rattle.mur_model.specs.declared.session.Turn.{Turn}
use Rattle.mur_model.specs.declared.store.Store.{Store}
use Rattle.mur_model.specs.Store.{with_new_box, with_box, without_box}

-- the mailbox is as it was, it is made, it has another content, or it is deleted
pub data Left : Type 0 where
  kept : Left
  made : Content → Left
  changed : Content → Left
  removed : Left

-- what is left of a mailbox, and what comes of it for the session
pub record Worked : Type 0 where
  pub left : Left
  pub turn : Turn

-- a reply that leaves the session as it was
abbrev pub replied : Reply → Turn
replied reply = record { session = None; reply = reply }

-- the content of a mailbox that was there and still is
unfoldable pub box_after : Content → Left → Content
box_after box kept = box
box_after box (made content) = content
box_after box (changed content) = content
box_after box removed = box

unfoldable pub store_after : Store → List ℕ → Left → Store
store_after store name kept = store
store_after store name (made box) = with_new_box store name box
store_after store name (changed box) = with_box store name box
store_after store name removed = without_box store name

-- the mailbox is left so, and this comes of it for the session
abbrev pub IsLeft : Content → Worked → Content → Turn → Type 0
IsLeft box worked left turn = (left ≡ box_after box worked.left) × (turn ≡ worked.turn)

-- The content of a mailbox that is open here.
use Rattle.std.specs.Prelude.{Option, None, Some}
use Rattle.node_record.specs.declared.held.Held.{Held}
use Rattle.mail_message.specs.Boxes.{Content}
use Rattle.mur_base.specs.declared.home.Phase.{Phase}
use Rattle.mur_base.specs.declared.home.Phase.TheVariants.{Creating, Open as open_here, Closing, Receiving, Ready, Pointer}

unfoldable pub open_box : Phase → Content → Option Content
open_box open_here content = Some content
open_box Creating content = None
open_box Closing content = None
open_box Receiving content = None
open_box Ready content = None
open_box (Pointer server) content = None

-- the content of a mailbox that is open
abbrev pub open_content : Option Held → Option Content
open_content None = None
open_content (Some held) = open_box held.phase held.content

-- The lines of a STORE by the messages that it changed: it looks each of them up in the view, and not each of the view among them.
use Rattle.std.specs.Prelude.{ℕ, ◌+◌, Bool, List, [], ◌∷◌, ◌++◌, Option, None, Some}
use Rattle.std.specs.List.{position_from}
use Rattle.mail_message.specs.RowOrder.{is_row_of}
use Rattle.mail_message.specs.declared.message.Row.{Row}
use Rattle.imap_types.specs.declared.reply.ReplyLine.{ReplyLine}
use Rattle.imap_types.specs.declared.reply.ReplyLine.TheVariants.{Fetch}
use Rattle.mur_model.specs.News.{flag_parts}

-- the line of a message before which so many stand in the view
abbrev pub placed_line : Bool → Option ℕ → Row → List ReplyLine
placed_line by_uid None change = []
placed_line by_uid (Some place) change = Fetch (place + 1) (flag_parts by_uid change) ∷ []

-- a line for each change of a message of the view, before whose first so many stand
abbrev pub placed_lines : Bool → ℕ → List Row → List Row → List ReplyLine
placed_lines by_uid before rows [] = []
placed_lines by_uid before rows (change ∷ changes) =
    placed_line by_uid (position_from (is_row_of change.uid) before rows) change ++ placed_lines by_uid before rows changes

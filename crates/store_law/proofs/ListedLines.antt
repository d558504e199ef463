-- The reply to a LIST speaks of no message, and tells nothing of the mailbox that is selected.
use Rattle.std.proofs.Common.{◌≡◌, ℕ, List, [], ◌∷◌, map, refl}
use Rattle.mail_message.specs.Boxes.{Content}
use Rattle.name_listing.specs.Found.{found_lines}
use Rattle.name_listing.specs.Listing.{Lines}
use Rattle.name_listing.specs.Told.{line_of}
use Rattle.mur_model.specs.declared.commands.list.Listing.{Listing}
use Rattle.mur_model.specs.ClientView.{Known, known_after}
use Rattle.mur_model.specs.Listing.{list_reply, shown_to}
use Rattle.store_law.specs.Lines.{LinesSpeak}
use Rattle.store_law.specs.Mirror.{Mirror, read_line, read_lines}

lines_still : (mirror : Mirror) (lines : Lines) → read_lines mirror (map line_of lines) ≡ mirror
unfolding read_line
lines_still mirror [] = refl
lines_still mirror (told ∷ lines) = lines_still mirror lines

pub list_still : (it : Listing) (names : List (List ℕ)) (mirror : Mirror) → read_lines mirror (list_reply it names).lines ≡ mirror
unfolding list_reply
list_still it names mirror = lines_still mirror (found_lines it.pattern (shown_to it names))

lines_quiet : (box : Content) (known : Known) (lines : Lines) → LinesSpeak box known (map line_of lines)
unfolding LinesSpeak known_after
lines_quiet box known [] = tt
lines_quiet box known (told ∷ lines) = lines_quiet box known lines

pub list_quiet : (it : Listing) (names : List (List ℕ)) (box : Content) (known : Known) → LinesSpeak box known (list_reply it names).lines
unfolding list_reply
list_quiet it names box known = lines_quiet box known (found_lines it.pattern (shown_to it names))

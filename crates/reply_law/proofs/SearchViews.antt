-- The views in which the talks search, and the mailboxes that they are of.
use Rattle.std.proofs.Common.{true, false, [], ◌∷◌, map, refl}
use Rattle.std.specs.Prelude.{codes}
use Rattle.mail_message.specs.Boxes.{Content, row_of}
use Rattle.mur_model.specs.declared.view.View.{View}
use Rattle.reply_law.specs.Scenes.{changed_behind, draft_message, empty, examined, four, new_message, none, replaced, seen_message, selected, selected_empty, setting}
use Rattle.reply_law.proofs.Computes.{computes}
use Rattle.reply_law.proofs.Searches.{Has, Views}

abbrev pub four_view : View
four_view = record { user = codes "bob"; name = codes "user.bob"; serial = 7; is_writable = true; rows = map row_of four.messages }

pub four_selected : Has selected four_view four
unfolding computes
four_selected = record { views = record { hears = refl; session = refl }; there = refl; same = refl }

abbrev pub read_view : View
read_view = record four_view { is_writable = false }

pub four_examined : Has examined read_view four
unfolding computes
four_examined = record { views = record { hears = refl; session = refl }; there = refl; same = refl }

abbrev pub empty_view : View
empty_view = record { user = codes "bob"; name = codes "user.bob.To do"; serial = 4; is_writable = true; rows = [] }

pub empty_selected : Has selected_empty empty_view (empty 4)
unfolding computes
empty_selected = record { views = record { hears = refl; session = refl }; there = refl; same = refl }

-- the first message without \Seen, the third gone, and one more
abbrev pub changed : Content
changed = record four {
  next = 13;
  messages =
      (record seen_message { flags = record { system = none; keywords = [] } }) ∷ new_message ∷ draft_message
      ∷ (record { uid = 12; flags = record { system = none; keywords = [] }; date = setting.date; body = [] }) ∷ [];
}

pub changed_selected : Has changed_behind four_view changed
unfolding computes
changed_selected = record { views = record { hears = refl; session = refl }; there = refl; same = refl }

pub replaced_selected : Views replaced four_view
unfolding computes
replaced_selected = record { hears = refl; session = refl }

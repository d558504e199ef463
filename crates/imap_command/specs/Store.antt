-- store = "STORE" SP sequence-set SP store-att-flags (RFC 9051, 6.4.6 and 9).
use Rattle.std.specs.Prelude.{ℕ, Bool, true, false, List, [], ◌∷◌, codes}
use Rattle.mur_base.specs.Ascii.{space}
use Rattle.grammar.specs.Forms.{Form, Row, preceded, ◌spaced◌, table}
use Rattle.mail_message.specs.FlagSets.{Flags}
use Rattle.mail_message.specs.declared.mode.Mode.{Mode}
use Rattle.mail_message.specs.declared.mode.Mode.TheVariants.{Replace, Add, Remove}
use Rattle.mail_message.specs.declared.set.SetPart.{SetPart}
use Rattle.imap_command.specs.Flags.{store_flags}
use Rattle.imap_command.specs.Sets.{set}

-- ["+" / "-"] "FLAGS" [".SILENT"]; the second value says whether it is silent
abbrev pub mode_rows : List (Row (Mode × Bool))
mode_rows =
    (codes "FLAGS", (Replace, false)) ∷ (codes "FLAGS.SILENT", (Replace, true)) ∷ (codes "+FLAGS", (Add, false)) ∷ (codes "+FLAGS.SILENT", (Add, true))
    ∷ (codes "-FLAGS", (Remove, false)) ∷ (codes "-FLAGS.SILENT", (Remove, true)) ∷ []

unfoldable pub mode_text : Mode × Bool → List ℕ
mode_text (Replace, false) = codes "FLAGS"
mode_text (Replace, true) = codes "FLAGS.SILENT"
mode_text (Add, false) = codes "+FLAGS"
mode_text (Add, true) = codes "+FLAGS.SILENT"
mode_text (Remove, false) = codes "-FLAGS"
mode_text (Remove, true) = codes "-FLAGS.SILENT"

abbrev pub store_mode : Form (Mode × Bool)
store_mode = table (Replace, false) mode_rows mode_text

-- SP sequence-set SP the mode SP the flags
abbrev pub store_form : Form (List SetPart × ((Mode × Bool) × Flags))
store_form = preceded space (set spaced (store_mode spaced store_flags))

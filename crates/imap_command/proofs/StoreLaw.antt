-- STORE: the law of its arguments.
use Rattle.std.proofs.Common.{[], ◌∷◌, false, refl}
use Rattle.grammar.specs.Forms.{Law, ◌spaced◌}
use Rattle.grammar.proofs.FormLaw.{law_spaced}
use Rattle.grammar.proofs.NamesLaw.{law_table}
use Rattle.mail_message.specs.declared.mode.Mode.TheVariants.{Replace}
use Rattle.imap_command.specs.Flags.{store_flags}
use Rattle.imap_command.specs.Sets.{set}
use Rattle.imap_command.specs.Store.{mode_rows, mode_text, store_mode, store_form}
use Rattle.imap_command.proofs.ArgumentsLaw.{ends_atom, ends_line, arguments_behind}
use Rattle.imap_command.proofs.FlagsPrinted.{law_store_flags}
use Rattle.imap_command.proofs.SetsLaw.{law_set}

pub law_store : Law ends_atom ends_line store_form
unfolding mode_text
law_store =
    arguments_behind _ refl
    (law_spaced set (store_mode spaced store_flags) refl law_set
    (law_spaced store_mode store_flags refl (law_table (Replace, false) mode_rows mode_text refl refl (32 ∷ []) refl refl) law_store_flags))

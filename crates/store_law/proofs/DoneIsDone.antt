-- Where UIDs rise, what a command that was answered OK says is done.
use Rattle.std.proofs.Common.{ℕ, List}
use Rattle.std.specs.Prelude.{IfSome}
use Rattle.imap_types.specs.declared.command.Command.TheVariants as command
use Rattle.mur_model.specs.declared.setting.Setting.{Setting}
use Rattle.mur_model.specs.declared.store.Store.{Store}
use Rattle.mur_model.specs.Store.{box_at}
use Rattle.store_law.specs.DoneIsDone.{DoesWhatItSays}
use Rattle.store_law.proofs.DoneCreate.{create_done}
use Rattle.store_law.proofs.DoneDelete.{delete_done}
use Rattle.store_law.proofs.DoneExpunge.{close_done, expunge_done}
use Rattle.store_law.proofs.DoneFetch.{fetch_done}
use Rattle.store_law.proofs.DoneStore.{store_done}
use Rattle.store_law.proofs.RisingStores.{Rises}

pub does_what_it_says : (setting : Setting) (store : Store) → ((name : List ℕ) → IfSome (box_at store name) Rises) → DoesWhatItSays setting store
does_what_it_says setting store rises session (command.Create text) serial code name = create_done store serial code name text setting session
does_what_it_says setting store rises session (command.Delete text) serial code name = delete_done store serial code name text setting session
does_what_it_says setting store rises session command.Close serial code name = close_done store rises serial code name setting session
does_what_it_says setting store rises session (command.Expunge only) serial code name = expunge_done store rises serial code name only setting session
does_what_it_says setting store rises session (command.Store by_uid set mode is_silent flags) serial code name =
    store_done store rises serial code name by_uid set mode is_silent flags setting session
does_what_it_says setting store rises session (command.Fetch by_uid set items) serial code name =
    fetch_done store rises serial code name by_uid set items setting session
does_what_it_says setting store rises session it serial code name = λ is. tt

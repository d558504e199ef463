-- Which commands make a client a watcher.
use Rattle.std.proofs.Common.{◌≡◌, Bool, true, false, ◌&&◌, not, is_some, Option, None, Some, refl}
use Rattle.master_core.specs.declared.streams.StreamStep.{StreamStep}
use Rattle.master_core.specs.declared.streams.StreamStep.TheVariants as stream
use Rattle.master_core.specs.Dialogs.{Dialog}
use Rattle.master_core.specs.Streams.{may_follow_update, stream_step}
use Rattle.mupdate_codec.specs.declared.command.MCommand.{MCommand}
use Rattle.mupdate_codec.specs.declared.command.MCommand.TheVariants as command
use Rattle.mupdate_codec.specs.declared.tag.Tag.{Tag}
use Rattle.guest_links.specs.Guests.{Watch, watch_after}

-- a watcher stays one, whatever it sends
pub watch_stays : (before : Dialog) (watch : Option Watch) (tag : Tag) (step : StreamStep) → is_some watch ≡ true → watch_after before watch tag step ≡ watch
watch_stays before None tag step some = cc
watch_stays before (Some watch) tag stream.Stays some = refl
watch_stays before (Some watch) tag stream.Begins some = refl
watch_stays before (Some watch) tag stream.Ends some = refl

-- only a client without UPDATE begins a stream

pub begins_alone : (it : MCommand) → stream_step it ≡ stream.Begins → may_follow_update it ≡ false
begins_alone (command.Reserve name place) e = refl
begins_alone (command.Activate name place acl) e = refl
begins_alone (command.Deactivate name place) e = refl
begins_alone (command.Delete name) e = refl
begins_alone (command.Find name) e = refl
begins_alone (command.List prefix) e = refl
begins_alone command.Update e = refl
begins_alone command.Noop e = cc
begins_alone command.Logout e = cc

pub no_watch : (watch : Option Watch) (may : Bool) → (is_some watch && not may) ≡ false → may ≡ false → watch ≡ None
no_watch None may h never = refl
no_watch (Some watch) true h never = cc
no_watch (Some watch) false h never = cc

pub some_watch : (b may : Bool) → (b && not may) ≡ true → b ≡ true
some_watch true may h = refl
some_watch false may h = cc

-- Streams: a sender is one from its UPDATE on, until it ends (RFC 3656, 4.11).
use Rattle.std.specs.Prelude.{ℕ, Bool, true, false, List, [], ◌∷◌, is_some, Option, None, Some}
use Rattle.std.specs.Ordering.{nat_cmp}
use Rattle.std.specs.Cmp.Lexicographic.{slice_cmp}
use Rattle.link_msg.specs.declared.out.Out.{Out}
use Rattle.link_msg.specs.declared.out.Out.TheVariants.{Close}
use Rattle.mur_base.specs.Map.{value_at, with_entry, with_value, without_key}
use Rattle.mupdate_codec.specs.declared.command.MCommand.{MCommand}
use Rattle.mupdate_codec.specs.declared.command.MCommand.TheVariants as command
use Rattle.mupdate_codec.specs.declared.tag.Tag.{Tag}
use Rattle.master_core.specs.declared.master.Master.{Master}
use Rattle.master_core.specs.declared.outside.Outside.{Outside}
use Rattle.master_core.specs.declared.outside.Outside.TheVariants as outside
use Rattle.master_core.specs.declared.sender.Sender.{Sender}
use Rattle.master_core.specs.declared.sender.Sender.TheVariants as sender
use Rattle.master_core.specs.declared.streams.StreamStep.{StreamStep}
use Rattle.master_core.specs.declared.streams.StreamStep.TheVariants as stream

-- the sender has sent UPDATE
unfoldable pub is_stream : Master → Sender → Bool
is_stream master (sender.Backend node) = is_some (value_at (slice_cmp nat_cmp) master.streams node)
is_stream master (sender.Frontend node) = is_some (value_at (slice_cmp nat_cmp) master.streams node)
is_stream master (sender.Outside conn) = is_some (value_at nat_cmp master.watchers conn)

-- from here on the sender is told each change, under this tag
unfoldable pub streaming : Master → Sender → Tag → Master
streaming master (sender.Backend node) tag = record master { streams = with_entry (slice_cmp nat_cmp) master.streams node tag }
streaming master (sender.Frontend node) tag = record master { streams = with_entry (slice_cmp nat_cmp) master.streams node tag }
streaming master (sender.Outside conn) tag = record master { watchers = with_entry nat_cmp master.watchers conn tag }

-- a connection that is there has ended
abbrev pub ended_if : List (ℕ × Outside) → ℕ → Option Outside → List (ℕ × Outside)
ended_if all conn None = all
ended_if all conn (Some it) = with_value nat_cmp all conn outside.Ended

-- the sender's stream ends, and so does a connection from outside
unfoldable pub without : Master → Sender → Master
without master (sender.Backend node) = record master { streams = without_key (slice_cmp nat_cmp) master.streams node }
without master (sender.Frontend node) = record master { streams = without_key (slice_cmp nat_cmp) master.streams node }
without master (sender.Outside conn) = record master {
  watchers = without_key nat_cmp master.watchers conn;
  outside = ended_if master.outside conn (value_at nat_cmp master.outside conn);
}

-- the connection of an outside sender is closed
abbrev pub close_outs : Sender → List Out
close_outs (sender.Backend node) = []
close_outs (sender.Frontend node) = []
close_outs (sender.Outside conn) = Close conn ∷ []

-- after UPDATE only NOOP and LOGOUT may come
abbrev pub may_follow_update : MCommand → Bool
may_follow_update command.Noop = true
may_follow_update command.Logout = true
may_follow_update it = false

-- UPDATE makes a stream, and LOGOUT ends one
abbrev pub stream_step : MCommand → StreamStep
stream_step command.Update = stream.Begins
stream_step command.Logout = stream.Ends
stream_step it = stream.Stays

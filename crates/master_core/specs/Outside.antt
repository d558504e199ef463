-- Connections from outside. Calls on one that isn't there, or has ended, change nothing.
use Rattle.std.specs.Prelude.{◌≡◌, ℕ, Bool, true, false, List, [], ◌∷◌, ◌++◌, Option, None, Some, if◌then◌else◌}
use Rattle.std.specs.List.{fold}
use Rattle.std.specs.Ordering.{nat_cmp}
use Rattle.link_msg.specs.declared.out.Out.{Out}
use Rattle.link_msg.specs.declared.out.Out.TheVariants.{Client}
use Rattle.mur_base.specs.Map.{value_at, with_entry, with_value}
use Rattle.master_core.specs.declared.master.Master.{Master}
use Rattle.master_core.specs.declared.outside.Outside.{Outside}
use Rattle.master_core.specs.declared.outside.Outside.TheVariants as outside
use Rattle.master_core.specs.declared.sender.Sender.TheVariants as sender
use Rattle.master_core.specs.Cutting.{Cut, cut_from}
use Rattle.master_core.specs.Greeting.{greeting}
use Rattle.master_core.specs.Step.{line_step}

-- the master, and what it let out
pub record Stepped : Type 0 where
  pub master : Master
  pub outs : List Out

abbrev pub still : Master → Stepped
still master = record { master = master; outs = [] }

abbrev pub outside_at : Master → ℕ → Option Outside
outside_at master conn = value_at nat_cmp master.outside conn

-- who connects is given the greeting
unfoldable pub connect_at : Master → ℕ → Option Outside → Stepped
connect_at master conn (Some there) = still master
connect_at master conn None = record {
  master = record master { outside = with_entry nat_cmp master.outside conn (outside.Open (Some [])) };
  outs = Client conn (greeting master.me) ∷ [];
}

unfoldable pub connect : Master → ℕ → Stepped
connect master conn = connect_at master conn (outside_at master conn)

abbrev pub is_open_at : Option Outside → Bool
is_open_at (Some (outside.Open begun)) = true
is_open_at it = false

abbrev pub is_open : Master → ℕ → Bool
is_open master conn = is_open_at (outside_at master conn)

-- a line, unless the connection has ended by then
unfoldable pub line_comes : ℕ → Stepped → List ℕ → Stepped
line_comes conn so_far line =
    if is_open so_far.master conn then (let next = line_step so_far.master (sender.Outside conn) line in record { master = next.master; outs = so_far.outs ++ next.outs })
    else so_far

unfoldable pub lines_come : Master → ℕ → List (List ℕ) → Stepped
lines_come master conn lines = fold (line_comes conn) (still master) lines

-- the connection takes bytes
abbrev pub takes_bytes_at : Option Outside → Bool
takes_bytes_at (Some (outside.Open (Some begun))) = true
takes_bytes_at it = false

-- the bytes of the line that has begun are these now
abbrev pub with_begun : Master → ℕ → List ℕ → Master
with_begun master conn begun = record master { outside = with_value nat_cmp master.outside conn (outside.Open (Some begun)) }

-- more bytes are cut into lines, after those of a line that has begun
pub record IsCutAt (old new : Master) (conn : ℕ) (lines : List (List ℕ)) (cut : Cut) : Type 0 where
  pub lines_are : lines ≡ cut.lines
  pub master_is : new ≡ with_begun old conn cut.begun

abbrev pub cut_comes : Master → ℕ → Cut → Stepped
cut_comes master conn cut = lines_come (with_begun master conn cut.begun) conn cut.lines

unfoldable pub bytes_at : Master → ℕ → List ℕ → Option Outside → Stepped
bytes_at master conn piece (Some (outside.Open (Some begun))) = cut_comes master conn (cut_from begun piece)
bytes_at master conn piece it = still master

unfoldable pub bytes_in : Master → ℕ → List ℕ → Stepped
bytes_in master conn piece = bytes_at master conn piece (outside_at master conn)

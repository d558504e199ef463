-- Nothing is given behind the end of a dialog, and nobody has connected to a master that starts.
use Rattle.std.proofs.Common.{◌≡◌, ℕ, Bool, true, false, nat_eq, cond, List, [], ◌++◌, Option, None, Some, refl, sym, ap, ◌∙◌, append-nil}
use Rattle.std.specs.List.Sorted.{IsStrictlySortedBy}
use Rattle.std.proofs.lemmas.List.{append_cancel_left}
use Rattle.master_core.specs.Boot.{booted}
use Rattle.master_core.specs.Cutting.{cut_from}
use Rattle.node_record.specs.declared.master.MasterRecord.{MasterRecord}
use Rattle.node_record.specs.Table.{MailboxTable}
use Rattle.guest_links.specs.Guests.{Guest, lines_taken, bytes_taken, left, tag_in, told_of}
use Rattle.guest_links.specs.Happenings.{Happening, connects, says, leaves, sends, step_of, change_of, seen_after, guest_after}
use Rattle.guest_links.specs.Outputs.{given_by}
use Rattle.guest_links.specs.Served.{EndsAreFinal, NobodyAtFirst}
use Rattle.guest_links.proofs.NodeLines.{told_nothing}
use Rattle.guest_links.proofs.ServedLaw.{each_step_serves}

record IsStill (guest later : Guest) : Type 0 where
  over : later.dialog.ended ≡ true
  given : later.dialog.given ≡ guest.dialog.given

module _ (guest : Guest) (over : guest.dialog.ended ≡ true) where
  bytes_same : (table : MailboxTable) (conn : ℕ) (bytes : List ℕ) → bytes_taken table conn guest bytes ≡ guest
  unfolding bytes_taken
  bytes_same table conn bytes = ap (λ b. cond b guest (lines_taken table conn guest (cut_from guest.dialog.begun bytes))) over

  says_still : (table : MailboxTable) (conn : ℕ) (bytes : List ℕ) (b : Bool) → IsStill guest (cond b (bytes_taken table conn guest bytes) guest)
  says_still table conn bytes true =
      record { over = ap (λ g. g.dialog.ended) (bytes_same table conn bytes) ∙ over; given = ap (λ g. g.dialog.given) (bytes_same table conn bytes) }
  says_still table conn bytes false = record { over = over; given = refl }

  leaves_still : (b : Bool) → IsStill guest (cond b (left guest) guest)
  leaves_still true = record { over = refl; given = refl }
  leaves_still false = record { over = over; given = refl }

  stays_over : (table : MailboxTable) (change : Option MasterRecord) (conn : ℕ) (happening : Happening)
      → IsStill guest (guest_after table change conn guest happening)
  stays_over table change conn (connects other) = record { over = over; given = refl }
  stays_over table change conn (says other bytes) = says_still table conn bytes (nat_eq conn other)
  stays_over table change conn (leaves other) = leaves_still (nat_eq conn other)
  stays_over table change conn (sends node message) = record {
    over = over;
    given = ap (λ b. guest.dialog.given ++ told_of change (cond b None (tag_in guest.watch))) over
        ∙ ap (λ bytes. guest.dialog.given ++ bytes) (told_nothing change)
        ∙ append-nil guest.dialog.given;
  }

pub ends_are_final : EndsAreFinal
unfolding seen_after
ends_are_final master conn guest happening order is over =
    let still = stays_over guest over master.table (change_of master happening) conn happening in
    let served = each_step_serves master conn (Some guest) happening order is in
    record {
      over = still.over;
      nothing = append_cancel_left guest.dialog.given (given_by conn (step_of master happening).outs) []
          (sym served.given ∙ still.given ∙ sym (append-nil guest.dialog.given));
    }

pub nobody_at_first : NobodyAtFirst
unfolding booted IsStrictlySortedBy
nobody_at_first me backends table = record { order = tt; nobody = λ conn. record { outside = refl; watcher = refl } }

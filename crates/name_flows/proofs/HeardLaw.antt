-- A response is to each name what the protocol of one name makes of it.
use Rattle.std.proofs.Common.{◌≡◌, ◌≢◌, ◌⊎◌, inl, inr, ℕ, Bool, true, false, cond, is_some, List, [], ◌∷◌, ◌++◌, Option, None, Some, refl, sym, ap, subst, ◌∙◌}
use Rattle.std.specs.Ordering.{nat_cmp}
use Rattle.std.specs.Cmp.Lexicographic.{slice_cmp}
use Rattle.std.proofs.lemmas.List.{append-nil}
use Rattle.mur_base.proofs.MapLaws.{names_apart, same_or_other}
use Rattle.mur_base.specs.declared.home.Location.{Location}
use Rattle.mupdate_codec.specs.declared.tag.Tag.{Tag}
use Rattle.mupdate_codec.specs.declared.command.MResponse.{MResponse}
use Rattle.mupdate_codec.specs.declared.command.MResponse.TheVariants as response
use Rattle.node_record.specs.Held.{Names, held_at}
use Rattle.home_law.specs.Items.{Mine, Item, listed_active, listed_reserved, reserve_ok as reserve_granted, reserve_no as reserve_denied, make_ok as make_granted, make_no as make_denied, again_ok as again_granted, deactivate_ok as deactivate_granted, delete_ok as delete_granted, wipe_ok as wipe_granted, found as found_here, found_ok, not_found, Ctl}
use Rattle.home_law.specs.Rows.{control_ok}
use Rattle.home_law.specs.Steps.{BackStep, hear}
use Rattle.home_law.specs.ManyNames.{if_named, line_items as told_items, ok_items, no_items, with_line, downs_of}
use Rattle.home_law.proofs.SameName.{is_itself, is_another}
use Rattle.name_flows.specs.declared.flows.Flows.{Flows}
use Rattle.name_flows.specs.declared.resync.Resync.{Resync}
use Rattle.name_flows.specs.declared.sent.Sent.{Sent}
use Rattle.name_flows.specs.declared.sent.Sent.TheVariants.{List as list, Reserve, Make, Again, Deactivate, Delete, Wipe, Find}
use Rattle.name_flows.specs.declared.sent.SentLine.{SentLine}
use Rattle.name_flows.specs.Creates.{serial_in, reserve_ok, reserve_no, make_ok, make_no}
use Rattle.name_flows.specs.Deletes.{deactivate_ok, delete_ok}
use Rattle.name_flows.specs.Finds.{again_ok, wipe_ok, find_line_step, find_ok}
use Rattle.name_flows.specs.Heard.{is_answer, first_line, what_in, taken, ok_of, no_of, record_of, response_step, heard_step}
use Rattle.name_flows.specs.Listing.{listed_step}
use Rattle.name_flows.specs.OneName.{ctl_of, open_line, open_behind, open_by, open_lines, seen_by, quiet, heard_as, told_by, CanHear, IsRead}
use Rattle.name_flows.specs.Steps.{FlowStep, silent}
use Rattle.name_flows.proofs.OneStep.{AreInOrder, LeavesIt, left_alone}
use Rattle.name_flows.proofs.HeardOthers.{reserve_ok_leaves, reserve_no_leaves, make_ok_leaves, make_no_leaves, deactivate_ok_leaves, delete_ok_leaves, again_ok_leaves, wipe_ok_leaves, find_ok_leaves, find_line_leaves}
use Rattle.name_flows.proofs.HeardSame.{reserve_ok_same, reserve_no_same, make_ok_same, make_no_same, deactivate_ok_same, delete_ok_same}
use Rattle.name_flows.proofs.FindsSame.{again_ok_same, wipe_ok_same, not_found_same, find_line_same, active_same, reserved_same, active_leaves, reserved_leaves}

heard_one : (x : Item) (c : Ctl) → heard_as (x ∷ []) c ≡ hear c x
unfolding heard_as
heard_one x c = ap (λ (says : List Item). record { ctl = (hear c x).ctl; says = says }) (append-nil (hear c x).says)

serial_told : (s : Option ℕ) → is_some s ≡ true → (serial : ℕ) × (s ≡ Some serial)
serial_told None e = cc
serial_told (Some serial) e = (serial, refl)

resync_there : (r : Option Resync) → is_some r ≡ true → (w : Resync) × (r ≡ Some w)
resync_there None e = cc
resync_there (Some w) e = (w, refl)

-- which response is read doesn't hang on what else was sent
read_taken : (flows : Flows) (text : List ℕ) (what : Sent) → IsRead (Some what) (response.Ok text) flows → IsRead (Some what) (response.Ok text) (taken flows)
read_taken flows text list read = absurd read
read_taken flows text (Reserve k) read = read
read_taken flows text (Make k) read = read
read_taken flows text (Again k) read = read
read_taken flows text (Deactivate k) read = read
read_taken flows text (Delete k) read = read
read_taken flows text (Wipe k) read = read
read_taken flows text (Find k) read = read

module _ (n : List ℕ) (linked : Bool) (flows : Flows) (held : Names) (order : AreInOrder flows held) where
  -- an answer about a name: its own, or another's
  named_as : (m : List ℕ) (x : Item) (step : List ℕ → FlowStep) → hear (ctl_of linked held flows n) x ≡ seen_by n linked held (step n)
      → (m ≢ n → LeavesIt n flows held (step m))
      → heard_as (if_named m n x ++ []) (ctl_of linked held flows n) ≡ seen_by n linked held (step m)
  unfolding heard_as
  named_as m x step same other = by_name (same_or_other (slice_cmp nat_cmp) names_apart m n)
    where
      by_name : (m ≡ n) ⊎ (m ≢ n) → heard_as (if_named m n x ++ []) (ctl_of linked held flows n) ≡ seen_by n linked held (step m)
      by_name (inl e) = subst (λ k. heard_as (if_named k n x ++ []) (ctl_of linked held flows n) ≡ seen_by n linked held (step k)) (sym e)
          (rw (is_itself n) (heard_one x (ctl_of linked held flows n) ∙ same))
      by_name (inr ne) = rw (is_another m n ne) (left_alone n linked flows held (step m) (other ne))

  module _ (m : Mine) (fits : control_ok m (ctl_of linked held flows n) ≡ true) where
    ok_as : (found : Bool) (tag : Tag) (text : List ℕ) (what : Sent) → IsRead (Some what) (response.Ok text) flows
        → heard_as (ok_items n (open_line found what) ++ []) (ctl_of linked held flows n) ≡ seen_by n linked held (ok_of flows held found tag text what)
    unfolding ok_items ok_of hear
    ok_as found tag text list read = absurd read
    ok_as found tag text (Reserve k) read =
        let told = serial_told (serial_in text) read in
        named_as k reserve_granted (λ k. reserve_ok flows tag k text) (reserve_ok_same n linked flows held order tag text told.0 told.1) (λ ne. reserve_ok_leaves n k ne flows held order tag text)
    ok_as found tag text (Make k) read =
        named_as k make_granted (λ k. make_ok flows k) (make_ok_same n linked flows held order m fits) (λ ne. make_ok_leaves n k ne flows held order)
    ok_as found tag text (Again k) read =
        named_as k again_granted (λ k. again_ok flows held k) (again_ok_same n linked flows held order) (λ ne. again_ok_leaves n k ne flows held order)
    ok_as found tag text (Deactivate k) read =
        named_as k deactivate_granted (λ k. deactivate_ok flows tag k) (deactivate_ok_same n linked flows held order m tag fits) (λ ne. deactivate_ok_leaves n k ne flows held order tag)
    ok_as found tag text (Delete k) read =
        named_as k delete_granted (λ k. delete_ok flows k) (delete_ok_same n linked flows held order) (λ ne. delete_ok_leaves n k ne flows held order)
    ok_as found tag text (Wipe k) read =
        named_as k wipe_granted (λ k. wipe_ok flows held k) (wipe_ok_same n linked flows held order) (λ ne. wipe_ok_leaves n k ne flows held order)
    ok_as true tag text (Find k) read =
        named_as k found_ok (λ k. find_ok flows held k true) refl (λ ne. find_ok_leaves n k ne flows held order true)
    ok_as false tag text (Find k) read =
        named_as k not_found (λ k. find_ok flows held k false) (not_found_same n linked flows held order) (λ ne. find_ok_leaves n k ne flows held order false)

    no_as : (found : Bool) (text : List ℕ) (what : Sent)
        → heard_as (no_items n (open_line found what) ++ []) (ctl_of linked held flows n) ≡ seen_by n linked held (no_of flows text what)
    unfolding no_items no_of hear heard_as
    no_as found text list = refl
    no_as found text (Reserve k) =
        named_as k reserve_denied (λ k. reserve_no flows k text) (reserve_no_same n linked flows held order text) (λ ne. reserve_no_leaves n k ne flows held order text)
    no_as found text (Make k) =
        named_as k make_denied (λ k. make_no flows k) (make_no_same n linked flows held order) (λ ne. make_no_leaves n k ne flows held order)
    no_as found text (Again k) = refl
    no_as found text (Deactivate k) = refl
    no_as found text (Delete k) = refl
    no_as found text (Wipe k) = refl
    no_as found text (Find k) = refl

    active_as : (found : Bool) (k acl : List ℕ) (place : Location) (what : Sent) → IsRead (Some what) (response.Mailbox k place acl) flows
        → heard_as (told_items n (open_line found what) k listed_active ++ []) (ctl_of linked held flows n)
        ≡ seen_by n linked held (record_of flows held k place true (Some what))
    unfolding told_items hear heard_as
    active_as found k acl place list read =
        let w = resync_there flows.resync read in
        named_as k listed_active (λ k. listed_step flows held k true) (active_same n linked flows held order w.0 w.1) (λ ne. active_leaves n linked flows held order k ne)
    active_as found k acl place (Find j) read =
        named_as j found_here (λ j. find_line_step flows held j place.server) (find_line_same n linked flows held order place.server) (λ ne. find_line_leaves n j ne flows held order place.server)
    active_as found k acl place (Reserve j) read = refl
    active_as found k acl place (Make j) read = refl
    active_as found k acl place (Again j) read = refl
    active_as found k acl place (Deactivate j) read = refl
    active_as found k acl place (Delete j) read = refl
    active_as found k acl place (Wipe j) read = refl

    reserved_as : (found : Bool) (k : List ℕ) (place : Location) (what : Sent) → IsRead (Some what) (response.Reserve k place) flows
        → heard_as (told_items n (open_line found what) k listed_reserved ++ []) (ctl_of linked held flows n)
        ≡ seen_by n linked held (record_of flows held k place false (Some what))
    unfolding told_items hear heard_as
    reserved_as found k place list read =
        let w = resync_there flows.resync read in
        named_as k listed_reserved (λ k. listed_step flows held k false) (reserved_same n linked flows held order w.0 w.1) (λ ne. reserved_leaves n linked flows held order k ne)
    reserved_as found k place (Find j) read =
        named_as j found_here (λ j. find_line_step flows held j place.server) (find_line_same n linked flows held order place.server) (λ ne. find_line_leaves n j ne flows held order place.server)
    reserved_as found k place (Reserve j) read = refl
    reserved_as found k place (Make j) read = refl
    reserved_as found k place (Again j) read = refl
    reserved_as found k place (Deactivate j) read = refl
    reserved_as found k place (Delete j) read = refl
    reserved_as found k place (Wipe j) read = refl

module _ (n : List ℕ) (linked : Bool) (flows : Flows) (held : Names) (order : AreInOrder flows held) (m : Mine) (fits : control_ok m (ctl_of linked held flows n) ≡ true) where
  by_response : (line : SentLine) (rest : List SentLine) → flows.sent ≡ line ∷ rest → (it : MResponse) → IsRead (Some line.what) it flows
      → heard_as (downs_of n (open_lines flows) (told_by it)) (ctl_of linked held flows n) ≡ seen_by n linked held (response_step flows held it)
  unfolding downs_of heard_as
  by_response line rest e (response.Mailbox k place acl) read =
      let what : what_in (first_line flows.sent) ≡ Some line.what = ap (λ ls. what_in (first_line ls)) e in
      let lines : open_by flows.found flows.sent ≡ open_by flows.found (line ∷ rest) = ap (λ ls. open_by flows.found ls) e in
      rw (what, lines) (active_as n linked flows held order m fits flows.found k acl place line.what read)
  by_response line rest e (response.Reserve k place) read =
      let what : what_in (first_line flows.sent) ≡ Some line.what = ap (λ ls. what_in (first_line ls)) e in
      let lines : open_by flows.found flows.sent ≡ open_by flows.found (line ∷ rest) = ap (λ ls. open_by flows.found ls) e in
      rw (what, lines) (reserved_as n linked flows held order m fits flows.found k place line.what read)
  by_response line rest e (response.Delete k) read = refl
  by_response line rest e (response.Ok text) read =
      let first : first_line flows.sent ≡ Some line = ap (λ ls. first_line ls) e in
      let lines : open_by flows.found flows.sent ≡ open_by flows.found (line ∷ rest) = ap (λ ls. open_by flows.found ls) e in
      rw (first, lines) (ok_as n linked (taken flows) held (record { running = order.running; names = order.names }) m fits flows.found line.tag text line.what (read_taken flows text line.what read))
  by_response line rest e (response.No text) read =
      let first : first_line flows.sent ≡ Some line = ap (λ ls. first_line ls) e in
      let lines : open_by flows.found flows.sent ≡ open_by flows.found (line ∷ rest) = ap (λ ls. open_by flows.found ls) e in
      rw (first, lines) (no_as n linked (taken flows) held (record { running = order.running; names = order.names }) m fits flows.found text line.what)
  by_response line rest e (response.Bad text) read =
      let first : first_line flows.sent ≡ Some line = ap (λ ls. first_line ls) e in
      let lines : open_by flows.found flows.sent ≡ open_by flows.found (line ∷ rest) = ap (λ ls. open_by flows.found ls) e in
      rw (first, lines) (no_as n linked (taken flows) held (record { running = order.running; names = order.names }) m fits flows.found text line.what)

  by_sent : (tag : Tag) (it : MResponse) (lines : List SentLine) → flows.sent ≡ lines → is_answer lines tag ≡ true → IsRead (what_in (first_line lines)) it flows
      → heard_as (downs_of n (open_lines flows) (told_by it)) (ctl_of linked held flows n) ≡ seen_by n linked held (response_step flows held it)
  unfolding is_answer
  by_sent tag it [] e answers read = cc
  by_sent tag it (line ∷ rest) e answers read = by_response line rest e it read

pub heard_as_one : (linked : Bool) (n : List ℕ) (flows : Flows) (held : Names) (tag : Tag) (it : MResponse) (m : Mine)
    → CanHear m linked n flows held tag it
    → heard_as (downs_of n (open_lines flows) (told_by it)) (ctl_of linked held flows n) ≡ seen_by n linked held (heard_step flows held tag it)
unfolding heard_step
heard_as_one linked n flows held tag it m can =
    rw can.answers (by_sent n linked flows held (record { running = can.running; names = can.names }) m can.control tag it flows.sent refl can.answers can.read)

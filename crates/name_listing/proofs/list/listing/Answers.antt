use Rattle.std.proofs.Common.{◌≡◌, ◌∙◌, true, false, [], arith}
use Rattle.std.specs.List.{fold}
use Rattle.name_listing.specs.Listing.{ends_in_percent}
use Rattle.name_listing.specs.Found.{found_lines, with_mailbox, with_levels}
use Rattle.name_listing.proofs.FoundOrder.{ok_found, ok_listing, found_all, found_same}
use Rattle.name_listing.proofs.list.listing.Goals.{then-ends_in_percent+in_ok-put_levels, else-ends_in_percent}
use Rattle.name_listing.proofs.list.listing.Goals as goal

pub returns : goal.returns
returns c =
    let pattern = c.args.pattern.now in let names = c.args.names.now in
    let one = c.put_mailboxes.new.found in
    let first : one ≡ fold (with_mailbox pattern) [] names =
    grind (arith, c.in_ok-put_mailboxes.ensures, c.put_mailboxes.ensures, c.new-found.ensures) in
    let found : c.if-ends_in_percent.found ≡ found_lines pattern names = elim c.if-ends_in_percent.branch [
      | then-ends_in_percent+in_ok-put_levels w ↦
          let ends : ends_in_percent pattern ≡ true = grind (arith, w.if-ends_in_percent.true, c.ends_in_percent.ensures) in
          let second : c.if-ends_in_percent.found ≡ fold (with_levels pattern) one names =
          grind (arith, w.found-is, w.in_ok-put_levels.ensures, w.put_levels.ensures) in
          found_all pattern names one c.if-ends_in_percent.found ends first second
      | else-ends_in_percent w ↦
          let ends : ends_in_percent pattern ≡ false = grind (arith, w.if-ends_in_percent.false, c.ends_in_percent.ensures) in
          w.found-is ∙ found_same pattern names one ends first
    ] in
    record {
      found = ok_found pattern names c.if-ends_in_percent.found found c.in_order.result c.in_order.ensures.lines;
      listing = ok_listing pattern names c.if-ends_in_percent.found found c.in_order.result c.in_order.ensures.lines;
    }

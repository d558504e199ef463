use Rattle.std.proofs.Common.{◌≡◌}
use Rattle.std.specs.List.{fold}
use Rattle.feed_core.specs.Listing.{mailbox_names}
use Rattle.mur_model.specs.Listing.{gathered_of, gathered_with}
use Rattle.front_core.proofs.listing.gathered_in.Given as goal

-- what is gathered so far, with what is to come
abbrev pub invariant-loop-name : goal.invariant-loop-name
invariant-loop-name l = fold (gathered_with l.it) l.gathered (mailbox_names l.name-iterator) ≡ gathered_of l.it (mailbox_names l.replica.records)

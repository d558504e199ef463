use Rattle.std.proofs.Common.{◌≡◌, ◌+◌, ◌≤◌, [], length}
use Rattle.node_record.specs.Flags.{rising}
use Rattle.node_record.specs.Rising.{IsBelow}
use Rattle.node_record.proofs.flags.keywords_of.Given as goal

-- the keywords that are left, behind those so far, read what all of them do
abbrev pub invariant-loop-left : goal.invariant-loop-left
invariant-loop-left l = record {
  few : length l.made.keywords + l.left ≤ 16;
  system : l.made.system ≡ l.initial.made.system;
  below : IsBelow l.before l.made.keywords;
  reads : (rising l.left l.before l.made.keywords).at l.rest ≡ (rising l.initial.left [] []).at l.initial.rest;
}

abbrev pub decreases-loop-left : goal.decreases-loop-left
decreases-loop-left l = l.left

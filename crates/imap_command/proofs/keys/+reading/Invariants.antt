use Rattle.std.proofs.Common.{◌≡◌, ◌==◌, ◌+◌, ◌*◌, ◌-◌}
use Rattle.grammar.specs.Part.{turns}
use Rattle.grammar.specs.Forms.{next_value}
use Rattle.imap_command.specs.Keys.{key}
use Rattle.imap_command.proofs.keys.+reading.Given as goal

-- by the depth, and within one depth by who calls whom

abbrev pub decreases-key_of : goal.decreases-key_of
decreases-key_of l = 8 * l.depth

abbrev pub decreases-next_key_of : goal.decreases-next_key_of
decreases-next_key_of l = 8 * l.depth + 1

abbrev pub decreases-more_keys_of : goal.decreases-more_keys_of
decreases-more_keys_of l = 8 * l.depth + 2

abbrev pub decreases-keys_of : goal.decreases-keys_of
decreases-keys_of l = 8 * l.depth + 3

abbrev pub decreases-group_of : goal.decreases-group_of
decreases-group_of l = 8 * l.depth + 4

abbrev pub decreases-behind_key_of : goal.decreases-behind_key_of
decreases-behind_key_of l = 8 * l.below + 1

abbrev pub decreases-deep_key_of : goal.decreases-deep_key_of
decreases-deep_key_of l = 8 * l.below + 5

-- the keys that are left, behind those so far, are read as all of them are
abbrev pub invariant-more_keys_of-loop : goal.invariant-more_keys_of-loop
invariant-more_keys_of-loop l =
    (turns (λ c. c == 32) (next_value 32 (key l.depth).part) (l.end - l.counter) l.list).at l.rest
    ≡ (turns (λ c. c == 32) (next_value 32 (key l.depth).part) l.end l.initial.list).at l.bytes

use Rattle.std.proofs.Common.{◌≡◌, drop}
use Rattle.std.specs.List.{position_from}
use Rattle.mail_delta.specs.Handing.{begins_at}
use Rattle.mail_delta.proofs.log.place_of.Given as goal

abbrev pub invariant-loop-place : goal.invariant-loop-place
invariant-loop-place l =
    position_from (begins_at l.mark) l.place (drop l.place l.spans.items) ≡ position_from (begins_at l.mark) 0 l.spans.items

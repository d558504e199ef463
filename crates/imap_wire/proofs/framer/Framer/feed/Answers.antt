-- What the command that has begun makes of the piece holds of the connection.
use Rattle.std.proofs.Common.{◌∙◌, sym, ap, arith}
use Rattle.imap_wire.specs.Begun.{state_of}
use Rattle.imap_wire.specs.Feeding.{Progress}
use Rattle.imap_wire.proofs.FeedLaws.{IsReached-takes, past-state, Gives-takes, begun-takes, Takes-some, begun-own}
use Rattle.imap_wire.proofs.LeaveLaws.{Takes-leaves}
use Rattle.imap_wire.proofs.BulkLaws.{bulk-own}
use Rattle.imap_wire.proofs.framer.Framer.feed.Goals as goal

pub invariant_of-self : goal.invariant_of-self
invariant_of-self c = IsReached-takes (state_of c.self.inside.begun) (state_of c.take.new.self) _ _ _ c.self.invariant c.in-Ok.ensures.takes

pub returns-in-Ok-clause-frame : goal.returns-in-Ok-clause-frame
returns-in-Ok-clause-frame c = λ _ past held.
    let is = past-state (state_of c.self.inside.begun) past c.if-self.false c.self.invariant (held ∙ sym (ap (λ (p : Progress). p.begun) c.self.view_is)) in
    Gives-takes (state_of c.self.inside.begun) (state_of c.take.new.self) past c.args.piece.now _ _ is c.in-Ok.ensures.takes c.in-Ok.ensures.whole

pub returns-in-Ok-clause-after : goal.returns-in-Ok-clause-after
returns-in-Ok-clause-after c = λ past held.
    let is = past-state (state_of c.self.inside.begun) past c.if-self.false c.self.invariant (held ∙ sym (ap (λ (p : Progress). p.begun) c.self.view_is)) in
    begun-takes (state_of c.self.inside.begun) (state_of c.take.new.self) past c.args.piece.now c.in-Ok.fed.0 _ is c.in-Ok.ensures.takes

pub returns-in-Ok-clause-some : goal.returns-in-Ok-clause-some
returns-in-Ok-clause-some c = λ _ some.
    Takes-some (state_of c.self.inside.begun) (state_of c.take.new.self) c.args.piece.now _ _ c.in-Ok.ensures.takes c.in-Ok.ensures.whole some

pub returns-in-Ok-clause-within : goal.returns-in-Ok-clause-within
returns-in-Ok-clause-within c = c.in-Ok.ensures.takes.within

pub returns-in-Ok-clause-leaves : goal.returns-in-Ok-clause-leaves
returns-in-Ok-clause-leaves c =
    Takes-leaves (state_of c.self.inside.begun) (state_of c.take.new.self) c.args.piece.now c.in-Ok.fed.0 _ c.if-self.false c.in-Ok.ensures.takes

pub returns-in-Ok-clause-own : goal.returns-in-Ok-clause-own
returns-in-Ok-clause-own c = begun-own (state_of c.self.inside.begun) c.args.self.now.begun c.self.invariant (ap (λ (p : Progress). p.begun) c.self.view_is)

pub returns-in-Err-clause-own : goal.returns-in-Err-clause-own
returns-in-Err-clause-own c = begun-own (state_of c.self.inside.begun) c.args.self.now.begun c.self.invariant (ap (λ (p : Progress). p.begun) c.self.view_is)

pub returns-in-Ok-clause-bulk : goal.returns-in-Ok-clause-bulk
returns-in-Ok-clause-bulk c =
    let before = ap (λ (p : Progress). p.moves) c.self.view_is in
    let most = c.in-Ok.ensures.bulk in
    bulk-own (state_of c.self.inside.begun) c.args.self.now.begun _ _ _ _ c.if-self.false c.self.invariant
    (ap (λ (p : Progress). p.begun) c.self.view_is) (omega arith, omega arith)

pub returns-in-Err-clause-bulk_part : goal.returns-in-Err-clause-bulk_part
returns-in-Err-clause-bulk_part c =
    let before = ap (λ (p : Progress). p.moves) c.self.view_is in
    let most = c.in-Err.ensures.part in
    bulk-own (state_of c.self.inside.begun) c.args.self.now.begun _ _ _ _ c.if-self.false c.self.invariant
    (ap (λ (p : Progress). p.begun) c.self.view_is) (omega arith, omega arith)

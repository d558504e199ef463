use Rattle.std.proofs.Common.{◌≡◌, ℕ, List, ◌++◌, Option, rules, sym, ◌∙◌, ap, subst}
use Rattle.std.specs.Ordering.{nat_cmp}
use Rattle.mur_base.specs.Map.{IsInOrder}
use Rattle.cluster_core.specs.declared.world.Client.{Client}
use Rattle.cluster_core.specs.declared.world.World.{World}
use Rattle.top_call.specs.Output.{client_lines, given_lines}
use Rattle.top_call.specs.Writing.{TakesIn, TookPart}
use Rattle.top_call.proofs.GivenLaw.{AreFound, each_found, given_is}
use Rattle.top_call.proofs.WritingLaws.{goes_on, breaks, fails, ends}
use Rattle.top_call.proofs.output.write_clients.Goals as goal

taken_in : (t now : Option (List ℕ)) (part kept given : List ℕ) (client : ℕ × Client) → given ≡ (client.1).given
    → TakesIn t now part kept (given_lines client.0 given) → TakesIn t now part kept (client_lines client)
taken_in t now part kept given client is = subst (λ (bytes : List ℕ). TakesIn t now part kept (given_lines client.0 bytes)) is

taken_part : (t now : Option (List ℕ)) (part given : List ℕ) (client : ℕ × Client) → given ≡ (client.1).given
    → TookPart t now (part ++ given_lines client.0 given) → TookPart t now (part ++ client_lines client)
taken_part t now part given client is = subst (λ (bytes : List ℕ). TookPart t now (part ++ given_lines client.0 bytes)) is

pub loop-conn-init : goal.loop-conn-init
loop-conn-init g c =
    let world = c.args.cluster.now.world in
    let ordered = subst (λ (it : World). IsInOrder nat_cmp it.clients) c.world.ensures c.iter-conn-items.ensures.ordered in
    let is = c.into_iter-conn-iterator.ensures.into_iter_gives ∙ c.iter-conn-items.ensures.rest ∙ ap (λ (it : World). it.clients) c.world.ensures in
    record {
      way = search rules;
      found = subst (AreFound world) (sym is) (each_found world.clients ordered);
      faultless = search rules;
    }

pub loop-conn-preserved : goal.loop-conn-preserved
loop-conn-preserved g c =
    let client : ℕ × Client = (c.in-Some.conn.now, c.in-Some.field-0-1.now) in
    let found = subst (AreFound c.args.cluster.now.world) c.in-Some.ensures.steps c.loop-conn.invariant.found in
    let given = c.sent.ensures ∙ given_is c.args.cluster.now.world client found.0 in
    record {
      way = goes_on client_lines _ _ _ _ _ _ _ _ client _ c.in-Some.ensures.steps c.loop-conn.invariant.way
          (taken_in _ _ _ _ c.sent.result.now client given c.in_ok-write_given.ensures.did);
      found = found.1;
      faultless = search rules;
    }

pub returns-in_err-write_given-clause-did : goal.returns-in_err-write_given-clause-did
returns-in_err-write_given-clause-did g c =
    let client : ℕ × Client = (c.in-Some.conn.now, c.in-Some.field-0-1.now) in
    let found = subst (AreFound c.args.cluster.now.world) c.in-Some.ensures.steps c.loop-conn.invariant.found in
    let given = c.sent.ensures ∙ given_is c.args.cluster.now.world client found.0 in
    fails _ _ _ _ _ _ c.from_residual.ensures.0
    (breaks client_lines _ _ _ _ _ _ _ client _ c.in-Some.ensures.steps c.loop-conn.invariant.way
    (taken_part _ _ _ c.sent.result.now client given c.in_err-write_given.ensures.did))

pub returns-clause-did : goal.returns-clause-did
returns-clause-did g c = ends _ _ _ _ _ _ _ c.in-None.ensures.steps.0 c.loop-conn.invariant.way

-- Outputs that are one client's own give it their bytes, and change nothing else of the world.
use Rattle.std.proofs.Common.{◌≡◌, ◌≢◌, ℕ, List, [], ◌∷◌, ◌++◌, Some, refl, sym, ◌∙◌, ap, subst, append-nil, append_assoc}
use Rattle.std.specs.Ordering.{nat_cmp}
use Rattle.link_msg.specs.declared.out.Out.{Out}
use Rattle.link_msg.specs.declared.out.Out.TheVariants.{Client as to_client, Close, Link as to_node, Mark as mark, Told as tell}
use Rattle.master_core.proofs.OutsideAlone.{IsItsOwn, AreItsOwn}
use Rattle.master_core.proofs.DialogLaw.{client_bytes, bytes_of}
use Rattle.mur_base.specs.Map.{value_at, with_value}
use Rattle.mur_base.proofs.MapLaws.{numbers_apart, value_at-with_value, value_at-with_value-other}
use Rattle.cluster_core.specs.declared.world.Client.{Client}
use Rattle.cluster_core.specs.declared.world.World.{World}
use Rattle.cluster_core.specs.World.{client_at, given_more, carry, carry_all}

abbrev client_of : List ℕ → List ℕ → Client
client_of at given = record { at = at; given = given }

-- only this client is another one, which has these bytes
pub record GivenAlone (conn : ℕ) (at given : List ℕ) (world next : World) : Type 0 where
  pub clients : List (ℕ × Client)
  pub next_is : next ≡ record world { clients = clients }
  pub own : value_at nat_cmp clients conn ≡ Some (client_of at given)
  pub others : (other : ℕ) → other ≢ conn → value_at nat_cmp clients other ≡ client_at world other

given_nothing : (conn : ℕ) (at given : List ℕ) (world : World) → client_at world conn ≡ Some (client_of at given)
    → GivenAlone conn at (given ++ []) world world
given_nothing conn at given world there = record {
  clients = world.clients;
  next_is = refl;
  own = there ∙ ap (λ g. Some (client_of at g)) (sym (append-nil given));
  others = λ other ne. refl;
}

given_further : (conn : ℕ) (at was given : List ℕ) (one two three : World) → GivenAlone conn at was one two → GivenAlone conn at given two three
    → GivenAlone conn at given one three
given_further conn at was given one two three first second = record {
  clients = second.clients;
  next_is = second.next_is ∙ ap (λ (w : World). record w { clients = second.clients }) first.next_is;
  own = second.own;
  others = λ other ne. second.others other ne ∙ ap (λ w. client_at w other) first.next_is ∙ first.others other ne;
}

given_bytes : (conn : ℕ) (at given bytes : List ℕ) (world : World) → client_at world conn ≡ Some (client_of at given)
    → GivenAlone conn at (given ++ bytes) world (given_more world conn bytes (client_at world conn))
unfolding given_more
given_bytes conn at given bytes world there = record {
  clients = with_value nat_cmp world.clients conn (client_of at (given ++ bytes));
  next_is = ap (given_more world conn bytes) there;
  own = value_at-with_value nat_cmp numbers_apart world.clients conn (client_of at (given ++ bytes)) (client_of at given) there;
  others = λ other ne. value_at-with_value-other nat_cmp numbers_apart world.clients conn other (client_of at (given ++ bytes)) ne;
}

carry_alone : (node : List ℕ) (conn : ℕ) (at given : List ℕ) (world : World) (out : Out) → client_at world conn ≡ Some (client_of at given)
    → IsItsOwn conn out → GivenAlone conn at (given ++ client_bytes out) world (carry node world out)
unfolding carry
carry_alone node conn at given world (to_client other bytes) there is =
    subst (λ c. GivenAlone conn at (given ++ bytes) world (given_more world c bytes (client_at world c))) (sym is) (given_bytes conn at given bytes world there)
carry_alone node conn at given world (Close other) there is = given_nothing conn at given world there
carry_alone node conn at given world (to_node other message) there is = absurd is
carry_alone node conn at given world (mark ask counts) there is = absurd is
carry_alone node conn at given world (tell ask how) there is = absurd is

-- the bytes of all outputs come behind those that it had
pub given_alone : (node : List ℕ) (world : World) (conn : ℕ) (at given : List ℕ) (outs : List Out) → client_at world conn ≡ Some (client_of at given)
    → AreItsOwn conn outs → GivenAlone conn at (given ++ bytes_of outs) world (carry_all node world outs)
unfolding carry_all AreItsOwn
given_alone node world conn at given [] there own = given_nothing conn at given world there
given_alone node world conn at given (out ∷ outs) there own =
    let first = carry_alone node conn at given world out there own.0 in
    let next : World = carry node world out in
    let rest = given_alone node next conn at (given ++ client_bytes out) outs (ap (λ w. client_at w conn) first.next_is ∙ first.own) own.1 in
    subst (λ g. GivenAlone conn at g world (carry_all node next outs)) (append_assoc given (client_bytes out) (bytes_of outs))
    (given_further conn at (given ++ client_bytes out) ((given ++ client_bytes out) ++ bytes_of outs) world next (carry_all node next outs) first rest)

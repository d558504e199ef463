-- What the outputs of a node give the client of a connection.
use Rattle.std.proofs.Common.{◌≡◌, ◌≢◌, ℕ, cond, List, [], ◌∷◌, ◌++◌, Option, None, Some, refl, sym, ◌∙◌, ap, subst, append-nil, append_assoc}
use Rattle.std.specs.Option.{option_map}
use Rattle.std.specs.Ordering.{nat_cmp}
use Rattle.std.proofs.Math.Logic.{⊎_elim}
use Rattle.cluster_core.specs.declared.world.Client.{Client}
use Rattle.front_core.proofs.OwnOuts.{AreLetOut}
use Rattle.guest_links.specs.Outputs.{bytes_to, given_by}
use Rattle.guest_links.proofs.Numbers.{other_number, same_number}
use Rattle.link_msg.specs.declared.message.LinkMsg.{LinkMsg}
use Rattle.link_msg.specs.declared.out.Out.{Out}
use Rattle.link_msg.specs.declared.out.Out.TheVariants.{Client as to_client, Close, Link as to_node, Mark as mark_out, Told as tell}
use Rattle.mur_base.proofs.MapLaws.{numbers_apart, same_or_other, value_at-with_value, value_at-with_value-other}
use Rattle.node_step.specs.declared.node.NodeState.{NodeState}
use Rattle.cluster_core.specs.declared.world.World.{World}
use Rattle.cluster_core.specs.World.{carry, carry_all, client_at, given_more, with_state}
use Rattle.cluster_core.proofs.Nodes.Carried.{made}

-- a client that is given bytes more
abbrev pub gets : List ℕ → Client → Client
gets bytes client = record client { given = client.given ++ bytes }

pub gets_none : (found : Option Client) → option_map (gets []) found ≡ found
gets_none None = refl
gets_none (Some client) = ap (λ g. Some (record client { given = g })) (append-nil client.given)

gets_more : (one two : List ℕ) (found : Option Client) → option_map (gets two) (option_map (gets one) found) ≡ option_map (gets (one ++ two)) found
gets_more one two None = refl
gets_more one two (Some client) = ap (λ g. Some (record client { given = g })) (append_assoc client.given one two)

-- by whom it is given

given_itself : (world : World) (conn : ℕ) (bytes : List ℕ) (found : Option Client) → client_at world conn ≡ found
    → client_at (given_more world conn bytes found) conn ≡ option_map (gets bytes) found
unfolding given_more
given_itself world conn bytes None at = at
given_itself world conn bytes (Some client) at =
    value_at-with_value nat_cmp numbers_apart world.clients conn (record client { given = client.given ++ bytes }) client at

given_another : (world : World) (other : ℕ) (bytes : List ℕ) (found : Option Client) (conn : ℕ) → conn ≢ other
    → client_at (given_more world other bytes found) conn ≡ client_at world conn
unfolding given_more
given_another world other bytes None conn ne = refl
given_another world other bytes (Some client) conn ne =
    value_at-with_value-other nat_cmp numbers_apart world.clients other conn (record client { given = client.given ++ bytes }) ne

given_one : (world : World) (other : ℕ) (bytes : List ℕ) (conn : ℕ)
    → client_at (given_more world other bytes (client_at world other)) conn ≡ option_map (gets (bytes_to conn (to_client other bytes))) (client_at world conn)
given_one world other bytes conn = ⊎_elim
    (λ (e : conn ≡ other).
    subst (λ o. client_at (given_more world o bytes (client_at world o)) conn ≡ option_map (gets (bytes_to conn (to_client o bytes))) (client_at world conn)) e
    (given_itself world conn bytes (client_at world conn) refl
    ∙ ap (λ b. option_map (gets (cond b bytes [])) (client_at world conn)) (sym (same_number conn))))
    (λ (ne : conn ≢ other). given_another world other bytes (client_at world other) conn ne ∙ sym (gets_none (client_at world conn))
    ∙ ap (λ b. option_map (gets (cond b bytes [])) (client_at world conn)) (sym (other_number conn other ne)))
    (same_or_other nat_cmp numbers_apart conn other)

carried_one : (node : List ℕ) (world : World) (out : Out) (conn : ℕ)
    → client_at (carry node world out) conn ≡ option_map (gets (bytes_to conn out)) (client_at world conn)
unfolding carry
carried_one node world (to_client other bytes) conn = given_one world other bytes conn
carried_one node world (Close other) conn = sym (gets_none (client_at world conn))
carried_one node world (to_node other message) conn = sym (gets_none (client_at world conn))
carried_one node world (mark_out ask counts) conn = sym (gets_none (client_at world conn))
carried_one node world (tell ask how) conn = sym (gets_none (client_at world conn))

carried_all : (node : List ℕ) (world : World) (outs : List Out) (conn : ℕ)
    → client_at (carry_all node world outs) conn ≡ option_map (gets (given_by conn outs)) (client_at world conn)
unfolding carry_all
carried_all node world [] conn = sym (gets_none (client_at world conn))
carried_all node world (out ∷ outs) conn =
    carried_all node (carry node world out) outs conn ∙ ap (option_map (gets (given_by conn outs))) (carried_one node world out conn)
    ∙ gets_more (bytes_to conn out) (given_by conn outs) (client_at world conn)

-- after the step of a node
pub given_made : (world : World) (node : List ℕ) (it : NodeState) (outs : List Out) (conn : ℕ)
    → client_at (made world node it outs) conn ≡ option_map (gets (given_by conn outs)) (client_at world conn)
given_made world node it outs conn = carried_all node (with_state world node it) outs conn

-- outputs for no client give nothing

module _ (own : ℕ → Type 0) (may : List ℕ → LinkMsg → Type 0) (marks : Type 0) (none : (conn : ℕ) → own conn → ⊥) (conn : ℕ) where
  pub none_given : (outs : List Out) → AreLetOut own may marks outs → given_by conn outs ≡ []
  none_given [] are = refl
  none_given (to_client other bytes ∷ outs) are = absurd (none other are.0)
  none_given (Close other ∷ outs) are = none_given outs are.1
  none_given (to_node other message ∷ outs) are = none_given outs are.1
  none_given (mark_out ask counts ∷ outs) are = none_given outs are.1
  none_given (tell ask how ∷ outs) are = none_given outs are.1

-- The run of all nodes, one step at a time.
use Rattle.std.specs.Prelude.{ℕ, ◌==◌, ◌&&◌, if◌then◌else◌, List, [], ◌∷◌, ◌++◌, drop, Option, None, Some}
use Rattle.record_merge.specs.declared.logged.MergedStep.{MergedStep}
use Rattle.record_merge.specs.Rules.{Rules}

pub record Service (S I O M : Type 0) : Type 0 where
  -- of the node at each place its state, the inputs that it took, and its outputs
  pub state : ℕ → S
  pub took : ℕ → List I
  pub gave : ℕ → List O
  -- the messages on the link from one node to another, the earliest first
  pub link : ℕ → ℕ → List M

pub data Happening (I : Type 0) : Type 0 where
  -- the node at a place takes an input of a client
  own : ℕ → I → Happening I
  -- the first message of the link from one node to another is taken, if there is one
  delivery : ℕ → ℕ → Happening I

module _ {S I O M : Type 0} (rules : Rules S I O M) where
  -- a node takes an input, and its messages go on its links
  abbrev pub acted : Service S I O M → ℕ → I → Service S I O M
  acted service n input = record {
    state = λ k. if k == n then rules.after (service.state k) input else service.state k;
    took = λ k. service.took k ++ (if k == n then input ∷ [] else []);
    gave = λ k. service.gave k ++ (if k == n then rules.outputs (service.state k) input else []);
    link = λ k to. service.link k to ++ (if k == n then rules.messages_for to (rules.outputs (service.state k) input) else []);
  }

  -- the first message of a link is taken off
  abbrev pub without_first_sent : Service S I O M → ℕ → ℕ → Service S I O M
  without_first_sent service from to = record service { link = λ a b. if (a == from) && (b == to) then drop 1 (service.link a b) else service.link a b }

  abbrev pub delivered_by : Service S I O M → ℕ → ℕ → List M → Service S I O M
  delivered_by service from to [] = service
  delivered_by service from to (message ∷ rest) = acted (without_first_sent service from to) to (rules.taking from message)

  abbrev pub after_happening : Service S I O M → Happening I → Service S I O M
  after_happening service (own node input) = acted service node input
  after_happening service (delivery from to) = delivered_by service from to (service.link from to)

  abbrev pub run_service : Service S I O M → List (Happening I) → Service S I O M
  run_service service [] = service
  run_service service (happening ∷ happenings) = run_service (after_happening service happening) happenings

  -- a step of merged logs as it happens: an input that takes a message is a delivery
  abbrev pub happening_by : ℕ → I → Option (ℕ × M) → Happening I
  happening_by node input None = own node input
  happening_by node input (Some taken) = delivery taken.0 node

  abbrev pub happenings_of : List (MergedStep I) → List (Happening I)
  happenings_of [] = []
  happenings_of (step ∷ merged) = happening_by step.node step.entry.input (rules.taken step.entry.input) ∷ happenings_of merged

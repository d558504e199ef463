-- A frontend writes nothing, and stays a frontend.
use Rattle.std.proofs.Common.{◌≡◌, ◌⊎◌, ◌||◌, ◌++◌, ◌∷◌, [], ℕ, List, IsTrue, IsNone, IsSome, Option, None, Some, inl, inr, refl, sym, ◌∙◌, ap, subst, is_some}
use Rattle.node_step.specs.NodeStep.{Acted, back_takes, front_takes, master_takes, takes}
use Rattle.node_step.specs.declared.input.NodeInput.{NodeInput}
use Rattle.node_step.specs.declared.input.NodeInput.TheVariants.{Opened, Piece, Hung, From}
use Rattle.node_step.specs.declared.node.NodeState.{NodeState}
use Rattle.node_step.specs.declared.node.NodeState.TheVariants as node
use Rattle.std.specs.Option.{option_to_list}
use Rattle.record_merge.specs.declared.logged.Logged.{Logged}
use Rattle.node_cell.specs.Replayed.{entries_after, state_after}
use Rattle.node_cell.specs.Written.{is_front}

front-entry : (it : NodeState) (input : NodeInput) → IsTrue (is_front it) → IsNone (takes it input).entry
unfolding is_front takes front_takes
front-entry (node.Front front) (Opened conn) is = refl
front-entry (node.Front front) (Piece conn bytes) is = refl
front-entry (node.Front front) (Hung conn) is = refl
front-entry (node.Front front) (From name message) is = refl
front-entry (node.Back home) input is = cc
front-entry (node.Master master) input is = cc

pub front-stays : (it : NodeState) (input : NodeInput) → is_front (takes it input).state ≡ is_front it
unfolding is_front takes front_takes back_takes master_takes
front-stays (node.Front front) (Opened conn) = refl
front-stays (node.Front front) (Piece conn bytes) = refl
front-stays (node.Front front) (Hung conn) = refl
front-stays (node.Front front) (From name message) = refl
front-stays (node.Back home) (Opened conn) = refl
front-stays (node.Back home) (Piece conn bytes) = refl
front-stays (node.Back home) (Hung conn) = refl
front-stays (node.Back home) (From name message) = refl
front-stays (node.Master master) (Opened conn) = refl
front-stays (node.Master master) (Piece conn bytes) = refl
front-stays (node.Master master) (Hung conn) = refl
front-stays (node.Master master) (From name message) = refl

-- whoever writes has a journal
pub writes_on : {J : Type 0} (journal : Option J) (it : NodeState) (input : NodeInput) (acted : Acted) → IsTrue (is_some journal || is_front it)
    → acted ≡ takes it input → IsSome journal ⊎ IsNone acted.entry
writes_on (Some journal) it input acted may is = inl refl
writes_on None it input acted may is = inr (subst (λ (a : Acted). IsNone a.entry) (sym is) (front-entry it input may))

-- and may write at the next step, too
pub writes_next : {J : Type 0} (journal now : Option J) (it : NodeState) (input : NodeInput) (acted : Acted) → IsTrue (is_some journal || is_front it)
    → acted ≡ takes it input → is_some now ≡ is_some journal → IsTrue (is_some now || is_front acted.state)
writes_next journal now it input acted may is same = subst IsTrue (sym (ap (λ b. b || is_front acted.state) same
    ∙ ap (λ b. is_some journal || b) (ap (λ (a : Acted). is_front a.state) is ∙ front-stays it input))) may

-- ---- several steps

none_listed : {T : Type 0} (o : Option T) → IsNone o → option_to_list o ≡ []
none_listed None is = refl
none_listed (Some x) is = cc

front-after : (it : NodeState) (log : List (Logged NodeInput)) → is_front (state_after it log) ≡ is_front it
front-after it [] = refl
front-after it (entry ∷ log) = front-after (takes it entry.input).state log ∙ front-stays it entry.input

front-entries : (it : NodeState) (log : List (Logged NodeInput)) → IsTrue (is_front it) → entries_after it log ≡ []
front-entries it [] is = refl
front-entries it (entry ∷ log) is =
    ap (λ (e : List (List ℕ)). e ++ entries_after (takes it entry.input).state log) (none_listed _ (front-entry it entry.input is))
    ∙ front-entries (takes it entry.input).state log (front-stays it entry.input ∙ is)

pub all_writes_on : {J : Type 0} (journal : Option J) (it : NodeState) (log : List (Logged NodeInput)) (entries : List (List ℕ))
    → IsTrue (is_some journal || is_front it) → entries ≡ entries_after it log → IsSome journal ⊎ (entries ≡ [])
all_writes_on (Some journal) it log entries may is = inl refl
all_writes_on None it log entries may is = inr (is ∙ front-entries it log may)

pub all_writes_next : {J : Type 0} (journal now : Option J) (it next : NodeState) (log : List (Logged NodeInput)) → IsTrue (is_some journal || is_front it)
    → next ≡ state_after it log → is_some now ≡ is_some journal → IsTrue (is_some now || is_front next)
all_writes_next journal now it next log may is same = subst IsTrue (sym (ap (λ b. b || is_front next) same
    ∙ ap (λ b. is_some journal || b) (ap is_front is ∙ front-after it log))) may

-- Behind a fault there is no frame, and no command has begun.
use Rattle.std.proofs.Common.{◌≡◌, ℕ, Bool, true, false, List, [], ◌∷◌, ◌++◌, Option, None, Some, refl, sym, ◌∙◌, ap, subst}
use Rattle.std.specs.Prelude.{⊤}
use Rattle.std.specs.Option.{option_to_list, IfSome, IsNone}
use Rattle.imap_wire.specs.declared.frame.Frame.{Frame}
use Rattle.imap_wire.specs.declared.frame.Frame.TheVariants.{Whole, NeedLiteral, TooBig, Fault}
use Rattle.imap_wire.specs.Feeding.{Leaves}
use Rattle.imap_wire.specs.Frames.{begun}
use Rattle.imap_wire.specs.More.{frames_of_more, begun_by_more}
use Rattle.imap_wire.specs.Steps.{State, step, given, state_after, begun_bytes}
use Rattle.imap_wire.proofs.FeedLaws.{begun-past}
use Rattle.imap_wire.proofs.LeaveLaws.{step-leaves}
use Rattle.imap_wire.proofs.MoreLaws.{stands, given_more, begun_with_more}
use Rattle.imap_wire.proofs.StepLaws.{given-spent, after-spent}

-- a fault is the last of the frames, and then no command has begun
unfoldable pub FaultsLast : List Frame → Option (List ℕ) → Type 0
FaultsLast [] held = ⊤
FaultsLast (Fault fault ∷ rest) held = (rest ≡ []) × (held ≡ None)
FaultsLast (Whole bytes ∷ rest) held = FaultsLast rest held
FaultsLast (TooBig bytes ∷ rest) held = FaultsLast rest held
FaultsLast (NeedLiteral size ∷ rest) held = FaultsLast rest held

none_spent : (s : State) → IsNone (begun_bytes s) → s.spent ≡ true
none_spent s h = by s.spent refl h
  where
    by : (spent : Bool) → s.spent ≡ spent → IsNone (begun_bytes s) → s.spent ≡ true
    by true e h = e
    by false e h = (let some : begun_bytes s ≡ Some s.bytes = (rw e refl) in let none : IsNone (Some s.bytes) = rw some at h in cc)

step_by : (s : State) (bytes : List ℕ) (frame : Option Frame) → IfSome frame (λ f. Leaves f (begun_bytes s))
    → FaultsLast (given s bytes) (begun_bytes (state_after s bytes))
    → FaultsLast (option_to_list frame ++ given s bytes) (begun_bytes (state_after s bytes))
unfolding FaultsLast
step_by s bytes None leaves rest = rest
step_by s bytes (Some (Whole b)) leaves rest = rest
step_by s bytes (Some (NeedLiteral size)) leaves rest = rest
step_by s bytes (Some (TooBig b)) leaves rest = rest
step_by s bytes (Some (Fault fault)) leaves rest =
    let spent = none_spent s leaves in (given-spent s bytes spent, ap begun_bytes (after-spent s bytes spent) ∙ (rw spent refl))

faults_by : (s : State) (bytes : List ℕ) (spent : Bool) → s.spent ≡ spent → FaultsLast (given s bytes) (begun_bytes (state_after s bytes))
unfolding given state_after FaultsLast
faults_by s bytes true e = rw (given-spent s bytes e) tt
faults_by s [] false e = tt
faults_by s (byte ∷ bytes) false e =
    step_by (step s byte).after bytes (step s byte).frame (step-leaves s byte e) (faults_by (step s byte).after bytes (step s byte).after.spent refl)

pub faults_last : (past more : List ℕ) (held : Option (List ℕ)) → begun past ≡ held → FaultsLast (frames_of_more held more) (begun_by_more held more)
unfolding FaultsLast frames_of_more
faults_last past more None is = tt
faults_last past more (Some bytes) is =
    let s = stands past bytes is in
    let at : begun (past ++ more) ≡ begun_bytes (state_after s.state more) = begun-past s.state past more s.here in
    subst (λ f. FaultsLast f (begun_by_more (Some bytes) more)) (sym (given_more past bytes more s))
    (subst (λ b. FaultsLast (given s.state more) b) (sym at ∙ begun_with_more past more (Some bytes) is) (faults_by s.state more s.state.spent refl))

-- The inputs of frames one behind another.
use Rattle.std.proofs.Common.{◌≡◌, List, [], ◌∷◌, ◌++◌, length, refl, ap, arith}
use Rattle.imap_wire.specs.declared.frame.Frame.{Frame}
use Rattle.mur_model.specs.declared.setting.Setting.{Setting}
use Rattle.imap_talk.specs.declared.inputs.Before.{Before}
use Rattle.imap_talk.specs.declared.inputs.Input.{Input}
use Rattle.imap_talk.specs.declared.inputs.Input.TheVariants.{GoesOn, Asks, Faults}
use Rattle.imap_talk.specs.Inputs.{before_next, input_at, inputs_of, requests_in}

pub inputs-append : (setting : Setting) (before : Before) (one two : List Frame)
    → inputs_of setting before (one ++ two) ≡ inputs_of setting before one ++ inputs_of setting (before_next setting before one) two
unfolding inputs_of before_next
inputs-append setting before [] two = refl
inputs-append setting before (frame ∷ one) two =
    ap (λ l. (input_at setting before frame).input ∷ l) (inputs-append setting (input_at setting before frame).next one two)

pub before-append : (setting : Setting) (before : Before) (one two : List Frame)
    → before_next setting before (one ++ two) ≡ before_next setting (before_next setting before one) two
unfolding before_next
before-append setting before [] two = refl
before-append setting before (frame ∷ one) two = before-append setting (input_at setting before frame).next one two

pub inputs-length : (setting : Setting) (before : Before) (frames : List Frame) → length (inputs_of setting before frames) ≡ length frames
unfolding inputs_of
inputs-length setting before [] = refl
inputs-length setting before (frame ∷ frames) = omega (arith, inputs-length setting (input_at setting before frame).next frames)

pub requests-append : (one two : List Input) → requests_in (one ++ two) ≡ requests_in one ++ requests_in two
unfolding requests_in
requests-append [] two = refl
requests-append (Asks request ∷ one) two = ap (λ l. request ∷ l) (requests-append one two)
requests-append (GoesOn why ∷ one) two = requests-append one two
requests-append (Faults fault ∷ one) two = requests-append one two

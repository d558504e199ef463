-- What a frame is that the framer gave, if it gave one.
use Rattle.std.specs.Prelude.{◌≡◌, Option, None, Some}
use Rattle.imap_talk.specs.declared.inputs.Before.{Before}
use Rattle.imap_talk.specs.declared.inputs.Input.{Input}
use Rattle.imap_talk.specs.Inputs.{input_at}
use Rattle.imap_wire.specs.declared.frame.Frame.{Frame}
use Rattle.mur_model.specs.declared.setting.Setting.{Setting}

unfoldable pub IsGiven : Setting → Before → Option Frame → Option Input → Before → Type 0
IsGiven setting before None input next = (input ≡ None) × (next ≡ before)
IsGiven setting before (Some frame) input next =
    (input ≡ Some (input_at setting before frame).input) × (next ≡ (input_at setting before frame).next)

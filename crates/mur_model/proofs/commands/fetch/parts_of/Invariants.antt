use Rattle.std.proofs.Common.{◌≡◌, ◌++◌, map, drop}
use Rattle.mail_fetch.specs.Parts.{part_text}
use Rattle.mail_message.specs.Boxes.{relabelled}
use Rattle.mail_message.specs.declared.item.Item.{Item}
use Rattle.mur_model.proofs.commands.fetch.parts_of.Given as goal

abbrev pub invariant-loop-item : goal.invariant-loop-item
invariant-loop-item l = l.parts ++ map (λ (asked : Item). part_text asked (relabelled l.message l.flags)) (drop l.item-index l.items)
    ≡ map (λ (asked : Item). part_text asked (relabelled l.message l.flags)) l.items

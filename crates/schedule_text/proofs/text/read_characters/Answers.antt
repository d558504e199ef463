use Rattle.std.proofs.Common.{subst, sym, arith}
use Rattle.std.proofs.lemmas.Grind.{common_steps}
use Rattle.schedule_text.specs.Text.{bytes_spelled_from, IsSpelling}
use Rattle.schedule_text.proofs.TextLaws.{by_reading}
use Rattle.schedule_text.proofs.text.read_characters.Goals as goal
use Rattle.schedule_text.proofs.text.read_characters.Goals.{in-Inside, in-Ends+in_ok-push-in-Ends}

pub loop-character-preserved : goal.loop-character-preserved
unfolding bytes_spelled_from
loop-character-preserved c = elim c.match-character_at.branch [
  | in-Inside w ↦ record { place = subst IsSpelling (sym w.place-is) w.in-Inside.ensures.place; spelled = λ more. grind (arith, common_steps, by_reading) }
  | in-Ends+in_ok-push-in-Ends w ↦ record { place = subst IsSpelling (sym w.place-is) tt; spelled = λ more. grind (arith, common_steps, by_reading) }
]

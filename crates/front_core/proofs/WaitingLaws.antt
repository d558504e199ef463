-- The inputs that waited, one by one: those that the next command makes wait stay where they are.
use Rattle.std.proofs.Common.{◌≡◌, ℕ, ◌+◌, ◌≤◌, List, [], ◌∷◌, ◌++◌, length, true, false, refl, sym, ◌∙◌, ap, arith, subst}
use Rattle.std.proofs.lemmas.List.{append-nil}
use Rattle.imap_talk.specs.declared.inputs.Input.{Input}
use Rattle.link_msg.specs.declared.out.Out.{Out}
use Rattle.mur_model.specs.declared.setting.Setting.{Setting}
use Rattle.front_core.specs.declared.connection.Connection.{Connection}
use Rattle.front_core.specs.declared.connection.Stage.{Stage}
use Rattle.front_core.specs.declared.connection.Stage.TheVariants.{Reading, Waits, Lists, Ended}
use Rattle.front_core.specs.Room.{commands_of}
use Rattle.front_core.specs.Stages.{is_reading, stage_has_ended}
use Rattle.front_core.specs.Taken.{Turned, Ways, input_in, inputs_come, behind_outs}
use Rattle.front_core.proofs.CommandLaws.{input_in_counts}
use Rattle.front_core.proofs.FrameLaws.{input_apart, input_keeps, waiting_kept}
use Rattle.front_core.proofs.FramesLaws.{HoldsBack, behind_behind, held_back, ended_drops, read_on}

stage_read : (stage : Stage) → is_reading stage ≡ true → stage ≡ Reading
unfolding is_reading
stage_read Reading h = refl
stage_read (Waits tag it) h = cc
stage_read (Lists tag it) h = cc
stage_read Ended h = cc

pub stage_ended : (stage : Stage) → stage_has_ended stage ≡ true → stage ≡ Ended
unfolding stage_has_ended
stage_ended Reading h = cc
stage_ended (Waits tag it) h = cc
stage_ended (Lists tag it) h = cc
stage_ended Ended h = refl

module _ (setting : Setting) (ways : Ways) (conn : ℕ) where
  -- what was let out, and what the inputs that wait bring
  abbrev pub waiting_comes : List Out → Connection → Turned
  waiting_comes outs c = behind_outs outs (inputs_come setting ways conn (record c { waiting = [] }) c.waiting)

  pub waiting_on : (outs new_outs : List Out) (c new : Connection) (input : Input) (rest : List Input) → is_reading c.stage ≡ true → c.waiting ≡ input ∷ rest
      → record { connection = new; outs = new_outs } ≡ behind_outs outs (input_in setting ways conn (record c { waiting = rest }) input)
      → waiting_comes new_outs new ≡ waiting_comes outs c
  waiting_on outs new_outs c new input rest reads waits is =
      let own : Connection = record c { waiting = [] } in
      let turned = input_in setting ways conn own input in
      ap (λ (t : Turned). waiting_comes t.outs t.connection) (is ∙ ap (behind_outs outs) (input_apart setting ways conn c.reader rest own input))
      ∙ ap (λ (t : Turned). behind_outs (outs ++ turned.outs) (inputs_come setting ways conn t.connection rest)) (sym (input_keeps setting ways conn own input))
      ∙ sym (behind_behind outs turned.outs (inputs_come setting ways conn turned.connection rest))
      ∙ ap (behind_outs outs) (sym (read_on setting ways conn own input rest (stage_read c.stage reads)))
      ∙ ap (λ all. behind_outs outs (inputs_come setting ways conn own all)) (sym waits)

  pub waiting_over : (outs : List Out) (c : Connection) (left : List Input) → c.waiting ≡ [] → left ≡ []
      → record { connection = record c { waiting = left }; outs = outs } ≡ waiting_comes outs c
  unfolding inputs_come
  waiting_over outs c left none over = sym (
      ap (λ all. behind_outs outs (inputs_come setting ways conn (record c { waiting = [] }) all)) none
      ∙ ap (λ all. record { connection = record c { waiting = [] }; outs = all }) (append-nil outs)
      ∙ ap (λ w. record { connection = record c { waiting = w }; outs = outs }) (sym over))

  pub waiting_dropped : (outs : List Out) (c : Connection) (left : List Input) → stage_has_ended c.stage ≡ true → left ≡ []
      → record { connection = record c { waiting = left }; outs = outs } ≡ waiting_comes outs c
  waiting_dropped outs c left ended over = sym (
      ap (behind_outs outs) (ended_drops setting ways conn (record c { waiting = [] }) c.waiting (stage_ended c.stage ended))
      ∙ ap (λ all. record { connection = record c { waiting = [] }; outs = all }) (append-nil outs)
      ∙ ap (λ w. record { connection = record c { waiting = w }; outs = outs }) (sym over))

  all_stay : (outs : List Out) (c : Connection) → HoldsBack c.stage → record { connection = c; outs = outs } ≡ waiting_comes outs c
  all_stay outs c holds = sym (
      ap (behind_outs outs) (held_back setting ways conn (record c { waiting = [] }) c.waiting holds)
      ∙ ap (λ all. record { connection = c; outs = all }) (append-nil outs))

  stays_by : (outs : List Out) (c : Connection) (stage : Stage) → c.stage ≡ stage → is_reading stage ≡ false → stage_has_ended stage ≡ false
      → record { connection = c; outs = outs } ≡ waiting_comes outs c
  unfolding is_reading stage_has_ended
  stays_by outs c Reading is reads ends = cc
  stays_by outs c Ended is reads ends = cc
  stays_by outs c (Waits tag it) is reads ends = all_stay outs c (subst HoldsBack (sym is) tt)
  stays_by outs c (Lists tag it) is reads ends = all_stay outs c (subst HoldsBack (sym is) tt)

  -- the inputs stay where they are behind a command that waits
  pub waiting_stays : (outs : List Out) (c : Connection) → is_reading c.stage ≡ false → stage_has_ended c.stage ≡ false
      → record { connection = c; outs = outs } ≡ waiting_comes outs c
  waiting_stays outs c reads ends = stays_by outs c c.stage refl reads ends

  pub taken_counts : (outs new_outs : List Out) (c new : Connection) (input : Input) (rest : List Input) → c.waiting ≡ input ∷ rest
      → record { connection = new; outs = new_outs } ≡ behind_outs outs (input_in setting ways conn (record c { waiting = rest }) input)
      → commands_of new ≤ commands_of c
  taken_counts outs new_outs c new input rest waits is =
      omega (arith, ap (λ (t : Turned). commands_of t.connection) is, input_in_counts setting ways conn (record c { waiting = rest }) input, ap length waits)

  pub taken_shortens : (outs new_outs : List Out) (c new : Connection) (input : Input) (rest : List Input) → c.waiting ≡ input ∷ rest
      → record { connection = new; outs = new_outs } ≡ behind_outs outs (input_in setting ways conn (record c { waiting = rest }) input)
      → length new.waiting + 1 ≤ length c.waiting
  taken_shortens outs new_outs c new input rest waits is =
      omega (
        arith,
        ap length (ap (λ (t : Turned). t.connection.waiting) is ∙ waiting_kept setting ways conn (record c { waiting = rest }) input),
        ap length waits,
      )

-- Inputs that come one after another.
use Rattle.std.proofs.Common.{◌≡◌, ℕ, List, [], ◌∷◌, ◌++◌, refl, sym, ◌∙◌, ap, append_assoc}
use Rattle.std.specs.Prelude.{⊤}
use Rattle.std.proofs.lemmas.List.{append-nil}
use Rattle.imap_talk.specs.declared.inputs.Input.{Input}
use Rattle.link_msg.specs.declared.out.Out.{Out}
use Rattle.mur_model.specs.declared.setting.Setting.{Setting}
use Rattle.front_core.specs.declared.connection.Connection.{Connection}
use Rattle.front_core.specs.declared.connection.Stage.{Stage}
use Rattle.front_core.specs.declared.connection.Stage.TheVariants.{Reading, Waits, Lists, Ended}
use Rattle.front_core.specs.Reading.{Reading as Read}
use Rattle.front_core.specs.Taken.{Turned, Ways, input_in, comes_at, input_comes, inputs_come, behind_outs, waits_behind}
use Rattle.front_core.proofs.FrameLaws.{reading, comes_apart}

pub behind_behind : (first second : List Out) (turned : Turned) → behind_outs first (behind_outs second turned) ≡ behind_outs (first ++ second) turned
behind_behind first second turned = ap (λ outs. record turned { outs = outs }) (sym (append_assoc first second turned.outs))

-- inputs wait behind a command that waits
abbrev pub HoldsBack : Stage → Type 0
HoldsBack Reading = ⊥
HoldsBack (Waits tag it) = ⊤
HoldsBack (Lists tag it) = ⊤
HoldsBack Ended = ⊥

module _ (setting : Setting) (ways : Ways) (conn : ℕ) where
  pub come_apart : (reader : Read) (c : Connection) (inputs : List Input)
      → inputs_come setting ways conn (record c { reader = reader }) inputs ≡ reading reader (inputs_come setting ways conn c inputs)
  unfolding inputs_come
  come_apart reader c [] = refl
  come_apart reader c (input ∷ inputs) =
      ap (λ (t : Turned). behind_outs t.outs (inputs_come setting ways conn t.connection inputs)) (comes_apart setting ways conn reader c input)
      ∙ ap (behind_outs (input_comes setting ways conn c input).outs) (come_apart reader (input_comes setting ways conn c input).connection inputs)

  -- the inputs of the front, and then those behind them
  abbrev pub then_come : Turned → List Input → Turned
  then_come turned inputs = behind_outs turned.outs (inputs_come setting ways conn turned.connection inputs)

  pub come_append : (c : Connection) (first rest : List Input)
      → inputs_come setting ways conn c (first ++ rest) ≡ then_come (inputs_come setting ways conn c first) rest
  unfolding inputs_come
  come_append c [] rest = refl
  come_append c (input ∷ first) rest =
      let turned = input_comes setting ways conn c input in
      let behind = inputs_come setting ways conn turned.connection first in
      ap (behind_outs turned.outs) (come_append turned.connection first rest)
      ∙ behind_behind turned.outs behind.outs (inputs_come setting ways conn behind.connection rest)

  waits_at : (c : Connection) (input : Input) (stage : Stage) → HoldsBack stage → comes_at setting ways conn c input stage ≡ waits_behind c input
  unfolding comes_at
  waits_at c input Reading holds = absurd holds
  waits_at c input (Waits tag it) holds = refl
  waits_at c input (Lists tag it) holds = refl
  waits_at c input Ended holds = absurd holds

  waits : (c : Connection) (input : Input) → HoldsBack c.stage → input_comes setting ways conn c input ≡ waits_behind c input
  unfolding input_comes
  waits c input holds = waits_at c input c.stage holds

  -- behind a command that waits all of them wait
  pub held_back : (c : Connection) (inputs : List Input) → HoldsBack c.stage
      → inputs_come setting ways conn c inputs ≡ record { connection = record c { waiting = c.waiting ++ inputs }; outs = [] }
  unfolding inputs_come
  held_back c [] holds = ap (λ w. record { connection = record c { waiting = w }; outs = [] }) (sym (append-nil c.waiting))
  held_back c (input ∷ inputs) holds =
      ap (λ (t : Turned). behind_outs t.outs (inputs_come setting ways conn t.connection inputs)) (waits c input holds)
      ∙ held_back (record c { waiting = c.waiting ++ input ∷ [] }) inputs holds
      ∙ ap (λ w. record { connection = record c { waiting = w }; outs = [] }) (append_assoc c.waiting (input ∷ []) inputs)

  drops : (c : Connection) (input : Input) → c.stage ≡ Ended → input_comes setting ways conn c input ≡ record { connection = c; outs = [] }
  unfolding input_comes comes_at
  drops c input is = ap (comes_at setting ways conn c input) is

  -- a connection that has ended drops all of them
  pub ended_drops : (c : Connection) (inputs : List Input) → c.stage ≡ Ended → inputs_come setting ways conn c inputs ≡ record { connection = c; outs = [] }
  unfolding inputs_come
  ended_drops c [] is = refl
  ended_drops c (input ∷ inputs) is =
      ap (λ (t : Turned). behind_outs t.outs (inputs_come setting ways conn t.connection inputs)) (drops c input is) ∙ ended_drops c inputs is

  -- the first one is taken where the connection is reading
  pub read_on : (c : Connection) (input : Input) (inputs : List Input) → c.stage ≡ Reading
      → inputs_come setting ways conn c (input ∷ inputs) ≡ then_come (input_in setting ways conn c input) inputs
  unfolding inputs_come input_comes comes_at
  read_on c input inputs is = ap (λ stage. then_come (comes_at setting ways conn c input stage) inputs) is

-- A piece of bytes, input by input.
use Rattle.std.proofs.Common.{◌≡◌, ℕ, ◌+◌, ◌-◌, ◌<◌, ◌≤◌, List, [], ◌++◌, length, take, drop, Option, None, Some, true, false, refl, sym, ◌∙◌, ap, arith, length-drop}
use Rattle.std.proofs.lemmas.List.{append-nil, take_rest, drop-drop, drop_all}
use Rattle.std.specs.Option.{option_to_list, is_none, IsSome}
use Rattle.imap_talk.specs.declared.inputs.Input.{Input}
use Rattle.link_msg.specs.declared.out.Out.{Out}
use Rattle.mur_model.specs.declared.setting.Setting.{Setting}
use Rattle.front_core.specs.declared.connection.Connection.{Connection}
use Rattle.front_core.specs.Ended.{ended, released_at, with_released}
use Rattle.front_core.specs.Front.{having_read}
use Rattle.front_core.specs.Reading.{Reading as Read, inputs_of_more, read_more}
use Rattle.front_core.specs.Room.{commands_of}
use Rattle.front_core.specs.Stages.{stage_has_ended}
use Rattle.front_core.specs.Taken.{Turned, Ways, inputs_come, behind_outs}
use Rattle.front_core.proofs.CommandLaws.{inputs_count}
use Rattle.front_core.proofs.ReadingLaws.{ended_inputs, ended_reader, nothing_more, read_nothing}
use Rattle.front_core.proofs.FramesLaws.{behind_behind, come_apart, come_append, ended_drops, then_come}
use Rattle.front_core.proofs.WaitingLaws.{stage_ended}

-- the rest of a piece behind what is taken of a rest of it
rest_of_rest : (piece : List ℕ) (taken more : ℕ) → drop more (take (length piece - taken) (drop taken piece)) ≡ drop (taken + more) piece
rest_of_rest piece taken more = ap (drop more) (take_rest piece taken) ∙ drop-drop more taken piece

-- something is left of a piece
pub rest_some : (piece : List ℕ) (taken : ℕ) → taken < length piece → 0 < length (take (length piece - taken) (drop taken piece))
rest_some piece taken h = omega (arith, ap length (take_rest piece taken), length-drop taken piece)

pub still_read : (held : Option (List ℕ)) → false ≡ is_none held → IsSome held
still_read None h = cc
still_read (Some bytes) h = refl

module _ (setting : Setting) (ways : Ways) (conn : ℕ) where
  -- what was let out, and what the rest of a piece brings
  abbrev pub rest_comes : List Out → Connection → List ℕ → Turned
  rest_comes outs c rest = behind_outs outs (inputs_come setting ways conn (having_read setting c rest) (inputs_of_more setting c.reader rest))

  nothing_comes : (outs : List Out) (c : Connection) (rest : List ℕ) → inputs_of_more setting c.reader rest ≡ [] → c.reader ≡ read_more setting c.reader rest
      → record { connection = c; outs = outs } ≡ rest_comes outs c rest
  unfolding inputs_come
  nothing_comes outs c rest none same = sym (
      ap (λ inputs. behind_outs outs (inputs_come setting ways conn (having_read setting c rest) inputs)) none
      ∙ ap (λ held. record { connection = record c { reader = held }; outs = outs ++ [] }) (sym same)
      ∙ ap (λ all. record { connection = c; outs = all }) (append-nil outs))

  -- nothing is left of the piece
  pub piece_over : (outs : List Out) (c : Connection) (piece : List ℕ) (taken : ℕ) → length piece ≤ taken
      → record { connection = c; outs = outs } ≡ rest_comes outs c (drop taken piece)
  piece_over outs c piece taken h = nothing_comes outs c (drop taken piece)
      (ap (inputs_of_more setting c.reader) (drop_all taken piece h) ∙ nothing_more setting c.reader)
      (sym (ap (read_more setting c.reader) (drop_all taken piece h) ∙ read_nothing setting c.reader))

  -- the reader has ended
  pub reader_over : (outs : List Out) (c : Connection) (rest : List ℕ) → is_none c.reader.held ≡ true
      → record { connection = c; outs = outs } ≡ rest_comes outs c rest
  reader_over outs c rest h = nothing_comes outs c rest (ended_inputs setting c.reader rest h) (sym (ended_reader setting c.reader rest h))

  -- the connection has ended, and what is left of the piece brings nothing
  pub ended_over : (outs : List Out) (c : Connection) (rest : List ℕ) → stage_has_ended c.stage ≡ true
      → with_released (record { connection = c; outs = outs }) ≡ with_released (rest_comes outs c rest)
  unfolding released_at
  ended_over outs c rest h =
      let is = stage_ended c.stage h in
      ap (λ stage. record { connection = released_at c stage; outs = outs }) is
      ∙ ap (λ all. record { connection = ended c.answered; outs = all }) (sym (append-nil outs))
      ∙ sym (
      ap (λ (t : Turned). with_released (behind_outs outs t))
      (ended_drops setting ways conn (having_read setting c rest) (inputs_of_more setting c.reader rest) is)
      ∙ ap (λ stage. record { connection = released_at (having_read setting c rest) stage; outs = outs ++ [] }) is)

  reader_of_all : (c : Connection) (inputs : List Input) → (inputs_come setting ways conn c inputs).connection.reader ≡ c.reader
  reader_of_all c inputs = ap (λ (t : Turned). t.connection.reader) (come_apart setting ways conn c.reader c inputs)

  -- the input that the reader gave has come
  came : (outs : List Out) (c : Connection) (reader : Read) (first : List Input) (rest left : List ℕ)
      → inputs_of_more setting c.reader rest ≡ first ++ inputs_of_more setting reader left → read_more setting c.reader rest ≡ read_more setting reader left
      → (let turned = inputs_come setting ways conn (record c { reader = reader }) first in
      rest_comes (outs ++ turned.outs) turned.connection left ≡ rest_comes outs c rest)
  came outs c reader first rest left inputs held =
      let turned = inputs_come setting ways conn (record c { reader = reader }) first in
      let after = read_more setting reader left in
      let others = inputs_of_more setting reader left in
      ap (λ own. behind_outs (outs ++ turned.outs)
      (inputs_come setting ways conn (record turned.connection { reader = read_more setting own left }) (inputs_of_more setting own left)))
      (reader_of_all (record c { reader = reader }) first)
      ∙ sym (behind_behind outs turned.outs (inputs_come setting ways conn (record turned.connection { reader = after }) others))
      ∙ ap (λ (t : Turned). behind_outs outs (then_come setting ways conn t others))
      (sym (come_apart setting ways conn after (record c { reader = reader }) first))
      ∙ ap (behind_outs outs) (sym (come_append setting ways conn (record c { reader = after }) first others))
      ∙ ap (λ all. behind_outs outs (inputs_come setting ways conn (record c { reader = after }) all)) (sym inputs)
      ∙ ap (λ own. behind_outs outs (inputs_come setting ways conn (record c { reader = own }) (inputs_of_more setting c.reader rest))) (sym held)

  pub rest_on : (outs new_outs : List Out) (c new : Connection) (reader : Read) (piece : List ℕ) (taken more : ℕ) (input : Option Input)
      → inputs_of_more setting c.reader (take (length piece - taken) (drop taken piece))
      ≡ option_to_list input ++ inputs_of_more setting reader (drop more (take (length piece - taken) (drop taken piece)))
      → read_more setting c.reader (take (length piece - taken) (drop taken piece))
      ≡ read_more setting reader (drop more (take (length piece - taken) (drop taken piece)))
      → record { connection = new; outs = new_outs } ≡ behind_outs outs (inputs_come setting ways conn (record c { reader = reader }) (option_to_list input))
      → rest_comes new_outs new (drop (taken + more) piece) ≡ rest_comes outs c (drop taken piece)
  rest_on outs new_outs c new reader piece taken more input inputs held is =
      ap (λ (t : Turned). rest_comes t.outs t.connection (drop (taken + more) piece)) is
      ∙ came outs c reader (option_to_list input) (drop taken piece) (drop (taken + more) piece)
      (ap (inputs_of_more setting c.reader) (sym (take_rest piece taken)) ∙ inputs
      ∙ ap (λ r. option_to_list input ++ inputs_of_more setting reader r) (rest_of_rest piece taken more))
      (ap (read_more setting c.reader) (sym (take_rest piece taken)) ∙ held ∙ ap (read_more setting reader) (rest_of_rest piece taken more))

  at_most_one : (input : Option Input) → length (option_to_list input) ≤ 1
  at_most_one None = omega arith
  at_most_one (Some input) = omega arith

  -- one input of it is at most one command
  pub next_counts : (outs new_outs : List Out) (c new : Connection) (input : Option Input)
      → record { connection = new; outs = new_outs } ≡ behind_outs outs (inputs_come setting ways conn c (option_to_list input))
      → commands_of new ≤ commands_of c + 1
  next_counts outs new_outs c new input is =
      omega (
        arith,
        ap (λ (t : Turned). commands_of t.connection) is,
        inputs_count setting ways conn c (option_to_list input),
        at_most_one input,
      )

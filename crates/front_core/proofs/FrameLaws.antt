-- What an input makes of a connection depends neither on its reader nor on the inputs that wait, and changes neither.
use Rattle.std.proofs.Common.{◌≡◌, ℕ, Bool, true, false, List, refl, sym, ◌∙◌, ap}
use Rattle.asking_core.specs.Begins.{Begun, first_sent}
use Rattle.imap_talk.specs.declared.inputs.Input.{Input}
use Rattle.imap_talk.specs.declared.inputs.Input.TheVariants.{GoesOn, Asks, Faults}
use Rattle.imap_types.specs.declared.command.Tag.{Tag}
use Rattle.imap_types.specs.declared.request.Request.{Request}
use Rattle.imap_types.specs.declared.request.Request.TheVariants.{Command as a_command, Unknown as unknown, TooBig as too_big}
use Rattle.mur_model.specs.declared.commands.list.Listing.{Listing}
use Rattle.mur_model.specs.declared.setting.Setting.{Setting}
use Rattle.mur_model.specs.declared.need.Need.{Need}
use Rattle.mur_model.specs.declared.need.Need.TheVariants.{Reply, Leave, Home, Names}
use Rattle.session_core.specs.Begin.{begin}
use Rattle.front_core.specs.declared.connection.Connection.{Connection}
use Rattle.front_core.specs.declared.connection.Stage.{Stage}
use Rattle.front_core.specs.declared.connection.Stage.TheVariants.{Reading, Waits, Lists, Ended}
use Rattle.front_core.specs.Reading.{Reading as Read}
use Rattle.front_core.specs.Taken.{Turned, Ways, answers_last, begins_if, lists_if, next_of, to_begin, told_now, turned_by_need, request_in, input_in}
use Rattle.front_core.specs.Taken.{comes_at, input_comes}
use Rattle.front_core.specs.Ups.{is_up}

-- with another reader, and other inputs that wait
abbrev pub holding : Read → List Input → Turned → Turned
holding reader waiting turned = record turned { connection = record turned.connection { reader = reader; waiting = waiting } }

abbrev pub reading : Read → Turned → Turned
reading reader turned = record turned { connection = record turned.connection { reader = reader } }

module _ (setting : Setting) (ways : Ways) (conn : ℕ) (reader : Read) where
  module _ (waiting : List Input) where
    begins_apart : (up : Bool) (c : Connection) (tag : Tag) (begun : Begun)
        → begins_if up conn (record c { reader = reader; waiting = waiting }) tag begun ≡ holding reader waiting (begins_if up conn c tag begun)
    unfolding told_now
    begins_apart true c tag begun = refl
    begins_apart false c tag begun = refl

    lists_apart : (up : Bool) (c : Connection) (tag : Tag) (it : Listing)
        → lists_if up ways.master conn (record c { reader = reader; waiting = waiting }) tag it
        ≡ holding reader waiting (lists_if up ways.master conn c tag it)
    unfolding told_now
    lists_apart true c tag it = refl
    lists_apart false c tag it = refl

    need_apart : (c : Connection) (tag : Tag) (need : Need)
        → turned_by_need ways conn (record c { reader = reader; waiting = waiting }) tag need ≡ holding reader waiting (turned_by_need ways conn c tag need)
    unfolding turned_by_need told_now answers_last
    need_apart c tag (Reply reply) = refl
    need_apart c tag (Leave reply) = refl
    need_apart c tag (Home name asking) =
        let it = first_sent ways.recs ways.master ways.first (next_of conn c) c.session (to_begin name asking) in
        begins_apart (is_up ways.ups it.sent.to) c tag it
    need_apart c tag (Names it) = lists_apart (is_up ways.ups ways.master) c tag it

    request_apart : (c : Connection) (request : Request)
        → request_in setting ways conn (record c { reader = reader; waiting = waiting }) request
        ≡ holding reader waiting (request_in setting ways conn c request)
    unfolding request_in told_now
    request_apart c (a_command tag it) =
        let behind = begin setting c.session it in
        need_apart (record c { session = behind.session }) tag behind.need
    request_apart c (unknown tag) = refl
    request_apart c (too_big tag) = refl

    pub input_apart : (c : Connection) (input : Input)
        → input_in setting ways conn (record c { reader = reader; waiting = waiting }) input ≡ holding reader waiting (input_in setting ways conn c input)
    unfolding input_in
    input_apart c (Asks request) = request_apart c request
    input_apart c (GoesOn why) = refl
    input_apart c (Faults fault) = refl

pub input_keeps : (setting : Setting) (ways : Ways) (conn : ℕ) (c : Connection) (input : Input)
    → input_in setting ways conn c input ≡ holding c.reader c.waiting (input_in setting ways conn c input)
input_keeps setting ways conn c input = input_apart setting ways conn c.reader c.waiting c input

pub waiting_kept : (setting : Setting) (ways : Ways) (conn : ℕ) (c : Connection) (input : Input)
    → (input_in setting ways conn c input).connection.waiting ≡ c.waiting
waiting_kept setting ways conn c input = ap (λ (t : Turned). t.connection.waiting) (input_keeps setting ways conn c input)

reader_by : (setting : Setting) (ways : Ways) (conn : ℕ) (c : Connection) (input : Input) (stage : Stage)
    → (comes_at setting ways conn c input stage).connection.reader ≡ c.reader
unfolding comes_at
reader_by setting ways conn c input Reading = ap (λ (t : Turned). t.connection.reader) (input_keeps setting ways conn c input)
reader_by setting ways conn c input (Waits tag it) = refl
reader_by setting ways conn c input (Lists tag it) = refl
reader_by setting ways conn c input Ended = refl

-- an input that comes keeps the reader
pub reader_kept : (setting : Setting) (ways : Ways) (conn : ℕ) (c : Connection) (input : Input)
    → (input_comes setting ways conn c input).connection.reader ≡ c.reader
unfolding input_comes
reader_kept setting ways conn c input = reader_by setting ways conn c input c.stage

comes_by : (setting : Setting) (ways : Ways) (conn : ℕ) (reader : Read) (c : Connection) (input : Input) (stage : Stage)
    → comes_at setting ways conn (record c { reader = reader }) input stage ≡ reading reader (comes_at setting ways conn c input stage)
unfolding comes_at
comes_by setting ways conn reader c input Reading =
    input_apart setting ways conn reader c.waiting c input
    ∙ ap (λ w. holding reader w (input_in setting ways conn c input)) (sym (waiting_kept setting ways conn c input))
comes_by setting ways conn reader c input (Waits tag it) = refl
comes_by setting ways conn reader c input (Lists tag it) = refl
comes_by setting ways conn reader c input Ended = refl

pub comes_apart : (setting : Setting) (ways : Ways) (conn : ℕ) (reader : Read) (c : Connection) (input : Input)
    → input_comes setting ways conn (record c { reader = reader }) input ≡ reading reader (input_comes setting ways conn c input)
unfolding input_comes
comes_apart setting ways conn reader c input = comes_by setting ways conn reader c input c.stage

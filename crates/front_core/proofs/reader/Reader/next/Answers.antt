use Rattle.std.proofs.Common.{◌≡◌, ℕ, drop, Option, None, Result, Ok, sym, ◌∙◌, ap}
use Rattle.imap_wire.specs.declared.frame.Frame.{Frame}
use Rattle.mur_base.specs.declared.memory.Memory.{Memory}
use Rattle.front_core.specs.Reading.{inputs_of_more, read_more}
use Rattle.front_core.proofs.ReaderLaws.{next_frames, next_begun}
use Rattle.front_core.proofs.ReadingLaws.{next_inputs, next_reading}
use Rattle.front_core.proofs.reader.Reader.next.Goals as goal

no_frame : (frame : Option Frame) (taken : ℕ) → (let r : Result (Option Frame × ℕ) Memory = Ok (frame, taken) in r ≡ Ok (None, 0)) → frame ≡ None
no_frame frame taken h =
    let pair : ◌≡◌ {A = Option Frame × ℕ} (frame, taken) (None, 0) = cc in ap (λ (x : Option Frame × ℕ). x.0) pair

pub returns-clause-inputs : goal.returns-clause-inputs
returns-clause-inputs c =
    ap (λ r. inputs_of_more c.args.setting.now r c.args.piece.now) (sym c.self.view_is)
    ∙ next_inputs c.args.setting.now (record { held = c.self.inside.framer.begun; before = c.self.inside.before })
    (record { held = c.feed.new.self.begun; before = c.given.new.before }) c.args.piece.now (drop c.in_ok-frame.taken c.args.piece.now)
    c.in_ok-frame.frame c.in_ok-input.input
    (next_frames c.self.inside.framer.begun c.feed.new.self.begun c.args.piece.now c.in_ok-frame.frame c.in_ok-frame.taken
    c.in_ok-frame.ensures.frame c.in_ok-frame.ensures.after c.in_ok-frame.ensures.own
    (λ none. let is = c.in_ok-frame.ensures.spent none in (no_frame c.in_ok-frame.frame c.in_ok-frame.taken is.0, is.1)))
    c.in_ok-input.ensures

pub returns-clause-rest : goal.returns-clause-rest
returns-clause-rest c =
    ap (λ r. read_more c.args.setting.now r c.args.piece.now) (sym c.self.view_is)
    ∙ next_reading c.args.setting.now (record { held = c.self.inside.framer.begun; before = c.self.inside.before })
    (record { held = c.feed.new.self.begun; before = c.given.new.before }) c.args.piece.now (drop c.in_ok-frame.taken c.args.piece.now)
    c.in_ok-frame.frame c.in_ok-input.input
    (next_frames c.self.inside.framer.begun c.feed.new.self.begun c.args.piece.now c.in_ok-frame.frame c.in_ok-frame.taken
    c.in_ok-frame.ensures.frame c.in_ok-frame.ensures.after c.in_ok-frame.ensures.own
    (λ none. let is = c.in_ok-frame.ensures.spent none in (no_frame c.in_ok-frame.frame c.in_ok-frame.taken is.0, is.1)))
    c.in_ok-input.ensures
    (next_begun c.self.inside.framer.begun c.feed.new.self.begun c.args.piece.now c.in_ok-frame.taken
    c.in_ok-frame.ensures.after c.in_ok-frame.ensures.own (λ none. (c.in_ok-frame.ensures.spent none).1))

-- The events of a schedule are those that its lines spell.
use Rattle.std.proofs.Common.{◌≡◌, ℕ, ◌+◌, Bool, true, false, nat_lt, List, [], ◌∷◌, ◌++◌, length, map, Result, Ok, Err}
use Rattle.std.proofs.Common.{refl, sym, ap, ◌∙◌, subst, inl, inr, append_assoc, eqb-true}
use Rattle.std.proofs.lemmas.List.{append-nil}
use Rattle.mur_base.specs.declared.limits.TheConstants.{SCHEDULE_LIMIT}
use Rattle.mur_config.specs.declared.config.Config.{Config}
use Rattle.schedule_text.specs.declared.event.Event.{Event}
use Rattle.schedule_text.specs.declared.schedule.fault.Rule.{Rule}
use Rattle.schedule_text.specs.declared.schedule.fault.Rule.TheVariants.{TooLong}
use Rattle.schedule_text.specs.declared.schedule.fault.SchedFault.{SchedFault}
use Rattle.schedule_text.specs.Cuts.{cuts_of, line_in}
use Rattle.schedule_text.specs.Schedule.{event_of, with_event, line_read, events_from, schedule_of, is_passed_over}
use Rattle.schedule_text.specs.Spelled.{IsPassedOver, AreSpelledBy, SpellEvents}
use Rattle.schedule_text.specs.Spelled.AreSpelledBy.{no_lines, passed, spelled}
use Rattle.schedule_text.specs.MayFollow.{AllMayFollow}
use Rattle.schedule_text.proofs.RowLaws.{event_is}
use Rattle.schedule_text.proofs.Steps.{both}
use Rattle.schedule_text.proofs.SpelledLines.{are_lines}

pub passed_over : (line : List ℕ) → is_passed_over line ≡ true → IsPassedOver line
unfolding is_passed_over
passed_over [] h = inl refl
passed_over (b ∷ line) h = inr (line, ap (λ (x : ℕ). x ∷ line) (eqb-true b 35 h))

-- behind the events before a line stand those that it and the lines behind it spell
record Adds (config : Config) (before : List Event) (lines : List (List ℕ)) (after : List Event) : Type 0 where
  events : List Event
  behind : after ≡ before ++ events
  spelled : AreSpelledBy lines events
  follow : AllMayFollow config before events

onto_line : (config : Config) (number : ℕ) (before now after : List Event) (line : List ℕ) (lines : List (List ℕ))
    → (over : Bool) → is_passed_over line ≡ over → (read : Result Event Rule) → event_of config before line ≡ read
    → line_read config number before line ≡ Ok now → Adds config now lines after → Adds config before (line ∷ lines) after
unfolding line_read AllMayFollow
onto_line config number before now after line lines true p read r h adds =
    let same : before ≡ now = (let e : Ok before ≡ Ok now = rw p at h in cc) in
    record {
      events = adds.events;
      behind = adds.behind ∙ ap (λ (b : List Event). b ++ adds.events) (sym same);
      spelled = passed line lines adds.events (passed_over line p) adds.spelled;
      follow = subst (λ (b : List Event). AllMayFollow config b adds.events) (sym same) adds.follow;
    }
onto_line config number before now after line lines false p (Ok event) r h adds =
    let same : before ++ event ∷ [] ≡ now = (let e : with_event number before (Ok event) ≡ Ok now = rw (p, r) at h in cc) in
    record {
      events = event ∷ adds.events;
      behind = adds.behind ∙ ap (λ (b : List Event). b ++ adds.events) (sym same) ∙ append_assoc before (event ∷ []) adds.events;
      spelled = spelled line event lines adds.events (event_is config before line event r).spelled adds.spelled;
      follow = (
        (event_is config before line event r).follows,
        subst (λ (b : List Event). AllMayFollow config b adds.events) (sym same) adds.follow,
      );
    }
onto_line config number before now after line lines false p (Err why) r h adds = let e : with_event number before (Err why) ≡ Ok now = rw (p, r) at h in cc

lines_spell : (pieces : List (List ℕ)) (config : Config) (number : ℕ) (before after : List Event)
    → events_from config number before pieces ≡ Ok after → Adds config before (map line_in pieces) after
unfolding events_from AllMayFollow
lines_spell [] config number before after h =
    let same : before ≡ after = cc in
    record { events = []; behind = sym same ∙ sym (append-nil before); spelled = no_lines; follow = tt }
lines_spell (piece ∷ pieces) config number before after h =
    let first = both (line_read config number before (line_in piece)) _ after h in
    onto_line config number before first.0 after (line_in piece) (map line_in pieces) _ refl _ refl first.1
    (lines_spell pieces config (number + 1) first.0 after first.2)

schedule_by : (config : Config) (bytes : List ℕ) (events : List Event) → (long : Bool) → nat_lt SCHEDULE_LIMIT (length bytes) ≡ long
    → schedule_of config bytes ≡ Ok events → SpellEvents bytes events × AllMayFollow config [] events
unfolding schedule_of
schedule_by config bytes events true l h =
    let too_long : SchedFault = record { line = 0; why = TooLong } in
    let none : Err too_long ≡ Ok events = rw l at h in cc
schedule_by config bytes events false l h =
    let all = lines_spell (cuts_of bytes) config 1 [] events (rw l at h) in
    let spell : SpellEvents bytes events =
    record {
      lines = map line_in (cuts_of bytes);
      cut = are_lines bytes;
      spelled = subst (λ (found : List Event). AreSpelledBy (map line_in (cuts_of bytes)) found) (sym all.behind) all.spelled;
    } in
    (spell, subst (λ (found : List Event). AllMayFollow config [] found) (sym all.behind) all.follow)

-- the events of a schedule are spelled by its lines, one for one, and may follow one another
pub schedule_spelled : (config : Config) (bytes : List ℕ) (events : List Event) → schedule_of config bytes ≡ Ok events
    → SpellEvents bytes events × AllMayFollow config [] events
schedule_spelled config bytes events h = schedule_by config bytes events _ refl h

-- The line of a fault spells no event that may follow, and the lines before it do.
use Rattle.std.proofs.Common.{◌≡◌, ℕ, ◌+◌, Bool, true, false, nat_lt, List, [], ◌∷◌, ◌++◌, length, map, Result, Ok, Err}
use Rattle.std.proofs.Common.{refl, sym, ap, ◌∙◌, subst, inl, inr, append_assoc, append-nil, arith}
use Rattle.std.proofs.lemmas.Bool.{ltb-true, ltb-false}
use Rattle.mur_base.specs.declared.limits.TheConstants.{SCHEDULE_LIMIT}
use Rattle.mur_config.specs.declared.config.Config.{Config}
use Rattle.schedule_text.specs.declared.event.Event.{Event}
use Rattle.schedule_text.specs.declared.schedule.fault.Rule.{Rule}
use Rattle.schedule_text.specs.declared.schedule.fault.Rule.TheVariants.{TooLong}
use Rattle.schedule_text.specs.declared.schedule.fault.SchedFault.{SchedFault}
use Rattle.schedule_text.specs.Cuts.{cuts_of, line_in}
use Rattle.schedule_text.specs.Meaning.{IsBadLine, IsRefusedAt}
use Rattle.schedule_text.specs.MayFollow.{MayFollow, AllMayFollow}
use Rattle.schedule_text.specs.Schedule.{event_of, line_read, events_from, schedule_of, is_passed_over}
use Rattle.schedule_text.specs.ScheduleRules.{◌>>=◌}
use Rattle.schedule_text.specs.Spelled.{AreLinesOf, IsSpelledBy, IsPassedOver, AreSpelledBy}
use Rattle.schedule_text.specs.Spelled.AreSpelledBy.{no_lines, passed, spelled}
use Rattle.schedule_text.proofs.SpelledLaws.{passed_over}
use Rattle.schedule_text.proofs.SpelledLines.{are_lines}
use Rattle.schedule_text.proofs.RowLaws.{event_is, event_read}

counted : (line : List ℕ) → is_passed_over line ≡ false → IsPassedOver line → ⊥
unfolding is_passed_over
counted line h (inl none) = let e : is_passed_over [] ≡ false = subst (λ (l : List ℕ). is_passed_over l ≡ false) none h in cc
counted line h (inr hash) = let e : is_passed_over (35 ∷ hash.0) ≡ false = subst (λ (l : List ℕ). is_passed_over l ≡ false) hash.1 h in cc

bad_line : (config : Config) (before : List Event) (line : List ℕ) (why : Rule) → is_passed_over line ≡ false → event_of config before line ≡ Err why
    → IsBadLine config before line
bad_line config before line why over h = record {
  counts = counted line over;
  none = λ event is may. (let read : Ok event ≡ Err why = sym (event_read config before line event is may) ∙ h in cc);
}

-- behind events, lines are good up to one that is bad; the first has this number
record Bad (config : Config) (number : ℕ) (before : List Event) (all : List (List ℕ)) (at : ℕ) : Type 0 where
  front : List (List ℕ)
  line : List ℕ
  behind : List (List ℕ)
  parts : all ≡ front ++ line ∷ behind
  place : at ≡ length front + number
  events : List Event
  spelled : AreSpelledBy front events
  follow : AllMayFollow config before events
  bad : IsBadLine config (before ++ events) line

bad_later : (config : Config) (number : ℕ) (before : List Event) (line : List ℕ) (lines : List (List ℕ)) (at : ℕ) → IsPassedOver line
    → Bad config (number + 1) before lines at → Bad config number before (line ∷ lines) at
bad_later config number before line lines at over later = record {
  front = line ∷ later.front;
  line = later.line;
  behind = later.behind;
  parts = ap (λ (l : List (List ℕ)). line ∷ l) later.parts;
  place = omega (arith, later.place);
  events = later.events;
  spelled = passed line later.front later.events over later.spelled;
  follow = later.follow;
  bad = later.bad;
}

bad_behind : (config : Config) (number : ℕ) (before : List Event) (line : List ℕ) (event : Event) (lines : List (List ℕ)) (at : ℕ) → IsSpelledBy line event
    → MayFollow config before event → Bad config (number + 1) (before ++ event ∷ []) lines at → Bad config number before (line ∷ lines) at
unfolding AllMayFollow
bad_behind config number before line event lines at is may later = record {
  front = line ∷ later.front;
  line = later.line;
  behind = later.behind;
  parts = ap (λ (l : List (List ℕ)). line ∷ l) later.parts;
  place = omega (arith, later.place);
  events = event ∷ later.events;
  spelled = spelled line event later.front later.events is later.spelled;
  follow = (may, later.follow);
  bad = subst (λ (b : List Event). IsBadLine config b later.line) (append_assoc before (event ∷ []) later.events) later.bad;
}

bad_here : (config : Config) (number : ℕ) (before : List Event) (line : List ℕ) (lines : List (List ℕ)) → IsBadLine config before line
    → Bad config number before (line ∷ lines) number
unfolding AllMayFollow
bad_here config number before line lines bad = record {
  front = [];
  line = line;
  behind = lines;
  parts = refl;
  place = omega arith;
  events = [];
  spelled = no_lines;
  follow = tt;
  bad = subst (λ (b : List Event). IsBadLine config b line) (sym (append-nil before)) bad;
}

bad_by : (config : Config) (number : ℕ) (before : List Event) (line : List ℕ) (pieces : List (List ℕ)) (fault : SchedFault)
    → (over : Bool) → is_passed_over line ≡ over → (read : Result Event Rule) → event_of config before line ≡ read
    → ((now : List Event) → events_from config (number + 1) now pieces ≡ Err fault → Bad config (number + 1) now (map line_in pieces) fault.line)
    → (line_read config number before line >>= λ events. events_from config (number + 1) events pieces) ≡ Err fault
    → Bad config number before (line ∷ map line_in pieces) fault.line
unfolding line_read
bad_by config number before line pieces fault true p read r ih h =
    bad_later config number before line (map line_in pieces) fault.line (passed_over line p) (ih before (rw p at h))
bad_by config number before line pieces fault false p (Ok event) r ih h =
    bad_behind config number before line event (map line_in pieces) fault.line (event_is config before line event r).spelled
    (event_is config before line event r).follows (ih (before ++ event ∷ []) (rw (p, r) at h))
bad_by config number before line pieces fault false p (Err why) r ih h =
    let named : SchedFault = record { line = number; why = why } in
    let is : Err named ≡ Err fault = rw (p, r) at h in
    let same : named ≡ fault = cc in
    subst (λ (f : SchedFault). Bad config number before (line ∷ map line_in pieces) f.line) same
    (bad_here config number before line (map line_in pieces) (bad_line config before line why p r))

first_bad : (pieces : List (List ℕ)) (config : Config) (number : ℕ) (before : List Event) (fault : SchedFault)
    → events_from config number before pieces ≡ Err fault → Bad config number before (map line_in pieces) fault.line
unfolding events_from
first_bad [] config number before fault h = cc
first_bad (piece ∷ pieces) config number before fault h =
    bad_by config number before (line_in piece) pieces fault _ refl _ refl
    (λ now. first_bad pieces config (number + 1) now fault) h

refused_by : (config : Config) (bytes : List ℕ) (fault : SchedFault) → (long : Bool) → nat_lt SCHEDULE_LIMIT (length bytes) ≡ long
    → schedule_of config bytes ≡ Err fault → IsRefusedAt config bytes fault.line
unfolding schedule_of
refused_by config bytes fault true l h =
    let too_long : SchedFault = record { line = 0; why = TooLong } in
    let is : Err too_long ≡ Err fault = rw l at h in
    let same : too_long ≡ fault = cc in
    inl (ltb-true SCHEDULE_LIMIT (length bytes) l, sym (ap (λ (f : SchedFault). f.line) same))
refused_by config bytes fault false l h =
    let bad = first_bad (cuts_of bytes) config 1 [] fault (rw l at h) in
    inr (
      ltb-false SCHEDULE_LIMIT (length bytes) l,
      record {
        before = bad.front;
        line = bad.line;
        behind = bad.behind;
        cut = subst (λ (lines : List (List ℕ)). AreLinesOf bytes lines) bad.parts (are_lines bytes);
        at = bad.place;
        events = bad.events;
        spelled = bad.spelled;
        follow = bad.follow;
        bad = bad.bad;
      },
    )

-- bytes are refused at their first bad line, or since they are too many
pub schedule_refused : (config : Config) (bytes : List ℕ) (fault : SchedFault) → schedule_of config bytes ≡ Err fault → IsRefusedAt config bytes fault.line
schedule_refused config bytes fault h = refused_by config bytes fault _ refl h

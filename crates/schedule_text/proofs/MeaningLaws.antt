-- Bytes are read as the events that they are a schedule of, and are refused where they are none.
use Rattle.std.proofs.Common.{◌≡◌, ℕ, ◌+◌, ◌<◌, ◌≤◌, Bool, true, false, nat_lt, List, [], ◌∷◌, ◌++◌, length, map, IfErr, Option, None, Some, Result, Ok, Err}
use Rattle.std.proofs.Common.{nat_eq, refl, sym, ap, ◌∙◌, subst, inl, inr, append_assoc, append-nil, arith}
use Rattle.std.proofs.lemmas.Bool.{or_parts, ltb-false, le-ltb}
use Rattle.mur_base.specs.declared.limits.TheConstants.{SCHEDULE_LIMIT}
use Rattle.mur_config.specs.declared.config.Config.{Config}
use Rattle.schedule_text.specs.declared.event.Event.{Event}
use Rattle.schedule_text.specs.declared.schedule.fault.Rule.TheVariants.{TooLong}
use Rattle.schedule_text.specs.declared.schedule.fault.SchedFault.{SchedFault}
use Rattle.schedule_text.specs.declared.schedule.fault.ScheduleError.{ScheduleError}
use Rattle.schedule_text.specs.declared.schedule.fault.ScheduleError.TheVariants.{Refused, Memory}
use Rattle.schedule_text.specs.Cuts.{cuts_of, line_in, without_end}
use Rattle.schedule_text.specs.Meaning.{HasCause, IsSchedule, IsReadAsEvents}
use Rattle.schedule_text.specs.MayFollow.{MayFollow, AllMayFollow}
use Rattle.schedule_text.specs.Schedule.{line_read, events_from, schedule_of, is_passed_over}
use Rattle.schedule_text.specs.ScheduleRules.{IsReadAsSchedule}
use Rattle.schedule_text.specs.Spelled.{Lacks, IsBeforeLf, AreLinesOf, IsSpelledAs, IsSpelledBy, IsPassedOver, AreSpelledBy}
use Rattle.schedule_text.specs.Spelled.AreSpelledBy.{no_lines, passed, spelled}
use Rattle.schedule_text.specs.Words.{Saying, said_by}
use Rattle.schedule_text.proofs.SpelledLaws.{schedule_spelled}
use Rattle.schedule_text.proofs.SpelledLines.{Last, last_in, end_dropped, end_kept, ends_in, line_before, line_alone}
use Rattle.mur_base.specs.Ascii.{ends_with_cr}
use Rattle.mur_base.specs.Names.{with_first}
use Rattle.schedule_text.specs.Spelled.AreLinesOf.{no_bytes, without_lf, with_lf}
use Rattle.schedule_text.proofs.SpelledLines.Last.{empty, behind}
use Rattle.schedule_text.proofs.RowLaws.{event_read}
use Rattle.schedule_text.proofs.WordLaws.{is_row}
use Rattle.schedule_text.proofs.RefusedLaws.{schedule_refused}

short_by : (config : Config) (bytes : List ℕ) (events : List Event) → (long : Bool) → nat_lt SCHEDULE_LIMIT (length bytes) ≡ long
    → schedule_of config bytes ≡ Ok events → length bytes ≤ SCHEDULE_LIMIT
unfolding schedule_of
short_by config bytes events true l h =
    let too_long : SchedFault = record { line = 0; why = TooLong } in
    let none : Err too_long ≡ Ok events = rw l at h in cc
short_by config bytes events false l h = ltb-false SCHEDULE_LIMIT (length bytes) l

-- bytes that are read as events are a schedule of them
pub is_schedule : (config : Config) (bytes : List ℕ) (events : List Event) → schedule_of config bytes ≡ Ok events → IsSchedule config bytes events
is_schedule config bytes events h = record {
  short = short_by config bytes events _ refl h;
  spell = (schedule_spelled config bytes events h).0;
  follow = (schedule_spelled config bytes events h).1;
}

alone_cut : (line : List ℕ) → 0 < length line → Lacks 10 line → cuts_of line ≡ line ∷ []
unfolding cuts_of with_first
alone_cut [] some h = absurd (omega arith)
alone_cut (b ∷ []) some h = rw (or_parts (nat_eq b 10) _ h).0 refl
alone_cut (b ∷ next ∷ line) some h =
    let parts = or_parts (nat_eq b 10) _ h in
    rw (parts.0, alone_cut (next ∷ line) (omega arith) parts.1) refl

piece_cut : (text rest : List ℕ) → Lacks 10 text → cuts_of (text ++ 10 ∷ rest) ≡ (text ++ 10 ∷ []) ∷ cuts_of rest
unfolding cuts_of with_first
piece_cut [] rest h = refl
piece_cut (b ∷ text) rest h =
    let parts = or_parts (nat_eq b 10) _ h in
    rw (parts.0, piece_cut text rest parts.1) refl

kept_by : (text : List ℕ) → Last text → ends_with_cr text ≡ false → without_end text 13 ≡ text
unfolding without_end
kept_by text empty h = refl
kept_by text (behind front b) h = end_kept front b 13 (sym (ends_in front b) ∙ h)

without_cr : (text line : List ℕ) → IsBeforeLf text line → without_end text 13 ≡ line
without_cr text line (inl with_cr) = ap (λ (t : List ℕ). without_end t 13) with_cr ∙ end_dropped line 13 refl
without_cr text line (inr same) = kept_by text (last_in text) same.1 ∙ same.0

-- the lines of bytes are those in their pieces
lines_cut : (bytes : List ℕ) (lines : List (List ℕ)) → AreLinesOf bytes lines → map line_in (cuts_of bytes) ≡ lines
unfolding cuts_of
lines_cut bytes lines no_bytes = refl
lines_cut bytes lines (without_lf line some h) = rw (alone_cut line some h, line_alone line (last_in line) h) refl
lines_cut bytes lines (with_lf text line rest more h before are) =
    rw (piece_cut text rest h, line_before text, without_cr text line before, lines_cut rest more are) refl

over_read : (line : List ℕ) → IsPassedOver line → is_passed_over line ≡ true
unfolding is_passed_over
over_read line (inl none) = ap is_passed_over none
over_read line (inr hash) = ap is_passed_over hash.1

counts : (line : List ℕ) (saying : Option Saying) → IsSpelledAs line saying → is_passed_over line ≡ false
counts line None is = absurd is
counts line (Some saying) is = ap is_passed_over is.spelled ∙ (is_row saying.word).counts is.rest

over_line : (config : Config) (number : ℕ) (before : List Event) (line : List ℕ) → IsPassedOver line → line_read config number before line ≡ Ok before
unfolding line_read
over_line config number before line over = rw (over_read line over) refl

spelled_line : (config : Config) (number : ℕ) (before : List Event) (line : List ℕ) (event : Event) → IsSpelledBy line event
    → MayFollow config before event → line_read config number before line ≡ Ok (before ++ event ∷ [])
unfolding line_read
spelled_line config number before line event is may = rw (counts line (said_by event) is, event_read config before line event is may) refl

lines_read : (lines : List (List ℕ)) (events : List Event) → AreSpelledBy lines events → (pieces : List (List ℕ)) → map line_in pieces ≡ lines
    → (config : Config) (number : ℕ) (before : List Event) → AllMayFollow config before events → events_from config number before pieces ≡ Ok (before ++ events)
unfolding events_from AllMayFollow
lines_read lines events no_lines [] same config number before may = ap Ok (sym (append-nil before))
lines_read lines events no_lines (piece ∷ pieces) same config number before may = cc
lines_read lines events (passed line more all over are) [] same config number before may = cc
lines_read lines events (passed line more all over are) (piece ∷ pieces) same config number before may =
    let first : line ≡ line_in piece = cc in
    let rest : map line_in pieces ≡ more = cc in
    rw (over_line config number before (line_in piece) (subst IsPassedOver first over))
    (lines_read more all are pieces rest config (number + 1) before may)
lines_read lines events (spelled line event more all is are) [] same config number before may = cc
lines_read lines events (spelled line event more all is are) (piece ∷ pieces) same config number before may =
    let first : line ≡ line_in piece = cc in
    let rest : map line_in pieces ≡ more = cc in
    rw (spelled_line config number before (line_in piece) event (subst (λ (l : List ℕ). IsSpelledBy l event) first is) may.0)
    (lines_read more all are pieces rest config (number + 1) (before ++ event ∷ []) may.1 ∙ ap Ok (append_assoc before (event ∷ []) all))

-- a schedule is read as its events
pub schedule_read : (config : Config) (bytes : List ℕ) (events : List Event) → IsSchedule config bytes events → schedule_of config bytes ≡ Ok events
unfolding schedule_of
schedule_read config bytes events is =
    rw (le-ltb SCHEDULE_LIMIT (length bytes) is.short)
    (lines_read is.spell.lines events is.spell.spelled (cuts_of bytes) (lines_cut bytes is.spell.lines is.spell.cut) config 1 [] is.follow)

-- a refusal has its cause
pub has_cause : (config : Config) (bytes : List ℕ) (result : Result (List Event) ScheduleError) → IsReadAsSchedule (schedule_of config bytes) result
    → IfErr result (HasCause config bytes)
has_cause config bytes (Ok events) h = tt
has_cause config bytes (Err (Refused fault)) h = record {
  cause = schedule_refused config bytes fault h;
  none = λ events is. (let read : Ok events ≡ Err fault = sym (schedule_read config bytes events is) ∙ h in cc);
}
has_cause config bytes (Err Memory) h = tt

-- a schedule is read as its events, unless memory is wanting
pub taken_as : (config : Config) (bytes : List ℕ) (result : Result (List Event) ScheduleError) → IsReadAsSchedule (schedule_of config bytes) result
    → (events : List Event) → IsSchedule config bytes events → IsReadAsEvents events result
taken_as config bytes (Ok found) h events is = (let same : Ok events ≡ Ok found = sym (schedule_read config bytes events is) ∙ h in cc)
taken_as config bytes (Err (Refused fault)) h events is = (let read : Ok events ≡ Err fault = sym (schedule_read config bytes events is) ∙ h in cc)
taken_as config bytes (Err Memory) h events is = refl

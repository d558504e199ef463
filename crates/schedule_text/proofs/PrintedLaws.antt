-- What is printed for events is a schedule of these events.
use Rattle.std.proofs.Common.{◌≡◌, ℕ, ◌/◌, ◌%◌, ◌≤◌, Bool, true, false, nat_eq, nat_lt, nat_le, List, [], ◌∷◌, ◌++◌, length, Option, None, Some}
use Rattle.std.proofs.Common.{refl, sym, subst, inr, append_assoc, arith}
use Rattle.std.proofs.lemmas.Bool.{and_parts, and_from}
use Rattle.std.proofs.lemmas.Bool.Decides.{nat_tests}
use Rattle.mur_base.specs.Names.{short_name_fault, has_short_name_bytes, is_short_name_byte}
use Rattle.mur_base.specs.declared.limits.TheConstants.{SHORT_NAME_LIMIT}
use Rattle.mur_config.specs.declared.config.Config.{Config}
use Rattle.schedule_text.specs.declared.event.Event.{Event}
use Rattle.schedule_text.specs.Meaning.{IsSchedule}
use Rattle.schedule_text.specs.Printed.{value_text, argument_text, values_text, saying_line, saying_text, event_text, schedule_text}
use Rattle.schedule_text.specs.Printed.{AreNamed, CanBeSaid, AllHaveWords, CanBePrinted, AreReadBack, SaysWhatIsReadBack, AllReadBack}
use Rattle.schedule_text.specs.Spelled.{AreArguments, IsLineOf, IsSpelledAs, AreLinesOf, SpellEvents}
use Rattle.schedule_text.specs.Spelled.AreArguments.{no_more, one_more}
use Rattle.schedule_text.specs.Spelled.AreLinesOf.{no_bytes, with_lf}
use Rattle.schedule_text.specs.Spelled.AreSpelledBy.{no_lines, spelled}
use Rattle.schedule_text.specs.Text.{text_of, spelling_of, is_printed, hex_digit}
use Rattle.schedule_text.specs.Words.{Value, Saying, said_by, word_text}
use Rattle.schedule_text.specs.Words.Value.{a_node, a_number, a_text}
use Rattle.schedule_text.proofs.HighBytes.{AreFrom, from_both, from_test, from_lower, lacks_below, no_cr, IsHigh, high_word, number_high}
use Rattle.schedule_text.proofs.WordLaws.{is_row}

hex_from : (d : ℕ) → nat_le 32 (hex_digit d) ≡ true
unfolding hex_digit
hex_from d = grind (arith, nat_tests)

spelling_by : (b : ℕ) (escape printed return feed : Bool) → nat_eq b 92 ≡ escape → is_printed b ≡ printed → nat_eq b 13 ≡ return → nat_eq b 10 ≡ feed
    → AreFrom 32 (spelling_of b)
unfolding spelling_of is_printed
spelling_by b true printed return feed e p r f = rw e refl
spelling_by b false true return feed e p r f = rw (e, p) (and_from (nat_le 32 b) true (and_parts (nat_le 32 b) (nat_le b 126) p).0 refl)
spelling_by b false false true feed e p r f = rw (e, p, r) refl
spelling_by b false false false true e p r f = rw (e, p, r, f) refl
spelling_by b false false false false e p r f = rw (e, p, r, f, hex_from (b / 16), hex_from (b % 16)) refl

text_from : (bytes : List ℕ) → AreFrom 32 (text_of bytes)
unfolding text_of
text_from [] = refl
text_from (b ∷ bytes) = from_both 32 (spelling_of b) (text_of bytes) (spelling_by b _ _ _ _ refl refl refl refl) (text_from bytes)

name_byte_from : (b : ℕ) → is_short_name_byte b ≡ true → 33 ≤ b
unfolding is_short_name_byte
name_byte_from b h = grind (arith, nat_tests)

name_by : (name : List ℕ) (empty long fit : Bool) → nat_eq (length name) 0 ≡ empty → nat_lt SHORT_NAME_LIMIT (length name) ≡ long
    → has_short_name_bytes name ≡ fit → short_name_fault name ≡ None → IsHigh name
unfolding short_name_fault has_short_name_bytes
name_by name true long fit e l f h = absurd (grind (arith, rw e at h))
name_by name false true fit e l f h = absurd (grind (arith, rw (e, l) at h))
name_by name false false false e l f h = absurd (grind (arith, rw (e, l, f) at h))
name_by name false false true e l f h = record { some = grind (arith, nat_tests); from = from_test 33 is_short_name_byte name_byte_from name f }

name_high : (name : List ℕ) → short_name_fault name ≡ None → IsHigh name
name_high name h = name_by name _ _ _ refl refl refl h

arguments_from : (values : List Value) → AreReadBack values → AreNamed values → AreFrom 32 (values_text values)
unfolding values_text argument_text value_text AreReadBack AreNamed
arguments_from [] back named = refl
arguments_from (a_node name ∷ values) back named =
    from_both 32 name (values_text values) (from_lower name (name_high name named.0).from) (arguments_from values back.1 named.1)
arguments_from (a_number n ∷ values) back named =
    from_both 32 (value_text (a_number n)) (values_text values) (from_lower (value_text (a_number n)) (number_high (value_text (a_number n)) n back.0).from) (arguments_from values back.1 named)
arguments_from (a_text bytes ∷ values) back named =
    from_both 32 (text_of bytes) (values_text values) (text_from bytes) (arguments_from values back.1 named)

arguments_spelled : (values : List Value) → AreReadBack values → AreNamed values → AreArguments (values_text values) values
unfolding values_text argument_text value_text AreReadBack AreNamed
arguments_spelled [] back named = no_more
arguments_spelled (a_node name ∷ values) back named =
    one_more name (values_text values) (a_node name) values (refl, high_word name (name_high name named.0)) (arguments_spelled values back.1 named.1)
arguments_spelled (a_number n ∷ values) back named =
    one_more (value_text (a_number n)) (values_text values) (a_number n) values back.0 (arguments_spelled values back.1 named)
arguments_spelled (a_text bytes ∷ values) back named =
    one_more (text_of bytes) (values_text values) (a_text bytes) values back.0 (arguments_spelled values back.1 named)

-- a printed line, before the lines of other events
line_onto : (event : Event) (saying : Option Saying) → said_by event ≡ saying → SaysWhatIsReadBack saying → CanBeSaid saying
    → (text : List ℕ) (events : List Event) → SpellEvents text events → SpellEvents (saying_text saying ++ text) (event ∷ events)
unfolding saying_text saying_line
line_onto event None e back said text events rest = absurd said
line_onto event (Some saying) e back said text events rest =
    let from = from_both 32 (word_text saying.word) (values_text saying.values) (from_lower (word_text saying.word) (is_row saying.word).from) (arguments_from saying.values back said) in
    let line : IsLineOf (saying_line saying) saying =
    record { rest = values_text saying.values; spelled = refl; arguments = arguments_spelled saying.values back said } in
    record {
      lines = saying_line saying ∷ rest.lines;
      cut =
          subst (λ (bytes : List ℕ). AreLinesOf bytes (saying_line saying ∷ rest.lines)) (sym (append_assoc (saying_line saying) (10 ∷ []) text))
          (with_lf (saying_line saying) (saying_line saying) text rest.lines (lacks_below 32 10 (omega arith) (saying_line saying) from)
          (inr (refl, no_cr (saying_line saying) from)) rest.cut);
      spelled =
          spelled (saying_line saying) event rest.lines events (subst (λ (s : Option Saying). IsSpelledAs (saying_line saying) s) (sym e) line) rest.spelled;
    }

events_spelled : (events : List Event) → AllReadBack events → AllHaveWords events → SpellEvents (schedule_text events) events
unfolding schedule_text event_text AllReadBack AllHaveWords
events_spelled [] back worded = record { lines = []; cut = no_bytes; spelled = no_lines }
events_spelled (event ∷ events) back worded =
    line_onto event (said_by event) refl back.0 worded.0 (schedule_text events) events (events_spelled events back.1 worded.1)

-- the text of events that can be printed is a schedule of them
pub is_printed_schedule : (config : Config) (events : List Event) → AllReadBack events → CanBePrinted config events → IsSchedule config (schedule_text events) events
is_printed_schedule config events back can = record {
  short = can.short;
  spell = events_spelled events back can.worded;
  follow = can.follow;
}

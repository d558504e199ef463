-- The last mark of a command, where marks are put behind others.
use Rattle.std.proofs.Common.{◌≡◌, Bool, true, false, ◌&&◌, nat_eq, cond, if◌then◌else◌, List, [], ◌∷◌, ◌++◌, Option, None, Some, refl, ◌∙◌, ap, arith}
use Rattle.std.specs.Option.{option_map}
use Rattle.std.proofs.lemmas.Bool.Decides.{nat_tests}
use Rattle.mur_base.specs.declared.point.AskId.{AskId}
use Rattle.mark_history.specs.declared.mark.Mark.{Mark}
use Rattle.mark_history.specs.declared.mark.MarkKind.{MarkKind}
use Rattle.mark_history.specs.History.{is_of, next_of}
use Rattle.mark_history.specs.Marked.{last_from, last_mark, last_mark_from, last_of}

abbrev kind_in : Option Mark → Option MarkKind
kind_in found = option_map (λ (mark : Mark). mark.kind) found

kind_by : (mark : Mark) (earlier : Option Mark) (own : Bool)
    → (if own then Some mark.kind else kind_in earlier) ≡ kind_in (if own then Some mark else earlier)
kind_by mark earlier true = refl
kind_by mark earlier false = refl

kind_from : (ask : AskId) (earlier : Option Mark) (marks : List Mark) → last_from ask (kind_in earlier) marks ≡ kind_in (last_mark_from ask earlier marks)
unfolding last_from last_mark_from
kind_from ask earlier [] = refl
kind_from ask earlier (mark ∷ marks) =
    ap (λ k. last_from ask k marks) (kind_by mark earlier (is_of ask mark))
    ∙ kind_from ask (if is_of ask mark then Some mark else earlier) marks

-- what it says of the command
pub last_kind : (ask : AskId) (marks : List Mark) (mark : Mark) → last_mark ask marks ≡ Some mark → last_of ask marks ≡ Some mark.kind
last_kind ask marks mark is = kind_from ask None marks ∙ ap kind_in is

pub last_mark_from-append : (ask : AskId) (earlier : Option Mark) (marks more : List Mark)
    → last_mark_from ask earlier (marks ++ more) ≡ last_mark_from ask (last_mark_from ask earlier marks) more
unfolding last_mark_from
last_mark_from-append ask earlier [] more = refl
last_mark_from-append ask earlier (mark ∷ marks) more = last_mark_from-append ask (if is_of ask mark then Some mark else earlier) marks more

none_by : (ask : AskId) (earlier : Option Mark) (mark : Mark) (marks : List Mark) (own : Bool)
    → (next_of ask marks ≡ None → last_mark_from ask earlier marks ≡ earlier) → (if own then Some mark.kind else next_of ask marks) ≡ None
    → last_mark_from ask (if own then Some mark else earlier) marks ≡ earlier
none_by ask earlier mark marks true rest none = cc
none_by ask earlier mark marks false rest none = rest none

-- none of them is of the command
pub none_last : (ask : AskId) (earlier : Option Mark) (marks : List Mark) → next_of ask marks ≡ None → last_mark_from ask earlier marks ≡ earlier
unfolding last_mark_from next_of
none_last ask earlier [] none = refl
none_last ask earlier (mark ∷ marks) none = none_by ask earlier mark marks (is_of ask mark) (none_last ask earlier marks) none

found_by : (ask : AskId) (earlier : Option Mark) (mark : Mark) (marks : List Mark) (last : Mark) (own : Bool)
    → (last_mark_from ask None marks ≡ Some last → last_mark_from ask earlier marks ≡ Some last)
    → last_mark_from ask (if own then Some mark else None) marks ≡ Some last → last_mark_from ask (if own then Some mark else earlier) marks ≡ Some last
found_by ask earlier mark marks last true rest is = is
found_by ask earlier mark marks last false rest is = rest is

-- one of them is, so earlier ones don't count
pub found_last : (ask : AskId) (earlier : Option Mark) (marks : List Mark) (last : Mark) → last_mark_from ask None marks ≡ Some last
    → last_mark_from ask earlier marks ≡ Some last
unfolding last_mark_from
found_last ask earlier [] last is = cc
found_last ask earlier (mark ∷ marks) last is = found_by ask earlier mark marks last (is_of ask mark) (found_last ask earlier marks last) is

its_own : (ask : AskId) → (nat_eq ask.conn ask.conn && nat_eq ask.command ask.command) ≡ true
its_own ask = grind (arith, nat_tests)

-- a mark of the command, and behind it none
pub last_is : (before behind : List Mark) (mark : Mark) → next_of mark.ask behind ≡ None → last_mark mark.ask (before ++ mark ∷ behind) ≡ Some mark
unfolding last_mark_from
last_is before behind mark none =
    last_mark_from-append mark.ask None before (mark ∷ behind)
    ∙ ap (λ own. last_mark_from mark.ask (cond own (Some mark) (last_mark mark.ask before)) behind) (its_own mark.ask)
    ∙ none_last mark.ask (Some mark) behind none

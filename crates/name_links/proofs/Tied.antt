-- Responses that answer lines in their order: what is left of the lines, and what more lines behind them change.
use Rattle.std.proofs.Common.{◌≡◌, Bool, false, List, [], ◌∷◌, ◌++◌, map, refl, sym, ap, subst, ◌∙◌, append-nil}
use Rattle.mupdate_codec.specs.declared.command.MResponse.{MResponse}
use Rattle.mupdate_codec.specs.declared.command.MResponse.TheVariants as response
use Rattle.mupdate_codec.specs.declared.command.MCommand.{MCommand}
use Rattle.mupdate_codec.specs.declared.tag.Tag.{Tag}
use Rattle.home_law.specs.Items.{Server, Item, listed_active, listed_reserved}
use Rattle.home_law.specs.ManyNames.{Mailbox, SentLine as OpenLine, BackMessage, with_line, line_items, ok_items, no_items, downs_of, left_of}
use Rattle.name_flows.specs.declared.sent.SentLine.{SentLine}
use Rattle.name_flows.specs.OneName.{told_by, open_line, open_behind, open_by}
use Rattle.name_links.specs.OneLink.{told_of}
use Rattle.name_links.specs.LinkIs.{tagged_line, tagged_by, lines_after, AreAnswers, AreSent}

abbrev pub line_of : Tag × OpenLine → OpenLine
line_of line = line.1

abbrev pub lines_of : List (Tag × OpenLine) → List OpenLine
lines_of lines = map line_of lines

behind_lines : (lines : List SentLine) → lines_of (map (tagged_line false) lines) ≡ map open_behind lines
behind_lines [] = refl
behind_lines (line ∷ lines) = ap (λ ls. open_behind line ∷ ls) (behind_lines lines)

pub untagged : (found : Bool) (lines : List SentLine) → lines_of (tagged_by found lines) ≡ open_by found lines
untagged found [] = refl
untagged found (line ∷ lines) = ap (λ ls. open_line found line.what ∷ ls) (behind_lines lines)

-- one response
pub left_one : (line : Tag × OpenLine) (lines : List (Tag × OpenLine)) (it : MResponse) (more : List BackMessage)
    → left_of (told_by it ++ more) (lines_of (line ∷ lines)) ≡ left_of more (lines_of (lines_after line lines it))
unfolding left_of
left_one line lines (response.Mailbox name place acl) more = refl
left_one line lines (response.Reserve name place) more = refl
left_one line lines (response.Delete name) more = refl
left_one line lines (response.Ok text) more = refl
left_one line lines (response.No text) more = refl
left_one line lines (response.Bad text) more = refl

-- the lines that are left, as ManyNames has them
pub left_is : (lines : List (Tag × OpenLine)) (downs : List (Tag × MResponse)) (left : List (Tag × OpenLine)) → AreAnswers lines downs left
    → left_of (told_of downs) (lines_of lines) ≡ lines_of left
unfolding AreAnswers left_of
left_is lines [] left a = ap lines_of a
left_is [] (it ∷ more) left a = absurd a
left_is (line ∷ lines) (it ∷ more) left a = left_one line lines it.1 (told_of more) ∙ left_is (lines_after line lines it.1) more left a.2

-- lines behind them are left too

pub after_more : (line : Tag × OpenLine) (lines extra : List (Tag × OpenLine)) (it : MResponse) → lines_after line (lines ++ extra) it ≡ lines_after line lines it ++ extra
after_more line lines extra (response.Mailbox name place acl) = refl
after_more line lines extra (response.Reserve name place) = refl
after_more line lines extra (response.Delete name) = refl
after_more line lines extra (response.Ok text) = refl
after_more line lines extra (response.No text) = refl
after_more line lines extra (response.Bad text) = refl

pub answers_more : (lines extra : List (Tag × OpenLine)) (downs : List (Tag × MResponse)) (left : List (Tag × OpenLine)) → AreAnswers lines downs left
    → AreAnswers (lines ++ extra) downs (left ++ extra)
unfolding AreAnswers
answers_more lines extra [] left a = ap (λ ls. ls ++ extra) a
answers_more [] extra (it ∷ more) left a = absurd a
answers_more (line ∷ lines) extra (it ∷ more) left a =
    (a.0, a.1, subst (λ ls. AreAnswers ls more (left ++ extra)) (sym (after_more line lines extra it.1)) (answers_more (lines_after line lines it.1) extra more left a.2))

-- and change nothing of what the responses are to a name

pub downs_one : (n : Mailbox) (line : Tag × OpenLine) (lines : List (Tag × OpenLine)) (it : MResponse) (more : List BackMessage)
    → downs_of n (lines_of (line ∷ lines)) (told_by it ++ more) ≡ downs_of n (line.1 ∷ []) (told_by it) ++ downs_of n (lines_of (lines_after line lines it)) more
unfolding downs_of
downs_one n line lines (response.Mailbox name place acl) more =
    ap (λ (xs : List Item). xs ++ downs_of n (with_line line.1 ∷ lines_of lines) more) (sym (append-nil (line_items n line.1 name listed_active)))
downs_one n line lines (response.Reserve name place) more =
    ap (λ (xs : List Item). xs ++ downs_of n (with_line line.1 ∷ lines_of lines) more) (sym (append-nil (line_items n line.1 name listed_reserved)))
downs_one n line lines (response.Delete name) more = refl
downs_one n line lines (response.Ok text) more = ap (λ (xs : List Item). xs ++ downs_of n (lines_of lines) more) (sym (append-nil (ok_items n line.1)))
downs_one n line lines (response.No text) more = ap (λ (xs : List Item). xs ++ downs_of n (lines_of lines) more) (sym (append-nil (no_items n line.1)))
downs_one n line lines (response.Bad text) more = ap (λ (xs : List Item). xs ++ downs_of n (lines_of lines) more) (sym (append-nil (no_items n line.1)))

pub downs_more : (n : Mailbox) (lines extra : List (Tag × OpenLine)) (downs : List (Tag × MResponse)) (left : List (Tag × OpenLine)) → AreAnswers lines downs left
    → downs_of n (lines_of (lines ++ extra)) (told_of downs) ≡ downs_of n (lines_of lines) (told_of downs)
unfolding AreAnswers downs_of
downs_more n lines extra [] left a = refl
downs_more n [] extra (it ∷ more) left a = absurd a
downs_more n (line ∷ lines) extra (it ∷ more) left a =
    downs_one n line (lines ++ extra) it.1 (told_of more)
    ∙ ap (λ ls. downs_of n (line.1 ∷ []) (told_by it.1) ++ downs_of n (lines_of ls) (told_of more)) (after_more line lines extra it.1)
    ∙ ap (λ xs. downs_of n (line.1 ∷ []) (told_by it.1) ++ xs) (downs_more n (lines_after line lines it.1) extra more left a.2)
    ∙ sym (downs_one n line lines it.1 (told_of more))

-- responses behind them answer what is left
pub answers_then : (lines : List (Tag × OpenLine)) (downs more : List (Tag × MResponse)) (left last : List (Tag × OpenLine)) → AreAnswers lines downs left
    → AreAnswers left more last → AreAnswers lines (downs ++ more) last
unfolding AreAnswers
answers_then lines [] more left last a b = subst (λ ls. AreAnswers ls more last) (sym a) b
answers_then [] (it ∷ downs) more left last a b = absurd a
answers_then (line ∷ lines) (it ∷ downs) more left last a b = (a.0, a.1, answers_then (lines_after line lines it.1) downs more left last a.2 b)

-- lines that are sent come behind those on their way
pub sent_more : (b : Server) (left extra : List (Tag × OpenLine)) (ups more : List (Tag × MCommand)) → AreSent b left ups → AreSent b extra more
    → AreSent b (left ++ extra) (ups ++ more)
unfolding AreSent
sent_more b [] extra [] more s t = t
sent_more b [] extra (it ∷ ups) more s t = absurd s
sent_more b (line ∷ left) extra [] more s t = absurd s
sent_more b (line ∷ left) extra (it ∷ ups) more s t = (s.0, s.1, sent_more b left extra ups more s.2 t)

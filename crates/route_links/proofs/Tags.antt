-- The tag of a client's command is one that lines have, and so its NOOP and the OK to it are read.
use Rattle.std.proofs.Common.{◌≡◌, ℕ, ◌<◌, ◌≤◌, ◌^◌, Bool, true, false, nat_eq, List, [], ◌∷◌, ◌++◌, length, codes, None, Some, refl, sym, ap, ◌∙◌, subst}
use Rattle.std.proofs.Common.{arith, le-leb, length-append, inr}
use Rattle.std.specs.List.{list_all}
use Rattle.std.specs.Cmp.Lexicographic.{pointwise, same_text}
use Rattle.std.proofs.lemmas.Bool.Decides.{nat_tests}
use Rattle.std.proofs.lemmas.Fmt.{length-decimal-le}
use Rattle.std.proofs.lemmas.List.Folds.{list_all-append}
use Rattle.grammar.proofs.Conditions.{and_left, and_right, and_both}
use Rattle.grammar.proofs.DecimalLaw.{decimal_is_text}
use Rattle.grammar.proofs.NumeralLaw.{decimal_writes}
use Rattle.grammar.proofs.Spelling.{spell_map}
use Rattle.grammar.specs.Numbers.{decimal_text}
use Rattle.grammar.specs.Runs.{some}
use Rattle.grammar.specs.Words.{word}
use Rattle.ask_routes.specs.Barrier.{barrier_answered, noop_line, ok_ask}
use Rattle.feed_core.specs.Stream.{is_update_tag}
use Rattle.feed_links.proofs.Arguments.{IsSpelledTag}
use Rattle.feed_links.proofs.Hearing.{other_heard, read_back, text_spelled}
use Rattle.feed_links.proofs.Printed.{response_spelled}
use Rattle.feed_links.specs.OneFeed.{IsNoop}
use Rattle.master_core.specs.Replies.{done}
use Rattle.mupdate_codec.specs.declared.command.MCommand.TheVariants as command
use Rattle.mupdate_codec.specs.declared.command.MResponse.TheVariants as response
use Rattle.mupdate_codec.specs.declared.tag.Tag.TheVariants.{Text}
use Rattle.mupdate_codec.specs.Arguments.{exact}
use Rattle.mupdate_codec.specs.Asks.{ask_id_of, ask_text, line_ask, split_dash, tag_of}
use Rattle.mupdate_codec.specs.Characters.{is_mupdate_tag_byte}
use Rattle.mupdate_codec.specs.Commands.{command_line}
use Rattle.mupdate_codec.specs.Responses.{IsSpelledResponse}
use Rattle.mupdate_codec.specs.Tags.{mupdate_tags}
use Rattle.mupdate_codec.specs.Whole.{command_in}
use Rattle.mupdate_codec.proofs.AsksLaw.{ask_again}
use Rattle.mupdate_codec.proofs.LineAsks.{own_command}
use Rattle.mupdate_codec.proofs.LinesLaw.{law_command_line}
use Rattle.mupdate_codec.proofs.WholeLaw.{line_is}
use Rattle.mur_base.specs.declared.point.AskId.{AskId}
use Rattle.mur_base.specs.Number.{is_digit}
use Rattle.name_links.proofs.Spelled.{commands_are_spelled}
use Rattle.route_links.specs.Answered.{IsNumbered, noop_of, OkIsRead, OkIsNoNews}

-- ---- the text of the tag

decimal_short : (n : ℕ) → n < 2 ^ 64 → length (decimal_text n) ≤ 20
decimal_short n h = subst (λ s. length s ≤ 20) (decimal_is_text n h) (length-decimal-le 20 n (omega arith) (omega (arith, h)) h)

digit_stands : (b : ℕ) → is_digit b ≡ true → is_mupdate_tag_byte b ≡ true
unfolding is_digit is_mupdate_tag_byte
digit_stands b h = grind (arith, nat_tests)

digits_stand : (text : List ℕ) → list_all is_digit text ≡ true → list_all is_mupdate_tag_byte text ≡ true
digits_stand [] h = refl
digits_stand (b ∷ text) h = and_both _ _ (digit_stands b (and_left _ _ h)) (digits_stand text (and_right (is_digit b) _ h))

some_behind : (one : List ℕ) (c : ℕ) (two : List ℕ) → some (one ++ c ∷ two) ≡ true
some_behind [] c two = refl
some_behind (b ∷ one) c two = refl

dash_stands : is_mupdate_tag_byte 45 ≡ true
unfolding is_mupdate_tag_byte
dash_stands = refl

text_whole : (ask : AskId) → IsNumbered ask → mupdate_tags.whole (ask_text ask) ≡ true
text_whole ask numbered =
    let one : List ℕ = decimal_text ask.conn in
    let two : List ℕ = decimal_text ask.command in
    let size : length (one ++ 45 ∷ two) ≤ 41 =
    omega (arith, length-append one (45 ∷ two), decimal_short ask.conn numbered.0, decimal_short ask.command numbered.1) in
    let all : list_all is_mupdate_tag_byte (one ++ 45 ∷ two) ≡ true =
    list_all-append is_mupdate_tag_byte one (45 ∷ two)
    ∙ and_both _ _ (digits_stand one (decimal_writes ask.conn).digits) (and_both _ _ dash_stands (digits_stand two (decimal_writes ask.command).digits)) in
    and_both _ _ (and_both _ _ all (le-leb _ _ size)) (some_behind one 45 two)

tag_spelled : (ask : AskId) → IsNumbered ask → IsSpelledTag (tag_of ask)
unfolding tag_of
tag_spelled ask numbered =
    (ask_text ask, inr (spell_map (λ x. Text x) (word mupdate_tags) (ask_text ask) (ask_text ask) (refl, text_whole ask numbered)))

-- ---- it isn't that of UPDATE

update_tells_none : ask_id_of (Text (codes "u")) ≡ None
unfolding ask_id_of split_dash
update_tells_none = refl

pub no_update_tag : (ask : AskId) → IsNumbered ask → is_update_tag (tag_of ask) ≡ false
unfolding tag_of
no_update_tag ask numbered = by_test (pointwise nat_eq (ask_text ask) (codes "u")) refl
  where
    by_test : (same : Bool) → pointwise nat_eq (ask_text ask) (codes "u") ≡ same → same ≡ false
    by_test false e = refl
    by_test true e =
        let same : ask_text ask ≡ codes "u" = same_text (ask_text ask) (codes "u") (sym e) in
        let told : ask_id_of (Text (codes "u")) ≡ Some ask = subst (λ t. ask_id_of (Text t) ≡ Some ask) same (ask_again ask numbered.0 numbered.1) in
        let none : None ≡ Some ask = sym update_tells_none ∙ told in cc

-- ---- its NOOP

pub noop_read : (ask : AskId) → IsNumbered ask → command_in (noop_line ask) ≡ Some (tag_of ask, command.Noop)
unfolding noop_line tag_of
noop_read ask numbered =
    let s = commands_are_spelled (ask_text ask) command.Noop (text_whole ask numbered) tt in
    line_is ((command_line exact).text (Text (ask_text ask), command.Noop)) (Text (ask_text ask), command.Noop)
    (law_command_line.prints s.0 (Text (ask_text ask), command.Noop) s.1)

pub is_noop : (ask : AskId) → IsNumbered ask → IsNoop (noop_of ask)
is_noop ask numbered =
    record { bytes = noop_line ask; tag = tag_of ask; is = refl; read = noop_read ask numbered; other = no_update_tag ask numbered }

pub noop_tells : (ask : AskId) → IsNumbered ask → line_ask (noop_line ask) ≡ Some ask
unfolding noop_line
noop_tells ask numbered = own_command ask command.Noop ∙ ask_again ask numbered.0 numbered.1

-- ---- and its OK

ok_spelled : (ask : AskId) → IsNumbered ask → IsSpelledResponse (tag_of ask) (response.Ok done)
ok_spelled ask numbered = response_spelled (tag_of ask) (response.Ok done) (tag_spelled ask numbered) (text_spelled done (omega arith))

pub ok_is_read : OkIsRead
unfolding barrier_answered
ok_is_read ask numbered =
    ap ok_ask (read_back (tag_of ask) (response.Ok done) (ok_spelled ask numbered)) ∙ ask_again ask numbered.0 numbered.1

pub ok_is_no_news : OkIsNoNews
ok_is_no_news ask numbered any = other_heard any (tag_of ask) (response.Ok done) (ok_spelled ask numbered) (no_update_tag ask numbered)

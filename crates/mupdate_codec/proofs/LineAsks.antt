-- Whose a line is, read off its first word: what its tag tells, whatever stands behind it.
use Rattle.std.proofs.Common.{◌≡◌, ℕ, nat_eq, Bool, true, false, cond, List, [], ◌∷◌, ◌++◌, inl, inr, refl, sym, ap, ◌∙◌, append-nil}
use Rattle.std.proofs.Common.{eqb-true, subst}
use Rattle.std.specs.List.{list_all}
use Rattle.mur_base.specs.Number.{is_digit}
use Rattle.mur_base.specs.declared.point.AskId.{AskId}
use Rattle.grammar.specs.Forms.{Form, dispatch, ◌spaced◌}
use Rattle.grammar.specs.Numbers.{decimal_text}
use Rattle.grammar.proofs.Conditions.{and_left, and_right}
use Rattle.grammar.proofs.NumeralLaw.{decimal_writes}
use Rattle.mupdate_codec.specs.declared.command.MCommand.{MCommand}
use Rattle.mupdate_codec.specs.declared.command.MResponse.{MResponse}
use Rattle.mupdate_codec.specs.declared.tag.Tag.{Tag}
use Rattle.mupdate_codec.specs.declared.tag.Tag.TheVariants.{Star, Text}
use Rattle.mupdate_codec.specs.Arguments.{exact, ended_line}
use Rattle.mupdate_codec.specs.Asks.{ask_id_of, first_word, line_ask, split_dash, tag_of}
use Rattle.mupdate_codec.specs.Characters.{is_mupdate_tag_byte}
use Rattle.mupdate_codec.specs.Commands.{command_arguments, command_line, command_verb, command_verb_form, IsCommandLine}
use Rattle.mupdate_codec.specs.Responses.{kind_form, response_arguments, response_kind, response_line, IsResponseLine}
use Rattle.mupdate_codec.specs.Tags.{command_tag, mupdate_tag_text, mupdate_tags, response_tag}

-- the first word

-- a space ends it
word_ends : (word rest : List ℕ) → first_word (word ++ 32 ∷ rest) ≡ first_word word
unfolding first_word
word_ends [] rest = refl
word_ends (b ∷ word) rest = ap (λ w. cond (nat_eq b 32) [] (b ∷ w)) (word_ends word rest)

-- it is one word
pub word_again : (bytes : List ℕ) → first_word (first_word bytes) ≡ first_word bytes
unfolding first_word
word_again [] = refl
word_again (b ∷ bytes) = by_test (nat_eq b 32) refl (word_again bytes)
  where
    by_test : (here : Bool) → nat_eq b 32 ≡ here → first_word (first_word bytes) ≡ first_word bytes
        → first_word (cond here [] (b ∷ first_word bytes)) ≡ cond here [] (b ∷ first_word bytes)
    by_test true e again = refl
    by_test false e again = ap (λ t. cond t [] (b ∷ first_word (first_word bytes))) e ∙ ap (λ w. b ∷ w) again

-- bytes of a kind that has no space stand in it
stands_in : (kind : ℕ → Bool) → kind 32 ≡ false → (text more : List ℕ) → list_all kind text ≡ true → first_word (text ++ more) ≡ text ++ first_word more
unfolding first_word
stands_in kind none [] more all = refl
stands_in kind none (b ∷ text) more all = by_test (nat_eq b 32) refl (stands_in kind none text more (and_right (kind b) _ all))
  where
    by_test : (here : Bool) → nat_eq b 32 ≡ here → first_word (text ++ more) ≡ text ++ first_word more
        → cond here [] (b ∷ first_word (text ++ more)) ≡ b ∷ (text ++ first_word more)
    by_test true e again =
        absurd (let both : false ≡ true = sym none ∙ ap kind (sym (eqb-true b 32 e)) ∙ and_left (kind b) _ all in cc)
    by_test false e again = ap (λ w. b ∷ w) again

all_word : (kind : ℕ → Bool) → kind 32 ≡ false → (text : List ℕ) → list_all kind text ≡ true → first_word text ≡ text
unfolding first_word
all_word kind none text all = ap first_word (sym (append-nil text)) ∙ stands_in kind none text [] all ∙ append-nil text

-- tags

-- the tag is one word, as is every tag that can be spelled
abbrev pub IsOneWord : Tag → Type 0
IsOneWord tag = first_word (mupdate_tag_text tag) ≡ mupdate_tag_text tag

pub tag_tells : (tag : Tag) → IsOneWord tag → line_ask (mupdate_tag_text tag) ≡ ask_id_of tag
unfolding line_ask mupdate_tag_text ask_id_of split_dash first_word
tag_tells Star one = refl
tag_tells (Text text) one = ap (λ w. ask_id_of (Text w)) one

star_one : IsOneWord Star
unfolding mupdate_tag_text first_word
star_one = refl

text_one : (text : List ℕ) → mupdate_tags.whole text ≡ true → IsOneWord (Text text)
unfolding mupdate_tag_text is_mupdate_tag_byte
text_one text whole = all_word is_mupdate_tag_byte refl text (and_left _ _ (and_left _ _ whole))

-- that of a client's command is, whatever its numbers are
pub own_one : (ask : AskId) → IsOneWord (tag_of ask)
unfolding mupdate_tag_text tag_of is_digit first_word
own_one ask =
    let conn : List ℕ = decimal_text ask.conn in
    let command : List ℕ = decimal_text ask.command in
    stands_in is_digit refl conn (45 ∷ command) (decimal_writes ask.conn).digits
    ∙ ap (λ w. conn ++ 45 ∷ w) (all_word is_digit refl command (decimal_writes ask.command).digits)

-- lines as they are printed, whether some line is so or not

told_under : (tag : Tag) (rest : List ℕ) → line_ask (mupdate_tag_text tag ++ 32 ∷ rest) ≡ line_ask (mupdate_tag_text tag)
unfolding line_ask
told_under tag rest = ap (λ w. ask_id_of (Text w)) (word_ends (mupdate_tag_text tag) rest)

pub command_under : (tag : Tag) (it : MCommand) → line_ask ((command_line exact).text (tag, it)) ≡ line_ask (mupdate_tag_text tag)
unfolding command_line
command_under tag it = told_under tag _

pub response_under : (tag : Tag) (it : MResponse) → line_ask ((response_line exact).text (tag, it)) ≡ line_ask (mupdate_tag_text tag)
unfolding response_line
response_under tag it = told_under tag _

-- lines as they are read

-- the bytes begin with the tag and a space
record BeginsUnder (bytes : List ℕ) (tag : Tag) : Type 0 where
  rest : List ℕ
  is : bytes ≡ mupdate_tag_text tag ++ 32 ∷ rest
  one : IsOneWord tag

-- a spelling of the tag is its text
record IsTagged (text : List ℕ) (tag : Tag) : Type 0 where
  is : text ≡ mupdate_tag_text tag
  one : IsOneWord tag

tag_spelled : (text : List ℕ) (tag : Tag) → command_tag.part.lang text tag → IsTagged text tag
unfolding mupdate_tag_text
tag_spelled text tag l =
    let word : l.front ≡ l.between = l.begins.0 in
    let tag_is : tag ≡ Text l.between = l.goes_on.1 in
    subst (IsTagged text) (sym tag_is) (record {
      is = l.parts ∙ ap (λ s. l.front ++ s) l.goes_on.0 ∙ append-nil l.front ∙ word;
      one = text_one l.between l.begins.1;
    })

spaced_begins : {B : Type 0} (tags : Form Tag) → ((text : List ℕ) (tag : Tag) → tags.part.lang text tag → IsTagged text tag) → (p : Form B)
    → (bytes : List ℕ) (tag : Tag) (it : B) → (tags spaced p).part.lang bytes (tag, it) → BeginsUnder bytes tag
spaced_begins tags spelled p bytes tag it l =
    let behind = l.goes_on in
    let byte = behind.begins in
    let both : (tag, it) ≡ (l.between, behind.between) = behind.goes_on.1 in
    let same : l.between ≡ tag = ap (λ (x : Tag × _). x.0) (sym both) in
    let own = spelled l.front l.between l.begins in
    let here : byte.between ≡ 32 = eqb-true byte.between 32 byte.begins.1 in
    let back : l.back ≡ 32 ∷ byte.back =
    behind.parts ∙ ap (λ s. behind.front ++ s) behind.goes_on.0 ∙ append-nil behind.front ∙ byte.parts ∙ ap (λ s. s ++ byte.back) byte.begins.0
    ∙ ap (λ c. c ∷ byte.back) here in
    subst (BeginsUnder bytes) same (record {
      rest = byte.back;
      is = l.parts ∙ ap (λ s. l.front ++ s) back ∙ ap (λ s. s ++ 32 ∷ byte.back) own.is;
      one = own.one;
    })

begins_tells : (bytes : List ℕ) (tag : Tag) → BeginsUnder bytes tag → line_ask bytes ≡ ask_id_of tag
begins_tells bytes tag begins = ap line_ask begins.is ∙ told_under tag begins.rest ∙ tag_tells tag begins.one

response_spelled : (text : List ℕ) (tag : Tag) → response_tag.part.lang text tag → IsTagged text tag
unfolding mupdate_tag_text
response_spelled text tag (inl l) =
    let star = l.begins in
    let own = l.goes_on in
    let here : l.between ≡ 42 = eqb-true l.between 42 star.1 in
    subst (IsTagged text) (sym own.goes_on.1) (record {
      is = l.parts ∙ ap (λ s. s ++ l.back) star.0 ∙ ap (λ s. l.between ∷ s) (own.parts ∙ ap (λ s. own.front ++ s) own.goes_on.0 ∙ append-nil own.front ∙ own.begins.0)
          ∙ ap (λ c. c ∷ []) here;
      one = star_one;
    })
response_spelled text tag (inr l) = tag_spelled text tag l

pub command_tells : (line : List ℕ) (it : Tag × MCommand) → IsCommandLine line it → line_ask line ≡ ask_id_of it.0
unfolding command_line
command_tells line it l =
    begins_tells line it.0 (spaced_begins command_tag tag_spelled (ended_line (dispatch command_verb_form command_verb (command_arguments exact))) line it.0 it.1 l)

pub response_tells : (line : List ℕ) (it : Tag × MResponse) → IsResponseLine line it → line_ask line ≡ ask_id_of it.0
unfolding response_line
response_tells line it l =
    begins_tells line it.0 (spaced_begins response_tag response_spelled (ended_line (dispatch kind_form response_kind (response_arguments exact))) line it.0 it.1 l)

-- so the tag of a line that is read, printed anew, is that of a line of the same command
pub command_again : (line : List ℕ) (it : Tag × MCommand) → IsCommandLine line it → line_ask (mupdate_tag_text it.0) ≡ line_ask line
unfolding command_line
command_again line it l =
    let begins = spaced_begins command_tag tag_spelled (ended_line (dispatch command_verb_form command_verb (command_arguments exact))) line it.0 it.1 l in
    sym (ap line_ask begins.is ∙ told_under it.0 begins.rest)

-- lines under the tag of a client's command

pub own_command : (ask : AskId) (it : MCommand) → line_ask ((command_line exact).text (tag_of ask, it)) ≡ ask_id_of (tag_of ask)
own_command ask it = command_under (tag_of ask) it ∙ tag_tells (tag_of ask) (own_one ask)

pub own_response : (ask : AskId) (it : MResponse) → line_ask ((response_line exact).text (tag_of ask, it)) ≡ ask_id_of (tag_of ask)
own_response ask it = response_under (tag_of ask) it ∙ tag_tells (tag_of ask) (own_one ask)

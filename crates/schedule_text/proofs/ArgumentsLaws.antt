-- Arguments are cut from the text behind a word exactly as they are spelled there.
use Rattle.std.proofs.Common.{◌≡◌, ℕ, ◌<◌, ◌^◌, ◌⊎◌, Bool, true, false, cond, nat_eq, nat_lt, List, [], ◌∷◌, ◌++◌, length, map, Option, None, Some, Ok, Err}
use Rattle.std.proofs.Common.{refl, sym, ap, ◌∙◌, subst, inl, inr, append-nil, eqb-true}
use Rattle.std.specs.Bool.{⊤}
use Rattle.std.specs.Option.{ok_or}
use Rattle.std.proofs.lemmas.Bool.{or_parts, or_from, lt-ltb, ltb-true}
use Rattle.mur_base.specs.Number.{number_of, is_numeral, digits_behind}
use Rattle.schedule_text.specs.declared.schedule.fault.Rule.TheVariants.{WrongCount, BadNumber}
use Rattle.schedule_text.specs.declared.words.Kind.{Kind}
use Rattle.schedule_text.specs.declared.words.Kind.TheVariants.{Node, Number, Text}
use Rattle.schedule_text.specs.ScheduleWords.{WordAndRest, split_word, word_in, argument_in, first_argument, arguments_in, number_of_word}
use Rattle.schedule_text.specs.Spelled.{Lacks, IsWord, SpellsValue, AreArguments}
use Rattle.schedule_text.specs.Spelled.AreArguments.{no_more, one_more}
use Rattle.schedule_text.specs.Words.{Value}
use Rattle.schedule_text.specs.Words.Value.{a_node, a_number, a_text}
use Rattle.schedule_text.proofs.HighBytes.{high_word, number_high}
use Rattle.schedule_text.proofs.Steps.{both, kept_if, kept_true}

-- the parts of a text: a word without a space, and what follows
pub record IsSplit (text : List ℕ) (words : WordAndRest) : Type 0 where
  pub parts : text ≡ words.word ++ words.rest
  pub whole : Lacks 32 words.word

split_by : (b : ℕ) (text : List ℕ) (space : Bool) → nat_eq b 32 ≡ space → IsSplit text (split_word text) → IsSplit (b ∷ text) (split_word (b ∷ text))
unfolding split_word
split_by b text true e rest = rw e (record { parts = refl; whole = refl })
split_by b text false e rest =
    rw e (record { parts = ap (λ (t : List ℕ). b ∷ t) rest.parts; whole = or_from (nat_eq b 32) _ e rest.whole })

pub is_split : (text : List ℕ) → IsSplit text (split_word text)
unfolding split_word
is_split [] = record { parts = refl; whole = refl }
is_split (b ∷ text) = split_by b text _ refl (is_split text)

-- nothing, or a space and more
abbrev pub IsBehindWord : List ℕ → Type 0
IsBehindWord rest = (rest ≡ []) ⊎ ((more : List ℕ) × (rest ≡ 32 ∷ more))

split_end : (rest : List ℕ) → IsBehindWord rest → split_word rest ≡ record { word = []; rest = rest }
unfolding split_word
split_end rest (inl none) = rw none refl
split_end rest (inr some) = rw some.1 refl

-- a word is cut from what stands behind it
pub split_read : (word rest : List ℕ) → Lacks 32 word → IsBehindWord rest → split_word (word ++ rest) ≡ record { word = word; rest = rest }
unfolding split_word
split_read [] rest h end = split_end rest end
split_read (b ∷ word) rest h end =
    let parts = or_parts (nat_eq b 32) _ h in
    rw (parts.0, split_read word rest parts.1 end) refl

-- a node and a number are words
abbrev pub IsOfKind : Kind → List ℕ → Type 0
IsOfKind Node argument = IsWord argument
IsOfKind Number argument = IsWord argument
IsOfKind Text argument = ⊤

record IsCut (kind : Kind) (text : List ℕ) (words : WordAndRest) : Type 0 where
  parts : text ≡ words.word ++ words.rest
  fits : IsOfKind kind words.word

word_cut : (text : List ℕ) (words : WordAndRest) → word_in text ≡ Ok words → (text ≡ words.word ++ words.rest) × IsWord words.word
unfolding word_in
word_cut text words h =
    let some = ltb-true 0 (length (split_word text).word) (kept_true (nat_lt 0 (length (split_word text).word)) (split_word text) words WrongCount h) in
    let same = kept_if (nat_lt 0 (length (split_word text).word)) (split_word text) words WrongCount h in
    subst (λ (w : WordAndRest). (text ≡ w.word ++ w.rest) × IsWord w.word) same
    ((is_split text).parts, record { some = some; whole = (is_split text).whole })

argument_cut : (kind : Kind) (text : List ℕ) (words : WordAndRest) → argument_in kind text ≡ Ok words → IsCut kind text words
unfolding argument_in
argument_cut Node text words h = let cut = word_cut text words h in record { parts = cut.0; fits = cut.1 }
argument_cut Number text words h = let cut = word_cut text words h in record { parts = cut.0; fits = cut.1 }
argument_cut Text text words h =
    let whole : WordAndRest = record { word = text; rest = [] } in
    let same : whole ≡ words = cc in
    subst (λ (w : WordAndRest). IsCut Text text w) same (record { parts = sym (append-nil text); fits = tt })

record IsFirst (kind : Kind) (rest : List ℕ) (words : WordAndRest) : Type 0 where
  parts : rest ≡ 32 ∷ words.word ++ words.rest
  fits : IsOfKind kind words.word

first_by : (kind : Kind) (b : ℕ) (text : List ℕ) (words : WordAndRest) (space : Bool) → nat_eq b 32 ≡ space → first_argument kind (b ∷ text) ≡ Ok words
    → IsFirst kind (b ∷ text) words
unfolding first_argument
first_by kind b text words true e h =
    let cut = argument_cut kind text words (rw e at h) in
    record { parts = ap (λ (c : ℕ). c ∷ text) (eqb-true b 32 e) ∙ ap (λ (t : List ℕ). 32 ∷ t) cut.parts; fits = cut.fits }
first_by kind b text words false e h = let none : Err WrongCount ≡ Ok words = rw e at h in cc

first_cut : (kind : Kind) (rest : List ℕ) (words : WordAndRest) → first_argument kind rest ≡ Ok words → IsFirst kind rest words
unfolding first_argument
first_cut kind [] words h = cc
first_cut kind (b ∷ text) words h = first_by kind b text words _ refl h

unfoldable pub AreOfKinds : List Kind → List (List ℕ) → Type 0
AreOfKinds [] [] = ⊤
AreOfKinds [] (argument ∷ arguments) = ⊥
AreOfKinds (kind ∷ kinds) [] = ⊥
AreOfKinds (kind ∷ kinds) (argument ∷ arguments) = IsOfKind kind argument × AreOfKinds kinds arguments

-- no argument
pub none_of_kind : (P : List (List ℕ) → Type 0) → P [] → (arguments : List (List ℕ)) → AreOfKinds [] arguments → P arguments
unfolding AreOfKinds
none_of_kind P is [] fit = is
none_of_kind P is (one ∷ others) fit = absurd fit

-- one argument
pub one_of_kind : (kind : Kind) (P : List (List ℕ) → Type 0) → ((one : List ℕ) → IsOfKind kind one → P (one ∷ [])) → (arguments : List (List ℕ))
    → AreOfKinds (kind ∷ []) arguments → P arguments
unfolding AreOfKinds
one_of_kind kind P is [] fit = absurd fit
one_of_kind kind P is (one ∷ []) fit = is one fit.0
one_of_kind kind P is (one ∷ more ∷ others) fit = absurd fit.1

-- two arguments
pub two_of_kinds : (first second : Kind) (P : List (List ℕ) → Type 0)
    → ((one other : List ℕ) → IsOfKind first one → IsOfKind second other → P (one ∷ other ∷ [])) → (arguments : List (List ℕ))
    → AreOfKinds (first ∷ second ∷ []) arguments → P arguments
unfolding AreOfKinds
two_of_kinds first second P are [] fit = absurd fit
two_of_kinds first second P are (one ∷ []) fit = absurd fit.1
two_of_kinds first second P are (one ∷ other ∷ []) fit = are one other fit.0 fit.1.0
two_of_kinds first second P are (one ∷ other ∷ more ∷ others) fit = absurd fit.1.1

-- four arguments
pub four_of_kinds : (first second third fourth : Kind) (P : List (List ℕ) → Type 0)
    → ((one other more last : List ℕ) → IsOfKind first one → IsOfKind second other → IsOfKind third more → IsOfKind fourth last
    → P (one ∷ other ∷ more ∷ last ∷ []))
    → (arguments : List (List ℕ)) → AreOfKinds (first ∷ second ∷ third ∷ fourth ∷ []) arguments → P arguments
unfolding AreOfKinds
four_of_kinds first second third fourth P are [] fit = absurd fit
four_of_kinds first second third fourth P are (one ∷ []) fit = absurd fit.1
four_of_kinds first second third fourth P are (one ∷ other ∷ []) fit = absurd fit.1.1
four_of_kinds first second third fourth P are (one ∷ other ∷ more ∷ []) fit = absurd fit.1.1.1
four_of_kinds first second third fourth P are (one ∷ other ∷ more ∷ last ∷ []) fit = are one other more last fit.0 fit.1.0 fit.1.1.0 fit.1.1.1.0
four_of_kinds first second third fourth P are (one ∷ other ∷ more ∷ last ∷ next ∷ others) fit = absurd fit.1.1.1.1

-- arguments, a space before each
unfoldable pub spaced : List (List ℕ) → List ℕ
spaced [] = []
spaced (argument ∷ arguments) = 32 ∷ argument ++ spaced arguments

pub record AreCut (kinds : List Kind) (rest : List ℕ) (arguments : List (List ℕ)) : Type 0 where
  pub parts : rest ≡ spaced arguments
  pub fit : AreOfKinds kinds arguments

pub are_cut : (kinds : List Kind) (rest : List ℕ) (arguments : List (List ℕ)) → arguments_in kinds rest ≡ Ok arguments → AreCut kinds rest arguments
unfolding arguments_in AreOfKinds spaced
are_cut [] [] arguments h =
    let none : [] ≡ arguments = cc in
    subst (λ (a : List (List ℕ)). AreCut [] [] a) none (record { parts = refl; fit = tt })
are_cut [] (b ∷ rest) arguments h = cc
are_cut (kind ∷ kinds) rest arguments h =
    let words = both (first_argument kind rest) _ arguments h in
    let more = both (arguments_in kinds words.0.rest) _ arguments words.2 in
    let same : words.0.word ∷ more.0 ≡ arguments = cc in
    let first = first_cut kind rest words.0 words.1 in
    let others = are_cut kinds words.0.rest more.0 more.1 in
    subst (λ (a : List (List ℕ)). AreCut (kind ∷ kinds) rest a) same (record {
      parts = first.parts ∙ ap (λ (t : List ℕ). 32 ∷ words.0.word ++ t) others.parts;
      fit = (first.fits, others.fit);
    })

-- each argument spells its value
unfoldable pub AllSpell : List (List ℕ) → List Value → Type 0
AllSpell [] [] = ⊤
AllSpell [] (value ∷ values) = ⊥
AllSpell (argument ∷ arguments) [] = ⊥
AllSpell (argument ∷ arguments) (value ∷ values) = SpellsValue argument value × AllSpell arguments values

-- no value
pub none_spells : (P : List (List ℕ) → Type 0) → P [] → (arguments : List (List ℕ)) → AllSpell arguments [] → P arguments
unfolding AllSpell
none_spells P is [] spell = is
none_spells P is (one ∷ others) spell = absurd spell

-- one value
pub one_spells : (value : Value) (P : List (List ℕ) → Type 0) → ((one : List ℕ) → SpellsValue one value → P (one ∷ [])) → (arguments : List (List ℕ))
    → AllSpell arguments (value ∷ []) → P arguments
unfolding AllSpell
one_spells value P is [] spell = absurd spell
one_spells value P is (one ∷ []) spell = is one spell.0
one_spells value P is (one ∷ more ∷ others) spell = absurd spell.1

-- two values
pub two_spell : (first second : Value) (P : List (List ℕ) → Type 0)
    → ((one other : List ℕ) → SpellsValue one first → SpellsValue other second → P (one ∷ other ∷ [])) → (arguments : List (List ℕ))
    → AllSpell arguments (first ∷ second ∷ []) → P arguments
unfolding AllSpell
two_spell first second P are [] spell = absurd spell
two_spell first second P are (one ∷ []) spell = absurd spell.1
two_spell first second P are (one ∷ other ∷ []) spell = are one other spell.0 spell.1.0
two_spell first second P are (one ∷ other ∷ more ∷ others) spell = absurd spell.1.1

-- four values
pub four_spell : (first second third fourth : Value) (P : List (List ℕ) → Type 0)
    → ((one other more last : List ℕ) → SpellsValue one first → SpellsValue other second → SpellsValue more third → SpellsValue last fourth
    → P (one ∷ other ∷ more ∷ last ∷ []))
    → (arguments : List (List ℕ)) → AllSpell arguments (first ∷ second ∷ third ∷ fourth ∷ []) → P arguments
unfolding AllSpell
four_spell first second third fourth P are [] spell = absurd spell
four_spell first second third fourth P are (one ∷ []) spell = absurd spell.1
four_spell first second third fourth P are (one ∷ other ∷ []) spell = absurd spell.1.1
four_spell first second third fourth P are (one ∷ other ∷ more ∷ []) spell = absurd spell.1.1.1
four_spell first second third fourth P are (one ∷ other ∷ more ∷ last ∷ []) spell =
    are one other more last spell.0 spell.1.0 spell.1.1.0 spell.1.1.1.0
four_spell first second third fourth P are (one ∷ other ∷ more ∷ last ∷ next ∷ others) spell = absurd spell.1.1.1.1

pub are_arguments : (arguments : List (List ℕ)) (values : List Value) → AllSpell arguments values → AreArguments (spaced arguments) values
unfolding AllSpell spaced
are_arguments [] [] are = no_more
are_arguments [] (value ∷ values) are = absurd are
are_arguments (argument ∷ arguments) [] are = absurd are
are_arguments (argument ∷ arguments) (value ∷ values) are =
    one_more argument (spaced arguments) value values are.0 (are_arguments arguments values are.1)

abbrev pub kind_of : Value → Kind
kind_of (a_node name) = Node
kind_of (a_number n) = Number
kind_of (a_text bytes) = Text

-- nothing stands behind a text
unfoldable pub EndsWithText : List Value → Type 0
EndsWithText [] = ⊤
EndsWithText (a_node name ∷ values) = EndsWithText values
EndsWithText (a_number n ∷ values) = EndsWithText values
EndsWithText (a_text bytes ∷ values) = values ≡ []

pub behind_word : (rest : List ℕ) (values : List Value) → AreArguments rest values → IsBehindWord rest
behind_word rest values no_more = inl refl
behind_word rest values (one_more argument more value others is are) = inr (argument ++ more, refl)

nothing_behind : (rest : List ℕ) (values : List Value) → AreArguments rest values → values ≡ [] → rest ≡ []
nothing_behind rest values no_more h = refl
nothing_behind rest values (one_more argument more value others is are) h = cc

word_read : (word rest : List ℕ) → IsWord word → IsBehindWord rest → word_in (word ++ rest) ≡ Ok (record { word = word; rest = rest })
unfolding word_in
word_read word rest is end = rw (split_read word rest is.whole end, lt-ltb 0 (length word) is.some) refl

first_read : (argument rest : List ℕ) (value : Value) (values : List Value) → SpellsValue argument value → EndsWithText (value ∷ values) → AreArguments rest values
    → first_argument (kind_of value) (32 ∷ argument ++ rest) ≡ Ok (record { word = argument; rest = rest })
unfolding first_argument argument_in EndsWithText
first_read argument rest (a_node name) values is ends are = word_read argument rest is.1 (behind_word rest values are)
first_read argument rest (a_number n) values is ends are = word_read argument rest (high_word argument (number_high argument n is)) (behind_word rest values are)
first_read argument rest (a_text bytes) values is ends are = rw (nothing_behind rest values are ends, append-nil argument) refl

-- arguments that are cut so spell these values
pub record AreRead (rest : List ℕ) (values : List Value) : Type 0 where
  pub arguments : List (List ℕ)
  pub read : arguments_in (map kind_of values) rest ≡ Ok arguments
  pub spell : AllSpell arguments values

more_ends : (value : Value) (values : List Value) → EndsWithText (value ∷ values) → EndsWithText values
unfolding EndsWithText
more_ends (a_node name) values ends = ends
more_ends (a_number n) values ends = ends
more_ends (a_text bytes) values ends = rw ends tt

-- spelled arguments are read
pub are_read : (rest : List ℕ) (values : List Value) → AreArguments rest values → EndsWithText values → AreRead rest values
unfolding arguments_in AllSpell
are_read rest values no_more ends = record { arguments = []; read = refl; spell = tt }
are_read rest values (one_more argument more value others is are) ends =
    let others_read = are_read more others are (more_ends value others ends) in
    record {
      arguments = argument ∷ others_read.arguments;
      read = rw (first_read argument more value others is ends are, others_read.read) refl;
      spell = (is, others_read.spell);
    }

some_number : (found : Option ℕ) (n : ℕ) → ok_or found BadNumber ≡ Ok n → found ≡ Some n
some_number None n h = cc
some_number (Some found) n h = cc

pub number_spelled : (word : List ℕ) (n : ℕ) → number_of_word word ≡ Ok n → number_of word ≡ Some n
unfolding number_of_word
number_spelled word n h = some_number (number_of word) n h

read_by : (numeral fits : Bool) (value n : ℕ) → nat_lt value (2 ^ 64) ≡ fits → cond numeral (cond fits (Some value) None) None ≡ Some n → n < 2 ^ 64
read_by true true value n low h =
    let same : value ≡ n = cc in
    subst (λ (m : ℕ). m < 2 ^ 64) same (ltb-true value (2 ^ 64) low)
read_by true false value n low h = cc
read_by false fits value n low h = cc

-- a number that is read has 64 bits
pub number_low : (word : List ℕ) (n : ℕ) → number_of word ≡ Some n → n < 2 ^ 64
unfolding number_of
number_low word n h = read_by (is_numeral word) _ (digits_behind 0 word) n refl h

pub number_read : (word : List ℕ) (n : ℕ) → number_of word ≡ Some n → number_of_word word ≡ Ok n
unfolding number_of_word
number_read word n h = rw h refl

-- Which command, which response bytes are.
use Rattle.std.proofs.Common.{◌≡◌, ℕ, List, [], ◌∷◌, ◌++◌, Option, None, Some, Result, Ok, Err, refl, sym, ap, ◌∙◌, subst, append-nil, suc, ◌<◌, length, take, drop, get_or, drop-cons}
use Rattle.std.proofs.lemmas.List.{take-append-drop}
use Rattle.grammar.specs.Part.{Part}
use Rattle.grammar.specs.Exact.{Good, any}
use Rattle.mupdate_codec.specs.declared.command.MCommand.{MCommand}
use Rattle.mupdate_codec.specs.declared.command.MResponse.{MResponse}
use Rattle.mupdate_codec.specs.declared.tag.Tag.{Tag}
use Rattle.mupdate_codec.specs.Answers.{IsBegun, BeginsNone}
use Rattle.mupdate_codec.specs.Arguments.{exact}
use Rattle.mupdate_codec.specs.Commands.{command_line, IsCommandLine}
use Rattle.mupdate_codec.specs.Responses.{response_line, IsResponseLine}
use Rattle.mupdate_codec.specs.Whole.{whole_by, command_in, response_in}
use Rattle.mupdate_codec.proofs.AnswersLaw.{whole_read, line_read, line_found, more_only}
use Rattle.mupdate_codec.proofs.LinesLaw.{law_command_line, law_response_line}

take_all : (bytes : List ℕ) → take (length bytes) bytes ≡ bytes
take_all [] = refl
take_all (c ∷ bytes) = ap (λ s. c ∷ s) (take_all bytes)

module _ {A : Type 0} (p : Part A) (good : (V : Type 0) → Good V any p) where
  abbrev it_in : List ℕ → Option A
  it_in bytes = whole_by (p.at bytes)

  -- a whole line is what it spells
  line_of : (line : List ℕ) (it : A) → p.lang line it → it_in line ≡ Some it
  line_of line it l = ap whole_by (whole_read p good line it l)

  -- and what is spelled has that line
  of_line : (line : List ℕ) (it : A) → it_in line ≡ Some it → p.lang line it
  of_line line it e = by_read (p.at line) refl e
    where
      by_some : {x y : A} → (let o : Option A = Some x in o ≡ Some y) → x ≡ y
      by_some e = cc

      by_rest : (x : A) (rest : List ℕ) → p.at line ≡ Ok (x, rest) → whole_by (Ok (x, rest)) ≡ Some it → p.lang line it
      by_rest x [] is e =
          let found = line_found p good line [] x is in
          let same : x ≡ it = by_some e in
          subst (λ y. p.lang line y) same (subst (λ s. p.lang s x) (sym (found.1 ∙ append-nil found.0)) found.2)
      by_rest x (c ∷ rest) is e = cc

      by_read : (r : Result (A × List ℕ) ℕ) → p.at line ≡ r → whole_by r ≡ Some it → p.lang line it
      by_read (Ok x) is e = by_rest x.0 x.1 is e
      by_read (Err left) is e = cc

  -- a line with more after it is none
  longer : (line rest : List ℕ) (byte : ℕ) (it : A) → p.lang line it → it_in (line ++ byte ∷ rest) ≡ None
  longer line rest byte it l = ap whole_by (line_read p good line (byte ∷ rest) it l)

  -- bytes that begin a line are none yet
  begun : (bytes : List ℕ) → IsBegun p.lang bytes → it_in bytes ≡ None
  begun bytes b = ap whole_by (more_only p good bytes b)

  -- nor are bytes that begin none
  other : (bytes : List ℕ) → BeginsNone p.lang bytes → it_in bytes ≡ None
  other bytes n = by_read (p.at bytes) refl
    where
      by_read : (r : Result (A × List ℕ) ℕ) → p.at bytes ≡ r → whole_by r ≡ None
      by_read (Ok x) is =
          let found = line_found p good bytes x.1 x.0 is in
          absurd (n.no_line (record { line = found.0; rest = x.1; value = x.0; parts = found.1; whole = found.2 }))
      by_read (Err left) is = refl

  -- what is read of all the bytes, or of a front of them
  whole : (bytes : List ℕ) (it : A) (used : ℕ) → used ≡ length bytes → p.lang (take used bytes) it → it_in bytes ≡ Some it
  whole bytes it used all l = line_of bytes it (subst (λ s. p.lang s it) (ap (λ n. take n bytes) all ∙ take_all bytes) l)

  front : (bytes : List ℕ) (it : A) (used : ℕ) → used < length bytes → p.lang (take used bytes) it → it_in bytes ≡ None
  front bytes it used less l =
      ap it_in (sym (take-append-drop used bytes) ∙ ap (λ s. take used bytes ++ s) (drop-cons bytes used 0 less))
      ∙ longer (take used bytes) (drop (suc used) bytes) (get_or bytes used 0) it l

-- commands

pub line_is : (line : List ℕ) (it : Tag × MCommand) → IsCommandLine line it → command_in line ≡ Some it
unfolding command_in
line_is line it l = line_of (command_line exact).part law_command_line.good line it l

pub is_line : (line : List ℕ) (it : Tag × MCommand) → command_in line ≡ Some it → IsCommandLine line it
unfolding command_in
is_line line it e = of_line (command_line exact).part law_command_line.good line it e

pub command_begun : (bytes : List ℕ) → IsBegun IsCommandLine bytes → command_in bytes ≡ None
unfolding command_in
command_begun bytes b = begun (command_line exact).part law_command_line.good bytes b

pub no_command : (bytes : List ℕ) → BeginsNone IsCommandLine bytes → command_in bytes ≡ None
unfolding command_in
no_command bytes n = other (command_line exact).part law_command_line.good bytes n

pub command_whole : (bytes : List ℕ) (it : Tag × MCommand) (used : ℕ) → used ≡ length bytes → IsCommandLine (take used bytes) it → command_in bytes ≡ Some it
unfolding command_in
command_whole bytes it used all l = whole (command_line exact).part law_command_line.good bytes it used all l

pub command_front : (bytes : List ℕ) (it : Tag × MCommand) (used : ℕ) → used < length bytes → IsCommandLine (take used bytes) it → command_in bytes ≡ None
unfolding command_in
command_front bytes it used less l = front (command_line exact).part law_command_line.good bytes it used less l

-- responses

pub response_is : (line : List ℕ) (it : Tag × MResponse) → IsResponseLine line it → response_in line ≡ Some it
unfolding response_in
response_is line it l = line_of (response_line exact).part law_response_line.good line it l

pub response_begun : (bytes : List ℕ) → IsBegun IsResponseLine bytes → response_in bytes ≡ None
unfolding response_in
response_begun bytes b = begun (response_line exact).part law_response_line.good bytes b

pub no_response : (bytes : List ℕ) → BeginsNone IsResponseLine bytes → response_in bytes ≡ None
unfolding response_in
no_response bytes n = other (response_line exact).part law_response_line.good bytes n

pub response_whole : (bytes : List ℕ) (it : Tag × MResponse) (used : ℕ) → used ≡ length bytes → IsResponseLine (take used bytes) it → response_in bytes ≡ Some it
unfolding response_in
response_whole bytes it used all l = whole (response_line exact).part law_response_line.good bytes it used all l

pub response_front : (bytes : List ℕ) (it : Tag × MResponse) (used : ℕ) → used < length bytes → IsResponseLine (take used bytes) it → response_in bytes ≡ None
unfolding response_in
response_front bytes it used less l = front (response_line exact).part law_response_line.good bytes it used less l

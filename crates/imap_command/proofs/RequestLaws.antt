-- A frame has one request, which is what it spells.
use Rattle.std.proofs.Common.{◌≡◌, ℕ, Bool, true, false, List, [], ◌∷◌, ◌++◌, Option, None, Some, Result, Ok, Err, refl, sym, ◌∙◌, ap}
use Rattle.grammar.specs.Exact.{whole_at}
use Rattle.grammar.specs.Part.{starts}
use Rattle.grammar.specs.Words.{scan}
use Rattle.grammar.proofs.Reading.{ok_parts}
use Rattle.imap_types.specs.declared.command.Command.{Command}
use Rattle.imap_types.specs.declared.command.Tag.{Tag}
use Rattle.imap_types.specs.declared.command.Tag.TheVariants.{Text}
use Rattle.imap_command.specs.Bad.{IsFirstTag}
use Rattle.imap_command.specs.Request.{is_space, tag_before, tag_in, first_tag, request_by, request_of, too_big_request, IsRequest, IsTooBig}
use Rattle.imap_command.specs.Request.IsRequest.{spells, spells_nothing}
use Rattle.imap_command.specs.Spells.{Spells, tags, tagged_command}
use Rattle.imap_command.proofs.BadLaws.{tag_found, tag_reads, tag_stopped, tag_unspaced}
use Rattle.imap_command.proofs.SpellsLaw.{exact_command}

found_by : (frame text rest : List ℕ) (spaced : Bool) → scan tags [] frame ≡ Ok (text, rest) → starts is_space rest ≡ spaced
    → IsFirstTag frame (tag_before text spaced)
found_by frame text rest true e s = let t = tag_found frame text rest e s in (text, t.0, refl, t.1, t.2)
found_by frame text rest false e s = tag_unspaced frame text rest e s

first_by : (frame : List ℕ) (scanned : Result (List ℕ × List ℕ) ℕ) → scan tags [] frame ≡ scanned → IsFirstTag frame (tag_in scanned)
first_by frame (Ok (text, rest)) e = found_by frame text rest (starts is_space rest) e refl
first_by frame (Err left) e = tag_stopped frame left e

-- the first tag of a frame
pub first_tag_is : (frame : List ℕ) → IsFirstTag frame (first_tag frame)
unfolding first_tag
first_tag_is frame = first_by frame (scan tags [] frame) refl

-- there is no other
apart_by : (frame : List ℕ) (one : Option Tag) → IsFirstTag frame one → (text rest : List ℕ) → frame ≡ text ++ 32 ∷ rest → tags.whole text ≡ true
    → one ≡ Some (Text text)
apart_by frame None none text rest e whole = absurd (none text rest e whole)
apart_by frame (Some tag) (word, behind, is, parts, whole_word) text rest e whole =
    let parts_same = ok_parts (sym (tag_reads frame word behind parts whole_word) ∙ tag_reads frame text rest e whole) in
    ap Some (is ∙ ap Text parts_same.0)

pub one_first_tag : (frame : List ℕ) (one other : Option Tag) → IsFirstTag frame one → IsFirstTag frame other → one ≡ other
one_first_tag frame None None h k = refl
one_first_tag frame one (Some tag) h (text, rest, is, parts, whole) = apart_by frame one h text rest parts whole ∙ ap Some (sym is)
one_first_tag frame (Some tag) None (text, rest, is, parts, whole) k = absurd (k text rest parts whole)

request_is_by : (frame : List ℕ) (whole : Result (Tag × Command) ℕ) → whole_at tagged_command frame ≡ whole
    → IsRequest frame (request_by (first_tag frame) whole)
request_is_by frame (Ok (tag, it)) e = spells tag it (exact_command.found frame (tag, it) e)
request_is_by frame (Err left) e = spells_nothing (first_tag frame) (λ tagged h. no_stop left tagged (sym e ∙ exact_command.only frame tagged h))
    (first_tag_is frame)
  where
    no_stop : (left : ℕ) (tagged : Tag × Command) → (let r : Result (Tag × Command) ℕ = Err left in r ≡ Ok tagged) → ⊥
    no_stop left tagged e = cc

-- a whole frame asks for this
pub request_is : (frame : List ℕ) → IsRequest frame (request_of frame)
unfolding request_of
request_is frame = request_is_by frame (whole_at tagged_command frame) refl

pub too_big_is : (frame : List ℕ) → IsTooBig frame (too_big_request frame)
unfolding too_big_request
too_big_is frame = record { tag = first_tag frame; first = first_tag_is frame; refused = refl }

-- what is read
pub request_read : (frame : List ℕ) (tag : Tag) (it : Command) → Spells frame (tag, it) → request_of frame ≡ request_by None (Ok (tag, it))
unfolding request_of
request_read frame tag it h = ap (request_by (first_tag frame)) (exact_command.only frame (tag, it) h)

refused_by : (frame : List ℕ) (whole : Result (Tag × Command) ℕ) → whole_at tagged_command frame ≡ whole → ((tagged : Tag × Command) → ¬ Spells frame tagged)
    → request_by (first_tag frame) whole ≡ request_by (first_tag frame) (Err 0)
refused_by frame (Ok tagged) e none = absurd (none tagged (exact_command.found frame tagged e))
refused_by frame (Err left) e none = refl

-- what is refused
pub request_refused : (frame : List ℕ) (tag : Option Tag) → ((tagged : Tag × Command) → ¬ Spells frame tagged) → IsFirstTag frame tag
    → request_of frame ≡ request_by tag (Err 0)
unfolding request_of
request_refused frame tag none first =
    refused_by frame (whole_at tagged_command frame) refl none
    ∙ ap (λ t. request_by t (Err 0)) (one_first_tag frame (first_tag frame) tag (first_tag_is frame) first)

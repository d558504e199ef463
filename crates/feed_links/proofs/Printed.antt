-- A response whose parts can be written can be written itself.
use Rattle.std.proofs.Common.{◌≡◌, ℕ, true, List, [], ◌∷◌, ◌++◌, refl, subst}
use Rattle.grammar.specs.Forms.{Form, Row, dispatch, followed, made, named, names_of, preceded, ◌spaced◌}
use Rattle.grammar.specs.Part.{byte, map as map_part}
use Rattle.grammar.specs.Tables.{any_case}
use Rattle.grammar.specs.Words.{word}
use Rattle.grammar.proofs.Spelling.{spell_byte, spell_map, spell_one, spell_then}
use Rattle.mupdate_codec.specs.declared.command.MResponse.{MResponse}
use Rattle.mupdate_codec.specs.declared.command.MResponse.TheVariants as response
use Rattle.mupdate_codec.specs.declared.tag.Tag.{Tag}
use Rattle.mupdate_codec.specs.declared.word.Kind.{Kind}
use Rattle.mupdate_codec.specs.declared.word.Kind.TheVariants as kind
use Rattle.mupdate_codec.specs.Arguments.{exact, a_string, a_name, a_place, a_mailbox, ended_line}
use Rattle.mupdate_codec.specs.Responses.{kinds, response_word, kind_form, response_kind, response_arguments, response_printed_as, response_line, IsSpelledResponse}
use Rattle.mupdate_codec.specs.Strings.{string_form, name_form, location_form}
use Rattle.mupdate_codec.specs.Tags.{response_tag}
use Rattle.mur_base.specs.declared.home.Location.{Location}
use Rattle.feed_links.specs.Spelled.{IsSpelledIn}
use Rattle.feed_links.proofs.Arguments.{IsSpelledTag}

-- forms put together

module _ {A : Type 0} where
  put_behind : (c : ℕ) (p : Form A) (a : A) → IsSpelledIn p a → IsSpelledIn (preceded c p) a
  put_behind c p a l = (c ∷ l.0, spell_byte c p.part l.0 a l.1)

  put_before : (p : Form A) (c : ℕ) (a : A) → IsSpelledIn p a → IsSpelledIn (followed p c) a
  put_before p c a l = (l.0 ++ c ∷ [], spell_then p.part (λ a. map_part (λ _. a) (byte c)) l.0 (c ∷ []) a a l.1 (spell_map (λ _. a) (byte c) (c ∷ []) c (spell_one c)))

  put_line : (p : Form A) (a : A) → IsSpelledIn p a → IsSpelledIn (ended_line p) a
  put_line p a l = put_before (followed p 13) 10 a (put_before p 13 a l)

module _ {A B : Type 0} where
  put_spaced : (p : Form A) (q : Form B) (a : A) (b : B) → IsSpelledIn p a → IsSpelledIn q b → IsSpelledIn (p spaced q) (a, b)
  put_spaced p q a b l m =
      let m = put_behind 32 q b m in
      (l.0 ++ m.0, spell_then p.part (λ a. map_part (λ b. (a, b)) (preceded 32 q).part) l.0 m.0 a (a, b) l.1 (spell_map (λ b. (a, b)) (preceded 32 q).part m.0 b m.1))

  put_next : (p : Form A) (key : B → A) (next : A → Form B) (b : B) → IsSpelledIn p (key b) → IsSpelledIn (next (key b)) b → IsSpelledIn (dispatch p key next) b
  put_next p key next b l m = (l.0 ++ m.0, spell_then p.part (λ k. (next k).part) l.0 m.0 (key b) b l.1 m.1)

  put_made : (f : A → B) (text : B → List ℕ) (p : Form A) (a : A) → IsSpelledIn p a → IsSpelledIn (made f text p) (f a)
  put_made f text p a l = (l.0, spell_map f p.part l.0 a l.1)

-- the arguments of a response
abbrev pub HasParts : MResponse → Type 0
HasParts (response.Mailbox name place acl) = IsSpelledIn name_form name × IsSpelledIn location_form place × IsSpelledIn string_form acl
HasParts (response.Reserve name place) = IsSpelledIn name_form name × IsSpelledIn location_form place
HasParts (response.Delete name) = IsSpelledIn name_form name
HasParts (response.Ok text) = IsSpelledIn string_form text
HasParts (response.No text) = IsSpelledIn string_form text
HasParts (response.Bad text) = IsSpelledIn string_form text

-- a word is written as its row has it
in_rows : {A : Type 0} (other : A) (rows : List (Row A)) (text : List ℕ) (a : A) → (any_case (names_of rows)).whole text ≡ true → named other rows text ≡ a
    → (map_part (named other rows) (word (any_case (names_of rows)))).lang text a
in_rows other rows text a whole is =
    subst (λ v. (map_part (named other rows) (word (any_case (names_of rows)))).lang text v) is
    (spell_map (named other rows) (word (any_case (names_of rows))) text text (refl, whole))

kind_spelled : (k : Kind) → IsSpelledIn kind_form k
unfolding response_word
kind_spelled kind.Bad = (response_word kind.Bad, in_rows kind.Bad kinds (response_word kind.Bad) kind.Bad refl refl)
kind_spelled kind.Delete = (response_word kind.Delete, in_rows kind.Bad kinds (response_word kind.Delete) kind.Delete refl refl)
kind_spelled kind.Mailbox = (response_word kind.Mailbox, in_rows kind.Bad kinds (response_word kind.Mailbox) kind.Mailbox refl refl)
kind_spelled kind.No = (response_word kind.No, in_rows kind.Bad kinds (response_word kind.No) kind.No refl refl)
kind_spelled kind.Ok = (response_word kind.Ok, in_rows kind.Bad kinds (response_word kind.Ok) kind.Ok refl refl)
kind_spelled kind.Reserve = (response_word kind.Reserve, in_rows kind.Bad kinds (response_word kind.Reserve) kind.Reserve refl refl)

mailbox_spelled : (name : List ℕ) (place : Location) (acl : List ℕ) → IsSpelledIn name_form name × IsSpelledIn location_form place × IsSpelledIn string_form acl
    → IsSpelledIn (a_mailbox exact) (name, (place, acl))
mailbox_spelled name place acl has =
    put_behind 32 (name_form spaced (location_form spaced string_form)) (name, (place, acl))
    (put_spaced name_form (location_form spaced string_form) name (place, acl) has.0 (put_spaced location_form string_form place acl has.1 has.2))

place_spelled : (name : List ℕ) (place : Location) → IsSpelledIn name_form name × IsSpelledIn location_form place → IsSpelledIn (a_place exact) (name, place)
place_spelled name place has = put_behind 32 (name_form spaced location_form) (name, place) (put_spaced name_form location_form name place has.0 has.1)

parts_spelled : (it : MResponse) → HasParts it → IsSpelledIn (response_arguments exact (response_kind it)) it
unfolding response_arguments response_printed_as
parts_spelled (response.Mailbox name place acl) has = put_made (λ x. response.Mailbox x.0 x.1.0 x.1.1) (λ _. []) (a_mailbox exact) (name, (place, acl)) (mailbox_spelled name place acl has)
parts_spelled (response.Reserve name place) has = put_made (λ x. response.Reserve x.0 x.1) (λ _. []) (a_place exact) (name, place) (place_spelled name place has)
parts_spelled (response.Delete name) has = put_made response.Delete (λ _. []) (a_name exact) name (put_behind 32 name_form name has)
parts_spelled (response.Ok text) has = put_made response.Ok (λ _. []) a_string text (put_behind 32 string_form text has)
parts_spelled (response.No text) has = put_made response.No (λ _. []) a_string text (put_behind 32 string_form text has)
parts_spelled (response.Bad text) has = put_made response.Bad (λ _. []) a_string text (put_behind 32 string_form text has)

pub response_spelled : (tag : Tag) (it : MResponse) → IsSpelledTag tag → HasParts it → IsSpelledResponse tag it
unfolding response_line
response_spelled tag it tagged has =
    put_spaced response_tag (ended_line (dispatch kind_form response_kind (response_arguments exact))) tag it tagged
    (put_line (dispatch kind_form response_kind (response_arguments exact)) it
    (put_next kind_form response_kind (response_arguments exact) it (kind_spelled (response_kind it)) (parts_spelled it has)))

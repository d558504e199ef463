-- FETCH: the law of its items and its arguments.
use Rattle.std.proofs.Common.{◌≡◌, ℕ, List, [], ◌∷◌, ◌++◌, Bool, true, false, ◌==◌, ◌||◌, Option, None, Some, inl, refl, sym, ap, ◌∙◌, subst, eqb-true}
use Rattle.grammar.specs.Part.{give, byte}
use Rattle.grammar.specs.Exact.{among}
use Rattle.grammar.specs.Forms.{Law, ◌and◌, preceded, begins_row, made, nothing, numeral, several, table}
use Rattle.grammar.proofs.Conditions.{among_all}
use Rattle.grammar.proofs.FormLaw.{Branch, branch, one_byte, apart_byte, law_and, law_behind, law_choice, law_closed, law_dispatch, law_followed}
use Rattle.grammar.proofs.FormLaw.{law_made, law_maybe, law_nothing, law_spaced, law_weaker, spell_closed}
use Rattle.grammar.proofs.NamesLaw.{law_table, spell_name}
use Rattle.grammar.proofs.NumeralLaw.{law_numeral}
use Rattle.grammar.proofs.SeveralLaw.{Each, spell_list, law_several}
use Rattle.grammar.proofs.Spelling.{spell_then, spell_map}
use Rattle.grammar.proofs.StartLaw.{starts_then, starts_byte}
use Rattle.mur_base.specs.Number.{is_digit, digits_behind}
use Rattle.mail_message.specs.declared.item.Item.{Item}
use Rattle.mail_message.specs.declared.item.Item.TheVariants as item_is
use Rattle.imap_command.specs.declared.commands.fetch.ItemName.{ItemName}
use Rattle.imap_command.specs.declared.commands.fetch.ItemName.TheVariants as name
use Rattle.imap_command.specs.Fetch.{number64_most, octets, partial_at, partial_text, partial, fetch_item_rows, item_name_text, name_of, behind_name, item_of}
use Rattle.imap_command.specs.Fetch.{item_name, item, single_rows, single_name_text, fast_items, single_name_of, behind_single, single_of, single}
use Rattle.imap_command.specs.Fetch.{item_list, items, fetch_form}
use Rattle.imap_command.specs.Sets.{set}
use Rattle.imap_command.proofs.ArgumentsLaw.{ends_atom, ends_line, arguments_behind}
use Rattle.imap_command.proofs.SetsLaw.{law_set}

-- a space, a closing parenthesis or the end of the line
abbrev ends_item : ℕ → Bool
ends_item = among (32 ∷ 41 ∷ 13 ∷ [])

-- these, or the begin of a partial
abbrev ends_name : ℕ → Bool
ends_name = among (60 ∷ 32 ∷ 41 ∷ 13 ∷ [])

dot_ends : (c : ℕ) → (c == 46) ≡ true → is_digit c ≡ false
unfolding is_digit
dot_ends c h = ap is_digit (eqb-true c 46 h)

angle_ends : (c : ℕ) → (c == 62) ≡ true → is_digit c ≡ false
unfolding is_digit
angle_ends c h = ap is_digit (eqb-true c 62 h)

law_octets : (after : ℕ → Bool) → Law is_digit after octets
unfolding is_digit digits_behind
law_octets after =
    law_followed after 62 (numeral true number64_most and preceded 46 (numeral false number64_most)) refl
    (law_and (numeral true number64_most) (preceded 46 (numeral false number64_most)) (law_numeral true number64_most 48 refl (λ c. c == 46) dot_ends)
    (law_behind 46 (numeral false number64_most) (law_numeral false number64_most 49 refl (λ c. c == 62) angle_ends)))

law_partial : Law ends_name ends_item partial
law_partial =
    law_maybe ends_item 60 (made partial_at partial_text octets) refl (law_made partial_at partial_text octets (λ x. refl) (law_octets ends_item))

-- nothing behind the name
law_bare : Law ends_name ends_item nothing
law_bare = law_weaker ends_name ends_item nothing (among_all ends_name (32 ∷ 41 ∷ 13 ∷ []) refl) (λ c h. h) (law_nothing ends_item)

item_branch : (n : ItemName) → Branch ends_name ends_item name_of n (item_of n)
unfolding item_of name_of behind_name
item_branch name.Flags = branch name_of name.Flags (λ _. item_is.Flags) behind_name nothing law_bare (λ _. (refl, refl))
item_branch name.Uid = branch name_of name.Uid (λ _. item_is.Uid) behind_name nothing law_bare (λ _. (refl, refl))
item_branch name.InternalDate = branch name_of name.InternalDate (λ _. item_is.InternalDate) behind_name nothing law_bare (λ _. (refl, refl))
item_branch name.Size = branch name_of name.Size (λ _. item_is.Size) behind_name nothing law_bare (λ _. (refl, refl))
item_branch name.Body = branch name_of name.Body item_is.Body behind_name partial law_partial (λ _. (refl, refl))
item_branch name.BodyPeek = branch name_of name.BodyPeek item_is.BodyPeek behind_name partial law_partial (λ _. (refl, refl))

behind_text : (n : ItemName) (i : Item) → (item_of n).text i ≡ behind_name i
unfolding item_of
behind_text name.Flags i = refl
behind_text name.Uid i = refl
behind_text name.InternalDate i = refl
behind_text name.Size i = refl
behind_text name.Body i = refl
behind_text name.BodyPeek i = refl

-- how an item is printed, in one line
pub behind_item : (i : Item) → item.text i ≡ item_name_text (name_of i) ++ behind_name i
behind_item i = ap (λ s. item_name_text (name_of i) ++ s) (behind_text (name_of i) i)

law_item : Law (begins_row fetch_item_rows) ends_item item
unfolding item_name_text
law_item =
    law_dispatch item_name name_of item_of (law_table name.Flags fetch_item_rows item_name_text refl refl (60 ∷ 32 ∷ 41 ∷ 13 ∷ []) refl refl) item_branch

spelled_name : (n : ItemName) → item_name.part.lang (item_name_text n) n
unfolding item_name_text
spelled_name name.Flags = spell_name name.Flags fetch_item_rows item_name_text name.Flags refl refl
spelled_name name.Uid = spell_name name.Flags fetch_item_rows item_name_text name.Uid refl refl
spelled_name name.InternalDate = spell_name name.Flags fetch_item_rows item_name_text name.InternalDate refl refl
spelled_name name.Size = spell_name name.Flags fetch_item_rows item_name_text name.Size refl refl
spelled_name name.Body = spell_name name.Flags fetch_item_rows item_name_text name.Body refl refl
spelled_name name.BodyPeek = spell_name name.Flags fetch_item_rows item_name_text name.BodyPeek refl refl

-- an item whose rest is spelled is spelled as it is printed
spelled_item : (n : ItemName) (bytes : List ℕ) (i : Item) → (item_of n).part.lang bytes i → item.part.lang (item.text i) i
spelled_item n bytes i l =
    subst (λ k. item.part.lang (item_name_text k ++ (item_of k).text i) i) (sym ((item_branch n).keyed bytes i l))
    (spell_then item_name.part (λ k. (item_of k).part) (item_name_text n) ((item_of n).text i) n i (spelled_name n) ((item_branch n).law.prints bytes i l))

spelled_list : (i : Item) (rest : List Item) → Each 32 item (i ∷ rest) → item_list.part.lang (item_list.text (i ∷ rest)) (i ∷ rest)
spelled_list i rest e = spell_closed 40 (several 32 item) 41 _ (i ∷ rest) (spell_list 32 item i rest e)

spelled_fast : item_list.part.lang (item_list.text fast_items) fast_items
unfolding item_of
spelled_fast =
    spelled_list item_is.Flags (item_is.InternalDate ∷ item_is.Size ∷ []) (
      spelled_item name.Flags [] item_is.Flags (spell_map (λ _. item_is.Flags) (give tt) [] tt (refl, refl)),
      (
        spelled_item name.InternalDate [] item_is.InternalDate (spell_map (λ _. item_is.InternalDate) (give tt) [] tt (refl, refl)),
        (spelled_item name.Size [] item_is.Size (spell_map (λ _. item_is.Size) (give tt) [] tt (refl, refl)), tt),
      ),
    )

single_branch : (k : Option ItemName) → Branch ends_name ends_line single_name_of k (single_of k)
unfolding single_of single_name_of behind_single
single_branch None =
    branch single_name_of None (λ _. fast_items) (λ _. []) nothing
    (law_weaker ends_name ends_line nothing (one_byte 13 ends_name refl) (λ c h. h) (law_nothing ends_line)) (λ _. (refl, refl))
single_branch (Some n) = record {
  law = law_made (λ i. i ∷ []) behind_single (item_of n) (λ i. sym (behind_text n i))
      (law_weaker ends_name ends_line (item_of n) (λ c h. h) (one_byte 13 ends_item refl) (item_branch n).law);
  keyed = λ bytes list j. ap single_name_of j.goes_on.1 ∙ ap Some ((item_branch n).keyed j.front j.between j.begins);
}

law_single : Law (begins_row single_rows) ends_line single
unfolding item_name_text
law_single =
    law_dispatch (table None single_rows single_name_text) single_name_of single_of
    (law_table None single_rows single_name_text refl refl (60 ∷ 32 ∷ 41 ∷ 13 ∷ []) refl refl) single_branch

-- what stands alone is printed in a list
listed_by : (k : Option ItemName) (bytes : List ℕ) (list : List Item) → (single_of k).part.lang bytes list → item_list.part.lang (item_list.text list) list
unfolding single_of
listed_by None bytes list l = subst (λ list. item_list.part.lang (item_list.text list) list) (sym l.goes_on.1) spelled_fast
listed_by (Some n) bytes list l =
    subst (λ list. item_list.part.lang (item_list.text list) list) (sym l.goes_on.1)
    (spelled_list l.between [] (spelled_item n l.front l.between l.begins, tt))

law_item_list : Law (λ c. c == 40) ends_line item_list
law_item_list =
    law_closed ends_line 40 (several 32 item) 41 refl
    (law_several (λ c. c == 41) 32 item law_item refl (apart_byte 32 (λ c. c == 41) refl) (one_byte 41 ends_item refl))

law_items : Law (λ c. (c == 40) || begins_row single_rows c) ends_line items
law_items =
    law_choice (λ c. c == 40) item_list.text item_list single (starts_then (byte 40) _ (starts_byte 40)) (apart_byte 40 (begins_row single_rows) refl)
    law_item_list law_single (λ bytes list l. inl (law_item_list.prints bytes list l))
    (λ bytes list l. inl (listed_by l.between l.back list l.goes_on))

pub law_fetch : Law ends_atom ends_line fetch_form
law_fetch = arguments_behind _ refl (law_spaced set items refl law_set law_items)

-- fetch = "FETCH" SP sequence-set SP ("FAST" / fetch-att / "(" fetch-att *(SP fetch-att) ")") (RFC 9051, 6.4.5 and 9). Of a
-- body the whole is asked for, or so many octets from a place on; FAST stands for three items, and not in a list.
use Rattle.std.specs.Prelude.{ℕ, true, false, ◌==◌, List, [], ◌∷◌, map, Option, None, Some, codes}
use Rattle.mur_base.specs.Ascii.{space, open_paren, close_paren, dot}
use Rattle.grammar.specs.Forms.{Form, Row, ◌and◌, preceded, choice, closed, constant, dispatch, followed, made, maybe, numeral, several, ◌spaced◌, table}
use Rattle.mail_message.specs.declared.item.Item.{Item}
use Rattle.mail_message.specs.declared.item.Item.TheVariants as item_is
use Rattle.mail_message.specs.declared.item.Partial.{Partial}
use Rattle.mail_message.specs.declared.set.SetPart.{SetPart}
use Rattle.imap_command.specs.declared.commands.fetch.ItemName.{ItemName}
use Rattle.imap_command.specs.declared.commands.fetch.ItemName.TheVariants as name
use Rattle.imap_command.specs.Sets.{set}

-- the greatest number64, of 63 bits
abbrev pub number64_most : ℕ
number64_most = 9223372036854775807

-- number64 "." nz-number64 ">"
abbrev pub octets : Form (ℕ × ℕ)
octets = followed (numeral true number64_most and preceded dot (numeral false number64_most)) 62

abbrev pub partial_at : ℕ × ℕ → Partial
partial_at x = record { from = x.0; count = x.1 }

abbrev pub partial_text : Partial → List ℕ
partial_text partial = octets.text (partial.from, partial.count)

-- partial = "<" number64 "." nz-number64 ">", which may be left out
abbrev pub partial : Form (Option Partial)
partial = maybe 60 (made partial_at partial_text octets)

abbrev pub fetch_item_rows : List (Row ItemName)
fetch_item_rows =
    (codes "FLAGS", name.Flags) ∷ (codes "UID", name.Uid) ∷ (codes "INTERNALDATE", name.InternalDate) ∷ (codes "RFC822.SIZE", name.Size)
    ∷ (codes "BODY[]", name.Body) ∷ (codes "BODY.PEEK[]", name.BodyPeek) ∷ []

unfoldable pub item_name_text : ItemName → List ℕ
item_name_text name.Flags = codes "FLAGS"
item_name_text name.Uid = codes "UID"
item_name_text name.InternalDate = codes "INTERNALDATE"
item_name_text name.Size = codes "RFC822.SIZE"
item_name_text name.Body = codes "BODY[]"
item_name_text name.BodyPeek = codes "BODY.PEEK[]"

unfoldable pub name_of : Item → ItemName
name_of item_is.Flags = name.Flags
name_of item_is.Uid = name.Uid
name_of item_is.InternalDate = name.InternalDate
name_of item_is.Size = name.Size
name_of (item_is.Body part) = name.Body
name_of (item_is.BodyPeek part) = name.BodyPeek

-- how what stands behind the name of an item is printed
unfoldable pub behind_name : Item → List ℕ
behind_name (item_is.Body part) = partial.text part
behind_name (item_is.BodyPeek part) = partial.text part
behind_name item = []

unfoldable pub item_of : ItemName → Form Item
item_of name.Flags = constant item_is.Flags behind_name
item_of name.Uid = constant item_is.Uid behind_name
item_of name.InternalDate = constant item_is.InternalDate behind_name
item_of name.Size = constant item_is.Size behind_name
item_of name.Body = made item_is.Body behind_name partial
item_of name.BodyPeek = made item_is.BodyPeek behind_name partial

abbrev pub item_name : Form ItemName
item_name = table name.Flags fetch_item_rows item_name_text

-- fetch-att
abbrev pub item : Form Item
item = dispatch item_name name_of item_of

-- FAST, or an item
abbrev pub single_rows : List (Row (Option ItemName))
single_rows = (codes "FAST", None) ∷ map (λ row. (row.0, Some row.1)) fetch_item_rows

abbrev pub single_name_text : Option ItemName → List ℕ
single_name_text None = codes "FAST"
single_name_text (Some name) = item_name_text name

abbrev pub fast_items : List Item
fast_items = item_is.Flags ∷ item_is.InternalDate ∷ item_is.Size ∷ []

unfoldable pub single_name_of : List Item → Option ItemName
single_name_of (item ∷ []) = Some (name_of item)
single_name_of items = None

unfoldable pub behind_single : List Item → List ℕ
behind_single (item ∷ []) = behind_name item
behind_single items = []

unfoldable pub single_of : Option ItemName → Form (List Item)
single_of None = constant fast_items (λ _. [])
single_of (Some name) = made (λ item. item ∷ []) behind_single (item_of name)

abbrev pub single : Form (List Item)
single = dispatch (table None single_rows single_name_text) single_name_of single_of

abbrev pub item_list : Form (List Item)
item_list = closed open_paren (several space item) close_paren

abbrev pub items : Form (List Item)
items = choice (λ c. c == open_paren) item_list.text item_list single

-- SP sequence-set SP the items
abbrev pub fetch_form : Form (List SetPart × List Item)
fetch_form = preceded space (set spaced items)

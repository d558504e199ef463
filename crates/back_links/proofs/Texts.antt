-- Tags of client's commands are tags, first access lists aren't too long, and so the commands of a backend's lines can be read again.
use Rattle.std.proofs.Common.{◌≡◌, ℕ, ◌<◌, ◌≤◌, ◌^◌, not, nat_eq, Bool, true, false, cond, List, [], ◌∷◌, ◌++◌, length, drop, codes, Option, None, Some, refl, subst, ◌∙◌}
use Rattle.std.proofs.Common.{arith, eqb-true, le-leb, length-append, length-drop}
use Rattle.std.specs.Prelude.{position, ◌==◌}
use Rattle.std.specs.List.{list_all, starts_with}
use Rattle.std.specs.Option.{IfSome}
use Rattle.std.proofs.lemmas.Bool.Decides.{nat_tests}
use Rattle.std.proofs.lemmas.Fmt.{length-decimal-le}
use Rattle.std.proofs.lemmas.List.{length-take}
use Rattle.std.proofs.lemmas.List.Folds.{list_all-append}
use Rattle.grammar.proofs.Conditions.{and_left, and_right, and_both}
use Rattle.grammar.proofs.DecimalLaw.{decimal_is_text}
use Rattle.grammar.proofs.NumeralLaw.{decimal_writes}
use Rattle.grammar.specs.Numbers.{decimal_text}
use Rattle.grammar.specs.Runs.{some}
use Rattle.mail_message.specs.FirstAcl.{first_acl, first_level, level_before, owner_acl}
use Rattle.master_core.specs.Changes.{text_of}
use Rattle.mupdate_codec.specs.declared.command.MCommand.{MCommand}
use Rattle.mupdate_codec.specs.declared.command.MResponse.{MResponse}
use Rattle.mupdate_codec.specs.declared.tag.Tag.{Tag}
use Rattle.mupdate_codec.specs.declared.tag.Tag.TheVariants.{Star, Text}
use Rattle.mupdate_codec.specs.Arguments.{exact}
use Rattle.mupdate_codec.specs.Asks.{tag_of}
use Rattle.mupdate_codec.specs.Characters.{is_mupdate_tag_byte}
use Rattle.mupdate_codec.specs.Commands.{command_line, IsCommandLine}
use Rattle.mupdate_codec.specs.Whole.{command_in, response_in}
use Rattle.mupdate_codec.proofs.LinesLaw.{law_command_line}
use Rattle.mupdate_codec.proofs.WholeLaw.{line_is}
use Rattle.mur_base.specs.declared.home.Location.{Location}
use Rattle.mur_base.specs.declared.point.AskId.{AskId}
use Rattle.mur_base.specs.Names.{is_short_name_byte}
use Rattle.mur_base.specs.Number.{is_digit}
use Rattle.mur_base.proofs.NamesFit.{name_fits}
use Rattle.node_record.specs.declared.held.Held.{Held}
use Rattle.node_record.specs.Held.{Names, held_at}
use Rattle.text_parts.specs.Locations.{bang}
use Rattle.text_parts.proofs.LocationsLaw.{short_parts}
use Rattle.name_flows.specs.declared.ask.AskKind.{AskKind}
use Rattle.name_flows.specs.declared.ask.AskKind.TheVariants.{Create, Delete as Remove}
use Rattle.name_flows.specs.declared.ask.NameAsk.{NameAsk}
use Rattle.name_flows.specs.declared.sent.Sent.{Sent}
use Rattle.name_flows.specs.declared.sent.Sent.TheVariants.{List as List_line, Reserve, Make, Again, Deactivate, Delete, Wipe, Find}
use Rattle.name_flows.specs.declared.sent.SentLine.{SentLine}
use Rattle.name_flows.specs.Asked.{first_line}
use Rattle.name_flows.specs.Lines.{acl_in, command_of}
use Rattle.name_links.specs.Answers.{HasNoBang}
use Rattle.name_links.specs.OneLink.{message_of}
use Rattle.name_links.specs.Spelled.{IsNameText, IsPlaceText, IsShort, HasTexts}
use Rattle.name_links.proofs.Reading.{read_back}
use Rattle.name_links.proofs.Spelled.{commands_are_spelled, responses_are_spelled}
use Rattle.back_links.specs.Spelled.{IsTextTag, HasCommandTexts, HasResponseTexts, IsAboutName, HasLineTexts, HasAskTexts, HasShortAcl}

-- ---- numbers

pub decimal_short : (n : ℕ) → n < 2 ^ 64 → length (decimal_text n) ≤ 20
decimal_short n h = subst (λ s. length s ≤ 20) (decimal_is_text n h) (length-decimal-le 20 n (omega arith) (omega (arith, h)) h)

-- ---- tags

digit_stands : (b : ℕ) → is_digit b ≡ true → is_mupdate_tag_byte b ≡ true
unfolding is_digit is_mupdate_tag_byte
digit_stands b h = grind (arith, nat_tests)

digits_stand : (text : List ℕ) → list_all is_digit text ≡ true → list_all is_mupdate_tag_byte text ≡ true
digits_stand [] h = refl
digits_stand (b ∷ text) h = and_both _ _ (digit_stands b (and_left _ _ h)) (digits_stand text (and_right (is_digit b) _ h))

some_behind : (one : List ℕ) (c : ℕ) (two : List ℕ) → some (one ++ c ∷ two) ≡ true
some_behind [] c two = refl
some_behind (b ∷ one) c two = refl

dash_stands : is_mupdate_tag_byte 45 ≡ true
unfolding is_mupdate_tag_byte
dash_stands = refl

-- the tag of a client's command
pub ask_tagged : (id : AskId) → id.conn < 2 ^ 64 → id.command < 2 ^ 64 → IsTextTag (tag_of id)
unfolding tag_of
ask_tagged id conn command =
    let one : List ℕ = decimal_text id.conn in
    let two : List ℕ = decimal_text id.command in
    let size : length (one ++ 45 ∷ two) ≤ 41 = omega (arith, length-append one (45 ∷ two), decimal_short id.conn conn, decimal_short id.command command) in
    let all : list_all is_mupdate_tag_byte (one ++ 45 ∷ two) ≡ true =
    list_all-append is_mupdate_tag_byte one (45 ∷ two)
    ∙ and_both _ _ (digits_stand one (decimal_writes id.conn).digits) (and_both _ _ dash_stands (digits_stand two (decimal_writes id.command).digits)) in
    and_both _ _ (and_both _ _ all (le-leb _ _ size)) (some_behind one 45 two)

pub ask_spelled : (ask : NameAsk) → ask.id.conn < 2 ^ 64 → ask.id.command < 2 ^ 64 → IsNameText ask.name → HasAskTexts ask
ask_spelled ask conn command name = (ask_tagged ask.id conn command, by_kind ask.kind)
  where
    by_kind : (kind : AskKind) → IsAboutName (first_line kind ask.name)
    by_kind Create = name
    by_kind Remove = name

-- ---- access lists

level_within : (text : List ℕ) (at : Option ℕ) → length (level_before text at) ≤ length text
level_within text None = omega arith
level_within text (Some at) = omega (arith, length-take at text)

list_short : (name : List ℕ) (owned : Bool) → length name ≤ 255 → IsShort (cond owned (owner_acl (first_level (drop 5 name))) [])
unfolding owner_acl first_level
list_short name true fits =
    let level : List ℕ = level_before (drop 5 name) (position (λ b. b == 46) (drop 5 name)) in
    let within : length level ≤ length (drop 5 name) = level_within (drop 5 name) (position (λ b. b == 46) (drop 5 name)) in
    omega (arith, length-append level (9 ∷ (codes "lrswipkxtea" ++ 9 ∷ [])), within, length-drop 5 name, fits)
list_short name false fits = omega arith

pub first_short : (name : List ℕ) → IsNameText name → IsShort (first_acl name)
unfolding first_acl
first_short name named = list_short name (starts_with nat_eq name (codes "user.")) (name_fits name named)

-- ---- servers

no_bang_by : (c : ℕ) (same : Bool) → nat_eq c bang ≡ same → is_short_name_byte c ≡ true → not same ≡ true
unfolding is_short_name_byte
no_bang_by c true e h = let no : is_short_name_byte bang ≡ true = subst (λ b. is_short_name_byte b ≡ true) (eqb-true c bang e) h in cc
no_bang_by c false e h = refl

no_bangs : (text : List ℕ) → list_all is_short_name_byte text ≡ true → HasNoBang text
no_bangs [] h = refl
no_bangs (c ∷ text) h = and_both _ _ (no_bang_by c (nat_eq c bang) refl (and_left _ _ h)) (no_bangs text (and_right (is_short_name_byte c) _ h))

pub place_no_bang : (place : Location) → IsPlaceText place → HasNoBang place.server
place_no_bang place is = no_bangs place.server (short_parts place.server is.0).0

-- ---- reading

pub command_is : (it : Tag × MCommand) → HasCommandTexts it → IsCommandLine ((command_line exact).text it) it
command_is it spelled = by_tag it.0 spelled.0
  where
    by_tag : (tag : Tag) → IsTextTag tag → IsCommandLine ((command_line exact).text (tag, it.1)) (tag, it.1)
    by_tag Star tagged = absurd tagged
    by_tag (Text text) tagged = (let s = commands_are_spelled text it.1 tagged spelled.1 in law_command_line.prints s.0 (Text text, it.1) s.1)

pub command_read : (it : Tag × MCommand) → HasCommandTexts it → command_in ((command_line exact).text it) ≡ Some it
command_read it spelled = line_is ((command_line exact).text it) it (command_is it spelled)

pub response_read : (it : Tag × MResponse) → HasResponseTexts it → response_in (text_of it.0 it.1) ≡ Some it
response_read it spelled = by_tag it.0 spelled.0
  where
    by_tag : (tag : Tag) → IsTextTag tag → response_in (text_of tag it.1) ≡ Some (tag, it.1)
    by_tag Star tagged = absurd tagged
    by_tag (Text text) tagged = read_back (Text text) it.1 (responses_are_spelled text it.1 tagged spelled.1)

-- ---- the command of a line

acl_short : (found : Option Held) → IfSome found HasShortAcl → IsShort (acl_in found)
acl_short None short = omega arith
acl_short (Some it) short = short

-- each mailbox here has a short access list
abbrev HaveShortAcls : Names → Type 0
HaveShortAcls held = (name : List ℕ) → IfSome (held_at held name) HasShortAcl

command_texts : (me : Location) (held : Names) (what : Sent) → IsPlaceText me → HaveShortAcls held → IsAboutName what
    → HasTexts (command_of me held what)
command_texts me held List_line place acls about =
    let parts = short_parts me.server place.0 in omega (arith, length-append me.server (bang ∷ []), parts.2)
command_texts me held (Reserve name) place acls about = (about, place)
command_texts me held (Make name) place acls about = (about, place, first_short name about)
command_texts me held (Again name) place acls about = (about, place, acl_short (held_at held name) (acls name))
command_texts me held (Deactivate name) place acls about = (about, place)
command_texts me held (Delete name) place acls about = about
command_texts me held (Wipe name) place acls about = about
command_texts me held (Find name) place acls about = about

pub line_texts : (me : Location) (held : Names) (line : SentLine) → IsPlaceText me → HaveShortAcls held → HasLineTexts line
    → HasCommandTexts (message_of me held line)
line_texts me held line place acls spelled = (spelled.0, command_texts me held line.what place acls spelled.1)

-- Each command that a frame spells has keywords by their rule, a date that is one, and a message that is no longer than the frame.
use Rattle.std.proofs.Common.{⊎_elim, ◌≡◌, ℕ, zero, suc, ◌<◌, ◌≤◌, List, [], ◌∷◌, ◌++◌, length, Bool, true, false, ◌==◌, inl, inr}
use Rattle.std.proofs.Common.{sym, ap, subst, arith, Some, None}
use Rattle.std.proofs.Common.{length-append}
use Rattle.std.specs.List.{list_all}
use Rattle.std.specs.Prelude.{All, IfSome}
use Rattle.std.proofs.lemmas.List.Elements.{All-nil, All-cons}
use Rattle.grammar.specs.Forms.{Form, ◌and◌, preceded, ◌spaced◌}
use Rattle.grammar.specs.Numbers.{value_of}
use Rattle.grammar.specs.Part.{Part, byte, choose, exactly, map, ◌then◌}
use Rattle.grammar.proofs.Conditions.{and_left, and_right}
use Rattle.mail_message.specs.FlagSets.{Flags, HasRuledKeywords, no_flags}
use Rattle.mail_message.specs.Keywords.{keyword_fault}
use Rattle.mail_message.specs.declared.mode.Mode.{Mode}
use Rattle.mail_message.specs.declared.set.SetPart.{SetPart}
use Rattle.imap_types.specs.declared.command.Command.{Command}
use Rattle.imap_types.specs.declared.command.Command.TheVariants as command
use Rattle.imap_types.specs.declared.command.Tag.{Tag}
use Rattle.imap_command.specs.declared.verb.Verb.{Verb}
use Rattle.imap_command.specs.declared.verb.Verb.TheVariants as verb
use Rattle.imap_command.specs.declared.verb.MailboxVerb.{MailboxVerb}
use Rattle.imap_command.specs.declared.verb.MailboxVerb.TheVariants as mailbox_verb
use Rattle.imap_command.specs.declared.verb.UidVerb.{UidVerb}
use Rattle.imap_command.specs.declared.verb.UidVerb.TheVariants as uid
use Rattle.imap_command.specs.Append.{Dated, append_form, dated, flagged, with_date, without_date, without_flags}
use Rattle.imap_text.specs.Characters.{is_char8}
use Rattle.imap_command.specs.Commands.{arguments, mailbox_command, uid_arguments}
use Rattle.text_parts.specs.Dates.{date_time}
use Rattle.imap_command.specs.Flags.{any_keyword, flag_list, flag_list_part, store_flags, store_flags_part}
use Rattle.imap_command.specs.Ruled.{IsDate, IsRuled}
use Rattle.imap_command.specs.Spells.{Spells, commands, line, tagged_command}
use Rattle.imap_command.specs.Sets.{set}
use Rattle.imap_command.specs.Store.{store_form, store_mode}
use Rattle.imap_text.specs.Strings.{argument, literal, message}
use Rattle.imap_command.proofs.FlagSteps.{no_fault}
use Rattle.imap_command.proofs.FlagsPrinted.{IsKept, only_list, only_store}

-- keywords

ruled_all : (keywords : List (List ℕ)) → list_all any_keyword.whole keywords ≡ true → All (λ keyword. keyword_fault keyword ≡ None) keywords
ruled_all [] all = All-nil (λ keyword. keyword_fault keyword ≡ None)
ruled_all (keyword ∷ keywords) all =
    All-cons (λ keyword. keyword_fault keyword ≡ None) keyword keywords (no_fault keyword (and_left (any_keyword.whole keyword) _ all))
    (ruled_all keywords (and_right (any_keyword.whole keyword) _ all))

ruled : (flags : Flags) → IsKept flags → HasRuledKeywords flags
ruled flags kept = ruled_all flags.keywords kept.valid

-- messages

front_below : {limit : ℕ} (bytes front back : List ℕ) → bytes ≡ front ++ back → length bytes < limit → length front < limit
front_below bytes front back parts below = omega (arith, below, ap length parts, length-append front back)

back_below : {limit : ℕ} (bytes front back : List ℕ) → bytes ≡ front ++ back → length bytes < limit → length back < limit
back_below bytes front back parts below = omega (arith, below, ap length parts, length-append front back)

-- a text of so many bytes is spelled in so many
exactly_long : (test : ℕ → Bool) (n : ℕ) (bytes value : List ℕ) → (exactly test n).lang bytes value → length value ≤ length bytes
unfolding exactly
exactly_long test zero bytes value l = omega (arith, ap length l.1)
exactly_long test (suc n) bytes value j =
    let rest = exactly_long test n j.goes_on.front j.goes_on.between j.goes_on.begins in
    omega (
      arith,
      rest,
      ap length j.goes_on.goes_on.1,
      ap length j.parts,
      ap length j.goes_on.parts,
      ap length j.begins.0,
      length-append j.front j.back,
      length-append j.goes_on.front j.goes_on.back,
    )

module _ (limit : ℕ) where
  -- what holds of each value that is spelled in fewer bytes
  abbrev Under : {A : Type 0} → Part A → (A → Type 0) → Type 0
  Under p P = (bytes : List ℕ) (value : _) → p.lang bytes value → length bytes < limit → P value

  under_behind : {A : Type 0} (c : ℕ) (p : Part A) (P : A → Type 0) → Under p P → Under (byte c then λ _. p) P
  under_behind c p P is bytes value j below = is j.back value j.goes_on (back_below bytes j.front j.back j.parts below)

  under_made : {A B : Type 0} (make : A → B) (p : Part A) (P : B → Type 0) → Under p (λ a. P (make a)) → Under (map make p) P
  under_made make p P is bytes value j below =
      subst P (sym j.goes_on.1) (is j.front j.between j.begins (front_below bytes j.front j.back j.parts below))

  -- the second of two, with what holds of the first
  under_and : {A B : Type 0} (p : Form A) (q : Form B) (P : A → Type 0) (Q : B → Type 0) → Under p.part P → Under q.part Q
      → Under {A = A × B} (p and q).part (λ x. P x.0 × Q x.1)
  under_and {A} {B} p q P Q is other bytes value j below =
      let k = j.goes_on in
      let rest = back_below bytes j.front j.back j.parts below in
      subst (λ (x : A × B). P x.0 × Q x.1) (sym k.goes_on.1) (
        is j.front j.between j.begins (front_below bytes j.front j.back j.parts below),
        other k.front k.between k.begins (front_below j.back k.front k.back k.parts rest),
      )

  under_spaced : {A B : Type 0} (p : Form A) (q : Form B) (P : A → Type 0) (Q : B → Type 0) → Under p.part P → Under q.part Q
      → Under {A = A × B} (p spaced q).part (λ x. P x.0 × Q x.1)
  under_spaced p q P Q is other = under_and p (preceded 32 q) P Q is (under_behind 32 q.part Q other)

  under_choose : {A : Type 0} (test : ℕ → Bool) (p q : Part A) (P : A → Type 0) → Under p P → Under q P → Under (choose test p q) P
  under_choose test p q P one other bytes value (inl l) below = one bytes value l below
  under_choose test p q P one other bytes value (inr l) below = other bytes value l below

  abbrev IsShort : List ℕ → Type 0
  IsShort text = length text < limit

  abbrev Any : {A : Type 0} → A → Type 0
  Any a = Unit {0}

  any_under : {A : Type 0} (p : Part A) → Under p Any
  any_under p bytes value l below = tt

  short_literal : Under literal IsShort
  unfolding literal
  short_literal bytes value j below =
      let digits = j.goes_on in
      let plus = digits.goes_on in
      let brace = plus.goes_on in
      let line = brace.goes_on in
      let long = exactly_long is_char8 (value_of digits.between) line.back value line.goes_on in
      omega (
        arith,
        below,
        long,
        ap length j.parts,
        length-append j.front j.back,
        ap length digits.parts,
        length-append digits.front digits.back,
        ap length plus.parts,
        length-append plus.front plus.back,
        ap length brace.parts,
        length-append brace.front brace.back,
        ap length line.parts,
        length-append line.front line.back,
      )

  abbrev OfDated : Dated → Type 0
  OfDated x = IfSome x.0 IsDate × (length x.1 < limit)

  is_date_time : Under date_time.part IsDate
  is_date_time bytes date j below = subst IsDate (sym j.goes_on.goes_on.goes_on.1) j.goes_on.begins.1

  short_dated : Under dated.part OfDated
  short_dated =
      under_choose (λ c. c == 34) with_date.part without_date.part OfDated
      (under_made (λ x. (Some x.0, x.1)) (date_time spaced message).part OfDated (under_spaced date_time message IsDate IsShort is_date_time short_literal))
      (under_made (λ body. (None, body)) literal OfDated (λ bytes body l below. (tt, short_literal bytes body l below)))

  abbrev OfFlagged : Flags × Dated → Type 0
  OfFlagged x = HasRuledKeywords x.0 × OfDated x.1

  ruled_list : Under flag_list_part HasRuledKeywords
  ruled_list bytes flags l below = ruled flags (only_list bytes flags l)

  ruled_store : Under store_flags_part HasRuledKeywords
  ruled_store bytes flags l below = ruled flags (only_store bytes flags l)

  ruled_flagged : Under flagged.part OfFlagged
  ruled_flagged =
      under_choose (λ c. c == 40) (flag_list spaced dated).part without_flags.part OfFlagged
      (under_spaced flag_list dated HasRuledKeywords OfDated ruled_list short_dated)
      (under_made (λ x. (no_flags, x)) dated.part OfFlagged
      (λ bytes x l below. (All-nil (λ keyword. keyword_fault keyword ≡ None), short_dated bytes x l below)))

  ruled_append : Under append_form.part (λ x. OfFlagged x.1)
  ruled_append =
      under_behind 32 (argument spaced flagged).part (λ x. OfFlagged x.1)
      (λ bytes x l below. (under_spaced argument flagged Any OfFlagged (any_under argument.part) ruled_flagged bytes x l below).1)

  abbrev OfStore : List SetPart × ((Mode × Bool) × Flags) → Type 0
  OfStore x = HasRuledKeywords x.1.1

  stored : Under store_form.part OfStore
  stored =
      under_behind 32 (set spaced (store_mode spaced store_flags)).part OfStore
      (λ bytes x l below.
      (under_spaced set (store_mode spaced store_flags) Any (λ y. HasRuledKeywords y.1) (any_under set.part)
      (λ bytes y l below. (under_spaced store_mode store_flags Any HasRuledKeywords (any_under store_mode.part) ruled_store bytes y l below).1)
      bytes x l below).1)

  uid_ruled : (k : UidVerb) → Under (uid_arguments k).part (IsRuled limit)
  unfolding uid_arguments
  uid_ruled uid.Store bytes it j below =
      under_made (λ x. command.Store true x.0 x.1.0.0 x.1.0.1 x.1.1) store_form.part (IsRuled limit) stored bytes it j below
  uid_ruled k bytes it j below = subst (IsRuled limit) (sym j.goes_on.1) tt

  mailbox_ruled : (name : MailboxVerb) (mailbox : List ℕ) → IsRuled limit (mailbox_command name mailbox)
  mailbox_ruled mailbox_verb.Create mailbox = tt
  mailbox_ruled name mailbox = tt

  command_ruled : (v : Verb) → Under (arguments v).part (IsRuled limit)
  unfolding arguments
  command_ruled verb.Append bytes it j below =
      under_made (λ x. command.Append x.0 x.1.0 x.1.1.0 x.1.1.1) append_form.part (IsRuled limit) ruled_append bytes it j below
  command_ruled (verb.Mailbox name) bytes it j below = subst (IsRuled limit) (sym j.goes_on.1) (mailbox_ruled name j.between)
  command_ruled verb.Store bytes it j below =
      under_made (λ x. command.Store false x.0 x.1.0.0 x.1.0.1 x.1.1) store_form.part (IsRuled limit) stored bytes it j below
  command_ruled verb.Uid bytes it j below =
      let behind_space = back_below bytes j.front j.back j.parts below in
      let k = j.goes_on in
      uid_ruled k.between k.back it k.goes_on (back_below j.back k.front k.back k.parts behind_space)
  command_ruled v bytes it j below = subst (IsRuled limit) (sym j.goes_on.1) tt

  line_ruled : (v : Verb) → Under (line (arguments v)).part (IsRuled limit)
  line_ruled v bytes it j below =
      subst (IsRuled limit) (sym j.goes_on.goes_on.1)
      (command_ruled v j.front j.between j.begins (front_below bytes j.front j.back j.parts below))

  commands_ruled : Under commands.part (IsRuled limit)
  commands_ruled bytes it j below =
      ⊎_elim (λ k. line_ruled k.between k.back it k.goes_on (back_below bytes k.front k.back k.parts below))
      (λ k. subst (IsRuled limit) (sym k.goes_on.goes_on.1) tt) j

  pub spelled_ruled : (frame : List ℕ) (tag : Tag) (it : Command) → Spells frame (tag, it) → length frame < limit → IsRuled limit it
  unfolding tagged_command
  spelled_ruled frame tag it j below =
      let space = j.goes_on in
      let named = space.goes_on in
      let behind_tag = back_below frame j.front j.back j.parts below in
      let behind_space = back_below j.back space.front space.back space.parts behind_tag in
      subst (IsRuled limit) (sym (ap (λ (pair : Tag × Command). pair.1) named.goes_on.1))
      (commands_ruled named.front named.between named.begins (front_below space.back named.front named.back named.parts behind_space))

-- A table that streams can be told: its names are in order, and each name, location and access list can be written in a line.
use Rattle.std.specs.Prelude.{ℕ, List}
use Rattle.std.specs.Cmp.Lexicographic.{slice_cmp}
use Rattle.std.specs.List.{AllByRecursion}
use Rattle.std.specs.Ordering.{nat_cmp}
use Rattle.grammar.specs.Forms.{Form}
use Rattle.mupdate_codec.specs.Strings.{string_form, name_form, location_form}
use Rattle.mur_base.specs.Map.{IsInOrder}
use Rattle.node_record.specs.declared.table.Record.{Record}
use Rattle.node_record.specs.declared.table.State.{State}
use Rattle.node_record.specs.declared.table.State.TheVariants.{Bare, Kept, Active}
use Rattle.node_record.specs.Table.{MailboxTable}

-- some text is the value in this form
abbrev pub IsSpelledIn : {A : Type 0} → Form A → A → Type 0
IsSpelledIn form it = (bytes : List ℕ) × form.part.lang bytes it

abbrev pub HasSpelledAcl : State → Type 0
HasSpelledAcl (Bare serial) = Unit {0}
HasSpelledAcl (Kept acl) = IsSpelledIn string_form acl
HasSpelledAcl (Active acl) = IsSpelledIn string_form acl

-- a name with its record
pub record IsSpelledRecord (entry : List ℕ × Record) : Type 0 where
  pub name : IsSpelledIn name_form entry.0
  pub place : IsSpelledIn location_form (entry.1).place
  pub acl : HasSpelledAcl (entry.1).state

pub record CanBeTold (table : MailboxTable) : Type 0 where
  pub order : IsInOrder (slice_cmp nat_cmp) table.records
  pub spelled : AllByRecursion IsSpelledRecord table.records

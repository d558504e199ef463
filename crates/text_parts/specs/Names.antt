-- Mailbox names, read byte by byte: how far a name has come, and which bytes it may go on with.
use Rattle.std.specs.Prelude.{ℕ, ◌-◌, ◌+◌, Bool, true, false, ◌&&◌, ◌||◌, not, ◌==◌, nat_lt, nat_le, if◌then◌else◌, List, [], ◌∷◌, Option, None, Some, max}
use Rattle.std.specs.Option.{is_some}
use Rattle.mur_base.specs.Ascii.{dot}
use Rattle.mur_base.specs.Names.{is_mail_name_byte}
use Rattle.grammar.specs.Part.{between}
use Rattle.grammar.specs.Words.{Words}
use Rattle.text_parts.specs.declared.names.Lead.{Lead}
use Rattle.text_parts.specs.declared.names.Level.{Level}
use Rattle.mur_base.specs.declared.limits.TheConstants.{NAME_LIMIT}

-- the first byte of a character of several bytes: how many bytes follow, and between which bounds the first of them is
-- (RFC 3629, 4: UTF8-2, UTF8-3 and UTF8-4); none follow a byte that begins no such character
unfoldable pub lead_of : ℕ → Lead
lead_of b =
    if between 194 223 b then record { due = 1; low = 128; high = 191 }
    else if b == 224 then record { due = 2; low = 160; high = 191 }
    else if b == 237 then record { due = 2; low = 128; high = 159 }
    else if between 225 239 b then record { due = 2; low = 128; high = 191 }
    else if b == 240 then record { due = 3; low = 144; high = 191 }
    else if b == 244 then record { due = 3; low = 128; high = 143 }
    else if between 241 243 b then record { due = 3; low = 128; high = 191 }
    else record { due = 0; low = 0; high = 0 }

-- a character of one byte that is no separator
abbrev pub is_letter : ℕ → Bool
is_letter b = is_mail_name_byte b && nat_lt b 128

-- one byte of a character that has begun
unfoldable pub after_tail : Level → ℕ → Option Level
after_tail level b =
    if between level.low level.high b
    then Some (record level { left = level.left - 1; is_open = false; due = level.due - 1; low = 128; high = 191 })
    else None

-- the first byte of a character of several bytes
unfoldable pub after_lead : Level → Lead → Option Level
after_lead level lead =
    if level.is_wide && (nat_lt 0 lead.due && nat_lt lead.due level.left)
    then Some (record level { left = level.left - 1; is_open = false; due = lead.due; low = lead.low; high = lead.high })
    else None

-- a separator, behind which another level has to come
unfoldable pub after_dot : Level → Option Level
after_dot level =
    if not level.is_open && nat_lt 1 level.left then Some (record level { left = level.left - 1; is_open = true }) else None

-- the first byte of a character
unfoldable pub after_first : Level → ℕ → Option Level
after_first level b =
    if b == dot then after_dot level
    else if is_letter b then Some (record level { left = level.left - 1; is_open = false })
    else after_lead level (lead_of b)

-- one byte more of a name
unfoldable pub level_after_byte : Level → ℕ → Option Level
level_after_byte level b =
    if not (nat_lt 0 level.left) then None else if nat_lt 0 level.due then after_tail level b else after_first level b

-- how far a name has come behind these bytes, if they go on with it
abbrev pub reached : Option Level → List ℕ → Option Level
reached None text = None
reached (Some level) [] = Some level
reached (Some level) (b ∷ text) = reached (level_after_byte level b) text

-- a name may end here: behind some byte of a level, or, where its length is given, behind its last byte
unfoldable pub may_end : Bool → Option Level → Bool
may_end is_sized None = false
may_end is_sized (Some level) = if is_sized then not (nat_lt 0 level.left) else not level.is_open

-- texts that go on from a state as names
abbrev pub names_from : Bool → Level → Words
names_from is_sized level = record {
  begins = λ s. is_some (reached (Some level) s);
  whole = λ s. may_end is_sized (reached (Some level) s);
}

-- the beginning of a name of at most so many bytes
abbrev pub start_of : Bool → ℕ → Level
start_of is_wide left = record { is_wide = is_wide; left = left; is_open = true; due = 0; low = 128; high = 191 }

-- names that stand in quotes: characters of 7 bits
abbrev pub quoted_names : Words
quoted_names = names_from false (start_of false NAME_LIMIT)

-- names of so many bytes, of which there is one at least
abbrev pub names_of_size : ℕ → Words
names_of_size size = names_from true (start_of true (max 1 size))

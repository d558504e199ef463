-- Flags of messages as text (RFC 9051, 9: flag).
use Rattle.std.specs.Prelude.{◌≡◌, ℕ, if◌then◌else◌, List, ◌∷◌, codes, Option, None, Some, Result, Ok, Err, MatchResult}
use Rattle.mur_base.specs.declared.name.NameFault as name
use Rattle.mur_base.specs.declared.name.NameFault.TheVariants as name_faults
use Rattle.mail_message.specs.declared.system_flags.SystemFlag.{SystemFlag}
use Rattle.mail_message.specs.declared.system_flags.SystemFlag.TheVariants.{Answered, Flagged, Deleted, Seen, Draft}
use Rattle.mail_message.specs.declared.flag_name.FlagName.{FlagName}
use Rattle.mail_message.specs.declared.flag_name.FlagName.TheVariants.{System, Keyword}
use Rattle.mail_message.specs.declared.flag_name.FlagFault.{FlagFault}
use Rattle.mail_message.specs.declared.flag_name.FlagFault.TheVariants.{Empty, TooLong, BadByte, Memory}
use Rattle.mail_message.specs.Word.{is_word}
use Rattle.mail_message.specs.Keywords.{keyword_fault}

-- a word behind a backslash, in any case of letters
abbrev pub backslashed : List ℕ → List ℕ
backslashed word = 92 ∷ word

-- the system flag that a text is
unfoldable pub system_flag_of : List ℕ → Option SystemFlag
system_flag_of text =
    if is_word text (backslashed (codes "Answered")) then Some Answered
    else if is_word text (backslashed (codes "Flagged")) then Some Flagged
    else if is_word text (backslashed (codes "Deleted")) then Some Deleted
    else if is_word text (backslashed (codes "Seen")) then Some Seen
    else if is_word text (backslashed (codes "Draft")) then Some Draft
    else None

abbrev pub flag_fault : name.NameFault → FlagFault
flag_fault name_faults.Empty = Empty
flag_fault name_faults.TooLong = TooLong
flag_fault name_faults.BadByte = BadByte
flag_fault name_faults.BadLevel = BadByte
flag_fault name_faults.Memory = Memory

-- a text that is no system flag is a keyword, or refused by the first rule of keywords that it breaks
abbrev pub IsReadAsKeyword : Option name.NameFault → List ℕ → Result FlagName FlagFault → Type 0
IsReadAsKeyword (Some fault) text result = result ≡ Err (flag_fault fault)
IsReadAsKeyword None text result = MatchResult result (λ flag. flag ≡ Keyword text) (λ fault. fault ≡ Memory)

abbrev pub IsReadBy : Option SystemFlag → List ℕ → Result FlagName FlagFault → Type 0
IsReadBy (Some flag) text result = result ≡ Ok (System flag)
IsReadBy None text result = IsReadAsKeyword (keyword_fault text) text result

-- the result of reading a text as a flag
abbrev pub IsReadAsFlag : List ℕ → Result FlagName FlagFault → Type 0
IsReadAsFlag text result = IsReadBy (system_flag_of text) text result

-- The texts of a reply, as their types make them: none but a part of a message holds the end of a line.
use Rattle.std.specs.Prelude.{◌≡◌, ℕ, ◌<◌, Bool, true, ◌&&◌, not, ◌==◌, List, length, None, All, ⊤}
use Rattle.std.specs.List.{list_all}
use Rattle.mur_base.specs.Ascii.{open_brace}
use Rattle.mail_message.specs.Keywords.{keyword_fault}
use Rattle.mail_message.specs.declared.flag_name.FlagName.{FlagName}
use Rattle.mail_message.specs.declared.flag_name.FlagName.TheVariants.{System, Keyword}
use Rattle.imap_types.specs.declared.command.Tag.{Tag}
use Rattle.imap_types.specs.declared.command.Tag.TheVariants.{Star, Text}
use Rattle.imap_types.specs.declared.reply.Reply.{Reply}
use Rattle.imap_types.specs.declared.reply.ReplyLine.{ReplyLine}
use Rattle.imap_types.specs.declared.reply.ReplyLine.TheVariants.{Capability, Bye, Enabled, Closed, Flags, Exists, Listed, Permanent}
use Rattle.imap_types.specs.declared.reply.ReplyLine.TheVariants.{UidNext, UidValidity, Status, Search, Expunge, Fetch, Acl, MyRights}
use Rattle.imap_types.specs.declared.reply.Verdict.{Verdict}
use Rattle.imap_types.specs.declared.reply.Verdict.TheVariants.{Nothing, Ok as ok_reply, No as no_reply, Bad as bad_reply}
use Rattle.imap_text.specs.Characters.{is_tag_byte}
use Rattle.mail_message.specs.Literals.{IsPlain, IsPart, is_within}

-- tag = 1*<any ASTRING-CHAR except "+"> (RFC 9051, 9)
pub record IsTag (text : List ℕ) : Type 0 where
  pub bytes : list_all is_tag_byte text ≡ true
  pub some : 0 < length text

unfoldable pub IsSoundTag : Tag → Type 0
IsSoundTag Star = ⊤
IsSoundTag (Text text) = IsTag text

-- a byte that neither ends a line nor begins to announce a literal, as all of identifiers, rights and the TABs between them
abbrev pub is_calm : ℕ → Bool
is_calm c = is_within c && not (c == open_brace)

abbrev pub IsCalm : List ℕ → Type 0
IsCalm text = list_all is_calm text ≡ true

unfoldable pub IsSoundFlag : FlagName → Type 0
IsSoundFlag (System flag) = ⊤
IsSoundFlag (Keyword keyword) = keyword_fault keyword ≡ None

unfoldable pub IsSoundLine : ReplyLine → Type 0
IsSoundLine Capability = ⊤
IsSoundLine (Bye bye) = ⊤
IsSoundLine Enabled = ⊤
IsSoundLine Closed = ⊤
IsSoundLine (Flags flags) = All IsSoundFlag flags
IsSoundLine (Exists count) = ⊤
IsSoundLine (Listed attribute name) = IsPlain name
IsSoundLine (Permanent flags new) = All IsSoundFlag flags
IsSoundLine (UidNext uid) = ⊤
IsSoundLine (UidValidity serial) = ⊤
IsSoundLine (Status name counts) = IsPlain name
IsSoundLine (Search by_uid numbers) = ⊤
IsSoundLine (Expunge number) = ⊤
IsSoundLine (Fetch number parts) = All IsPart parts
IsSoundLine (Acl name acl) = IsPlain name × IsCalm acl
IsSoundLine (MyRights name rights) = IsPlain name × IsCalm rights

unfoldable pub IsSoundVerdict : Verdict → Type 0
IsSoundVerdict Nothing = ⊤
IsSoundVerdict (ok_reply code name) = IsPlain name
IsSoundVerdict (no_reply why) = ⊤
IsSoundVerdict (bad_reply why) = ⊤

pub record IsSound (tag : Tag) (reply : Reply) : Type 0 where
  pub tag_is : IsSoundTag tag
  pub lines : All IsSoundLine reply.lines
  pub verdict : IsSoundVerdict reply.verdict

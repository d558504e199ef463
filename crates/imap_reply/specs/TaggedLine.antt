-- The line that ends a reply (RFC 9051, 7.1), if there is one.
use Rattle.std.specs.Prelude.{ℕ, List, [], ◌++◌, codes}
use Rattle.imap_types.specs.declared.command.Tag.{Tag}
use Rattle.imap_types.specs.declared.reply.Verdict.{Verdict}
use Rattle.imap_types.specs.declared.reply.Verdict.TheVariants.{Nothing, Ok as ok_reply, No as no_reply, Bad as bad_reply}
use Rattle.imap_types.specs.declared.reply.Code.{Code}
use Rattle.imap_types.specs.declared.reply.NoText.{NoText}
use Rattle.imap_types.specs.declared.reply.NoText.TheVariants.{AuthenticationFailed, AlreadyExists, NonExistent, TryCreate, NoPerm, Cannot, Limit}
use Rattle.imap_types.specs.declared.reply.NoText.TheVariants.{BeingMoved, NotReached}
use Rattle.imap_types.specs.declared.reply.BadText.{BadText}
use Rattle.imap_types.specs.declared.reply.BadText.TheVariants.{Syntax, State, Message}
use Rattle.imap_reply.specs.Codes.{code_text}
use Rattle.imap_text.specs.Tags.{tag_text}

unfoldable pub no_text : NoText → List ℕ
no_text AuthenticationFailed = codes "[AUTHENTICATIONFAILED] login failed"
no_text AlreadyExists = codes "[ALREADYEXISTS] mailbox exists"
no_text NonExistent = codes "[NONEXISTENT] no such mailbox"
no_text TryCreate = codes "[TRYCREATE] no such mailbox"
no_text NoPerm = codes "[NOPERM] not permitted"
no_text Cannot = codes "[CANNOT] cannot be done"
no_text Limit = codes "[LIMIT] too large or too many"
no_text BeingMoved = codes "[UNAVAILABLE] mailbox is being moved"
no_text NotReached = codes "[UNAVAILABLE] server not reached"

unfoldable pub bad_text : BadText → List ℕ
bad_text Syntax = codes "syntax error"
bad_text State = codes "not in this state"
bad_text Message = codes "no such message"

unfoldable pub ok_text : Code → List ℕ → List ℕ
ok_text code name = codes "OK " ++ code_text code ++ name ++ codes " completed"

-- a text behind the tag
unfoldable pub under : Tag → List ℕ → List ℕ
under tag text = tag_text tag ++ codes " " ++ text ++ codes "\r\n"

unfoldable pub tagged_line : Tag → Verdict → List ℕ
tagged_line tag Nothing = []
tagged_line tag (ok_reply code name) = under tag (ok_text code name)
tagged_line tag (no_reply why) = under tag (codes "NO " ++ no_text why)
tagged_line tag (bad_reply why) = under tag (codes "BAD " ++ bad_text why)

-- What a client reads of a verdict behind the tag: OK, NO or BAD, and of a NO its response code (RFC 9051, 7.1).
use Rattle.std.specs.Prelude.{ℕ, List, [], ◌++◌, codes}
use Rattle.imap_types.specs.declared.reply.Verdict.{Verdict}
use Rattle.imap_types.specs.declared.reply.Verdict.TheVariants.{Nothing, Ok as ok_reply, No as no_reply, Bad as bad_reply}
use Rattle.imap_types.specs.declared.reply.NoText.{NoText}
use Rattle.imap_types.specs.declared.reply.NoText.TheVariants.{AuthenticationFailed, AlreadyExists, NonExistent, TryCreate, NoPerm, Cannot, Limit}
use Rattle.imap_types.specs.declared.reply.NoText.TheVariants.{BeingMoved, NotReached}

-- the last two have one code, so their text behind it tells which
unfoldable pub refusal_code : NoText → List ℕ
refusal_code AuthenticationFailed = codes "[AUTHENTICATIONFAILED] "
refusal_code AlreadyExists = codes "[ALREADYEXISTS] "
refusal_code NonExistent = codes "[NONEXISTENT] "
refusal_code TryCreate = codes "[TRYCREATE] "
refusal_code NoPerm = codes "[NOPERM] "
refusal_code Cannot = codes "[CANNOT] "
refusal_code Limit = codes "[LIMIT] "
refusal_code BeingMoved = codes "[UNAVAILABLE] mailbox is being moved\r\n"
refusal_code NotReached = codes "[UNAVAILABLE] server not reached\r\n"

unfoldable pub verdict_begins : Verdict → List ℕ
verdict_begins Nothing = []
verdict_begins (ok_reply code name) = codes "OK "
verdict_begins (no_reply why) = codes "NO " ++ refusal_code why
verdict_begins (bad_reply why) = codes "BAD "

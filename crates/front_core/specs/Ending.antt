-- What stands behind an answer that ends its connection: nothing (RFC 9051, 7.1.5).
use Rattle.std.specs.Prelude.{◌≡◌, false, List, AllPairs}
use Rattle.imap_talk.specs.Transcript.{ends}
use Rattle.imap_types.specs.declared.request.Answer.{Answer}

-- of the answers of a connection only the last may end it
abbrev pub EndsOnlyLast : List Answer → Type 0
EndsOnlyLast answers = AllPairs (λ (earlier later : Answer). ends earlier.reply ≡ false) answers

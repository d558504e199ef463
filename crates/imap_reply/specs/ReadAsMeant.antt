-- What a client reads of a reply is what was meant, whatever the texts in it are (RFC 9051, 2.2.2).
use Rattle.std.specs.Prelude.{◌≡◌, ℕ, Bool, true, false, ◌&&◌, ◌==◌, List, [], ◌∷◌, ◌++◌, codes, map, All}
use Rattle.imap_types.specs.declared.command.Tag.{Tag}
use Rattle.imap_types.specs.declared.reply.NoText.{NoText}
use Rattle.imap_types.specs.declared.reply.Reply.{Reply}
use Rattle.imap_types.specs.declared.reply.Verdict.{Verdict}
use Rattle.imap_types.specs.declared.reply.Verdict.TheVariants.{Nothing, Ok as ok_reply, No as no_reply, Bad as bad_reply}
use Rattle.imap_reply.specs.ReadAs.{IsReadAs}
use Rattle.imap_reply.specs.SoundTexts.{IsTag}
use Rattle.imap_reply.specs.ReplyText.{line_text, reply_text}
use Rattle.imap_reply.specs.TaggedLine.{tagged_line}
use Rattle.imap_text.specs.Tags.{tag_text}
use Rattle.imap_reply.specs.VerdictBegins.{verdict_begins}

unfoldable pub line_begins_with : List ℕ → List ℕ → Bool
line_begins_with [] text = true
line_begins_with (c ∷ front) [] = false
line_begins_with (c ∷ front) (d ∷ text) = c == d && line_begins_with front text

-- the untagged lines that are meant
abbrev pub untagged_lines : Tag → Reply → List (List ℕ)
untagged_lines tag reply = map (line_text tag) reply.lines

-- the tagged line that is meant: one, or none where the connection ends before
unfoldable pub last_line : Tag → Verdict → List (List ℕ)
last_line tag Nothing = []
last_line tag (ok_reply code name) = tagged_line tag (ok_reply code name) ∷ []
last_line tag (no_reply why) = tagged_line tag (no_reply why) ∷ []
last_line tag (bad_reply why) = tagged_line tag (bad_reply why) ∷ []

abbrev pub meant_lines : Tag → Reply → List (List ℕ)
meant_lines tag reply = untagged_lines tag reply ++ last_line tag reply.verdict

pub record IsReadAsMeant (tag : Tag) (reply : Reply) : Type 0 where
  pub read : IsReadAs (reply_text tag reply) (meant_lines tag reply)
  -- no untagged line begins with a tag, and the tagged one with its own and its verdict
  pub untagged : (word : List ℕ) → IsTag word → All (λ line. line_begins_with word line ≡ false) (untagged_lines tag reply)
  pub tagged : All (λ line. line_begins_with (tag_text tag ++ codes " " ++ verdict_begins reply.verdict) line ≡ true) (last_line tag reply.verdict)
  -- of a refusal it tells which: no other verdict has its line
  pub refusal : (why : NoText) → last_line tag reply.verdict ≡ last_line tag (no_reply why) → reply.verdict ≡ no_reply why

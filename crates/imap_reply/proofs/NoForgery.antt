-- No text forges a reply.
use Rattle.std.proofs.Common.{◌≡◌, ℕ, ◌==◌, true, false, List, [], ◌∷◌}
use Rattle.std.proofs.Common.{◌++◌, map, codes, refl, ◌∙◌, ap, arith}
use Rattle.std.specs.Prelude.{All}
use Rattle.std.specs.List.{list_all, concat}
use Rattle.std.proofs.lemmas.Bool.{and_parts}
use Rattle.std.proofs.lemmas.Bool.Decides.{nat_tests}
use Rattle.std.proofs.lemmas.List.{append-nil}
use Rattle.std.proofs.lemmas.List.Folds.{concat-append}
use Rattle.std.proofs.lemmas.List.Elements.{All-nil, All-cons, All-weaker, All-map, All-append}
use Rattle.imap_text.specs.Characters.{is_tag_byte}
use Rattle.imap_types.specs.declared.command.Tag.{Tag}
use Rattle.imap_types.specs.declared.reply.Reply.{Reply}
use Rattle.imap_types.specs.declared.reply.ReplyLine.{ReplyLine}
use Rattle.imap_types.specs.declared.reply.ReplyLine.TheVariants.{Capability, Bye, Enabled, Closed, Flags, Exists, Listed, Permanent}
use Rattle.imap_types.specs.declared.reply.ReplyLine.TheVariants.{UidNext, UidValidity, Status, Search, Expunge, Fetch, Acl, MyRights}
use Rattle.imap_types.specs.declared.reply.Verdict.{Verdict}
use Rattle.imap_types.specs.declared.reply.Verdict.TheVariants.{Nothing, Ok as ok_reply, No as no_reply, Bad as bad_reply}
use Rattle.imap_reply.specs.Lines.{IsLine}
use Rattle.imap_reply.specs.SoundTexts.{IsTag, IsSoundTag, IsSoundLine, IsSoundVerdict, IsSound}
use Rattle.imap_reply.specs.ReadAsMeant.{line_begins_with, untagged_lines, last_line, meant_lines, IsReadAsMeant}
use Rattle.imap_reply.specs.AccessLines.{acl_line, my_rights_line}
use Rattle.imap_reply.specs.ByeLine.{bye_line}
use Rattle.imap_reply.specs.Capability.{capability_line}
use Rattle.imap_reply.specs.Enabled.{enabled_line}
use Rattle.imap_reply.specs.ExistsLine.{exists_line}
use Rattle.imap_reply.specs.ExpungeLine.{expunge_line}
use Rattle.imap_reply.specs.FetchLine.{fetch_line}
use Rattle.imap_reply.specs.FlagsLine.{flags_line}
use Rattle.imap_reply.specs.ListLine.{list_line}
use Rattle.imap_reply.specs.OkLines.{closed_line, permanent_line, uid_next_line, uid_validity_line}
use Rattle.imap_reply.specs.SearchLine.{search_line}
use Rattle.imap_reply.specs.StatusLine.{status_line}
use Rattle.imap_reply.specs.ReplyText.{line_text, lines_text, reply_text}
use Rattle.imap_reply.specs.TaggedLine.{tagged_line, under, ok_text, no_text, bad_text}
use Rattle.imap_reply.proofs.EachLine.{capability_is_line, enabled_is_line, closed_is_line, bye_is_line, exists_is_line, expunge_is_line}
use Rattle.imap_reply.proofs.EachLine.{uid_next_is_line, uid_validity_is_line, flags_is_line, permanent_is_line, list_is_line, status_is_line}
use Rattle.imap_reply.proofs.LongLines.{search_is_line, fetch_is_line, acl_is_line, my_rights_is_line}
use Rattle.imap_reply.proofs.TaggedIsLine.{ok_is_line, no_is_line, bad_is_line}
use Rattle.imap_reply.proofs.ReadParts.{read_by}
use Rattle.imap_reply.proofs.VerdictLaws.{last_begins, refusal_told}

untagged_is_line : (tag : Tag) → IsSoundTag tag → (line : ReplyLine) → IsSoundLine line → IsLine (line_text tag line)
unfolding line_text IsSoundLine
untagged_is_line tag tagged Capability sound = capability_is_line
untagged_is_line tag tagged (Bye bye) sound = bye_is_line bye
untagged_is_line tag tagged Enabled sound = enabled_is_line
untagged_is_line tag tagged Closed sound = closed_is_line
untagged_is_line tag tagged (Flags flags) sound = flags_is_line flags sound
untagged_is_line tag tagged (Exists count) sound = exists_is_line count
untagged_is_line tag tagged (Listed attribute name) sound = list_is_line attribute name sound
untagged_is_line tag tagged (Permanent flags new) sound = permanent_is_line flags new sound
untagged_is_line tag tagged (UidNext uid) sound = uid_next_is_line uid
untagged_is_line tag tagged (UidValidity serial) sound = uid_validity_is_line serial
untagged_is_line tag tagged (Status name counts) sound = status_is_line name counts sound
untagged_is_line tag tagged (Search by_uid numbers) sound = search_is_line tag by_uid numbers tagged
untagged_is_line tag tagged (Expunge number) sound = expunge_is_line number
untagged_is_line tag tagged (Fetch number parts) sound = fetch_is_line number parts sound
untagged_is_line tag tagged (Acl name acl) sound = acl_is_line name acl sound.0 sound.1
untagged_is_line tag tagged (MyRights name rights) sound = my_rights_is_line name rights sound.0 sound.1

last_are_lines : (tag : Tag) (verdict : Verdict) → IsSoundTag tag → IsSoundVerdict verdict → All IsLine (last_line tag verdict)
unfolding last_line tagged_line IsSoundVerdict
last_are_lines tag Nothing tagged sound = All-nil IsLine
last_are_lines tag (ok_reply code name) tagged sound =
    All-cons IsLine (under tag (ok_text code name)) [] (ok_is_line tag code name tagged sound) (All-nil IsLine)
last_are_lines tag (no_reply why) tagged sound =
    All-cons IsLine (under tag (codes "NO " ++ no_text why)) [] (no_is_line tag why tagged) (All-nil IsLine)
last_are_lines tag (bad_reply why) tagged sound =
    All-cons IsLine (under tag (codes "BAD " ++ bad_text why)) [] (bad_is_line tag why tagged) (All-nil IsLine)

-- the lines make the text

untagged_text : (tag : Tag) (lines : List ReplyLine) → concat (map (line_text tag) lines) ≡ lines_text tag lines
unfolding lines_text
untagged_text tag [] = refl
untagged_text tag (line ∷ lines) = ap (λ text. line_text tag line ++ text) (untagged_text tag lines)

last_text : (tag : Tag) (verdict : Verdict) → concat (last_line tag verdict) ≡ tagged_line tag verdict
unfolding last_line tagged_line
last_text tag Nothing = refl
last_text tag (ok_reply code name) = append-nil (under tag (ok_text code name))
last_text tag (no_reply why) = append-nil (under tag (codes "NO " ++ no_text why))
last_text tag (bad_reply why) = append-nil (under tag (codes "BAD " ++ bad_text why))

whole_text : (tag : Tag) (reply : Reply) → concat (meant_lines tag reply) ≡ reply_text tag reply
unfolding reply_text
whole_text tag reply =
    concat-append (untagged_lines tag reply) (last_line tag reply.verdict)
    ∙ ap (λ text. text ++ concat (last_line tag reply.verdict)) (untagged_text tag reply.lines)
    ∙ ap (λ text. lines_text tag reply.lines ++ text) (last_text tag reply.verdict)

-- what the lines begin with

pub no_star : (c : ℕ) → is_tag_byte c ≡ true → (c == 42) ≡ false
unfolding is_tag_byte
no_star c h = grind (arith, nat_tests, h)

star_first : (tag : Tag) (line : ReplyLine) (c : ℕ) (word : List ℕ) → (c == 42) ≡ false → line_begins_with (c ∷ word) (line_text tag line) ≡ false
unfolding line_begins_with line_text capability_line bye_line enabled_line closed_line flags_line exists_line list_line
    permanent_line uid_next_line uid_validity_line status_line search_line expunge_line fetch_line acl_line my_rights_line
star_first tag Capability c word h = rw h refl
star_first tag (Bye bye) c word h = rw h refl
star_first tag Enabled c word h = rw h refl
star_first tag Closed c word h = rw h refl
star_first tag (Flags flags) c word h = rw h refl
star_first tag (Exists count) c word h = rw h refl
star_first tag (Listed attribute name) c word h = rw h refl
star_first tag (Permanent flags new) c word h = rw h refl
star_first tag (UidNext uid) c word h = rw h refl
star_first tag (UidValidity serial) c word h = rw h refl
star_first tag (Status name counts) c word h = rw h refl
star_first tag (Search by_uid numbers) c word h = rw h refl
star_first tag (Expunge number) c word h = rw h refl
star_first tag (Fetch number parts) c word h = rw h refl
star_first tag (Acl name acl) c word h = rw h refl
star_first tag (MyRights name rights) c word h = rw h refl

no_tag_first : (tag : Tag) (word : List ℕ) → IsTag word → (line : ReplyLine) → line_begins_with word (line_text tag line) ≡ false
no_tag_first tag [] is_tag line = absurd (omega (arith, is_tag.some))
no_tag_first tag (c ∷ word) is_tag line = star_first tag line c word (no_star c (and_parts (is_tag_byte c) (list_all is_tag_byte word) is_tag.bytes).0)

untagged_are : (tag : Tag) (reply : Reply) (word : List ℕ) → IsTag word → All (λ line. line_begins_with word line ≡ false) (untagged_lines tag reply)
untagged_are tag reply word is_tag =
    All-map (λ line. line_begins_with word line ≡ false) (line_text tag) reply.lines (λ k d within. no_tag_first tag word is_tag _)

are_lines : (tag : Tag) (reply : Reply) → IsSound tag reply → All IsLine (meant_lines tag reply)
are_lines tag reply sound =
    All-append IsLine (untagged_lines tag reply) (last_line tag reply.verdict)
    (All-map IsLine (line_text tag) reply.lines
    (All-weaker IsSoundLine (λ line. IsLine (line_text tag line)) (untagged_is_line tag sound.tag_is) reply.lines sound.lines))
    (last_are_lines tag reply.verdict sound.tag_is sound.verdict)

pub read_as_meant : (tag : Tag) (reply : Reply) → IsSound tag reply → IsReadAsMeant tag reply
read_as_meant tag reply sound =
    record {
      read = read_by (reply_text tag reply) (meant_lines tag reply) (whole_text tag reply) (are_lines tag reply sound);
      untagged = untagged_are tag reply;
      tagged = last_begins tag reply.verdict;
      refusal = refusal_told tag reply.verdict;
    }

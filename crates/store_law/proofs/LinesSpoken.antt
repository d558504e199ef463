-- The lines of the news, of a STORE and of a FETCH speak of the messages of their numbers.
use Rattle.std.proofs.Common.{◌≡◌, ℕ, zero, suc, ◌+◌, ◌-◌, Bool, true, false, not, ◌&&◌, cond, if◌then◌else◌, List, [], ◌∷◌, ◌++◌, length, map, replicate}
use Rattle.std.proofs.Common.{Option, None, Some, refl, sym, ◌∙◌, ap, subst, arith, append_assoc, append-nil, length-append}
use Rattle.std.specs.Prelude.{All, slice_get}
use Rattle.std.specs.Option.{option_map}
use Rattle.std.proofs.lemmas.List.Elements.{All-cons, All-nil}
use Rattle.mail_fetch.specs.FlagText.{flags_text}
use Rattle.mail_fetch.specs.Parts.{uid_text}
use Rattle.mail_message.specs.Boxes.{Content, message_at, row_of}
use Rattle.mail_message.specs.RowOrder.{row_at}
use Rattle.mail_message.specs.SameFlags.{is_same_flags}
use Rattle.mail_message.specs.declared.item.Item.TheVariants as item
use Rattle.mail_message.specs.declared.message.Message.{Message}
use Rattle.mail_message.specs.declared.message.Row.{Row}
use Rattle.imap_types.specs.declared.reply.ReplyLine.{ReplyLine}
use Rattle.imap_types.specs.declared.reply.ReplyLine.TheVariants.{Expunge, Fetch}
use Rattle.mur_model.specs.ClientView.{Known, known_after, known_after_all, uids, without_number}
use Rattle.mur_model.specs.History.{numbered}
use Rattle.mur_model.specs.News.{changed_line, changed_lines, exists_lines, expunge_lines, flag_parts, has_row, is_among, news, rows_behind, rows_there, told_of}
use Rattle.mur_model.specs.Selected.{rows_of}
use Rattle.mur_model.proofs.FetchRowsLaw.{row_found}
use Rattle.store_law.specs.Lines.{IsPartOf, LinesSpeak, SpeaksOf, SpeaksOfKnown}
use Rattle.store_law.proofs.MirrorNews.{changed_as, line_of, lines_by}

-- ---- UIDs by number

abbrev pub told_uids : List Row → Known
told_uids rows = map (λ uid. Some uid) (uids rows)

at_front : {T : Type 0} (front : List T) (one : T) (rest : List T) → slice_get (front ++ one ∷ rest) (length front) ≡ Some one
at_front [] one rest = refl
at_front (first ∷ front) one rest = at_front front one rest

pub number_at : {T : Type 0} (number : ℕ) (front : List T) (one : T) (rest : List T) → number ≡ suc (length front)
    → numbered (front ++ one ∷ rest) number ≡ Some one
unfolding numbered
number_at number front one rest is = ap (numbered (front ++ one ∷ rest)) is ∙ at_front front one rest

without_one : {A : Type 0} (front : List A) (one : A) (rest : List A) → without_number (suc (length front)) (front ++ one ∷ rest) ≡ front ++ rest
unfolding without_number
without_one [] one rest = refl
without_one (first ∷ []) one rest = refl
without_one (first ∷ second ∷ front) one rest = ap (λ items. first ∷ items) (without_one (second ∷ front) one rest)

next_number : {A : Type 0} (number : ℕ) (front : List A) (one : A) → number ≡ suc (length front) → number + 1 ≡ suc (length (front ++ one ∷ []))
next_number number front one is = omega (arith, is, length-append front (one ∷ []))

-- ---- lines one behind another

pub both_speak : (box : Content) (known : Known) (lines more : List ReplyLine) → LinesSpeak box known lines
    → LinesSpeak box (known_after_all known lines) more → LinesSpeak box known (lines ++ more)
unfolding LinesSpeak known_after
both_speak box known [] more speak rest = rest
both_speak box known (Fetch number parts ∷ lines) more speak rest = (speak.0, both_speak box known lines more speak.1 rest)
both_speak box known (line ∷ lines) more speak rest = both_speak box (known_after known line) lines more speak rest

-- lines of messages alone change no number
abbrev pub SpeakAlone : Content → Known → List ReplyLine → Type 0
SpeakAlone box known lines = LinesSpeak box known lines × (known_after_all known lines ≡ known)

pub none_alone : (box : Content) (known : Known) → SpeakAlone box known []
unfolding LinesSpeak
none_alone box known = (tt, refl)

pub one_alone : (box : Content) (known : Known) (number : ℕ) (parts : List (List ℕ)) (uid : ℕ) → numbered known number ≡ Some (Some uid)
    → SpeaksOf box uid parts → SpeakAlone box known (Fetch number parts ∷ [])
unfolding LinesSpeak known_after
one_alone box known number parts uid at speaks = ((subst (λ (found : Option (Option ℕ)). SpeaksOfKnown box found parts) (sym at) speaks, tt), refl)

after_both : (known : Known) (lines more : List ReplyLine) → known_after_all known (lines ++ more) ≡ known_after_all (known_after_all known lines) more
after_both known [] more = refl
after_both known (line ∷ lines) more = after_both (known_after known line) lines more

pub both_alone : (box : Content) (known : Known) (lines more : List ReplyLine) → SpeakAlone box known lines → SpeakAlone box known more
    → SpeakAlone box known (lines ++ more)
both_alone box known lines more one other = (
  both_speak box known lines more one.0 (subst (λ k. LinesSpeak box k more) (sym one.1) other.0),
  after_both known lines more ∙ ap (λ k. known_after_all k more) one.1 ∙ other.1,
)

-- ---- a message's flags

-- the parts that tell flags are a message's that has them
flag_parts_of : (by_uid : Bool) (message : Message) (row : Row) → row.uid ≡ message.uid → row.flags ≡ message.flags
    → All (IsPartOf message) (flag_parts by_uid row)
flag_parts_of true message row own flags =
    All-cons (IsPartOf message) (uid_text row.uid) (flags_text row.flags ∷ []) (record { asked = item.Uid; says = ap uid_text own })
    (All-cons (IsPartOf message) (flags_text row.flags) [] (record { asked = item.Flags; says = ap flags_text flags }) (All-nil (IsPartOf message)))
flag_parts_of false message row own flags =
    All-cons (IsPartOf message) (flags_text row.flags) [] (record { asked = item.Flags; says = ap flags_text flags }) (All-nil (IsPartOf message))

-- a row of a mailbox is a message's
record IsRowOf (box : Content) (uid : ℕ) (row : Row) : Type 0 where
  message : Message
  there : message_at box.messages uid ≡ Some message
  own : row ≡ row_of message

row_by : (box : Content) (uid : ℕ) (row : Row) (found : Option Message) → message_at box.messages uid ≡ found → option_map row_of found ≡ Some row
    → IsRowOf box uid row
row_by box uid row None at is = cc
row_by box uid row (Some message) at is = let same : row_of message ≡ row = cc in record { message = message; there = at; own = sym same }

row_there : (box : Content) (uid : ℕ) (row : Row) → row_at (rows_of box) uid ≡ Some row → IsRowOf box uid row
row_there box uid row at = row_by box uid row (message_at box.messages uid) refl (sym (row_found box.messages uid) ∙ at)

pub flags_speak : (by_uid : Bool) (box : Content) (uid : ℕ) (row change : Row) → row_at (rows_of box) uid ≡ Some row → change.uid ≡ row.uid
    → change.flags ≡ row.flags → SpeaksOf box uid (flag_parts by_uid change)
flags_speak by_uid box uid row change at own flags =
    let it = row_there box uid row at in record {
      message = it.message;
      there = it.there;
      parts_of_it = flag_parts_of by_uid it.message change (own ∙ ap (λ (r : Row). r.uid) it.own) (flags ∙ ap (λ (r : Row). r.flags) it.own);
    }

-- ---- the news

if_alone : (box : Content) (known : Known) (test : Bool) (number : ℕ) (parts : List (List ℕ)) → SpeakAlone box known (Fetch number parts ∷ [])
    → SpeakAlone box known (if test then Fetch number parts ∷ [] else [])
if_alone box known true number parts speaks = speaks
if_alone box known false number parts speaks = none_alone box known

changed_alone : (box : Content) (known : Known) (is_told : Bool) (number : ℕ) (row : Row) (it : Option Row) → numbered known number ≡ Some (Some row.uid)
    → row_at (rows_of box) row.uid ≡ it → SpeakAlone box known (changed_line is_told number row it)
changed_alone box known is_told number row None at found = none_alone box known
changed_alone box known is_told number row (Some it) at found =
    if_alone box known (not is_told && not (is_same_flags row.flags it.flags)) number (flag_parts true it)
    (one_alone box known number (flag_parts true it) row.uid at (flags_speak true box row.uid it it found refl refl))

-- lines for each row in its turn, under its number
module _ (box : Content) (line : ℕ → Row → List ReplyLine)
    (one : (known : Known) (number : ℕ) (row : Row) → numbered known number ≡ Some (Some row.uid) → SpeakAlone box known (line number row)) where
  pub each_alone : (number : ℕ) (front : Known) (rows : List Row) (behind : Known) → number ≡ suc (length front)
      → SpeakAlone box (front ++ (told_uids rows ++ behind)) (lines_by line number rows)
  each_alone number front [] behind is = none_alone box (front ++ behind)
  each_alone number front (row ∷ rows) behind is =
      both_alone box (front ++ Some row.uid ∷ (told_uids rows ++ behind)) (line number row) (lines_by line (number + 1) rows)
      (one (front ++ Some row.uid ∷ (told_uids rows ++ behind)) number row (number_at number front (Some row.uid) (told_uids rows ++ behind) is))
      (subst (λ known. SpeakAlone box known (lines_by line (number + 1) rows)) (append_assoc front (Some row.uid ∷ []) (told_uids rows ++ behind))
      (each_alone (number + 1) (front ++ Some row.uid ∷ []) rows behind (next_number number front (Some row.uid) is)))

changed_speak : (box : Content) (told : List ℕ) (rows : List Row) (behind : Known)
    → LinesSpeak box (told_uids rows ++ behind) (changed_lines (rows_of box) told 1 rows)
changed_speak box told rows behind =
    subst (LinesSpeak box (told_uids rows ++ behind)) (sym (changed_as (rows_of box) told 1 rows))
    (each_alone box (line_of (rows_of box) told)
    (λ known number row at. changed_alone box known (is_among told row.uid) number row (row_at (rows_of box) row.uid) at refl) 1 [] rows behind refl).0

-- messages that are gone: their lines say nothing of others, and the numbers are those of the rows that are there
expunge_speak : (box : Content) (now : List Row) (number : ℕ) (known : Known) (rows : List Row) → LinesSpeak box known (expunge_lines now number rows)
unfolding LinesSpeak
expunge_speak box now number known [] = tt
expunge_speak box now number known (row ∷ rows) =
    by (has_row now row.uid) (expunge_speak box now (number + 1) known rows) (λ left. expunge_speak box now number left rows)
  where
    by : (there : Bool) → LinesSpeak box known (expunge_lines now (number + 1) rows)
        → ((left : Known) → LinesSpeak box left (expunge_lines now number rows))
        → LinesSpeak box known (if there then expunge_lines now (number + 1) rows else Expunge number ∷ expunge_lines now number rows)
    by true stays goes = stays
    by false stays goes = goes _

expunged_by : (now : List Row) (number : ℕ) (front : Known) (row : Row) (rows : List Row) (there : Bool) → number ≡ suc (length front)
    → known_after_all ((front ++ Some row.uid ∷ []) ++ told_uids rows) (expunge_lines now (number + 1) rows)
    ≡ (front ++ Some row.uid ∷ []) ++ told_uids (rows_there now rows)
    → known_after_all (front ++ told_uids rows) (expunge_lines now number rows) ≡ front ++ told_uids (rows_there now rows)
    → known_after_all (front ++ Some row.uid ∷ told_uids rows)
    (if there then expunge_lines now (number + 1) rows else Expunge number ∷ expunge_lines now number rows)
    ≡ front ++ told_uids (cond there (row ∷ rows_there now rows) (rows_there now rows))
unfolding known_after
expunged_by now number front row rows true is stays goes =
    rw (append_assoc front (Some row.uid ∷ []) (told_uids rows)) at (rw (append_assoc front (Some row.uid ∷ []) (told_uids (rows_there now rows))) at stays)
expunged_by now number front row rows false is stays goes =
    ap (λ (left : Known). known_after_all left (expunge_lines now number rows))
    (ap (λ n. without_number n (front ++ Some row.uid ∷ told_uids rows)) is ∙ without_one front (Some row.uid) (told_uids rows)) ∙ goes

expunged_known : (now : List Row) (number : ℕ) (front : Known) (rows : List Row) → number ≡ suc (length front)
    → known_after_all (front ++ told_uids rows) (expunge_lines now number rows) ≡ front ++ told_uids (rows_there now rows)
expunged_known now number front [] is = refl
expunged_known now number front (row ∷ rows) is =
    expunged_by now number front row rows (has_row now row.uid) is
    (expunged_known now (number + 1) (front ++ Some row.uid ∷ []) rows (next_number number front (Some row.uid) is))
    (expunged_known now number front rows is)

exists_speak : (box : Content) (known : Known) (count more : ℕ) → LinesSpeak box known (exists_lines count more)
unfolding LinesSpeak
exists_speak box known count zero = tt
exists_speak box known count (suc more) = tt

-- EXISTS puts some behind
record PutsBehind (known : Known) (count more : ℕ) : Type 0 where
  behind : Known
  so : known_after_all known (exists_lines count more) ≡ known ++ behind

puts_behind : (known : Known) (count more : ℕ) → PutsBehind known count more
unfolding known_after
puts_behind known count zero = record { behind = []; so = sym (append-nil known) }
puts_behind known count (suc more) = record { behind = replicate ((count + suc more) - length known) None; so = refl }

told_speak : (box : Content) (lines : List ReplyLine) (rows : List Row) (told : List ℕ) (known : Known) → LinesSpeak box known lines
    → known_after_all known lines ≡ told_uids rows → LinesSpeak box known (told_of lines rows (rows_of box) told).lines
told_speak box lines rows told known speak is =
    let more : ℕ = length (rows_behind rows (rows_of box)) in
    let new = exists_lines (length rows) more in
    let puts = puts_behind (told_uids rows) (length rows) more in
    both_speak box known lines (new ++ changed_lines (rows_of box) told 1 rows) speak
    (subst (λ k. LinesSpeak box k (new ++ changed_lines (rows_of box) told 1 rows)) (sym is)
    (both_speak box (told_uids rows) new (changed_lines (rows_of box) told 1 rows) (exists_speak box (told_uids rows) (length rows) more)
    (subst (λ k. LinesSpeak box k (changed_lines (rows_of box) told 1 rows)) (sym puts.so) (changed_speak box told rows puts.behind))))

pub news_speak : (box : Content) (own : List ReplyLine) (rows : List Row) (expunges : Bool) (told : List ℕ) → SpeakAlone box (told_uids rows) own
    → LinesSpeak box (told_uids rows) (own ++ (news rows (rows_of box) expunges told).lines)
unfolding news LinesSpeak
news_speak box own rows true told alone =
    both_speak box (told_uids rows) own (news rows (rows_of box) true told).lines alone.0
    (subst (λ k. LinesSpeak box k (news rows (rows_of box) true told).lines) (sym alone.1)
    (told_speak box (expunge_lines (rows_of box) 1 rows) (rows_there (rows_of box) rows) told (told_uids rows)
    (expunge_speak box (rows_of box) 1 (told_uids rows) rows) (expunged_known (rows_of box) 1 [] rows refl)))
news_speak box own rows false told alone =
    both_speak box (told_uids rows) own (news rows (rows_of box) false told).lines alone.0
    (subst (λ k. LinesSpeak box k (news rows (rows_of box) false told).lines) (sym alone.1) (told_speak box [] rows told (told_uids rows) tt refl))

-- A mirror that agrees with a view agrees with the view behind its news.
use Rattle.std.proofs.Common.{◌≡◌, ℕ, suc, ◌+◌, ◌-◌, ◌==◌, ◌||◌, Bool, true, false, not, cond, if◌then◌else◌, List, [], ◌∷◌, ◌++◌, length, map, replicate}
use Rattle.std.proofs.Common.{Option, None, Some, refl, sym, ◌∙◌, ap, subst, arith, append_assoc, append-nil, length-append}
use Rattle.std.specs.Prelude.{IfSome}
use Rattle.std.specs.List.{fold}
use Rattle.std.proofs.lemmas.Bool.Decides.{nat_tests}
use Rattle.std.proofs.lemmas.List.{length-map}
use Rattle.mail_fetch.specs.FlagText.{flags_text}
use Rattle.mail_fetch.specs.Parts.{uid_text}
use Rattle.mail_message.specs.RowOrder.{row_at}
use Rattle.mail_message.specs.SameFlags.{is_same_flags}
use Rattle.mail_message.specs.declared.message.Row.{Row}
use Rattle.mail_message.proofs.FlagLaw.{same_flags_decide}
use Rattle.imap_types.specs.declared.reply.ReplyLine.{ReplyLine}
use Rattle.imap_types.specs.declared.reply.ReplyLine.TheVariants.{Expunge, Fetch}
use Rattle.mur_model.specs.ClientView.{without_number}
use Rattle.mur_model.specs.News.{changed_line, changed_lines, exists_lines, expunge_lines, flag_parts, fresh_row, fresh_rows, has_row, is_among, news}
use Rattle.mur_model.specs.News.{rows_behind, rows_there, told_of}
use Rattle.store_law.specs.Mirror.{IsSeenOf, Mirror, Mirrors, Seen, at_number, no_uid, read_line, read_lines, seen_by, silenced_by, unseen, with_silent}

-- ---- mirrors beside rows

-- lines one behind another
pub read_both : (mirror : Mirror) (lines more : List ReplyLine) → read_lines mirror (lines ++ more) ≡ read_lines (read_lines mirror lines) more
read_both mirror [] more = refl
read_both mirror (line ∷ lines) more = read_both (read_line mirror line) lines more

pub mirrors_length : (mirror : Mirror) (rows : List Row) → Mirrors mirror rows → length mirror ≡ length rows
unfolding Mirrors
mirrors_length [] [] agrees = refl
mirrors_length [] (row ∷ rows) agrees = absurd agrees
mirrors_length (seen ∷ mirror) [] agrees = absurd agrees
mirrors_length (seen ∷ mirror) (row ∷ rows) agrees = ap suc (mirrors_length mirror rows agrees.1)

mirrors_both : (mirror more : Mirror) (rows others : List Row) → Mirrors mirror rows → Mirrors more others → Mirrors (mirror ++ more) (rows ++ others)
unfolding Mirrors
mirrors_both [] more [] others agrees agree = agree
mirrors_both [] more (row ∷ rows) others agrees agree = absurd agrees
mirrors_both (seen ∷ mirror) more [] others agrees agree = absurd agrees
mirrors_both (seen ∷ mirror) more (row ∷ rows) others agrees agree = (agrees.0, mirrors_both mirror more rows others agrees.1 agree)

pub unseen_mirrors : (rows : List Row) → Mirrors (replicate (length rows) unseen) rows
unfolding Mirrors
unseen_mirrors [] = tt
unseen_mirrors (row ∷ rows) = ((tt, tt), unseen_mirrors rows)

-- flags that are told unless something is so
abbrev pub AreToldBut : Bool → Option (List ℕ) → Row → Type 0
AreToldBut is_silenced flags row = IfSome flags (λ text. is_silenced ≡ false → text ≡ flags_text row.flags)

more_silenced : (one more : Bool) (flags : Option (List ℕ)) (row : Row) → AreToldBut one flags row → AreToldBut (one || more) flags row
more_silenced one more None row is = tt
more_silenced true more (Some text) row is = λ silent. cc
more_silenced false more (Some text) row is = λ silent. is refl

pub less_seen : (is_named : ℕ → Bool) (seen : Seen) (row : Row) → IsSeenOf seen row → IsSeenOf (silenced_by is_named seen) row
less_seen is_named seen row is = (is.0, more_silenced (seen.silenced row.uid) (is_named row.uid) seen.flags row is.1)

pub silent_mirrors : (is_named : ℕ → ℕ → Bool) (number : ℕ) (mirror : Mirror) (rows : List Row) → Mirrors mirror rows
    → Mirrors (with_silent is_named number mirror) rows
unfolding Mirrors with_silent
silent_mirrors is_named number [] [] agrees = tt
silent_mirrors is_named number [] (row ∷ rows) agrees = absurd agrees
silent_mirrors is_named number (seen ∷ mirror) [] agrees = absurd agrees
silent_mirrors is_named number (seen ∷ mirror) (row ∷ rows) agrees =
    (less_seen (is_named number) seen row agrees.0, silent_mirrors is_named (number + 1) mirror rows agrees.1)

-- the message behind a front, by its number
at_one : {A : Type 0} (become : A → A) (front : List A) (one : A) (rest : List A)
    → at_number become (suc (length front)) (front ++ one ∷ rest) ≡ front ++ become one ∷ rest
unfolding at_number
at_one become [] one rest = refl
at_one become (first ∷ []) one rest = refl
at_one become (first ∷ second ∷ front) one rest = ap (λ items. first ∷ items) (at_one become (second ∷ front) one rest)

without_one : {A : Type 0} (front : List A) (one : A) (rest : List A) → without_number (suc (length front)) (front ++ one ∷ rest) ≡ front ++ rest
unfolding without_number
without_one [] one rest = refl
without_one (first ∷ []) one rest = refl
without_one (first ∷ second ∷ front) one rest = ap (λ items. first ∷ items) (without_one (second ∷ front) one rest)

next_number : {A : Type 0} (number : ℕ) (front : List A) (one : A) → number ≡ suc (length front) → number + 1 ≡ suc (length (front ++ one ∷ []))
next_number number front one is = omega (arith, is, length-append front (one ∷ []))

-- what lines leave of it
pub record Becomes (front rest : Mirror) (seen : Seen) (lines : List ReplyLine) (row : Row) : Type 0 where
  pub after : Seen
  pub reads : read_lines (front ++ seen ∷ rest) lines ≡ front ++ after ∷ rest
  pub is_of : IsSeenOf after row

pub stays_seen : (front rest : Mirror) (seen : Seen) (row : Row) → IsSeenOf seen row → Becomes front rest seen [] row
stays_seen front rest seen row is = record { after = seen; reads = refl; is_of = is }

-- a FETCH line tells of it
pub fetch_reads : (front rest : Mirror) (seen after : Seen) (number : ℕ) (parts : List (List ℕ)) (row : Row) → number ≡ suc (length front)
    → fold seen_by seen parts ≡ after → IsSeenOf after row → Becomes front rest seen (Fetch number parts ∷ []) row
unfolding read_line
fetch_reads front rest seen after number parts row is tells so = record {
  after = after;
  reads = ap (λ n. at_number (λ s. fold seen_by s parts) n (front ++ seen ∷ rest)) is ∙ at_one (λ s. fold seen_by s parts) front seen rest
      ∙ ap (λ (s : Seen). front ++ s ∷ rest) tells;
  is_of = so;
}

-- lines for each row in its turn
abbrev pub lines_by : (ℕ → Row → List ReplyLine) → ℕ → List Row → List ReplyLine
lines_by line number [] = []
lines_by line number (row ∷ rows) = line number row ++ lines_by line (number + 1) rows

module _ (line : ℕ → Row → List ReplyLine) (old new : Row → Row)
    (one : (front rest : Mirror) (seen : Seen) (number : ℕ) (row : Row) → number ≡ suc (length front) → IsSeenOf seen (old row)
    → Becomes front rest seen (line number row) (new row)) where
  -- the rows behind a front that was gone over already
  pub walked : (number : ℕ) (front : Mirror) (firsts : List Row) (mirror : Mirror) (rows behind : List Row) → number ≡ suc (length front)
      → Mirrors front firsts → Mirrors mirror (map old rows ++ behind)
      → Mirrors (read_lines (front ++ mirror) (lines_by line number rows)) (firsts ++ (map new rows ++ behind))
  unfolding Mirrors
  walked number front firsts mirror [] behind is ahead agrees = mirrors_both front mirror firsts behind ahead agrees
  walked number front firsts [] (row ∷ rows) behind is ahead agrees = absurd agrees
  walked number front firsts (seen ∷ mirror) (row ∷ rows) behind is ahead agrees =
      let made = one front mirror seen number row is agrees.0 in
      let reading : read_lines (front ++ seen ∷ mirror) (line number row ++ lines_by line (number + 1) rows)
      ≡ read_lines (front ++ made.after ∷ mirror) (lines_by line (number + 1) rows) =
      read_both (front ++ seen ∷ mirror) (line number row) (lines_by line (number + 1) rows)
      ∙ ap (λ m. read_lines m (lines_by line (number + 1) rows)) made.reads in
      let rest = walked (number + 1) (front ++ made.after ∷ []) (firsts ++ new row ∷ []) mirror rows behind (next_number number front made.after is)
      (mirrors_both front (made.after ∷ []) firsts (new row ∷ []) ahead (made.is_of, tt)) agrees.1 in
      subst (λ m. Mirrors m (firsts ++ (new row ∷ (map new rows ++ behind)))) (sym reading)
      (rw (append_assoc front (made.after ∷ []) mirror) at (rw (append_assoc firsts (new row ∷ []) (map new rows ++ behind)) at rest))

-- ---- messages that are gone

module _ (now : List Row) (so : Row → Row) where
  expunged_by : (number : ℕ) (front : Mirror) (firsts : List Row) (seen : Seen) (mirror : Mirror) (row : Row) (rows : List Row) (there : Bool)
      → number ≡ suc (length front)
      → Mirrors (read_lines ((front ++ seen ∷ []) ++ mirror) (expunge_lines now (number + 1) rows)) ((firsts ++ so row ∷ []) ++ map so (rows_there now rows))
      → Mirrors (read_lines (front ++ mirror) (expunge_lines now number rows)) (firsts ++ map so (rows_there now rows))
      → Mirrors
      (read_lines (front ++ seen ∷ mirror) (if there then expunge_lines now (number + 1) rows else Expunge number ∷ expunge_lines now number rows))
      (firsts ++ map so (cond there (row ∷ rows_there now rows) (rows_there now rows)))
  unfolding read_line
  expunged_by number front firsts seen mirror row rows true is stays goes =
      rw (append_assoc front (seen ∷ []) mirror) at (rw (append_assoc firsts (so row ∷ []) (map so (rows_there now rows))) at stays)
  expunged_by number front firsts seen mirror row rows false is stays goes =
      subst (λ (left : Mirror). Mirrors (read_lines left (expunge_lines now number rows)) (firsts ++ map so (rows_there now rows)))
      (sym (ap (λ n. without_number n (front ++ seen ∷ mirror)) is ∙ without_one front seen mirror)) goes

  expunged_mirrors : (number : ℕ) (front : Mirror) (firsts : List Row) (mirror : Mirror) (rows : List Row) → number ≡ suc (length front)
      → Mirrors front firsts → Mirrors mirror (map so rows)
      → Mirrors (read_lines (front ++ mirror) (expunge_lines now number rows)) (firsts ++ map so (rows_there now rows))
  unfolding Mirrors
  expunged_mirrors number front firsts [] [] is ahead agrees = mirrors_both front [] firsts [] ahead tt
  expunged_mirrors number front firsts [] (row ∷ rows) is ahead agrees = absurd agrees
  expunged_mirrors number front firsts (seen ∷ mirror) [] is ahead agrees = absurd agrees
  expunged_mirrors number front firsts (seen ∷ mirror) (row ∷ rows) is ahead agrees =
      expunged_by number front firsts seen mirror row rows (has_row now row.uid) is
      (expunged_mirrors (number + 1) (front ++ seen ∷ []) (firsts ++ so row ∷ []) mirror rows (next_number number front seen is)
      (mirrors_both front (seen ∷ []) firsts (so row ∷ []) ahead (agrees.0, tt)) agrees.1)
      (expunged_mirrors number front firsts mirror rows is ahead agrees.1)

-- ---- new messages

exists_mirrors : (mirror : Mirror) (rows : List Row) (count : ℕ) (behind : List Row) → length mirror ≡ count → Mirrors mirror rows
    → Mirrors (read_lines mirror (exists_lines count (length behind))) (rows ++ behind)
unfolding read_line
exists_mirrors mirror rows count [] is agrees = rw (append-nil rows) agrees
exists_mirrors mirror rows count (row ∷ behind) is agrees =
    let more : (count + suc (length behind)) - length mirror ≡ length (row ∷ behind) = omega (arith, is) in
    subst (λ n. Mirrors (mirror ++ replicate n unseen) (rows ++ row ∷ behind)) (sym more)
    (mirrors_both mirror (replicate (length (row ∷ behind)) unseen) rows (row ∷ behind) agrees (unseen_mirrors (row ∷ behind)))

-- ---- flags that are others now

pub found_uid : (now : List Row) (uid : ℕ) → IfSome (row_at now uid) (λ (it : Row). it.uid ≡ uid)
found_uid [] uid = tt
found_uid (row ∷ now) uid = by (row.uid == uid) refl (found_uid now uid)
  where
    by : (same : Bool) → (row.uid == uid) ≡ same → IfSome (row_at now uid) (λ (it : Row). it.uid ≡ uid)
        → IfSome (cond same (Some row) (row_at now uid)) (λ (it : Row). it.uid ≡ uid)
    by true e rest = grind (arith, nat_tests, e)
    by false e rest = rest

-- a row of the view, or that of the mailbox where it was told already
abbrev pub told_row : Bool → Row → Option Row → Row
told_row false row it = row
told_row true row it = fresh_row row it

abbrev pub row_told : (ℕ → Bool) → List Row → Row → Row
row_told is_told now row = told_row (is_told row.uid) row (row_at now row.uid)

abbrev pub rows_told_by : (ℕ → Bool) → List Row → List Row → List Row
rows_told_by is_told now rows = map (row_told is_told now) rows

changed_by : (front rest : Mirror) (seen : Seen) (number : ℕ) (row it : Row) (same : Bool) → is_same_flags row.flags it.flags ≡ same
    → number ≡ suc (length front) → it.uid ≡ row.uid → IsSeenOf seen row
    → Becomes front rest seen (if not same then Fetch number (flag_parts true it) ∷ [] else []) it
changed_by front rest seen number row it true e is uid so =
    let flags : row.flags ≡ it.flags = (same_flags_decide row.flags it.flags).0 e in
    stays_seen front rest seen it (
      subst (λ n. IfSome seen.uid (λ text. text ≡ uid_text n)) (sym uid) so.0,
      subst (λ f. IfSome seen.flags (λ text. seen.silenced it.uid ≡ false → text ≡ flags_text f)) flags
          (subst (λ n. IfSome seen.flags (λ text. seen.silenced n ≡ false → text ≡ flags_text row.flags)) (sym uid) so.1),
    )
changed_by front rest seen number row it false e is uid so =
    fetch_reads front rest seen (record { uid = Some (uid_text it.uid); flags = Some (flags_text it.flags); silenced = no_uid }) number (flag_parts true it) it is
    refl (refl, λ silent. refl)

changed_one : (is_told : Bool) (front rest : Mirror) (seen : Seen) (number : ℕ) (row : Row) (it : Option Row) → number ≡ suc (length front)
    → IfSome it (λ (r : Row). r.uid ≡ row.uid) → IsSeenOf seen (told_row is_told row it)
    → Becomes front rest seen (changed_line is_told number row it) (fresh_row row it)
changed_one false front rest seen number row None is uid so = stays_seen front rest seen row so
changed_one true front rest seen number row None is uid so = stays_seen front rest seen row so
changed_one true front rest seen number row (Some it) is uid so = stays_seen front rest seen it so
changed_one false front rest seen number row (Some it) is uid so =
    changed_by front rest seen number row it (is_same_flags row.flags it.flags) refl is uid so

abbrev pub line_of : List Row → List ℕ → ℕ → Row → List ReplyLine
line_of now told number row = changed_line (is_among told row.uid) number row (row_at now row.uid)

pub changed_as : (now : List Row) (told : List ℕ) (number : ℕ) (rows : List Row) → changed_lines now told number rows ≡ lines_by (line_of now told) number rows
changed_as now told number [] = refl
changed_as now told number (row ∷ rows) = ap (λ lines. line_of now told number row ++ lines) (changed_as now told (number + 1) rows)

-- ---- all of them

told_mirrors : (lines : List ReplyLine) (rows now : List Row) (told : List ℕ) (mirror : Mirror)
    → Mirrors (read_lines mirror lines) (rows_told_by (is_among told) now rows)
    → Mirrors (read_lines mirror (told_of lines rows now told).lines) (told_of lines rows now told).rows
unfolding Mirrors
told_mirrors lines rows now told mirror agrees =
    let behind = rows_behind rows now in
    let more = exists_lines (length rows) (length behind) in
    let others = changed_lines now told 1 rows in
    let before : Mirror = read_lines mirror lines in
    let count : length before ≡ length rows = mirrors_length before (rows_told_by (is_among told) now rows) agrees ∙ length-map rows _ in
    let counted : Mirrors (read_lines before more) (rows_told_by (is_among told) now rows ++ behind) =
    exists_mirrors before (rows_told_by (is_among told) now rows) (length rows) behind count agrees in
    let all = walked (line_of now told) (row_told (is_among told) now) (λ row. fresh_row row (row_at now row.uid))
    (λ front rest seen number row is so. changed_one (is_among told row.uid) front rest seen number row (row_at now row.uid) is (found_uid now row.uid) so)
    1 [] [] (read_lines before more) rows behind refl tt counted in
    let reading : read_lines mirror (lines ++ (more ++ others)) ≡ read_lines (read_lines before more) (lines_by (line_of now told) 1 rows) =
    read_both mirror lines (more ++ others) ∙ read_both before more others ∙ ap (read_lines (read_lines before more)) (changed_as now told 1 rows) in
    subst (λ m. Mirrors m (fresh_rows now rows ++ behind)) (sym reading) all

-- the news behind a command's own lines, which told the flags of some messages
pub news_mirrors : (own : List ReplyLine) (rows now : List Row) (expunges : Bool) (told : List ℕ) (mirror : Mirror)
    → Mirrors (read_lines mirror own) (rows_told_by (is_among told) now rows)
    → Mirrors (read_lines mirror (own ++ (news rows now expunges told).lines)) (news rows now expunges told).rows
unfolding news Mirrors
news_mirrors own rows now true told mirror agrees =
    subst (λ m. Mirrors m (news rows now true told).rows) (sym (read_both mirror own (news rows now true told).lines))
    (told_mirrors (expunge_lines now 1 rows) (rows_there now rows) now told (read_lines mirror own)
    (expunged_mirrors now (row_told (is_among told) now) 1 [] [] (read_lines mirror own) rows refl tt agrees))
news_mirrors own rows now false told mirror agrees =
    subst (λ m. Mirrors m (news rows now false told).rows) (sym (read_both mirror own (news rows now false told).lines))
    (told_mirrors [] rows now told (read_lines mirror own) agrees)

-- The numbers that a client derives from the news that it is told are those of its view.
use Rattle.std.proofs.Common.{◌≡◌, ℕ, suc, ◌+◌, ◌-◌, Bool, true, false, cond, List, [], ◌∷◌, ◌++◌, length, replicate, if◌then◌else◌, not, ◌&&◌}
use Rattle.std.proofs.Common.{nat_eq, Option, None, Some, refl, ap, ◌∙◌, sym, subst, ap₂, arith, IfOk, Result, Ok, Err}
use Rattle.std.proofs.Common.{append_assoc, append-nil, length-append}
use Rattle.std.proofs.lemmas.Grind.{common_steps}
use Rattle.std.proofs.lemmas.List.{length-map, map-append}
use Rattle.mail_message.specs.declared.message.Row.{Row}
use Rattle.imap_types.specs.declared.reply.ReplyLine.{ReplyLine}
use Rattle.imap_types.specs.declared.reply.ReplyLine.TheVariants.{Expunge, Fetch}
use Rattle.mur_model.specs.declared.news.Told.{Told}
use Rattle.mur_model.specs.ClientView.{Known, without_number, known_after, known_after_all, Agrees, uids}
use Rattle.mur_model.specs.News.{news, told_of, has_row, is_among, expunge_lines, rows_there, rows_behind}
use Rattle.mur_model.specs.News.{exists_lines, changed_lines, changed_line, fresh_rows, fresh_row, flag_parts}
use Rattle.mail_message.specs.SameFlags.{is_same_flags}
use Rattle.std.proofs.lemmas.Bool.Decides.{nat_tests}
use Rattle.mail_message.specs.RowOrder.{row_at}

-- lines one behind another
pub after_both : (known : Known) (lines more : List ReplyLine) → known_after_all known (lines ++ more) ≡ known_after_all (known_after_all known lines) more
after_both known [] more = refl
after_both known (line ∷ lines) more = after_both (known_after known line) lines more

-- the one behind others is taken away by its number
without_one : {A : Type 0} (front : List A) (one : A) (items : List A) → without_number (suc (length front)) (front ++ one ∷ items) ≡ front ++ items
unfolding without_number
without_one [] one items = refl
without_one (first ∷ []) one items = refl
without_one (first ∷ second ∷ front) one items = ap (λ rest. first ∷ rest) (without_one (second ∷ front) one items)

agrees_length : (known : Known) (list : List ℕ) → Agrees known list → length known ≡ length list
unfolding Agrees
agrees_length [] [] agrees = refl
agrees_length [] (uid ∷ list) agrees = elim agrees [ ]
agrees_length (None ∷ known) [] agrees = elim agrees [ ]
agrees_length (Some told ∷ known) [] agrees = elim agrees [ ]
agrees_length (None ∷ known) (uid ∷ list) agrees = ap suc (agrees_length known list agrees)
agrees_length (Some told ∷ known) (uid ∷ list) agrees = ap suc (agrees_length known list agrees.1)

agrees_both : (known more : Known) (list others : List ℕ) → Agrees known list → Agrees more others → Agrees (known ++ more) (list ++ others)
unfolding Agrees
agrees_both [] more [] others agrees agree = agree
agrees_both [] more (uid ∷ list) others agrees agree = elim agrees [ ]
agrees_both (None ∷ known) more [] others agrees agree = elim agrees [ ]
agrees_both (Some told ∷ known) more [] others agrees agree = elim agrees [ ]
agrees_both (None ∷ known) more (uid ∷ list) others agrees agree = agrees_both known more list others agrees agree
agrees_both (Some told ∷ known) more (uid ∷ list) others agrees agree = (agrees.0, agrees_both known more list others agrees.1 agree)

pub nothing_known : (list : List ℕ) → Agrees (replicate (length list) None) list
unfolding Agrees
nothing_known [] = tt
nothing_known (uid ∷ list) = nothing_known list

-- a message that is there joins those in front; of one that is no more the line takes the number away
expunged_by : (now : List Row) (number : ℕ) (front : Known) (list : List ℕ) (one : Option ℕ) (known : Known) (row : Row) (rows : List Row) (there : Bool)
    → number ≡ suc (length front)
    → Agrees (known_after_all ((front ++ one ∷ []) ++ known) (expunge_lines now (number + 1) rows)) ((list ++ row.uid ∷ []) ++ uids (rows_there now rows))
    → Agrees (known_after_all (front ++ known) (expunge_lines now number rows)) (list ++ uids (rows_there now rows))
    → Agrees (known_after_all (front ++ one ∷ known) (if there then expunge_lines now (number + 1) rows else Expunge number ∷ expunge_lines now number rows))
    (list ++ uids (cond there (row ∷ rows_there now rows) (rows_there now rows)))
unfolding known_after
expunged_by now number front list one known row rows true is stays goes =
    rw (append_assoc front (one ∷ []) known) at (rw (append_assoc list (row.uid ∷ []) (uids (rows_there now rows))) at stays)
expunged_by now number front list one known row rows false is stays goes =
    subst (λ (left : Known). Agrees (known_after_all left (expunge_lines now number rows)) (list ++ uids (rows_there now rows)))
    (sym (ap (λ n. without_number n (front ++ one ∷ known)) is ∙ without_one front one known)) goes

next_number : (number : ℕ) (front : Known) (one : Option ℕ) → number ≡ suc (length front) → number + 1 ≡ suc (length (front ++ one ∷ []))
next_number number front one is = grind (arith, common_steps, is, length-append front (one ∷ []))

-- expunged messages behind a front that is told already
expunged_agree : (now : List Row) (number : ℕ) (front : Known) (list : List ℕ) (known : Known) (rows : List Row) → number ≡ suc (length front)
    → Agrees front list → Agrees known (uids rows)
    → Agrees (known_after_all (front ++ known) (expunge_lines now number rows)) (list ++ uids (rows_there now rows))
unfolding Agrees
expunged_agree now number front list [] [] is agree agrees = agrees_both front [] list [] agree tt
expunged_agree now number front list [] (row ∷ rows) is agree agrees = elim agrees [ ]
expunged_agree now number front list (None ∷ known) [] is agree agrees = elim agrees [ ]
expunged_agree now number front list (Some told ∷ known) [] is agree agrees = elim agrees [ ]
expunged_agree now number front list (None ∷ known) (row ∷ rows) is agree agrees =
    expunged_by now number front list None known row rows (has_row now row.uid) is
    (expunged_agree now (number + 1) (front ++ None ∷ []) (list ++ row.uid ∷ []) known rows (next_number number front None is)
    (agrees_both front (None ∷ []) list (row.uid ∷ []) agree tt) agrees)
    (expunged_agree now number front list known rows is agree agrees)
expunged_agree now number front list (Some told ∷ known) (row ∷ rows) is agree agrees =
    expunged_by now number front list (Some told) known row rows (has_row now row.uid) is
    (expunged_agree now (number + 1) (front ++ Some told ∷ []) (list ++ row.uid ∷ []) known rows (next_number number front (Some told) is)
    (agrees_both front (Some told ∷ []) list (row.uid ∷ []) agree (agrees.0, tt)) agrees.1)
    (expunged_agree now number front list known rows is agree agrees.1)

-- new messages are counted
count_is : (known : Known) (rows more : List Row) → Agrees known (uids rows) → (length rows + length more) - length known ≡ length (uids more)
count_is known rows more agrees =
    let same = agrees_length known (uids rows) agrees in
    grind (arith, common_steps, same, length-map rows (λ (row : Row). row.uid), length-map more (λ (row : Row). row.uid))

exists_agree : (known : Known) (rows behind : List Row) → Agrees known (uids rows)
    → Agrees (known_after_all known (exists_lines (length rows) (length behind))) (uids rows ++ uids behind)
unfolding known_after
exists_agree known rows [] agrees = rw (append-nil (uids rows)) agrees
exists_agree known rows (row ∷ behind) agrees =
    rw (count_is known rows (row ∷ behind) agrees)
    (agrees_both known (replicate (length (uids (row ∷ behind))) None) (uids rows) (uids (row ∷ behind)) agrees (nothing_known (uids (row ∷ behind))))

-- a line of flags changes no number
test_same : (test : Bool) (number : ℕ) (parts : List (List ℕ)) (known : Known) (lines : List ReplyLine)
    → known_after_all known ((if test then Fetch number parts ∷ [] else []) ++ lines) ≡ known_after_all known lines
unfolding known_after
test_same true number parts known lines = refl
test_same false number parts known lines = refl

line_same : (is_told : Bool) (number : ℕ) (row : Row) (it : Option Row) (known : Known) (lines : List ReplyLine)
    → known_after_all known (changed_line is_told number row it ++ lines) ≡ known_after_all known lines
line_same is_told number row None known lines = refl
line_same is_told number row (Some it) known lines = test_same (not is_told && not (is_same_flags row.flags it.flags)) number (flag_parts true it) known lines

changed_same : (now : List Row) (told : List ℕ) (number : ℕ) (known : Known) (rows : List Row)
    → known_after_all known (changed_lines now told number rows) ≡ known
changed_same now told number known [] = refl
changed_same now told number known (row ∷ rows) =
    line_same (is_among told row.uid) number row (row_at now row.uid) known (changed_lines now told (number + 1) rows)
    ∙ changed_same now told (number + 1) known rows

-- a row of the mailbox in the place of one of the view has its UID
fresh_by : (other row : Row) (it : Option Row) (same : Bool) → nat_eq other.uid row.uid ≡ same → (fresh_row row it).uid ≡ row.uid
    → (fresh_row row (cond same (Some other) it)).uid ≡ row.uid
fresh_by other row it true is found = grind (arith, nat_tests, is)
fresh_by other row it false is found = found

fresh_uid : (now : List Row) (row : Row) → (fresh_row row (row_at now row.uid)).uid ≡ row.uid
fresh_uid [] row = refl
fresh_uid (other ∷ now) row = fresh_by other row (row_at now row.uid) (nat_eq other.uid row.uid) refl (fresh_uid now row)

pub fresh_uids : (now rows : List Row) → uids (fresh_rows now rows) ≡ uids rows
fresh_uids now [] = refl
fresh_uids now (row ∷ rows) = ap₂ (λ uid list. uid ∷ list) (fresh_uid now row) (fresh_uids now rows)

told_agree : (lines : List ReplyLine) (rows now : List Row) (told : List ℕ) (known : Known) → Agrees (known_after_all known lines) (uids rows)
    → Agrees (known_after_all known (told_of lines rows now told).lines) (uids (told_of lines rows now told).rows)
told_agree lines rows now told known agrees =
    let behind = rows_behind rows now in
    rw (after_both known lines (exists_lines (length rows) (length behind) ++ changed_lines now told 1 rows))
    (rw (after_both (known_after_all known lines) (exists_lines (length rows) (length behind)) (changed_lines now told 1 rows))
    (rw (changed_same now told 1 (known_after_all (known_after_all known lines) (exists_lines (length rows) (length behind))) rows)
    (rw (map-append (λ (row : Row). row.uid) (fresh_rows now rows) behind)
    (rw (fresh_uids now rows) (exists_agree (known_after_all known lines) rows behind agrees)))))

-- a client that knew the numbers of its view knows those of the view behind the news
pub news_agree : (rows now : List Row) (expunges : Bool) (told : List ℕ) (known : Known) → Agrees known (uids rows)
    → Agrees (known_after_all known (news rows now expunges told).lines) (uids (news rows now expunges told).rows)
unfolding news Agrees
news_agree rows now true told known agrees =
    told_agree (expunge_lines now 1 rows) (rows_there now rows) now told known (expunged_agree now 1 [] [] known rows refl tt agrees)
news_agree rows now false told known agrees = told_agree [] rows now told known agrees

pub client_of : {E : Type 0} (result : Result Told E) (rows now : List Row) (expunges : Bool) (told : List ℕ)
    → IfOk result (λ it. it ≡ news rows now expunges told)
    → IfOk result (λ it. (known : Known) → Agrees known (uids rows) → Agrees (known_after_all known it.lines) (uids it.rows))
client_of (Ok it) rows now expunges told is =
    λ known agrees. subst (λ (t : Told). Agrees (known_after_all known t.lines) (uids t.rows)) (sym is) (news_agree rows now expunges told known agrees)
client_of (Err fault) rows now expunges told is = is

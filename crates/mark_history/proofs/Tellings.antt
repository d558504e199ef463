-- Of each command that a client was told of, one mark tells it, and those that stand behind it only saw the command; each mark is of a command that was
-- asked.
use Rattle.std.proofs.Common.{◌≡◌, ◌≢◌, ◌⊎◌, inl, inr, ℕ, zero, suc, ◌+◌, ◌≤◌, ◌<◌, Bool, true, false, List, [], ◌∷◌, ◌++◌, length, Some, refl, sym}
use Rattle.std.proofs.Common.{◌∙◌, ap, subst, arith, length-append}
use Rattle.std.specs.Prelude.{All, AllPairs, Contains}
use Rattle.std.proofs.Math.Logic.{⊎_elim}
use Rattle.std.proofs.lemmas.Bool.{cases_eq}
use Rattle.std.proofs.lemmas.List.Elements.{All-push, All-weaker, Contains-append_left, Contains-push}
use Rattle.std.proofs.lemmas.Option.{slice_get_within}
use Rattle.link_msg.specs.declared.counts.Counts.TheVariants.{IfAnswered}
use Rattle.imap_types.specs.declared.reply.NoText.TheVariants.{BeingMoved, NotReached}
use Rattle.imap_types.specs.declared.request.Answer.{Answer}
use Rattle.imap_types.specs.declared.request.Request.{Request}
use Rattle.mur_model.specs.declared.setting.Setting.{Setting}
use Rattle.mur_model.specs.History.{GoesOn, numbered}
use Rattle.mark_history.specs.declared.mark.Mark.{Mark}
use Rattle.mark_history.specs.declared.mark.MarkKind.{MarkKind}
use Rattle.mark_history.specs.declared.mark.MarkKind.TheVariants.{Home, Told}
use Rattle.mark_history.specs.Marked.{AreMarked, Tale, acting, asking, done, first_tale, mark_now, refusal, refusing, telling, with_list}
use Rattle.mark_history.specs.Marked.AreMarked.{nothing, a_step, asks, sees, sees_late, carries_out, tells, tells_at_once, refuses, refuses_at_once, takes_back}
use Rattle.mark_history.proofs.Marks.{marks_push}
use Rattle.mark_history.proofs.Tally.{command_of, conn_of}
use Rattle.mark_history.proofs.TakenBack.{list_at, list_elsewhere}

-- whether a mark tells the client of its command
unfoldable pub tells_client : MarkKind → Bool
tells_client (Home counts) = false
tells_client (Told how) = true

-- behind it one of the command, or of an earlier one, counts only if the client is told
abbrev pub EndsTelling : Mark → Mark → Type 0
EndsTelling earlier later = tells_client earlier.kind ≡ true → conn_of earlier ≡ conn_of later → command_of later ≤ command_of earlier
    → later.kind ≡ Home IfAnswered

-- among the marks is one that tells of this command
pub record IsToldAmong (marks : List Mark) (conn number : ℕ) : Type 0 where
  pub mark : Mark
  pub there : Contains marks mark
  pub tells : tells_client mark.kind ≡ true
  pub its_conn : conn_of mark ≡ conn
  pub its_number : command_of mark ≡ number

pub record HasTellings (marks : List Mark) (tale : Tale) : Type 0 where
  pub ends : AllPairs EndsTelling marks
  pub low : All (λ (m : Mark). tells_client m.kind ≡ true → command_of m ≤ length (tale.told (conn_of m))) marks
  pub from_one : All (λ (m : Mark). command_of m ≡ 0 → m.kind ≡ Home IfAnswered) marks
  pub asked : All (λ (m : Mark). command_of m ≤ length (tale.talk.requests (conn_of m))) marks
  pub each : (conn number : ℕ) → 0 < number → number ≤ length (tale.told conn) → IsToldAmong marks conn number
  -- no more was told, and no more was replied, than asked
  pub told_few : (conn : ℕ) → length (tale.told conn) ≤ length (tale.talk.requests conn)
  pub replied : (conn : ℕ) → length (tale.talk.answers conn) ≤ length (tale.talk.requests conn)

-- ---- the open command was asked

pub numbered_within : {T : Type 0} (items : List T) (number : ℕ) (item : T) → numbered items number ≡ Some item → number ≤ length items
unfolding numbered
numbered_within items zero item e = omega arith
numbered_within items (suc number) item e = omega (arith, slice_get_within items number item e)

-- ---- a mark of it is put behind

-- what was told and then is, by whether the mark tells it
pub record TellsBy (tells : Bool) (tale next : Tale) (conn : ℕ) : Type 0 where
  pub requests : next.talk.requests ≡ tale.talk.requests
  pub more : (other : ℕ) → length (tale.told other) ≤ length (next.told other)
  pub own : tells ≡ true → length (next.told conn) ≡ length (tale.told conn) + 1
  pub only : (other number : ℕ) → number ≤ length (next.told other)
      → (number ≤ length (tale.told other)) ⊎ ((tells ≡ true) × (other ≡ conn) × (number ≡ length (tale.told conn) + 1))

module _ (now : ℕ) (marks : List Mark) (tale next : Tale) (conn : ℕ) (kind : MarkKind) (has : HasTellings marks tale)
    (by : TellsBy (tells_client kind) tale next conn) (is_asked : length (tale.told conn) < length (tale.talk.requests conn))
    (replied : (other : ℕ) → length (next.talk.answers other) ≤ length (next.talk.requests other)) where
  abbrev mark : Mark
  mark = mark_now now tale conn kind

  asked_now : (other : ℕ) → length (tale.talk.requests other) ≡ length (next.talk.requests other)
  asked_now other = ap (λ (r : ℕ → List Request). length (r other)) (sym by.requests)

  told_before : (other number : ℕ) → 0 < number → number ≤ length (tale.told other) → IsToldAmong (marks ++ mark ∷ []) other number
  told_before other number above low =
      let its = has.each other number above low in
      record {
        mark = its.mark;
        there = Contains-append_left marks (mark ∷ []) its.mark its.there;
        tells = its.tells;
        its_conn = its.its_conn;
        its_number = its.its_number;
      }

  pub put_behind : HasTellings (marks ++ mark ∷ []) next
  put_behind = record {
    ends = marks_push EndsTelling marks mark has.ends
        (λ k d h. λ tells same behind. absurd (omega (arith, behind, has.low k d h tells, ap (λ c. length (tale.told c)) same)));
    low = All-push (λ (m : Mark). tells_client m.kind ≡ true → command_of m ≤ length (next.told (conn_of m))) marks mark
        (All-weaker (λ (m : Mark). tells_client m.kind ≡ true → command_of m ≤ length (tale.told (conn_of m)))
        (λ (m : Mark). tells_client m.kind ≡ true → command_of m ≤ length (next.told (conn_of m)))
        (λ m h tells. omega (arith, h tells, by.more (conn_of m))) marks has.low)
        (λ tells. omega (arith, by.own tells));
    from_one = All-push (λ (m : Mark). command_of m ≡ 0 → m.kind ≡ Home IfAnswered) marks mark has.from_one (λ none. absurd (omega (arith, none)));
    asked = All-push (λ (m : Mark). command_of m ≤ length (next.talk.requests (conn_of m))) marks mark
        (All-weaker (λ (m : Mark). command_of m ≤ length (tale.talk.requests (conn_of m)))
        (λ (m : Mark). command_of m ≤ length (next.talk.requests (conn_of m)))
        (λ m h. omega (arith, h, asked_now (conn_of m))) marks has.asked)
        (omega (arith, is_asked, asked_now conn));
    each = λ other number above low. ⊎_elim
        (λ (early : number ≤ length (tale.told other)). told_before other number above early)
        (λ (its : (tells_client kind ≡ true) × (other ≡ conn) × (number ≡ length (tale.told conn) + 1)).
        record { mark = mark; there = Contains-push marks mark; tells = its.0; its_conn = sym its.1; its_number = sym its.2 })
        (by.only other number low);
    told_few = λ other. ⊎_elim
        (λ (early : length (next.told other) ≤ length (tale.told other)). omega (arith, early, has.told_few other, asked_now other))
        (λ (its : (tells_client kind ≡ true) × (other ≡ conn) × (length (next.told other) ≡ length (tale.told conn) + 1)).
        omega (arith, its.2, is_asked, asked_now conn, ap (λ c. length (next.talk.requests c)) its.1))
        (by.only other (length (next.told other)) (omega arith));
    replied = replied;
  }

-- ---- a mark of a command of which its client was told is put behind

low_asked : (marks : List Mark) (tale : Tale) → HasTellings marks tale → (mark : Mark) → command_of mark ≤ length (tale.told (conn_of mark))
    → command_of mark ≤ length (tale.talk.requests (conn_of mark))
low_asked marks tale has mark low = omega (arith, low, has.told_few (conn_of mark))

home_tells : (kind : MarkKind) → kind ≡ Home IfAnswered → tells_client kind ≡ true → ⊥
unfolding tells_client
home_tells (Home counts) late told = cc
home_tells (Told how) late told = cc

put_late : (marks : List Mark) (tale : Tale) (mark : Mark) → mark.kind ≡ Home IfAnswered → command_of mark ≤ length (tale.told (conn_of mark))
    → HasTellings marks tale → HasTellings (marks ++ mark ∷ []) tale
put_late marks tale mark late low has = record {
  ends = marks_push EndsTelling marks mark has.ends (λ k d h. λ tells same behind. late);
  low = All-push (λ (m : Mark). tells_client m.kind ≡ true → command_of m ≤ length (tale.told (conn_of m))) marks mark has.low
      (λ tells. absurd (home_tells mark.kind late tells));
  from_one = All-push (λ (m : Mark). command_of m ≡ 0 → m.kind ≡ Home IfAnswered) marks mark has.from_one (λ none. late);
  asked = All-push (λ (m : Mark). command_of m ≤ length (tale.talk.requests (conn_of m))) marks mark has.asked (low_asked marks tale has mark low);
  each = λ other number above told.
      let its = has.each other number above told in
      record {
        mark = its.mark;
        there = Contains-append_left marks (mark ∷ []) its.mark its.there;
        tells = its.tells;
        its_conn = its.its_conn;
        its_number = its.its_number;
      };
  told_few = has.told_few;
  replied = has.replied;
}

-- ---- what is told

tells_nothing : (tale next : Tale) (conn : ℕ) → next.talk.requests ≡ tale.talk.requests → next.told ≡ tale.told → TellsBy false tale next conn
tells_nothing tale next conn requests told = record {
  requests = requests;
  more = λ other. omega (arith, ap (λ (t : ℕ → List Answer). length (t other)) told);
  own = λ t. cc;
  only = λ other number low. inl (omega (arith, low, ap (λ (t : ℕ → List Answer). length (t other)) told));
}

told_at : (tale : Tale) (conn : ℕ) (answer : Answer) (other : ℕ) → other ≡ conn
    → length (with_list tale.told conn (tale.told conn ++ answer ∷ []) other) ≡ length (tale.told conn) + 1
told_at tale conn answer other same =
    ap length (ap (with_list tale.told conn (tale.told conn ++ answer ∷ [])) same ∙ list_at tale.told conn (tale.told conn ++ answer ∷ []))
    ∙ length-append (tale.told conn) (answer ∷ [])

tells_one : (tale : Tale) (next : Tale) (conn : ℕ) (answer : Answer) → next.talk.requests ≡ tale.talk.requests
    → next.told ≡ with_list tale.told conn (tale.told conn ++ answer ∷ []) → TellsBy true tale next conn
tells_one tale next conn answer requests told =
    let at : (other : ℕ) → length (next.told other) ≡ length (with_list tale.told conn (tale.told conn ++ answer ∷ []) other) =
    λ other. ap (λ (t : ℕ → List Answer). length (t other)) told in
    record {
      requests = requests;
      more = λ other. ⊎_elim
          (λ (e : other ≡ conn). omega (arith, at other, told_at tale conn answer other e, ap (λ c. length (tale.told c)) e))
          (λ (ne : other ≢ conn). omega (arith, at other, ap length (list_elsewhere tale.told conn (tale.told conn ++ answer ∷ []) other ne)))
          (cases_eq other conn);
      own = λ t. at conn ∙ told_at tale conn answer conn refl;
      only = λ other number low. ⊎_elim
          (λ (e : other ≡ conn). ⊎_elim
          (λ (last : number ≡ length (tale.told conn) + 1). inr (refl, e, last))
          (λ (early : number ≢ length (tale.told conn) + 1).
          inl (omega (arith, low, early, at other, told_at tale conn answer other e, ap (λ c. length (tale.told c)) e)))
          (cases_eq number (length (tale.told conn) + 1)))
          (λ (ne : other ≢ conn).
          inl (omega (arith, low, at other, ap length (list_elsewhere tale.told conn (tale.told conn ++ answer ∷ []) other ne))))
          (cases_eq other conn);
    }

-- ---- what is replied

said_now : (tale : Tale) (conn : ℕ) (answer : Answer) → length (tale.told conn) < length (tale.talk.requests conn)
    → ((other : ℕ) → length (tale.talk.answers other) ≤ length (tale.talk.requests other)) → (other : ℕ)
    → length (with_list tale.talk.answers conn (tale.told conn ++ answer ∷ []) other) ≤ length (tale.talk.requests other)
said_now tale conn answer asked replied other = ⊎_elim
    (λ (e : other ≡ conn). omega (
      arith,
      asked,
      ap length (ap (with_list tale.talk.answers conn (tale.told conn ++ answer ∷ [])) e ∙ list_at tale.talk.answers conn (tale.told conn ++ answer ∷ [])),
      length-append (tale.told conn) (answer ∷ []),
      ap (λ c. length (tale.talk.requests c)) e,
    ))
    (λ (ne : other ≢ conn).
    omega (arith, replied other, ap length (list_elsewhere tale.talk.answers conn (tale.told conn ++ answer ∷ []) other ne)))
    (cases_eq other conn)

said_back : (tale : Tale) (conn : ℕ) (answer : Answer) → tale.talk.answers conn ≡ tale.told conn ++ answer ∷ []
    → ((other : ℕ) → length (tale.talk.answers other) ≤ length (tale.talk.requests other)) → (other : ℕ)
    → length (with_list tale.talk.answers conn (tale.told conn) other) ≤ length (tale.talk.requests other)
said_back tale conn answer untold replied other = ⊎_elim
    (λ (e : other ≡ conn). omega (
      arith,
      replied conn,
      ap length untold,
      ap length (ap (with_list tale.talk.answers conn (tale.told conn)) e ∙ list_at tale.talk.answers conn (tale.told conn)),
      length-append (tale.told conn) (answer ∷ []),
      ap (λ c. length (tale.talk.requests c)) e,
    ))
    (λ (ne : other ≢ conn). omega (arith, replied other, ap length (list_elsewhere tale.talk.answers conn (tale.told conn) other ne)))
    (cases_eq other conn)

-- ---- whatever is made

no_client : (counts : _) → tells_client (Home counts) ≡ false
unfolding tells_client
no_client counts = refl

a_client : (how : _) → tells_client (Told how) ≡ true
unfolding tells_client
a_client how = refl

none_told : (moving : ℕ → List ℕ → Bool) → HasTellings [] (first_tale moving)
none_told moving = record {
  ends = λ i j d h k. absurd (omega arith);
  low = λ k d h. absurd (omega arith);
  from_one = λ k d h. absurd (omega arith);
  asked = λ k d h. absurd (omega arith);
  each = λ conn number above low. absurd (omega arith);
  told_few = λ conn. omega arith;
  replied = λ conn. omega arith;
}

more_asked : (marks : List Mark) (tale : Tale) (requests : ℕ → List Request) → GoesOn tale.talk.requests requests → HasTellings marks tale
    → HasTellings marks (asking tale requests)
more_asked marks tale requests more has =
    let longer : (other : ℕ) → length (tale.talk.requests other) ≤ length (requests other) =
    λ other. omega (arith, ap length (more.parts other), length-append (tale.talk.requests other) (more.more other)) in
    record {
      ends = has.ends;
      low = has.low;
      from_one = has.from_one;
      asked = All-weaker (λ (m : Mark). command_of m ≤ length (tale.talk.requests (conn_of m))) (λ (m : Mark). command_of m ≤ length (requests (conn_of m)))
          (λ m h. omega (arith, h, longer (conn_of m))) marks has.asked;
      each = has.each;
      told_few = λ other. omega (arith, has.told_few other, longer other);
      replied = λ other. omega (arith, has.replied other, longer other);
    }

pub has_tellings : (setting : Setting) (now : ℕ) (marks : List Mark) (tale : Tale) → AreMarked setting now marks tale → HasTellings marks tale
has_tellings setting now marks tale (nothing moving) = none_told moving
has_tellings setting now marks tale (a_step earlier later those its le made) = has_tellings setting earlier those its made
has_tellings setting now marks tale (asks at those its requests more made) =
    more_asked those its requests more (has_tellings setting at those its made)
has_tellings setting now marks tale (sees at those its conn request unreplied asked made) =
    let before = has_tellings setting at those its made in
    put_behind at those its its conn (Home _) before
    (subst (λ b. TellsBy b its its conn) (sym (no_client _)) (tells_nothing its its conn refl refl))
    (omega (arith, numbered_within (its.talk.requests conn) (length (its.told conn) + 1) request asked)) before.replied
has_tellings setting now marks tale (sees_late at those its id low made) =
    put_late those its (record { step = at; ask = id; kind = Home IfAnswered }) refl low (has_tellings setting at those its made)
has_tellings setting now marks tale (carries_out at those its conn counts request serial can unless made) =
    let before = has_tellings setting at those its made in
    let open_asked : length (its.told conn) < length (its.talk.requests conn) =
    omega (arith, numbered_within (its.talk.requests conn) (length (its.told conn) + 1) request can.asked) in
    put_behind at those its (acting setting its conn request serial) conn (Home counts) before
    (subst (λ b. TellsBy b its (acting setting its conn request serial) conn) (sym (no_client counts))
    (tells_nothing its (acting setting its conn request serial) conn refl refl)) open_asked
    (said_now its conn (done setting its conn request serial).answer open_asked before.replied)
has_tellings setting now marks tale (tells at those its conn answer untold made) =
    let before = has_tellings setting at those its made in
    put_behind at those its (telling its conn answer) conn (Told _) before
    (subst (λ b. TellsBy b its (telling its conn answer) conn) (sym (a_client _)) (tells_one its (telling its conn answer) conn answer refl refl))
    (omega (arith, before.replied conn, ap length untold, length-append (its.told conn) (answer ∷ []))) before.replied
has_tellings setting now marks tale (tells_at_once at those its conn request serial can alone made) =
    let before = has_tellings setting at those its made in
    let answer : Answer = (done setting its conn request serial).answer in
    let open_asked : length (its.told conn) < length (its.talk.requests conn) =
    omega (arith, numbered_within (its.talk.requests conn) (length (its.told conn) + 1) request can.asked) in
    put_behind at those its (telling (acting setting its conn request serial) conn answer) conn (Told _) before
    (subst (λ b. TellsBy b its (telling (acting setting its conn request serial) conn answer) conn) (sym (a_client _))
    (tells_one its (telling (acting setting its conn request serial) conn answer) conn answer refl refl)) open_asked
    (said_now its conn answer open_asked before.replied)
has_tellings setting now marks tale (refuses at those its conn tag it serial can made) =
    let before = has_tellings setting at those its made in
    let answer : Answer = (refusal its conn tag it BeingMoved).answer in
    let open_asked : length (its.told conn) < length (its.talk.requests conn) =
    omega (arith, numbered_within (its.talk.requests conn) (length (its.told conn) + 1) _ can.refused.asked) in
    put_behind at those its (telling (refusing its conn tag it BeingMoved serial) conn answer) conn (Told _) before
    (subst (λ b. TellsBy b its (telling (refusing its conn tag it BeingMoved serial) conn answer) conn) (sym (a_client _))
    (tells_one its (telling (refusing its conn tag it BeingMoved serial) conn answer) conn answer refl refl)) open_asked
    (said_now its conn answer open_asked before.replied)
has_tellings setting now marks tale (refuses_at_once at those its conn tag it node serial can made) =
    let before = has_tellings setting at those its made in
    let answer : Answer = (refusal its conn tag it NotReached).answer in
    let open_asked : length (its.told conn) < length (its.talk.requests conn) =
    omega (arith, numbered_within (its.talk.requests conn) (length (its.told conn) + 1) _ can.refused.asked) in
    put_behind at those its (telling (refusing its conn tag it NotReached serial) conn answer) conn (Told _) before
    (subst (λ b. TellsBy b its (telling (refusing its conn tag it NotReached serial) conn answer) conn) (sym (a_client _))
    (tells_one its (telling (refusing its conn tag it NotReached serial) conn answer) conn answer refl refl)) open_asked
    (said_now its conn answer open_asked before.replied)
has_tellings setting now marks tale (takes_back at those its conn answer untold last made) =
    let before = has_tellings setting at those its made in
    record {
      ends = before.ends;
      low = before.low;
      from_one = before.from_one;
      asked = before.asked;
      each = before.each;
      told_few = before.told_few;
      replied = said_back its conn answer untold before.replied;
    }

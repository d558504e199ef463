-- What was said as far as it can't be taken back: the history is legal for it, and it goes on whatever is taken back.
use Rattle.std.proofs.Common.{◌≡◌, ℕ, zero, suc, ◌≤◌, ◌<◌, List, [], ◌∷◌, ◌++◌, length, take, refl, ◌∙◌, ap, arith, length-append}
use Rattle.std.specs.Prelude.{All, slice_get}
use Rattle.std.proofs.lemmas.List.{take-append-le, take-take}
use Rattle.std.proofs.lemmas.List.Elements.{All-head, All-tail, All-weaker}
use Rattle.mur_base.specs.declared.point.Point.{Point}
use Rattle.mur_model.specs.declared.setting.Setting.{Setting}
use Rattle.mur_model.specs.History.{Course, Follows, GoesOn, Talk, TalkGoesOn, numbered}
use Rattle.mur_model.specs.History.Follows.{no_points, a_reply, a_loss, a_refusal}
use Rattle.mark_history.specs.declared.mark.Mark.{Mark}
use Rattle.mark_history.specs.History.{points_of}
use Rattle.mark_history.specs.Marked.{AreMarked, IsLegalTo, Tale, talk_told}
use Rattle.mark_history.proofs.MarkLaw.{holds, legal_histories}
use Rattle.mark_history.proofs.Settled.{points_settled, settled, settled_goes_on, settled_said}

abbrev pub settled_serials : List Mark → Tale → ℕ → List ℕ
settled_serials marks tale conn = take (settled marks tale conn) (tale.talk.serials conn)

-- what the clients asked and were told, and what was given to commands whose reply can't be taken back
abbrev pub settled_talk : List Mark → Tale → Talk
settled_talk marks tale =
    record { requests = tale.talk.requests; answers = tale.told; serials = settled_serials marks tale; moving = tale.talk.moving }

-- ---- fronts of lists

get_taken : {T : Type 0} (items : List T) (count k : ℕ) → k < count → slice_get (take count items) k ≡ slice_get items k
get_taken items zero k low = absurd (omega (arith, low))
get_taken [] (suc count) k low = refl
get_taken (item ∷ items) (suc count) zero low = refl
get_taken (item ∷ items) (suc count) (suc k) low = get_taken items count k (omega (arith, low))

numbered_taken : {T : Type 0} (items : List T) (count number : ℕ) → number ≤ count → numbered (take count items) number ≡ numbered items number
unfolding numbered
numbered_taken items count zero low = refl
numbered_taken items count (suc number) low = get_taken items count number (omega (arith, low))

-- a longer front goes on from a shorter one
taken_more : {T : Type 0} (items : List T) (one other : ℕ) → one ≤ other → (more : List T) × (take other items ≡ take one items ++ more)
taken_more items zero other le = (take other items, refl)
taken_more items (suc one) zero le = absurd (omega (arith, le))
taken_more [] (suc one) (suc other) le = ([], refl)
taken_more (item ∷ items) (suc one) (suc other) le =
    let rest = taken_more items one other (omega (arith, le)) in (rest.0, ap (λ l. item ∷ l) rest.1)

-- ---- the history is legal for it

abbrev with_serials : Talk → (ℕ → List ℕ) → Talk
with_serials talk serials = record { requests = talk.requests; answers = talk.answers; serials = serials; moving = talk.moving }

-- what was given to the command of a point is among these
abbrev HasItsSerial : Talk → (ℕ → List ℕ) → Point → Type 0
HasItsSerial talk serials point = numbered (serials point.ask.conn) point.ask.command ≡ numbered (talk.serials point.ask.conn) point.ask.command

follows_with : (setting : Setting) (talk : Talk) (serials : ℕ → List ℕ) (first last : Course) (points : List Point) → All (HasItsSerial talk serials) points
    → Follows setting talk first points last → Follows setting (with_serials talk serials) first points last
follows_with setting talk serials first last points has (no_points course) = no_points course
follows_with setting talk serials first last points has (a_reply course end step conn number request serial rest takes answer later) =
    a_reply course end step conn number request serial rest
    (record { asked = takes.asked; given = All-head (HasItsSerial talk serials) _ rest has ∙ takes.given; free = takes.free }) answer
    (follows_with setting talk serials _ end rest (All-tail (HasItsSerial talk serials) _ rest has) later)
follows_with setting talk serials first last points has (a_loss course end step conn number request serial rest takes later) =
    a_loss course end step conn number request serial rest
    (record { asked = takes.asked; given = All-head (HasItsSerial talk serials) _ rest has ∙ takes.given; free = takes.free })
    (follows_with setting talk serials _ end rest (All-tail (HasItsSerial talk serials) _ rest has) later)
follows_with setting talk serials first last points has (a_refusal course end step conn number tag it what why rest refused answer later) =
    a_refusal course end step conn number tag it what why rest (record { asked = refused.asked; cause = refused.cause; may = refused.may }) answer
    (follows_with setting talk serials _ end rest (All-tail (HasItsSerial talk serials) _ rest has) later)

pub legal_settled : (setting : Setting) (now : ℕ) (marks : List Mark) (tale : Tale) → AreMarked setting now marks tale
    → IsLegalTo setting (settled_talk marks tale) (points_of marks) tale.course.store
legal_settled setting now marks tale made =
    let its = legal_histories setting now marks tale made in
    record {
      last = its.last;
      same_store = its.same_store;
      legal = record {
        follows = follows_with setting (talk_told tale) (settled_serials marks tale) _ its.last (points_of marks)
            (All-weaker (λ (p : Point). p.ask.command ≤ settled marks tale p.ask.conn) (HasItsSerial (talk_told tale) (settled_serials marks tale))
            (λ p low. numbered_taken (tale.talk.serials p.ask.conn) (settled marks tale p.ask.conn) p.ask.command low)
            (points_of marks) (points_settled setting now marks tale made)) its.legal.follows;
        answered_once = its.legal.answered_once;
        lost_unanswered = its.legal.lost_unanswered;
        lost_once = its.legal.lost_once;
        lost_last = its.legal.lost_last;
        never_read = its.legal.never_read;
        in_order = its.legal.in_order;
      };
    }

-- ---- it goes on

-- more was given to commands of a connection, or what was given to one whose reply was taken back was taken back with it
pub data SerialsGoOn (tale longer : Tale) (conn : ℕ) : Type 0 where
  more_given : (more : List ℕ) → longer.talk.serials conn ≡ tale.talk.serials conn ++ more → SerialsGoOn tale longer conn
  taken_back : longer.talk.serials conn ≡ take (length (longer.talk.answers conn)) (tale.talk.serials conn) → SerialsGoOn tale longer conn

module _ (setting : Setting) (now later : ℕ) (marks more : List Mark) (tale longer : Tale) (made : AreMarked setting now marks tale)
    (last : AreMarked setting later (marks ++ more) longer) (requests : GoesOn tale.talk.requests longer.talk.requests) (told : GoesOn tale.told longer.told)
    (moving : longer.talk.moving ≡ tale.talk.moving) (serials : (conn : ℕ) → SerialsGoOn tale longer conn) where
  rises : (conn : ℕ) → settled marks tale conn ≤ settled (marks ++ more) longer conn
  rises conn = settled_goes_on setting now later marks more tale longer made last conn
      (omega (arith, ap length (told.parts conn), length-append (tale.told conn) (told.more conn)))

  given : (conn : ℕ) → settled marks tale conn ≤ length (tale.talk.serials conn)
  given conn = omega (arith, settled_said setting now marks tale made conn, (holds setting now marks tale made).law.is_told.serials conn)

  same_front : (conn : ℕ) → SerialsGoOn tale longer conn
      → take (settled marks tale conn) (longer.talk.serials conn) ≡ take (settled marks tale conn) (tale.talk.serials conn)
  same_front conn (more_given rest parts) =
      ap (take (settled marks tale conn)) parts ∙ take-append-le (settled marks tale conn) (tale.talk.serials conn) rest (given conn)
  same_front conn (taken_back is) =
      ap (take (settled marks tale conn)) is
      ∙ take-take (settled marks tale conn) (length (longer.talk.answers conn)) (tale.talk.serials conn)
      (omega (arith, rises conn, settled_said setting later (marks ++ more) longer last conn))

  goes_on_at : (conn : ℕ) → (rest : List ℕ) × (settled_serials (marks ++ more) longer conn ≡ settled_serials marks tale conn ++ rest)
  goes_on_at conn =
      let its = taken_more (longer.talk.serials conn) (settled marks tale conn) (settled (marks ++ more) longer conn) (rises conn) in
      (its.0, its.1 ∙ ap (λ l. l ++ its.0) (same_front conn (serials conn)))

  pub settled_talk_goes_on : TalkGoesOn (settled_talk marks tale) (settled_talk (marks ++ more) longer)
  settled_talk_goes_on = record {
    requests = requests;
    answers = told;
    serials = record { more = λ conn. (goes_on_at conn).0; parts = λ conn. (goes_on_at conn).1 };
    moving = moving;
  }

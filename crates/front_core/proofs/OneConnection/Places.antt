-- Where a command of a connection is: nowhere, or in one message on one link.
use Rattle.std.proofs.Common.{◌≡◌, ◌≢◌, ◌⊎◌, inl, inr, ◌&&◌, ℕ, ◌≤◌, ◌<◌, Bool, true, false, not, nat_eq, nat_lt, cond, List, [], ◌∷◌, filter, Option, None, Some, refl, sym, ◌∙◌, ap, eqb-true, arith}
use Rattle.std.proofs.lemmas.Bool.Decides.{nat_tests}
use Rattle.link_msg.specs.declared.answer.BackAnswer.{BackAnswer}
use Rattle.link_msg.specs.declared.ask.FrontAsk.{FrontAsk}
use Rattle.link_msg.specs.declared.message.LinkMsg.{LinkMsg}
use Rattle.link_msg.specs.declared.message.LinkMsg.TheVariants.{Up, End, Line, Ask, Answer}
use Rattle.feed_core.specs.Stream.{update_line, update_tag}
use Rattle.grammar.proofs.Conditions.{and_left, and_right, not_true}
use Rattle.mupdate_codec.specs.declared.command.MCommand.TheVariants as command
use Rattle.mupdate_codec.specs.Asks.{ask_id_of, first_word, line_ask, split_dash}
use Rattle.mupdate_codec.specs.Tags.{mupdate_tag_text}
use Rattle.mupdate_codec.proofs.LineAsks.{command_under}
use Rattle.mur_base.specs.declared.point.AskId.{AskId}
use Rattle.link_queue.specs.Links.{Links, on_link, sent, without_first}
use Rattle.link_queue.proofs.Placed.{Carried, IsFound, another_sent, own_sent, another_taken, own_first, none_on_empty}

-- whom a message is about
pub data About : Type 0 where
  of_connection : ℕ → About
  of_nobody : About

-- a client's command is about its connection
abbrev pub about_command : Option AskId → About
about_command None = of_nobody
about_command (Some ask) = of_connection ask.conn

-- a line is about the command that its tag tells
abbrev pub about : LinkMsg → About
about (Ask ask) = of_connection (ask.id).conn
about (Answer answer) = of_connection (answer.id).conn
about Up = of_nobody
about End = of_nobody
about (Line bytes) = about_command (line_ask bytes)

unfoldable pub same_about : About → About → Bool
same_about (of_connection one) (of_connection other) = nat_eq one other
same_about (of_connection one) of_nobody = false
same_about of_nobody (of_connection other) = false
same_about of_nobody of_nobody = true

-- a line of a command that is over: its number is below the first one that isn't
abbrev pub is_below : ℕ → Option AskId → Bool
is_below first None = false
is_below first (Some ask) = nat_lt ask.command first

unfoldable pub is_over : ℕ → LinkMsg → Bool
is_over first (Line bytes) = is_below first (line_ask bytes)
is_over first message = false

-- the message is about them, and isn't what is left of a command below this number
abbrev pub is_about : ℕ → About → LinkMsg → Bool
is_about first whom message = same_about (about message) whom && not (is_over first message)

-- of all that is on its way, over all links, just this is about them, from this number on
abbrev pub IsPlaced : ℕ → About → Links LinkMsg → Option (Carried LinkMsg) → Type 0
IsPlaced first whom links found = IsFound (is_about first whom) links found

-- what is about them stays where it is, from whatever number on
abbrev pub PlacesStay : About → Links LinkMsg → Links LinkMsg → Type 0
PlacesStay whom links next = (first : ℕ) (found : Option (Carried LinkMsg)) → IsPlaced first whom links found → IsPlaced first whom next found

pub about_itself : (whom : About) → same_about whom whom ≡ true
unfolding same_about
about_itself (of_connection conn) = grind (arith, nat_tests)
about_itself of_nobody = refl

about_apart : (one other : About) → one ≢ other → same_about one other ≡ false
unfolding same_about
about_apart (of_connection one) (of_connection other) ne = by (λ e. ne (ap of_connection e))
  where
    by : one ≢ other → nat_eq one other ≡ false
    by k = grind (arith, nat_tests)
about_apart (of_connection one) of_nobody ne = refl
about_apart of_nobody (of_connection other) ne = refl
about_apart of_nobody of_nobody ne = absurd (ne refl)

-- another connection is not the same
pub other_whom : (one other : ℕ) → one ≢ other → of_connection one ≢ of_connection other
other_whom one other ne e = ne (let same : one ≡ other = cc in same)

-- and nobody is no connection
pub nobody_whom : (conn : ℕ) → of_nobody ≢ of_connection conn
nobody_whom conn e = cc

-- a frontend's UPDATE is about nobody, and so is each line under its tag

pub update_tag_nobodys : line_ask (mupdate_tag_text update_tag) ≡ None
unfolding line_ask mupdate_tag_text first_word ask_id_of split_dash
update_tag_nobodys = refl

pub update_nobodys : about (Line update_line) ≡ of_nobody
unfolding update_line
update_nobodys = ap about_command (command_under update_tag command.Update ∙ update_tag_nobodys)

-- what is about nobody is no command's
pub of_no_command : (ask : Option AskId) → about_command ask ≡ of_nobody → ask ≡ None
of_no_command None e = refl
of_no_command (Some ask) e = cc

-- ---- which number it is of

-- nothing is of a command below the first of all
none_below : (ask : Option AskId) → is_below 0 ask ≡ false
none_below None = refl
none_below (Some ask) = by
  where
    by : nat_lt ask.command 0 ≡ false
    by = grind (arith, nat_tests)

pub none_over : (message : LinkMsg) → is_over 0 message ≡ false
unfolding is_over
none_over Up = refl
none_over End = refl
none_over (Line bytes) = none_below (line_ask bytes)
none_over (Ask ask) = refl
none_over (Answer answer) = refl

-- no ask and no answer is over
pub ask_on : (first : ℕ) (ask : FrontAsk) → is_over first (Ask ask) ≡ false
unfolding is_over
ask_on first ask = refl

pub answer_on : (first : ℕ) (answer : BackAnswer) → is_over first (Answer answer) ≡ false
unfolding is_over
answer_on first answer = refl

-- a line of the command of this number, or of a later one, isn't over
pub line_on : (first : ℕ) (bytes : List ℕ) (ask : AskId) → line_ask bytes ≡ Some ask → first ≤ ask.command → is_over first (Line bytes) ≡ false
unfolding is_over
line_on first bytes ask is le = ap (is_below first) is ∙ by le
  where
    by : first ≤ ask.command → nat_lt ask.command first ≡ false
    by k = grind (arith, nat_tests)

-- and one of an earlier command is
pub line_over : (first : ℕ) (bytes : List ℕ) (ask : AskId) → line_ask bytes ≡ Some ask → ask.command < first → is_over first (Line bytes) ≡ true
unfolding is_over
line_over first bytes ask is le = ap (is_below first) is ∙ by le
  where
    by : ask.command < first → nat_lt ask.command first ≡ true
    by k = grind (arith, nat_tests)

-- so one that isn't over is of this command, or of a later one
pub line_from : (first : ℕ) (bytes : List ℕ) (ask : AskId) → line_ask bytes ≡ Some ask → is_over first (Line bytes) ≡ false → first ≤ ask.command
unfolding is_over
line_from first bytes ask is on = by (sym (ap (is_below first) is) ∙ on)
  where
    by : nat_lt ask.command first ≡ false → first ≤ ask.command
    by k = grind (arith, nat_tests)

over_by : (over : Bool) → (over ≡ true) ⊎ (over ≡ false)
over_by true = inl refl
over_by false = inr refl

-- it is over, or not
pub over_or : (first : ℕ) (message : LinkMsg) → (is_over first message ≡ true) ⊎ (is_over first message ≡ false)
over_or first message = over_by (is_over first message)

below_later : (first later : ℕ) (ask : Option AskId) → first ≤ later → is_below later ask ≡ false → is_below first ask ≡ false
below_later first later None le e = refl
below_later first later (Some ask) le e = by le e
  where
    by : first ≤ later → nat_lt ask.command later ≡ false → nat_lt ask.command first ≡ false
    by l k = grind (arith, nat_tests)

-- what isn't over from a later number on isn't over from this one on
pub earlier_on : (first later : ℕ) (message : LinkMsg) → first ≤ later → is_over later message ≡ false → is_over first message ≡ false
unfolding is_over
earlier_on first later Up le on = refl
earlier_on first later End le on = refl
earlier_on first later (Line bytes) le on = below_later first later (line_ask bytes) le on
earlier_on first later (Ask ask) le on = refl
earlier_on first later (Answer answer) le on = refl

-- ---- what is about them

pub same_whom : (one other : About) → same_about one other ≡ true → one ≡ other
unfolding same_about
same_whom (of_connection one) (of_connection other) e = ap of_connection (eqb-true one other e)
same_whom (of_connection one) of_nobody e = cc
same_whom of_nobody (of_connection other) e = cc
same_whom of_nobody of_nobody e = refl

pub about_of : (first : ℕ) (whom : About) (message : LinkMsg) → is_about first whom message ≡ true → about message ≡ whom
about_of first whom message is = same_whom (about message) whom (and_left (same_about (about message) whom) (not (is_over first message)) is)

pub on_of : (first : ℕ) (whom : About) (message : LinkMsg) → is_about first whom message ≡ true → is_over first message ≡ false
on_of first whom message is = not_true (is_over first message) (and_right (same_about (about message) whom) (not (is_over first message)) is)

pub not_about : (first : ℕ) (whom : About) (message : LinkMsg) → about message ≢ whom → is_about first whom message ≡ false
not_about first whom message ne = ap (λ a. a && not (is_over first message)) (about_apart (about message) whom ne)

-- a message is about none of this number on if one that is can't be
pub isnt_about : (first : ℕ) (whom : About) (message : LinkMsg) → (about message ≡ whom → is_over first message ≡ false → ⊥) → is_about first whom message ≡ false
isnt_about first whom message never = by (is_about first whom message) refl
  where
    by : (own : Bool) → is_about first whom message ≡ own → own ≡ false
    by true e = absurd (never (about_of first whom message e) (on_of first whom message e))
    by false e = refl

pub own_about : (first : ℕ) (whom : About) (message : LinkMsg) → about message ≡ whom → is_over first message ≡ false → is_about first whom message ≡ true
own_about first whom message e on =
    ap (λ a. same_about a whom && not (is_over first message)) e ∙ ap (λ a. a && not (is_over first message)) (about_itself whom) ∙ ap not on

and_not : (one : Bool) → (one && not true) ≡ false
and_not true = refl
and_not false = refl

-- what is left of a command that is over is about nobody
pub over_about : (first : ℕ) (whom : About) (message : LinkMsg) → is_over first message ≡ true → is_about first whom message ≡ false
over_about first whom message over = ap (λ o. same_about (about message) whom && not o) over ∙ and_not (same_about (about message) whom)

-- what is sent or taken of others leaves it
pub others_sent : (links : Links LinkMsg) (f t : List ℕ) (message : LinkMsg) (whom : About) → about message ≢ whom
    → PlacesStay whom links (sent links f t message)
others_sent links f t message whom ne = λ first here placed.
    another_sent (is_about first whom) links f t message here (not_about first whom message ne) placed

pub others_taken : (links : Links LinkMsg) (f t : List ℕ) (message : LinkMsg) (rest : List LinkMsg) (whom : About) → on_link links f t ≡ message ∷ rest
    → about message ≢ whom → PlacesStay whom links (without_first links f t)
others_taken links f t message rest whom e ne = λ first here placed.
    another_taken (is_about first whom) links f t message rest here e (not_about first whom message ne) placed

pub left_taken : (first : ℕ) (links : Links LinkMsg) (f t : List ℕ) (message : LinkMsg) (rest : List LinkMsg) (whom : About) (here : Option (Carried LinkMsg))
    → on_link links f t ≡ message ∷ rest → is_about first whom message ≡ false → IsPlaced first whom links here → IsPlaced first whom (without_first links f t) here
left_taken first links f t message rest whom here e other placed = another_taken (is_about first whom) links f t message rest here e other placed

-- and so does what is left of a command that is over, from a number above it on
pub over_sent : (first : ℕ) (links : Links LinkMsg) (f t : List ℕ) (message : LinkMsg) (whom : About) (here : Option (Carried LinkMsg))
    → is_over first message ≡ true → IsPlaced first whom links here → IsPlaced first whom (sent links f t message) here
over_sent first links f t message whom here over placed =
    another_sent (is_about first whom) links f t message here (over_about first whom message over) placed

pub over_taken : (first : ℕ) (links : Links LinkMsg) (f t : List ℕ) (message : LinkMsg) (rest : List LinkMsg) (whom : About) (here : Option (Carried LinkMsg))
    → on_link links f t ≡ message ∷ rest → is_over first message ≡ true → IsPlaced first whom links here → IsPlaced first whom (without_first links f t) here
over_taken first links f t message rest whom here e over placed =
    left_taken first links f t message rest whom here e (over_about first whom message over) placed

-- the first message of a link that is about them, of no command that is over, is what is on its way of them
pub first_of : (first : ℕ) (links : Links LinkMsg) (f t : List ℕ) (message : LinkMsg) (rest : List LinkMsg) (whom : About) (here : Option (Carried LinkMsg))
    → on_link links f t ≡ message ∷ rest → about message ≡ whom → is_over first message ≡ false → IsPlaced first whom links here
    → (here ≡ Some (record { from = f; to = t; message = message })) × IsPlaced first whom (without_first links f t) None
first_of first links f t message rest whom here e own on placed =
    own_first (is_about first whom) links f t message rest here e (own_about first whom message own on) placed

-- a message is sent where nothing was on its way
pub sent_alone : (first : ℕ) (links : Links LinkMsg) (f t : List ℕ) (message : LinkMsg) (whom : About) → about message ≡ whom → is_over first message ≡ false
    → IsPlaced first whom links None → IsPlaced first whom (sent links f t message) (Some (record { from = f; to = t; message = message }))
sent_alone first links f t message whom own on none = own_sent (is_about first whom) links f t message (own_about first whom message own on) none

-- where no link has a message, no command is in one
pub nowhere_on_empty : (first : ℕ) (links : Links LinkMsg) (whom : About) (here : Option (Carried LinkMsg)) → ((a b : List ℕ) → on_link links a b ≡ [])
    → IsPlaced first whom links here → here ≡ None
nowhere_on_empty first links whom here empty placed = none_on_empty (is_about first whom) links here empty placed

none_kept : (p q : LinkMsg → Bool) → ((message : LinkMsg) → p message ≡ true → q message ≡ true) → (messages : List LinkMsg) → filter q messages ≡ []
    → filter p messages ≡ []
none_kept p q to [] none = refl
none_kept p q to (message ∷ messages) none = by (p message) (q message) refl refl none (none_kept p q to messages)
  where
    by : (one other : Bool) → p message ≡ one → q message ≡ other → cond other (message ∷ filter q messages) (filter q messages) ≡ []
        → (filter q messages ≡ [] → filter p messages ≡ []) → cond one (message ∷ filter p messages) (filter p messages) ≡ []
    by one true e h k rest = cc
    by true false e h k rest = (let no : true ≡ false = sym (to message e) ∙ h in cc)
    by false false e h k rest = rest k

-- and where nothing is about them from this number on, nothing is from a later one on
pub later_none : (first later : ℕ) (whom : About) (links : Links LinkMsg) → first ≤ later → IsPlaced first whom links None → IsPlaced later whom links None
later_none first later whom links le none = λ a b.
    none_kept (is_about later whom) (is_about first whom)
    (λ message e. own_about first whom message (about_of later whom message e) (earlier_on first later message le (on_of later whom message e)))
    (on_link links a b) (none a b)

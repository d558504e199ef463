-- What a node lets out, put on its links: where what is about a connection is then. What is about it is told by the same test as whose a message is.
use Rattle.std.proofs.Common.{◌≡◌, ◌≢◌, ◌⊎◌, inl, inr, ℕ, Bool, true, false, cond, nat_eq, List, [], ◌∷◌, ◌++◌, filter, Option, None, Some, refl, sym, ap, subst, ◌∙◌, arith}
use Rattle.std.specs.Ordering.{nat_cmp}
use Rattle.std.specs.Cmp.Lexicographic.{slice_cmp}
use Rattle.std.proofs.lemmas.Bool.Decides.{nat_tests}
use Rattle.std.proofs.lemmas.List.Elements.{filter-append}
use Rattle.front_core.proofs.OneConnection.Places.{About, IsPlaced, about, about_command, about_of, is_about, is_over, of_connection, of_nobody, same_about, sent_alone}
use Rattle.link_msg.specs.declared.message.LinkMsg.{LinkMsg}
use Rattle.link_msg.specs.declared.message.LinkMsg.TheVariants.{Up, End, Line, Ask, Answer}
use Rattle.link_msg.specs.declared.out.Out.{Out}
use Rattle.link_msg.specs.declared.out.Out.TheVariants.{Link}
use Rattle.link_queue.specs.Links.{Links, on_link, sent}
use Rattle.link_queue.proofs.Placed.{Carried}
use Rattle.mur_base.specs.declared.point.AskId.{AskId}
use Rattle.mur_base.proofs.MapLaws.{names_apart, same_or_other}
use Rattle.feed_links.specs.Lines.{messages_to}
use Rattle.many_links.specs.Murder.{put_all, put_out}
use Rattle.many_links.proofs.Carried.{puts_own, puts_else}
use Rattle.name_commands.specs.Whose.{Whose, is_of_connection, is_own, is_own_message, is_own_out}
use Rattle.name_commands.proofs.Marks.{sent_of_outs}
use Rattle.name_commands.proofs.Own.{kept, passed}

-- ---- tests of the elements of a list

module _ {X : Type 0} (p q : X → Bool) where
  pub same_filter : ((x : X) → p x ≡ q x) → (xs : List X) → filter p xs ≡ filter q xs
  same_filter same [] = refl
  same_filter same (x ∷ xs) = ap (λ b. cond b (x ∷ filter p xs) (filter p xs)) (same x) ∙ ap (λ l. cond (q x) (x ∷ l) l) (same_filter same xs)

  -- the first test holds only where the second does
  pub within : ((x : X) → p x ≡ true → q x ≡ true) → (xs : List X) → filter p (filter q xs) ≡ filter p xs
  within has [] = refl
  within has (x ∷ xs) = by (p x) (q x) refl refl (within has xs)
    where
      by : (one two : Bool) → p x ≡ one → q x ≡ two → filter p (filter q xs) ≡ filter p xs
          → filter p (cond two (x ∷ filter q xs) (filter q xs)) ≡ cond one (x ∷ filter p xs) (filter p xs)
      by true true e f more = kept p x (filter q xs) e ∙ ap (λ l. x ∷ l) more
      by true false e f more = absurd (let no : true ≡ false = sym (has x e) ∙ f in cc)
      by false true e f more = passed p x (filter q xs) e ∙ more
      by false false e f more = more

-- what is first of those that are left is one of them
pub first_left : {X : Type 0} (p : X → Bool) (xs : List X) (y : X) (ys : List X) → filter p xs ≡ y ∷ ys → p y ≡ true
first_left p [] y ys e = cc
first_left p (x ∷ xs) y ys e = by (p x) refl e (first_left p xs y ys)
  where
    by : (here : Bool) → p x ≡ here → cond here (x ∷ filter p xs) (filter p xs) ≡ y ∷ ys → (filter p xs ≡ y ∷ ys → p y ≡ true) → p y ≡ true
    by true f is more = let same : x ≡ y = cc in subst (λ z. p z ≡ true) same f
    by false f is more = more is

-- ---- what is about a connection

pub conn_own : (conn : ℕ) (id : AskId) → id.conn ≡ conn → is_of_connection conn id ≡ true
conn_own conn id e = by e
  where
    by : id.conn ≡ conn → nat_eq id.conn conn ≡ true
    by k = grind (arith, nat_tests)

command_same : (conn : ℕ) (ask : Option AskId) → same_about (about_command ask) (of_connection conn) ≡ is_own (is_of_connection conn) ask
unfolding same_about
command_same conn None = refl
command_same conn (Some ask) = refl

pub about_same : (conn : ℕ) (message : LinkMsg) → same_about (about message) (of_connection conn) ≡ is_own_message (is_of_connection conn) message
unfolding same_about
about_same conn Up = refl
about_same conn End = refl
about_same conn (Line bytes) = command_same conn _
about_same conn (Ask ask) = refl
about_same conn (Answer answer) = refl

-- a message is about it
itself : (a : About) (conn : ℕ) → same_about a (of_connection conn) ≡ true → a ≡ of_connection conn
unfolding same_about
itself (of_connection other) conn e = ap of_connection (by e)
  where
    by : nat_eq other conn ≡ true → other ≡ conn
    by k = grind (arith, nat_tests)
itself of_nobody conn e = cc

pub about_it : (conn : ℕ) (message : LinkMsg) → is_own_message (is_of_connection conn) message ≡ true → about message ≡ of_connection conn
about_it conn message own = itself (about message) conn (about_same conn message ∙ own)

-- or not
pub not_about_it : (conn : ℕ) (message : LinkMsg) → about message ≢ of_connection conn → is_own_message (is_of_connection conn) message ≡ false
not_about_it conn message ne = by (is_own_message (is_of_connection conn) message) refl
  where
    by : (own : Bool) → is_own_message (is_of_connection conn) message ≡ own → own ≡ false
    by true e = absurd (ne (about_it conn message e))
    by false e = refl

pub own_it : (conn : ℕ) (message : LinkMsg) → about message ≡ of_connection conn → is_own_message (is_of_connection conn) message ≡ true
unfolding same_about
own_it conn message e =
    sym (about_same conn message) ∙ ap (λ a. same_about a (of_connection conn)) e ∙ conn_own conn (record { conn = conn; command = 0 }) refl

-- ---- outputs

module _ (conn : ℕ) (from : List ℕ) (links : Links LinkMsg) (outs : List Out) where
  abbrev whose : Whose
  whose = is_of_connection conn

  abbrev own_outs : List Out
  own_outs = filter (is_own_out whose) outs

  sent_so : (b : List ℕ) → filter (is_own_message whose) (messages_to b outs) ≡ filter (is_own_message whose) (messages_to b own_outs)
  sent_so b =
      sym (within (is_own_message whose) (is_own_message whose) (λ x e. e) (messages_to b outs))
      ∙ ap (λ l. filter (is_own_message whose) l) (sent_of_outs whose b outs)

  put_there : (b : List ℕ) → filter (is_own_message whose) (on_link (put_all from links outs) from b)
      ≡ filter (is_own_message whose) (on_link (put_all from links own_outs) from b)
  put_there b =
      ap (λ l. filter (is_own_message whose) l) (puts_own from links outs b)
      ∙ filter-append (is_own_message whose) (on_link links from b) (messages_to b outs)
      ∙ ap (λ l. filter (is_own_message whose) (on_link links from b) ++ l) (sent_so b)
      ∙ sym (filter-append (is_own_message whose) (on_link links from b) (messages_to b own_outs))
      ∙ sym (ap (λ l. filter (is_own_message whose) l) (puts_own from links own_outs b))

  put_so : (a b : List ℕ) → filter (is_own_message whose) (on_link (put_all from links outs) a b)
      ≡ filter (is_own_message whose) (on_link (put_all from links own_outs) a b)
  put_so a b = by (same_or_other (slice_cmp nat_cmp) names_apart a from)
    where
      by : (a ≡ from) ⊎ (a ≢ from) → filter (is_own_message whose) (on_link (put_all from links outs) a b)
          ≡ filter (is_own_message whose) (on_link (put_all from links own_outs) a b)
      by (inl same) = subst (λ x. filter (is_own_message whose) (on_link (put_all from links outs) x b)
          ≡ filter (is_own_message whose) (on_link (put_all from links own_outs) x b)) (sym same) (put_there b)
      by (inr ne) =
          ap (λ l. filter (is_own_message whose) l) (puts_else from links outs a b ne)
          ∙ sym (ap (λ l. filter (is_own_message whose) l) (puts_else from links own_outs a b ne))

  -- those of them that count from this number on
  module _ (first : ℕ) where
    counts_of : (messages : List LinkMsg)
        → filter (is_about first (of_connection conn)) messages
        ≡ filter (is_about first (of_connection conn)) (filter (is_own_message whose) messages)
    counts_of messages =
        sym (within (is_about first (of_connection conn)) (is_own_message whose)
        (λ message e. own_it conn message (about_of first (of_connection conn) message e)) messages)

    -- what is let out about the connection is all that counts
    pub put_owns : (found : Option (Carried LinkMsg)) → IsPlaced first (of_connection conn) (put_all from links own_outs) found
        → IsPlaced first (of_connection conn) (put_all from links outs) found
    put_owns found placed = λ a b.
        counts_of (on_link (put_all from links outs) a b)
        ∙ ap (λ (l : List LinkMsg). filter (is_about first (of_connection conn)) l) (put_so a b)
        ∙ sym (counts_of (on_link (put_all from links own_outs) a b))
        ∙ placed a b

    -- nothing is
    pub puts_none : (found : Option (Carried LinkMsg)) → own_outs ≡ [] → IsPlaced first (of_connection conn) links found
        → IsPlaced first (of_connection conn) (put_all from links outs) found
    unfolding put_all
    puts_none found none placed =
        put_owns found (subst (λ (l : List Out). IsPlaced first (of_connection conn) (put_all from links l) found) (sym none) placed)

    -- one message is, where there was none
    pub puts_one : (to : List ℕ) (message : LinkMsg) (marks : List Out) → own_outs ≡ Link to message ∷ marks
        → put_all from (sent links from to message) marks ≡ sent links from to message → is_over first message ≡ false
        → IsPlaced first (of_connection conn) links None
        → IsPlaced first (of_connection conn) (put_all from links outs) (Some (record { from = from; to = to; message = message }))
    unfolding put_all put_out
    puts_one to message marks is no_more on none =
        let own : is_own_message whose message ≡ true = first_left (is_own_out whose) outs (Link to message) marks is in
        put_owns (Some (record { from = from; to = to; message = message }))
        (subst (λ (l : List Out). IsPlaced first (of_connection conn) (put_all from links l) (Some (record { from = from; to = to; message = message }))) (sym is)
        (subst (λ (l : Links LinkMsg). IsPlaced first (of_connection conn) l (Some (record { from = from; to = to; message = message }))) (sym no_more)
        (sent_alone first links from to message (of_connection conn) (about_it conn message own) on none)))

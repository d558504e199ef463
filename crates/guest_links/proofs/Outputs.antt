-- What the outputs of a step of the master are to one client.
use Rattle.std.proofs.Common.{◌≡◌, ◌≢◌, ℕ, Bool, true, false, cond, List, [], ◌∷◌, ◌++◌, map, Option, None, Some, refl, sym, ap, ◌∙◌, subst, append-nil}
use Rattle.std.specs.Prelude.{◌||◌, ⊤}
use Rattle.std.specs.declared.cmp.Ordering.TheVariants.{Less}
use Rattle.std.specs.List.{AllByRecursion}
use Rattle.std.specs.List.Sorted.{IsStrictlySortedBy}
use Rattle.std.specs.Map.{keys_of}
use Rattle.std.specs.Ordering.{is_eq, nat_cmp}
use Rattle.std.proofs.lemmas.List.Concat.{flat_map-append}
use Rattle.std.proofs.lemmas.List.Folds.{list_any-append}
use Rattle.link_msg.specs.declared.counts.Counts.{Counts}
use Rattle.link_msg.specs.declared.out.Out.{Out}
use Rattle.link_msg.specs.declared.out.Out.TheVariants.{Client, Close, Link, Mark, Told}
use Rattle.master_core.specs.declared.sender.Sender.{Sender}
use Rattle.master_core.specs.declared.sender.Sender.TheVariants.{Backend, Frontend, Outside}
use Rattle.master_core.specs.Changes.{text_of, node_told, watcher_told, change_line, change_outs}
use Rattle.master_core.specs.Dialogs.{answers_text}
use Rattle.master_core.specs.Step.{answered, mark_of, mark_outs}
use Rattle.master_core.proofs.OutsideAlone.{AreItsOwn}
use Rattle.mupdate_codec.specs.declared.command.MResponse.{MResponse}
use Rattle.mupdate_codec.specs.declared.tag.Tag.{Tag}
use Rattle.mupdate_codec.specs.Asks.{ask_id_of}
use Rattle.mur_base.specs.declared.point.AskId.{AskId}
use Rattle.mur_base.specs.Map.{value_at, IsInOrder}
use Rattle.mur_base.proofs.MapLaws.{numbers_apart}
use Rattle.node_record.specs.declared.master.MasterRecord.{MasterRecord}
use Rattle.guest_links.specs.Guests.{told_of}
use Rattle.guest_links.specs.Outputs.{bytes_to, given_by, is_close, closes, ClosesLast}
use Rattle.guest_links.proofs.Numbers.{same_number, other_number}

-- outputs that give a client these bytes, and don't close its connection
pub record Gives (conn : ℕ) (outs : List Out) (bytes : List ℕ) : Type 0 where
  pub given : given_by conn outs ≡ bytes
  pub closed : closes conn outs ≡ false
  pub last : ClosesLast conn outs

pub gives_nothing : (conn : ℕ) → Gives conn [] []
unfolding ClosesLast
gives_nothing conn = record { given = refl; closed = refl; last = tt }

-- one output more
pub one_more : (conn : ℕ) (out : Out) (outs : List Out) (one bytes : List ℕ) → bytes_to conn out ≡ one → is_close conn out ≡ false → Gives conn outs bytes
    → Gives conn (out ∷ outs) (one ++ bytes)
unfolding ClosesLast
one_more conn out outs one bytes gives unshut gone_on = record {
  given = ap (λ b. b ++ given_by conn outs) gives ∙ ap (λ b. one ++ b) gone_on.given;
  closed = ap (λ b. b || closes conn outs) unshut ∙ gone_on.closed;
  last = (λ shut. absurd (let no : true ≡ false = sym shut ∙ unshut in cc), gone_on.last);
}

-- nothing was closed before, so the close of all is that of the rest
pub last_both : (conn : ℕ) (one two : List Out) → closes conn one ≡ false → ClosesLast conn two → ClosesLast conn (one ++ two)
unfolding ClosesLast
last_both conn [] two unshut last = last
last_both conn (out ∷ one) two unshut last = (
  λ shut. absurd (let no : true ≡ false = sym (ap (λ b. b || closes conn one) shut) ∙ unshut in cc),
  last_both conn one two (rest_open (is_close conn out) (closes conn one) unshut) last,
)
  where
    rest_open : (a b : Bool) → (a || b) ≡ false → b ≡ false
    rest_open true b e = cc
    rest_open false b e = e

pub closes_both : (conn : ℕ) (one two : List Out) → closes conn one ≡ false → closes conn (one ++ two) ≡ closes conn two
closes_both conn one two unshut = list_any-append (is_close conn) one two ∙ ap (λ b. b || closes conn two) unshut

pub given_both : (conn : ℕ) (one two : List Out) → given_by conn (one ++ two) ≡ given_by conn one ++ given_by conn two
given_both conn one two = flat_map-append (bytes_to conn) one two

pub both : (conn : ℕ) (one two : List Out) (first second : List ℕ) → Gives conn one first → Gives conn two second → Gives conn (one ++ two) (first ++ second)
both conn one two first second a b = record {
  given = given_both conn one two ∙ ap (λ g. g ++ given_by conn two) a.given ∙ ap (λ g. first ++ g) b.given;
  closed = closes_both conn one two a.closed ∙ b.closed;
  last = last_both conn one two a.closed b.last;
}

-- outputs after which nothing is given
pub and_nothing : (conn : ℕ) (one two : List Out) (bytes : List ℕ) → Gives conn one bytes → Gives conn two [] → Gives conn (one ++ two) bytes
and_nothing conn one two bytes a b = subst (Gives conn (one ++ two)) (append-nil bytes) (both conn one two bytes [] a b)

-- bytes for the client, and for another

pub to_it : (conn : ℕ) (bytes : List ℕ) → bytes_to conn (Client conn bytes) ≡ bytes
to_it conn bytes = ap (λ b. cond b bytes []) (same_number conn)

to_another : (conn other : ℕ) (bytes : List ℕ) → conn ≢ other → bytes_to conn (Client other bytes) ≡ []
to_another conn other bytes ne = ap (λ b. cond b bytes []) (other_number conn other ne)

-- answers
pub own_answers : (conn : ℕ) (tag : Tag) (answers : List MResponse) → Gives conn (map (answered (Outside conn) tag) answers) (answers_text tag answers)
own_answers conn tag [] = gives_nothing conn
own_answers conn tag (it ∷ answers) =
    one_more conn (answered (Outside conn) tag it) (map (answered (Outside conn) tag) answers) (text_of tag it) (answers_text tag answers)
    (to_it conn (text_of tag it)) refl
    (own_answers conn tag answers)

-- who is a node, and no client
abbrev pub IsANode : Sender → Type 0
IsANode (Backend node) = ⊤
IsANode (Frontend node) = ⊤
IsANode (Outside conn) = ⊥

pub no_answers : (conn : ℕ) (from : Sender) (tag : Tag) (answers : List MResponse) → IsANode from → Gives conn (map (answered from tag) answers) []
no_answers conn from tag [] node = gives_nothing conn
no_answers conn (Backend name) tag (it ∷ answers) node =
    one_more conn (answered (Backend name) tag it) (map (answered (Backend name) tag) answers) [] [] refl refl (no_answers conn (Backend name) tag answers node)
no_answers conn (Frontend name) tag (it ∷ answers) node =
    one_more conn (answered (Frontend name) tag it) (map (answered (Frontend name) tag) answers) [] [] refl refl
    (no_answers conn (Frontend name) tag answers node)
no_answers conn (Outside other) tag answers node = absurd node

-- marks

no_mark : (conn : ℕ) (ask : Option AskId) (counts : Option Counts) → Gives conn (mark_of ask counts) []
no_mark conn None counts = gives_nothing conn
no_mark conn (Some ask) None = gives_nothing conn
no_mark conn (Some ask) (Some counts) = one_more conn (Mark ask counts) [] [] [] refl refl (gives_nothing conn)

pub no_marks : (conn : ℕ) (from : Sender) (tag : Tag) (counts : Option Counts) → Gives conn (mark_outs from tag counts) []
no_marks conn (Backend node) tag counts = no_mark conn (ask_id_of tag) counts
no_marks conn (Frontend node) tag counts = no_mark conn (ask_id_of tag) counts
no_marks conn (Outside other) tag counts = gives_nothing conn

-- what another client's step gives
pub others_outputs : (conn other : ℕ) (outs : List Out) → other ≢ conn → AreItsOwn other outs → Gives conn outs []
unfolding AreItsOwn
others_outputs conn other [] ne own = gives_nothing conn
others_outputs conn other (Client its bytes ∷ outs) ne own =
    one_more conn (Client its bytes) outs [] [] (to_another conn its bytes (λ e. ne (sym own.0 ∙ sym e))) refl (others_outputs conn other outs ne own.1)
others_outputs conn other (Close its ∷ outs) ne own =
    one_more conn (Close its) outs [] [] refl (other_number conn its (λ e. ne (sym own.0 ∙ sym e))) (others_outputs conn other outs ne own.1)
others_outputs conn other (Link node message ∷ outs) ne own = absurd own.0
others_outputs conn other (Mark ask counts ∷ outs) ne own = absurd own.0
others_outputs conn other (Told ask how ∷ outs) ne own = absurd own.0

-- changes

none_for_nodes : (conn : ℕ) (it : MResponse) (streams : List (List ℕ × Tag)) → Gives conn (map (node_told it) streams) []
none_for_nodes conn it [] = gives_nothing conn
none_for_nodes conn it (stream ∷ streams) = one_more conn (node_told it stream) (map (node_told it) streams) [] [] refl refl (none_for_nodes conn it streams)

module _ (conn : ℕ) (it : MResponse) where
  text_under : Option Tag → List ℕ
  text_under None = []
  text_under (Some tag) = text_of tag it

  AreAbove : List (ℕ × Tag) → Type 0
  AreAbove watchers = AllByRecursion (λ q. nat_cmp conn q ≡ Less) (keys_of watchers)

  below_it : (other : ℕ) → nat_cmp conn other ≡ Less → conn ≢ other
  below_it other less same =
      let itself : is_eq (nat_cmp conn conn) ≡ true = numbers_apart.itself conn in
      let below : is_eq (nat_cmp conn conn) ≡ false = ap is_eq (subst (λ n. nat_cmp conn n ≡ Less) (sym same) less) in cc

  not_it : (other : ℕ) → is_eq (nat_cmp conn other) ≡ false → conn ≢ other
  not_it other apart same =
      let itself : is_eq (nat_cmp conn conn) ≡ true = numbers_apart.itself conn in
      let no : is_eq (nat_cmp conn conn) ≡ false = subst (λ n. is_eq (nat_cmp conn n) ≡ false) (sym same) apart in cc

  none_above : (watchers : List (ℕ × Tag)) → AreAbove watchers → Gives conn (map (watcher_told it) watchers) []
  unfolding AreAbove
  none_above [] above = gives_nothing conn
  none_above (e ∷ watchers) above =
      one_more conn (watcher_told it e) (map (watcher_told it) watchers) [] [] (to_another conn e.0 (text_of e.1 it) (below_it e.0 above.0)) refl
      (none_above watchers above.1)

  once_by : (e : ℕ × Tag) (watchers : List (ℕ × Tag)) → IsInOrder nat_cmp (e ∷ watchers)
      → Gives conn (map (watcher_told it) watchers) (text_under (value_at nat_cmp watchers conn))
      → (same : Bool) → is_eq (nat_cmp conn e.0) ≡ same
      → Gives conn (map (watcher_told it) (e ∷ watchers)) (text_under (cond same (Some e.1) (value_at nat_cmp watchers conn)))
  unfolding IsStrictlySortedBy AreAbove text_under
  once_by e watchers order more true h =
      let same : conn ≡ e.0 = numbers_apart.exact conn e.0 h in
      subst (Gives conn (map (watcher_told it) (e ∷ watchers))) (append-nil (text_of e.1 it))
      (one_more conn (watcher_told it e) (map (watcher_told it) watchers) (text_of e.1 it) []
      (subst (λ n. bytes_to conn (Client n (text_of e.1 it)) ≡ text_of e.1 it) same (to_it conn (text_of e.1 it))) refl
      (none_above watchers (subst (λ n. AllByRecursion (λ q. nat_cmp n q ≡ Less) (keys_of watchers)) (sym same) order.0)))
  once_by e watchers order more false h =
      one_more conn (watcher_told it e) (map (watcher_told it) watchers) [] (text_under (value_at nat_cmp watchers conn))
      (to_another conn e.0 (text_of e.1 it) (not_it e.0 h)) refl more

  -- a watcher is told once, under its tag
  told_once : (watchers : List (ℕ × Tag)) → IsInOrder nat_cmp watchers
      → Gives conn (map (watcher_told it) watchers) (text_under (value_at nat_cmp watchers conn))
  unfolding IsStrictlySortedBy text_under
  told_once [] order = gives_nothing conn
  told_once (e ∷ watchers) order = once_by e watchers order (told_once watchers order.1) (is_eq (nat_cmp conn e.0)) refl

text_told : (change : MasterRecord) (conn : ℕ) (tag : Option Tag) → text_under conn (change_line change) tag ≡ told_of (Some change) tag
unfolding text_under
text_told change conn None = refl
text_told change conn (Some tag) = refl

pub change_told : (conn : ℕ) (streams : List (List ℕ × Tag)) (watchers : List (ℕ × Tag)) (change : Option MasterRecord) → IsInOrder nat_cmp watchers
    → Gives conn (change_outs streams watchers change) (told_of change (value_at nat_cmp watchers conn))
unfolding change_outs
change_told conn streams watchers None order = gives_nothing conn
change_told conn streams watchers (Some change) order =
    both conn (map (node_told (change_line change)) streams) (map (watcher_told (change_line change)) watchers) []
    (told_of (Some change) (value_at nat_cmp watchers conn))
    (none_for_nodes conn (change_line change) streams)
    (subst (Gives conn (map (watcher_told (change_line change)) watchers)) (text_told change conn (value_at nat_cmp watchers conn))
    (told_once conn (change_line change) watchers order))

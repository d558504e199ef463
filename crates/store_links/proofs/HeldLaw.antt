-- The entries of a backend: those that change no mailbox, and those about messages.
use Rattle.std.proofs.Common.{◌≡◌, ◌≢◌, ◌⊎◌, inl, inr, Bool, true, false, cond, ℕ, List, [], ◌∷◌, Option, None, Some, refl, sym, ap, subst, ◌∙◌}
use Rattle.std.specs.List.{fold, AllByRecursion}
use Rattle.std.specs.Ordering.{nat_cmp}
use Rattle.std.specs.Cmp.Lexicographic.{slice_cmp}
use Rattle.std.proofs.lemmas.Option.{same_Some}
use Rattle.mail_message.specs.Boxes.{Content, content_after_all}
use Rattle.mail_message.specs.declared.change.Change.{Change}
use Rattle.mur_base.specs.Map.{IsInOrder}
use Rattle.mur_base.specs.declared.home.Phase.{Phase}
use Rattle.mur_base.proofs.MapLaws.{names_apart, same_or_other, value_at-with_value, value_at-with_value-other}
use Rattle.mur_base.proofs.MapOrder.{with_value-in_order}
use Rattle.mur_model.specs.declared.store.Store.{Store}
use Rattle.mur_model.specs.Store.{box_at}
use Rattle.node_record.specs.declared.held.Held.{Held}
use Rattle.node_record.specs.declared.backend.BackendRecord.{BackendRecord}
use Rattle.node_record.specs.declared.backend.BackendRecord.TheVariants as entry
use Rattle.node_record.specs.declared.table.Record.{Record}
use Rattle.node_record.specs.Held.{Names, held_at, has_content, with_phase, with_changes, took_in, ready_in, pointer, changed, forgotten, held_after}
use Rattle.node_record.specs.Table.{MailboxTable, record_at}
use Rattle.home_law.specs.Items.{Server}
use Rattle.home_law.specs.ManyNames.{Mailbox}
use Rattle.name_flows.proofs.OneStep.{held_placed-other}
use Rattle.name_links.specs.Contents.{content_in}
use Rattle.name_links.proofs.ServedLaw.{acl_kept}
use Rattle.store_links.specs.HeldEntries.{IsAfter, IsNoMailboxAt, ChangesNone, OthersChangeNone, ContentsStay, changes_in, store_changed, IsChanged}
use Rattle.store_links.specs.HeldEntries.{MessagesChangeOne, AnyStoreWithIt}
use Rattle.store_links.specs.Shown.{Homes, content_at, IsMailboxOf, RecordShows, NameShows, Shows}
use Rattle.store_links.specs.TableEntries.{OthersStay, acl_at, IsMailboxAt}
use Rattle.store_links.proofs.Maps.{changed_to, changed_own, changed_other, all_forgotten_other}
use Rattle.store_links.proofs.ShownLaw.{shows_as, record_of, mailbox_by, name_stays, record_stays}

-- ---- contents

-- a phase with content leaves the content
phase_content : (p : Phase) → has_content p ≡ true → (h : Option Held) → content_in (changed_to (with_phase p) h) ≡ content_in h
phase_content p e None = refl
phase_content p e (Some it) = by_test (has_content it.phase) refl
  where
    by_test : (t : Bool) → has_content it.phase ≡ t → content_in (Some (cond t (with_phase p it) it)) ≡ cond t (Some it.content) None
    by_test true f = ap (λ (t : Bool). cond t (Some it.content) None) e
    by_test false f = ap (λ (t : Bool). cond t (Some it.content) None) f

-- changes of messages change it
changed_content : (box : Content) (changes : List Change) (h : Option Held) → content_in h ≡ Some box
    → content_in (changed_to (with_changes changes) h) ≡ Some (content_after_all box changes)
changed_content box changes None e = cc
changed_content box changes (Some it) e = by_test (has_content it.phase) refl
  where
    by_test : (t : Bool) → has_content it.phase ≡ t → content_in (Some (cond t (with_changes changes it) it)) ≡ Some (content_after_all box changes)
    by_test true f =
        let both : Some it.content ≡ Some box = sym (ap (λ (t : Bool). cond t (Some it.content) None) f) ∙ e in
        ap (λ (t : Bool). cond t (Some (content_after_all it.content changes)) None) f
        ∙ ap (λ (c : Content). Some (content_after_all c changes)) (same_Some it.content box both)
    by_test false f = let no : (let o : Option Content = None in o ≡ Some box) = sym (ap (λ (t : Bool). cond t (Some it.content) None) f) ∙ e in cc

-- ---- entries that change no mailbox

module _ (table : MailboxTable) (b : Server) (held : Names) (n : Mailbox) where
  -- the name is no mailbox here, or its content stays
  abbrev Stays : Names → Type 0
  Stays then = (acl_at table b n ≡ None) ⊎ (content_in (held_at then n) ≡ content_in (held_at held n))

  none_changes : (then : Names) (m : Mailbox) → IsNoMailboxAt table b m → (n ≢ m → held_at then n ≡ held_at held n) → Stays then
  none_changes then m none other = by_name (same_or_other (slice_cmp nat_cmp) names_apart n m)
    where
      by_name : (n ≡ m) ⊎ (n ≢ m) → Stays then
      by_name (inl same) = inl (subst (λ (k : Mailbox). acl_at table b k ≡ None) (sym same) none)
      by_name (inr ne) = inr (ap content_in (other ne))

  phase_changes : (m : Mailbox) (p : Phase) → has_content p ≡ true → Stays (changed held m (with_phase p))
  phase_changes m p e = by_name (same_or_other (slice_cmp nat_cmp) names_apart n m)
    where
      by_name : (n ≡ m) ⊎ (n ≢ m) → Stays (changed held m (with_phase p))
      by_name (inl same) =
          inr (subst (λ (k : Mailbox). content_in (held_at (changed held m (with_phase p)) k) ≡ content_in (held_at held k)) (sym same)
          (ap content_in (changed_own held m (with_phase p)) ∙ phase_content p e (held_at held m)))
      by_name (inr ne) = inr (ap content_in (changed_other held m (with_phase p) n ne))

  differ : (acl : List ℕ) (names : List Mailbox) → acl_at table b n ≡ Some acl → AllByRecursion (IsNoMailboxAt table b) names
      → AllByRecursion (λ m. n ≢ m) names
  differ acl [] e all = tt
  differ acl (m ∷ names) e all = (
    (λ same. let no : Some acl ≡ None = sym e ∙ subst (λ (k : Mailbox). acl_at table b k ≡ None) (sym same) all.0 in cc),
    differ acl names e all.1,
  )

  forgets : (names : List Mailbox) → AllByRecursion (IsNoMailboxAt table b) names → Stays (fold forgotten held names)
  forgets names all = by_acl (acl_at table b n) refl
    where
      by_acl : (a : Option (List ℕ)) → acl_at table b n ≡ a → Stays (fold forgotten held names)
      by_acl None e = inl e
      by_acl (Some acl) e = inr (ap content_in (all_forgotten_other names held n (differ acl names e all)))

  stays : (it : BackendRecord) → ChangesNone table b it → Stays (held_after held it)
  stays (entry.Make m serial acl) k = none_changes _ m k (λ ne. held_placed-other held m n _ ne)
  stays (entry.Opened m) k = phase_changes m _ refl
  stays (entry.Added m messages) k = absurd k
  stays (entry.Flagged m rows) k = absurd k
  stays (entry.Gone m uids) k = absurd k
  stays (entry.Closing m) k = phase_changes m _ refl
  stays (entry.Begun m giver serial acl) k = none_changes _ m k (λ ne. held_placed-other held m n _ ne)
  stays (entry.Took m changes) k = none_changes _ m k (λ ne. changed_other held m (took_in changes) n ne)
  stays (entry.Ready m next) k = none_changes _ m k (λ ne. changed_other held m (ready_in next) n ne)
  stays (entry.Pointer m server) k = none_changes _ m k (λ ne. held_placed-other held m n (pointer server) ne)
  stays (entry.Forget names) k = forgets names k

pub contents_stay : ContentsStay
contents_stay table homes then store b shown others same = record {
  names = λ n. record_stays homes then b others n (box_at store n) (record_at table n) (by_acl n (acl_at table b n) refl) (shown.names n);
  records_in_order = shown.records_in_order;
  boxes_in_order = shown.boxes_in_order;
}
  where
    by_acl : (n : Mailbox) (a : Option (List ℕ)) → acl_at table b n ≡ a → (acl_at table b n ≡ None) ⊎ (content_at then b n ≡ content_at homes b n)
    by_acl n None e = inl e
    by_acl n (Some acl) e = inr (same n acl e)

pub others_change_none : OthersChangeNone
others_change_none table homes then store b it shown after none = record {
  names = λ n. record_stays homes then b after.others n (box_at store n) (record_at table n)
      (subst (λ (held : Names). (acl_at table b n ≡ None) ⊎ (content_in (held_at held n) ≡ content_at homes b n)) (sym after.own)
      (stays table b (homes b) n it none))
      (shown.names n);
  records_in_order = shown.records_in_order;
  boxes_in_order = shown.boxes_in_order;
}

-- ---- entries about messages

same_changes : (held : Names) (m n : Mailbox) (made changes : List Change) → ◌≡◌ {A = Option (Mailbox × List Change)} (Some (m, made)) (Some (n, changes))
    → changed held m (with_changes made) ≡ changed held n (with_changes changes)
same_changes held m n made changes e =
    let one : Mailbox × List Change = (m, made) in
    let other : Mailbox × List Change = (n, changes) in
    ap (λ (p : Mailbox × List Change). changed held p.0 (with_changes p.1)) (same_Some one other e)

entry_is : (held : Names) (it : BackendRecord) (n : Mailbox) (changes : List Change) → changes_in it ≡ Some (n, changes)
    → held_after held it ≡ changed held n (with_changes changes)
entry_is held (entry.Make m serial acl) n changes e = cc
entry_is held (entry.Opened m) n changes e = cc
entry_is held (entry.Added m messages) n changes e = same_changes held m n _ changes e
entry_is held (entry.Flagged m rows) n changes e = same_changes held m n _ changes e
entry_is held (entry.Gone m uids) n changes e = same_changes held m n _ changes e
entry_is held (entry.Closing m) n changes e = cc
entry_is held (entry.Begun m giver serial acl) n changes e = cc
entry_is held (entry.Took m made) n changes e = cc
entry_is held (entry.Ready m next) n changes e = cc
entry_is held (entry.Pointer m server) n changes e = cc
entry_is held (entry.Forget names) n changes e = cc

module _ (table : MailboxTable) (homes then : Homes) (store : Store) (b : Server) (it : BackendRecord) (n : Mailbox) (changes : List Change)
    (e : changes_in it ≡ Some (n, changes))
    (shown : Shows table homes store) (after : IsAfter homes then b it) (is : IsMailboxAt table b n) where
  was : IsMailboxOf (content_at homes b n) (box_at store n) is.0
  was = mailbox_by table homes store b n is.0 is.1 (shown.names n)

  held_is : then b ≡ changed (homes b) n (with_changes changes)
  held_is = after.own ∙ entry_is (homes b) it n changes e

  here_now : content_at then b n ≡ Some (content_after_all was.content changes)
  here_now =
      ap (λ (held : Names). content_in (held_at held n)) held_is ∙ ap content_in (changed_own (homes b) n (with_changes changes))
      ∙ changed_content was.content changes (held_at (homes b) n) was.at_home

  others_here : (m : Mailbox) → m ≢ n → content_at then b m ≡ content_at homes b m
  others_here m ne = ap (λ (held : Names). content_in (held_at held m)) held_is ∙ ap content_in (changed_other (homes b) n (with_changes changes) m ne)

  module _ (later : Store) (has : box_at later n ≡ content_at then b n) (others : OthersStay store later n) where
    own_now : IsMailboxOf (content_at then b n) (box_at later n) is.0
    own_now = record {
      content = content_after_all was.content changes;
      at_home = here_now;
      in_store = has ∙ here_now;
      has_acl = acl_kept was.content changes ∙ was.has_acl;
    }

    own_shows : NameShows table then later n
    own_shows =
        let r = record_of b (record_at table n) is.0 is.1 in
        subst (λ (f : Option Record). RecordShows then n (box_at later n) f) (sym r.is)
        (shows_as (content_at then (r.it.place).server n) (box_at later n) r.it.state is.0 r.list
        (subst (λ (q : Server). IsMailboxOf (content_at then q n) (box_at later n) is.0) (sym r.server) own_now))

    other_shows : (m : Mailbox) → m ≢ n → NameShows table then later m
    other_shows m ne =
        record_stays homes then b after.others m (box_at later m) (record_at table m) (inr (others_here m ne))
        (name_stays table table homes store later m refl (others m ne) (shown.names m))

    pub any_store : IsInOrder (slice_cmp nat_cmp) later.boxes → Shows table then later
    any_store order = record {
      names = λ m. by_name m (same_or_other (slice_cmp nat_cmp) names_apart m n);
      records_in_order = shown.records_in_order;
      boxes_in_order = order;
    }
      where
        by_name : (m : Mailbox) → (m ≡ n) ⊎ (m ≢ n) → NameShows table then later m
        by_name m (inl same) = subst (λ (k : Mailbox). NameShows table then later k) (sym same) own_shows
        by_name m (inr ne) = other_shows m ne

  pub one_changes : IsChanged table then store b n changes
  one_changes =
      let there : box_at (store_changed store n was.content changes) n ≡ Some (content_after_all was.content changes) =
      value_at-with_value (slice_cmp nat_cmp) names_apart store.boxes n (content_after_all was.content changes) was.content was.in_store in
      let others : OthersStay store (store_changed store n was.content changes) n =
      λ m ne. value_at-with_value-other (slice_cmp nat_cmp) names_apart store.boxes n m (content_after_all was.content changes) ne in
      record {
        box = was.content;
        was = was.in_store;
        here = here_now;
        there = there;
        shows = any_store (store_changed store n was.content changes) (there ∙ sym here_now) others
            (with_value-in_order (slice_cmp nat_cmp) store.boxes n (content_after_all was.content changes) shown.boxes_in_order);
        others = others;
      }

pub messages_change_one : MessagesChangeOne
messages_change_one table homes then store b it n changes e shown after is = one_changes table homes then store b it n changes e shown after is

pub any_store_with_it : AnyStoreWithIt
any_store_with_it table homes then store later b it n changes e shown after is has others order =
    any_store table homes then store b it n changes e shown after is later has others order

-- What is shown of the store stays so where the mailboxes stay, and is so of any store that has of one mailbox what its backend has now.
use Rattle.std.proofs.Common.{◌≡◌, ◌≢◌, ◌⊎◌, inl, inr, Bool, cond, ℕ, List, Option, None, Some, refl, sym, ap, subst, ◌∙◌}
use Rattle.std.specs.Ordering.{nat_cmp}
use Rattle.std.specs.Cmp.Lexicographic.{slice_cmp}
use Rattle.mail_message.specs.Boxes.{Content}
use Rattle.mur_base.specs.Map.{IsInOrder}
use Rattle.mur_base.proofs.MapLaws.{names_apart, same_or_other}
use Rattle.mur_model.specs.declared.store.Store.{Store}
use Rattle.mur_model.specs.Store.{box_at}
use Rattle.node_record.specs.declared.held.Held.{Held}
use Rattle.node_record.specs.declared.table.Record.{Record}
use Rattle.node_record.specs.Held.{Names, held_at}
use Rattle.node_record.specs.Table.{MailboxTable, record_at}
use Rattle.home_law.specs.Items.{Server}
use Rattle.home_law.specs.ManyNames.{Mailbox}
use Rattle.name_links.specs.Contents.{HasAcl, content_in}
use Rattle.store_links.specs.Shown.{Homes, content_at, IsMailboxOf, RecordShows, NameShows, Shows}
use Rattle.store_links.specs.TableEntries.{OthersStay, acl_at}
use Rattle.store_links.proofs.HeldLaw.{contents_stay}
use Rattle.store_links.proofs.ShownLaw.{name_stays, record_of, record_stays, shows_as}

pub homes_stay : (table : MailboxTable) (homes then : Homes) (store : Store) (b : Server) → Shows table homes store → ((q : Server) → then q ≡ homes q)
    → Shows table then store
homes_stay table homes then store b shown same =
    contents_stay table homes then store b shown (λ q ne. same q) (λ n acl at. ap (λ (held : Names). content_in (held_at held n)) (same b))

-- a mailbox that is here
mailbox_here : (found : Option Held) (there : Option Content) (acl : List ℕ) → HasAcl found acl → there ≡ content_in found
    → IsMailboxOf (content_in found) there acl
mailbox_here None there acl has e = absurd has
mailbox_here (Some it) there acl has e =
    let here : content_in (Some it) ≡ Some it.content = ap (λ (t : Bool). cond t (Some it.content) None) has.0 in
    record { content = it.content; at_home = here; in_store = e ∙ here; has_acl = has.1 }

module _ (table : MailboxTable) (homes then : Homes) (store later : Store) (b : Server) (n : Mailbox) (acl : List ℕ) (shown : Shows table homes store)
    (others : (q : Server) → q ≢ b → then q ≡ homes q) (is : acl_at table b n ≡ Some acl) (now : HasAcl (held_at (then b) n) acl)
    (rest : (m : Mailbox) → m ≢ n → content_at then b m ≡ content_at homes b m) (has : box_at later n ≡ content_at then b n)
    (stay : OthersStay store later n) where
  own_shows : NameShows table then later n
  own_shows =
      let r = record_of b (record_at table n) acl is in
      subst (λ (f : Option Record). RecordShows then n (box_at later n) f) (sym r.is)
      (shows_as (content_at then (r.it.place).server n) (box_at later n) r.it.state acl r.list
      (subst (λ (q : Server). IsMailboxOf (content_at then q n) (box_at later n) acl) (sym r.server)
      (mailbox_here (held_at (then b) n) (box_at later n) acl now has)))

  other_shows : (m : Mailbox) → m ≢ n → NameShows table then later m
  other_shows m ne =
      record_stays homes then b others m (box_at later m) (record_at table m) (inr (rest m ne))
      (name_stays table table homes store later m refl (stay m ne) (shown.names m))

  pub later_shows : IsInOrder (slice_cmp nat_cmp) later.boxes → Shows table then later
  later_shows order = record {
    names = λ m. by_name m (same_or_other (slice_cmp nat_cmp) names_apart m n);
    records_in_order = shown.records_in_order;
    boxes_in_order = order;
  }
    where
      by_name : (m : Mailbox) → (m ≡ n) ⊎ (m ≢ n) → NameShows table then later m
      by_name m (inl same) = subst (λ (k : Mailbox). NameShows table then later k) (sym same) own_shows
      by_name m (inr ne) = other_shows m ne

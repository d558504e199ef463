-- Which lines of a backend carry a client's command out at the master: an ACTIVATE that gives a UIDVALIDITY, and a DELETE of a mailbox.
use Rattle.std.proofs.Common.{◌≡◌, ℕ, Bool, true, false, ◌||◌, not, cond, is_some, nat_eq, List, [], ◌∷◌, ◌++◌, Option, None, Some, refl, sym, ap, subst, ◌∙◌}
use Rattle.std.specs.List.{flat_map}
use Rattle.std.specs.Cmp.Lexicographic.{pointwise}
use Rattle.link_msg.specs.declared.counts.Counts.{Counts}
use Rattle.link_msg.specs.declared.counts.Counts.TheVariants.{Always, IfAnswered}
use Rattle.master_core.specs.declared.refusal.Refusal.{Refusal}
use Rattle.master_core.specs.declared.refusal.Refusal.TheVariants as refusal
use Rattle.master_core.specs.declared.sender.Sender.{Sender}
use Rattle.master_core.specs.declared.sender.Sender.TheVariants.{Backend}
use Rattle.master_core.specs.Refusals.{reserve_refusal, activate_refusal, deactivate_refusal, delete_refusal}
use Rattle.master_core.specs.Replies.{reserve_by, activate_by, deactivate_by, delete_by, reserve_reply, activate_reply, deactivate_reply, delete_reply}
use Rattle.master_core.specs.Replies.{find_reply, list_reply, update_reply, noop_reply, logout_reply, reply_to}
use Rattle.master_core.specs.Step.{mark_of, table_with}
use Rattle.mupdate_codec.specs.declared.command.MCommand.{MCommand}
use Rattle.mupdate_codec.specs.declared.command.MCommand.TheVariants as command
use Rattle.mupdate_codec.specs.declared.tag.Tag.{Tag}
use Rattle.mupdate_codec.specs.Asks.{ask_id_of}
use Rattle.mur_base.specs.declared.home.Location.{Location}
use Rattle.mur_base.specs.declared.point.AskId.{AskId}
use Rattle.node_record.specs.declared.master.MasterRecord.TheVariants as entry
use Rattle.node_record.specs.Table.{MailboxTable, is_mailbox_if, record_at}
use Rattle.home_law.specs.Items.{Server, is_same_server, Mine, Ctl, Item, delete}
use Rattle.home_law.specs.Link.{see}
use Rattle.home_law.specs.LinkOk.{EachItem}
use Rattle.home_law.specs.ManyNames.{Mailbox, SentLine as OpenLine, sent_delete, sent_make, sent_again, sent_wipe}
use Rattle.home_law.specs.Rows.{mine_of, is_kept, is_closing, is_deleting, line_ok}
use Rattle.home_law.proofs.SameName.{is_itself, is_the_same}
use Rattle.name_flows.specs.OneName.{ctl_of}
use Rattle.name_links.specs.Contents.{acl_in}
use Rattle.name_links.specs.Known.{known}
use Rattle.name_links.specs.Lines.{is_asked, backend_line, items_of}
use Rattle.name_links.specs.LinkIs.{LinkHolds}
use Rattle.name_links.specs.OneLink.{OneLink, server_of, items_if, up_items, back_of, table_by}
use Rattle.name_links.specs.Serials.{gives, given_by}
use Rattle.name_links.proofs.HearParts.{and_left, and_right}
use Rattle.name_links.proofs.PhaseFacts.{kept_state}
use Rattle.store_links.specs.TableEntries.{acl_at}
use Rattle.many_links.specs.Marks.{CarryNoneOut}

-- ---- marks

pub asked_for : (tag : Tag) → is_asked tag ≡ true → (ask : AskId) × (ask_id_of tag ≡ Some ask)
asked_for tag asked = by_ask (ask_id_of tag) refl
  where
    by_ask : (found : Option AskId) → ask_id_of tag ≡ found → (ask : AskId) × (ask_id_of tag ≡ Some ask)
    by_ask None e = let no : false ≡ true = sym (ap is_some e) ∙ asked in cc
    by_ask (Some ask) e = (ask, e)

-- unless a command counts whatever becomes of it
pub only_told : (tag : Tag) (counts : Option Counts) → (is_asked tag ≡ true → counts ≡ Some Always → ⊥)
    → CarryNoneOut (mark_of (ask_id_of tag) counts)
only_told tag counts none = by_both (ask_id_of tag) counts refl refl
  where
    by_both : (found : Option AskId) (c : Option Counts) → ask_id_of tag ≡ found → counts ≡ c → CarryNoneOut (mark_of found c)
    by_both None None e f = tt
    by_both None (Some c) e f = tt
    by_both (Some ask) None e f = tt
    by_both (Some ask) (Some IfAnswered) e f = (refl, tt)
    by_both (Some ask) (Some Always) e f = absurd (none (ap is_some e) f)

-- ---- ACTIVATE

-- its location is at the backend
pub at_backend : (b : Server) (tag : Tag) (n : Mailbox) (place : Location) (acl : List ℕ) (line : OpenLine)
    → backend_line b tag (command.Activate n place acl) ≡ Some line → pointwise nat_eq b place.server ≡ true
unfolding backend_line
at_backend b tag n place acl line e = by_test (is_same_server place.server b) refl e
  where
    by_test : (t : Bool) → is_same_server place.server b ≡ t → cond t (Some (cond (is_asked tag) (sent_make n) (sent_again n))) None ≡ Some line
        → pointwise nat_eq b place.server ≡ true
    by_test true f e = subst (λ (q : Server). pointwise nat_eq q place.server ≡ true) (is_the_same place.server b f) (is_itself place.server)
    by_test false f e = cc

abbrev counts_of : MailboxTable → Server → MCommand → Option Counts
counts_of table b it = (reply_to table (Backend b) it).counts

-- one that gives a UIDVALIDITY counts
pub activate_counts : (table : MailboxTable) (b : Server) (n m : Mailbox) (place : Location) (acl : List ℕ) (serial : ℕ)
    → pointwise nat_eq b place.server ≡ true → gives table b (command.Activate n place acl) ≡ (m, serial) ∷ []
    → counts_of table b (command.Activate n place acl) ≡ Some Always
unfolding reply_to activate_reply
activate_counts table b n m place acl serial at gave = by_refusal (activate_refusal table (Backend b) (record_at table n) place) gave
  where
    by_refusal : (why : Option Refusal) → given_by table (activate_by (Backend b) n place acl why).entry ≡ (m, serial) ∷ []
        → (activate_by (Backend b) n place acl why).counts ≡ Some Always
    by_refusal (Some why) gave = cc
    by_refusal None gave = ap (λ (t : Bool). cond t (Some Always) None) at

-- ---- DELETE

-- one that removes a mailbox counts
pub delete_counts : (table then : MailboxTable) (b : Server) (n : Mailbox) → table_by table b (command.Delete n) ≡ then
    → is_mailbox_if (record_at table n) ≡ true → is_mailbox_if (record_at then n) ≡ false → counts_of table b (command.Delete n) ≡ Some Always
unfolding reply_to delete_reply
delete_counts table then b n is was gone = by_refusal (delete_refusal (Backend b) (record_at table n)) is
  where
    by_refusal : (why : Option Refusal) → table_with table (delete_by n why).entry ≡ then → (delete_by n why).counts ≡ Some Always
    by_refusal (Some why) same =
        let still : is_mailbox_if (record_at then n) ≡ true = ap (λ (t : MailboxTable). is_mailbox_if (record_at t n)) (sym same) ∙ was in
        let no : true ≡ false = sym still ∙ gone in cc
    by_refusal None same = refl

-- one for which a client's command waits is of a mailbox
kept_by : (m : Mine) (c : Ctl) → line_ok m c delete ≡ true → is_kept m ≡ true
unfolding line_ok
kept_by m c e = and_right _ (is_kept m) (and_left _ (is_closing c.phase) (and_left _ (not c.hears || is_deleting c.flow) e))

own_item : (P : Item → Type 0) (n : Mailbox) (rest : List Item) → EachItem P (items_of n (sent_delete n) ++ rest) → P delete
unfolding items_of EachItem
own_item P n rest all = let own : EachItem P (delete ∷ rest) = subst (λ (s : Bool). EachItem P (cond s (delete ∷ []) [] ++ rest)) (is_itself n) all in own.0

module _ (link : OneLink) (it : Tag × MCommand) (ups : List (Tag × MCommand)) (n : Mailbox) (holds : LinkHolds link) (e : link.ups ≡ it ∷ ups)
    (is : it.1 ≡ command.Delete n) (asked : is_asked it.0 ≡ true) where
  abbrev b : Server
  b = server_of link

  abbrev Fits : Item → Type 0
  Fits x = line_ok (mine_of (see (known link.table n) b)) (ctl_of true link.held link.flows n) x ≡ true

  line_is : backend_line b it.0 it.1 ≡ Some (sent_delete n)
  unfolding backend_line
  line_is = ap (λ (k : MCommand). backend_line b it.0 k) is ∙ ap (λ (t : Bool). Some (cond t (sent_delete n) (sent_wipe n))) asked

  first_fits : EachItem Fits (items_if n (backend_line b it.0 it.1) ++ flat_map (up_items b n) ups)
  unfolding back_of
  first_fits = subst (λ (us : List (Tag × MCommand)). EachItem Fits (flat_map (up_items b n) us)) e (holds.is.named n).ups

  delete_fits : Fits delete
  delete_fits =
      own_item Fits n (flat_map (up_items b n) ups)
      (subst (λ (o : Option OpenLine). EachItem Fits (items_if n o ++ flat_map (up_items b n) ups)) line_is first_fits)

  pub of_mailbox : (acl : List ℕ) × (acl_at link.table b n ≡ Some acl)
  of_mailbox =
      let was = kept_state b (record_at link.table n) (kept_by (mine_of (see (known link.table n) b)) (ctl_of true link.held link.flows n) delete_fits) in
      (was.0, ap acl_in was.1)

-- ---- each line that counts whatever becomes of its command

pub data Carries (table : MailboxTable) (from : Sender) : MCommand → Type 0 where
  activates : (n : Mailbox) (place : Location) (acl : List ℕ) → (reply_to table from (command.Activate n place acl)).entry ≡ Some (entry.Active n place acl)
      → Carries table from (command.Activate n place acl)
  deletes : (n : Mailbox) → (reply_to table from (command.Delete n)).entry ≡ Some (entry.Deleted n) → Carries table from (command.Delete n)

pub carries : (table : MailboxTable) (from : Sender) (it : MCommand) → (reply_to table from it).counts ≡ Some Always → Carries table from it
unfolding reply_to reserve_reply activate_reply deactivate_reply delete_reply find_reply list_reply update_reply noop_reply logout_reply
carries table from (command.Reserve n place) e = absurd (by_refusal (reserve_refusal table from (record_at table n) place) e)
  where
    by_refusal : (why : Option Refusal) → (reserve_by table n place why).counts ≡ Some Always → ⊥
    by_refusal (Some refusal.Exists) e = cc
    by_refusal (Some refusal.SerialsSpent) e = cc
    by_refusal (Some why) e = cc
    by_refusal None e = cc
carries table from (command.Activate n place acl) e = by_refusal (activate_refusal table from (record_at table n) place) refl e
  where
    by_refusal : (why : Option Refusal) → activate_refusal table from (record_at table n) place ≡ why
        → (activate_by from n place acl why).counts ≡ Some Always → Carries table from (command.Activate n place acl)
    by_refusal (Some why) f e = cc
    by_refusal None f e = activates n place acl (ap (λ (why : Option Refusal). (activate_by from n place acl why).entry) f)
carries table from (command.Deactivate n place) e = absurd (by_refusal (deactivate_refusal from (record_at table n) place) e)
  where
    by_refusal : (why : Option Refusal) → (deactivate_by n place why).counts ≡ Some Always → ⊥
    by_refusal (Some why) e = cc
    by_refusal None e = cc
carries table from (command.Delete n) e = by_refusal (delete_refusal from (record_at table n)) refl e
  where
    by_refusal : (why : Option Refusal) → delete_refusal from (record_at table n) ≡ why → (delete_by n why).counts ≡ Some Always
        → Carries table from (command.Delete n)
    by_refusal (Some why) f e = cc
    by_refusal None f e = deletes n (ap (λ (why : Option Refusal). (delete_by n why).entry) f)
carries table from (command.Find n) e = cc
carries table from (command.List prefix) e = cc
carries table from command.Update e = cc
carries table from command.Noop e = cc
carries table from command.Logout e = cc

-- A backend's step is a message step of the store, or nothing.
use Rattle.std.proofs.Common.{◌≡◌, Bool, true, false, ℕ, List, Option, None, Some, refl, sym, ap, subst, ◌∙◌}
use Rattle.std.proofs.lemmas.Option.{same_Some}
use Rattle.mail_message.specs.declared.change.Change.{Change}
use Rattle.mur_model.specs.declared.store.Store.{Store}
use Rattle.node_record.specs.declared.held.Held.{Held}
use Rattle.node_record.specs.declared.backend.BackendRecord.{BackendRecord}
use Rattle.node_record.specs.declared.backend.BackendRecord.TheVariants as entry
use Rattle.node_record.specs.declared.table.State.{State}
use Rattle.node_record.specs.declared.table.State.TheVariants.{Bare, Kept, Active}
use Rattle.node_record.specs.declared.table.Record.{Record}
use Rattle.node_record.specs.Held.{Names, IsOpen, IsWritableHome, held_at, held_after}
use Rattle.node_record.specs.Table.{record_at}
use Rattle.home_law.specs.Items.{Server, is_same_server, HomePhase, serving}
use Rattle.home_law.specs.Link.{see}
use Rattle.home_law.specs.ManyNames.{Mailbox}
use Rattle.home_law.specs.Rows.{mine_of, home_ok}
use Rattle.name_flows.specs.OneName.{ctl_of, phase_of, phase_in}
use Rattle.name_links.specs.Contents.{state_by, acl_in, content_in}
use Rattle.name_links.specs.Known.{known, known_by}
use Rattle.name_links.specs.OneLink.{OneLink, server_of, back_of, asks, IsMessageStep}
use Rattle.name_links.proofs.LeavesLaw.{asks_leave, hears_leave}
use Rattle.name_links.proofs.PhaseFacts.{home_fits}
use Rattle.store_links.specs.HeldEntries.{changes_in}
use Rattle.store_links.specs.OpenHome.{OpenIsMailbox}
use Rattle.store_links.specs.Shown.{Homes, Shows}
use Rattle.store_links.specs.Steps.{IsNow, AsksAreNothing, HearsAreNothing, MessageStepsAreOne}
use Rattle.store_links.proofs.HeldLaw.{contents_stay, messages_change_one}

-- ---- an open name is a mailbox of its backend

open_record : (b : Server) (r : Option Record) → home_ok (mine_of (see (known_by r) b)) serving ≡ true → (acl : List ℕ) × (acl_in (state_by b r) ≡ Some acl)
unfolding see mine_of home_ok
open_record b None e = cc
open_record b (Some it) e = by_state (is_same_server (it.place).server b) refl it.state refl
  where
    by_state : (t : Bool) → is_same_server (it.place).server b ≡ t → (s : State) → it.state ≡ s → (acl : List ℕ) × (acl_in (state_by b (Some it)) ≡ Some acl)
    by_state true f (Bare serial) g = let no : home_ok (mine_of (see (known_by (Some it)) b)) serving ≡ false = rw (f, g) refl in cc
    by_state true f (Kept acl) g = (acl, rw (f, g) refl)
    by_state true f (Active acl) g = (acl, rw (f, g) refl)
    by_state false f s g = let no : home_ok (mine_of (see (known_by (Some it)) b)) serving ≡ false = rw f refl in cc

is_serving : (found : Option Held) → IsOpen found → phase_in found ≡ serving
is_serving None opened = absurd opened
is_serving (Some it) opened = ap phase_of opened

pub open_is_mailbox : OpenIsMailbox
unfolding back_of
open_is_mailbox link n holds opened =
    open_record (server_of link) (record_at link.table n)
    (subst (λ (p : HomePhase). home_ok (mine_of (see (known link.table n) (server_of link))) p ≡ true) (is_serving (held_at link.held n) opened)
    (home_fits (mine_of (see (known link.table n) (server_of link))) (ctl_of true link.held link.flows n) (holds.is.named n).control))

-- ---- steps that are nothing

module _ (link : OneLink) (homes then : Homes) (store : Store) (held : Names) (now : IsNow link homes then held) (shown : Shows link.table homes store) where
  pub still : ((n : Mailbox) (acl : List ℕ) → acl_in (state_by (server_of link) (record_at link.table n)) ≡ Some acl
      → content_in (held_at held n) ≡ content_in (held_at link.held n)) → Shows link.table then store
  still same =
      contents_stay link.table homes then store (server_of link) shown now.others
      (λ n acl e. ap (λ (names : Names). content_in (held_at names n)) now.own ∙ same n acl e
      ∙ sym (ap (λ (names : Names). content_in (held_at names n)) now.was))

pub asks_are_nothing : AsksAreNothing
asks_are_nothing link homes then store ask now shown =
    still link homes then store (asks link ask).held now shown (λ n acl e. ap (λ (names : Names). content_in (held_at names n)) (asks_leave link ask))

pub hears_are_nothing : HearsAreNothing
hears_are_nothing link homes then store it downs holds c e now shown =
    still link homes then store _ now shown (λ n acl is. hears_leave link it downs holds c e n acl is)

-- ---- message steps

named : (held : Names) (m n : Mailbox) (made changes : List Change) → ◌≡◌ {A = Option (Mailbox × List Change)} (Some (m, made)) (Some (n, changes))
    → IsWritableHome held m
    → IsWritableHome held n
named held m n made changes e s =
    let one : Mailbox × List Change = (m, made) in
    let other : Mailbox × List Change = (n, changes) in subst (λ (p : Mailbox × List Change). IsWritableHome held p.0) (same_Some one other e) s

-- the name of an entry about messages is open here
is_open : (held : Names) (it : BackendRecord) (n : Mailbox) (changes : List Change) → changes_in it ≡ Some (n, changes) → IsMessageStep held it
    → IsWritableHome held n
is_open held (entry.Make m serial acl) n changes e s = absurd s
is_open held (entry.Opened m) n changes e s = absurd s
is_open held (entry.Added m messages) n changes e s = named held m n _ changes e s
is_open held (entry.Flagged m rows) n changes e s = named held m n _ changes e s
is_open held (entry.Gone m uids) n changes e s = named held m n _ changes e s
is_open held (entry.Closing m) n changes e s = absurd s
is_open held (entry.Begun m giver serial acl) n changes e s = absurd s
is_open held (entry.Took m made) n changes e s = absurd s
is_open held (entry.Ready m next) n changes e s = absurd s
is_open held (entry.Pointer m server) n changes e s = absurd s
is_open held (entry.Forget names) n changes e s = absurd s

pub message_steps_are_one : MessageStepsAreOne
message_steps_are_one link homes then store it n changes holds s e now shown =
    messages_change_one link.table homes then store (server_of link) it n changes e shown
    (record { own = now.own ∙ sym (ap (λ (names : Names). held_after names it) now.was); others = now.others })
    (open_is_mailbox link n holds (is_open link.held it n changes e s))

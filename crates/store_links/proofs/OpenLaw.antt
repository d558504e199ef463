-- A name that is open at the server of its record is in the store as it is there.
use Rattle.std.proofs.Common.{◌≡◌, cond, ℕ, List, Option, None, Some, refl, sym, ap, ◌∙◌}
use Rattle.mur_base.specs.declared.home.Phase.{Phase}
use Rattle.backend_core.specs.declared.backend.Backend.{Backend}
use Rattle.mur_model.specs.declared.store.Store.{Store}
use Rattle.mur_model.specs.Store.{box_at}
use Rattle.node_record.specs.declared.held.Held.{Held}
use Rattle.node_record.specs.Held.{Names, IsOpen, held_at, has_content}
use Rattle.node_record.specs.Table.{record_at}
use Rattle.home_law.specs.ManyNames.{Mailbox}
use Rattle.name_links.specs.Contents.{content_in}
use Rattle.serve_law.specs.AsTheStore.{HaveAlike}
use Rattle.serve_law.specs.AsTheStore.HaveAlike.{both}
use Rattle.store_links.specs.OpenHome.{OpenIsAlike, NoneIsMissing}
use Rattle.store_links.specs.Shown.{IsMailboxOf}
use Rattle.store_links.proofs.ShownLaw.{none_by, mailbox_by}

open_by : (store : Store) (home : Backend) (n : Mailbox) (acl : List ℕ) (found : Option Held) → held_at home.held n ≡ found → IsOpen found
    → IsMailboxOf (content_in found) (box_at store n) acl → HaveAlike store home n
open_by store home n acl None at opened is = absurd opened
open_by store home n acl (Some it) at opened is =
    let here : content_in (Some it) ≡ Some it.content = ap (λ (p : Phase). cond (has_content p) (Some it.content) None) opened in
    both it at opened (is.in_store ∙ sym is.at_home ∙ here)

pub open_is_alike : OpenIsAlike
open_is_alike table homes store b home n shown at is opened =
    let was = mailbox_by table homes store b n is.0 is.1 (shown.names n) in
    open_by store home n is.0 (held_at home.held n) refl opened (record {
      content = was.content;
      at_home = sym (ap (λ (held : Names). content_in (held_at held n)) at) ∙ was.at_home;
      in_store = was.in_store;
      has_acl = was.has_acl;
    })

pub none_is_missing : NoneIsMissing
none_is_missing table homes store n shown none = none_by homes n (box_at store n) (record_at table n) none (shown.names n)

-- A message step of the backend keeps what holds of a link, and of its contents.
use Rattle.std.proofs.Common.{◌≡◌, ◌≢◌, ◌⊎◌, inl, inr, ℕ, Bool, true, false, cond, List, [], ◌∷◌, Option, None, Some, refl, sym, ap, subst, ◌∙◌}
use Rattle.std.specs.Ordering.{nat_cmp}
use Rattle.std.specs.Cmp.Lexicographic.{slice_cmp}
use Rattle.mail_message.specs.Boxes.{Content, content_after, content_after_all}
use Rattle.mail_message.specs.declared.change.Change.{Change}
use Rattle.mur_base.specs.Map.{with_value, IsInOrder}
use Rattle.mur_base.proofs.MapLaws.{names_apart, same_or_other, value_at-with_value, value_at-with_value-other}
use Rattle.mur_base.proofs.MapOrder.{with_value-in_order}
use Rattle.mur_base.specs.declared.home.Phase.{Phase}
use Rattle.mur_base.specs.declared.home.Phase.TheVariants.{Creating, Open}
use Rattle.mupdate_codec.specs.declared.command.MCommand.{MCommand}
use Rattle.mupdate_codec.specs.declared.command.MCommand.TheVariants as command
use Rattle.node_record.specs.declared.held.Held.{Held}
use Rattle.node_record.specs.declared.backend.BackendRecord.{BackendRecord}
use Rattle.node_record.specs.declared.backend.BackendRecord.TheVariants as entry
use Rattle.node_record.specs.Held.{Names, held_at, IsOpen, puts, relabels, removals, with_changes, has_content, changed_if, changed, held_after}
use Rattle.home_law.specs.Items.{HomePhase}
use Rattle.home_law.specs.Link.{Back, see}
use Rattle.home_law.specs.LinkOk.{LinkOk}
use Rattle.home_law.specs.ManyNames.{Mailbox}
use Rattle.home_law.specs.Rows.{mine_of}
use Rattle.name_flows.specs.OneName.{phase_in, flow_in, progress_in}
use Rattle.name_flows.specs.Running.{flow_at}
use Rattle.name_links.specs.Contents.{HasAcl, new_box, command_fits, LineFits, ServesKeepsContents}
use Rattle.name_links.specs.Known.{known}
use Rattle.name_links.specs.Lines.{is_asked}
use Rattle.name_links.specs.LinkIs.{ServesKeepsIt}
use Rattle.name_links.specs.OneLink.{server_of, back_of, IsMessageStep}
use Rattle.name_links.proofs.OnWay.{all_as}

-- ---- changes of messages leave UIDVALIDITY and access list

pub acl_kept : (box : Content) (changes : List Change) → (content_after_all box changes).acl ≡ box.acl
acl_kept box [] = refl
acl_kept box (change ∷ changes) = acl_kept (content_after box change) changes

pub serial_kept : (box : Content) (changes : List Change) → (content_after_all box changes).serial ≡ box.serial
serial_kept box [] = refl
serial_kept box (change ∷ changes) = serial_kept (content_after box change) changes

-- ---- what a message step makes of each name's mailbox

pub data Served (old new : Option Held) : Type 0 where
  untouched : new ≡ old → Served old new
  served : (it : Held) (changes : List Change) → old ≡ Some it → it.phase ≡ Open → new ≡ Some (with_changes changes it) → Served old new

module _ (held : Names) (m : Mailbox) (changes : List Change) where
  abbrev then : Names
  then = changed held m (with_changes changes)

  own : (h : Option Held) → held_at held m ≡ h → IsOpen h → Served (held_at held m) (held_at then m)
  own None there is = absurd is
  own (Some it) there is =
      served it changes there is
      (ap (λ (h : Option Held). held_at (changed_if held m (with_changes changes) h) m) there
      ∙ ap (λ (p : Phase). held_at (with_value (slice_cmp nat_cmp) held m (cond (has_content p) (with_changes changes it) it)) m) is
      ∙ value_at-with_value (slice_cmp nat_cmp) names_apart held m (with_changes changes it) it there)

  other : (n : Mailbox) → n ≢ m → (h : Option Held) → held_at (changed_if held m (with_changes changes) h) n ≡ held_at held n
  other n ne None = refl
  other n ne (Some it) = value_at-with_value-other (slice_cmp nat_cmp) names_apart held m n _ ne

  each : IsOpen (held_at held m) → (n : Mailbox) → Served (held_at held n) (held_at then n)
  each is n = by_name (same_or_other (slice_cmp nat_cmp) names_apart n m)
    where
      by_name : (n ≡ m) ⊎ (n ≢ m) → Served (held_at held n) (held_at then n)
      by_name (inl e) = subst (λ (k : Mailbox). Served (held_at held k) (held_at then k)) (sym e) (own (held_at held m) refl is)
      by_name (inr ne) = untouched (other n ne (held_at held m))

  ordered : (h : Option Held) → IsInOrder (slice_cmp nat_cmp) held → IsInOrder (slice_cmp nat_cmp) (changed_if held m (with_changes changes) h)
  ordered None order = order
  ordered (Some it) order = with_value-in_order (slice_cmp nat_cmp) held m _ order

pub served_is : (held : Names) (it : BackendRecord) → IsMessageStep held it → (n : Mailbox) → Served (held_at held n) (held_at (held_after held it) n)
served_is held (entry.Added m messages) s = each held m (puts messages) s
served_is held (entry.Flagged m rows) s = each held m (relabels rows) s
served_is held (entry.Gone m uids) s = each held m (removals uids) s
served_is held it s = absurd s

served_order : (held : Names) (it : BackendRecord) → IsMessageStep held it → IsInOrder (slice_cmp nat_cmp) held → IsInOrder (slice_cmp nat_cmp) (held_after held it)
served_order held (entry.Added m messages) s order = ordered held m (puts messages) (held_at held m) order
served_order held (entry.Flagged m rows) s order = ordered held m (relabels rows) (held_at held m) order
served_order held (entry.Gone m uids) s order = ordered held m (removals uids) (held_at held m) order
served_order held it s order = absurd s

-- ---- it is to each name nothing

served_phase : (old new : Option Held) → Served old new → phase_in new ≡ phase_in old
served_phase old new (untouched e) = ap phase_in e
served_phase old new (served it changes o p e) = ap phase_in e ∙ sym (ap phase_in o)

pub serves_law : ServesKeepsIt
unfolding back_of
serves_law link it holds s = record {
  ready = record {
    table = holds.ready.table;
    serial = holds.ready.serial;
    name = holds.ready.name;
    running = holds.ready.running;
    held = served_order link.held it s holds.ready.held;
    waiting = holds.ready.waiting;
  };
  is = record {
    named = λ n. subst (λ (p : HomePhase). LinkOk (mine_of (see (known link.table n) (server_of link))) (with_phase_of n p)) (sym (phase_same n)) (holds.is.named n);
    tied = record { left = holds.is.tied.left; answers = holds.is.tied.answers; sent = holds.is.tied.sent; tagged = holds.is.tied.tagged };
  };
}
  where
    phase_same : (n : Mailbox) → phase_in (held_at (held_after link.held it) n) ≡ phase_in (held_at link.held n)
    phase_same n = served_phase (held_at link.held n) (held_at (held_after link.held it) n) (served_is link.held it s n)

    with_phase_of : Mailbox → HomePhase → Back
    with_phase_of n p = record {
      ctl = record { phase = p; flow = flow_in (flow_at link.flows n); resync = progress_in n link.flows.resync; hears = link.flows.up; linked = true };
      down = (back_of link n).down;
      up = (back_of link n).up;
    }

-- ---- contents

served_acl : (old new : Option Held) (acl : List ℕ) → Served old new → HasAcl old acl → HasAcl new acl
served_acl old new acl (untouched e) a = subst (λ (h : Option Held). HasAcl h acl) (sym e) a
served_acl old new acl (served it changes o p e) a =
    let here : HasAcl (Some it) acl = subst (λ (h : Option Held). HasAcl h acl) o a in
    subst (λ (h : Option Held). HasAcl h acl) (sym e) (here.0, acl_kept it.content changes ∙ here.1)

served_new : (n : Mailbox) (serial : ℕ) (old new : Option Held) → Served old new → old ≡ Some (new_box n serial) → new ≡ Some (new_box n serial)
served_new n serial old new (untouched e) f = e ∙ f
served_new n serial old new (served it changes o p e) f =
    let is : it ≡ new_box n serial = (let both : Some it ≡ Some (new_box n serial) = sym o ∙ f in cc) in
    let no : Creating ≡ Open = sym (ap (λ (h : Held). h.phase) is) ∙ p in cc

pub serves_content : ServesKeepsContents
serves_content link it c s = record {
  mailboxes = λ n acl e. served_acl (held_at link.held n) (held_at (held_after link.held it) n) acl (served_is link.held it s n) (c.mailboxes n acl e);
  making = λ n z e w. served_new n z (held_at link.held n) (held_at (held_after link.held it) n) (served_is link.held it s n) (c.making n z e w);
  lines =
      all_as (LineFits link.table (server_of link) link.held) (LineFits link.table (server_of link) (held_after link.held it)) (λ k f. line_stays (is_asked k.0) k.1 f) link.ups c.lines;
  answers = c.answers;
}
  where
    line_stays : (t : Bool) (k : MCommand) → command_fits link.table (server_of link) link.held t k → command_fits link.table (server_of link) (held_after link.held it) t k
    line_stays true (command.Activate n place acl) f = record {
      serial = f.serial;
      reserved = f.reserved;
      made = served_new n f.serial (held_at link.held n) (held_at (held_after link.held it) n) (served_is link.held it s n) f.made;
      first = f.first;
    }
    line_stays false (command.Activate n place acl) f = served_acl (held_at link.held n) (held_at (held_after link.held it) n) acl (served_is link.held it s n) f
    line_stays t k f = tt

-- What `home_law`'s tests of a name say of its mailbox, and of the state of its record.
use Rattle.std.proofs.Common.{◌≡◌, ◌⊎◌, inl, inr, ℕ, Bool, true, false, ◌&&◌, ◌||◌, not, List, Option, None, Some, refl, sym, ap, subst, ◌∙◌}
use Rattle.mur_base.specs.declared.home.Phase.{Phase}
use Rattle.mur_base.specs.declared.home.Phase.TheVariants.{Creating, Open, Closing, Receiving, Ready, Pointer}
use Rattle.node_record.specs.declared.held.Held.{Held}
use Rattle.node_record.specs.declared.table.State.{State}
use Rattle.node_record.specs.declared.table.State.TheVariants.{Bare, Kept, Active}
use Rattle.node_record.specs.declared.table.Record.{Record}
use Rattle.node_record.specs.Held.{with_phase, has_content, pointer}
use Rattle.home_law.specs.Items.{bare, kept, active, Mine, mine, HomePhase, HomeFlow, making, Ctl, Server, is_same_server, reserve_ok, reserve, make, again, no_phase, pointer as pointer_phase}
use Rattle.home_law.specs.Link.{see}
use Rattle.home_law.specs.Rows.{mine_of, is_bare, is_kept, is_closing, is_serving, is_idle, is_making, is_reserving, is_synced, is_creating as is_creating_name, home_ok, flow_ok, control_ok, answer_ok, line_ok}
use Rattle.name_flows.specs.OneName.{phase_of, phase_in}
use Rattle.name_flows.specs.Phases.{is_creating_phase, is_open, is_closing as is_closed}
use Rattle.name_flows.specs.Lines.{acl_in as acl_of}
use Rattle.name_links.specs.Contents.{state_by, acl_in, HasAcl}
use Rattle.name_links.specs.Known.{known_by}
use Rattle.name_links.proofs.HearParts.{and_left, and_right}
use Rattle.name_links.proofs.HeldTurn.{Becomes, same, brought, gone, moved}

-- ---- records

module _ (b : Server) where
  -- a mailbox
  pub mine_mailbox : (r : Option Record) (acl : List ℕ) → acl_in (state_by b r) ≡ Some acl
      → (mine_of (see (known_by r) b) ≡ mine kept) ⊎ (mine_of (see (known_by r) b) ≡ mine active)
  unfolding see mine_of
  mine_mailbox None acl e = cc
  mine_mailbox (Some it) acl e = by_state (is_same_server (it.place).server b) refl it.state refl
    where
      by_state : (t : Bool) → is_same_server (it.place).server b ≡ t → (s : State) → it.state ≡ s
          → (mine_of (see (known_by (Some it)) b) ≡ mine kept) ⊎ (mine_of (see (known_by (Some it)) b) ≡ mine active)
      by_state true f (Bare serial) g = let none : acl_in (state_by b (Some it)) ≡ None = rw (f, g) refl in cc
      by_state true f (Kept list) g = inl (rw (f, g) refl)
      by_state true f (Active list) g = inr (rw (f, g) refl)
      by_state false f s g = let none : acl_in (state_by b (Some it)) ≡ None = rw f refl in cc

  -- a name that is reserved without an access list
  pub mine_bare : (r : Option Record) (serial : ℕ) → state_by b r ≡ Some (Bare serial) → mine_of (see (known_by r) b) ≡ mine bare
  unfolding see mine_of
  mine_bare None serial e = cc
  mine_bare (Some it) serial e = by_test (is_same_server (it.place).server b) refl
    where
      by_test : (t : Bool) → is_same_server (it.place).server b ≡ t → mine_of (see (known_by (Some it)) b) ≡ mine bare
      by_test true f = let at : it.state ≡ Bare serial = (let here : state_by b (Some it) ≡ Some it.state = rw f refl in cc) in rw (f, at) refl
      by_test false f = let none : state_by b (Some it) ≡ None = rw f refl in cc

  pub bare_state : (r : Option Record) → is_bare (mine_of (see (known_by r) b)) ≡ true → (serial : ℕ) × (state_by b r ≡ Some (Bare serial))
  unfolding see mine_of is_bare
  bare_state None e = cc
  bare_state (Some it) e = by_state (is_same_server (it.place).server b) refl it.state refl
    where
      by_state : (t : Bool) → is_same_server (it.place).server b ≡ t → (s : State) → it.state ≡ s → (serial : ℕ) × (state_by b (Some it) ≡ Some (Bare serial))
      by_state true f (Bare serial) g = (serial, rw (f, g) refl)
      by_state true f (Kept list) g = let no : is_bare (mine_of (see (known_by (Some it)) b)) ≡ false = rw (f, g) refl in cc
      by_state true f (Active list) g = let no : is_bare (mine_of (see (known_by (Some it)) b)) ≡ false = rw (f, g) refl in cc
      by_state false f s g = let no : is_bare (mine_of (see (known_by (Some it)) b)) ≡ false = rw f refl in cc

  -- a mailbox that is reserved
  pub kept_state : (r : Option Record) → is_kept (mine_of (see (known_by r) b)) ≡ true → (acl : List ℕ) × (state_by b r ≡ Some (Kept acl))
  unfolding see mine_of is_kept
  kept_state None e = cc
  kept_state (Some it) e = by_state (is_same_server (it.place).server b) refl it.state refl
    where
      by_state : (t : Bool) → is_same_server (it.place).server b ≡ t → (s : State) → it.state ≡ s → (acl : List ℕ) × (state_by b (Some it) ≡ Some (Kept acl))
      by_state true f (Bare serial) g = let no : is_kept (mine_of (see (known_by (Some it)) b)) ≡ false = rw (f, g) refl in cc
      by_state true f (Kept list) g = (list, rw (f, g) refl)
      by_state true f (Active list) g = let no : is_kept (mine_of (see (known_by (Some it)) b)) ≡ false = rw (f, g) refl in cc
      by_state false f s g = let no : is_kept (mine_of (see (known_by (Some it)) b)) ≡ false = rw f refl in cc

-- ---- mailboxes

-- a content is here
pub record IsThere (h : Option Held) : Type 0 where
  pub it : Held
  pub there : h ≡ Some it
  pub content : has_content it.phase ≡ true

there_by : (it : Held) (p : Phase) → it.phase ≡ p → has_content p ≡ true → IsThere (Some it)
there_by it p e f = record { it = it; there = refl; content = ap (λ (q : Phase). has_content q) e ∙ f }

-- where neither a name that isn't here nor a pointer passes a test of the phase
there_by_test : (h : Option Held) (test : HomePhase → Bool) → test no_phase ≡ false → test pointer_phase ≡ false → test (phase_in h) ≡ true → IsThere h
there_by_test None test at_none at_pointer e = cc
there_by_test (Some it) test at_none at_pointer e = by_phase it.phase refl
  where
    by_phase : (p : Phase) → it.phase ≡ p → IsThere (Some it)
    by_phase Creating f = there_by it Creating f refl
    by_phase Open f = there_by it Open f refl
    by_phase Closing f = there_by it Closing f refl
    by_phase Receiving f = there_by it Receiving f refl
    by_phase Ready f = there_by it Ready f refl
    by_phase (Pointer server) f = let no : test (phase_in (Some it)) ≡ false = rw f at_pointer in cc

pub mailbox_there : (h : Option Held) (m : Mine) → (m ≡ mine kept) ⊎ (m ≡ mine active) → home_ok m (phase_in h) ≡ true → IsThere h
unfolding home_ok
mailbox_there h m (inl e) f = there_by_test h (home_ok (mine kept)) refl refl (subst (λ (k : Mine). home_ok k (phase_in h) ≡ true) e f)
mailbox_there h m (inr e) f = there_by_test h (home_ok (mine active)) refl refl (subst (λ (k : Mine). home_ok k (phase_in h) ≡ true) e f)

-- open or closed
either_there : (h : Option Held) (t : Bool) → is_serving (phase_in h) || is_closing (phase_in h) && t ≡ true → IsThere h
unfolding is_serving is_closing
either_there h t e = there_by_test h (λ phase. is_serving phase || is_closing phase && t) refl refl e

pub open_acl : (h : Option Held) → is_open h || is_closed h ≡ true → HasAcl h (acl_of h)
open_acl None e = cc
open_acl (Some it) e = by_phase it.phase refl
  where
    by_phase : (p : Phase) → it.phase ≡ p → HasAcl (Some it) (acl_of (Some it))
    by_phase Creating f = (ap (λ (q : Phase). has_content q) f, refl)
    by_phase Open f = (ap (λ (q : Phase). has_content q) f, refl)
    by_phase Closing f = (ap (λ (q : Phase). has_content q) f, refl)
    by_phase Receiving f = (ap (λ (q : Phase). has_content q) f, refl)
    by_phase Ready f = (ap (λ (q : Phase). has_content q) f, refl)
    by_phase (Pointer server) f = let no : is_open (Some it) || is_closed (Some it) ≡ false = rw f refl in cc

-- ---- what an entry keeps of them

pub acl_stays : (old new : Option Held) (acl : List ℕ) → Becomes old new → IsThere new → HasAcl old acl → HasAcl new acl
acl_stays old new acl (same e) t a = subst (λ (h : Option Held). HasAcl h acl) (sym e) a
acl_stays old new acl (brought it p e had c f) t a =
    let here : HasAcl (Some it) acl = subst (λ (h : Option Held). HasAcl h acl) e a in
    let is : t.it ≡ with_phase p it = (let there : Some t.it ≡ Some (with_phase p it) = sym t.there ∙ f in cc) in
    subst (λ (h : Option Held). HasAcl h acl) (sym f) (sym (ap (λ (z : Held). has_content z.phase) is) ∙ t.content, here.1)
acl_stays old new acl (gone e) t a = let there : (let o : Option Held = None in o ≡ Some t.it) = sym e ∙ t.there in cc
acl_stays old new acl (moved server e) t a =
    let is : t.it ≡ pointer server = (let there : Some t.it ≡ Some (pointer server) = sym t.there ∙ e in cc) in
    let no : has_content (t.it).phase ≡ false = ap (λ (z : Held). has_content z.phase) is in cc

not_creating : (p : Phase) → is_creating_phase p ≡ false → is_creating_name (phase_of p) ≡ true → ⊥
unfolding is_creating_name
not_creating Creating e f = cc
not_creating Open e f = cc
not_creating Closing e f = cc
not_creating Receiving e f = cc
not_creating Ready e f = cc
not_creating (Pointer server) e f = cc

-- what is being made is as it was
pub made_stays : (old new : Option Held) → Becomes old new → is_creating_name (phase_in new) ≡ true → new ≡ old
unfolding is_creating_name
made_stays old new (same e) c = e
made_stays old new (brought it p e had f g) c = absurd (not_creating p f (subst (λ (h : Option Held). is_creating_name (phase_in h) ≡ true) g c))
made_stays old new (gone e) c = let no : is_creating_name (phase_in None) ≡ true = subst (λ (h : Option Held). is_creating_name (phase_in h) ≡ true) e c in cc
made_stays old new (moved server e) c = let no : is_creating_name (phase_in (Some (pointer server))) ≡ true = subst (λ (h : Option Held). is_creating_name (phase_in h) ≡ true) e c in cc

-- ---- tests of the messages on their way

module _ (m : Mine) (c : Ctl) where
  pub home_fits : control_ok m c ≡ true → home_ok m c.phase ≡ true
  unfolding control_ok
  home_fits e = and_left (home_ok m c.phase) (flow_ok m c.phase c.flow && ((is_idle c.flow || c.hears && is_synced c.resync) && (c.hears || is_synced c.resync))) e

  pub making_creates : control_ok m c ≡ true → c.flow ≡ making → is_creating_name c.phase ≡ true
  unfolding control_ok flow_ok
  making_creates e f =
      let fits = and_left (flow_ok m c.phase c.flow) ((is_idle c.flow || c.hears && is_synced c.resync) && (c.hears || is_synced c.resync))
      (and_right (home_ok m c.phase) (flow_ok m c.phase c.flow && ((is_idle c.flow || c.hears && is_synced c.resync) && (c.hears || is_synced c.resync))) e) in
      let now : flow_ok m c.phase making ≡ true = subst (λ (g : HomeFlow). flow_ok m c.phase g ≡ true) f fits in
      and_left (is_creating_name c.phase) _ now

  pub make_bare : line_ok m c make ≡ true → is_bare m ≡ true
  unfolding line_ok
  make_bare e = and_right _ (is_bare m) (and_left _ (is_creating_name c.phase) (and_left _ (not c.hears || is_making c.flow) e))

  pub make_creates : line_ok m c make ≡ true → is_creating_name c.phase ≡ true
  unfolding line_ok
  make_creates e = and_right _ (is_creating_name c.phase) (and_left _ (not c.hears || is_making c.flow) e)

  pub again_kept : line_ok m c again ≡ true → is_kept m ≡ true
  unfolding line_ok
  again_kept e = and_right _ (is_kept m) (and_left _ (is_serving c.phase || is_closing c.phase && is_idle c.flow) e)

  pub again_there : (h : Option Held) → c.phase ≡ phase_in h → line_ok m c again ≡ true → IsThere h
  unfolding line_ok
  again_there h f e =
      either_there h (is_idle c.flow) (subst (λ p. is_serving p || is_closing p && is_idle c.flow ≡ true) f (and_right _ (is_serving c.phase || is_closing c.phase && is_idle c.flow) e))

  -- on a whole link
  pub reserve_waits : c.linked ≡ true → line_ok m c reserve ≡ true → is_reserving c.flow ≡ true
  unfolding line_ok
  reserve_waits l e =
      let hears = heard_when c.hears c.linked l (and_left (c.hears || not c.linked) (not (is_closing c.phase)) (and_left _ (not c.hears || is_reserving c.flow) e)) in
      flow_when c.hears (is_reserving c.flow) hears (and_right _ (not c.hears || is_reserving c.flow) e)
    where
      heard_when : (h l : Bool) → l ≡ true → h || not l ≡ true → h ≡ true
      heard_when true l f g = refl
      heard_when false true f g = cc
      heard_when false false f g = cc

      flow_when : (h t : Bool) → h ≡ true → not h || t ≡ true → t ≡ true
      flow_when true t f g = g
      flow_when false t f g = cc

  pub told_bare : answer_ok m c reserve_ok ≡ true → is_bare m ≡ true
  unfolding answer_ok
  told_bare e = and_right _ (is_bare m) e

-- The master doesn't refuse a backend's DEACTIVATE, nor the DELETE of a client.
use Rattle.std.proofs.Common.{◌≡◌, ℕ, Bool, true, false, cond, nat_eq, List, [], ◌∷◌, ◌++◌, Option, None, Some, refl, sym, ap, subst, ◌∙◌}
use Rattle.std.specs.List.{flat_map}
use Rattle.std.specs.Cmp.Lexicographic.{pointwise}
use Rattle.home_law.specs.Items.{Server, is_same_server, Item, make, deactivate, delete, mine, own, other}
use Rattle.home_law.specs.Link.{see}
use Rattle.home_law.specs.LinkOk.{EachItem, FirstItem}
use Rattle.home_law.specs.ManyNames.{sent_again, sent_delete, sent_deactivate, sent_make, sent_wipe}
use Rattle.home_law.specs.Rows.{first_line_ok, is_active as is_active_mine, is_bare, is_kept, line_ok, mine_of}
use Rattle.home_law.proofs.SameName.{is_itself, is_the_same}
use Rattle.master_core.specs.declared.sender.Sender.TheVariants.{Backend}
use Rattle.master_core.specs.Refusals.{deactivate_refusal, delete_refusal, is_active_state}
use Rattle.mupdate_codec.specs.declared.command.MCommand.{MCommand}
use Rattle.mupdate_codec.specs.declared.command.MCommand.TheVariants as command
use Rattle.mupdate_codec.specs.declared.tag.Tag.{Tag}
use Rattle.mur_base.specs.declared.home.Location.{Location}
use Rattle.node_record.specs.declared.table.Record.{Record}
use Rattle.node_record.specs.declared.table.State.{State}
use Rattle.node_record.specs.declared.table.State.TheVariants.{Bare, Kept, Active}
use Rattle.node_record.specs.Table.{record_at}
use Rattle.name_flows.specs.OneName.{ctl_of}
use Rattle.name_links.specs.Known.{kind_of, known, known_by}
use Rattle.name_links.specs.LinkIs.{LinkIs}
use Rattle.name_links.specs.Lines.{backend_line, is_asked, items_of}
use Rattle.name_links.specs.OneLink.{back_of, items_if, OneLink, server_of, up_items}
use Rattle.name_links.proofs.HearParts.{and_left, and_right}

-- ---- what the record is

pub record IsHere (b : Server) (found : Option Record) : Type 0 where
  pub it : Record
  pub there : found ≡ Some it
  pub at : (it.place).server ≡ b

pub record IsActiveHere (b : Server) (found : Option Record) : Type 0 where
  pub here : IsHere b found
  pub active : is_active_state here.it.state ≡ true

active_state : (s : State) → is_active_mine (mine (kind_of s)) ≡ true → is_active_state s ≡ true
unfolding is_active_mine
active_state (Bare serial) e = cc
active_state (Kept acl) e = cc
active_state (Active acl) e = refl

active_here : (b : Server) (found : Option Record) → is_active_mine (mine_of (see (known_by found) b)) ≡ true → IsActiveHere b found
unfolding see mine_of is_active_mine
active_here b None e = cc
active_here b (Some it) e = by (is_same_server (it.place).server b) refl e
  where
    by : (here : Bool) → is_same_server (it.place).server b ≡ here → is_active_mine (mine_of (cond here (own (kind_of it.state)) other)) ≡ true
        → IsActiveHere b (Some it)
    by true h f = record { here = record { it = it; there = refl; at = is_the_same (it.place).server b h }; active = active_state it.state f }
    by false h f = cc

bare_here : (b : Server) (found : Option Record) → is_bare (mine_of (see (known_by found) b)) ≡ true → IsHere b found
unfolding see mine_of is_bare
bare_here b None e = cc
bare_here b (Some it) e = by (is_same_server (it.place).server b) refl e
  where
    by : (here : Bool) → is_same_server (it.place).server b ≡ here → is_bare (mine_of (cond here (own (kind_of it.state)) other)) ≡ true → IsHere b (Some it)
    by true h f = record { it = it; there = refl; at = is_the_same (it.place).server b h }
    by false h f = cc

kept_here : (b : Server) (found : Option Record) → is_kept (mine_of (see (known_by found) b)) ≡ true → IsHere b found
unfolding see mine_of is_kept
kept_here b None e = cc
kept_here b (Some it) e = by (is_same_server (it.place).server b) refl e
  where
    by : (here : Bool) → is_same_server (it.place).server b ≡ here → is_kept (mine_of (cond here (own (kind_of it.state)) other)) ≡ true → IsHere b (Some it)
    by true h f = record { it = it; there = refl; at = is_the_same (it.place).server b h }
    by false h f = cc

-- ---- so it isn't refused

pub at_server : (b server : Server) → server ≡ b → pointwise nat_eq b server ≡ true
at_server b server e = subst (λ (s : Server). pointwise nat_eq b s ≡ true) (sym e) (is_itself b)

deactivate_granted : (b : Server) (found : Option Record) (place : Location) → place.server ≡ b → IsActiveHere b found
    → deactivate_refusal (Backend b) found place ≡ None
unfolding deactivate_refusal
deactivate_granted b found place here active =
    let there = active.here.there in
    let its : pointwise nat_eq b (active.here.it.place).server ≡ true = at_server b (active.here.it.place).server active.here.at in
    let given : pointwise nat_eq b place.server ≡ true = at_server b place.server here in
    let state = active.active in rw (there, its, given, state) refl

delete_granted : (b : Server) (found : Option Record) → IsHere b found → delete_refusal (Backend b) found ≡ None
unfolding delete_refusal
delete_granted b found here =
    let there = here.there in
    let its : pointwise nat_eq b (here.it.place).server ≡ true = at_server b (here.it.place).server here.at in rw (there, its) refl

-- ---- where its line is the first

module _ (link : OneLink) (is : LinkIs link) (m : List ℕ) (tag : Tag) (more : List (Tag × MCommand)) where
  abbrev b : Server
  b = server_of link

  abbrev rest : List Item
  rest = flat_map (up_items b m) more

  deactivate_first : link.ups ≡ (tag, command.Deactivate m link.flows.me) ∷ more → (back_of link m).up ≡ deactivate ∷ rest
  unfolding back_of backend_line items_of
  deactivate_first e =
      ap (λ (us : List (Tag × MCommand)). flat_map (up_items b m) us) e
      ∙ ap (λ (t : Bool). items_if m (cond t (Some (sent_deactivate m)) None) ++ rest) (is_itself b)
      ∙ ap (λ (t : Bool). cond t (deactivate ∷ []) [] ++ rest) (is_itself m)

  pub deactivate_goes : link.ups ≡ (tag, command.Deactivate m link.flows.me) ∷ more
      → deactivate_refusal (Backend b) (record_at link.table m) link.flows.me ≡ None
  unfolding FirstItem first_line_ok back_of
  deactivate_goes e =
      let first =
      subst (λ (u : List Item). FirstItem (λ x. first_line_ok (mine_of (see (known link.table m) b)) (ctl_of true link.held link.flows m) x ≡ true) u)
      (deactivate_first e) (is.named m).up_first in
      deactivate_granted b (record_at link.table m) link.flows.me refl (active_here b (record_at link.table m) first)

  make_first : (acl : List ℕ) → is_asked tag ≡ true → link.ups ≡ (tag, command.Activate m link.flows.me acl) ∷ more → (back_of link m).up ≡ make ∷ rest
  unfolding back_of backend_line items_of
  make_first acl asked e =
      ap (λ (us : List (Tag × MCommand)). flat_map (up_items b m) us) e
      ∙ ap (λ (t : Bool). items_if m (cond t (Some (cond (is_asked tag) (sent_make m) (sent_again m))) None) ++ rest) (is_itself b)
      ∙ ap (λ (t : Bool). items_if m (Some (cond t (sent_make m) (sent_again m))) ++ rest) asked
      ∙ ap (λ (t : Bool). cond t (make ∷ []) [] ++ rest) (is_itself m)

  -- a mailbox that is made has a record that names the backend
  pub make_finds : (acl : List ℕ) → is_asked tag ≡ true → link.ups ≡ (tag, command.Activate m link.flows.me acl) ∷ more → IsHere b (record_at link.table m)
  unfolding EachItem line_ok back_of
  make_finds acl asked e =
      let fits =
      subst (λ (u : List Item). EachItem (λ x. line_ok (mine_of (see (known link.table m) b)) (ctl_of true link.held link.flows m) x ≡ true) u)
      (make_first acl asked e) (is.named m).ups in
      bare_here b (record_at link.table m)
      (and_right _ (is_bare (mine_of (see (known link.table m) b))) (and_left _ _ (and_left _ _ fits.0)))

  delete_first : is_asked tag ≡ true → link.ups ≡ (tag, command.Delete m) ∷ more → (back_of link m).up ≡ delete ∷ rest
  unfolding back_of backend_line items_of
  delete_first asked e =
      ap (λ (us : List (Tag × MCommand)). flat_map (up_items b m) us) e
      ∙ ap (λ (t : Bool). items_if m (Some (cond t (sent_delete m) (sent_wipe m))) ++ rest) asked
      ∙ ap (λ (t : Bool). cond t (delete ∷ []) [] ++ rest) (is_itself m)

  pub delete_goes : is_asked tag ≡ true → link.ups ≡ (tag, command.Delete m) ∷ more → delete_refusal (Backend b) (record_at link.table m) ≡ None
  unfolding EachItem line_ok back_of
  delete_goes asked e =
      let fits =
      subst (λ (u : List Item). EachItem (λ x. line_ok (mine_of (see (known link.table m) b)) (ctl_of true link.held link.flows m) x ≡ true) u)
      (delete_first asked e) (is.named m).ups in
      delete_granted b (record_at link.table m) (kept_here b (record_at link.table m)
      (and_right _ (is_kept (mine_of (see (known link.table m) b))) (and_left _ _ (and_left _ _ fits.0))))

-- Each line of a backend is to each name the step of the protocol of one name.
use Rattle.std.proofs.Common.{◌≡◌, nat_eq, Bool, true, false, cond, [], ◌∷◌, Option, None, Some, inl, inr, refl, sym, ap, subst}
use Rattle.std.specs.Cmp.Lexicographic.{pointwise}
use Rattle.mur_base.specs.declared.home.Location.{Location}
use Rattle.mupdate_codec.specs.declared.command.MCommand.{MCommand}
use Rattle.mupdate_codec.specs.declared.command.MCommand.TheVariants as command
use Rattle.mupdate_codec.specs.declared.tag.Tag.{Tag}
use Rattle.node_record.specs.Table.{MailboxTable}
use Rattle.master_core.specs.declared.sender.Sender.TheVariants.{Backend}
use Rattle.master_core.specs.Replies.{reply_to}
use Rattle.home_law.specs.Items.{Server, is_same_server, refused, make, make_ok, make_no, again, again_ok, delete, delete_ok, wipe, wipe_ok, deactivate, deactivate_ok, reserve, reserve_ok}
use Rattle.home_law.specs.Steps.{answer}
use Rattle.home_law.specs.ManyNames.{Mailbox, SentLine, sent_list, sent_reserve, sent_make, sent_again, sent_deactivate, sent_delete, sent_wipe, sent_find, no_items}
use Rattle.home_law.proofs.SameName.{is_itself, is_the_same}
use Rattle.name_links.specs.Lines.{is_asked, places_of, backend_line, is_full_for}
use Rattle.name_links.specs.Answers.{HasNoBang, IsTable}
use Rattle.name_links.proofs.Outcome.{IsStep, each_name}
use Rattle.name_links.proofs.OneCommand.{about_reserve, about_make, about_again, about_deactivate, about_delete, about_wipe, reserve_outcome, activate_outcome, deactivate_outcome, delete_outcome}
use Rattle.name_links.proofs.ListCommand.{list_step, find_step}

pub some_is : {x y : SentLine} → (let o : Option SentLine = Some x in o ≡ Some y) → x ≡ y
some_is e = cc

pub if_so : (t : Bool) (x y : SentLine) → (let o : Option SentLine = cond t (Some x) None in o ≡ Some y) → (t ≡ true) × (x ≡ y)
if_so true x y e = (refl, some_is e)
if_so false x y e = cc

module _ (table : MailboxTable) (ok : IsTable table) (b : Server) (no_bang : HasNoBang b) (n : Mailbox) where
  abbrev Steps : MCommand → SentLine → Type 0
  Steps it line = IsStep table b (reply_to table (Backend b) it) line (is_full_for table line) n

  reserve_steps : (m : Mailbox) (place : Location) → is_same_server place.server b ≡ true → Steps (command.Reserve m place) (sent_reserve m)
  unfolding reply_to is_full_for
  reserve_steps m place here = each_name table b m _ (sent_reserve m) reserve reserve_ok _ (about_reserve m) ok.order (reserve_outcome table b m place here) n

  make_steps : (m acl : Mailbox) (place : Location) → is_same_server place.server b ≡ true → Steps (command.Activate m place acl) (sent_make m)
  unfolding reply_to is_full_for answer no_items
  make_steps m acl place here =
      each_name table b m _ (sent_make m) make make_ok _ (about_make m) ok.order
      (activate_outcome table b m place here acl (sent_make m) make make_ok make_no (λ f s. refl) (inl (ap (λ t. cond t (make_no ∷ []) []) (is_itself m)))) n

  again_steps : (m acl : Mailbox) (place : Location) → is_same_server place.server b ≡ true → Steps (command.Activate m place acl) (sent_again m)
  unfolding reply_to is_full_for answer
  again_steps m acl place here =
      each_name table b m _ (sent_again m) again again_ok _ (about_again m) ok.order
      (activate_outcome table b m place here acl (sent_again m) again again_ok refused (λ f s. refl) (inr refl)) n

  deactivate_steps : (m : Mailbox) (place : Location) → is_same_server place.server b ≡ true → Steps (command.Deactivate m place) (sent_deactivate m)
  unfolding reply_to is_full_for
  deactivate_steps m place here = each_name table b m _ (sent_deactivate m) deactivate deactivate_ok _ (about_deactivate m) ok.order (deactivate_outcome table b m place here _) n

  delete_steps : (m : Mailbox) → Steps (command.Delete m) (sent_delete m)
  unfolding reply_to is_full_for answer
  delete_steps m = each_name table b m _ (sent_delete m) delete delete_ok _ (about_delete m) ok.order (delete_outcome table b m ok.order (sent_delete m) delete delete_ok _ (λ s. refl)) n

  wipe_steps : (m : Mailbox) → Steps (command.Delete m) (sent_wipe m)
  unfolding reply_to is_full_for answer
  wipe_steps m = each_name table b m _ (sent_wipe m) wipe wipe_ok _ (about_wipe m) ok.order (delete_outcome table b m ok.order (sent_wipe m) wipe wipe_ok _ (λ s. refl)) n

  find_steps : (m : Mailbox) → Steps (command.Find m) (sent_find m false)
  unfolding reply_to
  find_steps m = find_step table b m _ n

  list_steps : Steps (command.List (Some (places_of b))) sent_list
  unfolding reply_to
  list_steps = list_step table ok b no_bang _ n

  -- by the tag: of a client's command, or of none
  activate_steps : (m acl : Mailbox) (place : Location) → is_same_server place.server b ≡ true → (t : Bool) → Steps (command.Activate m place acl) (cond t (sent_make m) (sent_again m))
  activate_steps m acl place here true = make_steps m acl place here
  activate_steps m acl place here false = again_steps m acl place here

  removes_steps : (m : Mailbox) → (t : Bool) → Steps (command.Delete m) (cond t (sent_delete m) (sent_wipe m))
  removes_steps m true = delete_steps m
  removes_steps m false = wipe_steps m

  pub each_command : (tag : Tag) (it : MCommand) (line : SentLine) → backend_line b tag it ≡ Some line → Steps it line
  unfolding backend_line
  each_command tag (command.Reserve m place) line e = let f = if_so (is_same_server place.server b) (sent_reserve m) line e in subst (λ l. Steps (command.Reserve m place) l) f.1 (reserve_steps m place f.0)
  each_command tag (command.Activate m place acl) line e =
      let f = if_so (is_same_server place.server b) (cond (is_asked tag) (sent_make m) (sent_again m)) line e in
      subst (λ l. Steps (command.Activate m place acl) l) f.1 (activate_steps m acl place f.0 (is_asked tag))
  each_command tag (command.Deactivate m place) line e = let f = if_so (is_same_server place.server b) (sent_deactivate m) line e in subst (λ l. Steps (command.Deactivate m place) l) f.1 (deactivate_steps m place f.0)
  each_command tag (command.Delete m) line e = subst (λ l. Steps (command.Delete m) l) (some_is e) (removes_steps m (is_asked tag))
  each_command tag (command.Find m) line e = subst (λ l. Steps (command.Find m) l) (some_is e) (find_steps m)
  each_command tag (command.List (Some prefix)) line e =
      let f = if_so (pointwise nat_eq prefix (places_of b)) sent_list line e in
      subst (λ l. Steps (command.List (Some prefix)) l) f.1 (subst (λ p. Steps (command.List (Some p)) sent_list) (sym (is_the_same prefix (places_of b) f.0)) list_steps)
  each_command tag (command.List None) line e = cc
  each_command tag command.Update line e = cc
  each_command tag command.Noop line e = cc
  each_command tag command.Logout line e = cc

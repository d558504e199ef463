-- A LIST tells the mailboxes on which its user has rights.
use Rattle.std.proofs.Common.{◌≡◌, ◌≢◌, ℕ, Bool, true, false, ◌&&◌, ◌==◌, arith, length, List, [], ◌∷◌, refl, sym, ◌∙◌, subst}
use Rattle.std.specs.List.{Contains}
use Rattle.std.specs.Cmp.Lexicographic.{nat_list_cmp_total}
use Rattle.std.specs.Str.{bytes_eq}
use Rattle.std.proofs.lemmas.Bool.{and_parts}
use Rattle.std.proofs.lemmas.Bool.Decides.{nat_tests}
use Rattle.std.proofs.lemmas.Cmp.{eq_by_cmp_equiv}
use Rattle.std.proofs.lemmas.List.Folds.{Any-from_list_any, list_any-from_Any}
use Rattle.std.proofs.lemmas.Map.Views.{Contains-keys_from_lookup, IsSome-lookup_from_Contains}
use Rattle.std.proofs.lemmas.Option.{same_Some}
use Rattle.std.proofs.lemmas.Slice.Eq.{bytes_eq-Decides}
use Rattle.imap_types.specs.declared.command.Command.TheVariants as command
use Rattle.mur_base.proofs.MapLaws.{names_apart}
use Rattle.mur_base.specs.Inbox.{shown_name}
use Rattle.name_listing.specs.Found.{found_lines}
use Rattle.name_listing.specs.Listing.{asks_separator, is_among, pattern_of}
use Rattle.name_listing.proofs.FoundOrder.{found_listing}
use Rattle.name_listing.proofs.ToldLaw.{among_from, from_among}
use Rattle.mur_model.specs.declared.commands.list.Listing.{Listing}
use Rattle.mur_model.specs.declared.session.Sess.{Sess}
use Rattle.mur_model.specs.declared.session.Sess.TheVariants.{Off, In, Selected as selected, Ended}
use Rattle.mur_model.specs.declared.setting.Setting.{Setting}
use Rattle.mur_model.specs.declared.store.Store.{Store}
use Rattle.mur_model.specs.Act.{act_by, act_of, need_begun, need_in, need_of, need_selected, need_taken}
use Rattle.mur_model.specs.Needed.{Names}
use Rattle.mur_model.specs.Listing.{list, list_reply, listing_by, names_in, shown_to, tells}
use Rattle.mur_model.specs.Rights.{has_rights}
use Rattle.mur_model.specs.Traits.{is_in, may_be, traits_of}
use Rattle.store_law.specs.Listed.{AreListed, IsListReply, IsShown, ListsMailboxes}
use Rattle.store_law.specs.Logins.{session_user}
use Rattle.mur_model.proofs.GatheredLaw.{shown_tested}

module _ (setting : Setting) (store : Store) (user reference mailbox : List ℕ) where
  abbrev it : Listing
  it = listing_by setting user (pattern_of reference mailbox)

  -- the name is that under which one is told
  is_told : List ℕ → List ℕ → Bool
  is_told shown name = tells it name && bytes_eq shown (shown_name user name)

  shown_from : (shown : List ℕ) → Contains (shown_to it (names_in store)) shown → IsShown setting store user shown
  unfolding is_told is_among tells has_rights
  shown_from shown there =
      let found = Any-from_list_any (is_told shown) (names_in store)
      (sym (shown_tested it (bytes_eq shown) (names_in store)) ∙ among_from (shown_to it (names_in store)) shown there) in
      let name = found.1 in
      let parts = and_parts (tells it name) (bytes_eq shown (shown_name user name)) found.4 in
      record {
        name = name;
        there = IsSome-lookup_from_Contains (eq_by_cmp_equiv nat_list_cmp_total) name store.boxes (found.0, found.2, found.3);
        may = parts.0;
        so = (bytes_eq-Decides shown (shown_name user name)).0 parts.1;
      }

  from_shown : (shown : List ℕ) → IsShown setting store user shown → Contains (shown_to it (names_in store)) shown
  unfolding is_told is_among tells has_rights
  from_shown shown is =
      let there = Contains-keys_from_lookup names_apart.exact is.name store.boxes is.there in
      let told : is_told shown is.name ≡ true = rw (is.may, (bytes_eq-Decides shown (shown_name user is.name)).1 is.so) refl in
      from_among (shown_to it (names_in store)) shown
      (shown_tested it (bytes_eq shown) (names_in store)
      ∙ list_any-from_Any (is_told shown) (names_in store) (there.0, is.name, there.1, there.2, told))

  are_listed : AreListed setting store user reference mailbox (list_reply it (names_in store)).lines
  unfolding list_reply
  are_listed = record {
    names = shown_to it (names_in store);
    shown = λ name. (shown_from name, from_shown name);
    listed = found_lines it.pattern (shown_to it (names_in store));
    listing = found_listing it.pattern (shown_to it (names_in store));
    told = refl;
  }

other_asks : (byte : ℕ) (mailbox : List ℕ) → (length (byte ∷ mailbox) == 0) ≡ false
other_asks byte mailbox = grind (arith, nat_tests)

-- with a pattern that isn't empty the names of mailboxes are needed
pub lists_names : (setting : Setting) (user reference mailbox : List ℕ) → mailbox ≢ [] → (it : Listing) × (list setting user reference mailbox ≡ Names it)
unfolding list asks_separator
lists_names setting user reference [] some = absurd (some refl)
lists_names setting user reference (byte ∷ mailbox) some = rw (other_asks byte mailbox) (_, refl)

list_replies : (setting : Setting) (store : Store) (session : Sess) (user reference mailbox : List ℕ) (serial : ℕ)
    → IsListReply setting store session user reference mailbox (act_by store session serial (list setting user reference mailbox))
unfolding list act_by list_reply asks_separator
list_replies setting store session user reference [] serial = record {
  separator = λ none. refl;
  lists = λ some. absurd (some refl);
  verdict = refl;
  store_stays = refl;
  session_stays = refl;
}
list_replies setting store session user reference (byte ∷ mailbox) serial = rw (other_asks byte mailbox) (record {
  separator = λ none. cc;
  lists = λ some. are_listed setting store user reference (byte ∷ mailbox);
  verdict = refl;
  store_stays = refl;
  session_stays = refl;
})

pub lists_mailboxes : (setting : Setting) (store : Store) → ListsMailboxes setting store
unfolding act_of need_of need_taken need_in need_selected need_begun is_in may_be traits_of session_user
lists_mailboxes setting store Off user reference mailbox serial own = cc
lists_mailboxes setting store (In other) user reference mailbox serial own =
    subst (λ u. IsListReply setting store (In other) u reference mailbox (act_of setting store (In other) (command.List reference mailbox) serial))
    (same_Some other user own) (list_replies setting store (In other) other reference mailbox serial)
lists_mailboxes setting store (selected view) user reference mailbox serial own =
    subst (λ u. IsListReply setting store (selected view) u reference mailbox (act_of setting store (selected view) (command.List reference mailbox) serial))
    (same_Some view.user user own) (list_replies setting store (selected view) view.user reference mailbox serial)
lists_mailboxes setting store Ended user reference mailbox serial own = cc

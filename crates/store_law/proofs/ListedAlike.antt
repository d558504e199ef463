-- What a LIST is told depends on no mailbox but those whose names it may tell.
use Rattle.std.proofs.Common.{◌≡◌, ℕ, Bool, true, false, ◌&&◌, List, map, Option}
use Rattle.std.proofs.Common.{refl, sym, ◌∙◌, ap, subst}
use Rattle.std.specs.Prelude.{IsSome}
use Rattle.std.specs.List.{Contains, list_any}
use Rattle.std.specs.Cmp.Lexicographic.{nat_list_cmp_total}
use Rattle.std.specs.Str.{bytes_eq}
use Rattle.std.proofs.lemmas.Bool.{and_parts}
use Rattle.std.proofs.lemmas.Cmp.{eq_by_cmp_equiv}
use Rattle.std.proofs.lemmas.List.Folds.{Any-from_list_any, list_any-from_Any}
use Rattle.std.proofs.lemmas.Map.Views.{Contains-keys_from_lookup, IsSome-lookup_from_Contains}
use Rattle.mail_message.specs.Boxes.{Content}
use Rattle.mur_base.specs.Inbox.{shown_name}
use Rattle.mur_base.proofs.MapLaws.{names_apart}
use Rattle.imap_types.specs.declared.reply.Code.TheVariants.{None as no_code}
use Rattle.imap_types.specs.declared.reply.Reply.{Reply}
use Rattle.imap_types.specs.declared.reply.Verdict.TheVariants.{Ok as ok_reply}
use Rattle.std.specs.Prelude.{codes}
use Rattle.name_listing.specs.Found.{found_lines}
use Rattle.name_listing.specs.Listing.{Lines, is_above, is_among, listed_as}
use Rattle.name_listing.specs.Told.{line_of}
use Rattle.name_listing.proofs.FoundOrder.{found_listing}
use Rattle.name_listing.proofs.OneListing.{one_listing}
use Rattle.mur_model.specs.declared.commands.list.Listing.{Listing}
use Rattle.mur_model.specs.declared.store.Store.{Store}
use Rattle.mur_model.specs.Listing.{list_reply, names_in, shown_to, tells}
use Rattle.mur_model.specs.Store.{box_at}
use Rattle.mur_model.proofs.GatheredLaw.{shown_tested}

-- a test passes a name of one store, where a mailbox of each name that it passes is in both or in neither
passes : (test : List ℕ → Bool) (store other : Store) → ((name : List ℕ) → test name ≡ true → box_at store name ≡ box_at other name)
    → list_any test (names_in store) ≡ true → list_any test (names_in other) ≡ true
passes test store other same is =
    let found = Any-from_list_any test (names_in store) is in
    let name = found.1 in
    let here : IsSome (box_at store name) =
    IsSome-lookup_from_Contains (eq_by_cmp_equiv nat_list_cmp_total) name store.boxes (found.0, found.2, found.3) in
    let there : Contains (names_in other) name =
    Contains-keys_from_lookup names_apart.exact name other.boxes (subst (λ (box : Option Content). IsSome box) (same name found.4) here) in
    list_any-from_Any test (names_in other) (there.0, name, there.1, there.2, found.4)

pub both_or_neither : (one other : Bool) → (one ≡ true → other ≡ true) → (other ≡ true → one ≡ true) → one ≡ other
both_or_neither true other on back = sym (on refl)
both_or_neither false true on back = back refl
both_or_neither false false on back = refl

module _ (it : Listing) (store other : Store) (same : (name : List ℕ) → tells it name ≡ true → box_at store name ≡ box_at other name) where
  tested_alike : (test : List ℕ → Bool) → list_any test (shown_to it (names_in store)) ≡ list_any test (shown_to it (names_in other))
  tested_alike test =
      let both : List ℕ → Bool = λ n. tells it n && test (shown_name it.user n) in
      let told : (name : List ℕ) → both name ≡ true → tells it name ≡ true = λ name is. (and_parts (tells it name) (test (shown_name it.user name)) is).0 in
      shown_tested it test (names_in store)
      ∙ both_or_neither (list_any both (names_in store)) (list_any both (names_in other))
      (passes both store other (λ name is. same name (told name is)))
      (passes both other store (λ name is. sym (same name (told name is))))
      ∙ sym (shown_tested it test (names_in other))

  told_alike : (name : List ℕ) → listed_as it.pattern (shown_to it (names_in other)) name ≡ listed_as it.pattern (shown_to it (names_in store)) name
  unfolding listed_as is_among
  told_alike name = rw (tested_alike (bytes_eq name), tested_alike (is_above name)) refl

  listed_alike : found_lines it.pattern (shown_to it (names_in store)) ≡ found_lines it.pattern (shown_to it (names_in other))
  listed_alike =
      let there = found_listing it.pattern (shown_to it (names_in other)) in
      one_listing it.pattern (shown_to it (names_in store)) _ _ (found_listing it.pattern (shown_to it (names_in store)))
      (record { rising = there.rising; told = λ name. there.told name ∙ told_alike name })

  -- so two stores that have the same mailboxes at the names that are told are listed alike
  pub replied_alike : list_reply it (names_in store) ≡ list_reply it (names_in other)
  unfolding list_reply
  replied_alike = ap (λ (lines : Lines). let reply : Reply = record { lines = map line_of lines; verdict = ok_reply no_code (codes "LIST") } in reply) listed_alike

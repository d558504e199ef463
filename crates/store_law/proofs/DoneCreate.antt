-- A CREATE that was answered OK made the mailbox that its text spells, without a message.
use Rattle.std.proofs.Common.{◌≡◌, ℕ, ◌-◌, Bool, true, false, if◌then◌else◌, List, [], ◌∷◌, ◌++◌, length, take, Option, None, Some}
use Rattle.std.proofs.Common.{refl, inl, inr}
use Rattle.std.specs.Prelude.{nat_eq}
use Rattle.std.specs.List.{ends_with}
use Rattle.std.specs.Ordering.{nat_cmp}
use Rattle.std.specs.Cmp.Lexicographic.{slice_cmp}
use Rattle.std.proofs.lemmas.Bool.Decides.{Decides-eqb}
use Rattle.std.proofs.lemmas.Slice.Eq.{ends_is}
use Rattle.mail_message.specs.Boxes.{Content, empty_box}
use Rattle.mail_message.specs.FirstAcl.{first_acl}
use Rattle.mur_base.specs.Ascii.{dot}
use Rattle.mur_base.specs.Inbox.{taken_name}
use Rattle.mur_base.specs.Names.{mail_name_fault}
use Rattle.mur_base.specs.declared.name.NameFault.{NameFault}
use Rattle.mur_base.proofs.MapLaws.{names_apart, value_at-with_entry}
use Rattle.imap_types.specs.declared.command.Command.TheVariants as command
use Rattle.imap_types.specs.declared.reply.BadText.TheVariants.{State}
use Rattle.imap_types.specs.declared.reply.Code.{Code}
use Rattle.imap_types.specs.declared.reply.NoText.TheVariants.{Cannot, NonExistent}
use Rattle.imap_types.specs.declared.reply.Verdict.TheVariants.{Ok as ok_reply}
use Rattle.mur_model.specs.declared.session.Sess.{Sess}
use Rattle.mur_model.specs.declared.session.Sess.TheVariants.{Off, In, Selected as selected, Ended}
use Rattle.mur_model.specs.declared.setting.Setting.{Setting}
use Rattle.mur_model.specs.declared.store.Store.{Store}
use Rattle.mur_model.specs.Act.{act_by, act_of, need_begun, need_in, need_of, need_selected, need_taken, work_on}
use Rattle.mur_model.specs.Create.{create, create_as, create_by, create_meant, create_on, is_inbox, make, without_separator}
use Rattle.mur_model.specs.Left.{store_after}
use Rattle.mur_model.specs.Rights.{may_create}
use Rattle.mur_model.specs.Store.{box_at, is_full}
use Rattle.mur_model.specs.Traits.{is_in, may_be, traits_of}
use Rattle.store_law.specs.Appended.{name_meant}
use Rattle.store_law.specs.DoneIsDone.{Creates, IsDone, IsMade, IsMadeAt, SpellsName}
use Rattle.store_law.proofs.DoneAtBox.{Does, bad_does, no_does}

-- ---- the name that a text spells

spelled_by : (text : List ℕ) (ends : Bool) → (ends ≡ true → text ≡ take (length text - 1) text ++ dot ∷ [])
    → ((front : List ℕ) → text ≡ front ++ dot ∷ [] → ends ≡ true) → SpellsName text (if ends then take (length text - 1) text else text)
spelled_by text true is has = inl (is refl)
spelled_by text false is has = inr (refl, λ front parts. let both : false ≡ true = has front parts in cc)

spells : (text : List ℕ) → SpellsName text (without_separator text)
unfolding without_separator
spells text =
    let ends = ends_is {E = nat_eq} Decides-eqb text (dot ∷ []) (ends_with nat_eq text (dot ∷ [])) refl in
    spelled_by text (ends_with nat_eq text (dot ∷ [])) ends.0 ends.1

-- ---- it is made

module _ (store : Store) (session : Sess) (serial : ℕ) (code : Code) (command_name : List ℕ) where
  make_done : (name : List ℕ) (full : Bool) → box_at store name ≡ None → (make name serial full).turn.reply.verdict ≡ ok_reply code command_name
      → IsMade name store (store_after store name (make name serial full).left)
  unfolding make store_after
  make_done name true none is = cc
  make_done name false none is = record {
    new = none;
    box = empty_box serial (first_acl name);
    there = value_at-with_entry (slice_cmp nat_cmp) names_apart store.boxes name (empty_box serial (first_acl name));
    empty = refl;
  }

  on_done : (name : List ℕ) (full : Bool) (found : Option Content) → box_at store name ≡ found
      → (create_on name serial full found).turn.reply.verdict ≡ ok_reply code command_name
      → IsMade name store (store_after store name (create_on name serial full found).left)
  unfolding create_on
  on_done name full None none is = make_done name full none is
  on_done name full (Some there) none is = cc

  by_does : (name : List ℕ) (may : Bool) → Does store session serial code command_name (IsMade name store) (create_by name may)
  unfolding create_by act_by work_on
  by_does name true is = on_done name (is_full store) (box_at store name) refl is
  by_does name false is = cc

  as_does : (setting : Setting) (user name : List ℕ) (inbox : Bool) (fault : Option NameFault)
      → Does store session serial code command_name (IsMade name store) (create_as setting user name inbox fault)
  unfolding create_as
  as_does setting user name true fault = no_does store session serial code command_name (IsMade name store) Cannot
  as_does setting user name false (Some fault) = no_does store session serial code command_name (IsMade name store) NonExistent
  as_does setting user name false None = by_does name (may_create setting.users user name)

  create_does : (setting : Setting) (user text : List ℕ)
      → Does store session serial code command_name (IsMade (taken_name user (without_separator text)) store) (create setting user text)
  unfolding create create_meant
  create_does setting user text =
      let name : List ℕ = taken_name user (without_separator text) in
      as_does setting user name (is_inbox (without_separator text)) (mail_name_fault name)

made_as : (session : Sess) (text : List ℕ) (store later : Store) → IsMadeAt (name_meant session (without_separator text)) store later
    → Creates session text store later
made_as session text store later made = record { name = without_separator text; spelled = spells text; made = made }

pub create_done : (store : Store) (serial : ℕ) (code : Code) (name : List ℕ) (text : List ℕ) (setting : Setting) (session : Sess)
    → (act_of setting store session (command.Create text) serial).reply.verdict ≡ ok_reply code name
    → IsDone session (command.Create text) store (act_of setting store session (command.Create text) serial).store
unfolding act_of need_of need_taken need_in need_selected need_begun is_in may_be traits_of name_meant
create_done store serial code name text setting Off is =
    absurd (bad_does store Off serial code name (λ later. ⊥) State is)
create_done store serial code name text setting (In user) is =
    made_as (In user) text store _ (create_does store (In user) serial code name setting user text is)
create_done store serial code name text setting (selected view) is =
    made_as (selected view) text store _ (create_does store (selected view) serial code name setting view.user text is)
create_done store serial code name text setting Ended is =
    absurd (bad_does store Ended serial code name (λ later. ⊥) State is)

-- What an APPEND that was answered OK brought is there.
use Rattle.std.proofs.Common.{◌≡◌, ℕ, ◌+◌, ◌<◌, ◌==◌, Bool, true, false, List, [], ◌∷◌, Option, None, Some, refl, sym, arith}
use Rattle.std.specs.Prelude.{IfSome}
use Rattle.std.specs.Cmp.{nat_cmp_is}
use Rattle.std.specs.Cmp.Lexicographic.{slice_cmp}
use Rattle.std.specs.Ordering.{nat_cmp}
use Rattle.std.specs.declared.cmp.Ordering.TheVariants.{Greater}
use Rattle.std.proofs.lemmas.Bool.Decides.{nat_tests}
use Rattle.mail_message.specs.Boxes.{Content, message_at, with_message}
use Rattle.mail_message.specs.FlagSets.{Flags}
use Rattle.mail_message.specs.declared.message.Message.{Message}
use Rattle.mail_store.specs.Append.{appended, append_fault}
use Rattle.mail_store.specs.declared.fault.StoreFault.{StoreFault}
use Rattle.mail_store.proofs.AppendLaws.{serial-appended}
use Rattle.mur_base.specs.Inbox.{taken_name}
use Rattle.mur_base.specs.Names.{mail_name_fault}
use Rattle.mur_base.specs.declared.name.NameFault.{NameFault}
use Rattle.mur_base.proofs.MapLaws.{names_apart, value_at-with_value}
use Rattle.imap_types.specs.declared.command.Command.TheVariants.{Append as append_command}
use Rattle.imap_types.specs.declared.reply.Code.{Code}
use Rattle.imap_types.specs.declared.reply.Verdict.TheVariants.{Ok as ok_reply}
use Rattle.mur_model.specs.declared.session.Sess.{Sess}
use Rattle.mur_model.specs.declared.session.Sess.TheVariants.{Off, In, Selected as selected, Ended}
use Rattle.mur_model.specs.declared.setting.Setting.{Setting}
use Rattle.mur_model.specs.declared.store.Store.{Store}
use Rattle.mur_model.specs.Act.{need_of, need_off, need_in, need_selected, need_begun, need_taken, work_on, act_by, act_of}
use Rattle.mur_model.specs.Traits.{is_in, may_be, traits_of}
use Rattle.mur_model.specs.Append.{new_message, append, append_as, append_by, append_on, append_reply, append_to}
use Rattle.mur_model.specs.Left.{store_after}
use Rattle.mur_model.specs.Rights.{has_rights}
use Rattle.mur_model.specs.Store.{box_at}
use Rattle.store_law.specs.Appended.{HasAppended, HasAppendedAt, KeepsAppended, name_meant}
use Rattle.store_law.proofs.RisingStores.{Rises, RisesTo, rises_below}

-- a message that is put behind all others is found
put_by : (message other : Message) (more : List Message) → other.uid < message.uid → message_at more message.uid ≡ Some message
    → message_at (other ∷ more) message.uid ≡ Some message
put_by message other more lt found = let apart : (other.uid == message.uid) ≡ false = grind (arith, nat_tests, lt) in rw apart found

put_found : (low : ℕ) (messages : List Message) (message : Message) → RisesTo low messages message.uid
    → message_at (with_message messages message) message.uid ≡ Some message
put_found low [] message rises = let own : (message.uid == message.uid) ≡ true = grind (arith, nat_tests) in rw own refl
put_found low (other ∷ messages) message rises =
    let lt : other.uid < message.uid = omega (arith, rises_below (other.uid + 1) messages message.uid rises.1) in
    rw (sym (nat_cmp_is message.uid other.uid Greater lt))
    (put_by message other (with_message messages message) lt (put_found (other.uid + 1) messages message rises.1))

module _ (setting : Setting) (store : Store) (rises : (name : List ℕ) → IfSome (box_at store name) Rises)
    (flags : Flags) (date : Option (List ℕ)) (body : List ℕ) (code : Code) (command : List ℕ) where
  to_there : (name : List ℕ) (box : Content) (fault : Option StoreFault) → Rises box → box_at store name ≡ Some box
      → (append_to (new_message setting flags date body) box fault).turn.reply.verdict ≡ ok_reply code command
      → HasAppended setting flags date body code (store_after store name (append_to (new_message setting flags date body) box fault).left) name
  unfolding append_to append_reply store_after
  to_there name box (Some fault) rising at is = cc
  to_there name box None rising at is = record {
    serial = box.serial;
    uid = box.next;
    told = cc;
    box = appended box (new_message setting flags date body ∷ []);
    there = value_at-with_value (slice_cmp nat_cmp) names_apart store.boxes name (appended box (new_message setting flags date body ∷ [])) box at;
    same_serial = serial-appended box box.next (new_message setting flags date body ∷ []);
    message = put_found 0 box.messages (record (new_message setting flags date body) { uid = box.next }) rising;
  }

  on_there : (name : List ℕ) (found : Option Content) → IfSome found Rises → box_at store name ≡ found
      → (append_on (new_message setting flags date body) found).turn.reply.verdict ≡ ok_reply code command
      → HasAppended setting flags date body code (store_after store name (append_on (new_message setting flags date body) found).left) name
  unfolding append_on
  on_there name None rising at is = cc
  on_there name (Some box) rising at is = to_there name box (append_fault box (new_message setting flags date body ∷ [])) rising at is

  by_there : (session : Sess) (given : ℕ) (name : List ℕ) (may : Bool)
      → (act_by store session given (append_by name (new_message setting flags date body) may)).reply.verdict ≡ ok_reply code command
      → HasAppended setting flags date body code (act_by store session given (append_by name (new_message setting flags date body) may)).store name
  unfolding append_by act_by work_on
  by_there session given name true is = on_there name (box_at store name) (rises name) refl is
  by_there session given name false is = cc

  as_there : (session : Sess) (given : ℕ) (user name : List ℕ) (fault : Option NameFault)
      → (act_by store session given (append_as setting user name (new_message setting flags date body) fault)).reply.verdict ≡ ok_reply code command
      → HasAppended setting flags date body code
      (act_by store session given (append_as setting user name (new_message setting flags date body) fault)).store name
  unfolding append_as act_by
  as_there session given user name (Some fault) is = cc
  as_there session given user name None is = by_there session given name (has_rights setting.users user name) is

  append_there : (session : Sess) (given : ℕ) (user text : List ℕ)
      → (act_by store session given (append setting user text (new_message setting flags date body))).reply.verdict ≡ ok_reply code command
      → HasAppended setting flags date body code (act_by store session given (append setting user text (new_message setting flags date body))).store
      (taken_name user text)
  unfolding append
  append_there session given user text is = as_there session given user (taken_name user text) (mail_name_fault (taken_name user text)) is

  session_there : (session : Sess) (text : List ℕ) (given : ℕ)
      → (act_of setting store session (append_command text flags date body) given).reply.verdict ≡ ok_reply code command
      → HasAppendedAt setting flags date body code (act_of setting store session (append_command text flags date body) given).store
      (name_meant session text)
  unfolding act_of act_by need_of need_taken need_off need_in need_selected need_begun is_in may_be traits_of name_meant
  session_there Off text given is = cc
  session_there (In user) text given is = append_there (In user) given user text is
  session_there (selected view) text given is = append_there (selected view) given view.user text is
  session_there Ended text given is = cc

pub keeps_appended : (setting : Setting) (store : Store) → ((name : List ℕ) → IfSome (box_at store name) Rises) → KeepsAppended setting store
keeps_appended setting store rises session text flags date body given code command is =
    session_there setting store rises flags date body code command session text given is

-- What the master answers to a backend's line answers that line, and is done with it.
use Rattle.std.proofs.Common.{◌≡◌, ℕ, ◌+◌, ◌<◌, ◌^◌, ◌==◌, nat_eq, nat_lt, Bool, true, false, cond, is_some, not, List, [], ◌∷◌, ◌++◌, map, filter, Option, None, Some, refl, sym, ap, subst, ◌∙◌, arith}
use Rattle.std.proofs.lemmas.Bool.Decides.{nat_tests}
use Rattle.std.specs.Cmp.Lexicographic.{pointwise}
use Rattle.grammar.specs.Numbers.{decimal_text}
use Rattle.grammar.proofs.DecimalLaw.{decimal_is_text}
use Rattle.mur_base.specs.Number.{number_of}
use Rattle.mur_base.proofs.DecimalReadBack.{number_of-decimal}
use Rattle.mur_base.specs.declared.home.Location.{Location}
use Rattle.mupdate_codec.specs.declared.command.MCommand.{MCommand}
use Rattle.mupdate_codec.specs.declared.command.MCommand.TheVariants as command
use Rattle.mupdate_codec.specs.declared.command.MResponse.{MResponse}
use Rattle.mupdate_codec.specs.declared.command.MResponse.TheVariants as response
use Rattle.mupdate_codec.specs.declared.tag.Tag.{Tag}
use Rattle.node_record.specs.declared.table.State.{State}
use Rattle.node_record.specs.declared.table.State.TheVariants.{Bare, Kept, Active}
use Rattle.node_record.specs.declared.table.Record.{Record}
use Rattle.node_record.specs.Table.{Records, MailboxTable, record_at}
use Rattle.master_core.specs.declared.refusal.Refusal.{Refusal}
use Rattle.master_core.specs.declared.sender.Sender.TheVariants.{Backend}
use Rattle.master_core.specs.Records.{listed_line, is_listed, found_line}
use Rattle.master_core.specs.Refusals.{is_active, is_reserved, reserve_refusal, activate_refusal, deactivate_refusal, delete_refusal}
use Rattle.master_core.specs.Replies.{done, reserve_by, activate_by, deactivate_by, delete_by, reserve_reply, activate_reply, deactivate_reply, delete_reply, find_reply, list_reply, reply_to}
use Rattle.master_core.specs.Senders.{is_server}
use Rattle.home_law.specs.Items.{Server, is_same_server}
use Rattle.home_law.specs.ManyNames.{Mailbox, SentLine as OpenLine, sent_list, sent_reserve, sent_make, sent_again, sent_deactivate, sent_delete, sent_wipe, sent_find, with_line}
use Rattle.name_flows.specs.Creates.{serial_in}
use Rattle.name_links.specs.Lines.{is_asked, places_of, backend_line}
use Rattle.name_links.specs.Answers.{answers_to}
use Rattle.name_links.specs.OneLink.{under}
use Rattle.name_links.specs.LinkIs.{AreAnswers}
use Rattle.name_links.proofs.EachCommand.{some_is, if_so}
use Rattle.name_links.proofs.Messages.{same_tag_itself}

-- a serial is read again
pub serial_again : (n : ℕ) → n < 2 ^ 32 → serial_in (decimal_text n) ≡ Some n
unfolding serial_in
serial_again n h =
    let read : number_of (decimal_text n) ≡ Some n = ap number_of (sym (decimal_is_text n (omega (arith, h)))) ∙ number_of-decimal n (omega (arith, h)) in
    let within : nat_lt n (2 ^ 32) ≡ true = grind (arith, nat_tests, h) in
    rw (read, within) refl

-- the last test of a command doesn't hold where none does
rest_none : (b : Bool) (why : Refusal) (rest : Option Refusal) → cond b (Some why) rest ≡ None → rest ≡ None
rest_none true why rest e = cc
rest_none false why rest e = e

test_none : (b : Bool) (why : Refusal) (rest : Option Refusal) → cond b (Some why) rest ≡ None → b ≡ false
test_none true why rest e = cc
test_none false why rest e = refl

pub serial_left : (table : MailboxTable) (b : Server) (found : Option Record) (place : Location) → reserve_refusal table (Backend b) found place ≡ None
    → (table.serial == 4294967295) ≡ false
unfolding reserve_refusal
serial_left table b found place e =
    test_none (table.serial == 4294967295) _ _ (rest_none (is_reserved found) _ _ (rest_none (is_active found) _ _ (rest_none (not (is_server (Backend b) place)) _ _ e)))

pub next_serial : (n : ℕ) → n < 2 ^ 32 → (n == 4294967295) ≡ false → n + 1 < 2 ^ 32
next_serial n h e = grind (arith, nat_tests, h, e)

module _ (table : MailboxTable) (serial : table.serial < 2 ^ 32) (b : Server) (tag : Tag) (lines : List (Tag × OpenLine)) where
  abbrev Done : MCommand → OpenLine → Type 0
  Done it line = AreAnswers ((tag, line) ∷ lines) (map (under tag) (answers_to table b it)) lines

  reserve_done : (m : Mailbox) (place : Location) → Done (command.Reserve m place) (sent_reserve m)
  unfolding reply_to reserve_reply AreAnswers
  reserve_done m place = by_refusal (reserve_refusal table (Backend b) (record_at table m) place) refl
    where
      by_refusal : (r : Option Refusal) → reserve_refusal table (Backend b) (record_at table m) place ≡ r
          → AreAnswers ((tag, sent_reserve m) ∷ lines) (map (under tag) (reserve_by table m place r).answers) lines
      by_refusal (Some why) e = (same_tag_itself tag, tt, refl)
      by_refusal None e = (
        same_tag_itself tag,
        ap (λ (s : Option ℕ). is_some s) (serial_again (table.serial + 1) (next_serial table.serial serial (serial_left table b (record_at table m) place e))),
        refl,
      )

  activate_done : (m acl : Mailbox) (place : Location) (t : Bool) → Done (command.Activate m place acl) (cond t (sent_make m) (sent_again m))
  unfolding reply_to activate_reply AreAnswers
  activate_done m acl place t = by_refusal (activate_refusal table (Backend b) (record_at table m) place) t
    where
      by_refusal : (r : Option Refusal) (t : Bool) → AreAnswers ((tag, cond t (sent_make m) (sent_again m)) ∷ lines) (map (under tag) (activate_by (Backend b) m place acl r).answers) lines
      by_refusal (Some why) true = (same_tag_itself tag, tt, refl)
      by_refusal (Some why) false = (same_tag_itself tag, tt, refl)
      by_refusal None true = (same_tag_itself tag, tt, refl)
      by_refusal None false = (same_tag_itself tag, tt, refl)

  deactivate_done : (m : Mailbox) (place : Location) → Done (command.Deactivate m place) (sent_deactivate m)
  unfolding reply_to deactivate_reply AreAnswers
  deactivate_done m place = by_refusal (deactivate_refusal (Backend b) (record_at table m) place)
    where
      by_refusal : (r : Option Refusal) → AreAnswers ((tag, sent_deactivate m) ∷ lines) (map (under tag) (deactivate_by m place r).answers) lines
      by_refusal (Some why) = (same_tag_itself tag, tt, refl)
      by_refusal None = (same_tag_itself tag, tt, refl)

  delete_done : (m : Mailbox) (t : Bool) → Done (command.Delete m) (cond t (sent_delete m) (sent_wipe m))
  unfolding reply_to delete_reply AreAnswers
  delete_done m t = by_refusal (delete_refusal (Backend b) (record_at table m)) t
    where
      by_refusal : (r : Option Refusal) (t : Bool) → AreAnswers ((tag, cond t (sent_delete m) (sent_wipe m)) ∷ lines) (map (under tag) (delete_by m r).answers) lines
      by_refusal (Some why) true = (same_tag_itself tag, tt, refl)
      by_refusal (Some why) false = (same_tag_itself tag, tt, refl)
      by_refusal None true = (same_tag_itself tag, tt, refl)
      by_refusal None false = (same_tag_itself tag, tt, refl)

  find_done : (m : Mailbox) → Done (command.Find m) (sent_find m false)
  unfolding reply_to find_reply AreAnswers with_line
  find_done m = by_found (record_at table m)
    where
      by_state : (it : Record) (s : State) → it.state ≡ s → AreAnswers ((tag, sent_find m false) ∷ lines) (map (under tag) (found_line m (Some it) ++ response.Ok done ∷ [])) lines
      by_state it (Bare serial) e = rw e (same_tag_itself tag, tt, (same_tag_itself tag, tt, refl))
      by_state it (Kept acl) e = rw e (same_tag_itself tag, tt, (same_tag_itself tag, tt, refl))
      by_state it (Active acl) e = rw e (same_tag_itself tag, tt, (same_tag_itself tag, tt, refl))

      by_found : (found : Option Record) → AreAnswers ((tag, sent_find m false) ∷ lines) (map (under tag) (found_line m found ++ response.Ok done ∷ [])) lines
      by_found None = (same_tag_itself tag, tt, refl)
      by_found (Some it) = by_state it it.state refl

  listed_done : (entry : List ℕ × Record) (s : State) → (entry.1).state ≡ s → (more : List MResponse) → AreAnswers ((tag, sent_list) ∷ lines) (map (under tag) more) lines
      → AreAnswers ((tag, sent_list) ∷ lines) (map (under tag) (listed_line entry ∷ more)) lines
  unfolding AreAnswers with_line
  listed_done entry (Bare serial) e more a = rw e (same_tag_itself tag, tt, a)
  listed_done entry (Kept acl) e more a = rw e (same_tag_itself tag, tt, a)
  listed_done entry (Active acl) e more a = rw e (same_tag_itself tag, tt, a)

  listed_if : (entry : List ℕ × Record) (t : Bool) (more : Records) → AreAnswers ((tag, sent_list) ∷ lines) (map (under tag) (map listed_line more ++ response.Ok done ∷ [])) lines
      → AreAnswers ((tag, sent_list) ∷ lines) (map (under tag) (map listed_line (cond t (entry ∷ more) more) ++ response.Ok done ∷ [])) lines
  listed_if entry true more a = listed_done entry (entry.1).state refl (map listed_line more ++ response.Ok done ∷ []) a
  listed_if entry false more a = a

  list_of_done : (prefix : Option (List ℕ)) (records : Records)
      → AreAnswers ((tag, sent_list) ∷ lines) (map (under tag) (map listed_line (filter (is_listed prefix) records) ++ response.Ok done ∷ [])) lines
  unfolding AreAnswers
  list_of_done prefix [] = (same_tag_itself tag, tt, refl)
  list_of_done prefix (entry ∷ records) = listed_if entry (is_listed prefix entry) (filter (is_listed prefix) records) (list_of_done prefix records)

  list_done : (prefix : Option (List ℕ)) → Done (command.List prefix) sent_list
  unfolding reply_to list_reply
  list_done prefix = list_of_done prefix table.records

  pub answers_done : (it : MCommand) (line : OpenLine) → backend_line b tag it ≡ Some line → Done it line
  unfolding backend_line
  answers_done (command.Reserve m place) line e = subst (λ l. Done (command.Reserve m place) l) (if_so (is_same_server place.server b) (sent_reserve m) line e).1 (reserve_done m place)
  answers_done (command.Activate m place acl) line e =
      subst (λ l. Done (command.Activate m place acl) l) (if_so (is_same_server place.server b) (cond (is_asked tag) (sent_make m) (sent_again m)) line e).1 (activate_done m acl place (is_asked tag))
  answers_done (command.Deactivate m place) line e = subst (λ l. Done (command.Deactivate m place) l) (if_so (is_same_server place.server b) (sent_deactivate m) line e).1 (deactivate_done m place)
  answers_done (command.Delete m) line e = subst (λ l. Done (command.Delete m) l) (some_is e) (delete_done m (is_asked tag))
  answers_done (command.Find m) line e = subst (λ l. Done (command.Find m) l) (some_is e) (find_done m)
  answers_done (command.List (Some prefix)) line e =
      subst (λ l. Done (command.List (Some prefix)) l) (if_so (pointwise nat_eq prefix (places_of b)) sent_list line e).1 (list_done (Some prefix))
  answers_done (command.List None) line e = cc
  answers_done command.Update line e = cc
  answers_done command.Noop line e = cc
  answers_done command.Logout line e = cc

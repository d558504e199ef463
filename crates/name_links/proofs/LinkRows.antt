-- Rows of steps of the protocol of one name, each of which keeps its invariant.
use Rattle.std.proofs.Common.{◌≡◌, ◌≢◌, Bool, true, false, cond, List, [], ◌∷◌, ◌++◌, refl, sym, ap, subst, ◌∙◌, append-nil, append_assoc}
use Rattle.home_law.specs.Items.{bare, kept, active, NameRecord, Server, Seen, free, other, own, Mine, Item, list, reserve, make, again, deactivate, delete, wipe, find, make_ok, make_no, again_ok, delete_ok, wipe_ok, refused, Ctl}
use Rattle.home_law.specs.Steps.{hear, NameAsk as Request, ask, answer, answer_reserve, answer_activate, answer_deactivate, answer_delete}
use Rattle.home_law.specs.Link.{Back, sent_over, does, hears_first, asked, took, takes_first, see, put}
use Rattle.home_law.specs.LinkOk.{EachItem, LinkOk}
use Rattle.home_law.specs.ManyNames.{Mailbox, is_same_mailbox, SentLine, sent_list, sent_reserve, sent_make, sent_again, sent_deactivate, sent_delete, sent_wipe, sent_find}
use Rattle.home_law.specs.Rows.{mine_of}
use Rattle.home_law.proofs.Moves.{is_other}
use Rattle.home_law.proofs.Events.{hear_linked, asked_kept}
use Rattle.home_law.proofs.LinkEvents.{hears_kept, takes_kept}
use Rattle.home_law.proofs.LinkSays.{none_refused}
use Rattle.home_law.proofs.Records.{others_same}
use Rattle.home_law.proofs.SameName.{is_another}
use Rattle.name_flows.specs.declared.ask.NameAsk.{NameAsk}
use Rattle.name_flows.specs.OneName.{request, quiet, asked_as, heard_as}
use Rattle.name_links.specs.Lines.{items_of, answered}
use Rattle.name_links.specs.Answers.{NoneRefused}
use Rattle.name_links.proofs.ListCommand.{list_seen, find_seen}

abbrev pub back : Ctl → List Item → List Item → Back
back c d u = record { ctl = c; down = d; up = u }

-- ---- the backend takes some messages, one after the other

pub one_heard : (m : Mine) (c : Ctl) (x : Item) (d u : List Item) → c.linked ≡ true → LinkOk m (back c (x ∷ d) u) → LinkOk m (back (hear c x).ctl d (u ++ (hear c x).says))
unfolding hears_first does sent_over
one_heard m c x d u e ok = subst (λ l. LinkOk m (back (hear c x).ctl d (u ++ sent_over l (hear c x).says))) e (hears_kept m (back c (x ∷ d) u) ok)

pub heard_kept : (xs : List Item) (m : Mine) (c : Ctl) (d u : List Item) → c.linked ≡ true → LinkOk m (back c (xs ++ d) u)
    → LinkOk m (back (heard_as xs c).ctl d (u ++ (heard_as xs c).says))
unfolding heard_as
heard_kept [] m c d u e ok = subst (λ z. LinkOk m (back c d z)) (sym (append-nil u)) ok
heard_kept (x ∷ xs) m c d u e ok =
    subst (λ z. LinkOk m (back (heard_as xs (hear c x).ctl).ctl d z)) (append_assoc u (hear c x).says (heard_as xs (hear c x).ctl).says)
    (heard_kept xs m (hear c x).ctl d (u ++ (hear c x).says) (hear_linked m c x (xs ++ d) u ok ∙ e) (one_heard m c x (xs ++ d) u e ok))

-- ---- the backend is asked

pub ask_kept : (a : Request) (m : Mine) (c : Ctl) (d u : List Item) → c.linked ≡ true → LinkOk m (back c d u) → LinkOk m (back (ask a c).ctl d (u ++ (ask a c).says))
unfolding asked does sent_over
ask_kept a m c d u e ok = subst (λ l. LinkOk m (back (ask a c).ctl d (u ++ sent_over l (ask a c).says))) e (asked_kept a m (back c d u) ok)

pub asked_row : (n : Mailbox) (it : NameAsk) (m : Mine) (c : Ctl) (d u : List Item) → c.linked ≡ true → LinkOk m (back c d u)
    → LinkOk m (back (asked_as n it c).ctl d (u ++ (asked_as n it c).says))
asked_row n it m c d u e ok = by_test (is_same_mailbox it.name n)
  where
    by_test : (t : Bool) → LinkOk m (back (cond t (ask (request it.kind) c) (quiet c)).ctl d (u ++ (cond t (ask (request it.kind) c) (quiet c)).says))
    by_test true = ask_kept (request it.kind) m c d u e ok
    by_test false = subst (λ z. LinkOk m (back c d z)) (sym (append-nil u)) ok

-- ---- the master takes a line, which is at most one message to a name

abbrev pub AtMostOne : List Item → Type 0
AtMostOne [] = Unit {0}
AtMostOne (x ∷ []) = Unit {0}
AtMostOne (x ∷ y ∷ xs) = ⊥

one_if : (t : Bool) (x : Item) → AtMostOne (cond t (x ∷ []) [])
one_if true x = tt
one_if false x = tt

pub items_one : (n : Mailbox) (line : SentLine) → AtMostOne (items_of n line)
unfolding items_of
items_one n sent_list = tt
items_one n (sent_reserve m) = one_if (is_same_mailbox m n) reserve
items_one n (sent_make m) = one_if (is_same_mailbox m n) make
items_one n (sent_again m) = one_if (is_same_mailbox m n) again
items_one n (sent_deactivate m) = one_if (is_same_mailbox m n) deactivate
items_one n (sent_delete m) = one_if (is_same_mailbox m n) delete
items_one n (sent_wipe m) = one_if (is_same_mailbox m n) wipe
items_one n (sent_find m told) = one_if (is_same_mailbox m n) find

pub answered_kept : (is_full : Bool) (r : NameRecord) (b : Server) (xs : List Item) (c : Ctl) (d u : List Item) → AtMostOne xs → c.linked ≡ true
    → LinkOk (mine_of (see r b)) (back c d (xs ++ u))
    → LinkOk (mine_of (see (answered is_full b r xs).known b)) (back c (d ++ (answered is_full b r xs).says) u)
unfolding answered takes_first took sent_over
answered_kept f r b [] c d u one e ok = subst (λ z. LinkOk (mine_of (see r b)) (back c z u)) (sym (append-nil d)) ok
answered_kept f r b (x ∷ []) c d u one e ok =
    subst (λ l. LinkOk (mine_of (see (put (answer f (see r b) x).seen b r) b)) (back c (d ++ sent_over l (answer f (see r b) x).says) u)) e (takes_kept f r b (back c d (x ∷ u)) ok)
answered_kept f r b (x ∷ y ∷ xs) c d u one e ok = absurd one

pub answered_granted : (is_full : Bool) (r : NameRecord) (b : Server) (xs : List Item) (c : Ctl) (d u : List Item) → AtMostOne xs
    → LinkOk (mine_of (see r b)) (back c d (xs ++ u)) → NoneRefused (answered is_full b r xs).says
unfolding answered EachItem
answered_granted f r b [] c d u one ok = tt
answered_granted f r b (x ∷ []) c d u one ok = none_refused f (see r b) (back c d (x ∷ u)) x u ok refl
answered_granted f r b (x ∷ y ∷ xs) c d u one ok = absurd one

-- ---- to another backend the record is as it was

abbrev KeepsOther : (Seen → Seen) → Type 0
KeepsOther f = (s : Seen) → is_other (f s) ≡ is_other s

reserve_keeps : (f : Bool) → KeepsOther (λ s. (answer_reserve f s).seen)
unfolding answer_reserve is_other
reserve_keeps true free = refl
reserve_keeps false free = refl
reserve_keeps true other = refl
reserve_keeps false other = refl
reserve_keeps true (own k) = refl
reserve_keeps false (own k) = refl

activate_keeps : (f : Bool) (ok full : Item) → KeepsOther (λ s. (answer_activate f s ok full).seen)
unfolding answer_activate is_other
activate_keeps true ok full free = refl
activate_keeps false ok full free = refl
activate_keeps true ok full other = refl
activate_keeps false ok full other = refl
activate_keeps true ok full (own bare) = refl
activate_keeps false ok full (own bare) = refl
activate_keeps true ok full (own kept) = refl
activate_keeps false ok full (own kept) = refl
activate_keeps true ok full (own active) = refl
activate_keeps false ok full (own active) = refl

deactivate_keeps : KeepsOther (λ s. (answer_deactivate s).seen)
unfolding answer_deactivate is_other
deactivate_keeps free = refl
deactivate_keeps other = refl
deactivate_keeps (own bare) = refl
deactivate_keeps (own kept) = refl
deactivate_keeps (own active) = refl

delete_keeps : (ok : Item) → KeepsOther (λ s. (answer_delete s ok).seen)
unfolding answer_delete is_other
delete_keeps ok free = refl
delete_keeps ok other = refl
delete_keeps ok (own k) = refl

module _ (is_full : Bool) (r : NameRecord) (q b : Server) (ne : q ≢ b) where
  to_other : (x : Item) → is_other (answer is_full (see r q) x).seen ≡ is_other (see r q)
      → mine_of (see (put (answer is_full (see r q) x).seen q r) b) ≡ mine_of (see r b)
  to_other x e = others_same r q b (answer is_full (see r q) x).seen (is_another q b ne) e

  by_if : (t : Bool) (x : Item) → is_other (answer is_full (see r q) x).seen ≡ is_other (see r q)
      → mine_of (see (answered is_full q r (cond t (x ∷ []) [])).known b) ≡ mine_of (see r b)
  unfolding answered
  by_if true x e = to_other x e
  by_if false x e = refl

  pub others_still : (n : Mailbox) (line : SentLine) → mine_of (see (answered is_full q r (items_of n line)).known b) ≡ mine_of (see r b)
  unfolding items_of answer
  others_still n sent_list = by_if true list (ap is_other (list_seen (see r q)))
  others_still n (sent_reserve m) = by_if (is_same_mailbox m n) reserve (reserve_keeps is_full (see r q))
  others_still n (sent_make m) = by_if (is_same_mailbox m n) make (activate_keeps is_full make_ok make_no (see r q))
  others_still n (sent_again m) = by_if (is_same_mailbox m n) again (activate_keeps is_full again_ok refused (see r q))
  others_still n (sent_deactivate m) = by_if (is_same_mailbox m n) deactivate (deactivate_keeps (see r q))
  others_still n (sent_delete m) = by_if (is_same_mailbox m n) delete (delete_keeps delete_ok (see r q))
  others_still n (sent_wipe m) = by_if (is_same_mailbox m n) wipe (delete_keeps wipe_ok (see r q))
  others_still n (sent_find m told) = by_if (is_same_mailbox m n) find (ap is_other (find_seen (see r q)))

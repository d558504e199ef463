-- Each step as a move, and the tests of all moves, computed.
use Rattle.std.proofs.Common.{◌≡◌, Bool, true, false, ◌&&◌, not, List, [], ◌∷◌, refl}
use Rattle.home_law.specs.Items.{Mine, Seen, other, Item, backend_up, backend_end, master_up, master_end, refused, Ctl, item_number, is_among}
use Rattle.home_law.specs.Steps.{hear_listed_active, hear_listed_reserved, hear_list_ok, hear_reserve_ok, hear_reserve_no, hear_make_ok, hear_make_no, hear_again_ok, hear_deactivate_ok, hear_delete_ok, hear_wipe_ok, hear_find, hear, answer_list, answer_reserve, answer_activate, answer_deactivate, answer_delete, answer_find, answer, NameAsk, create, remove, begin_ask, ask_at, ask, unlinked, crashed}
use Rattle.home_law.specs.Link.{sent_over}
use Rattle.home_law.specs.Rows.{mine_of, is_away, is_bare, is_kept, is_active, is_creating, is_serving, is_closing, is_idle, is_reserving, is_making, is_pausing, is_deleting, is_synced, is_listing, home_ok, flow_ok, control_ok, answer_ok, line_ok, followers, precedes, first_answer_ok, first_line_ok, is_unfinished, finishes, awaited_by, waits, is_awaited}
use Rattle.home_law.specs.LinkOk.{hears_then}
use Rattle.home_law.proofs.Finite.{all_true, provided, every, at, all_items, all_bools, all_mines, all_seens, all_phases, all_flows, all_resyncs, all_ctls}
use Rattle.home_law.proofs.Lists.{heard_after}
use Rattle.home_law.proofs.Move.{Move, first_is, one_is, sorted, answer_checks, answer_kept, line_checks, line_kept, no_answer_helps, checks, keeps}

unfoldable pub same : Bool → Bool → Bool
same true b = b
same false b = not b

-- no line is refused but RESERVE and the first ACTIVATE, which have answers of their own
unfoldable pub not_refused : Item → Bool
unfolding is_among
not_refused x = not (is_among (refused ∷ []) x)

unfoldable pub is_other : Seen → Bool
is_other other = true
is_other s = false

abbrev pub any : Item → Bool
any x = true

abbrev pub none : Item → Bool
none x = false

-- the backend takes its first message
abbrev pub hear_move : Mine → Ctl → Item → Move
hear_move m c x = record {
  was = m;
  from = c;
  now = m;
  to = (hear c x).ctl;
  kept_d = precedes x;
  kept_u = precedes x;
  head_d = any;
  head_u = first_line_ok m c;
  finishing = is_unfinished m c && not (finishes m c x);
  waiting = waits c && not (is_awaited c x);
  says_d = [];
  says_u = sent_over c.linked (hear c x).says;
}

-- the master takes the backend's first line
abbrev pub take_move : Bool → Seen → Ctl → Item → Move
take_move is_full s c x = record {
  was = mine_of s;
  from = c;
  now = mine_of (answer is_full s x).seen;
  to = c;
  kept_d = λ y. precedes y x;
  kept_u = precedes x;
  head_d = first_answer_ok (mine_of s) c;
  head_u = any;
  finishing = is_unfinished (mine_of s) c && not (finishes (mine_of s) c x);
  waiting = waits c && not (is_awaited c x);
  says_d = sent_over c.linked (answer is_full s x).says;
  says_u = [];
}

abbrev pub ask_move : NameAsk → Mine → Ctl → Move
ask_move a m c = record {
  was = m;
  from = c;
  now = m;
  to = (ask a c).ctl;
  kept_d = any;
  kept_u = any;
  head_d = first_answer_ok m c;
  head_u = first_line_ok m c;
  finishing = is_unfinished m c;
  waiting = waits c;
  says_d = [];
  says_u = sent_over c.linked (ask a c).says;
}

-- the link breaks or is made again, a node crashes: what is kept of the queues is given by kept_d and kept_u
abbrev pub fault_move : Mine → Ctl → Ctl → (Item → Bool) → (Item → Bool) → List Item → List Item → Move
fault_move m c to d u says_d says_u = record {
  was = m;
  from = c;
  now = m;
  to = to;
  kept_d = d;
  kept_u = u;
  head_d = first_answer_ok m c;
  head_u = first_line_ok m c;
  finishing = false;
  waiting = false;
  says_d = says_d;
  says_u = says_u;
}

abbrev pub cut_move : Mine → Ctl → Move
cut_move m c = fault_move m c (unlinked c) any any (backend_end ∷ []) (master_end ∷ [])

abbrev pub crash_move : Mine → Ctl → List Item → Move
crash_move m c says = fault_move m c (crashed c) none any [] says

abbrev pub lose_move : Mine → Ctl → List Item → Move
lose_move m c says = fault_move m c (unlinked c) any none says []

abbrev pub join_move : Mine → Ctl → Move
join_move m c = fault_move m c (record c { linked = true }) none none (backend_up ∷ []) (master_up ∷ [])

unfoldable pub hear_checks : Mine → Ctl → Item → List Bool
unfolding keeps hear sent_over same heard_after
hear_checks m c x = keeps (hear_move m c x) ∷ same (hear c x).ctl.hears (heard_after c.hears x) ∷ same (hear c x).ctl.linked c.linked ∷ []

unfoldable pub take_checks : Bool → Seen → Ctl → Item → List Bool
unfolding keeps answer sent_over same hears_then is_other mine_of every not_refused
take_checks is_full s c x =
    keeps (take_move is_full s c x) ∷ same (hears_then c.linked (sent_over c.linked (answer is_full s x).says)) c.linked ∷ same (is_other (answer is_full s x).seen) (is_other s)
    ∷ every not_refused (answer is_full s x).says ∷ []

unfoldable pub ask_checks : NameAsk → Mine → Ctl → List Bool
unfolding keeps ask sent_over same
ask_checks a m c = keeps (ask_move a m c) ∷ same (ask a c).ctl.hears c.hears ∷ same (ask a c).ctl.linked c.linked ∷ []

unfoldable pub hear_test : Mine → Ctl → Item → Bool
unfolding all_true provided hear_checks control_ok answer_ok first_answer_ok
hear_test m c x = provided (control_ok m c && (answer_ok m c x && first_answer_ok m c x)) (λ _. all_true (hear_checks m c x))

unfoldable pub take_test : Bool → Seen → Ctl → Item → Bool
unfolding all_true provided take_checks control_ok line_ok first_line_ok
take_test is_full s c x = provided (control_ok (mine_of s) c && (line_ok (mine_of s) c x && first_line_ok (mine_of s) c x)) (λ _. all_true (take_checks is_full s c x))

unfoldable pub ask_test : NameAsk → Mine → Ctl → Bool
unfolding all_true provided ask_checks control_ok
ask_test a m c = provided (control_ok m c) (λ _. all_true (ask_checks a m c))

unfoldable pub linked_tests : Mine → Ctl → List Bool
unfolding keeps
linked_tests m c = keeps (cut_move m c) ∷ keeps (crash_move m c (master_end ∷ [])) ∷ keeps (lose_move m c (backend_end ∷ [])) ∷ []

unfoldable pub linked_test : Mine → Ctl → Bool
unfolding all_true provided linked_tests control_ok
linked_test m c = provided (control_ok m c && c.linked) (λ _. all_true (linked_tests m c))

unfoldable pub unlinked_tests : Mine → Ctl → List Bool
unfolding keeps provided
unlinked_tests m c = keeps (crash_move m c []) ∷ keeps (lose_move m c []) ∷ provided (not c.hears) (λ _. keeps (join_move m c)) ∷ []

unfoldable pub unlinked_test : Mine → Ctl → Bool
unfolding all_true provided unlinked_tests control_ok
unlinked_test m c = provided (control_ok m c && not c.linked) (λ _. all_true (unlinked_tests m c))

-- all that a test computes with
unfoldable pub computed : Bool
unfolding item_number is_among hear_listed_active hear_listed_reserved hear_list_ok hear_reserve_ok hear_reserve_no hear_make_ok hear_make_no hear_again_ok hear_deactivate_ok hear_delete_ok hear_wipe_ok hear_find hear answer_list answer_reserve answer_activate answer_deactivate answer_delete answer_find answer begin_ask ask_at ask sent_over mine_of is_away is_bare is_kept is_active is_creating is_serving is_closing is_idle is_reserving is_making is_pausing is_deleting is_synced is_listing home_ok flow_ok control_ok answer_ok line_ok followers precedes first_answer_ok first_line_ok is_unfinished finishes awaited_by waits is_awaited hears_then all_true provided every at all_items all_bools all_mines all_seens all_phases all_flows all_resyncs all_ctls heard_after first_is one_is sorted answer_checks answer_kept line_checks line_kept no_answer_helps checks keeps same not_refused is_other hear_checks take_checks ask_checks hear_test take_test ask_test linked_tests linked_test unlinked_tests unlinked_test
computed = true

pub asks_computed : (a : NameAsk) → all_mines (λ m. all_ctls (λ c. ask_test a m c)) ≡ true
unfolding computed
asks_computed create = refl
asks_computed remove = refl

pub linked_computed : all_mines (λ m. all_ctls (λ c. linked_test m c)) ≡ true
unfolding computed
linked_computed = refl

pub unlinked_computed : all_mines (λ m. all_ctls (λ c. unlinked_test m c)) ≡ true
unfolding computed
unlinked_computed = refl

pub hears_computed : all_mines (λ m. all_ctls (λ c. all_items (λ x. hear_test m c x))) ≡ true
unfolding computed
hears_computed = refl

pub takes_computed : all_bools (λ is_full. all_seens (λ s. all_ctls (λ c. all_items (λ x. take_test is_full s c x)))) ≡ true
unfolding computed
takes_computed = refl

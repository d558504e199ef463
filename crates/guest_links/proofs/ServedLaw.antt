-- Whatever happens at the master, each client is served as its dialog says.
use Rattle.std.proofs.Common.{◌≡◌, ◌≢◌, ℕ, Bool, true, false, nat_eq, ◌&&◌, not, cond, List, [], ◌∷◌, ◌++◌, Option, None, Some, refl, sym, ap, ◌∙◌, subst}
use Rattle.std.proofs.Common.{append-nil, append_assoc}
use Rattle.std.specs.Ordering.{nat_cmp}
use Rattle.std.proofs.Math.Logic.{⊎_elim}
use Rattle.std.proofs.lemmas.Bool.{cases_eq}
use Rattle.link_msg.specs.declared.out.Out.TheVariants.{Client}
use Rattle.master_core.specs.declared.master.Master.{Master}
use Rattle.master_core.specs.declared.outside.Outside.{Outside}
use Rattle.master_core.specs.declared.outside.Outside.TheVariants as outside
use Rattle.master_core.specs.Dialogs.{greeted}
use Rattle.master_core.specs.Greeting.{greeting}
use Rattle.master_core.specs.Linked.{node_entry}
use Rattle.master_core.specs.Outside.{Stepped, connect, connect_at, bytes_at, bytes_in}
use Rattle.master_core.specs.Streams.{ended_if, without}
use Rattle.master_core.proofs.OutsideAlone.{ActsAlone, bytes_alone, connects_alone, ends_alone}
use Rattle.master_core.proofs.OutsideLaw.{bytes_leave}
use Rattle.mur_base.specs.Map.{value_at}
use Rattle.mur_base.proofs.MapLaws.{numbers_apart, value_at-with_entry}
use Rattle.guest_links.specs.Guests.{Guest, arrived, bytes_taken, left}
use Rattle.guest_links.specs.Happenings.{Happening, connects, says, leaves, sends, hung_up}
use Rattle.guest_links.specs.Happenings.{step_of, change_of, seen_after, master_from, outs_from, seen_from}
use Rattle.guest_links.specs.Outputs.{given_by}
use Rattle.guest_links.specs.Served.{HasWatchers, IsGuestOf, IsNoGuest, IsSeen}
use Rattle.guest_links.specs.Served.{IsServed, given_to, EachStepServes, ChangesAreOfTheTable, ClientsHaveTheirDialogs}
use Rattle.guest_links.proofs.NodeLines.{node_step, guest_told, nobody_told}
use Rattle.guest_links.proofs.Numbers.{same_number, other_number, gone}
use Rattle.guest_links.proofs.Orders.{watchers_stay_in_order}
use Rattle.guest_links.proofs.Outputs.{Gives, gives_nothing, one_more, to_it, others_outputs, given_both}
use Rattle.guest_links.proofs.OwnLines.{bytes_served, left_is}

-- it is this client's, or another's
by_client : (P : Bool → Type 0) (conn other : ℕ) → (conn ≡ other → P true) → (conn ≢ other → P false) → P (nat_eq conn other)
by_client P conn other own another = ⊎_elim
    (λ (e : conn ≡ other). subst P (sym (ap (nat_eq conn) (sym e) ∙ same_number conn)) (own e))
    (λ (ne : conn ≢ other). subst P (sym (other_number conn other ne)) (another ne))
    (cases_eq conn other)

-- a step that gives it nothing
given_nothing : (conn : ℕ) (next : Stepped) (seen later : Option Guest) → IsSeen next.master conn later → given_to later ≡ given_to seen
    → Gives conn next.outs []
    → IsServed conn next seen later false
given_nothing conn next seen later is same gives = record {
  is = is;
  given = same ∙ sym (append-nil (given_to seen)) ∙ ap (λ bytes. given_to seen ++ bytes) (sym gives.given);
  closed = gives.closed;
  last = gives.last;
}

-- another client's step

seen_beside : (conn other : ℕ) (master : Master) (next : Stepped) (seen : Option Guest) → conn ≢ other → ActsAlone other master next.master next.outs
    → IsSeen master conn seen → IsSeen next.master conn seen
seen_beside conn other master next None ne alone none = record {
  outside = alone.beside.outside conn ne ∙ none.outside;
  watcher = alone.beside.watchers conn ne ∙ none.watcher;
}
seen_beside conn other master next (Some guest) ne alone is = record {
  outside = alone.beside.outside conn ne ∙ is.outside;
  watcher = alone.beside.watchers conn ne ∙ is.watcher;
  streams = is.streams;
}

another_acts : (conn other : ℕ) (master : Master) (next : Stepped) (seen : Option Guest) → conn ≢ other → ActsAlone other master next.master next.outs
    → IsSeen master conn seen → IsServed conn next seen seen false
another_acts conn other master next seen ne alone is =
    given_nothing conn next seen seen (seen_beside conn other master next seen ne alone is) refl
    (others_outputs conn other next.outs (λ e. ne (sym e)) alone.own)

-- its own steps

arrives : (master : Master) (conn : ℕ) → IsNoGuest master conn → IsServed conn (connect master conn) None (Some (arrived master.me)) false
unfolding connect connect_at greeted
arrives master conn none =
    let gives = one_more conn (Client conn (greeting master.me)) [] (greeting master.me) [] (to_it conn (greeting master.me)) refl (gives_nothing conn) in
    subst (λ (found : Option Outside). IsServed conn (connect_at master conn found) None (Some (arrived master.me)) false) (sym none.outside)
    (record {
      is = record {
        outside = value_at-with_entry nat_cmp numbers_apart master.outside conn (outside.Open (Some []));
        watcher = none.watcher;
        streams = λ on. refl;
      };
      given = sym (gives.given ∙ append-nil (greeting master.me));
      closed = gives.closed;
      last = gives.last;
    })

arrives_again : (master : Master) (conn : ℕ) (guest : Guest) → IsGuestOf master conn guest → IsServed conn (connect master conn) (Some guest) (Some guest) false
unfolding connect connect_at
arrives_again master conn guest is =
    subst (λ (found : Option Outside). IsServed conn (connect_at master conn found) (Some guest) (Some guest) false) (sym is.outside)
    (given_nothing conn (record { master = master; outs = [] }) (Some guest) (Some guest) is refl (gives_nothing conn))

nobody_says : (master : Master) (conn : ℕ) (bytes : List ℕ) → IsNoGuest master conn → IsServed conn (bytes_in master conn bytes) None None false
unfolding bytes_in bytes_at
nobody_says master conn bytes none =
    subst (λ (found : Option Outside). IsServed conn (bytes_at master conn bytes found) None None false) (sym none.outside)
    (given_nothing conn (record { master = master; outs = [] }) None None none refl (gives_nothing conn))

nobody_leaves : (master : Master) (conn : ℕ) → HasWatchers master → IsNoGuest master conn
    → IsServed conn (hung_up master conn) None None false
unfolding without
nobody_leaves master conn order none =
    given_nothing conn (hung_up master conn) None None (record {
      outside = ap (λ found. value_at nat_cmp (ended_if master.outside conn found) conn) none.outside ∙ none.outside;
      watcher = gone master.watchers conn order;
    }) refl (gives_nothing conn)

leaves_it : (master : Master) (conn : ℕ) (guest : Guest) → HasWatchers master → IsGuestOf master conn guest
    → IsServed conn (hung_up master conn) (Some guest) (Some (left guest)) false
leaves_it master conn guest order is =
    given_nothing conn (hung_up master conn) (Some guest) (Some (left guest))
    (left_is master conn guest order is) refl
    (gives_nothing conn)

over_or_not : (b : Bool) → (b && not b) ≡ false
over_or_not true = refl
over_or_not false = refl

pub each_step_serves : EachStepServes
unfolding step_of seen_after
each_step_serves master conn None (connects other) order none =
    by_client (λ b. IsServed conn (connect master other) None (cond b (Some (arrived master.me)) None) false) conn other
    (λ e. subst (λ c. IsServed conn (connect master c) None (Some (arrived master.me)) false) e (arrives master conn none))
    (λ ne. another_acts conn other master (connect master other) None ne (connects_alone master other) none)
each_step_serves master conn None (says other bytes) order none =
    by_client (λ b. IsServed conn (bytes_in master other bytes) None None false) conn other
    (λ e. subst (λ c. IsServed conn (bytes_in master c bytes) None None false) e (nobody_says master conn bytes none))
    (λ ne. another_acts conn other master (bytes_in master other bytes) None ne (bytes_alone master other bytes) none)
each_step_serves master conn None (leaves other) order none =
    by_client (λ b. IsServed conn (hung_up master other) None None false) conn other
    (λ e. subst (λ c. IsServed conn (hung_up master c) None None false) e (nobody_leaves master conn order none))
    (λ ne. another_acts conn other master (hung_up master other) None ne (ends_alone master other) none)
each_step_serves master conn None (sends node message) order none =
    nobody_told master conn _ (node_entry master node message) order (node_step master conn node message) none
each_step_serves master conn (Some guest) (connects other) order is =
    by_client (λ b. IsServed conn (connect master other) (Some guest) (Some guest) false) conn other
    (λ e. subst (λ c. IsServed conn (connect master c) (Some guest) (Some guest) false) e (arrives_again master conn guest is))
    (λ ne. another_acts conn other master (connect master other) (Some guest) ne (connects_alone master other) is)
each_step_serves master conn (Some guest) (says other bytes) order is =
    by_client (λ b. IsServed conn (bytes_in master other bytes) (Some guest) (Some (cond b (bytes_taken master.table conn guest bytes) guest))
    ((cond b (bytes_taken master.table conn guest bytes) guest).dialog.ended && not guest.dialog.ended)) conn other
    (λ e. subst (λ c. IsServed conn (bytes_in master c bytes) (Some guest) (Some (bytes_taken master.table conn guest bytes))
    ((bytes_taken master.table conn guest bytes).dialog.ended && not guest.dialog.ended)) e (bytes_served master conn guest bytes order is))
    (λ ne. subst (IsServed conn (bytes_in master other bytes) (Some guest) (Some guest)) (sym (over_or_not guest.dialog.ended))
    (another_acts conn other master (bytes_in master other bytes) (Some guest) ne (bytes_alone master other bytes) is))
each_step_serves master conn (Some guest) (leaves other) order is =
    by_client (λ b. IsServed conn (hung_up master other) (Some guest) (Some (cond b (left guest) guest)) false) conn other
    (λ e. subst (λ c. IsServed conn (hung_up master c) (Some guest) (Some (left guest)) false) e
    (leaves_it master conn guest order is))
    (λ ne. another_acts conn other master (hung_up master other) (Some guest) ne (ends_alone master other) is)
each_step_serves master conn (Some guest) (sends node message) order is =
    guest_told master conn guest _ (node_entry master node message) order (node_step master conn node message) is

pub changes_are_of_the_table : ChangesAreOfTheTable
unfolding step_of
changes_are_of_the_table master (connects conn) = (connects_alone master conn).beside.table
changes_are_of_the_table master (says conn bytes) = bytes_leave master conn bytes
changes_are_of_the_table master (leaves conn) = (ends_alone master conn).beside.table
changes_are_of_the_table master (sends node message) = (node_step master 0 node message).table

-- one thing after another

abbrev pub next_seen : Master → ℕ → Option Guest → Happening → Option Guest
next_seen master conn seen happening = seen_after master.me master.table (change_of master happening) conn seen happening

pub seen_on : (master : Master) (conn : ℕ) (seen : Option Guest) (happenings : List Happening) → HasWatchers master → IsSeen master conn seen
    → IsSeen (master_from master happenings) conn (seen_from master conn seen happenings)
unfolding master_from seen_from
seen_on master conn seen [] order is = is
seen_on master conn seen (happening ∷ more) order is =
    seen_on (step_of master happening).master conn (next_seen master conn seen happening) more (watchers_stay_in_order master happening order)
    (each_step_serves master conn seen happening order is).is

pub given_on : (master : Master) (conn : ℕ) (seen : Option Guest) (happenings : List Happening) → HasWatchers master → IsSeen master conn seen
    → given_to (seen_from master conn seen happenings) ≡ given_to seen ++ given_by conn (outs_from master happenings)
unfolding outs_from seen_from
given_on master conn seen [] order is = sym (append-nil (given_to seen))
given_on master conn seen (happening ∷ more) order is =
    let served = each_step_serves master conn seen happening order is in
    let next : Stepped = step_of master happening in
    given_on next.master conn (next_seen master conn seen happening) more (watchers_stay_in_order master happening order) served.is
    ∙ ap (λ bytes. bytes ++ given_by conn (outs_from next.master more)) served.given
    ∙ append_assoc (given_to seen) (given_by conn next.outs) (given_by conn (outs_from next.master more))
    ∙ ap (λ bytes. given_to seen ++ bytes) (sym (given_both conn next.outs (outs_from next.master more)))

pub clients_have_their_dialogs : ClientsHaveTheirDialogs
clients_have_their_dialogs master conn happenings order none = record {
  is = seen_on master conn None happenings order none;
  given = given_on master conn None happenings order none;
}

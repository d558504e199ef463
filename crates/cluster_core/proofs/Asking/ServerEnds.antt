-- The link from a server to a frontend ends, which isn't the master: nothing goes out on any link, and each connection is as it was, or has ended.
use Rattle.std.proofs.Common.{◌≡◌, ◌≢◌, ◌⊎◌, inl, inr, ℕ, nat_eq, Bool, true, false, List, [], ◌∷◌, Option, None, Some, refl, sym, ◌∙◌, ap, subst}
use Rattle.std.specs.List.{AllByRecursion}
use Rattle.std.specs.Map.{keys_of}
use Rattle.std.specs.Ordering.{nat_cmp}
use Rattle.std.specs.Cmp.Lexicographic.{pointwise, same_text}
use Rattle.asking_core.specs.declared.waiting.At.{At}
use Rattle.asking_core.specs.declared.waiting.At.TheVariants.{Home, Barrier}
use Rattle.feed_links.proofs.FeedLaw.{both}
use Rattle.front_core.proofs.AskOrder.{outs_all}
use Rattle.front_core.specs.Answered.{end_by, end_comes, ends_at}
use Rattle.front_core.specs.Ended.{released, released_at}
use Rattle.front_core.specs.declared.connection.Connection.{Connection}
use Rattle.front_core.specs.declared.connection.Stage.{Stage}
use Rattle.front_core.specs.declared.connection.Stage.TheVariants.{Reading, Waits, Lists, Ended}
use Rattle.front_core.specs.declared.front.Front.{Front}
use Rattle.front_core.specs.Front.{Stepped, all_end, awaited, connection_at, end_at, end_from, end_if, one_ends, still, ways_of, with_turned, without_up}
use Rattle.front_core.specs.Stages.{asks_at, awaits, has_asked, waits_at}
use Rattle.front_core.specs.Taken.{Turned, says_bye}
use Rattle.imap_types.specs.declared.reply.Bye.TheVariants.{Lost}
use Rattle.imap_types.specs.declared.command.Tag.{Tag}
use Rattle.asking_core.specs.declared.waiting.Waiting.{Waiting}
use Rattle.link_msg.specs.declared.out.Out.{Out}
use Rattle.link_msg.specs.declared.out.Out.TheVariants.{Client, Close}
use Rattle.mur_base.proofs.MapLaws.{numbers_apart, same_or_other, value_at-with_value, value_at-with_value-other}

-- a connection then: it is as it was; or its command waited for the answer of the server, and it has ended
pub data StaysOrEnds (server : List ℕ) (was now : Option Connection) : Type 0 where
  stays : now ≡ was → StaysOrEnds server was now
  has_ended : (b c : Connection) → was ≡ Some b → has_asked b.stage server ≡ true → now ≡ Some c → c.stage ≡ Ended → StaysOrEnds server was now

-- an output is for a client alone
abbrev pub IsForClient : Out → Type 0
IsForClient (Client conn bytes) = Unit {0}
IsForClient (Close conn) = Unit {0}
IsForClient out = ⊥

pub record OnlyEnds (server : List ℕ) (front : Front) (stepped : Stepped) : Type 0 where
  pub connections : (conn : ℕ) → StaysOrEnds server (connection_at front conn) (connection_at stepped.front conn)
  pub outs : AllByRecursion IsForClient stepped.outs
  pub master : stepped.front.master ≡ front.master

nothing_ends : (server : List ℕ) (front : Front) → OnlyEnds server front (still front)
nothing_ends server front = record { connections = λ conn. stays refl; outs = tt; master = refl }

then_stays : (server : List ℕ) (one two three : Option Connection) → StaysOrEnds server one two → StaysOrEnds server two three → StaysOrEnds server one three
then_stays server one two three (stays same) (stays again) = stays (again ∙ same)
then_stays server one two three (stays same) (has_ended b c was asked is stage) = has_ended b c (sym same ∙ was) asked is stage
then_stays server one two three (has_ended b c was asked is stage) (stays again) = has_ended b c was asked (again ∙ is) stage
then_stays server one two three (has_ended b c was asked is stage) (has_ended d e was_then asked_then is_then stage_then) =
    has_ended b e was asked is_then stage_then

-- ---- one connection

module _ (front : Front) (conn : ℕ) (c : Connection) (there : connection_at front conn ≡ Some c) where
  abbrev bye : Stepped
  bye = with_turned front conn (says_bye conn c Lost)

  ended_stage : (released (says_bye conn c Lost).connection).stage ≡ Ended
  unfolding released_at
  ended_stage = refl

  bye_ends : (server : List ℕ) → has_asked c.stage server ≡ true → OnlyEnds server front bye
  bye_ends server asked = record { connections = λ other. by other (same_or_other nat_cmp numbers_apart other conn); outs = (tt, (tt, tt)); master = refl }
    where
      by : (other : ℕ) → (other ≡ conn) ⊎ (other ≢ conn) → StaysOrEnds server (connection_at front other) (connection_at bye.front other)
      by other (inl e) =
          has_ended c (released (says_bye conn c Lost).connection) (ap (connection_at front) e ∙ there) asked
          (ap (connection_at bye.front) e
          ∙ value_at-with_value nat_cmp numbers_apart front.connections conn (released (says_bye conn c Lost).connection) c there) ended_stage
      by other (inr ne) = stays (value_at-with_value-other nat_cmp numbers_apart front.connections conn other _ ne)

  module _ (node : List ℕ) (ne : node ≢ front.master) where
    not_master : pointwise nat_eq front.master node ≡ true → ⊥
    not_master e = ne (sym (same_text front.master node (sym e)))

    is_bye_at : (tag : Tag) (it : Waiting) (at : At) → waits_at front.master at node ≡ true
        → ends_at front.setting (ways_of front) conn c tag it at ≡ says_bye conn c Lost
    is_bye_at tag it (Home server) e = refl
    is_bye_at tag it (Barrier why) e = absurd (not_master e)

    is_bye : (stage : Stage) → awaits front.master stage node ≡ true → end_by front.setting (ways_of front) conn c stage ≡ says_bye conn c Lost
    unfolding awaits end_by
    is_bye Reading e = cc
    is_bye (Waits tag it) e = is_bye_at tag it it.at e
    is_bye (Lists tag it) e = absurd (not_master e)
    is_bye Ended e = cc

    is_asked_at : (at : At) → waits_at front.master at node ≡ true → asks_at at node ≡ true
    is_asked_at (Home server) e = e
    is_asked_at (Barrier why) e = absurd (not_master e)

    is_asked : (stage : Stage) → awaits front.master stage node ≡ true → has_asked stage node ≡ true
    unfolding awaits has_asked
    is_asked Reading e = cc
    is_asked (Waits tag it) e = is_asked_at it.at e
    is_asked (Lists tag it) e = absurd (not_master e)
    is_asked Ended e = cc

    its_end : awaits front.master c.stage node ≡ true → OnlyEnds node front (with_turned front conn (end_comes front.setting (ways_of front) conn c))
    its_end e = subst (λ (t : Turned). OnlyEnds node front (with_turned front conn t)) (sym (is_bye c.stage e)) (bye_ends node (is_asked c.stage e))

module _ (front : Front) (node : List ℕ) (ne : node ≢ front.master) (conn : ℕ) where
  found_ends : (found : Option Connection) → connection_at front conn ≡ found → awaited front.master found node ≡ true → OnlyEnds node front (end_at front conn found)
  unfolding end_at awaited
  found_ends None there e = nothing_ends node front
  found_ends (Some c) there e = its_end front conn c there node ne e

  if_ends : (waits : Bool) → awaited front.master (connection_at front conn) node ≡ waits → OnlyEnds node front (end_if waits front conn)
  if_ends true e = found_ends (connection_at front conn) refl e
  if_ends false e = nothing_ends node front

  one_ends_so : OnlyEnds node front (one_ends front node conn)
  one_ends_so = if_ends (awaited front.master (connection_at front conn) node) refl

-- ---- all of them

all_end_so : (front : Front) (node : List ℕ) → node ≢ front.master → (conns : List ℕ) → OnlyEnds node front (all_end front node conns)
unfolding all_end
all_end_so front node ne [] = nothing_ends node front
all_end_so front node ne (conn ∷ conns) =
    let one = one_ends front node conn in
    let first = one_ends_so front node ne conn in
    let rest = all_end_so one.front node (λ e. ne (e ∙ first.master)) conns in
    record {
      connections = λ other. then_stays node _ _ _ (first.connections other) (rest.connections other);
      outs = both IsForClient one.outs (all_end one.front node conns).outs first.outs rest.outs;
      master = rest.master ∙ first.master;
    }

-- A SERVER'S LINK ENDS
pub server_ends : (front : Front) (node : List ℕ) → node ≢ front.master → OnlyEnds node front (end_from (without_up front node) node)
server_ends front node ne =
    let its = all_end_so (without_up front node) node ne (keys_of front.connections) in
    record {
      connections = its.connections;
      outs = outs_all IsForClient (all_end (without_up front node) node (keys_of front.connections)).outs its.outs;
      master = its.master;
    }

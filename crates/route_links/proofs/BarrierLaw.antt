-- Each event moves a command's barrier on, or leaves it where it is.
use Rattle.std.proofs.Common.{◌≡◌, ◌≢◌, inl, inr, ℕ, Bool, false, List, [], ◌∷◌, ◌++◌, Some, refl, sym, ap, ◌∙◌, subst, append_assoc}
use Rattle.std.specs.List.{AllByRecursion}
use Rattle.ask_routes.proofs.BarrierLaw.{ok_tells_its_command}
use Rattle.feed_core.specs.declared.replica.Replica.{Replica}
use Rattle.feed_core.specs.Stream.{update_line}
use Rattle.feed_links.proofs.FeedLaw.{both, each_so, no_message, not_update, whole_not}
use Rattle.feed_links.specs.Lines.{messages_to}
use Rattle.feed_links.specs.OneFeed.{IsFed, asks, is_told, comes_up, breaks_early, is_parted, IsNoop, IsUpOrEnd, AreUpsOrEnds}
use Rattle.feed_links.specs.Replicas.{hears, hears_all, replica_of}
use Rattle.link_msg.specs.declared.message.LinkMsg.{LinkMsg}
use Rattle.link_msg.specs.declared.message.LinkMsg.TheVariants.{Up, End, Line, Ask, Answer}
use Rattle.link_msg.specs.declared.out.Out.{Out}
use Rattle.master_core.specs.declared.master.Master.{Master}
use Rattle.master_core.specs.Linked.{node_says}
use Rattle.master_core.specs.Outside.{bytes_in, connect}
use Rattle.master_core.proofs.OutsideAlone.{bytes_alone, connects_alone}
use Rattle.mur_base.specs.declared.point.AskId.{AskId}
use Rattle.node_record.specs.Table.{MailboxTable}
use Rattle.route_links.specs.Answered.{IsNumbered, noop_of, ok_of}
use Rattle.route_links.specs.Barriers.{IsNoopOrEnd, AreNoopsOrEnds, IsOkOf, IsOfOther, AreOfOthers, AsksMaster, AwaitsOk, Place, nowhere, asked, answered, IsBarrierAt}
use Rattle.route_links.specs.Events.{First, Begins, SendsOther, Breaks, ComesUp, Hears, IsDecided, Decides, TakesNoop, Takes, OthersAreTaken, ClientsComeAndGo}
use Rattle.route_links.proofs.AnsweredLaw.{only_ok}
use Rattle.route_links.proofs.Sent.{another_sends_others, fed_stream, own_sends_others, update_other}
use Rattle.route_links.proofs.Tags.{is_noop, noop_tells, ok_is_read}

-- ---- no message is both

apart : (ask : AskId) (message : LinkMsg) → IsOkOf ask message → IsOfOther ask message → ⊥
apart ask (Line bytes) is other = other (ok_tells_its_command bytes ask is)
apart ask Up is other = absurd is
apart ask End is other = absurd is
apart ask (Ask it) is other = absurd is
apart ask (Answer it) is other = absurd is

noop_is_own : (ask : AskId) → IsNumbered ask → IsOfOther ask (noop_of ask) → ⊥
noop_is_own ask numbered other = other (noop_tells ask numbered)

-- ---- what is sent stands behind

pub sent_behind : (ask : AskId) (at : Place) (up down sent : List LinkMsg) (replica : Replica) → AreOfOthers ask sent → IsBarrierAt ask at up down replica
    → IsBarrierAt ask at up (down ++ sent) replica
sent_behind ask nowhere up down sent replica others is = record {
  up_others = is.up_others;
  down_others = both (IsOfOther ask) down sent is.down_others others;
}
sent_behind ask asked up down sent replica others is = record {
  before = is.before;
  behind = is.behind;
  up_is = is.up_is;
  before_others = is.before_others;
  behind_others = is.behind_others;
  behind_noops = is.behind_noops;
  down_others = both (IsOfOther ask) down sent is.down_others others;
}
sent_behind ask (answered table) up down sent replica others is = record {
  before = is.before;
  behind = is.behind ++ sent;
  down_is = ap (λ l. l ++ sent) is.down_is ∙ append_assoc is.before (ok_of ask ∷ is.behind) sent;
  before_others = is.before_others;
  behind_others = both (IsOfOther ask) is.behind sent is.behind_others others;
  told = is.told;
  up_others = is.up_others;
}

-- ---- the frontend sends

pub first : First
first ask replica = record { up_others = (update_other ask, tt); down_others = tt }

pub begins : Begins
begins ask up down replica none = record {
  before = up;
  behind = [];
  up_is = refl;
  before_others = none.up_others;
  behind_others = tt;
  behind_noops = tt;
  down_others = none.down_others;
}

sends_more : (ask : AskId) (at : Place) (up down more : List LinkMsg) (replica : Replica) → AreNoopsOrEnds more → AreOfOthers ask more
    → IsBarrierAt ask at up down replica → IsBarrierAt ask at (up ++ more) down replica
sends_more ask nowhere up down more replica noops others is = record {
  up_others = both (IsOfOther ask) up more is.up_others others;
  down_others = is.down_others;
}
sends_more ask asked up down more replica noops others is = record {
  before = is.before;
  behind = is.behind ++ more;
  up_is = ap (λ l. l ++ more) is.up_is ∙ append_assoc is.before (noop_of ask ∷ is.behind) more;
  before_others = is.before_others;
  behind_others = both (IsOfOther ask) is.behind more is.behind_others others;
  behind_noops = both IsNoopOrEnd is.behind more is.behind_noops noops;
  down_others = is.down_others;
}
sends_more ask (answered table) up down more replica noops others is = record {
  before = is.before;
  behind = is.behind;
  down_is = is.down_is;
  before_others = is.before_others;
  behind_others = is.behind_others;
  told = is.told;
  up_others = both (IsOfOther ask) up more is.up_others others;
}

other_noop : (ask other : AskId) → IsNumbered other → other ≢ ask → IsOfOther ask (noop_of other)
other_noop ask other numbered ne e = ne (let both : Some other ≡ Some ask = sym (noop_tells other numbered) ∙ e in cc)

pub sends_other : SendsOther
sends_other ask other at up down replica numbered ne is =
    sends_more ask at up down (noop_of other ∷ []) replica (inl (is_noop other numbered), tt) (other_noop ask other numbered ne, tt) is

-- ---- the link breaks

pub breaks : Breaks
breaks ask at up down replica is =
    sent_behind ask at (up ++ End ∷ []) down (End ∷ []) replica (tt, tt) (sends_more ask at up down (End ∷ []) replica (inr refl, tt) (tt, tt) is)

-- ---- the frontend takes a message

module _ (ask : AskId) (table : MailboxTable) (up down : List LinkMsg) (message : LinkMsg) (replica : Replica) where
  -- another one, before the OK
  heard_by : (before behind : List LinkMsg) → IsNumbered ask → (IsOkOf ask message → ⊥) → message ∷ down ≡ before ++ ok_of ask ∷ behind
      → AreOfOthers ask before → AreOfOthers ask behind → hears_all replica before ≡ replica_of table → AreOfOthers ask up
      → AwaitsOk ask table up down (hears replica message)
  heard_by [] behind numbered no_ok is one two told others =
      absurd (no_ok (let same : ok_of ask ≡ message = cc in subst (IsOkOf ask) same (ok_is_read ask numbered)))
  heard_by (b ∷ before) behind numbered no_ok is one two told others =
      let same : b ≡ message = cc in
      let rest : down ≡ before ++ ok_of ask ∷ behind = cc in
      record {
        before = before;
        behind = behind;
        down_is = rest;
        before_others = one.1;
        behind_others = two;
        told = subst (λ m. hears_all (hears replica m) before ≡ replica_of table) same told;
        up_others = others;
      }

  -- the OK
  decided_by : (before behind : List LinkMsg) → IsOkOf ask message → message ∷ down ≡ before ++ ok_of ask ∷ behind → AreOfOthers ask before
      → AreOfOthers ask behind → hears_all replica before ≡ replica_of table → AreOfOthers ask up → IsDecided ask (answered table) up down replica
  decided_by [] behind ok is one two told others =
      let rest : behind ≡ down = cc in
      record {
        table = table;
        at_is = refl;
        has_all = told;
        over = record { up_others = others; down_others = subst (AreOfOthers ask) rest two };
      }
  decided_by (b ∷ before) behind ok is one two told others =
      absurd (apart ask message ok (let same : b ≡ message = cc in subst (IsOfOther ask) same one.0))

pub hears_one : Hears
hears_one ask nowhere up down message replica numbered no_ok is = record { up_others = is.up_others; down_others = is.down_others.1 }
hears_one ask asked up down message replica numbered no_ok is = record {
  before = is.before;
  behind = is.behind;
  up_is = is.up_is;
  before_others = is.before_others;
  behind_others = is.behind_others;
  behind_noops = is.behind_noops;
  down_others = is.down_others.1;
}
hears_one ask (answered table) up down message replica numbered no_ok is =
    heard_by ask table up down message replica is.before is.behind numbered no_ok is.down_is is.before_others is.behind_others is.told is.up_others

pub decides : Decides
decides ask nowhere up down message replica ok is = absurd (apart ask message ok is.down_others.0)
decides ask asked up down message replica ok is = absurd (apart ask message ok is.down_others.0)
decides ask (answered table) up down message replica ok is =
    decided_by ask table up down message replica is.before is.behind ok is.down_is is.before_others is.behind_others is.told is.up_others

-- ---- the link comes up

one_of_all : (P : LinkMsg → Type 0) (before behind : List LinkMsg) (message : LinkMsg) → AllByRecursion P (before ++ message ∷ behind) → P message
one_of_all P [] behind message all = all.0
one_of_all P (b ∷ before) behind message all = one_of_all P before behind message all.1

no_line : (bytes : List ℕ) → IsUpOrEnd (Line bytes) → ⊥
no_line bytes (inl is) = (let no : Line bytes ≡ Up = is in cc)
no_line bytes (inr is) = (let no : Line bytes ≡ End = is in cc)

ends_too : (messages : List LinkMsg) → AllByRecursion (λ (message : LinkMsg). message ≡ End) messages → AreUpsOrEnds messages
ends_too messages ends = each_so (λ (message : LinkMsg). message ≡ End) IsUpOrEnd messages (λ message is. inr is) ends

pub comes_up_again : ComesUp
comes_up_again ask nowhere up down replica numbered ups ends is = (
  refl,
  record {
    up_others = both (IsOfOther ask) up (Line update_line ∷ []) is.up_others (update_other ask, tt);
    down_others = is.down_others.1;
  },
)
comes_up_again ask asked up down replica numbered ups ends is =
    absurd (no_line _ (one_of_all IsUpOrEnd is.before is.behind (noop_of ask) (subst AreUpsOrEnds is.up_is ups)))
comes_up_again ask (answered table) up down replica numbered ups ends is =
    absurd (no_line _ (one_of_all IsUpOrEnd is.before is.behind (ok_of ask) (subst AreUpsOrEnds is.down_is (inl refl, ends_too down ends))))

-- ---- the master takes the NOOP

-- the UPDATE doesn't stand behind it
no_update : (before behind : List LinkMsg) → AreNoopsOrEnds (before ++ Line update_line ∷ behind) → ⊥
no_update [] behind (inl noop, noops) = not_update noop
no_update [] behind (inr is, noops) = (let no : Line update_line ≡ End = is in cc)
no_update (b ∷ before) behind noops = no_update before behind noops.1

module _ (ask : AskId) (master : Master) (node : List ℕ) (reached : Bool) (up down : List LinkMsg) (replica : Replica) (numbered : IsNumbered ask) where
  -- so the frontend has its stream
  asked_behind : (before behind : List LinkMsg) → noop_of ask ∷ up ≡ before ++ Line update_line ∷ behind → IsNoop (noop_of ask) → AreNoopsOrEnds up → ⊥
  asked_behind [] behind is noop behind_noops =
      not_update (let same : noop_of ask ≡ Line update_line = cc in subst IsNoop same noop)
  asked_behind (b ∷ before) behind is noop behind_noops =
      no_update before behind (let rest : up ≡ before ++ Line update_line ∷ behind = cc in subst AreNoopsOrEnds rest behind_noops)

  told_by : IsFed master node false reached (noop_of ask ∷ up) down replica → IsNoop (noop_of ask) → AreNoopsOrEnds up
      → hears_all replica down ≡ replica_of master.table
  told_by (asks whole there before behind is one two lines none empty no_stream) noop behind_noops = absurd (asked_behind before behind is noop behind_noops)
  told_by (is_told whole there are lines told stream) noop behind_noops = told
  told_by (comes_up whole unreached ups is no_stream) noop behind_noops = absurd (no_line _ (inl ups.0))
  told_by (breaks_early gone unreached ups ends is are less no_stream) noop behind_noops = whole_not false gone refl
  told_by (is_parted gone own lines less tag) noop behind_noops = whole_not false gone refl

  taken_by : (before behind : List LinkMsg) → noop_of ask ∷ up ≡ before ++ noop_of ask ∷ behind → AreOfOthers ask before → AreOfOthers ask behind
      → AreNoopsOrEnds behind → AreOfOthers ask up × AreNoopsOrEnds up
  taken_by [] behind is one two noops =
      let rest : behind ≡ up = cc in (subst (AreOfOthers ask) rest two, subst AreNoopsOrEnds rest noops)
  taken_by (b ∷ before) behind is one two noops =
      absurd (noop_is_own ask numbered (let same : b ≡ noop_of ask = cc in subst (IsOfOther ask) same one.0))

noop_answered : (ask : AskId) (master : Master) (node : List ℕ) (reached : Bool) (up down : List LinkMsg) (replica : Replica) → IsNumbered ask
    → IsFed master node false reached (noop_of ask ∷ up) down replica → AsksMaster ask (noop_of ask ∷ up) down
    → AwaitsOk ask master.table up (down ++ messages_to node (node_says master node (noop_of ask)).outs) replica
noop_answered ask master node reached up down replica numbered fed asking =
    let rest = taken_by ask master node reached up down replica numbered asking.before asking.behind asking.up_is asking.before_others asking.behind_others
    asking.behind_noops in
    record {
      before = down;
      behind = [];
      down_is = ap (λ l. down ++ l) (only_ok master node ask numbered);
      before_others = asking.down_others;
      behind_others = tt;
      told = told_by ask master node reached up down replica numbered fed (is_noop ask numbered) rest.1;
      up_others = rest.0;
    }

pub takes_noop : TakesNoop
takes_noop ask nowhere master node reached up down replica numbered fed is = absurd (noop_is_own ask numbered is.up_others.0)
takes_noop ask asked master node reached up down replica numbered fed is = (refl, noop_answered ask master node reached up down replica numbered fed is)
takes_noop ask (answered table) master node reached up down replica numbered fed is = absurd (noop_is_own ask numbered is.up_others.0)

-- ---- the master takes something else

-- another message of the frontend
up_by : (ask : AskId) (up down : List LinkMsg) (message : LinkMsg) (before behind : List LinkMsg) → message ≢ noop_of ask
    → message ∷ up ≡ before ++ noop_of ask ∷ behind → AreOfOthers ask before → AreOfOthers ask behind → AreNoopsOrEnds behind → AreOfOthers ask down
    → IsOfOther ask message × AsksMaster ask up down
up_by ask up down message [] behind ne is one two noops others = absurd (ne (let same : message ≡ noop_of ask = cc in same))
up_by ask up down message (b ∷ before) behind ne is one two noops others =
    let same : b ≡ message = cc in
    let rest : up ≡ before ++ noop_of ask ∷ behind = cc in (
      subst (IsOfOther ask) same one.0,
      record {
        before = before;
        behind = behind;
        up_is = rest;
        before_others = one.1;
        behind_others = two;
        behind_noops = noops;
        down_others = others;
      },
    )

pub up_taken : (ask : AskId) (at : Place) (up down : List LinkMsg) (message : LinkMsg) (replica : Replica) → message ≢ noop_of ask
    → IsBarrierAt ask at (message ∷ up) down replica → IsOfOther ask message × IsBarrierAt ask at up down replica
up_taken ask nowhere up down message replica ne is = (is.up_others.0, record { up_others = is.up_others.1; down_others = is.down_others })
up_taken ask asked up down message replica ne is =
    up_by ask up down message is.before is.behind ne is.up_is is.before_others is.behind_others is.behind_noops is.down_others
up_taken ask (answered table) up down message replica ne is = (
  is.up_others.0,
  record {
    before = is.before;
    behind = is.behind;
    down_is = is.down_is;
    before_others = is.before_others;
    behind_others = is.behind_others;
    told = is.told;
    up_others = is.up_others.1;
  },
)

pub takes : Takes
takes ask at master node reached up down message replica ne fed is =
    let rest = up_taken ask at up down message replica ne is in
    sent_behind ask at up down (messages_to node (node_says master node message).outs) replica
    (own_sends_others ask master node reached message up down replica fed rest.0) rest.1

-- a message of another node
pub others_are_taken : OthersAreTaken
others_are_taken ask at master node other broken reached up down message replica order ne fed is =
    sent_behind ask at up down (messages_to node (node_says master other message).outs) replica
    (another_sends_others ask master node other message order (fed_stream master node broken reached up down replica fed) ne) is

-- clients from outside, who are told nothing of nodes
nothing_sent : (ask : AskId) (at : Place) (node : List ℕ) (up down : List LinkMsg) (outs : List Out) (replica : Replica) → messages_to node outs ≡ []
    → IsBarrierAt ask at up down replica → IsBarrierAt ask at up (down ++ messages_to node outs) replica
nothing_sent ask at node up down outs replica none is =
    sent_behind ask at up down (messages_to node outs) replica (subst (AreOfOthers ask) (sym none) tt) is

pub clients_come_and_go : ClientsComeAndGo
clients_come_and_go ask at master node up down replica is = record {
  connects = λ conn. nothing_sent ask at node up down (connect master conn).outs replica
      (no_message node conn (connect master conn).outs (connects_alone master conn).own) is;
  says = λ conn bytes. nothing_sent ask at node up down (bytes_in master conn bytes).outs replica
      (no_message node conn (bytes_in master conn bytes).outs (bytes_alone master conn bytes).own) is;
}

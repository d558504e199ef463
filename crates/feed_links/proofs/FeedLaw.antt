-- Each event keeps a feed.
use Rattle.std.proofs.Common.{◌≡◌, ◌≢◌, inl, inr, ℕ, ◌+◌, ◌≤◌, Bool, true, false, nat_eq, List, [], ◌∷◌, ◌++◌, None, Some, refl, sym, ap, ◌∙◌, subst, append-nil, append_assoc, arith}
use Rattle.std.specs.List.{list_any, AllByRecursion}
use Rattle.std.specs.Ordering.{nat_cmp}
use Rattle.std.specs.Cmp.Lexicographic.{pointwise, slice_cmp}
use Rattle.std.proofs.lemmas.Grind.{fold-append}
use Rattle.feed_core.specs.declared.replica.Replica.{Replica}
use Rattle.feed_core.specs.Feed.{empty_replica}
use Rattle.feed_core.specs.Stream.{update_line, update_tag}
use Rattle.feed_core.proofs.StreamLaw.{update_read}
use Rattle.link_msg.specs.declared.message.LinkMsg.{LinkMsg}
use Rattle.link_msg.specs.declared.message.LinkMsg.TheVariants.{Up, End, Line, Ask, Answer}
use Rattle.link_msg.specs.declared.out.Out.{Out}
use Rattle.link_msg.specs.declared.out.Out.TheVariants.{Client as to_client, Close, Link as to_node, Mark as mark_out, Told as tell}
use Rattle.master_core.specs.declared.master.Master.{Master}
use Rattle.master_core.specs.declared.sender.Sender.{Sender}
use Rattle.master_core.specs.declared.sender.Sender.TheVariants.{Outside}
use Rattle.master_core.specs.Linked.{sender_by, sender_of, node_says}
use Rattle.master_core.specs.Outside.{Stepped, bytes_in, connect}
use Rattle.master_core.specs.Step.{line_step}
use Rattle.master_core.specs.Streams.{without}
use Rattle.master_core.proofs.OutsideAlone.{AreItsOwn, IsBeside, bytes_alone, connects_alone, ends_alone}
use Rattle.mupdate_codec.specs.declared.command.MCommand.{MCommand}
use Rattle.mupdate_codec.specs.declared.command.MCommand.TheVariants as command
use Rattle.mupdate_codec.specs.declared.tag.Tag.{Tag}
use Rattle.mupdate_codec.specs.Whole.{command_in}
use Rattle.mur_base.specs.Map.{value_at}
use Rattle.feed_links.specs.Lines.{messages_to, IsOf, IsOfAnother, HasStreams, stream_of}
use Rattle.feed_links.specs.OneFeed.{IsNoop, AreNoops, IsUp, IsNoopOrUp, AreNoopsOrUps, IsUpOrEnd, AreUpsOrEnds, IsFrontsOwn, AreFrontsOwn, its_noop, its_update, its_link}
use Rattle.feed_links.specs.OneFeed.{IsLine, AreLines, IsLineOrEnd, AreLinesOrEnds, ends_of, HasUpdateTag, IsFed, asks, is_told, comes_up, breaks_early, is_parted, IsFedAfter}
use Rattle.feed_links.specs.OneFeed.{NoopsKeepIt, HearsKeepsIt, EndKeepsIt, UpKeepsIt, TakesKeepsIt, LateKeepsIt, OthersKeepIt, ClientsKeepIt, BreaksKeepIt, MendsKeepIt}
use Rattle.feed_links.specs.Replicas.{hears, hears_all, replica_of, IsNoNews, AreNoNews}
use Rattle.feed_links.specs.Spelled.{CanBeTold}
use Rattle.feed_links.proofs.Begun.{update_begins, update_tags, noop_tells_nothing, others_leave, streams_stay_in_order}
use Rattle.feed_links.proofs.Following.{streams_follow}
use Rattle.feed_links.proofs.Names.{value_at-without_key, value_at-without_key-other, order_kept}
use Rattle.feed_links.proofs.OnlyLines.{lines_and, sends_lines}
use Rattle.feed_links.proofs.TablesTold.{tables_can_be_told}

pub both : {A : Type 0} (P : A → Type 0) (one two : List A) → AllByRecursion P one → AllByRecursion P two → AllByRecursion P (one ++ two)
both P [] two first second = second
both P (x ∷ one) two first second = (first.0, both P one two first.1 second)

no_news : (replica : Replica) (messages : List LinkMsg) → AreNoNews messages → hears_all replica messages ≡ replica
no_news replica [] none = refl
no_news replica (message ∷ messages) none =
    ap (λ r. hears_all r messages) (none.0 replica) ∙ no_news replica messages none.1

then_heard : (replica : Replica) (down more : List LinkMsg) → hears_all replica (down ++ more) ≡ hears_all (hears_all replica down) more
then_heard replica down more = fold-append hears replica down more

pub each_so : {A : Type 0} (P Q : A → Type 0) (list : List A) → ((x : A) → P x → Q x) → AllByRecursion P list → AllByRecursion Q list
each_so P Q [] so all = tt
each_so P Q (x ∷ list) so all = (so x all.0, each_so P Q list so all.1)

-- ---- how often the link ends

line_ends : (bytes : List ℕ) (messages : List LinkMsg) → ends_of (Line bytes ∷ messages) ≡ ends_of messages
unfolding ends_of
line_ends bytes messages = omega arith

end_ends : (messages : List LinkMsg) → ends_of (End ∷ messages) ≡ 1 + ends_of messages
unfolding ends_of
end_ends messages = refl

pub no_ends : (messages : List LinkMsg) → AreLines messages → ends_of messages ≡ 0
unfolding ends_of
no_ends [] lines = refl
no_ends (message ∷ messages) lines = subst (λ m. ends_of (m ∷ messages) ≡ 0) (sym (lines.0).1) (omega (arith, no_ends messages lines.1))

pub ends_and : (one two : List LinkMsg) → ends_of (one ++ two) ≡ ends_of one + ends_of two
unfolding ends_of
ends_and [] two = omega arith
ends_and (message ∷ one) two = omega (arith, ends_and one two)

one_end : ends_of (End ∷ []) ≡ 1
unfolding ends_of
one_end = refl

-- ---- the frontend

reached_not : {A : Type 0} (reached : Bool) → reached ≡ true → reached ≡ false → A
reached_not reached one other = absurd (let no : true ≡ false = sym one ∙ other in cc)

pub whole_not : {A : Type 0} (broken : Bool) → broken ≡ true → broken ≡ false → A
whole_not broken one other = absurd (let no : true ≡ false = sym one ∙ other in cc)

-- the frontend sends NOOP
pub noops_keep_it : NoopsKeepIt
noops_keep_it master node broken reached up down more replica noops there (asks whole there_too before behind is one two lines none empty no_stream) =
    asks whole there_too before (behind ++ more) (ap (λ l. l ++ more) is ∙ append_assoc before (Line update_line ∷ behind) more) one (both IsNoop behind more two noops)
    lines none empty no_stream
noops_keep_it master node broken reached up down more replica noops there (is_told whole there_too are lines told stream) =
    is_told whole there_too (both IsNoop up more are noops) lines told stream
noops_keep_it master node broken reached up down more replica noops there (comes_up whole unreached ups is no_stream) = reached_not reached there unreached
noops_keep_it master node broken reached up down more replica noops there (breaks_early gone unreached ups ends is are less no_stream) =
    reached_not reached there unreached
noops_keep_it master node broken reached up down more replica noops there (is_parted gone own lines less tag) =
    is_parted gone (both IsFrontsOwn up more own (each_so IsNoop IsFrontsOwn more (λ message noop. its_noop noop) noops)) lines less tag

-- an UPDATE is no NOOP
pub not_update : IsNoop (Line update_line) → ⊥
not_update noop =
    let is : Line update_line ≡ Line noop.bytes = noop.is in
    let same : noop.bytes ≡ update_line = cc in
    let read : Some (noop.tag, command.Noop) ≡ Some (update_tag, command.Update) = sym noop.read ∙ ap command_in same ∙ update_read in
    let both : (noop.tag, command.Noop) ≡ (update_tag, command.Update) = cc in
    let no : command.Noop ≡ command.Update = ap (λ (it : Tag × MCommand). it.1) both in
    cc

-- it takes a line
pub hears_keeps_it : HearsKeepsIt
hears_keeps_it master node broken reached up down bytes replica (asks whole there before behind is one two lines none empty no_stream) =
    asks whole there before behind is one two lines.1 none.1 (none.0 replica ∙ empty) no_stream
hears_keeps_it master node broken reached up down bytes replica (is_told whole there are lines told stream) = is_told whole there are lines.1 told stream
hears_keeps_it master node broken reached up down bytes replica (comes_up whole unreached ups is no_stream) =
    absurd (let no : Line bytes ≡ Up = cc in cc)
hears_keeps_it master node broken reached up down bytes replica (breaks_early gone unreached ups ends is are less no_stream) =
    absurd (let no : Line bytes ≡ Up = cc in cc)
hears_keeps_it master node broken reached up down bytes replica (is_parted gone own lines less tag) =
    is_parted gone own lines.1 (subst (λ n. n ≤ 1) (line_ends bytes down) less) tag

-- it takes End
end_no_line : {A : Type 0} → IsLine End → A
end_no_line line = absurd (let no : End ≡ Line line.0 = line.1 in cc)

up_no_line : {A : Type 0} → IsLine Up → A
up_no_line line = absurd (let no : Up ≡ Line line.0 = line.1 in cc)

pub end_keeps_it : EndKeepsIt
end_keeps_it master node broken reached up down replica (asks whole there before behind is one two lines none empty no_stream) = end_no_line lines.0
end_keeps_it master node broken reached up down replica (is_told whole there are lines told stream) = end_no_line lines.0
end_keeps_it master node broken reached up down replica (comes_up whole unreached ups is no_stream) = absurd (let no : End ≡ Up = cc in cc)
end_keeps_it master node broken reached up down replica (breaks_early gone unreached ups ends is are less no_stream) = absurd (let no : End ≡ Up = cc in cc)
end_keeps_it master node broken reached up down replica (is_parted gone own lines less tag) =
    (gone, is_parted gone own lines.1 (omega (arith, less, end_ends down)) tag)

-- it takes Up
pub ups_own : (up : List LinkMsg) → AreUpsOrEnds up → AreFrontsOwn up
ups_own up ups = each_so IsUpOrEnd IsFrontsOwn up (λ message is. its_link is) ups

pub ends_lines : (ends : List LinkMsg) → AllByRecursion (λ (message : LinkMsg). message ≡ End) ends → AreLinesOrEnds ends
ends_lines ends are = each_so (λ (message : LinkMsg). message ≡ End) IsLineOrEnd ends (λ message is. inr is) are

pub up_keeps_it : UpKeepsIt
up_keeps_it master node broken reached up down replica (asks whole there before behind is one two lines none empty no_stream) = up_no_line lines.0
up_keeps_it master node broken reached up down replica (is_told whole there are lines told stream) = up_no_line lines.0
up_keeps_it master node broken reached up down replica (comes_up whole unreached ups is no_stream) =
    let nothing : down ≡ [] = cc in (
      unreached,
      (
        each_so IsUp IsUpOrEnd up (λ message is. inl is) ups,
        (
          subst (AllByRecursion (λ (message : LinkMsg). message ≡ End)) (sym nothing) tt,
          subst (λ d. IsFed master node broken true (up ++ Line update_line ∷ []) d empty_replica) (sym nothing)
              (asks whole refl up [] refl (each_so IsUp IsNoopOrUp up (λ message is. inr is) ups) tt tt tt refl no_stream),
        ),
      ),
    )
up_keeps_it master node broken reached up down replica (breaks_early gone unreached ups ends is are less no_stream) =
    let rest : ends ≡ down = cc in (
      unreached,
      (
        ups,
        (
          subst (AllByRecursion (λ (message : LinkMsg). message ≡ End)) rest are,
          is_parted gone (both IsFrontsOwn up (Line update_line ∷ []) (ups_own up ups) (its_update refl, tt))
              (subst AreLinesOrEnds rest (ends_lines ends are)) (subst (λ l. ends_of l ≤ 1) rest less) (subst HasUpdateTag (sym no_stream) tt),
        ),
      ),
    )
up_keeps_it master node broken reached up down replica (is_parted gone own (inl line, lines) less tag) = up_no_line line
up_keeps_it master node broken reached up down replica (is_parted gone own (inr is, lines) less tag) = absurd (let no : Up ≡ End = is in cc)

-- the master takes a message of it

pub own_sender : (node : List ℕ) (b : Bool) → IsOf node (sender_by b node)
own_sender node true = refl
own_sender node false = refl

pub other_sender : (node other : List ℕ) (b : Bool) → other ≢ node → IsOfAnother node (sender_by b other)
other_sender node other true ne = ne
other_sender node other false ne = ne

module _ (master : Master) (node : List ℕ) where
  abbrev from : Sender
  from = sender_of master node

  of_it : IsOf node from
  of_it = own_sender node (list_any (pointwise nat_eq node) master.backends)

  -- its UPDATE
  update_taken : (reached : Bool) (up down : List LinkMsg) (replica : Replica) → reached ≡ true → CanBeTold master.table → AreNoops up → AreLines down
      → AreNoNews down → replica ≡ empty_replica → stream_of master node ≡ None
      → IsFedAfter (node_says master node (Line update_line)) node false reached up down replica
  unfolding node_says
  update_taken reached up down replica there can noops lines none empty no_stream =
      let begins = update_begins master from update_line node can of_it update_read no_stream in
      let sent : List LinkMsg = messages_to node (line_step master from update_line).outs in
      is_told refl there noops (lines_and down sent lines (sends_lines master node node (Line update_line)))
      (then_heard replica down sent ∙ ap (λ r. hears_all r sent) (no_news replica down none ∙ empty) ∙ begins.told ∙ ap replica_of (sym begins.table))
      begins.stream

  -- its NOOP, before UPDATE and after it
  noop_first : (reached : Bool) (before behind down : List LinkMsg) (message : LinkMsg) (replica : Replica) → reached ≡ true → IsNoop message
      → AreNoopsOrUps before → AreNoops behind → AreLines down → AreNoNews down → replica ≡ empty_replica → stream_of master node ≡ None
      → IsFedAfter (node_says master node message) node false reached (before ++ Line update_line ∷ behind) down replica
  unfolding node_says
  noop_first reached before behind down message replica there noop one two lines none empty no_stream =
      let tells = noop_tells_nothing master from noop.bytes node noop.tag of_it noop.read noop.other in
      subst (λ m. IsFedAfter (node_says master node m) node false reached (before ++ Line update_line ∷ behind) down replica) (sym noop.is)
      (asks refl there before behind refl one two
      (lines_and down (messages_to node (line_step master from noop.bytes).outs) lines (sends_lines master node node (Line noop.bytes)))
      (both IsNoNews down (messages_to node (line_step master from noop.bytes).outs) none tells.nothing) empty (tells.stream ∙ no_stream))

  -- the Up of its link, before UPDATE
  up_first : (reached : Bool) (before behind down : List LinkMsg) (message : LinkMsg) (replica : Replica) → reached ≡ true → IsUp message
      → AreNoopsOrUps before → AreNoops behind → AreLines down → AreNoNews down → replica ≡ empty_replica → stream_of master node ≡ None
      → IsFedAfter (node_says master node message) node false reached (before ++ Line update_line ∷ behind) down replica
  unfolding node_says
  up_first reached before behind down message replica there up_is one two lines none empty no_stream =
      subst (λ m. IsFedAfter (node_says master node m) node false reached (before ++ Line update_line ∷ behind) down replica) (sym up_is)
      (subst (λ d. IsFed master node false reached (before ++ Line update_line ∷ behind) d replica) (sym (append-nil down))
      (asks refl there before behind refl one two lines none empty no_stream))

  noop_later : (reached : Bool) (up down : List LinkMsg) (message : LinkMsg) (replica : Replica) → reached ≡ true → HasStreams master → IsNoop message
      → AreNoops up → AreLines down → hears_all replica down ≡ replica_of master.table → stream_of master node ≡ Some update_tag
      → IsFedAfter (node_says master node message) node false reached up down replica
  unfolding node_says
  noop_later reached up down message replica there order noop noops lines told stream =
      let tells = noop_tells_nothing master from noop.bytes node noop.tag of_it noop.read noop.other in
      let sent : List LinkMsg = messages_to node (line_step master from noop.bytes).outs in
      subst (λ m. IsFedAfter (node_says master node m) node false reached up down replica) (sym noop.is)
      (is_told refl there noops (lines_and down sent lines (sends_lines master node node (Line noop.bytes)))
      (then_heard replica down sent ∙ ap (λ r. hears_all r sent) told ∙ streams_follow master from noop.bytes node order stream)
      (tells.stream ∙ stream))

  asked_by : (reached : Bool) (before behind up down : List LinkMsg) (message : LinkMsg) (replica : Replica) → reached ≡ true → CanBeTold master.table
      → message ∷ up ≡ before ++ Line update_line ∷ behind → AreNoopsOrUps before → AreNoops behind → AreLines down → AreNoNews down
      → replica ≡ empty_replica → stream_of master node ≡ None → IsFedAfter (node_says master node message) node false reached up down replica
  asked_by reached [] behind up down message replica there can is one two lines none empty no_stream =
      let first : message ≡ Line update_line = cc in
      let rest : up ≡ behind = cc in
      subst (λ m. IsFedAfter (node_says master node m) node false reached up down replica) (sym first)
      (update_taken reached up down replica there can (subst AreNoops (sym rest) two) lines none empty no_stream)
  asked_by reached (b ∷ before) behind up down message replica there can is (inl noop, one) two lines none empty no_stream =
      let first : message ≡ b = cc in
      let rest : up ≡ before ++ Line update_line ∷ behind = cc in
      subst (λ u. IsFedAfter (node_says master node message) node false reached u down replica) (sym rest)
      (noop_first reached before behind down message replica there (subst IsNoop (sym first) noop) one two lines none empty no_stream)
  asked_by reached (b ∷ before) behind up down message replica there can is (inr up_is, one) two lines none empty no_stream =
      let first : message ≡ b = cc in
      let rest : up ≡ before ++ Line update_line ∷ behind = cc in
      subst (λ u. IsFedAfter (node_says master node message) node false reached u down replica) (sym rest)
      (up_first reached before behind down message replica there (first ∙ up_is) one two lines none empty no_stream)

  -- Up, as the link comes up
  up_alone : (reached : Bool) (up down : List LinkMsg) (message : LinkMsg) (replica : Replica) → IsUp message → IsFed master node false reached up down replica
      → IsFedAfter (node_says master node message) node false reached up down replica
  unfolding node_says
  up_alone reached up down message replica up_is fed =
      subst (λ m. IsFedAfter (node_says master node m) node false reached up down replica) (sym up_is)
      (subst (λ d. IsFed master node false reached up d replica) (sym (append-nil down)) fed)

  -- over a link that has broken

  -- the stream is over
  own_ended : (b : Bool) → HasStreams master → stream_of (without master (sender_by b node)) node ≡ None
  unfolding without
  own_ended true order = value_at-without_key master.streams node order
  own_ended false order = value_at-without_key master.streams node order

  -- none comes about where Up or End is taken
  link_none : (message : LinkMsg) → HasStreams master → IsUpOrEnd message → stream_of master node ≡ None → stream_of (node_says master node message).master node ≡ None
  unfolding node_says
  link_none message order (inl is) none = subst (λ m. stream_of (node_says master node m).master node ≡ None) (sym is) none
  link_none message order (inr is) none =
      subst (λ m. stream_of (node_says master node m).master node ≡ None) (sym is) (own_ended (list_any (pointwise nat_eq node) master.backends) order)

  -- whatever the frontend let out, its stream is one under its tag
  own_tags : (message : LinkMsg) → HasStreams master → IsFrontsOwn message → HasUpdateTag (stream_of master node)
      → HasUpdateTag (stream_of (node_says master node message).master node)
  unfolding node_says
  own_tags message order (its_noop noop) tag =
      subst (λ m. HasUpdateTag (stream_of (node_says master node m).master node)) (sym noop.is)
      (subst HasUpdateTag (sym (noop_tells_nothing master from noop.bytes node noop.tag of_it noop.read noop.other).stream) tag)
  own_tags message order (its_update is) tag =
      subst (λ m. HasUpdateTag (stream_of (node_says master node m).master node)) (sym is) (update_tags master from node of_it tag)
  own_tags message order (its_link (inl is)) tag = subst (λ m. HasUpdateTag (stream_of (node_says master node m).master node)) (sym is) tag
  own_tags message order (its_link (inr is)) tag =
      subst (λ m. HasUpdateTag (stream_of (node_says master node m).master node)) (sym is)
      (subst HasUpdateTag (sym (own_ended (list_any (pointwise nat_eq node) master.backends) order)) tt)

pub takes_keeps_it : TakesKeepsIt
takes_keeps_it master node reached up down message replica order can (asks whole there before behind is one two lines none empty no_stream) =
    asked_by master node reached before behind up down message replica there can is one two lines none empty no_stream
takes_keeps_it master node reached up down message replica order can (is_told whole there are lines told stream) =
    noop_later master node reached up down message replica there order are.0 are.1 lines told stream
takes_keeps_it master node reached up down message replica order can (comes_up whole unreached ups is no_stream) =
    up_alone master node reached up down message replica ups.0 (comes_up refl unreached ups.1 is no_stream)
takes_keeps_it master node reached up down message replica order can (breaks_early gone unreached ups ends is are less no_stream) = whole_not false gone refl
takes_keeps_it master node reached up down message replica order can (is_parted gone own lines less tag) = whole_not false gone refl

pub late_keeps_it : LateKeepsIt
late_keeps_it master node reached up down message replica order (asks whole there before behind is one two lines none empty no_stream) = whole_not true refl whole
late_keeps_it master node reached up down message replica order (is_told whole there are lines told stream) = whole_not true refl whole
late_keeps_it master node reached up down message replica order (comes_up whole unreached ups is no_stream) = whole_not true refl whole
late_keeps_it master node reached up down message replica order (breaks_early gone unreached ups ends is are less no_stream) =
    breaks_early gone unreached ups.1 ends is are less (link_none master node message order ups.0 no_stream)
late_keeps_it master node reached up down message replica order (is_parted gone own lines less tag) =
    is_parted gone own.1 lines less (own_tags master node message order own.0 tag)

-- the master takes something else

-- a step that sends the node nothing, and leaves its stream and the table
pub stays_fed : (master next : Master) (node : List ℕ) (broken reached : Bool) (up down : List LinkMsg) (replica : Replica) → stream_of next node ≡ stream_of master node
    → next.table ≡ master.table → IsFed master node broken reached up down replica → IsFed next node broken reached up down replica
stays_fed master next node broken reached up down replica same table (asks whole there before behind is one two lines quiet empty no_stream) =
    asks whole there before behind is one two lines quiet empty (same ∙ no_stream)
stays_fed master next node broken reached up down replica same table (is_told whole there are lines told stream) =
    is_told whole there are lines (told ∙ ap replica_of (sym table)) (same ∙ stream)
stays_fed master next node broken reached up down replica same table (comes_up whole unreached ups is no_stream) =
    comes_up whole unreached ups is (same ∙ no_stream)
stays_fed master next node broken reached up down replica same table (breaks_early gone unreached ups ends is are less no_stream) =
    breaks_early gone unreached ups ends is are less (same ∙ no_stream)
stays_fed master next node broken reached up down replica same table (is_parted gone own lines less tag) =
    is_parted gone own lines less (subst HasUpdateTag (sym same) tag)

nothing_sent : (master next : Master) (node : List ℕ) (broken reached : Bool) (up down sent : List LinkMsg) (replica : Replica)
    → stream_of next node ≡ stream_of master node → next.table ≡ master.table → sent ≡ [] → IsFed master node broken reached up down replica
    → IsFed next node broken reached up (down ++ sent) replica
nothing_sent master next node broken reached up down sent replica same table none fed =
    subst (λ d. IsFed next node broken reached up d replica) (sym (ap (λ s. down ++ s) none ∙ append-nil down))
    (stays_fed master next node broken reached up down replica same table fed)

-- nothing stands behind
none_behind : (down sent : List LinkMsg) → sent ≡ [] → down ++ sent ≡ down
none_behind down sent none = ap (λ s. down ++ s) none ∙ append-nil down

line_of_another : (master : Master) (node other : List ℕ) (broken reached : Bool) (up down : List LinkMsg) (bytes : List ℕ) (replica : Replica)
    → HasStreams master → other ≢ node → IsFed master node broken reached up down replica
    → IsFedAfter (node_says master other (Line bytes)) node broken reached up down replica
unfolding node_says
line_of_another master node other broken reached up down bytes replica order ne (asks whole there before behind is one two lines none empty no_stream) =
    let leaves = others_leave master (sender_of master other) bytes node (other_sender node other (list_any (pointwise nat_eq other) master.backends) ne) in
    let sent : List LinkMsg = messages_to node (line_step master (sender_of master other) bytes).outs in
    asks whole there before behind is one two (lines_and down sent lines (sends_lines master other node (Line bytes)))
    (subst AreNoNews (sym (none_behind down sent (leaves.nothing no_stream))) none) empty (leaves.stream ∙ no_stream)
line_of_another master node other broken reached up down bytes replica order ne (is_told whole there are lines told stream) =
    let leaves = others_leave master (sender_of master other) bytes node (other_sender node other (list_any (pointwise nat_eq other) master.backends) ne) in
    let sent : List LinkMsg = messages_to node (line_step master (sender_of master other) bytes).outs in
    is_told whole there are (lines_and down sent lines (sends_lines master other node (Line bytes)))
    (then_heard replica down sent ∙ ap (λ r. hears_all r sent) told ∙ streams_follow master (sender_of master other) bytes node order stream)
    (leaves.stream ∙ stream)
line_of_another master node other broken reached up down bytes replica order ne (comes_up whole unreached ups is no_stream) =
    let leaves = others_leave master (sender_of master other) bytes node (other_sender node other (list_any (pointwise nat_eq other) master.backends) ne) in
    let sent : List LinkMsg = messages_to node (line_step master (sender_of master other) bytes).outs in
    comes_up whole unreached ups (none_behind down sent (leaves.nothing no_stream) ∙ is) (leaves.stream ∙ no_stream)
line_of_another master node other broken reached up down bytes replica order ne (breaks_early gone unreached ups ends is are less no_stream) =
    let leaves = others_leave master (sender_of master other) bytes node (other_sender node other (list_any (pointwise nat_eq other) master.backends) ne) in
    let sent : List LinkMsg = messages_to node (line_step master (sender_of master other) bytes).outs in
    breaks_early gone unreached ups ends (none_behind down sent (leaves.nothing no_stream) ∙ is) are less (leaves.stream ∙ no_stream)
line_of_another master node other broken reached up down bytes replica order ne (is_parted gone own lines less tag) =
    let leaves = others_leave master (sender_of master other) bytes node (other_sender node other (list_any (pointwise nat_eq other) master.backends) ne) in
    let sent : List LinkMsg = messages_to node (line_step master (sender_of master other) bytes).outs in
    let more : AreLines sent = sends_lines master other node (Line bytes) in
    is_parted gone own (both IsLineOrEnd down sent lines (each_so IsLine IsLineOrEnd sent (λ message line. inl line) more))
    (omega (arith, less, ends_and down sent, no_ends sent more)) (subst HasUpdateTag (sym leaves.stream) tag)

ended_by : (master : Master) (node other : List ℕ) (b : Bool) → other ≢ node
    → (stream_of (without master (sender_by b other)) node ≡ stream_of master node) × ((without master (sender_by b other)).table ≡ master.table)
unfolding without
ended_by master node other true ne = (value_at-without_key-other master.streams other node (λ e. ne (sym e)), refl)
ended_by master node other false ne = (value_at-without_key-other master.streams other node (λ e. ne (sym e)), refl)

pub others_keep_it : OthersKeepIt
unfolding node_says
others_keep_it master node other broken reached up down (Line bytes) replica order ne fed = line_of_another master node other broken reached up down bytes replica order ne fed
others_keep_it master node other broken reached up down End replica order ne fed =
    let ended = ended_by master node other (list_any (pointwise nat_eq other) master.backends) ne in
    nothing_sent master (without master (sender_of master other)) node broken reached up down [] replica ended.0 ended.1 refl fed
others_keep_it master node other broken reached up down Up replica order ne fed = nothing_sent master master node broken reached up down [] replica refl refl refl fed
others_keep_it master node other broken reached up down (Ask ask) replica order ne fed = nothing_sent master master node broken reached up down [] replica refl refl refl fed
others_keep_it master node other broken reached up down (Answer answer) replica order ne fed = nothing_sent master master node broken reached up down [] replica refl refl refl fed

-- what a client from outside does sends no node anything

pub no_message : (node : List ℕ) (conn : ℕ) (outs : List Out) → AreItsOwn conn outs → messages_to node outs ≡ []
unfolding AreItsOwn
no_message node conn [] own = refl
no_message node conn (to_client other bytes ∷ outs) own = no_message node conn outs own.1
no_message node conn (Close other ∷ outs) own = no_message node conn outs own.1
no_message node conn (to_node other message ∷ outs) own = absurd own.0
no_message node conn (mark_out ask counts ∷ outs) own = absurd own.0
no_message node conn (tell ask how ∷ outs) own = absurd own.0

client_keeps : (master next : Master) (outs : List Out) (conn : ℕ) (node : List ℕ) (broken reached : Bool) (up down : List LinkMsg) (replica : Replica)
    → IsBeside conn master next → AreItsOwn conn outs → IsFed master node broken reached up down replica
    → IsFed next node broken reached up (down ++ messages_to node outs) replica
client_keeps master next outs conn node broken reached up down replica beside own fed =
    nothing_sent master next node broken reached up down (messages_to node outs) replica (ap (λ s. value_at (slice_cmp nat_cmp) s node) beside.streams) beside.table
    (no_message node conn outs own) fed

pub clients_keep_it : ClientsKeepIt
clients_keep_it master node broken reached up down replica fed = record {
  connects = λ conn. (let alone = connects_alone master conn in
      client_keeps master (connect master conn).master (connect master conn).outs conn node broken reached up down replica alone.beside alone.own fed);
  says = λ conn bytes. (let alone = bytes_alone master conn bytes in
      client_keeps master (bytes_in master conn bytes).master (bytes_in master conn bytes).outs conn node broken reached up down replica alone.beside alone.own fed);
  ends = λ conn. (let alone = ends_alone master conn in
      subst (λ d. IsFed (without master (Outside conn)) node broken reached up d replica) (append-nil down)
      (client_keeps master (without master (Outside conn)) [] conn node broken reached up down replica alone.beside alone.own fed));
}

-- the link breaks, and comes up

pub breaks_keep_it : BreaksKeepIt
breaks_keep_it master node reached up down replica (asks whole there before behind is one two lines none empty no_stream) =
    is_parted refl (both IsFrontsOwn up (End ∷ []) (subst AreFrontsOwn (sym is) all) (its_link (inr refl), tt))
    (both IsLineOrEnd down (End ∷ []) (each_so IsLine IsLineOrEnd down (λ message line. inl line) lines) (inr refl, tt))
    (omega (arith, ends_and down (End ∷ []), no_ends down lines, one_end)) (subst HasUpdateTag (sym no_stream) tt)
  where
    early : (message : LinkMsg) → IsNoopOrUp message → IsFrontsOwn message
    early message (inl noop) = its_noop noop
    early message (inr up_is) = its_link (inl up_is)

    all : AreFrontsOwn (before ++ Line update_line ∷ behind)
    all = both IsFrontsOwn before (Line update_line ∷ behind) (each_so IsNoopOrUp IsFrontsOwn before early one)
        (its_update refl, each_so IsNoop IsFrontsOwn behind (λ message noop. its_noop noop) two)
breaks_keep_it master node reached up down replica (is_told whole there are lines told stream) =
    is_parted refl (both IsFrontsOwn up (End ∷ []) (each_so IsNoop IsFrontsOwn up (λ message noop. its_noop noop) are) (its_link (inr refl), tt))
    (both IsLineOrEnd down (End ∷ []) (each_so IsLine IsLineOrEnd down (λ message line. inl line) lines) (inr refl, tt))
    (omega (arith, ends_and down (End ∷ []), no_ends down lines, one_end)) (subst HasUpdateTag (sym stream) refl)
breaks_keep_it master node reached up down replica (comes_up whole unreached ups is no_stream) =
    breaks_early refl unreached (both IsUpOrEnd up (End ∷ []) (each_so IsUp IsUpOrEnd up (λ message up_is. inl up_is) ups) (inr refl, tt)) (End ∷ [])
    (ap (λ d. d ++ End ∷ []) is) (refl, tt) (omega (arith, one_end)) no_stream
breaks_keep_it master node reached up down replica (breaks_early gone unreached ups ends is are less no_stream) = whole_not false gone refl
breaks_keep_it master node reached up down replica (is_parted gone own lines less tag) = whole_not false gone refl

pub mends_keep_it : MendsKeepIt
mends_keep_it master node replica no_stream = comes_up refl refl (refl, tt) refl no_stream

-- the table and the streams after any message

pub says_told : (master : Master) (other : List ℕ) (message : LinkMsg) → CanBeTold master.table → CanBeTold (node_says master other message).master.table
unfolding node_says without
says_told master other (Line bytes) can = tables_can_be_told master (sender_of master other) bytes can
says_told master other End can = by (list_any (pointwise nat_eq other) master.backends)
  where
    by : (b : Bool) → CanBeTold (without master (sender_by b other)).table
    by true = can
    by false = can
says_told master other Up can = can
says_told master other (Ask ask) can = can
says_told master other (Answer answer) can = can

pub says_order : (master : Master) (other : List ℕ) (message : LinkMsg) → HasStreams master → HasStreams (node_says master other message).master
unfolding node_says without
says_order master other (Line bytes) order = streams_stay_in_order master (sender_of master other) bytes order
says_order master other End order = by (list_any (pointwise nat_eq other) master.backends)
  where
    by : (b : Bool) → HasStreams (without master (sender_by b other))
    by true = order_kept other master.streams order
    by false = order_kept other master.streams order
says_order master other Up order = order
says_order master other (Ask ask) order = order
says_order master other (Answer answer) order = order

-- a message of another node leaves a node's stream, and sends it nothing if it has none
pub record SaysNothingTo (master : Master) (node : List ℕ) (next : Stepped) : Type 0 where
  pub stream : stream_of next.master node ≡ stream_of master node
  pub nothing : stream_of master node ≡ None → messages_to node next.outs ≡ []

pub says_nothing_to : (master : Master) (node other : List ℕ) (message : LinkMsg) → other ≢ node → SaysNothingTo master node (node_says master other message)
unfolding node_says
says_nothing_to master node other (Line bytes) ne =
    let leaves = others_leave master (sender_of master other) bytes node (other_sender node other (list_any (pointwise nat_eq other) master.backends) ne) in
    record { stream = leaves.stream; nothing = leaves.nothing }
says_nothing_to master node other End ne =
    record { stream = (ended_by master node other (list_any (pointwise nat_eq other) master.backends) ne).0; nothing = λ none. refl }
says_nothing_to master node other Up ne = record { stream = refl; nothing = λ none. refl }
says_nothing_to master node other (Ask ask) ne = record { stream = refl; nothing = λ none. refl }
says_nothing_to master node other (Answer answer) ne = record { stream = refl; nothing = λ none. refl }

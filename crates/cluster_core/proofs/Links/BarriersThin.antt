-- The barrier of a command where messages are gone that were between its frontend and the master: its NOOP or its OK is still on its way, or nothing of it is.
use Rattle.std.proofs.Common.{◌≡◌, Bool, true, false, cond, List, [], ◌∷◌, ◌++◌, filter, refl, sym, ◌∙◌, ap, subst, append-nil, append_assoc}
use Rattle.std.specs.List.{AllByRecursion}
use Rattle.std.proofs.lemmas.List.Elements.{filter-append}
use Rattle.feed_core.specs.declared.replica.Replica.{Replica}
use Rattle.feed_links.proofs.FeedLaw.{both}
use Rattle.feed_links.proofs.Parts.{IsCutShort, IsPart, cut_part, lost_between, part_has}
use Rattle.link_msg.specs.declared.message.LinkMsg.{LinkMsg}
use Rattle.link_msg.specs.declared.message.LinkMsg.TheVariants.{End}
use Rattle.mur_base.specs.declared.point.AskId.{AskId}
use Rattle.node_record.specs.Table.{MailboxTable}
use Rattle.route_links.specs.Answered.{noop_of, ok_of}
use Rattle.route_links.specs.Barriers.{AreOfOthers, AsksMaster, AwaitsOk, HasNoBarrier, IsOfOther}

-- ---- lists

-- where one message stands of a list of which the first part is kept
data Splits (kept rest before behind : List LinkMsg) (x : LinkMsg) : Type 0 where
  in_kept : (mid : List LinkMsg) → kept ≡ before ++ x ∷ mid → behind ≡ mid ++ rest → Splits kept rest before behind x
  in_rest : (mid : List LinkMsg) → before ≡ kept ++ mid → rest ≡ mid ++ x ∷ behind → Splits kept rest before behind x

one_longer : (y z x : LinkMsg) (kept rest before behind : List LinkMsg) → y ≡ z → Splits kept rest before behind x → Splits (y ∷ kept) rest (z ∷ before) behind x
one_longer y z x kept rest before behind same (in_kept mid one two) = in_kept mid (ap (λ m. m ∷ kept) same ∙ ap (λ l. z ∷ l) one) two
one_longer y z x kept rest before behind same (in_rest mid one two) = in_rest mid (ap (λ m. m ∷ before) (sym same) ∙ ap (λ l. y ∷ l) one) two

splits : (kept rest before behind : List LinkMsg) (x : LinkMsg) → kept ++ rest ≡ before ++ x ∷ behind → Splits kept rest before behind x
splits [] rest before behind x e = in_rest before refl e
splits (y ∷ kept) rest [] behind x e =
    let first : y ≡ x = cc in
    let left : kept ++ rest ≡ behind = cc in
    in_kept kept (ap (λ m. m ∷ kept) first) (sym left)
splits (y ∷ kept) rest (z ∷ before) behind x e =
    let first : y ≡ z = cc in
    let left : kept ++ rest ≡ before ++ x ∷ behind = cc in
    one_longer y z x kept rest before behind first (splits kept rest before behind x left)

module _ (is : LinkMsg → Bool) where
  -- what is first of those that are left is one of them
  pub first_is : (list : List LinkMsg) (x : LinkMsg) (rest : List LinkMsg) → filter is list ≡ x ∷ rest → is x ≡ true
  first_is [] x rest e = cc
  first_is (y ∷ list) x rest e = by (is y) refl e (first_is list x rest)
    where
      by : (here : Bool) → is y ≡ here → cond here (y ∷ filter is list) (filter is list) ≡ x ∷ rest → (filter is list ≡ x ∷ rest → is x ≡ true) → is x ≡ true
      by true f left more = let same : y ≡ x = cc in subst (λ z. is z ≡ true) same f
      by false f left more = more left

  -- one of them is left, behind whatever there is before it
  one_left : (x : LinkMsg) (behind : List LinkMsg) → is x ≡ true → filter is (x ∷ behind) ≡ x ∷ filter is behind
  one_left x behind e = ap (λ b. cond b (x ∷ filter is behind) (filter is behind)) e

  append_none : (one : List LinkMsg) (x : LinkMsg) (more : List LinkMsg) → one ++ x ∷ more ≡ [] → ⊥
  append_none [] x more e = cc
  append_none (y ∷ one) x more e = cc

  none_has : (before behind : List LinkMsg) (x : LinkMsg) → is x ≡ true → filter is (before ++ x ∷ behind) ≡ [] → ⊥
  none_has before behind x e none =
      append_none (filter is before) x (filter is behind)
      (ap (λ l. filter is before ++ l) (sym (one_left x behind e)) ∙ sym (filter-append is before (x ∷ behind)) ∙ none)

  -- what is left but once isn't in two parts
  not_twice : (x y : LinkMsg) (one other more : List LinkMsg) → filter is (one ++ other) ≡ x ∷ [] → filter is one ≡ y ∷ more → filter is other ≡ []
  not_twice x y one other more e has =
      let all : y ∷ (more ++ filter is other) ≡ x ∷ [] = ap (λ l. l ++ filter is other) (sym has) ∙ sym (filter-append is one other) ∙ e in
      none_behind more (filter is other) (let left : more ++ filter is other ≡ [] = cc in left)
    where
      none_behind : (front back : List LinkMsg) → front ++ back ≡ [] → back ≡ []
      none_behind [] back e = e
      none_behind (z ∷ front) back e = cc

-- ---- one direction

-- Ends are of no command
ends_others : (ask : AskId) (tail : List LinkMsg) → AllByRecursion (λ message. message ≡ End) tail → AreOfOthers ask tail
ends_others ask [] all = tt
ends_others ask (message ∷ tail) all = (subst (IsOfOther ask) (sym all.0) tt, ends_others ask tail all.1)

first_others : (ask : AskId) (one other : List LinkMsg) → AreOfOthers ask (one ++ other) → AreOfOthers ask one
first_others ask [] other all = tt
first_others ask (message ∷ one) other all = (all.0, first_others ask one other all.1)

-- the message of the barrier, and what stands before and behind it
module _ (ask : AskId) (is : LinkMsg → Bool) (ends_no : is End ≡ false) (part whole before behind : List LinkMsg) (x : LinkMsg) (short : IsCutShort part whole)
    (own : is x ≡ true) (whole_is : whole ≡ before ++ x ∷ behind) (before_others : AreOfOthers ask before) where
  cut_at : Splits short.kept (short.lost ++ short.behind) before behind x
  cut_at = splits short.kept (short.lost ++ short.behind) before behind x (sym short.whole_is ∙ whole_is)

  none_of_tail : (tail : List LinkMsg) → AllByRecursion (λ message. message ≡ End) tail → filter is tail ≡ []
  none_of_tail [] all = refl
  none_of_tail (message ∷ tail) all =
      ap (λ b. cond b (message ∷ filter is tail) (filter is tail)) (ap is all.0 ∙ ends_no) ∙ none_of_tail tail all.1

  -- it is still on its way
  pub record StillThere : Type 0 where
    pub mid : List LinkMsg
    pub part_is : part ≡ before ++ x ∷ (mid ++ short.behind)
    pub behind_is : behind ≡ mid ++ (short.lost ++ short.behind)

  pub still_there : filter is whole ≡ x ∷ [] → filter is part ≡ x ∷ [] → StillThere
  still_there all left = by cut_at
    where
      -- of what is kept
      kept_has : filter is short.kept ≡ x ∷ []
      kept_has =
          sym (ap (λ l. filter is short.kept ++ l) (none_of_tail short.behind short.ends) ∙ append-nil (filter is short.kept))
          ∙ sym (filter-append is short.kept short.behind) ∙ ap (filter is) (sym short.part_is) ∙ left

      by : Splits short.kept (short.lost ++ short.behind) before behind x → StillThere
      by (in_kept mid one two) =
          record { mid = mid; part_is = short.part_is ∙ ap (λ l. l ++ short.behind) one ∙ append_assoc before (x ∷ mid) short.behind; behind_is = two }
      by (in_rest mid one two) =
          absurd (none_has is mid behind x own
          (ap (filter is) (sym two) ∙ not_twice is x x short.kept (short.lost ++ short.behind) [] (ap (filter is) (sym short.whole_is) ∙ all) kept_has))

  -- it is gone: nothing of the command is left
  pub gone_now : filter is part ≡ [] → AreOfOthers ask part
  gone_now none = by cut_at
    where
      by : Splits short.kept (short.lost ++ short.behind) before behind x → AreOfOthers ask part
      by (in_kept mid one two) =
          absurd (none_has is before (mid ++ short.behind) x own
          (ap (filter is) (sym (short.part_is ∙ ap (λ l. l ++ short.behind) one ∙ append_assoc before (x ∷ mid) short.behind)) ∙ none))
      by (in_rest mid one two) =
          subst (AreOfOthers ask) (sym short.part_is)
          (both (IsOfOther ask) short.kept short.behind (first_others ask short.kept mid (subst (AreOfOthers ask) one before_others)) (ends_others ask short.behind short.ends))

-- ---- a barrier

module _ (ask : AskId) (is : LinkMsg → Bool) (ends_no : is End ≡ false) (up down some_up some_down : List LinkMsg) (replica : Replica) (ups : IsCutShort some_up up)
    (downs : IsCutShort some_down down) where
  ups_others : AreOfOthers ask up → AreOfOthers ask some_up
  ups_others all = part_has (IsOfOther ask) (cut_part some_up up ups) all

  downs_others : AreOfOthers ask down → AreOfOthers ask some_down
  downs_others all = part_has (IsOfOther ask) (cut_part some_down down downs) all

  pub still_none : HasNoBarrier ask up down → HasNoBarrier ask some_up some_down
  still_none none = record { up_others = ups_others none.up_others; down_others = downs_others none.down_others }

  module _ (asks : AsksMaster ask up down) (all : filter is up ≡ noop_of ask ∷ []) where
    own_noop : is (noop_of ask) ≡ true
    own_noop = first_is is up (noop_of ask) [] all

    pub still_asks : filter is some_up ≡ noop_of ask ∷ [] → AsksMaster ask some_up some_down
    still_asks left =
        let there = still_there ask is ends_no some_up up asks.before asks.behind (noop_of ask) ups own_noop asks.up_is asks.before_others all left in
        let part = subst (IsPart (there.mid ++ ups.behind)) (sym there.behind_is) (lost_between there.mid ups.lost ups.behind) in
        record {
          before = asks.before;
          behind = there.mid ++ ups.behind;
          up_is = there.part_is;
          before_others = asks.before_others;
          behind_others = part_has (IsOfOther ask) part asks.behind_others;
          behind_noops = part_has _ part asks.behind_noops;
          down_others = downs_others asks.down_others;
        }

    pub noop_gone : filter is some_up ≡ [] → HasNoBarrier ask some_up some_down
    noop_gone none = record {
      up_others = gone_now ask is ends_no some_up up asks.before asks.behind (noop_of ask) ups own_noop asks.up_is asks.before_others none;
      down_others = downs_others asks.down_others;
    }

  module _ (table : MailboxTable) (awaits : AwaitsOk ask table up down replica) (all : filter is down ≡ ok_of ask ∷ []) where
    own_ok : is (ok_of ask) ≡ true
    own_ok = first_is is down (ok_of ask) [] all

    pub still_awaits : filter is some_down ≡ ok_of ask ∷ [] → AwaitsOk ask table some_up some_down replica
    still_awaits left =
        let there = still_there ask is ends_no some_down down awaits.before awaits.behind (ok_of ask) downs own_ok awaits.down_is awaits.before_others all left in
        let part = subst (IsPart (there.mid ++ downs.behind)) (sym there.behind_is) (lost_between there.mid downs.lost downs.behind) in
        record {
          before = awaits.before;
          behind = there.mid ++ downs.behind;
          down_is = there.part_is;
          before_others = awaits.before_others;
          behind_others = part_has (IsOfOther ask) part awaits.behind_others;
          told = awaits.told;
          up_others = ups_others awaits.up_others;
        }

    pub ok_gone : filter is some_down ≡ [] → HasNoBarrier ask some_up some_down
    ok_gone none = record {
      up_others = ups_others awaits.up_others;
      down_others = gone_now ask is ends_no some_down down awaits.before awaits.behind (ok_of ask) downs own_ok awaits.down_is awaits.before_others none;
    }

-- A feed of a link that has broken stands where messages are lost.
use Rattle.std.proofs.Common.{◌≡◌, ℕ, ◌≤◌, Bool, true, false, List, None, refl, sym, subst, arith}
use Rattle.std.specs.List.{AllByRecursion}
use Rattle.feed_core.specs.declared.replica.Replica.{Replica}
use Rattle.link_msg.specs.declared.message.LinkMsg.{LinkMsg}
use Rattle.link_msg.specs.declared.message.LinkMsg.TheVariants.{Up, End}
use Rattle.master_core.specs.declared.master.Master.{Master}
use Rattle.feed_links.specs.Lines.{stream_of}
use Rattle.feed_links.specs.OneFeed.{IsUpOrEnd, AreUpsOrEnds, IsFrontsOwn, IsLineOrEnd, ends_of, HasUpdateTag}
use Rattle.feed_links.specs.OneFeed.{IsFed, asks, is_told, comes_up, breaks_early, is_parted}
use Rattle.feed_links.proofs.FeedLaw.{ends_lines, ups_own, whole_not}
use Rattle.feed_links.proofs.Parts.{IsPart, IsFirstPart, keeps_first, lost_first, part_ends, part_has, part_of_first}

module _ (master : Master) (node : List ℕ) (reached : Bool) (up down some_up some_down : List LinkMsg) (replica : Replica) where
  -- its Up is still on its way, or is lost
  early_by : reached ≡ false → AreUpsOrEnds some_up → (ends : List LinkMsg) → AllByRecursion (λ (message : LinkMsg). message ≡ End) ends → ends_of ends ≤ 1
      → stream_of master node ≡ None → IsFirstPart Up some_down ends → IsFed master node true reached some_up some_down replica
  early_by unreached ups ends are less no_stream (keeps_first rest is part) =
      breaks_early refl unreached ups rest is (part_has (λ (message : LinkMsg). message ≡ End) part are) (omega (arith, less, part_ends part)) no_stream
  early_by unreached ups ends are less no_stream (lost_first part) =
      is_parted refl (ups_own some_up ups) (part_has IsLineOrEnd part (ends_lines ends are)) (omega (arith, less, part_ends part)) (subst HasUpdateTag (sym no_stream) tt)

  -- MESSAGES ARE LOST ON A LINK THAT HAS BROKEN
  pub parts_keep_it : IsPart some_up up → IsPart some_down down → IsFed master node true reached up down replica
      → IsFed master node true reached some_up some_down replica
  parts_keep_it ups downs (asks whole there before behind is one two lines none empty no_stream) = whole_not true refl whole
  parts_keep_it ups downs (is_told whole there are lines told stream) = whole_not true refl whole
  parts_keep_it ups downs (comes_up whole unreached are is no_stream) = whole_not true refl whole
  parts_keep_it ups downs (breaks_early gone unreached are ends is alls less no_stream) =
      early_by unreached (part_has IsUpOrEnd ups are) ends alls less no_stream (part_of_first Up ends some_down (subst (IsPart some_down) is downs))
  parts_keep_it ups downs (is_parted gone own lines less tag) =
      is_parted gone (part_has IsFrontsOwn ups own) (part_has IsLineOrEnd downs lines) (omega (arith, less, part_ends downs)) tag

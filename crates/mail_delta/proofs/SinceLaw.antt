-- What is told since a mark is what changed since the rows that the mailbox had at it.
use Rattle.std.proofs.Common.{◌≡◌, ℕ, List, Option, Some, None, option_map, refl, sym, ◌∙◌, ap}
use Rattle.std.specs.Option.{is_some}
use Rattle.std.specs.Ordering.{nat_cmp}
use Rattle.mur_base.specs.Map.{IsInOrder}
use Rattle.mail_message.specs.declared.message.Row.{Row}
use Rattle.mail_message.specs.declared.message.Snapshot.{Snapshot}
use Rattle.mail_message.specs.Boxes.{Content, size_of, snapshot_of, IsRising}
use Rattle.mail_message.specs.RowOrder.{AreRising, row_at}
use Rattle.mail_delta.specs.declared.delta.Delta.{Delta}
use Rattle.mail_delta.specs.declared.mark.Mark.{Mark}
use Rattle.mail_delta.specs.Deltas.{delta_of, applied}
use Rattle.mail_delta.specs.Notes.{Notes, row_in, row_before, delta_by}
use Rattle.mail_delta.specs.Spans.{LogState, was_at, is_kept, Remembers}
use Rattle.mail_delta.proofs.Keyed.{some_is}
use Rattle.mail_delta.proofs.DeltaLaw.{applied-delta}
use Rattle.mail_delta.proofs.ToldLaws.{delta-told}
use Rattle.mail_delta.proofs.SpanLaws.{is_some-was_at}

-- the notes since a mark, if it is kept
abbrev pub AreSince : LogState → Mark → Option Notes → Type 0
AreSince log mark notes =
    (uid : ℕ) (now : Option Row) → option_map (λ found. row_before found uid now) notes ≡ was_at mark.0 log.spans uid now

mapped : (uid : ℕ) (now : Option Row) (notes : Option Notes) → is_some (option_map (λ found. row_before found uid now) notes) ≡ is_some notes
mapped uid now None = refl
mapped uid now (Some found) = refl

pub kept-since : (log : LogState) (mark : Mark) (notes : Option Notes) → AreSince log mark notes → is_some notes ≡ is_kept mark.0 log.spans
kept-since log mark notes since = sym (mapped 0 None notes) ∙ ap is_some (since 0 None) ∙ is_some-was_at mark.0 log.spans 0 None

module _ (log : LogState) (mark : Mark) (box : Content) (rows : List Row) (rising : IsRising box.messages) (were : AreRising rows)
    (had : Remembers log mark box rows) where
  pub told-since : (notes : Notes) (size : ℕ) (delta : Delta) → AreSince log mark (Some notes) → IsInOrder nat_cmp notes → size ≡ size_of box.messages
      → delta ≡ delta_by notes box size → delta ≡ delta_of rows box
  told-since notes size delta since order is told =
      let before = λ (k : ℕ). some_is (row_before notes k (row_in box k)) (row_at rows k) (since k (row_in box k) ∙ had k) in
      told ∙ delta-told box notes rows rising were order before size is

  pub never-since : AreSince log mark None → ◌≡◌ {A = Option Delta} None (Some (delta_of rows box))
  never-since since = let e = since 0 (row_in box 0) ∙ had 0 in cc

pub complete-since : (log : LogState) (mark : Mark) (box : Content) (old : Snapshot) → IsRising box.messages → AreRising old.rows
    → Remembers log mark box old.rows → (notes : Notes) (size : ℕ) (delta : Delta) → AreSince log mark (Some notes) → IsInOrder nat_cmp notes
    → size ≡ size_of box.messages → delta ≡ delta_by notes box size → applied old delta ≡ snapshot_of box
complete-since log mark box old rising were had notes size delta since order is told =
    ap (applied old) (told-since log mark box old.rows rising were had notes size delta since order is told) ∙ applied-delta old box were rising

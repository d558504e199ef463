-- What the framer tells of a piece, as the reader says it.
use Rattle.std.proofs.Common.{◌≡◌, ℕ, List, ◌++◌, take, drop, Option, None, Some, refl, sym, ◌∙◌}
use Rattle.std.specs.Option.{option_to_list, IsSome, IsNone, IfSome}
use Rattle.imap_wire.specs.declared.frame.Frame.{Frame}
use Rattle.imap_wire.specs.Feeding.{GivesFrame}
use Rattle.imap_wire.specs.Frames.{begun}
use Rattle.imap_wire.specs.More.{frames_of_more, begun_by_more}
use Rattle.imap_wire.proofs.MoreLaws.{more_fed, begun_fed, none_ended, ended_stays}

pub next_frames : (old new : Option (List ℕ)) (piece : List ℕ) (frame : Option Frame) (taken : ℕ)
    → (IsSome old → (past : List ℕ) → begun past ≡ old → GivesFrame past piece frame taken)
    → ((past : List ℕ) → begun past ≡ old → begun (past ++ take taken piece) ≡ new)
    → IfSome old (λ bytes. begun bytes ≡ old) → (IsNone old → (frame ≡ None) × IsNone new)
    → frames_of_more old piece ≡ option_to_list frame ++ frames_of_more new (drop taken piece)
next_frames None new piece frame taken gives after own spent =
    let is = spent refl in none_ended piece ∙ (rw (is.0, none_of new is.1) (sym (none_ended (drop taken piece))))
  where
    none_of : (held : Option (List ℕ)) → IsNone held → held ≡ None
    none_of None h = refl
    none_of (Some bytes) h = cc
next_frames (Some bytes) new piece frame taken gives after own spent =
    more_fed bytes piece frame taken new own (gives refl bytes own) (after bytes own)

pub next_begun : (old new : Option (List ℕ)) (piece : List ℕ) (taken : ℕ)
    → ((past : List ℕ) → begun past ≡ old → begun (past ++ take taken piece) ≡ new)
    → IfSome old (λ bytes. begun bytes ≡ old) → (IsNone old → IsNone new)
    → begun_by_more old piece ≡ begun_by_more new (drop taken piece)
next_begun None None piece taken after own spent = ended_stays piece ∙ sym (ended_stays (drop taken piece))
next_begun None (Some bytes) piece taken after own spent = (let h = spent refl in cc)
next_begun (Some bytes) new piece taken after own spent = begun_fed bytes piece taken new own (after bytes own)

-- Calls that are carried out whole, and one call more.
use Rattle.std.proofs.Common.{◌≡◌, ℕ, ◌+◌, ◌-◌, ◌≤◌, List, [], ◌∷◌, ◌++◌, length, take, drop, replicate, map, refl, sym, ◌∙◌, ap, subst, append_assoc}
use Rattle.std.proofs.lemmas.List.{take-append-le}
use Rattle.mur_disk.specs.Calls.{Call, Wrote, CutTo, Holds, written_over, done_call, after_calls}
use Rattle.mur_disk.specs.Crash.{Torn, CutShort, IsTornBy, IsImage, CrashesFollow, Only}
use Rattle.mur_disk.specs.Undo.{call_of, undone}
use Rattle.mur_disk.specs.Memory.{synced_of, calls_of, ReadsDone, DidCall, IsStill, MayLeave}
use Rattle.mur_disk.specs.declared.held.Held.{Held}
use Rattle.mur_disk.specs.declared.held.Pending.{Pending}
use Rattle.mur_disk.proofs.Choices.{call_torn}

done_torn : (call : Call) (old : List ℕ) → IsTornBy call old (done_call call old)
done_torn (Wrote at bytes) old = call_torn 1 (Wrote at bytes) old
done_torn (CutTo len) old = call_torn 1 (CutTo len) old

-- the bytes that the calls make are one of their images
done_is_image : (calls : List Call) (synced : List ℕ) → IsImage synced calls (after_calls calls synced)
done_is_image [] synced = refl
done_is_image (call ∷ calls) synced = (done_call call synced, done_torn call synced, done_is_image calls (done_call call synced))

done_more : (calls : List Call) (call : Call) (synced : List ℕ) → after_calls (calls ++ call ∷ []) synced ≡ done_call call (after_calls calls synced)
done_more [] call synced = refl
done_more (first ∷ calls) call synced = done_more calls call (done_call first synced)

-- an image of the calls and one more is an image of the calls, torn by that one
pub image_more : (synced : List ℕ) (calls : List Call) (call : Call) (image : List ℕ) → IsImage synced (calls ++ call ∷ []) image
    → (before : List ℕ) × IsImage synced calls before × IsTornBy call before image
image_more synced [] call image (next, torn, is) = (synced, refl, subst (IsTornBy call synced) (sym is) torn)
image_more synced (first ∷ calls) call image (next, torn, rest) = let found = image_more next calls call image rest in (found.0, (next, torn, found.1), found.2)

-- what is so of a disk in memory that carried out a call
module _ (call : Call) (old new : Held) (did : DidCall call old new) where
  pub tears_more : CrashesFollow (IsTornBy call) (MayLeave old) (MayLeave new)
  tears_more image left =
      image_more (synced_of old) (calls_of old) call image
      (subst (λ (calls : List Call). IsImage (synced_of old) calls image) did.pending (subst (λ (l : List ℕ). IsImage l (calls_of new) image) did.synced left))

  pub reads_more : ReadsDone old → ReadsDone new
  reads_more reads =
      did.bytes
      ∙ ap (done_call call) reads
      ∙ sym (done_more (calls_of old) call (synced_of old))
      ∙ ap (λ (calls : List Call). after_calls calls (synced_of old)) (sym did.pending)
      ∙ ap (after_calls (calls_of new)) (sym did.synced)

-- what is so of one without a pending call
module _ (bytes : List ℕ) (held : Held) (still : IsStill bytes held) where
  pub reads_still : ReadsDone held
  reads_still = subst (λ (calls : List Pending). held.bytes ≡ after_calls (map call_of calls) (undone calls held.bytes)) (sym still.none) refl

  pub leaves_still : Only bytes (MayLeave held)
  leaves_still image left =
      subst (λ (calls : List Pending). IsImage (undone calls held.bytes) (map call_of calls) image) still.none left ∙ still.bytes_are

pub reads_image : (held : Held) → ReadsDone held → MayLeave held held.bytes
reads_image held reads = subst (MayLeave held) (sym reads) (done_is_image (calls_of held) (synced_of held))

-- a call that wasn't made tears nothing
pub no_write_tears : (at : ℕ) (bytes : List ℕ) (held : Held) (image : List ℕ) → MayLeave held image
    → (before : List ℕ) × MayLeave held before × Torn at (length bytes) before image
no_write_tears at bytes held image left = (image, left, call_torn 0 (Wrote at bytes) image)

pub no_cut_tears : (len : ℕ) (held : Held) (image : List ℕ) → MayLeave held image → (before : List ℕ) × MayLeave held before × CutShort len before image
no_cut_tears len held image left = (image, left, call_torn 0 (CutTo len) image)

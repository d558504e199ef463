-- The crashes of a disk in memory: one number chooses what each pending call has done.
use Rattle.std.specs.Prelude.{ℕ, zero, suc, ◌/◌, ◌%◌, List, [], ◌∷◌, length, take, replicate}
use Rattle.mur_disk.specs.Calls.{Call, Wrote, CutTo, written_over, done_call}

-- What a pending call has done, by two bits of the choice. A write: 0 nothing; 1 all of it; 2 the first half of its bytes, rounded
-- down; 3 as many bytes 0xFF. A cut: 1 all of it, else nothing.
abbrev pub chosen_call : ℕ → Call → List ℕ → List ℕ
chosen_call zero call old = old
chosen_call (suc zero) call old = done_call call old
chosen_call (suc (suc zero)) (Wrote at bytes) old = written_over at (take (length bytes / 2) bytes) old
chosen_call (suc (suc (suc n))) (Wrote at bytes) old = written_over at (replicate (length bytes) 255) old
chosen_call (suc (suc zero)) (CutTo len) old = old
chosen_call (suc (suc (suc n))) (CutTo len) old = old

-- The image of a choice: the first pending call has its lowest two bits, the next the two above them. A choice has 64 bits, so
-- the calls after the thirty-second have done nothing.
abbrev pub chosen : ℕ → List Call → List ℕ → List ℕ
chosen choice [] image = image
chosen choice (call ∷ calls) image = chosen (choice / 4) calls (chosen_call (choice % 4) call image)

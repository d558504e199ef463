use Rattle.std.proofs.Common.{◌≡◌, ◌-◌, ◌≤◌, ℕ, List, ◌++◌, length, take}
use Rattle.imap_wire.specs.Frames.{frames, begun}
use Rattle.imap_wire.proofs.framer.Framer.feed_all.Given as goal

abbrev pub invariant-loop-taken : goal.invariant-loop-taken
invariant-loop-taken l = record {
  within : l.taken ≤ length l.piece;
  after : (past : List ℕ) → begun past ≡ l.initial.self.begun → begun (past ++ take l.taken l.piece) ≡ l.self.begun;
  frames : (past : List ℕ) → begun past ≡ l.initial.self.begun → l.initial.frames ≡ frames past
      → l.frames ≡ frames (past ++ take l.taken l.piece);
}

abbrev pub decreases-loop-taken : goal.decreases-loop-taken
decreases-loop-taken l = length l.piece - l.taken

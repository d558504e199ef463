-- The device calls until a disk stops.
use Rattle.std.specs.Prelude.{◌≡◌, ◌⊎◌, ◌+◌, IsTrue, IsFalse, Result, Ok, Err}
use Rattle.mur_disk.specs.declared.countdown.Countdown.{Countdown}
use Rattle.mur_disk.specs.declared.fault.DiskFault.{DiskFault}
use Rattle.mur_disk.specs.declared.fault.DiskFault.TheVariants.{Failed, Memory}

-- A device call was carried out, and one call fewer is left;
pub record Passes (old new : Countdown) : Type 0 where
  pub ran : IsFalse old.stopped
  pub runs : IsFalse new.stopped
  pub one_fewer : old.left ≡ new.left + 1

-- no call was left, and the disk stopped inside this one;
pub record StopsInside (old new : Countdown) : Type 0 where
  pub ran : IsFalse old.stopped
  pub has_stopped : IsTrue new.stopped
  pub none_left : old.left ≡ 0

-- it had stopped before;
pub record StaysStopped (old new : Countdown) : Type 0 where
  pub had_stopped : IsTrue old.stopped
  pub has_stopped : IsTrue new.stopped

-- or it was refused for want of memory, and isn't counted.
pub record IsRefused (old new : Countdown) : Type 0 where
  pub ran : IsFalse old.stopped
  pub runs : IsFalse new.stopped
  pub as_many : new.left ≡ old.left

-- what a device call does to the countdown
abbrev pub DidCount : {T : Type 0} (old new : Countdown) → Result T DiskFault → Type 0
DidCount old new (Ok _) = Passes old new
DidCount old new (Err Failed) = StaysStopped old new ⊎ StopsInside old new
DidCount old new (Err Memory) = IsRefused old new

-- The past owns nothing, so another thread may have it.
use denote.Param.Send.{IsSend, owning_send}
use Rattle.mur_disk.specs.contracts.past.Past.{the_row, the_type}

pub send : IsSend the_row
send = owning_send the_type tt (λ held. tt) (λ lifetime share place. tt)

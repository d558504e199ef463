-- What is asked of a run: the numbers of connections and bytes fit.
use Rattle.std.specs.Prelude.{◌≡◌, ℕ, ◌<◌, ◌^◌, List, ◌++◌, length}
use Rattle.imap_talk.specs.Heard.{Heard, nobody, elsewhere, client}
use Rattle.mur_config.specs.declared.config.Config.{Config}
use Rattle.schedule_text.specs.declared.event.Event.{Event}
use Rattle.cluster_core.specs.Heard.{heard}

-- the number of a client's connection has 64 bits, and it sent less than 2^32 bytes
abbrev pub HeardFits : ℕ → Heard → Type 0
HeardFits conn nobody = Unit {0}
HeardFits conn elsewhere = Unit {0}
HeardFits conn (client bytes closed) = (conn < 2 ^ 64) × (length bytes < 2 ^ 32)

abbrev pub NumbersFit : (ℕ → Heard) → Type 0
NumbersFit heard = (conn : ℕ) → HeardFits conn (heard conn)

-- and so it is behind each step
abbrev pub NumbersFitAll : Config → List Event → Type 0
NumbersFitAll config steps = (before later : List Event) → steps ≡ before ++ later → NumbersFit (λ conn. heard config conn before)

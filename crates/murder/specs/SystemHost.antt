-- The host of a process as a whole. It tells nothing of what its files hold.
use Rattle.std.specs.Prelude.{None, map}
use Rattle.mur_edge.specs.Host.{HostFacts}
use Rattle.murder.specs.Host.{entry_came}
use Rattle.murder.specs.declared.host.SystemHost.{SystemHost}

abbrev pub system_facts : {R O E : Type 0} → SystemHost R O E → HostFacts
system_facts host = record {
  faults = host.faults;
  asked = host.asks.asked;
  returned = map entry_came host.returned;
  held = host.asks.held;
  content = λ _. None;
}

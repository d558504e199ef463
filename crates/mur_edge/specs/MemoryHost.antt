-- What a host in memory tells.
use Rattle.std.specs.Prelude.{map}
use Rattle.mur_edge.specs.Host.{HostFacts}
use Rattle.mur_edge.specs.Memory.{content_named, memory_came}
use Rattle.mur_edge.specs.declared.memory.host.MemHost.{MemHost}

-- of a name that stands twice the first source counts
abbrev pub host_facts : MemHost → HostFacts
host_facts host = record {
  faults = host.faults;
  asked = host.asks.asked;
  returned = map memory_came host.returned;
  held = host.asks.held;
  content = content_named host.sources;
}

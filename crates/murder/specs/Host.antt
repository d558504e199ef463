-- What the host of a process tells: the counts of its objects, and no bytes.
use Rattle.std.specs.Prelude.{None}
use Rattle.mur_edge.specs.Source.{SourceFacts}
use Rattle.mur_edge.specs.Sink.{SinkFacts}
use Rattle.mur_edge.specs.Host.{Came, came_of}
use Rattle.mur_edge.specs.declared.host.Used.{Used}
use Rattle.murder.specs.declared.stream.ReadCounts.{ReadCounts}
use Rattle.murder.specs.declared.stream.WriteCounts.{WriteCounts}
use Rattle.murder.specs.declared.stream.ReadStream.{ReadStream}
use Rattle.murder.specs.declared.stream.WriteStream.{WriteStream}

abbrev pub read_facts : ReadCounts → SourceFacts
read_facts counts = record { whole = None; left = None; faults = counts.faults; shorts = counts.shorts }

abbrev pub write_facts : WriteCounts → SinkFacts
write_facts counts = record { taken = None; faults = counts.faults }

-- what an object tells that came back, by what was kept of it
abbrev pub entry_came : Used ReadCounts WriteCounts → Came
entry_came = came_of read_facts write_facts

-- what an object tells as it comes back
abbrev pub stream_came : {R W : Type 0} → Used (ReadStream R) (WriteStream W) → Came
stream_came = came_of (λ source. read_facts source.counts) (λ sink. write_facts sink.counts)

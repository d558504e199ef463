-- A host in memory: what its objects tell, which of them a call hands out, and which are out.
use Rattle.std.specs.Prelude.{◌≡◌, ℕ, List, Option, None, Some, Bool, true, false, drop, nat_eq, slice_get, slice_index_or, slice_set, IsSomeAnd}
use Rattle.std.specs.Prelude.{if◌then◌else◌}
use Rattle.std.specs.Cmp.Lexicographic.{pointwise}
use Rattle.std.specs.List.{position, list_any}
use Rattle.std.specs.Option.{option_map}
use Rattle.mur_edge.specs.Source.{SourceFacts}
use Rattle.mur_edge.specs.Sink.{SinkFacts}
use Rattle.mur_edge.specs.Host.{Came, came_of}
use Rattle.mur_edge.specs.declared.host.Used.{Used}
use Rattle.mur_edge.specs.declared.host.Used.TheVariants.{Source, Out, Errors}
use Rattle.mur_edge.specs.declared.memory.source.SourceState.{SourceState}
use Rattle.mur_edge.specs.declared.memory.source.MemSource.{MemSource}
use Rattle.mur_edge.specs.declared.memory.sink.SinkState.{SinkState}
use Rattle.mur_edge.specs.declared.memory.sink.MemSink.{MemSink}

-- the number of a call is among those that fail
abbrev pub fails_at : List ℕ → ℕ → Bool
fails_at failing call = list_any (λ number. nat_eq number call) failing

abbrev pub source_facts : SourceState → SourceFacts
source_facts state = record { whole = Some state.whole; left = Some (drop state.at state.whole); faults = state.faults; shorts = state.shorts }

abbrev pub sink_facts : SinkState → SinkFacts
sink_facts state = record { taken = Some state.taken; faults = state.faults }

-- the place of the first object of a name
abbrev pub place_named : List (List ℕ × MemSource) → List ℕ → Option ℕ
place_named sources name = position (λ entry. pointwise nat_eq entry.0 name) sources

-- the bytes of the source at a place
abbrev pub source_bytes_at : List (List ℕ × MemSource) → Option ℕ → Option (List ℕ)
source_bytes_at sources None = None
source_bytes_at sources (Some place) = option_map (λ entry. (entry.1).state.whole) (slice_get sources place)

-- the bytes of the first source of a name
abbrev pub content_named : List (List ℕ × MemSource) → List ℕ → Option (List ℕ)
content_named sources name = source_bytes_at sources (place_named sources name)

-- where the call doesn't fail, the place of the first object of the name, unless that is out
abbrev pub free_place : Bool → List Bool → Option ℕ → Option ℕ
free_place true out place = None
free_place false out None = None
free_place false out (Some place) = if slice_index_or out place false then None else Some place

-- what an object tells that came back, by what was kept of it
abbrev pub memory_came : Used SourceState SinkState → Came
memory_came = came_of source_facts sink_facts

-- what an object tells as it comes back
abbrev pub object_came : Used MemSource MemSink → Came
object_came = came_of (λ source. source_facts source.state) (λ sink. sink_facts sink.state)

-- an object as it was at the start, with the bytes and the failing calls of the one at this place
abbrev pub IsFreshCopy : List (List ℕ × MemSource) → ℕ → SourceState → Type 0
IsFreshCopy sources place copy =
    IsSomeAnd (slice_get sources place)
    (λ entry. copy ≡ record { whole = (entry.1).state.whole; at = 0; faults = 0; shorts = 0; calls = 0; failing = (entry.1).state.failing })

-- which sources are out after an object came back, and whether the output and the error output are
abbrev pub freed : Option ℕ → List Bool → List Bool
freed None out = out
freed (Some place) out = slice_set out place false

abbrev pub sources_out_after : Used MemSource MemSink → List (List ℕ × MemSource) → List Bool → List Bool
sources_out_after (Source name _) sources out = freed (place_named sources name) out
sources_out_after (Out _) sources out = out
sources_out_after (Errors _) sources out = out

abbrev pub output_out_after : Used MemSource MemSink → Bool → Bool
output_out_after (Source _ _) out = out
output_out_after (Out _) out = false
output_out_after (Errors _) out = out

abbrev pub errors_out_after : Used MemSource MemSink → Bool → Bool
errors_out_after (Source _ _) out = out
errors_out_after (Out _) out = out
errors_out_after (Errors _) out = false

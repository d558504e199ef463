use Rattle.std.proofs.Common.{◌≡◌, ◌++◌, map}
use Rattle.name_listing.specs.Told.{line_of}
use Rattle.name_listing.proofs.list.reply_lines.Given as goal

-- the lines so far, and those to come
abbrev pub invariant-loop-name : goal.invariant-loop-name
invariant-loop-name l = l.lines ++ map line_of l.name-iterator.rest.items ≡ map line_of l.fn.found

-- `new_names` of snap_listing (src/header.rt): what holds at the head of each of its loops.
use Rattle.std.proofs.Common.{◌≡◌, ◌++◌, map, drop}
use Rattle.snap_semantics.specs.Listing.{new_names}
use Rattle.snap_listing.specs.ReaderSteps.{letters_of, onto}
use Rattle.snap_listing.proofs.header.new_names.Given as goal

-- the names that are left follow those that were found
abbrev pub invariant-loop-token : goal.invariant-loop-token
invariant-loop-token l = record {
  found : onto l.names.items (new_names l.line l.known.items (map letters_of (drop l.token-index l.words)))
      ≡ new_names l.line l.fn.known.items (map letters_of l.words);
  known : l.known.items ≡ l.fn.known.items ++ l.names.items;
}

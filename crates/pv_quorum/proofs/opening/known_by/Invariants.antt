-- What is known is what the contents so far say.
use Rattle.std.proofs.Common.{◌≡◌, List, take}
use Rattle.pv_law_quorum.specs.Record.{Record}
use Rattle.pv_quorum.specs.Opens.{Remembers, contents_of}
use Rattle.pv_quorum.specs.Spelling.{SpellRecords}
use Rattle.pv_quorum.proofs.opening.known_by.Given as goal

abbrev pub invariant-loop-content : goal.invariant-loop-content
invariant-loop-content l = record {
  counted : l.index ≡ l.content-index;
  read : (entries : List Record) × SpellRecords entries (take l.content-index (contents_of l.contents)) × Remembers entries l.memory.known;
}

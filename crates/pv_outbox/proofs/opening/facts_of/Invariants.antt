-- The facts are what the records say that the contents so far spell.
use Rattle.std.proofs.Common.{◌≡◌, List, take}
use Rattle.pv_law_outbox.specs.State.{Record, state_of}
use Rattle.pv_outbox.specs.Spelling.{SpellRecords}
use Rattle.pv_outbox.specs.Values.{contents_of}
use Rattle.pv_outbox.proofs.opening.facts_of.Given as goal

abbrev pub invariant-loop-content : goal.invariant-loop-content
invariant-loop-content l = record {
  counted : l.index ≡ l.content-index;
  read : (entries : List Record) × SpellRecords entries (take l.content-index (contents_of l.contents)) × (l.facts.state ≡ state_of entries);
}

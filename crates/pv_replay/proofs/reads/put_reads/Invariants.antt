-- The items so far were written, behind what was there.
use Rattle.std.proofs.Common.{ℕ, List, drop}
use Rattle.std.specs.Io.{StartsWith}
use Rattle.pv_format.specs.PolyvalueSpelling.{SpellsPolyvalue}
use Rattle.pv_format.specs.Spelling.{SpellsEach}
use Rattle.pv_fields.proofs.ListLemmas.{IsWriting}
use Rattle.pv_fields.specs.Encoding.{SpellsEntry}
use Rattle.pv_model.specs.Alternatives.{Read}
use Rattle.pv_replay.proofs.reads.put_reads.Given as goal

abbrev pub invariant-loop-read : goal.invariant-loop-read
invariant-loop-read l = record {
  writing : (bytes : List ℕ) → SpellsEach (SpellsEntry (λ (entry : Read). SpellsPolyvalue entry.cases) (λ entry. entry.item)) l.reads bytes
      → IsWriting (SpellsEntry (λ (entry : Read). SpellsPolyvalue entry.cases) (λ entry. entry.item)) (drop l.read-index l.reads) l.initial.put.bytes bytes l.put.bytes;
  kept : StartsWith l.put.bytes l.initial.put.bytes;
}

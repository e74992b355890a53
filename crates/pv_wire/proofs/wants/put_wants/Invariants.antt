-- The items so far were written.
use Rattle.std.proofs.Common.{ℕ, List, drop}
use Rattle.pv_fields.proofs.ListLemmas.{IsWriting}
use Rattle.pv_fields.specs.Encoding.{SpellsEntry}
use Rattle.pv_base.specs.Want.{Want}
use Rattle.pv_format.specs.Spelling.{IsTruth, SpellsEach}
use Rattle.pv_wire.proofs.wants.put_wants.Given as goal

abbrev pub invariant-loop-want : goal.invariant-loop-want
invariant-loop-want l =
    (bytes : List ℕ) → SpellsEach (SpellsEntry (λ (entry : Want). IsTruth entry.exclusive) (λ entry. entry.item)) l.wants bytes
    → IsWriting (SpellsEntry (λ (entry : Want). IsTruth entry.exclusive) (λ entry. entry.item)) (drop l.want-index l.wants) l.initial.put.bytes bytes l.put.bytes

-- A handle with an outbox owns what a box of that outbox owns.
use mir.Syntax.{impl, tnil, dnil}
use mathlib.Core.List.{[]}
use denote.Signature.{Slot, plain}
use Rattle.std_alloc.proofs.BoxSteps.Form.{Bx}
use Rattle.std_heap.specs.contracts.Global as Heap
use Rattle.std_heap.specs.contracts.GlobalAllocator.TheImpl.{ghosts, dict}
use Rattle.std_heap.proofs.Global.TheLaws as heap
use Rattle.pv_handle.specs.contracts.outbox_bytes.ByteOutbox as Outbox
use Rattle.pv_handle.proofs.outbox_bytes.ByteOutbox.TheLaws as outbox
use Rattle.pv_handle.specs.contracts.parts.Parts as Parts
use Rattle.pv_handle.specs.contracts.outbox.handle.OutboxHandle as Handle

abbrev pub E : Bx
E = record { row = Outbox.the_row; laws = outbox.the_row_laws; al = record { row = Heap.the_row; laws = heap.the_row_laws; g = ghosts; d = dict; drops = impl [] tnil dnil } }

abbrev pub FromParts : Slot 0
FromParts = plain (λ _. Parts.the_row Outbox.the_row Heap.the_row ghosts)

abbrev pub FromHandle : Slot 0
FromHandle = plain (λ _. Handle.the_row)

abbrev pub FromAlloc : Slot 0
FromAlloc = plain (λ _. Heap.the_row)

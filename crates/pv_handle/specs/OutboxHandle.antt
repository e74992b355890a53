-- What the handle of an outbox owns: what a box of an outbox owns, or nothing.
use base.Fml.{Fml, ftrue}
use base.Stored.{Coded}
use denote.RawPtr.{Ptr}
use Rattle.std.specs.Prelude.{Option, Some, None}
use Rattle.std.specs.Coded.{coded_option}
use Rattle.std.specs.Box.Ownership.{box_owns}
use Rattle.std.specs.Global.{Global}
use Rattle.std_heap.specs.contracts.GlobalAllocator.TheImpl.{ghosts}
use Rattle.pv_handle.specs.contracts.outbox_bytes.ByteOutbox.{the_row}

abbrev pub handle_owns : Global → Ptr → Option the_row.Denot → Fml
handle_owns alloc at None = ftrue
handle_owns alloc at (Some outbox) = box_owns (ghosts.dealloc_token alloc) the_row at outbox

abbrev pub outbox_coded : Coded (Option the_row.Denot)
outbox_coded = coded_option the_row.coded

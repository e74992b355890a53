-- What the handle of a site owns: what a box of a site owns, or nothing.
use base.Fml.{Fml, ftrue}
use base.Stored.{Coded}
use denote.RawPtr.{Ptr}
use Rattle.std.specs.Prelude.{Option, Some, None}
use Rattle.std.specs.Coded.{coded_option}
use Rattle.std.specs.Box.Ownership.{box_owns}
use Rattle.std.specs.Global.{Global}
use Rattle.std_heap.specs.contracts.GlobalAllocator.TheImpl.{ghosts}
use Rattle.pv_handle.specs.contracts.bytes.ByteSite.{the_row}

abbrev pub handle_owns : Global → Ptr → Option the_row.Denot → Fml
handle_owns alloc at None = ftrue
handle_owns alloc at (Some site) = box_owns (ghosts.dealloc_token alloc) the_row at site

abbrev pub site_coded : Coded (Option the_row.Denot)
site_coded = coded_option the_row.coded

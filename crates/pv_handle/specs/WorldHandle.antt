-- What the handle of a world owns: what a box of a world owns, or nothing.
use base.Fml.{Fml, ftrue}
use base.Stored.{Coded}
use denote.RawPtr.{Ptr}
use Rattle.std.specs.Prelude.{Option, Some, None}
use Rattle.std.specs.Coded.{coded_option}
use Rattle.std.specs.Box.Ownership.{box_owns}
use Rattle.std.specs.Global.{Global}
use Rattle.std_heap.specs.contracts.GlobalAllocator.TheImpl.{ghosts}
use Rattle.pv_embed_world.specs.contracts.hosted_world.HostedWorld.{the_row}

abbrev pub handle_owns : Global → Ptr → Option the_row.Denot → Fml
handle_owns alloc at None = ftrue
handle_owns alloc at (Some world) = box_owns (ghosts.dealloc_token alloc) the_row at world

abbrev pub world_coded : Coded (Option the_row.Denot)
world_coded = coded_option the_row.coded

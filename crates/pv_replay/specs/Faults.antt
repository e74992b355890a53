-- The faults that errors stand for.
use Rattle.std.specs.Prelude.{Option, Some, None}
use Rattle.pv_format.specs.FirstFault.{Fault, short, bad_field, bad_poly}
use Rattle.pv_replay.specs.declared.error.PolyError.{PolyError}
use Rattle.pv_replay.specs.declared.error.PolyError.TheVariants.{Short, BadField, BadPoly, NoMemory}

-- The fault that the error stands for; none where there was no memory.
abbrev pub fault_of : PolyError → Option Fault
fault_of (Short place) = Some (short place)
fault_of (BadField place) = Some (bad_field place)
fault_of (BadPoly place) = Some (bad_poly place)
fault_of NoMemory = None

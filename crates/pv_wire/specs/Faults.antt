-- The faults that errors stand for.
use Rattle.std.specs.Prelude.{Option, Some, None}
use Rattle.pv_format.specs.FirstFault.{Fault, bad_kind, short, extra, bad_field, bad_poly}
use Rattle.pv_replay.specs.declared.error.PolyError.{PolyError}
use Rattle.pv_replay.specs.declared.error.PolyError.TheVariants as part
use Rattle.pv_wire.specs.declared.error.WireError.{WireError}
use Rattle.pv_wire.specs.declared.error.WireError.TheVariants.{BadKind, Short, Extra, BadField, BadPoly, NoMemory}

-- The fault that the error stands for; none where there was no memory.
abbrev pub fault_of : WireError → Option Fault
fault_of (BadKind byte) = Some (bad_kind byte)
fault_of (Short place) = Some (short place)
fault_of (Extra place) = Some (extra place)
fault_of (BadField place) = Some (bad_field place)
fault_of (BadPoly place) = Some (bad_poly place)
fault_of NoMemory = None

-- The error of a message for the error of a part of it.
abbrev pub wire_error : PolyError → WireError
wire_error (part.Short place) = Short place
wire_error (part.BadField place) = BadField place
wire_error (part.BadPoly place) = BadPoly place
wire_error part.NoMemory = NoMemory

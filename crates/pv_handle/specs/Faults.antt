-- Refusals of the engine as those of a site in bytes.
use Rattle.pv_embed.specs.declared.fault.ReadFault.{ReadFault}
use Rattle.pv_embed.specs.declared.fault.ReadFault.TheVariants as reading
use Rattle.pv_handle.specs.declared.faults.ValueFault.{ValueFault}
use Rattle.pv_handle.specs.declared.faults.ValueFault.TheVariants.{UnknownName, NotHere, Unwritten}

-- the same refusal
abbrev pub value_fault : ReadFault → ValueFault
value_fault reading.UnknownName = UnknownName
value_fault reading.NotHere = NotHere
value_fault reading.Unwritten = Unwritten

-- Why a text isn't read, as a fault of a world.
use Rattle.pv_script.specs.declared.schedule.ScriptError.{ScriptError}
use Rattle.pv_script.specs.declared.schedule.ScriptError.TheVariants as script
use Rattle.pv_embed_world.specs.declared.fault.WorldFault.{WorldFault}
use Rattle.pv_embed_world.specs.declared.fault.WorldFault.TheVariants.{Malformed, NoMemory}

abbrev pub fault_of : ScriptError → WorldFault
fault_of (script.Malformed line cause) = Malformed line cause
fault_of script.NoMemory = NoMemory

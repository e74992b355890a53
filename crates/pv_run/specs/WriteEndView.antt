-- Which reason not to have written all is a fault of the sink.
use Rattle.std.specs.Prelude.{◌≡◌}
use Rattle.pv_run.specs.declared.write_end.WriteEnd.{WriteEnd}
use Rattle.pv_run.specs.declared.write_end.WriteEnd.TheVariants.{WriteFault}

-- The output failed.
abbrev pub IsWriteFault : WriteEnd → Type 0
IsWriteFault end = end ≡ WriteFault

-- No disk is out that wasn't.
use Rattle.pv_disk.specs.MemBay.{mem_bay}
use Rattle.pv_show.specs.Bays.{IsAtRest}
use Rattle.pv_app.proofs.bay_tests.calls_kept.Given as goal

abbrev pub invariant-loop-site : goal.invariant-loop-site
invariant-loop-site l = IsAtRest mem_bay l.initial.bay → IsAtRest mem_bay l.bay

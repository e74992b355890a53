-- No disk is out that wasn't.
use Rattle.std.proofs.Common.{ap, ◌∙◌}
use Rattle.std.specs.List.{slice_get}
use Rattle.pv_disk.specs.MemBay.{MemBayState, mem_bay}
use Rattle.pv_app.proofs.BayLemmas.{out-same}
use Rattle.pv_app.proofs.bay_tests.take_kept.Goals as goal

pub returns : goal.returns
returns c = λ rest site.
    ap (λ (bay : MemBayState). (mem_bay.berth bay site).is_out) c.kept.ensures.gone ∙ (out-same (slice_get c.args.bay.now.berths site) _ _ ∙ rest site)

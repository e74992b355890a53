use Rattle.std.proofs.Common.{set, sym, ap, ◌∙◌}
use Rattle.pv_coord.proofs.Ageing.{one-changed}
use Rattle.pv_coord.proofs.Expiries.{older_one}
use Rattle.pv_coord.specs.Work.{Work}
use Rattle.pv_coord.proofs.coord.age.Goals as goal

pub loop-entry-preserved : goal.loop-entry-preserved
loop-entry-preserved c =
    ap (λ (work : Work). set c.loop-entry.entries c.loop-entry.entry-index work) (c.age.ensures ∙ ap older_one (sym c.entry-item.is))
    ∙ one-changed older_one c.args.entries.now c.loop-entry.entries c.loop-entry.entry-index c.entry-item.result c.loop-entry-test.true c.loop-entry.invariant c.entry-item.is

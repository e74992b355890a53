-- All items have their values, which name nothing.
use Rattle.std.proofs.Common.{[], arith}
use Rattle.pv_base.specs.declared.limits.TheConstants.{HELD_NAMES}
use Rattle.pv_law_step.proofs.WidthLemmas.{narrow-now, no-empty}
use Rattle.pv_store.proofs.declared.declared_values.Goals as goal

pub returns : goal.returns
returns c =
    let end = c.len-item-end.ensures.count in
    record {
      all = omega (arith, c.loop-item.invariant.all, c.loop-item-test.false, c.loop-item.auto.item-end, end);
      each = λ item within. c.loop-item.invariant.each item (omega (arith, within, c.loop-item-test.false, end));
      narrow = λ item home. narrow-now HELD_NAMES c.args.catalog.now c.args.site.0 []
          (record { few = λ before after txn writes there own split. absurd (no-empty before _ after split) }) item home;
    }

-- One value after another is added.
use Rattle.std.proofs.Common.{arith, ◌≡◌, ◌*◌, ◌^◌, ◌+◌, List, take, ap, subst, ◌∙◌}
use Rattle.std.specs.Prelude.{ℤ, map, IfOk}
use Rattle.std.specs.Ordering.{int_eq}
use Rattle.std.proofs.lemmas.List.{take_all}
use Rattle.pv_base.specs.Assignment.{assignments}
use Rattle.pv_model.specs.PossibleAnswers.{sum_at, without_repeats}
use Rattle.pv_query.specs.Sums.{totals}
use Rattle.pv_query.proofs.SumLemmas.{sums-more, length-sums, AreWithin-weaker}
use Rattle.pv_query.proofs.adding.sums_over.Goals as goal

pub loop-value-init : goal.loop-value-init
loop-value-init c = record { sums = c.in_ok-sums.ensures.zeros; within = c.in_ok-sums.ensures.within }

pub add-requires : goal.add-requires
add-requires c = record {
  ascending = c.requires.ascending;
  few = c.requires.few_txns;
  room = AreWithin-weaker (c.loop-value.value-index * 2 ^ 63) (2 ^ 100) c.loop-value.sums (omega arith) c.loop-value.invariant.within;
  places = length-sums c.loop-value.sums.sure c.loop-value.sums.at_each.items (sum_at (take c.loop-value.value-index c.args.values.now)) c.args.txns.now c.loop-value.invariant.sums;
}

pub loop-value-preserved : goal.loop-value-preserved
loop-value-preserved c =
    let i = c.loop-value.value-index in
    record {
      sums = sums-more c.args.values.now i c.value-item.result c.args.txns.now (totals c.loop-value.sums) (totals c.add.new.self)
          c.loop-value-test.true c.value-item.is c.loop-value.invariant.sums c.in_ok-add.ensures.added;
      within = AreWithin-weaker (i * 2 ^ 63 + 2 ^ 63) ((i + 1) * 2 ^ 63) c.add.new.self (omega arith) (c.in_ok-add.ensures.within (i * 2 ^ 63) c.loop-value.invariant.within);
    }

pub returns : goal.returns
returns c =
    let all = c.loop-value.invariant.sums
    ∙ ap (λ values. map (sum_at values) (assignments c.args.txns.now)) (take_all c.loop-value.value-index c.args.values.now c.loop-value-test.false) in
    subst (λ (whole : List ℤ). IfOk c.distinct.result (λ found. found.items ≡ without_repeats int_eq whole)) all c.distinct.ensures

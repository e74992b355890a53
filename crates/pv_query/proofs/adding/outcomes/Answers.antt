-- One value after another names its outcomes.
use Rattle.std.proofs.Common.{List, [], refl, subst}
use Rattle.std.specs.Prelude.{All}
use Rattle.std.proofs.lemmas.List.{take_all}
use Rattle.pv_base.specs.Polyvalue.{Case, names, IsPolyvalue}
use Rattle.pv_base.specs.declared.limits.TheConstants.{HELD_NAMES}
use Rattle.pv_cases.specs.Names.{Adds}
use Rattle.pv_query.specs.AllSums.{together}
use Rattle.pv_cases.proofs.AddedNames.{adds-cases, AreNames-added}
use Rattle.pv_query.proofs.OutcomeLemmas.{All-take-next, few-together}
use Rattle.pv_query.proofs.adding.outcomes.Goals as goal

pub loop-value-preserved : goal.loop-value-preserved
loop-value-preserved c = record {
  added = adds-cases (λ cases. cases) c.args.values.now c.loop-value.value-index c.value-item.result c.cases.result.now [] c.loop-value.txns.items c.push_names.new.txns.items
      c.loop-value-test.true c.value-item.is c.cases.ensures.cases c.loop-value.invariant.added c.in_ok-push_names.ensures.names;
  polyvalues = All-take-next (IsPolyvalue HELD_NAMES) c.args.values.now c.loop-value.value-index c.value-item.result c.loop-value-test.true c.value-item.is
      c.cases.ensures.polyvalue c.loop-value.invariant.polyvalues;
}

pub returns-clause-polyvalues : goal.returns-clause-polyvalues
returns-clause-polyvalues c = subst (All (IsPolyvalue HELD_NAMES)) (take_all c.loop-value.value-index c.args.values.now c.loop-value-test.false) c.loop-value.invariant.polyvalues

pub returns-clause-names : goal.returns-clause-names
returns-clause-names c =
    AreNames-added (together c.args.values.now) [] c.loop-value.txns.items c.ordered.result.items refl
    (subst (λ (values : List (List (Case _))). Adds (names (together values)) [] c.loop-value.txns.items)
    (take_all c.loop-value.value-index c.args.values.now c.loop-value-test.false) c.loop-value.invariant.added)
    c.ordered.ensures.ascending c.ordered.ensures.same

pub returns-clause-few : goal.returns-clause-few
returns-clause-few c =
    few-together HELD_NAMES c.args.values.now c.ordered.result.items (returns-clause-polyvalues c) (returns-clause-names c)

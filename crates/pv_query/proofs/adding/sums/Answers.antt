-- The transactions that the values name are one list.
use Rattle.std.proofs.Common.{◌≡◌, List, ap, sym, subst, refl, ◌∙◌, arith, rules}
use Rattle.std.proofs.lemmas.Result.{err_from_is_err_and}
use Rattle.std.specs.Prelude.{ℤ, All, ◌≢◌, map}
use Rattle.std.specs.List.{AllPairs, Contains}
use Rattle.std.specs.Ordering.{int_eq}
use Rattle.std.proofs.lemmas.Cmp.{int_eq_equiv}
use Rattle.pv_base.specs.declared.txn.TxnId.{TxnId}
use Rattle.pv_base.specs.Assignment.{assignments}
use Rattle.pv_model.specs.PossibleAnswers.{sum_at, sums}
use Rattle.pv_base.specs.declared.limits.TheConstants.{HELD_NAMES}
use Rattle.pv_query.proofs.AllSumLemmas.{refused-sums, given-sums}
use Rattle.pv_query.proofs.RepeatLemmas.{repeats-distinct}
use Rattle.pv_query.proofs.EverySumLemmas.{every-sum, each-sum}
use Rattle.pv_query.specs.declared.adding.SumError.TheVariants.{OutcomeLimit, NoMemory}
use Rattle.pv_query.proofs.adding.sums.Goals as goal

pub returns-in_err-txns-clause-answer : goal.returns-in_err-txns-clause-answer
returns-in_err-txns-clause-answer c =
    let is = err_from_is_err_and c.from_residual.result c.from_residual.ensures.1 in
    refused-sums HELD_NAMES c.args.values.now (λ found. found.items) c.from_residual.result NoMemory (search (rules, is)) tt

pub returns-in_err-sums_over-clause-answer : goal.returns-in_err-sums_over-clause-answer
returns-in_err-sums_over-clause-answer c =
    let is = err_from_is_err_and c.from_residual-in_err-sums_over.result c.from_residual-in_err-sums_over.ensures.1 in
    refused-sums HELD_NAMES c.args.values.now (λ found. found.items) c.from_residual-in_err-sums_over.result NoMemory (search (rules, is)) tt

pub returns-then-count-gt-HELD_NAMES-clause-answer : goal.returns-then-count-gt-HELD_NAMES-clause-answer
returns-then-count-gt-HELD_NAMES-clause-answer c =
    refused-sums HELD_NAMES c.args.values.now (λ found. found.items) _ (OutcomeLimit c.len-count.result) refl (record {
      txns = c.in_ok-txns.txns.items;
      named = c.in_ok-txns.ensures.names;
      counted = omega (arith, c.len-count.ensures, c.in_ok-txns.txns.ok.0);
      over = c.if-count-gt-HELD_NAMES.true;
    })

pub returns-clause-answer : goal.returns-clause-answer
returns-clause-answer c =
    given-sums HELD_NAMES c.args.values.now (λ found. found.items) c.in_ok-sums_over.field-0 (record {
      txns = c.in_ok-txns.txns.items;
      named = c.in_ok-txns.ensures.names;
      few = omega (arith, c.len-count.ensures, c.in_ok-txns.txns.ok.0, c.if-count-gt-HELD_NAMES.false);
      sums = c.in_ok-sums_over.ensures ∙ ap (sums c.args.values.now) c.deref.ensures.value;
    })

-- What is found are the sums at the assignments of what the values name together.
pub returns-clause-every : goal.returns-clause-every
returns-clause-every c = λ assignment.
    let txns = c.in_ok-txns.txns.items in
    subst (λ (found : List ℤ). Contains found (sum_at c.args.values.now assignment))
    (sym (c.in_ok-sums_over.ensures ∙ ap (sums c.args.values.now) c.deref.ensures.value))
    (every-sum c.args.values.now txns c.in_ok-txns.ensures.names assignment)

pub returns-clause-each : goal.returns-clause-each
returns-clause-each c =
    subst (All (λ sum. (assignment : List TxnId) × (sum_at c.args.values.now assignment ≡ sum)))
    (sym (c.in_ok-sums_over.ensures ∙ ap (sums c.args.values.now) c.deref.ensures.value))
    (each-sum c.args.values.now c.in_ok-txns.txns.items)

pub returns-clause-distinct : goal.returns-clause-distinct
returns-clause-distinct c =
    let txns = c.in_ok-txns.txns.items in
    subst (λ (found : List ℤ). AllPairs (λ sum later. sum ≢ later) found)
    (sym (c.in_ok-sums_over.ensures ∙ ap (sums c.args.values.now) c.deref.ensures.value))
    (repeats-distinct int_eq int_eq_equiv.refl (map (sum_at c.args.values.now) (assignments txns)))

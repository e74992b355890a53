-- Two cases are the value of an outcome that is known, and else a test of two leaves.
use Rattle.std.proofs.Common.{◌≡◌, true, false, Some, None, refl, sym, ap, ◌∙◌}
use Rattle.std.proofs.lemmas.Result.{IfOk-weaker}
use Rattle.pv_cases.proofs.TestedCases.{IsTested}
use Rattle.pv_tree.specs.Outcomes.{outcome_of}
use Rattle.pv_tree.specs.Settling.{Settles}
use Rattle.pv_tree.proofs.KeptLemmas.{settles-kept}
use Rattle.pv_tree.proofs.SettleLemmas.{leaf-settles, committed-settles, aborted-settles, test-settles}
use Rattle.pv_tree.proofs.TwoLemmas.{alone}
use Rattle.pv_tree.proofs.two.settle_two.Goals as goal

pub returns-in-Some-true-clause-settled : goal.returns-in-Some-true-clause-settled
returns-in-Some-true-clause-settled g c =
    let choice = c.choice_of-choice.result in
    let tested : IsTested choice.txn (alone choice.before) (alone choice.after) c.args.cases.now = record { is = c.choice_of-choice.ensures.cases; sides = c.choice_of-choice.ensures.sides } in
    let known : outcome_of c.args.literals.now choice.txn ≡ Some true = sym c.outcome_of.ensures ∙ c.in-Some-true.is ∙ ap Some c.in-Some-true.field-0-test in
    IfOk-weaker c.leaf.result _ (Settles c.args.literals.now c.args.cases.now c.leaf.new.self)
    (λ number at. committed-settles c.args.literals.now c.leaf.new.self number tested known
    (leaf-settles c.args.literals.now (alone choice.after) choice.after c.leaf.new.self number refl at))
    c.leaf.ensures.leaf

pub returns-in-Some-false-clause-settled : goal.returns-in-Some-false-clause-settled
returns-in-Some-false-clause-settled g c =
    let choice = c.choice_of-choice.result in
    let tested : IsTested choice.txn (alone choice.before) (alone choice.after) c.args.cases.now = record { is = c.choice_of-choice.ensures.cases; sides = c.choice_of-choice.ensures.sides } in
    let known : outcome_of c.args.literals.now choice.txn ≡ Some false = sym c.outcome_of.ensures ∙ c.in-Some-false.is ∙ ap Some c.in-Some-false.field-0-test in
    IfOk-weaker c.leaf-in-Some-false.result _ (Settles c.args.literals.now c.args.cases.now c.leaf-in-Some-false.new.self)
    (λ number at. aborted-settles c.args.literals.now c.leaf-in-Some-false.new.self number tested known
    (leaf-settles c.args.literals.now (alone choice.before) choice.before c.leaf-in-Some-false.new.self number refl at))
    c.leaf-in-Some-false.ensures.leaf

pub returns-in_ok-after-in-None-clause-settled : goal.returns-in_ok-after-in-None-clause-settled
returns-in_ok-after-in-None-clause-settled g c =
    let choice = c.choice_of-choice.result in
    let tested : IsTested choice.txn (alone choice.before) (alone choice.after) c.args.cases.now = record { is = c.choice_of-choice.ensures.cases; sides = c.choice_of-choice.ensures.sides } in
    let unknown : outcome_of c.args.literals.now choice.txn ≡ None = sym c.outcome_of.ensures ∙ c.in-None.is in
    let front : Settles c.args.literals.now (alone choice.before) c.leaf-in-None-2.new.self c.in_ok-before-in-None.before =
    settles-kept c.args.literals.now (alone choice.before) c.leaf-in-None.new.self c.leaf-in-None-2.new.self c.in_ok-before-in-None.before c.in_ok-after-in-None.ensures.kept
    (leaf-settles c.args.literals.now (alone choice.before) choice.before c.leaf-in-None.new.self c.in_ok-before-in-None.before refl c.in_ok-before-in-None.ensures.leaf) in
    let back : Settles c.args.literals.now (alone choice.after) c.leaf-in-None-2.new.self c.in_ok-after-in-None.after =
    leaf-settles c.args.literals.now (alone choice.after) choice.after c.leaf-in-None-2.new.self c.in_ok-after-in-None.after refl c.in_ok-after-in-None.ensures.leaf in
    IfOk-weaker c.test.result _ (Settles c.args.literals.now c.args.cases.now c.test.new.self)
    (λ made chosen. test-settles c.args.literals.now c.leaf-in-None-2.new.self c.test.new.self c.in_ok-before-in-None.before c.in_ok-after-in-None.after made tested unknown front back chosen)
    c.test.ensures.test

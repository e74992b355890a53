-- What is given is the choice, and what is reported is its count.
use Rattle.std.proofs.Common.{◌∙◌, arith, sym, subst, rules}
use Rattle.std.proofs.lemmas.Result.{err_from_is_err_and}
use Rattle.pv_base.specs.Canonical.{IsExact}
use Rattle.pv_base.specs.Polyvalue.{IsCanonical}
use Rattle.pv_base.specs.declared.faults.NameError.TheVariants.{NoMemory}
use Rattle.pv_base.specs.declared.limits.TheConstants.{HELD_NAMES}
use Rattle.pv_cases.proofs.SureChoice.{sure-chosen}
use Rattle.pv_cases.specs.NameLimits.{IsChosen}
use Rattle.pv_cases.proofs.CaseAnswers.{refused-choice, given-choice}
use Rattle.pv_tree.proofs.poly.Poly.choose.Goals as goal

pub returns-in_err-choice : goal.returns-in_err-choice
returns-in_err-choice g c =
    let laws : IsExact g.V.PartialEq.eq = record { exact = g.met.V.Exact.exact; itself = g.met.V.Eq.laws.refl } in
    let is = err_from_is_err_and c.from_residual.result c.from_residual.ensures.1 in
    record {
      answer = refused-choice laws c.args.txn c.args.old.now c.args.new.now (subst IsCanonical c.old.view_is c.old.invariant.canonical) (subst IsCanonical c.new.view_is c.new.invariant.canonical)
          c.from_residual.result NoMemory (search (rules, is)) tt;
    }

pub invariant_of-result : goal.invariant_of-result
invariant_of-result g c =
    (sure-chosen HELD_NAMES c.args.txn c.in-Some.values.0 c.in-Some.values.1 (omega arith) c.in-Some.ensures.1.1 c.args.old.now c.args.new.now c.in_ok-choice.field-0
    (sym (c.cases.ensures ∙ c.old.view_is) ∙ c.in-Some.ensures.0)
    (sym (c.cases-2.ensures ∙ c.new.view_is) ∙ c.in-Some.ensures.1.0)
    c.in_ok-choice.ensures).polyvalue

pub returns-in-Some : goal.returns-in-Some
returns-in-Some g c =
    let laws : IsExact g.V.PartialEq.eq = record { exact = g.met.V.Exact.exact; itself = g.met.V.Eq.laws.refl } in
    record {
      answer = given-choice laws c.args.txn c.args.old.now c.args.new.now (subst IsCanonical c.old.view_is c.old.invariant.canonical) (subst IsCanonical c.new.view_is c.new.invariant.canonical)
          c.in_ok-choice.field-0
          (sure-chosen HELD_NAMES c.args.txn c.in-Some.values.0 c.in-Some.values.1 (omega arith) c.in-Some.ensures.1.1 c.args.old.now c.args.new.now c.in_ok-choice.field-0
          (sym (c.cases.ensures ∙ c.old.view_is) ∙ c.in-Some.ensures.0)
          (sym (c.cases-2.ensures ∙ c.new.view_is) ∙ c.in-Some.ensures.1.0)
          c.in_ok-choice.ensures);
    }

pub returns-in_err-root : goal.returns-in_err-root
returns-in_err-root g c =
    let laws : IsExact g.V.PartialEq.eq = record { exact = g.met.V.Exact.exact; itself = g.met.V.Eq.laws.refl } in
    let is = err_from_is_err_and c.from_residual-in_err-root.result c.from_residual-in_err-root.ensures.1 in
    record {
      answer = refused-choice laws c.args.txn c.args.old.now c.args.new.now (subst IsCanonical c.old.view_is c.old.invariant.canonical) (subst IsCanonical c.new.view_is c.new.invariant.canonical)
          c.from_residual-in_err-root.result c.in_err-root.field-0.0 (search (rules, is)) c.in_err-root.ensures.refused;
    }

pub returns-in_err-of_nodes : goal.returns-in_err-of_nodes
returns-in_err-of_nodes g c =
    let laws : IsExact g.V.PartialEq.eq = record { exact = g.met.V.Exact.exact; itself = g.met.V.Eq.laws.refl } in
    let is = err_from_is_err_and c.from_residual-in_err-of_nodes.result c.from_residual-in_err-of_nodes.ensures.1 in
    record {
      answer = refused-choice laws c.args.txn c.args.old.now c.args.new.now (subst IsCanonical c.old.view_is c.old.invariant.canonical) (subst IsCanonical c.new.view_is c.new.invariant.canonical)
          c.from_residual-in_err-of_nodes.result NoMemory (search (rules, is)) tt;
    }

pub returns : goal.returns
returns g c =
    let laws : IsExact g.V.PartialEq.eq = record { exact = g.met.V.Exact.exact; itself = g.met.V.Eq.laws.refl } in
    record {
      answer = given-choice laws c.args.txn c.args.old.now c.args.new.now (subst IsCanonical c.old.view_is c.old.invariant.canonical) (subst IsCanonical c.new.view_is c.new.invariant.canonical)
          c.in_ok-of_nodes.field-0 (subst (IsChosen HELD_NAMES c.args.txn c.args.old.now c.args.new.now) (sym c.in_ok-of_nodes.ensures) c.in_ok-root.ensures.given);
    }

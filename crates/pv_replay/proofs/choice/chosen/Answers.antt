-- The choice has one polyvalue, and these cases are it.
use Rattle.std.proofs.Common.{IfSome, FitsSigned, w64, arith, refl, rules, subst}
use Rattle.pv_base.specs.declared.faults.NameError.{NameError}
use Rattle.pv_base.specs.declared.limits.TheConstants.{HELD_NAMES}
use Rattle.pv_cases.specs.NameLimits.{ChoiceNamesTooMany, count_of}
use Rattle.pv_cases.proofs.SureChoice.{sure-chosen}
use Rattle.pv_replay.proofs.CaseLemmas.{sure_cases}
use Rattle.pv_replay.proofs.choice.chosen.Goals as goal

pub returns-in-Ok : goal.returns-in-Ok
returns-in-Ok c =
    let fits : FitsSigned w64 c.args.choice.before = search rules in
    let fit : FitsSigned w64 c.args.choice.after = search rules in
    let old = sure_cases c.args.choice.before c.in_ok-before.before fits c.in_ok-before.ensures.polyvalue c.in_ok-before.ensures.value in
    let new = sure_cases c.args.choice.after c.in_ok-after.after fit c.in_ok-after.ensures.polyvalue c.in_ok-after.ensures.value in
    let is = sure-chosen HELD_NAMES c.args.choice.txn c.args.choice.before c.args.choice.after (omega arith) c.requires c.in_ok-before.before c.in_ok-after.after _ old new refl in
    record {
      kept = c.in-Ok.ensures.answer.one.one_value _ _ c.in-Ok.ensures.answer.given is;
      polyvalue = c.in-Ok.ensures.answer.given.polyvalue;
    }

pub unreachable-requires : goal.unreachable-requires
unreachable-requires c =
    let fits : FitsSigned w64 c.args.choice.before = search rules in
    let fit : FitsSigned w64 c.args.choice.after = search rules in
    let old = sure_cases c.args.choice.before c.in_ok-before.before fits c.in_ok-before.ensures.polyvalue c.in_ok-before.ensures.value in
    let new = sure_cases c.args.choice.after c.in_ok-after.after fit c.in_ok-after.ensures.polyvalue c.in_ok-after.ensures.value in
    let is = sure-chosen HELD_NAMES c.args.choice.txn c.args.choice.before c.args.choice.after (omega arith) c.requires c.in_ok-before.before c.in_ok-after.after _ old new refl in
    let many = subst (λ (e : NameError). IfSome (count_of e) (ChoiceNamesTooMany HELD_NAMES c.args.choice.txn c.in_ok-before.before c.in_ok-after.after)) c.in-Err-TooManyOutcomes.field-0-is
    c.in-Err-TooManyOutcomes.ensures.answer.refused in
    c.in-Err-TooManyOutcomes.ensures.answer.one.not_both _ _ is many

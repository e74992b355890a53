-- The first case is written, and then the others.
use Rattle.std.proofs.lemmas.Result.{on_ok_weaker}
use Rattle.pv_report.proofs.CaseTextLemmas.{cases-written}
use Rattle.pv_report.proofs.cases.push_cases.Goals as goal

pub returns-in_ok-push_case-in-Some-clause-text : goal.returns-in_ok-push_case-in-Some-clause-text
returns-in_ok-push_case-in-Some-clause-text c =
    on_ok_weaker c.push_others.result
    (λ written. cases-written c.args.cases.now c.in-Some.first.now c.in-Some.others.now c.args.text.now.items c.push_case.new.text.items c.push_others.new.text.items
    c.in-Some.ensures.cases.0 c.in_ok-push_case-in-Some.ensures.text written)
    c.push_others.ensures.text

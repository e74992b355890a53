-- Where none of the order is misplaced, one that is astray is looked for.
use Rattle.std.proofs.Common.{sym, ◌∙◌}
use Rattle.pv_audit.specs.ToldView.{report_of}
use Rattle.pv_audit.proofs.FoundLemmas.{else-behind, else-front, placed-is}
use Rattle.pv_audit.proofs.outcomes.Outcomes.misplaced.Goals as goal

pub returns-in-Some-first_stray : goal.returns-in-Some-first_stray
returns-in-Some-first_stray c = λ requests sorted first.
    let told = report_of requests c.args.head in
    sym (placed-is told (sym (c.first_misplaced.ensures told sorted first) ∙ c.in_default.is)
    ∙ else-front _ _ c.in-Some-first_stray.txn (sym (c.first_stray.ensures told sorted) ∙ c.in-Some-first_stray.is))

pub returns : goal.returns
returns c = λ requests sorted first.
    let told = report_of requests c.args.head in
    c.first_stray-2.ensures told sorted
    ∙ sym (placed-is told (sym (c.first_misplaced.ensures told sorted first) ∙ c.in_default.is)
    ∙ else-behind _ _ (sym (c.first_stray.ensures told sorted) ∙ c.in_default-first_stray.is))

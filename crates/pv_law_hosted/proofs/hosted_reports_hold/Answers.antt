use Rattle.std.proofs.Common.{sym, ◌∙◌}
use Rattle.std.proofs.lemmas.Bool.{true≢false}
use Rattle.pv_protocol.specs.State.{committed, refused}
use Rattle.pv_law_hosted.proofs.ReportLemmas.{commit-answered, refusal-held}
use Rattle.pv_law_hosted.proofs.hosted_reports_hold.Goals as goal

pub returns-clause-commits : goal.returns-clause-commits
returns-clause-commits c setup d events n txn replies mirrored below there =
    commit-answered setup events (c.runs_are_reached.ensures.run setup events mirrored.well) txn replies (c.commits_answer.ensures.run setup events mirrored.well)
    (c.committed_fit.ensures.run setup events mirrored.well) (λ world later acts is. c.outcomes_are_for_ever.ensures.commit setup world later txn acts is)
    (c.hosted_sites_agree.ensures.printed setup d events n (committed txn replies) mirrored below there)

pub returns-clause-refusals : goal.returns-clause-refusals
returns-clause-refusals c setup d events n txn cause mirrored below there =
    refusal-held setup events txn cause (c.refusals_hold.ensures.run setup events mirrored.well)
    (c.hosted_sites_agree.ensures.printed setup d events n (refused txn cause) mirrored below there)

pub returns-clause-not_both : goal.returns-clause-not_both
returns-clause-not_both c setup d events n m txn replies cause mirrored below within first second =
    let answer =
    commit-answered setup events (c.runs_are_reached.ensures.run setup events mirrored.well) txn replies (c.commits_answer.ensures.run setup events mirrored.well)
    (c.committed_fit.ensures.run setup events mirrored.well) (λ world later acts is. c.outcomes_are_for_ever.ensures.commit setup world later txn acts is)
    (c.hosted_sites_agree.ensures.printed setup d events n (committed txn replies) mirrored below first) in
    let refusal =
    refusal-held setup events txn cause (c.refusals_hold.ensures.run setup events mirrored.well)
    (c.hosted_sites_agree.ensures.printed setup d events m (refused txn cause) mirrored within second) in
    true≢false (sym answer.committed ∙ refusal.out.uncommitted)

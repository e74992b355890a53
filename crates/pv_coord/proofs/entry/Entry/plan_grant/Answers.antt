use Rattle.std.proofs.Common.{refl, List, sym, ap, ◌∙◌}
use Rattle.pv_coord.proofs.Arrivals.{ignored-at, waits-at, last-at, if-error}
use Rattle.std.proofs.lemmas.Bool.{not-true, not-false}
use Rattle.pv_coord.specs.Answers.{waits, last}
use Rattle.pv_coord.specs.Coordinator.{Grants}
use Rattle.pv_coord.specs.Work.{is_grant_ignored}
use Rattle.pv_model.specs.Alternatives.{Read}
use Rattle.pv_coord.proofs.entry.Entry.plan_grant.Goals as goal

pub returns-then-not-fits-clause-answer : goal.returns-then-not-fits-clause-answer
returns-then-not-fits-clause-answer c =
    let grants : Grants = record { txn = c.args.txn; taken = record { site = c.args.from.0; grant = c.args.grant; values = c.args.values.now } } in
    ignored-at c.args.self.now grants (not-false (is_grant_ignored c.args.self.now grants.taken) (sym (c.if-not-fits.ensures c.args.grant)))

pub returns-then-not-completes_grants-clause-answer : goal.returns-then-not-completes_grants-clause-answer
returns-then-not-completes_grants-clause-answer c =
    let grants : Grants = record { txn = c.args.txn; taken = record { site = c.args.from.0; grant = c.args.grant; values = c.args.values.now } } in
    ap (λ (values : List Read). waits (record grants { taken = record grants.taken { values = values } })) c.in_ok-copy_reads.ensures
    ∙ waits-at c.args.self.now grants
    (not-true (is_grant_ignored c.args.self.now grants.taken) (sym (c.fits.ensures c.args.grant) ∙ c.if-not-fits.false))
    (sym (c.if-not-completes_grants.ensures grants.taken refl))

pub returns-clause-answer : goal.returns-clause-answer
returns-clause-answer c =
    let grants : Grants = record { txn = c.args.txn; taken = record { site = c.args.from.0; grant = c.args.grant; values = c.args.values.now } } in
    ap (λ (values : List Read). last c.in_ok-reads.reads.items c.args.self.now.entry.program (record grants { taken = record grants.taken { values = values } })) c.in_ok-copy_reads.ensures
    ∙ ap (λ (reads : List Read). last reads c.args.self.now.entry.program grants) (c.in_ok-reads.ensures c.args.grant)
    ∙ last-at c.args.self.now grants
    (not-true (is_grant_ignored c.args.self.now grants.taken) (sym (c.fits.ensures c.args.grant) ∙ c.if-not-fits.false))
    (sym (c.if-not-completes_grants.ensures grants.taken refl))

pub returns-in_err-copy_reads-clause-memory : goal.returns-in_err-copy_reads-clause-memory
returns-in_err-copy_reads-clause-memory c =
    if-error c.from_residual.result (not-true (is_grant_ignored c.args.self.now (record { site = c.args.from.0; grant = c.args.grant; values = c.args.values.now }))
    (sym (c.fits.ensures c.args.grant) ∙ c.if-not-fits.false))

pub returns-in_err-reads-clause-memory : goal.returns-in_err-reads-clause-memory
returns-in_err-reads-clause-memory c =
    if-error c.from_residual-in_err-reads.result (not-true (is_grant_ignored c.args.self.now (record { site = c.args.from.0; grant = c.args.grant; values = c.args.values.now }))
    (sym (c.fits.ensures c.args.grant) ∙ c.if-not-fits.false))

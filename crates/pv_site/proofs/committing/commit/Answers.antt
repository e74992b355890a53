-- All have voted yes.
use Rattle.std.proofs.Common.{◌∙◌, Ok, Err, List, [], ◌∷◌, ◌++◌, ℕ, ap, subst, sym}
use Rattle.std.proofs.lemmas.Result.{err_from_is_err_and}
use Rattle.pv_format.specs.Record.{Record}
use Rattle.pv_format.specs.RecordSpelling.{SpellsRecord}
use Rattle.pv_protocol.specs.Here.{Here}
use Rattle.pv_protocol.specs.Vote.{committing}
use Rattle.pv_replay.specs.Values.{record_of}
use Rattle.pv_site.proofs.CommitSteps.{commit-failed, commit-recorded, commit-refused, commit-spelled, committed-steps, refusal-failed, voting-entry}
use Rattle.pv_site.proofs.Recorded.{kept-store}
use Rattle.pv_site.specs.Answer.{IsAnswer}
use Rattle.pv_site.specs.Room.{Writes}
use Rattle.pv_site.specs.declared.appending.Written.TheVariants as written
use Rattle.pv_site.specs.declared.parts.SiteParts.{SiteParts}
use Rattle.pv_store.specs.Kept.{Kept}
use Rattle.pv_site.proofs.committing.commit.Goals as goal

pub write-requires-clause-spelled : goal.write-requires-clause-spelled
write-requires-clause-spelled g c =
    subst (λ (r : Record). (bytes : List ℕ) × SpellsRecord r bytes) (sym (c.record.ensures ∙ c.in_ok-change.ensures.change))
    (commit-spelled g.L.Log.model c.args.log.now c.args.log.now c.args.parts.now c.requires.ready c.args.txn c.requires.voting.0 c.requires.voting.1)

pub returns-in-Ok-Done-clause-step : goal.returns-in-Ok-Done-clause-step
returns-in-Ok-Done-clause-step g c work is =
    let parts = c.args.parts.now in
    let wrote = subst (λ (r : Record). Writes g.L.Log.model c.args.log.now c.write.new.log r (Ok written.Done)) (c.record.ensures ∙ c.in_ok-change.ensures.change)
    (subst (λ w. Writes g.L.Log.model c.args.log.now c.write.new.log (record_of c.record.result.now) (Ok w)) c.in-Ok-Done.field-0-is c.in-Ok-Done.ensures.written) in
    let same = c.in_ok-change.ensures.unchanged in
    let kept = kept-store parts c.requires.ready.sound.tied c.plan_settle.new.self same in
    let store = c.apply.new.self in
    let new : SiteParts = record parts { store = store; coord = c.drop_entry.new.self; locks = c.release.new.self } in
    commit-recorded g.L.Log.model c.args.log.now c.write.new.log parts c.requires.ready c.args.txn work is new c.in_ok-committed.committed wrote
    (committed-steps parts c.requires.ready.sound.tied c.args.txn work is store c.drop_entry.new.self c.release.new.self
    (ap (λ (k : Kept). k.site) c.apply.ensures ∙ same.site) (ap (λ (k : Kept). k.catalog) c.apply.ensures ∙ same.catalog)
    (ap (λ (k : Kept). k.records) c.apply.ensures ∙ ap (λ (r : List Record). r ++ c.in_ok-change.change.appended ∷ []) same.records
    ∙ ap (λ (r : Record). parts.store.records ++ r ∷ []) c.in_ok-change.ensures.change)
    c.drop_entry.ensures.dropped c.release.ensures.ended)
    (subst (λ (h : Here). IsAnswer c.in_ok-committed.committed (committing h work.entry)) kept.here (c.in_ok-committed.ensures work is))

pub returns-in-Err-clause-step : goal.returns-in-Err-clause-step
returns-in-Err-clause-step g c work is =
    let parts = c.args.parts.now in
    let wrote = subst (λ (r : Record). Writes g.L.Log.model c.args.log.now c.write.new.log r (Err c.in-Err.error)) (c.record.ensures ∙ c.in_ok-change.ensures.change)
    c.in-Err.ensures.written in
    commit-failed g.L.Log.model c.args.log.now c.write.new.log parts c.requires.ready c.args.txn work is (record parts { store = c.plan_settle.new.self }) c.in-Err.error wrote
    (kept-store parts c.requires.ready.sound.tied c.plan_settle.new.self c.in_ok-change.ensures.unchanged)

pub returns-in_ok-refuse-in-Ok-Full-clause-step : goal.returns-in_ok-refuse-in-Ok-Full-clause-step
returns-in_ok-refuse-in-Ok-Full-clause-step g c work is =
    let parts = c.args.parts.now in
    let wrote = subst (λ (r : Record). Writes g.L.Log.model c.args.log.now c.write.new.log r (Ok (written.Full c.in-Ok-Full.length))) (c.record.ensures ∙ c.in_ok-change.ensures.change)
    (subst (λ w. Writes g.L.Log.model c.args.log.now c.write.new.log (record_of c.record.result.now) (Ok w)) c.in-Ok-Full.field-0-is c.in-Ok-Full.ensures.written) in
    let mid : SiteParts = record parts { store = c.plan_settle.new.self } in
    commit-refused g.L.Log.model c.args.log.now c.write.new.log parts c.requires.ready c.args.txn work is mid
    (kept-store parts c.requires.ready.sound.tied c.plan_settle.new.self c.in_ok-change.ensures.unchanged) c.refuse.new.self c.in-Ok-Full.length wrote
    c.in_ok-refuse-in-Ok-Full.field-0
    (c.in_ok-refuse-in-Ok-Full.ensures work.entry (voting-entry parts c.requires.ready.sound.tied c.args.txn work is))

pub returns-in_err-refuse-in-Ok-Full-clause-step : goal.returns-in_err-refuse-in-Ok-Full-clause-step
returns-in_err-refuse-in-Ok-Full-clause-step g c work is =
    let parts = c.args.parts.now in
    let wrote = subst (λ (r : Record). Writes g.L.Log.model c.args.log.now c.write.new.log r (Ok (written.Full c.in-Ok-Full.length))) (c.record.ensures ∙ c.in_ok-change.ensures.change)
    (subst (λ w. Writes g.L.Log.model c.args.log.now c.write.new.log (record_of c.record.result.now) (Ok w)) c.in-Ok-Full.field-0-is c.in-Ok-Full.ensures.written) in
    let mid : SiteParts = record parts { store = c.plan_settle.new.self } in
    let failed = err_from_is_err_and c.from_residual-in_err-refuse-in-Ok-Full.result c.from_residual-in_err-refuse-in-Ok-Full.ensures.1 in
    refusal-failed g.L.Log.model c.args.log.now c.write.new.log parts c.requires.ready c.args.txn work is mid
    (kept-store parts c.requires.ready.sound.tied c.plan_settle.new.self c.in_ok-change.ensures.unchanged) c.refuse.new.self c.in-Ok-Full.length wrote
    c.from_residual-in_err-refuse-in-Ok-Full.result (failed.1 ∙ ap Err failed.2)
    (c.in_err-refuse-in-Ok-Full.ensures work.entry (voting-entry parts c.requires.ready.sound.tied c.args.txn work is))

use Rattle.std.proofs.Common.{◌∙◌, Ok, Err, List, ◌∷◌, ◌++◌, [], ℕ, ap, subst, sym}
use Rattle.pv_format.specs.Record.{Record, outcome_known}
use Rattle.pv_format.specs.RecordSpelling.{SpellsRecord}
use Rattle.pv_law_format.proofs.RangeLemmas.{record-spelled}
use Rattle.pv_replay.specs.Values.{record_of}
use Rattle.pv_site.proofs.Recorded.{kept-store, learned, outcome-failed, outcome-recorded}
use Rattle.pv_site.specs.Room.{Writes}
use Rattle.pv_site.specs.declared.appending.Written.TheVariants as written
use Rattle.pv_site.specs.declared.parts.SiteParts.{SiteParts}
use Rattle.pv_store.specs.Kept.{Kept}
use Rattle.pv_site.proofs.learning.learn.Goals as goal

pub write-requires-clause-spelled : goal.write-requires-clause-spelled
write-requires-clause-spelled g c =
    subst (λ (r : Record). (bytes : List ℕ) × SpellsRecord r bytes) (sym (c.record.ensures ∙ c.in_ok-change.ensures.change))
    (record-spelled (outcome_known c.args.txn c.args.commits) c.requires.txn)

pub returns-in-Ok-Done-clause-step : goal.returns-in-Ok-Done-clause-step
returns-in-Ok-Done-clause-step g c step is =
    let wrote = subst (λ (r : Record). Writes g.L.Log.model c.args.log.now c.write.new.log r (Ok written.Done)) (c.record.ensures ∙ c.in_ok-change.ensures.change)
    (subst (λ w. Writes g.L.Log.model c.args.log.now c.write.new.log (record_of c.record.result.now) (Ok w)) c.in-Ok-Done.field-0-is c.in-Ok-Done.ensures.written) in
    let same = c.in_ok-change.ensures.unchanged in
    let store = c.apply.new.self in
    let new : SiteParts = record c.args.parts.now { locks = c.release.new.self; store = store } in
    outcome-recorded g.L.Log.model c.args.log.now c.write.new.log c.args.parts.now new c.requires.ready c.args.txn c.args.commits step is c.nothing.result wrote
    (record { sends = c.nothing.ensures.sends; notes = c.nothing.ensures.notes; locked = c.nothing.ensures.locked })
    (learned c.args.parts.now c.requires.ready.sound.tied store c.release.new.self c.args.txn c.args.commits
    (ap (λ (kept : Kept). kept.site) c.apply.ensures ∙ same.site) (ap (λ (kept : Kept). kept.catalog) c.apply.ensures ∙ same.catalog)
    (ap (λ (kept : Kept). kept.records) c.apply.ensures ∙ ap (λ (r : List Record). r ++ c.in_ok-change.change.appended ∷ []) same.records
    ∙ ap (λ (r : Record). c.args.parts.now.store.records ++ r ∷ []) c.in_ok-change.ensures.change)
    c.release.ensures.ended)

pub returns-in-Err-clause-step : goal.returns-in-Err-clause-step
returns-in-Err-clause-step g c step is =
    let wrote = subst (λ (r : Record). Writes g.L.Log.model c.args.log.now c.write.new.log r (Err c.in-Err.error)) (c.record.ensures ∙ c.in_ok-change.ensures.change)
    c.in-Err.ensures.written in
    let new : SiteParts = record c.args.parts.now { store = c.plan_settle.new.self } in
    outcome-failed g.L.Log.model c.args.log.now c.write.new.log c.args.parts.now new c.requires.ready c.args.txn c.args.commits step is c.in-Err.error wrote
    (kept-store c.args.parts.now c.requires.ready.sound.tied c.plan_settle.new.self c.in_ok-change.ensures.unchanged)

use Rattle.std.proofs.Common.{◌≡◌, ◌<◌, ◌∙◌, refl, sym, ap, subst, Ok, Err, List, [], ◌∷◌, ◌++◌, ℕ}
use Rattle.std.specs.Prelude.{All, IsTrue, IfSome}
use Rattle.pv_format.specs.Record.{Record, prepared}
use Rattle.pv_format.specs.RecordSpelling.{SpellsRecord}
use Rattle.pv_law_format.proofs.RangeLemmas.{record-spelled}
use Rattle.pv_model.specs.Alternatives.{Read}
use Rattle.pv_protocol.specs.Lock.{is_home}
use Rattle.pv_replay.specs.Values.{record_of}
use Rattle.pv_site.proofs.PromiseLemmas.{promise-failed, promise-full, promise-kept, promised-stepped, standing-held, too-wide, writes-home}
use Rattle.pv_site.proofs.Recorded.{kept-store}
use Rattle.pv_site.proofs.TakingLemmas.{pairs-unmap}
use Rattle.pv_site.proofs.deciding.promise.Goals as goal
use Rattle.pv_site.specs.SiteParts.{here_of}
use Rattle.pv_site.specs.Room.{Writes}
use Rattle.pv_site.specs.declared.appending.Written.TheVariants as written
use Rattle.pv_store.specs.Kept.{Kept}
use Rattle.pv_store.specs.Refusals.{count_of}
use Rattle.std.specs.List.{list_any}
use Rattle.pv_protocol.specs.Vote.{would_be_wide}
use Rattle.std.proofs.Common.{true}

pub plan_prepare-requires-clause-here : goal.plan_prepare-requires-clause-here
plan_prepare-requires-clause-here g c =
    let parts = c.args.parts.now in
    let standing = c.requires.stands.0 in
    let right = sym (c.if-not-has_written.ensures standing c.requires.stands.1) in
    let held = standing-held parts c.requires.ready.sound c.args.txn standing c.requires.stands.1 in
    subst (λ site. All (λ (write : Read). IsTrue (is_home parts.store.catalog site write.item)) c.args.writes.now) (sym c.requires.ready.sound.tied.store_site)
    (subst (λ catalog. All (λ (write : Read). IsTrue (is_home catalog parts.me.0 write.item)) c.args.writes.now) (sym c.requires.ready.sound.tied.store_catalog)
    (writes-home parts.catalog parts.me.0 standing c.args.writes.now held.homes right))

pub plan_prepare-requires-clause-ascending : goal.plan_prepare-requires-clause-ascending
plan_prepare-requires-clause-ascending g c =
    pairs-unmap (λ (item later : ℕ). item < later) (λ (write : Read). write.item) c.args.writes.now c.requires.writes.items.ascending

pub returns-in-Err-TooManyOutcomes-clause-step : goal.returns-in-Err-TooManyOutcomes-clause-step
returns-in-Err-TooManyOutcomes-clause-step g c = λ standing stands.
    let parts = c.args.parts.now in
    let tied = c.requires.ready.sound.tied in
    let says = c.nothing-in-Err-TooManyOutcomes.ensures in
    let told = c.in-Err-TooManyOutcomes.ensures.wide (here_of parts) (record { site = tied.store_site; catalog = tied.store_catalog; records = refl }) refl in
    too-wide parts tied c.args.txn standing stands c.args.writes.now g.L.Log.model c.args.log.now c.args.log.now (record parts { store = c.plan_prepare.new.self })
    (sym (c.if-not-has_written.ensures standing stands)) (kept-store parts tied c.plan_prepare.new.self c.in-Err-TooManyOutcomes.ensures.unchanged)
    (subst (λ e. IfSome (count_of e) (λ _. list_any (λ (write : Read). would_be_wide (here_of parts) (prepared c.args.txn c.args.writes.now) write.item) c.args.writes.now ≡ true))
    c.in-Err-TooManyOutcomes.field-0-is told.refused) refl c.nothing-in-Err-TooManyOutcomes.result
    (record { sends = says.sends; notes = says.notes; locked = says.locked })

pub write-requires-clause-spelled : goal.write-requires-clause-spelled
write-requires-clause-spelled g c =
    subst (λ (r : Record). (bytes : List ℕ) × SpellsRecord r bytes) (sym (c.record.ensures ∙ c.in-Ok.ensures.change))
    (record-spelled (prepared c.args.txn c.args.writes.now) (c.requires.txn, c.requires.writes))

pub returns-in-Ok-Done-clause-step : goal.returns-in-Ok-Done-clause-step
returns-in-Ok-Done-clause-step g c = λ standing stands.
    let parts = c.args.parts.now in
    let tied = c.requires.ready.sound.tied in
    let says = c.in-Ok-sending.ensures in
    let same = c.in-Ok.ensures.unchanged in
    let told = c.in-Ok.ensures.wide (here_of parts) (record { site = tied.store_site; catalog = tied.store_catalog; records = refl }) refl in
    let wrote = subst (λ (r : Record). Writes g.L.Log.model c.args.log.now c.write.new.log r (Ok written.Done)) (c.record.ensures ∙ c.in-Ok.ensures.change)
    (subst (λ w. Writes g.L.Log.model c.args.log.now c.write.new.log (record_of c.record.result.now) (Ok w)) c.in-Ok-Done.field-0-is c.in-Ok-Done.ensures.written) in
    promise-kept parts tied c.args.txn standing stands c.args.writes.now g.L.Log.model c.args.log.now c.write.new.log
    (record parts { store = c.apply.new.self; locks = c.renew.new.self }) (sym (c.if-not-has_written.ensures standing stands)) c.requires.ready told.accepted
    c.in-Ok-sending.promised wrote
    (promised-stepped parts tied c.args.txn standing stands c.args.writes.now c.apply.new.self c.renew.new.self
    (ap (λ (kept : Kept). kept.site) c.apply.ensures ∙ same.site) (ap (λ (kept : Kept). kept.catalog) c.apply.ensures ∙ same.catalog)
    (ap (λ (kept : Kept). kept.records) c.apply.ensures
    ∙ (ap (λ (records : List Record). records ++ c.in-Ok.change.appended ∷ []) same.records
    ∙ ap (λ (more : Record). parts.store.records ++ more ∷ []) c.in-Ok.ensures.change)) c.renew.ensures)
    (record { sends = says.sends; notes = says.notes; locked = says.locked })

pub returns-in_ok-sending-in-Ok-Full-clause-step : goal.returns-in_ok-sending-in-Ok-Full-clause-step
returns-in_ok-sending-in-Ok-Full-clause-step g c = λ standing stands.
    let parts = c.args.parts.now in
    let tied = c.requires.ready.sound.tied in
    let says = c.in_ok-sending-in-Ok-Full.ensures in
    let told = c.in-Ok.ensures.wide (here_of parts) (record { site = tied.store_site; catalog = tied.store_catalog; records = refl }) refl in
    let wrote = subst (λ (r : Record). Writes g.L.Log.model c.args.log.now c.write.new.log r (Ok (written.Full c.in-Ok-Full.length))) (c.record.ensures ∙ c.in-Ok.ensures.change)
    (subst (λ w. Writes g.L.Log.model c.args.log.now c.write.new.log (record_of c.record.result.now) (Ok w)) c.in-Ok-Full.field-0-is c.in-Ok-Full.ensures.written) in
    promise-full parts tied c.args.txn standing stands c.args.writes.now g.L.Log.model c.args.log.now c.write.new.log
    (record parts { store = c.plan_prepare.new.self }) (sym (c.if-not-has_written.ensures standing stands)) c.requires.ready told.accepted
    c.in-Ok-Full.length wrote (kept-store parts tied c.plan_prepare.new.self c.in-Ok.ensures.unchanged) c.in_ok-sending-in-Ok-Full.field-0
    (record { sends = says.sends; notes = says.notes; locked = says.locked })

pub returns-in-Err-write-clause-step : goal.returns-in-Err-write-clause-step
returns-in-Err-write-clause-step g c = λ standing stands.
    let parts = c.args.parts.now in
    let tied = c.requires.ready.sound.tied in
    let told = c.in-Ok.ensures.wide (here_of parts) (record { site = tied.store_site; catalog = tied.store_catalog; records = refl }) refl in
    let wrote = subst (λ (r : Record). Writes g.L.Log.model c.args.log.now c.write.new.log r (Err c.in-Err-write.error)) (c.record.ensures ∙ c.in-Ok.ensures.change)
    c.in-Err-write.ensures.written in
    promise-failed parts tied c.args.txn standing stands c.args.writes.now g.L.Log.model c.args.log.now c.write.new.log
    (record parts { store = c.plan_prepare.new.self }) (sym (c.if-not-has_written.ensures standing stands)) c.requires.ready told.accepted
    c.in-Err-write.error wrote (kept-store parts tied c.plan_prepare.new.self c.in-Ok.ensures.unchanged)

use Rattle.std.proofs.Common.{◌≡◌, ◌∙◌, refl, sym, ap, subst, Ok, Err, List, [], ◌∷◌, ◌++◌, ℕ, ◌+◌, ◌<◌, arith}
use Rattle.std.specs.Prelude.{All}
use Rattle.std.proofs.lemmas.List.Elements.{All-append, All-cons, All-nil}
use Rattle.pv_base.specs.declared.limits.TheConstants.{HELD_NAMES, NEVER_GIVEN}
use Rattle.pv_format.specs.Contents.{greatest_epoch}
use Rattle.pv_format.specs.Range.{IsRecordInRange}
use Rattle.pv_format.specs.Record.{Record, epoch_begun}
use Rattle.pv_format.specs.RecordSpelling.{SpellsRecord}
use Rattle.pv_law_step.proofs.EpochLemmas.{epoch-rises}
use Rattle.pv_law_step.proofs.WidthLemmas.{other-narrow}
use Rattle.pv_protocol.specs.Width.{IsNarrow}
use Rattle.pv_replay.specs.Values.{record_of}
use Rattle.pv_site.proofs.OpenLemmas.{epoch-spelled}
use Rattle.pv_site.proofs.recovered.Recovered.advance.Goals as goal
use Rattle.pv_site.specs.Recovered.{Remains}
use Rattle.pv_site.specs.Resumes.{advanced_from, next_epoch}
use Rattle.pv_site.specs.Room.{Writes}
use Rattle.pv_site.specs.declared.appending.Written.TheVariants as written
use Rattle.pv_site.specs.declared.appending.Written.{Written}
use Rattle.pv_store.specs.Kept.{Kept}

pub write-requires-clause-spelled : goal.write-requires-clause-spelled
write-requires-clause-spelled g c =
    subst (λ (r : Record). (bytes : List ℕ) × SpellsRecord r bytes) (sym (c.record.ensures ∙ c.plan_epoch-change.ensures.change))
    (epoch-spelled (c.self.inside.epoch + 1) (omega arith) (omega (arith, c.if-self.false)))

pub invariant_of-self : goal.invariant_of-self
invariant_of-self g c =
    let grown : c.apply.new.self.records ≡ c.self.inside.store.records ++ epoch_begun (c.self.inside.epoch + 1) ∷ [] =
    ap (λ (kept : Kept). kept.records) c.apply.ensures ∙ ap (λ (more : Record). c.self.inside.store.records ++ more ∷ []) c.plan_epoch-change.ensures.change in
    record {
      site = ap (λ (kept : Kept). kept.site) c.apply.ensures ∙ c.self.invariant.site;
      catalog = ap (λ (kept : Kept). kept.catalog) c.apply.ensures ∙ c.self.invariant.catalog;
      epoch = ap greatest_epoch grown ∙ epoch-rises c.self.inside.store.records (c.self.inside.epoch + 1) (omega (arith, c.self.invariant.epoch));
      range = subst (All IsRecordInRange) (sym grown)
          (All-append IsRecordInRange c.self.inside.store.records (epoch_begun (c.self.inside.epoch + 1) ∷ []) c.self.invariant.range
          (All-cons IsRecordInRange (epoch_begun (c.self.inside.epoch + 1)) [] (omega arith, omega (arith, c.if-self.false)) (All-nil IsRecordInRange)));
      narrow = subst (IsNarrow HELD_NAMES c.self.inside.catalog c.self.inside.me.0) (sym grown)
          (other-narrow c.self.inside.catalog HELD_NAMES c.self.inside.me.0 c.self.inside.store.records c.self.invariant.narrow (epoch_begun (c.self.inside.epoch + 1))
          (λ txn writes same. absurd (let wrong : ⊥ = cc in wrong)));
    }

pub returns-in-Ok-Done-clause-advanced : goal.returns-in-Ok-Done-clause-advanced
returns-in-Ok-Done-clause-advanced g c =
    let number : c.self.inside.epoch + 1 ≡ next_epoch c.self.inside.store.records = ap (λ (n : ℕ). n + 1) (sym c.self.invariant.epoch) in
    let planned = c.plan_epoch-change.ensures.change ∙ ap epoch_begun number in
    let wrote : Writes g.L.Log.model c.args.log.now c.write.new.log (epoch_begun (next_epoch c.self.inside.store.records)) (Ok written.Done) =
    subst (λ (r : Record). Writes g.L.Log.model c.args.log.now c.write.new.log r (Ok written.Done)) (c.record.ensures ∙ planned)
    (subst (λ (w : Written). Writes g.L.Log.model c.args.log.now c.write.new.log (record_of c.record.result.now) (Ok w)) c.in-Ok-Done.field-0-is c.in-Ok-Done.ensures.written) in
    let grown : c.apply.new.self.records ≡ c.self.inside.store.records ++ epoch_begun (next_epoch c.self.inside.store.records) ∷ [] =
    ap (λ (kept : Kept). kept.records) c.apply.ensures ∙ ap (λ (more : Record). c.self.inside.store.records ++ more ∷ []) planned in
    let after : Remains = record { me = c.self.inside.me.0; catalog = c.self.inside.catalog; records = c.apply.new.self.records; surplus = c.self.inside.surplus } in
    subst (λ (left : Remains). (after ≡ advanced_from left) × (next_epoch left.records < NEVER_GIVEN)
    × Writes g.L.Log.model c.args.log.now c.write.new.log (epoch_begun (next_epoch left.records)) (Ok written.Done)) c.self.view_is (
      ap (λ (records : List Record). record { me = c.self.inside.me.0; catalog = c.self.inside.catalog; records = records; surplus = c.self.inside.surplus }) grown,
      omega (arith, c.if-self.false, c.self.invariant.epoch),
      wrote,
    )

pub returns-in-Err-clause-advanced : goal.returns-in-Err-clause-advanced
returns-in-Err-clause-advanced g c =
    let planned = c.plan_epoch-change.ensures.change ∙ ap (λ (n : ℕ). epoch_begun (n + 1)) (sym c.self.invariant.epoch) in
    subst (λ (left : Remains). (c.args.self.now ≡ c.args.self.now) × (next_epoch left.records < NEVER_GIVEN)
    × Writes g.L.Log.model c.args.log.now c.write.new.log (epoch_begun (next_epoch left.records)) (Err c.in-Err.error)) c.self.view_is (
      refl,
      omega (arith, c.if-self.false, c.self.invariant.epoch),
      subst (λ (r : Record). Writes g.L.Log.model c.args.log.now c.write.new.log r (Err c.in-Err.error)) (c.record.ensures ∙ planned) c.in-Err.ensures.written,
    )

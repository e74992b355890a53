-- One record after another.
use Rattle.std.proofs.Common.{◌≡◌, ◌∙◌, ◌∷◌, ◌++◌, [], suc, length, take, drop, add-one, arith, ap, sym, subst}
use Rattle.std.proofs.lemmas.List.{length-map}
use Rattle.std.specs.Prelude.{Err}
use Rattle.std.proofs.lemmas.Result.{err_from_is_err_and}
use Rattle.pv_format.specs.Record as model
use Rattle.pv_replay.specs.Values.{record_of, records_of}
use Rattle.pv_store.specs.Held.{AreShown, AreTouched, Values}
use Rattle.pv_store.proofs.LoadLemmas.{AreLoaded, loaded-all, loaded-next, front-whole, loaded-none, loaded-refused, promising}
use Rattle.pv_store.proofs.TouchedLemmas.{declared-touched}
use Rattle.pv_store.proofs.WriteLemmas.{map-at}
use Rattle.pv_store.proofs.load.values_of.Goals as goal

pub loop-record-init : goal.loop-record-init
loop-record-init c = record {
  loaded = λ catalog site known are.
      loaded-none catalog site (records_of c.args.records.now) c.in_ok-values.values.items _ (subst (λ (values : Values). AreShown catalog site [] [] values) (sym c.in_ok-values.ensures) are);
  touched = λ catalog site are.
      subst (AreTouched c.in_ok-values.values.items) (sym c.new-dependents.ensures.touched)
      (declared-touched catalog site c.in_ok-values.values.items (subst (λ (values : Values). AreShown catalog site [] [] values) (sym c.in_ok-values.ensures) are));
}

pub put_record-requires : goal.put_record-requires
put_record-requires c =
    let w = c.requires in
    let so = c.loop-record.invariant.loaded w.0 w.1 w.2 w.3 in
    let records = records_of c.args.records.now in (
      w.0,
      w.1,
      records,
      take c.loop-record.record-index records,
      promising w.0 w.1 records (take c.loop-record.record-index records) c.args.outcomes.now.outcomes c.loop-record.values.items c.deref_mut.result.now c.deref_mut.ensures.value w.2 so.values_are,
    )

pub loop-record-preserved : goal.loop-record-preserved
loop-record-preserved c =
    let records = records_of c.args.records.now in
    let i = c.loop-record.record-index in
    let first : model.Record = record_of c.record-item.result in
    let here : drop i records ≡ first ∷ drop (suc i) records = map-at record_of c.args.records.now i c.record-item.result c.loop-record-test.true c.record-item.is in
    let put : Values = c.put_record.new.values in
    let places = c.put_record.new.dependents.places in
    let same : length put ≡ length c.loop-record.values.items = c.put_record.auto.values ∙ ap length c.deref_mut.ensures.value in
    let whole = front-whole put (drop (length put) c.loop-record.values.items) c.loop-record.values.len (c.loop-record.values.ok.0 ∙ sym same) in
    let end : Values = take c.loop-record.values.len (put ++ drop (length put) c.loop-record.values.items) in
    record {
      loaded = λ catalog site known are.
          let so = c.loop-record.invariant.loaded catalog site known are in
          let is = promising catalog site records (take i records) c.args.outcomes.now.outcomes c.loop-record.values.items c.deref_mut.result.now c.deref_mut.ensures.value known so.values_are in
          subst (λ k. AreLoaded catalog site records k end places) (sym (add-one i))
          (subst (λ (values : Values). AreLoaded catalog site records (suc i) values places) (sym whole)
          (loaded-next catalog site records i c.loop-record.values.items c.loop-record.dependents.places so first (drop (suc i) records) here put places
          (c.in_ok-put_record.ensures.values catalog site records (take i records) is)
          (c.in_ok-put_record.ensures.places catalog site records (take i records) is so.places_are)
          (c.in_ok-put_record.ensures.answer catalog site records (take i records) is).accepted));
      touched = λ catalog site are.
          subst (λ (values : Values). AreTouched values c.put_record.new.dependents.touched) (sym whole)
          (c.in_ok-put_record.ensures.touched
          (subst (λ (values : Values). AreTouched values c.loop-record.dependents.touched) (sym c.deref_mut.ensures.value) (c.loop-record.invariant.touched catalog site are)));
    }

pub returns-in_err-put_record-clause-answer : goal.returns-in_err-put_record-clause-answer
returns-in_err-put_record-clause-answer c = λ catalog site known are.
    let records = records_of c.args.records.now in
    let i = c.loop-record.record-index in
    let so = c.loop-record.invariant.loaded catalog site known are in
    let first : model.Record = record_of c.record-item.result in
    let here : drop i records ≡ first ∷ drop (suc i) records = map-at record_of c.args.records.now i c.record-item.result c.loop-record-test.true c.record-item.is in
    let is = promising catalog site records (take i records) c.args.outcomes.now.outcomes c.loop-record.values.items c.deref_mut.result.now c.deref_mut.ensures.value known so.values_are in
    let p = err_from_is_err_and c.from_residual-in_err-put_record.result c.from_residual-in_err-put_record.ensures.1 in
    loaded-refused catalog site records i c.loop-record.values.items c.loop-record.dependents.places so first (drop (suc i) records) here c.in_err-put_record.field-0.0 c.put_record.result
    c.from_residual-in_err-put_record.result c.in_err-put_record.was (p.1 ∙ ap Err p.2) (c.put_record.ensures.answer catalog site records (take i records) is)

pub returns-clause-values : goal.returns-clause-values
returns-clause-values c = λ catalog site known are.
    (loaded-all catalog site (records_of c.args.records.now) c.loop-record.record-index c.loop-record.values.items c.loop-record.dependents.places (c.loop-record.invariant.loaded catalog site known are)
    (omega (arith, length-map c.args.records.now record_of, c.loop-record-test.false))).0

pub returns-clause-places : goal.returns-clause-places
returns-clause-places c = λ catalog site known are.
    (loaded-all catalog site (records_of c.args.records.now) c.loop-record.record-index c.loop-record.values.items c.loop-record.dependents.places (c.loop-record.invariant.loaded catalog site known are)
    (omega (arith, length-map c.args.records.now record_of, c.loop-record-test.false))).1

pub returns-clause-answer : goal.returns-clause-answer
returns-clause-answer c = λ catalog site known are.
    record {
      accepted = (loaded-all catalog site (records_of c.args.records.now) c.loop-record.record-index c.loop-record.values.items c.loop-record.dependents.places (c.loop-record.invariant.loaded catalog site known are)
          (omega (arith, length-map c.args.records.now record_of, c.loop-record-test.false))).2;
      refused = tt;
    }

pub returns-clause-touched : goal.returns-clause-touched
returns-clause-touched c = λ catalog site are. c.loop-record.invariant.touched catalog site are

-- One item after another.
use Rattle.std.proofs.Common.{◌<◌, ◌∷◌, [], length, length-append, refl, arith}
use Rattle.std.proofs.lemmas.Bool.Decides.{nat_tests}
use Rattle.std.proofs.lemmas.Result.{err_from_is_err_and}
use Rattle.pv_format.specs.Layout.{polyvalue_then}
use Rattle.pv_format.specs.Form.{SpellsIn}
use Rattle.pv_model.specs.Alternatives.{Read}
use Rattle.pv_replay.specs.Faults.{fault_of}
use Rattle.pv_replay.specs.Values.{form_of}
use Rattle.pv_fields.proofs.ListLemmas.{entries_start, entries_go_on, entries_stop, entries_stop_at_item, entries_end}
use Rattle.pv_replay.proofs.LeftLemmas.{gone_further, gone_nowhere}
use Rattle.pv_replay.proofs.reads.take_counted_reads.Goals as goal

pub loop-alloc-init : goal.loop-alloc-init
loop-alloc-init c =
    rw c.in_ok-reads.ensures
    record {
      few = omega arith;
      small = omega arith;
      reading = entries_start (λ (entry : Read). SpellsIn (form_of c.args.form) entry.cases) (λ entry. entry.item) (polyvalue_then (form_of c.args.form)) c.args.count c.args.take.now;
      left = gone_nowhere c.args.take.now c.args.take.now refl;
    }

pub loop-alloc-preserved : goal.loop-alloc-preserved
loop-alloc-preserved c =
    let some : length c.loop-alloc.reads.items < c.args.count = omega arith in
    let read : Read = record { item = c.in_ok-item.item.0; cases = c.in_ok-value.value } in
    let allowed = c.in_ok-item.ensures.passes.taken.is.allowed in
    rw c.in_ok-push.ensures.items
    record {
      few = let more = length-append c.loop-alloc.reads.items (read ∷ []) in omega arith;
      small = grind (arith, nat_tests);
      reading = entries_go_on (λ (entry : Read). SpellsIn (form_of c.args.form) entry.cases) (λ entry. entry.item) (polyvalue_then (form_of c.args.form)) c.loop-alloc.reads.items read c.args.count c.loop-alloc.least c.args.take.now c.loop-alloc.take
          c.take_item.new.take c.take_formed.new.take some c.loop-alloc.invariant.reading c.in_ok-item.ensures.passes c.in_ok-value.ensures.passes;
      left = gone_further c.args.take.now c.take_item.new.take c.take_formed.new.take
          (gone_further c.args.take.now c.loop-alloc.take c.take_item.new.take c.loop-alloc.invariant.left c.in_ok-item.ensures.left) c.in_ok-value.ensures.left;
    }

pub returns-in_err-item-clause-stops : goal.returns-in_err-item-clause-stops
returns-in_err-item-clause-stops c =
    let p = err_from_is_err_and c.from_residual-in_err-item.result c.from_residual-in_err-item.ensures.1 in
    let some : length c.loop-alloc.reads.items < c.args.count = omega arith in
    rw (p.1, p.2)
    (entries_stop_at_item (λ (entry : Read). SpellsIn (form_of c.args.form) entry.cases) (λ entry. entry.item) (polyvalue_then (form_of c.args.form)) c.loop-alloc.reads.items c.args.count c.loop-alloc.least c.args.take.now c.loop-alloc.take
    (fault_of c.in_err-item.field-0.0) some c.loop-alloc.invariant.reading c.in_err-item.ensures.stops)

pub returns-in_err-value-clause-stops : goal.returns-in_err-value-clause-stops
returns-in_err-value-clause-stops c =
    let p = err_from_is_err_and c.from_residual-in_err-value.result c.from_residual-in_err-value.ensures.1 in
    let some : length c.loop-alloc.reads.items < c.args.count = omega arith in
    rw (p.1, p.2)
    (entries_stop (λ (entry : Read). SpellsIn (form_of c.args.form) entry.cases) (λ entry. entry.item) (polyvalue_then (form_of c.args.form)) c.loop-alloc.reads.items c.in_ok-item.item.0 c.args.count c.loop-alloc.least c.args.take.now c.loop-alloc.take
    c.take_item.new.take (fault_of c.in_err-value.field-0.0) some c.loop-alloc.invariant.reading c.in_ok-item.ensures.passes c.in_err-value.ensures.stops)

pub returns-clause-passes : goal.returns-clause-passes
returns-clause-passes c =
    entries_end (λ (entry : Read). SpellsIn (form_of c.args.form) entry.cases) (λ entry. entry.item) (polyvalue_then (form_of c.args.form)) c.loop-alloc.reads.items c.args.count c.loop-alloc.least c.args.take.now c.loop-alloc.take (omega arith) c.loop-alloc.invariant.reading

pub returns-in_err-item-clause-left : goal.returns-in_err-item-clause-left
returns-in_err-item-clause-left c = gone_further c.args.take.now c.loop-alloc.take c.take_item.new.take c.loop-alloc.invariant.left c.in_err-item.ensures.left

pub returns-in_err-value-clause-left : goal.returns-in_err-value-clause-left
returns-in_err-value-clause-left c =
    gone_further c.args.take.now c.take_item.new.take c.take_formed.new.take
    (gone_further c.args.take.now c.loop-alloc.take c.take_item.new.take c.loop-alloc.invariant.left c.in_ok-item.ensures.left) c.in_err-value.ensures.left

pub returns-in_err-push-clause-left : goal.returns-in_err-push-clause-left
returns-in_err-push-clause-left c =
    gone_further c.args.take.now c.take_item.new.take c.take_formed.new.take
    (gone_further c.args.take.now c.loop-alloc.take c.take_item.new.take c.loop-alloc.invariant.left c.in_ok-item.ensures.left) c.in_ok-value.ensures.left

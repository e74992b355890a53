-- One item after another.
use Rattle.std.proofs.Common.{◌<◌, ◌∷◌, [], length, length-append, arith}
use Rattle.std.proofs.lemmas.Bool.Decides.{nat_tests}
use Rattle.std.proofs.lemmas.Result.{err_from_is_err_and}
use Rattle.pv_format.specs.Layout.{truth_layout}
use Rattle.pv_base.specs.Want.{Want}
use Rattle.pv_format.specs.Spelling.{IsTruth}
use Rattle.pv_replay.specs.Faults.{fault_of}
use Rattle.pv_fields.proofs.ListLemmas.{entries_start, entries_go_on, entries_stop, entries_stop_at_item, entries_end}
use Rattle.pv_wire.proofs.wants.take_counted_wants.Goals as goal

pub loop-take-init : goal.loop-take-init
loop-take-init c =
    rw c.new-wants.ensures.items
    record { few = omega arith; small = omega arith; reading = entries_start (λ (entry : Want). IsTruth entry.exclusive) (λ entry. entry.item) truth_layout c.args.count c.args.take.now }

pub loop-take-preserved : goal.loop-take-preserved
loop-take-preserved c =
    let some : length c.loop-take.wants.items < c.args.count = omega arith in
    let want : Want = record { item = c.in_ok-item.item.0; exclusive = c.in_ok-exclusive.exclusive } in
    let allowed = c.in_ok-item.ensures.passes.taken.is.allowed in
    rw c.in_ok-push.ensures.items
    record {
      few = let more = length-append c.loop-take.wants.items (want ∷ []) in omega arith;
      small = grind (arith, nat_tests);
      reading = entries_go_on (λ (entry : Want). IsTruth entry.exclusive) (λ entry. entry.item) truth_layout c.loop-take.wants.items want c.args.count c.loop-take.least c.args.take.now c.loop-take.take
          c.take_item.new.take c.take_truth.new.take some c.loop-take.invariant.reading c.in_ok-item.ensures.passes c.in_ok-exclusive.ensures.passes;
    }

pub returns-in_err-item-clause-stops : goal.returns-in_err-item-clause-stops
returns-in_err-item-clause-stops c =
    let p = err_from_is_err_and c.from_residual.result c.from_residual.ensures.1 in
    let some : length c.loop-take.wants.items < c.args.count = omega arith in
    rw (p.1, p.2)
    (entries_stop_at_item (λ (entry : Want). IsTruth entry.exclusive) (λ entry. entry.item) truth_layout c.loop-take.wants.items c.args.count c.loop-take.least c.args.take.now c.loop-take.take
    (fault_of c.in_err-item.field-0.0) some c.loop-take.invariant.reading c.in_err-item.ensures.stops)

pub returns-in_err-exclusive-clause-stops : goal.returns-in_err-exclusive-clause-stops
returns-in_err-exclusive-clause-stops c =
    let p = err_from_is_err_and c.from_residual-in_err-exclusive.result c.from_residual-in_err-exclusive.ensures.1 in
    let some : length c.loop-take.wants.items < c.args.count = omega arith in
    rw (p.1, p.2)
    (entries_stop (λ (entry : Want). IsTruth entry.exclusive) (λ entry. entry.item) truth_layout c.loop-take.wants.items c.in_ok-item.item.0 c.args.count c.loop-take.least c.args.take.now c.loop-take.take
    c.take_item.new.take (fault_of c.in_err-exclusive.field-0.0) some c.loop-take.invariant.reading c.in_ok-item.ensures.passes c.in_err-exclusive.ensures.stops)

pub returns-clause-passes : goal.returns-clause-passes
returns-clause-passes c =
    entries_end (λ (entry : Want). IsTruth entry.exclusive) (λ entry. entry.item) truth_layout c.loop-take.wants.items c.args.count c.loop-take.least c.args.take.now c.loop-take.take (omega arith) c.loop-take.invariant.reading

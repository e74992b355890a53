-- One case after another.
use Rattle.std.proofs.Common.{◌<◌, ◌∷◌, [], length, length-append, refl, arith}
use Rattle.std.proofs.lemmas.Result.{err_from_is_err_and}
use Rattle.pv_format.specs.Layout.{case_layout}
use Rattle.pv_format.specs.OldSpelling.{SpellsCase}
use Rattle.pv_replay.specs.Faults.{fault_of}
use Rattle.pv_fields.proofs.ListLemmas.{reading_starts, reading_goes_on, reading_stops, reading_ends}
use Rattle.pv_replay.proofs.LeftLemmas.{gone_further, gone_nowhere}
use Rattle.pv_replay.proofs.cases.take_counted_cases.Goals as goal

pub loop-alloc-init : goal.loop-alloc-init
loop-alloc-init c =
    rw c.in_ok-cases.ensures record {
      few = omega arith;
      reading = reading_starts SpellsCase case_layout c.args.count c.args.take.now;
      left = gone_nowhere c.args.take.now c.args.take.now refl;
    }

pub loop-alloc-preserved : goal.loop-alloc-preserved
loop-alloc-preserved c =
    let some : length c.loop-alloc.cases.items < c.args.count = omega arith in
    rw c.in_ok-push.ensures.items
    record {
      few = let more = length-append c.loop-alloc.cases.items (c.in_ok-take_case.field-0 ∷ []) in omega arith;
      reading = reading_goes_on SpellsCase case_layout c.loop-alloc.cases.items c.in_ok-take_case.field-0 c.args.count c.args.take.now c.loop-alloc.take c.take_case.new.take some
          c.loop-alloc.invariant.reading c.in_ok-take_case.ensures.passes;
      left = gone_further c.args.take.now c.loop-alloc.take c.take_case.new.take c.loop-alloc.invariant.left c.in_ok-take_case.ensures.left;
    }

pub returns-in_err-take_case-clause-stops : goal.returns-in_err-take_case-clause-stops
returns-in_err-take_case-clause-stops c =
    let p = err_from_is_err_and c.from_residual-in_err-take_case.result c.from_residual-in_err-take_case.ensures.1 in
    let some : length c.loop-alloc.cases.items < c.args.count = omega arith in
    rw (p.1, p.2)
    (reading_stops SpellsCase case_layout c.loop-alloc.cases.items c.args.count c.args.take.now c.loop-alloc.take (fault_of c.in_err-take_case.field-0.0) some
    c.loop-alloc.invariant.reading c.in_err-take_case.ensures.stops)

pub returns-clause-counted : goal.returns-clause-counted
returns-clause-counted c = omega arith

pub returns-clause-passes : goal.returns-clause-passes
returns-clause-passes c =
    reading_ends SpellsCase case_layout c.loop-alloc.cases.items c.args.count c.args.take.now c.loop-alloc.take (omega arith) c.loop-alloc.invariant.reading

pub returns-in_err-take_case-clause-left : goal.returns-in_err-take_case-clause-left
returns-in_err-take_case-clause-left c =
    gone_further c.args.take.now c.loop-alloc.take c.take_case.new.take c.loop-alloc.invariant.left c.in_err-take_case.ensures.left

pub returns-in_err-push-clause-left : goal.returns-in_err-push-clause-left
returns-in_err-push-clause-left c =
    gone_further c.args.take.now c.loop-alloc.take c.take_case.new.take c.loop-alloc.invariant.left c.in_ok-take_case.ensures.left

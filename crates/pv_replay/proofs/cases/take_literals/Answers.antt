-- One literal after another.
use Rattle.std.proofs.Common.{◌<◌, ◌∷◌, [], length, length-append, refl, arith}
use Rattle.std.proofs.lemmas.Result.{err_from_is_err_and}
use Rattle.pv_format.specs.Layout.{literal_layout}
use Rattle.pv_format.specs.OldSpelling.{SpellsLiteral}
use Rattle.pv_replay.specs.Faults.{fault_of}
use Rattle.pv_fields.proofs.ListLemmas.{reading_starts, reading_goes_on, reading_stops, reading_ends}
use Rattle.pv_replay.proofs.LeftLemmas.{gone_further, gone_nowhere}
use Rattle.pv_replay.proofs.cases.take_literals.Goals as goal

pub loop-when-init : goal.loop-when-init
loop-when-init c =
    rw c.in_ok-when.ensures record {
      few = omega arith;
      reading = reading_starts SpellsLiteral literal_layout c.args.count c.args.take.now;
      left = gone_nowhere c.args.take.now c.args.take.now refl;
    }

pub loop-when-preserved : goal.loop-when-preserved
loop-when-preserved c =
    let some : length c.loop-when.when.items < c.args.count = omega arith in
    rw c.in_ok-push.ensures.items
    record {
      few = let more = length-append c.loop-when.when.items (c.in_ok-take_literal.field-0 ∷ []) in omega arith;
      reading = reading_goes_on SpellsLiteral literal_layout c.loop-when.when.items c.in_ok-take_literal.field-0 c.args.count c.args.take.now c.loop-when.take c.take_literal.new.take some
          c.loop-when.invariant.reading c.in_ok-take_literal.ensures.passes;
      left = gone_further c.args.take.now c.loop-when.take c.take_literal.new.take c.loop-when.invariant.left c.in_ok-take_literal.ensures.left;
    }

pub returns-in_err-take_literal-clause-stops : goal.returns-in_err-take_literal-clause-stops
returns-in_err-take_literal-clause-stops c =
    let p = err_from_is_err_and c.from_residual-in_err-take_literal.result c.from_residual-in_err-take_literal.ensures.1 in
    let some : length c.loop-when.when.items < c.args.count = omega arith in
    rw (p.1, p.2)
    (reading_stops SpellsLiteral literal_layout c.loop-when.when.items c.args.count c.args.take.now c.loop-when.take (fault_of c.in_err-take_literal.field-0.0) some
    c.loop-when.invariant.reading c.in_err-take_literal.ensures.stops)

pub returns-clause-counted : goal.returns-clause-counted
returns-clause-counted c = omega arith

pub returns-clause-passes : goal.returns-clause-passes
returns-clause-passes c =
    reading_ends SpellsLiteral literal_layout c.loop-when.when.items c.args.count c.args.take.now c.loop-when.take (omega arith) c.loop-when.invariant.reading

pub returns-in_err-take_literal-clause-left : goal.returns-in_err-take_literal-clause-left
returns-in_err-take_literal-clause-left c =
    gone_further c.args.take.now c.loop-when.take c.take_literal.new.take c.loop-when.invariant.left c.in_err-take_literal.ensures.left

pub returns-in_err-push-clause-left : goal.returns-in_err-push-clause-left
returns-in_err-push-clause-left c =
    gone_further c.args.take.now c.loop-when.take c.take_literal.new.take c.loop-when.invariant.left c.in_ok-take_literal.ensures.left

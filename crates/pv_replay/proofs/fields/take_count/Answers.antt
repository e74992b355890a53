-- The number is whole, and then one that is allowed.
use Rattle.std.proofs.Common.{arith}
use Rattle.std.proofs.lemmas.Result.{err_from_is_err_and}
use Rattle.pv_format.specs.Spelling.{is_count_from}
use Rattle.std.proofs.lemmas.Bool.Decides.{nat_tests}
use Rattle.pv_fields.proofs.PartLemmas.{passes_number, stops_number, stops_short}
use Rattle.pv_replay.proofs.fields.take_count.Goals as goal
use Rattle.pv_replay.proofs.fields.take_count.Goals.{then-count-fewest-via-then-count-fewest, then-count-fewest-via-else-count-fewest+then-from-gt-MAX_PROGRAM_ITEMS}

pub returns-in_err-count-clause-stops : goal.returns-in_err-count-clause-stops
returns-in_err-count-clause-stops c =
    let p = err_from_is_err_and c.from_residual.result c.from_residual.ensures.1 in
    rw (p.1, p.2) (λ next. stops_short 1 (is_count_from c.args.fewest) c.args.take.now c.u8.new.self c.in_err-count.field-0.0 c.in_err-count.ensures.short next)

pub returns-then-count-fewest-clause-stops : goal.returns-then-count-fewest-clause-stops
returns-then-count-fewest-clause-stops c = λ next.
    rw c.place-place.ensures.place
    (stops_number 1 c.in_ok-count.count c.args.take.now c.u8.new.self c.in_ok-count.ensures.taken (omega arith) (is_count_from c.args.fewest) (elim c.then-count-fewest.branch [ then-count-fewest-via-then-count-fewest w ↦ grind (arith, nat_tests) | then-count-fewest-via-else-count-fewest+then-from-gt-MAX_PROGRAM_ITEMS w ↦ grind (arith, nat_tests) ]) next)

pub returns-clause-passes : goal.returns-clause-passes
returns-clause-passes c =
    passes_number 1 c.in_ok-count.count c.args.take.now c.u8.new.self c.in_ok-count.ensures.taken (omega arith) (is_count_from c.args.fewest) (grind (arith, nat_tests))

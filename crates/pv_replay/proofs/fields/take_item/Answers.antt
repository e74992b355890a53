-- The number is whole, and then one that is allowed.
use Rattle.std.proofs.Common.{arith}
use Rattle.std.proofs.lemmas.Result.{err_from_is_err_and}
use Rattle.pv_format.specs.Spelling.{is_item_from}
use Rattle.std.proofs.lemmas.Bool.Decides.{nat_tests}
use Rattle.pv_fields.proofs.PartLemmas.{passes_number, stops_number, stops_short}
use Rattle.pv_replay.proofs.fields.take_item.Goals as goal
use Rattle.pv_replay.proofs.fields.take_item.Goals.{then-item-least-via-then-item-least, then-item-least-via-else-item-least+then-item-ge-MAX_ITEMS}

pub returns-in_err-item-clause-stops : goal.returns-in_err-item-clause-stops
returns-in_err-item-clause-stops c =
    let p = err_from_is_err_and c.from_residual.result c.from_residual.ensures.1 in
    rw (p.1, p.2) (λ next. stops_short 4 (is_item_from c.args.least) c.args.take.now c.u32.new.self c.in_err-item.field-0.0 c.in_err-item.ensures.short next)

pub returns-then-item-least-clause-stops : goal.returns-then-item-least-clause-stops
returns-then-item-least-clause-stops c = λ next.
    rw c.place-place.ensures.place
    (stops_number 4 c.in_ok-item.item c.args.take.now c.u32.new.self c.in_ok-item.ensures.taken (omega arith) (is_item_from c.args.least) (elim c.then-item-least.branch [ then-item-least-via-then-item-least w ↦ grind (arith, nat_tests) | then-item-least-via-else-item-least+then-item-ge-MAX_ITEMS w ↦ grind (arith, nat_tests) ]) next)

pub returns-clause-passes : goal.returns-clause-passes
returns-clause-passes c =
    passes_number 4 c.in_ok-item.item c.args.take.now c.u32.new.self c.in_ok-item.ensures.taken (omega arith) (is_item_from c.args.least) (grind (arith, nat_tests))

-- The number is whole, and then one of a site.
use Rattle.std.proofs.Common.{arith}
use Rattle.std.proofs.lemmas.Result.{err_from_is_err_and}
use Rattle.pv_format.specs.Spelling.{IsSite, is_site}
use Rattle.std.proofs.lemmas.Bool.Decides.{nat_tests}
use Rattle.pv_fields.proofs.PartLemmas.{passes_number, passes_part, stops_number, stops_short}
use Rattle.pv_replay.proofs.fields.take_site.Goals as goal

pub returns-in_err-site-clause-stops : goal.returns-in_err-site-clause-stops
returns-in_err-site-clause-stops c =
    let p = err_from_is_err_and c.from_residual.result c.from_residual.ensures.1 in
    rw (p.1, p.2) (λ next. stops_short 1 is_site c.args.take.now c.u8.new.self c.in_err-site.field-0.0 c.in_err-site.ensures.short (λ _. next))

pub returns-then-site-ge-MAX_SITES-clause-stops : goal.returns-then-site-ge-MAX_SITES-clause-stops
returns-then-site-ge-MAX_SITES-clause-stops c = λ next.
    rw c.place-place.ensures.place
    (stops_number 1 c.in_ok-site.site c.args.take.now c.u8.new.self c.in_ok-site.ensures.taken (omega arith) is_site (grind (arith, nat_tests)) (λ _. next))

pub returns-clause-passes : goal.returns-clause-passes
returns-clause-passes c =
    passes_part (IsSite c.in_ok-site.site) 1 is_site c.in_ok-site.site c.args.take.now c.u8.new.self
    (passes_number 1 c.in_ok-site.site c.args.take.now c.u8.new.self c.in_ok-site.ensures.taken (omega arith) is_site (grind (arith, nat_tests)))

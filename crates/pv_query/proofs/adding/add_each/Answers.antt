-- One number after another is added at its place.
use Rattle.std.proofs.Common.{◌+◌, ◌^◌, arith, rules, get_or, sym, subst, SFits, w64, below_more}
use Rattle.std.specs.Prelude.{pos, All}
use Rattle.std.proofs.lemmas.List.Elements.{All-from_get_or}
use Rattle.pv_query.specs.Sums.{IsWithin}
use Rattle.pv_query.proofs.SumLemmas.{added-by-places, All-added, fits-place, added-place, place-done, place-left, IsWithin-narrow}
use Rattle.pv_query.proofs.adding.add_each.Goals as goal

pub overflow_add-sums : goal.overflow_add-sums
overflow_add-sums c =
    let i = c.loop-place.place in
    let narrow : SFits w64 (get_or c.args.numbers.now i (pos 0)) = search rules in
    fits-place (get_or c.loop-place.sums i (pos 0)) (get_or c.args.sums.now i (pos 0)) (get_or c.args.numbers.now i (pos 0)) c.from.result
    narrow c.from.ensures (c.loop-place.invariant.left i (omega arith)) (c.requires.room i (pos 0) (omega arith))

pub loop-place-preserved : goal.loop-place-preserved
loop-place-preserved c =
    let i = c.loop-place.place in
    let narrow : SFits w64 (get_or c.args.numbers.now i (pos 0)) = search rules in
    let is = added-place (get_or c.loop-place.sums i (pos 0)) (get_or c.args.sums.now i (pos 0)) (get_or c.args.numbers.now i (pos 0)) c.from.result
    narrow c.from.ensures (c.loop-place.invariant.left i (omega arith)) (c.requires.room i (pos 0) (omega arith)) in
    record {
      done = place-done c.args.sums.now c.args.numbers.now c.loop-place.sums i _ (omega arith) c.loop-place.invariant.done is;
      narrow = below_more (λ k. SFits w64 (get_or c.args.numbers.now k (pos 0))) i c.loop-place.invariant.narrow narrow;
      left = place-left c.args.sums.now c.loop-place.sums i _ c.loop-place.invariant.left;
    }

pub returns : goal.returns
returns c =
    let is = added-by-places c.args.sums.now c.args.numbers.now c.loop-place.sums (omega arith) (omega arith)
    (λ k within. c.loop-place.invariant.done k (omega arith)) in
    record {
      added = is;
      within = λ bound within.
          subst (All (IsWithin (bound + 2 ^ 63))) (sym is)
          (All-added bound (2 ^ 63) c.args.sums.now c.args.numbers.now within
          (All-from_get_or (IsWithin (2 ^ 63)) c.args.numbers.now (pos 0)
          (λ k h. IsWithin-narrow (get_or c.args.numbers.now k (pos 0)) (c.loop-place.invariant.narrow k (omega arith)))));
    }

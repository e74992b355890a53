-- Place by place, until each assignment had its turn.
use Rattle.std.proofs.Common.{length, arith, ◌∙◌}
use Rattle.std.proofs.lemmas.Nat.{one_shl}
use Rattle.pv_split.proofs.EffectLemmas.{columns-long, runs-at, effects-next, effects-end}
use Rattle.pv_split.proofs.effects.effects_of.Goals as goal

pub rows_in-requires : goal.rows_in-requires
rows_in-requires c =
    columns-long c.args.reads.now c.args.txns.now c.loop-place.place c.deref.result.now
    (omega (arith, c.loop-place-test.true, one_shl (length c.args.txns.now) 64 (omega (arith, c.requires.few)))) (c.deref.ensures.value ∙ c.in_ok-columns.ensures)

pub exec-requires : goal.exec-requires
exec-requires c =
    runs-at c.args.program.now c.args.reads.now c.args.txns.now c.loop-place.place c.deref.result.now c.deref-in-loop-place.result.now
    (omega (arith, c.loop-place-test.true, one_shl (length c.args.txns.now) 64 (omega (arith, c.requires.few)))) c.requires.items (c.deref.ensures.value ∙ c.in_ok-columns.ensures)
    (c.deref-in-loop-place.ensures.value ∙ c.in_ok-rows.ensures)

pub loop-place-preserved : goal.loop-place-preserved
loop-place-preserved c =
    effects-next c.args.program.now c.args.reads.now c.args.txns.now c.loop-place.place c.deref.result.now c.deref-in-loop-place.result.now _ c.loop-place.effects.items c.push.new.self.items
    (omega (arith, c.loop-place-test.true, one_shl (length c.args.txns.now) 64 (omega (arith, c.requires.few)))) (c.deref.ensures.value ∙ c.in_ok-columns.ensures)
    (c.deref-in-loop-place.ensures.value ∙ c.in_ok-rows.ensures) c.in_ok-exec.ensures c.loop-place.invariant c.in_ok-push.ensures.items

pub returns : goal.returns
returns c =
    effects-end c.args.program.now c.args.reads.now c.args.txns.now c.loop-place.place c.loop-place.effects.items
    (omega (arith, c.loop-place-test.false, one_shl (length c.args.txns.now) 64 (omega (arith, c.requires.few)))) c.loop-place.invariant

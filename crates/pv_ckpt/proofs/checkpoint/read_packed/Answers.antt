use Rattle.std.proofs.Common.{rules, arith, ◌++◌, ◌∙◌, ap, take, drop, List, ℕ}
use Rattle.pv_law_calls.proofs.LookLemmas.{looked_err, looked_ok}
use Rattle.pv_ckpt.proofs.PackLemmas.{packed_all, packed_first, packed_more}
use Rattle.pv_ckpt.proofs.checkpoint.read_packed.Goals as goal

pub loop-place-init : goal.loop-place-init
loop-place-init g c =
    let root = c.args.root in
    let read = c.in_ok-read_onto.ensures in (
      read.effect,
      omega (arith, read.size, c.in_ok-block.ensures.len),
      c.requires.packed,
      λ bytes packed later is held.
          packed_first bytes root c.args.end packed later held c.read_onto.new.block.items
          (read.bytes bytes is ∙ ap (λ (l : List ℕ). l ++ take root.size (drop root.place bytes)) c.in_ok-block.ensures.items),
    )

pub returns-in_err-read_onto-2-clause-effect : goal.returns-in_err-read_onto-2-clause-effect
returns-in_err-read_onto-2-clause-effect g c =
    let M = g.D.Disk.model in
    let before = looked_ok M c.args.disk.now c.loop-place.disk c.framed_at.new.disk c.loop-place.invariant.0 c.in_ok-count.ensures.effect in
    looked_err M c.args.disk.now c.framed_at.new.disk c.read_onto-in-loop-place.new.disk c.in_err-read_onto-2.field-0.0 c.read_onto-in-loop-place.result
    c.from_residual-in_err-read_onto-2.result c.in_err-read_onto-2.was (search rules) before c.read_onto-in-loop-place.ensures.effect

pub loop-place-preserved : goal.loop-place-preserved
loop-place-preserved g c =
    let M = g.D.Disk.model in
    let inv = c.loop-place.invariant in
    let before = looked_ok M c.args.disk.now c.loop-place.disk c.framed_at.new.disk inv.0 c.in_ok-count.ensures.effect in
    let read = c.in_ok-read_onto-2.ensures in (
      looked_ok M c.args.disk.now c.framed_at.new.disk c.read_onto-in-loop-place.new.disk before read.effect,
      omega (arith, read.size, inv.1),
      c.in_ok-count.ensures.ends,
      λ bytes packed later is held.
          packed_more bytes c.args.root c.args.end packed later held c.loop-place.place c.in_ok-count.count c.loop-place.block.items c.read_onto-in-loop-place.new.block.items
          (inv.3 bytes packed later is held) c.loop-place-test.true
          (λ content rest fits here. c.in_ok-count.ensures.count bytes content rest (inv.0.1 ∙ is) fits here)
          (read.bytes bytes (before.1 ∙ is)),
    )

pub returns-clause-block : goal.returns-clause-block
returns-clause-block g c bytes packed later is held =
    packed_all bytes c.args.root c.args.end packed later held c.loop-place.place c.loop-place.block.items (c.loop-place.invariant.3 bytes packed later is held) c.loop-place-test.false

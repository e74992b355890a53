use Rattle.std.proofs.Common.{arith, ◌≡◌, ◌+◌, ◌-◌, ◌++◌, sym, ap, ◌∙◌, take, drop, length-take, length-drop}
use Rattle.pv_base.specs.BigEndian.{big_endian}
use Rattle.pv_bytes.specs.Reading.{Rest}
use Rattle.pv_ckpt.proofs.RootLemmas.{whole_eight}
use Rattle.pv_ckpt.proofs.roots.number_at.Goals as goal

pub returns : goal.returns
returns c =
    let behind = drop c.args.at c.args.bytes.now in
    let eight : c.args.at + 8 - c.args.at ≡ 8 = omega arith in
    let left = c.u64.new.self.left in
    let is : take 8 behind ≡ big_endian 8 c.in-Ok.number ++ left = ap (λ n. take n behind) (sym eight) ∙ ap (λ (r : Rest). r.left) (sym c.new.ensures) ∙ c.in-Ok.ensures.taken.bytes in
    whole_eight (take 8 behind) left c.in-Ok.number is (omega (arith, c.requires, length-take 8 behind, length-drop c.args.at c.args.bytes.now)) (omega arith)

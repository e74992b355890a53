use Rattle.std.proofs.Common.{rules, arith, ◌+◌}
use Rattle.pv_law_checkpoints.proofs.RootLemmas.{IsRoot-le}
use Rattle.pv_ckpt.proofs.PartLemmas.{switches, switches_not}
use Rattle.pv_ckpt.proofs.WritingLemmas.{still_long}
use Rattle.pv_ckpt.proofs.checkpoint.name_and_open.Goals as goal

pub returns-in_err-write_synced-clause-crash : goal.returns-in_err-write_synced-clause-crash
returns-in_err-write_synced-clause-crash g c at place held later given bytes ready other_is fields_are =
    switches_not g.D.Disk.model at place held later given bytes c.args.disk.now ready c.args.other c.args.fields.now other_is fields_are c.write_synced.new.disk c.write_synced.result
    c.from_residual.result (record {}) (search rules) c.write_synced.ensures.effect

pub write_synced-requires-2-clause-within : goal.write_synced-requires-2-clause-within
write_synced-requires-2-clause-within g c held is =
    let low = IsRoot-le c.args.other c.requires.root in
    let before = c.requires.within in
    let long =
    still_long g.D.Disk.model c.args.disk.now c.write_synced.new.disk (c.args.other + 1) c.args.fields.now _ c.in_ok-write_synced.ensures.effect
    (λ was known. (omega (arith, before was known, low), before was known)) held is in
    omega (arith, long, low)

pub returns-clause-crash : goal.returns-clause-crash
returns-clause-crash g c at place held later given bytes ready other_is fields_are =
    switches g.D.Disk.model at place held later given bytes c.args.disk.now ready c.args.other c.args.fields.now other_is fields_are c.write_synced.new.disk tt
    c.in_ok-write_synced.ensures.effect c.write_synced-2.new.disk c.write_synced-2.result c.write_synced-2.ensures.effect

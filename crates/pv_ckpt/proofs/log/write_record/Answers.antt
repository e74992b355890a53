use Rattle.std.proofs.Common.{rules, arith, ◌≡◌, ◌+◌, Some, ap, length}
use Rattle.pv_disk_model.specs.Disk.{overlaid}
use Rattle.pv_disk_model.proofs.OverlayLemmas.{length-overlaid}
use Rattle.pv_law_calls.proofs.LookLemmas.{known_before}
use Rattle.pv_ckpt.proofs.AppendLemmas.{broken_off, finished}
use Rattle.pv_ckpt.proofs.log.write_record.Goals as goal

pub returns-in_err-write_synced-clause-crash : goal.returns-in_err-write_synced-clause-crash
returns-in_err-write_synced-clause-crash g c at packed later content bytes ready =
    broken_off g.D.Disk.model c.args.disk.now c.args.end c.args.frame.now at packed later content bytes ready c.write_synced.new.disk c.write_synced.result c.from_residual.result (record {})
    (search rules) c.write_synced.ensures.effect

pub returns-clause-crash : goal.returns-clause-crash
returns-clause-crash g c at packed later content bytes ready =
    finished g.D.Disk.model c.args.disk.now c.args.end c.args.frame.now at packed later content bytes ready c.write_synced.new.disk tt c.in_ok-write_synced.ensures.effect
    c.write_synced-2.new.disk c.write_synced-2.result c.write_synced-2.ensures.effect

pub write_synced-requires-2-clause-within : goal.write_synced-requires-2-clause-within
write_synced-requires-2-clause-within g c held is =
    let M = g.D.Disk.model in
    let was = known_before (M.content c.args.disk.now) (M.content c.write_synced.new.disk) held c.in_ok-write_synced.ensures.effect.known is in
    let within = c.requires.within was.0 was.1 in
    let staged = overlaid was.0 (c.args.end + 1) c.args.frame.now in
    let now : M.content c.write_synced.new.disk ≡ Some staged = c.in_ok-write_synced.ensures.effect.content was.0 was.1 in
    let same : staged ≡ held = cc in
    omega (arith, ap length same, length-overlaid was.0 (c.args.end + 1) c.args.frame.now within)

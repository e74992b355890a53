use Rattle.std.proofs.Common.{rules, arith, ◌≡◌, ◌+◌, [], ◌∷◌, Some, inr, refl, ◌∙◌, ap, length}
use Rattle.pv_disk_model.specs.Calls.{sync}
use Rattle.pv_disk_model.specs.Disk.{overlaid}
use Rattle.pv_disk_model.proofs.DiskLemmas.{Makes-one}
use Rattle.pv_disk_model.proofs.OverlayLemmas.{length-overlaid}
use Rattle.pv_law_calls.proofs.LookLemmas.{known_before}
use Rattle.pv_journal.proofs.AppendLemmas.{after_write, after_quiet, after_gate_write, now_longer, broken_off, finished}
use Rattle.pv_journal.proofs.log.write_record.Goals as goal

pub returns-in_err-write_at-clause-crash : goal.returns-in_err-write_at-clause-crash
returns-in_err-write_at-clause-crash g c contents content bytes ready =
    let M = g.D.Disk.model in
    let first = after_write M c.args.disk.now c.args.end c.args.frame.now contents content bytes ready c.write_at.new.self c.write_at.ensures.effect.any_moment in
    broken_off M c.args.disk.now c.args.end c.args.frame.now contents content bytes ready c.write_at.new.self c.from_residual.result (record {}) (search rules) first

pub returns-in_err-sync-clause-crash : goal.returns-in_err-sync-clause-crash
returns-in_err-sync-clause-crash g c contents content bytes ready =
    let M = g.D.Disk.model in
    let first = after_write M c.args.disk.now c.args.end c.args.frame.now contents content bytes ready c.write_at.new.self c.write_at.ensures.effect.any_moment in
    let second = after_quiet M c.args.disk.now c.args.end c.args.frame.now contents content bytes ready c.write_at.new.self c.sync.new.self first c.sync.ensures.effect.observes.any_moment in
    broken_off M c.args.disk.now c.args.end c.args.frame.now contents content bytes ready c.sync.new.self c.from_residual-in_err-sync.result (record {}) (search rules) second

pub write_at-requires-2-clause-within : goal.write_at-requires-2-clause-within
write_at-requires-2-clause-within g c held is =
    let M = g.D.Disk.model in
    let was = known_before (M.content c.args.disk.now) (M.content c.sync.new.self) held (c.in_ok-sync.ensures.effect.observes.known ∙ c.in_ok-write_at.ensures.effect.known) is in
    let within = c.requires.within was.0 was.1 in
    let staged = overlaid was.0 (c.args.end + 1) c.args.frame.now in
    let now : M.content c.sync.new.self ≡ Some staged = c.in_ok-sync.ensures.effect.observes.content ∙ c.in_ok-write_at.ensures.effect.content was.0 was.1 in
    let same : staged ≡ held = cc in
    omega (arith, ap length same, length-overlaid was.0 (c.args.end + 1) c.args.frame.now within)

pub returns-in_err-write_at-2-clause-crash : goal.returns-in_err-write_at-2-clause-crash
returns-in_err-write_at-2-clause-crash g c contents content bytes ready =
    let M = g.D.Disk.model in
    let first = after_write M c.args.disk.now c.args.end c.args.frame.now contents content bytes ready c.write_at.new.self c.write_at.ensures.effect.any_moment in
    let second = after_quiet M c.args.disk.now c.args.end c.args.frame.now contents content bytes ready c.write_at.new.self c.sync.new.self first c.sync.ensures.effect.observes.any_moment in
    let staged = overlaid bytes (c.args.end + 1) c.args.frame.now in
    let written = c.in_ok-write_at.ensures.effect.content bytes ready.known in
    let known : M.content c.sync.new.self ≡ Some staged = c.in_ok-sync.ensures.effect.observes.content ∙ written in
    let only = c.in_ok-sync.ensures.effect.durable staged written in
    let third = after_gate_write M c.args.disk.now c.args.end c.args.frame.now contents content bytes ready c.sync.new.self second known only c.write_at-2.new.self c.write_at-2.ensures.effect.any_moment in
    broken_off M c.args.disk.now c.args.end c.args.frame.now contents content bytes ready c.write_at-2.new.self c.from_residual-in_err-write_at-2.result (record {}) (search rules) third

pub returns-clause-crash : goal.returns-clause-crash
returns-clause-crash g c contents content bytes ready =
    let M = g.D.Disk.model in
    let first = after_write M c.args.disk.now c.args.end c.args.frame.now contents content bytes ready c.write_at.new.self c.write_at.ensures.effect.any_moment in
    let second = after_quiet M c.args.disk.now c.args.end c.args.frame.now contents content bytes ready c.write_at.new.self c.sync.new.self first c.sync.ensures.effect.observes.any_moment in
    let staged = overlaid bytes (c.args.end + 1) c.args.frame.now in
    let written = c.in_ok-write_at.ensures.effect.content bytes ready.known in
    let known : M.content c.sync.new.self ≡ Some staged = c.in_ok-sync.ensures.effect.observes.content ∙ written in
    let only = c.in_ok-sync.ensures.effect.durable staged written in
    let third = after_gate_write M c.args.disk.now c.args.end c.args.frame.now contents content bytes ready c.sync.new.self second known only c.write_at-2.new.self c.write_at-2.ensures.effect.any_moment in
    let made = overlaid staged c.args.end (1 ∷ []) in
    let opened = c.in_ok-write_at-2.ensures.effect.content staged known in
    finished M c.args.disk.now c.args.end c.args.frame.now contents content bytes ready c.write_at-2.new.self c.sync-2.new.self made c.sync-2.result third opened
    (now_longer M c.args.disk.now c.args.end c.args.frame.now contents content bytes ready c.sync.new.self second known only made refl) c.sync-2.ensures.effect

pub returns-clause-calls : goal.returns-clause-calls
returns-clause-calls g c =
    inr (
      c.write_at.new.self,
      c.in_ok-write_at.ensures.goes,
      inr (
        c.sync.new.self,
        c.in_ok-sync.ensures.goes,
        inr (
          c.write_at-2.new.self,
          c.in_ok-write_at-2.ensures.goes,
          Makes-one g.D.Disk.model.goes c.write_at-2.new.self sync _ c.sync-2.new.self c.sync-2.ensures.goes,
        ),
      ),
    )

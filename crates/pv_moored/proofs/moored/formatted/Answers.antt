use Rattle.std.proofs.Common.{ap}
use Rattle.pv_disk.specs.MemDisk.{ArmsState}
use Rattle.pv_moored.proofs.moored.formatted.Goals as goal

pub returns-in-Ok : goal.returns-in-Ok
returns-in-Ok c =
    c.formatted_logs.ensures c.new-disk.result c.format.new.disk c.new-disk.ensures.content c.new-disk.ensures.now
    (ap (λ (arms : ArmsState). arms.armed) c.new-disk.ensures.arms) (ap (λ (arms : ArmsState). arms.fired) c.new-disk.ensures.arms)
    (ap (λ (arms : ArmsState). arms.fail_read) c.new-disk.ensures.arms) c.in-Ok.field-0 c.in-Ok.ensures

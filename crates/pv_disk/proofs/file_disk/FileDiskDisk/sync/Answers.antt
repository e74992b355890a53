use Rattle.std.proofs.Common.{ap}
use Rattle.pv_disk.specs.Folder.{FileState}
use Rattle.pv_disk.proofs.FileLemmas.{sync_failed}
use Rattle.pv_disk.proofs.file_disk.FileDiskDisk.sync.Goals as goal

pub returns-in-Err-clause-effect : goal.returns-in-Err-clause-effect
returns-in-Err-clause-effect c = sync_failed c.args.self.now c.fault.new.self c.fault.ensures.rises (ap (λ (disk : FileState). disk.faults) c.fault.ensures.counted) c.fault.result

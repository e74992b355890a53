use Rattle.std.proofs.Common.{ap}
use Rattle.pv_disk.specs.Folder.{FileState}
use Rattle.pv_disk.proofs.FileLemmas.{write_done, write_failed}
use Rattle.pv_disk.proofs.file_disk.FileDiskDisk.write_at.Goals as goal

pub returns-in-Ok-clause-effect : goal.returns-in-Ok-clause-effect
returns-in-Ok-clause-effect c = write_done c.args.self.now c.args.place c.args.bytes.now tt

pub returns-in-Err-clause-effect : goal.returns-in-Err-clause-effect
returns-in-Err-clause-effect c = write_failed c.args.self.now c.fault.new.self c.fault.ensures.rises (ap (λ (disk : FileState). disk.faults) c.fault.ensures.counted) c.fault.result c.args.place c.args.bytes.now

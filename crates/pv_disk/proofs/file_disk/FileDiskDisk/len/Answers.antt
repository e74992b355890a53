use Rattle.std.proofs.Common.{ap}
use Rattle.pv_disk.specs.Folder.{FileState}
use Rattle.pv_disk.proofs.FileLemmas.{read_failed}
use Rattle.pv_disk.proofs.file_disk.FileDiskDisk.len.Goals as goal

pub returns-in_default-clause-effect : goal.returns-in_default-clause-effect
returns-in_default-clause-effect c = read_failed c.args.self.now c.fault.new.self c.fault.ensures.rises (ap (λ (disk : FileState). disk.faults) c.fault.ensures.counted) c.fault.result

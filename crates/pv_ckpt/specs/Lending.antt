-- How a log lends its disk.
use Rattle.pv_ckpt.specs.declared.ckpt_log.CkptLog.{CkptLog}

-- The log with this disk in place of its own.
abbrev pub with_disk : {D : Type 0} → CkptLog D → D → CkptLog D
with_disk log lent = record log { disk = lent }

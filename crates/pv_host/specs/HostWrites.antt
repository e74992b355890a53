-- How the host is told what to write, and how a log is opened on its file.
use Rattle.std.specs.Prelude.{◌≡◌, ℕ, [], List, false}
use Rattle.pv_format.specs.Journal.{IsJournal}
use Rattle.pv_host.specs.HostLog as model
use Rattle.pv_host.specs.HostLog.{HostState}
use Rattle.pv_host.specs.declared.host_write.HostWrite.{HostWrite}

-- The write as plain data.
abbrev pub write_of : HostWrite → model.HostWrite
write_of write = record { place = write.place; bytes = write.bytes.now }

-- The log has just been opened on a file with these bytes, and may become so long.
pub record IsOpenedOn (file : List ℕ) (limit : ℕ) (log : HostState) : Type 0 where
  pub journal : IsJournal log.stored file
  pub asked : log.asked ≡ []
  pub pending : log.pending ≡ []
  pub behind_gate : log.behind_gate ≡ false
  pub limit_is : log.limit ≡ limit
  pub up : log.is_down ≡ false
  pub unread : log.is_read ≡ false

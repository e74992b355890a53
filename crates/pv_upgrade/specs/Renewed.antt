-- What the contents are that have their old spellings replaced, as the code holds them.
use Rattle.std.specs.Prelude.{◌≡◌, ◌≤◌}
use Rattle.pv_disk_model.specs.Size.{Contents, size_of}
use Rattle.pv_replay.specs.Values.{contents_of}
use Rattle.pv_upgrade.specs.Renewing.{AreRenewed}
use Rattle.pv_upgrade.specs.declared.contents.Renewed.{Renewed}

-- They are these contents with their old spellings replaced, and their count and length are told.
pub record IsRenewed (done : Contents) (renewed : Renewed) : Type 0 where
  pub replaced : AreRenewed done (contents_of renewed.contents.items) renewed.count
  pub length_is : renewed.length ≡ size_of (contents_of renewed.contents.items)
  pub few : renewed.count ≤ renewed.length

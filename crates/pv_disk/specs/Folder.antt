-- What is said of a disk on a file and of a bay on a folder: their counts and what reads gave, and no content.
use Rattle.std.specs.Prelude.{◌≡◌, ℕ, ◌-◌, ◌^◌, false, if◌then◌else◌, List, [], Option, None, Some, ◌++◌, slice_get, codes, ⊤}
use Rattle.std.proofs.Common.{refl}
use Rattle.std.specs.Fmt.{decimal}
use Rattle.pv_base.specs.Fault.{risen}
use Rattle.pv_disk_model.specs.DiskModel.{DiskModel}
use Rattle.pv_disk.specs.BayModel.{BayModel, Berth}
use Rattle.pv_disk.specs.declared.folder_bay.FolderBerth.{FolderBerth}

-- A disk on a file: how many calls have failed, and what its reads have given, one after another.
pub record FileState : Type 0 where
  pub faults : ℕ
  pub given : List ℕ

-- Each call that fails counts one. What the disk holds and what a crash leaves isn't known. A write wants no memory, so there is always room.
abbrev pub file_disk : DiskModel FileState
file_disk = record {
  content = λ disk. None;
  given = λ disk. Some disk.given;
  is_kept = λ disk unknown. refl;
  may_leave = λ disk left. ⊤;
  moment = λ disk. 0;
  left_since = λ disk since left. ⊤;
  faults = λ disk. disk.faults;
  room = λ disk. 2 ^ 64 - 1;
  writes = λ disk. 2 ^ 32 - 1;
  goes = λ old call ok new. new.faults ≡ (if ok then old.faults else risen old.faults);
  counts_now = λ disk t left le now. tt;
  only_now = λ disk left since. tt;
  is_left = λ disk bytes is. tt;
}

-- The name of the file of a site.
abbrev pub file_name : ℕ → List ℕ
file_name site = codes "site-" ++ (decimal site ++ codes ".pv")

-- A bay on a folder: its sites, from site 0 on, and how often it failed to hand out a disk.
pub record FolderState : Type 0 where
  pub berths : List FolderBerth
  pub faults : ℕ

-- What the bay says of a site. It keeps no disk.
abbrev pub folder_berth_of : Option FolderBerth → Berth
folder_berth_of None = record { is_out = false; faults = 0; holds = []; kept = None }
folder_berth_of (Some berth) = record { is_out = berth.is_out; faults = berth.faults; holds = []; kept = None }

abbrev pub folder_bay : BayModel FolderState
folder_bay = record {
  tells = λ bay. false;
  faults = λ bay. bay.faults;
  berth = λ bay site. folder_berth_of (slice_get bay.berths site);
}

-- What a bay in memory is.
use Rattle.std.specs.Prelude.{ℕ, ◌==◌, Bool, true, false, if◌then◌else◌, List, [], Option, Some, None, slice_get}
use Rattle.pv_base.specs.Fault.{risen}
use Rattle.pv_disk.specs.BayModel.{BayModel, Berth}
use Rattle.pv_disk.specs.MemDisk.{MemState}

-- A site that has a disk: whether the disk is out, how many disks were handed back of which a call had failed, and the disk as it was
-- handed back last, with a count of 0. Before that it is the first one.
pub record MemBerth : Type 0 where
  pub is_out : Bool
  pub faults : ℕ
  pub last : MemState

-- A bay in memory: the sites that have a disk, from site 0 on; the disk that is kept for each of sixteen sites; and how often a disk was
-- asked for that isn't there.
pub record MemBayState : Type 0 where
  pub berths : List MemBerth
  pub kept : List (Option MemState)
  pub faults : ℕ

-- A site with its first disk.
abbrev pub first_berth : MemState → MemBerth
first_berth disk = record { is_out = false; faults = 0; last = disk }

-- After this disk was handed back.
abbrev pub handed_back : MemBerth → MemState → MemBerth
handed_back berth disk = record {
  is_out = false;
  faults = if disk.faults == 0 then berth.faults else risen berth.faults;
  last = record disk { faults = 0 };
}

-- What a disk reads that is kept, if one is. For a site past the sixteen none is.
abbrev pub kept_bytes : Option (Option MemState) → Option (List ℕ)
kept_bytes None = None
kept_bytes (Some None) = None
kept_bytes (Some (Some disk)) = Some disk.image.content

-- What the bay says of a site. One past its disks has none that could be out.
abbrev pub berth_of : Option MemBerth → Option (Option MemState) → Berth
berth_of None kept = record { is_out = false; faults = 0; holds = []; kept = kept_bytes kept }
berth_of (Some berth) kept = record { is_out = berth.is_out; faults = berth.faults; holds = berth.last.image.content; kept = kept_bytes kept }

abbrev pub mem_bay : BayModel MemBayState
mem_bay = record {
  tells = λ bay. true;
  faults = λ bay. bay.faults;
  berth = λ bay site. berth_of (slice_get bay.berths site) (slice_get bay.kept site);
}

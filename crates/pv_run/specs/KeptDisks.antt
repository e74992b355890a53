-- What a run makes of the bay that its disks go to.
use Rattle.std.specs.Prelude.{◌≡◌, ℕ, ◌≤◌, true, List, length, slice_get, Some}
use Rattle.pv_disk.specs.BayModel.{BayModel}
use Rattle.pv_model.specs.Events.{Schedule}
use Rattle.pv_protocol.specs.Run.{run, world_after}
use Rattle.pv_protocol.specs.State.{Site}
use Rattle.pv_protocol.specs.World.{World, opening}
use Rattle.pv_site.specs.SiteState.{setup_of}
use Rattle.pv_world.specs.Disks.{IsLogOfSite}

-- the world in which the run of a schedule ends
abbrev pub last_world : Schedule → World
last_world schedule = let setup = setup_of schedule.catalog in world_after (opening setup) (run setup (opening setup) schedule.events)

module _ {W : Type 0} (M : BayModel W) where
  -- Of each of these sites, numbered from 0, the bay keeps one disk, which holds the site's log; what it keeps is known where it
  -- tells its contents. Of other sites it keeps what it kept before, and else it is as it was.
  pub record KeepsSites (old new : W) (sites : List Site) : Type 0 where
    pub kept : M.tells old ≡ true → (n : ℕ) (site : Site) → slice_get sites n ≡ Some site
        → (bytes : List ℕ) × ((M.berth new n).kept ≡ Some bytes) × IsLogOfSite site bytes
    pub others : (n : ℕ) → length sites ≤ n → M.berth new n ≡ M.berth old n
    pub beside : (n : ℕ) → M.berth new n ≡ record (M.berth old n) { kept = (M.berth new n).kept }
    pub faults : M.faults new ≡ M.faults old
    pub tells : M.tells new ≡ M.tells old

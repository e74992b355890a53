-- What holds of each site that is up.
use Rattle.std.specs.Prelude.{◌≡◌, ℕ, Some}
use Rattle.pv_format.specs.Contents.{greatest_epoch}
use Rattle.pv_protocol.specs.Sound.{IsInOrder}
use Rattle.pv_protocol.specs.State.{Running}
use Rattle.pv_protocol.specs.World.{World, site_at}

-- Each site that is up is in the greatest epoch that its records began.
abbrev pub AreEpochsRecorded : World → Type 0
AreEpochsRecorded world = (n : ℕ) (running : Running) → (site_at world n).running ≡ Some running → running.epoch ≡ greatest_epoch (site_at world n).records

-- What each site that is up has in memory stands in the order of transactions, one grant and one entry of each at most.
abbrev pub AreMemoriesInOrder : World → Type 0
AreMemoriesInOrder world = (n : ℕ) (running : Running) → (site_at world n).running ≡ Some running → IsInOrder running

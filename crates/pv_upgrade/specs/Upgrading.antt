-- What is done with the disks of a bay to upgrade them, and what is told of them.
use Rattle.std.specs.Prelude.{◌≡◌, ◌≢◌, ℕ, zero, suc, ◌<◌, ◌≤◌, List, [], ◌++◌, Some, ⊤}
use Rattle.pv_base.specs.Catalog.{Declared}
use Rattle.pv_base.specs.Fault.{Rose}
use Rattle.pv_disk.specs.BayModel.{BayModel}
use Rattle.pv_disk_model.specs.Disk.{Only}
use Rattle.pv_disk_model.specs.DiskModel.{DiskModel}
use Rattle.pv_disk_model.specs.Size.{Contents, size_of}
use Rattle.pv_format.specs.Checkpoint.{greatest_number}
use Rattle.pv_format.specs.Contents.{IsFirstBadContent}
use Rattle.pv_law_checkpoints.specs.Roots.{number_at, IsInForce}
use Rattle.pv_law_checkpoints.specs.TwoAreas.{IsNotOurs, IsTwoAreas}
use Rattle.pv_show.specs.Bays.{UsesDisk, UsesDisks}
use Rattle.pv_upgrade.specs.Keeping.{KeepsRecords, WritesNone}
use Rattle.pv_upgrade.specs.Renewing.{Renews}
use Rattle.pv_upgrade.specs.UpgradeText.{upgrade_text}
use Rattle.pv_upgrade.specs.declared.told.Upgrade.{Upgrade}
use Rattle.pv_upgrade.specs.declared.told.Upgrade.TheVariants.{Upgraded, Full, Spent, NotOurs, BadRecord, Failed}

-- The number of the root in force.
abbrev pub HasNumber : List ℕ → ℕ → Type 0
HasNumber bytes number = (at : ℕ) × IsInForce bytes at × (number_at bytes at ≡ number)

-- The log can be switched to these contents: they are within the limit, and its number can be raised.
abbrev pub CanSwitch : (limit : ℕ) → List ℕ → Contents → Type 0
CanSwitch limit was renewed = (size_of renewed ≤ limit) × ((number : ℕ) × HasNumber was number × (number < greatest_number))

-- What the bytes `was` of a disk are and what they have become, by what is told, where a log may have this length at most.
abbrev pub IsUpgradeOf : (limit : ℕ) (was is : List ℕ) → Upgrade → Type 0
IsUpgradeOf limit was is (Upgraded count) =
    (renewed : Contents) × Renews was renewed count × IsTwoAreas renewed is × (count ≡ 0 → is ≡ was) × (count ≢ 0 → CanSwitch limit was renewed)
IsUpgradeOf limit was is (Full length) =
    (renewed : Contents) × (count : ℕ) × Renews was renewed (suc count) × (length ≡ size_of renewed) × (limit < length) × (is ≡ was)
IsUpgradeOf limit was is Spent =
    (renewed : Contents) × (count : ℕ) × Renews was renewed (suc count) × (size_of renewed ≤ limit) × HasNumber was greatest_number × (is ≡ was)
IsUpgradeOf limit was is (NotOurs place) = IsNotOurs was place × (is ≡ was)
IsUpgradeOf limit was is (BadRecord index) = (contents : Contents) × IsTwoAreas contents was × IsFirstBadContent contents index × (is ≡ was)
IsUpgradeOf limit was is Failed = ⊤

module _ {V : Type 0} (D : DiskModel V) where
  -- Nothing was written, but where old spellings were replaced or the disk failed.
  abbrev pub WritesBy : V → V → Upgrade → Type 0
  WritesBy old new (Upgraded count) = count ≡ 0 → WritesNone D.goes old new
  WritesBy old new Failed = ⊤
  WritesBy old new _ = WritesNone D.goes old new

  -- Where the log is upgraded, each crash from now on leaves it so.
  abbrev pub LastsBy : V → Upgrade → Type 0
  LastsBy new (Upgraded count) = (is : List ℕ) → D.content new ≡ Some is → Only is (D.may_leave new)
  LastsBy new _ = ⊤

  -- The disk counts a failure exactly where one is told.
  abbrev pub CountsBy : V → V → Upgrade → Type 0
  CountsBy old new Failed = Rose (D.faults old) (D.faults new)
  CountsBy old new _ = D.faults new ≡ D.faults old

  -- The log on a disk was to be upgraded, and this came of it.
  pub record Upgrades (limit : ℕ) (old new : V) (told : Upgrade) : Type 0 where
    -- What is told is so, where the disk tells its bytes before and after.
    pub so : (was is : List ℕ) → D.content old ≡ Some was → D.content new ≡ Some is → IsUpgradeOf limit was is told
    pub writes : WritesBy old new told
    pub lasts : LastsBy new told
    pub counts : CountsBy old new told

module _ {B V : Type 0} (M : BayModel B) (D : DiskModel V) where
  -- The disks of such sites were handed out, one after another, and handed back. At each moment a crash leaves the records that were there, or what it might have left at first.
  abbrev pub KeepsDisks : (sites : ℕ) → B → B → Type 0
  KeepsDisks = UsesDisks M D (KeepsRecords D)

  -- The disk of a site was handed out, upgraded, and handed back, and this tells of it. A failure of it is counted by the bay.
  pub record UpgradesSite (limit : ℕ) (old new : B) (site : ℕ) (text : List ℕ) : Type 0 where
    pub taken : V
    pub given : V
    pub disk : UsesDisk M D (KeepsRecords D) old new site taken given
    pub told : Upgrade
    pub upgrades : Upgrades D limit taken given told
    pub says : text ≡ upgrade_text site told
    pub fault : told ≡ Failed → Rose (M.berth old site).faults (M.berth new site).faults

  -- So were the disks of so many sites, from site 0 on, and the text tells of them in their order.
  abbrev pub UpgradesFirst : (limit : ℕ) → ℕ → B → B → List ℕ → Type 0
  UpgradesFirst limit zero old new text = (new ≡ old) × (text ≡ [])
  UpgradesFirst limit (suc site) old new text =
      (mid : B) × (front : List ℕ) × (part : List ℕ) × (text ≡ front ++ part) × UpgradesFirst limit site old mid front × UpgradesSite limit mid new site part

  -- So were those of all sites of the catalog.
  abbrev pub UpgradesAll : Declared → B → B → List ℕ → Type 0
  UpgradesAll catalog old new text = UpgradesFirst catalog.journal catalog.sites old new text

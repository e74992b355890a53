-- How what is done with a disk joins: what settles it, and what is done after that.
use Rattle.std.proofs.Common.{◌≡◌, ◌⊎◌, ⊎_elim, inl, inr, ℕ, Bool, true, Ok, sym, subst, ◌∙◌}
use Rattle.pv_base.specs.Fault.{Rose}
use Rattle.pv_disk_model.proofs.DiskLemmas.{LeavesOnly-none, LeavesOnly-trans, LeavesOnly-weaken}
use Rattle.pv_disk_model.specs.Calls as calls
use Rattle.pv_disk_model.specs.Calls.{DiskCall, IsRead, OnlyReads, len, read, make_room, write, sync}
use Rattle.pv_disk_model.specs.Disk.{LeavesOnly, Syncs}
use Rattle.pv_disk_model.specs.DiskModel.{DiskModel}
use Rattle.pv_law_calls.proofs.LookLemmas.{still_left}
use Rattle.pv_law_calls.specs.Reading.{LooksOn}
use Rattle.pv_upgrade.specs.Finding.{Settles}
use Rattle.pv_upgrade.specs.Keeping.{HoldSameRecords, IsNoWrite, KeepsRecords, WritesNone, none, one_more}
use Rattle.pv_upgrade.specs.Upgrading.{CountsBy, Upgrades, WritesBy}
use Rattle.pv_upgrade.specs.declared.told.Upgrade.{Upgrade}
use Rattle.pv_upgrade.specs.declared.told.Upgrade.TheVariants.{Upgraded, Full, Spent, NotOurs, BadRecord, Failed}

-- A call that reads writes nothing.
read-writes-none : (call : DiskCall) → IsRead call → IsNoWrite call
read-writes-none len is = tt
read-writes-none (read place count) is = tt
read-writes-none (make_room bytes writes) is = absurd is
read-writes-none (write place bytes) is = absurd is
read-writes-none sync is = absurd is

module _ {V : Type 0} (D : DiskModel V) where
  pub WritesNone-trans : (old mid new : V) → WritesNone D.goes old mid → WritesNone D.goes mid new → WritesNone D.goes old new
  WritesNone-trans old mid new first none = first
  WritesNone-trans old mid new first (one_more from call ok _ second is goes) = one_more from call ok new (WritesNone-trans old mid from first second) is goes

  -- Calls that only read write nothing.
  pub reads-write-none : (old new : V) → OnlyReads D.goes old new → WritesNone D.goes old new
  reads-write-none old new calls.none = none
  reads-write-none old new (calls.one_more mid call ok _ reads is goes) = one_more mid call ok new (reads-write-none old mid reads) (read-writes-none call is) goes

  -- Nor does a sync.
  pub sync-writes-none : (old new : V) (ok : Bool) → D.goes old sync ok new → WritesNone D.goes old new
  sync-writes-none old new ok goes = one_more old sync ok new none tt goes

  -- A sync settles a disk, and a look leaves it settled.
  pub settles-by : {X : Type 0} (old mid new : V) (x : X) → Syncs D {X = X} old mid (Ok x) → D.goes old sync true mid → LooksOn D mid new → Settles D old new
  settles-by old mid new x syncs goes looks = record {
    any_moment =
        LeavesOnly-trans D old mid new (D.may_leave old) (D.may_leave mid) (D.may_leave old) syncs.observes.any_moment looks.0.any_moment (λ left may. may)
        (still_left D old mid (D.may_leave old) syncs.observes.any_moment);
    content = looks.1 ∙ syncs.observes.content;
    durable = λ held is left may. syncs.durable held (sym (looks.1 ∙ syncs.observes.content) ∙ is) left (still_left D mid new (D.may_leave mid) looks.0.any_moment left may);
    writes = WritesNone-trans old mid new (sync-writes-none old mid true goes) (reads-write-none mid new looks.0.reads);
    faults = looks.2 ∙ syncs.observes.uncounted;
  }

  -- A disk of which nothing was asked keeps its records.
  pub keeps-none : (disk : V) → KeepsRecords D disk disk
  keeps-none disk was is = LeavesOnly-none D disk _ (λ left may. inl may)

  -- A disk that is left as it was, at each moment, keeps its records.
  pub keeps-alone : (old new : V) → LeavesOnly D old new (D.may_leave old) → KeepsRecords D old new
  keeps-alone old new leaves was is = LeavesOnly-weaken D old new (D.may_leave old) _ leaves (λ left may. inl may)

  -- So does one that was left alone at first.
  pub keeps-after : (old mid new : V) → LeavesOnly D old mid (D.may_leave old) → D.content mid ≡ D.content old → KeepsRecords D mid new → KeepsRecords D old new
  keeps-after old mid new first content keeps was is =
      LeavesOnly-trans D old mid new (D.may_leave old) (λ left. D.may_leave mid left ⊎ HoldSameRecords was left) (λ left. D.may_leave old left ⊎ HoldSameRecords was left)
      first (keeps was (content ∙ is)) (λ left may. inl may)
      (λ left either. ⊎_elim (λ (may : D.may_leave mid left). inl (still_left D old mid (D.may_leave old) first left may)) (λ (same : HoldSameRecords was left). inr same) either)

  module _ (limit : ℕ) where
    writes-after : (old mid new : V) (told : Upgrade) → WritesNone D.goes old mid → WritesBy D mid new told → WritesBy D old new told
    writes-after old mid new (Upgraded count) first writes = λ is. WritesNone-trans old mid new first (writes is)
    writes-after old mid new (Full length) first writes = WritesNone-trans old mid new first writes
    writes-after old mid new Spent first writes = WritesNone-trans old mid new first writes
    writes-after old mid new (NotOurs place) first writes = WritesNone-trans old mid new first writes
    writes-after old mid new (BadRecord index) first writes = WritesNone-trans old mid new first writes
    writes-after old mid new Failed first writes = tt

    counts-after : (old mid new : V) (told : Upgrade) → D.faults mid ≡ D.faults old → CountsBy D mid new told → CountsBy D old new told
    counts-after old mid new (Upgraded count) same counts = counts ∙ same
    counts-after old mid new (Full length) same counts = counts ∙ same
    counts-after old mid new Spent same counts = counts ∙ same
    counts-after old mid new (NotOurs place) same counts = counts ∙ same
    counts-after old mid new (BadRecord index) same counts = counts ∙ same
    counts-after old mid new Failed same counts = subst (λ (n : ℕ). Rose n (D.faults new)) same counts

    -- What comes of a log on a disk that was settled first.
    pub upgrades-after : (old mid new : V) (told : Upgrade) → Settles D old mid → Upgrades D limit mid new told → Upgrades D limit old new told
    upgrades-after old mid new told settles upgrades = record {
      so = λ was is known now. upgrades.so was is (settles.content ∙ known) now;
      writes = writes-after old mid new told settles.writes upgrades.writes;
      lasts = upgrades.lasts;
      counts = counts-after old mid new told settles.faults upgrades.counts;
    }

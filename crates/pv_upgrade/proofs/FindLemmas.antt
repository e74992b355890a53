-- What is found on a disk, and what comes of it.
use Rattle.std.proofs.Common.{◌≡◌, ◌≢◌, ℕ, suc, ◌<◌, true, false, List, Some, Result, Ok, Err, refl, sym, ap, subst, ◌∙◌}
use Rattle.std.specs.Prelude.{IfOk, Vec, is_err, is_ok}
use Rattle.std.specs.declared.alloc.Global.{Global}
use Rattle.pv_base.proofs.Basics.{Some_inj}
use Rattle.pv_base.specs.Fault.{Rose}
use Rattle.pv_base.specs.declared.failure.Failed.{Failed as Fault}
use Rattle.pv_ckpt.specs.Opening.{AnswersOf, Opens}
use Rattle.pv_ckpt.specs.declared.ckpt_log.CkptLog.{CkptLog}
use Rattle.pv_ckpt.specs.declared.open_ckpt.OpenCkpt.TheVariants as unopened
use Rattle.pv_disk.specs.declared.disk_error.LookError.{LookError}
use Rattle.pv_disk.specs.declared.disk_error.LookError.TheVariants as look
use Rattle.pv_disk_model.proofs.DiskLemmas.{LeavesOnly-trans}
use Rattle.pv_disk_model.specs.Calls.{sync}
use Rattle.pv_disk_model.specs.Disk.{Syncs}
use Rattle.pv_disk_model.specs.DiskModel.{DiskModel}
use Rattle.pv_disk_model.specs.Size.{Contents}
use Rattle.pv_format.specs.Contents.{IsFirstBadContent, SpellRecords}
use Rattle.pv_format.specs.Record.{Record}
use Rattle.pv_journal.specs.Opening.{SyncsAndReads}
use Rattle.pv_law_calls.proofs.LookLemmas.{still_left}
use Rattle.pv_law_calls.specs.Reading.{LooksBy}
use Rattle.pv_law_checkpoints.specs.TwoAreas.{IsNotOurs, IsTwoAreas}
use Rattle.pv_replay.specs.Values.{contents_of}
use Rattle.pv_upgrade.proofs.KeepLemmas.{WritesNone-trans, keeps-after, reads-write-none, settles-by, sync-writes-none, upgrades-after}
use Rattle.pv_upgrade.proofs.RenewLemmas.{all-kept, renews}
use Rattle.pv_upgrade.proofs.RewriteLemmas.{one-less}
use Rattle.pv_upgrade.specs.Finding.{Finds, IsFound, IsQuiet, Settles}
use Rattle.pv_upgrade.specs.Keeping.{KeepsRecords, WritesNone}
use Rattle.pv_upgrade.specs.Renewed.{IsRenewed}
use Rattle.pv_upgrade.specs.Renewing.{AreRenewed}
use Rattle.pv_upgrade.specs.Upgrading.{IsUpgradeOf, Upgrades}
use Rattle.pv_upgrade.specs.declared.contents.Renewed.{Renewed}
use Rattle.pv_upgrade.specs.declared.find.Found.TheVariants.{Done, Old}
use Rattle.pv_upgrade.specs.declared.told.Upgrade.{Upgrade}
use Rattle.pv_upgrade.specs.declared.told.Upgrade.TheVariants.{Upgraded, Full, Spent, NotOurs, BadRecord, Failed}

-- What there is to do for contents of a log.
module _ (limit : ℕ) (was : List ℕ) (contents : Contents) (log : IsTwoAreas contents was) where
  pub found-bad : (index : ℕ) → IsFirstBadContent contents index → IsFound limit was (Done (BadRecord index))
  found-bad index bad = (contents, log, bad, refl)

  module _ (records : List Record) (spelled : SpellRecords records contents) (renewed : Renewed) (is : IsRenewed contents renewed) where
    pub found-none : renewed.count ≡ 0 → IsFound limit was (Done (Upgraded 0))
    found-none none =
        let all = subst (λ (n : ℕ). AreRenewed contents (contents_of renewed.contents.items) n) none is.replaced in (
          contents_of renewed.contents.items,
          renews was contents (contents_of renewed.contents.items) 0 records log spelled all,
          subst (λ (c : Contents). IsTwoAreas c was) (sym (all-kept contents (contents_of renewed.contents.items) 0 all refl)) log,
          (λ zero. refl),
          (λ some. absurd (some refl)),
        )

    pub found-full : renewed.count ≢ 0 → limit < renewed.length → IsFound limit was (Done (Full renewed.length))
    found-full some long =
        let less = one-less renewed.count some in (
          contents_of renewed.contents.items,
          less.0,
          renews was contents (contents_of renewed.contents.items) (suc less.0) records log spelled
              (subst (λ (n : ℕ). AreRenewed contents (contents_of renewed.contents.items) n) less.1 is.replaced),
          is.length_is,
          long,
          refl,
        )

    pub found-old : IsFound limit was (Old renewed)
    found-old = renews was contents (contents_of renewed.contents.items) renewed.count records log spelled is.replaced

module _ {V : Type 0} (D : DiskModel V) where
  module _ (old mid : V) (synced : Result (Unit {0}) Fault) (syncs : Syncs D {X = Unit {0}} old mid synced) (goes : D.goes old sync (is_ok synced) mid) where
    by_sync : true ≡ is_err synced → (result : Result (Unit {0}) Fault) → result ≡ synced → Finds D old mid (Err look.Failed)
    by_sync failed (Ok x) is = absurd (let both : true ≡ false = failed ∙ ap is_err (sym is) in cc)
    by_sync failed (Err e) is =
        let said = subst (Syncs D {X = Unit {0}} old mid) (sym is) syncs in (said.observes.any_moment, said.observes.fault.1)

    -- The sync failed.
    pub sync-failed : true ≡ is_err synced → Finds D old mid (Err look.Failed)
    sync-failed failed = by_sync failed synced refl

    done_sync : false ≡ is_err synced → (result : Result (Unit {0}) Fault) → result ≡ synced → Syncs D {X = Unit {0}} old mid (Ok tt) × D.goes old sync true mid
    done_sync fine (Ok tt) is = (subst (Syncs D {X = Unit {0}} old mid) (sym is) syncs, subst (λ (r : Result (Unit {0}) Fault). D.goes old sync (is_ok r) mid) (sym is) goes)
    done_sync fine (Err e) is = absurd (let both : false ≡ true = fine ∙ ap is_err (sym is) in cc)

    -- It succeeded, and then there was a look.
    pub look-finds : false ≡ is_err synced → (new : V) (looked : Result (Vec (Vec ℕ Global) Global) LookError) → LooksBy D mid new looked
        → ((bytes : List ℕ) → D.content mid ≡ Some bytes → AnswersOf bytes looked) → Finds D old new looked
    look-finds fine new (Ok contents) looks answers =
        let done = done_sync fine synced refl in
        (settles-by D old mid new tt done.0 done.1 looks, λ was is. (answers was (done.0.observes.content ∙ is)).given)
    look-finds fine new (Err (look.NotOurs place)) looks answers =
        let done = done_sync fine synced refl in
        (settles-by D old mid new tt done.0 done.1 looks, λ was is. (answers was (done.0.observes.content ∙ is)).refused)
    look-finds fine new (Err look.NoMemory) looks answers =
        let done = done_sync fine synced refl in
        settles-by D old mid new tt done.0 done.1 looks
    look-finds fine new (Err look.Failed) looks answers =
        let done = done_sync fine synced refl in (
          LeavesOnly-trans D old mid new (D.may_leave old) (D.may_leave mid) (D.may_leave old) done.0.observes.any_moment looks.0.any_moment (λ left may. may)
              (still_left D old mid (D.may_leave old) done.0.observes.any_moment),
          subst (λ (n : ℕ). Rose n (D.faults new)) done.0.observes.uncounted looks.1,
        )

  module _ (limit : ℕ) (old new : V) where
    same-bytes : (was is : List ℕ) → D.content new ≡ D.content old → D.content old ≡ Some was → D.content new ≡ Some is → is ≡ was
    same-bytes was is same known now = Some_inj (sym now ∙ same ∙ known)

    -- What there was to tell is what comes of it.
    pub done-upgrades : (told : Upgrade) → Settles D old new → IsQuiet limit (Done told) → ((was : List ℕ) → D.content old ≡ Some was → IsFound limit was (Done told))
        → Upgrades D limit old new told
    done-upgrades (Upgraded count) settles quiet found = record {
      so = λ was is known now. subst (λ (bytes : List ℕ). IsUpgradeOf limit was bytes (Upgraded count)) (sym (same-bytes was is settles.content known now)) (found was known);
      writes = λ none. settles.writes;
      lasts = settles.durable;
      counts = settles.faults;
    }
    done-upgrades (Full length) settles quiet found = record {
      so = λ was is known now. subst (λ (bytes : List ℕ). IsUpgradeOf limit was bytes (Full length)) (sym (same-bytes was is settles.content known now)) (found was known);
      writes = settles.writes;
      lasts = tt;
      counts = settles.faults;
    }
    done-upgrades Spent settles quiet found = record {
      so = λ was is known now. subst (λ (bytes : List ℕ). IsUpgradeOf limit was bytes Spent) (sym (same-bytes was is settles.content known now)) (found was known);
      writes = settles.writes;
      lasts = tt;
      counts = settles.faults;
    }
    done-upgrades (NotOurs place) settles quiet found = record {
      so = λ was is known now. subst (λ (bytes : List ℕ). IsUpgradeOf limit was bytes (NotOurs place)) (sym (same-bytes was is settles.content known now)) (found was known);
      writes = settles.writes;
      lasts = tt;
      counts = settles.faults;
    }
    done-upgrades (BadRecord index) settles quiet found = record {
      so = λ was is known now. subst (λ (bytes : List ℕ). IsUpgradeOf limit was bytes (BadRecord index)) (sym (same-bytes was is settles.content known now)) (found was known);
      writes = settles.writes;
      lasts = tt;
      counts = settles.faults;
    }
    done-upgrades Failed settles quiet found = absurd quiet

    -- The disk holds no log.
    pub none-upgrades : (place : ℕ) → Settles D old new → ((was : List ℕ) → D.content old ≡ Some was → IsNotOurs was place) → Upgrades D limit old new (NotOurs place)
    none-upgrades place settles none = done-upgrades (NotOurs place) settles tt (λ was known. (none was known, refl))

    -- The disk failed.
    pub failed-upgrades : Rose (D.faults old) (D.faults new) → Upgrades D limit old new Failed
    failed-upgrades rose = record { so = λ was is known now. tt; writes = tt; lasts = tt; counts = rose }

    -- Calls that begin with a sync and then only read write nothing.
    read-writes : SyncsAndReads D old new → WritesNone D.goes old new
    read-writes reads = WritesNone-trans D old reads.0 new (sync-writes-none D old reads.0 true reads.1) (reads-write-none D reads.0 new reads.2)

    -- An opening found no log.
    pub unopened-upgrades : (place : ℕ) → Opens D old limit (Err (unopened.NotOurs new place)) → Upgrades D limit old new (NotOurs place)
    unopened-upgrades place opens = record {
      so = λ was is known now. (opens.3 was known, same-bytes was is opens.2 known now);
      writes = read-writes opens.1;
      lasts = tt;
      counts = opens.4;
    }

  -- An opening settles the disk.
  pub open-settles : (old : V) (limit : ℕ) (log : CkptLog V) → Opens D old limit (Ok log) → Settles D old log.disk
  open-settles old limit log opens = record {
    any_moment = opens.0.any_moment;
    content = opens.2;
    durable = opens.3.durable opens.4;
    writes = read-writes limit old log.disk opens.1;
    faults = opens.6;
  }

  -- What comes of a disk that was settled first.
  pub if-upgrades-after : {E : Type 0} (limit : ℕ) (old mid new : V) (result : Result Upgrade E) → Settles D old mid → IfOk result (Upgrades D limit mid new) → IfOk result (Upgrades D limit old new)
  if-upgrades-after limit old mid new (Ok told) settles upgrades = upgrades-after D limit old mid new told settles upgrades
  if-upgrades-after limit old mid new (Err e) settles upgrades = tt

  pub settled-keeps : (old mid new : V) → Settles D old mid → KeepsRecords D mid new → KeepsRecords D old new
  settled-keeps old mid new settles keeps = keeps-after D old mid new settles.any_moment settles.content keeps

-- The disk of a site that is started or was stopped: what it holds is read, and what is added.
use Rattle.std.proofs.Common.{◌≡◌, ℕ, ◌+◌, ◌-◌, ◌<◌, Bool, true, false, List, [], ◌∷◌, ◌++◌, Option, Some, None, refl, sym, subst, arith}
use Rattle.std.specs.Prelude.{◌&&◌, if◌then◌else◌, nat_lt, option_to_list}
use Rattle.std.proofs.lemmas.Bool.Decides.{nat_tests}
use Rattle.std.proofs.lemmas.List.{append-nil}
use Rattle.pv_format.specs.Checkpoint.{Standing}
use Rattle.pv_base.specs.declared.mode.Mode.{Mode}
use Rattle.pv_base.specs.declared.mode.Mode.TheVariants.{Lost, Kept, Torn}
use Rattle.pv_disk.specs.MemDisk.{MemState}
use Rattle.pv_disk.specs.MemLaws.{mem_model}
use Rattle.pv_disk.specs.declared.arms.Arm as disk
use Rattle.pv_format.specs.Contents.{AreWritten}
use Rattle.pv_format.specs.Record.{Record}
use Rattle.pv_format.specs.RecordSpelling.{SpellsRecord}
use Rattle.pv_ckpt.specs.Armed.{Holds}
use Rattle.pv_journal.specs.Armed.{contents_left, opened_in}
use Rattle.pv_ckpt.specs.CkptLog.{contents_now}
use Rattle.pv_ckpt.specs.declared.ckpt_log.CkptLog.{CkptLog}
use Rattle.pv_disk_model.specs.Size.{Contents}
use Rattle.pv_law_format.proofs.ReplayLemmas.{written-more}
use Rattle.pv_law_checkpoints.proofs.ContentsLemmas.{log_contents_of-is}
use Rattle.pv_law_checkpoints.specs.Stages.{Stands}
use Rattle.pv_law_checkpoints.specs.TwoAreas.{IsTwoAreas}
use Rattle.pv_protocol.specs.Arms.{is_kept, record_left}
use Rattle.pv_protocol.specs.State.{Arm}
use Rattle.pv_world.proofs.RestartArms.{later_by}
use Rattle.pv_world.specs.Disks.{Spells, armed_as}

-- A log that stands so is one with these contents.
pub checkpointed : (contents : Contents) (standing : Standing) (bytes : List ℕ) → Stands contents standing bytes → IsTwoAreas contents bytes
checkpointed contents standing bytes stands = record { at = stands.at; packed = stands.packed; later = stands.later; log = stands.log; is = stands.contents_are }

-- The contents of a log are those that its disk holds.
pub holds-contents : (contents : Contents) (standing : Standing) (armed : Option disk.Arm) (fired : Option Bool) (journal : CkptLog MemState) → Holds contents standing armed fired journal.disk
    → contents_now mem_model journal ≡ Some contents
holds-contents contents standing armed fired journal holds =
    log_contents_of-is contents journal.disk.image.content (checkpointed contents standing journal.disk.image.content holds.stands)

-- Contents that are read of the disk spell the records.
pub look-spells : (records : List Record) (standing : Standing) (armed : Option Arm) (fired : Option Bool) (on : MemState) (read : Contents) → Spells records standing armed fired on
    → ((contents : Contents) → IsTwoAreas contents on.image.content → read ≡ contents) → AreWritten records read
look-spells records standing armed fired on read spells is =
    subst (AreWritten records) (sym (is spells.contents (checkpointed spells.contents standing on.image.content spells.holds.stands))) spells.spelled

-- A disk that is mended holds what it held.
pub spells-mended : (records : List Record) (standing : Standing) (armed : Option Arm) (fired : Option Bool) (on : MemState) → Spells records standing armed fired on
    → Spells records standing None None (record on { arms = record on.arms { armed = None; fired = None } })
spells-mended records standing armed fired on spells = record {
  contents = spells.contents;
  spelled = spells.spelled;
  holds = record { stands = spells.holds.stands; settled = spells.holds.settled; armed = refl; fired = refl; reads = spells.holds.reads };
}

-- What an append leaves that fires spells the record more exactly where the definitions say so.
module _ (records : List Record) (contents : Contents) (more : Record) (content : List ℕ) (spelled : AreWritten records contents) (one : SpellsRecord more content) where
  spell-kept : (mode : Mode) → AreWritten (records ++ option_to_list (if is_kept mode then Some more else None)) (opened_in mode contents content)
  spell-kept Kept = written-more records contents more content spelled one
  spell-kept Lost = subst (λ (all : List Record). AreWritten all contents) (sym (append-nil records)) spelled
  spell-kept Torn = subst (λ (all : List Record). AreWritten all contents) (sym (append-nil records)) spelled

  pub spell-opened : (late : Bool) (mode : Mode)
      → AreWritten (records ++ option_to_list (if late && is_kept mode then Some more else None)) (if late then opened_in mode contents content else contents)
  spell-opened true mode = spell-kept mode
  spell-opened false mode = subst (λ (all : List Record). AreWritten all contents) (sym (append-nil records)) spelled

  -- So many syncs come before the append, and what fires in it is nearer by them.
  pub spell-left : (syncs : ℕ) (first : Arm) → syncs < first.call
      → AreWritten (records ++ option_to_list (record_left syncs (Some more) first)) (contents_left contents content (armed_as (later_by syncs first)))
  spell-left syncs first late =
      let same : nat_lt (syncs + 2) first.call ≡ nat_lt 2 (first.call - syncs) = grind (arith, nat_tests, late) in
      subst (λ (b : Bool). AreWritten (records ++ option_to_list (if b && is_kept first.mode then Some more else None)) (contents_left contents content (armed_as (later_by syncs first))))
      (sym same) (spell-opened (nat_lt 2 (first.call - syncs)) first.mode)

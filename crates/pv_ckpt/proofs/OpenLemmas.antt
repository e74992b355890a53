-- The log that was opened, and what a reading answers.
use Rattle.std.proofs.Common.{◌≡◌, ℕ, ◌≤◌, true, false, List, Some, Result, Ok, Err, arith, refl, sym, ◌∙◌, subst}
use Rattle.std.specs.Prelude.{IsErrOf, is_err, is_ok}
use Rattle.pv_base.specs.declared.failure.Failed.{Failed as Fault}
use Rattle.pv_disk_model.specs.Calls.{sync}
use Rattle.pv_disk_model.proofs.DiskLemmas.{LeavesOnly-trans}
use Rattle.pv_base.specs.declared.limits.TheConstants.{MAX_JOURNAL, MAX_LENGTH}
use Rattle.pv_base.proofs.AnswerLemmas.{answered}
use Rattle.pv_disk_model.specs.DiskModel.{DiskModel}
use Rattle.pv_disk_model.specs.Disk.{Only, Syncs}
use Rattle.pv_disk_model.specs.Size.{Contents}
use Rattle.pv_disk.specs.declared.disk_error.LookError.{LookError}
use Rattle.pv_disk.specs.declared.disk_error.LookError.TheVariants.{Failed, NotOurs, NoMemory}
use Rattle.pv_journal.specs.Opening.{Opened, contents_in, place_in}
use Rattle.pv_law_calls.specs.Reading.{LooksBy, LooksOn}
use Rattle.pv_law_calls.proofs.LookLemmas.{still_left}
use Rattle.pv_law_checkpoints.specs.TwoAreas.{IsTwoAreas, IsNotOurs}
use Rattle.pv_law_checkpoints.proofs.Blocks.{block_size, records_size}
use Rattle.pv_law_checkpoints.proofs.CheckpointLemmas.{block_length}
use Rattle.pv_law_checkpoints.proofs.OneAnswer.{one_log}
use Rattle.pv_ckpt.specs.CkptLog.{IsIntact, IsLogOf}
use Rattle.pv_ckpt.specs.Opening.{AnswersOf, AnswersOfReads}
use Rattle.pv_ckpt.specs.Outline.{GaveOutline}
use Rattle.pv_ckpt.specs.Reading.{GaveFound, GaveNone, IsFound}
use Rattle.pv_ckpt.specs.declared.ckpt_log.CkptLog.{CkptLog}
use Rattle.pv_ckpt.specs.declared.reading.Found.{Found}
use Rattle.pv_ckpt.proofs.LogLemmas.{checkpointed}

-- The contents of a log that was found are those of the bytes.
pub found_answer : (bytes : List ℕ) (found : Found) → IsFound bytes found → AnswersOf bytes (Ok found.contents)
found_answer bytes found (packed, later, held, is) =
    let there : IsTwoAreas (contents_in found.contents) bytes = subst (λ (c : Contents). IsTwoAreas c bytes) (sym is) (checkpointed found.root.at packed later bytes held.log) in
    answered (λ contents. IsTwoAreas contents bytes) (IsNotOurs bytes) (one_log bytes) contents_in place_in (Ok found.contents) there tt

pub refused_answer : (bytes : List ℕ) (e : LookError) → ((place : ℕ) → IsErrOf {T = Found} (Err e) (NotOurs place) → IsNotOurs bytes place) → AnswersOf bytes (Err e)
refused_answer bytes Failed none = answered (λ contents. IsTwoAreas contents bytes) (IsNotOurs bytes) (one_log bytes) contents_in place_in (Err Failed) tt tt
refused_answer bytes (NotOurs place) none =
    answered (λ contents. IsTwoAreas contents bytes) (IsNotOurs bytes) (one_log bytes) contents_in place_in (Err (NotOurs place)) tt (none place refl)
refused_answer bytes NoMemory none = answered (λ contents. IsTwoAreas contents bytes) (IsNotOurs bytes) (one_log bytes) contents_in place_in (Err NoMemory) tt tt

module _ {D : Type 0} (M : DiskModel D) (old new : D) where
  pub found_of_reads : (found : Found) → GaveFound M old new found → AnswersOfReads M old new (Ok found.contents)
  found_of_reads found (read, gives, (bytes, read_of, is)) = (read, gives, (bytes, read_of, found_answer bytes found is))

  pub refused_of_reads : (e : LookError) → ((place : ℕ) → IsErrOf {T = Found} (Err e) (NotOurs place) → GaveNone M old new place) → AnswersOfReads M old new (Err e)
  refused_of_reads Failed none = tt
  refused_of_reads (NotOurs place) none =
      let gave = none place refl in
      let bytes = gave.2.0 in (
        gave.0,
        gave.1,
        (
          bytes,
          gave.2.1,
          answered (λ contents. IsTwoAreas contents bytes) (IsNotOurs bytes) (one_log bytes) contents_in place_in (Err (NotOurs place)) tt gave.2.2,
        ),
      )
  refused_of_reads NoMemory none = tt

  -- The error is passed on.
  pub passed_on : (X Y : Type 0) (e : LookError) → LooksBy M {X = X} old new (Err e) → LooksBy M {X = Y} old new (Err e)
  passed_on X Y Failed looks = looks
  passed_on X Y (NotOurs place) looks = looks
  passed_on X Y NoMemory looks = looks

-- The log that was opened is intact.
pub opened_intact : {D : Type 0} (M : DiskModel D) (log : CkptLog D) (old : D) → log.length ≤ MAX_LENGTH → log.limit ≤ MAX_JOURNAL → GaveOutline M old log.disk log.root log.end log.length
    → ((bytes : List ℕ) → M.content log.disk ≡ Some bytes → IsLogOf bytes log) → ((bytes : List ℕ) → M.content log.disk ≡ Some bytes → Only bytes (M.may_leave log.disk)) → IsIntact M log
opened_intact M log old bounded limited (read, gives, (bytes, packed, later, outlined, held, size_is)) known durable =
    let place = held.root_is.place in
    let size = held.root_is.size in
    let block = block_length bytes log.root.at packed held.log.block in
    record {
      starts = omega (arith, size_is, records_size packed later);
      bounded = bounded;
      limited = limited;
      root = held.log.in_force.root;
      behind_roots = omega (arith, place, held.log.block.behind_roots);
      in_range = omega (arith, place, held.log.block.in_range);
      packed = omega (arith, place, size, held.end_is);
      short = omega (arith, place, size, held.end_is, size_is, block, block_size packed, records_size packed later);
      at_rest = λ is_up now at_now. known now at_now;
      durable = λ is_up now at_now. durable now at_now;
    }

-- A sync that succeeded, and calls that only read after it.
module _ {D : Type 0} (M : DiskModel D) (old mid : D) where
  pub sync_done : (result : Result (Unit {0}) Fault) → false ≡ is_err result → Syncs M {X = Unit {0}} old mid result → M.goes old sync (is_ok result) mid
      → Syncs M {X = Unit {0}} old mid (Ok tt) × M.goes old sync true mid
  sync_done (Ok tt) fine syncs goes = (syncs, goes)
  sync_done (Err e) fine syncs goes = absurd (let both : false ≡ true = fine in cc)

  pub opened_after : (new : D) → Syncs M {X = Unit {0}} old mid (Ok tt) → LooksOn M mid new → Opened M old new
  opened_after new syncs looks = record {
    known = looks.0.known ∙ syncs.observes.known;
    any_moment =
        LeavesOnly-trans M old mid new (M.may_leave old) (M.may_leave mid) (M.may_leave old) syncs.observes.any_moment looks.0.any_moment (λ left may. may)
        (still_left M old mid (M.may_leave old) syncs.observes.any_moment);
    faults = omega (arith, syncs.observes.fault.0, looks.0.faults);
  }

  pub durable_after : (new : D) → Syncs M {X = Unit {0}} old mid (Ok tt) → LooksOn M mid new → (bytes : List ℕ) → M.content new ≡ Some bytes → Only bytes (M.may_leave new)
  durable_after new syncs looks bytes now left may =
      syncs.durable bytes (sym (looks.1 ∙ syncs.observes.content) ∙ now) left (still_left M mid new (M.may_leave mid) looks.0.any_moment left may)

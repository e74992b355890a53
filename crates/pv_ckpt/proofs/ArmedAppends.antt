-- What an append to a log in two areas comes to on a disk in memory, where a fault may be armed.
use Rattle.std.proofs.Common.{◌≡◌, inl, inr, ℕ, ◌+◌, ◌^◌, ◌≤◌, ◌<◌, ◌==◌, true, false, if◌then◌else◌, get_or, None, List, [], ◌∷◌, ◌++◌, Option, length, arith, refl, sym, ◌∙◌, ap, subst, append_assoc}
use Rattle.std.specs.Prelude.{Bool, nat_lt}
use Rattle.std.proofs.lemmas.Bool.Decides.{nat_tests}
use Rattle.pv_base.specs.declared.mode.Mode.{Mode}
use Rattle.pv_base.specs.declared.mode.Mode.TheVariants.{Lost, Kept, Torn as TornAll}
use Rattle.pv_disk.specs.MemDisk.{MemGoes, MemState}
use Rattle.pv_disk.specs.MemImage.{left_by, settled_at, written_at}
use Rattle.pv_disk.specs.declared.arms.Arm.{Arm}
use Rattle.pv_disk_model.specs.Calls.{Makes}
use Rattle.pv_disk_model.specs.Disk.{Torn, overlaid}
use Rattle.pv_disk_model.specs.Size.{Contents}
use Rattle.pv_format.specs.Checkpoint.{Standing}
use Rattle.pv_journal.specs.Armed.{contents_left, opened_in}
use Rattle.pv_journal.specs.Journal.{append_calls}
use Rattle.pv_law_calls.proofs.ArmedLemmas.{IsAt}
use Rattle.pv_law_checkpoints.specs.Appending.{AreSameRoots, IsStaged, frame_of}
use Rattle.pv_law_checkpoints.specs.Stages.{Stands, standing_at}
use Rattle.pv_law_checkpoints.specs.TwoAreas.{IsLog, end_at}
use Rattle.pv_law_checkpoints.proofs.AppendLemmas.{behind_gate_kept, closed_log, end_same, frame_staged, gate_opened}
use Rattle.pv_law_checkpoints.proofs.LogLemmas.{end_within}
use Rattle.pv_ckpt.specs.Armed.{AppendsArmed}
use Rattle.pv_ckpt.specs.Writing.{synced_write}
use Rattle.pv_ckpt.proofs.ArmedPairs.{after_calls, comes-broken, comes-whole, from-none, left-torn, pair, torn-gate, waits-first}
use Rattle.pv_ckpt.proofs.ArmedParts.{stands-there}
use Rattle.pv_ckpt.proofs.PartLemmas.{standing_is}

-- Where both roots read the same the log stands the same.
same-standing : (was left : List ℕ) (at : ℕ) → AreSameRoots was left at → standing_at left at ≡ standing_at was at
same-standing was left at same = standing_is left at (standing_at was at) same.own.number (ap (λ g. g == 1) same.other.gate)

module _ (at : ℕ) (packed later : Contents) (bytes : List ℕ) (log : IsLog at packed later bytes) (content : List ℕ) (short : length content < 2 ^ 32) where
  abbrev contents : Contents
  contents = packed ++ later

  abbrev was : Standing
  was = standing_at bytes at

  abbrev end : ℕ
  end = end_at bytes at later

  abbrev frame : List ℕ
  frame = frame_of content

  abbrev staged : List ℕ
  staged = overlaid bytes (end + 1) frame

  abbrev opened : List ℕ
  opened = overlaid staged end (1 ∷ [])

  staged-is : IsStaged at packed later content staged × AreSameRoots bytes staged at
  staged-is = frame_staged at packed later bytes log content staged short refl

  end-there : end ≡ end_at staged at later
  end-there = sym (end_same at packed later bytes log staged staged-is.1)

  -- In the first two calls the gate stays closed, whatever is behind it.
  left-early : (mode : Mode) → Stands contents was (left_by mode (written_at (settled_at bytes) (end + 1) (length frame)) staged)
  left-early mode =
      let left = left_by mode (written_at (settled_at bytes) (end + 1) (length frame)) staged in
      let kept = behind_gate_kept at packed later bytes log (length frame) left (left-torn mode (end + 1) frame bytes (omega (arith, end_within at packed later bytes log))) in
      stands-there at packed later was left kept.0 (same-standing bytes left at kept.1)

  gate-within : end ≤ length staged
  gate-within = omega (arith, end-there, end_within at packed later staged staged-is.0.log)

  -- In the last two calls the gate is closed, open or 165.
  left-late : (mode : Mode) → Stands (opened_in mode contents content) was (left_by mode (written_at (settled_at staged) end 1) opened)
  left-late Lost = left-early Kept
  left-late Kept =
      let now = gate_opened at packed later content staged staged-is.0 opened (ap (λ n. overlaid staged n (1 ∷ [])) end-there) in
      record {
        at = at;
        packed = packed;
        later = later ++ content ∷ [];
        log = now.0;
        contents_are = append_assoc packed later (content ∷ []);
        stands = same-standing staged opened at now.1 ∙ same-standing bytes staged at staged-is.1;
      }
  left-late TornAll =
      let left = left_by TornAll (written_at (settled_at staged) end 1) opened in
      let torn = left-torn TornAll end (1 ∷ []) staged gate-within in
      let kept =
      closed_log at packed later content staged staged-is.0 left (subst (λ n. Torn n 1 staged left) end-there torn)
      (λ is. torn-gate end 1 staged gate-within (ap (λ n. get_or left n 0) end-there ∙ is)) in
      stands-there at packed later was left kept.0 (same-standing staged left at kept.1 ∙ same-standing bytes staged at staged-is.1)

  module _ (armed : Option Arm) (ok : Bool) (new : MemState) where
    abbrev LeftOf : Arm → Contents × Standing
    LeftOf arm = (contents_left contents content arm, was)

    pub append-comes : (old : MemState) → IsAt bytes (settled_at bytes) armed None old → Makes MemGoes old (append_calls end content) ok new
        → AppendsArmed contents was content armed ok new
    append-comes old is makes =
        elim (pair (end + 1) frame bytes (synced_write end (1 ∷ [])) old new ok 0 armed (from-none bytes (settled_at bytes) old armed is) makes) [
          | inl fires ↦
              comes-broken 4 (contents ++ content ∷ [], was) LeftOf ok new 0 armed (written_at (settled_at bytes) (end + 1) (length frame)) staged (omega arith) (waits-first armed) fires
              (λ arm late soon.
              let few : nat_lt 2 arm.left ≡ false = grind (arith, nat_tests, soon) in
              subst (λ (c : Contents). Stands c was (left_by arm.mode (written_at (settled_at bytes) (end + 1) (length frame)) staged))
              (sym (ap (λ b. if b then opened_in arm.mode contents content else contents) few)) (left-early arm.mode))
          | inr (waits, (mid, is_mid, rest)) ↦
              elim (pair end (1 ∷ []) staged [] mid new ok 2 armed is_mid rest) [
                | inl fires ↦
                    comes-broken 4 (contents ++ content ∷ [], was) LeftOf ok new 2 armed (written_at (settled_at staged) end 1) opened (omega arith) waits fires
                    (λ arm late soon.
                    let after : 2 < arm.left = omega (arith, late) in
                    let many : nat_lt 2 arm.left ≡ true = grind (arith, nat_tests, after) in
                    subst (λ (c : Contents). Stands c was (left_by arm.mode (written_at (settled_at staged) end 1) opened))
                    (sym (ap (λ b. if b then opened_in arm.mode contents content else contents) many)) (left-late arm.mode))
                | inr (waited, (last, is_last, (fine, same))) ↦
                    comes-whole 4 (contents ++ content ∷ [], was) LeftOf ok new armed opened (omega arith) waited
                    (subst (IsAt opened (settled_at opened) (after_calls 4 armed) None) (sym same) is_last) fine (left-late Kept)
              ]
        ]

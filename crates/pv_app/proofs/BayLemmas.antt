-- No disk is out of a bay that was only given disks to keep, or of a new one.
use Rattle.std.proofs.Common.{◌≡◌, ◌≢◌, ℕ, zero, suc, false, List, [], ◌∷◌, map, replicate, Option, Some, None, IfOk, Result, Ok, Err, refl, sym, ap, ◌∙◌, subst}
use Rattle.std.specs.List.{slice_get}
use Rattle.pv_disk.specs.BayModel.{BayModel, Berth}
use Rattle.pv_disk.specs.Folder.{folder_berth_of}
use Rattle.pv_disk.specs.MemBay.{MemBayState, MemBerth, berth_of, first_berth, mem_bay}
use Rattle.pv_disk.specs.MemDisk.{MemState}
use Rattle.pv_io.specs.declared.read_end.ReadEnd.{ReadEnd}
use Rattle.pv_protocol.specs.State.{Site}
use Rattle.pv_run.specs.KeptDisks.{KeepsSites}
use Rattle.pv_run.specs.declared.text_end.TextEnd.{TextEnd}
use Rattle.pv_run.specs.declared.text_end.TextEnd.TheVariants as at
use Rattle.pv_show.specs.Bays.{IsAtRest}

module _ {W : Type 0} (M : BayModel W) (old new : W) where
  kept-rest : (sites : List Site) → IsAtRest M old → KeepsSites M old new sites → IsAtRest M new
  kept-rest sites rest keeps site = ap (λ (berth : Berth). berth.is_out) (keeps.beside site) ∙ rest site

  same-rest : IsAtRest M old → new ≡ old → IsAtRest M new
  same-rest rest same = subst (IsAtRest M) (sym same) rest

  -- After a run that gave it disks to keep where it is done, and else left it alone.
  pub rest-after : (ended : Result TextEnd ReadEnd) → IsAtRest M old → (ended ≡ Ok at.Done → (sites : List Site) × KeepsSites M old new sites)
      → (ended ≢ Ok at.Done → new ≡ old) → IsAtRest M new
  rest-after (Ok at.Done) rest keeps alone = let kept = keeps refl in kept-rest kept.0 rest kept.1
  rest-after (Ok at.Malformed) rest keeps alone = same-rest rest (alone (λ is. let wrong : ⊥ = cc in wrong))
  rest-after (Ok at.WriteFault) rest keeps alone = same-rest rest (alone (λ is. let wrong : ⊥ = cc in wrong))
  rest-after (Ok at.NoMemory) rest keeps alone = same-rest rest (alone (λ is. let wrong : ⊥ = cc in wrong))
  rest-after (Ok at.SentLimit) rest keeps alone = same-rest rest (alone (λ is. let wrong : ⊥ = cc in wrong))
  rest-after (Err why) rest keeps alone = same-rest rest (alone (λ is. let wrong : ⊥ = cc in wrong))

-- No site of a new bay on a folder has its disk out.
pub folder-none : (count site : ℕ) → (folder_berth_of (slice_get (replicate count (record { is_out = false; faults = 0 })) site)).is_out ≡ false
folder-none zero site = refl
folder-none (suc count) zero = refl
folder-none (suc count) (suc site) = folder-none count site

-- Nor of a new bay in memory.
pub memory-none : (disks : List MemState) (kept : Option (Option MemState)) (site : ℕ) → (berth_of (slice_get (map first_berth disks) site) kept).is_out ≡ false
memory-none [] kept site = refl
memory-none (disk ∷ disks) kept zero = refl
memory-none (disk ∷ disks) kept (suc site) = memory-none disks kept site

pub memory-rest : {E : Type 0} (r : Result MemBayState E) (disks : List MemState) (kept : List (Option MemState))
    → IfOk r (λ bay. bay ≡ record { berths = map first_berth disks; kept = kept; faults = 0 }) → IfOk r (IsAtRest mem_bay)
memory-rest (Ok bay) disks kept is = λ site. ap (λ (b : MemBayState). (mem_bay.berth b site).is_out) is ∙ memory-none disks (slice_get kept site) site
memory-rest (Err e) disks kept is = tt

-- Whether a disk is out doesn't depend on the one that is kept.
pub out-same : (berth : Option MemBerth) (kept other : Option (Option MemState)) → (berth_of berth kept).is_out ≡ (berth_of berth other).is_out
out-same None kept other = refl
out-same (Some berth) kept other = refl

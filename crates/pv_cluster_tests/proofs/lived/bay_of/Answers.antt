-- No disk of a new bay is out.
use Rattle.std.proofs.Common.{◌≡◌, ℕ, false, Option, Some, None, ap, refl, sym, subst, ◌∙◌}
use Rattle.std.proofs.lemmas.Option.{slice_get-map}
use Rattle.std.specs.Prelude.{option_map, replicate, slice_get}
use Rattle.pv_disk.specs.MemBay.{MemBayState, MemBerth, berth_of, first_berth, mem_bay}
use Rattle.pv_disk.specs.MemDisk.{MemState}
use Rattle.pv_cluster_tests.proofs.lived.bay_of.Goals as goal

is-in : (disk : Option MemState) (kept : Option (Option MemState)) → (berth_of (option_map first_berth disk) kept).is_out ≡ false
is-in None kept = refl
is-in (Some disk) kept = refl

pub returns : goal.returns
returns c = λ (n : ℕ).
    let kept : Option (Option MemState) = slice_get (replicate 16 None) n in
    subst (λ (bay : MemBayState). (mem_bay.berth bay n).is_out ≡ false) (sym c.in_ok-bay.ensures.bay)
    (ap (λ (berth : Option MemBerth). (berth_of berth kept).is_out) (slice_get-map first_berth c.in_ok-disks.disks.items n) ∙ is-in (slice_get c.in_ok-disks.disks.items n) kept)

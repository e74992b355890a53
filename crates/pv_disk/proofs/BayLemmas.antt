-- A bay in memory hands out a disk.
use Rattle.std.proofs.Common.{◌≡◌, ◌≢◌, ◌<◌, ℕ, zero, suc, List, [], ◌∷◌, length, Option, Some, true, false, slice_get, slice_set, refl, sym, ap, subst, ◌∙◌, arith}
use Rattle.std.proofs.lemmas.Option.{slice_get_within}
use Rattle.pv_disk.specs.BayAnswers.{HandsOut}
use Rattle.pv_disk.specs.BayModel.{Berth}
use Rattle.pv_disk.specs.MemBay.{MemBerth, MemBayState, berth_of, mem_bay}
use Rattle.pv_disk.specs.MemDisk.{MemState}
use Rattle.pv_disk.specs.MemLaws.{mem_model}

slice_get-set : {X : Type 0} (xs : List X) (i : ℕ) (y : X) → i < length xs → slice_get (slice_set xs i y) i ≡ Some y
slice_get-set [] i y within = absurd (omega arith)
slice_get-set (x ∷ xs) zero y within = refl
slice_get-set (x ∷ xs) (suc i) y within = slice_get-set xs i y (omega arith)

slice_get-set_other : {X : Type 0} (xs : List X) (i j : ℕ) (y : X) → j ≢ i → slice_get (slice_set xs i y) j ≡ slice_get xs j
slice_get-set_other [] i j y other = refl
slice_get-set_other (x ∷ xs) zero zero y other = absurd (other refl)
slice_get-set_other (x ∷ xs) zero (suc j) y other = refl
slice_get-set_other (x ∷ xs) (suc i) zero y other = refl
slice_get-set_other (x ∷ xs) (suc i) (suc j) y other = slice_get-set_other xs i j y (λ same. other (ap suc same))

-- A site whose disk isn't out has it.
pub is_in : (bay : MemBayState) (site : ℕ) (berth : MemBerth) → slice_get bay.berths site ≡ Some berth → (mem_bay.berth bay site).is_out ≡ false → berth.is_out ≡ false
is_in bay site berth here out = subst (λ (o : Option MemBerth). (berth_of o (slice_get bay.kept site)).is_out ≡ false) here out

pub handed_out : (old new : MemBayState) (site : ℕ) (berth after : MemBerth) (disk : MemState) → slice_get old.berths site ≡ Some berth
    → after ≡ record berth { is_out = true } → new ≡ record old { berths = slice_set old.berths site after } → disk ≡ berth.last → disk.faults ≡ 0
    → HandsOut mem_bay mem_model old new site disk
handed_out old new site berth after disk here out becomes is unfailed =
    let was : mem_bay.berth old site ≡ berth_of (Some berth) (slice_get old.kept site) = ap (λ (o : Option MemBerth). berth_of o (slice_get old.kept site)) here in
    let now : slice_get new.berths site ≡ Some after =
    ap (λ (bay : MemBayState). slice_get bay.berths site) becomes ∙ slice_get-set old.berths site after (slice_get_within old.berths site berth here) in
    let kept : new.kept ≡ old.kept = ap (λ (bay : MemBayState). bay.kept) becomes in
    record {
      unfailed = unfailed;
      holds = λ tells. ap (λ (d : MemState). Some d.image.content) is ∙ ap Some (sym (ap (λ (b : Berth). b.holds) was));
      stays = record {
        others = λ other apart.
            ap (λ (bay : MemBayState). berth_of (slice_get bay.berths other) (slice_get bay.kept other)) becomes
            ∙ ap (λ (o : Option MemBerth). berth_of o (slice_get old.kept other)) (slice_get-set_other old.berths site other after apart);
        faults = ap (λ (bay : MemBayState). bay.faults) becomes;
        tells = refl;
      };
      is = ap (λ (o : Option MemBerth). berth_of o (slice_get new.kept site)) now ∙ ap (λ (k : List (Option MemState)). berth_of (Some after) (slice_get k site)) kept
          ∙ ap (λ (b : MemBerth). berth_of (Some b) (slice_get old.kept site)) out ∙ ap (λ (b : Berth). record b { is_out = true }) (sym was);
    }

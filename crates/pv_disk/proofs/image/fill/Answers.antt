use Rattle.std.proofs.Common.{rules, ◌≡◌, ◌∙◌, sym, ap, length, subst, ◌++◌, ◌∷◌, [], true, false, map}
use Rattle.pv_disk.specs.MemImage.{AllInside}
use Rattle.pv_disk.specs.MemHistory.{range_of, unsynced}
use Rattle.pv_disk.proofs.FillLemmas.{length-fill}
use Rattle.pv_disk.proofs.ImageLemmas.{newest_inside, others_inside, filled_newest, filled_none}
use Rattle.pv_disk.proofs.image.fill.Goals as goal

pub returns-then-write : goal.returns-then-write
returns-then-write c =
    let split : c.loop-write.rest.now ≡ c.in-Some.earlier.now ++ c.in-Some.write.now ∷ [] = search rules in
    let synced : c.in-Some.write.now.synced ≡ true = search rules in
    sym (filled_none c.loop-write.rest.now c.in-Some.earlier.now c.in-Some.write.now split c.loop-write.content synced) ∙ c.loop-write.invariant.1

pub fill_range-requires : goal.fill_range-requires
fill_range-requires c =
    let split : c.loop-write.rest.now ≡ c.in-Some.earlier.now ++ c.in-Some.write.now ∷ [] = search rules in
    let still_open : c.in-Some.write.now.synced ≡ false = search rules in
    newest_inside c.loop-write.rest.now c.in-Some.earlier.now c.in-Some.write.now split (length c.loop-write.content) still_open c.loop-write.invariant.0

pub loop-write-preserved : goal.loop-write-preserved
loop-write-preserved c =
    let split : c.loop-write.rest.now ≡ c.in-Some.earlier.now ++ c.in-Some.write.now ∷ [] = search rules in
    let still_open : c.in-Some.write.now.synced ≡ false = search rules in
    let inside = newest_inside c.loop-write.rest.now c.in-Some.earlier.now c.in-Some.write.now split (length c.loop-write.content) still_open c.loop-write.invariant.0 in
    let others = others_inside c.loop-write.rest.now c.in-Some.earlier.now c.in-Some.write.now split (length c.loop-write.content) still_open c.loop-write.invariant.0 in
    let size : length c.fill_range.new.content ≡ length c.loop-write.content = ap length c.fill_range.ensures ∙ length-fill (range_of c.in-Some.write.now) c.loop-write.content inside in (
      subst (λ n. AllInside (map range_of (unsynced [] c.in-Some.earlier.now)) n) (sym size) others,
      rw c.fill_range.ensures (filled_newest c.loop-write.rest.now c.in-Some.earlier.now c.in-Some.write.now split c.loop-write.content still_open) ∙ c.loop-write.invariant.1,
    )

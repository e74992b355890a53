use Rattle.std.proofs.Common.{rules, arith, ◌≡◌, ◌∙◌, sym, ap, length, ◌++◌, ◌∷◌, [], true, false}
use Rattle.pv_disk.specs.MemHistory.{unsynced, content_before}
use Rattle.pv_disk.proofs.ImageLemmas.{can_take_back, before_newest, none_to_take_back, before_none}
use Rattle.pv_disk.proofs.HistoryLemmas.{made_longer}
use Rattle.pv_disk.proofs.image.take_back.Goals as goal

pub returns-then-write-clause-content : goal.returns-then-write-clause-content
returns-then-write-clause-content c =
    let split : c.loop-write.rest.now ≡ c.in-Some.earlier.now ++ c.in-Some.write.now ∷ [] = search rules in
    let synced : c.in-Some.write.now.synced ≡ true = search rules in
    sym (before_none c.loop-write.rest.now c.in-Some.earlier.now c.in-Some.write.now split c.loop-write.content.items synced) ∙ c.loop-write.invariant.1

pub returns-then-write-clause-kept : goal.returns-then-write-clause-kept
returns-then-write-clause-kept c =
    let split : c.loop-write.rest.now ≡ c.in-Some.earlier.now ++ c.in-Some.write.now ∷ [] = search rules in
    let synced : c.in-Some.write.now.synced ≡ true = search rules in
    none_to_take_back c.loop-write.rest.now c.in-Some.earlier.now c.in-Some.write.now split c.loop-write.kept.items c.loop-write.content.items synced c.loop-write.invariant.0

pub undo-requires-clause-made : goal.undo-requires-clause-made
undo-requires-clause-made c =
    let split : c.loop-write.rest.now ≡ c.in-Some.earlier.now ++ c.in-Some.write.now ∷ [] = search rules in
    let still_open : c.in-Some.write.now.synced ≡ false = search rules in
    (can_take_back c.loop-write.rest.now c.in-Some.earlier.now c.in-Some.write.now split c.loop-write.kept.items c.loop-write.content.items still_open c.loop-write.invariant.0).made

pub undo-requires-clause-enough : goal.undo-requires-clause-enough
undo-requires-clause-enough c =
    let split : c.loop-write.rest.now ≡ c.in-Some.earlier.now ++ c.in-Some.write.now ∷ [] = search rules in
    let still_open : c.in-Some.write.now.synced ≡ false = search rules in
    (can_take_back c.loop-write.rest.now c.in-Some.earlier.now c.in-Some.write.now split c.loop-write.kept.items c.loop-write.content.items still_open c.loop-write.invariant.0).enough

pub undo-requires-clause-over : goal.undo-requires-clause-over
undo-requires-clause-over c =
    let split : c.loop-write.rest.now ≡ c.in-Some.earlier.now ++ c.in-Some.write.now ∷ [] = search rules in
    let still_open : c.in-Some.write.now.synced ≡ false = search rules in
    (can_take_back c.loop-write.rest.now c.in-Some.earlier.now c.in-Some.write.now split c.loop-write.kept.items c.loop-write.content.items still_open c.loop-write.invariant.0).over

pub loop-write-preserved : goal.loop-write-preserved
loop-write-preserved c =
    let split : c.loop-write.rest.now ≡ c.in-Some.earlier.now ++ c.in-Some.write.now ∷ [] = search rules in
    let still_open : c.in-Some.write.now.synced ≡ false = search rules in
    let back = can_take_back c.loop-write.rest.now c.in-Some.earlier.now c.in-Some.write.now split c.loop-write.kept.items c.loop-write.content.items still_open c.loop-write.invariant.0 in
    let before = before_newest c.loop-write.rest.now c.in-Some.earlier.now c.in-Some.write.now split c.loop-write.content.items still_open in
    let longer = made_longer c.in-Some.write.now c.loop-write.content.items back.made in (
      rw (c.undo.ensures.content, c.undo.ensures.kept) back.others,
      ap (content_before (unsynced [] c.in-Some.earlier.now)) c.undo.ensures.content ∙ sym before ∙ c.loop-write.invariant.1,
      omega (arith, longer, ap length c.undo.ensures.content, c.loop-write.invariant.2),
      omega (arith, c.loop-write.invariant.3, c.undo.ensures.capacity),
      omega (arith, c.loop-write.invariant.4, c.undo.ensures.kept_capacity),
    )

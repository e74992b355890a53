-- What one more write makes of the record of writes.
use Rattle.std.proofs.Common.{◌≡◌, ℕ, ◌+◌, ◌-◌, ◌≤◌, true, false, List, [], ◌∷◌, ◌++◌, length, map, take, drop, replicate, get_or, set, arith, refl, sym, ◌∙◌, ap, subst, length-take}
use Rattle.std.proofs.lemmas.List.{map-append, take_more, take_all, set_at}
use Rattle.pv_disk_model.specs.Disk.{overlaid}
use Rattle.pv_disk.specs.MemImage.{Range, AllInside, filled, written_at}
use Rattle.pv_disk.specs.MemHistory.{range_of, content_before, unsynced, moment_of, moments_of, Made, CanUndo, MarksLast}
use Rattle.pv_disk.specs.declared.image.Write.{Write}
use Rattle.pv_disk.proofs.FillLemmas.{filled-push, AllInside-split}
use Rattle.pv_disk.proofs.HistoryLemmas.{unsynced-push, unsynced-mark, moments_of-push, content_before-push, CanUndo-push, CanUndo-pop, CanTakeBack, MarksLast-push}

-- A write of these bytes that begins on this content.
pub record Begins (write : Write) (content bytes : List ℕ) : Type 0 where
  pub still_open : write.synced ≡ false
  pub was : write.before.value.items ≡ content
  pub long : write.length ≡ length content
  pub within : write.place ≤ length content
  pub count : write.count ≡ length bytes

module _ (writes grown : List Write) (write : Write) (content bytes : List ℕ) (begins : Begins write content bytes) (pushed : grown ≡ writes ++ write ∷ []) where
  one_more_open : unsynced [] grown ≡ unsynced [] writes ++ write ∷ []
  one_more_open = ap (unsynced []) pushed ∙ unsynced-push [] writes write begins.still_open

  pub can_undo_more : (kept kept_more after : List ℕ) → CanUndo (unsynced [] writes) kept content → kept_more ≡ kept ++ take (length bytes) (drop write.place content)
      → after ≡ overlaid content write.place bytes → CanUndo (unsynced [] grown) kept_more after
  can_undo_more kept kept_more after can more is =
      let made : Made write after = record {
        long = begins.long ∙ ap length (sym begins.was);
        within = omega (arith, begins.long, begins.within);
        bytes = bytes;
        all = sym begins.count;
        is = is ∙ ap (λ (l : List ℕ). overlaid l write.place bytes) (sym begins.was);
      } in
      rw (one_more_open, more, ← begins.count) (CanUndo-push (unsynced [] writes) write kept content after can begins.was made)

  pub now_more : (after : List ℕ) → moment_of (unsynced [] grown) after ≡ written_at (moment_of (unsynced [] writes) content) write.place (length bytes)
  now_more after =
      let since = unsynced [] writes in
      let synced : content_before (since ++ write ∷ []) after ≡ content_before since content = content_before-push since write after ∙ ap (content_before since) begins.was in
      let ranges : map range_of (since ++ write ∷ []) ≡ map range_of since ++ record { place = write.place; count = length bytes } ∷ [] =
      map-append range_of since (write ∷ []) ∙ ap (λ n. map range_of since ++ record { place = write.place; count = n } ∷ []) begins.count in
      ap (λ (l : List Write). moment_of l after) one_more_open ∙ ap (λ (l : List ℕ). record { synced = l; ranges = map range_of (since ++ write ∷ []) }) synced
      ∙ ap (λ (l : List Range). record { synced = content_before since content; ranges = l }) ranges

  pub past_more : moments_of [] grown ≡ moments_of [] writes ++ moment_of (unsynced [] writes) content ∷ []
  past_more =
      ap (moments_of []) pushed ∙ moments_of-push [] writes write begins.still_open
      ∙ ap (λ (l : List ℕ). moments_of [] writes ++ moment_of (unsynced [] writes) l ∷ []) begins.was

-- The last write is marked where it stands.
pub mark_last_is : (writes : List Write) (d : Write) → 1 ≤ length writes
    → MarksLast writes (set writes (length writes - 1) (record (get_or writes (length writes - 1) d) { synced = true }))
mark_last_is writes d some =
    let n = length writes - 1 in
    let write = get_or writes n d in
    let marked = record write { synced = true } in
    let split : writes ≡ take n writes ++ write ∷ [] =
    sym (take_all (n + 1) writes (omega arith)) ∙ take_more writes n d (omega arith) in
    let size : length (take n writes) ≡ n = omega (arith, length-take n writes) in
    let now : set writes n marked ≡ take n writes ++ marked ∷ [] =
    ap (λ (l : List Write). set l n marked) split ∙ set_at (take n writes) write [] marked n size in
    subst (λ (l : List Write). MarksLast l (set writes n marked)) (sym split)
    (subst (λ (l : List Write). MarksLast (take n writes ++ write ∷ []) l) (sym now) (MarksLast-push (take n writes) write marked refl))

-- The newest write, which isn't synced, is taken back.
module _ (rest earlier : List Write) (write : Write) (split : rest ≡ earlier ++ write ∷ []) where
  newest_open : write.synced ≡ false → unsynced [] rest ≡ unsynced [] earlier ++ write ∷ []
  newest_open still_open = ap (unsynced []) split ∙ unsynced-push [] earlier write still_open

  newest_synced : write.synced ≡ true → unsynced [] rest ≡ []
  newest_synced synced = ap (unsynced []) split ∙ unsynced-mark [] earlier write synced

  pub can_take_back : (kept content : List ℕ) → write.synced ≡ false → CanUndo (unsynced [] rest) kept content → CanTakeBack (unsynced [] earlier) write kept content
  can_take_back kept content still_open can =
      CanUndo-pop (unsynced [] earlier) write kept content (subst (λ (l : List Write). CanUndo l kept content) (newest_open still_open) can)

  pub before_newest : (content : List ℕ) → write.synced ≡ false → content_before (unsynced [] rest) content ≡ content_before (unsynced [] earlier) write.before.value.items
  before_newest content still_open = ap (λ (l : List Write). content_before l content) (newest_open still_open) ∙ content_before-push (unsynced [] earlier) write content

  pub none_to_take_back : (kept content : List ℕ) → write.synced ≡ true → CanUndo (unsynced [] rest) kept content → kept ≡ []
  none_to_take_back kept content synced can = subst (λ (l : List Write). CanUndo l kept content) (newest_synced synced) can

  pub before_none : (content : List ℕ) → write.synced ≡ true → content_before (unsynced [] rest) content ≡ content
  before_none content synced = ap (λ (l : List Write). content_before l content) (newest_synced synced)

  newest_ranges : write.synced ≡ false → map range_of (unsynced [] rest) ≡ map range_of (unsynced [] earlier) ++ range_of write ∷ []
  newest_ranges still_open = ap (map range_of) (newest_open still_open) ∙ map-append range_of (unsynced [] earlier) (write ∷ [])

  pub newest_inside : (size : ℕ) → write.synced ≡ false → AllInside (map range_of (unsynced [] rest)) size → write.place + write.count ≤ size
  newest_inside size still_open inside =
      (AllInside-split (map range_of (unsynced [] earlier)) (range_of write) size (subst (λ (l : List Range). AllInside l size) (newest_ranges still_open) inside)).1

  pub others_inside : (size : ℕ) → write.synced ≡ false → AllInside (map range_of (unsynced [] rest)) size → AllInside (map range_of (unsynced [] earlier)) size
  others_inside size still_open inside =
      (AllInside-split (map range_of (unsynced [] earlier)) (range_of write) size (subst (λ (l : List Range). AllInside l size) (newest_ranges still_open) inside)).0

  pub filled_newest : (content : List ℕ) → write.synced ≡ false
      → filled (map range_of (unsynced [] earlier)) (overlaid content write.place (replicate write.count 165)) ≡ filled (map range_of (unsynced [] rest)) content
  filled_newest content still_open =
      sym (ap (λ (l : List Range). filled l content) (newest_ranges still_open) ∙ filled-push (map range_of (unsynced [] earlier)) (range_of write) content)

  pub filled_none : (content : List ℕ) → write.synced ≡ true → filled (map range_of (unsynced [] rest)) content ≡ content
  filled_none content synced = ap (λ (l : List Write). filled (map range_of l) content) (newest_synced synced)

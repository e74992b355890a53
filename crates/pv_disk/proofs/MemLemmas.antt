-- What a crash at any moment of a memory disk's calls leaves.
use Rattle.std.proofs.Common.{◌≡◌, ◌⊎◌, inl, inr, ⊎_elim, ℕ, ◌+◌, ◌≤◌, List, [], ◌∷◌, ◌++◌, Some, Ok, Err, length, drop, arith, refl, sym, ◌∙◌, ap, subst, length-append}
use Rattle.std.proofs.lemmas.List.{drop_at, drop-append-le, append-nil}
use Rattle.pv_base.specs.declared.mode.Mode.{Mode}
use Rattle.pv_base.specs.declared.mode.Mode.TheVariants.{Lost, Kept, Torn as TornAll}
use Rattle.pv_disk_model.specs.Disk.{overlaid, Torn, Only, LeavesOnly, LeftTorn, Syncs, Writes}
use Rattle.pv_base.specs.Fault.{risen}
use Rattle.pv_base.specs.declared.failure.Failed.{Failed as Fault}
use Rattle.pv_disk.specs.MemImage.{ImageState, Moment, Range, Reaches, MayLeave, MightHaveLeft, AreMade, IsMade, settled_at, written_at, filled, left_by, NotesMoment}
use Rattle.pv_disk.specs.MemDisk.{MemState}
use Rattle.pv_disk.specs.MemLaws.{LeftNow, LeftSince, mem_model}
use Rattle.pv_disk_model.proofs.DiskLemmas.{LeavesOnly-trans}
use Rattle.pv_disk_model.proofs.OverlayLemmas.{Torn-overlaid, Torn-refl, length-overlaid}
use Rattle.pv_disk.proofs.FillLemmas.{AreMade-Reaches, AreMade-inside, Reaches-filled, Reaches-synced, Reaches-push, Torn-filled}

MightHaveLeft-split : (early late : List Moment) (left : List ℕ) → MightHaveLeft (early ++ late) left → MightHaveLeft early left ⊎ MightHaveLeft late left
MightHaveLeft-split [] late left might = inr might
MightHaveLeft-split (moment ∷ more) late left (inl here) = inl (inl here)
MightHaveLeft-split (moment ∷ more) late left (inr there) = ⊎_elim (λ early. inl (inr early)) (λ l. inr l) (MightHaveLeft-split more late left there)

MightHaveLeft-early : (early late : List Moment) (left : List ℕ) → MightHaveLeft early left → MightHaveLeft (early ++ late) left
MightHaveLeft-early [] late left might = absurd might
MightHaveLeft-early (moment ∷ more) late left (inl here) = inl here
MightHaveLeft-early (moment ∷ more) late left (inr there) = inr (MightHaveLeft-early more late left there)

MightHaveLeft-late : (early late : List Moment) (left : List ℕ) → MightHaveLeft late left → MightHaveLeft (early ++ late) left
MightHaveLeft-late [] late left might = might
MightHaveLeft-late (moment ∷ more) late left might = inr (MightHaveLeft-late more late left might)

-- A call that notes these moments, each of which, as the one that it ends with, leaves only what has P, and forgets nothing.
pub notes : (old new : MemState) (P : List ℕ → Type 0) (more : List Moment) → new.image.past ≡ old.image.past ++ more
    → ((left : List ℕ) → LeftNow new.image left → P left) → ((left : List ℕ) → MightHaveLeft more left → P left)
    → ((left : List ℕ) → LeftNow old.image left → LeftNow new.image left ⊎ MightHaveLeft more left) → LeavesOnly mem_model old new P
notes old new P more past now_has more_has kept =
    let from : (t : ℕ) → t ≤ length old.image.past → drop t new.image.past ≡ drop t old.image.past ++ more =
    λ t le. ap (λ (l : List Moment). drop t l) past ∙ drop-append-le t old.image.past more le in
    let split : (t : ℕ) (left : List ℕ) → t ≤ length old.image.past → LeftSince new.image t left → LeftSince old.image t left ⊎ P left =
    λ t left le since. ⊎_elim (λ now. inr (now_has left now))
    (λ might. ⊎_elim (λ early. inl (inr early)) (λ late. inr (more_has left late))
    (MightHaveLeft-split (drop t old.image.past) more left (subst (λ (l : List Moment). MightHaveLeft l left) (from t le) might))) since in
    record {
      later = omega (arith, ap length past, length-append old.image.past more);
      each = λ left since.
          ⊎_elim (λ now. now_has left now)
          (λ might. more_has left (subst (λ (l : List Moment). MightHaveLeft l left)
          (ap (λ (l : List Moment). drop (length old.image.past) l) past ∙ drop_at old.image.past more (length old.image.past) refl) might)) since;
      before = split;
      keeps = λ t left le since.
          ⊎_elim (λ now. ⊎_elim (λ still. inl still)
          (λ noted. inr (subst (λ (l : List Moment). MightHaveLeft l left) (sym (from t le)) (MightHaveLeft-late (drop t old.image.past) more left noted))) (kept left now))
          (λ might. inr (subst (λ (l : List Moment). MightHaveLeft l left) (sym (from t le)) (MightHaveLeft-early (drop t old.image.past) more left might))) since;
    }

-- A call that changes neither the content nor what decides of it.
pub stays : (old new : MemState) → new.image.content ≡ old.image.content → new.image.now ≡ old.image.now → new.image.past ≡ old.image.past
    → LeavesOnly mem_model old new (LeftNow old.image)
stays old new content now past =
    notes old new (LeftNow old.image) [] (past ∙ sym (append-nil old.image.past))
    (λ left is. ⊎_elim (λ same. inl (same ∙ content)) (λ may. inr (subst (λ (m : Moment). MayLeave m left) now may)) is)
    (λ left none. absurd none)
    (λ left is. inl (⊎_elim (λ same. inl (same ∙ sym content)) (λ may. inr (subst (λ (m : Moment). MayLeave m left) (sym now) may)) is))

-- All is synced now, with what was there or what a crash might have left.
pub settles : (old new : MemState) (P : List ℕ → Type 0) → IsMade old.image → NotesMoment old.image new.image → new.image.now ≡ settled_at new.image.content
    → (old.image.now.ranges ≡ [] → new.image.content ≡ old.image.content) → P new.image.content → ((left : List ℕ) → LeftNow old.image left → P left)
    → LeavesOnly mem_model old new P
settles old new P made noted settled same has old_has =
    let now_has : (left : List ℕ) → LeftNow new.image left → P left =
    λ left is. ⊎_elim (λ here. subst P (sym here) has)
    (λ may. let at_rest : left ≡ new.image.content = subst (λ (m : Moment). MayLeave m left) settled may in subst P (sym at_rest) has) is in
    let reached : MayLeave old.image.now old.image.content = AreMade-Reaches old.image.now.ranges old.image.now.synced old.image.content made in
    ⊎_elim
    (λ past. notes old new P (old.image.now ∷ []) past now_has (λ left might. old_has left (⊎_elim (λ may. inr may) (λ none. absurd none) might))
    (λ left is. inr (inl (⊎_elim (λ here. subst (MayLeave old.image.now) (sym here) reached) (λ may. may) is))))
    (λ past. notes old new P [] (past.0 ∙ sym (append-nil old.image.past)) now_has (λ left none. absurd none)
    (λ left is. inl (inl (
    let was : left ≡ old.image.content =
    ⊎_elim (λ here. here)
    (λ may.
    let at_synced : left ≡ old.image.now.synced = subst (λ (l : List Range). Reaches old.image.now.synced l left) past.1 may in
    let content : old.image.content ≡ old.image.now.synced = subst (λ (l : List Range). AreMade old.image.now.synced l old.image.content) past.1 made in
    at_synced ∙ sym content) is in
    was ∙ sym (same past.1)))))
    noted

-- A write that doesn't fire.
pub writes : (old new : MemState) (place : ℕ) (bytes : List ℕ) → IsMade old.image → place ≤ length old.image.content
    → new.image.content ≡ overlaid old.image.content place bytes → new.image.now ≡ written_at old.image.now place (length bytes)
    → new.image.past ≡ old.image.past ++ old.image.now ∷ [] → LeavesOnly mem_model old new (LeftTorn mem_model old place (length bytes))
writes old new place bytes made within content now past =
    let reached : MayLeave old.image.now old.image.content = AreMade-Reaches old.image.now.ranges old.image.now.synced old.image.content made in
    let torn : Torn place (length bytes) old.image.content new.image.content = rw content (Torn-overlaid old.image.content place bytes within) in
    notes old new (LeftTorn mem_model old place (length bytes)) (old.image.now ∷ []) past
    (λ left is. ⊎_elim
    (λ here. (old.image.content, inl refl, subst (Torn place (length bytes) old.image.content) (sym here) torn))
    (λ may.
    let back = Reaches-push old.image.now.ranges (record { place = place; count = length bytes }) old.image.now.synced left (subst (λ (m : Moment). MayLeave m left) now may) in
    (back.0, inr back.1, back.2)) is)
    (λ left might. ⊎_elim (λ may. (left, inr may, Torn-refl place (length bytes) left)) (λ none. absurd none) might)
    (λ left is. inr (inl (⊎_elim (λ here. subst (MayLeave old.image.now) (sym here) reached) (λ may. may) is)))

-- What a sync that fires leaves might have been left before.
pub left_by_sync : (mode : Mode) (image : ImageState) → IsMade image → LeftNow image (left_by mode image.now image.content)
left_by_sync Lost image made = inr (Reaches-synced image.now.ranges image.now.synced)
left_by_sync Kept image made = inl refl
left_by_sync TornAll image made = inr (Reaches-filled image.now.ranges image.now.synced image.content made)

pub left_by_none : (mode : Mode) (image : ImageState) → IsMade image → image.now.ranges ≡ [] → left_by mode image.now image.content ≡ image.content
left_by_none Lost image made none = sym (subst (λ (l : List Range). AreMade image.now.synced l image.content) none made)
left_by_none Kept image made none = refl
left_by_none TornAll image made none = ap (λ (l : List Range). filled l image.content) none

-- What a write that fires leaves is a torn write.
pub left_by_write : (mode : Mode) (old : MemState) (place : ℕ) (bytes : List ℕ) → IsMade old.image → place ≤ length old.image.content
    → LeftTorn mem_model old place (length bytes) (left_by mode (written_at old.image.now place (length bytes)) (overlaid old.image.content place bytes))
left_by_write Lost old place bytes made within =
    (old.image.now.synced, inr (Reaches-synced old.image.now.ranges old.image.now.synced), Torn-refl place (length bytes) old.image.now.synced)
left_by_write Kept old place bytes made within = (old.image.content, inl refl, Torn-overlaid old.image.content place bytes within)
left_by_write TornAll old place bytes made within = (
  filled old.image.now.ranges old.image.content,
  inr (Reaches-filled old.image.now.ranges old.image.now.synced old.image.content made),
  Torn-filled old.image.now.ranges (record { place = place; count = length bytes }) old.image.content (overlaid old.image.content place bytes)
      (AreMade-inside old.image.now.ranges old.image.now.synced old.image.content made) (Torn-overlaid old.image.content place bytes within)
      (omega (arith, length-overlaid old.image.content place bytes within)),
)

-- What is left at rest is the content alone.
only_content : (image : ImageState) → image.now ≡ settled_at image.content → Only image.content (LeftNow image)
only_content image settled left is = ⊎_elim (λ here. here) (λ may. subst (λ (m : Moment). MayLeave m left) settled may) is

module _ {X : Type 0} (old new : MemState) (made : IsMade old.image) (room : old.image.room ≤ new.image.room) (free : old.image.writes ≤ new.image.writes) (noted : NotesMoment old.image new.image) where
  pub sync_done : (x : X) → new.image.content ≡ old.image.content → new.image.now ≡ settled_at old.image.content → new.faults ≡ old.faults → Syncs mem_model {X = X} old new (Ok x)
  sync_done x content now faults =
      let settled : new.image.now ≡ settled_at new.image.content = now ∙ ap settled_at (sym content) in
      record {
        observes = record {
          content = ap Some content;
          known = refl;
          any_moment = settles old new (LeftNow old.image) made noted settled (λ none. content) (inl content) (λ left is. is);
          room = room;
          writes = free;
          fault = (omega (arith, faults), tt);
          uncounted = faults;
        };
        durable = λ held is left may.
            let same : old.image.content ≡ held = cc in
            only_content new.image settled left may ∙ content ∙ same;
      }

  pub sync_fired : (mode : Mode) (e : Fault) → new.image.content ≡ left_by mode old.image.now old.image.content → new.image.now ≡ settled_at new.image.content
      → old.faults ≤ new.faults → new.faults ≡ risen old.faults → Syncs mem_model {X = X} old new (Err e)
  sync_fired mode e content settled rises counted =
      record {
        observes = record {
          content = tt;
          known = refl;
          any_moment = settles old new (LeftNow old.image) made noted settled (λ none. content ∙ left_by_none mode old.image made none)
              (subst (LeftNow old.image) (sym content) (left_by_sync mode old.image made)) (λ left is. is);
          room = room;
          writes = free;
          fault = (rises, omega (arith, counted));
          uncounted = tt;
        };
        durable = tt;
      }

module _ {X : Type 0} (old new : MemState) (place : ℕ) (bytes : List ℕ) (made : IsMade old.image) (within : place ≤ length old.image.content)
    (room : old.image.room ≤ new.image.room + length bytes) (free : old.image.writes ≤ new.image.writes + 1) where
  pub write_done : (x : X) → new.image.content ≡ overlaid old.image.content place bytes → new.image.now ≡ written_at old.image.now place (length bytes)
      → new.image.past ≡ old.image.past ++ old.image.now ∷ [] → new.faults ≡ old.faults → Writes mem_model {X = X} old new place bytes (Ok x)
  write_done x content now past faults = record {
    content = λ was is. let same : old.image.content ≡ was = cc in ap Some content ∙ ap (λ (l : List ℕ). Some (overlaid l place bytes)) same;
    known = refl;
    any_moment = writes old new place bytes made within content now past;
    room = room;
    writes = free;
    fault = (omega (arith, faults), tt);
    uncounted = faults;
  }

  -- The write was made, and then the crash of the mode.
  pub write_fired : (mid : MemState) (mode : Mode) (e : Fault) → mid.image.content ≡ overlaid old.image.content place bytes
      → mid.image.now ≡ written_at old.image.now place (length bytes) → mid.image.past ≡ old.image.past ++ old.image.now ∷ [] → IsMade mid.image → NotesMoment mid.image new.image
      → new.image.content ≡ left_by mode mid.image.now mid.image.content → new.image.now ≡ settled_at new.image.content → old.faults ≤ new.faults → new.faults ≡ risen old.faults
      → Writes mem_model {X = X} old new place bytes (Err e)
  write_fired mid mode e content now past mid_made noted crashed settled rises counted =
      let P = LeftTorn mem_model old place (length bytes) in
      let first = writes old mid place bytes made within content now past in
      let fires : P new.image.content =
      subst P (sym (crashed ∙ ap (λ (m : Moment). left_by mode m mid.image.content) now ∙ ap (left_by mode (written_at old.image.now place (length bytes))) content))
      (left_by_write mode old place bytes made within) in
      let second : LeavesOnly mem_model mid new P =
      settles mid new P mid_made noted settled (λ none. crashed ∙ left_by_none mode mid.image mid_made none) fires
      (λ left is. first.each left (inl is)) in
      record {
        content = tt;
        known = refl;
        any_moment = LeavesOnly-trans mem_model old mid new P P P first second (λ left is. is) (λ left is. is);
        room = room;
        writes = free;
        fault = (rises, omega (arith, counted));
        uncounted = tt;
      }

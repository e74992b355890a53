-- The record of a memory disk's writes: one more write, a mark, and what can be taken back.
use Rattle.std.proofs.Common.{◌≡◌, inl, inr, ℕ, ◌+◌, ◌-◌, ◌≤◌, Bool, true, false, if◌then◌else◌, List, [], ◌∷◌, ◌++◌, length, map, take, drop, arith, refl, sym, ◌∙◌, ap, append_assoc, length-append, length-take, length-drop, subst}
use Rattle.std.proofs.lemmas.List.{map-append, take_all, drop_all, take-append-le, drop-append-le, drop-drop, take-take, drop-take}
use Rattle.std.proofs.lemmas.Bool.{cases_Bool}
use Rattle.pv_disk_model.specs.Disk.{overlaid}
use Rattle.pv_disk.specs.MemImage.{Range, Moment, AreMade, AllInside}
use Rattle.pv_disk.specs.MemHistory.{range_of, content_before, unsynced, moment_of, moments_of, overwritten, Made, CanUndo, MarksLast}
use Rattle.pv_disk.specs.declared.image.Write.{Write}
use Rattle.pv_disk_model.proofs.OverlayLemmas.{Torn-overlaid, overlaid_back, length-overlaid}

-- A write that is added isn't synced.
pub unsynced-push : (since writes : List Write) (write : Write) → write.synced ≡ false → unsynced since (writes ++ write ∷ []) ≡ unsynced since writes ++ write ∷ []
unsynced-push since [] write is = rw is refl
unsynced-push since (first ∷ later) write is = unsynced-push _ later write is

pub unsynced-mark : (since writes : List Write) (write : Write) → write.synced ≡ true → unsynced since (writes ++ write ∷ []) ≡ []
unsynced-mark since [] write is = rw is refl
unsynced-mark since (first ∷ later) write is = unsynced-mark _ later write is

-- What is added behind either of two lists of moments.
added_behind : (b : Bool) (marked marked_more others others_more : List Moment) (at_mark : Moment) (none since : List Write) (more : List Write → List Moment)
    → marked_more ≡ marked ++ more none → others_more ≡ others ++ more since
    → (if b then at_mark ∷ marked_more else others_more) ≡ (if b then at_mark ∷ marked else others) ++ more (if b then none else since)
added_behind true marked marked_more others others_more at_mark none since more one two = ap (λ (l : List Moment). at_mark ∷ l) one
added_behind false marked marked_more others others_more at_mark none since more one two = two

module _ (write : Write) (more : List Write → List Moment) (alone : (since : List Write) → moments_of since (write ∷ []) ≡ more since) where
  moments_of-behind : (since writes : List Write) → moments_of since (writes ++ write ∷ []) ≡ moments_of since writes ++ more (unsynced since writes)
  moments_of-behind since [] = alone since
  moments_of-behind since (first ∷ later) =
      ap (λ (l : List Moment). moment_of since first.before.value.items ∷ l)
      (added_behind first.synced (moments_of [] later) (moments_of [] (later ++ write ∷ [])) (moments_of (since ++ first ∷ []) later)
      (moments_of (since ++ first ∷ []) (later ++ write ∷ [])) (moment_of (since ++ first ∷ []) []) [] (since ++ first ∷ []) (λ open_ones. more (unsynced open_ones later))
      (moments_of-behind [] later) (moments_of-behind (since ++ first ∷ []) later))

if_true : {X : Type 0} (b : Bool) (x y : X) → b ≡ true → (if b then x else y) ≡ x
if_true b x y is = rw is refl

if_false : {X : Type 0} (b : Bool) (x y : X) → b ≡ false → (if b then x else y) ≡ y
if_false b x y is = rw is refl

-- A write adds the moment before it.
pub moments_of-push : (since writes : List Write) (write : Write) → write.synced ≡ false
    → moments_of since (writes ++ write ∷ []) ≡ moments_of since writes ++ moment_of (unsynced since writes) write.before.value.items ∷ []
moments_of-push since writes write is =
    moments_of-behind write (λ open_ones. moment_of open_ones write.before.value.items ∷ [])
    (λ open_ones. ap (λ (l : List Moment). moment_of open_ones write.before.value.items ∷ l) (if_false write.synced _ _ is)) since writes

-- A write with a sync after it adds the moments before both.
pub moments_of-mark : (since writes : List Write) (write : Write) → write.synced ≡ true
    → moments_of since (writes ++ write ∷ []) ≡ moments_of since writes ++ moment_of (unsynced since writes) write.before.value.items ∷ moment_of (unsynced since writes ++ write ∷ []) [] ∷ []
moments_of-mark since writes write is =
    moments_of-behind write (λ open_ones. moment_of open_ones write.before.value.items ∷ moment_of (open_ones ++ write ∷ []) [] ∷ [])
    (λ open_ones. ap (λ (l : List Moment). moment_of open_ones write.before.value.items ∷ l) (if_true write.synced _ _ is)) since writes

pub content_before-push : (writes : List Write) (write : Write) (content : List ℕ) → content_before (writes ++ write ∷ []) content ≡ content_before writes write.before.value.items
content_before-push [] write content = refl
content_before-push (first ∷ later) write content = refl

-- One more write can be taken back.
pub CanUndo-push : (writes : List Write) (write : Write) (kept content after : List ℕ) → CanUndo writes kept content → write.before.value.items ≡ content → Made write after
    → CanUndo (writes ++ write ∷ []) (kept ++ take write.count (drop write.place content)) after
CanUndo-push [] write kept content after none was made =
    let over = take write.count (drop write.place content) in
    let size : length over ≡ overwritten write = omega (arith, length-take write.count (drop write.place content), length-drop write.place content, made.long, ap length was) in
    let all : kept ++ over ≡ over = ap (λ (l : List ℕ). l ++ over) none in (
      made,
      omega (arith, ap length all, size),
      ap (λ (l : List ℕ). take (overwritten write) l) all ∙ take_all (overwritten write) over (omega (arith, size)) ∙ ap (λ (l : List ℕ). take write.count (drop write.place l)) (sym was),
      ap (λ (l : List ℕ). drop (overwritten write) l) all ∙ drop_all (overwritten write) over (omega (arith, size)),
    )
CanUndo-push (first ∷ later) write kept content after can was made =
    let over = take write.count (drop write.place content) in
    let same : content_before later content ≡ content_before (later ++ write ∷ []) after = ap (content_before later) (sym was) ∙ sym (content_before-push later write after) in (
      subst (Made first) same can.0,
      omega (arith, can.1, length-append kept over),
      take-append-le (overwritten first) kept over can.1 ∙ can.2,
      subst (λ (l : List ℕ). CanUndo (later ++ write ∷ []) l after) (sym (drop-append-le (overwritten first) kept over can.1)) (CanUndo-push later write (drop (overwritten first) kept) content after can.3 was made),
    )

-- The newest write can be taken back, and then the others.
pub record CanTakeBack (writes : List Write) (write : Write) (kept content : List ℕ) : Type 0 where
  pub made : Made write content
  pub enough : overwritten write ≤ length kept
  pub over : drop (length kept - overwritten write) kept ≡ take write.count (drop write.place write.before.value.items)
  pub others : CanUndo writes (take (length kept - overwritten write) kept) write.before.value.items

pub CanUndo-pop : (writes : List Write) (write : Write) (kept content : List ℕ) → CanUndo (writes ++ write ∷ []) kept content → CanTakeBack writes write kept content
CanUndo-pop [] write kept content can =
    let short : length kept ≤ overwritten write = omega (arith, length-drop (overwritten write) kept, ap length can.3) in
    let none : length kept - overwritten write ≡ 0 = omega arith in
    record {
      made = can.0;
      enough = can.1;
      over = ap (λ n. drop n kept) none ∙ sym (take_all (overwritten write) kept short) ∙ can.2;
      others = ap (λ n. take n kept) none;
    }
CanUndo-pop (first ∷ later) write kept content can =
    let n = overwritten first in
    let rest = CanUndo-pop later write (drop n kept) content can.3 in
    let size = length-drop n kept in
    let m = overwritten write in
    let there : n + (length (drop n kept) - m) ≡ length kept - m = omega (arith, size, rest.enough, can.1) in
    let long : n ≤ length kept - m = omega (arith, size, rest.enough, can.1) in
    record {
      made = rest.made;
      enough = omega (arith, size, rest.enough);
      over = ap (λ (k : ℕ). drop k kept) (sym there) ∙ sym (drop-drop (length (drop n kept) - m) n kept) ∙ rest.over;
      others = (
        subst (Made first) (content_before-push later write content) can.0,
        omega (arith, length-take (length kept - m) kept),
        take-take n (length kept - m) kept long ∙ can.2,
        subst (λ (l : List ℕ). CanUndo later l write.before.value.items)
            (sym (ap (λ (k : ℕ). drop n (take k kept)) (sym there) ∙ drop-take n (length (drop n kept) - m) kept)) rest.others,
      );
    }

-- What a write found, once it is taken back.
pub undone : (write : Write) (content : List ℕ) → Made write content
    → take write.length (overlaid content write.place (take write.count (drop write.place write.before.value.items))) ≡ write.before.value.items
undone write content made =
    let before = write.before.value.items in
    let within : write.place ≤ length before = omega (arith, made.long, made.within) in
    rw (made.is, made.long, ← made.all) (overlaid_back before write.place made.bytes within)

pub made_longer : (write : Write) (after : List ℕ) → Made write after → length write.before.value.items ≤ length after
made_longer write after made =
    let within : write.place ≤ length write.before.value.items = omega (arith, made.long, made.within) in
    omega (arith, ap length made.is, length-overlaid write.before.value.items write.place made.bytes within)

-- The writes made the content.
pub made_all : (writes : List Write) (kept content : List ℕ) → CanUndo writes kept content → AreMade (content_before writes content) (map range_of writes) content
made_all [] kept content can = refl
made_all (write ∷ later) kept content can =
    let made = can.0 in
    let within : write.place ≤ length write.before.value.items = omega (arith, made.long, made.within) in
    let torn = Torn-overlaid write.before.value.items write.place made.bytes within in
    let size = length-overlaid write.before.value.items write.place made.bytes within in (
      content_before later content,
      rw (made.is, ← made.all) torn,
      omega (arith, ap length made.is, size, made.all),
      made_all later (drop (overwritten write) kept) content can.3,
    )

pub longer : (writes : List Write) (kept content : List ℕ) → CanUndo writes kept content → length (content_before writes content) ≤ length content
longer [] kept content can = omega arith
longer (write ∷ later) kept content can = omega (arith, made_longer write (content_before later content) can.0, longer later (drop (overwritten write) kept) content can.3)

-- Each write that can be taken back lies within the content.
pub all_inside : (writes : List Write) (kept content : List ℕ) → CanUndo writes kept content → AllInside (map range_of writes) (length content)
all_inside [] kept content can = tt
all_inside (write ∷ later) kept content can =
    let made = can.0 in
    let within : write.place ≤ length write.before.value.items = omega (arith, made.long, made.within) in (
      omega (arith, ap length made.is, length-overlaid write.before.value.items write.place made.bytes within, made.all, longer later (drop (overwritten write) kept) content can.3),
      all_inside later (drop (overwritten write) kept) content can.3,
    )

moment_of-push : (since : List Write) (write marked : Write) (a b : List ℕ) → marked ≡ record write { synced = true }
    → moment_of (since ++ marked ∷ []) a ≡ moment_of (since ++ write ∷ []) b
moment_of-push [] write marked a b is = rw is refl
moment_of-push (first ∷ later) write marked a b is =
    ap (λ (l : List Range). record { synced = first.before.value.items; ranges = range_of first ∷ l })
    (map-append range_of later (marked ∷ []) ∙ rw is refl ∙ sym (map-append range_of later (write ∷ [])))

pub MarksLast-nil : MarksLast [] []
MarksLast-nil = record { none_left = refl; notes = inr (refl, refl) }

pub MarksLast-push : (front : List Write) (write marked : Write) → marked ≡ record write { synced = true } → MarksLast (front ++ write ∷ []) (front ++ marked ∷ [])
MarksLast-push front write marked is =
    let mark : marked.synced ≡ true = ap (λ (w : Write). w.synced) is in
    record {
      none_left = unsynced-mark [] front marked mark;
      notes = elim (cases_Bool write.synced) [
        | inl was ↦
            let same : marked ≡ write = is ∙ ap (λ b. record write { synced = b }) (sym was) in
            inr (ap (λ (w : Write). moments_of [] (front ++ w ∷ [])) same, unsynced-mark [] front write was)
        | inr not_yet ↦ inl (λ content.
            let one = moments_of-mark [] front marked mark in
            let two = moments_of-push [] front write not_yet in
            let same : moment_of (unsynced [] front ++ marked ∷ []) [] ≡ moment_of (unsynced [] (front ++ write ∷ [])) content =
            moment_of-push (unsynced [] front) write marked [] content is ∙ ap (λ (l : List Write). moment_of l content) (sym (unsynced-push [] front write not_yet)) in
            let begins = ap (λ (w : Write). moment_of (unsynced [] front) w.before.value.items) is in
            one ∙ ap (λ (m : Moment). moments_of [] front ++ m ∷ moment_of (unsynced [] front ++ marked ∷ []) [] ∷ []) begins
            ∙ ap (λ (m : Moment). moments_of [] front ++ moment_of (unsynced [] front) write.before.value.items ∷ m ∷ []) same
            ∙ sym (append_assoc (moments_of [] front) (moment_of (unsynced [] front) write.before.value.items ∷ []) (moment_of (unsynced [] (front ++ write ∷ [])) content ∷ []))
            ∙ ap (λ (l : List Moment). l ++ moment_of (unsynced [] (front ++ write ∷ [])) content ∷ []) (sym two))
      ];
    }

-- A switch to a block of what is given for the log's contents, as a whole: what it leaves at each moment, and the log that it makes.
use Rattle.std.proofs.Common.{◌≡◌, ◌⊎◌, inl, inr, ℕ, ◌+◌, ◌-◌, ◌^◌, ◌<◌, ◌≤◌, ◌==◌, Bool, true, false, List, [], ◌∷◌, ◌++◌, Some, Result, Ok, length, arith, refl, sym, ◌∙◌, ap, subst}
use Rattle.std.specs.Prelude.{is_some}
use Rattle.std.proofs.lemmas.List.{append-nil}
use Rattle.pv_base.specs.declared.failure.Failed.{Failed as Fault}
use Rattle.pv_disk_model.specs.Calls.{Makes, make_room}
use Rattle.pv_disk_model.specs.DiskModel.{DiskModel}
use Rattle.pv_disk_model.specs.Disk.{LeavesOnly, MakesRoom, Only}
use Rattle.pv_disk_model.specs.Size.{Contents, size_of}
use Rattle.pv_disk_model.proofs.DiskLemmas.{LeavesOnly-trans, LeavesOnly-weaken}
use Rattle.pv_law_calls.proofs.LookLemmas.{known_before, still_left}
use Rattle.pv_law_checkpoints.specs.Roots.{fields_of, gate_at, number_at, other_root, place_at, size_at, IsRoot}
use Rattle.pv_format.specs.Checkpoint.{storing, Standing}
use Rattle.pv_law_checkpoints.specs.Stages.{free_place, greatest_length, standing_at, IsNext, IsPacked, Stands}
use Rattle.pv_law_checkpoints.specs.TwoAreas.{greatest_place}
use Rattle.pv_law_checkpoints.proofs.CheckpointLemmas.{free_place_is, lies_apart}
use Rattle.pv_law_checkpoints.proofs.OneAnswer.{same_log}
use Rattle.pv_law_checkpoints.proofs.RootLemmas.{other_is_root}
use Rattle.pv_ckpt.specs.Checkpointing.{IsBlockFor, IsLeftBySwitch, IsLeftInAll, IsReadyFor, Leaves, name_and_open_calls, store_and_close_calls, Switches, switch_calls}
use Rattle.pv_ckpt.specs.CkptLog.{IsIntact, IsLogOf}
use Rattle.pv_ckpt.specs.Packing.{IsMadeFor, IsPackedFrom}
use Rattle.pv_ckpt.specs.Roots.{IsHeld, IsRootOf}
use Rattle.pv_ckpt.specs.declared.checkpoint.Packed.{Packed}
use Rattle.pv_ckpt.specs.declared.ckpt_log.CkptLog.{CkptLog}
use Rattle.pv_ckpt.specs.declared.roots.Root.{Root}
use Rattle.pv_ckpt.proofs.PartLemmas.{keeps_same}

-- A checkpoint is a switch to the log's own contents, which it keeps.
abbrev pub own : Contents → Contents
own contents = contents

pub keeps_own : {D : Type 0} (M : DiskModel D) (size : ℕ) (old new : CkptLog D) → Leaves M (IsLeftBySwitch own) size old new → Leaves M IsLeftInAll size old new
keeps_own M size old new leaves = record {
  known = leaves.known;
  any_moment = λ contents was bytes known stands.
      LeavesOnly-weaken M old.disk new.disk (IsLeftBySwitch own was contents) (IsLeftInAll was contents) (leaves.any_moment contents was bytes known stands)
      (λ left is. keeps_same contents was left is);
  length = leaves.length;
  limit = leaves.limit;
  was_up = leaves.was_up;
  faults = leaves.faults;
}

module _ {D : Type 0} (M : DiskModel D) (old : CkptLog D) (intact : IsIntact M old) (up : old.down ≡ false) where
  -- The log as it stands.
  pub stands_here : (bytes : List ℕ) (contents : Contents) (was : Standing) → M.content old.disk ≡ Some bytes → Stands contents was bytes
      → (is : IsLogOf bytes old) × (contents ≡ is.0 ++ is.1) × (was ≡ standing_at bytes old.root.at)
  stands_here bytes contents was known stands =
      let is = intact.at_rest up bytes known in
      let same = same_log stands.at old.root.at stands.packed stands.later is.0 is.1 bytes stands.log is.2.log in
      (is, stands.contents_are ∙ (λ i. same.1 i ++ same.2 i), sym stands.stands ∙ ap (standing_at bytes) same.0)

  -- After calls that leave what a crash might have left before.
  pub quiet : (given : Contents → Contents) (new : D) → LeavesOnly M old.disk new (M.may_leave old.disk) → (contents : Contents) (was : Standing) (bytes : List ℕ)
      → M.content old.disk ≡ Some bytes → Stands contents was bytes → LeavesOnly M old.disk new (IsLeftBySwitch given was contents)
  quiet given new leaves contents was bytes known stands =
      LeavesOnly-weaken M old.disk new (M.may_leave old.disk) (IsLeftBySwitch given was contents) leaves
      (λ left may. let here : left ≡ bytes = intact.durable up bytes known left may in inl (subst (Stands contents was) (sym here) stands))

  -- The log on a disk that holds the same.
  pub still_held : (new : CkptLog D) → new.root ≡ old.root → new.end ≡ old.end → new.length ≡ old.length → new.limit ≡ old.limit → M.content new.disk ≡ M.content old.disk
      → LeavesOnly M old.disk new.disk (M.may_leave old.disk) → IsIntact M new
  still_held new root end long limit content leaves =
      let at : new.root.at ≡ old.root.at = ap Root.at root in
      let place : new.root.place ≡ old.root.place = ap Root.place root in
      let size : new.root.size ≡ old.root.size = ap Root.size root in
      record {
        starts = omega (arith, long, intact.starts);
        bounded = omega (arith, long, intact.bounded);
        limited = omega (arith, limit, intact.limited);
        root = subst IsRoot (sym at) intact.root;
        behind_roots = omega (arith, place, intact.behind_roots);
        in_range = omega (arith, place, intact.in_range);
        packed = omega (arith, place, size, end, intact.packed);
        short = omega (arith, place, end, long, intact.short);
        at_rest = λ is_up bytes known.
            let is = intact.at_rest up bytes (sym content ∙ known) in
            let held : IsHeld bytes new.root new.end is.0 is.1 = subst (λ (r : Root). IsHeld bytes r new.end is.0 is.1) (sym root) (subst (λ n. IsHeld bytes old.root n is.0 is.1) (sym end) is.2) in
            (is.0, is.1, held, long ∙ is.3);
        durable = λ is_up bytes known left may. intact.durable up bytes (sym content ∙ known) left (still_left M old.disk new.disk (M.may_leave old.disk) leaves left may);
      }

  -- What making room leaves, whatever comes of it.
  pub keeps_quiet : (given : Contents → Contents) (new : CkptLog D) → is_some (M.content new.disk) ≡ is_some (M.content old.disk) → LeavesOnly M old.disk new.disk (M.may_leave old.disk)
      → M.faults old.disk ≤ M.faults new.disk → new.length ≡ old.length → new.limit ≡ old.limit → Leaves M (IsLeftBySwitch given) old.length old new
  keeps_quiet given new known leaves faults long limit = record {
    known = known;
    any_moment = quiet given new.disk leaves;
    length = long;
    limit = limit;
    was_up = up;
    faults = faults;
  }

  pub room_failed : (block : List ℕ) (d1 : D) → ((false ≡ false) × (d1 ≡ old.disk)) ⊎ M.goes old.disk (make_room (length block + 27) 4) false d1
      → ((false ≡ false) × (d1 ≡ old.disk)) ⊎ Makes M.goes old.disk (switch_calls old.root old.end block) false d1
  room_failed block d1 (inl same) = inl same
  room_failed block d1 (inr goes) = inr (inl (refl, goes))

  pub room_made : (block : List ℕ) (d1 : D) → ((true ≡ false) × (d1 ≡ old.disk)) ⊎ M.goes old.disk (make_room (length block + 27) 4) true d1
      → M.goes old.disk (make_room (length block + 27) 4) true d1
  room_made block d1 (inl none) = absurd (let both : true ≡ false = none.0 in cc)
  room_made block d1 (inr goes) = goes

  module _ (reach : old.length ≤ greatest_length) (size : ℕ) (within : size ≤ old.limit) (unspent : old.root.number < 2 ^ 64 - 1) (given : Contents → Contents) (block : List ℕ)
      (block_is : IsBlockFor M old given block size) where
    abbrev pub place : ℕ
    place = free_place (length block) old.root.place old.end

    -- The block is next.
    pub next : (bytes : List ℕ) → M.content old.disk ≡ Some bytes → (is : IsLogOf bytes old) → IsNext storing old.root.at place is.0 is.1 (given (is.0 ++ is.1)) bytes
    next bytes known is =
        let held = is.2 in
        let root_is = held.root_is in
        let all = block_is bytes known is in
        record {
          log = held.log;
          reach = omega (arith, is.3, reach);
          within = omega (arith, all.1, within, intact.limited);
          numbered = omega (arith, root_is.number, unspent);
          place_is = λ i. free_place (length (all.0 i)) (root_is.place i) (held.end_is i);
          made = tt;
        }

    pub place_within : (bytes : List ℕ) → M.content old.disk ≡ Some bytes → (place ≤ length bytes) × (59 ≤ length bytes)
    place_within bytes known =
        let is = intact.at_rest up bytes known in
        let held = is.2 in
        ((lies_apart old.root.at place is.0 is.1 (given (is.0 ++ is.1)) bytes (next bytes known is)).1, held.log.starts.long)

    -- After room was made for it.
    module _ (d1 : D) (makes : MakesRoom M old.disk d1) (content : M.content d1 ≡ M.content old.disk) (packed : Packed) (packed_is : IsPackedFrom old.root old.end block packed) where
      pub ready : (bytes : List ℕ) → M.content old.disk ≡ Some bytes → (is : IsLogOf bytes old)
          → IsReadyFor M storing d1 old.root.at packed.root.place is.0 is.1 (given (is.0 ++ is.1)) bytes
      ready bytes known is = record {
        known = content ∙ known;
        durable = λ left may. intact.durable up bytes known left (still_left M old.disk d1 (M.may_leave old.disk) makes.any_moment left may);
        next = subst (λ n. IsNext storing old.root.at n is.0 is.1 (given (is.0 ++ is.1)) bytes) (sym packed_is.place) (next bytes known is);
      }

      pub made_for : (bytes : List ℕ) → M.content old.disk ≡ Some bytes → (is : IsLogOf bytes old) → IsMadeFor packed old.root.at (given (is.0 ++ is.1)) bytes
      made_for bytes known is =
          let held = is.2 in
          let number = held.root_is.number in
          let all = block_is bytes known is in
          record {
            root = packed_is.at;
            block_is = packed_is.block_is ∙ ap (λ (l : List ℕ). l ++ 0 ∷ []) all.0;
            fields_are = packed_is.fields_are ∙ (λ i. fields_of (number i + 1) packed.root.place (length (all.0 i)));
          }

      -- The clause of the writes.
      abbrev pub Written : (X : Type 0) → D → Result X Fault → Type 0
      Written X d2 result =
          (at : ℕ) (held later made : Contents) (bytes : List ℕ) → IsReadyFor M storing d1 at packed.root.place held later made bytes → IsMadeFor packed at made bytes
          → old.root.other_open ≡ (gate_at bytes (other_root at) == 1) → Switches M {X = X} {E = Fault} d1 d2 at packed.root.place held later made bytes result

      module _ {X : Type 0} (d2 : D) (result : Result X Fault) (written : Written X d2 result) where
        switched : (bytes : List ℕ) → M.content old.disk ≡ Some bytes → (is : IsLogOf bytes old)
            → Switches M {X = X} {E = Fault} d1 d2 old.root.at packed.root.place is.0 is.1 (given (is.0 ++ is.1)) bytes result
        switched bytes known is =
            let held = is.2 in written old.root.at is.0 is.1 (given (is.0 ++ is.1)) bytes (ready bytes known is) (made_for bytes known is) held.root_is.other

        pub moments : (contents : Contents) (was : Standing) (bytes : List ℕ) → M.content old.disk ≡ Some bytes → Stands contents was bytes → LeavesOnly M old.disk d2 (IsLeftBySwitch given was contents)
        moments contents was bytes known stands =
            let here = stands_here bytes contents was known stands in
            let is = here.0 in
            let leaves : LeavesOnly M d1 d2 (IsLeftBySwitch given was contents) =
            subst (λ (c : Contents). LeavesOnly M d1 d2 (IsLeftBySwitch given was c)) (sym here.1)
            (subst (λ s. LeavesOnly M d1 d2 (IsLeftBySwitch given s (is.0 ++ is.1))) (sym here.2) (switched bytes known is).any_moment) in
            let P = IsLeftBySwitch given was contents in
            LeavesOnly-trans M old.disk d1 d2 P P P (quiet given d1 makes.any_moment contents was bytes known stands) leaves (λ left has. has) (λ left has. has)

        pub keeps : (new : CkptLog D) (long : ℕ) → new.disk ≡ d2 → is_some (M.content d2) ≡ is_some (M.content d1) → M.faults d1 ≤ M.faults d2 → new.length ≡ long
            → new.limit ≡ old.limit → Leaves M (IsLeftBySwitch given) long old new
        keeps new long disk known faults length_is limit = record {
          known = ap (λ d. is_some (M.content d)) disk ∙ known ∙ ap is_some content;
          any_moment = λ contents was bytes is stands. subst (λ d. LeavesOnly M old.disk d (IsLeftBySwitch given was contents)) (sym disk) (moments contents was bytes is stands);
          length = length_is;
          limit = limit;
          was_up = up;
          faults = omega (arith, makes.faults, faults, ap M.faults disk);
        }

        pub makes_all : (ok : Bool) → M.goes old.disk (make_room (length block + 27) 4) true d1
            → Makes M.goes d1 (store_and_close_calls packed.root.at old.root.other_open packed.root.place packed.block.items ++ name_and_open_calls packed.root.at packed.fields.items) ok d2
            → Makes M.goes old.disk (switch_calls old.root old.end block) ok d2
        makes_all ok room calls =
            let other = other_root old.root.at in
            let fields : packed.fields.items ≡ fields_of (old.root.number + 1) place (length block) =
            packed_is.fields_are ∙ ap (λ n. fields_of (old.root.number + 1) n (length block)) packed_is.place in
            let first = subst (λ n. Makes M.goes d1 (store_and_close_calls n old.root.other_open packed.root.place packed.block.items ++ name_and_open_calls n packed.fields.items) ok d2) packed_is.at calls in
            let second = subst (λ n. Makes M.goes d1 (store_and_close_calls other old.root.other_open n packed.block.items ++ name_and_open_calls other packed.fields.items) ok d2) packed_is.place first in
            let third = subst (λ (l : List ℕ). Makes M.goes d1 (store_and_close_calls other old.root.other_open place l ++ name_and_open_calls other packed.fields.items) ok d2) packed_is.block_is second in
            inr (d1, room, subst (λ (l : List ℕ). Makes M.goes d1 (store_and_close_calls other old.root.other_open place (block ++ 0 ∷ []) ++ name_and_open_calls other l) ok d2) fields third)

      -- All is written.
      module _ {X : Type 0} (d2 : D) (x : X) (written : Written X d2 (Ok x)) (alike : is_some (M.content d2) ≡ is_some (M.content d1)) (fits : length block + 9 ≤ size) where
        pub done : (contents : Contents) (was : Standing) (bytes : List ℕ) → M.content old.disk ≡ Some bytes → Stands contents was bytes
            → (made : List ℕ) × (M.content d2 ≡ Some made) × IsPacked old.root.at (given contents) was made × Only made (M.may_leave d2)
        done contents was bytes known stands =
            let here = stands_here bytes contents was known stands in
            let is = here.0 in
            let all = (switched d2 (Ok x) written bytes known is).done in
            let at_was : IsPacked old.root.at (given (is.0 ++ is.1)) was all.0 =
            subst (λ s. IsPacked old.root.at (given (is.0 ++ is.1)) s all.0) (sym here.2) all.2 in
            (all.0, all.1, subst (λ (c : Contents). IsPacked old.root.at (given c) was all.0) (sym here.1) at_was, all.4)

        new_held : (bytes : List ℕ) → M.content d2 ≡ Some bytes
            → (contents : Contents) × IsHeld bytes packed.root (packed.root.place + packed.root.size) contents [] × (size ≡ size_of (contents ++ [])) × Only bytes (M.may_leave d2)
        new_held bytes now =
            let before = known_before (M.content d1) (M.content d2) bytes alike now in
            let was : M.content old.disk ≡ Some before.0 = sym content ∙ before.1 in
            let is = intact.at_rest up before.0 was in
            let held = is.2 in
            let contents = given (is.0 ++ is.1) in
            let all = (switched d2 (Ok x) written before.0 was is).done in
            let same : all.0 ≡ bytes = cc in
            let other = other_root old.root.at in
            let made : IsPacked old.root.at contents (standing_at before.0 old.root.at) bytes = subst (IsPacked old.root.at contents (standing_at before.0 old.root.at)) same all.2 in
            let named = all.3 in
            let size_is = ap length (block_is before.0 was is).0 in
            let number : packed.root.number ≡ number_at bytes other =
            packed_is.number ∙ ap (λ n. n + 1) held.root_is.number ∙ sym named.number_is ∙ ap (λ (l : List ℕ). number_at l other) same in
            let place_there : packed.root.place ≡ place_at bytes other = sym named.place_is ∙ ap (λ (l : List ℕ). place_at l other) same in
            let size_there : packed.root.size ≡ size_at bytes other =
            packed_is.size ∙ size_is ∙ sym named.size_is ∙ ap (λ (l : List ℕ). size_at l other) same in
            let root_is : IsRootOf bytes (record packed.root { at = other }) = record {
              starts = made.log.starts;
              in_force = made.log.in_force;
              number = number;
              place = place_there;
              size = size_there;
              other = packed_is.other ∙ sym (ap Standing.other_open made.stands);
            } in
            let there : IsHeld bytes (record packed.root { at = other }) (packed.root.place + packed.root.size) contents [] = record {
              root_is = root_is;
              log = made.log;
              end_is = omega (arith, place_there, size_there);
            } in (
              contents,
              subst (λ n. IsHeld bytes (record packed.root { at = n }) (packed.root.place + packed.root.size) contents []) (sym packed_is.at) there,
              (block_is before.0 was is).1 ∙ ap size_of (sym (append-nil contents)),
              subst (λ (l : List ℕ). Only l (M.may_leave d2)) same all.4,
            )

        place_range : (58 ≤ packed.root.place) × (packed.root.place ≤ greatest_place)
        place_range = elim (free_place_is (length block) old.root.place old.end) [
          | inl low ↦ (omega (arith, low.0, packed_is.place), omega (arith, low.0, packed_is.place))
          | inr high ↦ (
            omega (arith, high.0, packed_is.place, intact.behind_roots, intact.packed),
            omega (arith, high.0, high.1, packed_is.place, intact.short, fits, within, intact.limited, reach),
          )
        ]

        pub now_intact : (new : CkptLog D) → new.disk ≡ d2 → new.root ≡ packed.root → new.end ≡ packed.root.place + packed.root.size → new.length ≡ size → new.limit ≡ old.limit → IsIntact M new
        now_intact new disk root end long limit =
            let at : new.root.at ≡ other_root old.root.at = ap Root.at root ∙ packed_is.at in
            let place_same : new.root.place ≡ packed.root.place = ap Root.place root in
            let size_same : new.root.size ≡ packed.root.size = ap Root.size root in
            let held_now : (bytes : List ℕ) → M.content new.disk ≡ Some bytes → IsLogOf bytes new × Only bytes (M.may_leave new.disk) =
            λ bytes now.
            let is = new_held bytes (ap M.content (sym disk) ∙ now) in
            let held : IsHeld bytes new.root new.end is.0 [] =
            subst (λ (r : Root). IsHeld bytes r new.end is.0 []) (sym root) (subst (λ n. IsHeld bytes packed.root n is.0 []) (sym end) is.1) in
            ((is.0, [], held, long ∙ is.2), subst (λ d. Only bytes (M.may_leave d)) (sym disk) is.3) in
            record {
              starts = omega (arith, long, fits);
              bounded = omega (arith, long, within, intact.limited);
              limited = omega (arith, limit, intact.limited);
              root = subst IsRoot (sym at) (other_is_root old.root.at intact.root);
              behind_roots = omega (arith, place_same, place_range.0);
              in_range = omega (arith, place_same, place_range.1);
              packed = omega (arith, place_same, size_same, end);
              short = omega (arith, place_same, end, long, packed_is.size, fits);
              at_rest = λ is_up bytes now. (held_now bytes now).0;
              durable = λ is_up bytes now. (held_now bytes now).1;
            }

-- What a crash in each of the two writes of an append leaves.
use Rattle.std.proofs.Common.{◌≡◌, inl, ℕ, ◌+◌, List, [], ◌∷◌, ◌++◌, Some, Result, Ok, Err, OnOk, length, sym, ◌∙◌, ap, subst}
use Rattle.pv_base.specs.declared.failure.Failed.{Failed as Fault}
use Rattle.pv_disk_model.specs.DiskModel.{DiskModel}
use Rattle.pv_disk_model.specs.Disk.{overlaid, Torn, Only, LeavesOnly, LeftTorn}
use Rattle.pv_disk_model.specs.Size.{Contents}
use Rattle.pv_disk_model.proofs.DiskLemmas.{LeavesOnly-trans, LeavesOnly-weaken}
use Rattle.pv_law_checkpoints.specs.Appending.{AreSameRoots, IsStaged}
use Rattle.pv_law_checkpoints.specs.Roots.{IsSameRoot, other_root}
use Rattle.pv_law_checkpoints.specs.TwoAreas.{IsLog, end_at}
use Rattle.pv_law_checkpoints.proofs.AppendLemmas.{behind_gate_kept, end_same, frame_staged, gate_decides, gate_opened}
use Rattle.pv_ckpt.specs.Appending.{StandsFor, IsReady, WritesRecord}
use Rattle.pv_ckpt.specs.Writing.{WritesSynced}

root_trans : (a b c : List ℕ) (at : ℕ) → IsSameRoot a b at → IsSameRoot b c at → IsSameRoot a c at
root_trans a b c at first second =
    record { gate = second.gate ∙ first.gate; number = second.number ∙ first.number; place = second.place ∙ first.place; size = second.size ∙ first.size }

roots_trans : (a b c : List ℕ) (at : ℕ) → AreSameRoots a b at → AreSameRoots b c at → AreSameRoots a c at
roots_trans a b c at first second = record { own = root_trans a b c at first.own second.own; other = root_trans a b c (other_root at) first.other second.other }

module _ {D : Type 0} (M : DiskModel D) (d0 : D) (end : ℕ) (frame : List ℕ) (at : ℕ) (packed later : Contents) (content bytes : List ℕ)
    (ready : IsReady M d0 end frame at packed later content bytes) where
  abbrev P : List ℕ → Type 0
  P = StandsFor at packed later content bytes

  abbrev staged : List ℕ
  staged = overlaid bytes (end + 1) frame

  staged_is : IsStaged at packed later content staged × AreSameRoots bytes staged at
  staged_is = frame_staged at packed later bytes ready.log content staged ready.short (λ i. overlaid bytes (ready.gate i + 1) (ready.framed_is i))

  gate_there : end ≡ end_at staged at later
  gate_there = ready.gate ∙ sym (end_same at packed later bytes ready.log staged staged_is.1)

  -- After the frame.
  pub after_frame : (d1 : D) → LeavesOnly M d0 d1 (LeftTorn M d0 (end + 1) (length frame)) → LeavesOnly M d0 d1 P
  after_frame d1 leaves =
      LeavesOnly-weaken M d0 d1 (LeftTorn M d0 (end + 1) (length frame)) P leaves
      (λ left torn.
      let from : torn.0 ≡ bytes = ready.durable torn.0 torn.1 in
      let here : Torn (end + 1) (length frame) bytes left = subst (λ (l : List ℕ). Torn (end + 1) (length frame) l left) from torn.2 in
      let kept = behind_gate_kept at packed later bytes ready.log (length frame) left (subst (λ n. Torn (n + 1) (length frame) bytes left) ready.gate here) in
      (inl kept.0, kept.1))

  -- The calls ended in the first of the two writes.
  pub broken_off : {X Y E : Type 0} (d1 : D) (result : Result X Fault) (answer : Result Y E) (e : E) → answer ≡ Err e → WritesSynced M d0 d1 (end + 1) frame result
      → WritesRecord M {X = Y} {E = E} d0 d1 at packed later content bytes answer
  broken_off d1 result answer e is wrote = record {
    any_moment = after_frame d1 wrote.any_moment;
    done = subst (λ r. OnOk r ((made : List ℕ) × (M.content d1 ≡ Some made) × IsLog at packed (later ++ content ∷ []) made × AreSameRoots bytes made at × Only made (M.may_leave d1)))
        (sym is) tt;
  }

  module _ {X : Type 0} (d1 : D) (x : X) (wrote : WritesSynced M {X = X} d0 d1 (end + 1) frame (Ok x)) where
    known : M.content d1 ≡ Some staged
    known = wrote.content bytes ready.known

    -- After the gate.
    after_gate : (d2 : D) → LeavesOnly M d1 d2 (LeftTorn M d1 end 1) → LeavesOnly M d0 d2 P
    after_gate d2 leaves =
        LeavesOnly-trans M d0 d1 d2 P (LeftTorn M d1 end 1) P (after_frame d1 wrote.any_moment) leaves (λ left has. has)
        (λ left torn.
        let from : torn.0 ≡ staged = wrote.durable bytes ready.known torn.0 torn.1 in
        let here : Torn end 1 staged left = subst (λ (l : List ℕ). Torn end 1 l left) from torn.2 in
        let decided = gate_decides at packed later content staged staged_is.0 left (subst (λ n. Torn n 1 staged left) gate_there here) in
        (decided.0, roots_trans bytes staged left at staged_is.1 decided.1))

    pub finished : {Y : Type 0} (d2 : D) (result : Result Y Fault) → WritesSynced M d1 d2 end (1 ∷ []) result
        → WritesRecord M {X = Y} {E = Fault} d0 d2 at packed later content bytes result
    finished d2 (Ok y) opened =
        let made = overlaid staged end (1 ∷ []) in
        let is = gate_opened at packed later content staged staged_is.0 made (ap (λ n. overlaid staged n (1 ∷ [])) gate_there) in
        record {
          any_moment = after_gate d2 opened.any_moment;
          done = (made, opened.content staged known, is.0, roots_trans bytes staged made at staged_is.1 is.1, opened.durable staged known);
        }
    finished d2 (Err e) opened = record { any_moment = after_gate d2 opened.any_moment; done = tt }

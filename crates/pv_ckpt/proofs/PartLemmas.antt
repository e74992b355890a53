-- The parts of a checkpoint, one after another: what a crash at each moment leaves, and what they make.
use Rattle.std.proofs.Common.{◌≡◌, ◌≢◌, inl, inr, ℕ, ◌+◌, ◌==◌, true, false, List, [], ◌∷◌, ◌++◌, Some, Result, Ok, Err, OnOk, length, arith, refl, sym, ◌∙◌, ap, subst}
use Rattle.std.proofs.lemmas.Bool.Decides.{eqb_tells}
use Rattle.pv_base.specs.declared.failure.Failed.{Failed as Fault}
use Rattle.pv_disk_model.specs.DiskModel.{DiskModel}
use Rattle.pv_disk_model.specs.Disk.{overlaid, Torn, Only, LeavesOnly, LeftTorn}
use Rattle.pv_disk_model.specs.Size.{Contents}
use Rattle.pv_disk_model.proofs.DiskLemmas.{LeavesOnly-trans, LeavesOnly-weaken}
use Rattle.pv_disk_model.proofs.OverlayLemmas.{Torn-overlaid}
use Rattle.pv_law_checkpoints.specs.Roots.{gate_at, number_at, other_root}
use Rattle.pv_format.specs.Checkpoint.{closing, done, naming, opening, storing, shut, Part, Standing}
use Rattle.pv_law_checkpoints.specs.Stages.{standing_at, writes, writes_at, IsBeforeOrGiven, IsLeft, IsNamed, IsNext, IsPacked, IsUnderWay, LeadsOn, made_by}
use Rattle.pv_law_checkpoints.specs.TwoAreas.{block_of}
use Rattle.pv_law_checkpoints.proofs.CheckpointLemmas.{crash_in, leads_on, left_in_all}
use Rattle.pv_law_checkpoints.proofs.RootLemmas.{number_behind_gate, place_behind_gate, size_behind_gate}
use Rattle.pv_ckpt.specs.Checkpointing.{IsLeftInAll, IsReadyFor, StoresAndCloses, Switches}
use Rattle.pv_ckpt.specs.Writing.{WritesSynced}

gate_is : (gate : ℕ) → gate ≡ 1 → (gate == 1) ≡ true
gate_is gate is = ap (λ g. g == 1) is

pub gate_isnt : (gate : ℕ) → gate ≢ 1 → (gate == 1) ≡ false
gate_isnt gate isnt = elim (eqb_tells gate 1) [
  | inl opened ↦ absurd (isnt opened.1)
  | inr closed ↦ closed.0
]

pub gate_tells : (gate : ℕ) → (gate == 1) ≡ true → gate ≡ 1
gate_tells gate told = elim (eqb_tells gate 1) [
  | inl opened ↦ opened.1
  | inr closed ↦ absurd (let both : true ≡ false = sym told ∙ closed.0 in cc)
]

pub gate_denies : (gate : ℕ) → (gate == 1) ≡ false → gate ≢ 1
gate_denies gate told opened = let both : true ≡ false = sym (gate_is gate opened) ∙ told in cc

-- How bytes stand that read the same there.
pub standing_is : (bytes : List ℕ) (at : ℕ) (standing : Standing) → number_at bytes at ≡ standing.number → (gate_at bytes (other_root at) == 1) ≡ standing.other_open → standing_at bytes at ≡ standing
standing_is bytes at standing number gate = λ i. record { number = number i; other_open = gate i }

-- What may be left where the other gate was closed already.
left_too : (given before : Contents) (was : Standing) (left : List ℕ) → IsBeforeOrGiven given (shut was) before left → IsBeforeOrGiven given was before left
left_too given before was left (inl same) = inr (inl same)
left_too given before was left (inr (inl closed)) = inr (inl closed)
left_too given before was left (inr (inr done)) = inr (inr done)

-- Where the given contents are those before, these are left.
pub keeps_same : (contents : Contents) (was : Standing) (left : List ℕ) → IsBeforeOrGiven contents was contents left → IsLeftInAll was contents left
keeps_same contents was left (inl stands) = (was, stands, inl refl)
keeps_same contents was left (inr (inl stands)) = (shut was, stands, inr (inl refl))
keeps_same contents was left (inr (inr stands)) = (done was, stands, inr (inr refl))

module _ {D : Type 0} (M : DiskModel D) (part : Part) (at place : ℕ) (packed later given : Contents) (bytes : List ℕ) (d : D) (ready : IsReadyFor M part d at place packed later given bytes)
    (from : ℕ) (written : List ℕ) (from_is : from ≡ writes_at part at place) (written_is : written ≡ writes part (number_at bytes at) place given) where
  -- What a crash in the write of a part leaves.
  left_torn : (left : List ℕ) → LeftTorn M d from (length written) left → IsLeft part (standing_at bytes at) (packed ++ later) given left
  left_torn left (was, may, torn) =
      let here : was ≡ bytes = ready.durable was may in
      let torn_bytes : Torn from (length written) bytes left = subst (λ (l : List ℕ). Torn from (length written) l left) here torn in
      let torn_there : Torn (writes_at part at place) (length written) bytes left = subst (λ n. Torn n (length written) bytes left) from_is torn_bytes in
      crash_in part at place packed later given bytes left ready.next (subst (λ (l : List ℕ). Torn (writes_at part at place) (length l) bytes left) written_is torn_there)

  -- What the write makes.
  pub made_is : overlaid bytes from written ≡ made_by part at place given bytes
  made_is = λ i. overlaid bytes (from_is i) (written_is i)

  module _ (was : Standing) (under_way : IsUnderWay was (standing_at bytes at)) where
    in_all : (left : List ℕ) → LeftTorn M d from (length written) left → IsBeforeOrGiven given was (packed ++ later) left
    in_all left torn = left_in_all part was (standing_at bytes at) (packed ++ later) given left under_way (left_torn left torn)

    pub part_leaves : (new : D) → LeavesOnly M d new (LeftTorn M d from (length written)) → LeavesOnly M d new (IsBeforeOrGiven given was (packed ++ later))
    part_leaves new torn = LeavesOnly-weaken M d new (LeftTorn M d from (length written)) (IsBeforeOrGiven given was (packed ++ later)) torn in_all

    pub part_leaves_too : (old new : D) → LeavesOnly M old d (IsBeforeOrGiven given was (packed ++ later)) → LeavesOnly M d new (LeftTorn M d from (length written))
        → LeavesOnly M old new (IsBeforeOrGiven given was (packed ++ later))
    part_leaves_too old new before torn =
        let P = IsBeforeOrGiven given was (packed ++ later) in
        LeavesOnly-trans M old d new P P P before (part_leaves new torn) (λ left is. is) (λ left is. is)

  -- The next part can come on a disk that holds what the write makes.
  pub ready_after : (other : Part) (new : D) → M.content new ≡ Some (overlaid bytes from written) → Only (overlaid bytes from written) (M.may_leave new)
      → IsNext other at place packed later given (made_by part at place given bytes) → IsReadyFor M other new at place packed later given (made_by part at place given bytes)
  ready_after other new known only next = record {
    known = known ∙ ap (λ (l : List ℕ). Some l) made_is;
    durable = λ left may. only left may ∙ made_is;
    next = next;
  }

-- The block, and the closing of the other gate.
module _ {D : Type 0} (M : DiskModel D) (at place : ℕ) (packed later given : Contents) (bytes : List ℕ) (d0 : D) (ready : IsReadyFor M storing d0 at place packed later given bytes)
    (block : List ℕ) (block_is : block ≡ writes storing (number_at bytes at) place given) where
  abbrev was : Standing
  was = standing_at bytes at

  abbrev pub stored : List ℕ
  stored = made_by storing at place given bytes

  leads : LeadsOn storing at place packed later given bytes stored
  leads = leads_on storing at place packed later given bytes ready.next

  pub after_block : {X : Type 0} (d1 : D) (result : Result X Fault) → WritesSynced M d0 d1 place block result → LeavesOnly M d0 d1 (IsBeforeOrGiven given was (packed ++ later))
  after_block d1 result wrote = part_leaves M storing at place packed later given bytes d0 ready place block refl block_is was (inl refl) d1 wrote.any_moment

  pub stores_not : {X Y E : Type 0} (d1 : D) (result : Result X Fault) (other : Result Y E) (e : E) → other ≡ Err e → WritesSynced M d0 d1 place block result
      → StoresAndCloses M {X = Y} {E = E} d0 d1 at place packed later given bytes other
  stores_not d1 result other e is wrote = record {
    any_moment = after_block d1 result wrote;
    done = subst (λ r. OnOk r ((made : List ℕ) × IsReadyFor M naming d1 at place packed later given made × (number_at made at ≡ number_at bytes at))) (sym is) tt;
  }

  module _ {X : Type 0} (d1 : D) (x : X) (wrote : WritesSynced M {X = X} d0 d1 place block (Ok x)) where
    -- The other gate isn't 1.
    pub stores_closed : {Y E : Type 0} (y : Y) → gate_at bytes (other_root at) ≢ 1 → StoresAndCloses M {X = Y} {E = E} d0 d1 at place packed later given bytes (Ok y)
    stores_closed y closed = record {
      any_moment = after_block d1 (Ok x) wrote;
      done = (
        stored,
        ready_after M storing at place packed later given bytes d0 ready place block refl block_is naming d1 (wrote.content bytes ready.known) (wrote.durable bytes ready.known) (leads.2 closed),
        leads.0.number,
      );
    }

    -- It is 1.
    module _ (opened : gate_at bytes (other_root at) ≡ 1) where
      pub ready_closing : IsReadyFor M closing d1 at place packed later given stored
      ready_closing =
          ready_after M storing at place packed later given bytes d0 ready place block refl block_is closing d1 (wrote.content bytes ready.known) (wrote.durable bytes ready.known) (leads.1 opened)

      still : standing_at stored at ≡ was
      still = standing_is stored at was leads.0.number (gate_is (gate_at stored (other_root at)) ready_closing.next.made.1 ∙ sym (gate_is (gate_at bytes (other_root at)) opened))

      pub stores_open : {Y : Type 0} (d2 : D) (other : ℕ) (result : Result Y Fault) → other ≡ other_root at → WritesSynced M d1 d2 other (0 ∷ []) result
          → StoresAndCloses M {X = Y} {E = Fault} d0 d2 at place packed later given bytes result
      stores_open d2 other (Ok y) other_is closed =
          let lead = leads_on closing at place packed later given stored ready_closing.next in
          record {
            any_moment =
                part_leaves_too M closing at place packed later given stored d1 ready_closing other (0 ∷ []) other_is refl was (inl still) d0 d2 (after_block d1 (Ok x) wrote) closed.any_moment;
            done = (
              made_by closing at place given stored,
              ready_after M closing at place packed later given stored d1 ready_closing other (0 ∷ []) other_is refl naming d2 (closed.content stored ready_closing.known)
                  (closed.durable stored ready_closing.known) lead.1,
              lead.0.number ∙ leads.0.number,
            );
          }
      stores_open d2 other (Err e) other_is closed = record {
        any_moment = part_leaves_too M closing at place packed later given stored d1 ready_closing other (0 ∷ []) other_is refl was (inl still) d0 d2 (after_block d1 (Ok x) wrote) closed.any_moment;
        done = tt;
      }

-- The fields of the other root, and the opening of its gate.
module _ {D : Type 0} (M : DiskModel D) (at place : ℕ) (packed later given : Contents) (bytes : List ℕ) (d0 : D) (ready : IsReadyFor M naming d0 at place packed later given bytes)
    (other : ℕ) (fields : List ℕ) (other_is : other ≡ other_root at) (fields_are : fields ≡ writes naming (number_at bytes at) place given) where
  abbrev now : Standing
  now = standing_at bytes at

  abbrev named : List ℕ
  named = made_by naming at place given bytes

  behind : other + 1 ≡ other_root at + 1
  behind = ap (λ n. n + 1) other_is

  lead : LeadsOn naming at place packed later given bytes named
  lead = leads_on naming at place packed later given bytes ready.next

  pub after_fields : {X : Type 0} (d1 : D) (result : Result X Fault) → WritesSynced M d0 d1 (other + 1) fields result → LeavesOnly M d0 d1 (IsBeforeOrGiven given now (packed ++ later))
  after_fields d1 result wrote = part_leaves M naming at place packed later given bytes d0 ready (other + 1) fields behind fields_are now (inl refl) d1 wrote.any_moment

  pub switches_not : {X Y E : Type 0} (d1 : D) (result : Result X Fault) (answer : Result Y E) (e : E) → answer ≡ Err e → WritesSynced M d0 d1 (other + 1) fields result
      → Switches M {X = Y} {E = E} d0 d1 at place packed later given bytes answer
  switches_not d1 result answer e is wrote = record {
    any_moment = after_fields d1 result wrote;
    done = subst (λ r. OnOk r ((made : List ℕ) × (M.content d1 ≡ Some made) × IsPacked at given now made
        × IsNamed made (other_root at) (number_at bytes at + 1) place (length (block_of given)) × Only made (M.may_leave d1))) (sym is) tt;
  }

  module _ {X : Type 0} (d1 : D) (x : X) (wrote : WritesSynced M {X = X} d0 d1 (other + 1) fields (Ok x)) where
    ready_opening : IsReadyFor M opening d1 at place packed later given named
    ready_opening =
        ready_after M naming at place packed later given bytes d0 ready (other + 1) fields behind fields_are opening d1 (wrote.content bytes ready.known) (wrote.durable bytes ready.known) lead.1

    same : standing_at named at ≡ now
    same =
        standing_is named at now lead.0.number
        (gate_isnt (gate_at named (other_root at)) ready_opening.next.made.1 ∙ sym (gate_isnt (gate_at bytes (other_root at)) ready.next.made.1))

    last : IsPacked at given (standing_at named at) (made_by opening at place given named)
    last = leads_on opening at place packed later given named ready_opening.next

    torn : Torn (other_root at) 1 named (made_by opening at place given named)
    torn = Torn-overlaid named (other_root at) (1 ∷ []) (omega (arith, ready_opening.next.log.starts.long))

    still_named : IsNamed (made_by opening at place given named) (other_root at) (number_at bytes at + 1) place (length (block_of given))
    still_named =
        let made = made_by opening at place given named in
        let o = other_root at in
        let is = ready_opening.next.made.2 in
        record {
          number_is = number_behind_gate o 1 named made torn o (omega arith) ∙ is.number_is ∙ ap (λ n. n + 1) lead.0.number;
          place_is = place_behind_gate o 1 named made torn o (omega arith) ∙ is.place_is;
          size_is = size_behind_gate o 1 named made torn o (omega arith) ∙ is.size_is;
        }

    pub switches : {Y : Type 0} (d2 : D) (result : Result Y Fault) → WritesSynced M d1 d2 other (1 ∷ []) result
        → Switches M {X = Y} {E = Fault} d0 d2 at place packed later given bytes result
    switches d2 (Ok y) opened = record {
      any_moment =
          part_leaves_too M opening at place packed later given named d1 ready_opening other (1 ∷ []) other_is refl now (inl same) d0 d2 (after_fields d1 (Ok x) wrote) opened.any_moment;
      done =
          let made = made_by opening at place given named in
          let is = made_is M opening at place packed later given named d1 ready_opening other (1 ∷ []) other_is refl in (
            made,
            opened.content named ready_opening.known ∙ ap (λ (l : List ℕ). Some l) is,
            subst (λ s. IsPacked at given s made) same last,
            still_named,
            λ left may. opened.durable named ready_opening.known left may ∙ is,
          );
    }
    switches d2 (Err e) opened = record {
      any_moment = part_leaves_too M opening at place packed later given named d1 ready_opening other (1 ∷ []) other_is refl now (inl same) d0 d2 (after_fields d1 (Ok x) wrote) opened.any_moment;
      done = tt;
    }

-- Both, one after the other.
module _ {D : Type 0} (M : DiskModel D) (at place : ℕ) (packed later given : Contents) (bytes : List ℕ) (d0 d1 : D) where
  pub stopped_before_naming : {X Y E F : Type 0} (result : Result X E) (answer : Result Y F) (f : F) → answer ≡ Err f → StoresAndCloses M d0 d1 at place packed later given bytes result
      → Switches M {X = Y} {E = F} d0 d1 at place packed later given bytes answer
  stopped_before_naming result answer f is stores = record {
    any_moment = stores.any_moment;
    done = subst (λ r. OnOk r ((made : List ℕ) × (M.content d1 ≡ Some made) × IsPacked at given (standing_at bytes at) made
        × IsNamed made (other_root at) (number_at bytes at + 1) place (length (block_of given)) × Only made (M.may_leave d1))) (sym is) tt;
  }

  module _ {X E : Type 0} (x : X) (stores : StoresAndCloses M {X = X} {E = E} d0 d1 at place packed later given bytes (Ok x)) where
    abbrev pub closed_now : List ℕ
    closed_now = stores.done.0

    shut_now : standing_at closed_now at ≡ shut (standing_at bytes at)
    shut_now = standing_is closed_now at (shut (standing_at bytes at)) stores.done.2 (gate_isnt (gate_at closed_now (other_root at)) stores.done.1.next.made.1)

    both_leave : (d2 : D) → LeavesOnly M d1 d2 (IsBeforeOrGiven given (standing_at closed_now at) (packed ++ later)) → LeavesOnly M d0 d2 (IsBeforeOrGiven given (standing_at bytes at) (packed ++ later))
    both_leave d2 leaves =
        let P = IsBeforeOrGiven given (standing_at bytes at) (packed ++ later) in
        LeavesOnly-trans M d0 d1 d2 P (IsBeforeOrGiven given (standing_at closed_now at) (packed ++ later)) P stores.any_moment leaves (λ left is. is)
        (λ left is. left_too given (packed ++ later) (standing_at bytes at) left (subst (λ s. IsBeforeOrGiven given s (packed ++ later) left) shut_now is))

    pub both_switch : {Y F : Type 0} (d2 : D) (result : Result Y F) → Switches M d1 d2 at place packed later given closed_now result
        → Switches M {X = Y} {E = F} d0 d2 at place packed later given bytes result
    both_switch d2 (Ok y) second = record {
      any_moment = both_leave d2 second.any_moment;
      done = (
        second.done.0,
        second.done.1,
        record { log = second.done.2.log; stands = second.done.2.stands ∙ ap done shut_now },
        record {
          number_is = second.done.3.number_is ∙ ap (λ n. n + 1) stores.done.2;
          place_is = second.done.3.place_is;
          size_is = second.done.3.size_is;
        },
        second.done.4,
      );
    }
    both_switch d2 (Err f) second = record { any_moment = both_leave d2 second.any_moment; done = tt }

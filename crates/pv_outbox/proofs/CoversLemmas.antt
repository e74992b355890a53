-- Outputs are still found after each change.
use Rattle.std.proofs.Common.{◌≡◌, ⊎_elim, ℕ, ℤ, ◌<◌, ◌≤◌, ◌+◌, ◌==◌, Bool, true, false, Option, Some, None, List, [], ◌∷◌, ◌++◌, length, refl, sym, ap, subst, ◌∙◌, arith}
use Rattle.std.specs.Prelude.{slice_get, All, IfSome, IsTrue, if◌then◌else◌}
use Rattle.std.specs.List.{Contains}
use Rattle.std.specs.Option.{is_some}
use Rattle.std.proofs.lemmas.Bool.{true≢false, false_from_ne_true, eqb-true, eqb-false}
use Rattle.std.proofs.lemmas.Option.{none-some, slice_get_within}
use Rattle.pv_base.specs.Assignment.{is_same_txn}
use Rattle.pv_base.specs.Polyvalue.{Case, names}
use Rattle.pv_base.specs.declared.txn.TxnId.{TxnId}
use Rattle.pv_base.proofs.AssignmentLemmas.{same-eq}
use Rattle.pv_base.proofs.Basics.{Some_inj}
use Rattle.pv_base.proofs.ContainsLemmas.{Contains-nil}
use Rattle.pv_law_outbox.specs.State.{held, learnt, taken, Held, State, is_held, outcome_of, is_taken, after}
use Rattle.pv_law_outbox.proofs.StateLemmas.{kept-after, after-learnt}
use Rattle.pv_outbox.specs.Covers.{Queued, HasAll, MayGo, IsFound, CoversBelow, Covers, WaitsIfUnknown, waits_for}
use Rattle.pv_outbox.specs.Next.{IsFirst, NoneMayGo}
use Rattle.pv_outbox.proofs.CertainLemmas.{certain-apart}
use Rattle.pv_outbox.proofs.ListLemmas.{slice_get-last}

pub all-same : (queue : Queued) → HasAll queue queue
all-same queue = record { candidates = λ place is. is; waiting = λ txn place is. is }

pub all-trans : (old mid new : Queued) → HasAll old mid → HasAll mid new → HasAll old new
all-trans old mid new first second = record {
  candidates = λ place is. second.candidates place (first.candidates place is);
  waiting = λ txn place is. second.waiting txn place (first.waiting txn place is);
}

-- What is found is found still.
pub ruleset found_still = (all-same, all-trans)

found-more : (state : State) (old new : Queued) (place : ℕ) (entry : Held) → HasAll old new → IsFound state old place entry → IsFound state new place entry
found-more state old new place entry all found = record {
  ready = λ may. all.candidates place (found.ready may);
  waits = λ txn named unknown. all.waiting txn place (found.waits txn named unknown);
}

pub covers-more : (state : State) (old new : Queued) → HasAll old new → Covers state old → Covers state new
covers-more state old new all covers = λ place entry there. found-more state old new place entry all (covers place entry there)

-- The outputs below a place, one after another.

pub covers-none : (state : State) (queue : Queued) → CoversBelow 0 state queue
covers-none state queue = λ place entry below there. absurd (omega (arith, below))

-- One output more is found, whose condition is this one.
pub covers-added : (state : State) (old new : Queued) (end : ℕ) (when : List (Case ℤ)) → IfSome (slice_get state.held end) (λ (entry : Held). entry.1 ≡ when) → HasAll old new
    → Contains new.candidates end → ((txn : TxnId) → IsTrue (names when txn) → WaitsIfUnknown state new end txn) → CoversBelow end state old → CoversBelow (end + 1) state new
covers-added state old new end when said all candidate waits covers = λ place entry below there. by place entry there (place == end) refl below
  where
    here : (entry : Held) → slice_get state.held end ≡ Some entry → IsFound state new end entry
    here entry there =
        let is : entry.1 ≡ when = subst (λ (found : Option Held). IfSome found (λ (e : Held). e.1 ≡ when)) there said in
        record { ready = λ may. candidate; waits = λ txn named. waits txn (subst (λ (cases : List (Case ℤ)). IsTrue (names cases txn)) is named) }

    by : (place : ℕ) (entry : Held) → slice_get state.held place ≡ Some entry → (b : Bool) → (place == end) ≡ b → place < end + 1 → IsFound state new place entry
    by place entry there true same below =
        let is : place ≡ end = omega (arith, eqb-true place end same) in
        subst (λ p. IsFound state new p entry) (sym is) (here entry (ap (slice_get state.held) (sym is) ∙ there))
    by place entry there false apart below =
        found-more state old new place entry all (covers place entry (omega (arith, below, eqb-false place end apart)) there)

pub covers-whole : (state : State) (queue : Queued) → CoversBelow (length state.held) state queue → Covers state queue
covers-whole state queue covers = λ place entry there. covers place entry (slice_get_within state.held place entry there) there

-- One output more is held.
module _ (state : State) (old new : Queued) (output : ℕ) (when : List (Case ℤ)) (fresh : is_held state output ≡ false) (all : HasAll old new) (covers : Covers state old) where
  abbrev then_held : State
  then_held = record state { held = state.held ++ (output, when) ∷ [] }

  held-found : (place : ℕ) (entry : Held) → IsFound state new place entry → IsFound then_held new place entry
  held-found place entry found = record {
    ready = λ may. found.ready (record { untaken = may.untaken; certain = may.certain });
    waits = found.waits;
  }

  pub covers-held : Contains new.candidates (length state.held)
      → ((txn : TxnId) → IsTrue (names when txn) → WaitsIfUnknown state new (length state.held) txn)
      → Covers (after state (held output when)) new
  covers-held candidate waits =
      subst (λ (s : State). Covers s new) (sym (ap (λ (b : Bool). if b then state else then_held) fresh))
      (λ place entry there.
      ⊎_elim
      (λ was. held-found place entry (found-more state old new place entry all (covers place entry was)))
      (λ last.
      subst (λ p. IsFound then_held new p entry) (sym last.0)
      (subst (λ e. IsFound then_held new (length state.held) e) last.1
      (record { ready = λ may. candidate; waits = waits })))
      (slice_get-last state.held (output, when) place entry there))

-- One outcome more is known.
module _ (state : State) (txn : TxnId) (commits : Bool) (unknown : outcome_of state txn ≡ None) where
  abbrev then_learnt : State
  then_learnt = record state { outcomes = state.outcomes ++ (txn, commits) ∷ [] }

  after-is : after state (learnt txn commits) ≡ then_learnt
  after-is = ap (λ (found : Option Bool). if is_some found then state else then_learnt) unknown

  -- A transaction whose outcome isn't known then has none known before, and is another.
  still-unknown : (other : TxnId) → outcome_of then_learnt other ≡ None → outcome_of state other ≡ None
  still-unknown other none = by (outcome_of state other) refl
    where
      by : (found : Option Bool) → outcome_of state other ≡ found → outcome_of state other ≡ None
      by None is = is
      by (Some outcome) is =
          absurd (none-some outcome
          (sym none ∙ ap (λ (s : State). outcome_of s other) (sym after-is) ∙ (kept-after state (learnt txn commits)).outcomes other outcome is))

  another : (other : TxnId) → outcome_of then_learnt other ≡ None → is_same_txn other txn ≡ false
  another other none =
      false_from_ne_true (is_same_txn other txn)
      (λ same. none-some commits
      (sym none ∙ ap (outcome_of then_learnt) (same-eq {t = other} {u = txn} same) ∙ ap (λ (s : State). outcome_of s txn) (sym after-is) ∙ after-learnt state txn commits unknown))

  module _ (old new : Queued) (all : HasAll old new) (woken : (place : ℕ) → waits_for old.waiting txn place ≡ true → Contains new.candidates place) where
    ready-then : (place : ℕ) (entry : Held) → IsFound state old place entry → MayGo then_learnt entry → (b : Bool) → names entry.1 txn ≡ b → Contains new.candidates place
    ready-then place entry found may true named = woken place (found.waits txn named unknown)
    ready-then place entry found may false unnamed =
        all.candidates place (found.ready (record { untaken = may.untaken; certain = sym (certain-apart state.outcomes txn commits entry.1 unnamed) ∙ may.certain }))

    pub covers-learnt : Covers state old → Covers (after state (learnt txn commits)) new
    covers-learnt covers =
        subst (λ (s : State). Covers s new) (sym after-is)
        (λ place entry there. record {
          ready = λ may. ready-then place entry (covers place entry there) may (names entry.1 txn) refl;
          waits = λ other named none. all.waiting other place ((covers place entry there).waits other named (still-unknown other none));
        })

  -- None waits for the transaction any more.
  pub covers-forgot : (old new : Queued) → new.candidates ≡ old.candidates
      → ((other : TxnId) (place : ℕ) → is_same_txn other txn ≡ false → waits_for new.waiting other place ≡ waits_for old.waiting other place)
      → Covers (after state (learnt txn commits)) old → Covers (after state (learnt txn commits)) new
  covers-forgot old new candidates waiting covers =
      λ place entry there. record {
        ready = λ may. subst (λ (places : List ℕ). Contains places place) (sym candidates) ((covers place entry there).ready may);
        waits = λ other named none.
            waiting other place (another other (ap (λ (s : State). outcome_of s other) (sym after-is) ∙ none)) ∙ (covers place entry there).waits other named none;
      }

-- One output more is released.

untaken-before : (state : State) (output other : ℕ) → is_taken (after state (taken output)) other ≡ false → is_taken state other ≡ false
untaken-before state output other untaken =
    false_from_ne_true (is_taken state other) (λ is. true≢false (sym ((kept-after state (taken output)).taken other is) ∙ untaken))

released-by : (b : Bool) (state : State) (output : ℕ) (queue : Queued) → Covers state queue
    → ((other : ℕ) → is_taken (if b then state else record state { taken = state.taken ++ output ∷ [] }) other ≡ false → is_taken state other ≡ false)
    → Covers (if b then state else record state { taken = state.taken ++ output ∷ [] }) queue
released-by true state output queue covers before = covers
released-by false state output queue covers before = λ place entry there. record {
  ready = λ may. (covers place entry there).ready (record { untaken = before entry.0 may.untaken; certain = may.certain });
  waits = (covers place entry there).waits;
}

pub covers-taken : (state : State) (output : ℕ) (queue : Queued) → Covers state queue → Covers (after state (taken output)) queue
covers-taken state output queue covers = released-by (is_taken state output) state output queue covers (λ other. untaken-before state output other)

-- A candidate is dropped that may not be released.
pub covers-dropped : (state : State) (old new : Queued) (dropped : ℕ) → new.waiting ≡ old.waiting → slice_get old.candidates 0 ≡ Some dropped
    → ((place : ℕ) → Contains old.candidates place → (slice_get old.candidates 0 ≡ Some place → ⊥) → Contains new.candidates place)
    → ((entry : Held) → slice_get state.held dropped ≡ Some entry → MayGo state entry → ⊥) → Covers state old → Covers state new
covers-dropped state old new dropped waiting first others not covers = λ place entry there. record {
  ready = λ may.
      others place ((covers place entry there).ready may)
      (λ is. not entry (ap (slice_get state.held) (Some_inj (sym first ∙ is)) ∙ there) may);
  waits = λ txn named unknown. ap (λ w. waits_for w txn place) waiting ∙ (covers place entry there).waits txn named unknown;
}

-- The least candidate is the first output that may be released, if it may.
pub first-found : (state : State) (queue : Queued) (place output : ℕ) → Covers state queue → All (λ there. place ≤ there) queue.candidates
    → ((entry : Held) × (slice_get state.held place ≡ Some entry) × (entry.0 ≡ output) × MayGo state entry) → IsFirst state output
first-found state queue place output covers least found = record {
  place = place;
  entry = found.0;
  there = found.1;
  output_is = found.2;
  may = found.3;
  none = λ other entry below there may.
      let is = (covers other entry there).ready may in
      omega (arith, below, least is.0 other is.1, is.2);
}

-- Where there is no candidate, none may be released.
pub none-found : (state : State) (queue : Queued) → Covers state queue → queue.candidates ≡ [] → NoneMayGo state
none-found state queue covers empty = λ place entry there may.
    Contains-nil place (subst (λ (places : List ℕ). Contains places place) empty ((covers place entry there).ready may))

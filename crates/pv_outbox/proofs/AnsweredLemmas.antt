-- What is answered is gone by the run's events; what a `take` that stopped leaves; and an act in the midst of a life is an event in the midst of its run.
use Rattle.std.proofs.Common.{◌≡◌, ◌⊎◌, inl, inr, ℕ, suc, Bool, true, false, Option, Some, None, Result, Ok, Err, List, [], ◌∷◌, ◌++◌, refl, sym, ap, subst, ◌∙◌, arith}
use Rattle.std.specs.Prelude.{◌≢◌, All}
use Rattle.std.specs.List.{AllPairs}
use Rattle.std.proofs.lemmas.List.Elements.{All-cons, All-nil, All-head, All-tail}
use Rattle.std.proofs.lemmas.List.Kept.{AllPairs-cons}
use Rattle.pv_disk_model.specs.LogModel.{LogModel}
use Rattle.pv_law_outbox.specs.Ready.{IsNext, NoneReady}
use Rattle.pv_law_outbox.specs.Runs.{Event, Happens, IsWritten, breaks, gone_by, gone, passes}
use Rattle.pv_law_outbox.specs.State.{Record, state_of, taken}
use Rattle.pv_law_outbox.proofs.ReadyLemmas.{next-none}
use Rattle.pv_law_outbox.proofs.RunLemmas.{gone-append}
use Rattle.pv_outbox.specs.Calls.{Takes}
use Rattle.pv_outbox.specs.Life.{hold, learn, take, Act, answers, cuts, stops, opens, stays_closed, IsBreak, IsEvent, IsStoppedTake, IsTakenOrNot, AreEvents, answered_by, answered}
use Rattle.pv_outbox.specs.OutboxState.{OutboxState}
use Rattle.pv_outbox.specs.declared.error.BoxError.{BoxError}
use Rattle.pv_outbox.specs.declared.error.BoxError.TheVariants.{Again, Known, Failed, Down, Full, NoMemory}

-- Some elements are left out of a list.
data IsFrom : List ℕ → List ℕ → Type 0 where
  from_none : IsFrom [] []
  left_out : (x : ℕ) (xs ys : List ℕ) → IsFrom xs ys → IsFrom xs (x ∷ ys)
  left_in : (x : ℕ) (xs ys : List ℕ) → IsFrom xs ys → IsFrom (x ∷ xs) (x ∷ ys)

all-from : (P : ℕ → Type 0) (xs ys : List ℕ) → IsFrom xs ys → All P ys → All P xs
all-from P _ _ from_none all = All-nil P
all-from P _ _ (left_out x xs ys from) all = all-from P xs ys from (All-tail P x ys all)
all-from P _ _ (left_in x xs ys from) all = All-cons P x xs (All-head P x ys all) (all-from P xs ys from (All-tail P x ys all))

pairs-tail : (R : ℕ → ℕ → Type 0) (y : ℕ) (ys : List ℕ) → AllPairs R (y ∷ ys) → AllPairs R ys
pairs-tail R y ys pairs = λ i j d below within. pairs (suc i) (suc j) d (omega (arith, below)) (omega (arith, within))

pairs-head : (R : ℕ → ℕ → Type 0) (y : ℕ) (ys : List ℕ) → AllPairs R (y ∷ ys) → All (R y) ys
pairs-head R y ys pairs = λ k d within. pairs 0 (suc k) d (omega arith) (omega (arith, within))

pairs-from : (R : ℕ → ℕ → Type 0) (xs ys : List ℕ) → IsFrom xs ys → AllPairs R ys → AllPairs R xs
pairs-from R _ _ from_none pairs = pairs
pairs-from R _ _ (left_out x xs ys from) pairs = pairs-from R xs ys from (pairs-tail R x ys pairs)
pairs-from R _ _ (left_in x xs ys from) pairs =
    AllPairs-cons R x xs (all-from (R x) xs ys from (pairs-head R x ys pairs)) (pairs-from R xs ys from (pairs-tail R x ys pairs))

more-left-out : (more xs ys : List ℕ) → IsFrom xs ys → IsFrom xs (more ++ ys)
more-left-out [] xs ys from = from
more-left-out (x ∷ more) xs ys from = left_out x xs (more ++ ys) (more-left-out more xs ys from)

from-by : (act : Act) (event : Event) (xs ys : List ℕ) → IsEvent act event → IsFrom xs ys → IsFrom (answered_by act ++ xs) (gone_by event ++ ys)
from-by (answers (hold output when answer)) event xs ys is from = more-left-out (gone_by event) xs ys from
from-by (answers (learn txn commits answer)) event xs ys is from = more-left-out (gone_by event) xs ys from
from-by (answers (take (Ok (Some output)))) event xs ys is from =
    subst (λ (e : Event). IsFrom (output ∷ xs) (gone_by e ++ ys)) (sym is) (left_in output xs ys from)
from-by (answers (take (Ok None))) event xs ys is from = more-left-out (gone_by event) xs ys from
from-by (answers (take (Err e))) event xs ys is from = more-left-out (gone_by event) xs ys from
from-by (cuts call) event xs ys is from = more-left-out (gone_by event) xs ys from
from-by stops event xs ys is from = more-left-out (gone_by event) xs ys from
from-by opens event xs ys is from = more-left-out (gone_by event) xs ys from
from-by stays_closed event xs ys is from = more-left-out (gone_by event) xs ys from

answered-from : (acts : List Act) (events : List Event) → AreEvents acts events → IsFrom (answered acts) (gone events)
answered-from [] [] are = from_none
answered-from [] (event ∷ events) are = absurd are
answered-from (act ∷ acts) [] are = absurd are
answered-from (act ∷ acts) (event ∷ events) are = from-by act event (answered acts) (gone events) are.0 (answered-from acts events are.1)

pub answered-once : (acts : List Act) (events : List Event) → AreEvents acts events → AllPairs (λ output later. output ≢ later) (gone events)
    → AllPairs (λ output later. output ≢ later) (answered acts)
answered-once acts events are pairs = pairs-from (λ output later. output ≢ later) (answered acts) (gone events) (answered-from acts events are) pairs

-- What is gone by no event is answered by no act.
answered-never : (output : ℕ) (acts : List Act) (events : List Event) → AreEvents acts events → All (λ other. output ≢ other) (gone events) → All (λ other. output ≢ other) (answered acts)
answered-never output acts events are never = all-from (λ other. output ≢ other) (answered acts) (gone events) (answered-from acts events are) never

-- An element that differs from each other one differs from those before it and from those behind it.
apart-before : (output : ℕ) (xs ys : List ℕ) → AllPairs (λ one later. one ≢ later) (xs ++ output ∷ ys) → All (λ other. output ≢ other) xs
apart-before output [] ys pairs = All-nil (λ other. output ≢ other)
apart-before output (x ∷ xs) ys pairs =
    All-cons (λ other. output ≢ other) x xs
    (λ same. at-last (λ later. x ≢ later) xs output ys (pairs-head (λ one later. one ≢ later) x (xs ++ output ∷ ys) pairs) (sym same))
    (apart-before output xs ys (pairs-tail (λ one later. one ≢ later) x (xs ++ output ∷ ys) pairs))
  where
    at-last : (P : ℕ → Type 0) (xs : List ℕ) (y : ℕ) (ys : List ℕ) → All P (xs ++ y ∷ ys) → P y
    at-last P [] y ys all = All-head P y ys all
    at-last P (x ∷ xs) y ys all = at-last P xs y ys (All-tail P x (xs ++ y ∷ ys) all)

apart-behind : (output : ℕ) (xs ys : List ℕ) → AllPairs (λ one later. one ≢ later) (xs ++ output ∷ ys) → All (λ other. output ≢ other) ys
apart-behind output [] ys pairs = pairs-head (λ one later. one ≢ later) output ys pairs
apart-behind output (x ∷ xs) ys pairs = apart-behind output xs ys (pairs-tail (λ one later. one ≢ later) x (xs ++ output ∷ ys) pairs)

-- What the event of a `take` that stopped leaves.
module _ (before since : List Act) (front back : List Event) (old new : List Record) (first : AreEvents before front) (rest : AreEvents since back) where
  left-broken : (entry : Record) (written : Bool) → (output : ℕ) × (entry ≡ taken output) → Happens old (breaks entry written) new
      → AllPairs (λ one later. one ≢ later) (gone (front ++ breaks entry written ∷ back)) → IsTakenOrNot old new before since
  left-broken entry false is happens once = inl happens.1
  left-broken entry true (output, is) happens once = inr (output, next, written, answered-never output before front first never, answered-never output since back rest gone-never)
    where
      writes : IsWritten old (taken output) new
      writes = subst (λ (e : Record). IsWritten old e new) is happens

      next : IsNext (state_of old) output
      next = writes.may

      written : new ≡ old ++ taken output ∷ []
      written = writes.written

      pairs : AllPairs (λ one later. one ≢ later) (gone front ++ output ∷ gone back)
      pairs =
          subst (AllPairs (λ one later. one ≢ later))
          (ap (λ (e : Record). gone (front ++ breaks e true ∷ back)) is ∙ gone-append front (breaks (taken output) true ∷ back)) once

      never : All (λ other. output ≢ other) (gone front)
      never = apart-before output (gone front) (gone back) pairs

      gone-never : All (λ other. output ≢ other) (gone back)
      gone-never = apart-behind output (gone front) (gone back) pairs

  pub left-by : (answer : Result (Option ℕ) BoxError) (event : Event) → (event ≡ passes) ⊎ IsBreak (take answer) event → Happens old event new
      → AllPairs (λ one later. one ≢ later) (gone (front ++ event ∷ back)) → IsTakenOrNot old new before since
  left-by answer event (inl is) happens once = inl (subst (λ (e : Event). Happens old e new) is happens)
  left-by answer event (inr (entry, written, of, is)) happens once =
      left-broken entry written of (subst (λ (e : Event). Happens old e new) is happens)
      (subst (λ (e : Event). AllPairs (λ one later. one ≢ later) (gone (front ++ e ∷ back))) is once)

-- Where none is ready a `take` answers that.
pub none-answered : {W : Type 0} (M : LogModel W) (old new : OutboxState W) → NoneReady old.state old.state.held → (answer : Result (Option ℕ) BoxError) → Takes M old new answer
    → (answer ≡ Ok None) × (new ≡ old)
none-answered M old new none (Ok None) takes = (refl, takes.1)
none-answered M old new none (Ok (Some output)) takes = absurd (next-none old.state output none takes.0)
none-answered M old new none (Err e) takes = absurd (next-none old.state takes.0 none takes.1)

-- The event of such a `take` passes, or breaks at its record.
pub record IsStopped (event : Event) : Type 0 where
  pub answer : Result (Option ℕ) BoxError
  pub is : (event ≡ passes) ⊎ IsBreak (take answer) event

pub stopped-is : (act : Act) (event : Event) → IsStoppedTake act → IsEvent act event → IsStopped event
stopped-is (cuts (take answer)) event stopped is = record { answer = answer; is = is }
stopped-is (answers (take (Err Failed))) event stopped is = record { answer = Err Failed; is = inr is }
stopped-is (cuts (hold output when answer)) event stopped is = absurd stopped
stopped-is (cuts (learn txn commits answer)) event stopped is = absurd stopped
stopped-is (answers (hold output when answer)) event stopped is = absurd stopped
stopped-is (answers (learn txn commits answer)) event stopped is = absurd stopped
stopped-is (answers (take (Ok output))) event stopped is = absurd stopped
stopped-is (answers (take (Err Again))) event stopped is = absurd stopped
stopped-is (answers (take (Err (Known outcome)))) event stopped is = absurd stopped
stopped-is (answers (take (Err Down))) event stopped is = absurd stopped
stopped-is (answers (take (Err (Full with_it)))) event stopped is = absurd stopped
stopped-is (answers (take (Err NoMemory))) event stopped is = absurd stopped
stopped-is stops event stopped is = absurd stopped
stopped-is opens event stopped is = absurd stopped
stopped-is stays_closed event stopped is = absurd stopped

-- The events before an act, its event, and those since.
pub record IsParted (before : List Act) (act : Act) (since : List Act) (events : List Event) : Type 0 where
  pub front : List Event
  pub event : Event
  pub back : List Event
  pub whole : events ≡ front ++ event ∷ back
  pub first : AreEvents before front
  pub is : IsEvent act event
  pub rest : AreEvents since back

pub parted : (before : List Act) (act : Act) (since : List Act) (events : List Event) → AreEvents (before ++ act ∷ since) events → IsParted before act since events
parted [] act since [] are = absurd are
parted [] act since (event ∷ events) are = record { front = []; event = event; back = events; whole = refl; first = tt; is = are.0; rest = are.1 }
parted (other ∷ before) act since [] are = absurd are
parted (other ∷ before) act since (event ∷ events) are =
    let rest = parted before act since events are.1 in
    record {
      front = event ∷ rest.front;
      event = rest.event;
      back = rest.back;
      whole = ap (λ (more : List Event). event ∷ more) rest.whole;
      first = (are.0, rest.first);
      is = rest.is;
      rest = rest.rest;
    }

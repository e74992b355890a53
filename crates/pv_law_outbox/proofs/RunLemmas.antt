-- Runs: what is said is said still, and what is gone doesn't come back.
use Rattle.std.proofs.Common.{◌≡◌, ℕ, ℤ, Bool, true, false, Some, List, [], ◌∷◌, ◌++◌, refl, sym, ap, subst, ◌∙◌, arith}
use Rattle.std.specs.Prelude.{◌≢◌, All}
use Rattle.std.specs.List.{AllPairs}
use Rattle.std.proofs.lemmas.Bool.{true≢false}
use Rattle.std.proofs.lemmas.List.{append_assoc}
use Rattle.std.proofs.lemmas.List.Elements.{All-cons, All-nil}
use Rattle.std.proofs.lemmas.List.Kept.{AllPairs-cons}
use Rattle.pv_base.specs.Polyvalue.{Case}
use Rattle.pv_base.specs.declared.txn.TxnId.{TxnId}
use Rattle.pv_law_outbox.specs.Ready.{IsNext}
use Rattle.pv_law_outbox.specs.Runs.{Event, holds, holds_already, learns, knows_already, releases, has_none, breaks, passes, IsWritten, Happens, Run, gone_by, gone, IsKept}
use Rattle.pv_law_outbox.specs.State.{Record, held, learnt, taken, State, condition_of, outcome_of, is_taken, after, state_of}
use Rattle.pv_law_outbox.proofs.StateLemmas.{state_of-last, kept-refl, kept-trans, kept-after, after-held, after-learnt, after-taken}

-- One event.

said-with : (old : List Record) (entry : Record) (new : List Record) → IsWritten old entry new → state_of new ≡ after (state_of old) entry
said-with old entry new written = ap state_of written.written ∙ state_of-last old entry

kept-written : (old : List Record) (entry : Record) (new : List Record) → IsWritten old entry new → IsKept (state_of old) (state_of new)
kept-written old entry new written = subst (IsKept (state_of old)) (sym (said-with old entry new written)) (kept-after (state_of old) entry)

kept-same : (old new : List Record) → new ≡ old → IsKept (state_of old) (state_of new)
kept-same old new same = subst (λ (entries : List Record). IsKept (state_of old) (state_of entries)) (sym same) (kept-refl (state_of old))

pub kept-by : (old : List Record) (event : Event) (new : List Record) → Happens old event new → IsKept (state_of old) (state_of new)
kept-by old (holds output when) new happens = kept-written old (held output when) new happens
kept-by old (holds_already output) new happens = kept-same old new happens.1
kept-by old (learns txn commits) new happens = kept-written old (learnt txn commits) new happens
kept-by old (knows_already txn commits) new happens = kept-same old new happens.1
kept-by old (releases output) new happens = kept-written old (taken output) new happens
kept-by old has_none new happens = kept-same old new happens.1
kept-by old (breaks entry true) new happens = kept-written old entry new happens
kept-by old (breaks entry false) new happens = kept-same old new happens.1
kept-by old passes new happens = kept-same old new happens

pub kept-in : (old : List Record) (events : List Event) (new : List Record) → Run old events new → IsKept (state_of old) (state_of new)
kept-in old [] new run = kept-same old new run
kept-in old (event ∷ events) new run =
    kept-trans (state_of old) (state_of run.0) (state_of new) (kept-by old event run.0 run.1) (kept-in run.0 events new run.2)

-- What is gone wasn't before, and is from then on.

pub record IsGone (old new : State) (output : ℕ) : Type 0 where
  pub before : is_taken old output ≡ false
  pub then_ : is_taken new output ≡ true

gone-written : (old : List Record) (output : ℕ) (new : List Record) → IsWritten old (taken output) new → IsGone (state_of old) (state_of new) output
gone-written old output new written =
    let next : IsNext (state_of old) output = written.may in
    record {
      before = subst (λ o. is_taken (state_of old) o ≡ false) next.output_is next.ready.untaken;
      then_ = ap (λ (state : State). is_taken state output) (said-with old (taken output) new written) ∙ after-taken (state_of old) output;
    }

-- One more output is gone, or none.
module _ (old new : State) (later : List ℕ) where
  pub data MayGo : List ℕ → Type 0 where
    none : MayGo later
    one : (output : ℕ) → IsGone old new output → MayGo (output ∷ later)

go-by : (old : List Record) (event : Event) (new : List Record) (later : List ℕ) → Happens old event new → MayGo (state_of old) (state_of new) later (gone_by event ++ later)
go-by old (holds output when) new later happens = none
go-by old (holds_already output) new later happens = none
go-by old (learns txn commits) new later happens = none
go-by old (knows_already txn commits) new later happens = none
go-by old (releases output) new later happens = one output (gone-written old output new happens)
go-by old has_none new later happens = none
go-by old (breaks (held output when) true) new later happens = none
go-by old (breaks (learnt txn commits) true) new later happens = none
go-by old (breaks (taken output) true) new later happens = one output (gone-written old output new happens)
go-by old (breaks (held output when) false) new later happens = none
go-by old (breaks (learnt txn commits) false) new later happens = none
go-by old (breaks (taken output) false) new later happens = none
go-by old passes new later happens = none

not-gone : (old new : State) (later all : List ℕ) (output : ℕ) → is_taken old output ≡ true → All (λ other. output ≢ other) later
    → MayGo old new later all → All (λ other. output ≢ other) all
not-gone old new later _ output is rest none = rest
not-gone old new later _ output is rest (one other gone) =
    All-cons (λ other. output ≢ other) other later (λ same. true≢false (sym is ∙ ap (is_taken old) same ∙ gone.before)) rest

-- What is released before some events isn't gone by them.
pub never-again : (old : List Record) (events : List Event) (new : List Record) → Run old events new → (output : ℕ) → is_taken (state_of old) output ≡ true
    → All (λ other. output ≢ other) (gone events)
never-again old [] new run output is = All-nil (λ other. output ≢ other)
never-again old (event ∷ events) new run output is =
    not-gone (state_of old) (state_of run.0) (gone events) (gone_by event ++ gone events) output is
    (never-again run.0 events new run.2 output ((kept-by old event run.0 run.1).taken output is))
    (go-by old event run.0 (gone events) run.1)

apart-with : (old new : State) (later all : List ℕ) → ((output : ℕ) → is_taken new output ≡ true → All (λ other. output ≢ other) later)
    → AllPairs (λ output other. output ≢ other) later → MayGo old new later all → AllPairs (λ output other. output ≢ other) all
apart-with old new later _ never rest none = rest
apart-with old new later _ never rest (one output gone) = AllPairs-cons (λ output other. output ≢ other) output later (never output gone.then_) rest

-- No output is gone twice.
pub gone-once : (old : List Record) (events : List Event) (new : List Record) → Run old events new → AllPairs (λ output other. output ≢ other) (gone events)
gone-once old [] new run = λ i j d below within. absurd (omega (arith, within))
gone-once old (event ∷ events) new run =
    apart-with (state_of old) (state_of run.0) (gone events) (gone_by event ++ gone events)
    (λ output is. never-again run.0 events new run.2 output is)
    (gone-once run.0 events new run.2)
    (go-by old event run.0 (gone events) run.1)

pub gone-append : (events more : List Event) → gone (events ++ more) ≡ gone events ++ gone more
gone-append [] more = refl
gone-append (event ∷ events) more =
    ap (λ (rest : List ℕ). gone_by event ++ rest) (gone-append events more) ∙ sym (append_assoc (gone_by event) (gone events) (gone more))

-- A run in two parts, at an event.

pub record IsAt (old : List Record) (before : List Event) (event : Event) (since : List Event) (new : List Record) : Type 0 where
  pub mid : List Record
  pub next : List Record
  pub run : Run old before mid
  pub happens : Happens mid event next
  pub rest : Run next since new

pub at-event : (old : List Record) (before : List Event) (event : Event) (since : List Event) (new : List Record) → Run old (before ++ event ∷ since) new
    → IsAt old before event since new
at-event old [] event since new run = record { mid = old; next = run.0; run = refl; happens = run.1; rest = run.2 }
at-event old (first ∷ before) event since new run =
    let at = at-event run.0 before event since new run.2 in
    record { mid = at.mid; next = at.next; run = (run.0, run.1, at.run); happens = at.happens; rest = at.rest }

-- What a call wrote and answered is said to the end.

pub held-stays : (old : List Record) (output : ℕ) (when : List (Case ℤ)) (new : List Record) → Happens old (holds output when) new
    → condition_of (state_of new) output ≡ Some when
held-stays old output when new happens =
    ap (λ (state : State). condition_of state output) (said-with old (held output when) new happens) ∙ after-held (state_of old) output when happens.may

pub learnt-stays : (old : List Record) (txn : TxnId) (commits : Bool) (new : List Record) → Happens old (learns txn commits) new
    → outcome_of (state_of new) txn ≡ Some commits
learnt-stays old txn commits new happens =
    ap (λ (state : State). outcome_of state txn) (said-with old (learnt txn commits) new happens) ∙ after-learnt (state_of old) txn commits happens.may

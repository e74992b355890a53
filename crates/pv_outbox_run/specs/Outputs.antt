-- What is promised of the outputs of a script: each is released at most once, when it is ready, and what was held or learnt is never lost.
use Rattle.std.specs.Prelude.{◌≡◌, ◌≢◌, ◌⊎◌, ℕ, ℤ, Bool, true, List, [], ◌∷◌, ◌++◌, Some, All}
use Rattle.std.specs.List.{AllPairs}
use Rattle.pv_base.specs.Polyvalue.{Case}
use Rattle.pv_base.specs.declared.txn.TxnId.{TxnId}
use Rattle.pv_law_outbox.specs.Ready.{IsNext, NoneReady}
use Rattle.pv_law_outbox.specs.State.{condition_of, is_taken, outcome_of, state_of, taken}
use Rattle.pv_outbox_run.specs.Box.{Box}
use Rattle.pv_outbox_run.specs.Does.{Does, Runs}
use Rattle.pv_outbox_run.specs.ToldText.{broke}
use Rattle.pv_outbox_run.specs.declared.told.Told.{Told}
use Rattle.pv_outbox_run.specs.declared.told.Told.TheVariants.{Held, Learnt, Out, Nothing}
use Rattle.pv_outbox_script.specs.declared.event.Event.{Event}
use Rattle.pv_outbox_script.specs.declared.event.Event.TheVariants.{Hold, Learn, Take}

-- the output of a line `out N`
abbrev pub out_of : Told → List ℕ
out_of (Out output) = output ∷ []
out_of _ = []

-- the outputs of all lines `out N`, in their order
abbrev pub outs : List Told → List ℕ
outs [] = []
outs (said ∷ says) = out_of said ++ outs says

-- Of a run of a script from its beginning: no output is released twice.
abbrev pub AreOnce : List Told → Type 0
AreOnce says = AllPairs (λ output later. output ≢ later) (outs says)

-- No line releases this output.
abbrev pub IsNever : ℕ → List Told → Type 0
IsNever output says = All (λ other. output ≢ other) (outs says)

-- Of a `take` that stopped or failed, between these lines: no line before it releases the ready output that was held first. Its record stands, and then no line behind it does either, or nothing is
-- written.
pub record IsTakenOrNot (old new : Box) (earlier later : List Told) : Type 0 where
  pub output : ℕ
  pub next : IsNext (state_of old.entries) output
  pub before : IsNever output earlier
  pub since : ((new.entries ≡ old.entries ++ taken output ∷ []) × IsNever output later) ⊎ (new.entries ≡ old.entries)

-- What is promised of every run, with stops and faults in whatever writes and syncs.
pub record KeepsOutputs : Type 0 where
  -- No output is released twice.
  pub once : (old new : Box) (events : List Event) (says : List Told) → Runs old events says new → AreOnce says
  -- One whose record stands is never released again.
  pub never_again : (old new : Box) (events : List Event) (says : List Told) → Runs old events says new → (output : ℕ) → is_taken (state_of old.entries) output ≡ true
      → IsNever output says
  -- One that is released was the ready one that was held first.
  pub ready : (old new : Box) (output : ℕ) → Does old Take (Out output ∷ []) new → IsNext (state_of old.entries) output
  -- Where it is told that there is none, none is ready.
  pub none : (old new : Box) → Does old Take (Nothing ∷ []) new → NoneReady (state_of old.entries) (state_of old.entries).held
  -- And where none is ready an outbox that is up tells just that, and nothing changes.
  pub none_ready : (old new : Box) (says : List Told) → old.is_up ≡ true → NoneReady (state_of old.entries) (state_of old.entries).held → Does old Take says new
      → (says ≡ Nothing ∷ []) × (new ≡ old)
  -- A `take` that stopped or failed has its record or not, and where it has, that output is released nowhere in the run.
  pub stopped : (first old new last : Box) (before since : List Event) (earlier later : List Told) (stops : Bool) → Runs first before earlier old
      → Does old Take (broke stops ∷ []) new → Runs new since later last → IsTakenOrNot old new earlier later
  -- What was held and learnt is said to the end.
  pub held : (old next new : Box) (output : ℕ) (when : List (Case ℤ)) (events : List Event) (says : List Told) → Does old (Hold output when) (Held output ∷ []) next
      → Runs next events says new → condition_of (state_of new.entries) output ≡ Some when
  pub learnt : (old next new : Box) (txn : TxnId) (commits : Bool) (events : List Event) (says : List Told) → Does old (Learn txn commits) (Learnt txn ∷ []) next
      → Runs next events says new → outcome_of (state_of new.entries) txn ≡ Some commits

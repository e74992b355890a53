-- What reading a condition and the output that it is of answers.
use Rattle.std.specs.Prelude.{ℕ, ◌<◌, ◌≤◌, ℤ, List, Result, Ok, Err, ⊤}
use Rattle.pv_base.specs.Polyvalue.{Case}
use Rattle.pv_base.specs.declared.limits.TheConstants.{MAX_SITES}
use Rattle.pv_format.specs.PolyvalueSpelling.{SpellsPolyvalue}
use Rattle.pv_lines.specs.declared.cause.LineFault.{LineFault}
use Rattle.pv_lines.specs.declared.cause.LineFault.TheVariants.{At, NoMemory}
use Rattle.pv_lines.specs.declared.cause.Cause.{Cause}
use Rattle.pv_lines.specs.declared.cause.Cause.TheVariants.{BadCases}
use Rattle.pv_outbox_script.specs.Words.{HoldSays, SpellsCondition, WordsSay}
use Rattle.pv_outbox_script.specs.declared.event.Event.{Event}
use Rattle.pv_outbox_script.specs.declared.event.Event.TheVariants.{Hold, Learn, Arm}

-- as it is
abbrev pub same : {X : Type 0} → X → X
same x = x

-- A reading answers what is said, if memory doesn't run out. It may in place of all else.
abbrev pub Reads : (Result Event Cause → Type 0) → Result Event LineFault → Type 0
Reads Said (Ok event) = Said (Ok event)
Reads Said (Err (At cause)) = Said (Err cause)
Reads Said (Err NoMemory) = ⊤

abbrev pub ReadsHold : List (List ℕ) → Result Event LineFault → Type 0
ReadsHold args result = Reads (HoldSays args) result

abbrev pub ReadsWords : List (List ℕ) → Result Event LineFault → Type 0
ReadsWords words result = Reads (WordsSay words) result

-- The condition that words spell, or that they spell none.
abbrev pub ReadsCondition : List (List ℕ) → Result (List (Case ℤ)) LineFault → Type 0
ReadsCondition words (Ok when) = SpellsCondition words when
ReadsCondition words (Err (At BadCases)) = (when : List (Case ℤ)) → SpellsCondition words when → ⊥
ReadsCondition words (Err (At _)) = ⊥
ReadsCondition words (Err NoMemory) = ⊤

-- Some bytes spell the condition.
abbrev pub CanBeSpelled : List (Case ℤ) → Type 0
CanBeSpelled when = (bytes : List ℕ) × SpellsPolyvalue when bytes

-- The event has what its call needs: a condition that some bytes spell, a site below 16, or a call that there is.
abbrev pub CanHappen : Event → Type 0
CanHappen (Hold output when) = CanBeSpelled when
CanHappen (Learn txn commits) = txn.site.0 < MAX_SITES
CanHappen (Arm k mode stop) = 1 ≤ k
CanHappen _ = ⊤

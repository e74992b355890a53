-- What the words of a line of a script say, or the first cause for which they say nothing.
use Rattle.std.specs.Prelude.{◌≡◌, ℕ, ◌-◌, ◌^◌, ℤ, Bool, true, false, List, [], ◌∷◌, Option, Some, None, Result, Ok, Err, if◌then◌else◌, MatchBool, codes}
use Rattle.std.specs.Str.{bytes_eq}
use Rattle.pv_base.specs.Polyvalue.{Case, IsPolyvalue}
use Rattle.pv_base.specs.declared.limits.TheConstants.{HELD_NAMES, MAX_CALL}
use Rattle.pv_base.specs.declared.mode.Mode.{Mode}
use Rattle.pv_base.specs.declared.txn.TxnId.{TxnId}
use Rattle.pv_lines.specs.Spelled.{mode_said, number_said, truth_said, txn_said}
use Rattle.pv_lines.specs.declared.cause.Cause.{Cause}
use Rattle.pv_lines.specs.declared.cause.Cause.TheVariants.{UnknownWord, WrongCount, BadNumber, BadMode, BadCases}
use Rattle.pv_outbox_script.specs.Cases.{cases_said}
use Rattle.pv_outbox_script.specs.declared.event.Event.{Event}
use Rattle.pv_outbox_script.specs.declared.event.Event.TheVariants.{Hold, Learn, Take, Arm, Mend, Stop, Start}

-- an event whose word stands alone
abbrev pub alone_said : Event → List (List ℕ) → Result Event Cause
alone_said event [] = Ok event
alone_said event (word ∷ more) = Err WrongCount

-- a transaction with its outcome, where there are both
abbrev pub learn_with : Option TxnId → Option Bool → Result Event Cause
learn_with (Some txn) (Some commits) = Ok (Learn txn commits)
learn_with _ _ = Err BadNumber

-- `learn T yes`, `learn T no`
abbrev pub learn_said : List (List ℕ) → Result Event Cause
learn_said (txn ∷ truth ∷ []) = learn_with (txn_said txn) (truth_said truth)
learn_said _ = Err WrongCount

-- the number of a write or sync, and what it leaves
abbrev pub arm_with : Bool → Option ℕ → Option Mode → Result Event Cause
arm_with stop None mode = Err BadNumber
arm_with stop (Some k) None = Err BadMode
arm_with stop (Some k) (Some mode) = Ok (Arm k mode stop)

-- `cut K MODE`, `fail K MODE`
abbrev pub arm_said : Bool → List (List ℕ) → Result Event Cause
arm_said stop (number ∷ mode ∷ []) = arm_with stop (number_said 1 MAX_CALL number) (mode_said mode)
arm_said stop _ = Err WrongCount

-- every line but `hold`
abbrev pub plain_said : List ℕ → List (List ℕ) → Result Event Cause
plain_said word args =
    if bytes_eq word (codes "learn") then learn_said args
    else (if bytes_eq word (codes "take") then alone_said Take args
    else (if bytes_eq word (codes "cut") then arm_said true args
    else (if bytes_eq word (codes "fail") then arm_said false args
    else (if bytes_eq word (codes "mend") then alone_said Mend args
    else (if bytes_eq word (codes "stop") then alone_said Stop args
    else (if bytes_eq word (codes "start") then alone_said Start args else Err UnknownWord))))))

-- The words spell these cases, and they are a condition: canonical, and of no more transactions than a polyvalue may name.
pub record SpellsCondition (words : List (List ℕ)) (when : List (Case ℤ)) : Type 0 where
  pub said : cases_said words ≡ Some when
  pub condition : IsPolyvalue HELD_NAMES when

-- What cases after an output say.
abbrev pub CasesSay : ℕ → List (List ℕ) → Result Event Cause → Type 0
CasesSay output words (Ok event) = (when : List (Case ℤ)) × SpellsCondition words when × (event ≡ Hold output when)
CasesSay output words (Err cause) = (cause ≡ BadCases) × ((when : List (Case ℤ)) → SpellsCondition words when → ⊥)

abbrev pub HeldSays : Option ℕ → List (List ℕ) → Result Event Cause → Type 0
HeldSays None words said = said ≡ Err BadNumber
HeldSays (Some output) words said = CasesSay output words said

-- `hold N CASES`. The cases count as one word.
abbrev pub HoldSays : List (List ℕ) → Result Event Cause → Type 0
HoldSays [] said = said ≡ Err WrongCount
HoldSays (number ∷ []) said = said ≡ Err WrongCount
HoldSays (number ∷ word ∷ more) said = HeldSays (number_said 0 (2 ^ 32 - 1) number) (word ∷ more) said

-- What the words say, or the first cause for which they say nothing.
abbrev pub WordsSay : List (List ℕ) → Result Event Cause → Type 0
WordsSay [] said = said ≡ Err UnknownWord
WordsSay (word ∷ args) said = MatchBool (bytes_eq word (codes "hold")) (HoldSays args said) (said ≡ plain_said word args)

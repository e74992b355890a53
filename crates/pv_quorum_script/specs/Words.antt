-- What the words of a line say, or the first cause for which they say nothing.
use Rattle.std.specs.Prelude.{ℕ, ◌-◌, ◌^◌, nat_lt, Bool, true, false, List, [], ◌∷◌, Option, Some, None, Result, Ok, Err, if◌then◌else◌, codes}
use Rattle.std.specs.Str.{bytes_eq}
use Rattle.pv_base.specs.declared.limits.TheConstants.{MAX_CALL, MAX_PUMP}
use Rattle.pv_base.specs.declared.mode.Mode.{Mode}
use Rattle.pv_base.specs.declared.txn.TxnId.{TxnId}
use Rattle.pv_lines.specs.Spelled.{mode_said, number_said, truth_said, txn_said}
use Rattle.pv_lines.specs.declared.cause.Cause.{Cause}
use Rattle.pv_lines.specs.declared.cause.Cause.TheVariants.{DecidersExpected, UnknownWord, Twice, WrongCount, BadNumber, BadMode}
use Rattle.pv_quorum_script.specs.declared.event.QuorumEvent.{QuorumEvent}
use Rattle.pv_quorum_script.specs.declared.event.QuorumEvent.TheVariants.{Propose, Deliver, Pump, Lose, Drop, Stop, Start, Arm, Mend}

-- as it is
abbrev pub same : {X : Type 0} → X → X
same x = x

-- a number, where there is one
abbrev pub given : {X : Type 0} → Option X → Result X Cause
given None = Err BadNumber
given (Some n) = Ok n

-- what is made of what was said, if anything was
abbrev pub making : {X Y : Type 0} → (X → Y) → Result X Cause → Result Y Cause
making make (Ok x) = Ok (make x)
making make (Err cause) = Err cause

-- `deciders N`: three to five
abbrev pub count_said : List (List ℕ) → Result ℕ Cause
count_said (word ∷ []) = given (number_said 3 5 word)
count_said _ = Err WrongCount

-- a number that is below this one
abbrev pub below : ℕ → Option ℕ → Option ℕ
below count None = None
below count (Some n) = if nat_lt n count then Some n else None

-- the decider that a word spells, of so many
abbrev pub decider_said : ℕ → List ℕ → Option ℕ
decider_said count word = below count (number_said 0 255 word)

-- a decider alone
abbrev pub decider_alone : ℕ → List (List ℕ) → Result ℕ Cause
decider_alone count (word ∷ []) = given (decider_said count word)
decider_alone count _ = Err WrongCount

-- the number of a message, alone
abbrev pub message_said : List (List ℕ) → Result ℕ Cause
message_said (word ∷ []) = given (number_said 0 (2 ^ 64 - 1) word)
message_said _ = Err WrongCount

-- a decider, a transaction and its outcome, where there are all three
abbrev pub propose_with : Option ℕ → Option TxnId → Option Bool → Result QuorumEvent Cause
propose_with (Some decider) (Some txn) (Some commits) = Ok (Propose decider txn commits)
propose_with _ _ _ = Err BadNumber

-- `propose P T yes`, `propose P T no`
abbrev pub propose_said : ℕ → List (List ℕ) → Result QuorumEvent Cause
propose_said count (at ∷ txn ∷ truth ∷ []) = propose_with (decider_said count at) (txn_said txn) (truth_said truth)
propose_said count _ = Err WrongCount

-- `pump`, `pump K`
abbrev pub pump_said : List (List ℕ) → Result QuorumEvent Cause
pump_said [] = Ok (Pump None)
pump_said (word ∷ []) = making (λ most. Pump (Some most)) (given (number_said 1 MAX_PUMP word))
pump_said _ = Err WrongCount

-- a decider, the number of a write or sync, and what it leaves
abbrev pub arm_with : Bool → Option ℕ → Option ℕ → Option Mode → Result QuorumEvent Cause
arm_with stop None call mode = Err BadNumber
arm_with stop (Some decider) None mode = Err BadNumber
arm_with stop (Some decider) (Some call) None = Err BadMode
arm_with stop (Some decider) (Some call) (Some mode) = Ok (Arm decider call mode stop)

-- `cut P K MODE`, `fail P K MODE`
abbrev pub arm_said : ℕ → Bool → List (List ℕ) → Result QuorumEvent Cause
arm_said count stop (at ∷ number ∷ mode ∷ []) = arm_with stop (decider_said count at) (number_said 1 MAX_CALL number) (mode_said mode)
arm_said count stop _ = Err WrongCount

-- how many deciders there are, by the words of the first line
abbrev pub counts_by : List (List ℕ) → Result ℕ Cause
counts_by [] = Err DecidersExpected
counts_by (word ∷ args) = if bytes_eq word (codes "deciders") then count_said args else Err DecidersExpected

-- what a line says that begins with this word
abbrev pub word_says : ℕ → List ℕ → List (List ℕ) → Result QuorumEvent Cause
word_says count word args =
    if bytes_eq word (codes "propose") then propose_said count args
    else (if bytes_eq word (codes "deliver") then making Deliver (message_said args)
    else (if bytes_eq word (codes "pump") then pump_said args
    else (if bytes_eq word (codes "lose") then making Lose (message_said args)
    else (if bytes_eq word (codes "drop") then making Drop (decider_alone count args)
    else (if bytes_eq word (codes "stop") then making Stop (decider_alone count args)
    else (if bytes_eq word (codes "start") then making Start (decider_alone count args)
    else (if bytes_eq word (codes "cut") then arm_said count true args
    else (if bytes_eq word (codes "fail") then arm_said count false args
    else (if bytes_eq word (codes "mend") then making Mend (decider_alone count args)
    else (if bytes_eq word (codes "deciders") then Err Twice else Err UnknownWord))))))))))

-- What the words of a later line say, where there are so many deciders.
abbrev pub says : ℕ → List (List ℕ) → Result QuorumEvent Cause
says count [] = Err UnknownWord
says count (word ∷ args) = word_says count word args

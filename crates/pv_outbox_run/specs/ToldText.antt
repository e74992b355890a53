-- How what an event prints reads.
use Rattle.std.specs.Prelude.{ℕ, Bool, true, false, List, [], ◌∷◌, ◌++◌, codes}
use Rattle.std.specs.Fmt.{decimal}
use Rattle.pv_base.specs.Txn.{txn_text}
use Rattle.pv_outbox_run.specs.declared.told.Told.{Told}
use Rattle.pv_outbox_run.specs.declared.told.Told.TheVariants.{Held, Again, Learnt, Known, Out, Nothing, Full, Stopped, Fault, Up, Down, Started}

-- what is told where a write or a sync fired, by whether that stands for a stop
abbrev pub broke : Bool → Told
broke true = Stopped
broke false = Fault

-- a word and a number
abbrev pub numbered_line : List ℕ → ℕ → List ℕ
numbered_line word number = word ++ (decimal number ++ codes "\n")

-- what stands behind `known T`
abbrev pub outcome_text : Bool → List ℕ
outcome_text true = codes " yes\n"
outcome_text false = codes " no\n"

-- the line, with its line feed
abbrev pub told_text : Told → List ℕ
told_text (Held output) = numbered_line (codes "held ") output
told_text (Again output) = numbered_line (codes "again ") output
told_text (Learnt txn) = codes "learnt " ++ (txn_text txn ++ codes "\n")
told_text (Known txn commits) = codes "known " ++ (txn_text txn ++ outcome_text commits)
told_text (Out output) = numbered_line (codes "out ") output
told_text Nothing = codes "none\n"
told_text (Full count) = numbered_line (codes "full ") count
told_text Stopped = codes "stopped\n"
told_text Fault = codes "fault\n"
told_text Up = codes "up\n"
told_text Down = codes "down\n"
told_text Started = codes "started\n"

-- the lines, one after another
abbrev pub told_texts : List Told → List ℕ
told_texts [] = []
told_texts (told ∷ more) = told_text told ++ told_texts more

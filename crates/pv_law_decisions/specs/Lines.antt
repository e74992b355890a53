-- What a script of deciders prints.
use Rattle.std.specs.Prelude.{ℕ, Bool, true, false, List, [], ◌∷◌, ◌++◌, flat_map, codes}
use Rattle.std.specs.Fmt.{decimal}
use Rattle.pv_base.specs.Txn.{txn_text}
use Rattle.pv_law_quorum.specs.Decider as rules
use Rattle.pv_law_quorum.specs.Decider.{decided, spent, full}

pub data Line : Type 0 where
  -- what a decider reports
  told : rules.Line → Line
  -- no message has this number
  no_message : (number : ℕ) → Line
  -- a decider is down, or up already
  down : (n : ℕ) → Line
  up : (n : ℕ) → Line
  -- a decider has stopped, or its disk has failed
  stopped : (n : ℕ) → Line
  fault : (n : ℕ) → Line
  -- a decider has started
  started : (n : ℕ) → Line

-- a word, and a number after it
abbrev pub numbered_text : List ℕ → ℕ → List ℕ
numbered_text word n = word ++ (codes " " ++ (decimal n ++ codes "\n"))

-- an outcome
abbrev pub outcome_word : Bool → List ℕ
outcome_word true = codes "yes"
outcome_word false = codes "no"

-- one line as it is printed
unfoldable pub line_text : Line → List ℕ
line_text (told (decided n txn commits)) =
    codes "decided " ++ (decimal n ++ (codes " " ++ (txn_text txn ++ (codes " " ++ (outcome_word commits ++ codes "\n")))))
line_text (told (spent n)) = numbered_text (codes "spent") n
line_text (told (full n length)) = codes "full " ++ (decimal n ++ (codes " " ++ (decimal length ++ codes "\n")))
line_text (no_message number) = numbered_text (codes "no message") number
line_text (down n) = numbered_text (codes "down") n
line_text (up n) = numbered_text (codes "up") n
line_text (stopped n) = numbered_text (codes "stopped") n
line_text (fault n) = numbered_text (codes "fault") n
line_text (started n) = numbered_text (codes "started") n

-- lines as they are printed
abbrev pub lines_text : List Line → List ℕ
lines_text lines = flat_map line_text lines

-- what a line says that a decider reports
abbrev pub told_by : Line → List rules.Line
told_by (told line) = line ∷ []
told_by _ = []

-- what lines say that deciders report
abbrev pub told_of : List Line → List rules.Line
told_of lines = flat_map told_by lines

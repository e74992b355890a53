-- The cases that words spell: `V` alone, or cases parted by `;`, each a value, `if` and its literals. Each value is 0 or 1.
use Rattle.std.specs.Prelude.{ℕ, ◌==◌, ℤ, pos, Bool, true, false, List, [], ◌∷◌, ◌++◌, Option, Some, None, if◌then◌else◌, codes, option_and_then}
use Rattle.std.specs.Option.{option_map}
use Rattle.std.specs.Str.{bytes_eq}
use Rattle.pv_base.specs.Polyvalue.{Case}
use Rattle.pv_base.specs.declared.literal.Literal.{Literal}
use Rattle.pv_base.specs.declared.txn.TxnId.{TxnId}
use Rattle.pv_lines.specs.Spelled.{number_said, txn_said}
use Rattle.pv_outbox_script.specs.declared.cases.Place.{Place}
use Rattle.pv_outbox_script.specs.declared.cases.Place.TheVariants.{Value, Behind, First, Literals}

-- the literal of this transaction, if there is one
abbrev pub literal_on : Bool → Option TxnId → Option Literal
literal_on commits found = option_map (λ txn. record { txn = txn; commits = commits }) found

-- the literal that a word spells: `+` where the transaction commits, `-` where it doesn't, and the transaction
abbrev pub literal_said : List ℕ → Option Literal
literal_said [] = None
literal_said (b ∷ bs) = if b == 43 then literal_on true (txn_said bs) else (if b == 45 then literal_on false (txn_said bs) else None)

-- What some words have said: the cases that are done, and of the one that is begun its value and its literals; and what may come next.
pub record SoFar : Type 0 where
  pub done : List (Case ℤ)
  pub place : Place
  pub value : ℤ
  pub when : List Literal

-- no word was read
abbrev pub at_first : SoFar
at_first = record { done = []; place = Value; value = pos 0; when = [] }

-- the cases with the one that is begun
abbrev pub all_of : SoFar → List (Case ℤ)
all_of so_far = so_far.done ++ record { when = so_far.when; value = so_far.value } ∷ []

-- the next case begins
abbrev pub with_case : SoFar → SoFar
with_case so_far = record { done = all_of so_far; place = Value; value = so_far.value; when = [] }

abbrev pub with_value : SoFar → ℕ → SoFar
with_value so_far n = record so_far { place = Behind; value = pos n }

abbrev pub with_literal : SoFar → Literal → SoFar
with_literal so_far literal = record so_far { place = Literals; when = so_far.when ++ literal ∷ [] }

-- What has been said with a word more, by what may come.
abbrev pub more_by : Place → SoFar → List ℕ → Option SoFar
more_by Value so_far word = option_map (with_value so_far) (number_said 0 1 word)
more_by Behind so_far word =
    if bytes_eq word (codes "if") then Some (record so_far { place = First }) else (if bytes_eq word (codes ";") then Some (with_case so_far) else None)
more_by First so_far word = option_map (with_literal so_far) (literal_said word)
more_by Literals so_far word = if bytes_eq word (codes ";") then Some (with_case so_far) else option_map (with_literal so_far) (literal_said word)

abbrev pub more : SoFar → List ℕ → Option SoFar
more so_far word = more_by so_far.place so_far word

-- What has been said with these words more.
abbrev pub all_more : SoFar → List (List ℕ) → Option SoFar
all_more so_far [] = Some so_far
all_more so_far (word ∷ words) = option_and_then (λ (next : SoFar). all_more next words) (more so_far word)

-- the cases, where they may end here
abbrev pub ended_by : Place → SoFar → Option (List (Case ℤ))
ended_by Value so_far = None
ended_by Behind so_far = Some (all_of so_far)
ended_by First so_far = None
ended_by Literals so_far = Some (all_of so_far)

abbrev pub ended : SoFar → Option (List (Case ℤ))
ended so_far = ended_by so_far.place so_far

-- the cases that words spell, canonical or not
abbrev pub cases_said : List (List ℕ) → Option (List (Case ℤ))
cases_said words = option_and_then ended (all_more at_first words)

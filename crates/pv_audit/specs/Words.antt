-- The words of printed lines: what stands between their spaces.
use Rattle.std.specs.Prelude.{◌≡◌, ◌==◌, ℕ, ℤ, Option, Some, None, List, [], ◌∷◌, ◌++◌, map, length, if◌then◌else◌, codes}
use Rattle.std.specs.Fmt.{decimal, signed_decimal}
use Rattle.pv_audit.specs.FirstWords.{Fields, first_of, first_word, line_with}
use Rattle.pv_audit.specs.Printed.{IsCause, IsTxn, IsWithin}
use Rattle.pv_audit.specs.declared.first.First.{First}
use Rattle.pv_base.specs.Catalog.{Declared}
use Rattle.pv_base.specs.Polyvalue.{Case}
use Rattle.pv_base.specs.Txn.{txn_text}
use Rattle.pv_base.specs.declared.literal.Literal.{Literal}
use Rattle.pv_base.specs.declared.txn.TxnId.{TxnId}
use Rattle.pv_model.specs.ReplyText.{reply_text}
use Rattle.pv_protocol.specs.Lines.{Line}
use Rattle.pv_protocol.specs.LineText.{kind_text, literal_text, name_of}
use Rattle.pv_protocol.specs.State.{Cause, conflict, outcome_limit, uncertain, expired, grant_lost, journal_full}
use Rattle.pv_report.specs.NamesOnlyItems.{CauseNamesOnlyItems, NamesOnlyItems}

-- `certain` stands before one answer, and `possible` before any other number of them.
abbrev pub certainty_word : ℕ → List ℕ
certainty_word n = if n == 1 then codes "certain" else codes "possible"

abbrev pub answer_words : {A : Type 0} → (A → List ℕ) → List A → List (List ℕ)
answer_words text answers = certainty_word (length answers) ∷ map text answers

abbrev pub cause_words : Declared → Cause → List (List ℕ)
cause_words catalog (conflict site item holder) = codes "conflict" ∷ (decimal site ∷ (name_of catalog item ∷ (txn_text holder ∷ [])))
cause_words catalog (outcome_limit names) = codes "outcome-limit" ∷ (decimal names ∷ [])
cause_words catalog (uncertain item names) = codes "uncertain" ∷ (name_of catalog item ∷ (decimal names ∷ []))
cause_words catalog (expired site) = codes "expired" ∷ (decimal site ∷ [])
cause_words catalog (grant_lost site) = codes "grant-lost" ∷ (decimal site ∷ [])
cause_words catalog (journal_full site length) = codes "journal-full" ∷ (decimal site ∷ (decimal length ∷ []))

abbrev pub when_words : List Literal → List (List ℕ)
when_words [] = []
when_words (literal ∷ literals) = codes "if" ∷ map literal_text (literal ∷ literals)

abbrev pub case_words : Case ℤ → List (List ℕ)
case_words case = signed_decimal case.value ∷ when_words case.when

-- the words of cases, which `;` parts. No cases would be one empty word; a printed item has some.
abbrev pub cases_words : List (Case ℤ) → List (List ℕ)
cases_words [] = [] ∷ []
cases_words (case ∷ []) = case_words case
cases_words (case ∷ next ∷ cases) = case_words case ++ codes ";" ∷ cases_words (next ∷ cases)

-- the words of a line behind its first
abbrev pub rest_words : Declared → Line → List (List ℕ)
rest_words catalog (Line.txn t) = txn_text t ∷ []
rest_words catalog (Line.commit t replies) = txn_text t ∷ answer_words reply_text replies
rest_words catalog (Line.refuse t cause) = txn_text t ∷ cause_words catalog cause
rest_words catalog (Line.full site length) = decimal site ∷ (decimal length ∷ [])
rest_words catalog (Line.spent site) = decimal site ∷ []
rest_words catalog (Line.down site) = decimal site ∷ []
rest_words catalog (Line.up site) = decimal site ∷ []
rest_words catalog (Line.stopped site) = decimal site ∷ []
rest_words catalog (Line.fault site) = decimal site ∷ []
rest_words catalog (Line.started site epoch) = decimal site ∷ (decimal epoch ∷ [])
rest_words catalog (Line.no_message n) = codes "message" ∷ (decimal n ∷ [])
rest_words catalog (Line.sent n from to kind t) =
    decimal n ∷ ((decimal from ++ (codes ">" ++ decimal to)) ∷ (kind_text kind ∷ (txn_text t ∷ [])))
rest_words catalog (Line.order txns) = map txn_text txns
rest_words catalog (Line.committed txns) = map txn_text txns
rest_words catalog (Line.open_ones txns) = map txn_text txns
rest_words catalog (Line.item n cases) = name_of catalog n ∷ cases_words cases
rest_words catalog (Line.item_locked n t) = name_of catalog n ∷ (codes "locked" ∷ (txn_text t ∷ []))
rest_words catalog (Line.item_down n) = name_of catalog n ∷ (codes "down" ∷ [])
rest_words catalog Line.end = []
rest_words catalog (Line.total sums) = answer_words signed_decimal sums
rest_words catalog (Line.total_locked n) = codes "locked" ∷ (name_of catalog n ∷ [])
rest_words catalog (Line.total_down site) = codes "down" ∷ (decimal site ∷ [])
rest_words catalog (Line.total_limit names) = codes "outcome-limit" ∷ (decimal names ∷ [])

-- all words of a line
abbrev pub line_words : Declared → Line → List (List ℕ)
line_words catalog line = first_word (first_of line) ∷ rest_words catalog line

-- The words are those of this line, which may be printed over the catalog.
pub record HasWords (catalog : Declared) (words : List (List ℕ)) (line : Line) : Type 0 where
  pub are : words ≡ line_words catalog line
  pub items : NamesOnlyItems catalog line
  pub within : IsWithin line

-- What is found is the line that has these words; where nothing is found, no line has them.
abbrev pub IsLineOf : Declared → List (List ℕ) → Option Line → Type 0
IsLineOf catalog words None = (line : Line) → HasWords catalog words line → ⊥
IsLineOf catalog words (Some line) = HasWords catalog words line

-- The words stand behind this first one in the line that says this.
pub record HasRest (catalog : Declared) (first : First) (words : List (List ℕ)) (x : Fields first) : Type 0 where
  pub are : words ≡ rest_words catalog (line_with first x)
  pub items : NamesOnlyItems catalog (line_with first x)
  pub within : IsWithin (line_with first x)

-- What is found is the line in which the words stand behind this first one; where nothing is found, there is none.
abbrev pub IsRestOf : Declared → First → List (List ℕ) → Option Line → Type 0
IsRestOf catalog first words None = (x : Fields first) → HasRest catalog first words x → ⊥
IsRestOf catalog first words (Some line) = (x : Fields first) × HasRest catalog first words x × (line ≡ line_with first x)

-- The words behind an item's name say neither that it is down nor which transaction holds it.
pub record AreCaseWords (words : List (List ℕ)) : Type 0 where
  pub up : words ≡ codes "down" ∷ [] → ⊥
  pub free : (txn : TxnId) → IsTxn txn → words ≡ codes "locked" ∷ (txn_text txn ∷ []) → ⊥

-- The words are those of a refusal of the transaction for this cause.
pub record HasCause (catalog : Declared) (words : List (List ℕ)) (cause : Cause) : Type 0 where
  pub are : words ≡ cause_words catalog cause
  pub items : CauseNamesOnlyItems catalog cause
  pub within : IsCause cause

-- What is found refuses the transaction for the cause that has these words; where nothing is found, there is no such cause.
abbrev pub IsCauseLineOf : Declared → TxnId → List (List ℕ) → Option Line → Type 0
IsCauseLineOf catalog txn words None = (cause : Cause) → HasCause catalog words cause → ⊥
IsCauseLineOf catalog txn words (Some line) = (cause : Cause) × HasCause catalog words cause × (line ≡ Line.refuse txn cause)

-- The line is that of the item, which is down or held, and these words stand behind its name.
abbrev pub IsUnreadable : ℕ → List (List ℕ) → Line → Type 0
IsUnreadable n words (Line.item_down m) = (m ≡ n) × (words ≡ codes "down" ∷ [])
IsUnreadable n words (Line.item_locked m txn) = (m ≡ n) × IsTxn txn × (words ≡ codes "locked" ∷ (txn_text txn ∷ []))
IsUnreadable n words line = ⊥

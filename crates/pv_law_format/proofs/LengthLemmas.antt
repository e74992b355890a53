-- How long spellings are.
use Rattle.std.proofs.Common.{◌≡◌, ℕ, zero, suc, ◌+◌, ◌-◌, ◌*◌, Bool, List, [], ◌∷◌, length, ap, ◌∙◌, arith}
use Rattle.std.specs.Prelude.{ℤ}
use Rattle.std.specs.List.{sum_by}
use Rattle.std.proofs.Math.Nat.{mul-suc}
use Rattle.std.proofs.lemmas.List.{length-append}
use Rattle.std.proofs.lemmas.List.Sums.{sum_by-cons}
use Rattle.pv_base.specs.BigEndian.{IsNumber}
use Rattle.pv_base.specs.declared.grant.GrantId.{GrantId}
use Rattle.pv_base.specs.declared.literal.Literal.{Literal}
use Rattle.pv_base.specs.declared.txn.TxnId.{TxnId}
use Rattle.pv_base.specs.Polyvalue.{Case}
use Rattle.pv_base.specs.Want.{Want}
use Rattle.pv_base.proofs.BigEndianLemmas.{IsNumber-length, IsSigned-length}
use Rattle.pv_model.specs.Alternatives.{Read}
use Rattle.pv_base.specs.declared.limits.TheConstants.{HELD_NAMES}
use Rattle.pv_format.specs.Length.{old_case_length, old_polyvalue_length, polyvalue_length, reads_length, record_length, cause_length, body_length, envelope_length}
use Rattle.pv_format.specs.Message.{Envelope, Message, lock, granted, denied, prepare, vote_yes, vote_no, outcome_reported, ask, NoCause, grant_lost, journal_full, txn_of}
use Rattle.pv_format.specs.MessageSpelling.{SpellsWants, SpellsNoCause, SpellsBody, SpellsEnvelope}
use Rattle.pv_format.specs.OldSpelling.{SpellsLiteral, SpellsCase, SpellsCases}
use Rattle.pv_format.specs.PolyvalueSpelling.{SpellsNode, SpellsPolyvalue}
use Rattle.pv_format.specs.Record.{Record, epoch_begun, prepared, outcome_known}
use Rattle.pv_format.specs.RecordSpelling.{SpellsReadsBy, SpellsReads, SpellsRecord}
use Rattle.pv_format.specs.Spelling.{◌followed_by◌, IsAllowed, IsTruth, SpellsTxn, SpellsGrant, SpellsEach, SpellsEntriesFrom}
use Rattle.pv_format.specs.Tree.{Tree, leaf, test, cases_of}
use Rattle.pv_law_format.proofs.SureLemmas.{length-test, some-case}

pub parts-length : {A B : List ℕ → Type 0} {bytes : List ℕ} (s : (A followed_by B) bytes) → length bytes ≡ length s.front + length s.back
parts-length s = ap (λ (b : List ℕ). length b) s.whole ∙ length-append s.front s.back

allowed-length : {size : ℕ} {allows : ℕ → Bool} {n : ℕ} (bytes : List ℕ) → IsAllowed size allows n bytes → length bytes ≡ size
allowed-length {size} {allows} {n} bytes s = IsNumber-length size n bytes s.spelled

pub number-length : {size n : ℕ} (bytes : List ℕ) → IsNumber size n bytes → length bytes ≡ size
number-length {size} {n} bytes s = IsNumber-length size n bytes s

pub txn-length : (txn : TxnId) (bytes : List ℕ) → SpellsTxn txn bytes → length bytes ≡ 9
txn-length txn bytes s =
    omega (
      arith,
      parts-length s,
      parts-length s.second,
      allowed-length s.front s.first,
      number-length s.second.front s.second.first,
      number-length s.second.back s.second.second,
    )

grant-length : (grant : GrantId) (bytes : List ℕ) → SpellsGrant grant bytes → length bytes ≡ 8
grant-length grant bytes s = omega (arith, parts-length s, number-length s.front s.first, number-length s.back s.second)

module _ {X : Type 0} (Spells : X → List ℕ → Type 0) (length_of : X → ℕ) (has : (x : X) (bytes : List ℕ) → Spells x bytes → length bytes ≡ length_of x) where
  each-length : (xs : List X) (bytes : List ℕ) → SpellsEach Spells xs bytes → length bytes ≡ sum_by length_of xs
  each-length [] bytes s = ap (λ (b : List ℕ). length b) s
  each-length (x ∷ xs) bytes s =
      let rest = each-length xs s.back s.second in omega (arith, rest, sum_by-cons length_of x xs, parts-length s, has x s.front s.first)

  entries-length : (item_of : X → ℕ) (least : ℕ) (xs : List X) (bytes : List ℕ) → SpellsEntriesFrom Spells item_of least xs bytes
      → length bytes ≡ sum_by (λ x. 4 + length_of x) xs
  entries-length item_of least [] bytes s = ap (λ (b : List ℕ). length b) s
  entries-length item_of least (x ∷ xs) bytes s =
      let rest = entries-length item_of (item_of x + 1) xs s.second.back s.second.second in
      omega (arith, rest, sum_by-cons (λ y. 4 + length_of y) x xs, parts-length s, parts-length s.second, allowed-length s.front s.first, has x s.second.front s.second.first)

-- as often the same
sum-same : {X : Type 0} (n : ℕ) (xs : List X) → sum_by (λ _. n) xs ≡ n * length xs
sum-same n [] = omega arith
sum-same n (x ∷ xs) = let rest = sum-same n xs in omega (arith, rest, sum_by-cons (λ _. n) x xs, mul-suc n (length xs))

literal-length : (literal : Literal) (bytes : List ℕ) → SpellsLiteral literal bytes → length bytes ≡ 10
literal-length literal bytes s = omega (arith, parts-length s, number-length s.front s.first, txn-length literal.txn s.back s.second)

case-length : (case : Case ℤ) (bytes : List ℕ) → SpellsCase case bytes → length bytes ≡ old_case_length case
case-length case bytes s =
    omega (
      arith,
      parts-length s,
      parts-length s.second,
      number-length s.front s.first,
      IsSigned-length case.value s.second.back s.second.second,
      each-length SpellsLiteral (λ _. 10) literal-length case.when s.second.front s.second.first,
      sum-same 10 case.when,
    )

pub cases-length : (cases : List (Case ℤ)) (bytes : List ℕ) → SpellsCases cases bytes → length bytes ≡ old_polyvalue_length cases
cases-length cases bytes s =
    omega (arith, parts-length s, number-length s.front s.first, each-length SpellsCase old_case_length case-length cases s.back s.second)

-- A tree has 9 bytes for each leaf, and 10 for each test, of which there is one less.
node-length : (tests : ℕ) (tree : Tree) (bytes : List ℕ) → SpellsNode tests tree bytes
    → length bytes ≡ 9 * length (cases_of tree) + 10 * (length (cases_of tree) - 1)
node-length tests (leaf value) bytes s =
    omega (arith, parts-length s, number-length s.front s.first, IsSigned-length value s.back s.second)
node-length zero (test txn aborted committed) bytes s = absurd s
node-length (suc tests) (test txn aborted committed) bytes s =
    let sides = s.second.second in
    let left = node-length tests aborted sides.front sides.first in
    let right = node-length tests committed sides.back sides.second in
    omega (
      arith,
      left,
      right,
      some-case aborted,
      some-case committed,
      length-test txn aborted committed,
      parts-length s,
      parts-length s.second,
      parts-length sides,
      number-length s.front s.first,
      txn-length txn s.second.front s.second.first,
    )

pub polyvalue-length : (cases : List (Case ℤ)) (bytes : List ℕ) → SpellsPolyvalue cases bytes → length bytes ≡ polyvalue_length cases
polyvalue-length cases bytes s =
    omega (
      arith,
      parts-length s.spelled,
      number-length s.spelled.front s.spelled.first,
      node-length HELD_NAMES s.tree s.spelled.back s.spelled.second,
      ap (λ (cs : List (Case ℤ)). length cs) s.is,
    )

-- Items with their polyvalues, each of which has this length.
pub reads-by-length : (Spells : List (Case ℤ) → List ℕ → Type 0) (length_of : List (Case ℤ) → ℕ)
    → ((cases : List (Case ℤ)) (bytes : List ℕ) → Spells cases bytes → length bytes ≡ length_of cases)
    → (fewest : ℕ) (reads : List Read) (bytes : List ℕ) → SpellsReadsBy Spells fewest reads bytes → length bytes ≡ 1 + sum_by (λ read. 4 + length_of read.cases) reads
reads-by-length Spells length_of has fewest reads bytes s =
    omega (
      arith,
      parts-length s,
      allowed-length s.front s.first,
      entries-length (λ (read : Read). Spells read.cases) (λ read. length_of read.cases) (λ read bs t. has read.cases bs t)
          (λ read. read.item) 0 reads s.back s.second,
    )

reads-length : (fewest : ℕ) (reads : List Read) (bytes : List ℕ) → SpellsReads fewest reads bytes → length bytes ≡ reads_length reads
reads-length = reads-by-length SpellsPolyvalue polyvalue_length polyvalue-length

wants-length : (fewest : ℕ) (wants : List Want) (bytes : List ℕ) → SpellsWants fewest wants bytes → length bytes ≡ 1 + 5 * length wants
wants-length fewest wants bytes s =
    omega (
      arith,
      parts-length s,
      allowed-length s.front s.first,
      entries-length (λ (want : Want). IsTruth want.exclusive) (λ _. 1) (λ want bs t. number-length bs t) (λ want. want.item) 0 wants s.back s.second,
      sum-same 5 wants,
    )

pub record-length : (record_ : Record) (bytes : List ℕ) → SpellsRecord record_ bytes → length bytes ≡ record_length record_
record-length (epoch_begun epoch) bytes s = omega (arith, parts-length s, number-length s.front s.first, allowed-length s.back s.second)
record-length (prepared txn writes) bytes s =
    omega (
      arith,
      parts-length s,
      parts-length s.second,
      number-length s.front s.first,
      txn-length txn s.second.front s.second.first,
      reads-length 0 writes s.second.back s.second.second,
    )
record-length (outcome_known txn commits) bytes s =
    omega (
      arith,
      parts-length s,
      parts-length s.second,
      number-length s.front s.first,
      txn-length txn s.second.front s.second.first,
      number-length s.second.back s.second.second,
    )

cause-length : (cause : NoCause) (bytes : List ℕ) → SpellsNoCause cause bytes → length bytes ≡ cause_length cause
cause-length grant_lost bytes s = number-length bytes s
cause-length (journal_full size) bytes s = omega (arith, parts-length s, number-length s.front s.first, number-length s.back s.second)

body-length : (message : Message) (bytes : List ℕ) → SpellsBody message bytes → length bytes ≡ body_length message
body-length (lock txn wants) bytes s = wants-length 1 wants bytes s
body-length (granted txn grant values) bytes s = omega (arith, parts-length s, grant-length grant s.front s.first, reads-length 1 values s.back s.second)
body-length (denied txn item holder) bytes s = omega (arith, parts-length s, allowed-length s.front s.first, txn-length holder s.back s.second)
body-length (prepare txn grant writes) bytes s = omega (arith, parts-length s, grant-length grant s.front s.first, reads-length 0 writes s.back s.second)
body-length (vote_yes txn) bytes s = ap (λ (b : List ℕ). length b) s
body-length (vote_no txn cause) bytes s = cause-length cause bytes s
body-length (outcome_reported txn commits) bytes s = number-length bytes s
body-length (ask txn) bytes s = ap (λ (b : List ℕ). length b) s

pub envelope-length : (envelope : Envelope) (bytes : List ℕ) → SpellsEnvelope envelope bytes → length bytes ≡ envelope_length envelope
envelope-length envelope bytes s =
    omega (
      arith,
      parts-length s,
      parts-length s.second,
      parts-length s.second.second,
      parts-length s.second.second.second,
      number-length s.front s.first,
      allowed-length s.second.front s.second.first,
      allowed-length s.second.second.front s.second.second.first,
      txn-length (txn_of envelope.message) s.second.second.second.front s.second.second.second.first,
      body-length envelope.message s.second.second.second.back s.second.second.second.second,
    )

-- What is read as a record is bytes.
use Rattle.std.proofs.Common.{◌⊎◌, ⊎_elim, ℕ, zero, suc, ◌+◌, ◌<◌, ◌≤◌, List, [], ◌∷◌, inl, inr, sym, subst, arith}
use Rattle.std.specs.Prelude.{ℤ}
use Rattle.std.proofs.lemmas.Bool.{cases_lt}
use Rattle.std.proofs.lemmas.List.Elements.{All-nil, All-cons, All-head, All-tail, All-append}
use Rattle.pv_base.specs.BigEndian.{twos_complement, AreBytes, IsNumber, IsSigned}
use Rattle.pv_base.specs.declared.limits.TheConstants.{HELD_NAMES}
use Rattle.pv_base.specs.declared.literal.Literal.{Literal}
use Rattle.pv_base.specs.declared.txn.TxnId.{TxnId}
use Rattle.pv_base.specs.Polyvalue.{Case}
use Rattle.pv_base.proofs.BigEndianLemmas.{AreBytes-big_endian}
use Rattle.pv_model.specs.Alternatives.{Read}
use Rattle.pv_format.specs.OldSpelling.{SpellsLiteral, SpellsCase, SpellsInCases}
use Rattle.pv_format.specs.PolyvalueSpelling.{SpellsNode, SpellsPolyvalue}
use Rattle.pv_format.specs.Record.{Record, epoch_begun, prepared, outcome_known}
use Rattle.pv_format.specs.RecordSpelling.{SpellsReadsBy, SpellsContentBy, SpellsRecord, SpellsOldRecord, IsReadAs}
use Rattle.pv_format.specs.Spelling.{◌followed_by◌, SpellsTxn, SpellsEach, SpellsEntriesFrom}
use Rattle.pv_format.specs.Tree.{Tree, leaf, test}

parts-bytes : {A B : List ℕ → Type 0} {bytes : List ℕ} (s : (A followed_by B) bytes) → AreBytes s.front → AreBytes s.back → AreBytes bytes
parts-bytes s front back = subst AreBytes (sym s.whole) (All-append (λ b. b < 256) s.front s.back front back)

number-bytes : {size n : ℕ} (bytes : List ℕ) → IsNumber size n bytes → AreBytes bytes
number-bytes {size} {n} bytes s = subst AreBytes (sym s.spelled) (AreBytes-big_endian size n)

signed-bytes : (n : ℤ) (bytes : List ℕ) → IsSigned n bytes → AreBytes bytes
signed-bytes n bytes s = subst AreBytes (sym s.spelled) (AreBytes-big_endian 8 (twos_complement n))

txn-bytes : (txn : TxnId) (bytes : List ℕ) → SpellsTxn txn bytes → AreBytes bytes
txn-bytes txn bytes s =
    parts-bytes s (number-bytes s.front s.first.spelled)
    (parts-bytes s.second (number-bytes s.second.front s.second.first) (number-bytes s.second.back s.second.second))

module _ {X : Type 0} (Spells : X → List ℕ → Type 0) (has : (x : X) (bytes : List ℕ) → Spells x bytes → AreBytes bytes) where
  each-bytes : (xs : List X) (bytes : List ℕ) → SpellsEach Spells xs bytes → AreBytes bytes
  each-bytes [] bytes s = subst AreBytes (sym s) (All-nil (λ b. b < 256))
  each-bytes (x ∷ xs) bytes s = parts-bytes s (has x s.front s.first) (each-bytes xs s.back s.second)

  entries-bytes : (item_of : X → ℕ) (least : ℕ) (xs : List X) (bytes : List ℕ) → SpellsEntriesFrom Spells item_of least xs bytes → AreBytes bytes
  entries-bytes item_of least [] bytes s = subst AreBytes (sym s) (All-nil (λ b. b < 256))
  entries-bytes item_of least (x ∷ xs) bytes s =
      parts-bytes s (number-bytes s.front s.first.spelled)
      (parts-bytes s.second (has x s.second.front s.second.first) (entries-bytes item_of (item_of x + 1) xs s.second.back s.second.second))

literal-bytes : (literal : Literal) (bytes : List ℕ) → SpellsLiteral literal bytes → AreBytes bytes
literal-bytes literal bytes s = parts-bytes s (number-bytes s.front s.first) (txn-bytes literal.txn s.back s.second)

case-bytes : (case : Case ℤ) (bytes : List ℕ) → SpellsCase case bytes → AreBytes bytes
case-bytes case bytes s =
    parts-bytes s (number-bytes s.front s.first)
    (parts-bytes s.second (each-bytes SpellsLiteral literal-bytes case.when s.second.front s.second.first) (signed-bytes case.value s.second.back s.second.second))

cases-bytes : (cases : List (Case ℤ)) (bytes : List ℕ) → SpellsInCases cases bytes → AreBytes bytes
cases-bytes cases bytes s =
    parts-bytes s.spelled (number-bytes s.spelled.front s.spelled.first) (each-bytes SpellsCase case-bytes cases s.spelled.back s.spelled.second)

node-bytes : (tests : ℕ) (tree : Tree) (bytes : List ℕ) → SpellsNode tests tree bytes → AreBytes bytes
node-bytes tests (leaf value) bytes s = parts-bytes s (number-bytes s.front s.first) (signed-bytes value s.back s.second)
node-bytes zero (test txn aborted committed) bytes s = absurd s
node-bytes (suc tests) (test txn aborted committed) bytes s =
    let sides = s.second.second in
    parts-bytes s (number-bytes s.front s.first)
    (parts-bytes s.second (txn-bytes txn s.second.front s.second.first)
    (parts-bytes sides (node-bytes tests aborted sides.front sides.first) (node-bytes tests committed sides.back sides.second)))

tree-bytes : (cases : List (Case ℤ)) (bytes : List ℕ) → SpellsPolyvalue cases bytes → AreBytes bytes
tree-bytes cases bytes s =
    parts-bytes s.spelled (number-bytes s.spelled.front s.spelled.first) (node-bytes HELD_NAMES s.tree s.spelled.back s.spelled.second)

reads-bytes : (Spells : List (Case ℤ) → List ℕ → Type 0) → ((cases : List (Case ℤ)) (bytes : List ℕ) → Spells cases bytes → AreBytes bytes)
    → (fewest : ℕ) (reads : List Read) (bytes : List ℕ) → SpellsReadsBy Spells fewest reads bytes → AreBytes bytes
reads-bytes Spells has fewest reads bytes s =
    parts-bytes s (number-bytes s.front s.first.spelled)
    (entries-bytes (λ (read : Read). Spells read.cases) (λ read part is. has read.cases part is) (λ read. read.item) 0 reads s.back s.second)

content-bytes : (Spells : List (Case ℤ) → List ℕ → Type 0) → ((cases : List (Case ℤ)) (bytes : List ℕ) → Spells cases bytes → AreBytes bytes)
    → (entry : Record) (bytes : List ℕ) → SpellsContentBy Spells entry bytes → AreBytes bytes
content-bytes Spells has (epoch_begun epoch) bytes s = number-bytes bytes s.spelled
content-bytes Spells has (prepared txn writes) bytes s = parts-bytes s (txn-bytes txn s.front s.first) (reads-bytes Spells has 0 writes s.back s.second)
content-bytes Spells has (outcome_known txn commits) bytes s = parts-bytes s (txn-bytes txn s.front s.first) (number-bytes s.back s.second)

-- Every item of what is read as a record is below 256.
pub record-bytes : (entry : Record) (bytes : List ℕ) → IsReadAs entry bytes → AreBytes bytes
record-bytes entry bytes s =
    ⊎_elim
    (λ (written : SpellsRecord entry bytes).
    parts-bytes written (number-bytes written.front written.first) (content-bytes SpellsPolyvalue tree-bytes entry written.back written.second))
    (λ (old : SpellsOldRecord entry bytes).
    parts-bytes old.spelled (number-bytes old.spelled.front old.spelled.first) (content-bytes SpellsInCases cases-bytes entry old.spelled.back old.spelled.second))
    s

-- Any list of numbers is bytes or isn't.
pub bytes-or-not : (bytes : List ℕ) → AreBytes bytes ⊎ (AreBytes bytes → ⊥)
bytes-or-not [] = inl (All-nil (λ b. b < 256))
bytes-or-not (byte ∷ bytes) =
    ⊎_elim
    (λ (below : byte < 256). ⊎_elim
    (λ rest. inl (All-cons (λ b. b < 256) byte bytes below rest))
    (λ not_rest. inr (λ all. not_rest (All-tail (λ b. b < 256) byte bytes all)))
    (bytes-or-not bytes))
    (λ (above : 256 ≤ byte). inr (λ all. let below = All-head (λ b. b < 256) byte bytes all in omega (arith, below, above)))
    (cases_lt byte 256)

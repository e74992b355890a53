-- A record by its parts.
use Rattle.std.proofs.Common.{◌≡◌, ◌⊎◌, inl, inr, ℕ, Bool, true, false, List, [], ◌∷◌, ◌++◌, Option, Some, None, if◌then◌else◌, refl, sym, ap, subst, ◌∙◌, arith}
use Rattle.std.specs.Prelude.{not}
use Rattle.std.proofs.lemmas.Bool.{false≢true}
use Rattle.pv_base.specs.BigEndian.{IsNumber}
use Rattle.pv_base.proofs.Basics.{heads}
use Rattle.pv_base.proofs.BigEndianLemmas.{big_endian-one}
use Rattle.pv_base.specs.declared.txn.TxnId.{TxnId}
use Rattle.pv_bytes.specs.Reading.{Rest}
use Rattle.pv_model.specs.Alternatives.{Read}
use Rattle.pv_format.specs.FirstFault.{Fault}
use Rattle.pv_format.specs.Layout.{Layout, content_layout, record_layout}
use Rattle.pv_format.specs.OldSpelling.{SpellsInCases}
use Rattle.pv_format.specs.PolyvalueSpelling.{SpellsPolyvalue}
use Rattle.pv_format.specs.Record.{Record, epoch_begun, prepared, outcome_known}
use Rattle.pv_format.specs.RecordSpelling.{IsReadAs, SpellsContentBy, SpellsOldRecord, are_sure}
use Rattle.pv_format.specs.Spelling.{◌followed_by◌}
use Rattle.pv_format.specs.Tree.{is_sure}
use Rattle.pv_fields.specs.Decoding.{Passes, Stops}
use Rattle.pv_law_format.proofs.SureLemmas.{reads-other, sure-in-tree}
use Rattle.pv_replay.specs.Content.{HasKind, IsOnlySure, IsPromise, IsStopped, SpellsContentOf, promises_sure, promises_unsure}

-- what comes after the kind
abbrev pub after_kind : ℕ → Layout → Layout
after_kind kind next = content_layout kind next

-- Promises under the kind of those that are sure, in cases: they are written so where they are sure, else so is an old spelling.
in_cases_read : (txn : TxnId) (writes : List Read) (bytes : List ℕ) (sure : Bool) → are_sure writes ≡ sure
    → (IsNumber 1 2 followed_by SpellsContentBy SpellsInCases (prepared txn writes)) bytes → IsReadAs (prepared txn writes) bytes
in_cases_read txn writes bytes true is s =
    inl (record {
      front = s.front;
      back = s.back;
      whole = s.whole;
      first = subst (λ (b : Bool). IsNumber 1 (if b then 2 else 4) s.front) (sym is) s.first;
      second = record {
        front = s.second.front;
        back = s.second.back;
        whole = s.second.whole;
        first = s.second.first;
        second = reads-other SpellsInCases SpellsPolyvalue is_sure sure-in-tree 0 writes s.second.back is s.second.second;
      };
    })
in_cases_read txn writes bytes false is s = inr (record { txn = txn; writes = writes; is = refl; unsure = is; spelled = s })

-- A promise stands behind either of its kinds.
pub promise_has : (kind : ℕ) (value : Record) → IsPromise value → (kind ≡ 2) ⊎ (kind ≡ 4) → HasKind kind value
promise_has kind (epoch_begun epoch) promise is = absurd promise
promise_has kind (outcome_known txn commits) promise is = absurd promise
promise_has kind (prepared txn writes) promise is = is

-- A kind and what it has are read as the record, unless it promises sure values alone under the kind of others.
pub record_by_parts : (kind : ℕ) (value : Record) (bytes : List ℕ) → HasKind kind value → (kind ≡ 4 → promises_sure value ≡ false)
    → (IsNumber 1 kind followed_by SpellsContentOf kind value) bytes → IsReadAs value bytes
record_by_parts kind (epoch_begun epoch) bytes is unsure s =
    inl (subst (λ (k : ℕ). (IsNumber 1 k followed_by SpellsContentOf k (epoch_begun epoch)) bytes) is s)
record_by_parts kind (outcome_known txn commits) bytes is unsure s =
    inl (subst (λ (k : ℕ). (IsNumber 1 k followed_by SpellsContentOf k (outcome_known txn commits)) bytes) is s)
record_by_parts kind (prepared txn writes) bytes (inl is) unsure s =
    in_cases_read txn writes bytes (are_sure writes) refl (subst (λ (k : ℕ). (IsNumber 1 k followed_by SpellsContentOf k (prepared txn writes)) bytes) is s)
record_by_parts kind (prepared txn writes) bytes (inr is) unsure s =
    let t = subst (λ (k : ℕ). (IsNumber 1 k followed_by SpellsContentOf k (prepared txn writes)) bytes) is s in
    inl (record {
      front = t.front;
      back = t.back;
      whole = t.whole;
      first = subst (λ (b : Bool). IsNumber 1 (if b then 2 else 4) t.front) (sym (unsure is)) t.first;
      second = t.second;
    })

-- It promises sure values alone under the kind of others.
pub only_sure : (value : Record) (old new : Rest) → promises_sure value ≡ true → Passes (IsNumber 1 4 followed_by SpellsContentBy SpellsPolyvalue value) record_layout old new
    → IsOnlySure old new
only_sure (epoch_begun epoch) old new sure passes = absurd (false≢true sure)
only_sure (outcome_known txn commits) old new sure passes = absurd (false≢true sure)
only_sure (prepared txn writes) old new sure passes = record { txn = txn; writes = writes; sure = sure; passes = passes }

-- What stops the layout stops the reading.
pub stopped_by : (old new : Rest) (told : Option Fault) → Stops record_layout old told → IsStopped old new told
stopped_by old new (Some fault) stops = inl stops
stopped_by old new None stops = tt

-- The first byte is the kind.
kind_first : (kind : ℕ) (front back bytes : List ℕ) → bytes ≡ front ++ back → IsNumber 1 kind front → bytes ≡ kind ∷ back
kind_first kind front back bytes whole is = whole ∙ ap (λ (b : List ℕ). b ++ back) (is.spelled ∙ big_endian-one kind is.fits)

-- What begins with the kind of promises of sure values, and is read as a promise of others, is an old spelling.
old_begun : (txn : TxnId) (writes : List Read) (bytes rest : List ℕ) → IsReadAs (prepared txn writes) bytes → bytes ≡ 2 ∷ rest → are_sure writes ≡ false
    → SpellsOldRecord (prepared txn writes) bytes
old_begun txn writes bytes rest (inl s) begins unsure =
    let four = subst (λ (b : Bool). IsNumber 1 (if b then 2 else 4) s.front) unsure s.first in
    let same : 2 ≡ 4 = heads (sym begins ∙ kind_first 4 s.front s.back bytes s.whole four) in
    absurd (omega (arith, same))
old_begun txn writes bytes rest (inr old) begins unsure = old

-- An old spelling begins with the kind of promises of sure values.
pub old_kind : (entry : Record) (bytes : List ℕ) → SpellsOldRecord entry bytes → (rest : List ℕ) × (bytes ≡ 2 ∷ rest)
old_kind entry bytes old = (old.spelled.back, kind_first 2 old.spelled.front old.spelled.back bytes old.spelled.whole old.spelled.first)

abbrev writes_of : Record → List Read
writes_of (prepared txn writes) = writes
writes_of record_ = []

-- It is one of a promise of values of which one isn't sure.
pub old_unsure : (txn : TxnId) (writes : List Read) (bytes : List ℕ) → SpellsOldRecord (prepared txn writes) bytes → are_sure writes ≡ false
old_unsure txn writes bytes old = ap are_sure (ap writes_of old.is) ∙ old.unsure

pub old_promises : (entry : Record) (bytes : List ℕ) → SpellsOldRecord entry bytes → promises_unsure entry ≡ true
old_promises entry bytes old = ap promises_unsure old.is ∙ ap not old.unsure

not_sure : (sure : Bool) → not sure ≡ true → sure ≡ false
not_sure true is = sym is
not_sure false is = refl

-- What begins so, and is read as such a promise, is an old spelling.
pub unsure_old : (entry : Record) (bytes rest : List ℕ) → IsReadAs entry bytes → bytes ≡ 2 ∷ rest → promises_unsure entry ≡ true → SpellsOldRecord entry bytes
unsure_old (epoch_begun epoch) bytes rest read begins unsure = absurd (false≢true unsure)
unsure_old (outcome_known txn commits) bytes rest read begins unsure = absurd (false≢true unsure)
unsure_old (prepared txn writes) bytes rest read begins unsure = old_begun txn writes bytes rest read begins (not_sure (are_sure writes) unsure)

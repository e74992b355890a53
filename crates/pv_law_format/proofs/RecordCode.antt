-- Kinds of records with what they have besides are a code. Records that are read are those of its values that fit their kind.
use Rattle.std.proofs.Common.{◌≡◌, ◌⊎◌, ⊎_elim, ℕ, zero, suc, Bool, true, false, List, [], inl, inr, refl, sym, ap, subst, ◌∙◌, arith}
use Rattle.std.specs.Prelude.{nat_le, IsTrue, IsFalse, if◌then◌else◌, ⊤}
use Rattle.std.proofs.lemmas.Bool.{true≢false, cases_Bool}
use Rattle.pv_base.specs.BigEndian.{IsNumber}
use Rattle.pv_base.proofs.BigEndianLemmas.{IsNumber-begins}
use Rattle.pv_base.specs.declared.txn.TxnId.{TxnId}
use Rattle.pv_model.specs.Alternatives.{Read}
use Rattle.pv_format.specs.FirstFault.{PolyvalueFault}
use Rattle.pv_format.specs.Form.{in_tree, in_cases, SpellsIn}
use Rattle.pv_format.specs.Layout.{is_record_kind, content_layout, record_layout}
use Rattle.pv_format.specs.OldSpelling.{SpellsInCases}
use Rattle.pv_format.specs.PolyvalueSpelling.{SpellsPolyvalue}
use Rattle.pv_format.specs.Record.{Record, epoch_begun, prepared, outcome_known}
use Rattle.pv_format.specs.RecordSpelling.{SpellsReadsBy, SpellsContentBy, SpellsRecord, SpellsOldRecord, IsReadAs, are_sure}
use Rattle.pv_format.specs.Spelling.{◌followed_by◌, IsAllowed, IsTruth, SpellsTxn}
use Rattle.pv_format.specs.Tree.{is_sure}
use Rattle.pv_law_format.proofs.Bytes.{within}
use Rattle.pv_law_format.proofs.Codes.{IsCode, IsReadOnce, IsSpelledOnce, both-code, with-first, with-second}
use Rattle.pv_law_format.proofs.ListCodes.{numbered-code}
use Rattle.pv_law_format.proofs.NumberCodes.{allowed-code, truth-code}
use Rattle.pv_law_format.proofs.PartCodes.{txn-code, reads-code}
use Rattle.pv_law_format.proofs.PolyvalueCode.{polyvalue-code}
use Rattle.pv_law_format.proofs.SureLemmas.{sure-in-cases, sure-in-tree, reads-other}

-- what comes after the first byte of each kind
abbrev pub Rest : ℕ → Type 0
Rest zero = Unit {0}
Rest (suc zero) = ℕ
Rest (suc (suc zero)) = TxnId × List Read
Rest (suc (suc (suc zero))) = TxnId × Bool
Rest (suc (suc (suc (suc n)))) = TxnId × List Read

abbrev pub SpellsRest : (n : ℕ) → Rest n → List ℕ → Type 0
SpellsRest zero rest bytes = ⊥
SpellsRest (suc zero) epoch bytes = IsAllowed 4 (nat_le 1) epoch bytes
SpellsRest (suc (suc zero)) both bytes = (SpellsTxn both.0 followed_by SpellsReadsBy SpellsInCases 0 both.1) bytes
SpellsRest (suc (suc (suc zero))) both bytes = (SpellsTxn both.0 followed_by IsTruth both.1) bytes
SpellsRest (suc (suc (suc (suc n)))) both bytes = (SpellsTxn both.0 followed_by SpellsReadsBy SpellsPolyvalue 0 both.1) bytes

rest-code : (n : ℕ) → IsTrue (is_record_kind n) → IsCode SpellsIn PolyvalueFault (SpellsRest n) (content_layout n)
rest-code zero allowed = absurd (true≢false (sym allowed))
rest-code (suc zero) allowed = allowed-code SpellsIn PolyvalueFault 4 (nat_le 1)
rest-code (suc (suc zero)) allowed = both-code SpellsIn PolyvalueFault (txn-code SpellsIn PolyvalueFault) (reads-code SpellsIn PolyvalueFault (polyvalue-code in_cases) 0)
rest-code (suc (suc (suc zero))) allowed = both-code SpellsIn PolyvalueFault (txn-code SpellsIn PolyvalueFault) (truth-code SpellsIn PolyvalueFault)
rest-code (suc (suc (suc (suc zero)))) allowed =
    both-code SpellsIn PolyvalueFault (txn-code SpellsIn PolyvalueFault) (reads-code SpellsIn PolyvalueFault (polyvalue-code in_tree) 0)
rest-code (suc (suc (suc (suc (suc n))))) allowed = let parts = within 1 4 (suc (suc (suc (suc (suc n))))) allowed in absurd (omega (arith, parts.1))

-- A kind and what it has.
abbrev pub SpellsKinded : ((n : ℕ) × Rest n) → List ℕ → Type 0
SpellsKinded p = IsAllowed 1 is_record_kind p.0 followed_by SpellsRest p.0 p.1

pub kinded-code : IsCode SpellsIn PolyvalueFault SpellsKinded record_layout
kinded-code = numbered-code SpellsIn PolyvalueFault 1 is_record_kind {Y = Rest} SpellsRest content_layout rest-code

-- The record that they are.
abbrev record_at : (n : ℕ) → Rest n → Record
record_at zero rest = epoch_begun 0
record_at (suc zero) epoch = epoch_begun epoch
record_at (suc (suc zero)) both = prepared both.0 both.1
record_at (suc (suc (suc zero))) both = outcome_known both.0 both.1
record_at (suc (suc (suc (suc n)))) both = prepared both.0 both.1

abbrev pub record_for : ((n : ℕ) × Rest n) → Record
record_for p = record_at p.0 p.1

-- A kind of values of which one isn't sure has one.
abbrev FitsAt : (n : ℕ) → Rest n → Type 0
FitsAt zero rest = ⊤
FitsAt (suc zero) epoch = ⊤
FitsAt (suc (suc zero)) both = ⊤
FitsAt (suc (suc (suc zero))) both = ⊤
FitsAt (suc (suc (suc (suc n)))) both = IsFalse (are_sure both.1)

abbrev pub Fits : ((n : ℕ) × Rest n) → Type 0
Fits p = FitsAt p.0 p.1

-- The record's bytes are those of a kind and what it has, which fits.
pub record IsKinded (entry : Record) (bytes : List ℕ) : Type 0 where
  pub value : (n : ℕ) × Rest n
  pub is : record_for value ≡ entry
  pub fit : Fits value
  pub spelled : SpellsKinded value bytes

allowed : (n : ℕ) → IsTrue (is_record_kind n) → (front : List ℕ) → IsNumber 1 n front → IsAllowed 1 is_record_kind n front
allowed n is front s = record { spelled = s; allowed = is }

-- Sure values have the same bytes in both forms.

in-cases : (writes : List Read) (bytes : List ℕ) → IsTrue (are_sure writes) → SpellsReadsBy SpellsPolyvalue 0 writes bytes → SpellsReadsBy SpellsInCases 0 writes bytes
in-cases writes bytes sure s = reads-other SpellsPolyvalue SpellsInCases is_sure sure-in-cases 0 writes bytes sure s

in-tree : (writes : List Read) (bytes : List ℕ) → IsTrue (are_sure writes) → SpellsReadsBy SpellsInCases 0 writes bytes → SpellsReadsBy SpellsPolyvalue 0 writes bytes
in-tree writes bytes sure s = reads-other SpellsInCases SpellsPolyvalue is_sure sure-in-tree 0 writes bytes sure s

-- A record is written as this kind with this.
abbrev prepared_as : Bool → TxnId → List Read → (n : ℕ) × Rest n
prepared_as true txn writes = (2, (txn, writes))
prepared_as false txn writes = (4, (txn, writes))

abbrev written_as : Record → (n : ℕ) × Rest n
written_as (epoch_begun epoch) = (1, epoch)
written_as (prepared txn writes) = prepared_as (are_sure writes) txn writes
written_as (outcome_known txn commits) = (3, (txn, commits))

prepared-is : (sure : Bool) (txn : TxnId) (writes : List Read) → record_for (prepared_as sure txn writes) ≡ prepared txn writes
prepared-is true txn writes = refl
prepared-is false txn writes = refl

prepared-fits : (sure : Bool) (txn : TxnId) (writes : List Read) → are_sure writes ≡ sure → Fits (prepared_as sure txn writes)
prepared-fits true txn writes same = tt
prepared-fits false txn writes same = same

prepared-kinded : (sure : Bool) (txn : TxnId) (writes : List Read) (bytes : List ℕ) → are_sure writes ≡ sure
    → (IsNumber 1 (if sure then 2 else 4) followed_by SpellsContentBy SpellsPolyvalue (prepared txn writes)) bytes → SpellsKinded (prepared_as sure txn writes) bytes
prepared-kinded true txn writes bytes same s = with-first (allowed 2 refl) (with-second (λ b. with-second (λ c t. in-cases writes c same t)) s)
prepared-kinded false txn writes bytes same s = with-first (allowed 4 refl) s

written-kinded : (entry : Record) (bytes : List ℕ) → SpellsRecord entry bytes → SpellsKinded (written_as entry) bytes
written-kinded (epoch_begun epoch) bytes s = with-first (allowed 1 refl) s
written-kinded (prepared txn writes) bytes s = prepared-kinded (are_sure writes) txn writes bytes refl s
written-kinded (outcome_known txn commits) bytes s = with-first (allowed 3 refl) s

written-is : (entry : Record) → record_for (written_as entry) ≡ entry
written-is (epoch_begun epoch) = refl
written-is (prepared txn writes) = prepared-is (are_sure writes) txn writes
written-is (outcome_known txn commits) = refl

written-fits : (entry : Record) → Fits (written_as entry)
written-fits (epoch_begun epoch) = tt
written-fits (prepared txn writes) = prepared-fits (are_sure writes) txn writes refl
written-fits (outcome_known txn commits) = tt

old-kinded : (entry : Record) (bytes : List ℕ) (old : SpellsOldRecord entry bytes) → SpellsKinded (2, (old.txn, old.writes)) bytes
old-kinded entry bytes old =
    with-first (allowed 2 refl) (subst (λ (e : Record). (IsNumber 1 2 followed_by SpellsContentBy SpellsInCases e) bytes) old.is old.spelled)

pub kinded : (entry : Record) (bytes : List ℕ) → IsReadAs entry bytes → IsKinded entry bytes
kinded entry bytes s =
    ⊎_elim
    (λ (written : SpellsRecord entry bytes).
    record { value = written_as entry; is = written-is entry; fit = written-fits entry; spelled = written-kinded entry bytes written })
    (λ (old : SpellsOldRecord entry bytes).
    record { value = (2, (old.txn, old.writes)); is = sym old.is; fit = tt; spelled = old-kinded entry bytes old })
    s

-- What has a kind is read.
prepared-read : (sure : Bool) (txn : TxnId) (writes : List Read) (bytes : List ℕ) → are_sure writes ≡ sure
    → (IsNumber 1 2 followed_by SpellsContentBy SpellsInCases (prepared txn writes)) bytes → IsReadAs (prepared txn writes) bytes
prepared-read true txn writes bytes same s =
    inl (with-first (λ f t. subst (λ (b : Bool). IsNumber 1 (if b then 2 else 4) f) (sym same) t) (with-second (λ b. with-second (λ c t. in-tree writes c same t)) s))
prepared-read false txn writes bytes same s = inr (record { txn = txn; writes = writes; is = refl; unsure = same; spelled = s })

read-at : (n : ℕ) (rest : Rest n) (bytes : List ℕ) → FitsAt n rest → (IsAllowed 1 is_record_kind n followed_by SpellsRest n rest) bytes → IsReadAs (record_at n rest) bytes
read-at zero rest bytes fit s = absurd s.second
read-at (suc zero) epoch bytes fit s = inl (with-first (λ f t. t.spelled) s)
read-at (suc (suc zero)) both bytes fit s = prepared-read (are_sure both.1) both.0 both.1 bytes refl (with-first (λ f t. t.spelled) s)
read-at (suc (suc (suc zero))) both bytes fit s = inl (with-first (λ f t. t.spelled) s)
read-at (suc (suc (suc (suc zero)))) both bytes fit s =
    inl (with-first (λ f t. subst (λ (b : Bool). IsNumber 1 (if b then 2 else 4) f) (sym fit) t.spelled) s)
read-at (suc (suc (suc (suc (suc n))))) both bytes fit s =
    let parts = within 1 4 (suc (suc (suc (suc (suc n))))) s.first.allowed in absurd (omega (arith, parts.1))

pub read-kinded : (p : (n : ℕ) × Rest n) (bytes : List ℕ) → Fits p → SpellsKinded p bytes → IsReadAs (record_for p) bytes
read-kinded p bytes fit s = read-at p.0 p.1 bytes fit s

-- What fits is decided: what doesn't is of a kind of values of which one isn't sure, and all are sure.
pub record IsOnlySure (p : (n : ℕ) × Rest n) : Type 0 where
  pub txn : TxnId
  pub writes : List Read
  pub is : p ≡ (4, (txn, writes))
  pub sure : IsTrue (are_sure writes)

fits-at : (n : ℕ) (rest : Rest n) → IsTrue (is_record_kind n) → FitsAt n rest ⊎ IsOnlySure (n, rest)
fits-at zero rest is = inl tt
fits-at (suc zero) epoch is = inl tt
fits-at (suc (suc zero)) both is = inl tt
fits-at (suc (suc (suc zero))) both is = inl tt
fits-at (suc (suc (suc (suc zero)))) both is =
    ⊎_elim
    (λ sure. inr (record { txn = both.0; writes = both.1; is = refl; sure = sure }))
    (λ unsure. inl unsure)
    (cases_Bool (are_sure both.1))
fits-at (suc (suc (suc (suc (suc n))))) both is = let parts = within 1 4 (suc (suc (suc (suc (suc n))))) is in absurd (omega (arith, parts.1))

pub fits-or-only-sure : (p : (n : ℕ) × Rest n) → IsTrue (is_record_kind p.0) → Fits p ⊎ IsOnlySure p
fits-or-only-sure p is = fits-at p.0 p.1 is

-- A record has one spelling, and one old one.

pub written-once : IsSpelledOnce SpellsRecord
written-once entry bytes others s t = kinded-code.once (written_as entry) bytes others (written-kinded entry bytes s) (written-kinded entry others t)

abbrev txn_in : TxnId → Record → TxnId
txn_in other (epoch_begun epoch) = other
txn_in other (prepared txn writes) = txn
txn_in other (outcome_known txn commits) = other

abbrev writes_in : List Read → Record → List Read
writes_in other (epoch_begun epoch) = other
writes_in other (prepared txn writes) = writes
writes_in other (outcome_known txn commits) = other

pub old-once : IsSpelledOnce SpellsOldRecord
old-once entry bytes others s t =
    let same = sym s.is ∙ t.is in
    let txns : s.txn ≡ t.txn = ap (λ e. txn_in s.txn e) same in
    let all_writes : s.writes ≡ t.writes = ap (λ e. writes_in s.writes e) same in
    kinded-code.once (2, (t.txn, t.writes)) bytes others
    (subst (λ (x : TxnId). SpellsKinded (2, (x, t.writes)) bytes) txns
    (subst (λ (w : List Read). SpellsKinded (2, (s.txn, w)) bytes) all_writes (old-kinded entry bytes s)))
    (old-kinded entry others t)

-- Bytes that begin with what is read as a record begin with no other, and the same follows.
pub read-once : IsReadOnce IsReadAs
read-once entry other front begin rest more s t same =
    let a = kinded entry front s in
    let b = kinded other begin t in
    let parts = kinded-code.read a.value b.value front begin rest more a.spelled b.spelled same in
    (sym a.is ∙ ap record_for parts.0 ∙ b.is, parts.1)

-- A record's spelling is no old one.
pub not-old : (entry other : Record) (bytes : List ℕ) → SpellsRecord entry bytes → SpellsOldRecord other bytes → ⊥
not-old entry other bytes s t =
    let same : entry ≡ prepared t.txn t.writes =
    (read-once entry other bytes bytes [] [] (inl s) (inr t) refl).0 ∙ t.is in
    let written : SpellsRecord (prepared t.txn t.writes) bytes = subst (λ (e : Record). SpellsRecord e bytes) same s in
    let kind : IsNumber 1 4 written.front = subst (λ (b : Bool). IsNumber 1 (if b then 2 else 4) written.front) t.unsure written.first in
    let old = t.spelled in
    let kinds = IsNumber-begins 1 4 2 written.front old.front written.back old.back kind old.first (sym written.whole ∙ old.whole) in
    let differ = kinds.0 in
    omega (arith, differ)

-- Values in groups, and the records that save them.
use Rattle.std.proofs.Common.{◌≡◌, ◌⊎◌, ⊎_elim, ℕ, ℤ, zero, suc, ◌+◌, Bool, true, false, Some, Option, List, [], ◌∷◌, ◌++◌, inl, inr, length, refl, sym, ap, subst, ◌∙◌, arith}
use Rattle.std.specs.Prelude.{IsTrue, ◌==◌, slice_get}
use Rattle.std.specs.List.{Contains}
use Rattle.std.proofs.lemmas.Bool.{eqb-true, eq-eqb, false≢true, true≢false}
use Rattle.std.proofs.lemmas.Option.{none-some}
use Rattle.pv_base.proofs.Basics.{Some_inj}
use Rattle.pv_base.proofs.ContainsLemmas.{Contains-first, Contains-behind, Contains-nil, Contains-cases}
use Rattle.pv_base.specs.Catalog.{Item, Declared}
use Rattle.pv_base.specs.Polyvalue.{Case}
use Rattle.pv_base.specs.declared.limits.TheConstants.{MAX_PROGRAM_ITEMS}
use Rattle.pv_base.specs.declared.txn.TxnId.{TxnId}
use Rattle.pv_format.specs.Record.{epoch_begun, prepared, outcome_known}
use Rattle.pv_law_acts.proofs.ListLemmas.{listed-before, listed-either, listed-last}
use Rattle.pv_law_compaction.specs.Compact.{grouped_behind, grouped, saving_txn, saved_from}
use Rattle.pv_law_compaction.specs.Given.{is_given}
use Rattle.pv_law_step.proofs.StepCases.{if_case}
use Rattle.pv_model.specs.Alternatives.{Read}
use Rattle.pv_protocol.specs.Lock.{is_home, is_of_site}
use Rattle.pv_protocol.specs.Outcome.{items_from}
use Rattle.pv_protocol.specs.Shown.{written}

-- An item of the site is among the site's items.

from-place : (site first : ℕ) (items : List Item) (k : ℕ) → IsTrue (is_of_site site (slice_get items k)) → Contains (items_from site first items) (first + k)
from-place site first [] k home = absurd (false≢true home)
from-place site first (declared ∷ items) zero home =
    if_case (λ (list : List ℕ). Contains list (first + 0)) (declared.site == site)
    (λ own. subst (Contains (first ∷ items_from site (first + 1) items)) (omega arith) (Contains-first first (items_from site (first + 1) items)))
    (λ other. absurd (false≢true (sym other ∙ home)))
from-place site first (declared ∷ items) (suc k) home =
    let later : Contains (items_from site (first + 1) items) (first + suc k) =
    subst (Contains (items_from site (first + 1) items)) (omega arith) (from-place site (first + 1) items k home) in
    if_case (λ (list : List ℕ). Contains list (first + suc k)) (declared.site == site)
    (λ own. Contains-behind first (items_from site (first + 1) items) (first + suc k) later)
    (λ other. later)

pub own-listed : (catalog : Declared) (site item : ℕ) → IsTrue (is_home catalog site item) → Contains (items_from site 0 catalog.items) item
own-listed catalog site item home = subst (Contains (items_from site 0 catalog.items)) (omega arith) (from-place site 0 catalog.items item home)

-- The groups have all values, and no others.

behind-whole : (group reads : List Read) (of : List Read) (read : Read) → Contains (grouped_behind group reads) of → Contains of read → Contains group read ⊎ Contains reads read
behind-whole group [] of read h k =
    ⊎_elim (λ same. inl (subst (λ list. Contains list read) (sym same) k)) (λ wrong. absurd (Contains-nil of wrong)) (Contains-cases group [] of h)
behind-whole group (next ∷ reads) of read h k =
    if_case (λ groups. Contains groups of → Contains group read ⊎ Contains (next ∷ reads) read) (length group == MAX_PROGRAM_ITEMS)
    (λ full there. ⊎_elim
    (λ same. inl (subst (λ list. Contains list read) (sym same) k))
    (λ behind. ⊎_elim
    (λ first. inr (⊎_elim
    (λ same. subst (Contains (next ∷ reads)) same (Contains-first next reads))
    (λ wrong. absurd (Contains-nil read wrong))
    (Contains-cases next [] read first)))
    (λ later. inr (Contains-behind next reads read later))
    (behind-whole (next ∷ []) reads of read behind k))
    (Contains-cases group (grouped_behind (next ∷ []) reads) of there))
    (λ room there. ⊎_elim
    (λ front. ⊎_elim
    (λ old. inl old)
    (λ same. inr (subst (Contains (next ∷ reads)) same (Contains-first next reads)))
    (listed-either group next read front))
    (λ later. inr (Contains-behind next reads read later))
    (behind-whole (group ++ next ∷ []) reads of read there k))
    h

pub grouped-whole : (reads : List Read) (of : List Read) (read : Read) → Contains (grouped reads) of → Contains of read → Contains reads read
grouped-whole [] of read h k = absurd (Contains-nil of h)
grouped-whole (first ∷ reads) of read h k =
    ⊎_elim
    (λ front. ⊎_elim
    (λ same. subst (Contains (first ∷ reads)) same (Contains-first first reads))
    (λ wrong. absurd (Contains-nil read wrong))
    (Contains-cases first [] read front))
    (λ later. Contains-behind first reads read later)
    (behind-whole (first ∷ []) reads of read h k)

-- A group that has the value.
pub record HasGroup (groups : List (List Read)) (read : Read) : Type 0 where
  pub group : List Read
  pub is : Contains groups group
  pub has : Contains group read

group-behind : (first : List Read) (groups : List (List Read)) (read : Read) → HasGroup groups read → HasGroup (first ∷ groups) read
group-behind first groups read found = record { group = found.group; is = Contains-behind first groups found.group found.is; has = found.has }

behind-each : (group reads : List Read) (read : Read) → Contains group read ⊎ Contains reads read → HasGroup (grouped_behind group reads) read
behind-each group [] read which =
    ⊎_elim (λ h. record { group = group; is = Contains-first group []; has = h }) (λ wrong. absurd (Contains-nil read wrong)) which
behind-each group (next ∷ reads) read which =
    if_case (λ groups. HasGroup groups read) (length group == MAX_PROGRAM_ITEMS)
    (λ full. ⊎_elim
    (λ h. record { group = group; is = Contains-first group (grouped_behind (next ∷ []) reads); has = h })
    (λ rest. group-behind group (grouped_behind (next ∷ []) reads) read (behind-each (next ∷ []) reads read (first-or-later rest)))
    which)
    (λ room. behind-each (group ++ next ∷ []) reads read (⊎_elim
    (λ h. inl (listed-before group next read h))
    (λ rest. ⊎_elim
    (λ same. inl (subst (Contains (group ++ next ∷ [])) same (listed-last group next)))
    (λ later. inr later)
    (Contains-cases next reads read rest))
    which))
  where
    first-or-later : Contains (next ∷ reads) read → Contains (next ∷ []) read ⊎ Contains reads read
    first-or-later rest =
        ⊎_elim (λ same. inl (subst (Contains (next ∷ [])) same (Contains-first next []))) (λ later. inr later) (Contains-cases next reads read rest)

pub grouped-each : (reads : List Read) (read : Read) → Contains reads read → HasGroup (grouped reads) read
grouped-each [] read h = absurd (Contains-nil read h)
grouped-each (first ∷ reads) read h =
    behind-each (first ∷ []) reads read
    (⊎_elim (λ same. inl (subst (Contains (first ∷ [])) same (Contains-first first []))) (λ later. inr later) (Contains-cases first reads read h))

-- What is written for an item.

-- It is one of the writes.
pub written-listed : (item : ℕ) (writes : List Read) (cases : List (Case ℤ)) → written item writes ≡ Some cases
    → (write : Read) × (Contains writes write × ((write.item ≡ item) × (write.cases ≡ cases)))
written-listed item [] cases is = absurd (none-some cases is)
written-listed item (first ∷ writes) cases is =
    if_case
    (λ (found : Option (List (Case ℤ))). found ≡ Some cases → (write : Read) × (Contains (first ∷ writes) write × ((write.item ≡ item) × (write.cases ≡ cases))))
    (first.item == item)
    (λ own here. (first, (Contains-first first writes, (eqb-true first.item item own, Some_inj here))))
    (λ other later.
    let found = written-listed item writes cases later in
    (found.0, (Contains-behind first writes found.0 found.1.0, found.1.1)))
    is

-- Where there is a write of the item, something is written.
pub listed-written : (writes : List Read) (write : Read) → Contains writes write → (cases : List (Case ℤ)) × (written write.item writes ≡ Some cases)
listed-written [] write h = absurd (Contains-nil write h)
listed-written (first ∷ writes) write h =
    if_case (λ (found : Option (List (Case ℤ))). (cases : List (Case ℤ)) × (found ≡ Some cases)) (first.item == write.item)
    (λ own. (first.cases, refl))
    (λ other. ⊎_elim
    (λ same. absurd (true≢false (sym (eq-eqb first.item write.item (ap (λ (read : Read). read.item) same)) ∙ other)))
    (λ behind. listed-written writes write behind)
    (Contains-cases first writes write h))

-- The records that save groups of values.

saving-ungiven : (site number : ℕ) (t : TxnId) → saving_txn site number ≡ t → is_given t ≡ false
saving-ungiven site number t same = subst (λ (u : TxnId). is_given u ≡ false) same refl

-- A promise among them writes one of the groups, for a transaction that was never given and commits.
pub record IsSaving (site number : ℕ) (groups : List (List Read)) (t : TxnId) (writes : List Read) : Type 0 where
  pub ungiven : is_given t ≡ false
  pub group : Contains groups writes
  pub commits : Contains (saved_from site number groups) (outcome_known t true)

pub saved-promise : (site number : ℕ) (groups : List (List Read)) (t : TxnId) (writes : List Read) → Contains (saved_from site number groups) (prepared t writes)
    → IsSaving site number groups t writes
saved-promise site number [] t writes h = absurd (Contains-nil _ h)
saved-promise site number (group ∷ groups) t writes h =
    let own = saving_txn site number in
    let rest = saved_from site (number + 1) groups in
    ⊎_elim
    (λ same. let of : own ≡ t = cc in let these : group ≡ writes = cc in record {
      ungiven = saving-ungiven site number t of;
      group = subst (Contains (group ∷ groups)) these (Contains-first group groups);
      commits = subst (λ (u : TxnId). Contains (prepared own group ∷ outcome_known own true ∷ rest) (outcome_known u true)) of
          (Contains-behind (prepared own group) (outcome_known own true ∷ rest) (outcome_known own true) (Contains-first (outcome_known own true) rest));
    })
    (λ behind. ⊎_elim
    (λ other. absurd (let wrong : ⊥ = cc in wrong))
    (λ later. let found = saved-promise site (number + 1) groups t writes later in record {
      ungiven = found.ungiven;
      group = Contains-behind group groups writes found.group;
      commits = Contains-behind (prepared own group) (outcome_known own true ∷ rest) (outcome_known t true)
          (Contains-behind (outcome_known own true) rest (outcome_known t true) found.commits);
    })
    (Contains-cases (outcome_known own true) rest (prepared t writes) behind))
    (Contains-cases (prepared own group) (outcome_known own true ∷ rest) (prepared t writes) h)

-- An outcome among them is that such a transaction commits.
pub saved-outcome : (site number : ℕ) (groups : List (List Read)) (t : TxnId) (b : Bool) → Contains (saved_from site number groups) (outcome_known t b)
    → (b ≡ true) × (is_given t ≡ false)
saved-outcome site number [] t b h = absurd (Contains-nil _ h)
saved-outcome site number (group ∷ groups) t b h =
    let own = saving_txn site number in
    let rest = saved_from site (number + 1) groups in
    ⊎_elim
    (λ other. absurd (let wrong : ⊥ = cc in wrong))
    (λ behind. ⊎_elim
    (λ same. let of : own ≡ t = cc in let said : true ≡ b = cc in (sym said, saving-ungiven site number t of))
    (λ later. saved-outcome site (number + 1) groups t b later)
    (Contains-cases (outcome_known own true) rest (outcome_known t b) behind))
    (Contains-cases (prepared own group) (outcome_known own true ∷ rest) (outcome_known t b) h)

-- None of them is a start.
pub saved-start : (site number : ℕ) (groups : List (List Read)) (epoch : ℕ) → Contains (saved_from site number groups) (epoch_begun epoch) → ⊥
saved-start site number [] epoch h = Contains-nil _ h
saved-start site number (group ∷ groups) epoch h =
    let own = saving_txn site number in
    let rest = saved_from site (number + 1) groups in
    ⊎_elim
    (λ other. let wrong : ⊥ = cc in wrong)
    (λ behind. ⊎_elim
    (λ other. let wrong : ⊥ = cc in wrong)
    (λ later. saved-start site (number + 1) groups epoch later)
    (Contains-cases (outcome_known own true) rest (epoch_begun epoch) behind))
    (Contains-cases (prepared own group) (outcome_known own true ∷ rest) (epoch_begun epoch) h)

-- Each group is written.
pub saved-group : (site number : ℕ) (groups : List (List Read)) (group : List Read) → Contains groups group
    → (t : TxnId) × Contains (saved_from site number groups) (prepared t group)
saved-group site number [] group h = absurd (Contains-nil group h)
saved-group site number (first ∷ groups) group h =
    let own = saving_txn site number in
    let rest = saved_from site (number + 1) groups in
    ⊎_elim
    (λ same. (
      own,
      subst (λ writes. Contains (prepared own first ∷ outcome_known own true ∷ rest) (prepared own writes)) same
          (Contains-first (prepared own first) (outcome_known own true ∷ rest)),
    ))
    (λ behind. let found = saved-group site (number + 1) groups group behind in (
      found.0,
      Contains-behind (prepared own first) (outcome_known own true ∷ rest) (prepared found.0 group)
          (Contains-behind (outcome_known own true) rest (prepared found.0 group) found.1),
    ))
    (Contains-cases first groups group h)

-- How long a journal is with one more record.
use Rattle.std.proofs.Common.{◌≡◌, refl, ℕ, zero, suc, ℤ, ◌+◌, ◌*◌, ◌<◌, ◌≤◌, ◌^◌, List, [], ◌∷◌, ◌++◌, length, map, arith}
use Rattle.std.specs.Prelude.{All}
use Rattle.std.specs.List.{sum_by}
use Rattle.std.proofs.lemmas.List.Elements.{All-contains}
use Rattle.std.proofs.lemmas.List.{length-map}
use Rattle.std.proofs.lemmas.List.Sums.{sum_by-append, sum_by-cons}
use Rattle.std.proofs.Math.Nat.{mul-suc}
use Rattle.pv_base.specs.declared.limits.TheConstants.{HELD_NAMES}
use Rattle.pv_base.specs.declared.txn.TxnId.{TxnId}
use Rattle.pv_base.specs.Polyvalue.{Case}
use Rattle.pv_format.specs.Length.{polyvalue_length}
use Rattle.pv_format.specs.Range.{IsPolyvalueWithin, AreReadsWithin}
use Rattle.pv_format.specs.Record.{Record, prepared}
use Rattle.pv_law_format.proofs.CaseCount.{polyvalue-few}
use Rattle.pv_law_step.proofs.Lists.{all-from, all-head, all-tail}
use Rattle.pv_model.specs.Alternatives.{Read}
use Rattle.pv_protocol.specs.Here.{Here, length_with}
use Rattle.pv_protocol.specs.Records.{record_bytes, journal_bytes, longer_journal}
use Rattle.pv_protocol.specs.Sound.{IsHereInRange}

pub journal-more : (records : List Record) (more : Record) → journal_bytes (records ++ more ∷ []) ≡ journal_bytes records + record_bytes more
unfolding journal_bytes
journal-more records more = omega (arith, sum_by-append record_bytes records (more ∷ []))

-- A journal without records.
pub no-records-long : journal_bytes [] ≡ 9
unfolding journal_bytes
no-records-long = omega arith

-- The same of a journal that is longer than its records make it.
pub longer-sum : (surplus : ℕ) (records : List Record) → longer_journal surplus records ≡ surplus + journal_bytes records
longer-sum zero records = omega arith
longer-sum (suc more) records = refl

pub longer-more : (surplus : ℕ) (records : List Record) (more : Record) → longer_journal surplus (records ++ more ∷ []) ≡ longer_journal surplus records + record_bytes more
longer-more surplus records more = omega (arith, longer-sum surplus (records ++ more ∷ []), longer-sum surplus records, journal-more records more)

-- A sum of small numbers is small.
sum-small : {X : Type 0} (f : X → ℕ) (most : ℕ) (xs : List X) → All (λ x. f x ≤ most) xs → sum_by f xs ≤ most * length xs
sum-small f most [] small = omega arith
sum-small f most (x ∷ xs) small =
    let rest = sum-small f most xs (all-tail (λ y. f y ≤ most) x xs small) in
    let first = all-head (λ y. f y ≤ most) x xs small in
    omega (arith, rest, first, sum_by-cons f x xs, mul-suc most (length xs))

polyvalue-short : (sites : ℕ) (cases : List (Case ℤ)) → IsPolyvalueWithin sites cases → polyvalue_length cases ≤ 200000000
polyvalue-short sites cases is =
    let few = polyvalue-few HELD_NAMES cases is.polyvalue in
    let count : length cases ≤ 65535 = omega (arith, few.count) in
    omega (arith, count)

module _ (sites : ℕ) (here : Here) (sound : IsHereInRange sites here) where
  pub length-short : (txn : TxnId) (writes : List Read) → AreReadsWithin sites 0 writes → length_with here (prepared txn writes) < 2 ^ 64
  length-short txn writes are =
      let each : All (λ (read : Read). 4 + polyvalue_length read.cases ≤ 300000000) writes =
      all-from (λ (read : Read). 4 + polyvalue_length read.cases ≤ 300000000) writes
      (λ read h. omega (arith, polyvalue-short sites read.cases (All-contains (λ (r : Read). IsPolyvalueWithin sites r.cases) writes read are.values h))) in
      let few : length (map (λ (read : Read). read.item) writes) ≤ 16 = are.items.few in
      let short = sum-small (λ (read : Read). 4 + polyvalue_length read.cases) 300000000 writes each in
      omega (arith, short, few, length-map {B = ℕ} writes (λ (read : Read). read.item), sound.room, sound.setup.journal)

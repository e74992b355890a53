-- Compacted records are in range.
use Rattle.std.proofs.Common.{◌≡◌, ◌⊎◌, ⊎_elim, ℕ, ◌+◌, ◌<◌, ◌≤◌, true, false, List, [], ◌∷◌, ◌++◌, inl, inr, length, sym, subst, filter, arith}
use Rattle.std.specs.Prelude.{All, ◌==◌, ◌^◌, map}
use Rattle.std.specs.List.{AllPairs, Contains}
use Rattle.std.proofs.lemmas.Bool.{eqb-false}
use Rattle.std.proofs.lemmas.List.{length-append, length-map}
use Rattle.std.proofs.lemmas.List.Elements.{All-contains, All-nil}
use Rattle.std.proofs.lemmas.List.Kept.{AllPairs-filter}
use Rattle.pv_base.proofs.ContainsLemmas.{Contains-first, Contains-behind, Contains-nil, Contains-cases}
use Rattle.pv_base.proofs.MapLemmas.{Contains-unmap}
use Rattle.pv_base.proofs.OrderLemmas.{pairs-nil, pairs-tail, pairs-first, pairs-cons, pairs-map}
use Rattle.pv_base.specs.Catalog.{Item}
use Rattle.pv_base.specs.declared.limits.TheConstants.{MAX_ITEMS, MAX_PROGRAM_ITEMS}
use Rattle.pv_format.specs.Contents.{greatest_epoch}
use Rattle.pv_format.specs.Range.{IsTxnWithin, IsPolyvalueWithin, AreReadsWithin, IsRecordWithin}
use Rattle.pv_format.specs.Record.{Record, epoch_begun, prepared, outcome_known}
use Rattle.pv_law_acts.proofs.ListLemmas.{listed-either}
use Rattle.pv_law_canonical.proofs.FilterLemmas.{kept-listed}
use Rattle.pv_law_compaction.proofs.CompactLemmas.{IsOpenPromise, compacted, in-parts}
use Rattle.pv_law_compaction.proofs.GroupLemmas.{grouped-whole}
use Rattle.pv_law_compaction.specs.Compact.{is_own_commit, is_changed, shown_of, changed_values, grouped_behind, grouped, saving_txn, saved_from, own_commits}
use Rattle.pv_law_step.proofs.HomeLemmas.{items-home}
use Rattle.pv_law_step.proofs.Lists.{all-from, all-head, all-tail}
use Rattle.pv_law_step.proofs.StepCases.{if_case}
use Rattle.pv_law_step.proofs.ValueRanges.{shown-in-range}
use Rattle.pv_law_step.proofs.WantRanges.{Ascend, ascend-nil, ascend-cons, fewer-numbers}
use Rattle.pv_law_step.proofs.WidthLemmas.{narrow-now}
use Rattle.pv_model.specs.Alternatives.{Read}
use Rattle.pv_protocol.specs.Here.{Here}
use Rattle.pv_protocol.specs.Outcome.{items_from}
use Rattle.pv_protocol.specs.Sound.{IsSetupInRange}
use Rattle.pv_protocol.specs.Start.{just_started}
use Rattle.pv_protocol.specs.State.{Setup}
use Rattle.pv_protocol.specs.Width.{IsNarrow}

-- The items of a site.

from-first : (site first : ℕ) (items : List Item) (n : ℕ) → Contains (items_from site first items) n → first ≤ n
from-first site first [] n h = absurd (Contains-nil n h)
from-first site first (declared ∷ items) n h =
    let later : Contains (items_from site (first + 1) items) n → first ≤ n = λ k. omega (arith, from-first site (first + 1) items n k) in
    if_case (λ (list : List ℕ). Contains list n → first ≤ n) (declared.site == site)
    (λ own k. ⊎_elim (λ same. omega (arith, same)) later (Contains-cases first (items_from site (first + 1) items) n k))
    (λ other k. later k)
    h

from-within : (site first : ℕ) (items : List Item) (n : ℕ) → Contains (items_from site first items) n → n < first + length items
from-within site first [] n h = absurd (Contains-nil n h)
from-within site first (declared ∷ items) n h =
    let later : Contains (items_from site (first + 1) items) n → n < first + length (declared ∷ items) = λ k. omega (arith, from-within site (first + 1) items n k) in
    if_case (λ (list : List ℕ). Contains list n → n < first + length (declared ∷ items)) (declared.site == site)
    (λ own k. ⊎_elim (λ same. omega (arith, same)) later (Contains-cases first (items_from site (first + 1) items) n k))
    (λ other k. later k)
    h

from-ascend : (site first : ℕ) (items : List Item) → Ascend (items_from site first items)
from-ascend site first [] = ascend-nil
from-ascend site first (declared ∷ items) =
    if_case (λ (list : List ℕ). Ascend list) (declared.site == site)
    (λ own. ascend-cons first (items_from site (first + 1) items) (λ m h. omega (arith, from-first site (first + 1) items m h)) (from-ascend site (first + 1) items))
    (λ other. from-ascend site (first + 1) items)

from-few : (site first : ℕ) (items : List Item) → length (items_from site first items) ≤ length items
from-few site first [] = omega arith
from-few site first (declared ∷ items) =
    if_case (λ (list : List ℕ). length list ≤ length (declared ∷ items)) (declared.site == site)
    (λ own. omega (arith, from-few site (first + 1) items))
    (λ other. omega (arith, from-few site (first + 1) items))

-- Groups of values whose items ascend.

abbrev IsBefore : Read → Read → Type 0
IsBefore read later = read.item < later.item

abbrev AreUp : List Read → Type 0
AreUp reads = AllPairs IsBefore reads

one-more-up : (group : List Read) (read : Read) → AreUp group → ((r : Read) → Contains group r → IsBefore r read) → AreUp (group ++ read ∷ [])
one-more-up [] read up before = pairs-cons IsBefore read [] (λ r h. absurd (Contains-nil r h)) (pairs-nil IsBefore)
one-more-up (first ∷ group) read up before =
    pairs-cons IsBefore first (group ++ read ∷ [])
    (λ r h. ⊎_elim
    (λ old. pairs-first IsBefore first group up r old)
    (λ same. subst (λ (s : Read). IsBefore first s) same (before first (Contains-first first group)))
    (listed-either group read r h))
    (one-more-up group read (pairs-tail IsBefore first group up) (λ r h. before r (Contains-behind first group r h)))

alone-up : (read : Read) → AreUp (read ∷ [])
alone-up read = pairs-cons IsBefore read [] (λ r h. absurd (Contains-nil r h)) (pairs-nil IsBefore)

alone-before : (read : Read) (reads : List Read) → AreUp (read ∷ reads) → (r s : Read) → Contains (read ∷ []) r → Contains reads s → IsBefore r s
alone-before read reads up r s h k =
    ⊎_elim
    (λ same. subst (λ (first : Read). IsBefore first s) same (pairs-first IsBefore read reads up s k))
    (λ wrong. absurd (Contains-nil r wrong))
    (Contains-cases read [] r h)

-- A group that may be written: its items ascend, and there are few.
record IsFit (group : List Read) : Type 0 where
  pub up : AreUp group
  pub few : length group ≤ MAX_PROGRAM_ITEMS

behind-fit : (group reads : List Read) → IsFit group → AreUp reads → ((r s : Read) → Contains group r → Contains reads s → IsBefore r s)
    → (of : List Read) → Contains (grouped_behind group reads) of → IsFit of
behind-fit group [] fit up before of h =
    ⊎_elim (λ same. subst IsFit same fit) (λ wrong. absurd (Contains-nil of wrong)) (Contains-cases group [] of h)
behind-fit group (next ∷ reads) fit up before of h =
    if_case (λ groups. Contains groups of → IsFit of) (length group == MAX_PROGRAM_ITEMS)
    (λ full there. ⊎_elim
    (λ same. subst IsFit same fit)
    (λ later. behind-fit (next ∷ []) reads (record { up = alone-up next; few = omega arith }) (pairs-tail IsBefore next reads up) (alone-before next reads up) of later)
    (Contains-cases group (grouped_behind (next ∷ []) reads) of there))
    (λ room there.
    behind-fit (group ++ next ∷ []) reads
    (record {
      up = one-more-up group next fit.up (λ r k. before r next k (Contains-first next reads));
      few = still-few room;
    })
    (pairs-tail IsBefore next reads up)
    (λ r s k l. ⊎_elim
    (λ old. before r s old (Contains-behind next reads s l))
    (λ same. subst (λ (first : Read). IsBefore first s) same (pairs-first IsBefore next reads up s l))
    (listed-either group next r k))
    of there)
    h
  where
    still-few : (length group == MAX_PROGRAM_ITEMS) ≡ false → length (group ++ next ∷ []) ≤ MAX_PROGRAM_ITEMS
    still-few room =
        let apart : length group ≡ MAX_PROGRAM_ITEMS → ⊥ = eqb-false (length group) MAX_PROGRAM_ITEMS room in
        omega (arith, apart, fit.few, length-append group (next ∷ []))

grouped-fit : (reads : List Read) → AreUp reads → (of : List Read) → Contains (grouped reads) of → IsFit of
grouped-fit [] up of h = absurd (Contains-nil of h)
grouped-fit (first ∷ reads) up of h =
    behind-fit (first ∷ []) reads (record { up = alone-up first; few = omega arith }) (pairs-tail IsBefore first reads up) (alone-before first reads up) of h

behind-count : (group reads : List Read) → length (grouped_behind group reads) ≤ 1 + length reads
behind-count group [] = omega arith
behind-count group (next ∷ reads) =
    if_case (λ (groups : List (List Read)). length groups ≤ 1 + length (next ∷ reads)) (length group == MAX_PROGRAM_ITEMS)
    (λ full. omega (arith, behind-count (next ∷ []) reads))
    (λ room. omega (arith, behind-count (group ++ next ∷ []) reads))

grouped-count : (reads : List Read) → length (grouped reads) ≤ length reads
grouped-count [] = omega arith
grouped-count (first ∷ reads) = let most : length (grouped (first ∷ reads)) ≤ 1 + length reads = behind-count (first ∷ []) reads in omega (arith, most)

-- The records that save groups.
saved-in-range : (sites site number : ℕ) (groups : List (List Read)) → site < sites → number + length groups ≤ 2 ^ 32
    → ((group : List Read) → Contains groups group → AreReadsWithin sites 0 group)
    → (kept : Record) → Contains (saved_from site number groups) kept → IsRecordWithin sites kept
saved-in-range sites site number [] home few each kept h = absurd (Contains-nil kept h)
saved-in-range sites site number (group ∷ groups) home few each kept h =
    let own = saving_txn site number in
    let rest = saved_from site (number + 1) groups in
    let is : IsTxnWithin sites own = record { site = home; epoch = omega arith; number = omega (arith, few) } in
    ⊎_elim
    (λ same. subst (IsRecordWithin sites) same (is, each group (Contains-first group groups)))
    (λ behind. ⊎_elim
    (λ same. subst (IsRecordWithin sites) same is)
    (λ later. saved-in-range sites site (number + 1) groups home (omega (arith, few)) (λ g k. each g (Contains-behind group groups g k)) kept later)
    (Contains-cases (outcome_known own true) rest kept behind))
    (Contains-cases (prepared own group) (outcome_known own true ∷ rest) kept h)

epochs-small : (sites : ℕ) (records : List Record) → All (IsRecordWithin sites) records → greatest_epoch records < 2 ^ 32
epochs-small sites [] all = omega arith
epochs-small sites (epoch_begun epoch ∷ records) all =
    let first = all-head (IsRecordWithin sites) (epoch_begun epoch) records all in
    omega (arith, first.1, epochs-small sites records (all-tail (IsRecordWithin sites) (epoch_begun epoch) records all))
epochs-small sites (prepared txn writes ∷ records) all = epochs-small sites records (all-tail (IsRecordWithin sites) (prepared txn writes) records all)
epochs-small sites (outcome_known txn commits ∷ records) all = epochs-small sites records (all-tail (IsRecordWithin sites) (outcome_known txn commits) records all)

module _ (setup : Setup) (sites site : ℕ) (records : List Record) (range : IsSetupInRange setup) (narrow : IsNarrow setup.held_names setup.catalog site records)
    (all : All (IsRecordWithin sites) records) where
  abbrev own_items : List ℕ
  own_items = items_from site 0 setup.catalog.items

  abbrev changed_items : List ℕ
  changed_items = filter (is_changed setup.catalog records) own_items

  abbrev values : List Read
  values = changed_values setup.catalog site records

  values-up : AreUp values
  values-up =
      pairs-map IsBefore (shown_of setup.catalog records) changed_items
      (AllPairs-filter (λ n later. n < later) (is_changed setup.catalog records) own_items (from-ascend site 0 setup.catalog.items))

  values-few : length values ≤ length setup.catalog.items
  values-few =
      omega (
        arith,
        length-map changed_items (shown_of setup.catalog records),
        fewer-numbers own_items changed_items (AllPairs-filter (λ n later. n < later) (is_changed setup.catalog records) own_items (from-ascend site 0 setup.catalog.items))
            (from-ascend site 0 setup.catalog.items) (λ n h. kept-listed (is_changed setup.catalog records) own_items n h),
        from-few site 0 setup.catalog.items,
      )

  -- A value that is saved is of an item of the site, and in range.
  record IsValue (read : Read) : Type 0 where
    pub item : read.item < MAX_ITEMS
    pub cases : IsPolyvalueWithin sites read.cases

  shown-value-of : (n : ℕ) → Contains own_items n → IsValue (shown_of setup.catalog records n)
  shown-value-of n h =
      let here : Here = record { me = site; setup = setup; records = records; surplus = 0; running = just_started 0 } in
      record {
        item = omega (arith, from-within site 0 setup.catalog.items n h, range.items);
        cases = shown-in-range sites setup.catalog range.values records records all n
            (omega (arith, narrow-now setup.held_names setup.catalog site records narrow n (items-home here n h), range.held));
      }

  value-of : (read : Read) → Contains values read → IsValue read
  value-of read h =
      let found = Contains-unmap (shown_of setup.catalog records) changed_items read h in
      subst IsValue found.1.1 (shown-value-of found.0 (kept-listed (is_changed setup.catalog records) own_items found.0 found.1.0))

  group-in-range : (group : List Read) → Contains (grouped values) group → AreReadsWithin sites 0 group
  group-in-range group h =
      let fit = grouped-fit values values-up group h in
      let each : (read : Read) → Contains group read → IsValue read = λ read k. value-of read (grouped-whole values group read h k) in
      record {
        enough = omega arith;
        items = record {
          ascending = pairs-map (λ n later. n < later) (λ (read : Read). read.item) group fit.up;
          each = all-from (λ item. item < MAX_ITEMS) (map (λ (read : Read). read.item) group)
              (λ n k. let found = Contains-unmap (λ (read : Read). read.item) group n k in
              subst (λ (m : ℕ). m < MAX_ITEMS) found.1.1 (each found.0 found.1.0).item);
          few = omega (arith, length-map group (λ (read : Read). read.item), fit.few);
        };
        values = all-from (λ (read : Read). IsPolyvalueWithin sites read.cases) group (λ read k. (each read k).cases);
      }

  nothing-in-range : AreReadsWithin sites 0 []
  nothing-in-range = record {
    enough = omega arith;
    items = record { ascending = ascend-nil; each = All-nil (λ item. item < MAX_ITEMS); few = omega arith };
    values = All-nil (λ (read : Read). IsPolyvalueWithin sites read.cases);
  }

  pub compacted-in-range : site < sites → 1 ≤ greatest_epoch records → All (IsRecordWithin sites) (compacted records site setup.catalog)
  compacted-in-range home begun = all-from (IsRecordWithin sites) (compacted records site setup.catalog) each where
    part : (kept : Record) → Contains (own_commits site records) kept ⊎ (Contains (saved_from site 0 (grouped values)) kept ⊎ IsOpenPromise records kept) → IsRecordWithin sites kept
    part kept (inl commit) = All-contains (IsRecordWithin sites) records kept all (kept-listed (is_own_commit site records) records kept commit)
    part kept (inr (inl saved)) =
        saved-in-range sites site 0 (grouped values) home (omega (arith, grouped-count values, values-few, range.items)) group-in-range kept saved
    part kept (inr (inr doubt)) =
        let was : IsRecordWithin sites (prepared doubt.txn doubt.writes) = All-contains (IsRecordWithin sites) records (prepared doubt.txn doubt.writes) all doubt.promised in
        subst (IsRecordWithin sites) (sym doubt.is) (was.0, nothing-in-range)

    each : (kept : Record) → Contains (compacted records site setup.catalog) kept → IsRecordWithin sites kept
    each kept h =
        ⊎_elim
        (λ start. subst (IsRecordWithin sites) start (begun, epochs-small sites records all))
        (λ rest. part kept (in-parts records site setup.catalog kept rest))
        (Contains-cases (epoch_begun (greatest_epoch records)) _ kept h)

-- What one transaction of an order leaves, as polyvalues over the open outcomes.
use Rattle.std.proofs.Common.{◌≡◌, ⊎_elim, ℕ, ℤ, pos, ◌<◌, Bool, true, false, ◌||◌, ◌&&◌, Option, Some, List, [], ◌∷◌, ◌++◌, length, get_or, refl, sym, ap, subst, ◌∙◌, arith}
use Rattle.std.specs.Prelude.{◌==◌, if◌then◌else◌}
use Rattle.std.specs.List.{AllPairs, Contains, filter, slice_get}
use Rattle.std.specs.Option.{unwrap_or}
use Rattle.std.proofs.lemmas.Bool.{eqb-true, eq-eqb, false≢true, false_from_ne_true}
use Rattle.std.proofs.lemmas.List.Elements.{All-contains, filter_passes}
use Rattle.std.proofs.lemmas.List.Folds.{list_any-append}
use Rattle.std.proofs.lemmas.Option.{slice_get_within, slice_get_cases, slice_get-get_or}
use Rattle.pv_audit.specs.Limits.{as_told, IsValueAfter}
use Rattle.pv_audit.specs.Reports.{Report, is_in}
use Rattle.pv_audit.specs.Values.{AreAllValuesAfter, AreWritten, put_all, AreChoices}
use Rattle.pv_audit.proofs.PutLemmas.{items_of, IsPut, put-cases, length-put_all, IsChosenFrom, choice-from, choice-items}
use Rattle.pv_base.proofs.ContainsLemmas.{Contains-first, Contains-behind, Contains-nil, Contains-cases, Contains-filter}
use Rattle.pv_base.proofs.MapLemmas.{Contains-map, Contains-unmap}
use Rattle.pv_base.proofs.OrderLemmas.{pairs-first, pairs-tail}
use Rattle.pv_base.specs.Assignment.{is_same_txn, commits}
use Rattle.pv_base.specs.Catalog.{Declared}
use Rattle.pv_base.specs.Polyvalue.{Case, value_at, IsCanonical, IsPolyvalue, NamesAtMost}
use Rattle.pv_base.specs.declared.limits.TheConstants.{HELD_NAMES, READ_NAMES}
use Rattle.pv_base.specs.declared.txn.TxnId.{TxnId}
use Rattle.pv_law_agreement.proofs.WriteLemmas.{assigns-names}
use Rattle.pv_law_canonical.proofs.FilterLemmas.{kept-listed}
use Rattle.pv_law_polyvalues.proofs.PolyvalueLemmas.{canonical-complete}
use Rattle.pv_law_programs.proofs.AlikeRows.{own_rows_alone}
use Rattle.pv_law_programs.proofs.ProgramLemmas.{items_stay, unassigned_keeps_value}
use Rattle.pv_law_values.proofs.ChoiceLemmas.{commits-among}
use Rattle.pv_law_values.proofs.SerialLemmas.{serial-append, serial-through, serial-lacks, has-declared}
use Rattle.pv_model.specs.Alternatives.{Read, number_at, rows_at, assigned}
use Rattle.pv_model.specs.Check.{AreItems, names_item}
use Rattle.pv_model.specs.Items.{lacks}
use Rattle.pv_model.specs.Meaning.{Row, value_in, items_of_rows, exec}
use Rattle.pv_model.specs.ProgramLaws.{assigns, HaveSameValuesOf}
use Rattle.pv_model.specs.Serial.{Ordered, declared_rows, serial}
use Rattle.pv_model.specs.Syntax.{Program}

-- ---- which transactions run

-- The committed transactions run, and of the open ones those of the assignment.
pub commits-as_told : (told : Report) (a : List TxnId) (txn : TxnId)
    → commits (as_told told a) txn ≡ (is_in told.committed txn || (is_in told.open_ones txn && commits a txn))
commits-as_told told a txn =
    list_any-append (λ (t : TxnId). is_same_txn t txn) told.committed (filter (is_in told.open_ones) a)
    ∙ ap (λ b. is_in told.committed txn || b) (commits-among told.open_ones a txn)

pub committed-runs : (told : Report) (txn : TxnId) → is_in told.committed txn ≡ true → (a : List TxnId) → commits (as_told told a) txn ≡ true
committed-runs told txn is a = commits-as_told told a txn ∙ ap (λ b. b || (is_in told.open_ones txn && commits a txn)) is

pub open-runs : (told : Report) (txn : TxnId) → is_in told.committed txn ≡ false → is_in told.open_ones txn ≡ true → (a : List TxnId) → commits (as_told told a) txn ≡ commits a txn
open-runs told txn not is a =
    commits-as_told told a txn
    ∙ ap (λ b. b || (is_in told.open_ones txn && commits a txn)) not
    ∙ ap (λ b. b && commits a txn) is

pub other-rests : (told : Report) (txn : TxnId) → is_in told.committed txn ≡ false → is_in told.open_ones txn ≡ false → (a : List TxnId) → commits (as_told told a) txn ≡ false
other-rests told txn not nor a =
    commits-as_told told a txn
    ∙ ap (λ b. b || (is_in told.open_ones txn && commits a txn)) not
    ∙ ap (λ b. b && commits a txn) nor

-- A transaction that doesn't commit leaves what there is.
serial-rests : (rows : List Row) (front : List Ordered) (entry : Ordered) (a : List TxnId) → commits a entry.txn ≡ false → serial rows (front ++ entry ∷ []) a ≡ serial rows front a
serial-rests rows front entry a rests =
    serial-append rows front (entry ∷ []) a
    ∙ ap (λ b. if b then (exec entry.program (serial rows front a)).rows else serial rows front a) rests

-- ---- rows

-- Canonical cases have a value everywhere.
some-number : (cases : List (Case ℤ)) → IsCanonical cases → (a : List TxnId) → value_at cases a ≡ Some (number_at cases a)
some-number cases canonical a =
    let found = canonical-complete cases canonical a in
    found.1 ∙ ap (λ (z : ℤ). Some z) (sym (ap (λ (o : Option ℤ). unwrap_or o (pos 0)) found.1))

-- Rows of reads that have the values of their items.
rows-hold : (f : ℕ → ℤ) (reads : List Read) (a : List TxnId) → ((read : Read) → Contains reads read → number_at read.cases a ≡ f read.item) → (n : ℕ)
    → Contains (items_of reads) n → (lacks (rows_at reads a) n ≡ false) × (value_in (rows_at reads a) n ≡ f n)
rows-hold f [] a hold n there = absurd (Contains-nil n there)
rows-hold f (read ∷ reads) a hold n there =
    by (read.item == n) refl (λ behind. rows-hold f reads a (λ r h. hold r (Contains-behind read reads r h)) n behind)
  where
    by : (b : Bool) → (read.item == n) ≡ b
        → (Contains (items_of reads) n → (lacks (rows_at reads a) n ≡ false) × (value_in (rows_at reads a) n ≡ f n))
        → ((if b then false else lacks (rows_at reads a) n) ≡ false) × ((if b then number_at read.cases a else value_in (rows_at reads a) n) ≡ f n)
    by true is rest = (refl, hold read (Contains-first read reads) ∙ ap f (eqb-true read.item n is))
    by false is rest =
        ⊎_elim
        (λ same. absurd (false≢true (sym is ∙ eq-eqb read.item n same)))
        rest
        (Contains-cases read.item (items_of reads) n there)

items-rows : (reads : List Read) (a : List TxnId) → items_of_rows (rows_at reads a) ≡ items_of reads
items-rows [] a = refl
items-rows (read ∷ reads) a = ap (λ (l : List ℕ). read.item ∷ l) (items-rows reads a)

-- Of rows whose items ascend each has the value of its item.
own-value : (rows : List Row) → AllPairs (λ (n later : ℕ). n < later) (items_of_rows rows) → (row : Row) → Contains rows row → row.value ≡ value_in rows row.item
own-value [] up row there = absurd (Contains-nil row there)
own-value (first ∷ rows) up row there =
    ⊎_elim
    (λ same. subst (λ (r : Row). r.value ≡ value_in (first ∷ rows) r.item) same (at-first (first.item == first.item) (eq-eqb first.item first.item refl)))
    (λ behind. at-rest (first.item == row.item)
    (later first.item row.item
    (pairs-first (λ (n later : ℕ). n < later) first.item (items_of_rows rows) up row.item (Contains-map (λ (r : Row). r.item) rows row behind)))
    (own-value rows (pairs-tail (λ (n later : ℕ). n < later) first.item (items_of_rows rows) up) row behind))
    (Contains-cases first rows row there)
  where
    at-first : (b : Bool) → b ≡ true → first.value ≡ (if b then first.value else value_in rows first.item)
    at-first b is = ap (λ (c : Bool). if c then first.value else value_in rows first.item) (sym is)

    later : (n m : ℕ) → n < m → (n == m) ≡ false
    later n m less = false_from_ne_true (n == m) (λ same. let equal : n ≡ m = eqb-true n m same in omega (arith, less, equal))

    at-rest : (b : Bool) → b ≡ false → row.value ≡ value_in rows row.item → row.value ≡ (if b then first.value else value_in rows row.item)
    at-rest b is own = own ∙ ap (λ (c : Bool). if c then first.value else value_in rows row.item) (sym is)

-- ---- what is written

module _ (program : Program) (reads writes : List Read) (a : List TxnId) (are : AreItems program (items_of reads))
    (written : rows_at writes a ≡ assigned program (exec program (rows_at reads a)).rows) where
  abbrev left : List Row
  left = (exec program (rows_at reads a)).rows

  left-items : items_of_rows left ≡ items_of reads
  left-items = items_stay program (rows_at reads a) ∙ items-rows reads a

  -- What is written of an item is its value in what the program leaves; the item is read, and assigned.
  record IsOwn (write : Read) : Type 0 where
    value : number_at write.cases a ≡ value_in left write.item
    read : Contains (items_of reads) write.item
    assigned : assigns program write.item ≡ true

  write-own : (write : Read) → Contains writes write → IsOwn write
  write-own write there =
      let row : Row = record { item = write.item; value = number_at write.cases a } in
      let kept : Contains (assigned program left) row =
      subst (λ (rows : List Row). Contains rows row) written (Contains-map (λ (read : Read). record { item = read.item; value = number_at read.cases a }) writes write there) in
      let listed : Contains left row = kept-listed (λ (r : Row). assigns program r.item) left row kept in record {
        value = own-value left (subst (λ (items : List ℕ). AllPairs (λ (n later : ℕ). n < later) items) (sym left-items) are.ascending) row listed;
        read = subst (λ (items : List ℕ). Contains items write.item) left-items (Contains-map (λ (r : Row). r.item) left row listed);
        assigned = All-contains (λ (r : Row). assigns program r.item ≡ true) (assigned program left) row
            (filter_passes (λ (r : Row). assigns program r.item) left) kept;
      }

  -- Each item that the program assigns is written.
  assigned-written : (n : ℕ) → assigns program n ≡ true → Contains (items_of writes) n
  assigned-written n does =
      let read : Contains (items_of_rows left) n = subst (λ (items : List ℕ). Contains items n) (sym left-items) (are.whole n (assigns-names program n does)) in
      let found = Contains-unmap (λ (r : Row). r.item) left n read in
      let kept : Contains (assigned program left) found.0 =
      Contains-filter (λ (r : Row). assigns program r.item) left found.0 (ap (assigns program) found.1.1 ∙ does) found.1.0 in
      let there : Contains (rows_at writes a) found.0 = subst (λ (rows : List Row). Contains rows found.0) (sym written) kept in
      let item : Contains (items_of_rows (rows_at writes a)) found.0.item = Contains-map (λ (r : Row). r.item) (rows_at writes a) found.0 there in
      subst (λ (m : ℕ). Contains (items_of writes) m) found.1.1 (subst (λ (items : List ℕ). Contains items found.0.item) (items-rows writes a) item)

-- Each item that is written is one of the values.
pub written-place : (program : Program) (values : List (List (Case ℤ))) (writes : List Read) → AreWritten program values writes → (write : Read) → Contains writes write
    → write.item < length values
written-place program values writes is write there =
    let own = write-own program is.reads writes [] is.are.items (is.split.split.written []) write there in
    let found = Contains-unmap (λ (read : Read). read.item) is.reads write.item own.read in
    let at : slice_get values found.0.item ≡ Some found.0.cases = All-contains (λ (r : Read). slice_get values r.item ≡ Some r.cases) is.reads found.0 is.are.each found.1.0 in
    slice_get_within values write.item found.0.cases (subst (λ (m : ℕ). slice_get values m ≡ Some found.0.cases) found.1.1 at)

-- ---- one transaction more

more-names : (cases : List (Case ℤ)) → NamesAtMost READ_NAMES cases → NamesAtMost HELD_NAMES cases
more-names cases few txns are = omega (arith, few txns are)

module _ (catalog : Declared) (told : Report) (done : List Ordered) (values : List (List (Case ℤ))) (after : AreAllValuesAfter catalog told done values) where
  -- the rows that are left at the assignment
  abbrev before : List TxnId → List Row
  before a = serial (declared_rows catalog) done (as_told told a)

  number-before : (n : ℕ) (cases : List (Case ℤ)) → slice_get values n ≡ Some cases → (a : List TxnId) → number_at cases a ≡ value_in (before a) n
  number-before n cases is a = ap (λ (o : Option ℤ). unwrap_or o (pos 0)) ((after.each n cases is).same a)

  has-before : (n : ℕ) (cases : List (Case ℤ)) → slice_get values n ≡ Some cases → (a : List TxnId) → lacks (before a) n ≡ false
  has-before n cases is a =
      ⊎_elim
      (λ found. serial-lacks (declared_rows catalog) done (as_told told a) n ∙ has-declared catalog n found.0 found.2)
      (λ past. absurd (let within = slice_get_within values n cases is in omega (arith, within, past.0, after.count)))
      (slice_get_cases catalog.items n).1

  module _ (entry : Ordered) (writes : List Read) (is : AreWritten entry.program values writes) where
    abbrev program : Program
    program = entry.program

    read-there : (n : ℕ) → Contains (items_of is.reads) n → (read : Read) × Contains is.reads read × (read.item ≡ n)
    read-there n there = let found = Contains-unmap (λ (read : Read). read.item) is.reads n there in (found.0, found.1.0, found.1.1)

    pub read-value : (read : Read) → Contains is.reads read → slice_get values read.item ≡ Some read.cases
    read-value read there = All-contains (λ (r : Read). slice_get values r.item ≡ Some r.cases) is.reads read is.are.each there

    reads-alike : (a : List TxnId) → HaveSameValuesOf (names_item program) (rows_at is.reads a) (before a)
    reads-alike a n named =
        let there : Contains (items_of is.reads) n = is.are.items.whole n named in
        let found = read-there n there in
        let at : slice_get values n ≡ Some found.0.cases = subst (λ (m : ℕ). slice_get values m ≡ Some found.0.cases) found.2 (read-value found.0 found.1) in
        let own = rows-hold (value_in (before a)) is.reads a (λ read h. number-before read.item read.cases (read-value read h) a) n there in
        (own.0 ∙ sym (has-before n found.0.cases at a), own.1)

    left-alike : (a : List TxnId) → HaveSameValuesOf (names_item program) (exec program (rows_at is.reads a)).rows (exec program (before a)).rows
    left-alike a = (own_rows_alone (names_item program) program (rows_at is.reads a) (before a) (λ n h. h) (reads-alike a)).1

    -- What is written of an item has the value that the program leaves it.
    write-value : (write : Read) → Contains writes write → (a : List TxnId) → value_at write.cases a ≡ Some (value_in (exec program (before a)).rows write.item)
    write-value write there a =
        let own = write-own program is.reads writes a is.are.items (is.split.split.written a) write there in
        let canonical : IsCanonical write.cases = (All-contains (λ (w : Read). IsPolyvalue READ_NAMES w.cases) writes write is.split.writes there).canonical in
        some-number write.cases canonical a
        ∙ ap (λ (z : ℤ). Some z) (own.value ∙ (left-alike a write.item (assigns-names program write.item own.assigned)).1)

    -- What isn't written stays.
    unwritten-stays : (n : ℕ) → (Contains (items_of writes) n → ⊥) → (a : List TxnId) → value_in (exec program (before a)).rows n ≡ value_in (before a) n
    unwritten-stays n unwritten a =
        unassigned_keeps_value program (before a) n
        (false_from_ne_true (assigns program n) (λ does. unwritten (assigned-written program is.reads writes a is.are.items (is.split.split.written a) n does)))

    write-few : (write : Read) → Contains writes write → NamesAtMost HELD_NAMES write.cases
    write-few write there = more-names write.cases (All-contains (λ (w : Read). IsPolyvalue READ_NAMES w.cases) writes write is.split.writes there).few

    write-canonical : (write : Read) → Contains writes write → IsCanonical write.cases
    write-canonical write there = (All-contains (λ (w : Read). IsPolyvalue READ_NAMES w.cases) writes write is.split.writes there).canonical

    -- Each item that is written is read.
    pub write-read : (write : Read) → Contains writes write → (read : Read) × Contains is.reads read × (read.item ≡ write.item)
    write-read write there =
        let own = write-own program is.reads writes [] is.are.items (is.split.split.written []) write there in
        read-there write.item own.read

    -- the rows that are left behind this one
    abbrev behind : List TxnId → List Row
    behind a = serial (declared_rows catalog) (done ++ entry ∷ []) (as_told told a)

    behind-runs : (a : List TxnId) → commits (as_told told a) entry.txn ≡ true → behind a ≡ (exec program (before a)).rows
    behind-runs a runs = serial-through (declared_rows catalog) done entry (as_told told a) runs

    behind-rests : (a : List TxnId) → commits (as_told told a) entry.txn ≡ false → behind a ≡ before a
    behind-rests a rests = serial-rests (declared_rows catalog) done entry (as_told told a) rests

    -- An item that isn't written has the value that it had.
    unwritten-value : (n : ℕ) → (Contains (items_of writes) n → ⊥) → (a : List TxnId) → value_in (behind a) n ≡ value_in (before a) n
    unwritten-value n unwritten a = by (commits (as_told told a) entry.txn) refl
      where
        by : (b : Bool) → commits (as_told told a) entry.txn ≡ b → value_in (behind a) n ≡ value_in (before a) n
        by true runs = ap (λ (rows : List Row). value_in rows n) (behind-runs a runs) ∙ unwritten-stays n unwritten a
        by false rests = ap (λ (rows : List Row). value_in rows n) (behind-rests a rests)

    unwritten-after : (n : ℕ) (cases : List (Case ℤ)) → slice_get values n ≡ Some cases → (Contains (items_of writes) n → ⊥) → IsValueAfter catalog told (done ++ entry ∷ []) n cases
    unwritten-after n cases at unwritten = record {
      canonical = (after.each n cases at).canonical;
      same = λ a. (after.each n cases at).same a ∙ ap (λ (z : ℤ). Some z) (sym (unwritten-value n unwritten a));
    }

    -- ---- a committed transaction

    module _ (committed : is_in told.committed entry.txn ≡ true) where
      write-after : (write : Read) → Contains writes write → IsValueAfter catalog told (done ++ entry ∷ []) write.item write.cases
      write-after write there = record {
        canonical = write-canonical write there;
        same = λ a. write-value write there a
            ∙ ap (λ (rows : List Row). Some (value_in rows write.item)) (sym (behind-runs a (committed-runs told entry.txn committed a)));
      }

      put-after : (n : ℕ) (cases : List (Case ℤ)) → IsPut writes n cases → IsValueAfter catalog told (done ++ entry ∷ []) n cases
      put-after n cases put =
          subst (λ (m : ℕ). IsValueAfter catalog told (done ++ entry ∷ []) m cases) put.item
          (subst (λ (cs : List (Case ℤ)). IsValueAfter catalog told (done ++ entry ∷ []) put.write.item cs) put.cases_are (write-after put.write put.listed))

      pub commit-step : AreAllValuesAfter catalog told (done ++ entry ∷ []) (put_all values writes)
      commit-step = record {
        count = length-put_all values writes ∙ after.count;
        each = λ n cases at. ⊎_elim (λ put. put-after n cases put) (λ stays. unwritten-after n cases stays.0 stays.1) (put-cases values writes n cases at);
        few = λ n cases at. ⊎_elim
            (λ put. subst (λ (cs : List (Case ℤ)). NamesAtMost HELD_NAMES cs) put.cases_are (write-few put.write put.listed))
            (λ stays. after.few n cases stays.0)
            (put-cases values writes n cases at);
      }

    -- ---- an open transaction

    module _ (uncommitted : is_in told.committed entry.txn ≡ false) (opened : is_in told.open_ones entry.txn ≡ true) (choices : List Read)
        (chosen : AreChoices entry.txn values writes choices) where
      chosen-value : (choice : Read) → IsChosenFrom entry.txn values writes choice → (a : List TxnId) → value_at choice.cases a ≡ Some (value_in (behind a) choice.item)
      chosen-value choice from a = by (commits a entry.txn) refl
        where
          old : List (Case ℤ)
          old = get_or values from.write.item []

          old-at : slice_get values from.write.item ≡ Some old
          old-at = slice_get-get_or values from.write.item [] (written-place program values writes is from.write from.listed)

          value : (b : Bool) → commits a entry.txn ≡ b → value_at choice.cases a ≡ value_at (if b then from.write.cases else old) a
          value b is = from.choice.1.choice a ∙ ap (λ (c : Bool). value_at (if c then from.write.cases else old) a) is

          item : (rows : List Row) → value_in rows from.write.item ≡ value_in rows choice.item
          item rows = ap (value_in rows) (sym from.choice.0)

          runs : (b : Bool) → commits a entry.txn ≡ b → commits (as_told told a) entry.txn ≡ b
          runs b is = open-runs told entry.txn uncommitted opened a ∙ is

          by : (b : Bool) → commits a entry.txn ≡ b → value_at choice.cases a ≡ Some (value_in (behind a) choice.item)
          by true is =
              value true is
              ∙ write-value from.write from.listed a
              ∙ ap (λ (z : ℤ). Some z) (item (exec program (before a)).rows)
              ∙ ap (λ (rows : List Row). Some (value_in rows choice.item)) (sym (behind-runs a (runs true is)))
          by false is =
              value false is
              ∙ (after.each from.write.item old old-at).same a
              ∙ ap (λ (z : ℤ). Some z) (item (before a))
              ∙ ap (λ (rows : List Row). Some (value_in rows choice.item)) (sym (behind-rests a (runs false is)))

      chosen-after : (n : ℕ) (cases : List (Case ℤ)) → IsPut choices n cases → IsValueAfter catalog told (done ++ entry ∷ []) n cases
      chosen-after n cases put =
          let from = choice-from entry.txn values writes choices chosen put.write put.listed in
          let here : IsValueAfter catalog told (done ++ entry ∷ []) put.write.item put.write.cases =
          record { canonical = from.choice.1.polyvalue.canonical; same = chosen-value put.write from } in
          subst (λ (m : ℕ). IsValueAfter catalog told (done ++ entry ∷ []) m cases) put.item
          (subst (λ (cs : List (Case ℤ)). IsValueAfter catalog told (done ++ entry ∷ []) put.write.item cs) put.cases_are here)

      not-written : (n : ℕ) → (Contains (items_of choices) n → ⊥) → Contains (items_of writes) n → ⊥
      not-written n unwritten there = unwritten (subst (λ (items : List ℕ). Contains items n) (sym (choice-items entry.txn values writes choices chosen)) there)

      pub open-step : AreAllValuesAfter catalog told (done ++ entry ∷ []) (put_all values choices)
      open-step = record {
        count = length-put_all values choices ∙ after.count;
        each = λ n cases at. ⊎_elim (λ put. chosen-after n cases put) (λ stays. unwritten-after n cases stays.0 (not-written n stays.1)) (put-cases values choices n cases at);
        few = λ n cases at. ⊎_elim
            (λ put. subst (λ (cs : List (Case ℤ)). NamesAtMost HELD_NAMES cs) put.cases_are
            (choice-from entry.txn values writes choices chosen put.write put.listed).choice.1.polyvalue.few)
            (λ stays. after.few n cases stays.0)
            (put-cases values choices n cases at);
      }

  -- A transaction that is neither committed nor open leaves all as it is.
  pub idle-step : (entry : Ordered) → is_in told.committed entry.txn ≡ false → is_in told.open_ones entry.txn ≡ false
      → AreAllValuesAfter catalog told (done ++ entry ∷ []) values
  idle-step entry uncommitted closed = record {
    count = after.count;
    each = λ n cases at. record {
      canonical = (after.each n cases at).canonical;
      same = λ a. (after.each n cases at).same a
          ∙ ap (λ (rows : List Row). Some (value_in rows n))
          (sym (serial-rests (declared_rows catalog) done entry (as_told told a) (other-rests told entry.txn uncommitted closed a)));
    };
    few = after.few;
  }

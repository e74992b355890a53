-- What a site starts from: its records, and that they are in range and narrow.
use Rattle.std.proofs.Common.{◌≡◌, inl, inr, refl, sym, subst, ap, ◌∙◌, ⊎_elim, ℕ, zero, suc, ◌+◌, ◌<◌, ◌≤◌, Bool, true, false, List, [], ◌∷◌, ◌++◌, length, Option, Some, None, arith}
use Rattle.std.specs.Prelude.{IsTrue, slice_get, nat_lt, ◌==◌, if◌then◌else◌, min, is_some, ◌^◌, ◌-◌, sum_by}
use Rattle.std.specs.List.{Contains}
use Rattle.std.specs.Option.{option_or}
use Rattle.std.proofs.lemmas.Bool.{false≢true, ltb-false}
use Rattle.std.proofs.lemmas.List.{append_assoc, append-nil}
use Rattle.std.proofs.lemmas.List.Sums.{sum_by-append, sum_by-cons}
use Rattle.pv_base.proofs.ContainsLemmas.{Contains-first, Contains-behind, Contains-nil, Contains-cases}
use Rattle.pv_base.specs.Catalog.{Declared, Item}
use Rattle.pv_base.specs.declared.limits.TheConstants.{HELD_NAMES}
use Rattle.pv_base.specs.declared.txn.TxnId.{TxnId}
use Rattle.pv_format.specs.Contents.{AreWritten, SpellRecords}
use Rattle.pv_format.specs.Length.{record_length}
use Rattle.pv_format.specs.Range.{IsRecordInRange}
use Rattle.pv_format.specs.RecordSpelling.{IsReadAs, SpellsRecord}
use Rattle.std.proofs.lemmas.Bool.Decides.{nat_tests}
use Rattle.pv_format.specs.Record.{Record, epoch_begun, prepared, outcome_known}
use Rattle.pv_disk_model.specs.Size.{Contents, size_of}
use Rattle.pv_disk_model.specs.LogModel.{LogModel}
use Rattle.pv_law_format.proofs.LengthLemmas.{record-length}
use Rattle.pv_law_format.proofs.OldLengths.{old-longer}
use Rattle.pv_law_format.proofs.RangeLemmas.{read-from, record-spelled}
use Rattle.pv_model.specs.Alternatives.{Read}
use Rattle.pv_protocol.specs.Lock.{is_home, is_of_site}
use Rattle.pv_protocol.specs.Outcome.{items_from}
use Rattle.pv_protocol.specs.Records.{journal_bytes, record_bytes}
use Rattle.pv_protocol.specs.Shown.{shown_within}
use Rattle.pv_protocol.specs.Width.{IsNarrow}
use Rattle.pv_store.specs.Refusals.{first_too_many, first_too_many_after, if_too_many, names_count, site_items, too_many_in, width}

sizes : (records : List Record) (contents : Contents) → AreWritten records contents
    → sum_by (λ (content : List ℕ). 5 + length content) contents ≡ sum_by record_bytes records
sizes [] [] written = refl
sizes [] (content ∷ contents) written = absurd written
sizes (first ∷ records) [] written = absurd written
sizes (first ∷ records) (content ∷ contents) written =
    omega (arith, sizes records contents written.1, record-length first content written.0, sum_by-cons (λ (content : List ℕ). 5 + length content) content contents, sum_by-cons record_bytes first records)

-- A log of records as they are written is as long as the records make it.
pub size-journal : (records : List Record) (contents : Contents) → AreWritten records contents → size_of contents ≡ journal_bytes records
unfolding journal_bytes
size-journal records contents written = omega (arith, sizes records contents written)

-- What is read as a record is at least as long as it is as it's written.
content-least : (entry : Record) (content : List ℕ) → IsReadAs entry content → record_length entry ≤ length content
content-least entry content (inl spelled) = omega (arith, record-length entry content spelled)
content-least entry content (inr old) =
    let written = record-spelled entry (read-from entry content (inr old)) in
    omega (arith, record-length entry written.0 written.1, (old-longer entry written.0 content written.1 old).0)

sizes-least : (records : List Record) (contents : Contents) → SpellRecords records contents
    → sum_by record_bytes records ≤ sum_by (λ (content : List ℕ). 5 + length content) contents
sizes-least [] [] spelled = omega arith
sizes-least [] (content ∷ contents) spelled = absurd spelled
sizes-least (first ∷ records) [] spelled = absurd spelled
sizes-least (first ∷ records) (content ∷ contents) spelled =
    omega (arith, sizes-least records contents spelled.1, content-least first content spelled.0, sum_by-cons (λ (content : List ℕ). 5 + length content) content contents, sum_by-cons record_bytes first records)

-- So a log is at least as long as its records make it as they are written.
pub journal-least : (records : List Record) (contents : Contents) → SpellRecords records contents → journal_bytes records ≤ size_of contents
unfolding journal_bytes
journal-least records contents spelled = omega (arith, sizes-least records contents spelled)

-- The front of a log isn't longer than its records make it by more than the whole log is.
pub front-shorter : (records others : List Record) (contents later : Contents) → SpellRecords others later
    → size_of contents + journal_bytes (records ++ others) ≤ size_of (contents ++ later) + journal_bytes records
unfolding journal_bytes
front-shorter records others contents later spelled =
    omega (arith, sizes-least others later spelled, sum_by-append record_bytes records others, sum_by-append (λ (content : List ℕ). 5 + length content) contents later)

-- What is read as records is in range.
pub records-in-range : (records : List Record) (contents : Contents) → SpellRecords records contents → (one : Record) → Contains records one → IsRecordInRange one
records-in-range [] contents spelled one there = absurd (Contains-nil one there)
records-in-range (first ∷ records) [] spelled one there = absurd spelled
records-in-range (first ∷ records) (content ∷ contents) spelled one there =
    ⊎_elim (λ same. subst IsRecordInRange same (read-from first content spelled.0)) (λ behind. records-in-range records contents spelled.1 one behind)
    (Contains-cases first records one there)

-- An item of the site is listed.
listed : (site first : ℕ) (items : List Item) (k : ℕ) → IsTrue (is_of_site site (slice_get items k)) → Contains (items_from site first items) (first + k)
listed site first [] k home = absurd (false≢true home)
listed site first (declared ∷ items) zero home =
    subst (λ (test : Bool). Contains (if test then first ∷ items_from site (first + 1) items else items_from site (first + 1) items) (first + 0)) (sym home)
    (subst (λ n. Contains (first ∷ items_from site (first + 1) items) n) (omega arith) (Contains-first first (items_from site (first + 1) items)))
listed site first (declared ∷ items) (suc k) home =
    by (declared.site == site) (subst (λ n. Contains (items_from site (first + 1) items) n) (omega arith) (listed site (first + 1) items k home))
  where
    by : (test : Bool) → Contains (items_from site (first + 1) items) (first + suc k)
        → Contains (if test then first ∷ items_from site (first + 1) items else items_from site (first + 1) items) (first + suc k)
    by true h = Contains-behind first (items_from site (first + 1) items) (first + suc k) h
    by false h = h

pub home-listed : (catalog : Declared) (site item : ℕ) → IsTrue (is_home catalog site item) → Contains (site_items catalog site) item
home-listed catalog site item home = subst (λ n. Contains (site_items catalog site) n) (omega arith) (listed site 0 catalog.items item home)

-- Where neither is, nothing is.
none-both : {X : Type 0} (one other : Option X) → option_or one other ≡ None → (one ≡ None) × (other ≡ None)
none-both None other none = (refl, none)
none-both (Some x) other none = absurd (let wrong : ⊥ = cc in wrong)

few-by : (count : ℕ) (b : Bool) → nat_lt HELD_NAMES count ≡ b → (if b then Some count else None) ≡ None → count ≤ HELD_NAMES
few-by count true is none = absurd (let wrong : ⊥ = cc in wrong)
few-by count false is none = ltb-false HELD_NAMES count is

few : (count : ℕ) → if_too_many count ≡ None → count ≤ HELD_NAMES
few count none = few-by count (nat_lt HELD_NAMES count) refl none

module _ (catalog : Declared) (records : List Record) where
  -- No item that is looked at names too many outcomes.
  pub few-at : (front : List Record) (items : List ℕ) → first_too_many catalog records front items ≡ None → (item : ℕ) → Contains items item
      → names_count (shown_within catalog records front item) ≤ HELD_NAMES
  few-at front [] none item there = absurd (Contains-nil item there)
  few-at front (first ∷ items) none item there =
      let both = none-both (if_too_many (width catalog records front first)) (first_too_many catalog records front items) none in
      ⊎_elim (λ same. subst (λ n. names_count (shown_within catalog records front n) ≤ HELD_NAMES) same (few (width catalog records front first) both.0))
      (λ behind. few-at front items both.1 item behind) (Contains-cases first items item there)

  module _ (items : List ℕ) (txn : TxnId) (writes : List Read) where
    none-behind : (before : List Record) (first : Record) (rest : List Record) → first_too_many_after catalog records items before (first ∷ rest) ≡ None
        → first_too_many_after catalog records items (before ++ first ∷ []) rest ≡ None
    none-behind before (epoch_begun epoch) rest none = none
    none-behind before (prepared other written) rest none =
        (none-both (first_too_many catalog records (before ++ prepared other written ∷ []) items)
        (first_too_many_after catalog records items (before ++ prepared other written ∷ []) rest) none).1
    none-behind before (outcome_known other commits) rest none = none

    -- After no prepared record an item names too many outcomes.
    none-after : (before rest front back : List Record) → first_too_many_after catalog records items before rest ≡ None → rest ≡ front ++ prepared txn writes ∷ back
        → first_too_many catalog records ((before ++ front) ++ prepared txn writes ∷ []) items ≡ None
    none-after before [] [] back none is = absurd (let wrong : ⊥ = cc in wrong)
    none-after before [] (f ∷ front) back none is = absurd (let wrong : ⊥ = cc in wrong)
    none-after before (first ∷ rest) [] back none is =
        let same : first ≡ prepared txn writes = cc in
        let at : first_too_many_after catalog records items before (prepared txn writes ∷ rest) ≡ None =
        subst (λ (r : Record). first_too_many_after catalog records items before (r ∷ rest) ≡ None) same none in
        subst (λ (all : List Record). first_too_many catalog records (all ++ prepared txn writes ∷ []) items ≡ None) (sym (append-nil before))
        (none-both (first_too_many catalog records (before ++ prepared txn writes ∷ []) items)
        (first_too_many_after catalog records items (before ++ prepared txn writes ∷ []) rest) at).0
    none-after before (first ∷ rest) (f ∷ front) back none is =
        let same : first ≡ f = cc in
        let behind : rest ≡ front ++ prepared txn writes ∷ back = cc in
        subst (λ (all : List Record). first_too_many catalog records (all ++ prepared txn writes ∷ []) items ≡ None)
        (append_assoc before (first ∷ []) front ∙ ap (λ (r : Record). before ++ (r ∷ front)) same)
        (none-after (before ++ first ∷ []) rest front back (none-behind before first rest none) behind)

-- Records that a store takes are narrow.
pub narrow-taken : (catalog : Declared) (site : ℕ) (records : List Record) → too_many_in catalog site records ≡ None → IsNarrow HELD_NAMES catalog site records
unfolding too_many_in
narrow-taken catalog site records none = record {
  few = λ before after txn writes item home is.
      few-at catalog records (before ++ prepared txn writes ∷ []) (site_items catalog site)
      (none-after catalog records (site_items catalog site) txn writes [] records before after none is) item (home-listed catalog site item home);
}

-- A log whose length isn't that of what was read doesn't tell what it holds.
module _ {W : Type 0} (M : LogModel W) (log : W) (intact : M.is_intact log) (up : M.is_down log ≡ false) where
  untold-by : (was : Option Contents) → M.contents log ≡ was → (contents : Contents) → ((held : Contents) → M.contents log ≡ Some held → contents ≡ held)
      → (min (size_of contents) (2 ^ 64 - 1) ≡ M.size log → ⊥) → is_some was ≡ false
  untold-by None is contents read other = refl
  untold-by (Some held) is contents read other =
      absurd (other (
      let bound = M.is_bounded log intact in
      let size = M.size_is log held intact up is in
      let same : size_of contents ≡ size_of held = ap size_of (read held is) in
      omega (arith, bound, size, same)))

  pub untold : (contents : Contents) → ((held : Contents) → M.contents log ≡ Some held → contents ≡ held)
      → (min (size_of contents) (2 ^ 64 - 1) ≡ M.size log → ⊥) → is_some (M.contents log) ≡ false
  untold contents read other = untold-by (M.contents log) refl contents read other

  -- What was read has another length then, however long it is.
  pub other-size : (contents : Contents) → (min (size_of contents) (2 ^ 64 - 1) ≡ M.size log → ⊥) → size_of contents ≡ M.size log → ⊥
  other-size contents other same = other (omega (arith, same, M.is_bounded log intact))

  -- Else it is as long as what was read.
  pub read-size : (contents : Contents) → min (size_of contents) (2 ^ 64 - 1) ≡ M.size log → M.size log ≡ size_of contents
  read-size contents is = omega (arith, is, M.is_bounded log intact)

-- An epoch that may be recorded has a spelling.
pub epoch-spelled : (epoch : ℕ) → 1 ≤ epoch → epoch < 2 ^ 32 → (bytes : List ℕ) × SpellsRecord (epoch_begun epoch) bytes
epoch-spelled epoch least most = record-spelled (epoch_begun epoch) (least, most)

-- What is true below a place and there is true up to it.
up-to : (P : ℕ → Type 0) (n : ℕ) → ((i : ℕ) → i < n → P i) → P n → (i : ℕ) → i < n + 1 → P i
up-to P n below here i within = by (nat_lt i n) refl where
  by : (b : Bool) → nat_lt i n ≡ b → P i
  by true is = below i (grind (arith, nat_tests, is))
  by false is = let same : i ≡ n = omega (arith, within, ltb-false i n is) in subst P (sym same) here

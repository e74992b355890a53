-- What values depend on.
use Rattle.std.proofs.Common.{◌≡◌, ℕ, ℤ, pos, Bool, true, Some, None, Option, List, [], ◌∷◌, refl, sym, ap, ◌∙◌}
use Rattle.std.specs.Prelude.{◌==◌, All, if◌then◌else◌}
use Rattle.std.specs.Option.{unwrap_or}
use Rattle.pv_base.specs.declared.txn.TxnId.{TxnId}
use Rattle.pv_base.specs.Assignment.{commits, AgreeOn}
use Rattle.pv_base.specs.Catalog.{Declared}
use Rattle.pv_base.specs.Polyvalue.{Case, DependsOnlyOn}
use Rattle.pv_base.specs.declared.reply.Reply.{Reply}
use Rattle.pv_format.specs.Record.{Record, epoch_begun, prepared, outcome_known}
use Rattle.pv_law_step.proofs.Lists.{all-from, all-head, all-tail, OfSome}
use Rattle.pv_law_step.proofs.ShownLemmas.{shown-value}
use Rattle.pv_law_step.proofs.StepCases.{if_case}
use Rattle.pv_law_polyvalues.proofs.PolyvalueLemmas.{value_at-agree}
use Rattle.pv_law_values.proofs.ChoiceLemmas.{choice-agree}
use Rattle.pv_law_values.specs.Fixed.{IsFixedBy, AreFixedBy, IsRecordFixedBy}
use Rattle.pv_model.specs.Alternatives.{Read, number_at, rows_at}
use Rattle.pv_model.specs.Meaning.{Row, value_in, exec}
use Rattle.pv_protocol.specs.Coordinate.{reads_of, row_after, reply_after, new_value, reply_value}
use Rattle.pv_protocol.specs.State.{Entry}
use Rattle.pv_law_step.proofs.ComputedLemmas.{new-value, reply-value}
use Rattle.pv_protocol.specs.Records.{choice}
use Rattle.pv_protocol.specs.Shown.{written, written_or, value_after, newest, declared_value, item_value, shown}

pub number-fixed : (set : TxnId → Bool) (cases : List (Case ℤ)) → DependsOnlyOn set cases → IsFixedBy set (number_at cases)
number-fixed set cases fixed a b agree = ap (λ v. unwrap_or v (pos 0)) (fixed a b agree)

-- What is written for an item depends on what the writes do.
pub written-fixed : (set : TxnId → Bool) (item : ℕ) (writes : List Read) → AreFixedBy set writes → OfSome (DependsOnlyOn set) (written item writes)
written-fixed set item [] all = tt
written-fixed set item (write ∷ writes) all =
    if_case (OfSome (DependsOnlyOn set)) (write.item == item)
    (λ here. all-head (λ (read : Read). DependsOnlyOn set read.cases) write writes all)
    (λ behind. written-fixed set item writes (all-tail (λ (read : Read). DependsOnlyOn set read.cases) write writes all))

-- The rows of what was read depend on it alone.
pub rows-fixed : (set : TxnId → Bool) (reads : List Read) → AreFixedBy set reads → IsFixedBy set (rows_at reads)
rows-fixed set [] all a b agree = refl
rows-fixed set (read ∷ reads) all a b agree =
    let first : number_at read.cases a ≡ number_at read.cases b = number-fixed set read.cases (all-head (λ (r : Read). DependsOnlyOn set r.cases) read reads all) a b agree in
    let behind = rows-fixed set reads (all-tail (λ (r : Read). DependsOnlyOn set r.cases) read reads all) a b agree in
    λ i. record { item = read.item; value = first i } ∷ behind i

module _ (set : TxnId → Bool) (item : ℕ) (a b : List TxnId) (agree : AgreeOn set a b) where
  written-or-alike : (old other : ℤ) (cases : Option (List (Case ℤ))) → OfSome (DependsOnlyOn set) cases → old ≡ other → written_or old cases a ≡ written_or other cases b
  written-or-alike old other None fixed same = same
  written-or-alike old other (Some cases) fixed same = number-fixed set cases fixed a b agree

  after-alike : (old other : ℤ) (kept : Record) → IsRecordFixedBy set kept → old ≡ other → value_after item a old kept ≡ value_after item b other kept
  after-alike old other (epoch_begun epoch) fixed same = same
  after-alike old other (prepared txn writes) fixed same =
      let new = written-or-alike old other (written item writes) (written-fixed set item writes fixed.1) same in
      λ i. if agree txn fixed.0 i then new i else same i
  after-alike old other (outcome_known txn outcome) fixed same = same

  pub newest-alike : (records : List Record) (old other : ℤ) → All (IsRecordFixedBy set) records → old ≡ other → newest item a old records ≡ newest item b other records
  newest-alike [] old other all same = same
  newest-alike (kept ∷ records) old other all same =
      newest-alike records (value_after item a old kept) (value_after item b other kept) (all-tail (IsRecordFixedBy set) kept records all)
      (after-alike old other kept (all-head (IsRecordFixedBy set) kept records all) same)

-- The newest write for an assignment.
pub newest-fixed : (set : TxnId → Bool) (item : ℕ) (old : ℤ) (records : List Record) → All (IsRecordFixedBy set) records → IsFixedBy set (λ a. newest item a old records)
newest-fixed set item old records all a b agree = newest-alike set item a b agree records old old all refl

-- Every value and every record is the same for assignments with the same outcomes everywhere.

pub every-value : (cases : List (Case ℤ)) → DependsOnlyOn (λ t. true) cases
every-value cases a b agree = value_at-agree cases a b (λ t named. agree t refl)

pub every-read : (reads : List Read) → AreFixedBy (λ t. true) reads
every-read reads = all-from (λ (read : Read). DependsOnlyOn (λ t. true) read.cases) reads (λ read h. every-value read.cases)

every-record : (kept : Record) → IsRecordFixedBy (λ t. true) kept
every-record (epoch_begun epoch) = tt
every-record (prepared txn writes) = (refl, every-read writes)
every-record (outcome_known txn outcome) = tt

pub every-records : (records : List Record) → All (IsRecordFixedBy (λ t. true)) records
every-records records = all-from (IsRecordFixedBy (λ t. true)) records (λ kept h. every-record kept)

pub newest-same : (item : ℕ) (a b : List TxnId) → ((t : TxnId) → commits a t ≡ commits b t) → (records : List Record) (old : ℤ) → newest item a old records ≡ newest item b old records
newest-same item a b agree records old =
    newest-alike (λ t. true) item a b (λ t every. agree t) records old old (every-records records) refl

-- An item's value, with what the records know.
pub item-fixed : (set : TxnId → Bool) (catalog : Declared) (records : List Record) (item : ℕ) → All (IsRecordFixedBy set) records → IsFixedBy set (item_value catalog records item)
item-fixed set catalog records item all a b agree =
    newest-fixed set item (declared_value catalog item) records all (choice records a) (choice records b) (choice-agree records set a b agree)

pub shown-fixed : (set : TxnId → Bool) (catalog : Declared) (records : List Record) (item : ℕ) → All (IsRecordFixedBy set) records → DependsOnlyOn set (shown catalog records item)
shown-fixed set catalog records item all a b agree =
    shown-value catalog records records item a ∙ ap (λ (v : ℤ). Some v) (item-fixed set catalog records item all a b agree) ∙ sym (shown-value catalog records records item b)

-- What a program makes of what was read.

module _ (set : TxnId → Bool) (records : List Record) (entry : Entry) (all : AreFixedBy set (reads_of entry)) where
  rows-read : (a b : List TxnId) → AgreeOn set a b → rows_at (reads_of entry) (choice records a) ≡ rows_at (reads_of entry) (choice records b)
  rows-read a b agree = rows-fixed set (reads_of entry) all (choice records a) (choice records b) (choice-agree records set a b agree)

  pub row-fixed : (item : ℕ) → IsFixedBy set (row_after records entry item)
  row-fixed item a b agree = ap (λ (rows : List Row). value_in (exec entry.program rows).rows item) (rows-read a b agree)

  pub reply-after-fixed : IsFixedBy set (reply_after records entry)
  reply-after-fixed a b agree = ap (λ (rows : List Row). (exec entry.program rows).reply) (rows-read a b agree)

  pub new-fixed : (item : ℕ) → DependsOnlyOn set (new_value records entry item)
  new-fixed item a b agree =
      new-value records entry item a ∙ ap (λ (v : ℤ). Some v) (row-fixed item a b agree) ∙ sym (new-value records entry item b)

  pub reply-fixed : DependsOnlyOn set (reply_value records entry)
  reply-fixed a b agree = reply-value records entry a ∙ ap (λ (r : Reply). Some r) (reply-after-fixed a b agree) ∙ sym (reply-value records entry b)

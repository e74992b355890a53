-- What a program wrote and replied over sorted reads, with the known outcomes put in, is what its entry's new values and reply are.
use Rattle.std.proofs.Common.{◌≡◌, ◌⊎◌, inl, inr, ℕ, ℤ, pos, Bool, true, false, Some, None, Option, List, [], ◌∷◌, refl, sym, ap, subst, ◌∙◌}
use Rattle.std.specs.Prelude.{◌==◌, if◌then◌else◌, find, length, IfErr, IfSome, IsTrue, Result, Err}
use Rattle.std.specs.List.{AllZip, Contains}
use Rattle.std.specs.List.Sorted.{IsPermutation}
use Rattle.std.specs.Option.{unwrap_or}
use Rattle.std.proofs.lemmas.Bool.{eq-eqb, eqb-true, false≢true}
use Rattle.std.proofs.lemmas.List.Sorted.{IsPermutation-map, IsPermutation-sym}
use Rattle.pv_base.proofs.ContainsLemmas.{Contains-cases, Contains-nil}
use Rattle.pv_base.specs.Assignment.{commits}
use Rattle.pv_base.specs.declared.limits.TheConstants.{HELD_NAMES, READ_NAMES}
use Rattle.pv_base.specs.declared.reply.Reply.{Reply}
use Rattle.pv_base.specs.declared.txn.TxnId.{TxnId}
use Rattle.pv_base.specs.Polyvalue.{Case, IsPolyvalue, value_at}
use Rattle.pv_format.specs.Record.{Record}
use Rattle.pv_law_polyvalues.proofs.PolyvalueLemmas.{canonical-complete, one-canonical, value_at-agree}
use Rattle.pv_law_programs.proofs.AlikeRows.{order_of_rows_is_free}
use Rattle.pv_law_programs.proofs.ProgramLemmas.{items_stay}
use Rattle.pv_law_programs.proofs.RowLemmas.{lacks-same}
use Rattle.pv_law_step.proofs.ComputedLemmas.{new-canonical, new-value}
use Rattle.pv_law_step.proofs.OutcomeLemmas.{choice-is, or_assigned}
use Rattle.pv_model.specs.Alternatives.{Read, all_cases, assigned, number_at, rows_at, IsSplit}
use Rattle.pv_cases.specs.NameLimits.{NameTooMany}
use Rattle.pv_model.specs.Check.{names_item}
use Rattle.pv_model.specs.Items.{lacks}
use Rattle.pv_model.specs.Meaning.{Row, exec, items_of_rows, value_in}
use Rattle.pv_model.specs.ProgramLaws.{assigns, HaveSameValues}
use Rattle.pv_model.specs.Syntax.{Program}
use Rattle.pv_protocol.specs.Coordinate.{new_value, reads_of, reply_after, row_after}
use Rattle.pv_protocol.specs.Records.{choice, known}
use Rattle.pv_protocol.specs.State.{Entry}
use Rattle.pv_site.proofs.RowLemmas.{same_in_any_order}
use Rattle.pv_site.proofs.SortedReads.{ReadAscending, ascending-apart, few-alike, names-alike, rows-apart}
use Rattle.pv_site.proofs.TakenReads.{assigns-named}
use Rattle.pv_site.specs.LockPoint.{HasItsReads, IsComputed, IsPutIn, IsRead, IsTooMany, IsWritePutIn, ReadApart}
use Rattle.pv_split.specs.Splitting.{IsJoinedSplit, count_of}
use Rattle.pv_split.specs.declared.joining.SplitError.{SplitError}

-- Rows that the program assigns.

module _ (program : Program) (n : ℕ) (is : assigns program n ≡ true) where
  -- Where the first row isn't kept, it isn't of an item that is assigned.
  kept : (row : Row) (b : Bool) → (row.item == n) ≡ b → assigns program row.item ≡ false → b ≡ false
  kept row true same out = absurd (false≢true (sym out ∙ subst (λ (m : ℕ). assigns program m ≡ true) (sym (eqb-true row.item n same)) is))
  kept row false other out = refl

  lacks-assigned : (rows : List Row) → lacks (assigned program rows) n ≡ lacks rows n
  lacks-assigned [] = refl
  lacks-assigned (row ∷ rows) = by (assigns program row.item) refl (lacks-assigned rows) where
    by : (b : Bool) → assigns program row.item ≡ b → lacks (assigned program rows) n ≡ lacks rows n
        → lacks (if b then row ∷ assigned program rows else assigned program rows) n ≡ (if row.item == n then false else lacks rows n)
    by true at rest = ap (λ (c : Bool). if row.item == n then false else c) rest
    by false at rest = rest ∙ ap (λ (c : Bool). if c then false else lacks rows n) (sym (kept row (row.item == n) refl at))

  value-assigned : (rows : List Row) → value_in (assigned program rows) n ≡ value_in rows n
  value-assigned [] = refl
  value-assigned (row ∷ rows) = by (assigns program row.item) refl (value-assigned rows) where
    by : (b : Bool) → assigns program row.item ≡ b → value_in (assigned program rows) n ≡ value_in rows n
        → value_in (if b then row ∷ assigned program rows else assigned program rows) n ≡ (if row.item == n then row.value else value_in rows n)
    by true at rest = ap (λ (z : ℤ). if row.item == n then row.value else z) rest
    by false at rest = rest ∙ ap (λ (c : Bool). if c then row.value else value_in rows n) (sym (kept row (row.item == n) refl at))

-- Rows of the same reads.

items-alike : (reads : List Read) (a b : List TxnId) → items_of_rows (rows_at reads a) ≡ items_of_rows (rows_at reads b)
items-alike [] a b = refl
items-alike (read ∷ reads) a b = ap (λ (items : List ℕ). read.item ∷ items) (items-alike reads a b)

read-there : (reads : List Read) (n : ℕ) → IsRead reads n → lacks (rows_at reads []) n ≡ false
read-there [] n is = absurd (Contains-nil is.read is.listed)
read-there (first ∷ rest) n is = by (first.item == n) refl (Contains-cases first rest is.read is.listed) (λ behind. read-there rest n (record { read = is.read; listed = behind; same = is.same })) where
  by : (b : Bool) → (first.item == n) ≡ b → (first ≡ is.read) ⊎ Contains rest is.read → (Contains rest is.read → lacks (rows_at rest []) n ≡ false)
      → (if b then false else lacks (rows_at rest []) n) ≡ false
  by true at either rest_there = refl
  by false at (inl here) rest_there = absurd (false≢true (sym at ∙ eq-eqb first.item n (ap (λ (r : Read). r.item) here ∙ is.same)))
  by false at (inr behind) rest_there = rest_there behind

-- Writes with the outcomes put in.

-- The write is among these, a polyvalue with the item's value of the rows before.
record IsFound (records : List Record) (before after : List Read) (n : ℕ) : Type 0 where
  write : Read
  found : find (λ (write : Read). write.item == n) after ≡ Some write
  item : write.item ≡ n
  polyvalue : IsPolyvalue HELD_NAMES write.cases
  value : (assignment : List TxnId) → value_at write.cases assignment ≡ Some (value_in (rows_at before (choice records assignment)) n)

pub number-there : (cases : List (Case ℤ)) (assignment : List TxnId) (v : ℤ) → value_at cases assignment ≡ Some v → value_at cases assignment ≡ Some (number_at cases assignment)
number-there cases assignment v is = is ∙ ap Some (sym (ap (λ (o : Option ℤ). unwrap_or o (pos 0)) is))

found-first : (records : List Record) (first second : Read) (before after : List Read) (n : ℕ) → (first.item == n) ≡ true → IsWritePutIn records first second
    → IsFound records (first ∷ before) (second ∷ after) n
found-first records first second before after n is settled = record {
  write = second;
  found = ap (λ (b : Bool). if b then Some second else find (λ (write : Read). write.item == n) after) (ap (λ (m : ℕ). m == n) settled.item ∙ is);
  item = settled.item ∙ eqb-true first.item n is;
  polyvalue = settled.cases.polyvalue;
  value = λ assignment.
      let some = canonical-complete second.cases settled.cases.polyvalue.canonical assignment in
      settled.cases.value assignment
      ∙ number-there first.cases (choice records assignment) some.0 (sym (settled.cases.value assignment) ∙ some.1)
      ∙ ap Some (ap (λ (b : Bool). if b then number_at first.cases (choice records assignment) else value_in (rows_at before (choice records assignment)) n) (sym is));
}

found-behind : (records : List Record) (first second : Read) (before after : List Read) (n : ℕ) → (first.item == n) ≡ false → IsWritePutIn records first second
    → IsFound records before after n → IsFound records (first ∷ before) (second ∷ after) n
found-behind records first second before after n other settled rest = record {
  write = rest.write;
  found = ap (λ (b : Bool). if b then Some second else find (λ (write : Read). write.item == n) after) (ap (λ (m : ℕ). m == n) settled.item ∙ other) ∙ rest.found;
  item = rest.item;
  polyvalue = rest.polyvalue;
  value = λ assignment.
      rest.value assignment
      ∙ ap Some (ap (λ (b : Bool). if b then number_at first.cases (choice records assignment) else value_in (rows_at before (choice records assignment)) n) (sym other));
}

is-found : (records : List Record) (before after : List Read) (n : ℕ) → AllZip (IsWritePutIn records) before after → lacks (rows_at before []) n ≡ false
    → IsFound records before after n
is-found records [] after n zip there = absurd (false≢true (sym there))
is-found records (first ∷ before) [] n zip there = absurd zip
is-found records (first ∷ before) (second ∷ after) n zip there =
    by (first.item == n) refl there (is-found records before after n zip.1) where
      by : (b : Bool) → (first.item == n) ≡ b → (if b then false else lacks (rows_at before []) n) ≡ false
          → (lacks (rows_at before []) n ≡ false → IsFound records before after n) → IsFound records (first ∷ before) (second ∷ after) n
      by true at there rest = found-first records first second before after n at zip.0
      by false at there rest = found-behind records first second before after n at zip.0 (rest there)

-- The lock point.

twice-known : (outcome : Option Bool) (b : Bool) → or_assigned outcome (or_assigned outcome b) ≡ or_assigned outcome b
twice-known None b = refl
twice-known (Some outcome) b = refl

-- Known outcomes put in twice are put in.
choice-twice : (records : List Record) (assignment : List TxnId) (txn : TxnId) → commits (choice records (choice records assignment)) txn ≡ commits (choice records assignment) txn
choice-twice records assignment txn =
    choice-is records (choice records assignment) txn
    ∙ ap (or_assigned (known records txn)) (choice-is records assignment txn)
    ∙ twice-known (known records txn) (commits assignment txn)
    ∙ sym (choice-is records assignment txn)

module _ (records : List Record) (entry : Entry) (sorted writes settled : List Read) (reply replied : List (Case Reply))
    (apart : ReadApart (reads_of entry)) (ascending : ReadAscending sorted) (permuted : IsPermutation (reads_of entry) sorted)
    (split : IsSplit entry.program sorted writes reply) where
  -- The reads have the same values sorted and as they came.
  rows-alike : (assignment : List TxnId) → HaveSameValues (rows_at sorted assignment) (rows_at (reads_of entry) assignment)
  rows-alike assignment =
      same_in_any_order (rows_at sorted assignment) (rows_at (reads_of entry) assignment) (rows-apart sorted assignment (ascending-apart sorted ascending))
      (rows-apart (reads_of entry) assignment apart)
      (IsPermutation-map (λ (read : Read). record { item = read.item; value = number_at read.cases assignment }) sorted (reads_of entry)
      (IsPermutation-sym (reads_of entry) sorted permuted))

  effects-alike : (assignment : List TxnId)
      → ((exec entry.program (rows_at sorted assignment)).reply ≡ (exec entry.program (rows_at (reads_of entry) assignment)).reply)
      × HaveSameValues (exec entry.program (rows_at sorted assignment)).rows (exec entry.program (rows_at (reads_of entry) assignment)).rows
  effects-alike assignment = order_of_rows_is_free entry.program (rows_at sorted assignment) (rows_at (reads_of entry) assignment) (rows-alike assignment)

  -- An item that is assigned is written.
  there : (n : ℕ) → assigns entry.program n ≡ true → IsRead (reads_of entry) n → lacks (rows_at writes []) n ≡ false
  there n is read =
      ap (λ (rows : List Row). lacks rows n) (split.written [])
      ∙ lacks-assigned entry.program n is (exec entry.program (rows_at sorted [])).rows
      ∙ lacks-same (exec entry.program (rows_at sorted [])).rows (rows_at sorted []) n (items_stay entry.program (rows_at sorted []))
      ∙ (rows-alike [] n).0
      ∙ read-there (reads_of entry) n read

  value-after : (n : ℕ) → assigns entry.program n ≡ true → (assignment : List TxnId)
      → value_in (rows_at writes (choice records assignment)) n ≡ row_after records entry n assignment
  value-after n is assignment =
      ap (λ (rows : List Row). value_in rows n) (split.written (choice records assignment))
      ∙ value-assigned entry.program n is (exec entry.program (rows_at sorted (choice records assignment))).rows
      ∙ ((effects-alike (choice records assignment)).1 n).1

  -- What is written to an item, settled, is its new value.
  pub written : AllZip (IsWritePutIn records) writes settled → (n : ℕ) → assigns entry.program n ≡ true → IsRead (reads_of entry) n
      → find (λ (write : Read). write.item == n) settled ≡ Some (record { item = n; cases = new_value records entry n })
  written zip n is read =
      let at = is-found records writes settled n zip (there n is read) in
      let same : at.write.cases ≡ new_value records entry n =
      one-canonical at.write.cases (new_value records entry n) at.polyvalue.canonical (new-canonical records entry n)
      (λ assignment. at.value assignment ∙ ap Some (value-after n is assignment) ∙ sym (new-value records entry n assignment)) in
      at.found
      ∙ ap (λ (m : ℕ). Some (record { item = m; cases = at.write.cases })) at.item
      ∙ ap (λ (cases : List (Case ℤ)). Some (record { item = n; cases = cases })) same

  -- What is replied, settled, is the entry's reply.
  pub replies : IsPutIn records reply replied → (assignment : List TxnId) → value_at replied (choice records assignment) ≡ Some (reply_after records entry assignment)
  replies is assignment =
      is.value (choice records assignment)
      ∙ value_at-agree reply (choice records (choice records assignment)) (choice records assignment) (λ txn named. choice-twice records assignment txn)
      ∙ split.replied (choice records assignment)
      ∙ ap Some (effects-alike (choice records assignment)).0

-- What the code computed is what the entry computes, where it has this program and these reads.
pub computed : (records : List Record) (entry : Entry) (program : Program) (reads sorted writes settled : List Read) (reply replied : List (Case Reply))
    → entry.program ≡ program → reads_of entry ≡ reads → ReadApart reads → HasItsReads program reads → IsPermutation reads sorted → ReadAscending sorted
    → IsJoinedSplit READ_NAMES program sorted (writes, reply) → AllZip (IsWritePutIn records) writes settled → IsPutIn records reply replied
    → IsComputed records entry settled replied
computed records entry program reads sorted writes settled reply replied same_program same_reads apart has permuted up joined zip put =
    let apart_here : ReadApart (reads_of entry) = subst ReadApart (sym same_reads) apart in
    let permuted_here : IsPermutation (reads_of entry) sorted = subst (λ (some : List Read). IsPermutation some sorted) (sym same_reads) permuted in
    let joined_here : IsJoinedSplit READ_NAMES entry.program sorted (writes, reply) =
    subst (λ (p : Program). IsJoinedSplit READ_NAMES p sorted (writes, reply)) (sym same_program) joined in
    let read = λ (n : ℕ) (named : IsTrue (names_item entry.program n)).
    subst (λ (some : List Read). IsRead some n) (sym same_reads) (has n (subst (λ (p : Program). IsTrue (names_item p n)) same_program named)) in
    record {
      few = few-alike READ_NAMES (reads_of entry) sorted permuted_here joined_here.few;
      written = λ n is. written records entry sorted writes settled reply replied apart_here up permuted_here joined_here.split zip n is
          (read n (assigns-named entry.program n is));
      reply = (put.polyvalue, replies records entry sorted writes settled reply replied apart_here up permuted_here joined_here.split put);
    }

-- The count for which the code refuses is that of the reads as they came.

counted : (reads sorted : List Read) → IsPermutation reads sorted → (count : Option ℕ) → IfSome count (NameTooMany READ_NAMES (all_cases sorted))
    → IfSome count (IsTooMany reads)
counted reads sorted permuted None is = is
counted reads sorted permuted (Some count) is = record {
  counted = ap (λ (txns : List TxnId). length txns) (sym (names-alike reads sorted is.txns permuted is.named)) ∙ is.counted;
  over = is.over;
}

pub too-many : {X : Type 0} (reads sorted : List Read) → IsPermutation reads sorted → (result : Result X SplitError) (error : SplitError) → result ≡ Err error
    → IfSome (count_of error) (NameTooMany READ_NAMES (all_cases sorted)) → IfErr result (λ e. IfSome (count_of e) (IsTooMany reads))
too-many {X} reads sorted permuted result error same is =
    subst (λ (r : Result X SplitError). IfErr r (λ e. IfSome (count_of e) (IsTooMany reads))) (sym same) (counted reads sorted permuted (count_of error) is)

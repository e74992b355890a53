-- How long spellings may be.
use Rattle.std.proofs.Common.{ℕ, ◌+◌, ◌*◌, ◌^◌, ◌<◌, ◌≤◌, ℤ, List, length, arith}
use Rattle.std.specs.List.{sum_by}
use Rattle.std.proofs.lemmas.Bool.Decides.{nat_tests}
use Rattle.std.proofs.lemmas.List.Elements.{All-weaker}
use Rattle.std.proofs.lemmas.List.Sums.{sum_by-le}
use Rattle.pv_base.specs.Polyvalue.{Case}
use Rattle.pv_format.specs.Length.{body_length, polyvalue_length, reads_length, record_length}
use Rattle.pv_format.specs.Message.{Message, lock, granted, denied, prepare, vote_yes, vote_no, outcome_reported, ask, grant_lost, journal_full}
use Rattle.pv_format.specs.MessageSpelling.{SpellsBody}
use Rattle.pv_format.specs.Record.{Record, epoch_begun, prepared, outcome_known}
use Rattle.pv_format.specs.PolyvalueSpelling.{SpellsPolyvalue}
use Rattle.pv_format.specs.RecordSpelling.{SpellsReads, SpellsRecord}
use Rattle.pv_fields.proofs.EntryLemmas.{entries_each, entries_spelled}
use Rattle.pv_model.specs.Alternatives.{Read}

small_reads : (n count : ℕ) → count ≤ 16 → n ≤ count * 2097156 → 1 + n < 2 ^ 26
small_reads n count few all = omega arith

-- How many bytes a polyvalue has at most.
pub polyvalue_small : (cases : List (Case ℤ)) (bytes : List ℕ) → SpellsPolyvalue cases bytes → polyvalue_length cases < 2 ^ 21
polyvalue_small cases bytes is = let count : length cases < 65536 = is.spelled.first.fits in omega arith

-- How many bytes items with their polyvalues have at most.
pub reads_small : (fewest : ℕ) (reads : List Read) (bytes : List ℕ) → SpellsReads fewest reads bytes → reads_length reads < 2 ^ 26
reads_small fewest reads bytes spelled =
    let entries = entries_each (λ (read : Read). SpellsPolyvalue read.cases) (λ read. read.item) 0 reads spelled.back spelled.second in
    let polys = entries_spelled (λ (read : Read). SpellsPolyvalue read.cases) (λ read. read.item) reads spelled.back entries in
    let each = All-weaker (λ (read : Read). (back : List ℕ) × SpellsPolyvalue read.cases back) (λ read. 4 + polyvalue_length read.cases ≤ 2097156)
    (λ read is. let small = polyvalue_small read.cases is.0 is.1 in omega arith) reads polys in
    let allowed = spelled.first.allowed in
    let few : length reads ≤ 16 = grind (arith, nat_tests) in
    small_reads (sum_by (λ (read : Read). 4 + polyvalue_length read.cases) reads) (length reads) few
    (sum_by-le (λ (read : Read). 4 + polyvalue_length read.cases) 2097156 reads each)

-- How many bytes a record has at most.
pub record_small : (entry : Record) (bytes : List ℕ) → SpellsRecord entry bytes → record_length entry < 2 ^ 27
record_small (epoch_begun epoch) bytes spelled = omega arith
record_small (prepared txn writes) bytes spelled = let small = reads_small 0 writes spelled.second.back spelled.second.second in omega (arith, small)
record_small (outcome_known txn commits) bytes spelled = omega arith

-- How many bytes a message has after its transaction, at most.
pub body_small : (message : Message) (bytes : List ℕ) → SpellsBody message bytes → body_length message < 2 ^ 27
body_small (lock txn wants) bytes spelled = let allowed = spelled.first.allowed in let few : length wants ≤ 16 = grind (arith, nat_tests) in omega (arith, few)
body_small (granted txn grant values) bytes spelled = let small = reads_small 1 values spelled.back spelled.second in omega (arith, small)
body_small (denied txn item holder) bytes spelled = omega arith
body_small (prepare txn grant writes) bytes spelled = let small = reads_small 0 writes spelled.back spelled.second in omega (arith, small)
body_small (vote_yes txn) bytes spelled = omega arith
body_small (vote_no txn grant_lost) bytes spelled = omega arith
body_small (vote_no txn (journal_full limit)) bytes spelled = omega arith
body_small (outcome_reported txn commits) bytes spelled = omega arith
body_small (ask txn) bytes spelled = omega arith

-- The bytes of records tell the records.
use Rattle.std.proofs.Common.{◌≡◌, ℕ, ◌<◌, Bool, true, false, List, [], ◌∷◌, ◌++◌, map, refl, sym, ap, subst, ◌∙◌, append_assoc, arith}
use Rattle.std.specs.Prelude.{if◌then◌else◌, All}
use Rattle.std.proofs.lemmas.List.Elements.{All-head, All-tail}
use Rattle.pv_base.specs.BigEndian.{big_endian}
use Rattle.pv_base.proofs.BigEndianLemmas.{big_endian-begins, big_endian-injective}
use Rattle.pv_base.specs.declared.txn.TxnId.{TxnId}
use Rattle.pv_law_quorum.specs.Ballot.{Ballot}
use Rattle.pv_law_quorum.specs.Record.{Record, ballot_promised, value_accepted}
use Rattle.pv_quorum.specs.Spelling.{IsInRange, txn_bytes, ballot_bytes, kind_of, txn_in, ballot_in, value_bytes, record_bytes}

-- numbers at the front, one after another

two-first : (one two rest : List ℕ) → (one ++ two) ++ rest ≡ one ++ (two ++ rest)
two-first one two rest = append_assoc one two rest

three-first : (one two three rest : List ℕ) → (one ++ (two ++ three)) ++ rest ≡ one ++ (two ++ (three ++ rest))
three-first one two three rest = append_assoc one (two ++ three) rest ∙ ap (λ (more : List ℕ). one ++ more) (append_assoc two three rest)

-- The parts of one record are those of another.
record HasSameParts (one other : Record) : Type 0 where
  kind : kind_of one ≡ kind_of other
  site : (txn_in one).site.0 ≡ (txn_in other).site.0
  epoch : (txn_in one).epoch ≡ (txn_in other).epoch
  number : (txn_in one).number ≡ (txn_in other).number
  ballot : (ballot_in one).number ≡ (ballot_in other).number
  decider : (ballot_in one).decider ≡ (ballot_in other).decider
  value : value_bytes one ≡ value_bytes other

small-kind : (entry : Record) → kind_of entry < 256
small-kind (ballot_promised txn ballot) = omega arith
small-kind (value_accepted txn ballot commits) = omega arith

same-parts : (one other : Record) → IsInRange one → IsInRange other → record_bytes one ≡ record_bytes other → HasSameParts one other
same-parts one other fits range same =
    let kinds = big_endian-begins 1 (kind_of one) (kind_of other) (txn_bytes (txn_in one) ++ (ballot_bytes (ballot_in one) ++ value_bytes one))
    (txn_bytes (txn_in other) ++ (ballot_bytes (ballot_in other) ++ value_bytes other)) (omega (arith, small-kind one)) (omega (arith, small-kind other)) same in
    let sites = big_endian-begins 1 (txn_in one).site.0 (txn_in other).site.0 _ _ (omega (arith, fits.site)) (omega (arith, range.site))
    (sym (three-first (big_endian 1 (txn_in one).site.0) (big_endian 4 (txn_in one).epoch) (big_endian 4 (txn_in one).number) (ballot_bytes (ballot_in one) ++ value_bytes one)) ∙ kinds.1
    ∙ three-first (big_endian 1 (txn_in other).site.0) (big_endian 4 (txn_in other).epoch) (big_endian 4 (txn_in other).number) (ballot_bytes (ballot_in other) ++ value_bytes other)) in
    let epochs = big_endian-begins 4 (txn_in one).epoch (txn_in other).epoch _ _ (omega (arith, fits.epoch)) (omega (arith, range.epoch)) sites.1 in
    let numbers = big_endian-begins 4 (txn_in one).number (txn_in other).number _ _ (omega (arith, fits.number)) (omega (arith, range.number)) epochs.1 in
    let ballots = big_endian-begins 4 (ballot_in one).number (ballot_in other).number _ _ (omega (arith, fits.ballot)) (omega (arith, range.ballot))
    (sym (two-first (big_endian 4 (ballot_in one).number) (big_endian 1 (ballot_in one).decider) (value_bytes one)) ∙ numbers.1
    ∙ two-first (big_endian 4 (ballot_in other).number) (big_endian 1 (ballot_in other).decider) (value_bytes other)) in
    let deciders = big_endian-begins 1 (ballot_in one).decider (ballot_in other).decider (value_bytes one) (value_bytes other) (omega (arith, fits.decider)) (omega (arith, range.decider)) ballots.1 in
    record { kind = kinds.0; site = sites.0; epoch = epochs.0; number = numbers.0; ballot = ballots.0; decider = deciders.0; value = deciders.1 }

abbrev as_number : Bool → ℕ
as_number truth = if truth then 1 else 0

small-truth : (truth : Bool) → as_number truth < 256
small-truth true = omega arith
small-truth false = omega arith

same-truth : (one other : Bool) → as_number one ≡ as_number other → one ≡ other
same-truth true true same = refl
same-truth true false same = absurd (omega (arith, same))
same-truth false true same = absurd (omega (arith, same))
same-truth false false same = refl

same-record : (one other : Record) → HasSameParts one other → one ≡ other
same-record (ballot_promised txn ballot) (ballot_promised other taken) same = λ i.
    ballot_promised (record { site = record { 0 = same.site i }; epoch = same.epoch i; number = same.number i }) (record { number = same.ballot i; decider = same.decider i })
same-record (ballot_promised txn ballot) (value_accepted other taken commits) same = absurd (omega (arith, same.kind))
same-record (value_accepted txn ballot commits) (ballot_promised other taken) same = absurd (omega (arith, same.kind))
same-record (value_accepted txn ballot commits) (value_accepted other taken truth) same = λ i.
    value_accepted (record { site = record { 0 = same.site i }; epoch = same.epoch i; number = same.number i }) (record { number = same.ballot i; decider = same.decider i })
    (same-truth commits truth (big_endian-injective 1 (as_number commits) (as_number truth) (omega (arith, small-truth commits)) (omega (arith, small-truth truth)) same.value) i)

pub same-records : (entries others : List Record) → All IsInRange entries → All IsInRange others → map record_bytes entries ≡ map record_bytes others → entries ≡ others
same-records [] [] fits range same = refl
same-records [] (other ∷ others) fits range same = absurd (cc)
same-records (entry ∷ entries) [] fits range same = absurd (cc)
same-records (entry ∷ entries) (other ∷ others) fits range same =
    let first : record_bytes entry ≡ record_bytes other = cc in
    let rest : map record_bytes entries ≡ map record_bytes others = cc in
    λ i. same-record entry other (same-parts entry other (All-head IsInRange entry entries fits) (All-head IsInRange other others range) first) i
    ∷ same-records entries others (All-tail IsInRange entry entries fits) (All-tail IsInRange other others range) rest i

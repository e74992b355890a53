-- A record and its bytes determine each other.
use Rattle.std.proofs.Common.{◌≡◌, ℕ, ◌^◌, ◌<◌, ◌≤◌, Bool, true, false, List, [], ◌∷◌, ◌++◌, length, refl, sym, ap, subst, ◌∙◌, append_assoc, length-append, arith}
use Rattle.std.specs.Prelude.{if◌then◌else◌, ◌==◌, zero, suc, slice_index_or}
use Rattle.pv_base.specs.BigEndian.{big_endian}
use Rattle.pv_base.proofs.BigEndianLemmas.{append-same_length, big_endian-begins, big_endian-one, length-big_endian}
use Rattle.pv_base.specs.declared.limits.TheConstants.{MAX_SITES}
use Rattle.pv_base.specs.declared.txn.TxnId.{TxnId}
use Rattle.pv_law_quorum.specs.Ballot.{Ballot}
use Rattle.pv_law_quorum.specs.Record.{Record, ballot_promised, value_accepted}
use Rattle.pv_quorum.specs.Parts.{front_bytes}
use Rattle.pv_quorum.specs.Spelling.{IsNoRecord, Spells, txn_bytes, ballot_bytes, kind_of, txn_in, ballot_in, value_bytes, record_bytes}

-- Every record begins with 15 bytes.
pub front-length : (kind : ℕ) (txn : TxnId) (ballot : Ballot) → length (front_bytes kind txn ballot) ≡ 15
front-length kind txn ballot =
    let whole = length-append (big_endian 1 kind) (txn_bytes txn ++ ballot_bytes ballot) in
    let parts = length-append (txn_bytes txn) (ballot_bytes ballot) in
    let first = length-append (big_endian 1 txn.site.0) (big_endian 4 txn.epoch ++ big_endian 4 txn.number) in
    let numbers = length-append (big_endian 4 txn.epoch) (big_endian 4 txn.number) in
    let last = length-append (big_endian 4 ballot.number) (big_endian 1 ballot.decider) in
    omega (
      arith,
      whole,
      parts,
      first,
      numbers,
      last,
      length-big_endian 1 kind,
      length-big_endian 1 txn.site.0,
      length-big_endian 4 txn.epoch,
      length-big_endian 4 txn.number,
      length-big_endian 4 ballot.number,
      length-big_endian 1 ballot.decider,
    )

-- A record is what it begins with, and then its value.
pub record-parts : (entry : Record) → record_bytes entry ≡ front_bytes (kind_of entry) (txn_in entry) (ballot_in entry) ++ value_bytes entry
record-parts entry =
    ap (λ rest. big_endian 1 (kind_of entry) ++ rest) (sym (append_assoc (txn_bytes (txn_in entry)) (ballot_bytes (ballot_in entry)) (value_bytes entry)))
    ∙ sym (append_assoc (big_endian 1 (kind_of entry)) (txn_bytes (txn_in entry) ++ ballot_bytes (ballot_in entry)) (value_bytes entry))

-- A record isn't shorter than that.
pub record-long : (entry : Record) (bytes : List ℕ) → Spells entry bytes → 15 ≤ length bytes
record-long entry bytes spelled =
    let parts = ap (λ (b : List ℕ). length b) (spelled.bytes_are ∙ record-parts entry) in
    let count = length-append (front_bytes (kind_of entry) (txn_in entry) (ballot_in entry)) (value_bytes entry) in
    omega (arith, parts, count, front-length (kind_of entry) (txn_in entry) (ballot_in entry))

fits-kind : (entry : Record) → kind_of entry < 256 ^ 1
fits-kind (ballot_promised txn ballot) = omega arith
fits-kind (value_accepted txn ballot commits) = omega arith

-- What bytes begin with is what their record has.
pub record HasParts (kind : ℕ) (txn : TxnId) (value : List ℕ) (entry : Record) : Type 0 where
  pub kind_is : kind ≡ kind_of entry
  pub site_is : txn.site.0 ≡ (txn_in entry).site.0
  pub value_is : value ≡ value_bytes entry

pub one-front : (kind : ℕ) (txn : TxnId) (ballot : Ballot) (value : List ℕ) (entry : Record) → kind < 256 → txn.site.0 < 256
    → Spells entry (front_bytes kind txn ballot ++ value) → HasParts kind txn value entry
one-front kind txn ballot value entry fits site spelled =
    let parts = append-same_length (front_bytes kind txn ballot) (front_bytes (kind_of entry) (txn_in entry) (ballot_in entry)) value (value_bytes entry)
    (front-length kind txn ballot ∙ sym (front-length (kind_of entry) (txn_in entry) (ballot_in entry))) (spelled.bytes_are ∙ record-parts entry) in
    let kinds = big_endian-begins 1 kind (kind_of entry) (txn_bytes txn ++ ballot_bytes ballot) (txn_bytes (txn_in entry) ++ ballot_bytes (ballot_in entry))
    (omega (arith, fits)) (fits-kind entry) parts.0 in
    let site_first : big_endian 1 txn.site.0 ++ ((big_endian 4 txn.epoch ++ big_endian 4 txn.number) ++ ballot_bytes ballot)
    ≡ big_endian 1 (txn_in entry).site.0 ++ ((big_endian 4 (txn_in entry).epoch ++ big_endian 4 (txn_in entry).number) ++ ballot_bytes (ballot_in entry)) =
    sym (append_assoc (big_endian 1 txn.site.0) (big_endian 4 txn.epoch ++ big_endian 4 txn.number) (ballot_bytes ballot)) ∙ kinds.1
    ∙ append_assoc (big_endian 1 (txn_in entry).site.0) (big_endian 4 (txn_in entry).epoch ++ big_endian 4 (txn_in entry).number) (ballot_bytes (ballot_in entry)) in
    let sites = big_endian-begins 1 txn.site.0 (txn_in entry).site.0 _ _ (omega (arith, site)) (omega (arith, spelled.range.site)) site_first in
    record { kind_is = kinds.0; site_is = sites.0; value_is = parts.1 }

-- Truth values.

of-truth : (truth : Bool) → (if truth then 1 else 0) < 256
of-truth true = omega arith
of-truth false = omega arith

small-truth : (truth : Bool) → (if truth then 1 else 0) ≤ 1
small-truth true = omega arith
small-truth false = omega arith

byte-truth : (byte : ℕ) → byte ≤ 1 → byte ≡ (if byte == 1 then 1 else 0)
byte-truth zero small = refl
byte-truth (suc zero) small = refl
byte-truth (suc (suc byte)) small = absurd (omega (arith, small))

-- One byte that is 0 or 1 is a truth value.
pub truth-read : (value : List ℕ) → length value ≡ 1 → slice_index_or value 0 0 ≤ 1 → value ≡ big_endian 1 (if slice_index_or value 0 0 == 1 then 1 else 0)
truth-read [] count small = absurd (omega (arith, count))
truth-read (byte ∷ []) count small = ap (λ (b : ℕ). b ∷ []) (byte-truth byte small) ∙ sym (big_endian-one (if byte == 1 then 1 else 0) (of-truth (byte == 1)))
truth-read (byte ∷ other ∷ value) count small = absurd (omega (arith, count))

-- A truth value is one byte, 0 or 1.

pub truth-counted : (value : List ℕ) (truth : Bool) → value ≡ big_endian 1 (if truth then 1 else 0) → length value ≡ 1
truth-counted value truth is = ap (λ (b : List ℕ). length b) is ∙ length-big_endian 1 (if truth then 1 else 0)

pub truth-small : (value : List ℕ) (truth : Bool) → value ≡ big_endian 1 (if truth then 1 else 0) → slice_index_or value 0 0 ≤ 1
truth-small value truth is =
    subst (λ (b : List ℕ). slice_index_or b 0 0 ≤ 1) (sym (is ∙ big_endian-one (if truth then 1 else 0) (of-truth truth))) (small-truth truth)

-- What follows from the parts.

-- A site out of range is no record's.
pub no-site : (kind : ℕ) (txn : TxnId) (ballot : Ballot) (value : List ℕ) → kind < 256 → txn.site.0 < 256 → MAX_SITES ≤ txn.site.0
    → IsNoRecord (front_bytes kind txn ballot ++ value)
no-site kind txn ballot value fits site out = λ entry spelled.
    let parts = one-front kind txn ballot value entry fits site spelled in omega (arith, parts.site_is, spelled.range.site, out)

-- A promise has nothing after its ballot.
pub no-promise : (txn : TxnId) (ballot : Ballot) (value : List ℕ) → txn.site.0 < 256 → 1 ≤ length value → IsNoRecord (front_bytes 33 txn ballot ++ value)
no-promise txn ballot value site more (ballot_promised other taken) spelled =
    let parts = one-front 33 txn ballot value (ballot_promised other taken) (omega arith) site spelled in
    let none = ap (λ (b : List ℕ). length b) parts.value_is in omega (arith, none, more)
no-promise txn ballot value site more (value_accepted other taken commits) spelled =
    let parts = one-front 33 txn ballot value (value_accepted other taken commits) (omega arith) site spelled in absurd (omega (arith, parts.kind_is))

-- An accepted value has a truth value after its ballot.
pub no-value : (txn : TxnId) (ballot : Ballot) (value : List ℕ) → txn.site.0 < 256 → ((truth : Bool) → value ≡ big_endian 1 (if truth then 1 else 0) → ⊥)
    → IsNoRecord (front_bytes 34 txn ballot ++ value)
no-value txn ballot value site none (ballot_promised other taken) spelled =
    let parts = one-front 34 txn ballot value (ballot_promised other taken) (omega arith) site spelled in absurd (omega (arith, parts.kind_is))
no-value txn ballot value site none (value_accepted other taken commits) spelled =
    let parts = one-front 34 txn ballot value (value_accepted other taken commits) (omega arith) site spelled in none commits parts.value_is

-- There are no other kinds.
pub no-kind : (kind : ℕ) (txn : TxnId) (ballot : Ballot) (value : List ℕ) → kind < 256 → txn.site.0 < 256 → (kind ≡ 33 → ⊥) → (kind ≡ 34 → ⊥)
    → IsNoRecord (front_bytes kind txn ballot ++ value)
no-kind kind txn ballot value fits site promised accepted (ballot_promised other taken) spelled =
    promised (one-front kind txn ballot value (ballot_promised other taken) fits site spelled).kind_is
no-kind kind txn ballot value fits site promised accepted (value_accepted other taken commits) spelled =
    accepted (one-front kind txn ballot value (value_accepted other taken commits) fits site spelled).kind_is

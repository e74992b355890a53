-- The contents of bytes are those of the log in two areas that they are.
use Rattle.std.proofs.Common.{◌≡◌, ◌≢◌, inl, inr, ℕ, ◌+◌, ◌<◌, ◌≤◌, ◌==◌, nat_lt, Bool, true, false, if◌then◌else◌, List, ◌∷◌, ◌++◌, Option, Some, None, length, take, drop, refl, sym, ◌∙◌, ap, subst, arith}
use Rattle.std.specs.Prelude.{option_and_then}
use Rattle.std.specs.Str.{bytes_eq}
use Rattle.std.proofs.lemmas.Bool.{lt-ltb, le-ltb, ltb-true, ltb-false}
use Rattle.std.proofs.lemmas.Bool.Decides.{eqb_tells}
use Rattle.std.proofs.lemmas.List.{append_cancel_left}
use Rattle.std.proofs.lemmas.Slice.Eq.{bytes_eq-Decides}
use Rattle.pv_disk_model.specs.Size.{Contents}
use Rattle.pv_format.specs.Journal.{header, records_of, IsJournal}
use Rattle.pv_format.specs.JournalContents.{contents_from, contents_of}
use Rattle.pv_law_journal.proofs.ContentsLemmas.{contents_of-is, contents_of-journal}
use Rattle.pv_law_checkpoints.specs.LogContents.{block_contents, greater_root, root_in_force, joined, contents_at, log_contents_of}
use Rattle.pv_law_checkpoints.specs.Roots.{start, gate_at, number_at, place_at, size_at, IsInForce}
use Rattle.pv_law_checkpoints.specs.TwoAreas.{greatest_place, Starts, behind_block, IsLog, IsTwoAreas}
use Rattle.pv_law_checkpoints.proofs.BlockContents.{block_contents-block, are_block}
use Rattle.pv_law_checkpoints.proofs.OneAnswer.{journal_in}
use Rattle.pv_law_checkpoints.proofs.RootLemmas.{in_force_or_none}

is_open : (gate : ℕ) → gate ≡ 1 → (gate == 1) ≡ true
is_open gate opened = ap (λ g. g == 1) opened

is_shut : (gate : ℕ) → gate ≢ 1 → (gate == 1) ≡ false
is_shut gate closed = elim (eqb_tells gate 1) [
  | inl opened ↦ absurd (closed opened.1)
  | inr shut ↦ shut.0
]

-- The root in force is found, where it is the first or the second one.
first_found : (bytes : List ℕ) → IsInForce bytes 8 → root_in_force bytes ≡ Some 8
first_found bytes in_force = elim (eqb_tells (gate_at bytes 33) 1) [
  | inr shut ↦ (λ i. greater_root (is_open (gate_at bytes 8) in_force.opened i) (shut.0 i) bytes)
  | inl opened ↦
      let not_less : number_at bytes 33 ≤ number_at bytes 8 = elim (in_force.greater opened.1) [
        | inl less ↦ omega (arith, less)
        | inr same ↦ omega (arith, same.0)
      ] in
      (λ i. greater_root (is_open (gate_at bytes 8) in_force.opened i) (opened.0 i) bytes)
      ∙ ap (λ b. if b then Some 33 else Some 8) (le-ltb (number_at bytes 8) (number_at bytes 33) not_less)
]

second_found : (bytes : List ℕ) → IsInForce bytes 33 → root_in_force bytes ≡ Some 33
second_found bytes in_force = elim (eqb_tells (gate_at bytes 8) 1) [
  | inr shut ↦ (λ i. greater_root (shut.0 i) (is_open (gate_at bytes 33) in_force.opened i) bytes)
  | inl opened ↦
      let less : number_at bytes 8 < number_at bytes 33 = elim (in_force.greater opened.1) [
        | inl less ↦ omega (arith, less)
        | inr same ↦ absurd (omega (arith, same.1))
      ] in
      (λ i. greater_root (opened.0 i) (is_open (gate_at bytes 33) in_force.opened i) bytes)
      ∙ ap (λ b. if b then Some 33 else Some 8) (lt-ltb (number_at bytes 8) (number_at bytes 33) less)
]

root_found : (bytes : List ℕ) (at : ℕ) → IsInForce bytes at → root_in_force bytes ≡ Some at
root_found bytes at in_force = elim in_force.root [
  | inl first ↦ first_found bytes (subst (IsInForce bytes) first in_force) ∙ ap Some (sym first)
  | inr second ↦ second_found bytes (subst (IsInForce bytes) second in_force) ∙ ap Some (sym second)
]

-- Behind a block stands what stands behind the header of a journal.
behind_is : (at : ℕ) (packed later : Contents) (bytes : List ℕ) → IsLog at packed later bytes → contents_from 0 (behind_block bytes at) ≡ Some later
unfolding contents_of
behind_is at packed later bytes log = contents_of-is later (header ++ behind_block bytes at) (journal_in at packed later bytes log)

behind_journal : (body : List ℕ) (later : Contents) → contents_from 0 body ≡ Some later → IsJournal later (header ++ body)
unfolding contents_of
behind_journal body later is = contents_of-journal later (header ++ body) is

contents_at-log : (at : ℕ) (packed later : Contents) (bytes : List ℕ) → IsLog at packed later bytes → contents_at bytes at ≡ Some (packed ++ later)
contents_at-log at packed later bytes log =
    let place = place_at bytes at in
    let size = size_at bytes at in
    let behind : nat_lt place 58 ≡ false = le-ltb place 58 log.block.behind_roots in
    let in_range : nat_lt greatest_place place ≡ false = le-ltb greatest_place place log.block.in_range in
    let ends : nat_lt (place + size) (length bytes) ≡ true = lt-ltb (place + size) (length bytes) log.block.ends in
    let block : block_contents 0 (take size (drop place bytes)) ≡ Some packed = ap (block_contents 0) log.block.is ∙ block_contents-block packed log.block.short in
    let records : contents_from 0 (behind_block bytes at) ≡ Some later = behind_is at packed later bytes log in
    λ i. if behind i then None else if in_range i then None else if ends i then joined (block i) (records i) else None

-- The contents of a log in two areas are its own.
pub log_contents_of-is : (contents : Contents) (bytes : List ℕ) → IsTwoAreas contents bytes → log_contents_of bytes ≡ Some contents
unfolding log_contents_of
log_contents_of-is contents bytes is =
    let begins : bytes_eq (take 8 bytes) start ≡ true = (bytes_eq-Decides (take 8 bytes) start).1 is.log.starts.begins in
    let long : nat_lt (length bytes) 59 ≡ false = le-ltb (length bytes) 59 is.log.starts.long in
    let found : root_in_force bytes ≡ Some is.at = root_found bytes is.at is.log.in_force in
    (λ i. if begins i then (if long i then None else option_and_then (contents_at bytes) (found i)) else None)
    ∙ contents_at-log is.at is.packed is.later bytes is.log ∙ ap Some (sym is.is)

-- What is known of tests where there are contents.
test_failed : (b : Bool) (found : Option Contents) (contents : Contents) → (if b then None else found) ≡ Some contents → (b ≡ false) × (found ≡ Some contents)
test_failed true found contents is = cc
test_failed false found contents is = (refl, is)

test_passed : (b : Bool) (found : Option Contents) (contents : Contents) → (if b then found else None) ≡ Some contents → (b ≡ true) × (found ≡ Some contents)
test_passed true found contents is = (refl, is)
test_passed false found contents is = cc

then_some : (of : ℕ → Option Contents) (root : Option ℕ) (contents : Contents) → option_and_then of root ≡ Some contents → (at : ℕ) × (root ≡ Some at) × (of at ≡ Some contents)
then_some of None contents is = cc
then_some of (Some at) contents is = (at, refl, is)

both_there : (block records : Option Contents) (contents : Contents) → joined block records ≡ Some contents
    → (packed : Contents) × (later : Contents) × (block ≡ Some packed) × (records ≡ Some later) × (contents ≡ packed ++ later)
both_there None records contents is = cc
both_there (Some packed) None contents is = cc
both_there (Some packed) (Some later) contents is = (packed, later, refl, refl, let same : packed ++ later ≡ contents = cc in sym same)

some_same : (at other : ℕ) → Some at ≡ Some other → at ≡ other
some_same at other is = cc

-- Bytes with contents at the root in force are a log.
log_at : (bytes : List ℕ) (at : ℕ) (contents : Contents) → Starts bytes → IsInForce bytes at → contents_at bytes at ≡ Some contents → IsTwoAreas contents bytes
log_at bytes at contents starts in_force is =
    let place = place_at bytes at in
    let size = size_at bytes at in
    let body = behind_block bytes at in
    let both = joined (block_contents 0 (take size (drop place bytes))) (contents_from 0 body) in
    let third = if nat_lt (place + size) (length bytes) then both else None in
    let second = if nat_lt greatest_place place then None else third in
    let behind = test_failed (nat_lt place 58) second contents is in
    let in_range = test_failed (nat_lt greatest_place place) third contents behind.1 in
    let ends = test_passed (nat_lt (place + size) (length bytes)) both contents in_range.1 in
    let parts = both_there (block_contents 0 (take size (drop place bytes))) (contents_from 0 body) contents ends.1 in
    let block = are_block (length (take size (drop place bytes))) (take size (drop place bytes)) parts.0 (omega arith) parts.2 in
    let journal = behind_journal body parts.1 parts.3 in
    record {
      at = at;
      packed = parts.0;
      later = parts.1;
      log = record {
        starts = starts;
        in_force = in_force;
        block = record {
          behind_roots = ltb-false place 58 behind.0;
          in_range = ltb-false greatest_place place in_range.0;
          ends = ltb-true (place + size) (length bytes) ends.0;
          short = block.0;
          is = block.1;
        };
        short = journal.short;
        gate = journal.gate;
        rest = journal.rest;
        closed = journal.closed;
        is = append_cancel_left header body (records_of parts.1 ++ journal.gate ∷ journal.rest) journal.is;
      };
      is = parts.4;
    }

-- Bytes with contents are a log in two areas with them.
pub log_contents_of-log : (contents : Contents) (bytes : List ℕ) → log_contents_of bytes ≡ Some contents → IsTwoAreas contents bytes
unfolding log_contents_of
log_contents_of-log contents bytes is =
    let rest = option_and_then (contents_at bytes) (root_in_force bytes) in
    let begins = test_passed (bytes_eq (take 8 bytes) start) (if nat_lt (length bytes) 59 then None else rest) contents is in
    let long = test_failed (nat_lt (length bytes) 59) rest contents begins.1 in
    let root = then_some (contents_at bytes) (root_in_force bytes) contents long.1 in
    let starts : Starts bytes = record { begins = (bytes_eq-Decides (take 8 bytes) start).0 begins.0; long = ltb-false (length bytes) 59 long.0 } in
    elim (in_force_or_none bytes) [
      | inl found ↦
          let same : found.0 ≡ root.0 = some_same found.0 root.0 (sym (root_found bytes found.0 found.1) ∙ root.1) in
          log_at bytes root.0 contents starts (subst (IsInForce bytes) same found.1) root.2
      | inr shut ↦
          let none : root_in_force bytes ≡ None = λ i. greater_root (is_shut (gate_at bytes 8) shut.0 i) (is_shut (gate_at bytes 33) shut.1 i) bytes in
          let both : None ≡ Some root.0 = sym none ∙ root.1 in
          cc
    ]

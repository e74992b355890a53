-- The contents of bytes are those of the journal that they are.
use Rattle.std.proofs.Common.{◌≡◌, ◌≢◌, inl, inr, ℕ, zero, suc, ◌^◌, ◌<◌, ◌≤◌, Bool, true, if◌then◌else◌, List, [], ◌∷◌, ◌++◌, Option, Some, None, length, take, drop, refl, sym, ◌∙◌, ap, subst, arith, append_assoc, length-take, length-drop}
use Rattle.std.specs.Option.{option_map}
use Rattle.std.specs.Str.{bytes_eq}
use Rattle.std.proofs.lemmas.Bool.{cases_Bool}
use Rattle.std.proofs.lemmas.Bool.Decides.{eqb_tells}
use Rattle.std.proofs.lemmas.List.{take-append-drop, take_at, drop_at}
use Rattle.std.proofs.lemmas.List.Elements.{All-nil, All-cons, All-head, All-tail}
use Rattle.std.proofs.lemmas.Slice.Eq.{bytes_eq-Decides}
use Rattle.pv_base.specs.BigEndian.{big_endian, number_of}
use Rattle.pv_base.proofs.BigEndianLemmas.{length-big_endian, number_of-big_endian, number_of-lt, AreBytes-big_endian}
use Rattle.pv_disk_model.specs.Size.{Contents}
use Rattle.pv_format.specs.Journal.{header, framed, records_of, AreShort, IsJournal}
use Rattle.pv_format.specs.JournalContents.{content_at, contents_from, contents_of}
use Rattle.pv_law_journal.proofs.Bodies.{IsBody}

-- Passing bytes over is dropping them.
passed_over : (passed : ℕ) (bytes : List ℕ) → contents_from passed bytes ≡ contents_from 0 (drop passed bytes)
passed_over zero bytes = refl
passed_over (suc passed) [] = refl
passed_over (suc passed) (byte ∷ bytes) = passed_over passed bytes

-- What an open gate comes to, with this content after it or not.
abbrev opened_if : Bool → List ℕ → List ℕ → Option Contents
opened_if stands content bytes = if stands then option_map (λ (later : Contents). content ∷ later) (contents_from (length (framed content)) bytes) else None

abbrev stands : List ℕ → List ℕ → Bool
stands content bytes = bytes_eq (take (length (framed content)) bytes) (framed content)

abbrev at_gate : Bool → List ℕ → Option Contents
at_gate open_gate bytes = if open_gate then opened_if (stands (content_at bytes) bytes) (content_at bytes) bytes else Some []

-- Records and a closed gate have the contents of the records.
record_first : (content rest : List ℕ) → length content < 2 ^ 32
    → contents_from 0 (1 ∷ (framed content ++ rest)) ≡ option_map (λ (later : Contents). content ∷ later) (contents_from 0 rest)
record_first content rest short =
    let bytes = framed content ++ rest in
    let number = big_endian 4 (length content) in
    let size : length number ≡ 4 = length-big_endian 4 (length content) in
    let split : bytes ≡ number ++ (content ++ rest) = append_assoc number content rest in
    let count : number_of (take 4 bytes) ≡ length content =
    ap (λ (l : List ℕ). number_of (take 4 l)) split ∙ ap number_of (take_at number (content ++ rest) 4 size) ∙ number_of-big_endian 4 (length content) short in
    let behind : drop 4 bytes ≡ content ++ rest = ap (λ (l : List ℕ). drop 4 l) split ∙ drop_at number (content ++ rest) 4 size in
    let is : content_at bytes ≡ content = (λ i. take (count i) (behind i)) ∙ take_at content rest (length content) refl in
    let there : stands content bytes ≡ true = (bytes_eq-Decides (take (length (framed content)) bytes) (framed content)).1 (take_at (framed content) rest (length (framed content)) refl) in
    ap (λ (c : List ℕ). opened_if (stands c bytes) c bytes) is ∙ ap (λ b. opened_if b content bytes) there
    ∙ ap (option_map (λ (later : Contents). content ∷ later))
    (passed_over (length (framed content)) bytes ∙ ap (contents_from 0) (drop_at (framed content) rest (length (framed content)) refl))

from_records : (contents : Contents) (gate : ℕ) (rest : List ℕ) → AreShort contents → gate ≢ 1 → contents_from 0 (records_of contents ++ gate ∷ rest) ≡ Some contents
from_records [] gate rest short closed = elim (eqb_tells gate 1) [
  | inl open_gate ↦ absurd (closed open_gate.1)
  | inr shut ↦ ap (λ b. at_gate b rest) shut.0
]
from_records (content ∷ contents) gate rest short closed =
    ap (λ (l : List ℕ). contents_from 0 (1 ∷ l)) (append_assoc (framed content) (records_of contents) (gate ∷ rest))
    ∙ record_first content (records_of contents ++ gate ∷ rest) (All-head (λ c. length c < 2 ^ 32) content contents short)
    ∙ ap (option_map (λ (later : Contents). content ∷ later)) (from_records contents gate rest (All-tail (λ c. length c < 2 ^ 32) content contents short) closed)

-- The contents of a journal are its own.
pub contents_of-is : (contents : Contents) (bytes : List ℕ) → IsJournal contents bytes → contents_of bytes ≡ Some contents
unfolding contents_of
contents_of-is contents bytes is = ap contents_of is.is ∙ from_records contents is.gate is.rest is.short is.closed

-- What there is of contents with one more in front.
one_in_front : (content : List ℕ) (found : Option Contents) (contents : Contents) → option_map (λ (later : Contents). content ∷ later) found ≡ Some contents
    → (later : Contents) × (found ≡ Some later) × (contents ≡ content ∷ later)
one_in_front content None contents is = cc
one_in_front content (Some later) contents is = (later, refl, let same : content ∷ later ≡ contents = cc in sym same)

-- A content that stands after its length is short enough for it.
short_content : (bytes : List ℕ) → take (length (framed (content_at bytes))) bytes ≡ framed (content_at bytes) → length (content_at bytes) < 2 ^ 32
short_content bytes is =
    let content = content_at bytes in
    let number = big_endian 4 (length content) in
    let size : length number ≡ 4 = length-big_endian 4 (length content) in
    let whole : bytes ≡ framed content ++ drop (length (framed content)) bytes =
    sym (take-append-drop (length (framed content)) bytes) ∙ ap (λ (l : List ℕ). l ++ drop (length (framed content)) bytes) is in
    let front : take 4 bytes ≡ number =
    ap (λ (l : List ℕ). take 4 l) (whole ∙ append_assoc number content (drop (length (framed content)) bytes))
    ∙ take_at number (content ++ drop (length (framed content)) bytes) 4 size in
    let bound : number_of number < 256 ^ length number = number_of-lt number (AreBytes-big_endian 4 (length content)) in
    omega (arith, ap number_of front, bound, ap (λ n. 256 ^ n) size, length-take (number_of (take 4 bytes)) (drop 4 bytes))

-- Bytes with contents from a gate on are records of these and a closed gate.
are_records : (steps : ℕ) (bytes : List ℕ) (contents : Contents) → length bytes ≤ steps → contents_from 0 bytes ≡ Some contents → IsBody contents bytes
are_records steps [] contents few is = cc
are_records zero (gate ∷ bytes) contents few is = absurd (omega arith)
are_records (suc steps) (gate ∷ bytes) contents few is = elim (eqb_tells gate 1) [
  | inr shut ↦
      let none : [] ≡ contents = let both : Some [] ≡ Some contents = sym (ap (λ b. at_gate b bytes) shut.0) ∙ is in cc in
      subst (λ (c : Contents). IsBody c (gate ∷ bytes)) none
      record { short = All-nil (λ c. length c < 2 ^ 32); gate = gate; rest = bytes; closed = shut.1; is = refl }
  | inl open_gate ↦
      let content = content_at bytes in
      let opens : opened_if (stands content bytes) content bytes ≡ Some contents = sym (ap (λ b. at_gate b bytes) open_gate.0) ∙ is in
      elim (cases_Bool (stands content bytes)) [
        | inr missing ↦ let both : None ≡ Some contents = sym (ap (λ b. opened_if b content bytes) missing) ∙ opens in cc
        | inl there ↦
            let count = length (framed content) in
            let front : take count bytes ≡ framed content = (bytes_eq-Decides (take count bytes) (framed content)).0 there in
            let short = short_content bytes front in
            let more = one_in_front content (contents_from count bytes) contents (sym (ap (λ b. opened_if b content bytes) there) ∙ opens) in
            let body = are_records steps (drop count bytes) more.0 (omega (arith, length-drop count bytes)) (sym (passed_over count bytes) ∙ more.1) in
            subst (λ (c : Contents). IsBody c (gate ∷ bytes)) (sym more.2)
            record {
              short = All-cons (λ c. length c < 2 ^ 32) content more.0 short body.short;
              gate = body.gate;
              rest = body.rest;
              closed = body.closed;
              is =
                  (λ i. open_gate.1 i ∷ (sym (take-append-drop count bytes) ∙ (λ j. front j ++ body.is j) ∙ sym (append_assoc (framed content) (records_of more.0) (body.gate ∷ body.rest))) i);
            }
      ]
]

-- Bytes with contents are a journal.
pub contents_of-journal : (contents : Contents) (bytes : List ℕ) → contents_of bytes ≡ Some contents → IsJournal contents bytes
unfolding contents_of
contents_of-journal contents bytes is = elim (cases_Bool (bytes_eq (take 8 bytes) header)) [
  | inr other ↦ let both : None ≡ Some contents = sym (ap (λ b. if b then contents_from 8 bytes else None) other) ∙ is in cc
  | inl ours ↦
      let begins : take 8 bytes ≡ header = (bytes_eq-Decides (take 8 bytes) header).0 ours in
      let from : contents_from 8 bytes ≡ Some contents = sym (ap (λ b. if b then contents_from 8 bytes else None) ours) ∙ is in
      let body = are_records (length (drop 8 bytes)) (drop 8 bytes) contents (omega arith) (sym (passed_over 8 bytes) ∙ from) in
      record {
        short = body.short;
        gate = body.gate;
        rest = body.rest;
        closed = body.closed;
        is = sym (take-append-drop 8 bytes) ∙ (λ i. begins i ++ body.is i);
      }
]

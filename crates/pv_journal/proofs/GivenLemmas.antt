-- What the reads of a journal give, one after another.
use Rattle.std.proofs.Common.{◌≡◌, ◌≢◌, ℕ, ◌+◌, ◌^◌, ◌<◌, ◌≤◌, List, [], ◌∷◌, ◌++◌, Result, Ok, Err, Vec, Global, length, min, take, slice_index, refl, sym, ◌∙◌, ap, arith, append_assoc, length-append}
use Rattle.std.specs.Prelude.{IfOk, IsErrOf}
use Rattle.std.proofs.lemmas.List.{take_all, append-nil}
use Rattle.std.proofs.lemmas.List.Concat.{flat_map-append}
use Rattle.std.proofs.lemmas.List.Elements.{All-nil, All-cons, All-append}
use Rattle.std.proofs.lemmas.List.Sums.{sum_by-append, sum_by-cons}
use Rattle.pv_base.specs.BigEndian.{big_endian}
use Rattle.pv_base.proofs.AnswerLemmas.{answered}
use Rattle.pv_disk_model.specs.DiskModel.{DiskModel}
use Rattle.pv_disk_model.specs.Size.{Contents}
use Rattle.pv_format.specs.Journal.{header, record_of, records_of, IsJournal, IsNotOurs, EndsShort}
use Rattle.pv_law_journal.proofs.Bodies.{frame_length}
use Rattle.pv_law_journal.proofs.OneAnswer.{one_answer}
use Rattle.pv_disk.specs.declared.disk_error.LookError.{LookError}
use Rattle.pv_disk.specs.declared.disk_error.LookError.TheVariants.{Failed, NotOurs, NoMemory}
use Rattle.pv_journal.specs.Opening.{contents_in, place_in, AnswersOfReads}
use Rattle.pv_journal.specs.Outline.{outline_of, OutlinesTo}
use Rattle.pv_journal.specs.Reading.{HasRead, IsGate, IsOpenEnd}
use Rattle.pv_law_calls.specs.Reading.{Gave}
use Rattle.pv_journal.specs.declared.reading.Gate.TheVariants.{Closed}
use Rattle.pv_law_calls.proofs.RecordLemmas.{length-record_of, records_of-push}

module _ {D : Type 0} (M : DiskModel D) where
  -- What is given is told exactly.
  pub answers_of_reads : (old new : D) (result : Result (Vec (Vec ℕ Global) Global) LookError) → IfOk result (λ all. Gave M old new (IsJournal (contents_in all)))
      → ((place : ℕ) → IsErrOf result (NotOurs place) → Gave M old new (λ read. IsNotOurs read place)) → AnswersOfReads M old new result
  answers_of_reads old new (Ok all) given none =
      (given.0, given.1, answered (λ contents. IsJournal contents given.0) (IsNotOurs given.0) (one_answer given.0) contents_in place_in (Ok all) given.2 tt)
  answers_of_reads old new (Err Failed) given none = tt
  answers_of_reads old new (Err (NotOurs place)) given none =
      let gave = none place refl in
      (gave.0, gave.1, answered (λ contents. IsJournal contents gave.0) (IsNotOurs gave.0) (one_answer gave.0) contents_in place_in (Err (NotOurs place)) tt gave.2)
  answers_of_reads old new (Err NoMemory) given none = tt

-- One byte, as it was read.
one_byte : (read : List ℕ) → length read ≡ 1 → read ≡ slice_index read 0 ∷ []
one_byte [] one = absurd (omega (arith, one))
one_byte (byte ∷ []) one = refl
one_byte (byte ∷ other ∷ more) one = absurd (omega (arith, one))

pub gate_closed : (read : List ℕ) → length read ≡ 1 → slice_index read 0 ≢ 1 → IsGate read Closed
gate_closed read one closed = (slice_index read 0, closed, one_byte read one)

pub gate_open : (read : List ℕ) → length read ≡ 1 → slice_index read 0 ≡ 1 → read ≡ 1 ∷ []
gate_open read one open_gate = one_byte read one ∙ ap (λ byte. byte ∷ []) open_gate

-- No more than eight bytes, as they were asked for.
pub whole_front : (front : List ℕ) → length front ≤ 8 → front ≡ take (min (length front) 8) front
whole_front front few = sym (take_all (min (length front) 8) front (omega arith))

pub header_read : (front : List ℕ) → length front ≤ 8 → take 8 front ≡ take 8 header → front ≡ header
header_read front few same = sym (take_all 8 front (omega arith)) ∙ same

pub none_read : HasRead [] header 8
none_read = record { short = All-nil (λ c. length c < 2 ^ 32); is = sym (append-nil header); place_is = refl }

-- One more record was read.
pub one_more_read : (contents : Contents) (read content gave : List ℕ) (place count : ℕ) → HasRead contents read place → length content ≡ count → count < 2 ^ 32
    → gave ≡ record_of content → HasRead (contents ++ content ∷ []) (read ++ gave) (place + (5 + count))
one_more_read contents read content gave place count has size fits is =
    record {
      short = All-append (λ c. length c < 2 ^ 32) contents (content ∷ []) has.short (All-cons (λ c. length c < 2 ^ 32) content [] (omega (arith, size)) (All-nil (λ c. length c < 2 ^ 32)));
      is =
          ap (λ (l : List ℕ). l ++ gave) has.is ∙ ap (λ (l : List ℕ). (header ++ records_of contents) ++ l) is ∙ append_assoc header (records_of contents) (record_of content)
          ∙ ap (λ (l : List ℕ). header ++ l) (sym (records_of-push contents content));
      place_is = omega (arith, ap length (records_of-push contents content), length-append (records_of contents) (record_of content), length-record_of content, size, has.place_is);
    }

-- A closed gate comes.
pub all_read : (contents : Contents) (read gave : List ℕ) (place : ℕ) → HasRead contents read place → IsGate gave Closed → IsJournal contents (read ++ gave)
all_read contents read gave place has gate =
    record {
      short = has.short;
      gate = gate.0;
      rest = [];
      closed = gate.1;
      is = ap (λ (l : List ℕ). l ++ gave) has.is ∙ ap (λ (l : List ℕ). (header ++ records_of contents) ++ l) gate.2 ∙ append_assoc header (records_of contents) (gate.0 ∷ []);
    }

-- An open gate comes, and no whole record.
pub cut_read : (contents : Contents) (read gave : List ℕ) (place left : ℕ) → HasRead contents read place → IsOpenEnd left gave → EndsShort contents (read ++ gave) place
cut_read contents read gave place left has end =
    record {
      short = has.short;
      rest = end.0;
      is = ap (λ (l : List ℕ). l ++ gave) has.is ∙ ap (λ (l : List ℕ). (header ++ records_of contents) ++ l) end.2 ∙ append_assoc header (records_of contents) (1 ∷ end.0);
      cut = λ content more gate short frame. absurd (omega (arith, end.1, (frame_length end.0 content more gate short frame).2));
      place_is = has.place_is;
    }

pub none_outlined : OutlinesTo [] header 8
none_outlined = record { short = All-nil (λ count. count < 2 ^ 32); is = sym (append-nil header); place_is = refl }

-- One more gate and its length were read.
pub one_more_outlined : (lengths read gave : List ℕ) (place count : ℕ) → OutlinesTo lengths read place → count < 2 ^ 32 → gave ≡ 1 ∷ big_endian 4 count
    → OutlinesTo (lengths ++ count ∷ []) (read ++ gave) (place + (5 + count))
one_more_outlined lengths read gave place count to fits is =
    let one : List ℕ = 1 ∷ big_endian 4 count in
    let pushed : outline_of (lengths ++ count ∷ []) ≡ outline_of lengths ++ one =
    flat_map-append (λ n. 1 ∷ big_endian 4 n) lengths (count ∷ []) ∙ ap (λ (l : List ℕ). outline_of lengths ++ l) (append-nil one) in
    record {
      short = All-append (λ n. n < 2 ^ 32) lengths (count ∷ []) to.short (All-cons (λ n. n < 2 ^ 32) count [] fits (All-nil (λ n. n < 2 ^ 32)));
      is =
          ap (λ (l : List ℕ). l ++ gave) to.is ∙ ap (λ (l : List ℕ). (header ++ outline_of lengths) ++ l) is ∙ append_assoc header (outline_of lengths) one
          ∙ ap (λ (l : List ℕ). header ++ l) (sym pushed);
      place_is = omega (arith, to.place_is, sum_by-append (λ n. 5 + n) lengths (count ∷ []), sum_by-cons (λ n. 5 + n) count []);
    }

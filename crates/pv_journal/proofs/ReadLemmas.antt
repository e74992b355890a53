-- What stands at a place of a journal.
use Rattle.std.proofs.Common.{◌≡◌, ◌≢◌, inl, inr, ℕ, ◌+◌, ◌^◌, ◌<◌, ◌≤◌, List, [], ◌∷◌, ◌++◌, length, min, take, drop, slice_index, refl, sym, ◌∙◌, ap, arith, append_assoc, length-append, length-take, length-drop}
use Rattle.std.proofs.lemmas.List.{take-append-drop, take_at, drop_at, append-nil, take-take, nil_from_length, get_or-take}
use Rattle.std.proofs.lemmas.Bool.{cases_lt}
use Rattle.std.proofs.lemmas.List.Elements.{All-nil, All-cons, All-append}
use Rattle.pv_base.specs.BigEndian.{big_endian, number_of}
use Rattle.pv_base.proofs.BigEndianLemmas.{number_of-big_endian, length-big_endian}
use Rattle.pv_disk_model.specs.Size.{Contents}
use Rattle.pv_format.specs.Journal.{header, framed, record_of, records_of, IsJournal, end_of, EndsShort, HasNoHeader}
use Rattle.pv_law_journal.proofs.Bodies.{frame_length, first_and_rest}
use Rattle.pv_law_calls.proofs.RecordLemmas.{length-record_of, records_of-push}
use Rattle.pv_journal.specs.Reading.{ReadsTo, StandsAt, StandsCut}
use Rattle.pv_journal.specs.declared.reading.Gate.TheVariants.{Closed, Open}

-- The first byte, as it was read.
first_byte : (rest read : List ℕ) → read ≡ take 1 rest → length read ≡ 1 → (more : List ℕ) × (rest ≡ slice_index read 0 ∷ more)
first_byte [] read is one = absurd (omega (arith, ap length is))
first_byte (first ∷ more) read is one = (more, ap (λ (l : List ℕ). slice_index l 0 ∷ more) (sym is))

pub stands_closed : (rest read : List ℕ) → read ≡ take 1 rest → length read ≡ 1 → slice_index read 0 ≢ 1 → StandsAt rest Closed
stands_closed rest read is one closed = let found = first_byte rest read is one in (slice_index read 0, found.0, closed, found.1)

pub opened : (rest read : List ℕ) → read ≡ take 1 rest → length read ≡ 1 → slice_index read 0 ≡ 1 → (more : List ℕ) × (rest ≡ 1 ∷ more)
opened rest read is one open_gate = let found = first_byte rest read is one in (found.0, found.1 ∙ ap (λ g. g ∷ found.0) open_gate)

pub cut_early : (rest more : List ℕ) → rest ≡ 1 ∷ more → length rest < 5 → StandsCut rest
cut_early rest more is early =
    (more, is, λ content tail gate short frame. absurd (omega (arith, ap length is, (frame_length more content tail gate short frame).2)))

-- The number that was read is the length of each content that could follow.
told_length : (more content tail number : List ℕ) (gate count : ℕ) → number ≡ take 4 more → big_endian 4 count ≡ number → count < 2 ^ 32 → length content < 2 ^ 32
    → more ≡ framed content ++ gate ∷ tail → (length content ≡ count) × (length more ≡ 5 + count + length tail)
told_length more content tail number gate count is spelled fits short frame =
    let parts = frame_length more content tail gate short frame in
    let same : count ≡ length content =
    sym (number_of-big_endian 4 count fits) ∙ ap number_of (spelled ∙ is) ∙ parts.1 in
    (sym same, omega (arith, parts.2, same))

pub cut_late : (rest more number : List ℕ) (count : ℕ) → rest ≡ 1 ∷ more → number ≡ take 4 more → big_endian 4 count ≡ number → count < 2 ^ 32 → length rest ≤ count + 5 → StandsCut rest
cut_late rest more number count is read spelled fits late = (
  more,
  is,
  λ content tail gate short frame.
      absurd (omega (arith, ap length is, (told_length more content tail number gate count read spelled fits short frame).1)),
)

pub stands_open : (rest more number : List ℕ) (count : ℕ) → rest ≡ 1 ∷ more → number ≡ take 4 more → big_endian 4 count ≡ number → count + 5 < length rest → StandsAt rest (Open count)
stands_open rest more number count is read spelled early =
    let behind = drop 4 more in
    let content = take count behind in
    let long : count + 5 ≤ length more = omega (arith, ap length is) in
    let size : length content ≡ count = omega (arith, length-take count behind, length-drop 4 more) in
    let tail = first_and_rest (drop count behind) (omega (arith, length-drop count behind, length-drop 4 more)) in
    let front : take 4 more ≡ big_endian 4 (length content) = sym read ∙ sym spelled ∙ ap (big_endian 4) (sym size) in
    let after : drop 4 more ≡ content ++ tail.0 ∷ tail.1 = sym (take-append-drop count behind) ∙ ap (λ (l : List ℕ). content ++ l) tail.2 in
    let parts : more ≡ big_endian 4 (length content) ++ (content ++ tail.0 ∷ tail.1) = rw (← front, ← after) (sym (take-append-drop 4 more)) in
    let frame : more ≡ framed content ++ tail.0 ∷ tail.1 = parts ∙ sym (append_assoc (big_endian 4 (length content)) content (tail.0 ∷ tail.1)) in
    (content, tail.0, tail.1, size, is ∙ ap (λ (l : List ℕ). 1 ∷ l) frame)

-- Four bytes that begin with a number are that number.
pub whole_number : (bytes left : List ℕ) (number : ℕ) → bytes ≡ big_endian 4 number ++ left → length bytes ≡ 4 → big_endian 4 number ≡ bytes
whole_number bytes left number is four =
    let size : length (big_endian 4 number) ≡ 4 = length-big_endian 4 number in
    sym (is ∙ ap (λ (l : List ℕ). big_endian 4 number ++ l) (nil_from_length left (omega (arith, ap length is, length-append (big_endian 4 number) left, size)))
    ∙ append-nil (big_endian 4 number))

-- A disk that begins otherwise, or ends within the header.
pub no_header : (bytes front : List ℕ) (size place : ℕ) → size ≡ length bytes → front ≡ take (min size 8) bytes → place ≤ length front → place < 8
    → take place front ≡ take place header → (place < length front → slice_index front place ≢ slice_index header place) → HasNoHeader bytes place
no_header bytes front size place is read reached within same differ =
    let count = min size 8 in
    let whole : length front ≡ count = omega (arith, ap length read, length-take count bytes, is) in
    let here : take place front ≡ take place bytes = ap (take place) read ∙ take-take place count bytes (omega (arith, whole)) in
    record {
      within = omega arith;
      before = sym here ∙ same;
      reached = omega (arith, whole, is);
      wrong = elim (cases_lt place (length front)) [
        | inr ends ↦ inl (omega (arith, whole, is))
        | inl inside ↦ inr (
          within,
          λ equal. differ inside
              (ap (λ (l : List ℕ). slice_index l place) read ∙ get_or-take count bytes place 0 (omega (arith, whole)) ∙ equal),
        )
      ];
    }

-- A disk that ends with the header.
pub no_gate : (bytes front : List ℕ) (size : ℕ) → size ≡ length bytes → size ≤ 8 → 8 ≤ length front → front ≡ take (min size 8) bytes → take 8 front ≡ take 8 header → HasNoHeader bytes 8
no_gate bytes front size is short long read same =
    let count = min size 8 in
    let whole : length front ≡ count = omega (arith, ap length read, length-take count bytes, is) in
    let here : take 8 front ≡ take 8 bytes = ap (take 8) read ∙ take-take 8 count bytes (omega (arith, whole)) in
    record { within = omega arith; before = sym here ∙ same; reached = omega (arith, whole, is); wrong = inl (omega (arith, whole, is)) }

-- A disk that begins with the header, and goes on.
pub begins : (bytes front : List ℕ) (size : ℕ) → size ≡ length bytes → 8 < size → front ≡ take (min size 8) bytes → take 8 front ≡ take 8 header → ReadsTo [] bytes 8
begins bytes front size is long read same =
    let count = min size 8 in
    let eight : count ≡ 8 = omega arith in
    let here : take 8 front ≡ take 8 bytes = ap (take 8) read ∙ take-take 8 count bytes (omega arith) in
    let starts : take 8 bytes ≡ header = sym here ∙ same in
    record {
      short = All-nil (λ c. length c < 2 ^ 32);
      body = drop 8 bytes;
      is = sym (take-append-drop 8 bytes) ∙ ap (λ (l : List ℕ). l ++ drop 8 bytes) starts;
      some = omega (arith, length-drop 8 bytes, is);
      place_is = refl;
    }

-- What stands at the place that was read to.
at_place : (contents : Contents) (bytes : List ℕ) (place : ℕ) (to : ReadsTo contents bytes place) → drop place bytes ≡ to.body
at_place contents bytes place to =
    ap (λ (l : List ℕ). drop place l) (to.is ∙ sym (append_assoc header (records_of contents) to.body))
    ∙ drop_at (header ++ records_of contents) to.body place (omega (arith, length-append header (records_of contents), to.place_is))

pub read_closed : (contents : Contents) (bytes : List ℕ) (place : ℕ) → ReadsTo contents bytes place → StandsAt (drop place bytes) Closed → IsJournal contents bytes × (place ≡ end_of contents)
read_closed contents bytes place to (gate, more, closed, stands) =
    let body : to.body ≡ gate ∷ more = sym (at_place contents bytes place to) ∙ stands in (
      record { short = to.short; gate = gate; rest = more; closed = closed; is = to.is ∙ ap (λ (l : List ℕ). header ++ (records_of contents ++ l)) body },
      to.place_is,
    )

pub read_cut : (contents : Contents) (bytes : List ℕ) (place : ℕ) → ReadsTo contents bytes place → StandsCut (drop place bytes) → EndsShort contents bytes place
read_cut contents bytes place to (rest, stands, cut) =
    let body : to.body ≡ 1 ∷ rest = sym (at_place contents bytes place to) ∙ stands in
    record { short = to.short; rest = rest; is = to.is ∙ ap (λ (l : List ℕ). header ++ (records_of contents ++ l)) body; cut = cut; place_is = to.place_is }

-- One more record was read.
pub read_open : (contents : Contents) (bytes content more : List ℕ) (place count gate : ℕ) → ReadsTo contents bytes place → length content ≡ count → count < 2 ^ 32
    → drop place bytes ≡ 1 ∷ (framed content ++ gate ∷ more) → ReadsTo (contents ++ content ∷ []) bytes (place + (5 + count))
read_open contents bytes content more place count gate to size fits stands =
    let body : to.body ≡ record_of content ++ gate ∷ more = sym (at_place contents bytes place to) ∙ stands in
    record {
      short = All-append (λ c. length c < 2 ^ 32) contents (content ∷ []) to.short (All-cons (λ c. length c < 2 ^ 32) content [] (omega (arith, size)) (All-nil (λ c. length c < 2 ^ 32)));
      body = gate ∷ more;
      is =
          to.is ∙ ap (λ (l : List ℕ). header ++ (records_of contents ++ l)) body ∙ ap (λ (l : List ℕ). header ++ l) (sym (append_assoc (records_of contents) (record_of content) (gate ∷ more)))
          ∙ ap (λ (l : List ℕ). header ++ (l ++ gate ∷ more)) (sym (records_of-push contents content));
      some = omega arith;
      place_is = omega (arith, ap length (records_of-push contents content), length-append (records_of contents) (record_of content), length-record_of content, size, to.place_is);
    }

-- The content that stands behind an open gate, as it is read.
pub content_behind : (rest content more : List ℕ) (gate count : ℕ) → length content ≡ count → rest ≡ 1 ∷ (framed content ++ gate ∷ more) → take count (drop 5 rest) ≡ content
content_behind rest content more gate count size is =
    let number = big_endian 4 (length content) in
    let parts : rest ≡ (1 ∷ number) ++ (content ++ gate ∷ more) = is ∙ ap (λ (l : List ℕ). 1 ∷ l) (append_assoc number content (gate ∷ more)) in
    ap (λ (l : List ℕ). take count (drop 5 l)) parts ∙ ap (take count) (drop_at (1 ∷ number) (content ++ gate ∷ more) 5 (omega (arith, length-big_endian 4 (length content))))
    ∙ take_at content (gate ∷ more) count size

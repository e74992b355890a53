-- How the records of a group are found, one after another.
use Rattle.std.proofs.Common.{◌≡◌, ℕ, ◌+◌, ◌<◌, ◌≤◌, ◌^◌, List, [], ◌∷◌, ◌++◌, length, drop, arith, sym, ◌∙◌, ap, subst, length-append}
use Rattle.std.proofs.lemmas.List.{length-drop}
use Rattle.std.proofs.lemmas.List.Elements.{All-head}
use Rattle.pv_disk_model.specs.Size.{Contents}
use Rattle.pv_format.specs.Journal.{AreShort, framed, records_of}
use Rattle.pv_law_journal.proofs.SizeLemmas.{length-framed}
use Rattle.pv_host.proofs.GroupLemmas.{IsGroupSoFar, all-grouped, first-grouped, grouped-rest, none-behind, none-left, one-more-grouped, short-parts, some-behind}
use Rattle.pv_host.specs.HostLog.{behind_gate_of, group_of}
use Rattle.pv_host.specs.Waiting.{AreRecords}

-- What is read of a record's length.
abbrev pub ReadsLength : List ℕ → ℕ → Type 0
ReadsLength bytes n = (content more : List ℕ) → bytes ≡ framed content ++ more → length content < 2 ^ 32 → n ≡ 5 + length content

abbrev pub SoFar : ℕ → Contents → ℕ → ℕ → Type 0
SoFar room contents size count = (asked : Contents) × ((left : Contents) × IsGroupSoFar room contents size count asked left)

-- A group has so many bytes, and so many records.
abbrev pub HasSize : Contents → ℕ → ℕ → Type 0
HasSize group size count = (size ≡ length (records_of group)) × (count ≡ length group)

short-first : (first : List ℕ) (later : Contents) → AreShort (first ∷ later) → length first < 2 ^ 32
short-first first later shorts = All-head (λ (content : List ℕ). length content < 2 ^ 32) first later shorts

found-first : (first : List ℕ) (later : Contents) (records : List ℕ) (room n : ℕ) → AreRecords (first ∷ later) records → ReadsLength records n
    → (n ≤ length records) × SoFar room (first ∷ later) n 1
found-first first later records room n are reads =
    let size : n ≡ 5 + length first = reads first (records_of later ++ 0 ∷ []) are.are (short-first first later are.short) in
    let within : n ≤ length records =
    omega (arith, size, ap length are.are, length-append (framed first) (records_of later ++ 0 ∷ []), length-append (records_of later) (0 ∷ []), length-framed first) in
    (within, (first ∷ [], (later, subst (λ m. IsGroupSoFar room (first ∷ later) m 1 (first ∷ []) later) (sym size) (first-grouped room first later))))

pub first-found : (records : List ℕ) (room n : ℕ) (contents : Contents) → AreRecords contents records → 0 < length records → ReadsLength records n
    → (n ≤ length records) × SoFar room contents n 1
first-found records room n contents are some reads =
    let there = some-behind contents (omega (arith, some, ap length are.are)) in
    subst (λ (c : Contents). (n ≤ length records) × SoFar room c n 1) (sym there.1.1)
    (found-first there.0 there.1.0 records room n (subst (λ (c : Contents). AreRecords c records) there.1.1 are) reads)

module _ (records rest : List ℕ) (room size count : ℕ) (contents : Contents) (are : AreRecords contents records) (so_far : SoFar room contents size count)
    (rest_is : rest ≡ drop size records) (less : size < length records) where
  left : Contents
  left = so_far.1.0

  rest-are : rest ≡ behind_gate_of left
  unfolding left
  rest-are = rest_is ∙ ap (drop size) are.are ∙ grouped-rest room contents size count so_far.0 so_far.1.0 so_far.1.1

  some-left : (first : List ℕ) × ((later : Contents) × (left ≡ first ∷ later))
  some-left = some-behind left (omega (arith, less, ap length rest-are, ap length rest_is, length-drop size records))

  rest-first : rest ≡ framed some-left.0 ++ (records_of some-left.1.0 ++ 0 ∷ [])
  rest-first = rest-are ∙ ap behind_gate_of some-left.1.1

  short-left : length some-left.0 < 2 ^ 32
  unfolding left
  short-left =
      short-first some-left.0 some-left.1.0
      (subst AreShort some-left.1.1 (short-parts so_far.0 so_far.1.0 (subst AreShort so_far.1.1.all are.short)).1)

  pub next-long : 4 ≤ length rest
  next-long = omega (arith, ap length rest-first, length-append (framed some-left.0) (records_of some-left.1.0 ++ 0 ∷ []), length-framed some-left.0)

  module _ (n : ℕ) (reads : ReadsLength rest n) where
    read-is : n ≡ 5 + length some-left.0
    read-is = reads some-left.0 (records_of some-left.1.0 ++ 0 ∷ []) rest-first short-left

    pub stopped : room < size + n → HasSize (group_of room contents) size count
    unfolding left
    stopped over =
        let all = all-grouped room contents size count so_far.0 so_far.1.0 so_far.1.1 some-left.0 some-left.1.0 some-left.1.1 (omega (arith, over, read-is)) in
        (so_far.1.1.size_is ∙ ap (λ (l : Contents). length (records_of l)) (sym all.0), so_far.1.1.count_is ∙ ap length (sym all.0))

    pub goes-on : size + n ≤ room → (size < size + n) × ((size + n ≤ length records) × SoFar room contents (size + n) (count + 1))
    unfolding left
    goes-on fits =
        let more : IsGroupSoFar room contents (size + (5 + length some-left.0)) (count + 1) (so_far.0 ++ some-left.0 ∷ []) some-left.1.0 =
        one-more-grouped room contents size count so_far.0 so_far.1.0 so_far.1.1 some-left.0 some-left.1.0 some-left.1.1 (omega (arith, fits, read-is)) in
        let within : size + n ≤ length records =
        omega (
          arith,
          read-is,
          ap length rest-first,
          length-append (framed some-left.0) (records_of some-left.1.0 ++ 0 ∷ []),
          length-append (records_of some-left.1.0) (0 ∷ []),
          length-framed some-left.0,
          ap length rest_is,
          length-drop size records,
          less,
        ) in (
          omega (arith, read-is),
          (
            within,
            (so_far.0 ++ some-left.0 ∷ [], (some-left.1.0, subst (λ m. IsGroupSoFar room contents (size + m) (count + 1) (so_far.0 ++ some-left.0 ∷ []) some-left.1.0) (sym read-is) more)),
          ),
        )

pub ends-here : (records : List ℕ) (room size count : ℕ) (contents : Contents) → AreRecords contents records → SoFar room contents size count → length records ≤ size
    → HasSize (group_of room contents) size count
ends-here records room size count contents are so_far le =
    let rest : drop size records ≡ behind_gate_of so_far.1.0 = ap (drop size) are.are ∙ grouped-rest room contents size count so_far.0 so_far.1.0 so_far.1.1 in
    let none : so_far.1.0 ≡ [] = none-behind so_far.1.0 (omega (arith, ap length rest, length-drop size records, le)) in
    let all = none-left room contents size count so_far.0 so_far.1.0 so_far.1.1 none in
    (so_far.1.1.size_is ∙ ap (λ (l : Contents). length (records_of l)) (sym all.0), so_far.1.1.count_is ∙ ap length (sym all.0))

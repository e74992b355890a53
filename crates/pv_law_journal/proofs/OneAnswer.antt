-- Bytes are one journal, or show at one place that they are none.
use Rattle.std.specs.Prelude.{◌≡◌, ◌⊎◌, ℕ, ◌^◌, ◌<◌, List, [], ◌∷◌, ◌++◌, length, slice_index}
use Rattle.std.proofs.Common.{inl, inr, refl, sym, ◌∙◌, ap, arith, append_assoc, length-append, get_or-take}
use Rattle.std.proofs.lemmas.List.{append_cancel_left, get_or_append_left}
use Rattle.std.proofs.lemmas.List.Elements.{All-head, All-tail}
use Rattle.std.proofs.lemmas.Bool.{cases_lt}
use Rattle.pv_base.specs.Answer.{HasOneAnswer}
use Rattle.pv_base.specs.BigEndian.{big_endian}
use Rattle.pv_base.proofs.BigEndianLemmas.{big_endian-begins, append-same_length}
use Rattle.pv_disk_model.specs.Size.{Contents}
use Rattle.pv_format.specs.Journal.{header, framed, records_of, AreShort, IsJournal, end_of, HasNoHeader, IsCut, EndsShort, IsNotOurs}
use Rattle.pv_law_journal.proofs.Decided.{journal_or_not}

-- A gate and what follows it, with the first of these records, if there is one.
starts : (contents : Contents) (gate : ℕ) (rest : List ℕ) → (first : ℕ) × (more : List ℕ) × (records_of contents ++ gate ∷ rest ≡ first ∷ more)
starts [] gate rest = (gate, rest, refl)
starts (content ∷ contents) gate rest = (1, framed content ++ records_of contents ++ gate ∷ rest, refl)

-- Two ways to read one body: they are the same, or one of them ends at an open gate with a whole record after it.
abbrev Same : Contents → ℕ → List ℕ → Contents → ℕ → List ℕ → Type 0
Same a g r b h s = (a ≡ b) × (g ≡ h) × (r ≡ s)

abbrev GoesOn : ℕ → List ℕ → Type 0
GoesOn gate rest = (gate ≡ 1) × (IsCut rest → ⊥)

read_twice : (a b : Contents) (g h : ℕ) (r s : List ℕ) → AreShort a → AreShort b → records_of a ++ g ∷ r ≡ records_of b ++ h ∷ s → Same a g r b h s ⊎ GoesOn g r ⊎ GoesOn h s
read_twice [] [] g h r s short_a short_b is =
    let gates : g ≡ h = cc in
    let rests : r ≡ s = cc in
    inl (refl, gates, rests)
read_twice [] (y ∷ b) g h r s short_a short_b is =
    let opened : g ≡ 1 = cc in
    let rests : r ≡ framed y ++ records_of b ++ h ∷ s = cc in
    let next = starts b h s in
    inr (inl (
      opened,
      λ cut. cut y next.1 next.0 (All-head (λ c. length c < 2 ^ 32) y b short_b)
          (rests ∙ append_assoc (framed y) (records_of b) (h ∷ s) ∙ ap (λ (l : List ℕ). framed y ++ l) next.2),
    ))
read_twice (x ∷ a) [] g h r s short_a short_b is =
    let opened : h ≡ 1 = cc in
    let rests : s ≡ framed x ++ records_of a ++ g ∷ r = cc in
    let next = starts a g r in
    inr (inr (
      opened,
      λ cut. cut x next.1 next.0 (All-head (λ c. length c < 2 ^ 32) x a short_a)
          (rests ∙ append_assoc (framed x) (records_of a) (g ∷ r) ∙ ap (λ (l : List ℕ). framed x ++ l) next.2),
    ))
read_twice (x ∷ a) (y ∷ b) g h r s short_a short_b is =
    let tails : framed x ++ records_of a ++ g ∷ r ≡ framed y ++ records_of b ++ h ∷ s = cc in
    let short_x = All-head (λ c. length c < 2 ^ 32) x a short_a in
    let short_y = All-head (λ c. length c < 2 ^ 32) y b short_b in
    let left = append_assoc (framed x) (records_of a) (g ∷ r) ∙ append_assoc (big_endian 4 (length x)) x (records_of a ++ g ∷ r) in
    let right = append_assoc (framed y) (records_of b) (h ∷ s) ∙ append_assoc (big_endian 4 (length y)) y (records_of b ++ h ∷ s) in
    let numbers = big_endian-begins 4 (length x) (length y) (x ++ (records_of a ++ g ∷ r)) (y ++ (records_of b ++ h ∷ s)) short_x short_y (sym left ∙ tails ∙ right) in
    let contents = append-same_length x y (records_of a ++ g ∷ r) (records_of b ++ h ∷ s) numbers.0 numbers.1 in
    elim (read_twice a b g h r s (All-tail (λ c. length c < 2 ^ 32) x a short_a) (All-tail (λ c. length c < 2 ^ 32) y b short_b) contents.1) [
      | inl same ↦ inl ((λ i. contents.0 i ∷ same.0 i), same.1, same.2)
      | inr goes_on ↦ inr goes_on
    ]

pub same_contents : (a b : Contents) (bytes : List ℕ) → IsJournal a bytes → IsJournal b bytes → a ≡ b
same_contents a b bytes one two =
    let bodies = append_cancel_left header (records_of a ++ one.gate ∷ one.rest) (records_of b ++ two.gate ∷ two.rest) (sym one.is ∙ two.is) in
    elim (read_twice a b one.gate two.gate one.rest two.rest one.short two.short bodies) [
      | inl same ↦ same.0
      | inr (inl goes_on) ↦ absurd (one.closed goes_on.0)
      | inr (inr goes_on) ↦ absurd (two.closed goes_on.0)
    ]

journal_not_cut : (a b : Contents) (bytes : List ℕ) (place : ℕ) → IsJournal a bytes → EndsShort b bytes place → ⊥
journal_not_cut a b bytes place one two =
    let bodies = append_cancel_left header (records_of a ++ one.gate ∷ one.rest) (records_of b ++ 1 ∷ two.rest) (sym one.is ∙ two.is) in
    elim (read_twice a b one.gate 1 one.rest two.rest one.short two.short bodies) [
      | inl same ↦ one.closed same.1
      | inr (inl goes_on) ↦ one.closed goes_on.0
      | inr (inr goes_on) ↦ goes_on.1 two.cut
    ]

same_cut : (a b : Contents) (bytes : List ℕ) (place other : ℕ) → EndsShort a bytes place → EndsShort b bytes other → place ≡ other
same_cut a b bytes place other one two =
    let bodies = append_cancel_left header (records_of a ++ 1 ∷ one.rest) (records_of b ++ 1 ∷ two.rest) (sym one.is ∙ two.is) in
    elim (read_twice a b 1 1 one.rest two.rest one.short two.short bodies) [
      | inl same ↦ one.place_is ∙ ap end_of same.0 ∙ sym two.place_is
      | inr (inl goes_on) ↦ absurd (goes_on.1 one.cut)
      | inr (inr goes_on) ↦ absurd (goes_on.1 two.cut)
    ]

has_header : (contents : Contents) (gate : ℕ) (rest bytes : List ℕ) (place : ℕ) → bytes ≡ header ++ (records_of contents ++ gate ∷ rest) → HasNoHeader bytes place → ⊥
has_header contents gate rest bytes place is none =
    let next = starts contents gate rest in
    let split : bytes ≡ header ++ next.0 ∷ next.1 = is ∙ ap (λ (l : List ℕ). header ++ l) next.2 in
    elim none.wrong [
      | inl missing ↦ absurd (omega (arith, ap length split, missing, none.within, length-append header (next.0 ∷ next.1)))
      | inr (early, differs) ↦ differs (ap (λ (l : List ℕ). slice_index l place) split ∙ get_or_append_left header (next.0 ∷ next.1) 0 place early)
    ]

no_header_before : (bytes : List ℕ) (place other : ℕ) → HasNoHeader bytes place → HasNoHeader bytes other → place < other → ⊥
no_header_before bytes place other one two before = elim one.wrong [
  | inl missing ↦ absurd (omega (arith, missing, two.reached))
  | inr (early, differs) ↦
      differs (sym (get_or-take other bytes place 0 before) ∙ ap (λ (l : List ℕ). slice_index l place) two.before ∙ get_or-take other header place 0 before)
]

same_no_header : (bytes : List ℕ) (place other : ℕ) → HasNoHeader bytes place → HasNoHeader bytes other → place ≡ other
same_no_header bytes place other one two = elim (cases_lt place other) [
  | inl before ↦ absurd (no_header_before bytes place other one two before)
  | inr not_before ↦ elim (cases_lt other place) [
    | inl behind ↦ absurd (no_header_before bytes other place two one behind)
    | inr neither ↦ omega arith
  ]
]

same_place : (bytes : List ℕ) (place other : ℕ) → IsNotOurs bytes place → IsNotOurs bytes other → place ≡ other
same_place bytes place other (inl one) (inl two) = same_no_header bytes place other one two
same_place bytes place other (inl one) (inr (b, two)) = absurd (has_header b 1 two.rest bytes place two.is one)
same_place bytes place other (inr (a, one)) (inl two) = absurd (has_header a 1 one.rest bytes other one.is two)
same_place bytes place other (inr (a, one)) (inr (b, two)) = same_cut a b bytes place other one two

pub not_both : (contents : Contents) (bytes : List ℕ) (place : ℕ) → IsJournal contents bytes → IsNotOurs bytes place → ⊥
not_both contents bytes place one (inl two) = has_header contents one.gate one.rest bytes place one.is two
not_both contents bytes place one (inr (b, two)) = journal_not_cut contents b bytes place one two

-- Bytes have contents as a journal, or one place where it shows that they are none.
pub one_answer : (bytes : List ℕ) → HasOneAnswer (λ contents. IsJournal contents bytes) (IsNotOurs bytes)
one_answer bytes = record {
  some = journal_or_not bytes;
  one_value = λ a b one two. same_contents a b bytes one two;
  one_fault = same_place bytes;
  not_both = λ contents place one two. not_both contents bytes place one two;
}

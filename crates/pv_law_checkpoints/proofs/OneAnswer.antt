-- Bytes are one log in two areas, or show at one place that they are none.
use Rattle.std.proofs.Common.{◌≡◌, ◌≢◌, ◌⊎◌, inl, inr, ℕ, zero, suc, ◌+◌, ◌<◌, ◌≤◌, List, [], ◌∷◌, ◌++◌, length, take, drop, slice_index, arith, refl, sym, ◌∙◌, ap, subst, length-take, length-drop, get_or-take}
use Rattle.std.proofs.lemmas.Bool.{cases_eq, cases_lt}
use Rattle.std.proofs.lemmas.List.{take_more}
use Rattle.pv_base.specs.Answer.{HasOneAnswer}
use Rattle.pv_disk_model.specs.Size.{Contents}
use Rattle.pv_format.specs.Journal.{header, records_of, AreShort, IsCut, IsJournal, EndsShort, end_of}
use Rattle.pv_law_journal.proofs.Bodies.{body_of}
use Rattle.pv_law_journal.proofs.OneAnswer.{same_contents, not_both, one_answer}
use Rattle.pv_law_checkpoints.specs.Roots.{start, gate_at, place_at, size_at, IsInForce}
use Rattle.pv_law_checkpoints.specs.TwoAreas.{greatest_place, Starts, HasBlock, behind_block, IsLog, end_at, IsTwoAreas, HasOtherStart, HasNoRoots, HasNoOpenRoot, HasNoBlock, EndsCut, IsNotOurs}
use Rattle.pv_law_checkpoints.proofs.Blocks.{block_or_none, same_block}
use Rattle.pv_law_checkpoints.proofs.RootLemmas.{one_in_force, in_force_or_none}

-- What comes behind a block is what comes behind the header of a journal.
journal_of : (contents : Contents) (gate : ℕ) (rest body : List ℕ) → AreShort contents → gate ≢ 1 → body ≡ records_of contents ++ gate ∷ rest → IsJournal contents (header ++ body)
journal_of contents gate rest body short closed is =
    record { short = short; gate = gate; rest = rest; closed = closed; is = ap (λ (l : List ℕ). header ++ l) is }

cut_journal : (contents : Contents) (rest body : List ℕ) → AreShort contents → IsCut rest → body ≡ records_of contents ++ 1 ∷ rest → EndsShort contents (header ++ body) (end_of contents)
cut_journal contents rest body short cut is =
    record { short = short; rest = rest; is = ap (λ (l : List ℕ). header ++ l) is; cut = cut; place_is = refl }

pub journal_in : (at : ℕ) (packed later : Contents) (bytes : List ℕ) → IsLog at packed later bytes → IsJournal later (header ++ behind_block bytes at)
journal_in at packed later bytes log = journal_of later log.gate log.rest (behind_block bytes at) log.short log.closed log.is

cut_in : (bytes : List ℕ) (place : ℕ) (cut : EndsCut bytes place) → EndsShort cut.later (header ++ behind_block bytes cut.at) (end_of cut.later)
cut_in bytes place cut = cut_journal cut.later cut.rest (behind_block bytes cut.at) cut.short cut.cut cut.is

-- The block of a root has one list of contents.
pub one_block : (bytes : List ℕ) (at : ℕ) (a b : Contents) → HasBlock bytes at a → HasBlock bytes at b → a ≡ b
one_block bytes at a b one two = same_block a b one.short two.short (sym one.is ∙ two.is)

-- With the root in force and the contents, the parts of a log are known.
pub same_log : (at other : ℕ) (packed later packed_too later_too : Contents) (bytes : List ℕ) → IsLog at packed later bytes → IsLog other packed_too later_too bytes
    → (at ≡ other) × (packed ≡ packed_too) × (later ≡ later_too)
same_log at other packed later packed_too later_too bytes one two =
    let roots = one_in_force bytes at other one.in_force two.in_force in
    let moved = subst (λ a. IsLog a packed_too later_too bytes) (sym roots) two in (
      roots,
      one_block bytes at packed packed_too one.block moved.block,
      same_contents later later_too (header ++ behind_block bytes at) (journal_in at packed later bytes one) (journal_in at packed_too later_too bytes moved),
    )

pub one_contents : (a b : Contents) (bytes : List ℕ) → IsTwoAreas a bytes → IsTwoAreas b bytes → a ≡ b
one_contents a b bytes one two =
    let same = same_log one.at two.at one.packed one.later two.packed two.later bytes one.log two.log in
    one.is ∙ (λ i. same.1 i ++ same.2 i) ∙ sym two.is

-- A start that is wrong at one place isn't right, and isn't wrong first at another.
wrong_start : (bytes : List ℕ) (place : ℕ) → HasOtherStart bytes place → take 8 bytes ≡ start → ⊥
wrong_start bytes place other begins = elim other.wrong [
  | inl missing ↦ absurd (omega (arith, ap length begins, length-take 8 bytes, missing, other.within))
  | inr differs ↦ differs (sym (get_or-take 8 bytes place 0 other.within) ∙ ap (λ (l : List ℕ). slice_index l place) begins)
]

wrong_before : (bytes : List ℕ) (place other : ℕ) → HasOtherStart bytes place → HasOtherStart bytes other → place < other → ⊥
wrong_before bytes place other one two before = elim one.wrong [
  | inl missing ↦ absurd (omega (arith, missing, two.reached))
  | inr differs ↦ differs (sym (get_or-take other bytes place 0 before) ∙ ap (λ (l : List ℕ). slice_index l place) two.before ∙ get_or-take other start place 0 before)
]

one_wrong : (bytes : List ℕ) (place other : ℕ) → HasOtherStart bytes place → HasOtherStart bytes other → place ≡ other
one_wrong bytes place other one two = elim (cases_lt place other) [
  | inl before ↦ absurd (wrong_before bytes place other one two before)
  | inr not_before ↦ elim (cases_lt other place) [
    | inl behind ↦ absurd (wrong_before bytes other place two one behind)
    | inr neither ↦ omega arith
  ]
]

-- The first so many bytes are as they are to be, or one before is the first that isn't.
start_to : (bytes : List ℕ) (count : ℕ) → count ≤ 8 → ((take count bytes ≡ take count start) × (count ≤ length bytes)) ⊎ ((place : ℕ) × HasOtherStart bytes place)
start_to bytes zero le = inl (refl, omega arith)
start_to bytes (suc count) le = elim (start_to bytes count (omega arith)) [
  | inr wrong ↦ inr wrong
  | inl right ↦ elim (cases_lt count (length bytes)) [
    | inr few ↦ inr (count, record { within = omega arith; before = right.0; reached = right.1; wrong = inl (omega (arith, few, right.1)) })
    | inl long ↦ elim (cases_eq (slice_index bytes count) (slice_index start count)) [
      | inr differ ↦ inr (count, record { within = omega arith; before = right.0; reached = right.1; wrong = inr differ })
      | inl same ↦ inl (
        (let next : suc count ≡ count + 1 = omega arith in
            ap (λ n. take n bytes) next ∙ take_more bytes count 0 long ∙ (λ i. right.0 i ++ same i ∷ []) ∙ sym (take_more start count 0 (omega arith)) ∙ ap (λ n. take n start) (sym next)),
        omega (arith, long),
      )
    ]
  ]
]

-- The block of the root at this place has some contents, or there is none.
block_or_not : (bytes : List ℕ) (at : ℕ) → ((packed : Contents) × HasBlock bytes at packed) ⊎ ((packed : Contents) → HasBlock bytes at packed → ⊥)
block_or_not bytes at = elim (cases_lt (place_at bytes at) 58) [
  | inl early ↦ inr (λ packed block. absurd (omega (arith, early, block.behind_roots)))
  | inr behind ↦ elim (cases_lt greatest_place (place_at bytes at)) [
    | inl far ↦ inr (λ packed block. absurd (omega (arith, far, block.in_range)))
    | inr in_range ↦ elim (cases_lt (place_at bytes at + size_at bytes at) (length bytes)) [
      | inr past ↦ inr (λ packed block. absurd (omega (arith, past, block.ends)))
      | inl ends ↦ elim (block_or_none (take (size_at bytes at) (drop (place_at bytes at) bytes))) [
        | inl found ↦ inl (found.0, record { behind_roots = behind; in_range = in_range; ends = ends; short = found.1.0; is = found.1.1 })
        | inr none ↦ inr (λ packed block. none packed (block.short, block.is))
      ]
    ]
  ]
]

abbrev LogOrNot : List ℕ → Type 0
LogOrNot bytes = ((contents : Contents) × IsTwoAreas contents bytes) ⊎ ((place : ℕ) × IsNotOurs bytes place)

-- Behind the block of the root in force.
behind_or_not : (bytes : List ℕ) (at : ℕ) (packed : Contents) → Starts bytes → IsInForce bytes at → HasBlock bytes at packed → LogOrNot bytes
behind_or_not bytes at packed starts in_force block =
    let body = behind_block bytes at in
    elim (body_of (length body) body (omega (arith, block.ends, length-drop (place_at bytes at + size_at bytes at) bytes)) (omega arith)) [
      | inl (later, ok) ↦ inl (
        packed ++ later,
        record {
          at = at;
          packed = packed;
          later = later;
          log = record { starts = starts; in_force = in_force; block = block; short = ok.short; gate = ok.gate; rest = ok.rest; closed = ok.closed; is = ok.is };
          is = refl;
        },
      )
      | inr (later, cut) ↦ inr (
        end_at bytes at later,
        inr (inr (inr (inr (record {
          starts = starts;
          at = at;
          in_force = in_force;
          packed = packed;
          block = block;
          later = later;
          short = cut.short;
          rest = cut.rest;
          is = cut.is;
          cut = cut.cut;
          place_is = refl;
        })))),
      )
    ]

-- Bytes are a log in two areas, or they are none, and it shows.
pub log_or_not : (bytes : List ℕ) → LogOrNot bytes
log_or_not bytes = elim (start_to bytes 8 (omega arith)) [
  | inr wrong ↦ inr (wrong.0, inl wrong.1)
  | inl right ↦ elim (cases_lt (length bytes) 59) [
    | inl few ↦ inr (length bytes, inr (inl (record { begins = right.0; few = few; place_is = refl })))
    | inr long ↦
        let starts : Starts bytes = record { begins = right.0; long = long } in
        elim (in_force_or_none bytes) [
          | inr shut ↦ inr (8, inr (inr (inl (record { starts = starts; first = shut.0; second = shut.1; place_is = refl }))))
          | inl found ↦ elim (block_or_not bytes found.0) [
            | inr none ↦ inr (found.0, inr (inr (inr (inl (record { starts = starts; at = found.0; in_force = found.1; none = none; place_is = refl })))))
            | inl block ↦ behind_or_not bytes found.0 block.0 starts found.1 block.1
          ]
        ]
  ]
]

-- What a root that is in force excludes.
some_open : (bytes : List ℕ) (at place : ℕ) → IsInForce bytes at → HasNoOpenRoot bytes place → ⊥
some_open bytes at place in_force none = elim in_force.root [
  | inl first ↦ none.first (ap (λ a. gate_at bytes a) (sym first) ∙ in_force.opened)
  | inr second ↦ none.second (ap (λ a. gate_at bytes a) (sym second) ∙ in_force.opened)
]

no_block_here : (bytes : List ℕ) (at place : ℕ) (packed : Contents) → IsInForce bytes at → HasBlock bytes at packed → HasNoBlock bytes place → ⊥
no_block_here bytes at place packed in_force block none =
    none.none packed (subst (λ a. HasBlock bytes a packed) (one_in_force bytes at none.at in_force none.in_force) block)

abbrev IsBad : List ℕ → ℕ → Type 0
IsBad bytes place = HasNoBlock bytes place ⊎ EndsCut bytes place

abbrev IsClosedOrBad : List ℕ → ℕ → Type 0
IsClosedOrBad bytes place = HasNoOpenRoot bytes place ⊎ IsBad bytes place

abbrev IsShortOrBad : List ℕ → ℕ → Type 0
IsShortOrBad bytes place = HasNoRoots bytes place ⊎ IsClosedOrBad bytes place

in_force_of : (bytes : List ℕ) (place : ℕ) → IsBad bytes place → (at : ℕ) × IsInForce bytes at
in_force_of bytes place (inl none) = (none.at, none.in_force)
in_force_of bytes place (inr cut) = (cut.at, cut.in_force)

starts_of : (bytes : List ℕ) (place : ℕ) → IsClosedOrBad bytes place → Starts bytes
starts_of bytes place (inl none) = none.starts
starts_of bytes place (inr (inl none)) = none.starts
starts_of bytes place (inr (inr cut)) = cut.starts

begins_of : (bytes : List ℕ) (place : ℕ) → IsShortOrBad bytes place → take 8 bytes ≡ start
begins_of bytes place (inl none) = none.begins
begins_of bytes place (inr some) = (starts_of bytes place some).begins

too_short : (bytes : List ℕ) (place : ℕ) → HasNoRoots bytes place → Starts bytes → ⊥
too_short bytes place none starts = omega (arith, none.few, starts.long)

-- Where two cuts are, as in a journal.
same_cut : (bytes : List ℕ) (place other : ℕ) → EndsCut bytes place → EndsCut bytes other → place ≡ other
same_cut bytes place other one two =
    let roots = one_in_force bytes one.at two.at one.in_force two.in_force in
    let body = behind_block bytes one.at in
    let first = cut_in bytes place one in
    let second = cut_journal two.later two.rest body two.short two.cut (ap (λ a. behind_block bytes a) roots ∙ two.is) in
    let ends : end_of one.later ≡ end_of two.later = (one_answer (header ++ body)).one_fault (end_of one.later) (end_of two.later) (inr (one.later, first)) (inr (two.later, second)) in
    let starts : place_at bytes one.at + size_at bytes one.at ≡ place_at bytes two.at + size_at bytes two.at = ap (λ a. place_at bytes a + size_at bytes a) roots in
    omega (arith, one.place_is, two.place_is, ends, starts)

same_bad : (bytes : List ℕ) (place other : ℕ) → IsBad bytes place → IsBad bytes other → place ≡ other
same_bad bytes place other (inl one) (inl two) = one.place_is ∙ one_in_force bytes one.at two.at one.in_force two.in_force ∙ sym two.place_is
same_bad bytes place other (inl one) (inr two) = absurd (no_block_here bytes two.at place two.packed two.in_force two.block one)
same_bad bytes place other (inr one) (inl two) = absurd (no_block_here bytes one.at other one.packed one.in_force one.block two)
same_bad bytes place other (inr one) (inr two) = same_cut bytes place other one two

same_closed : (bytes : List ℕ) (place other : ℕ) → IsClosedOrBad bytes place → IsClosedOrBad bytes other → place ≡ other
same_closed bytes place other (inl one) (inl two) = one.place_is ∙ sym two.place_is
same_closed bytes place other (inl one) (inr two) = let found = in_force_of bytes other two in absurd (some_open bytes found.0 place found.1 one)
same_closed bytes place other (inr one) (inl two) = let found = in_force_of bytes place one in absurd (some_open bytes found.0 other found.1 two)
same_closed bytes place other (inr one) (inr two) = same_bad bytes place other one two

same_short : (bytes : List ℕ) (place other : ℕ) → IsShortOrBad bytes place → IsShortOrBad bytes other → place ≡ other
same_short bytes place other (inl one) (inl two) = one.place_is ∙ sym two.place_is
same_short bytes place other (inl one) (inr two) = absurd (too_short bytes place one (starts_of bytes other two))
same_short bytes place other (inr one) (inl two) = absurd (too_short bytes other two (starts_of bytes place one))
same_short bytes place other (inr one) (inr two) = same_closed bytes place other one two

same_place : (bytes : List ℕ) (place other : ℕ) → IsNotOurs bytes place → IsNotOurs bytes other → place ≡ other
same_place bytes place other (inl one) (inl two) = one_wrong bytes place other one two
same_place bytes place other (inl one) (inr two) = absurd (wrong_start bytes place one (begins_of bytes other two))
same_place bytes place other (inr one) (inl two) = absurd (wrong_start bytes other two (begins_of bytes place one))
same_place bytes place other (inr one) (inr two) = same_short bytes place other one two

log_not_cut : (at : ℕ) (packed later : Contents) (bytes : List ℕ) (place : ℕ) → IsLog at packed later bytes → EndsCut bytes place → ⊥
log_not_cut at packed later bytes place log cut =
    let body = behind_block bytes at in
    let moved = cut_journal cut.later cut.rest body cut.short cut.cut (ap (λ a. behind_block bytes a) (one_in_force bytes at cut.at log.in_force cut.in_force) ∙ cut.is) in
    not_both later (header ++ body) (end_of cut.later) (journal_in at packed later bytes log) (inr (cut.later, moved))

pub log_not_none : (at : ℕ) (packed later : Contents) (bytes : List ℕ) (place : ℕ) → IsLog at packed later bytes → IsNotOurs bytes place → ⊥
log_not_none at packed later bytes place log (inl other) = wrong_start bytes place other log.starts.begins
log_not_none at packed later bytes place log (inr (inl none)) = too_short bytes place none log.starts
log_not_none at packed later bytes place log (inr (inr (inl none))) = some_open bytes at place log.in_force none
log_not_none at packed later bytes place log (inr (inr (inr (inl none)))) = no_block_here bytes at place packed log.in_force log.block none
log_not_none at packed later bytes place log (inr (inr (inr (inr cut)))) = log_not_cut at packed later bytes place log cut

-- Bytes have contents as a log in two areas, or one place where it shows that they are none.
pub one_log : (bytes : List ℕ) → HasOneAnswer (λ contents. IsTwoAreas contents bytes) (IsNotOurs bytes)
one_log bytes = record {
  some = log_or_not bytes;
  one_value = λ a b one two. one_contents a b bytes one two;
  one_fault = same_place bytes;
  not_both = λ contents place one two. log_not_none one.at one.packed one.later bytes place one.log two;
}

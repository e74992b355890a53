-- What the lines of a text are, taken off one by one.
use Rattle.std.proofs.Common.{◌≡◌, ◌∙◌, ℕ, ◌+◌, ◌<◌, ◌≤◌, Bool, true, false, List, [], ◌∷◌, ◌++◌, length, map, take, drop, get_or, eqb, cond, refl, sym, ap, arith, add-one, eqb-true}
use Rattle.std.specs.List.{slice_split, onto_first, All}
use Rattle.std.specs.Str.Lines.{strip_carriage_return}
use Rattle.std.proofs.lemmas.Bool.{false_from_ne_true}
use Rattle.std.proofs.lemmas.List.{take-append-drop, get_or-take, length-take-le}
use Rattle.std.proofs.lemmas.List.Elements.{All-from_get_or}
use Rattle.std.proofs.lemmas.List.Splits.{slice_split_none, slice_split_at}
use Rattle.std.proofs.Math.Dec.{eqb-suc-zero}
use Rattle.std.proofs.Math.Seq.{drop-cons}
use Rattle.memchr.specs.Find.{NoneBefore, Nowhere, Passes, is_byte}
use Rattle.pv_model.specs.Text.{lines, parts_that_are_lines}

abbrev pub is_feed : ℕ → Bool
is_feed b = eqb b 10

-- a split has a first part
abbrev pub Begins : List (List ℕ) → Type 0
Begins parts = (first : List ℕ) × (more : List (List ℕ)) × (parts ≡ first ∷ more)

Begins-cond : (b : ℕ) (yes : Bool) (parts : List (List ℕ)) → Begins parts → Begins (cond yes ([] ∷ parts) (onto_first b parts))
Begins-cond b true parts begins = ([], parts, refl)
Begins-cond b false parts begins = (b ∷ begins.0, begins.1, ap (onto_first b) begins.2)

pub Begins-slice_split : (text : List ℕ) → Begins (slice_split is_feed text)
Begins-slice_split [] = ([], [], refl)
Begins-slice_split (b ∷ bs) = Begins-cond b (is_feed b) (slice_split is_feed bs) (Begins-slice_split bs)

pub parts_that_are_lines-cons : (line : List ℕ) (parts : List (List ℕ)) → Begins parts → parts_that_are_lines (line ∷ parts) ≡ line ∷ parts_that_are_lines parts
parts_that_are_lines-cons line parts begins = rw (begins.2) refl

-- a line ends at the first line feed
lines-feed : (front after : List ℕ) → All (λ b. is_feed b ≡ false) front → lines (front ++ 10 ∷ after) ≡ strip_carriage_return front ∷ lines after
unfolding lines
lines-feed front after no_feed =
    ap (λ parts. map strip_carriage_return (parts_that_are_lines parts)) (slice_split_at is_feed front 10 after no_feed refl)
    ∙ ap (map strip_carriage_return) (parts_that_are_lines-cons front (slice_split is_feed after) (Begins-slice_split after))

All-nowhere : (text : List ℕ) (k : ℕ) → k ≤ length text → Nowhere (Passes (is_byte 10) text) 0 k → All (λ b. is_feed b ≡ false) (take k text)
All-nowhere text k within nowhere =
    All-from_get_or (λ b. is_feed b ≡ false) (take k text) 0 (λ i below.
    let here : i < k = omega (arith, length-take-le k text within) in
    rw (get_or-take k text i 0 here) (false_from_ne_true (is_feed (get_or text i 0)) (nowhere i (omega arith) here)))

-- a text whose first line feed is at k
pub lines-at : (text : List ℕ) (k : ℕ) → NoneBefore (Passes (is_byte 10) text) 0 (length text) k → Passes (is_byte 10) text k → lines text ≡ strip_carriage_return (take k text) ∷ lines (drop 1 (drop k text))
lines-at text k first passes =
    let within = first.high in
    let feed : get_or text k 0 ≡ 10 = eqb-true (get_or text k 0) 10 passes in
    let tail : drop k text ≡ 10 ∷ drop (k + 1) text = rw (add-one, drop-cons text k 0 within, feed) refl in
    let whole : text ≡ take k text ++ 10 ∷ drop (k + 1) text = sym (take-append-drop k text) ∙ ap (λ rest. take k text ++ rest) tail in
    ap lines whole
    ∙ lines-feed (take k text) (drop (k + 1) text) (All-nowhere text k (omega arith) first.before)
    ∙ ap (λ rest. strip_carriage_return (take k text) ∷ lines (drop 1 rest)) (sym tail)

pub parts_that_are_lines-some : (text : List ℕ) → 0 < length text → parts_that_are_lines (text ∷ []) ≡ text ∷ []
parts_that_are_lines-some [] some = absurd (omega arith)
parts_that_are_lines-some (b ∷ bs) some = rw (eqb-suc-zero (length bs)) refl

-- the last line needs no line feed
lines-last : (text : List ℕ) → 0 < length text → slice_split is_feed text ≡ text ∷ [] → lines text ≡ strip_carriage_return text ∷ lines []
unfolding lines
lines-last text some whole =
    rw whole (ap (map strip_carriage_return) (parts_that_are_lines-some text some))

-- nothing behind the last line feed is no line
pub lines-nil : (text : List ℕ) → length text ≡ 0 → lines text ≡ []
unfolding lines
lines-nil [] none = refl
lines-nil (b ∷ bs) some = absurd (omega arith)

All-feedless : (text : List ℕ) → Nowhere (Passes (is_byte 10) text) 0 (length text) → All (λ b. is_feed b ≡ false) text
All-feedless text nowhere =
    All-from_get_or (λ b. is_feed b ≡ false) text 0 (λ i within. false_from_ne_true (is_feed (get_or text i 0)) (nowhere i (omega arith) within))

-- a text without a line feed
pub lines-none : (text : List ℕ) → 0 < length text → Nowhere (Passes (is_byte 10) text) 0 (length text) → lines text ≡ strip_carriage_return text ∷ lines []
lines-none text some nowhere =
    lines-last text some (slice_split_none is_feed text (All-feedless text nowhere))

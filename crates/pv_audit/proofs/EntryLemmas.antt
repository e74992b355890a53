-- The entries of a text are numbered in their order.
use Rattle.std.proofs.Common.{◌≡◌, ◌⊎◌, ⊎_elim, ℕ, ◌+◌, ◌<◌, ◌≤◌, Bool, true, false, cond, List, [], ◌∷◌, ◌++◌, length, inl, inr, refl, sym, ap, subst, arith}
use Rattle.std.specs.Prelude.{take, drop}
use Rattle.std.specs.List.{Contains}
use Rattle.std.specs.Str.{bytes_eq}
use Rattle.std.proofs.lemmas.Slice.Eq.{bytes_eq-Decides}
use Rattle.std.proofs.lemmas.List.{nil_from_length}
use Rattle.std.proofs.lemmas.List.Elements.{Contains-append_right}
use Rattle.pv_audit.specs.Entries.{Entry, said, printed, prompt, counts, entries, entries_from, entry_of, plain}
use Rattle.pv_audit.proofs.CutLemmas.{same-head}
use Rattle.pv_base.proofs.ContainsLemmas.{Contains-nil, Contains-first, Contains-cases}
use Rattle.pv_model.specs.Text.{TextLine, lines}

-- No bytes are no lines.
pub lines-none : (text : List ℕ) → length text ≡ 0 → lines text ≡ []
unfolding lines
lines-none text none = ap lines (nil_from_length text none)

pub plain-append : (front behind : List (ℕ × Entry)) → plain (front ++ behind) ≡ plain front ++ plain behind
plain-append [] behind = refl
plain-append (x ∷ front) behind = ap (λ (l : List Entry). x.1 ∷ l) (plain-append front behind)

-- No number is less than the first.
from-first : (first : ℕ) (texts : List TextLine) (x : ℕ × Entry) → Contains (entries_from first texts) x → first ≤ x.0
from-first first [] x has = absurd (Contains-nil x has)
from-first first (text ∷ texts) x has = go (counts (entry_of text)) (λ behind. from-first (first + 1) texts x behind) has
  where
    go : (b : Bool) → (Contains (entries_from (first + 1) texts) x → first + 1 ≤ x.0)
        → Contains (cond b ((first, entry_of text) ∷ entries_from (first + 1) texts) (entries_from (first + 1) texts)) x → first ≤ x.0
    go true later here = ⊎_elim (λ (same : (first, entry_of text) ≡ x). let number : first ≡ x.0 = ap (λ (y : ℕ × Entry). y.0) same in omega (arith, number))
        (λ (behind : Contains (entries_from (first + 1) texts) x). let more = later behind in omega (arith, more))
        (Contains-cases (first, entry_of text) (entries_from (first + 1) texts) x here)
    go false later here = let more = later here in omega (arith, more)

-- Each number behind an entry is greater than its own.
later-from : (first : ℕ) (texts : List TextLine) (front : List (ℕ × Entry)) (x : ℕ × Entry) (behind : List (ℕ × Entry)) → entries_from first texts ≡ front ++ x ∷ behind
    → (y : ℕ × Entry) → Contains behind y → x.0 < y.0
later-from first [] [] x behind split y has = absurd (let never : ⊥ = cc in never)
later-from first [] (z ∷ front) x behind split y has = absurd (let never : ⊥ = cc in never)
later-from first (text ∷ texts) front x behind split y has =
    go (counts (entry_of text)) (λ front is. later-from (first + 1) texts front x behind is y has) front split
  where
    go : (b : Bool) → ((front : List (ℕ × Entry)) → entries_from (first + 1) texts ≡ front ++ x ∷ behind → x.0 < y.0) → (front : List (ℕ × Entry))
        → cond b ((first, entry_of text) ∷ entries_from (first + 1) texts) (entries_from (first + 1) texts) ≡ front ++ x ∷ behind → x.0 < y.0
    go true later [] is =
        let head : (first, entry_of text) ≡ x = same-head is in
        let tail : entries_from (first + 1) texts ≡ behind = cc in
        let number : first ≡ x.0 = ap (λ (z : ℕ × Entry). z.0) head in
        let more = from-first (first + 1) texts y (subst (λ (l : List (ℕ × Entry)). Contains l y) (sym tail) has) in
        omega (arith, number, more)
    go true later (z ∷ front) is = later front (let tail : entries_from (first + 1) texts ≡ front ++ x ∷ behind = cc in tail)
    go false later front is = later front is

pub later-entries : (text : List ℕ) (front : List (ℕ × Entry)) (x : ℕ × Entry) (behind : List (ℕ × Entry)) → entries text ≡ front ++ x ∷ behind
    → (y : ℕ × Entry) → Contains behind y → x.0 < y.0
unfolding entries
later-entries text front x behind split y has = later-from 1 (lines text) front x behind split y has

-- Of two ways to part a list at an element, one is before the other.
pub compare : {X : Type 0} (xs : List X) (x : X) (behind : List X) (ys : List X) (y : X) (after : List X) → xs ++ x ∷ behind ≡ ys ++ y ∷ after
    → ((between : List X) × (xs ≡ ys ++ y ∷ between) × (after ≡ between ++ x ∷ behind)) ⊎ ((x ≡ y) ⊎ Contains behind y)
compare [] x behind [] y after is = inr (inl (let head : x ≡ y = cc in head))
compare {X} [] x behind (z ∷ ys) y after is =
    let tail : behind ≡ ys ++ y ∷ after = cc in
    inr (inr (subst (λ (l : List X). Contains l y) (sym tail) (Contains-append_right ys (y ∷ after) y (Contains-first y after))))
compare (z ∷ xs) x behind [] y after is =
    let head : z ≡ y = cc in
    let tail : xs ++ x ∷ behind ≡ after = cc in
    inl (xs, (λ i. head i ∷ xs), sym tail)
compare {X} (z ∷ xs) x behind (w ∷ ys) y after is =
    let head : z ≡ w = cc in
    let tail : xs ++ x ∷ behind ≡ ys ++ y ∷ after = cc in
    ⊎_elim (λ before. inl (before.0, (λ i. head i ∷ before.1 i), before.2)) (λ later. inr later) (compare xs x behind ys y after tail)

-- ---- what a line is

pub said-entry : (line text : TextLine) → line ≡ 62 ∷ (32 ∷ text) → entry_of line ≡ said text
said-entry line text is = ap entry_of is

pub printed-entry : (line : TextLine) → ((text : TextLine) → line ≡ 62 ∷ (32 ∷ text) → ⊥) → entry_of line ≡ printed line
printed-entry line other = go (bytes_eq (take 2 line) prompt) refl
  where
    prompted : (line : TextLine) → ((text : TextLine) → line ≡ 62 ∷ (32 ∷ text) → ⊥) → take 2 line ≡ prompt → ⊥
    prompted [] other is = cc
    prompted (a ∷ []) other is = cc
    prompted (a ∷ b ∷ rest) other is =
        let first : a ≡ 62 = cc in
        let second : b ≡ 32 = cc in
        other rest (λ i. first i ∷ (second i ∷ rest))

    go : (b : Bool) → bytes_eq (take 2 line) prompt ≡ b → cond b (said (drop 2 line)) (printed line) ≡ printed line
    go true is = absurd (prompted line other ((bytes_eq-Decides (take 2 line) prompt).0 is))
    go false is = refl

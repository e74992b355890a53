-- Giving an item a value, row by row.
use Rattle.std.proofs.Common.{◌≡◌, ℕ, zero, suc, ◌<◌, ℤ, Bool, true, List, [], ◌∷◌, ◌++◌, take, drop, length, slice_index_or, slice_set, cond, ap, sym, subst, ◌∙◌, arith}
use Rattle.std.specs.Prelude.{◌==◌}
use Rattle.pv_model.specs.Meaning.{Row, with_row}

-- the row with another value
abbrev pub changed : Row → ℤ → Row
changed row v = record { item = row.item; value = v }

tested : (row : Row) (rows : List Row) (n : ℕ) (v : ℤ) (is : Bool) → (row.item == n) ≡ is
    → with_row (row ∷ rows) n v ≡ cond is (changed row v ∷ rows) (row ∷ with_row rows n v)
tested row rows n v is h = ap (λ (b : Bool). cond b (changed row v ∷ rows) (row ∷ with_row rows n v)) h

pub with_row-found : (rows : List Row) (i n : ℕ) (v : ℤ) (row : Row) → i < length rows → row ≡ slice_index_or rows i row → (row.item == n) ≡ true
    → take i rows ++ with_row (drop i rows) n v ≡ slice_set rows i (changed row v)
with_row-found [] i n v row within at is = absurd (omega arith)
with_row-found (r ∷ rows) zero n v row within at is =
    tested r rows n v true (subst (λ (x : Row). (x.item == n) ≡ true) at is) ∙ ap (λ (x : Row). changed x v ∷ rows) (sym at)
with_row-found (r ∷ rows) (suc i) n v row within at is =
    ap (λ (l : List Row). r ∷ l) (with_row-found rows i n v row (omega arith) at is)

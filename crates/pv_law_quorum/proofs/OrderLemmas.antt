-- The order of ballots whose deciders are bytes.
use Rattle.std.proofs.Common.{◌≡◌, ◌⊎◌, ⊎_elim, ℕ, zero, suc, ◌+◌, ◌*◌, ◌<◌, ◌≤◌, true, false, inl, inr, refl, ap, arith}
use Rattle.std.proofs.lemmas.Bool.{ltb-true, ltb-false, lt-ltb}
use Rattle.pv_law_quorum.specs.Ballot.{Ballot, rank, is_below}

-- Ballots of bytes with one rank are one ballot.
pub ranks-apart : (x y a b : ℕ) → a < 256 → b < 256 → 256 * x + a ≡ 256 * y + b → (x ≡ y) × (a ≡ b)
ranks-apart x y a b first second same = (omega (arith, first, second, same), omega (arith, first, second, same))

pub le-cases : (a b : ℕ) → a ≤ b → (a ≡ b) ⊎ (a < b)
le-cases zero zero h = inl refl
le-cases zero (suc b) h = inr (omega arith)
le-cases (suc a) zero h = absurd (omega (arith, h))
le-cases (suc a) (suc b) h = ⊎_elim (λ same. inl (ap suc same)) (λ less. inr (omega (arith, less))) (le-cases a b (omega (arith, h)))

pub le-either : (a b : ℕ) → (a ≤ b) ⊎ (b ≤ a)
le-either zero b = inl (omega arith)
le-either (suc a) zero = inr (omega arith)
le-either (suc a) (suc b) = ⊎_elim (λ h. inl (omega (arith, h))) (λ h. inr (omega (arith, h))) (le-either a b)

pub below-number : (ballot other : Ballot) → ballot.decider < 256 → other.decider < 256 → is_below ballot other ≡ true
    → (ballot.number < other.number) ⊎ ((ballot.number ≡ other.number) × (ballot.decider < other.decider))
below-number ballot other first second h =
    let less : rank ballot < rank other = ltb-true (rank ballot) (rank other) h in
    ⊎_elim
    (λ below. ⊎_elim (λ same. inr (same, omega (arith, less, same))) (λ under. inl under) (le-cases ballot.number other.number below))
    (λ above. ⊎_elim (λ same. inr (omega (arith, same), omega (arith, less, same))) (λ over. absurd (omega (arith, less, over, second)))
    (le-cases other.number ballot.number above))
    (le-either ballot.number other.number)

pub number-below : (ballot other : Ballot) → ballot.decider < 256 → other.decider < 256
    → (ballot.number < other.number) ⊎ ((ballot.number ≡ other.number) × (ballot.decider < other.decider)) → is_below ballot other ≡ true
number-below ballot other first second (inl less) = lt-ltb (rank ballot) (rank other) (omega (arith, less, first))
number-below ballot other first second (inr later) = lt-ltb (rank ballot) (rank other) (omega (arith, later.0, later.1))

pub neither-below : (ballot other : Ballot) → ballot.decider < 256 → other.decider < 256 → is_below ballot other ≡ false → is_below other ballot ≡ false → ballot ≡ other
neither-below ballot other first second one two =
    let least : rank other ≤ rank ballot = ltb-false (rank ballot) (rank other) one in
    let most : rank ballot ≤ rank other = ltb-false (rank other) (rank ballot) two in
    let parts = ranks-apart ballot.number other.number ballot.decider other.decider first second (omega (arith, least, most)) in
    (λ i. record { number = parts.0 i; decider = parts.1 i })

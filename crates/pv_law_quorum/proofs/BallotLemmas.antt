-- Ballots: the greater of two, and deciders that are counted.
use Rattle.std.proofs.Common.{◌≡◌, ◌⊎◌, ℕ, zero, suc, ◌+◌, ◌*◌, ◌<◌, ◌≤◌, Bool, true, false, Some, None, Option, inl, inr, refl, arith}
use Rattle.std.specs.Prelude.{if◌then◌else◌}
use Rattle.std.proofs.lemmas.Bool.{ltb-true, ltb-false, lt-ltb, false≢true}
use Rattle.pv_law_quorum.specs.Ballot.{Ballot, rank, is_below, is_passed, is_above, greater, number_of, is_majority}
use Rattle.pv_law_quorum.specs.Sound.{Reaches}

pub if-either : {X : Type 0} (P : X → Type 0) (b : Bool) (x y : X) → P x → P y → P (if b then x else y)
if-either P true x y one other = one
if-either P false x y one other = other

pub if-by : {X : Type 0} (P : X → Type 0) (b : Bool) (x y : X) → (b ≡ true → P x) → (b ≡ false → P y) → P (if b then x else y)
if-by P true x y one other = one refl
if-by P false x y one other = other refl

module _ {X : Type 0} (ballot_of : X → Ballot) where
  -- The greater is one of the two.
  pub greater-either : (P : Option X → Type 0) (one other : Option X) → P one → P other → P (greater ballot_of one other)
  greater-either P None other first second = second
  greater-either P (Some x) None first second = first
  greater-either P (Some x) (Some y) first second = if-either P (is_below (ballot_of x) (ballot_of y)) (Some y) (Some x) second first

  -- It reaches what either reaches.

  pub greater-first : (one other : Option X) (k : ℕ) → Reaches ballot_of one k → Reaches ballot_of (greater ballot_of one other) k
  greater-first None other k h = absurd h
  greater-first (Some x) None k h = h
  greater-first (Some x) (Some y) k h =
      if-by (λ (z : Option X). Reaches ballot_of z k) (is_below (ballot_of x) (ballot_of y)) (Some y) (Some x)
      (λ below. omega (arith, h, ltb-true (rank (ballot_of x)) (rank (ballot_of y)) below)) (λ above. h)

  pub greater-second : (one other : Option X) (k : ℕ) → Reaches ballot_of other k → Reaches ballot_of (greater ballot_of one other) k
  greater-second None other k h = h
  greater-second (Some x) None k h = absurd h
  greater-second (Some x) (Some y) k h =
      if-by (λ (z : Option X). Reaches ballot_of z k) (is_below (ballot_of x) (ballot_of y)) (Some y) (Some x)
      (λ below. h) (λ above. omega (arith, h, ltb-false (rank (ballot_of x)) (rank (ballot_of y)) above))

-- A ballot that is above another is above what that reaches; one that isn't passed isn't below it.

pub above-reached : (ballot : Ballot) (other : Option Ballot) (k : ℕ) → is_above ballot other ≡ true → Reaches (λ (b : Ballot). b) other k → k < rank ballot
above-reached ballot None k above h = absurd h
above-reached ballot (Some other) k above h = omega (arith, h, ltb-true (rank other) (rank ballot) above)

pub unpassed-reached : (ballot : Ballot) (other : Option Ballot) (k : ℕ) → is_passed ballot other ≡ false → Reaches (λ (b : Ballot). b) other k → k ≤ rank ballot
unpassed-reached ballot None k unpassed h = absurd h
unpassed-reached ballot (Some other) k unpassed h = omega (arith, h, ltb-false (rank ballot) (rank other) unpassed)

-- Deciders that are counted.

both-by : (n x y : ℕ) (a b : Bool) → suc n < ((if a then 1 else 0) + x) + ((if b then 1 else 0) + y) → ((a ≡ true) × (b ≡ true)) ⊎ (n < x + y)
both-by n x y true true h = inl (refl, refl)
both-by n x y true false h = inr (omega (arith, h))
both-by n x y false true h = inr (omega (arith, h))
both-by n x y false false h = inr (omega (arith, h))

number-both : (p q : ℕ → Bool) (n : ℕ) → n < number_of p n + number_of q n → (k : ℕ) × ((p k ≡ true) × (q k ≡ true))
number-both p q zero h = absurd (omega (arith, h))
number-both p q (suc n) h = by (both-by n (number_of p n) (number_of q n) (p n) (q n) h) (number-both p q n) where
  by : ((p n ≡ true) × (q n ≡ true)) ⊎ (n < number_of p n + number_of q n) → (n < number_of p n + number_of q n → (k : ℕ) × ((p k ≡ true) × (q k ≡ true)))
      → (k : ℕ) × ((p k ≡ true) × (q k ≡ true))
  by (inl both) below = (n, both)
  by (inr less) below = below less

-- Two majorities share a decider.
pub majorities-meet : (count : ℕ) (p q : ℕ → Bool) → is_majority count p ≡ true → is_majority count q ≡ true → (k : ℕ) × ((p k ≡ true) × (q k ≡ true))
majorities-meet count p q one other =
    number-both p q count
    (omega (arith, ltb-true count (2 * number_of p count) one, ltb-true count (2 * number_of q count) other))

more-by : (x y : ℕ) (a b : Bool) → (a ≡ true → b ≡ true) → x ≤ y → (if a then 1 else 0) + x ≤ (if b then 1 else 0) + y
more-by x y true true h below = omega (arith, below)
more-by x y true false h below = absurd (false≢true (h refl))
more-by x y false true h below = omega (arith, below)
more-by x y false false h below = omega (arith, below)

number-more : (p q : ℕ → Bool) → ((k : ℕ) → p k ≡ true → q k ≡ true) → (n : ℕ) → number_of p n ≤ number_of q n
number-more p q h zero = omega arith
number-more p q h (suc n) = more-by (number_of p n) (number_of q n) (p n) (q n) (h n) (number-more p q h n)

-- A test that more deciders pass passes for a majority too.
pub majority-more : (count : ℕ) (p q : ℕ → Bool) → ((k : ℕ) → p k ≡ true → q k ≡ true) → is_majority count p ≡ true → is_majority count q ≡ true
majority-more count p q h most =
    lt-ltb count (2 * number_of q count)
    (omega (arith, ltb-true count (2 * number_of p count) most, number-more p q h count))

-- The moments of a merge that is cut in two: their entries, their order, and the numbers of their messages.
use Rattle.std.proofs.Common.{◌≡◌, ◌≢◌, ℕ, ◌+◌, ◌<◌, Bool, true, false, ◌&&◌, ◌||◌, ◌==◌, if◌then◌else◌, List, [], ◌∷◌, ◌++◌, All, ne_eqb, eq-eqb, sym, refl, ap, ◌∙◌, subst, ⊎_elim, arith}
use Rattle.std.proofs.lemmas.List.Elements.{All-nil, All-cons, All-head, All-tail, All-weaker}
use Rattle.pv_law_histories.specs.History.{Stamped}
use Rattle.pv_law_histories.specs.Merge.{Moment, IsBefore, AreInOrder, entries_of, number_of}

-- ## Tests
if-same : {A : Type 0} (test : Bool) (x y z : A) → (test ≡ false → y ≡ z) → (if test then x else y) ≡ (if test then x else z)
if-same true x y z same = refl
if-same false x y z same = same refl

if-true : {A : Type 0} (test : Bool) (x y : A) → test ≡ true → (if test then x else y) ≡ x
if-true true x y is = refl
if-true false x y is = absurd cc

if-false : {A : Type 0} (test : Bool) (x y : A) → test ≡ false → (if test then x else y) ≡ y
if-false true x y is = absurd cc
if-false false x y is = refl

or-false : (a b : Bool) → (a || b) ≡ false → (a ≡ false) × (b ≡ false)
or-false true b is = absurd cc
or-false false b is = (refl, is)

pub or-true : (a b : Bool) → b ≡ true → (a || b) ≡ true
or-true true b is = refl
or-true false b is = is

or-front : (test a b : Bool) → (a ≡ true → b ≡ true) → (test || a) ≡ true → (test || b) ≡ true
or-front true a b goes is = refl
or-front false a b goes is = goes is

and-false : (a b : Bool) → b ≡ false → (a && b) ≡ false
and-false true b is = is
and-false false b is = refl

-- What holds of all elements holds of one among them.
pub All-middle : {A : Type 0} (P : A → Type 0) (xs : List A) (x : A) (ys : List A) → All P (xs ++ x ∷ ys) → P x
All-middle P [] x ys all = All-head P x ys all
All-middle P (first ∷ xs) x ys all = All-middle P xs x ys (All-tail P first (xs ++ x ∷ ys) all)

-- ## The entries of a site
pub entries-same : (n : ℕ) (moment : Moment) (moments : List Moment) → moment.site ≡ n
    → entries_of n (moment ∷ moments) ≡ moment.entry ∷ entries_of n moments
entries-same n moment moments same =
    if-true (moment.site == n) (moment.entry ∷ entries_of n moments) (entries_of n moments) (eq-eqb moment.site n same)

pub entries-apart : (n : ℕ) (moment : Moment) (moments : List Moment) → moment.site ≢ n → entries_of n (moment ∷ moments) ≡ entries_of n moments
entries-apart n moment moments apart =
    if-false (moment.site == n) (moment.entry ∷ entries_of n moments) (entries_of n moments) (ne_eqb moment.site n apart)

if-append : {A : Type 0} (test : Bool) (x : A) (xs ys : List A) → (if test then x ∷ xs else xs) ++ ys ≡ (if test then x ∷ (xs ++ ys) else xs ++ ys)
if-append true x xs ys = refl
if-append false x xs ys = refl

pub entries-append : (n : ℕ) (moments more : List Moment) → entries_of n (moments ++ more) ≡ entries_of n moments ++ entries_of n more
entries-append n [] more = refl
entries-append n (moment ∷ moments) more =
    ap (λ (rest : List Stamped). if moment.site == n then moment.entry ∷ rest else rest) (entries-append n moments more)
    ∙ sym (if-append (moment.site == n) moment.entry (entries_of n moments) (entries_of n more))

if-all : {A : Type 0} (P : A → Type 0) (test : Bool) (x : A) (xs : List A) → P x → All P xs → All P (if test then x ∷ xs else xs)
if-all P true x xs here rest = All-cons P x xs here rest
if-all P false x xs here rest = rest

pub entries-later : (n stamp : ℕ) (moments : List Moment) → All (λ moment. stamp < moment.entry.stamp) moments
    → All (λ entry. stamp < entry.stamp) (entries_of n moments)
entries-later n stamp [] later = All-nil (λ (entry : Stamped). stamp < entry.stamp)
entries-later n stamp (moment ∷ moments) later =
    if-all (λ (entry : Stamped). stamp < entry.stamp) (moment.site == n) moment.entry (entries_of n moments)
    (All-head (λ (m : Moment). stamp < m.entry.stamp) moment moments later)
    (entries-later n stamp moments (All-tail (λ (m : Moment). stamp < m.entry.stamp) moment moments later))

-- ## Their order
-- Those in front are before one.
pub order-before : (moments : List Moment) (moment : Moment) (more : List Moment) → AreInOrder (moments ++ moment ∷ more) → All (λ first. IsBefore first moment) moments
order-before [] moment more order = All-nil (λ (first : Moment). IsBefore first moment)
order-before (first ∷ moments) moment more order =
    All-cons (λ (m : Moment). IsBefore m moment) first moments (All-middle (IsBefore first) moments moment more order.0) (order-before moments moment more order.1)

pub order-rest : (moments more : List Moment) → AreInOrder (moments ++ more) → AreInOrder more
order-rest [] more order = order
order-rest (first ∷ moments) more order = order-rest moments more order.1

-- Those behind a moment have no lesser stamp.
pub order-later : (moment : Moment) (more : List Moment) (stamp : ℕ) → AreInOrder (moment ∷ more) → stamp < moment.entry.stamp
    → All (λ later. stamp < later.entry.stamp) (moment ∷ more)
order-later moment more stamp order less =
    All-cons (λ (later : Moment). stamp < later.entry.stamp) moment more less
    (All-weaker (IsBefore moment) (λ (later : Moment). stamp < later.entry.stamp)
    (λ later before. ⊎_elim (λ above. omega arith) (λ same. let stamps = same.0 in omega arith) before) more order.0)

-- ## The numbers of messages
-- how many messages the moments have sent
abbrev pub total : List Moment → ℕ
total [] = 0
total (moment ∷ moments) = moment.entry.sends + total moments

abbrev pub is_of : (site stamp : ℕ) → Moment → Bool
is_of site stamp moment = moment.site == site && moment.entry.stamp == stamp

-- Whether one of the moments is of this site and has this stamp.
abbrev pub has : (site stamp : ℕ) → List Moment → Bool
has site stamp [] = false
has site stamp (moment ∷ moments) = is_of site stamp moment || has site stamp moments

pub total-append : (moments more : List Moment) → total (moments ++ more) ≡ total moments + total more
total-append [] more = omega arith
total-append (moment ∷ moments) more = let rest = total-append moments more in omega arith

pub has-front : (site stamp : ℕ) (moments more : List Moment) → has site stamp moments ≡ true → has site stamp (moments ++ more) ≡ true
has-front site stamp [] more is = absurd cc
has-front site stamp (moment ∷ moments) more is =
    or-front (is_of site stamp moment) (has site stamp moments) (has site stamp (moments ++ more)) (has-front site stamp moments more) is

pub has-last : (site stamp : ℕ) (moments : List Moment) (moment : Moment) → is_of site stamp moment ≡ true → has site stamp (moments ++ moment ∷ []) ≡ true
has-last site stamp [] moment is = ap (λ (test : Bool). test || false) is
has-last site stamp (first ∷ moments) moment is = or-true (is_of site stamp first) (has site stamp (moments ++ moment ∷ [])) (has-last site stamp moments moment is)

pub number-front : (site stamp place : ℕ) (moments more : List Moment) → has site stamp moments ≡ true
    → number_of (moments ++ more) site stamp place ≡ number_of moments site stamp place
number-front site stamp place [] more is = absurd cc
number-front site stamp place (moment ∷ moments) more is =
    if-same (is_of site stamp moment) place (moment.entry.sends + number_of (moments ++ more) site stamp place)
    (moment.entry.sends + number_of moments site stamp place)
    (λ other. ap (λ (n : ℕ). moment.entry.sends + n)
    (number-front site stamp place moments more (subst (λ (test : Bool). (test || has site stamp moments) ≡ true) other is)))

pub number-back : (site stamp place : ℕ) (moments more : List Moment) → has site stamp moments ≡ false
    → number_of (moments ++ more) site stamp place ≡ total moments + number_of more site stamp place
number-back site stamp place [] more is = omega arith
number-back site stamp place (moment ∷ moments) more is =
    let tests = or-false (is_of site stamp moment) (has site stamp moments) is in
    let rest = number-back site stamp place moments more tests.1 in
    if-false (is_of site stamp moment) place (moment.entry.sends + number_of (moments ++ more) site stamp place) tests.0 ∙ omega arith

pub number-here : (site stamp place : ℕ) (moment : Moment) (more : List Moment) → is_of site stamp moment ≡ true
    → number_of (moment ∷ more) site stamp place ≡ place
number-here site stamp place moment more is = if-true (is_of site stamp moment) place (moment.entry.sends + number_of more site stamp place) is

-- No moment before another one is of its site and has its stamp.
pub before-other : (first moment : Moment) → IsBefore first moment → is_of moment.site moment.entry.stamp first ≡ false
before-other first moment before =
    ⊎_elim (λ less. and-false (first.site == moment.site) (first.entry.stamp == moment.entry.stamp) (ne_eqb first.entry.stamp moment.entry.stamp (λ same. absurd (omega arith))))
    (λ same. ap (λ (test : Bool). test && (first.entry.stamp == moment.entry.stamp))
    (ne_eqb first.site moment.site (λ one. let less = same.1 in absurd (omega arith))))
    before

pub before-none : (moments : List Moment) (moment : Moment) → All (λ first. IsBefore first moment) moments → has moment.site moment.entry.stamp moments ≡ false
before-none [] moment before = refl
before-none (first ∷ moments) moment before =
    ap (λ (test : Bool). test || has moment.site moment.entry.stamp moments)
    (before-other first moment (All-head (λ (m : Moment). IsBefore m moment) first moments before))
    ∙ before-none moments moment (All-tail (λ (m : Moment). IsBefore m moment) first moments before)

pub is_of-itself : (moment : Moment) → is_of moment.site moment.entry.stamp moment ≡ true
is_of-itself moment =
    ap (λ (test : Bool). test && (moment.entry.stamp == moment.entry.stamp)) (eq-eqb moment.site moment.site refl)
    ∙ eq-eqb moment.entry.stamp moment.entry.stamp refl

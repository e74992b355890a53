-- Sums under way: how a value is added to them, and how far from 0 they are.
use Rattle.std.proofs.Common.{◌≡◌, ℕ, zero, suc, ◌+◌, ◌^◌, ◌<◌, ◌≤◌, Bool, true, false, List, [], ◌∷◌, length, get_or, take, replicate, refl, sym, ap, ap₂, subst, ◌∙◌, arith, set, SFits, to_z, of_z, w64, below_more, get_or-set_same, get_or-set_other}
use Rattle.std.specs.Prelude.{ℤ, pos, ◌+ℤ◌, map, All, Option, Some, None, ◌++◌, if◌then◌else◌, unwrap_or}
use Rattle.std.specs.Int.{w128}
use Rattle.std.proofs.Math.IntN.{+ℤ_assoc, +ℤ_idl, +ℤ_idr}
use Rattle.std.proofs.lemmas.Int.{ints, to_z-of_z}
use Rattle.std.proofs.lemmas.List.{take_more, length-map}
use Rattle.std.proofs.lemmas.List.Elements.{All-weaker, All-nil, All-cons, All-head, All-tail}
use Rattle.pv_base.specs.declared.txn.TxnId.{TxnId}
use Rattle.pv_base.specs.Assignment.{assignments}
use Rattle.pv_base.specs.Polyvalue.{Case, meets, value_at, IsCanonical, AreValues}
use Rattle.pv_model.specs.Alternatives.{number_at}
use Rattle.pv_model.specs.PossibleAnswers.{sum_at}
use Rattle.pv_base.proofs.Basics.{Some_inj}
use Rattle.pv_base.proofs.MapLemmas.{map-map, map-constant, map-replicate}
use Rattle.pv_law_polyvalues.proofs.PolyvalueLemmas.{canonical-complete}
use Rattle.pv_law_polyvalues.proofs.TableLemmas.{length-assignments, length-values}
use Rattle.pv_query.specs.Sums.{added, IsWithin, AreWithin}
use Rattle.pv_query.specs.declared.adding.RunningSums.{RunningSums}

-- Lists added place by place.

added-map : {X : Type 0} (f g : X → ℤ) (xs : List X) → added (map f xs) (map g xs) ≡ map (λ x. f x +ℤ g x) xs
added-map f g [] = refl
added-map f g (x ∷ xs) = ap (λ zs. (f x +ℤ g x) ∷ zs) (added-map f g xs)

-- What is added to each place of one part is added to the whole.
pub added-each : (n : ℤ) (numbers others : List ℤ) → map (λ z. n +ℤ z) (added numbers others) ≡ added (map (λ z. n +ℤ z) numbers) others
added-each n [] others = refl
added-each n (x ∷ xs) [] = refl
added-each n (x ∷ xs) (y ∷ ys) = ap₂ (λ (z : ℤ) (zs : List ℤ). z ∷ zs) (sym (+ℤ_assoc n x y)) (added-each n xs ys)

moved : (n m x : ℤ) → (n +ℤ m) +ℤ x ≡ (n +ℤ x) +ℤ m
moved n m x = omega (arith, ints)

-- So is what is added to the other part, where it is the number at each place.
pub added-sure : {X : Type 0} (n m : ℤ) (numbers : List ℤ) (f : X → ℤ) (xs : List X) → ((x : X) → f x ≡ m) → length numbers ≡ length xs
    → map (λ z. (n +ℤ m) +ℤ z) numbers ≡ added (map (λ z. n +ℤ z) numbers) (map f xs)
added-sure n m [] f xs same long = refl
added-sure n m (y ∷ ys) f [] same long = absurd (omega (arith, long))
added-sure n m (y ∷ ys) f (x ∷ xs) same long =
    ap₂ (λ (z : ℤ) (zs : List ℤ). z ∷ zs) (moved n m y ∙ ap (λ z. (n +ℤ y) +ℤ z) (sym (same x)))
    (added-sure n m ys f xs same (omega (arith, long)))

-- A list is the sum of two where each of its places is.
pub added-by-places : (numbers others sums : List ℤ) → length sums ≡ length numbers → length numbers ≡ length others
    → ((k : ℕ) → k < length others → get_or sums k (pos 0) ≡ get_or numbers k (pos 0) +ℤ get_or others k (pos 0)) → sums ≡ added numbers others
added-by-places [] others [] long same each = refl
added-by-places [] others (z ∷ zs) long same each = absurd (omega (arith, long))
added-by-places (x ∷ xs) others [] long same each = absurd (omega (arith, long))
added-by-places (x ∷ xs) [] (z ∷ zs) long same each = absurd (omega (arith, same))
added-by-places (x ∷ xs) (y ∷ ys) (z ∷ zs) long same each =
    ap₂ (λ (n : ℤ) (ns : List ℤ). n ∷ ns) (each 0 (omega arith))
    (added-by-places xs ys zs (omega (arith, long)) (omega (arith, same)) (λ k within. each (suc k) (omega (arith, within))))

-- The sum of the values so far.

sum_at-one : (n : ℤ) → n +ℤ pos 0 ≡ pos 0 +ℤ n
sum_at-one n = +ℤ_idr n ∙ sym (+ℤ_idl n)

sum_at-behind : (values : List (List (Case ℤ))) (value : List (Case ℤ)) (a : List TxnId) → sum_at (values ++ (value ∷ [])) a ≡ sum_at values a +ℤ number_at value a
sum_at-behind [] value a = sum_at-one (number_at value a)
sum_at-behind (first ∷ values) value a =
    ap (λ z. number_at first a +ℤ z) (sum_at-behind values value a)
    ∙ sym (+ℤ_assoc (number_at first a) (sum_at values a) (number_at value a))

map-each : {X : Type 0} (f g : X → ℤ) (xs : List X) → ((x : X) → f x ≡ g x) → map f xs ≡ map g xs
map-each f g [] same = refl
map-each f g (x ∷ xs) same = ap₂ (λ (z : ℤ) (zs : List ℤ). z ∷ zs) (same x) (map-each f g xs same)

-- One more value is added.
pub sums-more : (values : List (List (Case ℤ))) (i : ℕ) (value : List (Case ℤ)) (txns : List TxnId) (before after : List ℤ) → i < length values → value ≡ get_or values i value
    → before ≡ map (sum_at (take i values)) (assignments txns) → after ≡ added before (map (number_at value) (assignments txns))
    → after ≡ map (sum_at (take (i + 1) values)) (assignments txns)
sums-more values i value txns before after within is old new =
    new
    ∙ ap (λ zs. added zs (map (number_at value) (assignments txns))) old
    ∙ added-map (sum_at (take i values)) (number_at value) (assignments txns)
    ∙ map-each (λ a. sum_at (take i values) a +ℤ number_at value a) (sum_at (take (i + 1) values)) (assignments txns)
    (λ a. sym (sum_at-behind (take i values) value a)
    ∙ ap (λ last. sum_at (take i values ++ (last ∷ [])) a) is
    ∙ ap (λ vs. sum_at vs a) (sym (take_more values i value within)))

-- No value is added yet.
pub sums-none : (txns : List TxnId) (count : ℕ) (numbers : List ℤ) → count ≡ 2 ^ length txns → numbers ≡ replicate count (pos 0)
    → map (λ z. pos 0 +ℤ z) numbers ≡ map (λ _. pos 0) (assignments txns)
sums-none txns count numbers whole is =
    ap (map (λ z. pos 0 +ℤ z)) is
    ∙ map-replicate (λ z. pos 0 +ℤ z) (pos 0) count
    ∙ sym (map-constant (pos 0) (assignments txns) count (length-assignments txns ∙ sym whole))

-- as many sums as there are assignments
pub length-sums : (n : ℤ) (numbers : List ℤ) (f : List TxnId → ℤ) (txns : List TxnId) → map (λ z. n +ℤ z) numbers ≡ map f (assignments txns)
    → length numbers ≡ length (assignments txns)
length-sums n numbers f txns is =
    sym (length-map numbers (λ z. n +ℤ z)) ∙ ap length is ∙ length-map (assignments txns) f

-- The numbers of one value.

unwrapped : (numbers : List ℤ) → map (λ (o : Option ℤ). unwrap_or o (pos 0)) (map Some numbers) ≡ numbers
unwrapped [] = refl
unwrapped (x ∷ xs) = ap (λ zs. x ∷ zs) (unwrapped xs)

-- The values of a table are the numbers at the assignments.
pub numbers-of-table : (cases : List (Case ℤ)) (txns : List TxnId) (numbers : List ℤ) → AreValues cases txns numbers
    → numbers ≡ map (number_at cases) (assignments txns)
numbers-of-table cases txns numbers are =
    sym (unwrapped numbers)
    ∙ ap (map (λ (o : Option ℤ). unwrap_or o (pos 0))) are
    ∙ map-map (λ (o : Option ℤ). unwrap_or o (pos 0)) (value_at cases) (assignments txns)

met-alone : (b : Bool) (v w : ℤ) → (if b then Some v else None) ≡ Some w → w ≡ v
met-alone true v w is = sym (Some_inj is)
met-alone false v w is = absurd (let never : ⊥ = cc in never)

number-of-one : (cases : List (Case ℤ)) → IsCanonical cases → (case : Case ℤ) → length cases ≡ 1 → case ≡ get_or cases 0 case
    → (a : List TxnId) → number_at cases a ≡ case.value
number-of-one [] canonical case one is a = absurd (omega (arith, one))
number-of-one (only ∷ []) canonical case one is a =
    let found = canonical-complete (only ∷ []) canonical a in
    ap (λ (o : Option ℤ). unwrap_or o (pos 0)) found.1
    ∙ met-alone (meets only.when a) only.value found.0 found.1
    ∙ ap (λ (c : Case ℤ). c.value) (sym is)
number-of-one (first ∷ second ∷ rest) canonical case one is a = absurd (omega (arith, one))

-- One canonical case has its value everywhere.
pub number-everywhere : (cases value : List (Case ℤ)) → cases ≡ value → IsCanonical value → (case : Case ℤ) → length cases ≡ 1 → case ≡ get_or cases 0 case
    → (n : ℤ) → n ≡ case.value → (a : List TxnId) → number_at value a ≡ n
number-everywhere cases value same canonical case one is n read a =
    ap (λ cs. number_at cs a) (sym same) ∙ number-of-one cases (subst IsCanonical (sym same) canonical) case one is a ∙ sym read

-- How far from 0 the sums are.

pub IsWithin-weaker : (bound more : ℕ) (n : ℤ) → bound ≤ more → IsWithin bound n → IsWithin more n
IsWithin-weaker bound more n less within = record { low = omega (arith, ints, less, within.low); high = omega (arith, ints, less, within.high) }

pub IsWithin-added : (bound other : ℕ) (n m : ℤ) → IsWithin bound n → IsWithin other m → IsWithin (bound + other) (n +ℤ m)
IsWithin-added bound other n m within by = record {
  low = omega (arith, ints, within.low, within.high, by.low, by.high);
  high = omega (arith, ints, within.low, within.high, by.low, by.high);
}

pub All-weaker-within : (bound more : ℕ) (numbers : List ℤ) → bound ≤ more → All (IsWithin bound) numbers → All (IsWithin more) numbers
All-weaker-within bound more numbers less = All-weaker (IsWithin bound) (IsWithin more) (λ n. IsWithin-weaker bound more n less) numbers

pub All-added : (bound other : ℕ) (numbers others : List ℤ) → All (IsWithin bound) numbers → All (IsWithin other) others → All (IsWithin (bound + other)) (added numbers others)
All-added bound other [] others within by = All-nil (IsWithin (bound + other))
All-added bound other (x ∷ xs) [] within by = All-nil (IsWithin (bound + other))
All-added bound other (x ∷ xs) (y ∷ ys) within by =
    All-cons (IsWithin (bound + other)) (x +ℤ y) (added xs ys)
    (IsWithin-added bound other x y (All-head (IsWithin bound) x xs within) (All-head (IsWithin other) y ys by))
    (All-added bound other xs ys (All-tail (IsWithin bound) x xs within) (All-tail (IsWithin other) y ys by))

-- One number is added at its place.

-- The addition has room.
pub fits-place : (x y n r : ℤ) → SFits w64 n → r ≡ to_z w64 (of_z w64 n) → x ≡ y → IsWithin (2 ^ 100) y
    → SFits w128 (to_z w128 (of_z w128 x) +ℤ to_z w128 (of_z w128 r))
fits-place x y n r narrow is same within =
    let read : r ≡ n = is ∙ to_z-of_z w64 n narrow in
    let low = within.low in
    let high = within.high in
    omega (arith, ints)

-- What is written is the sum.
pub added-place : (x y n r : ℤ) → SFits w64 n → r ≡ to_z w64 (of_z w64 n) → x ≡ y → IsWithin (2 ^ 100) y
    → to_z w128 (of_z w128 (to_z w128 (of_z w128 x) +ℤ to_z w128 (of_z w128 r))) ≡ y +ℤ n
added-place x y n r narrow is same within =
    let read : r ≡ n = is ∙ to_z-of_z w64 n narrow in
    let low = within.low in
    let high = within.high in
    omega (arith, ints)

pub place-done : (old numbers sums : List ℤ) (i : ℕ) (v : ℤ) → i < length sums
    → ((k : ℕ) → k < i → get_or sums k (pos 0) ≡ get_or old k (pos 0) +ℤ get_or numbers k (pos 0))
    → v ≡ get_or old i (pos 0) +ℤ get_or numbers i (pos 0)
    → (k : ℕ) → k < i + 1 → get_or (set sums i v) k (pos 0) ≡ get_or old k (pos 0) +ℤ get_or numbers k (pos 0)
place-done old numbers sums i v within done is =
    below_more (λ k. get_or (set sums i v) k (pos 0) ≡ get_or old k (pos 0) +ℤ get_or numbers k (pos 0)) i
    (λ k h. get_or-set_other sums i k v (pos 0) (omega arith) ∙ done k h)
    (get_or-set_same sums i v (pos 0) within ∙ is)

pub place-left : (old sums : List ℤ) (i : ℕ) (v : ℤ) → ((k : ℕ) → i ≤ k → get_or sums k (pos 0) ≡ get_or old k (pos 0))
    → (k : ℕ) → i + 1 ≤ k → get_or (set sums i v) k (pos 0) ≡ get_or old k (pos 0)
place-left old sums i v left k h = get_or-set_other sums i k v (pos 0) (omega arith) ∙ left k (omega arith)

-- a number of 64 bits
pub IsWithin-narrow : (n : ℤ) → SFits w64 n → IsWithin (2 ^ 63) n
IsWithin-narrow n fits = record { low = omega (arith, ints); high = omega (arith, ints) }

-- What is made of the two parts at one place is their sum.
pub whole-place : (sure n : ℤ) → IsWithin (2 ^ 100) sure → IsWithin (2 ^ 100) n
    → to_z w128 (of_z w128 (to_z w128 (of_z w128 sure) +ℤ to_z w128 (of_z w128 n))) ≡ sure +ℤ n
whole-place sure n first second =
    let first_low = first.low in
    let first_high = first.high in
    let low = second.low in
    let high = second.high in
    omega (arith, ints)

-- An element of a list is the same whatever stands for those past its end.
pub element-itself : (numbers : List ℤ) (i : ℕ) (d : ℤ) → i < length numbers → get_or numbers i d ≡ get_or numbers i (get_or numbers i d)
element-itself [] i d within = absurd (omega (arith, within))
element-itself (x ∷ xs) zero d within = refl
element-itself (x ∷ xs) (suc i) d within = element-itself xs i d (omega (arith, within))

pub AreWithin-weaker : (bound more : ℕ) (sums : RunningSums) → bound ≤ more → AreWithin bound sums → AreWithin more sums
AreWithin-weaker bound more sums less within = record {
  sure = IsWithin-weaker bound more sums.sure less within.sure;
  each = All-weaker-within bound more sums.at_each.items less within.each;
}

-- as many numbers in a table as sums
pub length-table : (cases : List (Case ℤ)) (txns : List TxnId) (numbers items others more : List ℤ) → AreValues cases txns others → length items ≡ length (assignments txns)
    → numbers ≡ items → more ≡ others → length numbers ≡ length more
length-table cases txns numbers items others more are places same also =
    ap length same ∙ places ∙ sym (ap length also ∙ length-values cases txns others are ∙ sym (length-assignments txns))

-- A table is added to one part of the sums.
pub table-added : (n : ℤ) (value : List (Case ℤ)) (txns : List TxnId) (before items numbers table after : List ℤ) → AreValues value txns table → before ≡ items → numbers ≡ table
    → after ≡ added before numbers → map (λ z. n +ℤ z) after ≡ added (map (λ z. n +ℤ z) items) (map (number_at value) (assignments txns))
table-added n value txns before items numbers table after are same also is =
    ap (map (λ z. n +ℤ z)) (is ∙ ap₂ added same (also ∙ numbers-of-table value txns table are))
    ∙ added-each n items (map (number_at value) (assignments txns))

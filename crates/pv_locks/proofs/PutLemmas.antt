-- Lists in which what passes a test stands before the rest: where that ends, and what an element put there does to the list.
use Rattle.std.proofs.Common.{◌≡◌, ℕ, zero, suc, ◌<◌, ◌≤◌, Bool, true, false, cond, List, [], ◌∷◌, length, Some, None, refl, sym, ap, subst, ◌∙◌, arith}
use Rattle.std.specs.Prelude.{All, find, filter, if◌then◌else◌}
use Rattle.std.specs.Cmp.{IsStrictWeakOrder}
use Rattle.std.specs.List.{AllPairs, insert, remove}
use Rattle.std.specs.List.Sorted.{IsPartitionPoint, IsPartitionedBy}
use Rattle.std.proofs.lemmas.Bool.{true_from_ne_false, true≢false}
use Rattle.std.proofs.lemmas.List.Elements.{All-cons, All-nil, All-head, All-tail, All-filter, All-weaker}
use Rattle.std.proofs.lemmas.List.Kept.{AllPairs-cons}
use Rattle.pv_base.proofs.OrderLemmas.{pairs-tail}
use Rattle.pv_locks.specs.Put.{place, put}

module _ {X : Type 0} (before : X → Bool) where
  -- A partition point is where what passes ends.
  pub place-is : (xs : List X) (i : ℕ) → i ≤ length xs → IsPartitionPoint (λ x. before x ≡ true) (λ x. before x ≡ false) xs i
      → i ≡ place before xs
  place-is [] i bound parted = omega (arith, bound)
  place-is (x ∷ xs) zero bound parted = sym (ap (λ b. cond b (suc (place before xs)) 0) (parted.1 zero x (omega arith) (omega arith)))
  place-is (x ∷ xs) (suc i) bound parted =
      let rest : i ≡ place before xs = place-is xs i (omega (arith, bound))
      ((λ k d low high. parted.0 (suc k) d (omega arith) (omega (arith, high))), (λ k d low high. parted.1 (suc k) d (omega (arith, low)) (omega (arith, high)))) in
      ap suc rest ∙ sym (ap (λ b. cond b (suc (place before xs)) 0) (parted.0 zero x (omega arith) (omega arith)))

  pub partitioned-nil : IsPartitionedBy before []
  partitioned-nil i j d le within passes = absurd (omega (arith, within))

  pub partitioned-cons : (x : X) (xs : List X) → All (λ y. before y ≡ true → before x ≡ true) xs → IsPartitionedBy before xs
      → IsPartitionedBy before (x ∷ xs)
  partitioned-cons x xs first rest zero zero d le within passes = passes
  partitioned-cons x xs first rest zero (suc j) d le within passes = first j d (omega (arith, within)) passes
  partitioned-cons x xs first rest (suc i) zero d le within passes = absurd (omega (arith, le))
  partitioned-cons x xs first rest (suc i) (suc j) d le within passes = rest i j d (omega (arith, le)) (omega (arith, within)) passes

  insert-by : (b : Bool) (x y : X) (xs rest : List X) (n : ℕ) → insert xs n y ≡ rest
      → insert (x ∷ xs) (cond b (suc n) 0) y ≡ (if b then x ∷ rest else y ∷ (x ∷ xs))
  insert-by true x y xs rest n h = ap (λ l. x ∷ l) h
  insert-by false x y xs rest n h = refl

  -- What is inserted there is put there.
  pub insert-put : (y : X) (xs : List X) → insert xs (place before xs) y ≡ put before y xs
  insert-put y [] = refl
  insert-put y (x ∷ xs) = insert-by (before x) x y xs (put before y xs) (place before xs) (insert-put y xs)

  within-by : (b : Bool) (n : ℕ) (xs : List X) → n ≤ length xs → cond b (suc n) 0 ≤ suc (length xs)
  within-by true n xs h = omega (arith, h)
  within-by false n xs h = omega arith

  pub place-within : (xs : List X) → place before xs ≤ length xs
  place-within [] = omega arith
  place-within (x ∷ xs) = within-by (before x) (place before xs) xs (place-within xs)

  length-by : (b : Bool) (x y : X) (xs rest : List X) → length rest ≡ suc (length xs) → length (if b then x ∷ rest else y ∷ (x ∷ xs)) ≡ suc (length (x ∷ xs))
  length-by true x y xs rest h = omega (arith, h)
  length-by false x y xs rest h = omega arith

  pub length-put : (y : X) (xs : List X) → length (put before y xs) ≡ suc (length xs)
  length-put y [] = refl
  length-put y (x ∷ xs) = length-by (before x) x y xs (put before y xs) (length-put y xs)

  all-by : (P : X → Type 0) (b : Bool) (x y : X) (xs rest : List X) → P y → All P (x ∷ xs) → All P rest → All P (if b then x ∷ rest else y ∷ (x ∷ xs))
  all-by P true x y xs rest new all later = All-cons P x rest (All-head P x xs all) later
  all-by P false x y xs rest new all later = All-cons P y (x ∷ xs) new all

  pub put-all : (P : X → Type 0) (y : X) (xs : List X) → P y → All P xs → All P (put before y xs)
  put-all P y [] new all = All-cons P y [] new all
  put-all P y (x ∷ xs) new all = all-by P (before x) x y xs (put before y xs) new all (put-all P y xs new (All-tail P x xs all))

  -- What doesn't pass a test is passed over in a search.
  miss-by : (p : X → Bool) (b : Bool) (x y : X) (xs rest : List X) → p y ≡ false → find p rest ≡ find p xs
      → find p (if b then x ∷ rest else y ∷ (x ∷ xs)) ≡ find p (x ∷ xs)
  miss-by p true x y xs rest fails later = ap (λ o. cond (p x) (Some x) o) later
  miss-by p false x y xs rest fails later = ap (λ b. cond b (Some y) (find p (x ∷ xs))) fails

  pub find-put-miss : (p : X → Bool) (y : X) (xs : List X) → p y ≡ false → find p (put before y xs) ≡ find p xs
  find-put-miss p y [] fails = ap (λ b. cond b (Some y) None) fails
  find-put-miss p y (x ∷ xs) fails = miss-by p (before x) x y xs (put before y xs) fails (find-put-miss p y xs fails)

  -- What passes a test is found, where none does that stands before it.
  hit-by : (p : X → Bool) (b : Bool) (x y : X) (xs rest : List X) → before x ≡ b → p y ≡ true → (before x ≡ true → p x ≡ false) → find p rest ≡ Some y
      → find p (if b then x ∷ rest else y ∷ (x ∷ xs)) ≡ Some y
  hit-by p true x y xs rest is passes first later = ap (λ b. cond b (Some x) (find p rest)) (first is) ∙ later
  hit-by p false x y xs rest is passes first later = ap (λ b. cond b (Some y) (find p (x ∷ xs))) passes

  pub find-put-hit : (p : X → Bool) (y : X) (xs : List X) → p y ≡ true → All (λ z. before z ≡ true → p z ≡ false) xs → find p (put before y xs) ≡ Some y
  find-put-hit p y [] passes none = ap (λ b. cond b (Some y) None) passes
  find-put-hit p y (x ∷ xs) passes none =
      hit-by p (before x) x y xs (put before y xs) refl passes (All-head (λ z. before z ≡ true → p z ≡ false) x xs none)
      (find-put-hit p y xs passes (All-tail (λ z. before z ≡ true → p z ≡ false) x xs none))

-- Where what stands before an element is what is less than it.
module _ {X : Type 0} (lt : X → X → Bool) (order : IsStrictWeakOrder lt) where
  -- No element is less than one that it stands behind.
  abbrev pub InPlace : List X → Type 0
  InPlace xs = AllPairs (λ x later. lt later x ≡ false) xs

  -- the list with one more element where it belongs
  abbrev puts : X → List X → List X
  puts y xs = put (λ z. lt z y) y xs

  -- where the element belongs
  abbrev place_of : X → List X → ℕ
  place_of y xs = place (λ z. lt z y) xs

  irreflexive-by : (x : X) (b : Bool) → lt x x ≡ b → b ≡ false
  irreflexive-by x true is = sym is ∙ order.one_way x x is
  irreflexive-by x false is = refl

  pub irreflexive : (x : X) → lt x x ≡ false
  irreflexive x = irreflexive-by x (lt x x) refl

  pub in-place-tail : (x : X) (xs : List X) → InPlace (x ∷ xs) → InPlace xs
  in-place-tail x xs up = pairs-tail (λ x later. lt later x ≡ false) x xs up

  in-place-first : (x : X) (xs : List X) → InPlace (x ∷ xs) → All (λ z. lt z x ≡ false) xs
  in-place-first x xs up = λ k d within. up zero (suc k) d (omega arith) (omega (arith, within))

  -- none of the rest is less than what the first isn't less than
  none-less : (x y : X) (xs : List X) → InPlace (x ∷ xs) → lt x y ≡ false → All (λ z. lt z y ≡ false) (x ∷ xs)
  none-less x y xs up least =
      All-cons (λ z. lt z y ≡ false) x xs least
      (All-weaker (λ z. lt z x ≡ false) (λ z. lt z y ≡ false) (λ z h. order.chain z x y h least) xs (in-place-first x xs up))

  in-place-by : (b : Bool) (x y : X) (xs rest : List X) → lt x y ≡ b → InPlace (x ∷ xs) → InPlace rest → (lt y x ≡ false → All (λ z. lt z x ≡ false) rest)
      → InPlace (if b then x ∷ rest else y ∷ (x ∷ xs))
  in-place-by true x y xs rest is up later behind = AllPairs-cons (λ x later. lt later x ≡ false) x rest (behind (order.one_way x y is)) later
  in-place-by false x y xs rest is up later behind = AllPairs-cons (λ x later. lt later x ≡ false) y (x ∷ xs) (none-less x y xs up is) up

  pub in-place-put : (y : X) (xs : List X) → InPlace xs → InPlace (puts y xs)
  in-place-put y [] up = AllPairs-cons (λ x later. lt later x ≡ false) y [] (All-nil (λ z. lt z y ≡ false)) up
  in-place-put y (x ∷ xs) up =
      in-place-by (lt x y) x y xs (puts y xs) refl up (in-place-put y xs (in-place-tail x xs up))
      (λ behind. put-all (λ z. lt z y) (λ z. lt z x ≡ false) y xs behind (in-place-first x xs up))

  -- Elements in place are parted by what is less than any one.
  pub in-place-parted : (y : X) (xs : List X) → InPlace xs → IsPartitionedBy (λ z. lt z y) xs
  in-place-parted y [] up = partitioned-nil (λ z. lt z y)
  in-place-parted y (x ∷ xs) up =
      partitioned-cons (λ z. lt z y) x xs
      (All-weaker (λ z. lt z x ≡ false) (λ z. lt z y ≡ true → lt x y ≡ true)
      (λ z h less. true_from_ne_false (lt x y) (λ isnt. true≢false (sym less ∙ order.chain z x y h isnt))) xs (in-place-first x xs up))
      (in-place-parted y xs (in-place-tail x xs up))

  -- Two elements of which one is less are put in either order.
  pub put-put : (a b : X) (xs : List X) → lt a b ≡ true → puts a (puts b xs) ≡ puts b (puts a xs)
  put-put a b [] less =
      ap (λ t. if t then b ∷ (a ∷ []) else a ∷ (b ∷ [])) (order.one_way a b less) ∙ sym (ap (λ t. if t then a ∷ (b ∷ []) else b ∷ (a ∷ [])) less)
  put-put a b (x ∷ xs) less = by (lt x a) (lt x b) refl refl (put-put a b xs less) where
    by : (c d : Bool) → lt x a ≡ c → lt x b ≡ d → puts a (puts b xs) ≡ puts b (puts a xs)
        → puts a (if d then x ∷ puts b xs else b ∷ (x ∷ xs)) ≡ puts b (if c then x ∷ puts a xs else a ∷ (x ∷ xs))
    by true true first second later =
        ap (λ t. if t then x ∷ puts a (puts b xs) else a ∷ (x ∷ puts b xs)) first
        ∙ ap (λ l. x ∷ l) later
        ∙ sym (ap (λ t. if t then x ∷ puts b (puts a xs) else b ∷ (x ∷ puts a xs)) second)
    by true false first second later = absurd (true≢false (sym first ∙ order.chain x b a second (order.one_way a b less)))
    by false true first second later =
        ap (λ t. if t then x ∷ puts a (puts b xs) else a ∷ (x ∷ puts b xs)) first
        ∙ sym (ap (λ t. if t then a ∷ puts b (x ∷ xs) else b ∷ (a ∷ (x ∷ xs))) less
        ∙ ap (λ t. a ∷ (if t then x ∷ puts b xs else b ∷ (x ∷ xs))) second)
    by false false first second later =
        ap (λ t. if t then b ∷ puts a (x ∷ xs) else a ∷ (b ∷ (x ∷ xs))) (order.one_way a b less)
        ∙ sym (ap (λ t. if t then a ∷ puts b (x ∷ xs) else b ∷ (a ∷ (x ∷ xs))) less
        ∙ ap (λ t. a ∷ (if t then x ∷ puts b xs else b ∷ (x ∷ xs))) second)

  -- Taken out where it was put, it leaves what there was.
  pub remove-put : (y : X) (xs : List X) → remove (puts y xs) (place_of y (puts y xs)) ≡ xs
  remove-put y [] = ap (λ b. remove (y ∷ []) (if b then 1 else 0)) (irreflexive y)
  remove-put y (x ∷ xs) = by (lt x y) refl (remove-put y xs) where
    by : (b : Bool) → lt x y ≡ b → remove (puts y xs) (place_of y (puts y xs)) ≡ xs
        → remove (if b then x ∷ puts y xs else y ∷ (x ∷ xs)) (place_of y (if b then x ∷ puts y xs else y ∷ (x ∷ xs))) ≡ x ∷ xs
    by true is later =
        ap (λ b. remove (x ∷ puts y xs) (if b then suc (place_of y (puts y xs)) else 0)) is ∙ ap (λ l. x ∷ l) later
    by false is later = ap (λ b. remove (y ∷ (x ∷ xs)) (if b then suc (place_of y (x ∷ xs)) else 0)) (irreflexive y)

  pub place-put : (y : X) (xs : List X) → place_of y (puts y xs) < length (puts y xs)
  place-put y [] = subst (λ b. (if b then 1 else 0) < 1) (sym (irreflexive y)) (omega arith)
  place-put y (x ∷ xs) = by (lt x y) refl (place-put y xs) where
    by : (b : Bool) → lt x y ≡ b → place_of y (puts y xs) < length (puts y xs)
        → place_of y (if b then x ∷ puts y xs else y ∷ (x ∷ xs)) < length (if b then x ∷ puts y xs else y ∷ (x ∷ xs))
    by true is later =
        subst (λ b. (if b then suc (place_of y (puts y xs)) else 0) < length (x ∷ puts y xs)) (sym is) (omega (arith, later))
    by false is later = subst (λ b. (if b then suc (place_of y (x ∷ xs)) else 0) < length (y ∷ (x ∷ xs))) (sym (irreflexive y)) (omega arith)

  -- What nothing is less than is put first.
  first-by : (b : Bool) (x y : X) (xs rest : List X) → b ≡ false → (if b then x ∷ rest else y ∷ (x ∷ xs)) ≡ y ∷ (x ∷ xs)
  first-by true x y xs rest isnt = absurd (true≢false isnt)
  first-by false x y xs rest isnt = refl

  put-first : (y : X) (xs : List X) → All (λ z. lt z y ≡ false) xs → puts y xs ≡ y ∷ xs
  put-first y [] none = refl
  put-first y (x ∷ xs) none = first-by (lt x y) x y xs (puts y xs) (All-head (λ z. lt z y ≡ false) x xs none)

  -- A filter keeps what was put in, where it stands, or leaves it out.
  pub filter-put : (p : X → Bool) (y : X) (xs : List X) → InPlace xs → filter p (puts y xs) ≡ (if p y then puts y (filter p xs) else filter p xs)
  filter-put p y [] up = refl
  filter-put p y (x ∷ xs) up = by (lt x y) (p x) (p y) refl refl refl (filter-put p y xs (in-place-tail x xs up)) where
    by : (b c d : Bool) → lt x y ≡ b → p x ≡ c → p y ≡ d → filter p (puts y xs) ≡ (if p y then puts y (filter p xs) else filter p xs)
        → filter p (if b then x ∷ puts y xs else y ∷ (x ∷ xs)) ≡ (if p y then puts y (filter p (x ∷ xs)) else filter p (x ∷ xs))
    by true true true less is passes later =
        ap (λ t. cond t (x ∷ filter p (puts y xs)) (filter p (puts y xs))) is
        ∙ ap (λ l. x ∷ l) (later ∙ ap (λ t. if t then puts y (filter p xs) else filter p xs) passes)
        ∙ sym (ap (λ t. if t then puts y (filter p (x ∷ xs)) else filter p (x ∷ xs)) passes
        ∙ ap (λ t. puts y (cond t (x ∷ filter p xs) (filter p xs))) is
        ∙ ap (λ t. if t then x ∷ puts y (filter p xs) else y ∷ (x ∷ filter p xs)) less)
    by true true false less is fails later =
        ap (λ t. cond t (x ∷ filter p (puts y xs)) (filter p (puts y xs))) is
        ∙ ap (λ l. x ∷ l) (later ∙ ap (λ t. if t then puts y (filter p xs) else filter p xs) fails)
        ∙ sym (ap (λ t. if t then puts y (filter p (x ∷ xs)) else filter p (x ∷ xs)) fails
        ∙ ap (λ t. cond t (x ∷ filter p xs) (filter p xs)) is)
    by true false d less isnt passes later =
        ap (λ t. cond t (x ∷ filter p (puts y xs)) (filter p (puts y xs))) isnt
        ∙ later
        ∙ sym (ap (λ t. if p y then puts y (cond t (x ∷ filter p xs) (filter p xs)) else cond t (x ∷ filter p xs) (filter p xs)) isnt)
    by false c true less is passes later =
        ap (λ t. cond t (y ∷ filter p (x ∷ xs)) (filter p (x ∷ xs))) passes
        ∙ sym (ap (λ t. if t then puts y (filter p (x ∷ xs)) else filter p (x ∷ xs)) passes
        ∙ put-first y (filter p (x ∷ xs)) (All-filter p (λ z. lt z y ≡ false) (x ∷ xs) (none-less x y xs up less)))
    by false c false less is fails later =
        ap (λ t. cond t (y ∷ filter p (x ∷ xs)) (filter p (x ∷ xs))) fails
        ∙ sym (ap (λ t. if t then puts y (filter p (x ∷ xs)) else filter p (x ∷ xs)) fails)

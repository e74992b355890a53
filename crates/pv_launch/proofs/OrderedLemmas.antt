-- Things in an order, each so by its number: more of them, others in their places, and those that are made from the last one on.
use Rattle.std.proofs.Common.{◌≡◌, ℕ, zero, suc, ◌+◌, ◌<◌, ◌≤◌, All, List, [], ◌∷◌, ◌++◌, length, get_or, map, reverse, refl, sym, ap, ◌∙◌, subst, arith, append_assoc, length-append}
use Rattle.std.proofs.lemmas.List.{append-nil, length_push, length-reverse, nil_from_length, reverse-append}
use Rattle.std.proofs.lemmas.List.Elements.{All-cons, All-nil}
use Rattle.pv_launch.specs.Ordered.{Numbered, Paired}

module _ {A : Type 0} where
  -- ---- one list
  module _ (P Q R : ℕ → A → Type 0) where
    pub numbered-both : (n : ℕ) (xs : List A) → ((k : ℕ) (x : A) → n ≤ k → k < n + length xs → P k x → Q k x → R k x) → Numbered P n xs → Numbered Q n xs → Numbered R n xs
    numbered-both n [] each are also = tt
    numbered-both n (x ∷ xs) each are also = (
      each n x (omega arith) (omega arith) are.0 also.0,
      numbered-both (suc n) xs (λ k y from below. each k y (omega (arith, from)) (omega (arith, below))) are.1 also.1,
    )

  module _ (R : ℕ → A → Type 0) where
    pub numbered-push : (n : ℕ) (xs : List A) (x : A) → Numbered R n xs → R (n + length xs) x → Numbered R n (xs ++ x ∷ [])
    numbered-push n [] x are last = (let same : n + 0 ≡ n = omega arith in subst (λ m. R m x) same last, tt)
    numbered-push n (y ∷ ys) x are last =
        let same : n + suc (length ys) ≡ suc n + length ys = omega arith in
        (are.0, numbered-push (suc n) ys x are.1 (subst (λ m. R m x) same last))

    pub numbered-some : (n : ℕ) (xs : List A) → Numbered R n xs → (k : ℕ) → k < length xs → (x : A) × R (n + k) x
    numbered-some n [] are k less = absurd (omega (arith, less))
    numbered-some n (x ∷ xs) are zero less = let same : n ≡ n + 0 = omega arith in (x, subst (λ m. R m x) same are.0)
    numbered-some n (x ∷ xs) are (suc k) less =
        let rest = numbered-some (suc n) xs are.1 k (omega (arith, less)) in
        let same : suc n + k ≡ n + suc k = omega arith in
        (rest.0, subst (λ m. R m rest.0) same rest.1)

    pub numbered-at : (n : ℕ) (xs : List A) → Numbered R n xs → (k : ℕ) (any : A) → k < length xs → R (n + k) (get_or xs k any)
    numbered-at n [] are k any less = absurd (omega (arith, less))
    numbered-at n (x ∷ xs) are zero any less = let same : n ≡ n + 0 = omega arith in subst (λ m. R m x) same are.0
    numbered-at n (x ∷ xs) are (suc k) any less =
        let same : suc n + k ≡ n + suc k = omega arith in
        subst (λ m. R m (get_or xs k any)) same (numbered-at (suc n) xs are.1 k any (omega (arith, less)))

-- ---- two lists
module _ {A B : Type 0} (R : ℕ → A → B → Type 0) where
  pub paired-count : (n : ℕ) (xs : List A) (ys : List B) → Paired R n xs ys → length ys ≡ length xs
  paired-count n [] [] are = refl
  paired-count n [] (y ∷ ys) are = absurd are
  paired-count n (x ∷ xs) [] are = absurd are
  paired-count n (x ∷ xs) (y ∷ ys) are = ap suc (paired-count (suc n) xs ys are.1)

  pub paired-join : (n : ℕ) (xs : List A) (ys : List B) (us : List A) (vs : List B) → Paired R n xs ys → Paired R (n + length xs) us vs → Paired R n (xs ++ us) (ys ++ vs)
  paired-join n [] [] us vs are more = let same : n + 0 ≡ n = omega arith in subst (λ m. Paired R m us vs) same more
  paired-join n [] (y ∷ ys) us vs are more = absurd are
  paired-join n (x ∷ xs) [] us vs are more = absurd are
  paired-join n (x ∷ xs) (y ∷ ys) us vs are more =
      let same : n + suc (length xs) ≡ suc n + length xs = omega arith in
      (are.0, paired-join (suc n) xs ys us vs are.1 (subst (λ m. Paired R m us vs) same more))

  -- What the others are that the second ones are turned into.
  pub paired-into : {C : Type 0} (S : ℕ → A → C → Type 0) (f : B → C) (n : ℕ) (xs : List A) (ys : List B) → ((k : ℕ) (x : A) (y : B) → n ≤ k → R k x y → S k x (f y))
      → Paired R n xs ys → Paired S n xs (map f ys)
  paired-into S f n [] [] each are = tt
  paired-into S f n [] (y ∷ ys) each are = absurd are
  paired-into S f n (x ∷ xs) [] each are = absurd are
  paired-into S f n (x ∷ xs) (y ∷ ys) each are =
      (each n x y (omega arith) are.0, paired-into S f (suc n) xs ys (λ k v w from. each k v w (omega (arith, from))) are.1)

  pub paired-all : (P : B → Type 0) (n : ℕ) (xs : List A) (ys : List B) → ((k : ℕ) (x : A) (y : B) → R k x y → P y) → Paired R n xs ys → All P ys
  paired-all P n [] [] each are = All-nil P
  paired-all P n [] (y ∷ ys) each are = absurd are
  paired-all P n (x ∷ xs) [] each are = absurd are
  paired-all P n (x ∷ xs) (y ∷ ys) each are = All-cons P y ys (each n x y are.0) (paired-all P (suc n) xs ys each are.1)

  pub numbered-paired : (P : ℕ → A → Type 0) (Q : ℕ → B → Type 0) (n : ℕ) (xs : List A) (ys : List B) → ((k : ℕ) (x : A) (y : B) → P k x → R k x y → Q k y)
      → Numbered P n xs → Paired R n xs ys → Numbered Q n ys
  numbered-paired P Q n [] [] each are both = tt
  numbered-paired P Q n [] (y ∷ ys) each are both = absurd both
  numbered-paired P Q n (x ∷ xs) [] each are both = absurd both
  numbered-paired P Q n (x ∷ xs) (y ∷ ys) each are both = (each n x y are.0 both.0, numbered-paired P Q (suc n) xs ys each are.1 both.1)

  pub paired-through : {C : Type 0} (S : ℕ → B → C → Type 0) (T : ℕ → A → C → Type 0) (n : ℕ) (xs : List A) (ys : List B) (zs : List C)
      → ((k : ℕ) (x : A) (y : B) (z : C) → R k x y → S k y z → T k x z) → Paired R n xs ys → Paired S n ys zs → Paired T n xs zs
  paired-through S T n [] [] [] each are also = tt
  paired-through S T n [] [] (z ∷ zs) each are also = absurd also
  paired-through S T n [] (y ∷ ys) zs each are also = absurd are
  paired-through S T n (x ∷ xs) [] zs each are also = absurd are
  paired-through S T n (x ∷ xs) (y ∷ ys) [] each are also = absurd also
  paired-through S T n (x ∷ xs) (y ∷ ys) (z ∷ zs) each are also = (each n x y z are.0 also.0, paired-through S T (suc n) xs ys zs each are.1 also.1)

pub paired-same : {A : Type 0} (R : ℕ → A → A → Type 0) (n : ℕ) (xs : List A) → ((k : ℕ) (x : A) → k < n + length xs → R k x x) → Paired R n xs xs
paired-same R n [] each = tt
paired-same R n (x ∷ xs) each = (each n x (omega arith), paired-same R (suc n) xs (λ k y below. each k y (omega (arith, below))))

-- ---- from the last one on
-- Those that are left are the first ones, and of each behind them one is done, the last one first.
pub record IsUnderWay {A B : Type 0} (R : ℕ → A → B → Type 0) (all left : List A) (done : List B) : Type 0 where
  pub behind : List A
  pub split : left ++ behind ≡ all
  pub pairs : Paired R (length left) behind (reverse done)

module _ {A B : Type 0} (R : ℕ → A → B → Type 0) (all : List A) where
  pub way-none : (done : List B) → done ≡ [] → IsUnderWay R all all done
  way-none done none = record { behind = []; split = append-nil all; pairs = subst (λ (l : List B). Paired R (length all) [] (reverse l)) (sym none) tt }

  pub way-count : (left : List A) (done : List B) → IsUnderWay R all left done → length left + length done ≡ length all
  way-count left done way =
      let both = paired-count R (length left) way.behind (reverse done) way.pairs in
      omega (arith, both, length-reverse done, simp length-append at (ap length way.split))

  pub way-end : (left : List A) (done : List B) → length left ≡ 0 → IsUnderWay R all left done → Paired R 0 all (reverse done)
  way-end left done end way =
      let none = nil_from_length left end in
      subst (λ (l : List A). Paired R 0 l (reverse done)) (ap (λ (l : List A). l ++ way.behind) (sym none) ∙ way.split)
      (subst (λ n. Paired R n way.behind (reverse done)) end way.pairs)

  module _ (before after : List A) (last : A) (done : List B) (is : before ≡ after ++ last ∷ []) (way : IsUnderWay R all before done) where
    one-more-left : length before ≡ suc (length after)
    one-more-left = let one = length_push after last in omega (arith, one, ap length is)

    split-there : after ++ (last ∷ way.behind) ≡ all
    split-there = sym (append_assoc after (last ∷ []) way.behind) ∙ ap (λ (l : List A). l ++ way.behind) (sym is) ∙ way.split

    pub way-more : (new : B) → R (length after) last new → IsUnderWay R all after (done ++ new ∷ [])
    way-more new so = record {
      behind = last ∷ way.behind;
      split = split-there;
      pairs = subst (λ (l : List B). Paired R (length after) (last ∷ way.behind) l) (sym (reverse-append done (new ∷ [])))
          (so, subst (λ n. Paired R n way.behind (reverse done)) one-more-left way.pairs);
    }

    -- Those that are left stay, this one is turned into that, and of those that are done come these.
    pub way-back : (S : ℕ → A → A → Type 0) (f : B → A) (new : A) → ((k : ℕ) (x : A) → k < length after → S k x x) → S (length after) last new
        → ((k : ℕ) (x : A) (y : B) → length after < k → R k x y → S k x (f y)) → Paired S 0 all (after ++ (new ∷ map f (reverse done)))
    way-back S f new stays so each =
        let here : length after ≡ 0 + length after = omega arith in
        subst (λ (l : List A). Paired S 0 l (after ++ (new ∷ map f (reverse done)))) split-there
        (paired-join S 0 after after (last ∷ way.behind) (new ∷ map f (reverse done)) (paired-same S 0 after (λ k x below. stays k x (omega (arith, below))))
        (subst (λ n. Paired S n (last ∷ way.behind) (new ∷ map f (reverse done))) here (
          so,
          paired-into R S f (suc (length after)) way.behind (reverse done) (λ k x y from. each k x y (omega (arith, from)))
              (subst (λ n. Paired R n way.behind (reverse done)) one-more-left way.pairs),
        )))

    pub way-within : length after < length all
    way-within =
        let both = simp length-append at (ap length split-there) in
        omega (arith, both)

-- ---- what is moved from the end of one list to that of another
module _ {A B : Type 0} (front : List B) (before after : List A) (x : A) (is : before ≡ after ++ x ∷ []) where
  turned : reverse before ≡ x ∷ reverse after
  turned = ap (λ (l : List A). reverse l) is ∙ reverse-append after (x ∷ [])

  pub moved-into : (f : A → B) → (front ++ f x ∷ []) ++ map f (reverse after) ≡ front ++ map f (reverse before)
  moved-into f = append_assoc front (f x ∷ []) (map f (reverse after)) ∙ ap (λ (l : List A). front ++ map f l) (sym turned)

pub moved : {A : Type 0} (front before after : List A) (x : A) → before ≡ after ++ x ∷ [] → (front ++ x ∷ []) ++ reverse after ≡ front ++ reverse before
moved {A} front before after x is =
    append_assoc front (x ∷ []) (reverse after) ∙ ap (λ (l : List A). front ++ l) (sym (ap (λ (l : List A). reverse l) is ∙ reverse-append after (x ∷ [])))

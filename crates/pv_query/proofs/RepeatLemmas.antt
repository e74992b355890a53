-- Lists freed of repeats: how they grow by one value after another, and that they contain the values that they were made of.
use Rattle.std.proofs.Common.{◌≡◌, ⊎_elim, ℕ, ◌+◌, ◌<◌, ◌≤◌, Bool, true, false, cond, List, [], ◌∷◌, length, get_or, drop, refl, sym, ap, subst, ◌∙◌, ◌≢◌, arith}
use Rattle.std.specs.Prelude.{not, ◌&&◌, ◌||◌, ◌++◌, map, if◌then◌else◌, Some}
use Rattle.std.specs.List.{AllPairs, Contains, filter, list_any}
use Rattle.std.proofs.lemmas.Bool.{false≢true}
use Rattle.std.proofs.lemmas.List.{append_assoc, append-nil, at_drop_more, drop_all}
use Rattle.std.proofs.lemmas.List.Elements.{All-contains, All-contains_itself, All-filter, All-weaker, filter_passes}
use Rattle.std.proofs.lemmas.List.Kept.{AllPairs-cons, AllPairs-filter}
use Rattle.std.proofs.lemmas.List.Folds.{list_any-append}
use Rattle.pv_model.specs.PossibleAnswers.{without_repeats, only}
use Rattle.pv_base.proofs.Basics.{Some_inj}
use Rattle.pv_base.proofs.ContainsLemmas.{Contains-first, Contains-behind, Contains-nil, Contains-cases, Contains-filter}
use Rattle.pv_query.specs.Repeats.{with_new}

and-yes : (b : Bool) → (b && true) ≡ b
and-yes true = refl
and-yes false = refl

and-not : (b : Bool) → (b && false) ≡ false
and-not true = refl
and-not false = refl

not-or : (a b : Bool) → not (a || (b || false)) ≡ (not a && not b)
not-or true b = refl
not-or false true = refl
not-or false false = refl

hidden : (b : Bool) → not b ≡ true → b ≡ true → ⊥
hidden true kept is = false≢true kept
hidden false kept is = false≢true is

not-from : (b : Bool) → (b ≡ true → ⊥) → not b ≡ true
not-from true never = absurd (never refl)
not-from false never = refl

module _ {V : Type 0} where
  -- Filters after one another.

  filter-whole : (p : V → Bool) (xs : List V) → ((x : V) → p x ≡ true) → filter p xs ≡ xs
  filter-whole p [] all = refl
  filter-whole p (x ∷ xs) all =
      ap (λ (b : Bool). cond b (x ∷ filter p xs) (filter p xs)) (all x) ∙ ap (λ ys. x ∷ ys) (filter-whole p xs all)

  refused-out : (p q : V → Bool) (x : V) (ys : List V) (b : Bool) → ((y : V) → p y ≡ true → q y ≡ true) → q x ≡ false → p x ≡ b
      → cond (p x) (x ∷ ys) ys ≡ ys
  refused-out p q x ys true within is passes = absurd (false≢true (sym is ∙ within x passes))
  refused-out p q x ys false within is fails = ap (λ (b : Bool). cond b (x ∷ ys) ys) fails

  absorbed-by : (p q : V → Bool) (x : V) (xs : List V) (b : Bool) → ((y : V) → p y ≡ true → q y ≡ true) → q x ≡ b
      → filter p (filter q xs) ≡ filter p xs → filter p (cond b (x ∷ filter q xs) (filter q xs)) ≡ filter p (x ∷ xs)
  absorbed-by p q x xs true within is rest = ap (λ ys. cond (p x) (x ∷ ys) ys) rest
  absorbed-by p q x xs false within is rest = rest ∙ sym (refused-out p q x (filter p xs) (p x) within is refl)

  -- A first filter that keeps all that the next one keeps makes no difference.
  filter-absorbed : (p q : V → Bool) (xs : List V) → ((y : V) → p y ≡ true → q y ≡ true) → filter p (filter q xs) ≡ filter p xs
  filter-absorbed p q [] within = refl
  filter-absorbed p q (x ∷ xs) within = absorbed-by p q x xs (q x) within refl (filter-absorbed p q xs within)

  joined-by : (p q r : V → Bool) (x : V) (xs : List V) (b : Bool) → r x ≡ (p x && b) → q x ≡ b
      → filter p (filter q xs) ≡ filter r xs → filter p (cond b (x ∷ filter q xs) (filter q xs)) ≡ filter r (x ∷ xs)
  joined-by p q r x xs true is test rest =
      ap (λ ys. cond (p x) (x ∷ ys) ys) rest ∙ ap (λ (b : Bool). cond b (x ∷ filter r xs) (filter r xs)) (sym (is ∙ and-yes (p x)))
  joined-by p q r x xs false is test rest =
      rest ∙ ap (λ (b : Bool). cond b (x ∷ filter r xs) (filter r xs)) (sym (is ∙ and-not (p x)))

  -- Two filters after one another keep what both keep.
  filter-joined : (p q r : V → Bool) (xs : List V) → ((y : V) → r y ≡ (p y && q y)) → filter p (filter q xs) ≡ filter r xs
  filter-joined p q r [] is = refl
  filter-joined p q r (x ∷ xs) is = joined-by p q r x xs (q x) (is x) refl (filter-joined p q r xs is)

  -- What is left to come of values, after those that are kept.

  -- No kept value is the same as this one.
  abbrev is_new : (V → V → Bool) → List V → V → Bool
  is_new same kept value = not (list_any (λ other. same other value) kept)

  abbrev pub left_of : (V → V → Bool) → List V → List V → List V
  left_of same kept values = filter (is_new same kept) (without_repeats same values)

  -- Nothing is kept at first.
  pub left-first : (same : V → V → Bool) (values : List V) → left_of same [] values ≡ without_repeats same values
  left-first same values = filter-whole (is_new same []) (without_repeats same values) (λ x. refl)

  in-list : (same : V → V → Bool) → ((x y : V) → same x y ≡ true → x ≡ y) → (kept : List V) (value : V)
      → list_any (λ other. same other value) kept ≡ true → (y : V) → is_new same kept y ≡ true → not (same value y) ≡ true
  in-list same exact kept value is y new =
      not-from (same value y) (λ equal. hidden (list_any (λ other. same other y) kept) new
      (subst (λ z. list_any (λ other. same other z) kept ≡ true) (exact value y equal) is))

  next-by : (same : V → V → Bool) → ((x y : V) → same x y ≡ true → x ≡ y) → (kept : List V) (value : V) (rest : List V) (b : Bool)
      → list_any (λ other. same other value) kept ≡ b
      → (kept ++ filter (is_new same kept) (value ∷ filter (λ other. not (same value other)) (without_repeats same rest)))
      ≡ ((if b then kept else kept ++ (value ∷ [])) ++ left_of same (if b then kept else kept ++ (value ∷ [])) rest)
  next-by same exact kept value rest true is =
      let others = filter (λ other. not (same value other)) (without_repeats same rest) in
      ap (λ (b : Bool). kept ++ cond (not b) (value ∷ filter (is_new same kept) others) (filter (is_new same kept) others)) is
      ∙ ap (λ ys. kept ++ ys) (filter-absorbed (is_new same kept) (λ other. not (same value other)) (without_repeats same rest) (in-list same exact kept value is))
  next-by same exact kept value rest false is =
      let others = filter (λ other. not (same value other)) (without_repeats same rest) in
      ap (λ (b : Bool). kept ++ cond (not b) (value ∷ filter (is_new same kept) others) (filter (is_new same kept) others)) is
      ∙ ap (λ ys. kept ++ (value ∷ ys)) (filter-joined (is_new same kept) (λ other. not (same value other)) (is_new same (kept ++ (value ∷ []))) (without_repeats same rest)
      (λ y. ap not (list_any-append (λ other. same other y) kept (value ∷ [])) ∙ not-or (list_any (λ other. same other y) kept) (same value y)))
      ∙ sym (append_assoc kept (value ∷ []) (left_of same (kept ++ (value ∷ [])) rest))

  -- One more value is added.
  pub left-next : (same : V → V → Bool) → ((x y : V) → same x y ≡ true → x ≡ y) → (kept : List V) (value : V) (rest : List V)
      → (kept ++ left_of same kept (value ∷ rest)) ≡ (with_new same kept value ++ left_of same (with_new same kept value) rest)
  left-next same exact kept value rest = next-by same exact kept value rest (list_any (λ other. same other value) kept) refl

  -- A loop over what gives the values has come one further.
  pub left-step : {X : Type 0} (same : V → V → Bool) → ((x y : V) → same x y ≡ true → x ≡ y) → (f : X → V) (all kept more : List V) (xs : List X) (i : ℕ) (x : X) (value : V)
      → i < length xs → x ≡ get_or xs i x → value ≡ f x → (kept ++ left_of same kept (map f (drop i xs))) ≡ all → more ≡ with_new same kept value
      → (more ++ left_of same more (map f (drop (i + 1) xs))) ≡ all
  left-step same exact f all kept more xs i x value within at is old new =
      ap (λ ys. ys ++ left_of same ys (map f (drop (i + 1) xs))) (new ∙ ap (with_new same kept) is)
      ∙ sym (left-next same exact kept (f x) (map f (drop (i + 1) xs)))
      ∙ ap (λ z. kept ++ left_of same kept (f z ∷ map f (drop (i + 1) xs))) at
      ∙ sym (at_drop_more (λ ys. kept ++ left_of same kept (map f ys)) xs i x within)
      ∙ old

  -- The loop begins.
  pub left-start : {X : Type 0} (same : V → V → Bool) (f : X → V) (kept : List V) (xs ys : List X) → kept ≡ [] → xs ≡ ys
      → (kept ++ left_of same kept (map f (drop 0 xs))) ≡ without_repeats same (map f ys)
  left-start same f kept xs ys none is =
      ap (λ (zs : List V). zs ++ left_of same zs (map f xs)) none ∙ left-first same (map f xs) ∙ ap (λ zs. without_repeats same (map f zs)) is

  -- The loop has come to the end.
  pub left-end : {X : Type 0} (same : V → V → Bool) (f : X → V) (all kept : List V) (xs : List X) (i : ℕ) → length xs ≤ i
      → (kept ++ left_of same kept (map f (drop i xs))) ≡ all → kept ≡ all
  left-end same f all kept xs i past is =
      sym (ap (λ ys. kept ++ left_of same kept (map f ys)) (drop_all i xs past) ∙ append-nil kept) ∙ is

  -- What such a list contains.

  pub Contains-from-repeats : (same : V → V → Bool) (values : List V) (x : V) → Contains (without_repeats same values) x → Contains values x
  Contains-from-repeats same [] x h = h
  Contains-from-repeats same (value ∷ values) x h =
      ⊎_elim
      (λ first. subst (Contains (value ∷ values)) first (Contains-first value values))
      (λ behind. Contains-behind value values x (Contains-from-repeats same values x
      (All-contains (Contains (without_repeats same values)) (filter (λ other. not (same value other)) (without_repeats same values)) x
      (All-filter (λ other. not (same value other)) (Contains (without_repeats same values)) (without_repeats same values) (All-contains_itself (without_repeats same values)))
      behind)))
      (Contains-cases value _ x h)

  kept-or-first : (same : V → V → Bool) → ((x y : V) → same x y ≡ true → x ≡ y) → (value : V) (others : List V) (x : V) (b : Bool) → same value x ≡ b
      → Contains others x → Contains (value ∷ filter (λ other. not (same value other)) others) x
  kept-or-first same exact value others x true is h = subst (Contains (value ∷ _)) (exact value x is) (Contains-first value _)
  kept-or-first same exact value others x false is h =
      Contains-behind value _ x (Contains-filter (λ other. not (same value other)) others x (ap not is) h)

  pub Contains-repeats : (same : V → V → Bool) → ((x y : V) → same x y ≡ true → x ≡ y) → (values : List V) (x : V)
      → Contains values x → Contains (without_repeats same values) x
  Contains-repeats same exact [] x h = h
  Contains-repeats same exact (value ∷ values) x h =
      ⊎_elim
      (λ first. subst (Contains (without_repeats same (value ∷ values))) first (Contains-first value _))
      (λ behind. kept-or-first same exact value (without_repeats same values) x (same value x) refl (Contains-repeats same exact values x behind))
      (Contains-cases value values x h)

  -- the only one is all there is
  only-contained : (xs : List V) (v : V) → only xs ≡ Some v → (x : V) → Contains xs x → v ≡ x
  only-contained [] v is x h = absurd (Contains-nil x h)
  only-contained (y ∷ []) v is x h =
      ⊎_elim (λ first. sym (Some_inj is) ∙ first) (λ behind. absurd (Contains-nil x behind)) (Contains-cases y [] x h)
  only-contained (y ∷ z ∷ xs) v is x h = absurd (let never : ⊥ = cc in never)

  -- Where only one value is left without repeats, each value is that one.
  pub only-value : (same : V → V → Bool) → ((x y : V) → same x y ≡ true → x ≡ y) → (values : List V) (v : V) → only (without_repeats same values) ≡ Some v
      → (x : V) → Contains values x → v ≡ x
  only-value same exact values v is x h = only-contained (without_repeats same values) v is x (Contains-repeats same exact values x h)

  -- No value stands twice.
  pub repeats-distinct : (same : V → V → Bool) → ((x : V) → same x x ≡ true) → (values : List V) → AllPairs (λ x y. x ≢ y) (without_repeats same values)
  repeats-distinct same itself [] = λ i j d before within. absurd (omega (arith, within))
  repeats-distinct same itself (value ∷ values) =
      let other = λ (y : V). not (same value y) in
      let rest = filter other (without_repeats same values) in
      AllPairs-cons (λ x y. x ≢ y) value rest
      (All-weaker (λ (y : V). other y ≡ true) (λ (y : V). value ≢ y)
      (λ y kept equal. hidden (same value y) kept (subst (λ z. same value z ≡ true) equal (itself value))) rest (filter_passes other (without_repeats same values)))
      (AllPairs-filter (λ x y. x ≢ y) other (without_repeats same values) (repeats-distinct same itself values))

-- What lists contain that have one more, or lists of what belongs to transactions.
use Rattle.std.proofs.Common.{◌≡◌, ◌⊎◌, ⊎_elim, ℕ, zero, suc, Bool, true, false, Some, None, Option, List, [], ◌∷◌, ◌++◌, inl, inr, refl, sym, subst, ◌∙◌}
use Rattle.std.specs.Prelude.{◌==◌, get_or, set, not, if◌then◌else◌}
use Rattle.std.specs.List.{Contains, find, list_all, list_any}
use Rattle.std.proofs.lemmas.Bool.{and_parts, and_from, eqb-true, eq-eqb, or_cases, or_left, or_right, false≢true}
use Rattle.std.proofs.lemmas.List.Elements.{Contains-append_cases, Contains-append_left, Contains-append_right}
use Rattle.std.proofs.lemmas.Option.{none-some}
use Rattle.pv_base.proofs.Basics.{Some_inj}
use Rattle.pv_base.proofs.ContainsLemmas.{Contains-first, Contains-behind, Contains-nil, Contains-cases}
use Rattle.pv_base.specs.Assignment.{is_same_txn, precedes}
use Rattle.pv_base.specs.declared.txn.TxnId.{TxnId}
use Rattle.pv_law_canonical.proofs.FilterLemmas.{kept-listed}
use Rattle.pv_protocol.specs.Here.{is_among}
use Rattle.pv_protocol.specs.Keyed.{with_one, without}
use Rattle.pv_protocol.specs.State.{Site}
use Rattle.pv_protocol.specs.World.{no_site}

-- A list with one more at its end.

pub listed-last : {X : Type 0} (xs : List X) (x : X) → Contains (xs ++ x ∷ []) x
listed-last xs x = Contains-append_right xs (x ∷ []) x (Contains-first x [])

pub listed-before : {X : Type 0} (xs : List X) (x y : X) → Contains xs y → Contains (xs ++ x ∷ []) y
listed-before xs x y h = Contains-append_left xs (x ∷ []) y h

pub listed-either : {X : Type 0} (xs : List X) (x y : X) → Contains (xs ++ x ∷ []) y → Contains xs y ⊎ (x ≡ y)
listed-either xs x y h =
    ⊎_elim
    (λ old. inl old)
    (λ new. inr (⊎_elim (λ same. same) (λ wrong. absurd (Contains-nil y wrong)) (Contains-cases x [] y new)))
    (Contains-append_cases xs (x ∷ []) y h)

-- Lists of what belongs to transactions.

module _ {X : Type 0} (txn_of : X → TxnId) where
  pub put-listed : (x : X) (xs : List X) (y : X) → Contains (with_one txn_of x xs) y → Contains xs y ⊎ (x ≡ y)
  put-listed x [] y h = ⊎_elim (λ same. inr same) (λ wrong. absurd (Contains-nil y wrong)) (Contains-cases x [] y h)
  put-listed x (first ∷ rest) y h =
      by (is_same_txn (txn_of x) (txn_of first)) (precedes (txn_of x) (txn_of first)) (put-listed x rest y) h where
        by : (b c : Bool) → (Contains (with_one txn_of x rest) y → Contains rest y ⊎ (x ≡ y))
            → Contains (if b then x ∷ rest else (if c then x ∷ (first ∷ rest) else first ∷ with_one txn_of x rest)) y → Contains (first ∷ rest) y ⊎ (x ≡ y)
        by true c later h = ⊎_elim (λ same. inr same) (λ behind. inl (Contains-behind first rest y behind)) (Contains-cases x rest y h)
        by false true later h = ⊎_elim (λ same. inr same) (λ behind. inl behind) (Contains-cases x (first ∷ rest) y h)
        by false false later h =
            ⊎_elim
            (λ same. inl (subst (Contains (first ∷ rest)) same (Contains-first first rest)))
            (λ behind. ⊎_elim (λ old. inl (Contains-behind first rest y old)) (λ new. inr new) (later behind))
            (Contains-cases first (with_one txn_of x rest) y h)

  pub taken-out-listed : (txn : TxnId) (xs : List X) (y : X) → Contains (without txn_of txn xs) y → Contains xs y
  taken-out-listed txn xs y h = kept-listed (λ x. not (is_same_txn txn (txn_of x))) xs y h

-- What holds of each site, where one is put among them of which it holds.
pub put-each : (P : ℕ → Site → Type 0) (sites : List Site) (k : ℕ) (site : Site) → P k site
    → ((n : ℕ) → P n (get_or sites n no_site)) → (n : ℕ) → P n (get_or (set sites k site) n no_site)
put-each P [] k site new old n = old n
put-each P (first ∷ sites) zero site new old zero = new
put-each P (first ∷ sites) zero site new old (suc n) = old (suc n)
put-each P (first ∷ sites) (suc k) site new old zero = old zero
put-each P (first ∷ sites) (suc k) site new old (suc n) = put-each (λ m s. P (suc m) s) sites k site new (λ m. old (suc m)) n

none-by : {X : Type 0} (b : Bool) (p : X → Bool) (y : X) (ys : List X) (x : X) (rest : Option X) → p y ≡ b → (if b then Some y else rest) ≡ None
    → (rest ≡ None → Contains ys x → ⊥) → Contains (y ∷ ys) x → p x ≡ true → ⊥
none-by true p y ys x rest here is later h passes = cc
none-by false p y ys x rest here is later h passes =
    ⊎_elim (λ same. false≢true (sym here ∙ subst (λ z. p z ≡ true) (sym same) passes)) (λ behind. later is behind) (Contains-cases y ys x h)

-- Where none is found, none passes.
pub none-found : {X : Type 0} (p : X → Bool) (xs : List X) → find p xs ≡ None → (x : X) → Contains xs x → p x ≡ true → ⊥
none-found p [] is x h passes = Contains-nil x h
none-found p (y ∷ ys) is x h passes = none-by (p y) p y ys x (find p ys) refl is (λ none k. none-found p ys none x k passes) h passes

found-by : {X : Type 0} (b : Bool) (y x : X) (ys : List X) (rest : Option X) → (rest ≡ Some x → Contains ys x) → (if b then Some y else rest) ≡ Some x → Contains (y ∷ ys) x
found-by true y x ys rest later is = subst (Contains (y ∷ ys)) (Some_inj is) (Contains-first y ys)
found-by false y x ys rest later is = Contains-behind y ys x (later is)

-- What is found is there.
pub found-listed : {X : Type 0} (p : X → Bool) (xs : List X) (x : X) → find p xs ≡ Some x → Contains xs x
found-listed p [] x is = absurd (none-some _ is)
found-listed p (y ∷ ys) x is = found-by (p y) y x ys (find p ys) (found-listed p ys x) is

-- Tests of all members, and of some.

pub any-listed : {X : Type 0} (p : X → Bool) (xs : List X) → list_any p xs ≡ true → (x : X) × (Contains xs x × (p x ≡ true))
any-listed p [] h = absurd (false≢true h)
any-listed p (x ∷ xs) h =
    ⊎_elim
    (λ first. (x, (Contains-first x xs, first)))
    (λ rest. let found = any-listed p xs rest in (found.0, (Contains-behind x xs found.0 found.1.0, found.1.1)))
    (or_cases (p x) (list_any p xs) h)

pub listed-any : {X : Type 0} (p : X → Bool) (xs : List X) (x : X) → Contains xs x → p x ≡ true → list_any p xs ≡ true
listed-any p [] x h passes = absurd (Contains-nil x h)
listed-any p (y ∷ ys) x h passes =
    ⊎_elim
    (λ same. or_left (p y) (list_any p ys) (subst (λ z. p z ≡ true) (sym same) passes))
    (λ behind. or_right (p y) (list_any p ys) (listed-any p ys x behind passes))
    (Contains-cases y ys x h)

pub all-listed : {X : Type 0} (p : X → Bool) (xs : List X) → list_all p xs ≡ true → (x : X) → Contains xs x → p x ≡ true
all-listed p [] all x h = absurd (Contains-nil x h)
all-listed p (y ∷ ys) all x h =
    let parts = and_parts (p y) (list_all p ys) all in
    ⊎_elim (λ same. subst (λ z. p z ≡ true) same parts.0) (λ behind. all-listed p ys parts.1 x behind) (Contains-cases y ys x h)

pub listed-all : {X : Type 0} (p : X → Bool) (xs : List X) → ((x : X) → Contains xs x → p x ≡ true) → list_all p xs ≡ true
listed-all p [] each = refl
listed-all p (y ∷ ys) each =
    and_from (p y) (list_all p ys) (each y (Contains-first y ys)) (listed-all p ys (λ x h. each x (Contains-behind y ys x h)))

pub among-listed : (sites : List ℕ) (n : ℕ) → is_among sites n ≡ true → Contains sites n
among-listed sites n is =
    let found = any-listed (λ other. n == other) sites is in subst (Contains sites) (sym (eqb-true n found.0 found.1.1)) found.1.0

pub listed-among : (sites : List ℕ) (n : ℕ) → Contains sites n → is_among sites n ≡ true
listed-among sites n h = listed-any (λ other. n == other) sites n h (eq-eqb n n refl)

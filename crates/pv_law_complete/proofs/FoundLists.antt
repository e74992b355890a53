-- What is found in lists of grants, entries and what was taken.
use Rattle.std.proofs.Common.{◌≡◌, ◌⊎◌, ⊎_elim, inl, inr, ℕ, zero, suc, Bool, true, false, ◌||◌, Some, None, Option, List, [], ◌∷◌, eq-eqb, refl, sym, ap, subst, ◌∙◌}
use Rattle.std.specs.Prelude.{◌==◌, ◌&&◌, nat_lt, if◌then◌else◌, map, slice_get}
use Rattle.std.specs.List.{Contains, list_any, find, filter_map}
use Rattle.std.specs.Bool.{beq}
use Rattle.std.proofs.lemmas.Bool.{false≢true}
use Rattle.std.proofs.lemmas.Option.{none-some}
use Rattle.pv_base.proofs.Basics.{Some_inj}
use Rattle.pv_base.proofs.ContainsLemmas.{Contains-nil, Contains-cases, Contains-first, Contains-behind}
use Rattle.pv_base.specs.Assignment.{is_same_txn}
use Rattle.pv_base.specs.Catalog.{Item}
use Rattle.pv_base.specs.Want.{Want}
use Rattle.pv_base.specs.declared.txn.TxnId.{TxnId}
use Rattle.pv_protocol.specs.Coordinate.{with_taken, exclusive_items}
use Rattle.pv_protocol.specs.Keyed.{of_txn}
use Rattle.pv_protocol.specs.Lock.{is_of_site, are_same_wants}
use Rattle.pv_protocol.specs.State.{Taken}

-- what a list of one has
pub one-is : {X : Type 0} (x y : X) → Contains (x ∷ []) y → x ≡ y
one-is x y h = ⊎_elim (λ same. same) (λ behind. absurd (Contains-nil y behind)) (Contains-cases x [] y h)

-- What belongs to a transaction is found with a further test that it passes.
pub found-so : {X : Type 0} (key : X → TxnId) (q : X → Bool) (txn : TxnId) (xs : List X) (x : X) → of_txn key txn xs ≡ Some x → q x ≡ true
    → find (λ y. is_same_txn txn (key y) && q y) xs ≡ Some x
found-so key q txn [] x is holds = absurd (none-some _ is)
found-so {X = X} key q txn (y ∷ ys) x is holds = by (is_same_txn txn (key y)) is (λ later. found-so key q txn ys x later holds) where
  by : (b : Bool) → (if b then Some y else of_txn key txn ys) ≡ Some x → (of_txn key txn ys ≡ Some x → find (λ y. is_same_txn txn (key y) && q y) ys ≡ Some x)
      → (if b && q y then Some y else find (λ y. is_same_txn txn (key y) && q y) ys) ≡ Some x
  by true is later = ap (λ (b : Bool). if b then Some y else find (λ y. is_same_txn txn (key y) && q y) ys) (ap q (Some_inj is) ∙ holds) ∙ is
  by false is later = later is

-- What passes is found.
pub any-found : {X : Type 0} (p : X → Bool) (xs : List X) → list_any p xs ≡ true → (x : X) × (find p xs ≡ Some x)
any-found p [] is = absurd (false≢true is)
any-found {X = X} p (y ∷ ys) is = by (p y) is (any-found p ys) where
  by : (b : Bool) → (b || list_any p ys) ≡ true → (list_any p ys ≡ true → (x : X) × (find p ys ≡ Some x)) → (x : X) × ((if b then Some y else find p ys) ≡ Some x)
  by true is later = (y, refl)
  by false is later = later is

pub filter-map-listed : {X Y : Type 0} (f : X → Option Y) (xs : List X) (x : X) (y : Y) → Contains xs x → f x ≡ Some y → Contains (filter_map f xs) y
filter-map-listed f [] x y h is = absurd (Contains-nil x h)
filter-map-listed {Y = Y} f (first ∷ rest) x y h is =
    by (f first) refl (⊎_elim (λ same. inl (ap f same ∙ is)) (λ behind. inr (filter-map-listed f rest x y behind is)) (Contains-cases first rest x h)) where
      by : (o : Option Y) → f first ≡ o → (f first ≡ Some y) ⊎ Contains (filter_map f rest) y → Contains (filter_map f (first ∷ rest)) y
      by None none which =
          let back : filter_map f rest ≡ filter_map f (first ∷ rest) = cc in
          subst (λ ys. Contains ys y) back (⊎_elim (λ same. absurd (none-some _ (sym none ∙ same))) (λ later. later) which)
      by (Some z) some which =
          let back : z ∷ filter_map f rest ≡ filter_map f (first ∷ rest) = cc in
          subst (λ ys. Contains ys y) back
          (⊎_elim (λ same. subst (Contains (z ∷ filter_map f rest)) (Some_inj (sym some ∙ same)) (Contains-first z (filter_map f rest))) (λ later. Contains-behind z (filter_map f rest) y later) which)

or-swap : (a b c : Bool) → (a || (b || c)) ≡ (b || (a || c))
or-swap true true c = refl
or-swap true false c = refl
or-swap false b c = refl

-- From which sites something was taken, with one more.
pub taken-more : (taken : Taken) (all : List Taken) (n : ℕ) → list_any (λ (t : Taken). t.site == n) (with_taken taken all) ≡ ((taken.site == n) || list_any (λ (t : Taken). t.site == n) all)
taken-more taken [] n = refl
taken-more taken (first ∷ rest) n = by (nat_lt taken.site first.site) (taken-more taken rest n) where
  by : (b : Bool) → list_any (λ (t : Taken). t.site == n) (with_taken taken rest) ≡ ((taken.site == n) || list_any (λ (t : Taken). t.site == n) rest)
      → list_any (λ (t : Taken). t.site == n) (if b then taken ∷ (first ∷ rest) else first ∷ with_taken taken rest)
      ≡ ((taken.site == n) || ((first.site == n) || list_any (λ (t : Taken). t.site == n) rest))
  by true later = refl
  by false later = ap (λ (b : Bool). (first.site == n) || b) later ∙ or-swap (first.site == n) (taken.site == n) (list_any (λ (t : Taken). t.site == n) rest)

pub home-at : (items : List Item) (k n : ℕ) → slice_get (map (λ (d : Item). d.site) items) k ≡ Some n → is_of_site n (slice_get items k) ≡ true
home-at [] zero n is = absurd (none-some _ is)
home-at [] (suc k) n is = absurd (none-some _ is)
home-at (d ∷ ds) zero n is = eq-eqb d.site n (Some_inj is)
home-at (d ∷ ds) (suc k) n is = home-at ds k n is

beq-self : (b : Bool) → beq b b ≡ true
beq-self true = refl
beq-self false = refl

pub same-wants-self : (wants : List Want) → are_same_wants wants wants ≡ true
same-wants-self [] = refl
same-wants-self (want ∷ wants) =
    ap (λ (b : Bool). (b && beq want.exclusive want.exclusive) && are_same_wants wants wants) (eq-eqb want.item want.item refl)
    ∙ (ap (λ (b : Bool). b && are_same_wants wants wants) (beq-self want.exclusive) ∙ same-wants-self wants)

-- What is wanted exclusively is wanted.
pub exclusive-wanted : (wants : List Want) (item : ℕ) → Contains (exclusive_items wants) item → Contains (map (λ (want : Want). want.item) wants) item
exclusive-wanted [] item h = absurd (Contains-nil item h)
exclusive-wanted (want ∷ wants) item h = by want.exclusive refl h (exclusive-wanted wants item) where
  by : (b : Bool) → want.exclusive ≡ b → Contains (exclusive_items (want ∷ wants)) item → (Contains (exclusive_items wants) item → Contains (map (λ (want : Want). want.item) wants) item) → Contains (want.item ∷ map (λ (want : Want). want.item) wants) item
  by true is h later =
      let back : exclusive_items (want ∷ wants) ≡ want.item ∷ exclusive_items wants = cc in
      ⊎_elim
      (λ same. subst (Contains (want.item ∷ map (λ (want : Want). want.item) wants)) same (Contains-first want.item _))
      (λ behind. Contains-behind want.item _ item (later behind))
      (Contains-cases want.item (exclusive_items wants) item (subst (λ ys. Contains ys item) back h))
  by false is h later =
      let back : exclusive_items (want ∷ wants) ≡ exclusive_items wants = cc in
      Contains-behind want.item _ item (later (subst (λ ys. Contains ys item) back h))

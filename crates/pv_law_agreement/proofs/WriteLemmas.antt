-- Which items a transaction writes at a site.
use Rattle.std.proofs.Common.{◌≡◌, ℤ, ◌⊎◌, ⊎_elim, ℕ, zero, suc, Bool, true, false, ◌||◌, Some, None, Option, List, [], ◌∷◌, inl, inr, map, filter, refl, sym, ap, subst, ◌∙◌, arith}
use Rattle.std.specs.Prelude.{◌==◌, IsSome, if◌then◌else◌, slice_get}
use Rattle.std.specs.List.{Contains}
use Rattle.std.proofs.lemmas.Bool.{eqb-true, eq-eqb, or_cases, or_left, or_right}
use Rattle.std.proofs.lemmas.List.Elements.{All-contains, filter_passes}
use Rattle.pv_base.specs.Catalog.{Item, Declared}
use Rattle.pv_base.specs.Polyvalue.{Case}
use Rattle.pv_base.specs.Want.{Want}
use Rattle.pv_base.specs.declared.txn.TxnId.{TxnId}
use Rattle.pv_base.proofs.Basics.{Some_inj, never}
use Rattle.pv_base.proofs.ContainsLemmas.{Contains-first, Contains-behind, Contains-nil, Contains-cases, Contains-filter}
use Rattle.pv_base.proofs.MapLemmas.{Contains-map, Contains-unmap}
use Rattle.pv_law_canonical.proofs.FilterLemmas.{kept-listed}
use Rattle.pv_law_agreement.specs.Promises.{ArePromised}
use Rattle.pv_law_programs.proofs.PlanLemmas.{wants-have, wants-each, sites-have}
use Rattle.pv_model.specs.Alternatives.{Read}
use Rattle.pv_model.specs.Check.{names_item, IsAt, IsWant}
use Rattle.pv_model.specs.Plan.{want_of, wants_of, participants_of}
use Rattle.pv_model.specs.ProgramLaws.{assigns}
use Rattle.pv_model.specs.Syntax.{Program, end, assign, require, certain, return, when, when_else}
use Rattle.pv_protocol.specs.Coordinate.{exclusive_items}
use Rattle.pv_protocol.specs.Shown.{written}
use Rattle.pv_protocol.specs.State.{Placed}

-- A program names what it assigns.

or-both : (a b c d : Bool) → (a ≡ true → c ≡ true) → (b ≡ true → d ≡ true) → (a || b) ≡ true → (c || d) ≡ true
or-both a b c d left right is = ⊎_elim (λ h. or_left c d (left h)) (λ h. or_right c d (right h)) (or_cases a b is)

pub assigns-names : (program : Program) (n : ℕ) → assigns program n ≡ true → names_item program n ≡ true
assigns-names end n is = is
assigns-names (assign m e next) n is = or-both (m == n) (assigns next n) (m == n) _ (λ h. h) (λ h. or_right _ (names_item next n) (assigns-names next n h)) is
assigns-names (require e next) n is = or_right _ (names_item next n) (assigns-names next n is)
assigns-names (certain m next) n is = or_right _ (names_item next n) (assigns-names next n is)
assigns-names (return e next) n is = or_right _ (names_item next n) (assigns-names next n is)
assigns-names (when e body next) n is =
    or_right _ (names_item body n || names_item next n) (or-both (assigns body n) (assigns next n) (names_item body n) (names_item next n) (assigns-names body n) (assigns-names next n) is)
assigns-names (when_else e body other next) n is =
    or_right _ (names_item body n || (names_item other n || names_item next n))
    (or-both (assigns body n) (assigns other n || assigns next n) (names_item body n) (names_item other n || names_item next n) (assigns-names body n)
    (or-both (assigns other n) (assigns next n) (names_item other n) (names_item next n) (assigns-names other n) (assigns-names next n)) is)

-- The items that are written.

written-by : (item : ℕ) (write : Read) (writes : List Read) (b : Bool) → (write.item == item) ≡ b → (IsSome (written item writes) → Contains (map (λ (w : Read). w.item) writes) item)
    → IsSome (if b then Some write.cases else written item writes) → Contains (write.item ∷ map (λ (w : Read). w.item) writes) item
written-by item write writes true here later is = subst (Contains (write.item ∷ map (λ (w : Read). w.item) writes)) (eqb-true write.item item here) (Contains-first write.item (map (λ (w : Read). w.item) writes))
written-by item write writes false here later is = Contains-behind write.item (map (λ (w : Read). w.item) writes) item (later is)

pub written-listed : (item : ℕ) (writes : List Read) → IsSome (written item writes) → Contains (map (λ (w : Read). w.item) writes) item
written-listed item [] is = absurd (never is)
written-listed item (write ∷ writes) is = written-by item write writes (write.item == item) refl (written-listed item writes) is

some-if : {X : Type 0} (b : Bool) (x : X) (o : Option X) → (b ≡ true) ⊎ IsSome o → IsSome (if b then Some x else o)
some-if true x o h = refl
some-if false x o (inl h) = absurd (never h)
some-if false x o (inr h) = h

pub listed-written : (item : ℕ) (writes : List Read) → Contains (map (λ (w : Read). w.item) writes) item → IsSome (written item writes)
listed-written item [] h = absurd (Contains-nil item h)
listed-written item (write ∷ writes) h =
    some-if (write.item == item) write.cases (written item writes)
    (⊎_elim (λ same. inl (eq-eqb write.item item same)) (λ behind. inr (listed-written item writes behind)) (Contains-cases write.item (map (λ (w : Read). w.item) writes) item h))

-- what is there, where something is
pub some-value : {X : Type 0} (o : Option X) → IsSome o → (x : X) × (o ≡ Some x)
some-value None is = absurd (never is)
some-value (Some x) is = (x, refl)

-- What is read of a list that a function makes for some items.
abbrev pub made : (ℕ → List (Case ℤ)) → ℕ → Read
made f k = record { item = k; cases = f k }

pub made-of : (f : ℕ → List (Case ℤ)) (item : ℕ) (items : List ℕ) (cases : List (Case ℤ)) → written item (map (made f) items) ≡ Some cases
    → (cases ≡ f item) × Contains items item
made-of f item [] cases is = absurd (let wrong : ⊥ = cc in wrong)
made-of f item (k ∷ items) cases is = by (k == item) refl (λ later. made-of f item items cases later) is
  where
    by : (b : Bool) → (k == item) ≡ b → (written item (map (made f) items) ≡ Some cases → (cases ≡ f item) × Contains items item)
        → (if b then Some (f k) else written item (map (made f) items)) ≡ Some cases → (cases ≡ f item) × Contains (k ∷ items) item
    by true here later is = let same : k ≡ item = eqb-true k item here in (sym (Some_inj is) ∙ ap f same, subst (Contains (k ∷ items)) same (Contains-first k items))
    by false here later is = let rest = later is in (rest.0, Contains-behind k items item rest.1)

-- Exclusive items.

module _ (items : List Item) (program : Program) (site : ℕ) where
  -- The item is at the site, and the program assigns it.
  pub record IsAssignedAt (item : ℕ) : Type 0 where
    pub home : IsAt items item site
    pub assigned : assigns program item ≡ true

  pub exclusive-assigned : (item : ℕ) → Contains (exclusive_items (wants_of program items site)) item → IsAssignedAt item
  exclusive-assigned item h =
      let found = Contains-unmap (λ (w : Want). w.item) (filter (λ (w : Want). w.exclusive) (wants_of program items site)) item h in
      let kept = kept-listed (λ (w : Want). w.exclusive) (wants_of program items site) found.0 found.1.0 in
      let passes = All-contains (λ (w : Want). w.exclusive ≡ true) (filter (λ (w : Want). w.exclusive) (wants_of program items site)) found.0 (filter_passes (λ (w : Want). w.exclusive) (wants_of program items site)) found.1.0 in
      let is = All-contains (IsWant program items site) (wants_of program items site) found.0 (wants-each program items site) kept in
      record {
        home = subst (λ n. IsAt items n site) found.1.1 is.home;
        assigned = subst (λ n. assigns program n ≡ true) found.1.1 (sym is.exclusive ∙ passes);
      }

  pub named-wanted : (item : ℕ) → IsAt items item site → names_item program item ≡ true → Contains (wants_of program items site) (want_of program item)
  named-wanted item home named = wants-have program site 0 items item item (omega arith) home named

  pub named-participates : (item : ℕ) → IsAt items item site → names_item program item ≡ true → Contains (participants_of program items) site
  named-participates item home named = sites-have program 0 items item site item (omega arith) home named

  pub assigned-exclusive : (item : ℕ) → IsAssignedAt item → Contains (exclusive_items (wants_of program items site)) item
  assigned-exclusive item is =
      Contains-map (λ (w : Want). w.item) (filter (λ (w : Want). w.exclusive) (wants_of program items site)) (want_of program item)
      (Contains-filter (λ (w : Want). w.exclusive) (wants_of program items site) (want_of program item) is.assigned
      (named-wanted item is.home (assigns-names program item is.assigned)))

-- What is promised.

pub promised-written : (catalog : Declared) (order : List Placed) (site : ℕ) (txn : TxnId) (writes : List Read) (is : ArePromised catalog order site txn writes) (item : ℕ)
    → IsAssignedAt catalog.items is.placed.program site item → IsSome (written item writes)
promised-written catalog order site txn writes is item assigned =
    listed-written item writes (subst (λ xs. Contains xs item) (sym is.items) (assigned-exclusive catalog.items is.placed.program site item assigned))

pub written-assigned : (catalog : Declared) (order : List Placed) (site : ℕ) (txn : TxnId) (writes : List Read) (is : ArePromised catalog order site txn writes) (item : ℕ)
    → IsSome (written item writes) → IsAssignedAt catalog.items is.placed.program site item
written-assigned catalog order site txn writes is item some =
    exclusive-assigned catalog.items is.placed.program site item (subst (λ xs. Contains xs item) is.items (written-listed item writes some))

-- An item that is declared is at its site.
pub item-at : (items : List Item) (n : ℕ) (item : Item) → slice_get items n ≡ Some item → IsAt items n item.site
item-at [] n item there = absurd (let wrong : ⊥ = cc in wrong)
item-at (first ∷ items) zero item there = ap (λ (o : Option Item). option_site o) there
  where
    option_site : Option Item → Option ℕ
    option_site None = None
    option_site (Some i) = Some i.site
item-at (first ∷ items) (suc n) item there = item-at items n item there

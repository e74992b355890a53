-- The items of a site, and the faces that were declared of them.
use Rattle.std.proofs.Common.{◌≡◌, ℕ, zero, suc, ◌+◌, ◌<◌, ◌≤◌, ◌==◌, Bool, true, false, List, [], ◌∷◌, ◌++◌, length, drop, map, slice_get, Some, All, refl, sym, ap, ◌∙◌, arith, add-one, append_assoc}
use Rattle.std.specs.Prelude.{ℤ, if◌then◌else◌}
use Rattle.std.specs.List.{AllPairs}
use Rattle.std.proofs.lemmas.List.Elements.{All-nil, All-cons, All-weaker}
use Rattle.std.proofs.lemmas.List.Kept.{AllPairs-cons}
use Rattle.pv_base.proofs.Basics.{Some_inj}
use Rattle.pv_base.proofs.OrderLemmas.{pairs-nil}
use Rattle.pv_base.specs.Catalog.{Item}
use Rattle.pv_protocol.specs.Outcome.{items_from}
use Rattle.pv_shelf.specs.Opening.{declared_faces, sure}
use Rattle.pv_shelf.specs.declared.face.Face.{Face}

abbrev pub Rises : List ℕ → Type 0
Rises items = AllPairs (λ item later. item < later) items

abbrev Above : ℕ → List ℕ → Type 0
Above first items = All (λ item. first ≤ item) items

items-above : (site first : ℕ) (items : List Item) → Above first (items_from site first items)
items-above site first [] = All-nil (λ item. first ≤ item)
items-above site first (declared ∷ items) = by (declared.site == site) (items-above site (first + 1) items)
  where
    rest : Above (first + 1) (items_from site (first + 1) items) → Above first (items_from site (first + 1) items)
    rest above = All-weaker (λ item. first + 1 ≤ item) (λ item. first ≤ item) (λ item later. omega (arith, later)) (items_from site (first + 1) items) above

    by : (test : Bool) → Above (first + 1) (items_from site (first + 1) items) → Above first (if test then first ∷ items_from site (first + 1) items else items_from site (first + 1) items)
    by true above = All-cons (λ item. first ≤ item) first (items_from site (first + 1) items) (omega arith) (rest above)
    by false above = rest above

pub items-rise : (site first : ℕ) (items : List Item) → Rises (items_from site first items)
items-rise site first [] = pairs-nil (λ (item later : ℕ). item < later)
items-rise site first (declared ∷ items) = by (declared.site == site) (items-rise site (first + 1) items)
  where
    above : All (λ item. first < item) (items_from site (first + 1) items)
    above = All-weaker (λ item. first + 1 ≤ item) (λ item. first < item) (λ item later. omega (arith, later)) (items_from site (first + 1) items) (items-above site (first + 1) items)

    by : (test : Bool) → Rises (items_from site (first + 1) items) → Rises (if test then first ∷ items_from site (first + 1) items else items_from site (first + 1) items)
    by true rest = AllPairs-cons (λ item later. item < later) first (items_from site (first + 1) items) above rest
    by false rest = rest

-- There are as many faces as items.
pub faces-count : (site first : ℕ) (items : List Item) → length (declared_faces site items) ≡ length (items_from site first items)
faces-count site first [] = refl
faces-count site first (declared ∷ items) = by (declared.site == site) (faces-count site (first + 1) items)
  where
    by : (test : Bool) → length (declared_faces site items) ≡ length (items_from site (first + 1) items)
        → length (if test then sure declared.value ∷ declared_faces site items else declared_faces site items)
        ≡ length (if test then first ∷ items_from site (first + 1) items else items_from site (first + 1) items)
    by true same = ap (λ (n : ℕ). suc n) same
    by false same = same

-- The item at a place comes before those behind it.
next-item : {X Y : Type 0} (of : Item → X) (also : Item → Y) (items : List Item) (item : ℕ) (x : X) (y : Y) → slice_get (map of items) item ≡ Some x → slice_get (map also items) item ≡ Some y
    → (declared : Item) × (of declared ≡ x) × (also declared ≡ y) × (drop item items ≡ declared ∷ drop (suc item) items)
next-item of also [] item x y at its = absurd cc
next-item of also (declared ∷ items) zero x y at its = (declared, Some_inj at, Some_inj its, refl)
next-item of also (declared ∷ items) (suc item) x y at its = next-item of also items item x y at its

module _ (items : List Item) (item site home : ℕ) where
  abbrev Later : List ℕ
  Later = items_from site (item + 1) (drop (item + 1) items)

  abbrev LaterFaces : List Face
  LaterFaces = declared_faces site (drop (item + 1) items)

  items-next : slice_get (map (λ declared. declared.site) items) item ≡ Some home → items_from site item (drop item items) ≡ (if home == site then item ∷ Later else Later)
  items-next at =
      let next = next-item (λ declared. declared.site) (λ declared. declared.site) items item home home at at in
      let behind : drop item items ≡ next.0 ∷ drop (item + 1) items = next.3 ∙ ap (λ (n : ℕ). next.0 ∷ drop n items) (sym (add-one item)) in
      ap (items_from site item) behind ∙ ap (λ (n : ℕ). if n == site then item ∷ Later else Later) next.1

  faces-next : (value : ℤ) → slice_get (map (λ declared. declared.site) items) item ≡ Some home → slice_get (map (λ declared. declared.value) items) item ≡ Some value
      → declared_faces site (drop item items) ≡ (if home == site then sure value ∷ LaterFaces else LaterFaces)
  faces-next value at its =
      let next = next-item (λ declared. declared.site) (λ declared. declared.value) items item home value at its in
      let behind : drop item items ≡ next.0 ∷ drop (item + 1) items = next.3 ∙ ap (λ (n : ℕ). next.0 ∷ drop n items) (sym (add-one item)) in
      ap (declared_faces site) behind ∙ ap (λ (n : ℕ). if n == site then sure next.0.value ∷ LaterFaces else LaterFaces) next.1
      ∙ ap (λ (z : ℤ). if home == site then sure z ∷ LaterFaces else LaterFaces) next.2

  faces-passed : slice_get (map (λ declared. declared.site) items) item ≡ Some home → (home == site) ≡ false → declared_faces site (drop item items) ≡ LaterFaces
  faces-passed at other =
      let next = next-item (λ declared. declared.site) (λ declared. declared.site) items item home home at at in
      let behind : drop item items ≡ next.0 ∷ drop (item + 1) items = next.3 ∙ ap (λ (n : ℕ). next.0 ∷ drop n items) (sym (add-one item)) in
      ap (declared_faces site) behind ∙ ap (λ (n : ℕ). if n == site then sure next.0.value ∷ LaterFaces else LaterFaces) next.1
      ∙ ap (λ (test : Bool). if test then sure next.0.value ∷ LaterFaces else LaterFaces) other

  -- The items that are listed so far, and those from here on, are all.
  pub items-listed : (listed all : List ℕ) → slice_get (map (λ declared. declared.site) items) item ≡ Some home → (home == site) ≡ true
      → listed ++ items_from site item (drop item items) ≡ all → (listed ++ item ∷ []) ++ Later ≡ all
  items-listed listed all at own before =
      append_assoc listed (item ∷ []) Later ∙ ap (λ (rest : List ℕ). listed ++ rest) (sym (items-next at ∙ ap (λ (test : Bool). if test then item ∷ Later else Later) own)) ∙ before

  pub items-passed : (listed all : List ℕ) → slice_get (map (λ declared. declared.site) items) item ≡ Some home → (home == site) ≡ false
      → listed ++ items_from site item (drop item items) ≡ all → listed ++ Later ≡ all
  items-passed listed all at other before = ap (λ (rest : List ℕ). listed ++ rest) (sym (items-next at ∙ ap (λ (test : Bool). if test then item ∷ Later else Later) other)) ∙ before

  -- The same of their faces.
  pub faces-listed : (listed all : List Face) (value : ℤ) → slice_get (map (λ declared. declared.site) items) item ≡ Some home
      → slice_get (map (λ declared. declared.value) items) item ≡ Some value → (home == site) ≡ true
      → listed ++ declared_faces site (drop item items) ≡ all → (listed ++ sure value ∷ []) ++ LaterFaces ≡ all
  faces-listed listed all value at its own before =
      append_assoc listed (sure value ∷ []) LaterFaces
      ∙ ap (λ (rest : List Face). listed ++ rest) (sym (faces-next value at its ∙ ap (λ (test : Bool). if test then sure value ∷ LaterFaces else LaterFaces) own)) ∙ before

  pub faces-skipped : (listed all : List Face) → slice_get (map (λ declared. declared.site) items) item ≡ Some home → (home == site) ≡ false
      → listed ++ declared_faces site (drop item items) ≡ all → listed ++ LaterFaces ≡ all
  faces-skipped listed all at other before = ap (λ (rest : List Face). listed ++ rest) (sym (faces-passed at other)) ∙ before

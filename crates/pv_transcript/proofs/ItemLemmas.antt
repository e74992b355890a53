-- The lines of items, one after another, and what is so of each element.
use Rattle.std.proofs.lemmas.List.{get_or-map, length-map}
use Rattle.std.proofs.lemmas.List.Elements.{All-get_or}
use Rattle.std.proofs.lemmas.Option.{slice_get-map}
use Rattle.std.specs.Option.{option_map}
use Rattle.std.proofs.Common.{◌≡◌, ℕ, All, map, get_or, subst, zero, suc, ◌+◌, ◌<◌, Some, List, [], ◌∷◌, ◌++◌, drop, take, length, add-one, refl, sym, ap, ◌∙◌, append_assoc, arith}
use Rattle.std.specs.Prelude.{slice_get, flat_map}
use Rattle.pv_base.specs.Catalog.{Item}
use Rattle.pv_transcript.specs.Begins.{Begins}
use Rattle.pv_transcript.proofs.HeldLemmas.{begun_first}

-- There is an item at each place that is within them.
pub declared-at : (items : List Item) (n : ℕ) → n < length items → (item : Item) × (slice_get items n ≡ Some item)
declared-at [] n within = absurd (omega arith)
declared-at (item ∷ items) zero within = (item, refl)
declared-at (item ∷ items) (suc n) within = declared-at items n (omega arith)

-- An item stands before those behind it.
left-at : (items : List Item) (n : ℕ) (item : Item) → slice_get items n ≡ Some item → drop n items ≡ item ∷ drop (n + 1) items
left-at [] n item at = absurd (cc)
left-at (first ∷ items) zero item at = let same : first ≡ item = cc in ap (λ it. it ∷ items) same
left-at (first ∷ items) (suc n) item at = let rest = left-at items n item at in rw add-one (rw add-one at rest)

-- The text so far and the lines of the items left are the text of all, also after the line of one more item.
pub one-more-item : (line_of : Item → List ℕ) (items : List Item) (n : ℕ) (all text next : List ℕ) (item : Item) → slice_get items n ≡ Some item
    → all ≡ text ++ flat_map line_of (drop n items) → next ≡ text ++ line_of item → all ≡ next ++ flat_map line_of (drop (n + 1) items)
one-more-item line_of items n all text next item at before more =
    before
    ∙ ap (λ left. text ++ flat_map line_of left) (left-at items n item at)
    ∙ sym (append_assoc text (line_of item) (flat_map line_of (drop (n + 1) items)))
    ∙ ap (λ front. front ++ flat_map line_of (drop (n + 1) items)) (sym more)

-- What a field is at a place.
pub same-field : {A B : Type 0} (field : A → B) (xs : List A) (n : ℕ) (x : A) (y : B) → slice_get xs n ≡ Some x → slice_get (map field xs) n ≡ Some y → field x ≡ y
same-field field xs n x y at is = let some : Some (field x) ≡ Some y = sym (slice_get-map field xs n ∙ ap (option_map field) at) ∙ is in cc

-- What is so of all is so of the one at a place.
pub all-mapped : {A B : Type 0} (P : B → Type 0) (f : A → B) (xs : List A) (n : ℕ) (x : A) → All P (map f xs) → n < length xs → x ≡ get_or xs n x → P (f x)
all-mapped P f xs n x all below is =
    subst P (get_or-map f xs n x (f x) below ∙ ap f (sym is)) (All-get_or P (map f xs) n (f x) (omega (arith, below, length-map xs f)) all)

-- What is put of an item's line, after those before it, begins the text of all.
pub begun_at_item : (line_of : Item → List ℕ) (items : List Item) (n : ℕ) (all text new : List ℕ) (item : Item) → slice_get items n ≡ Some item
    → all ≡ text ++ flat_map line_of (drop n items) → Begins new (text ++ line_of item) → Begins new all
begun_at_item line_of items n all text new item at before begun =
    subst (λ whole. Begins new whole) (sym (before ∙ ap (λ left. text ++ flat_map line_of left) (left-at items n item at)))
    (begun_first text (line_of item) (flat_map line_of (drop (n + 1) items)) new begun)

-- The lines of all are those before a place, the one there, and others.
pub parted-at : {A B : Type 0} (line_of : B → List ℕ) (view : A → B) (xs : List A) (n : ℕ) (x : A) → n < length xs → x ≡ get_or xs n x
    → (rest : List ℕ) × (flat_map line_of (map view xs) ≡ flat_map line_of (map view (take n xs)) ++ (line_of (view x) ++ rest))
parted-at line_of view [] n x below is = absurd (omega (arith, below))
parted-at line_of view (first ∷ others) zero x below is =
    (flat_map line_of (map view others), ap (λ it. line_of (view it) ++ flat_map line_of (map view others)) (sym is))
parted-at line_of view (first ∷ others) (suc n) x below is =
    let later = parted-at line_of view others n x (omega (arith, below)) is in
    let front = flat_map line_of (map view (take n others)) in
    (later.0, ap (λ rest. line_of (view first) ++ rest) later.1 ∙ sym (append_assoc (line_of (view first)) front (line_of (view x) ++ later.0)))

-- What is put of the line at a place, after those before it, begins the text of all.
pub begun_at : {A B : Type 0} (line_of : B → List ℕ) (view : A → B) (xs : List A) (n : ℕ) (x : A) (old text new : List ℕ) → n < length xs → x ≡ get_or xs n x
    → text ≡ old ++ flat_map line_of (map view (take n xs)) → Begins new (text ++ line_of (view x)) → Begins new (old ++ flat_map line_of (map view xs))
begun_at line_of view xs n x old text new below is before begun =
    let parts = parted-at line_of view xs n x below is in
    let front = flat_map line_of (map view (take n xs)) in
    let here = line_of (view x) ++ parts.0 in
    let whole : old ++ flat_map line_of (map view xs) ≡ text ++ here =
    ap (λ all. old ++ all) parts.1 ∙ sym (append_assoc old front here) ∙ ap (λ it. it ++ here) (sym before) in
    subst (λ all. Begins new all) (sym whole) (begun_first text (line_of (view x)) parts.0 new begun)

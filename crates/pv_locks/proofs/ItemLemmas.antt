-- The holders of an item stand together.
use Rattle.std.proofs.Common.{◌≡◌, ℕ, zero, suc, ◌<◌, ◌≤◌, Bool, true, false, cond, List, [], ◌∷◌, get_or, take, drop, Option, Some, nat_cmp, nat_lt, Ordering, refl, ap, ◌∙◌, arith, Less, Equal, Greater}
use Rattle.std.specs.Prelude.{All, find, filter, if◌then◌else◌, ◌==◌, ◌&&◌, ◌||◌}
use Rattle.std.specs.List.{AllPairs}
use Rattle.std.specs.List.Sorted.{IsPartitionedBy}
use Rattle.std.specs.Ordering.{ordering_then, is_lt}
use Rattle.std.proofs.Math.Dec.{leb}
use Rattle.std.proofs.lemmas.Bool.Decides.{nat_tests}
use Rattle.std.proofs.lemmas.List.Elements.{All-cons, All-head, All-nil, All-tail, All-weaker}
use Rattle.std.proofs.lemmas.Map.Keys.{ge_from_not_lt}
use Rattle.pv_base.proofs.OrderLemmas.{pairs-tail}
use Rattle.pv_base.specs.Assignment.{txn_cmp}
use Rattle.pv_base.specs.Want.{Want}
use Rattle.pv_locks.proofs.PutLemmas.{partitioned-nil, partitioned-cons}
use Rattle.pv_locks.specs.Holders.{AreInPlace, comes_before, is_holder_in_the_way}
use Rattle.pv_locks.specs.Put.{place}
use Rattle.pv_locks.specs.declared.holders.Holder.{Holder}

-- The items don't descend.
abbrev pub AreItemsUp : List Holder → Type 0
AreItemsUp holders = AllPairs (λ (h later : Holder). h.item.0 ≤ later.item.0) holders

first-isnt : (o p : Ordering) → is_lt (ordering_then o p) ≡ false → is_lt o ≡ false
first-isnt Less p isnt = isnt
first-isnt Equal p isnt = refl
first-isnt Greater p isnt = refl

item-order : (h later : Holder) → comes_before later h ≡ false → h.item.0 ≤ later.item.0
item-order h later isnt = ge_from_not_lt later.item.0 h.item.0 (first-isnt (nat_cmp later.item.0 h.item.0) (txn_cmp later.txn h.txn) isnt)

pub items-up : (holders : List Holder) → AreInPlace holders → AreItemsUp holders
items-up holders up = λ i j d before within. item-order (get_or holders i d) (get_or holders j d) (up i j d before within)

pub items-up-drop : (n : ℕ) (holders : List Holder) → AreItemsUp holders → AreItemsUp (drop n holders)
items-up-drop zero holders up = up
items-up-drop (suc n) [] up = up
items-up-drop (suc n) (h ∷ holders) up = items-up-drop n holders (pairs-tail (λ (h later : Holder). h.item.0 ≤ later.item.0) h holders up)

up-first : (h : Holder) (holders : List Holder) → AreItemsUp (h ∷ holders) → All (λ (later : Holder). h.item.0 ≤ later.item.0) holders
up-first h holders up = λ k d within. up zero (suc k) d (omega arith) (omega (arith, within))

module _ (item : ℕ) where
  abbrev pub below : Holder → Bool
  below h = nat_lt h.item.0 item

  abbrev pub upto : Holder → Bool
  upto h = leb h.item.0 item

  -- of the item
  abbrev pub is_at : Holder → Bool
  is_at h = item == h.item.0

  pub below-parted : (holders : List Holder) → AreItemsUp holders → IsPartitionedBy below holders
  below-parted [] up = partitioned-nil below
  below-parted (h ∷ holders) up =
      partitioned-cons below h holders
      (All-weaker (λ (later : Holder). h.item.0 ≤ later.item.0) (λ (later : Holder). below later ≡ true → below h ≡ true)
      (λ (later : Holder) least passes. grind (arith, nat_tests)) holders (up-first h holders up))
      (below-parted holders (pairs-tail (λ (h later : Holder). h.item.0 ≤ later.item.0) h holders up))

  pub upto-parted : (holders : List Holder) → AreItemsUp holders → IsPartitionedBy upto holders
  upto-parted [] up = partitioned-nil upto
  upto-parted (h ∷ holders) up =
      partitioned-cons upto h holders
      (All-weaker (λ (later : Holder). h.item.0 ≤ later.item.0) (λ (later : Holder). upto later ≡ true → upto h ≡ true)
      (λ (later : Holder) least passes. grind (arith, nat_tests)) holders (up-first h holders up))
      (upto-parted holders (pairs-tail (λ (h later : Holder). h.item.0 ≤ later.item.0) h holders up))

  -- Those before it are of other items.
  pub filter-drop : (holders : List Holder) → filter is_at holders ≡ filter is_at (drop (place below holders) holders)
  filter-drop [] = refl
  filter-drop (h ∷ holders) = by (below h) refl (filter-drop holders) where
    by : (b : Bool) → below h ≡ b → filter is_at holders ≡ filter is_at (drop (place below holders) holders)
        → filter is_at (h ∷ holders) ≡ filter is_at (drop (if b then suc (place below holders) else 0) (h ∷ holders))
    by true less later =
        let other : is_at h ≡ false = grind (arith, nat_tests) in
        ap (λ b. cond b (h ∷ filter is_at holders) (filter is_at holders)) other ∙ later
    by false isnt later = refl

  rest-by : (b : Bool) (h : Holder) (holders : List Holder) → below h ≡ b → AreItemsUp (h ∷ holders)
      → All (λ (later : Holder). item ≤ later.item.0) (drop (place below holders) holders)
      → All (λ (later : Holder). item ≤ later.item.0) (drop (if b then suc (place below holders) else 0) (h ∷ holders))
  rest-by true h holders less up later = later
  rest-by false h holders isnt up later =
      let least : item ≤ h.item.0 = grind (arith, nat_tests) in
      All-cons (λ (later : Holder). item ≤ later.item.0) h holders least
      (All-weaker (λ (later : Holder). h.item.0 ≤ later.item.0) (λ (later : Holder). item ≤ later.item.0) (λ (later : Holder) more. omega (arith, more, least)) holders (up-first h holders up))

  pub rest-least : (holders : List Holder) → AreItemsUp holders → All (λ (later : Holder). item ≤ later.item.0) (drop (place below holders) holders)
  rest-least [] up = All-nil (λ (later : Holder). item ≤ later.item.0)
  rest-least (h ∷ holders) up = rest-by (below h) h holders refl up (rest-least holders (pairs-tail (λ (h later : Holder). h.item.0 ≤ later.item.0) h holders up))

  none-above : (holders : List Holder) → All (λ (later : Holder). item < later.item.0) holders → filter is_at holders ≡ []
  none-above [] all = refl
  none-above (h ∷ holders) all =
      let more : item < h.item.0 = All-head (λ (later : Holder). item < later.item.0) h holders all in
      let other : is_at h ≡ false = grind (arith, nat_tests) in
      ap (λ b. cond b (h ∷ filter is_at holders) (filter is_at holders)) other ∙ none-above holders (All-tail (λ (later : Holder). item < later.item.0) h holders all)

  -- Those from it on are of the item as long as they aren't above it.
  pub filter-take : (holders : List Holder) → AreItemsUp holders → All (λ (later : Holder). item ≤ later.item.0) holders
      → filter is_at holders ≡ take (place upto holders) holders
  filter-take [] up least = refl
  filter-take (h ∷ holders) up least =
      by (upto h) refl (filter-take holders (pairs-tail (λ (h later : Holder). h.item.0 ≤ later.item.0) h holders up) (All-tail (λ (later : Holder). item ≤ later.item.0) h holders least))
    where
      by : (b : Bool) → upto h ≡ b → filter is_at holders ≡ take (place upto holders) holders
          → filter is_at (h ∷ holders) ≡ take (if b then suc (place upto holders) else 0) (h ∷ holders)
      by true within later =
          let from : item ≤ h.item.0 = All-head (λ (later : Holder). item ≤ later.item.0) h holders least in
          let here : is_at h ≡ true = grind (arith, nat_tests) in
          ap (λ b. cond b (h ∷ filter is_at holders) (filter is_at holders)) here ∙ ap (λ l. h ∷ l) later
      by false above later =
          let more : item < h.item.0 = grind (arith, nat_tests) in
          none-above (h ∷ holders)
          (All-cons (λ (later : Holder). item < later.item.0) h holders more
          (All-weaker (λ (later : Holder). h.item.0 ≤ later.item.0) (λ (later : Holder). item < later.item.0) (λ (later : Holder) next. omega (arith, more, next)) holders (up-first h holders up)))

-- Who is in the way is one of the holders of the item.

by-parts : (a b : Bool) (h : Holder) (rest : Option Holder) → cond (a && b) (Some h) rest ≡ (if a then cond b (Some h) rest else rest)
by-parts true b h rest = refl
by-parts false b h rest = refl

pub find-at : (want : Want) (holders : List Holder)
    → find (λ (h : Holder). want.exclusive || h.exclusive) (filter (is_at want.item) holders) ≡ find (is_holder_in_the_way want) holders
find-at want [] = refl
find-at want (h ∷ holders) = by (is_at want.item h) (find-at want holders) where
  by : (b : Bool) → find (λ (h : Holder). want.exclusive || h.exclusive) (filter (is_at want.item) holders) ≡ find (is_holder_in_the_way want) holders
      → find (λ (h : Holder). want.exclusive || h.exclusive) (cond b (h ∷ filter (is_at want.item) holders) (filter (is_at want.item) holders))
      ≡ cond (b && (want.exclusive || h.exclusive)) (Some h) (find (is_holder_in_the_way want) holders)
  by true later = ap (λ o. cond (want.exclusive || h.exclusive) (Some h) o) later
  by false later = later

-- What is among items, and in which order, once one is put in or taken out.
use Rattle.std.proofs.Common.{get_or, ◌≡◌, ◌==◌, ◌||◌, ◌&&◌, not, ◌∷◌, [], ◌++◌, ◌∙◌, ◌<◌, ◌≤◌, ◌+◌, ◌-◌, ⊎_elim, ℕ, zero, suc, Bool, true, false, cond, ltb, List, Option, Some, None, Result, Ok, Err, All, Ordering, Less, Greater, nat_cmp, length, take, drop, length-append, append_assoc, one-add, refl, sym, ap, ap₂, subst, arith, tests}
use Rattle.std.specs.Prelude.{IfErr, MatchOption}
use Rattle.std.specs.List.{AllPairs, list_any, insert, remove, position_or_len}
use Rattle.std.specs.List.Sorted.{IsBinarySearchResult, IsSearchInRange}
use Rattle.std.specs.Ordering.{MatchOrdering, ordering_index}
use Rattle.std.specs.Cmp.{ranks}
use Rattle.std.proofs.lemmas.Bool.{cases_lt, eqb-true, ltb-true, ltb-false}
use Rattle.std.proofs.lemmas.Bool.Decides.{nat_tests}
use Rattle.std.proofs.lemmas.List.{get_or-take, take-append-drop, length-take-le}
use Rattle.std.proofs.lemmas.List.Edits.{get_or-insert_at, insert-append_left, length-insert, length-remove, remove-append_left, remove-append_right}
use Rattle.std.proofs.lemmas.List.Elements.{All-nil, All-cons, All-append, All-take, All-drop}
use Rattle.std.proofs.lemmas.List.Folds.{list_any-append, list_any_none}
use Rattle.std.proofs.lemmas.List.Kept.{AllPairs-cons}
use Rattle.pv_base.specs.declared.catalog.ItemId.{ItemId}
use Rattle.pv_store.specs.StandingHere.{is_one_of}

or-moved : (a b c : Bool) → (a || (b || c)) ≡ (b || (a || c))
or-moved true true c = refl
or-moved true false c = refl
or-moved false b c = refl

or-none : (a b : Bool) → a ≡ false → b ≡ false → (a || b) ≡ false
or-none true b first second = first
or-none false b first second = second

module _ {X : Type 0} (test : X → Bool) where
  -- A test passes among one element more where it passes there, or at that element.
  pub any-insert : (xs : List X) (place : ℕ) (x : X) → list_any test (insert xs place x) ≡ (test x || list_any test xs)
  any-insert xs place x =
      list_any-append test (take place xs) (x ∷ drop place xs)
      ∙ or-moved (list_any test (take place xs)) (test x) (list_any test (drop place xs))
      ∙ ap (λ among. test x || among) (sym (list_any-append test (take place xs) (drop place xs)) ∙ ap (list_any test) (take-append-drop place xs))

  -- What is taken out was one of them.
  pub any-remove : (xs : List X) (place : ℕ) (d : X) → place < length xs → list_any test xs ≡ (test (get_or xs place d) || list_any test (remove xs place))
  any-remove [] place d below = absurd (omega arith)
  any-remove (x ∷ xs) zero d below = refl
  any-remove (x ∷ xs) (suc place) d below =
      ap (λ among. test x || among) (any-remove xs place d (omega arith))
      ∙ or-moved (test x) (test (get_or xs place d)) (list_any test (remove xs place))

-- The one item is before the other.
abbrev pub IsBefore : ItemId → ItemId → Type 0
IsBefore item later = item.0 < later.0

before-insert : (first : ItemId) (items : List ItemId) (place : ℕ) (item : ItemId) → All (IsBefore first) items → IsBefore first item → All (IsBefore first) (insert items place item)
before-insert first items place item all is =
    All-append (IsBefore first) (take place items) (item ∷ drop place items) (All-take (IsBefore first) place items all)
    (All-cons (IsBefore first) item (drop place items) is (All-drop (IsBefore first) place items all))

-- An item put behind those before it and in front of those after it keeps the order.
pub ascending-insert : (items : List ItemId) (place : ℕ) (item : ItemId) → AllPairs IsBefore items
    → ((at : ℕ) (d : ItemId) → at < place → at < length items → IsBefore (get_or items at d) item)
    → ((at : ℕ) (d : ItemId) → place ≤ at → at < length items → IsBefore item (get_or items at d)) → AllPairs IsBefore (insert items place item)
ascending-insert [] zero item ascending before after = AllPairs-cons IsBefore item [] (All-nil (IsBefore item)) ascending
ascending-insert [] (suc place) item ascending before after = AllPairs-cons IsBefore item [] (All-nil (IsBefore item)) ascending
ascending-insert (other ∷ items) zero item ascending before after =
    AllPairs-cons IsBefore item (other ∷ items) (λ at d below. after at d (omega arith) below) ascending
ascending-insert (other ∷ items) (suc place) item ascending before after =
    let first : All (IsBefore other) items = λ at d below. ascending 0 (suc at) d (omega arith) (omega arith) in
    AllPairs-cons IsBefore other (insert items place item)
    (before-insert other items place item first (before 0 item (omega arith) (omega arith)))
    (ascending-insert items place item (λ i j d low high. ascending (suc i) (suc j) d (omega arith) (omega arith))
    (λ at d early below. before (suc at) d (omega arith) (omega arith)) (λ at d late below. after (suc at) d (omega arith) (omega arith)))

-- A search by item that ends among ascending items without finding it ends at its place.
pub ascending-searched : (items : List ItemId) (place : ℕ) (item : ItemId) → AllPairs IsBefore items
    → IsBinarySearchResult (λ (other : ItemId). nat_cmp other.0 item.0) items (Err place) → AllPairs IsBefore (insert items place item)
ascending-searched items place item ascending searched =
    let halves = searched (λ i j d low within. by-number (get_or items i d).0 (get_or items j d).0 item.0 (rises i j d low within)) in
    ascending-insert items place item ascending
    (λ at d early below. told (get_or items at d).0 Less (halves.0 at d (omega arith) early))
    (λ at d late below. told (get_or items at d).0 Greater (halves.1 at d late below))
  where
    rises : (i j : ℕ) (d : ItemId) → i ≤ j → j < length items → (get_or items i d).0 ≤ (get_or items j d).0
    rises i j d low within =
        ⊎_elim (λ below. let before = ascending i j d below within in omega (arith, before))
        (λ from. let same = ap (λ (k : ℕ). (get_or items k d).0) (let equal : i ≡ j = omega (arith, low, from) in equal) in omega (arith, same)) (cases_lt i j)

    by-number : (a b x : ℕ) → a ≤ b → ordering_index (nat_cmp a x) ≤ ordering_index (nat_cmp b x)
    by-number a b x le = grind (arith, tests)

    told : (a : ℕ) (o : Ordering) → nat_cmp a item.0 ≡ o → MatchOrdering o (a < item.0) (a ≡ item.0) (item.0 < a)
    told a o is = subst (λ (found : Ordering). MatchOrdering found (a < item.0) (a ≡ item.0) (item.0 < a)) is (ranks a item.0)

pub searched-apart : (items : List ItemId) (item : ItemId) (found : Result ℕ ℕ) → AllPairs IsBefore items → IsSearchInRange found (length items)
    → IsBinarySearchResult (λ (other : ItemId). nat_cmp other.0 item.0) items found → IfErr found (λ place. (place ≤ length items) × AllPairs IsBefore (insert items place item))
searched-apart items item (Ok place) ascending bound searched = tt
searched-apart items item (Err place) ascending bound searched = (bound, ascending-searched items place item ascending searched)

not-later : (n later : ℕ) → n < later → (n == later) ≡ false
not-later n later is = grind (arith, nat_tests)

not-earlier : (n early : ℕ) → early < n → (n == early) ≡ false
not-earlier n early is = grind (arith, nat_tests)

-- What is taken out of ascending items isn't among the others.
pub none-remains : (items : List ItemId) (place : ℕ) (d : ItemId) → AllPairs IsBefore items → place < length items → is_one_of (get_or items place d).0 (remove items place) ≡ false
none-remains [] place d ascending below = absurd (omega arith)
none-remains (item ∷ items) zero d ascending below =
    list_any_none (λ other. item.0 == other.0) items (λ at e low. not-later item.0 (get_or items at e).0 (ascending 0 (suc at) e (omega arith) (omega arith)))
none-remains (item ∷ items) (suc place) d ascending below =
    or-none _ _ (not-earlier (get_or items place d).0 item.0 (ascending 0 (suc place) d (omega arith) below))
    (none-remains items place d (λ i j e low high. ascending (suc i) (suc j) e (omega arith) (omega arith)) (omega arith))

left-out : (same among rest : Bool) → among ≡ (same || rest) → (same ≡ true → rest ≡ false) → rest ≡ (not same && among)
left-out true among rest is none = none refl
left-out false among rest is none = sym is

-- Whether an item is among the others says the same as whether it is among all and isn't the one.
pub is_one_of-remove : (items : List ItemId) (place : ℕ) (d : ItemId) (there : ℕ) → AllPairs IsBefore items → place < length items
    → is_one_of there (remove items place) ≡ (not (there == (get_or items place d).0) && is_one_of there items)
is_one_of-remove items place d there ascending below =
    left-out (there == (get_or items place d).0) (is_one_of there items) (is_one_of there (remove items place))
    (any-remove (λ other. there == other.0) items place d below)
    (λ same. let equal : there ≡ (get_or items place d).0 = grind (arith, nat_tests) in
    subst (λ number. is_one_of number (remove items place) ≡ false) (sym equal) (none-remains items place d ascending below))

take-all-front : (xs ys : List ItemId) (n : ℕ) → length xs ≡ n → take n (xs ++ ys) ≡ xs
take-all-front [] ys zero count = refl
take-all-front [] ys (suc n) count = absurd (omega arith)
take-all-front (x ∷ xs) ys zero count = absurd (omega arith)
take-all-front (x ∷ xs) ys (suc n) count = ap (λ (rest : List ItemId). x ∷ rest) (take-all-front xs ys n (omega arith))

drop-all-front : (xs ys : List ItemId) (n : ℕ) → length xs ≡ n → drop n (xs ++ ys) ≡ ys
drop-all-front [] ys zero count = refl
drop-all-front [] ys (suc n) count = absurd (omega arith)
drop-all-front (x ∷ xs) ys zero count = absurd (omega arith)
drop-all-front (x ∷ xs) ys (suc n) count = drop-all-front xs ys n (omega arith)

-- What has a place of its own between ascending items is none of them.
apart-none : (items : List ItemId) (place : ℕ) (item : ItemId) → place ≤ length items → AllPairs IsBefore (insert items place item) → is_one_of item.0 items ≡ false
apart-none [] place item within ascending = refl
apart-none (first ∷ items) zero item within ascending =
    list_any_none (λ other. item.0 == other.0) (first ∷ items)
    (λ at d below. not-later item.0 (get_or (first ∷ items) at d).0 (ascending 0 (suc at) d (omega arith) (omega arith)))
apart-none (first ∷ items) (suc place) item within ascending =
    let long = length-insert items place item (omega arith) in
    let before : first.0 < item.0 = subst (λ (other : ItemId). first.0 < other.0) (get_or-insert_at items place item item (omega arith))
    (ascending 0 (suc place) item (omega arith) (omega (arith, long, within))) in
    or-none _ _ (not-earlier item.0 first.0 before)
    (apart-none items place item (omega arith) (λ i j d low high. ascending (suc i) (suc j) d (omega arith) (omega arith)))

left-apart : (same among : Bool) → (same ≡ true → among ≡ false) → among ≡ (not same && among)
left-apart true among none = none refl
left-apart false among none = refl

pub is_one_of-apart : (items : List ItemId) (place : ℕ) (item : ItemId) (there : ℕ) → place ≤ length items → AllPairs IsBefore (insert items place item)
    → is_one_of there items ≡ (not (there == item.0) && is_one_of there items)
is_one_of-apart items place item there within ascending =
    left-apart (there == item.0) (is_one_of there items)
    (λ same. ap (λ (number : ℕ). is_one_of number items) (eqb-true there item.0 same) ∙ apart-none items place item within ascending)

-- What is taken out leaves the others in their order.
pub ascending-remove : (items : List ItemId) (place : ℕ) → AllPairs IsBefore items → AllPairs IsBefore (remove items place)
ascending-remove [] zero ascending = ascending
ascending-remove [] (suc place) ascending = ascending
ascending-remove (item ∷ items) zero ascending = λ i j d low high. ascending (suc i) (suc j) d (omega arith) (omega arith)
ascending-remove (item ∷ items) (suc place) ascending =
    let behind : All (IsBefore item) items = λ at d below. ascending 0 (suc at) d (omega arith) (omega arith) in
    AllPairs-cons IsBefore item (remove items place)
    (All-append (IsBefore item) (take place items) (drop (suc place) items) (All-take (IsBefore item) place items behind) (All-drop (IsBefore item) (suc place) items behind))
    (ascending-remove items place (λ i j d low high. ascending (suc i) (suc j) d (omega arith) (omega arith)))

module _ (items : List ItemId) (n : ℕ) (within : n ≤ length items) where
  abbrev front : List ItemId
  front = take n items

  abbrev back : List ItemId
  back = drop n items

  count : length front ≡ n
  count = length-take-le n items within

  -- One item goes from those behind the first n to its place among them.
  module _ (place beside : ℕ) (item : ItemId) (low : place ≤ n) where
    moved : insert (remove items (n + beside)) place item ≡ insert front place item ++ remove back beside
    moved =
        ap (λ (all : List ItemId). insert (remove all (n + beside)) place item) (sym (take-append-drop n items))
        ∙ ap (λ (all : List ItemId). insert all place item)
        (remove-append_right front back n (n + beside) count (omega arith) ∙ ap (λ (at : ℕ). front ++ remove back at) (let same : n + beside - n ≡ beside = omega arith in same))
        ∙ insert-append_left front (remove back beside) place item (let c = count in omega arith)

    counted : length (insert front place item) ≡ n + 1
    counted = let c = count in length-insert front place item (omega arith) ∙ ap (λ (at : ℕ). at + 1) count

    pub moved-named : take (n + 1) (insert (remove items (n + beside)) place item) ≡ insert front place item
    moved-named = ap (take (n + 1)) moved ∙ take-all-front (insert front place item) (remove back beside) (n + 1) counted

    pub moved-within : n + 1 ≤ length (insert (remove items (n + beside)) place item)
    moved-within =
        let all = ap length moved in
        let parts = length-append (insert front place item) (remove back beside) in
        omega (arith, all, parts, counted)

  -- One item goes from the first n to the end.
  module _ (place : ℕ) (item : ItemId) (low : place < n) where
    left : remove items place ++ item ∷ [] ≡ remove front place ++ (back ++ item ∷ [])
    left =
        ap (λ (all : List ItemId). remove all place ++ item ∷ []) (sym (take-append-drop n items))
        ∙ ap (λ (all : List ItemId). all ++ item ∷ []) (remove-append_left front back place (let c = count in omega arith))
        ∙ append_assoc (remove front place) back (item ∷ [])

    fewer : length (remove front place) ≡ n - 1
    fewer = let c = count in let one = length-remove front place (omega arith) in omega (arith, c, one)

    pub left-named : take (n - 1) (remove items place ++ item ∷ []) ≡ remove front place
    left-named = ap (take (n - 1)) left ∙ take-all-front (remove front place) (back ++ item ∷ []) (n - 1) fewer

    pub left-within : n - 1 ≤ length (remove items place ++ item ∷ [])
    left-within =
        let all = ap length left in
        let parts = length-append (remove front place) (back ++ item ∷ []) in
        omega (arith, all, parts, fewer)

-- What is taken out and put at the end is still there.
pub any-end : (test : ItemId → Bool) (items : List ItemId) (place : ℕ) (item : ItemId) → place < length items → get_or items place item ≡ item
    → list_any test (remove items place ++ item ∷ []) ≡ list_any test items
any-end test items place item below is =
    list_any-append test (remove items place) (item ∷ [])
    ∙ or-last (list_any test (remove items place)) (test item)
    ∙ ap (λ (one : ItemId). test one || list_any test (remove items place)) (sym is)
    ∙ sym (any-remove test items place item below)
  where
    or-last : (a b : Bool) → (a || (b || false)) ≡ (b || a)
    or-last true true = refl
    or-last true false = refl
    or-last false true = refl
    or-last false false = refl

-- What stands there once an item of the first n has gone to the end.
pub record HasLeft (items : List ItemId) (n : ℕ) (item : ItemId) (new : List ItemId) : Type 0 where
  pub within : n - 1 ≤ length new
  pub ascending : AllPairs IsBefore (take (n - 1) new)
  pub same : (there : ℕ) → is_one_of there new ≡ is_one_of there items
  pub named : (there : ℕ) → is_one_of there (take (n - 1) new) ≡ (not (there == item.0) && is_one_of there (take n items))

pub has-left : (items : List ItemId) (n : ℕ) → n ≤ length items → AllPairs IsBefore (take n items) → (first : List ItemId) → first ≡ take n items → (place : ℕ) (item : ItemId)
    → (place < length first) × ((d : ItemId) → get_or first place d ≡ item) → (moved : ItemId) (rest new : List ItemId)
    → moved ≡ get_or items place moved → rest ≡ remove items place → new ≡ rest ++ moved ∷ [] → HasLeft items n item new
has-left items n within ascending first is place item there moved rest new taken others put =
    let long = length-take-le n items within in
    let low : place < n = omega (arith, there.0, ap length is, long) in
    let at-first : (d : ItemId) → get_or (take n items) place d ≡ item = λ d. ap (λ (named : List ItemId). get_or named place d) (sym is) ∙ there.1 d in
    let at : (d : ItemId) → get_or items place d ≡ item = λ d. sym (get_or-take n items place d low) ∙ at-first d in
    let written : new ≡ remove items place ++ item ∷ [] = put ∙ ap₂ (λ (all : List ItemId) (one : ItemId). all ++ one ∷ []) others (taken ∙ at moved) in
    let left : take (n - 1) new ≡ remove (take n items) place = ap (take (n - 1)) written ∙ left-named items n within place item low in
    record {
      within = subst (λ (all : List ItemId). n - 1 ≤ length all) (sym written) (left-within items n within place item low);
      ascending = subst (AllPairs IsBefore) (sym left) (ascending-remove (take n items) place ascending);
      same = λ there. ap (is_one_of there) written ∙ any-end (λ (other : ItemId). there == other.0) items place item (omega (arith, low, within)) (at item);
      named = λ there.
          ap (is_one_of there) left
          ∙ is_one_of-remove (take n items) place item there ascending (omega (arith, low, long))
          ∙ ap (λ (one : ItemId). not (there == one.0) && is_one_of there (take n items)) (at-first item);
    }

-- Where one is found by a test, it passes, and where none is, none does.
abbrev pub is_item : ItemId → ItemId → Bool
is_item item other = item.0 == other.0

at-position : (items : List ItemId) (item : ItemId) (d : ItemId) → position_or_len (is_item item) items < length items → get_or items (position_or_len (is_item item) items) d ≡ item
at-position [] item d below = let no : 0 < 0 = below in absurd (omega (arith, no))
at-position (first ∷ items) item d below = by (is_item item first) refl (λ within. at-position items item d within) below
  where
    place : ℕ
    place = position_or_len (is_item item) items

    by : (test : Bool) → is_item item first ≡ test → (place < length items → get_or items place d ≡ item)
        → cond (not test) (1 + place) 0 < suc (length items) → get_or (first ∷ items) (cond (not test) (1 + place) 0) d ≡ item
    by true same behind low = ap (λ (n : ℕ). let one : ItemId = record { 0 = n } in one) (sym (eqb-true item.0 first.0 same))
    by false other behind low =
        let below : 1 + place < suc (length items) = low in
        ap (λ (at : ℕ). get_or (first ∷ items) at d) (one-add place) ∙ behind (omega (arith, below))

none-before : (items : List ItemId) (item : ItemId) → length items ≤ position_or_len (is_item item) items → is_one_of item.0 items ≡ false
none-before [] item far = refl
none-before (first ∷ items) item far = by (is_item item first) (λ past. none-before items item past) far
  where
    place : ℕ
    place = position_or_len (is_item item) items

    by : (test : Bool) → (length items ≤ place → is_one_of item.0 items ≡ false) → suc (length items) ≤ cond (not test) (1 + place) 0 → (test || is_one_of item.0 items) ≡ false
    by true none low = let no : suc (length items) ≤ 0 = low in absurd (omega (arith, no))
    by false none low = let behind : suc (length items) ≤ 1 + place = low in none (omega (arith, behind))

pub found-item : (items : List ItemId) (item : ItemId) (found : Option ℕ)
    → found ≡ cond (ltb (position_or_len (is_item item) items) (length items)) (Some (position_or_len (is_item item) items)) None
    → MatchOption found (is_one_of item.0 items ≡ false) (λ place. (place < length items) × ((d : ItemId) → get_or items place d ≡ item))
found-item items item found is = subst (λ (o : Option ℕ). MatchOption o (is_one_of item.0 items ≡ false) (λ place. (place < length items) × ((d : ItemId) → get_or items place d ≡ item))) (sym is) (by (ltb place (length items)) refl)
  where
    place : ℕ
    place = position_or_len (is_item item) items

    by : (test : Bool) → ltb place (length items) ≡ test
        → MatchOption (cond test (Some place) None) (is_one_of item.0 items ≡ false) (λ place. (place < length items) × ((d : ItemId) → get_or items place d ≡ item))
    by true low = (ltb-true place (length items) low, λ d. at-position items item d (ltb-true place (length items) low))
    by false far = none-before items item (ltb-false place (length items) far)

or-again : (same among rest : Bool) → among ≡ (same || rest) → among ≡ (same || among)
or-again true among rest is = is
or-again false among rest is = refl

-- What is there already is there with itself put beside it.
pub is_one_of-again : (items : List ItemId) (place : ℕ) (item : ItemId) (there : ℕ) → place < length items → get_or items place item ≡ item
    → is_one_of there items ≡ (there == item.0 || is_one_of there items)
is_one_of-again items place item there below is =
    or-again (there == item.0) (is_one_of there items) (is_one_of there (remove items place))
    (any-remove (λ other. there == other.0) items place item below
    ∙ ap (λ (found : ItemId). there == found.0 || is_one_of there (remove items place)) is)

or-first : (a b : Bool) → (a || b) ≡ true → b ≡ false → a ≡ true
or-first true b is none = refl
or-first false b is none = sym none ∙ is

-- The item is among the first where it is nowhere behind them.
pub among-first : (first others : List ItemId) (item : ℕ) → is_one_of item (first ++ others) ≡ true → is_one_of item others ≡ false → is_one_of item first ≡ true
among-first first others item is none =
    or-first (is_one_of item first) (is_one_of item others) (sym (list_any-append (λ other. item == other.0) first others) ∙ is) none

pub is_one_of-among : (items : List ItemId) (item there : ℕ) → is_one_of item items ≡ true → is_one_of there items ≡ (there == item || is_one_of there items)
is_one_of-among items item there is = by-same (there == item) refl
  where
    by-same : (same : Bool) → (there == item) ≡ same → is_one_of there items ≡ (same || is_one_of there items)
    by-same true equal = let one : there ≡ item = grind (arith, nat_tests) in subst (λ (number : ℕ). is_one_of number items ≡ true) (sym one) is
    by-same false apart = refl

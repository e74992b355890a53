-- The assignments of some transactions are split by the outcome of the first, and so are the cases that they meet.
use Rattle.std.proofs.Common.{◌≡◌, ℕ, zero, suc, ◌<◌, ◌+◌, Bool, true, false, not, ◌&&◌, ◌||◌, List, [], ◌∷◌, ◌++◌, map, length, get_or, cond, if◌then◌else◌, IsTrue, append_assoc, refl, sym, ap, subst, ◌∙◌, arith, add-one}
use Rattle.std.specs.Bool.{beq}
use Rattle.std.specs.List.{All, filter, list_all, list_any, range_with_len}
use Rattle.std.specs.Cmp.{bool_eq_equiv}
use Rattle.std.proofs.Math.Bool.{and-true}
use Rattle.std.proofs.Math.Nat.{add-zero, zero-add}
use Rattle.std.proofs.lemmas.Bool.{or_left, or_right, or_parts}
use Rattle.std.proofs.lemmas.List.{map-append, map-id}
use Rattle.std.proofs.lemmas.List.FromFn.{map-range_with_len_more, length-range_with_len, get_or-range_with_len}
use Rattle.std.proofs.lemmas.List.Elements.{All-from_get_or, All-nil, All-cons, All-head, All-tail, All-append, All-map, All-filter}
use Rattle.std.proofs.lemmas.List.Folds.{list_any_none, list_any_at}
use Rattle.std.proofs.lemmas.Simd.{map-map}
use Rattle.pv_base.specs.declared.literal.Literal.{Literal}
use Rattle.pv_base.specs.declared.txn.TxnId.{TxnId}
use Rattle.pv_base.specs.Assignment.{is_same_txn, precedes, commits, assignments}
use Rattle.pv_base.specs.Polyvalue.{Case, is_met, meets, names, AreNames}
use Rattle.pv_base.proofs.MapLemmas.{map-same}
use Rattle.pv_law_polyvalues.proofs.AscendingLemmas.{Ascending, All-from_members, ascending-first, ascending-tail}
use Rattle.pv_base.proofs.AssignmentLemmas.{same-refl, same-eq, same-from-eq, same-sym, precedes-other}
use Rattle.pv_cases.specs.declared.meetings.Meeting.{Meeting}
use Rattle.pv_cases.specs.Meetings.{places_from, places_met, meeting_of, meetings_of}
use Rattle.pv_cases.specs.CaseSplits.{allows, meets_on, condition_at, places_with, meetings_among}

-- A list of ascending transactions without its first one.

pub ascending-rest : {txn : TxnId} {txns rest : List TxnId} → txns ≡ txn ∷ rest → Ascending txns → Ascending rest
ascending-rest {txn} {txns} {rest} is up = ascending-tail txn rest (subst Ascending is up)

-- the first comes before all of the rest
pub first-before : {txn : TxnId} {txns rest : List TxnId} → txns ≡ txn ∷ rest → Ascending txns → All (λ later. IsTrue (precedes txn later)) rest
first-before {txn} {txns} {rest} is up = All-from_members (λ later. IsTrue (precedes txn later)) rest (ascending-first txn rest (subst Ascending is up))

-- Lists.

map-alike : {X Y : Type 0} (f g : X → Y) (xs : List X) → All (λ x. f x ≡ g x) xs → map f xs ≡ map g xs
map-alike f g [] h = refl
map-alike f g (x ∷ xs) h =
    let first : f x ≡ g x = All-head (λ x. f x ≡ g x) x xs h in
    let rest : map f xs ≡ map g xs = map-alike f g xs (All-tail (λ x. f x ≡ g x) x xs h) in
    cc

filter-alike : {X : Type 0} (p q : X → Bool) (xs : List X) → ((x : X) → p x ≡ q x) → filter p xs ≡ filter q xs
filter-alike p q [] h = refl
filter-alike p q (x ∷ xs) h =
    ap (λ (b : Bool). cond b (x ∷ filter p xs) (filter p xs)) (h x)
    ∙ ap (λ (rest : List _). cond (q x) (x ∷ rest) rest) (filter-alike p q xs h)

filter-both-by : {X : Type 0} (p q : X → Bool) (x : X) (xs : List X) (b : Bool)
    → cond (b && q x) (x ∷ filter q (filter p xs)) (filter q (filter p xs)) ≡ filter q (cond b (x ∷ filter p xs) (filter p xs))
filter-both-by p q x xs true = refl
filter-both-by p q x xs false = refl

-- one test after another
filter-both : {X : Type 0} (p q : X → Bool) (xs : List X) → filter (λ x. p x && q x) xs ≡ filter q (filter p xs)
filter-both p q [] = refl
filter-both p q (x ∷ xs) =
    ap (λ (rest : List _). cond (p x && q x) (x ∷ rest) rest) (filter-both p q xs) ∙ filter-both-by p q x xs (p x)

filter-true : {X : Type 0} (xs : List X) → filter (λ x. true) xs ≡ xs
filter-true [] = refl
filter-true (x ∷ xs) = ap (λ (rest : List _). x ∷ rest) (filter-true xs)

list_all-alike : {X : Type 0} (p q : X → Bool) (xs : List X) → ((x : X) → p x ≡ q x) → list_all p xs ≡ list_all q xs
list_all-alike p q [] h = refl
list_all-alike p q (x ∷ xs) h = ap (λ (b : Bool). b && list_all p xs) (h x) ∙ ap (λ (b : Bool). q x && b) (list_all-alike p q xs h)

and-swap : (a b c d : Bool) → ((a && b) && (c && d)) ≡ ((a && c) && (b && d))
and-swap true b true d = refl
and-swap true true false d = refl
and-swap true false false d = refl
and-swap false b c d = refl

list_all-both : {X : Type 0} (p q : X → Bool) (xs : List X) → list_all (λ x. p x && q x) xs ≡ (list_all p xs && list_all q xs)
list_all-both p q [] = refl
list_all-both p q (x ∷ xs) =
    ap (λ (b : Bool). (p x && q x) && b) (list_all-both p q xs) ∙ and-swap (p x) (q x) (list_all p xs) (list_all q xs)

list_all-true : {X : Type 0} (xs : List X) → list_all (λ x. true) xs ≡ true
list_all-true [] = refl
list_all-true (x ∷ xs) = list_all-true xs

-- One transaction and those after it.

-- A transaction before all of the list is not in it.
absent : (txn : TxnId) (txns : List TxnId) → Ascending (txn ∷ txns) → list_any (is_same_txn txn) txns ≡ false
absent txn txns ascending =
    list_any_none (is_same_txn txn) txns (λ k d within. precedes-other txn (get_or txns k d) (ascending 0 (suc k) d (omega arith) (omega (arith, within))))

or-false : {a b : Bool} → a ≡ false → b ≡ false → (a || b) ≡ false
or-false {a} {b} h k = ap (λ (c : Bool). c || b) h ∙ k

aborts : (txn : TxnId) (txns : List TxnId) → list_any (is_same_txn txn) txns ≡ false → All (λ assignment. commits assignment txn ≡ false) (assignments txns)
aborts txn [] h = All-cons (λ assignment. commits assignment txn ≡ false) [] [] refl (All-nil _)
aborts txn (first ∷ txns) h =
    let parts = or_parts (is_same_txn txn first) (list_any (is_same_txn txn) txns) h in
    let rest = aborts txn txns parts.1 in
    All-append (λ assignment. commits assignment txn ≡ false) (assignments txns) (map (λ assignment. first ∷ assignment) (assignments txns)) rest
    (All-map (λ assignment. commits assignment txn ≡ false) (λ assignment. first ∷ assignment) (assignments txns)
    (λ k d within. or-false (same-sym first txn ∙ parts.0) (rest k d within)))

-- The literal is met, as far as it is on the transactions, where it allows the outcome of the first, and is met as far as it is on the others.
literal-split : (txn : TxnId) (outcome : Bool) (txns : List TxnId) (before after : List TxnId) (literal : Literal) (same : Bool)
    → is_same_txn literal.txn txn ≡ same → list_any (is_same_txn txn) txns ≡ false → commits after txn ≡ outcome
    → ((other : TxnId) → is_same_txn other txn ≡ false → commits after other ≡ commits before other)
    → (not (same || list_any (is_same_txn literal.txn) txns) || is_met after literal)
    ≡ ((not same || beq literal.commits outcome) && (not (list_any (is_same_txn literal.txn) txns) || is_met before literal))
literal-split txn outcome txns before after literal true same absent here others =
    let equal : literal.txn ≡ txn = same-eq {t = literal.txn} {u = txn} same in
    ap (λ (t : TxnId). beq (commits after t) literal.commits) equal
    ∙ ap (λ (b : Bool). beq b literal.commits) here
    ∙ bool_eq_equiv.symm outcome literal.commits
    ∙ sym (and-true (beq literal.commits outcome))
    ∙ ap (λ (b : Bool). beq literal.commits outcome && (not b || is_met before literal)) (sym (ap (λ (t : TxnId). list_any (is_same_txn t) txns) equal ∙ absent))
literal-split txn outcome txns before after literal false same absent here others =
    ap (λ (b : Bool). not (list_any (is_same_txn literal.txn) txns) || beq b literal.commits) (others literal.txn same)

condition-split : (txn : TxnId) (outcome : Bool) (txns : List TxnId) (before after : List TxnId) (when : List Literal)
    → list_any (is_same_txn txn) txns ≡ false → commits after txn ≡ outcome
    → ((other : TxnId) → is_same_txn other txn ≡ false → commits after other ≡ commits before other)
    → meets_on (txn ∷ txns) when after ≡ (allows txn outcome when && meets_on txns when before)
condition-split txn outcome txns before after when absent here others =
    list_all-alike (λ literal. not (is_same_txn literal.txn txn || list_any (is_same_txn literal.txn) txns) || is_met after literal)
    (λ literal. (not (is_same_txn literal.txn txn) || beq literal.commits outcome) && (not (list_any (is_same_txn literal.txn) txns) || is_met before literal))
    when
    (λ literal. literal-split txn outcome txns before after literal (is_same_txn literal.txn txn) refl absent here others)
    ∙ list_all-both (λ (literal : Literal). not (is_same_txn literal.txn txn) || beq literal.commits outcome)
    (λ (literal : Literal). not (list_any (is_same_txn literal.txn) txns) || is_met before literal) when

module _ {V : Type 0} where
  meeting-split : (cases : List (Case V)) (places : List ℕ) (txn : TxnId) (outcome : Bool) (txns : List TxnId) (before after : List TxnId)
      → list_any (is_same_txn txn) txns ≡ false → commits after txn ≡ outcome
      → ((other : TxnId) → is_same_txn other txn ≡ false → commits after other ≡ commits before other)
      → meeting_of (filter (λ place. meets_on (txn ∷ txns) (condition_at cases place) after) places)
      ≡ meeting_of (filter (λ place. meets_on txns (condition_at cases place) before) (places_with cases txn outcome places))
  meeting-split cases places txn outcome txns before after absent here others =
      ap meeting_of
      (filter-alike (λ place. meets_on (txn ∷ txns) (condition_at cases place) after)
      (λ place. allows txn outcome (condition_at cases place) && meets_on txns (condition_at cases place) before) places
      (λ place. condition-split txn outcome txns before after (condition_at cases place) absent here others)
      ∙ filter-both (λ place. allows txn outcome (condition_at cases place)) (λ place. meets_on txns (condition_at cases place) before) places)

  -- Without transactions the first two of the places are met.
  pub among-none : (cases : List (Case V)) (places : List ℕ) → meetings_among cases places [] ≡ meeting_of places ∷ []
  unfolding meetings_among
  among-none cases places =
      ap (λ (met : List ℕ). meeting_of met ∷ [])
      (filter-alike (λ place. meets_on [] (condition_at cases place) []) (λ place. true) places (λ place. list_all-true (condition_at cases place))
      ∙ filter-true places)

  -- Where the first transaction doesn't commit the places that allow that are left, and then those that allow that it commits.
  pub among-first : (cases : List (Case V)) (places : List ℕ) (txn : TxnId) (txns : List TxnId) → Ascending (txn ∷ txns)
      → meetings_among cases places (txn ∷ txns)
      ≡ meetings_among cases (places_with cases txn false places) txns ++ meetings_among cases (places_with cases txn true places) txns
  unfolding meetings_among
  among-first cases places txn txns ascending =
      let none = absent txn txns ascending in
      let here = aborts txn txns none in
      let met = λ (assignment : List TxnId). meeting_of (filter (λ place. meets_on (txn ∷ txns) (condition_at cases place) assignment) places) in
      let left = λ (outcome : Bool) (assignment : List TxnId). meeting_of (filter (λ place. meets_on txns (condition_at cases place) assignment) (places_with cases txn outcome places)) in
      let front : map met (assignments txns) ≡ map (left false) (assignments txns) =
      map-alike met (left false) (assignments txns)
      (λ k d within. meeting-split cases places txn false txns (get_or (assignments txns) k d) (get_or (assignments txns) k d) none (here k d within) (λ other apart. refl)) in
      let back : map met (map (λ assignment. txn ∷ assignment) (assignments txns)) ≡ map (left true) (assignments txns) =
      map-map met (λ assignment. txn ∷ assignment) (assignments txns)
      ∙ map-alike (λ assignment. met (txn ∷ assignment)) (left true) (assignments txns)
      (λ k d within. meeting-split cases places txn true txns (get_or (assignments txns) k d) (txn ∷ get_or (assignments txns) k d) none
      (ap (λ (b : Bool). b || commits (get_or (assignments txns) k d) txn) (same-refl txn))
      (λ other apart. ap (λ (b : Bool). b || commits (get_or (assignments txns) k d) other) (same-sym txn other ∙ apart))) in
      map-append met (assignments txns) (map (λ assignment. txn ∷ assignment) (assignments txns))
      ∙ ap (λ (list : List Meeting). list ++ map met (map (λ assignment. txn ∷ assignment) (assignments txns))) front
      ∙ ap (λ (list : List Meeting). map (left false) (assignments txns) ++ list) back

  -- Pushed, they come after what the list held.
  pub push-none : (cases : List (Case V)) (places : List ℕ) (txns : List TxnId) (meeting : Meeting) (old new : List Meeting) → length txns ≡ 0
      → meeting ≡ meeting_of places → new ≡ old ++ meeting ∷ [] → new ≡ old ++ meetings_among cases places txns
  push-none cases places [] meeting old new none is pushed =
      pushed ∙ ap (λ (m : Meeting). old ++ m ∷ []) is ∙ ap (λ (list : List Meeting). old ++ list) (sym (among-none cases places))
  push-none cases places (txn ∷ txns) meeting old new none is pushed = absurd (omega (arith, none))

  pub push-first : (cases : List (Case V)) (places : List ℕ) (txns : List TxnId) (txn : TxnId) (rest : List TxnId) (without with : List ℕ) (old middle new : List Meeting)
      → Ascending txns → txns ≡ txn ∷ rest
      → without ≡ places_with cases txn false places → with ≡ places_with cases txn true places
      → middle ≡ old ++ meetings_among cases without rest → new ≡ middle ++ meetings_among cases with rest
      → new ≡ old ++ meetings_among cases places txns
  push-first cases places txns txn rest without with old middle new ascending split front back first second =
      second
      ∙ ap (λ (list : List Meeting). list ++ meetings_among cases with rest) first
      ∙ append_assoc old (meetings_among cases without rest) (meetings_among cases with rest)
      ∙ ap (λ (list : List Meeting). old ++ list)
      (ap (λ (list : List ℕ). meetings_among cases list rest ++ meetings_among cases with rest) front
      ∙ ap (λ (list : List ℕ). meetings_among cases (places_with cases txn false places) rest ++ meetings_among cases list rest) back
      ∙ sym (among-first cases places txn rest (subst Ascending split ascending))
      ∙ ap (λ (list : List TxnId). meetings_among cases places list) (sym split))

  -- The places left are places of cases.
  pub still-there : (cases : List (Case V)) (places left : List ℕ) (txn : TxnId) (outcome : Bool) → left ≡ places_with cases txn outcome places
      → All (λ place. place < length cases) places → All (λ place. place < length cases) left
  still-there cases places left txn outcome is there =
      subst (λ (list : List ℕ). All (λ place. place < length cases) list) (sym is)
      (All-filter (λ place. allows txn outcome (condition_at cases place)) (λ place. place < length cases) places there)

-- All transactions, and all places.

pub range-more : (count : ℕ) → range_with_len 0 (count + 1) ≡ range_with_len 0 count ++ count ∷ []
range-more count =
    sym (map-id (range_with_len 0 (count + 1))) ∙ map-range_with_len_more (λ (place : ℕ). place) 0 count count (zero-add count)
    ∙ ap (λ (list : List ℕ). list ++ count ∷ []) (map-id (range_with_len 0 count))

pub all-there : (count : ℕ) → All (λ place. place < count) (range_with_len 0 count)
all-there count =
    All-from_get_or (λ place. place < count) (range_with_len 0 count) 0
    (λ i within. let inside : i < count = omega (arith, within, length-range_with_len 0 count) in omega (arith, inside, get_or-range_with_len 0 count i 0 inside))

-- Where all of them are on the transactions, all literals are met that are on them.
meets-all : (txns : List TxnId) (when : List Literal) (assignment : List TxnId) → All (λ literal. list_any (is_same_txn literal.txn) txns ≡ true) when
    → meets_on txns when assignment ≡ meets when assignment
meets-all txns [] assignment all = refl
meets-all txns (literal ∷ when) assignment all =
    ap (λ (b : Bool). (not b || is_met assignment literal) && meets_on txns when assignment)
    (All-head (λ literal. list_any (is_same_txn literal.txn) txns ≡ true) literal when all)
    ∙ ap (λ (b : Bool). is_met assignment literal && b)
    (meets-all txns when assignment (All-tail (λ literal. list_any (is_same_txn literal.txn) txns ≡ true) literal when all))

cond-if : {X : Type 0} (b : Bool) (x y : X) → cond b x y ≡ (if b then x else y)
cond-if true x y = refl
cond-if false x y = refl

add-moved : (a k : ℕ) → (a + 1) + k ≡ a + suc k
add-moved a k = omega arith

module _ {V : Type 0} where
  -- Cases name each transaction of their literals.
  named-at : (cases : List (Case V)) (k i : ℕ) (d : Literal) → k < length cases → i < length (condition_at cases k)
      → IsTrue (names cases (get_or (condition_at cases k) i d).txn)
  named-at [] k i d within inside = absurd (omega (arith, within))
  named-at (case ∷ cases) zero i d within inside =
      or_left _ (names cases (get_or case.when i d).txn) (list_any_at (λ literal. is_same_txn (get_or case.when i d).txn literal.txn) case.when i d inside (same-refl (get_or case.when i d).txn))
  named-at (case ∷ cases) (suc k) i d within inside =
      or_right (list_any (λ literal. is_same_txn (get_or (condition_at cases k) i d).txn literal.txn) case.when) _
      (named-at cases k i d (omega (arith, within)) inside)

  -- The places from this one on at which a test holds that says whether the case is met.
  places-tested : (test : ℕ → Bool) (assignment : List TxnId) (cases : List (Case V)) (first : ℕ)
      → ((k : ℕ) → k < length cases → test (first + k) ≡ meets (condition_at cases k) assignment)
      → filter test (range_with_len first (length cases)) ≡ places_from first cases assignment
  places-tested test assignment [] first same = refl
  places-tested test assignment (case ∷ cases) first same =
      let rest : filter test (range_with_len (first + 1) (length cases)) ≡ places_from (first + 1) cases assignment =
      places-tested test assignment cases (first + 1)
      (λ k within. ap test (add-moved first k) ∙ same (suc k) (omega (arith, within))) in
      let here : test first ≡ meets case.when assignment = ap test (sym (add-zero first)) ∙ same 0 (omega arith) in
      ap (λ (b : Bool). cond b (first ∷ filter test (range_with_len (first + 1) (length cases))) (filter test (range_with_len (first + 1) (length cases)))) here
      ∙ ap (λ (list : List ℕ). cond (meets case.when assignment) (first ∷ list) list) (rest ∙ ap (λ (n : ℕ). places_from n cases assignment) (add-one first))
      ∙ cond-if (meets case.when assignment) (first ∷ places_from (suc first) cases assignment) (places_from (suc first) cases assignment)

  -- Each literal of the case at this place is on one of the names.
  literals-named : (cases : List (Case V)) (txns : List TxnId) (k : ℕ) → k < length cases → AreNames cases txns
      → All (λ literal. list_any (is_same_txn literal.txn) txns ≡ true) (condition_at cases k)
  literals-named cases txns k within are = λ i d inside.
      let literal = get_or (condition_at cases k) i d in
      let found = are.whole literal.txn (named-at cases k i d within inside) in
      list_any_at (is_same_txn literal.txn) txns found.0 literal.txn found.1 (same-from-eq (sym found.2))

  -- All places and all names: what is met among them is what is met.
  pub meetings-all : (cases : List (Case V)) (txns : List TxnId) → AreNames cases txns
      → meetings_among cases (range_with_len 0 (length cases)) txns ≡ meetings_of cases txns
  unfolding meetings_among
  meetings-all cases txns are =
      map-same (λ assignment. meeting_of (filter (λ place. meets_on txns (condition_at cases place) assignment) (range_with_len 0 (length cases))))
      (λ assignment. meeting_of (places_met cases assignment)) (assignments txns)
      (λ assignment _. ap meeting_of (places-tested (λ place. meets_on txns (condition_at cases place) assignment) assignment cases 0
      (λ k within. ap (λ (n : ℕ). meets_on txns (condition_at cases n) assignment) (zero-add k)
      ∙ meets-all txns (condition_at cases k) assignment (literals-named cases txns k within are))))

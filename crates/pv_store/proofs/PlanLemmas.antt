-- What is planned for a promise.
use Rattle.std.proofs.Common.{◌≡◌, ◌∙◌, ◌⊎◌, ⊎_elim, suc, ℕ, ℤ, ◌<◌, ◌≤◌, ◌+◌, Bool, true, false, Some, None, Option, List, [], ◌∷◌, ◌++◌, ◌==◌, length, map, get_or, All, inl, inr, refl, sym, ap, ap₂, subst, arith}
use Rattle.std.specs.Prelude.{Result, Ok, Err, IfSome, slice_get, nat_lt, if◌then◌else◌, IsTrue}
use Rattle.std.specs.List.{AllPairs, Contains, list_any}
use Rattle.std.specs.Option.{option_or}
use Rattle.std.proofs.lemmas.Bool.{eqb-true, eqb-false, ne_eqb, eq-eqb, le-ltb, ltb-true, ltb-false}
use Rattle.std.specs.Result.{IsErrAnd}
use Rattle.std.proofs.lemmas.Result.{err_from_is_err_and}
use Rattle.std.proofs.lemmas.List.Elements.{All-cons, All-head, All-tail, All-weaker, All-contains}
use Rattle.std.proofs.lemmas.List.Kept.{AllPairs-cons}
use Rattle.std.proofs.lemmas.Option.{none-some}
use Rattle.pv_base.proofs.ContainsLemmas.{Contains-first, Contains-behind, Contains-nil, Contains-cases}
use Rattle.pv_base.specs.Catalog.{Item, Declared}
use Rattle.pv_base.specs.declared.limits.TheConstants.{HELD_NAMES}
use Rattle.pv_base.specs.declared.txn.TxnId.{TxnId}
use Rattle.pv_base.specs.Named.{names_of}
use Rattle.pv_base.specs.Polyvalue.{Case}
use Rattle.pv_format.specs.Record.{Record, prepared}
use Rattle.pv_law_values.proofs.ShownMore.{shown-promise, within-unwritten}
use Rattle.pv_law_step.proofs.HomeLemmas.{items-home}
use Rattle.pv_law_step.proofs.WidthLemmas.{or-none}
use Rattle.pv_protocol.specs.Here.{Here}
use Rattle.pv_protocol.specs.Lock.{is_home}
use Rattle.pv_law_step.proofs.ShownLemmas.{if-same}
use Rattle.pv_model.specs.Alternatives.{Read}
use Rattle.pv_protocol.specs.Shown.{written}
use Rattle.pv_protocol.specs.Outcome.{items_from}
use Rattle.pv_base.specs.Answer.{HasOneAnswer}
use Rattle.pv_base.proofs.AnswerLemmas.{answered}
use Rattle.pv_base.specs.Polyvalue.{names}
use Rattle.pv_protocol.specs.Shown.{shown}
use Rattle.pv_store.specs.declared.error.StoreError.{StoreError}
use Rattle.pv_store.specs.declared.error.StoreError.TheVariants.{NoMemory}
use Rattle.pv_store.specs.Kept as kept-words
use Rattle.pv_store.specs.Kept.{Kept, IsPlannedOn, Places, has_place}
use Rattle.pv_store.specs.Refusals.{AnswersFor, IsRefusedFor, count_of, first_too_many, if_too_many, site_items, too_many_with, width}
use Rattle.pv_store.specs.Held.{ArePlaced, Values}
use Rattle.pv_store.specs.Promise.{after_promise}
use Rattle.pv_store.proofs.HeldLemmas.{shown-at}
use Rattle.pv_store.proofs.MentionLemmas.{any-has, home-listed-in}
use Rattle.pv_store.proofs.SettlingLemmas.{has_item, held-home, replaced-each}
use Rattle.pv_store.proofs.WriteLemmas.{held-is}
use Rattle.pv_store.specs.Writes.{AreAfter, AreFirst, IsPromising, after_write, held_writes, is_held, items_of, with_held, with_write}

some-is : {X : Type 0} (x y : X) → Some x ≡ Some y → x ≡ y
some-is x y e = cc

-- Writes that ascend.

abbrev pub Ascend : List Read → Type 0
Ascend writes = AllPairs (λ (write later : Read). write.item < later.item) writes

abbrev Above : ℕ → List Read → Type 0
Above n writes = All (λ (write : Read). n < write.item) writes

pairs-head : (first : Read) (rest : List Read) → Ascend (first ∷ rest) → Above first.item rest
pairs-head first rest up = λ k d below. up 0 (suc k) d (omega arith) (omega (arith, below))

pairs-tail : (first : Read) (rest : List Read) → Ascend (first ∷ rest) → Ascend rest
pairs-tail first rest up = λ i j d before within. up (suc i) (suc j) d (omega (arith, before)) (omega (arith, within))

above-more : (n m : ℕ) (writes : List Read) → n < m → Above m writes → Above n writes
above-more n m writes less above = All-weaker (λ (write : Read). m < write.item) (λ (write : Read). n < write.item) (λ write is. omega (arith, is, less)) writes above

-- the write beside the first of the others
data Beside (write first : Read) (rest : List Read) : Type 0 where
  at_it : write.item ≡ first.item → with_write write (first ∷ rest) ≡ first ∷ rest → Beside write first rest
  before_it : write.item < first.item → with_write write (first ∷ rest) ≡ write ∷ (first ∷ rest) → Beside write first rest
  behind_it : first.item < write.item → with_write write (first ∷ rest) ≡ first ∷ with_write write rest → Beside write first rest

beside-by : (write first : Read) (rest : List Read) (same less : Bool) → (write.item == first.item) ≡ same → nat_lt write.item first.item ≡ less → Beside write first rest
beside-by write first rest true less same before =
    at_it (eqb-true write.item first.item same)
    (ap (λ (test : Bool). if test then first ∷ rest else (if nat_lt write.item first.item then write ∷ (first ∷ rest) else first ∷ with_write write rest)) same)
beside-by write first rest false true other before =
    before_it (ltb-true write.item first.item before)
    (ap (λ (test : Bool). if test then first ∷ rest else (if nat_lt write.item first.item then write ∷ (first ∷ rest) else first ∷ with_write write rest)) other
    ∙ ap (λ (test : Bool). if test then write ∷ (first ∷ rest) else first ∷ with_write write rest) before)
beside-by write first rest false false other before =
    behind_it (let apart = eqb-false write.item first.item other in let from = ltb-false write.item first.item before in omega (arith, apart, from))
    (ap (λ (test : Bool). if test then first ∷ rest else (if nat_lt write.item first.item then write ∷ (first ∷ rest) else first ∷ with_write write rest)) other
    ∙ ap (λ (test : Bool). if test then write ∷ (first ∷ rest) else first ∷ with_write write rest) before)

beside : (write first : Read) (rest : List Read) → Beside write first rest
beside write first rest = beside-by write first rest (write.item == first.item) (nat_lt write.item first.item) refl refl

none-above : (n : ℕ) → Above n []
none-above n = λ k d below. absurd (omega (arith, below))

one-ascends : (write : Read) → Ascend (write ∷ [])
one-ascends write = λ i j d before within. absurd (omega (arith, before, within))

above-with : (n : ℕ) (write : Read) (found : List Read) → n < write.item → Above n found → Above n (with_write write found)
above-with n write [] less above = All-cons (λ (write : Read). n < write.item) write [] less (none-above n)
above-with n write (first ∷ rest) less above = by (beside write first rest) (above-with n write rest less (All-tail (λ (write : Read). n < write.item) first rest above))
  where
    by : Beside write first rest → Above n (with_write write rest) → Above n (with_write write (first ∷ rest))
    by (at_it same is) later = subst (Above n) (sym is) above
    by (before_it before is) later = subst (Above n) (sym is) (All-cons (λ (write : Read). n < write.item) write (first ∷ rest) less above)
    by (behind_it behind is) later = subst (Above n) (sym is) (All-cons (λ (write : Read). n < write.item) first (with_write write rest) (All-head (λ (write : Read). n < write.item) first rest above) later)

pub ascend-with : (write : Read) (found : List Read) → Ascend found → Ascend (with_write write found)
ascend-with write [] up = one-ascends write
ascend-with write (first ∷ rest) up = by (beside write first rest) (ascend-with write rest (pairs-tail first rest up))
  where
    R : Read → Read → Type 0
    R write later = write.item < later.item

    by : Beside write first rest → Ascend (with_write write rest) → Ascend (with_write write (first ∷ rest))
    by (at_it same is) later = subst Ascend (sym is) up
    by (before_it before is) later =
        subst Ascend (sym is) (AllPairs-cons R write (first ∷ rest)
        (All-cons (λ (other : Read). write.item < other.item) first rest before (above-more write.item first.item rest before (pairs-head first rest up))) up)
    by (behind_it behind is) later =
        subst Ascend (sym is) (AllPairs-cons R first (with_write write rest) (above-with first.item write rest behind (pairs-head first rest up)) later)

-- What is written by them.

abbrev own : Read → ℕ → Option (List (Case ℤ))
own write item = if write.item == item then Some write.cases else None

unwritten-above : (n item : ℕ) (writes : List Read) → item ≤ n → Above n writes → written item writes ≡ None
unwritten-above n item [] less above = refl
unwritten-above n item (write ∷ writes) less above =
    ap (λ (test : Bool). if test then Some write.cases else written item writes)
    (ne_eqb write.item item (λ same. let first = All-head (λ (write : Read). n < write.item) write writes above in omega (arith, same, first, less)))
    ∙ unwritten-above n item writes less (All-tail (λ (write : Read). n < write.item) write writes above)

or-own : (test : Bool) (cases : List (Case ℤ)) (rest more : Option (List (Case ℤ))) → (test ≡ false → rest ≡ rest)
    → (if test then Some cases else option_or rest more) ≡ option_or (if test then Some cases else rest) more
or-own true cases rest more h = refl
or-own false cases rest more h = refl

or-nothing : (found : Option (List (Case ℤ))) → option_or found None ≡ found
or-nothing None = refl
or-nothing (Some cases) = refl

-- One more write tells of its own item, if there is none of it.
pub written-with : (write : Read) (found : List Read) → Ascend found → (item : ℕ) → written item (with_write write found) ≡ option_or (written item found) (own write item)
written-with write [] up item = refl
written-with write (first ∷ rest) up item = by (beside write first rest) (written-with write rest (pairs-tail first rest up) item)
  where
    at-same : (test : Bool) → (first.item == item) ≡ test → write.item ≡ first.item
        → (if test then Some first.cases else written item rest) ≡ option_or (if test then Some first.cases else written item rest) (own write item)
    at-same true is same = refl
    at-same false is same =
        sym (ap (λ (test : Bool). option_or (written item rest) (if test then Some write.cases else None)) (ne_eqb write.item item (λ e. eqb-false first.item item is (sym same ∙ e)))
        ∙ or-nothing (written item rest))

    at-before : (test : Bool) → (write.item == item) ≡ test → write.item < first.item
        → (if test then Some write.cases else written item (first ∷ rest)) ≡ option_or (written item (first ∷ rest)) (if test then Some write.cases else None)
    at-before true is before =
        let equal : write.item ≡ item = eqb-true write.item item is in
        sym (ap (λ found. option_or found (Some write.cases))
        (unwritten-above item item (first ∷ rest) (omega arith)
        (All-cons (λ (other : Read). item < other.item) first rest (omega (arith, before, equal)) (above-more item first.item rest (omega (arith, before, equal)) (pairs-head first rest up)))))
    at-before false is before = sym (or-nothing (written item (first ∷ rest)))

    by : Beside write first rest → written item (with_write write rest) ≡ option_or (written item rest) (own write item)
        → written item (with_write write (first ∷ rest)) ≡ option_or (written item (first ∷ rest)) (own write item)
    by (at_it same is) later = ap (written item) is ∙ at-same (first.item == item) refl same
    by (before_it before is) later = ap (written item) is ∙ at-before (write.item == item) refl before
    by (behind_it behind is) later =
        ap (written item) is ∙ ap (λ found. if first.item == item then Some first.cases else found) later
        ∙ or-own (first.item == item) first.cases (written item rest) (own write item) (λ e. refl)

-- What is found of some writes.

held-own : (values : Values) (write : Read) (found : List Read) (item : ℕ) → Ascend found
    → (test : Bool) → is_held (slice_get values write.item) ≡ test
    → written item (if test then with_write write found else found) ≡ option_or (written item found) (if is_held (slice_get values item) then own write item else None)
held-own values write found item up true held =
    written-with write found up item ∙ ap (option_or (written item found)) (at-item (write.item == item) refl)
  where
    at-item : (test : Bool) → (write.item == item) ≡ test
        → (if test then Some write.cases else None) ≡ (if is_held (slice_get values item) then (if test then Some write.cases else None) else None)
    at-item true same =
        ap (λ (test : Bool). if test then Some write.cases else None) (sym held ∙ ap (λ n. is_held (slice_get values n)) (eqb-true write.item item same))
    at-item false other = sym (if-same (is_held (slice_get values item)) None)
held-own values write found item up false held =
    sym (ap (option_or (written item found)) (at-item (write.item == item) refl) ∙ or-nothing (written item found))
  where
    at-item : (test : Bool) → (write.item == item) ≡ test
        → (if is_held (slice_get values item) then (if test then Some write.cases else None) else None) ≡ None
    at-item true same =
        ap (λ (test : Bool). if test then Some write.cases else None) (ap (λ n. is_held (slice_get values n)) (sym (eqb-true write.item item same)) ∙ held)
    at-item false other = if-same (is_held (slice_get values item)) None

or-assoc : (a b c : Option (List (Case ℤ))) → option_or (option_or a b) c ≡ option_or a (option_or b c)
or-assoc None b c = refl
or-assoc (Some a) b c = refl

held-first : (test : Bool) (own_ : Bool) (cases : List (Case ℤ)) (rest : Option (List (Case ℤ)))
    → option_or (if test then (if own_ then Some cases else None) else None) (if test then rest else None) ≡ (if test then (if own_ then Some cases else rest) else None)
held-first true true cases rest = refl
held-first true false cases rest = refl
held-first false own_ cases rest = refl

pub held-ascend : (values : Values) (found writes : List Read) → Ascend found → Ascend (held_writes values found writes)
held-ascend values found [] up = up
held-ascend values found (write ∷ writes) up =
    held-ascend values (with_held values write found) writes (by (is_held (slice_get values write.item)))
  where
    by : (test : Bool) → Ascend (if test then with_write write found else found)
    by true = ascend-with write found up
    by false = up

-- They tell what the writes tell of items that have a value.
pub held-written : (values : Values) (found writes : List Read) → Ascend found → (item : ℕ)
    → written item (held_writes values found writes) ≡ option_or (written item found) (if is_held (slice_get values item) then written item writes else None)
held-written values found [] up item = sym (ap (option_or (written item found)) (if-same (is_held (slice_get values item)) None) ∙ or-nothing (written item found))
held-written values found (write ∷ writes) up item =
    held-written values (with_held values write found) writes (by (is_held (slice_get values write.item))) item
    ∙ ap (λ first. option_or first (if is_held (slice_get values item) then written item writes else None))
    (held-own values write found item up (is_held (slice_get values write.item)) refl)
    ∙ or-assoc (written item found) (if is_held (slice_get values item) then own write item else None) (if is_held (slice_get values item) then written item writes else None)
    ∙ ap (option_or (written item found)) (held-first (is_held (slice_get values item)) (write.item == item) write.cases (written item writes))
  where
    by : (test : Bool) → Ascend (if test then with_write write found else found)
    by true = ascend-with write found up
    by false = up

-- Each of ascending writes is the one that they tell of its item.
pub each-written : (found : List Read) → Ascend found → All (λ (write : Read). written write.item found ≡ Some write.cases) found
each-written [] up = λ k d below. absurd (omega (arith, below))
each-written (first ∷ rest) up =
    All-cons (λ (write : Read). written write.item (first ∷ rest) ≡ Some write.cases) first rest
    (ap (λ (test : Bool). if test then Some first.cases else written first.item rest) (eq-eqb first.item first.item refl))
    (later rest (pairs-head first rest up) (each-written rest (pairs-tail first rest up)))
  where
    later : (some : List Read) → Above first.item some → All (λ (write : Read). written write.item rest ≡ Some write.cases) some
        → All (λ (write : Read). written write.item (first ∷ rest) ≡ Some write.cases) some
    later [] above each = λ k d below. absurd (omega (arith, below))
    later (write ∷ some) above each =
        All-cons (λ (write : Read). written write.item (first ∷ rest) ≡ Some write.cases) write some
        (ap (λ (test : Bool). if test then Some first.cases else written write.item rest)
        (ne_eqb first.item write.item (λ same. let less = All-head (λ (write : Read). first.item < write.item) write some above in absurd (omega (arith, same, less))))
        ∙ All-head (λ (write : Read). written write.item rest ≡ Some write.cases) write some each)
        (later some (All-tail (λ (write : Read). first.item < write.item) write some above) (All-tail (λ (write : Read). written write.item rest ≡ Some write.cases) write some each))

-- Lists of numbers that ascend.

abbrev Rises : List ℕ → Type 0
Rises [] = Unit {0}
Rises (n ∷ ns) = ((m : ℕ) → Contains ns m → n < m) × Rises ns

behind-first : (n : ℕ) (ns : List ℕ) (m : ℕ) → (n ≡ m → ⊥) → Contains (n ∷ ns) m → Contains ns m
behind-first n ns m apart h = ⊎_elim (λ same. absurd (apart same)) (λ rest. rest) (Contains-cases n ns m h)

from-above : (site first : ℕ) (items : List Item) (n : ℕ) → Contains (items_from site first items) n → first ≤ n
from-above site first [] n h = absurd (Contains-nil n h)
from-above site first (declared ∷ items) n h = by (declared.site == site) h (from-above site (first + 1) items n)
  where
    by : (test : Bool) → Contains (if test then first ∷ items_from site (first + 1) items else items_from site (first + 1) items) n
        → (Contains (items_from site (first + 1) items) n → first + 1 ≤ n) → first ≤ n
    by true h later = ⊎_elim (λ same. omega (arith, same)) (λ rest. omega (arith, later rest)) (Contains-cases first (items_from site (first + 1) items) n h)
    by false h later = omega (arith, later h)

site-rises : (site first : ℕ) (items : List Item) → Rises (items_from site first items)
site-rises site first [] = tt
site-rises site first (declared ∷ items) = by (declared.site == site) (site-rises site (first + 1) items)
  where
    by : (test : Bool) → Rises (items_from site (first + 1) items) → Rises (if test then first ∷ items_from site (first + 1) items else items_from site (first + 1) items)
    by true rest = ((λ m h. omega (arith, from-above site (first + 1) items m h)), rest)
    by false rest = rest

pub item-of : (writes : List Read) (n : ℕ) → Contains (items_of writes) n → (write : Read) × Contains writes write × (write.item ≡ n)
item-of [] n h = absurd (Contains-nil n h)
item-of (write ∷ writes) n h =
    ⊎_elim (λ same. (write, Contains-first write writes, same)) (λ rest. let later = item-of writes n rest in (later.0, Contains-behind write writes later.0 later.1, later.2))
    (Contains-cases write.item (items_of writes) n h)

items-rise : (writes : List Read) → Ascend writes → Rises (items_of writes)
items-rise [] up = tt
items-rise (write ∷ writes) up = (
  (λ m h. let one = item-of writes m h in subst (λ k. write.item < k) one.2 (All-contains (λ (other : Read). write.item < other.item) writes one.0 (pairs-head write writes up) one.1)),
  items-rise writes (pairs-tail write writes up),
)

-- The first count that is too large is found among some of the items, where it is none at the others.
module _ (catalog : Declared) (records front : List Record) where
  abbrev at-item : ℕ → Option ℕ
  at-item item = if_too_many (width catalog records front item)

  abbrev count-of : List ℕ → Option ℕ
  count-of items = first_too_many catalog records front items

  pub count-some : (items some : List ℕ) → Rises items → Rises some → ((n : ℕ) → Contains some n → Contains items n)
      → ((n : ℕ) → Contains items n → (Contains some n → ⊥) → at-item n ≡ None) → count-of items ≡ count-of some
  count-some [] [] up less within else_ = refl
  count-some [] (s ∷ some) up less within else_ = absurd (Contains-nil s (within s (Contains-first s some)))
  count-some (n ∷ items) [] up less within else_ =
      ap (λ first. option_or first (count-of items)) (else_ n (Contains-first n items) (λ h. Contains-nil n h))
      ∙ count-some items [] up.1 tt (λ m h. absurd (Contains-nil m h)) (λ m h no. else_ m (Contains-behind n items m h) no)
  count-some (n ∷ items) (s ∷ some) up less within else_ =
      by (n == s) refl
      (λ same. count-some items some up.1 less.1
      (λ m h. behind-first n items m (λ e. let above = less.0 m h in absurd (omega (arith, above, e, same))) (within m (Contains-behind s some m h)))
      (λ m h no. else_ m (Contains-behind n items m h) (λ k. no (behind-first s some m (λ e. let above = up.0 m h in absurd (omega (arith, above, e, same))) k))))
      (λ apart. count-some items (s ∷ some) up.1 less
      (λ m h. behind-first n items m (λ e. none-here apart m h e) (within m h))
      (λ m h no. else_ m (Contains-behind n items m h) no))
    where
      none-here : (n ≡ s → ⊥) → (m : ℕ) → Contains (s ∷ some) m → n ≡ m → ⊥
      none-here apart m h e =
          ⊎_elim
          (λ first. apart (e ∙ sym first))
          (λ rest. let above = less.0 m rest in let below = up.0 s (behind-first n items s apart (within s (Contains-first s some))) in absurd (omega (arith, above, below, e)))
          (Contains-cases s some m h)

      by : (test : Bool) → (n == s) ≡ test → (n ≡ s → count-of items ≡ count-of some) → ((n ≡ s → ⊥) → count-of items ≡ count-of (s ∷ some))
          → count-of (n ∷ items) ≡ count-of (s ∷ some)
      by true is same other =
          let equal : n ≡ s = eqb-true n s is in
          ap₂ (λ k rest. option_or (at-item k) rest) equal (same equal)
      by false is same other =
          let apart = eqb-false n s is in
          ap (λ first. option_or first (count-of items)) (else_ n (Contains-first n items) (λ h. none-here apart n h refl)) ∙ other apart

-- What a record of writes makes of a site's values.

held-both : (test : Bool) (found : Option (List (Case ℤ))) (cases : List (Case ℤ)) → (if test then found else None) ≡ Some cases → (test ≡ true) × (found ≡ Some cases)
held-both true found cases e = (refl, e)
held-both false found cases e = absurd (none-some cases e)

module _ (values : Values) (writes : List Read) where
  abbrev found : List Read
  found = held_writes values [] writes

  nothing-ascends : Ascend []
  nothing-ascends = λ i j d before within. absurd (omega (arith, within))

  found-ascends : Ascend found
  found-ascends = held-ascend values [] writes nothing-ascends

  found-tells : (item : ℕ) → written item found ≡ (if is_held (slice_get values item) then written item writes else None)
  found-tells item = held-written values [] writes nothing-ascends item

  pub found-firsts : All (λ (write : Read). IsTrue (is_held (slice_get values write.item)) × (written write.item writes ≡ Some write.cases)) found
  found-firsts =
      All-weaker (λ (write : Read). written write.item found ≡ Some write.cases)
      (λ (write : Read). IsTrue (is_held (slice_get values write.item)) × (written write.item writes ≡ Some write.cases))
      (λ write is. held-both (is_held (slice_get values write.item)) (written write.item writes) write.cases (sym (found-tells write.item) ∙ is)) found (each-written found found-ascends)

  pub found-held : All (λ (write : Read). IsTrue (is_held (slice_get values write.item))) found
  found-held =
      All-weaker (λ (write : Read). IsTrue (is_held (slice_get values write.item)) × (written write.item writes ≡ Some write.cases))
      (λ (write : Read). IsTrue (is_held (slice_get values write.item))) (λ write is. is.0) found found-firsts

all-map : {X Y : Type 0} (P : Y → Type 0) (f : X → Y) (xs : List X) → All (λ x. P (f x)) xs → All P (map f xs)
all-map P f [] each = λ k d below. absurd (omega (arith, below))
all-map P f (x ∷ xs) each = All-cons P (f x) (map f xs) (All-head (λ x. P (f x)) x xs each) (all-map P f xs (All-tail (λ x. P (f x)) x xs each))

all-same : {X Y : Type 0} (f g : X → Y) (xs : List X) → ((x : X) → f x ≡ g x) → All (λ x. f x ≡ g x) xs
all-same f g xs same = λ k d below. same (get_or xs k d)

pub written-item : (item : ℕ) (writes : List Read) → written item writes ≡ None ⊎ Contains (items_of writes) item
written-item item [] = inl refl
written-item item (write ∷ writes) = by (write.item == item) refl (written-item item writes)
  where
    by : (test : Bool) → (write.item == item) ≡ test → written item writes ≡ None ⊎ Contains (items_of writes) item
        → ((if test then Some write.cases else written item writes) ≡ None) ⊎ Contains (write.item ∷ items_of writes) item
    by true same rest = inr (subst (λ n. Contains (write.item ∷ items_of writes) n) (eqb-true write.item item same) (Contains-first write.item (items_of writes)))
    by false other rest = ⊎_elim (λ none. inl none) (λ h. inr (Contains-behind write.item (items_of writes) item h)) rest

absent-written : (f : Read → Read) → ((read : Read) → (f read).item ≡ read.item) → (item : ℕ) (writes : List Read) → list_any (λ (read : Read). read.item == item) (map f writes) ≡ false
    → written item writes ≡ None
absent-written f keeps item [] absent = refl
absent-written f keeps item (write ∷ writes) absent =
    let parts = or-none ((f write).item == item) (list_any (λ (read : Read). read.item == item) (map f writes)) absent in
    ap (λ (test : Bool). if test then Some write.cases else written item writes) (ap (λ n. n == item) (sym (keeps write)) ∙ parts.0)
    ∙ absent-written f keeps item writes parts.1

few-of-none : (count : ℕ) → if_too_many count ≡ None → count ≤ HELD_NAMES
few-of-none count fits = by (nat_lt HELD_NAMES count) refl fits
  where
    by : (test : Bool) → nat_lt HELD_NAMES count ≡ test → (if test then Some count else None) ≡ None → count ≤ HELD_NAMES
    by true is wrong = absurd (none-some count (sym wrong))
    by false is right = ltb-false HELD_NAMES count is

or-none-parts : (first rest : Option ℕ) → option_or first rest ≡ None → (first ≡ None) × (rest ≡ None)
or-none-parts None rest e = (refl, e)
or-none-parts (Some n) rest e = absurd (let bad : ⊥ = cc in bad)

pub none-of-count : (catalog : Declared) (records front : List Record) (items : List ℕ) (item : ℕ) → first_too_many catalog records front items ≡ None → Contains items item
    → if_too_many (width catalog records front item) ≡ None
none-of-count catalog records front [] item none h = absurd (Contains-nil item h)
none-of-count catalog records front (first ∷ items) item none h =
    let parts = or-none-parts (if_too_many (width catalog records front first)) (first_too_many catalog records front items) none in
    ⊎_elim (λ same. subst (λ n. if_too_many (width catalog records front n) ≡ None) same parts.0) (λ rest. none-of-count catalog records front items item parts.1 rest)
    (Contains-cases first items item h)

module _ (catalog : Declared) (site : ℕ) (records front : List Record) (txn : TxnId) (writes : List Read) (outcomes : List (TxnId × Bool)) (values : Values)
    (is : IsPromising catalog site records front outcomes values) where
  abbrev firsts : List Read
  firsts = held_writes values [] writes

  abbrev later : List Record
  later = front ++ prepared txn writes ∷ []

  pub are-first : AreFirst catalog site writes firsts
  are-first =
      All-weaker (λ (write : Read). IsTrue (is_held (slice_get values write.item)) × (written write.item writes ≡ Some write.cases))
      (λ (write : Read). IsTrue (is_home catalog site write.item) × (written write.item writes ≡ Some write.cases))
      (λ write both. let one = held-is (slice_get values write.item) both.0 in ((held-home catalog site records front values is.shown write.item one.0 one.1).0, both.1)) firsts (found-firsts values writes)

  home-held : (item : ℕ) → IsTrue (is_home catalog site item) → is_held (slice_get values item) ≡ true
  home-held item home = ap is_held (shown-at catalog site records front values is.shown item home)

  not-written : (item : ℕ) → IsTrue (is_home catalog site item) → written item firsts ≡ None → written item writes ≡ None
  not-written item home none =
      sym (ap (λ (test : Bool). if test then written item writes else None) (home-held item home)) ∙ sym (found-tells values writes item) ∙ none

  -- what isn't written stays narrow
  stays : (item : ℕ) → IsTrue (is_home catalog site item) → written item writes ≡ None → width catalog records later item ≤ HELD_NAMES
  stays item home none =
      subst (λ cases. length (names_of cases) ≤ HELD_NAMES) (sym (within-unwritten catalog records front txn writes item none)) (is.shown.narrow item home)

  abbrev here : Here
  here = record {
    me = site;
    setup = record { catalog = catalog; read_names = 0; held_names = 0 };
    records = records;
    surplus = 0;
    running = record { epoch = 0; next_txn = 0; next_grant = 0; grants = []; entries = [] };
  }

  -- The count is found among what is written of the site's items.
  pub count-written : first_too_many catalog records later (site_items catalog site) ≡ first_too_many catalog records later (items_of firsts)
  count-written =
      count-some catalog records later (site_items catalog site) (items_of firsts) (site-rises site 0 catalog.items) (items-rise firsts (found-ascends values writes))
      (λ n h. let one = item-of firsts n h in
      subst (λ k. Contains (site_items catalog site) k) one.2 (home-listed-in catalog site one.0.item
      (All-contains (λ (write : Read). IsTrue (is_home catalog site write.item) × (written write.item writes ≡ Some write.cases)) firsts one.0 are-first one.1).0))
      (λ n h no. narrow-none (width catalog records later n)
      (stays n (items-home here n h) (not-written n (items-home here n h) (⊎_elim (λ none. none) (λ k. absurd (no k)) (written-item n firsts)))))
    where
      narrow-none : (count : ℕ) → count ≤ HELD_NAMES → if_too_many count ≡ None
      narrow-none count few = ap (λ (test : Bool). if test then Some count else None) (le-ltb HELD_NAMES count few)

  narrow-by : first_too_many catalog records later (items_of firsts) ≡ None → (item : ℕ) → IsTrue (is_home catalog site item) → written item firsts ≡ None ⊎ Contains (items_of firsts) item
      → width catalog records later item ≤ HELD_NAMES
  narrow-by fits item home (inl none) = stays item home (not-written item home none)
  narrow-by fits item home (inr h) = few-of-none (width catalog records later item) (none-of-count catalog records later (items_of firsts) item fits h)

  pub values-after : (new : List Read) → new ≡ map (after_write catalog records front txn writes) firsts → first_too_many catalog records later (items_of firsts) ≡ None
      → AreAfter catalog site records front txn writes new
  values-after new made fits =
      subst (λ (reads : List Read). AreAfter catalog site records front txn writes reads) (sym made) (record {
        here = all-map (λ (read : Read). IsTrue (is_home catalog site read.item)) (after_write catalog records front txn writes) firsts
            (All-weaker (λ (write : Read). IsTrue (is_home catalog site write.item) × (written write.item writes ≡ Some write.cases)) (λ (write : Read). IsTrue (is_home catalog site write.item))
            (λ write both. both.0) firsts are-first);
        then_shown = all-map (λ (read : Read). read.cases ≡ after_promise catalog records front txn writes read.item) (after_write catalog records front txn writes) firsts
            (all-same (λ (write : Read). after_promise catalog records front txn writes write.item) (λ (write : Read). after_promise catalog records front txn writes write.item) firsts (λ write. refl));
        every = λ item home absent. not-written item home (absent-written (after_write catalog records front txn writes) (λ read. refl) item firsts absent);
        narrow = λ item home. narrow-by fits item home (written-item item firsts);
      })

-- Answers.

-- A call that is refused for the cause, and for no other, answers exactly.
pub answers : {X : Type 0} (cause : Option ℕ) (result : Result X StoreError) → IsRefusedFor cause result → AnswersFor cause result
answers cause result is = answered (λ (_ : Unit {0}). cause ≡ None) (λ count. cause ≡ Some count) (one cause) (λ _. tt) count_of result is.accepted is.refused
  where
    some : (cause : Option ℕ) → ((value : Unit {0}) × (cause ≡ None)) ⊎ ((count : ℕ) × (cause ≡ Some count))
    some None = inl (tt, refl)
    some (Some count) = inr (count, refl)

    one : (cause : Option ℕ) → HasOneAnswer (λ (_ : Unit {0}). cause ≡ None) (λ count. cause ≡ Some count)
    one cause = record {
      some = some cause;
      one_value = λ value other is too. refl;
      one_fault = λ count other is same. some-is count other (sym is ∙ same);
      not_both = λ value count is same. none-some count (sym is ∙ same);
    }

-- Want of memory may come whatever the cause.
pub memory-answers : {X : Type 0} (cause : Option ℕ) (result : Result X StoreError) → IsErrAnd result (λ e. e ≡ NoMemory) → AnswersFor cause result
memory-answers cause result is =
    let p = err_from_is_err_and result is in
    answers cause result (subst (IsRefusedFor cause) (sym (p.1 ∙ ap Err p.2)) (record { accepted = tt; refused = tt }))

-- What a call answers whose part is refused, or isn't.
pub refused-as : {X Y : Type 0} (cause told : Option ℕ) (e : StoreError) (part : Result X StoreError) (result : Result Y StoreError) → part ≡ Err e → result ≡ Err e → told ≡ cause
    → IsRefusedFor told part → AnswersFor cause result
refused-as cause told e part result failed is same refused =
    let known : IsRefusedFor told (Err e) = subst (IsRefusedFor told) failed refused in
    answers cause result (subst (IsRefusedFor cause) (sym is) (record { accepted = tt; refused = subst (λ (c : Option ℕ). IfSome (count_of e) (λ count. c ≡ Some count)) same known.refused }))

pub accepted-as : {X Y : Type 0} (cause told : Option ℕ) (x : X) (y : Y) (part : Result X StoreError) → part ≡ Ok x → told ≡ cause → IsRefusedFor told part → AnswersFor cause (Ok y)
accepted-as cause told x y part passed same is =
    let known : IsRefusedFor told (Ok x) = subst (IsRefusedFor told) passed is in
    answers cause (Ok y) (record { accepted = sym same ∙ known.accepted; refused = tt })

-- A promise tells no outcome, so it doesn't matter whether it is among the records that tell them.
count-promise : (catalog : Declared) (records : List Record) (txn : TxnId) (writes : List Read) (items : List ℕ)
    → first_too_many catalog records (records ++ prepared txn writes ∷ []) items
    ≡ first_too_many catalog (records ++ prepared txn writes ∷ []) (records ++ prepared txn writes ∷ []) items
count-promise catalog records txn writes [] = refl
count-promise catalog records txn writes (item ∷ items) =
    ap₂ (λ cases rest. option_or (if_too_many (length (names_of cases))) rest) (sym (shown-promise catalog records txn writes item)) (count-promise catalog records txn writes items)

pub promise-count : (kept : Kept) (txn : TxnId) (writes : List Read)
    → first_too_many kept.catalog kept.records (kept.records ++ prepared txn writes ∷ []) (site_items kept.catalog kept.site) ≡ too_many_with kept (prepared txn writes)
unfolding too_many_with
promise-count kept txn writes = count-promise kept.catalog kept.records txn writes (site_items kept.catalog kept.site)

-- The change that prepares a transaction is planned.
pub planned-promise : (kept : Kept) (old : Places) → ((txn : TxnId) (item : ℕ) → has_place old txn item ≡ true → has_place kept.room.places txn item ≡ true)
    → ArePlaced kept.catalog kept.site kept.records kept.records old → (txn : TxnId) (writes new : List Read)
    → AreAfter kept.catalog kept.site kept.records kept.records txn writes new
    → All (λ (value : Read). (t : TxnId) → IsTrue (names value.cases t) → has_place kept.room.places t value.item ≡ true) new
    → 0 < kept.room.promises → IsPlannedOn kept (record { appended = prepared txn writes; values = new })
planned-promise kept old more placed txn writes new after put room = record {
  here = after.here;
  shown_then = λ item home. same item ∙ sym (replaced item home);
  narrow = λ item home. subst (λ cases. length (names_of cases) ≤ HELD_NAMES) (sym (same item)) (after.narrow item home);
  placed = λ item t home named. by item t home (has_item item new) refl (subst (λ cases. IsTrue (names cases t)) (same item) named);
  told = put;
  room = room;
} where
  then_ : ℕ → List (Case ℤ)
  then_ item = after_promise kept.catalog kept.records kept.records txn writes item

  same : (item : ℕ) → shown kept.catalog (kept.records ++ prepared txn writes ∷ []) item ≡ after_promise kept.catalog kept.records kept.records txn writes item
  same item = shown-promise kept.catalog kept.records txn writes item

  unwritten : (item : ℕ) → IsTrue (is_home kept.catalog kept.site item) → has_item item new ≡ false → shown kept.catalog kept.records item ≡ after_promise kept.catalog kept.records kept.records txn writes item
  unwritten item home absent = sym (within-unwritten kept.catalog kept.records kept.records txn writes item (after.every item home absent))

  replaced : (item : ℕ) → IsTrue (is_home kept.catalog kept.site item) → kept-words.replaced item new (shown kept.catalog kept.records item) ≡ after_promise kept.catalog kept.records kept.records txn writes item
  replaced item home = replaced-each (λ item. after_promise kept.catalog kept.records kept.records txn writes item) item new (shown kept.catalog kept.records item) after.then_shown (unwritten item home)

  by : (item : ℕ) (t : TxnId) → IsTrue (is_home kept.catalog kept.site item) → (test : Bool) → has_item item new ≡ test
      → IsTrue (names (after_promise kept.catalog kept.records kept.records txn writes item) t) → has_place kept.room.places t item ≡ true
  by item t home true present named =
      let one = any-has (λ (read : Read). read.item == item) new present in
      let equal : one.0.item ≡ item = eqb-true one.0.item item one.2 in
      subst (λ n. has_place kept.room.places t n ≡ true) equal
      (All-contains (λ (value : Read). (t : TxnId) → IsTrue (names value.cases t) → has_place kept.room.places t value.item ≡ true) new one.0 put one.1 t
      (subst (λ cases. IsTrue (names cases t)) (ap (λ n. after_promise kept.catalog kept.records kept.records txn writes n) (sym equal)
      ∙ sym (All-contains (λ (read : Read). read.cases ≡ after_promise kept.catalog kept.records kept.records txn writes read.item) new one.0 after.then_shown one.1)) named))
  by item t home false absent named =
      more t item (placed item t home (subst (λ cases. IsTrue (names cases t)) (sym (unwritten item home absent)) named))

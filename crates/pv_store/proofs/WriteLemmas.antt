-- Writes in the order of their items.
use Rattle.std.proofs.Common.{◌≡◌, ◌∙◌, zero, suc, get_or, append_assoc, ap₂, ℕ, ℤ, ◌<◌, ◌≤◌, Bool, Some, None, Option, List, [], ◌∷◌, ◌++◌, length, map, take, drop, All, refl, sym, ap, subst, arith}
use Rattle.std.proofs.lemmas.Grind.{common_steps}
use Rattle.std.specs.Prelude.{slice_get, insert, Result, Err, IfSome, nat_lt, if◌then◌else◌, IsTrue}
use Rattle.std.specs.Option.{option_or}
use Rattle.std.proofs.lemmas.Bool.{false≢true, ne_eqb, eq-eqb, lt-ltb, le-ltb}
use Rattle.std.proofs.lemmas.List.Elements.{All-head, All-tail}
use Rattle.std.proofs.lemmas.List.{map-append}
use Rattle.pv_base.specs.Catalog.{Declared}
use Rattle.pv_base.specs.declared.txn.TxnId.{TxnId}
use Rattle.pv_base.specs.Polyvalue.{Case}
use Rattle.pv_format.specs.Record.{Record, prepared}
use Rattle.pv_model.specs.Alternatives.{Read}
use Rattle.pv_base.specs.declared.limits.TheConstants.{HELD_NAMES}
use Rattle.pv_base.specs.Named.{names_of}
use Rattle.pv_protocol.specs.Lock.{is_home}
use Rattle.pv_protocol.specs.Shown.{written, shown_within}
use Rattle.pv_store.proofs.HeldLemmas.{shown-at, some-some}
use Rattle.pv_store.specs.Held.{Values}
use Rattle.pv_store.specs.declared.error.StoreError.{StoreError}
use Rattle.pv_store.specs.Promise.{after_promise, IsWritten}
use Rattle.pv_store.specs.Refusals.{IsRefusedFor, count_of, first_too_many, if_too_many, names_count, width}
use Rattle.pv_store.specs.Writes.{AreFirst, IsPromising, after_write, items_of, is_held, with_write}

-- Where a list stands at an element.

pub map-at : {X Y : Type 0} (f : X → Y) (xs : List X) (i : ℕ) (x : X) → i < length xs → x ≡ get_or xs i x → drop i (map f xs) ≡ f x ∷ drop (suc i) (map f xs)
map-at f [] i x within at = absurd (omega (arith, within))
map-at f (y ∷ ys) zero x within at = ap (λ z. f z ∷ map f ys) (sym at)
map-at f (y ∷ ys) (suc i) x within at = map-at f ys i x (omega (arith, within)) at

pub take-further : {X : Type 0} (xs : List X) (i : ℕ) (x : X) (rest : List X) → drop i xs ≡ x ∷ rest → take (suc i) xs ≡ take i xs ++ x ∷ []
take-further [] zero x rest at = absurd (let no : ⊥ = cc in no)
take-further [] (suc i) x rest at = absurd (let no : ⊥ = cc in no)
take-further (y ∷ ys) zero x rest at = let same : y ≡ x = cc in ap (λ z. z ∷ []) same
take-further (y ∷ ys) (suc i) x rest at = ap (λ front. y ∷ front) (take-further ys i x rest at)

pub drop-further : {X : Type 0} (xs : List X) (i : ℕ) (x : X) (rest : List X) → drop i xs ≡ x ∷ rest → drop (suc i) xs ≡ rest
drop-further [] zero x rest at = absurd (let no : ⊥ = cc in no)
drop-further [] (suc i) x rest at = absurd (let no : ⊥ = cc in no)
drop-further (y ∷ ys) zero x rest at = let same : ys ≡ rest = cc in same
drop-further (y ∷ ys) (suc i) x rest at = drop-further ys i x rest at

with-behind : (write other : Read) (rest : List Read) → other.item < write.item → with_write write (other ∷ rest) ≡ other ∷ with_write write rest
with-behind write other rest before =
    ap (λ (test : Bool). if test then other ∷ rest else (if nat_lt write.item other.item then write ∷ (other ∷ rest) else other ∷ with_write write rest))
    (ne_eqb write.item other.item (λ same. absurd (omega (arith, same, before))))
    ∙ ap (λ (test : Bool). if test then write ∷ (other ∷ rest) else other ∷ with_write write rest) (le-ltb write.item other.item (omega (arith, before)))

pub with-same : (write other : Read) (rest : List Read) → write.item ≡ other.item → with_write write (other ∷ rest) ≡ other ∷ rest
with-same write other rest same =
    ap (λ (test : Bool). if test then other ∷ rest else (if nat_lt write.item other.item then write ∷ (other ∷ rest) else other ∷ with_write write rest))
    (eq-eqb write.item other.item same)

pub with-before : (write other : Read) (rest : List Read) → write.item < other.item → with_write write (other ∷ rest) ≡ write ∷ (other ∷ rest)
with-before write other rest before =
    ap (λ (test : Bool). if test then other ∷ rest else (if nat_lt write.item other.item then write ∷ (other ∷ rest) else other ∷ with_write write rest))
    (ne_eqb write.item other.item (λ same. absurd (omega (arith, same, before))))
    ∙ ap (λ (test : Bool). if test then write ∷ (other ∷ rest) else other ∷ with_write write rest) (lt-ltb write.item other.item before)

-- One more write behind those that are before it.
pub before-step : (all : List Read) (place : ℕ) (other : Read) (rest : List Read) (write : Read) → drop place all ≡ other ∷ rest → other.item < write.item
    → with_write write all ≡ take place all ++ with_write write (drop place all) → with_write write all ≡ take (suc place) all ++ with_write write (drop (suc place) all)
before-step all place other rest write at before so =
    so
    ∙ ap (λ left. take place all ++ with_write write left) at
    ∙ ap (λ left. take place all ++ left) (with-behind write other rest before)
    ∙ sym (append_assoc (take place all) (other ∷ []) (with_write write rest))
    ∙ ap₂ (λ front left. front ++ with_write write left) (sym (take-further all place other rest at)) (sym (drop-further all place other rest at))

pub first-of : {X : Type 0} (x y : X) (xs ys : List X) → x ∷ xs ≡ y ∷ ys → x ≡ y
first-of x y xs ys e = cc

pub with-end : (write : Read) (xs : List Read) → xs ≡ [] → with_write write xs ≡ write ∷ xs
with-end write xs none = subst (λ (left : List Read). with_write write left ≡ write ∷ left) (sym none) refl

pub past-end : {X : Type 0} (xs : List X) (i : ℕ) → length xs ≤ i → drop i xs ≡ []
past-end [] zero far = refl
past-end [] (suc i) far = refl
past-end (x ∷ xs) zero far = absurd (omega (arith, far))
past-end (x ∷ xs) (suc i) far = past-end xs i (omega (arith, far))

pub map-insert : {X Y : Type 0} (f : X → Y) (xs : List X) (i : ℕ) (x : X) → i ≤ length xs → map f (insert xs i x) ≡ take i (map f xs) ++ f x ∷ drop i (map f xs)
map-insert f [] zero x within = refl
map-insert f [] (suc i) x within = absurd (omega (arith, within))
map-insert f (y ∷ ys) zero x within = refl
map-insert f (y ∷ ys) (suc i) x within = ap (λ rest. f y ∷ rest) (map-insert f ys i x (omega (arith, within)))

-- One write after another.
module _ (catalog : Declared) (records front : List Record) (txn : TxnId) (all : List Read) where
  abbrev after : Read → Read
  after = after_write catalog records front txn all

  abbrev grown : List Record
  grown = front ++ prepared txn all ∷ []

  pub values-next : (reads : List Read) (i : ℕ) (write : Read) (rest new : List Read) (value : List (Case ℤ)) → drop i reads ≡ write ∷ rest → new ≡ map after (take i reads)
      → value ≡ after_promise catalog records front txn all write.item
      → new ++ record { item = write.item; cases = value } ∷ [] ≡ map after (take (suc i) reads)
  values-next reads i write rest new value at so is =
      ap₂ (λ done (cases : List (Case ℤ)). done ++ record { item = write.item; cases = cases } ∷ []) so is
      ∙ sym (map-append after (take i reads) (write ∷ []))
      ∙ ap (map after) (sym (take-further reads i write rest at))

  abbrev count : List Read → Option ℕ
  count reads = first_too_many catalog records grown (items_of reads)

  -- a value that isn't too wide lets the next ones count
  pub count-next : (reads : List Read) (i : ℕ) (write : Read) (rest : List Read) → drop i reads ≡ write ∷ rest → count reads ≡ count (drop i reads)
      → if_too_many (width catalog records grown write.item) ≡ None → count reads ≡ count (drop (suc i) reads)
  count-next reads i write rest at so fits =
      so ∙ ap count at ∙ ap (λ first. option_or first (count rest)) fits ∙ ap count (sym (drop-further reads i write rest at))

  pub count-here : (reads : List Read) (i : ℕ) (write : Read) (rest : List Read) (many : ℕ) → drop i reads ≡ write ∷ rest → count reads ≡ count (drop i reads)
      → if_too_many (width catalog records grown write.item) ≡ Some many → count reads ≡ Some many
  count-here reads i write rest many at so wide = so ∙ ap count at ∙ ap (λ first. option_or first (count rest)) wide

pub all-at : {X : Type 0} (P : X → Type 0) (xs : List X) (i : ℕ) (x : X) (rest : List X) → All P xs → drop i xs ≡ x ∷ rest → P x
all-at P [] zero x rest each at = absurd (let no : ⊥ = cc in no)
all-at P [] (suc i) x rest each at = absurd (let no : ⊥ = cc in no)
all-at P (y ∷ ys) zero x rest each at = let same : y ≡ x = cc in subst P same (All-head P y ys each)
all-at P (y ∷ ys) (suc i) x rest each at = all-at P ys i x rest (All-tail P y ys each) at

pub held-is : (found : Option (Option (List (Case ℤ)))) → IsTrue (is_held found) → (cases : List (Case ℤ)) × (found ≡ Some (Some cases))
held-is (Some (Some cases)) is = (cases, refl)
held-is (Some None) is = absurd (false≢true is)
held-is None is = absurd (false≢true is)

-- What a write makes of the value that its item has.
pub written-here : (catalog : Declared) (site : ℕ) (records front : List Record) (txn : TxnId) (all : List Read) (outcomes : List (TxnId × Bool)) (values : Values)
    → IsPromising catalog site records front outcomes values → (write : Read) → IsTrue (is_home catalog site write.item) × (written write.item all ≡ Some write.cases)
    → (old : List (Case ℤ)) → slice_get values write.item ≡ Some (Some old) → IsWritten outcomes txn write.cases old catalog records front write.item all
written-here catalog site records front txn all outcomes values is write first old at =
    let same : old ≡ shown_within catalog records front write.item = some-some _ _ (sym at ∙ shown-at catalog site records front values is.shown write.item first.0) in
    record {
      known = is.known;
      shown = same;
      narrow = subst (λ cases. length (names_of cases) ≤ HELD_NAMES) (sym same) (is.shown.narrow write.item first.0);
      written = first.1;
    }

-- Promises so far: the writes before this place have their new values, and whether one is too wide is seen by those from here on.
pub record ArePromised (outcomes : List (TxnId × Bool)) (values : Values) (txn : TxnId) (reads : List Read) (i : ℕ) (new : List Read) : Type 0 where
  pub made : (catalog : Declared) (site : ℕ) (records front : List Record) (all : List Read) → IsPromising catalog site records front outcomes values → AreFirst catalog site all reads
      → new ≡ map (after_write catalog records front txn all) (take i reads)
  pub count : (catalog : Declared) (site : ℕ) (records front : List Record) (all : List Read) → IsPromising catalog site records front outcomes values → AreFirst catalog site all reads
      → first_too_many catalog records (front ++ prepared txn all ∷ []) (items_of reads) ≡ first_too_many catalog records (front ++ prepared txn all ∷ []) (items_of (drop i reads))

module _ (outcomes : List (TxnId × Bool)) (values : Values) (txn : TxnId) (reads : List Read) (i : ℕ) (new : List Read) (so : ArePromised outcomes values txn reads i new)
    (write : Read) (rest : List Read) (at : drop i reads ≡ write ∷ rest) (old : List (Case ℤ)) (held : slice_get values write.item ≡ Some (Some old)) where
  asked : (catalog : Declared) (site : ℕ) (records front : List Record) (all : List Read) → IsPromising catalog site records front outcomes values → AreFirst catalog site all reads
      → IsWritten outcomes txn write.cases old catalog records front write.item all
  asked catalog site records front all is first =
      written-here catalog site records front txn all outcomes values is write
      (all-at (λ (read : Read). IsTrue (is_home catalog site read.item) × (written read.item all ≡ Some read.cases)) reads i write rest first at) old held

  pub promise-step : (value : List (Case ℤ)) (longer : List Read) → longer ≡ new ++ record { item = write.item; cases = value } ∷ []
      → ((catalog : Declared) (records front : List Record) (item : ℕ) (all : List Read) → IsWritten outcomes txn write.cases old catalog records front item all
      → value ≡ after_promise catalog records front txn all item)
      → ((catalog : Declared) (records front : List Record) (item : ℕ) (all : List Read) → IsWritten outcomes txn write.cases old catalog records front item all
      → if_too_many (names_count (after_promise catalog records front txn all item)) ≡ None)
      → ArePromised outcomes values txn reads (suc i) longer
  promise-step value longer pushed is-value fits = record {
    made = λ catalog site records front all is first.
        pushed ∙ values-next catalog records front txn all reads i write rest new value at (so.made catalog site records front all is first)
        (is-value catalog records front write.item all (asked catalog site records front all is first));
    count = λ catalog site records front all is first.
        count-next catalog records front txn all reads i write rest at (so.count catalog site records front all is first)
        (fits catalog records front write.item all (asked catalog site records front all is first));
  }

  pub promise-refused : {X : Type 0} (e : StoreError) (result : Result X StoreError) → result ≡ Err e
      → ((catalog : Declared) (records front : List Record) (item : ℕ) (all : List Read) → IsWritten outcomes txn write.cases old catalog records front item all
      → IfSome (count_of e) (λ many. if_too_many (names_count (after_promise catalog records front txn all item)) ≡ Some many))
      → (catalog : Declared) (site : ℕ) (records front : List Record) (all : List Read) → IsPromising catalog site records front outcomes values → AreFirst catalog site all reads
      → IsRefusedFor (first_too_many catalog records (front ++ prepared txn all ∷ []) (items_of reads)) result
  promise-refused e result is wide catalog site records front all promising first =
      subst (IsRefusedFor (first_too_many catalog records (front ++ prepared txn all ∷ []) (items_of reads))) (sym is)
      (record { accepted = tt; refused = by (count_of e) (wide catalog records front write.item all (asked catalog site records front all promising first)) })
    where
      by : (told : Option ℕ) → IfSome told (λ many. if_too_many (names_count (after_promise catalog records front txn all write.item)) ≡ Some many)
          → IfSome told (λ many. first_too_many catalog records (front ++ prepared txn all ∷ []) (items_of reads) ≡ Some many)
      by None h = tt
      by (Some many) h = count-here catalog records front txn all reads i write rest many at (so.count catalog site records front all promising first) h

pub promise-end : (outcomes : List (TxnId × Bool)) (values : Values) (txn : TxnId) (reads : List Read) (i : ℕ) (new : List Read) → ArePromised outcomes values txn reads i new
    → length reads ≤ i → (catalog : Declared) (site : ℕ) (records front : List Record) (all : List Read) → IsPromising catalog site records front outcomes values → AreFirst catalog site all reads
    → (new ≡ map (after_write catalog records front txn all) reads)
    × (first_too_many catalog records (front ++ prepared txn all ∷ []) (items_of reads) ≡ None)
promise-end outcomes values txn reads i new so far catalog site records front all is first = (
  so.made catalog site records front all is first ∙ ap (map (after_write catalog records front txn all)) (take-all reads i far),
  so.count catalog site records front all is first ∙ ap (λ left. first_too_many catalog records (front ++ prepared txn all ∷ []) (items_of left)) (past-end reads i far),
)
  where
    take-all : (xs : List Read) (i : ℕ) → length xs ≤ i → take i xs ≡ xs
    take-all xs i far = grind (arith, common_steps)

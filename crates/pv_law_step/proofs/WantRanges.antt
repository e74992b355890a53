-- What a program wants of a site is in range.
use Rattle.std.proofs.Common.{◌≡◌, ◌⊎◌, ⊎_elim, ℕ, zero, suc, ◌+◌, ◌<◌, ◌≤◌, Bool, true, false, List, [], ◌∷◌, inl, inr, length, refl, sym, subst, arith}
use Rattle.std.specs.Prelude.{IsTrue, ◌&&◌, ◌==◌, nat_lt, map, All, if◌then◌else◌}
use Rattle.std.specs.List.{AllPairs, Contains}
use Rattle.std.proofs.lemmas.Bool.{and_parts, and_from, eq-eqb}
use Rattle.std.proofs.lemmas.List.Elements.{All-contains}
use Rattle.std.proofs.lemmas.List.Kept.{AllPairs-cons}
use Rattle.pv_base.specs.Catalog.{Item, Declared}
use Rattle.pv_base.specs.declared.limits.TheConstants.{MAX_ITEMS}
use Rattle.pv_base.specs.Want.{Want}
use Rattle.pv_format.specs.Range.{AreItemsInRange, AreWantsInRange}
use Rattle.pv_law_step.proofs.Lists.{all-from, all-head, all-tail}
use Rattle.pv_law_step.proofs.StepCases.{if_case}
use Rattle.pv_base.proofs.ContainsLemmas.{Contains-first, Contains-behind, Contains-nil, Contains-cases}
use Rattle.pv_model.specs.Check.{names_item}
use Rattle.pv_model.specs.Plan.{want_of, wants_from, wants_of, with_participant, sites_from, participants_of}
use Rattle.pv_model.specs.Syntax.{Program}
use Rattle.pv_protocol.specs.Coordinate.{exclusive_items}
use Rattle.pv_protocol.specs.WellFormed.{CanRun}

-- Ascending lists of numbers.

abbrev pub Ascend : List ℕ → Type 0
Ascend numbers = AllPairs (λ n later. n < later) numbers

pub ascend-nil : Ascend []
ascend-nil = λ i j d before within. absurd (omega (arith, within))

pub ascend-cons : (n : ℕ) (rest : List ℕ) → ((m : ℕ) → Contains rest m → n < m) → Ascend rest → Ascend (n ∷ rest)
ascend-cons n rest before up = AllPairs-cons (λ n later. n < later) n rest (all-from (λ m. n < m) rest before) up

pub ascend-tail : (n : ℕ) (rest : List ℕ) → Ascend (n ∷ rest) → Ascend rest
ascend-tail n rest up = λ i j d before within. up (suc i) (suc j) d (omega (arith, before)) (omega (arith, within))

pub ascend-first : (n : ℕ) (rest : List ℕ) → Ascend (n ∷ rest) → (m : ℕ) → Contains rest m → n < m
ascend-first n rest up m (k, within, at) = subst (λ m. n < m) at (up zero (suc k) m (omega arith) (omega (arith, within)))

-- An ascending list is no longer than one that has its members.
pub fewer-numbers : (ys xs : List ℕ) → Ascend xs → Ascend ys → ((n : ℕ) → Contains xs n → Contains ys n) → length xs ≤ length ys
fewer-numbers ys [] up down within = omega arith
fewer-numbers [] (x ∷ xs) up down within = absurd (Contains-nil x (within x (Contains-first x xs)))
fewer-numbers (y ∷ ys) (x ∷ xs) up down within =
    ⊎_elim
    (λ same.
    let rest = fewer-numbers ys xs (ascend-tail x xs up) (ascend-tail y ys down)
    (λ n h. ⊎_elim
    (λ first. absurd (omega (arith, ascend-first x xs up n h, first, same)))
    (λ behind. behind)
    (Contains-cases y ys n (within n (Contains-behind x xs n h)))) in
    omega (arith, rest))
    (λ later.
    let rest = fewer-numbers ys (x ∷ xs) up (ascend-tail y ys down)
    (λ n h. ⊎_elim
    (λ first. absurd (⊎_elim
    (λ here. omega (arith, ascend-first y ys down x later, first, here))
    (λ there. omega (arith, ascend-first y ys down x later, ascend-first x xs up n there, first))
    (Contains-cases x xs n h)))
    (λ behind. behind)
    (Contains-cases y ys n (within n h))) in
    omega (arith, rest))
    (Contains-cases y ys x (within x (Contains-first x xs)))

-- What is wanted of a site.

module _ (program : Program) (site : ℕ) where
  -- what a want of the walk is
  record IsFrom (first count item : ℕ) : Type 0 where
    pub least : first ≤ item
    pub most : item < first + count
    pub named : IsTrue (names_item program item)

  abbrev wanted : ℕ → List Item → List ℕ
  wanted first items = map (λ (want : Want). want.item) (wants_from program site first items)

  -- The items of the walk ascend, and each is what it has to be.
  record IsWalk (first count : ℕ) (items : List ℕ) : Type 0 where
    pub ascending : Ascend items
    pub each : (n : ℕ) → Contains items n → IsFrom first count n

  later-walk : (first count : ℕ) (items : List ℕ) → IsWalk (first + 1) count items → IsWalk first (count + 1) items
  later-walk first count items is = record {
    ascending = is.ascending;
    each = λ n h. let from = is.each n h in record { least = omega (arith, from.least); most = omega (arith, from.most); named = from.named };
  }

  walk : (first : ℕ) (items : List Item) → IsWalk first (length items) (wanted first items)
  walk first [] = record { ascending = ascend-nil; each = λ n h. absurd (Contains-nil n h) }
  walk first (declared ∷ items) =
      let rest = walk (first + 1) items in
      if_case (λ (wants : List Want). IsWalk first (suc (length items)) (map (λ (want : Want). want.item) wants)) (declared.site == site && names_item program first)
      (λ passes. record {
        ascending = ascend-cons first (wanted (first + 1) items) (λ m h. omega (arith, (rest.each m h).least)) rest.ascending;
        each = λ n h. ⊎_elim
            (λ same. record { least = omega (arith, same); most = omega (arith, same); named = subst (λ m. IsTrue (names_item program m)) same (and_parts (declared.site == site) (names_item program first) passes).1 })
            (λ behind. let from = rest.each n behind in record { least = omega (arith, from.least); most = omega (arith, from.most); named = from.named })
            (Contains-cases first (wanted (first + 1) items) n h);
      })
      (λ fails. record {
        ascending = rest.ascending;
        each = λ n h. let from = rest.each n h in record { least = omega (arith, from.least); most = omega (arith, from.most); named = from.named };
      })

  pub wants-ascend : (items : List Item) → Ascend (map (λ (want : Want). want.item) (wants_from program site 0 items))
  wants-ascend items = (walk 0 items).ascending

  -- The wants are of items in range.
  pub wants-in-range : (catalog : Declared) → length catalog.items ≤ MAX_ITEMS → CanRun catalog program
      → AreItemsInRange (map (λ (want : Want). want.item) (wants_of program catalog.items site))
  wants-in-range catalog small can =
      let is = walk 0 catalog.items in
      record {
        ascending = is.ascending;
        each = all-from (λ n. n < MAX_ITEMS) (wanted 0 catalog.items) (λ n h. omega (arith, (is.each n h).most, small));
        few = omega (
          arith,
          fewer-numbers can.runnable.items (wanted 0 catalog.items) is.ascending can.runnable.are.ascending
              (λ n h. can.runnable.are.whole n (is.each n h).named),
          can.runnable.few,
        );
      }

-- Participants.

with-site-cases : (site : ℕ) (rest : List ℕ) (s : ℕ) → Contains (with_participant site rest) s → (site ≡ s) ⊎ Contains rest s
with-site-cases site [] s h = Contains-cases site [] s h
with-site-cases site (first ∷ rest) s h =
    if_case (λ (sites : List ℕ). Contains sites s → (site ≡ s) ⊎ Contains (first ∷ rest) s) (site == first)
    (λ same k. inr k)
    (λ other. if_case (λ (sites : List ℕ). Contains sites s → (site ≡ s) ⊎ Contains (first ∷ rest) s) (nat_lt site first)
    (λ before k. Contains-cases site (first ∷ rest) s k)
    (λ behind k. ⊎_elim
    (λ here. inr (subst (Contains (first ∷ rest)) here (Contains-first first rest)))
    (λ there. ⊎_elim (λ new. inl new) (λ old. inr (Contains-behind first rest s old)) (with-site-cases site rest s there))
    (Contains-cases first (with_participant site rest) s k)))
    h

grown : (b : Bool) (wants : List Want) (want : Want) → 1 ≤ length wants → 1 ≤ length (if b then want ∷ wants else wants)
grown true wants want some = omega arith
grown false wants want some = some

module _ (program : Program) (P : ℕ → Type 0) (first : ℕ) (declared : Item) (items : List Item) (home : P declared.site) (s : ℕ)
    (later : Contains (sites_from program (first + 1) items) s → P s × (1 ≤ length (wants_from program s (first + 1) items))) where
  own-want : names_item program first ≡ true → declared.site ≡ s → 1 ≤ length (wants_from program s first (declared ∷ items))
  own-want named same =
      subst (λ b. 1 ≤ length (if b then want_of program first ∷ wants_from program s (first + 1) items else wants_from program s (first + 1) items))
      (sym (and_from (declared.site == s) (names_item program first) (eq-eqb declared.site s same) named)) (omega arith)

  later-want : Contains (sites_from program (first + 1) items) s → P s × (1 ≤ length (wants_from program s first (declared ∷ items)))
  later-want h = (
    (later h).0,
    grown (declared.site == s && names_item program first) (wants_from program s (first + 1) items) (want_of program first) (later h).1,
  )

  some-want : (b : Bool) → names_item program first ≡ b → Contains (if b then with_participant declared.site (sites_from program (first + 1) items) else sites_from program (first + 1) items) s
      → P s × (1 ≤ length (wants_from program s first (declared ∷ items)))
  some-want true named h =
      ⊎_elim (λ same. (subst P same home, own-want named same)) later-want (with-site-cases declared.site (sites_from program (first + 1) items) s h)
  some-want false unnamed h = later-want h

-- A participant is the site of an item that the program names.
pub participant-is : (program : Program) (P : ℕ → Type 0) (first : ℕ) (items : List Item) → All (λ (item : Item). P item.site) items
    → (s : ℕ) → Contains (sites_from program first items) s → P s × (1 ≤ length (wants_from program s first items))
participant-is program P first [] all s h = absurd (Contains-nil s h)
participant-is program P first (declared ∷ items) all s h =
    some-want program P first declared items (all-head (λ (item : Item). P item.site) declared items all) s
    (participant-is program P (first + 1) items (all-tail (λ (item : Item). P item.site) declared items all) s)
    (names_item program first) refl h

pub part-in-range : (catalog : Declared) (program : Program) → length catalog.items ≤ MAX_ITEMS → CanRun catalog program
    → (s : ℕ) → Contains (participants_of program catalog.items) s → All (λ (item : Item). item.site < catalog.sites) catalog.items
    → (s < catalog.sites) × AreWantsInRange (wants_of program catalog.items s)
part-in-range catalog program small can s h homes =
    let is = participant-is program (λ site. site < catalog.sites) 0 catalog.items homes s h in
    (is.0, record { enough = is.1; items = wants-in-range program s catalog small can })

-- What is wanted exclusively.

exclusive-members : (wants : List Want) (n : ℕ) → Contains (exclusive_items wants) n → Contains (map (λ (want : Want). want.item) wants) n
exclusive-members [] n h = absurd (Contains-nil n h)
exclusive-members (want ∷ wants) n h =
    if_case (λ (kept : List Want). Contains (map (λ (w : Want). w.item) kept) n → Contains (want.item ∷ map (λ (w : Want). w.item) wants) n) want.exclusive
    (λ exclusive k. ⊎_elim
    (λ same. subst (Contains (want.item ∷ map (λ (w : Want). w.item) wants)) same (Contains-first want.item (map (λ (w : Want). w.item) wants)))
    (λ behind. Contains-behind want.item (map (λ (w : Want). w.item) wants) n (exclusive-members wants n behind))
    (Contains-cases want.item (exclusive_items wants) n k))
    (λ shared k. Contains-behind want.item (map (λ (w : Want). w.item) wants) n (exclusive-members wants n k))
    h

exclusive-ascend : (wants : List Want) → Ascend (map (λ (want : Want). want.item) wants) → Ascend (exclusive_items wants)
exclusive-ascend [] up = ascend-nil
exclusive-ascend (want ∷ wants) up =
    let rest = exclusive-ascend wants (ascend-tail want.item (map (λ (w : Want). w.item) wants) up) in
    if_case (λ (kept : List Want). Ascend (map (λ (w : Want). w.item) kept)) want.exclusive
    (λ exclusive. ascend-cons want.item (exclusive_items wants)
    (λ m h. ascend-first want.item (map (λ (w : Want). w.item) wants) up m (exclusive-members wants m h)) rest)
    (λ shared. rest)

exclusive-few : (wants : List Want) → length (exclusive_items wants) ≤ length (map (λ (want : Want). want.item) wants)
exclusive-few [] = omega arith
exclusive-few (want ∷ wants) =
    let rest = exclusive-few wants in
    if_case (λ (kept : List Want). length (map (λ (w : Want). w.item) kept) ≤ suc (length (map (λ (w : Want). w.item) wants))) want.exclusive
    (λ exclusive. omega (arith, rest)) (λ shared. omega (arith, rest))

pub exclusive-in-range : (wants : List Want) → AreItemsInRange (map (λ (want : Want). want.item) wants) → AreItemsInRange (exclusive_items wants)
exclusive-in-range wants is = record {
  ascending = exclusive-ascend wants is.ascending;
  each = all-from (λ n. n < MAX_ITEMS) (exclusive_items wants)
      (λ n h. All-contains (λ n. n < MAX_ITEMS) (map (λ (want : Want). want.item) wants) n is.each (exclusive-members wants n h));
  few = omega (arith, exclusive-few wants, is.few);
}

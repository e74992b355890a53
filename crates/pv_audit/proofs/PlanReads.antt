-- The items of a program, as its plan has them, and the rows of what is read of them.
use Rattle.std.proofs.Common.{◌≡◌, ⊎_elim, ℕ, ◌<◌, Bool, true, false, List, [], ◌∷◌, ◌++◌, length, map, take, get_or, ◌+◌, refl, sym, ap, subst, ◌∙◌, arith, append-nil}
use Rattle.std.specs.Prelude.{◌==◌, ◌&&◌, ◌||◌, IsTrue, if◌then◌else◌}
use Rattle.std.specs.List.{All, AllPairs, Contains, dedup, flat_map}
use Rattle.std.specs.List.Sorted.{IsPermutation, IsSorted}
use Rattle.std.specs.Ordering.{nat_cmp}
use Rattle.std.proofs.lemmas.List.Kept.{AllPairs-from_increasing, Contains-dedup_nat, Contains-from_dedup}
use Rattle.std.proofs.lemmas.List.Sorted.{Contains-permutation, IsPermutation-sym}
use Rattle.std.proofs.lemmas.Map.Keys.{IsStrictlyIncreasing-dedup}
use Rattle.std.proofs.lemmas.List.Concat.{flat_map-append}
use Rattle.std.proofs.lemmas.Bool.{and_from, eq-eqb, eqb-true, false_from_ne_true, or_left, or_right}
use Rattle.std.proofs.lemmas.List.{length-map, take_more}
use Rattle.std.proofs.lemmas.List.Elements.{All-contains, Contains-append_left, Contains-append_right}
use Rattle.std.proofs.lemmas.Option.{slice_get_within}
use Rattle.pv_audit.proofs.PutLemmas.{items_of}
use Rattle.pv_base.proofs.ContainsLemmas.{Contains-first, Contains-behind, Contains-nil, Contains-cases}
use Rattle.pv_base.proofs.MapLemmas.{Contains-map, Contains-unmap}
use Rattle.pv_base.proofs.OrderLemmas.{pairs-nil, pairs-cons, pairs-first, pairs-tail}
use Rattle.pv_base.specs.Catalog.{Item}
use Rattle.pv_base.specs.Want.{Want}
use Rattle.pv_law_polyvalues.proofs.AscendingLemmas.{All-from_members}
use Rattle.pv_law_agreement.proofs.SupportSteps.{flat-listed}
use Rattle.pv_model.specs.Alternatives.{Read, rows_at}
use Rattle.pv_model.specs.Check.{Part, AreItems, IsPart, IsPlan, IsWant, names_item, reads}
use Rattle.pv_model.specs.Items.{lacks, has_once, has_items, has_all_items}
use Rattle.pv_model.specs.Meaning.{Row}
use Rattle.pv_model.specs.ProgramLaws.{assigns}
use Rattle.pv_model.specs.Syntax.{Expr, number, item, minus, negation, two, Program, end, assign, require, certain, return, when, when_else}

-- ---- the items of a plan

-- the items of wants
abbrev pub wanted : List Want → List ℕ
wanted wants = map (λ (want : Want). want.item) wants

-- the items of all parts
abbrev pub planned : List Part → List ℕ
planned parts = flat_map (λ (part : Part). wanted part.wants) parts

in-flat : {X Y : Type 0} (f : X → List Y) (xs : List X) (x : X) (y : Y) → Contains xs x → Contains (f x) y → Contains (flat_map f xs) y
in-flat f [] x y there at = absurd (Contains-nil x there)
in-flat f (first ∷ xs) x y there at =
    ⊎_elim
    (λ same. Contains-append_left (f first) (flat_map f xs) y (subst (λ z. Contains (f z) y) (sym same) at))
    (λ behind. Contains-append_right (f first) (flat_map f xs) y (in-flat f xs x y behind at))
    (Contains-cases first xs x there)

module _ (program : Program) (items : List Item) (parts : List Part) (plan : IsPlan program items parts) where
  -- Each item of the plan is named.
  pub planned-named : (n : ℕ) → Contains (planned parts) n → IsTrue (names_item program n)
  planned-named n there =
      let found = flat-listed (λ (part : Part). wanted part.wants) parts n there in
      let part : IsPart program items found.0 = All-contains (IsPart program items) parts found.0 plan.each found.1 in
      let want = Contains-unmap (λ (want : Want). want.item) found.0.wants n found.2 in
      let is : IsWant program items found.0.site want.0 = All-contains (IsWant program items found.0.site) found.0.wants want.0 part.each want.1.0 in
      subst (λ (m : ℕ). IsTrue (names_item program m)) want.1.1 is.named

  -- Each item that is named is in the plan.
  pub named-planned : (n : ℕ) → IsTrue (names_item program n) → Contains (planned parts) n
  named-planned n named =
      let any = plan.whole n named in
      in-flat (λ (part : Part). wanted part.wants) parts any.1 n (any.0, any.2, any.3)
      (Contains-map (λ (want : Want). want.item) any.1.wants (record { item = n; exclusive = assigns program n }) any.4)

  -- .. and is one of the items.
  pub named-within : (n : ℕ) → IsTrue (names_item program n) → n < length items
  named-within n named =
      let any = plan.whole n named in
      let part : IsPart program items any.1 = All-contains (IsPart program items) parts any.1 plan.each (any.0, any.2, any.3) in
      let want : IsWant program items any.1.site (record { item = n; exclusive = assigns program n }) =
      All-contains (IsWant program items any.1.site) any.1.wants (record { item = n; exclusive = assigns program n }) part.each any.4 in
      let within = slice_get_within (map (λ (declared : Item). declared.site) items) n any.1.site want.home in
      let long = length-map items (λ (declared : Item). declared.site) in
      omega (arith, within, long)

-- ---- rows of reads that ascend

lacks-others : (reads : List Read) (n : ℕ) → ((m : ℕ) → Contains (items_of reads) m → n < m) → lacks (rows_at reads []) n ≡ true
lacks-others [] n later = refl
lacks-others (first ∷ rest) n later =
    ap (λ (b : Bool). if b then false else lacks (rows_at rest []) n) (apart first.item n (later first.item (Contains-first first.item (items_of rest))))
    ∙ lacks-others rest n (λ m there. later m (Contains-behind first.item (items_of rest) m there))
  where
    apart : (m n : ℕ) → n < m → (m == n) ≡ false
    apart m n less = false_from_ne_true (m == n) (λ same. let equal : m ≡ n = eqb-true m n same in omega (arith, less, equal))

-- Each of them has its row once.
has-row : (reads : List Read) (n : ℕ) → AllPairs (λ (n later : ℕ). n < later) (items_of reads) → Contains (items_of reads) n → has_once (rows_at reads []) n ≡ true
has-row [] n up there = absurd (Contains-nil n there)
has-row (first ∷ rest) n up there =
    ⊎_elim
    (λ same.
    ap (λ (b : Bool). if b then lacks (rows_at rest []) n else has_once (rows_at rest []) n) (eq-eqb first.item n same)
    ∙ lacks-others rest n
    (λ m later. subst (λ (k : ℕ). k < m) same (pairs-first (λ (n later : ℕ). n < later) first.item (items_of rest) up m later)))
    (λ behind.
    ap (λ (b : Bool). if b then lacks (rows_at rest []) n else has_once (rows_at rest []) n)
    (apart first.item n (pairs-first (λ (n later : ℕ). n < later) first.item (items_of rest) up n behind))
    ∙ has-row rest n (pairs-tail (λ (n later : ℕ). n < later) first.item (items_of rest) up) behind)
    (Contains-cases first.item (items_of rest) n there)
  where
    apart : (m n : ℕ) → m < n → (m == n) ≡ false
    apart m n less = false_from_ne_true (m == n) (λ same. let equal : m ≡ n = eqb-true m n same in omega (arith, less, equal))

module _ (rows : List Row) where
  whole-expression : (e : Expr) → ((n : ℕ) → IsTrue (reads e n) → has_once rows n ≡ true) → has_items rows e ≡ true
  whole-expression (number z) each = refl
  whole-expression (item n) each = each n (eq-eqb n n refl)
  whole-expression (minus e) each = whole-expression e each
  whole-expression (negation e) each = whole-expression e each
  whole-expression (two op left right) each =
      and_from (has_items rows left) (has_items rows right) (whole-expression left (λ n r. each n (or_left (reads left n) (reads right n) r)))
      (whole-expression right (λ n r. each n (or_right (reads left n) (reads right n) r)))

  -- Rows that have each item that is named.
  whole-program : (program : Program) → ((n : ℕ) → IsTrue (names_item program n) → has_once rows n ≡ true) → has_all_items rows program ≡ true
  whole-program end each = refl
  whole-program (assign m e next) each =
      and_from (has_once rows m && has_items rows e) (has_all_items rows next)
      (and_from (has_once rows m) (has_items rows e) (each m (or_left (m == m) (reads e m || names_item next m) (eq-eqb m m refl)))
      (whole-expression e (λ n r. each n (or_right (m == n) (reads e n || names_item next n) (or_left (reads e n) (names_item next n) r)))))
      (whole-program next (λ n r. each n (or_right (m == n) (reads e n || names_item next n) (or_right (reads e n) (names_item next n) r))))
  whole-program (require e next) each =
      and_from (has_items rows e) (has_all_items rows next) (whole-expression e (λ n r. each n (or_left (reads e n) (names_item next n) r)))
      (whole-program next (λ n r. each n (or_right (reads e n) (names_item next n) r)))
  whole-program (certain m next) each =
      and_from (has_once rows m) (has_all_items rows next) (each m (or_left (m == m) (names_item next m) (eq-eqb m m refl)))
      (whole-program next (λ n r. each n (or_right (m == n) (names_item next n) r)))
  whole-program (return e next) each =
      and_from (has_items rows e) (has_all_items rows next) (whole-expression e (λ n r. each n (or_left (reads e n) (names_item next n) r)))
      (whole-program next (λ n r. each n (or_right (reads e n) (names_item next n) r)))
  whole-program (when e body next) each =
      and_from (has_items rows e && has_all_items rows body) (has_all_items rows next)
      (and_from (has_items rows e) (has_all_items rows body) (whole-expression e (λ n r. each n (or_left (reads e n) (names_item body n || names_item next n) r)))
      (whole-program body (λ n r. each n (or_right (reads e n) (names_item body n || names_item next n) (or_left (names_item body n) (names_item next n) r)))))
      (whole-program next (λ n r. each n (or_right (reads e n) (names_item body n || names_item next n) (or_right (names_item body n) (names_item next n) r))))
  whole-program (when_else e body other next) each =
      and_from (has_items rows e && has_all_items rows body && has_all_items rows other) (has_all_items rows next)
      (and_from (has_items rows e && has_all_items rows body) (has_all_items rows other)
      (and_from (has_items rows e) (has_all_items rows body)
      (whole-expression e (λ n r. each n (or_left (reads e n) (names_item body n || (names_item other n || names_item next n)) r)))
      (whole-program body (λ n r. each n (or_right (reads e n) (names_item body n || (names_item other n || names_item next n))
      (or_left (names_item body n) (names_item other n || names_item next n) r)))))
      (whole-program other (λ n r. each n (or_right (reads e n) (names_item body n || (names_item other n || names_item next n))
      (or_right (names_item body n) (names_item other n || names_item next n) (or_left (names_item other n) (names_item next n) r))))))
      (whole-program next (λ n r. each n (or_right (reads e n) (names_item body n || (names_item other n || names_item next n))
      (or_right (names_item body n) (names_item other n || names_item next n) (or_right (names_item other n) (names_item next n) r)))))

-- The reads of a program's items have each of them.
pub reads-whole : (program : Program) (reads : List Read) → AreItems program (items_of reads) → IsTrue (has_all_items (rows_at reads []) program)
reads-whole program reads are = whole-program (rows_at reads []) program (λ n named. has-row reads n are.ascending (are.whole n named))

pub reads-ascend : (reads : List Read) → AllPairs (λ (n later : ℕ). n < later) (items_of reads) → AllPairs (λ (read later : Read). read.item < later.item) reads
reads-ascend [] up = pairs-nil (λ (read later : Read). read.item < later.item)
reads-ascend (first ∷ rest) up =
    pairs-cons (λ (read later : Read). read.item < later.item) first rest
    (λ read there. pairs-first (λ (n later : ℕ). n < later) first.item (items_of rest) up read.item (Contains-map (λ (r : Read). r.item) rest read there))
    (reads-ascend rest (pairs-tail (λ (n later : ℕ). n < later) first.item (items_of rest) up))

-- ---- the items, sorted

-- One part more.
pub planned-more : (parts : List Part) (i : ℕ) (part : Part) (old new : List ℕ) (wants : List Want) → i < length parts → part ≡ get_or parts i part → wants ≡ part.wants
    → old ≡ planned (take i parts) → new ≡ old ++ wanted wants → new ≡ planned (take (i + 1) parts)
planned-more parts i part old new wants within at same before is =
    let next : take (i + 1) parts ≡ take i parts ++ part ∷ [] = take_more parts i part within ∙ ap (λ (p : Part). take i parts ++ p ∷ []) (sym at) in
    let all : planned (take (i + 1) parts) ≡ planned (take i parts) ++ (wanted part.wants ++ []) =
    ap planned next ∙ flat_map-append (λ (p : Part). wanted p.wants) (take i parts) (part ∷ []) in
    is
    ∙ ap (λ (l : List ℕ). l ++ wanted wants) before
    ∙ ap (λ (ws : List Want). planned (take i parts) ++ wanted ws) same
    ∙ ap (λ (l : List ℕ). planned (take i parts) ++ l) (sym (append-nil (wanted part.wants)))
    ∙ sym all

-- The items of a plan, sorted and freed of repeats, are the program's.
pub sorted-items : (program : Program) (items : List Item) (parts : List Part) (all sorted found : List ℕ) → IsPlan program items parts → all ≡ planned parts
    → IsPermutation all sorted → IsSorted nat_cmp sorted → found ≡ dedup ◌==◌ sorted → AreItems program found
sorted-items program items parts all sorted found plan are permuted up is =
    subst (λ (l : List ℕ). AreItems program l) (sym is) (record {
      ascending = AllPairs-from_increasing (dedup ◌==◌ sorted) (IsStrictlyIncreasing-dedup sorted up);
      each = All-from_members (λ (n : ℕ). IsTrue (names_item program n)) (dedup ◌==◌ sorted)
          (λ n there.
          planned-named program items parts plan n
          (subst (λ (l : List ℕ). Contains l n) are
          (Contains-permutation sorted all n (IsPermutation-sym all sorted permuted) (Contains-from_dedup ◌==◌ sorted n there))));
      whole = λ n named.
          Contains-dedup_nat sorted n
          (Contains-permutation all sorted n permuted (subst (λ (l : List ℕ). Contains l n) (sym are) (named-planned program items parts plan n named)));
    })

-- Each of them has a value.
pub items-within : (program : Program) (count : ℕ) (items : List Item) (parts : List Part) (found : List ℕ) → length items ≡ count → IsPlan program items parts
    → AreItems program found → All (λ (n : ℕ). n < count) found
items-within program count items parts found counted plan are =
    All-from_members (λ (n : ℕ). n < count) found
    (λ n there.
    let within = named-within program items parts plan n (All-contains (λ (m : ℕ). IsTrue (names_item program m)) found n are.each there) in
    omega (arith, within, counted))

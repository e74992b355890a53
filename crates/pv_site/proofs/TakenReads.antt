-- What is read with the grants of all participants: each item of the program once.
use Rattle.std.proofs.Common.{arith, ◌≡◌, ◌⊎◌, ⊎_elim, inl, inr, ℕ, ◌<◌, ◌≤◌, Bool, true, false, List, [], ◌∷◌, ◌++◌, map, length, refl, sym, ap, subst, ◌∙◌}
use Rattle.std.specs.Prelude.{◌==◌, ◌||◌, ◌&&◌, nat_lt, if◌then◌else◌, All, IsTrue}
use Rattle.std.specs.Cmp.Lexicographic.{pointwise_decides}
use Rattle.std.specs.List.Sorted.{IsPermutation}
use Rattle.std.specs.List.{AllPairs, Contains, flat_map, list_all, list_any}
use Rattle.std.proofs.lemmas.Bool.{and_parts, and_from, eqb-true, eqb-false, eq-eqb, false≢true, ltb-true, ltb-false, or_cases, or_left, or_parts, or_right}
use Rattle.std.proofs.lemmas.Bool.Decides.{Decides-eqb, nat_tests}
use Rattle.std.proofs.lemmas.List.Elements.{All-append, All-contains, Contains-append_left, Contains-append_right}
use Rattle.std.proofs.lemmas.List.{length-map}
use Rattle.std.proofs.lemmas.List.Kept.{AllPairs-cons}
use Rattle.std.proofs.lemmas.List.Sorted.{Contains-permutation}
use Rattle.std.proofs.lemmas.Option.{slice_get_within}
use Rattle.pv_base.proofs.Basics.{Some_inj}
use Rattle.pv_base.proofs.ContainsLemmas.{Contains-first, Contains-behind, Contains-nil, Contains-cases}
use Rattle.pv_base.proofs.MapLemmas.{Contains-map, Contains-unmap}
use Rattle.pv_base.proofs.OrderLemmas.{pairs-first, pairs-tail, pairs-cons, pairs-nil}
use Rattle.pv_base.specs.Catalog.{Declared, Item}
use Rattle.pv_base.specs.declared.limits.TheConstants.{MAX_ITEMS}
use Rattle.pv_base.specs.Want.{Want}
use Rattle.pv_law_programs.proofs.PlanLemmas.{some_plan, wants-each}
use Rattle.pv_law_step.proofs.Kept.{with-taken-all}
use Rattle.pv_law_step.proofs.Lists.{all-flat, all-from, all-head, all-tail}
use Rattle.pv_law_step.proofs.WantRanges.{wants-in-range}
use Rattle.pv_model.specs.Alternatives.{Read, rows_at}
use Rattle.pv_model.specs.Check.{IsAt, IsWant, Part, names_item, reads}
use Rattle.pv_model.specs.Items.{has_all_items, has_items, has_once, lacks}
use Rattle.pv_model.specs.Meaning.{Row}
use Rattle.pv_model.specs.Plan.{participants_of, part_of, plan_of, wants_of}
use Rattle.pv_model.specs.ProgramLaws.{assigns}
use Rattle.pv_model.specs.Syntax.{Expr, number, item, minus, negation, two, Program, end, assign, require, certain, return, when, when_else}
use Rattle.pv_protocol.specs.Coordinate.{are_values_of, with_taken}
use Rattle.pv_protocol.specs.State.{Taken}
use Rattle.pv_protocol.specs.WellFormed.{CanRun}
use Rattle.pv_site.proofs.SortedReads.{ReadAscending, ascending-apart}
use Rattle.pv_site.specs.LockPoint.{HasItsReads, ReadApart}
use Rattle.pv_site.specs.SiteParts.{AreTakenFor}

-- Lists.

any-member : {X : Type 0} (p : X → Bool) (xs : List X) → list_any p xs ≡ true → (x : X) × Contains xs x × (p x ≡ true)
any-member p [] some = absurd (false≢true some)
any-member p (x ∷ xs) some = by (or_cases (p x) (list_any p xs) some) (any-member p xs) where
  by : (p x ≡ true) ⊎ (list_any p xs ≡ true) → (list_any p xs ≡ true → (y : _) × Contains xs y × (p y ≡ true)) → (y : _) × Contains (x ∷ xs) y × (p y ≡ true)
  by (inl here) rest = (x, Contains-first x xs, here)
  by (inr behind) rest = let found = rest behind in (found.0, Contains-behind x xs found.0 found.1, found.2)

all-member : {X : Type 0} (p : X → Bool) (xs : List X) (x : X) → list_all p xs ≡ true → Contains xs x → p x ≡ true
all-member p [] x each h = absurd (Contains-nil x h)
all-member p (first ∷ rest) x each h =
    let both = and_parts (p first) (list_all p rest) each in
    ⊎_elim (λ same. subst (λ y. p y ≡ true) same both.0) (λ behind. all-member p rest x both.1 behind) (Contains-cases first rest x h)

pairs-append : {X : Type 0} (R : X → X → Type 0) (xs ys : List X) → AllPairs R xs → AllPairs R ys → ((x : X) → Contains xs x → All (R x) ys) → AllPairs R (xs ++ ys)
pairs-append R [] ys left right across = right
pairs-append R (x ∷ xs) ys left right across =
    AllPairs-cons R x (xs ++ ys) (All-append (R x) xs ys (all-from (R x) xs (pairs-first R x xs left)) (across x (Contains-first x xs)))
    (pairs-append R xs ys (pairs-tail R x xs left) right (λ y h. across y (Contains-behind x xs y h)))

pairs-unmap : {X Y : Type 0} (R : Y → Y → Type 0) (f : X → Y) (xs : List X) → AllPairs R (map f xs) → AllPairs (λ x y. R (f x) (f y)) xs
pairs-unmap R f [] up = pairs-nil (λ x y. R (f x) (f y))
pairs-unmap R f (x ∷ xs) up =
    pairs-cons (λ x y. R (f x) (f y)) x xs (λ y h. pairs-first R (f x) (map f xs) up (f y) (Contains-map f xs y h))
    (pairs-unmap R f xs (pairs-tail R (f x) (map f xs) up))

flat-behind : (taken : List Taken) (one : Taken) (read : Read) → Contains taken one → Contains one.values read → Contains (flat_map (λ (t : Taken). t.values) taken) read
flat-behind [] one read h in_it = absurd (Contains-nil one h)
flat-behind (first ∷ rest) one read h in_it =
    ⊎_elim (λ same. Contains-append_left first.values (flat_map (λ (t : Taken). t.values) rest) read (subst (λ (t : Taken). Contains t.values read) (sym same) in_it))
    (λ behind. Contains-append_right first.values (flat_map (λ (t : Taken). t.values) rest) read (flat-behind rest one read behind in_it))
    (Contains-cases first rest one h)

-- The values of a grant.

values-items : (wants : List Want) (values : List Read) → are_values_of wants values ≡ true → map (λ (value : Read). value.item) values ≡ map (λ (want : Want). want.item) wants
values-items wants values is = (pointwise_decides Decides-eqb (map (λ (value : Read). value.item) values) (map (λ (want : Want). want.item) wants)).0 is

module _ (catalog : Declared) (program : Program) (site : ℕ) (values : List Read) (are : IsTrue (are_values_of (wants_of program catalog.items site) values)) where
  own-ascending : length catalog.items ≤ MAX_ITEMS → CanRun catalog program → ReadAscending values
  own-ascending small can =
      pairs-unmap (λ (n later : ℕ). n < later) (λ (value : Read). value.item) values
      (subst (λ (items : List ℕ). AllPairs (λ n later. n < later) items) (sym (values-items (wants_of program catalog.items site) values are))
      (wants-in-range program site catalog small can).ascending)

  at-home : (read : Read) → Contains values read → IsAt catalog.items read.item site
  at-home read h =
      let wants = wants_of program catalog.items site in
      let among : Contains (map (λ (want : Want). want.item) wants) read.item =
      subst (λ (items : List ℕ). Contains items read.item) (values-items wants values are) (Contains-map (λ (value : Read). value.item) values read h) in
      let found = Contains-unmap (λ (want : Want). want.item) wants read.item among in
      subst (λ (n : ℕ). IsAt catalog.items n site) found.1.1 (All-contains (IsWant program catalog.items site) wants found.0 (wants-each program catalog.items site) found.1.0).home

  has-value : (want : Want) → Contains (wants_of program catalog.items site) want → (read : Read) × Contains values read × (read.item ≡ want.item)
  has-value want h =
      let wants = wants_of program catalog.items site in
      let among : Contains (map (λ (value : Read). value.item) values) want.item =
      subst (λ (items : List ℕ). Contains items want.item) (sym (values-items wants values are)) (Contains-map (λ (want : Want). want.item) wants want h) in
      let found = Contains-unmap (λ (value : Read). value.item) values want.item among in
      (found.0, found.1.0, found.1.1)

-- The values of all grants.

module _ (catalog : Declared) (program : Program) (small : length catalog.items ≤ MAX_ITEMS) (can : CanRun catalog program) where
  apart-homes : (n m site other : ℕ) → IsAt catalog.items n site → IsAt catalog.items m other → site < other → (n == m) ≡ false
  apart-homes n m site other at there less = by (n == m) refl where
    by : (b : Bool) → (n == m) ≡ b → b ≡ false
    by true same =
        absurd (let one : site ≡ other = Some_inj (sym at ∙ subst (λ (k : ℕ). IsAt catalog.items k other) (sym (eqb-true n m same)) there) in omega (arith, one, less))
    by false differ = refl

  pub reads-apart : (taken : List Taken) → AreTakenFor catalog.items program taken → ReadApart (flat_map (λ (t : Taken). t.values) taken)
  reads-apart [] are = pairs-nil (λ (read later : Read). (read.item == later.item) ≡ false)
  reads-apart (first ∷ rest) are =
      let Asked = λ (one : Taken). IsTrue (are_values_of (wants_of program catalog.items one.site) one.values) in
      let here = all-head Asked first rest are.asked in
      let others = all-tail Asked first rest are.asked in
      pairs-append (λ (read later : Read). (read.item == later.item) ≡ false) first.values (flat_map (λ (t : Taken). t.values) rest)
      (ascending-apart first.values (own-ascending catalog program first.site first.values here small can))
      (reads-apart rest (record { ascending = pairs-tail (λ (one later : Taken). one.site < later.site) first rest are.ascending; asked = others }))
      (λ read h. all-flat (λ (later : Read). (read.item == later.item) ≡ false) (λ (t : Taken). t.values) rest
      (λ one listed. all-from (λ (later : Read). (read.item == later.item) ≡ false) one.values
      (λ later k. apart-homes read.item later.item first.site one.site (at-home catalog program first.site first.values here read h)
      (at-home catalog program one.site one.values (All-contains Asked rest one others listed) later k)
      (pairs-first (λ (one later : Taken). one.site < later.site) first rest are.ascending one listed))))

  -- Each item of the program is wanted of a participant.
  wanted-of : (n : ℕ) → IsTrue (names_item program n) → (site : ℕ) × Contains (participants_of program catalog.items) site
      × Contains (wants_of program catalog.items site) (record { item = n; exclusive = assigns program n })
  unfolding plan_of
  wanted-of n named =
      let plan = some_plan program catalog.items
      (λ m is. All-contains (λ (k : ℕ). k < length catalog.items) can.runnable.items m can.runnable.known (can.runnable.are.whole m is)) in
      let any = plan.whole n named in
      let found = Contains-unmap (part_of program catalog.items) (participants_of program catalog.items) any.1 (any.0, any.2, any.3) in
      (found.0, found.1.0, subst (λ (part : Part). Contains part.wants (record { item = n; exclusive = assigns program n })) (sym found.1.1) any.4)

  -- With the grants of all participants each item of the program is read.
  pub named-read : (taken : List Taken) → AreTakenFor catalog.items program taken
      → list_all (λ site. list_any (λ (t : Taken). t.site == site) taken) (participants_of program catalog.items) ≡ true
      → HasItsReads program (flat_map (λ (t : Taken). t.values) taken)
  named-read taken are whole n named =
      let wanted = wanted-of n named in
      let site : ℕ = wanted.0 in
      let granted = any-member (λ (t : Taken). t.site == site) taken (all-member (λ site. list_any (λ (t : Taken). t.site == site) taken) (participants_of program catalog.items) site whole wanted.1) in
      let one : Taken = granted.0 in
      let asked = All-contains (λ (one : Taken). IsTrue (are_values_of (wants_of program catalog.items one.site) one.values)) taken one are.asked granted.1 in
      let found = has-value catalog program one.site one.values asked (record { item = n; exclusive = assigns program n })
      (subst (λ (m : ℕ). Contains (wants_of program catalog.items m) (record { item = n; exclusive = assigns program n })) (sym (eqb-true one.site site granted.2)) wanted.2) in
      record { read = found.0; listed = flat-behind taken one found.0 granted.1 found.1; same = found.2 }

-- What is read are items of the catalog.
pub reads-below : (catalog : Declared) (program : Program) (taken : List Taken) → AreTakenFor catalog.items program taken
    → (read : Read) → Contains (flat_map (λ (t : Taken). t.values) taken) read → read.item < length catalog.items
reads-below catalog program taken are read h =
    All-contains (λ (some : Read). some.item < length catalog.items) (flat_map (λ (t : Taken). t.values) taken) read
    (all-flat (λ (some : Read). some.item < length catalog.items) (λ (t : Taken). t.values) taken
    (λ one listed. all-from (λ (some : Read). some.item < length catalog.items) one.values
    (λ some there.
    let asked = All-contains (λ (one : Taken). IsTrue (are_values_of (wants_of program catalog.items one.site) one.values)) taken one are.asked listed in
    let within = slice_get_within (map (λ (declared : Item). declared.site) catalog.items) some.item one.site (at-home catalog program one.site one.values asked some there) in
    omega (arith, within, length-map catalog.items (λ (declared : Item). declared.site)))))
    h

-- Rows of reads that are apart.

lacks-others : (reads : List Read) (n : ℕ) → ((read : Read) → Contains reads read → (read.item == n) ≡ false) → lacks (rows_at reads []) n ≡ true
lacks-others [] n others = refl
lacks-others (first ∷ rest) n others =
    ap (λ (b : Bool). if b then false else lacks (rows_at rest []) n) (others first (Contains-first first rest))
    ∙ lacks-others rest n (λ read h. others read (Contains-behind first rest read h))

pub turned : (n m : ℕ) (b : Bool) → (n == m) ≡ b → (m == n) ≡ b
turned n m true same = eq-eqb m n (sym (eqb-true n m same))
turned n m false apart = grind (arith, nat_tests, apart)

has-once : (reads : List Read) (read : Read) (n : ℕ) → ReadApart reads → Contains reads read → read.item ≡ n → has_once (rows_at reads []) n ≡ true
has-once [] read n apart h is = absurd (Contains-nil read h)
has-once (first ∷ rest) read n apart h is =
    ⊎_elim
    (λ same.
    let at : first.item ≡ n = ap (λ (r : Read). r.item) same ∙ is in
    ap (λ (b : Bool). if b then lacks (rows_at rest []) n else has_once (rows_at rest []) n) (eq-eqb first.item n at)
    ∙ lacks-others rest n
    (λ later k. turned n later.item false (subst (λ (m : ℕ). (m == later.item) ≡ false) at
    (pairs-first (λ (r later : Read). (r.item == later.item) ≡ false) first rest apart later k))))
    (λ behind.
    ap (λ (b : Bool). if b then lacks (rows_at rest []) n else has_once (rows_at rest []) n)
    (subst (λ (m : ℕ). (first.item == m) ≡ false) is (pairs-first (λ (r later : Read). (r.item == later.item) ≡ false) first rest apart read behind))
    ∙ has-once rest read n (pairs-tail (λ (r later : Read). (r.item == later.item) ≡ false) first rest apart) behind is)
    (Contains-cases first rest read h)

-- Rows that have each item that is named.

module _ (rows : List Row) where
  has-items : (e : Expr) → ((n : ℕ) → IsTrue (reads e n) → has_once rows n ≡ true) → has_items rows e ≡ true
  has-items (number z) each = refl
  has-items (item n) each = each n (eq-eqb n n refl)
  has-items (minus e) each = has-items e each
  has-items (negation e) each = has-items e each
  has-items (two op left right) each =
      and_from (has_items rows left) (has_items rows right) (has-items left (λ n r. each n (or_left (reads left n) (reads right n) r)))
      (has-items right (λ n r. each n (or_right (reads left n) (reads right n) r)))

  has-all-items : (program : Program) → ((n : ℕ) → IsTrue (names_item program n) → has_once rows n ≡ true) → has_all_items rows program ≡ true
  has-all-items end each = refl
  has-all-items (assign m e next) each =
      and_from (has_once rows m && has_items rows e) (has_all_items rows next)
      (and_from (has_once rows m) (has_items rows e) (each m (or_left (m == m) (reads e m || names_item next m) (eq-eqb m m refl)))
      (has-items e (λ n r. each n (or_right (m == n) (reads e n || names_item next n) (or_left (reads e n) (names_item next n) r)))))
      (has-all-items next (λ n r. each n (or_right (m == n) (reads e n || names_item next n) (or_right (reads e n) (names_item next n) r))))
  has-all-items (require e next) each =
      and_from (has_items rows e) (has_all_items rows next) (has-items e (λ n r. each n (or_left (reads e n) (names_item next n) r)))
      (has-all-items next (λ n r. each n (or_right (reads e n) (names_item next n) r)))
  has-all-items (certain m next) each =
      and_from (has_once rows m) (has_all_items rows next) (each m (or_left (m == m) (names_item next m) (eq-eqb m m refl)))
      (has-all-items next (λ n r. each n (or_right (m == n) (names_item next n) r)))
  has-all-items (return e next) each =
      and_from (has_items rows e) (has_all_items rows next) (has-items e (λ n r. each n (or_left (reads e n) (names_item next n) r)))
      (has-all-items next (λ n r. each n (or_right (reads e n) (names_item next n) r)))
  has-all-items (when e body next) each =
      and_from (has_items rows e && has_all_items rows body) (has_all_items rows next)
      (and_from (has_items rows e) (has_all_items rows body) (has-items e (λ n r. each n (or_left (reads e n) (names_item body n || names_item next n) r)))
      (has-all-items body (λ n r. each n (or_right (reads e n) (names_item body n || names_item next n) (or_left (names_item body n) (names_item next n) r)))))
      (has-all-items next (λ n r. each n (or_right (reads e n) (names_item body n || names_item next n) (or_right (names_item body n) (names_item next n) r))))
  has-all-items (when_else e body other next) each =
      and_from (has_items rows e && has_all_items rows body && has_all_items rows other) (has_all_items rows next)
      (and_from (has_items rows e && has_all_items rows body) (has_all_items rows other)
      (and_from (has_items rows e) (has_all_items rows body)
      (has-items e (λ n r. each n (or_left (reads e n) (names_item body n || (names_item other n || names_item next n)) r)))
      (has-all-items body (λ n r. each n (or_right (reads e n) (names_item body n || (names_item other n || names_item next n))
      (or_left (names_item body n) (names_item other n || names_item next n) r)))))
      (has-all-items other (λ n r. each n (or_right (reads e n) (names_item body n || (names_item other n || names_item next n))
      (or_right (names_item body n) (names_item other n || names_item next n) (or_left (names_item other n) (names_item next n) r))))))
      (has-all-items next (λ n r. each n (or_right (reads e n) (names_item body n || (names_item other n || names_item next n))
      (or_right (names_item body n) (names_item other n || names_item next n) (or_right (names_item other n) (names_item next n) r)))))

-- An item that is assigned is named.
pub assigns-named : (program : Program) (n : ℕ) → assigns program n ≡ true → names_item program n ≡ true
assigns-named end n is = absurd (false≢true is)
assigns-named (assign m e next) n is =
    ⊎_elim (λ here. or_left (m == n) (reads e n || names_item next n) here)
    (λ behind. or_right (m == n) (reads e n || names_item next n) (or_right (reads e n) (names_item next n) (assigns-named next n behind)))
    (or_cases (m == n) (assigns next n) is)
assigns-named (require e next) n is = or_right (reads e n) (names_item next n) (assigns-named next n is)
assigns-named (certain m next) n is = or_right (m == n) (names_item next n) (assigns-named next n is)
assigns-named (return e next) n is = or_right (reads e n) (names_item next n) (assigns-named next n is)
assigns-named (when e body next) n is =
    or_right (reads e n) (names_item body n || names_item next n)
    (⊎_elim (λ inside. or_left (names_item body n) (names_item next n) (assigns-named body n inside))
    (λ behind. or_right (names_item body n) (names_item next n) (assigns-named next n behind))
    (or_cases (assigns body n) (assigns next n) is))
assigns-named (when_else e body other next) n is =
    or_right (reads e n) (names_item body n || (names_item other n || names_item next n))
    (⊎_elim (λ inside. or_left (names_item body n) (names_item other n || names_item next n) (assigns-named body n inside))
    (λ rest. or_right (names_item body n) (names_item other n || names_item next n)
    (⊎_elim (λ inside. or_left (names_item other n) (names_item next n) (assigns-named other n inside))
    (λ behind. or_right (names_item other n) (names_item next n) (assigns-named next n behind))
    (or_cases (assigns other n) (assigns next n) rest)))
    (or_cases (assigns body n) (assigns other n || assigns next n) is))

-- Sorted, the reads have each item of the program once.
pub sorted-items : (program : Program) (reads sorted : List Read) → HasItsReads program reads → IsPermutation reads sorted → ReadAscending sorted
    → has_all_items (rows_at sorted []) program ≡ true
sorted-items program reads sorted has permuted up =
    has-all-items (rows_at sorted []) program
    (λ n named. let is = has n named in
    has-once sorted is.read n (ascending-apart sorted up) (Contains-permutation reads sorted is.read permuted is.listed) is.same)

-- One grant more.

sites-with : (new : Taken) (taken : List Taken) → AllPairs (λ (one later : Taken). one.site < later.site) taken → list_any (λ (t : Taken). t.site == new.site) taken ≡ false
    → AllPairs (λ (one later : Taken). one.site < later.site) (with_taken new taken)
sites-with new [] up lacking = pairs-cons (λ (one later : Taken). one.site < later.site) new [] (λ later h. absurd (Contains-nil later h)) up
sites-with new (first ∷ rest) up lacking =
    by (nat_lt new.site first.site) refl
    (sites-with new rest (pairs-tail (λ (one later : Taken). one.site < later.site) first rest up) both.1)
  where
    both : ((first.site == new.site) ≡ false) × (list_any (λ (t : Taken). t.site == new.site) rest ≡ false)
    both = or_parts (first.site == new.site) (list_any (λ (t : Taken). t.site == new.site) rest) lacking

    by : (b : Bool) → nat_lt new.site first.site ≡ b → AllPairs (λ (one later : Taken). one.site < later.site) (with_taken new rest)
        → AllPairs (λ (one later : Taken). one.site < later.site) (if b then new ∷ (first ∷ rest) else first ∷ with_taken new rest)
    by true before behind =
        pairs-cons (λ (one later : Taken). one.site < later.site) new (first ∷ rest)
        (λ later h. ⊎_elim (λ here. omega (arith, ltb-true new.site first.site before, ap (λ (t : Taken). t.site) here))
        (λ in_rest. omega (arith, ltb-true new.site first.site before, pairs-first (λ (one later : Taken). one.site < later.site) first rest up later in_rest))
        (Contains-cases first rest later h))
        up
    by false after behind =
        AllPairs-cons (λ (one later : Taken). one.site < later.site) first (with_taken new rest)
        (with-taken-all (λ (later : Taken). first.site < later.site) new rest
        (omega (arith, ltb-false new.site first.site after, eqb-false first.site new.site both.0))
        (all-from (λ (later : Taken). first.site < later.site) rest (pairs-first (λ (one later : Taken). one.site < later.site) first rest up)))
        behind

pub taken-with : (items : List Item) (program : Program) (new : Taken) (taken : List Taken) → AreTakenFor items program taken
    → list_any (λ (t : Taken). t.site == new.site) taken ≡ false → are_values_of (wants_of program items new.site) new.values ≡ true
    → AreTakenFor items program (with_taken new taken)
taken-with items program new taken are lacking fits = record {
  ascending = sites-with new taken are.ascending lacking;
  asked = with-taken-all (λ (one : Taken). IsTrue (are_values_of (wants_of program items one.site) one.values)) new taken fits are.asked;
}

-- Parts that pass the tests are the plan of the program, and the plan passes them.
use Rattle.std.proofs.Common.{◌≡◌, ◌⊎◌, inl, inr, ⊎_elim, refl, sym, ap, subst, ◌∙◌, ℕ, zero, suc, ◌+◌, ◌<◌, ◌≤◌, ◌-◌, Bool, true, false, List, [], ◌∷◌, ◌++◌, map, length, Option, Some, None, slice_index_or, arith}
use Rattle.std.specs.Prelude.{IsTrue, is_some, not, ◌==◌, ◌&&◌, ◌||◌, nat_lt, if◌then◌else◌}
use Rattle.std.specs.Bool.{beq, Decides}
use Rattle.std.specs.Cmp.{booleans_Decides}
use Rattle.std.specs.Cmp.Lexicographic.{pointwise, pointwise_decides}
use Rattle.std.specs.List.{AllPairs, Contains, cons_option}
use Rattle.std.proofs.lemmas.Bool.{and_from, and_parts, eq-eqb, eqb-false, eqb-true, false≢true, lt-ltb, ltb-true, true≢false}
use Rattle.std.proofs.lemmas.Bool.Decides.{nat_tests}
use Rattle.std.proofs.lemmas.List.{append_assoc, length-append}
use Rattle.std.proofs.lemmas.List.Folds.{Any-from_list_any, list_any-from_Any}
use Rattle.pv_base.specs.Catalog.{Item}
use Rattle.pv_base.specs.Want.{Want}
use Rattle.pv_base.proofs.Basics.{Some_inj}
use Rattle.pv_base.proofs.ContainsLemmas.{Contains-behind, Contains-cases, Contains-first, Contains-nil}
use Rattle.pv_base.proofs.MapLemmas.{Contains-map, Contains-unmap}
use Rattle.pv_base.proofs.OrderLemmas.{one-ascending_by, pairs-cons, pairs-first, pairs-nil, pairs-tail}
use Rattle.pv_check.specs.Fits.{are_covered, are_own_parts, has_part, home_of, is_own_part, is_same_want, names_below, reads_below, wanted_at, wants_between}
use Rattle.pv_check.specs.Marks.{AreMarks, is_named, mark_at}
use Rattle.pv_check.specs.Wants.{marked_want}
use Rattle.pv_check.specs.declared.marks.Mark.{Mark}
use Rattle.pv_law_programs.proofs.PlanLemmas.{at-some, sites-ascend, sites-have, sites-known, wants-each, wants-have}
use Rattle.pv_model.specs.Check.{IsAt, Part, names_item, reads}
use Rattle.pv_model.specs.Plan.{part_of, participants_of, plan_of, want_of, wants_from, wants_of}
use Rattle.pv_model.specs.Syntax.{Expr, number, item, minus, negation, two, Program, end, assign, require, certain, return, when, when_else}

or-left : (x y : Bool) → x ≡ true → (x || y) ≡ true
or-left true y is = refl
or-left false y is = absurd (false≢true is)

or-right : (x y : Bool) → y ≡ true → (x || y) ≡ true
or-right true y is = refl
or-right false y is = is

or-cases : (x y : Bool) → (x || y) ≡ true → (x ≡ true) ⊎ (y ≡ true)
or-cases true y is = inl refl
or-cases false y is = inr is

-- What an expression names is below a limit exactly where each item is.
reads-known : (limit : ℕ) (e : Expr) → reads_below limit e ≡ true → (n : ℕ) → reads e n ≡ true → n < limit
reads-known limit (number z) below n is = absurd (false≢true is)
reads-known limit (item m) below n is = omega (arith, ltb-true m limit below, eqb-true m n is)
reads-known limit (minus e) below n is = reads-known limit e below n is
reads-known limit (negation e) below n is = reads-known limit e below n is
reads-known limit (two op left right) below n is =
    let both = and_parts (reads_below limit left) (reads_below limit right) below in
    ⊎_elim (reads-known limit left both.0 n) (reads-known limit right both.1 n) (or-cases (reads left n) (reads right n) is)

known-reads : (limit : ℕ) (e : Expr) → ((n : ℕ) → reads e n ≡ true → n < limit) → reads_below limit e ≡ true
known-reads limit (number z) known = refl
known-reads limit (item m) known = lt-ltb m limit (known m (eq-eqb m m refl))
known-reads limit (minus e) known = known-reads limit e known
known-reads limit (negation e) known = known-reads limit e known
known-reads limit (two op left right) known =
    and_from (reads_below limit left) (reads_below limit right) (known-reads limit left (λ n is. known n (or-left (reads left n) (reads right n) is)))
    (known-reads limit right (λ n is. known n (or-right (reads left n) (reads right n) is)))

-- The same of a program.
pub names-known : (limit : ℕ) (p : Program) → names_below limit p ≡ true → (n : ℕ) → names_item p n ≡ true → n < limit
names-known limit end below n is = absurd (false≢true is)
names-known limit (assign m e next) below n is =
    let both = and_parts (nat_lt m limit) (reads_below limit e && names_below limit next) below in
    let rest = and_parts (reads_below limit e) (names_below limit next) both.1 in
    ⊎_elim (λ here. omega (arith, ltb-true m limit both.0, eqb-true m n here))
    (λ behind. ⊎_elim (reads-known limit e rest.0 n) (names-known limit next rest.1 n) (or-cases (reads e n) (names_item next n) behind))
    (or-cases (m == n) (reads e n || names_item next n) is)
names-known limit (require e next) below n is =
    let both = and_parts (reads_below limit e) (names_below limit next) below in
    ⊎_elim (reads-known limit e both.0 n) (names-known limit next both.1 n) (or-cases (reads e n) (names_item next n) is)
names-known limit (certain m next) below n is =
    let both = and_parts (nat_lt m limit) (names_below limit next) below in
    ⊎_elim (λ here. omega (arith, ltb-true m limit both.0, eqb-true m n here)) (names-known limit next both.1 n) (or-cases (m == n) (names_item next n) is)
names-known limit (return e next) below n is =
    let both = and_parts (reads_below limit e) (names_below limit next) below in
    ⊎_elim (reads-known limit e both.0 n) (names-known limit next both.1 n) (or-cases (reads e n) (names_item next n) is)
names-known limit (when e body next) below n is =
    let both = and_parts (reads_below limit e) (names_below limit body && names_below limit next) below in
    let rest = and_parts (names_below limit body) (names_below limit next) both.1 in
    ⊎_elim (reads-known limit e both.0 n)
    (λ behind. ⊎_elim (names-known limit body rest.0 n) (names-known limit next rest.1 n) (or-cases (names_item body n) (names_item next n) behind))
    (or-cases (reads e n) (names_item body n || names_item next n) is)
names-known limit (when_else e body other next) below n is =
    let both = and_parts (reads_below limit e) (names_below limit body && (names_below limit other && names_below limit next)) below in
    let rest = and_parts (names_below limit body) (names_below limit other && names_below limit next) both.1 in
    let last = and_parts (names_below limit other) (names_below limit next) rest.1 in
    ⊎_elim (reads-known limit e both.0 n)
    (λ behind. ⊎_elim (names-known limit body rest.0 n)
    (λ later. ⊎_elim (names-known limit other last.0 n) (names-known limit next last.1 n) (or-cases (names_item other n) (names_item next n) later))
    (or-cases (names_item body n) (names_item other n || names_item next n) behind))
    (or-cases (reads e n) (names_item body n || (names_item other n || names_item next n)) is)

pub known-names : (limit : ℕ) (p : Program) → ((n : ℕ) → names_item p n ≡ true → n < limit) → names_below limit p ≡ true
known-names limit end known = refl
known-names limit (assign m e next) known =
    and_from _ _ (lt-ltb m limit (known m (or-left (m == m) (reads e m || names_item next m) (eq-eqb m m refl))))
    (and_from _ _ (known-reads limit e (λ n is. known n (or-right (m == n) (reads e n || names_item next n) (or-left (reads e n) (names_item next n) is))))
    (known-names limit next (λ n is. known n (or-right (m == n) (reads e n || names_item next n) (or-right (reads e n) (names_item next n) is)))))
known-names limit (require e next) known =
    and_from _ _ (known-reads limit e (λ n is. known n (or-left (reads e n) (names_item next n) is)))
    (known-names limit next (λ n is. known n (or-right (reads e n) (names_item next n) is)))
known-names limit (certain m next) known =
    and_from _ _ (lt-ltb m limit (known m (or-left (m == m) (names_item next m) (eq-eqb m m refl))))
    (known-names limit next (λ n is. known n (or-right (m == n) (names_item next n) is)))
known-names limit (return e next) known =
    and_from _ _ (known-reads limit e (λ n is. known n (or-left (reads e n) (names_item next n) is)))
    (known-names limit next (λ n is. known n (or-right (reads e n) (names_item next n) is)))
known-names limit (when e body next) known =
    and_from _ _ (known-reads limit e (λ n is. known n (or-left (reads e n) (names_item body n || names_item next n) is)))
    (and_from _ _
    (known-names limit body (λ n is. known n (or-right (reads e n) (names_item body n || names_item next n) (or-left (names_item body n) (names_item next n) is))))
    (known-names limit next (λ n is. known n (or-right (reads e n) (names_item body n || names_item next n) (or-right (names_item body n) (names_item next n) is)))))
known-names limit (when_else e body other next) known =
    let more : (n : ℕ) → (names_item body n || (names_item other n || names_item next n)) ≡ true → n < limit =
    λ n is. known n (or-right (reads e n) (names_item body n || (names_item other n || names_item next n)) is) in
    let last : (n : ℕ) → (names_item other n || names_item next n) ≡ true → n < limit =
    λ n is. more n (or-right (names_item body n) (names_item other n || names_item next n) is) in
    and_from _ _ (known-reads limit e (λ n is. known n (or-left (reads e n) (names_item body n || (names_item other n || names_item next n)) is)))
    (and_from _ _ (known-names limit body (λ n is. more n (or-left (names_item body n) (names_item other n || names_item next n) is)))
    (and_from _ _ (known-names limit other (λ n is. last n (or-left (names_item other n) (names_item next n) is)))
    (known-names limit next (λ n is. last n (or-right (names_item other n) (names_item next n) is)))))

-- One item more.
module _ (items : List Item) (marks : List Mark) where
  pub between-more : (site n : ℕ) → n < length items
      → wants_between items marks site n (length items - n)
      ≡ cons_option (wanted_at marks site (home_of items n) n) (wants_between items marks site (n + 1) (length items - (n + 1)))
  between-more site n within = ap (wants_between items marks site n) (let more : length items - n ≡ suc (length items - (n + 1)) = omega (arith, within) in more)

  pub covered-more : (parts : List Part) (n : ℕ) → n < length items
      → are_covered items marks parts n (length items - n) ≡ are_covered items marks parts n (suc (length items - (n + 1)))
  covered-more parts n within = ap (are_covered items marks parts n) (let more : length items - n ≡ suc (length items - (n + 1)) = omega (arith, within) in more)

  pub between-none : (site n : ℕ) → length items ≤ n → wants_between items marks site n (length items - n) ≡ []
  between-none site n all = ap (wants_between items marks site n) (let none : length items - n ≡ 0 = omega (arith, all) in none)

  pub covered-none : (parts : List Part) (n : ℕ) → length items ≤ n → are_covered items marks parts n (length items - n) ≡ true
  covered-none parts n all = ap (are_covered items marks parts n) (let none : length items - n ≡ 0 = omega (arith, all) in none)

home-behind : (front : List Item) (declared : Item) (rest : List Item) → home_of (front ++ declared ∷ rest) (length front) ≡ Some declared.site
home-behind [] declared rest = refl
home-behind (first ∷ front) declared rest = home-behind front declared rest

module _ (program : Program) (marks : List Mark) (are : AreMarks program marks) where
  mark-wanted : (site n home : ℕ) (wants : List Want) (named at : Bool) → is_named (mark_at marks n) ≡ named → (home == site) ≡ at
      → cons_option (wanted_at marks site (Some home) n) wants
      ≡ (if home == site && names_item program n then want_of program n ∷ wants else wants)
  mark-wanted site n home wants true true named at =
      let is : names_item program n ≡ true = sym (are.named n) ∙ named in
      ap (λ (b : Bool). cons_option (if b then Some (marked_want marks n) else None) wants) (and_from (home == site) (is_named (mark_at marks n)) at named)
      ∙ ap (λ (b : Bool). record { item = n; exclusive = b } ∷ wants) (are.exclusive n is)
      ∙ sym (ap (λ (b : Bool). if b then want_of program n ∷ wants else wants) (and_from (home == site) (names_item program n) at is))
  mark-wanted site n home wants false true named at =
      ap (λ (b : Bool). cons_option (if home == site && b then Some (marked_want marks n) else None) wants) named
      ∙ ap (λ (b : Bool). cons_option (if b && false then Some (marked_want marks n) else None) wants) at
      ∙ sym (ap (λ (b : Bool). if home == site && b then want_of program n ∷ wants else wants) (sym (are.named n) ∙ named)
      ∙ ap (λ (b : Bool). if b && false then want_of program n ∷ wants else wants) at)
  mark-wanted site n home wants named false is at =
      ap (λ (b : Bool). cons_option (if b && is_named (mark_at marks n) then Some (marked_want marks n) else None) wants) at
      ∙ sym (ap (λ (b : Bool). if b && names_item program n then want_of program n ∷ wants else wants) at)

  between-from : (site : ℕ) (items front rest : List Item) → items ≡ front ++ rest
      → wants_between items marks site (length front) (length rest) ≡ wants_from program site (length front) rest
  between-from site items front [] is = refl
  between-from site items front (declared ∷ rest) is =
      let next : length (front ++ declared ∷ []) ≡ length front + 1 = length-append front (declared ∷ []) in
      let behind : wants_between items marks site (length front + 1) (length rest) ≡ wants_from program site (length front + 1) rest =
      subst (λ (n : ℕ). wants_between items marks site n (length rest) ≡ wants_from program site n rest) next
      (between-from site items (front ++ declared ∷ []) rest (is ∙ sym (append_assoc front (declared ∷ []) rest))) in
      ap (λ (home : Option ℕ). cons_option (wanted_at marks site home (length front)) (wants_between items marks site (length front + 1) (length rest)))
      (ap (λ (all : List Item). home_of all (length front)) is ∙ home-behind front declared rest)
      ∙ ap (cons_option (wanted_at marks site (Some declared.site) (length front))) behind
      ∙ mark-wanted site (length front) declared.site (wants_from program site (length front + 1) rest) (is_named (mark_at marks (length front))) (declared.site == site) refl refl

  -- What is wanted by the marks is what the program wants.
  pub between-wants : (items : List Item) (site : ℕ) → wants_between items marks site 0 (length items) ≡ wants_of program items site
  between-wants items site = between-from site items [] items refl

-- Which wants are asked for at each site may be said in two ways.
own-parts-alike : (one other : ℕ → List Want) → ((site : ℕ) → one site ≡ other site) → (least : ℕ) (parts : List Part)
    → are_own_parts one least parts ≡ are_own_parts other least parts
own-parts-alike one other same least [] = refl
own-parts-alike one other same least (part ∷ parts) =
    ap (λ (wants : List Want). not (nat_lt part.site least) && ((nat_lt 0 (length part.wants) && pointwise is_same_want part.wants wants) && are_own_parts one (part.site + 1) parts))
    (same part.site)
    ∙ ap (λ (b : Bool). not (nat_lt part.site least) && (is_own_part other part && b)) (own-parts-alike one other same (part.site + 1) parts)

same-want : (want other : Want) → Decides (is_same_want want other) (want ≡ other)
same-want want other = (
  λ is.
      let both = and_parts (want.item == other.item) (beq want.exclusive other.exclusive) is in
      ap (λ (n : ℕ). record { item = n; exclusive = want.exclusive }) (eqb-true want.item other.item both.0)
      ∙ ap (λ (b : Bool). record { item = other.item; exclusive = b }) ((booleans_Decides want.exclusive other.exclusive).0 both.1),
  λ same.
      and_from (want.item == other.item) (beq want.exclusive other.exclusive) (eq-eqb want.item other.item (ap (λ (w : Want). w.item) same))
      ((booleans_Decides want.exclusive other.exclusive).1 (ap (λ (w : Want). w.exclusive) same)),
)

same-wants : (wants others : List Want) → Decides (pointwise is_same_want wants others) (wants ≡ others)
same-wants wants others = pointwise_decides same-want wants others

not-less : (a b : ℕ) → not (nat_lt a b) ≡ true → b ≤ a
not-less a b is = grind (arith, nat_tests, is)

less-not : (a b : ℕ) → b ≤ a → not (nat_lt a b) ≡ true
less-not a b le = grind (arith, nat_tests, le)

-- The plan of a program.
module _ (program : Program) (items : List Item) where
  abbrev sites_of : List Part → List ℕ
  sites_of parts = map (λ (part : Part). part.site) parts

  -- Each part is what the program wants of its site, which is something, and the sites ascend, from this one on.
  record AreOwn (least : ℕ) (parts : List Part) : Type 0 where
    same : parts ≡ map (part_of program items) (sites_of parts)
    above : (site : ℕ) → Contains (sites_of parts) site → least ≤ site
    ascends : AllPairs (λ site later. site < later) (sites_of parts)
    some : (site : ℕ) → Contains (sites_of parts) site → 0 < length (wants_of program items site)

  own-first : (part : Part) → is_own_part (wants_of program items) part ≡ true → (part ≡ part_of program items part.site) × (0 < length (wants_of program items part.site))
  own-first part is =
      let both = and_parts (nat_lt 0 (length part.wants)) (pointwise is_same_want part.wants (wants_of program items part.site)) is in
      let wants : part.wants ≡ wants_of program items part.site = (same-wants part.wants (wants_of program items part.site)).0 both.1 in (
        ap (λ (all : List Want). record { site = part.site; wants = all }) wants,
        subst (λ (all : List Want). 0 < length all) wants (ltb-true 0 (length part.wants) both.0),
      )

  tests-own : (least : ℕ) (parts : List Part) → are_own_parts (wants_of program items) least parts ≡ true → AreOwn least parts
  tests-own least [] is = record {
    same = refl;
    above = λ site there. absurd (Contains-nil site there);
    ascends = pairs-nil (λ (site later : ℕ). site < later);
    some = λ site there. absurd (Contains-nil site there);
  }
  tests-own least (part ∷ parts) is =
      let both = and_parts (not (nat_lt part.site least)) (is_own_part (wants_of program items) part && are_own_parts (wants_of program items) (part.site + 1) parts) is in
      let rest = and_parts (is_own_part (wants_of program items) part) (are_own_parts (wants_of program items) (part.site + 1) parts) both.1 in
      let first = own-first part rest.0 in
      let behind = tests-own (part.site + 1) parts rest.1 in
      let least_is : least ≤ part.site = not-less part.site least both.0 in
      record {
        same = ap (λ (p : Part). p ∷ parts) first.0 ∙ ap (λ (all : List Part). part_of program items part.site ∷ all) behind.same;
        above = λ site there. ⊎_elim (λ here. omega (arith, least_is, here)) (λ later. omega (arith, least_is, behind.above site later)) (Contains-cases part.site (sites_of parts) site there);
        ascends = pairs-cons (λ (site later : ℕ). site < later) part.site (sites_of parts) (λ site later. omega (arith, behind.above site later)) behind.ascends;
        some = λ site there. ⊎_elim (λ here. subst (λ (n : ℕ). 0 < length (wants_of program items n)) here first.1) (behind.some site) (Contains-cases part.site (sites_of parts) site there);
      }

  own-tests : (least : ℕ) (sites : List ℕ) → AllPairs (λ site later. site < later) sites → ((site : ℕ) → Contains sites site → least ≤ site)
      → ((site : ℕ) → Contains sites site → 0 < length (wants_of program items site)) → are_own_parts (wants_of program items) least (map (part_of program items) sites) ≡ true
  own-tests least [] ascends above some = refl
  own-tests least (site ∷ sites) ascends above some =
      and_from (not (nat_lt site least)) _ (less-not site least (above site (Contains-first site sites)))
      (and_from (is_own_part (wants_of program items) (part_of program items site)) _
      (and_from (nat_lt 0 (length (wants_of program items site))) _ (lt-ltb 0 (length (wants_of program items site)) (some site (Contains-first site sites)))
      ((same-wants (wants_of program items site) (wants_of program items site)).1 refl))
      (own-tests (site + 1) sites (pairs-tail (λ (one later : ℕ). one < later) site sites ascends)
      (λ later there. let up = pairs-first (λ (one later : ℕ). one < later) site sites ascends later there in omega (arith, up))
      (λ later there. some later (Contains-behind site sites later there))))

  sites-back : (sites : List ℕ) → sites_of (map (part_of program items) sites) ≡ sites
  sites-back [] = refl
  sites-back (site ∷ sites) = ap (λ (all : List ℕ). site ∷ all) (sites-back sites)

  part-there : (parts : List Part) (home : Option ℕ) → has_part parts home ≡ true → (site : ℕ) → home ≡ Some site → Contains (sites_of parts) site
  part-there parts None has site is = absurd (false≢true has)
  part-there parts (Some home) has site is =
      let found = Any-from_list_any (λ (part : Part). part.site == home) parts has in
      let part : Part = found.1 in
      subst (λ (n : ℕ). Contains (sites_of parts) n) (eqb-true part.site home found.4 ∙ Some_inj is)
      (Contains-map (λ (part : Part). part.site) parts part (found.0, found.2, found.3))

  there-part : (parts : List Part) (home : Option ℕ) (site : ℕ) → home ≡ Some site → Contains (sites_of parts) site → has_part parts home ≡ true
  there-part parts None site is there = absurd (let wrong : ⊥ = cc in wrong)
  there-part parts (Some home) site is there =
      let found = Contains-unmap (λ (part : Part). part.site) parts site there in
      list_any-from_Any (λ (part : Part). part.site == home) parts (found.1.0.0, found.0, found.1.0.1, found.1.0.2, eq-eqb found.0.site home (found.1.1 ∙ sym (Some_inj is)))

  module _ (marks : List Mark) (are : AreMarks program marks) (parts : List Part) where
    covered-known : (n count : ℕ) → are_covered items marks parts n count ≡ true → (m : ℕ) → n ≤ m → m < n + count → names_item program m ≡ true
        → has_part parts (home_of items m) ≡ true
    covered-known n zero is m from below named = absurd (omega (arith, from, below))
    covered-known n (suc count) is m from below named =
        let both = and_parts (not (is_named (mark_at marks n)) || has_part parts (home_of items n)) (are_covered items marks parts (n + 1) count) is in
        by (n == m) refl both (λ other. covered-known (n + 1) count both.1 m (let differ = eqb-false n m other in omega (arith, from, differ)) (omega (arith, below)) named)
      where
        by : (b : Bool) → (n == m) ≡ b → ((not (is_named (mark_at marks n)) || has_part parts (home_of items n)) ≡ true) × (are_covered items marks parts (n + 1) count ≡ true)
            → ((n == m) ≡ false → has_part parts (home_of items m) ≡ true) → has_part parts (home_of items m) ≡ true
        by true here both later =
            let same : n ≡ m = eqb-true n m here in
            let marked : is_named (mark_at marks n) ≡ true = are.named n ∙ ap (names_item program) same ∙ named in
            ap (λ (k : ℕ). has_part parts (home_of items k)) (sym same)
            ∙ ap (λ (b : Bool). not b || has_part parts (home_of items n)) (sym marked) ∙ both.0
        by false other both later = later other

    known-covered : (n count : ℕ) → ((m : ℕ) → names_item program m ≡ true → m < n + count → has_part parts (home_of items m) ≡ true) → are_covered items marks parts n count ≡ true
    known-covered n zero known = refl
    known-covered n (suc count) known =
        and_from _ _ (by (is_named (mark_at marks n)) refl)
        (known-covered (n + 1) count (λ m named below. known m named (omega (arith, below))))
      where
        by : (b : Bool) → is_named (mark_at marks n) ≡ b → (not (is_named (mark_at marks n)) || has_part parts (home_of items n)) ≡ true
        by true marked = or-right (not (is_named (mark_at marks n))) (has_part parts (home_of items n)) (known n (sym (are.named n) ∙ marked) (omega arith))
        by false unmarked = or-left (not (is_named (mark_at marks n))) (has_part parts (home_of items n)) (ap not unmarked)

    first-wanted : (site : ℕ) → 0 < length (wants_of program items site) → Contains (participants_of program items) site
    first-wanted site some =
        let is = wants-each program items site 0 (record { item = 0; exclusive = false }) some in
        sites-have program 0 items (slice_index_or (wants_of program items site) 0 (record { item = 0; exclusive = false })).item site _ (omega arith) is.home is.named

    some-wanted : (site : ℕ) → Contains (participants_of program items) site → 0 < length (wants_of program items site)
    some-wanted site there =
        let found = sites-known program 0 items site there in
        let has = wants-have program site 0 items found.1.place found.0 found.1.same found.1.at found.1.named in
        omega (arith, has.1)

    alike : are_own_parts (λ site. wants_between items marks site 0 (length items)) 0 parts ≡ are_own_parts (wants_of program items) 0 parts
    alike = own-parts-alike (λ site. wants_between items marks site 0 (length items)) (wants_of program items) (between-wants program marks are items) 0 parts

    own-is : ((n : ℕ) → IsTrue (names_item program n) → n < length items) → AreOwn 0 parts → are_covered items marks parts 0 (length items) ≡ true
        → parts ≡ map (part_of program items) (participants_of program items)
    own-is known own covered =
        own.same ∙ ap (map (part_of program items)) (one-ascending_by (λ (site : ℕ). site) (sites_of parts) (participants_of program items) own.ascends (sites-ascend program 0 items)
        (λ site there. first-wanted site (own.some site there))
        (λ site there.
        let named = sites-known program 0 items site there in
        let at : IsAt items named.0 site = subst (λ (n : ℕ). IsAt items n site) (omega (arith, named.1.same)) named.1.at in
        part-there parts (home_of items named.0) (covered-known 0 (length items) covered named.0 (omega arith) (let within = known named.0 named.1.named in omega (arith, within)) named.1.named) site at))

    is-tested : ((n : ℕ) → IsTrue (names_item program n) → n < length items) → parts ≡ map (part_of program items) (participants_of program items)
        → (are_own_parts (λ site. wants_between items marks site 0 (length items)) 0 parts ≡ true) × (are_covered items marks parts 0 (length items) ≡ true)
    is-tested known is =
        let sites : sites_of parts ≡ participants_of program items = ap sites_of is ∙ sites-back (participants_of program items) in (
          alike ∙ subst (λ (all : List Part). are_own_parts (wants_of program items) 0 all ≡ true) (sym is)
              (own-tests 0 (participants_of program items) (sites-ascend program 0 items) (λ site there. omega arith) some-wanted),
          known-covered 0 (length items) (λ m named below.
              let home = at-some items m (known m named) in
              there-part parts (home_of items m) home.0 home.1 (subst (λ (all : List ℕ). Contains all home.0) (sym sites) (sites-have program 0 items m home.0 m (omega arith) home.1 named))),
        )

    -- Both tests together tell the plan of a program whose items are known.
    pub tests-plan : ((n : ℕ) → IsTrue (names_item program n) → n < length items) → are_own_parts (λ site. wants_between items marks site 0 (length items)) 0 parts ≡ true
        → are_covered items marks parts 0 (length items) ≡ true → parts ≡ plan_of program items
    unfolding plan_of
    tests-plan known own covered = own-is known (tests-own 0 parts (sym alike ∙ own)) covered

    pub plan-tests : ((n : ℕ) → IsTrue (names_item program n) → n < length items) → parts ≡ plan_of program items
        → (are_own_parts (λ site. wants_between items marks site 0 (length items)) 0 parts ≡ true) × (are_covered items marks parts 0 (length items) ≡ true)
    unfolding plan_of
    plan-tests known is = is-tested known is

-- Where there is no cause, there is none.
pub no-cause : {X : Type 0} (cause : Option X) → is_some cause ≡ false → cause ≡ None
no-cause None none = refl
no-cause (Some cause) none = absurd (true≢false none)

pub some-cause : {X : Type 0} (cause : Option X) → cause ≡ None → is_some cause ≡ true → ⊥
some-cause cause none some = false≢true (sym (ap is_some none) ∙ some)

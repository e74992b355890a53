-- Cases on a way down a decision tree: how they are put under the way, and where the sides of a test meet in their list.
use Rattle.std.proofs.Common.{◌≡◌, ℕ, ◌+◌, ◌<◌, ◌≤◌, Bool, true, false, List, [], ◌∷◌, ◌++◌, map, length, take, drop, get_or, refl, sym, ap, ap₂, ◌∙◌, subst, append_assoc, arith, ltb, suc, add-one, drop-cons}
use Rattle.std.specs.List.{position_or_len}
use Rattle.std.proofs.lemmas.List.{map-append, drop-drop, drop_all, length-map}
use Rattle.std.proofs.lemmas.Bool.Decides.{nat_tests}
use Rattle.pv_base.specs.declared.literal.Literal.{Literal}
use Rattle.pv_base.specs.declared.txn.TxnId.{TxnId}
use Rattle.pv_base.specs.Polyvalue.{Case, under, IsCanonical, sure, tested}
use Rattle.pv_base.proofs.Basics.{heads, tails}
use Rattle.pv_cases.specs.CasesAt.{asks_commit, under_all, beyond}
use Rattle.pv_cases.proofs.CaseCounts.{length-under, length-tested, some_case}
use Rattle.pv_cases.specs.Sides.{AreSides}

module _ {V : Type 0} where
  pub behind-none : (cases : List (Case V)) → under_all [] cases ≡ cases
  behind-none [] = refl
  behind-none (case ∷ cases) = ap (λ (rest : List (Case V)). case ∷ rest) (behind-none cases)

  behind-under : (way : List Literal) (txn : TxnId) (outcome : Bool) (cases : List (Case V)) →
      under_all way (under txn outcome cases) ≡ under_all (way ++ record { txn = txn; commits = outcome } ∷ []) cases
  behind-under way txn outcome [] = refl
  behind-under way txn outcome (case ∷ cases) =
      let literal : Literal = record { txn = txn; commits = outcome } in
      let longer = sym (append_assoc way (literal ∷ []) case.when) in
      let rest = behind-under way txn outcome cases in
      λ i. record { when = longer i; value = case.value } ∷ rest i

  pub behind-tested : (way : List Literal) (txn : TxnId) (aborted committed : List (Case V)) →
      under_all way (under txn false aborted ++ under txn true committed) ≡
      under_all (way ++ record { txn = txn; commits = false } ∷ []) aborted ++ under_all (way ++ record { txn = txn; commits = true } ∷ []) committed
  behind-tested way txn aborted committed =
      map-append _ (under txn false aborted) (under txn true committed) ∙ ap₂ ◌++◌ (behind-under way txn false aborted) (behind-under way txn true committed)

  -- what is pushed of a test, a side after the other
  pub pushed-tested : (way first second : List Literal) (txn : TxnId) (aborted committed : List (Case V)) (old middle new : List (Case V)) →
      first ≡ way ++ record { txn = txn; commits = false } ∷ [] → second ≡ way ++ record { txn = txn; commits = true } ∷ [] →
      middle ≡ old ++ under_all first aborted → new ≡ middle ++ under_all second committed → new ≡ old ++ under_all way (under txn false aborted ++ under txn true committed)
  pushed-tested way first second txn aborted committed old middle new is is-too added added-too =
      added-too
      ∙ ap₂ (λ (m : List (Case V)) (w : List Literal). m ++ under_all w committed) (added ∙ ap (λ w. old ++ under_all w aborted) is) is-too
      ∙ append_assoc old _ _
      ∙ ap (λ c. old ++ c) (sym (behind-tested way txn aborted committed))

  pub beyond-none : (cases : List (Case V)) → beyond 0 cases ≡ cases
  beyond-none [] = refl
  beyond-none (case ∷ cases) = ap (λ (rest : List (Case V)). case ∷ rest) (beyond-none cases)

  -- one literal further
  beyond-under : (depth : ℕ) (txn : TxnId) (outcome : Bool) (cases side : List (Case V)) → beyond depth cases ≡ under txn outcome side →
      beyond (depth + 1) cases ≡ side
  beyond-under depth txn outcome [] [] e = refl
  beyond-under depth txn outcome [] (first ∷ side) e = cc
  beyond-under depth txn outcome (case ∷ cases) [] e = cc
  beyond-under depth txn outcome (case ∷ cases) (first ∷ side) e =
      let same = heads e in
      let when = sym (drop-drop 1 depth case.when) ∙ ap (λ (k : Case V). drop 1 k.when) same in
      let value = ap (λ (k : Case V). k.value) same in
      let rest = beyond-under depth txn outcome cases side (tails e) in
      λ i. record { when = when i; value = value i } ∷ rest i

-- Beyond the end of a condition there is no literal.
pub literals-end : (depth : ℕ) (literals : List Literal) → false ≡ ltb depth (length literals) → drop depth literals ≡ []
literals-end depth literals e = drop_all depth literals (grind (arith, nat_tests, e))

-- the literal at a depth, and what is under_all it
pub literals-begin : (depth : ℕ) (literals : List Literal) (literal : Literal) → depth < length literals → literal ≡ get_or literals depth literal →
    drop depth literals ≡ literal ∷ drop (depth + 1) literals
literals-begin depth literals literal within is = rw (add-one) (drop-cons literals depth literal within ∙ ap (λ (l : Literal). l ∷ drop (suc depth) literals) (sym is))

-- Where a list is mapped to two parts, its own parts are mapped to them.
parts-mapped : {X Y : Type 0} (f : X → Y) (xs : List X) (aborted committed : List Y) → map f xs ≡ aborted ++ committed →
    (map f (take (length aborted) xs) ≡ aborted) × (map f (drop (length aborted) xs) ≡ committed)
parts-mapped f xs [] committed e = (refl, e)
parts-mapped f [] (y ∷ aborted) committed e = absurd (let none : ⊥ = cc in none)
parts-mapped f (x ∷ xs) (y ∷ aborted) committed e =
    let first = heads e in
    let rest = parts-mapped f xs aborted committed (tails e) in
    (λ i. first i ∷ rest.0 i, rest.1)

module _ {V : Type 0} where
  length-beyond : (depth : ℕ) (cases : List (Case V)) → length (beyond depth cases) ≡ length cases
  length-beyond depth cases = length-map cases _

  -- The second side begins at the first case whose literal asks for a commit.
  place-of-committed : (depth : ℕ) (txn : TxnId) (aborted : List (Case V)) (next : Case V) (committed cases : List (Case V)) →
      beyond depth cases ≡ under txn false aborted ++ under txn true (next ∷ committed) →
      position_or_len (λ case. asks_commit (drop depth case.when)) cases ≡ length aborted
  place-of-committed depth txn [] next committed [] e = cc
  place-of-committed depth txn (first ∷ aborted) next committed [] e = cc
  place-of-committed depth txn [] next committed (case ∷ cases) e =
      let asks : asks_commit (drop depth case.when) ≡ true = ap (λ (k : Case V). asks_commit k.when) (heads e) in
      rw asks
  place-of-committed depth txn (first ∷ aborted) next committed (case ∷ cases) e =
      let asks : asks_commit (drop depth case.when) ≡ false = ap (λ (k : Case V). asks_commit k.when) (heads e) in
      let rest = place-of-committed depth txn aborted next committed cases (tails e) in
      rw asks (omega (arith, rest))

  -- Beyond this depth the cases are those of a test on the literal's transaction, and its sides meet at this place.
  pub record IsCut (depth : ℕ) (cases : List (Case V)) (literal : Literal) (place : ℕ) : Type 0 where
    pub aborted : List (Case V)
    pub committed : List (Case V)
    pub is : beyond depth cases ≡ under literal.txn false aborted ++ under literal.txn true committed
    pub sides : AreSides literal.txn aborted committed
    pub aborted_is : beyond (depth + 1) (take place cases) ≡ aborted
    pub committed_is : beyond (depth + 1) (drop place cases) ≡ committed
    pub some_before : 0 < place
    pub some_behind : place < length cases

  cut-some : (depth : ℕ) (cases : List (Case V)) (txn : TxnId) (aborted : List (Case V)) (next : Case V) (committed : List (Case V)) →
      beyond depth cases ≡ under txn false aborted ++ under txn true (next ∷ committed) → AreSides txn aborted (next ∷ committed) → (literal : Literal) → txn ≡ literal.txn →
      IsCut depth cases literal (position_or_len (λ case. asks_commit (drop depth case.when)) cases)
  cut-some depth cases txn aborted next committed e sides literal same =
      let place = place-of-committed depth txn aborted next committed cases e in
      let parts = parts-mapped _ cases (under txn false aborted) (under txn true (next ∷ committed)) e in
      let long = length-under txn false aborted in
      subst (λ n. IsCut depth cases literal n) (sym place)
      (record {
        aborted = aborted;
        committed = next ∷ committed;
        is = subst (λ t. beyond depth cases ≡ under t false aborted ++ under t true (next ∷ committed)) same e;
        sides = subst (λ t. AreSides t aborted (next ∷ committed)) same sides;
        aborted_is = beyond-under depth txn false _ aborted (subst (λ n. beyond depth (take n cases) ≡ under txn false aborted) long parts.0);
        committed_is = beyond-under depth txn true _ (next ∷ committed) (subst (λ n. beyond depth (drop n cases) ≡ under txn true (next ∷ committed)) long parts.1);
        some_before = omega (arith, some_case sides.aborted_canonical);
        some_behind = omega (arith, ap length e, length-beyond depth cases, length-tested txn aborted (next ∷ committed));
      })

  cut-sides : (depth : ℕ) (cases : List (Case V)) (txn : TxnId) (aborted committed : List (Case V)) →
      beyond depth cases ≡ under txn false aborted ++ under txn true committed → AreSides txn aborted committed → (literal : Literal) → txn ≡ literal.txn →
      IsCut depth cases literal (position_or_len (λ case. asks_commit (drop depth case.when)) cases)
  cut-sides depth cases txn aborted [] e sides literal same = absurd (omega (arith, some_case sides.committed_canonical))
  cut-sides depth cases txn aborted (next ∷ committed) e sides literal same = cut-some depth cases txn aborted next committed e sides literal same

  -- the transaction of the first literal beyond this depth is the tested one
  first-txn : (depth : ℕ) (cases : List (Case V)) (txn : TxnId) (aborted committed : List (Case V)) → 1 ≤ length aborted →
      beyond depth cases ≡ under txn false aborted ++ under txn true committed → (first : Case V) → first ≡ get_or cases 0 first →
      (literal : Literal) (more : List Literal) → drop depth first.when ≡ literal ∷ more → txn ≡ literal.txn
  first-txn depth cases txn [] committed some e first at literal more begins = absurd (omega (arith, some))
  first-txn depth [] txn (next ∷ aborted) committed some e first at literal more begins = absurd (let none : ⊥ = cc in none)
  first-txn depth (case ∷ cases) txn (next ∷ aborted) committed some e first at literal more begins =
      let same = heads (sym begins ∙ ap (λ (k : Case V). drop depth k.when) at ∙ ap (λ (k : Case V). k.when) (heads e)) in
      ap (λ (l : Literal). l.txn) (sym same)

  cut-by : (depth : ℕ) (cases whole : List (Case V)) → IsCanonical whole → beyond depth cases ≡ whole → (first : Case V) → first ≡ get_or cases 0 first →
      (literal : Literal) (more : List Literal) → drop depth first.when ≡ literal ∷ more →
      IsCut depth cases literal (position_or_len (λ case. asks_commit (drop depth case.when)) cases)
  cut-by depth [] whole (sure value) e first at literal more begins = absurd (let none : ⊥ = cc in none)
  cut-by depth (case ∷ cases) whole (sure value) e first at literal more begins =
      absurd (
      let empty : drop depth case.when ≡ [] = ap (λ (k : Case V). k.when) (heads e) in
      let full = sym begins ∙ ap (λ (k : Case V). drop depth k.when) at ∙ empty in
      let none : ⊥ = cc in
      none
      )
  cut-by depth cases whole (tested txn aborted committed f b fb bb d) e first at literal more begins =
      cut-sides depth cases txn aborted committed e (record { aborted_canonical = f; committed_canonical = b; aborted_after = fb; committed_after = bb; differ = d }) literal
      (first-txn depth cases txn aborted committed (some_case f) e first at literal more begins)

  -- Cases that are canonical beyond a depth, and of which the first has a literal there, are those of a test.
  pub cut-at : (depth : ℕ) (cases : List (Case V)) → IsCanonical (beyond depth cases) → (first : Case V) → first ≡ get_or cases 0 first →
      (literal : Literal) (more : List Literal) → drop depth first.when ≡ literal ∷ more →
      IsCut depth cases literal (position_or_len (λ case. asks_commit (drop depth case.when)) cases)
  cut-at depth cases canonical first at literal more begins = cut-by depth cases (beyond depth cases) canonical refl first at literal more begins

  sure-by : (depth : ℕ) (cases whole : List (Case V)) → IsCanonical whole → beyond depth cases ≡ whole → (first : Case V) → first ≡ get_or cases 0 first →
      drop depth first.when ≡ [] → beyond depth cases ≡ record { when = []; value = first.value } ∷ []
  sure-by depth [] whole (sure value) e first at ends = absurd (let none : ⊥ = cc in none)
  sure-by depth (case ∷ cases) whole (sure value) e first at ends =
      let same = ap (λ (k : Case V). k.value) at ∙ ap (λ (k : Case V). k.value) (heads e) in
      e ∙ (λ i. record { when = []; value = sym same i } ∷ [])
  sure-by depth cases whole (tested txn [] committed f b fb bb d) e first at ends = absurd (omega (arith, some_case f))
  sure-by depth [] whole (tested txn (next ∷ aborted) committed f b fb bb d) e first at ends = absurd (let none : ⊥ = cc in none)
  sure-by depth (case ∷ cases) whole (tested txn (next ∷ aborted) committed f b fb bb d) e first at ends =
      absurd (
      let full = sym ends ∙ ap (λ (k : Case V). drop depth k.when) at ∙ ap (λ (k : Case V). k.when) (heads e) in
      let none : ⊥ = cc in
      none
      )

  -- Where the first has no literal at the depth, it is the only one.
  pub sure-at : (depth : ℕ) (cases : List (Case V)) → IsCanonical (beyond depth cases) → (first : Case V) → first ≡ get_or cases 0 first →
      drop depth first.when ≡ [] → beyond depth cases ≡ record { when = []; value = first.value } ∷ []
  sure-at depth cases canonical first at ends = sure-by depth cases (beyond depth cases) canonical refl first at ends

  -- The same, as a caller has it, who opened the first case and read its literal.
  pub cut-from : (depth : ℕ) (cases : List (Case V)) (first opened : Case V) (literals : List Literal) (literal : Literal) (place : ℕ) →
      IsCanonical (beyond depth cases) → first ≡ get_or cases 0 first → opened ≡ first → literals ≡ opened.when →
      true ≡ ltb depth (length literals) → literal ≡ get_or literals depth literal →
      place ≡ position_or_len (λ case. asks_commit (drop depth case.when)) cases → IsCut depth cases literal place
  cut-from depth cases first opened literals literal place canonical at open-is when within is place-is =
      let begins = ap (drop depth) (sym (when ∙ ap (λ (k : Case V). k.when) open-is)) ∙ literals-begin depth literals literal (grind (arith, nat_tests, within)) is in
      subst (λ n. IsCut depth cases literal n) (sym place-is) (cut-at depth cases canonical first at literal (drop (depth + 1) literals) begins)

  pub sure-from : (depth : ℕ) (cases : List (Case V)) (first opened : Case V) (literals : List Literal) →
      IsCanonical (beyond depth cases) → first ≡ get_or cases 0 first → opened ≡ first → literals ≡ opened.when →
      false ≡ ltb depth (length literals) → record { when = []; value = opened.value } ∷ [] ≡ beyond depth cases
  sure-from depth cases first opened literals canonical at open-is when ends =
      let none = ap (drop depth) (sym (when ∙ ap (λ (k : Case V). k.when) open-is)) ∙ literals-end depth literals ends in
      ap (λ (k : Case V). record { when = []; value = k.value } ∷ []) open-is ∙ sym (sure-at depth cases canonical first at none)

  pub cut-aborted : {depth : ℕ} {cases : List (Case V)} {literal : Literal} {place : ℕ} (cut : IsCut depth cases literal place) (part : List (Case V)) →
      part ≡ take place cases → IsCanonical (beyond (depth + 1) part)
  cut-aborted {depth} cut part is =
      subst IsCanonical (sym (ap (λ (p : List (Case V)). beyond (depth + 1) p) is ∙ cut.aborted_is)) cut.sides.aborted_canonical

  pub cut-committed : {depth : ℕ} {cases : List (Case V)} {literal : Literal} {place : ℕ} (cut : IsCut depth cases literal place) (part : List (Case V)) →
      part ≡ drop place cases → IsCanonical (beyond (depth + 1) part)
  cut-committed {depth} cut part is =
      subst IsCanonical (sym (ap (λ (p : List (Case V)). beyond (depth + 1) p) is ∙ cut.committed_is)) cut.sides.committed_canonical

  -- The sides that are read are those of the test.
  pub cut-read : {depth : ℕ} {cases : List (Case V)} {literal : Literal} {place : ℕ} → IsCut depth cases literal place →
      (before after aborted committed : List (Case V)) → before ≡ take place cases → after ≡ drop place cases →
      aborted ≡ beyond (depth + 1) before → committed ≡ beyond (depth + 1) after →
      AreSides literal.txn aborted committed × (under literal.txn false aborted ++ under literal.txn true committed ≡ beyond depth cases)
  cut-read {depth} {cases} {literal} cut before after aborted committed is-before is-after is-aborted is-committed =
      let first : aborted ≡ cut.aborted = is-aborted ∙ ap (λ (p : List (Case V)). beyond (depth + 1) p) is-before ∙ cut.aborted_is in
      let second : committed ≡ cut.committed = is-committed ∙ ap (λ (p : List (Case V)). beyond (depth + 1) p) is-after ∙ cut.committed_is in (
        subst (λ side. AreSides literal.txn side committed) (sym first) (subst (λ side. AreSides literal.txn cut.aborted side) (sym second) cut.sides),
        ap₂ (λ (a b : List (Case V)). under literal.txn false a ++ under literal.txn true b) first second ∙ sym cut.is,
      )

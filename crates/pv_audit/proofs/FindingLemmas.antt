-- There is one verdict on a trace alone.
use Rattle.std.proofs.Common.{◌≡◌, ◌⊎◌, ⊎_elim, ℕ, ◌+◌, ◌<◌, ◌≤◌, Some, None, List, [], ◌∷◌, ◌++◌, inl, inr, refl, sym, ap, ap₂, subst, ◌∙◌, length, arith}
use Rattle.std.specs.Prelude.{All}
use Rattle.std.specs.List.{Contains}
use Rattle.std.proofs.lemmas.Bool.{cases_order}
use Rattle.std.proofs.lemmas.List.Elements.{All-contains, Contains-append_right}
use Rattle.std.proofs.lemmas.Option.{none-some}
use Rattle.pv_audit.specs.Agreement.{AreOpen, LineAgrees}
use Rattle.pv_audit.specs.Findings.{Finding, no_order, no_item, limit, IsFinding, IsFine, IsFirstDisagreement, IsFirstFinding, IsVerdict, Verdict, all_agree, at_report, open_lists}
use Rattle.pv_audit.specs.FirstFailures.{IsFirstFailure}
use Rattle.pv_audit.specs.Limits.{HoldsTooMany, NameTogether, PassesLimit, ReadsTooMany}
use Rattle.pv_audit.specs.Reports.{Report, misplaced, reports}
use Rattle.pv_audit.specs.Traces.{Trace}
use Rattle.pv_audit.proofs.FirstLists.{first-listed, one-first}
use Rattle.pv_audit.proofs.LimitLemmas.{one-reads}
use Rattle.pv_audit.proofs.OpenLemmas.{lists-open}
use Rattle.pv_base.specs.Catalog.{Declared}
use Rattle.pv_base.specs.Polyvalue.{names}
use Rattle.pv_base.specs.declared.limits.TheConstants.{HELD_NAMES}
use Rattle.pv_base.specs.declared.txn.TxnId.{TxnId}
use Rattle.pv_base.proofs.Basics.{Some_inj, heads, tails}
use Rattle.pv_base.proofs.ContainsLemmas.{Contains-behind, Contains-first}
use Rattle.pv_law_polyvalues.proofs.NameLemmas.{one-names}
use Rattle.pv_law_programs.proofs.ItemLemmas.{one_items}
use Rattle.pv_model.specs.Alternatives.{Read, all_cases}
use Rattle.pv_model.specs.Serial.{Ordered}
use Rattle.pv_protocol.specs.Lines.{Line}

-- Two ways to part a list at an element.

abbrev pub Compared : {X : Type 0} → List X → X → List X → X → Type 0
Compared front x other y = ((front ≡ other) × (x ≡ y)) ⊎ (Contains front y ⊎ Contains other x)

pub compared : {X : Type 0} (front : List X) (x : X) (behind other : List X) (y : X) (after : List X) → front ++ x ∷ behind ≡ other ++ y ∷ after → Compared front x other y
compared [] x behind [] y after same = inl (refl, heads same)
compared [] x behind (z ∷ other) y after same = inr (inr (subst (Contains (z ∷ other)) (sym (heads same)) (Contains-first z other)))
compared (z ∷ front) x behind [] y after same = inr (inl (subst (Contains (z ∷ front)) (heads same) (Contains-first z front)))
compared (z ∷ front) x behind (w ∷ other) y after same =
    ⊎_elim
    (λ one. inl (ap₂ (λ v vs. v ∷ vs) (heads same) one.0, one.1))
    (λ rest. ⊎_elim (λ here. inr (inl (Contains-behind z front y here))) (λ there. inr (inr (Contains-behind w other x there))) rest)
    (compared front x behind other y after (tails same))

same-front : {X : Type 0} (front : List X) (x : X) (behind other : List X) (y : X) (after : List X) → front ++ x ∷ behind ≡ other ++ y ∷ after → length front ≡ length other
    → (front ≡ other) × (x ≡ y)
same-front [] x behind [] y after same long = (refl, heads same)
same-front [] x behind (w ∷ other) y after same long = absurd (omega (arith, long))
same-front (z ∷ front) x behind [] y after same long = absurd (omega (arith, long))
same-front (z ∷ front) x behind (w ∷ other) y after same long =
    let rest = same-front front x behind other y after (tails same) (omega (arith, long)) in
    (ap₂ (λ v vs. v ∷ vs) (heads same) rest.0, rest.1)

-- The limit.

module _ (catalog : Declared) (told : Report) where
  one-count : (done : List Ordered) (items : List ℕ) (count other : ℕ) → NameTogether catalog told done items count → NameTogether catalog told done items other → count ≡ other
  one-count done items count other is is-too =
      let same : is.reads ≡ is-too.reads = one-reads catalog told done items is.reads is-too.reads is.are is-too.are in
      sym is.counted
      ∙ ap (λ (ts : List TxnId). length ts)
      (one-names (all_cases is.reads) (all_cases is-too.reads) is.txns is-too.txns
      (λ t. ap (λ (reads : List Read). names (all_cases reads) t) same) is.named is-too.named)
      ∙ is-too.counted

  -- at what a transaction reads, or else at what it leaves
  abbrev TooMany : List Ordered → Ordered → ℕ → Type 0
  TooMany done entry count =
      ReadsTooMany catalog told done entry count ⊎ (((more : ℕ) → ReadsTooMany catalog told done entry more → ⊥) × HoldsTooMany catalog told done entry count)

  module _ (done : List Ordered) (entry : Ordered) (count other : ℕ) where
    one-read : ReadsTooMany catalog told done entry count → ReadsTooMany catalog told done entry other → count ≡ other
    one-read is is-too =
        one-count done is.items count other is.name
        (subst (λ (items : List ℕ). NameTogether catalog told done items other) (one_items entry.program is-too.items is.items is-too.are is.are) is-too.name)

    one-held : HoldsTooMany catalog told done entry count → HoldsTooMany catalog told done entry other → count ≡ other
    one-held is is-too =
        ⊎_elim
        (λ same. one-count (done ++ entry ∷ []) (is.item ∷ []) count other is.name
        (subst (λ (n : ℕ). NameTogether catalog told (done ++ entry ∷ []) (n ∷ []) other) (sym same) is-too.name))
        (λ apart. ⊎_elim
        (λ less. let few : count ≤ HELD_NAMES = is-too.first is.item count less is.name in let many : HELD_NAMES < count = is.over in absurd (omega (arith, few, many)))
        (λ more. let few : other ≤ HELD_NAMES = is.first is-too.item other more is-too.name in let many : HELD_NAMES < other = is-too.over in absurd (omega (arith, few, many)))
        apart)
        (cases_order is.item is-too.item)

    one-passed : TooMany done entry count → TooMany done entry other → count ≡ other
    one-passed (inl reads) (inl reads-too) = one-read reads reads-too
    one-passed (inl reads) (inr holds-too) = absurd (holds-too.0 count reads)
    one-passed (inr holds) (inl reads-too) = absurd (holds.0 other reads-too)
    one-passed (inr holds) (inr holds-too) = one-held holds.1 holds-too.1

  pub one-limit : (count other : ℕ) → PassesLimit catalog told count → PassesLimit catalog told other → count ≡ other
  one-limit count other is is-too =
      let long : length is.done ≡ length is-too.done =
      (let there = is.first is-too.done other is-too.passed in let back = is-too.first is.done count is.passed in omega (arith, there, back)) in
      let same = same-front is.done is.passed.entry is.passed.behind is-too.done is-too.passed.entry is-too.passed.behind (sym is.passed.split ∙ is-too.passed.split) long in
      one-passed is.done is.passed.entry count other is.passed.too_many
      (subst (λ (done : List Ordered). TooMany done is.passed.entry other) (sym same.0)
      (subst (λ (entry : Ordered). TooMany is-too.done entry other) (sym same.1) is-too.passed.too_many))

  -- The finding.

  -- A line that all that are open agree on isn't the one that doesn't.
  not-fine : (item : ℕ) (list : List TxnId) (is : IsFirstDisagreement catalog told item list) (lines : List Line)
      → ((other : List TxnId) → AreOpen told other → All (LineAgrees catalog told other) lines) → Contains lines (Line.item item is.cases) → ⊥
  not-fine item list is lines fine here =
      is.first.fails
      (All-contains (LineAgrees catalog told list) lines (Line.item item is.cases)
      (fine list (lists-open told list (first-listed _ list is.first))) here)

  one-disagreement : (item other : ℕ) (list list-too : List TxnId) → IsFirstDisagreement catalog told item list → IsFirstDisagreement catalog told other list-too
      → no_item item list ≡ no_item other list-too
  one-disagreement item other list list-too is is-too =
      ⊎_elim
      (λ same.
      let line : Line.item item is.cases ≡ Line.item other is-too.cases = same.1 in
      let items : item ≡ other = cc in
      ap₂ no_item items
      (one-first (λ a. LineAgrees catalog told a (Line.item item is.cases)) _ list list-too is.first
      (subst (λ (l : Line). IsFirstFailure (λ a. LineAgrees catalog told a l) (open_lists told) list-too) (sym line) is-too.first)))
      (λ apart. ⊎_elim
      (λ here. absurd (not-fine other list-too is-too is.front is.fine here))
      (λ there. absurd (not-fine item list is is-too.front is-too.fine there))
      apart)
      (compared is.front (Line.item item is.cases) is.behind is-too.front (Line.item other is-too.cases) is-too.behind (sym is.split ∙ is-too.split))

  placed-not : {txn : TxnId} {P : Type 0} → misplaced told ≡ Some txn → misplaced told ≡ None → P
  placed-not {txn} found none = absurd (none-some txn (sym none ∙ found))

  pub one-finding : (found other : Finding) → IsFinding catalog told found → IsFinding catalog told other → found ≡ other
  one-finding (no_order txn) (no_order other) is is-too = ap no_order (Some_inj (sym is ∙ is-too))
  one-finding (no_order txn) (no_item item list) is is-too = placed-not is is-too.0.placed
  one-finding (no_order txn) (limit count) is is-too = placed-not is is-too.0
  one-finding (no_item item list) (no_order txn) is is-too = placed-not is-too is.0.placed
  one-finding (no_item item list) (no_item other list-too) is is-too = one-disagreement item other list list-too is.1 is-too.1
  one-finding (no_item item list) (limit count) is is-too = absurd (is.0.narrow count is-too.1)
  one-finding (limit count) (no_order txn) is is-too = placed-not is-too is.0
  one-finding (limit count) (no_item item list) is is-too = absurd (is-too.0.narrow count is.1)
  one-finding (limit count) (limit other) is is-too = ap limit (one-limit count other is.1 is-too.1)

  -- A report that is fine has none.
  pub fine-not-found : (found : Finding) → IsFine catalog told → IsFinding catalog told found → ⊥
  fine-not-found (no_order txn) fine is = placed-not is fine.can.placed
  fine-not-found (no_item item list) fine is =
      not-fine item list is.1 told.items fine.agrees
      (subst (λ (lines : List Line). Contains lines (Line.item item is.1.cases)) (sym is.1.split)
      (Contains-append_right is.1.front (Line.item item is.1.cases ∷ is.1.behind) (Line.item item is.1.cases) (Contains-first (Line.item item is.1.cases) is.1.behind)))
  fine-not-found (limit count) fine is = fine.can.narrow count is.1

-- The verdict.

module _ (trace : Trace) where
  not-all : (found : Finding) (number : ℕ) → IsFirstFinding trace number found → All (IsFine trace.catalog) (reports trace) → ⊥
  not-all found number is fine =
      fine-not-found trace.catalog is.told found
      (All-contains (IsFine trace.catalog) (reports trace) is.told fine
      (subst (λ (all : List Report). Contains all is.told) (sym is.split) (Contains-append_right is.front (is.told ∷ is.behind) is.told (Contains-first is.told is.behind)))) is.is

  one-first-finding : (found other : Finding) (number number-too : ℕ) → IsFirstFinding trace number found → IsFirstFinding trace number-too other
      → at_report number found ≡ at_report number-too other
  one-first-finding found other number number-too is is-too =
      ⊎_elim
      (λ same. ap₂ at_report
      (is.counted ∙ ap (λ (front : List Report). length front + 1) same.0 ∙ sym is-too.counted)
      (one-finding trace.catalog is.told found other is.is (subst (λ (told : Report). IsFinding trace.catalog told other) (sym same.1) is-too.is)))
      (λ apart. ⊎_elim
      (λ here. absurd (fine-not-found trace.catalog is-too.told other (All-contains (IsFine trace.catalog) is.front is-too.told is.fine here) is-too.is))
      (λ there. absurd (fine-not-found trace.catalog is.told found (All-contains (IsFine trace.catalog) is-too.front is.told is-too.fine there) is.is))
      apart)
      (compared is.front is.told is.behind is-too.front is-too.told is-too.behind (sym is.split ∙ is-too.split))

  pub one-verdict : (verdict other : Verdict) → IsVerdict trace verdict → IsVerdict trace other → verdict ≡ other
  one-verdict (all_agree count) (all_agree count-too) is is-too = ap all_agree (is.0 ∙ sym is-too.0)
  one-verdict (all_agree count) (at_report number found) is is-too = absurd (not-all found number is-too is.1)
  one-verdict (at_report number found) (all_agree count) is is-too = absurd (not-all found number is is-too.1)
  one-verdict (at_report number found) (at_report number-too other) is is-too = one-first-finding found other number number-too is is-too

  -- Where it is that all agree, they do.
  pub all-fine : (verdict : Verdict) (count : ℕ) → IsVerdict trace verdict → verdict ≡ all_agree count → (count ≡ length (reports trace)) × All (IsFine trace.catalog) (reports trace)
  all-fine verdict count is same = subst (IsVerdict trace) same is

  pub fine-says : (verdict : Verdict) → IsVerdict trace verdict → All (IsFine trace.catalog) (reports trace) → verdict ≡ all_agree (length (reports trace))
  fine-says verdict is fine = one-verdict verdict (all_agree (length (reports trace))) is (refl, fine)

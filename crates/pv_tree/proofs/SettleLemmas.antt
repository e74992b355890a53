-- Nodes once outcomes are known: leaves, tests whose outcome is known, and other tests.
use Rattle.std.proofs.Common.{◌≡◌, ◌⊎◌, ⊎_elim, ℕ, Bool, true, false, List, [], ◌∷◌, Option, Some, None, cond, if◌then◌else◌, IsTrue, get_or, refl, sym, ap, subst, ◌∙◌}
use Rattle.std.specs.List.{Contains, find}
use Rattle.std.specs.Option.{option_map}
use Rattle.std.proofs.lemmas.Bool.{false≢true, false_from_ne_true}
use Rattle.std.proofs.lemmas.Option.{none-some}
use Rattle.std.proofs.lemmas.List.Elements.{All-contains}
use Rattle.pv_base.specs.declared.literal.Literal.{Literal}
use Rattle.pv_base.specs.declared.txn.TxnId.{TxnId}
use Rattle.pv_base.specs.Assignment.{is_same_txn, assignments, commits, with_outcome}
use Rattle.pv_base.specs.Polyvalue.{Case, value_at, names, with_outcomes, AreValues, IsSettled, IsCanonical, sure, NamesOnlyAfter}
use Rattle.pv_base.proofs.AssignmentLemmas.{same-eq, same-refl, commits-with-other, commits-with-same}
use Rattle.pv_base.proofs.Basics.{Some_inj}
use Rattle.pv_base.proofs.ContainsLemmas.{Contains-nil, Contains-cases}
use Rattle.pv_base.proofs.MapLemmas.{map-same}
use Rattle.pv_law_polyvalues.proofs.AscendingLemmas.{All-from_members}
use Rattle.pv_cases.proofs.SettledLemmas.{nothing-settled}
use Rattle.pv_cases.proofs.TestedCases.{IsTested}
use Rattle.pv_cases.proofs.TestLemmas.{test-named, test-aborted, test-committed, test-value}
use Rattle.pv_tree.specs.Meanings.{cases_at, IsAt, Chooses}
use Rattle.pv_tree.specs.Nodes.{IsTestAt}
use Rattle.pv_tree.specs.Outcomes.{outcome_of}
use Rattle.pv_tree.specs.Settling.{Settles, AreNoted}

-- The outcome that literals ask for is that of every assignment with them.

found-by : (b : Bool) (literal : Literal) (rest : List Literal) (found : Option Bool) (t : TxnId) (o : Bool) (a : List TxnId) → is_same_txn literal.txn t ≡ b
    → (found ≡ Some o → commits (with_outcomes rest a) t ≡ o) → cond b (Some literal.commits) found ≡ Some o → commits (with_outcomes (literal ∷ rest) a) t ≡ o
found-by true literal rest found t o a same later is =
    ap (λ (u : TxnId). commits (with_outcome literal.txn literal.commits (with_outcomes rest a)) u) (sym (same-eq {t = literal.txn} {u = t} same))
    ∙ commits-with-same literal.txn literal.commits (with_outcomes rest a)
    ∙ Some_inj is
found-by false literal rest found t o a other later is =
    commits-with-other literal.txn literal.commits (with_outcomes rest a) t other ∙ later is

map-cond : {X Y : Type 0} (f : X → Y) (b : Bool) (x : X) (rest : Option X) → option_map f (cond b (Some x) rest) ≡ cond b (Some (f x)) (option_map f rest)
map-cond f true x rest = refl
map-cond f false x rest = refl

first-outcome : (literal : Literal) (rest : List Literal) (t : TxnId) → outcome_of (literal ∷ rest) t ≡ cond (is_same_txn literal.txn t) (Some literal.commits) (outcome_of rest t)
first-outcome literal rest t = map-cond (λ (l : Literal). l.commits) (is_same_txn literal.txn t) literal (find (λ (l : Literal). is_same_txn l.txn t) rest)

pub outcome-found : (literals : List Literal) (t : TxnId) (o : Bool) (a : List TxnId) → outcome_of literals t ≡ Some o → commits (with_outcomes literals a) t ≡ o
outcome-found [] t o a is = absurd (none-some _ is)
outcome-found (literal ∷ rest) t o a is =
    found-by (is_same_txn literal.txn t) literal rest (outcome_of rest t) t o a refl (outcome-found rest t o a) (sym (first-outcome literal rest t) ∙ is)

none-by : (b : Bool) (x : Bool) (found : Option Bool) → cond b (Some x) found ≡ None → (b ≡ false) × (found ≡ None)
none-by true x found is = absurd (none-some x (sym is))
none-by false x found is = (refl, is)

pub none-first : (literal : Literal) (rest : List Literal) (t : TxnId) → outcome_of (literal ∷ rest) t ≡ None → (is_same_txn literal.txn t ≡ false) × (outcome_of rest t ≡ None)
none-first literal rest t is = none-by (is_same_txn literal.txn t) literal.commits (outcome_of rest t) (sym (first-outcome literal rest t) ∙ is)

pub outcome-none : (literals : List Literal) (t : TxnId) (a : List TxnId) → outcome_of literals t ≡ None → commits (with_outcomes literals a) t ≡ commits a t
outcome-none [] t a is = refl
outcome-none (literal ∷ rest) t a is =
    let parts = none-first literal rest t is in
    commits-with-other literal.txn literal.commits (with_outcomes rest a) t parts.0 ∙ outcome-none rest t a parts.1

pub outcome-other : (literals : List Literal) (t : TxnId) → outcome_of literals t ≡ None → (l : Literal) → Contains literals l → l.txn ≡ t → ⊥
outcome-other [] t is l here same = Contains-nil l here
outcome-other (literal ∷ rest) t is l here same =
    let parts = none-first literal rest t is in
    ⊎_elim
    (λ first. false≢true (sym parts.0 ∙ ap (λ (u : TxnId). is_same_txn u t) (ap (λ (m : Literal). m.txn) first ∙ same) ∙ same-refl t))
    (λ behind. outcome-other rest t parts.1 l behind same)
    (Contains-cases literal rest l here)

module _ {V : Type 0} where
  pub tested-at : {meanings : List (List (Case V))} {number : ℕ} {txn : TxnId} {aborted committed : ℕ} → IsTestAt meanings number txn aborted committed
      → IsTested txn (cases_at meanings aborted) (cases_at meanings committed) (cases_at meanings number)
  tested-at at = record { is = at.is; sides = at.below.sides }

  -- A leaf is what it was.
  pub leaf-settles : (literals : List Literal) (cases : List (Case V)) (value : V) (target : List (List (Case V))) (number : ℕ) → cases ≡ record { when = []; value = value } ∷ []
      → IsAt target number (record { when = []; value = value } ∷ []) → Settles literals cases target number
  leaf-settles literals cases value target number is at =
      let one : List (Case V) = record { when = []; value = value } ∷ [] in
      let same : cases ≡ cases_at target number = is ∙ sym at.is in record {
        there = at.there;
        settled = subst (λ (c : List (Case V)). IsSettled literals cases c) same
            (subst (λ (c : List (Case V)). IsSettled literals c c) (sym is) (nothing-settled literals one (λ u. refl)));
        named = λ u named. subst (λ (c : List (Case V)). IsTrue (names c u)) (sym same) named;
        canonical = subst IsCanonical (sym at.is) (sure value);
      }

  -- A test whose outcome is known is the side that it takes.

  value-known : {t : TxnId} {aborted committed cases : List (Case V)} (literals : List Literal) (o : Bool) → IsTested t aborted committed cases → outcome_of literals t ≡ Some o
      → (a : List TxnId) → value_at cases (with_outcomes literals a) ≡ value_at (if o then committed else aborted) (with_outcomes literals a)
  value-known {t} {aborted} {committed} literals o at known a =
      test-value at (with_outcomes literals a)
      ∙ ap (λ (b : Bool). value_at (if b then committed else aborted) (with_outcomes literals a)) (outcome-found literals t o a known)

  pub committed-settles : {t : TxnId} {aborted committed cases : List (Case V)} (literals : List Literal) (target : List (List (Case V))) (made : ℕ)
      → IsTested t aborted committed cases → outcome_of literals t ≡ Some true → Settles literals committed target made → Settles literals cases target made
  committed-settles literals target made at known is = record {
    there = is.there;
    settled = record { same = λ a. is.settled.same a ∙ sym (value-known literals true at known a); unnamed = is.settled.unnamed };
    named = λ u named. test-committed at u (is.named u named);
    canonical = is.canonical;
  }

  pub aborted-settles : {t : TxnId} {aborted committed cases : List (Case V)} (literals : List Literal) (target : List (List (Case V))) (made : ℕ)
      → IsTested t aborted committed cases → outcome_of literals t ≡ Some false → Settles literals aborted target made → Settles literals cases target made
  aborted-settles literals target made at known is = record {
    there = is.there;
    settled = record { same = λ a. is.settled.same a ∙ sym (value-known literals false at known a); unnamed = is.settled.unnamed };
    named = λ u named. test-aborted at u (is.named u named);
    canonical = is.canonical;
  }

  -- Where no outcome is put in, the values are those of the cases.
  pub unsettled-values : (cases : List (Case V)) (meanings : List (List (Case V))) (number : ℕ) (txns : List TxnId) (values : List V) → Settles [] cases meanings number
      → AreValues (cases_at meanings number) txns values → AreValues cases txns values
  unsettled-values cases meanings number txns values is are =
      are ∙ map-same (value_at (cases_at meanings number)) (value_at cases) (assignments txns) (λ a here. is.settled.same a)

  -- Another test is a choice between its sides.

  pub settled-after : (t : TxnId) {cases : List (Case V)} (literals : List Literal) (target : List (List (Case V))) (made : ℕ) → NamesOnlyAfter t cases
      → Settles literals cases target made → NamesOnlyAfter t (cases_at target made)
  settled-after t literals target made after is u named = after u (is.named u named)

  sides-by : (b : Bool) (a c : List TxnId) (aborted committed front back : List (Case V)) → value_at front a ≡ value_at aborted c → value_at back a ≡ value_at committed c
      → value_at (if b then back else front) a ≡ value_at (if b then committed else aborted) c
  sides-by true a c aborted committed front back first second = second
  sides-by false a c aborted committed front back first second = first

  pub test-settles : {t : TxnId} {aborted committed cases : List (Case V)} (literals : List Literal) (target new : List (List (Case V))) (front back made : ℕ)
      → IsTested t aborted committed cases → outcome_of literals t ≡ None → Settles literals aborted target front → Settles literals committed target back
      → Chooses t (cases_at target front) (cases_at target back) new made → Settles literals cases new made
  test-settles {t} {aborted} {committed} {cases} literals target new front back made at unknown first second chosen = record {
    there = chosen.there;
    settled = record {
      same = λ a. let b = with_outcomes literals a in
          chosen.choice a
          ∙ sides-by (commits a t) a b aborted committed (cases_at target front) (cases_at target back) (first.settled.same a) (second.settled.same a)
          ∙ ap (λ (o : Bool). value_at (if o then committed else aborted) b) (sym (outcome-none literals t a unknown))
          ∙ sym (test-value at b);
      unnamed = All-from_members (λ (l : Literal). names (cases_at new made) l.txn ≡ false) literals (λ l h.
          false_from_ne_true (names (cases_at new made) l.txn) (λ named. ⊎_elim
          (λ same. outcome-other literals t unknown l h (sym same))
          (⊎_elim
          (λ here. false≢true (sym (All-contains (λ (l : Literal). names (cases_at target front) l.txn ≡ false) literals l first.settled.unnamed h) ∙ here))
          (λ here. false≢true (sym (All-contains (λ (l : Literal). names (cases_at target back) l.txn ≡ false) literals l second.settled.unnamed h) ∙ here)))
          (chosen.named l.txn named)));
    };
    named = λ u named. ⊎_elim
        (λ same. subst (λ (w : TxnId). IsTrue (names cases w)) same (test-named at))
        (⊎_elim (λ here. test-aborted at u (first.named u here)) (λ here. test-committed at u (second.named u here)))
        (chosen.named u named);
    canonical = chosen.canonical;
  }

  -- One note more.
  pub noted-more : (literals : List Literal) (source target : List (List (Case V))) (old new : List (Option ℕ)) (number made : ℕ) → AreNoted literals source target old
      → ((other found : ℕ) → get_or new other None ≡ Some found → ((other ≡ number) × (found ≡ made)) ⊎ (get_or old other None ≡ Some found))
      → Settles literals (cases_at source number) target made → AreNoted literals source target new
  noted-more literals source target old new number made are noted is other found here =
      ⊎_elim
      (λ same. subst (λ (n : ℕ). Settles literals (cases_at source n) target found) (sym same.0)
      (subst (λ (n : ℕ). Settles literals (cases_at source number) target n) (sym same.1) is))
      (λ before. are other found before)
      (noted other found here)

  -- At first nothing is noted.
  pub none-noted : (literals : List Literal) (source target : List (List (Case V))) (noted : List (Option ℕ)) → ((number : ℕ) → get_or noted number None ≡ None)
      → AreNoted literals source target noted
  none-noted literals source target noted none number found here = absurd (none-some found (sym (none number) ∙ here))

  -- The value of a test is that of the side that the assignment takes.

  pub value-committed : {meanings : List (List (Case V))} {number : ℕ} {txn : TxnId} {aborted committed : ℕ} {value : Option V} {b : Bool} → IsTestAt meanings number txn aborted committed
      → (a : List TxnId) → b ≡ commits a txn → b ≡ true → value_at (cases_at meanings committed) a ≡ value → value_at (cases_at meanings number) a ≡ value
  value-committed {meanings} {aborted = aborted} {committed} at a is commits-too value =
      test-value (tested-at at) a ∙ ap (λ (o : Bool). value_at (if o then cases_at meanings committed else cases_at meanings aborted) a) (sym is ∙ commits-too) ∙ value

  pub value-aborted : {meanings : List (List (Case V))} {number : ℕ} {txn : TxnId} {aborted committed : ℕ} {value : Option V} {b : Bool} → IsTestAt meanings number txn aborted committed
      → (a : List TxnId) → b ≡ commits a txn → b ≡ false → value_at (cases_at meanings aborted) a ≡ value → value_at (cases_at meanings number) a ≡ value
  value-aborted {meanings} {aborted = aborted} {committed} at a is aborts value =
      test-value (tested-at at) a ∙ ap (λ (o : Bool). value_at (if o then cases_at meanings committed else cases_at meanings aborted) a) (sym is ∙ aborts) ∙ value

pub first-same : {txn first : TxnId} {txns rest : List TxnId} → txn ≡ first → txns ≡ first ∷ rest → txns ≡ txn ∷ rest
first-same {rest = rest} same is = is ∙ ap (λ (t : TxnId). t ∷ rest) (sym same)

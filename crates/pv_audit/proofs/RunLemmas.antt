-- The serial run of a report, transaction by transaction.
use Rattle.std.proofs.Common.{◌≡◌, ⊎_elim, ℕ, ℤ, ◌+◌, ◌<◌, ◌≤◌, Bool, true, false, ◌||◌, Option, Some, None, IfSome, List, [], ◌∷◌, ◌++◌, length, get_or, inl, refl, sym, ap, subst, ◌∙◌, arith, append_assoc, length-append}
use Rattle.std.specs.Prelude.{IsTrue, ◌==◌, is_none, if◌then◌else◌}
use Rattle.std.specs.List.{All, Any, Contains, find}
use Rattle.std.proofs.lemmas.Bool.{true≢false, or_left, or_right, eqb-true}
use Rattle.pv_base.proofs.Basics.{Some_inj}
use Rattle.pv_audit.specs.Limits.{runs, ReadsTooMany, HoldsTooMany, IsPassedAt, PassesLimit}
use Rattle.pv_audit.specs.Reports.{Report, request_of, or_nothing, with_programs, order_of, is_in, stands_twice, is_misplaced, is_stray, or_else, misplaced}
use Rattle.pv_audit.specs.Values.{AreAllValuesAfter, AreWritten, ReadsTooMuch, put_all, AreChoices, IsRunTo}
use Rattle.pv_audit.proofs.LimitLemmas.{reads-too-many, reads-few, choice-few, holds-few}
use Rattle.pv_audit.proofs.StepLemmas.{commit-step, open-step, idle-step, written-place}
use Rattle.pv_base.proofs.AssignmentLemmas.{same-eq}
use Rattle.pv_base.proofs.ContainsLemmas.{Contains-nil, Contains-cases}
use Rattle.pv_base.specs.Assignment.{is_same_txn}
use Rattle.pv_base.specs.Catalog.{Declared}
use Rattle.pv_base.specs.Polyvalue.{Case}
use Rattle.pv_base.specs.declared.limits.TheConstants.{HELD_NAMES}
use Rattle.pv_base.specs.declared.txn.TxnId.{TxnId}
use Rattle.pv_law_polyvalues.proofs.AscendingLemmas.{All-from_members}
use Rattle.pv_cases.specs.NameLimits.{ChoiceNamesTooMany}
use Rattle.pv_model.specs.Alternatives.{Read}
use Rattle.pv_model.specs.Serial.{Ordered}
use Rattle.pv_model.specs.Syntax.{Program}

-- ---- lists

same-front : {X : Type 0} (xs ys us vs : List X) → xs ++ us ≡ ys ++ vs → length xs ≡ length ys → xs ≡ ys
same-front [] [] us vs is long = refl
same-front [] (y ∷ ys) us vs is long = absurd (omega (arith, long))
same-front (x ∷ xs) [] us vs is long = absurd (omega (arith, long))
same-front (x ∷ xs) (y ∷ ys) us vs is long =
    let first : x ≡ y = cc in
    let rest : xs ++ us ≡ ys ++ vs = cc in
    let behind : xs ≡ ys = same-front xs ys us vs rest (omega (arith, long)) in
    cc

same-next : {X : Type 0} (xs : List X) (x y : X) (us vs : List X) → xs ++ x ∷ us ≡ xs ++ y ∷ vs → x ≡ y
same-next [] x y us vs is = cc
same-next (z ∷ xs) x y us vs is = let rest : xs ++ x ∷ us ≡ xs ++ y ∷ vs = cc in same-next xs x y us vs rest

contains-middle : {X : Type 0} (front : List X) (x : X) (behind : List X) → Contains (front ++ x ∷ behind) x
contains-middle {X = X} front x behind = (length front, omega (arith, length-append front (x ∷ behind)), at front)
  where
    at : (xs : List X) → get_or (xs ++ x ∷ behind) (length xs) x ≡ x
    at [] = refl
    at (y ∷ xs) = at xs

none-found : {X : Type 0} (p : X → Bool) (xs : List X) → find p xs ≡ None → (x : X) → Contains xs x → p x ≡ false
none-found p [] none x there = absurd (Contains-nil x there)
none-found p (first ∷ xs) none x there = by (p first) refl none (λ gone behind. none-found p xs gone x behind)
  where
    by : (b : Bool) → p first ≡ b → (if b then Some first else find p xs) ≡ None → (find p xs ≡ None → Contains xs x → p x ≡ false) → p x ≡ false
    by true is gone rest = absurd (let wrong : ⊥ = cc in wrong)
    by false is gone rest = ⊎_elim (λ same. ap p (sym same) ∙ is) (λ behind. rest gone behind) (Contains-cases first xs x there)

found-is : {X : Type 0} (p : X → Bool) (xs : List X) (x : X) → find p xs ≡ Some x → p x ≡ true
found-is p [] x is = absurd (let wrong : ⊥ = cc in wrong)
found-is p (first ∷ xs) x is = by (p first) refl is (λ later. found-is p xs x later)
  where
    by : (b : Bool) → p first ≡ b → (if b then Some first else find p xs) ≡ Some x → (find p xs ≡ Some x → p x ≡ true) → p x ≡ true
    by true here is rest = ap p (sym (Some_inj is)) ∙ here
    by false not is rest = rest is

-- ---- requests

-- The transaction has a request.
pub record HasRequest (told : Report) (txn : TxnId) : Type 0 where
  pub program : Program
  pub is : request_of told.begun txn ≡ Some (record { txn = txn; program = program })

first-none : (o other : Option TxnId) → or_else o other ≡ None → o ≡ None
first-none None other is = refl
first-none (Some txn) other is = absurd (let wrong : ⊥ = cc in wrong)

-- Where each transaction has its place, each of the order has a request.
pub placed-request : (told : Report) → misplaced told ≡ None → (front : List TxnId) (txn : TxnId) (behind : List TxnId) → told.ordered ≡ front ++ txn ∷ behind → HasRequest told txn
placed-request told placed front txn behind split = by (request_of told.begun txn) refl
  where
    there : Contains told.ordered txn
    there = subst (λ (txns : List TxnId). Contains txns txn) (sym split) (contains-middle front txn behind)

    in-place : is_misplaced told txn ≡ false
    in-place = none-found (is_misplaced told) told.ordered
        (first-none (find (is_misplaced told) told.ordered) (find (is_stray told) (told.committed ++ told.open_ones)) placed) txn there

    by : (o : Option Ordered) → request_of told.begun txn ≡ o → HasRequest told txn
    by None is =
        absurd (true≢false (sym (or_right (stands_twice told.ordered txn) (is_none (request_of told.begun txn)) (ap is_none is)) ∙ in-place))
    by (Some entry) is =
        let same : entry.txn ≡ txn = same-eq {t = entry.txn} {u = txn} (found-is (λ (e : Ordered). is_same_txn e.txn txn) told.begun entry is) in
        record { program = entry.program; is = is ∙ ap (λ (t : TxnId). Some (record { txn = t; program = entry.program })) same }

pub programs-append : (begun : List Ordered) (front behind : List TxnId) → with_programs begun (front ++ behind) ≡ with_programs begun front ++ with_programs begun behind
programs-append begun [] behind = refl
programs-append begun (txn ∷ front) behind =
    ap (λ (l : List Ordered). or_nothing (request_of begun txn) ++ l) (programs-append begun front behind)
    ∙ sym (append_assoc (or_nothing (request_of begun txn)) (with_programs begun front) (with_programs begun behind))

-- ---- one transaction of the order

module _ (catalog : Declared) (told : Report) (front : List TxnId) (txn : TxnId) (behind : List TxnId) (split : told.ordered ≡ front ++ txn ∷ behind)
    (program : Program) (request : request_of told.begun txn ≡ Some (record { txn = txn; program = program })) where
  abbrev entry : Ordered
  entry = record { txn = txn; program = program }

  abbrev done : List Ordered
  done = with_programs told.begun front

  first-program : (more : List TxnId) → with_programs told.begun (txn ∷ more) ≡ entry ∷ with_programs told.begun more
  first-program more = ap (λ (o : Option Ordered). or_nothing o ++ with_programs told.begun more) request

  pub next-done : with_programs told.begun (front ++ txn ∷ []) ≡ done ++ entry ∷ []
  next-done = programs-append told.begun front (txn ∷ []) ∙ ap (λ (l : List Ordered). done ++ l) (first-program [])

  pub order-is : order_of told ≡ done ++ entry ∷ with_programs told.begun behind
  order-is =
      ap (with_programs told.begun) split
      ∙ programs-append told.begun front (txn ∷ behind)
      ∙ ap (λ (l : List Ordered). done ++ l) (first-program behind)

  -- A limit that is passed here is passed at this transaction.
  passed-here : (count : ℕ) (passed : IsPassedAt catalog told done count) → passed.entry ≡ entry
  passed-here count passed = same-next done passed.entry entry passed.behind (with_programs told.begun behind) (sym passed.split ∙ order-is)

  module _ (values : List (List (Case ℤ))) (after : AreAllValuesAfter catalog told done values) where
    pub run-committed : (writes : List Read) → AreWritten program values writes → is_in told.committed txn ≡ true
        → AreAllValuesAfter catalog told (with_programs told.begun (front ++ txn ∷ [])) (put_all values writes)
    run-committed writes is committed =
        subst (λ (l : List Ordered). AreAllValuesAfter catalog told l (put_all values writes)) (sym next-done)
        (commit-step catalog told done values after entry writes is committed)

    pub run-open : (writes choices : List Read) → AreWritten program values writes → AreChoices txn values writes choices → is_in told.committed txn ≡ false
        → is_in told.open_ones txn ≡ true → AreAllValuesAfter catalog told (with_programs told.begun (front ++ txn ∷ [])) (put_all values choices)
    run-open writes choices is chosen uncommitted opened =
        subst (λ (l : List Ordered). AreAllValuesAfter catalog told l (put_all values choices)) (sym next-done)
        (open-step catalog told done values after entry writes is uncommitted opened choices chosen)

    pub run-idle : is_in told.committed txn ≡ false → is_in told.open_ones txn ≡ false
        → AreAllValuesAfter catalog told (with_programs told.begun (front ++ txn ∷ [])) values
    run-idle uncommitted closed =
        subst (λ (l : List Ordered). AreAllValuesAfter catalog told l values) (sym next-done)
        (idle-step catalog told done values after entry uncommitted closed)

    -- No limit is passed where what is written is put.
    pub within-runs : (writes : List Read) (new : List (List (Case ℤ))) → AreWritten program values writes
        → AreAllValuesAfter catalog told (with_programs told.begun (front ++ txn ∷ [])) new → (count : ℕ) → IsPassedAt catalog told done count → ⊥
    within-runs writes new is left count passed =
        let here = passed-here count passed in
        let held : AreAllValuesAfter catalog told (done ++ entry ∷ []) new = subst (λ (l : List Ordered). AreAllValuesAfter catalog told l new) next-done left in
        ⊎_elim
        (λ many. reads-few catalog told done values after entry writes is count (subst (λ (e : Ordered). ReadsTooMany catalog told done e count) here many))
        (λ holds. holds-few catalog told done entry new held count (subst (λ (e : Ordered). HoldsTooMany catalog told done e count) here holds.1))
        passed.too_many

    -- .. nor where the transaction doesn't run.
    pub within-rests : is_in told.committed txn ≡ false → is_in told.open_ones txn ≡ false → (count : ℕ) → IsPassedAt catalog told done count → ⊥
    within-rests uncommitted closed count passed =
        let here = passed-here count passed in
        let running : IsTrue (runs told txn) = subst (λ (e : Ordered). IsTrue (runs told e.txn)) here passed.running in
        true≢false (sym running ∙ ap (λ (b : Bool). b || is_in told.open_ones txn) uncommitted ∙ closed)

    pub passed-read : (count : ℕ) → ReadsTooMuch program values count → IsTrue (runs told txn) → IsPassedAt catalog told done count
    passed-read count much running = record {
      entry = entry;
      behind = with_programs told.begun behind;
      split = order-is;
      running = running;
      too_many = inl (reads-too-many catalog told done values after entry count much);
    }

    -- A choice passes no limit.
    pub choice-within : (writes : List Read) → AreWritten program values writes → (count : ℕ)
        → Any (λ (write : Read). ChoiceNamesTooMany HELD_NAMES txn (get_or values write.item []) write.cases count) writes → ⊥
    choice-within writes is count any = choice-few catalog told done values after entry writes is any.1 (any.0, any.2, any.3) count any.4

pub runs-committed : (told : Report) (txn : TxnId) → is_in told.committed txn ≡ true → IsTrue (runs told txn)
runs-committed told txn is = or_left (is_in told.committed txn) (is_in told.open_ones txn) is

pub runs-open : (told : Report) (txn : TxnId) → is_in told.open_ones txn ≡ true → IsTrue (runs told txn)
runs-open told txn is = or_right (is_in told.committed txn) (is_in told.open_ones txn) is

-- ---- the run

pub run-start : (catalog : Declared) (told : Report) (values : List (List (Case ℤ))) → AreAllValuesAfter catalog told [] values → IsRunTo catalog told [] values
run-start catalog told values after = record { after = after; within = λ other count passed. omega arith }

pub run-more : (catalog : Declared) (told : Report) (front : List TxnId) (txn : TxnId) (behind : List TxnId) → told.ordered ≡ front ++ txn ∷ behind → misplaced told ≡ None
    → (values new : List (List (Case ℤ))) → IsRunTo catalog told front values → AreAllValuesAfter catalog told (with_programs told.begun (front ++ txn ∷ [])) new
    → ((count : ℕ) → IsPassedAt catalog told (with_programs told.begun front) count → ⊥) → IsRunTo catalog told (front ++ txn ∷ []) new
run-more catalog told front txn behind split placed values new run after quiet = record {
  after = after;
  within = λ other count passed.
      let longer : length (with_programs told.begun (front ++ txn ∷ [])) ≡ length (with_programs told.begun front) + 1 =
      ap (λ (l : List Ordered). length l) (next-done catalog told front txn behind split has.program has.is)
      ∙ length-append (with_programs told.begun front) (record { txn = txn; program = has.program } ∷ []) in
      by other count passed (length (with_programs told.begun front) == length other) refl (run.within other count passed) longer;
}
  where
    has : HasRequest told txn
    has = placed-request told placed front txn behind split

    by : (other : List Ordered) (count : ℕ) (passed : IsPassedAt catalog told other count) (b : Bool) → (length (with_programs told.begun front) == length other) ≡ b
        → length (with_programs told.begun front) ≤ length other
        → length (with_programs told.begun (front ++ txn ∷ [])) ≡ length (with_programs told.begun front) + 1
        → length (with_programs told.begun (front ++ txn ∷ [])) ≤ length other
    by other count passed true is least longer =
        let same : with_programs told.begun front ≡ other =
        same-front (with_programs told.begun front) other (record { txn = txn; program = has.program } ∷ with_programs told.begun behind) (passed.entry ∷ passed.behind)
        (sym (order-is catalog told front txn behind split has.program has.is) ∙ passed.split) (eqb-true _ _ is) in
        absurd (quiet count (subst (λ (l : List Ordered). IsPassedAt catalog told l count) (sym same) passed))
    by other count passed false is least longer = grind (arith, is, least, longer)

-- A run to the end passes no limit.
pub run-end : (catalog : Declared) (told : Report) (values : List (List (Case ℤ))) → IsRunTo catalog told told.ordered values → (count : ℕ) → PassesLimit catalog told count → ⊥
run-end catalog told values run count passes =
    let least = run.within passes.done count passes.passed in
    let all = ap (λ (l : List Ordered). length l) passes.passed.split in
    let parts = length-append passes.done (passes.passed.entry ∷ passes.passed.behind) in
    omega (arith, least, all, parts)

-- The first limit that is passed is the one of the run.
pub run-limit : (catalog : Declared) (told : Report) (front : List TxnId) (values : List (List (Case ℤ))) (count : ℕ) → IsRunTo catalog told front values
    → IsPassedAt catalog told (with_programs told.begun front) count → PassesLimit catalog told count
run-limit catalog told front values count run passed = record {
  done = with_programs told.begun front;
  passed = passed;
  first = λ other more also. run.within other more also;
}

-- ---- what one transaction does to the run

no-request : (told : Report) (front : List TxnId) (txn : TxnId) (behind : List TxnId) → misplaced told ≡ None → told.ordered ≡ front ++ txn ∷ behind → request_of told.begun txn ≡ None → ⊥
no-request told front txn behind placed split none =
    let has = placed-request told placed front txn behind split in
    let is = has.is in
    cc

-- Without a request it wouldn't be in the order.
pub run-without : {X : Type 0} (told : Report) (front : List TxnId) (txn : TxnId) (behind : List TxnId) → misplaced told ≡ None → told.ordered ≡ front ++ txn ∷ behind
    → None ≡ request_of told.begun txn → X
run-without told front txn behind placed split none = absurd (no-request told front txn behind placed split (sym none))

module _ (catalog : Declared) (told : Report) (front : List TxnId) (txn : TxnId) (behind : List TxnId) (placed : misplaced told ≡ None) (split : told.ordered ≡ front ++ txn ∷ behind)
    (program : Program) (request : Some (record { txn = txn; program = program }) ≡ request_of told.begun txn) (values : List (List (Case ℤ))) (run : IsRunTo catalog told front values) where
  pub one-committed : (new : List (List (Case ℤ))) (writes : List Read) → AreWritten program values writes → is_in told.committed txn ≡ true → new ≡ put_all values writes
      → IsRunTo catalog told (front ++ txn ∷ []) new
  one-committed new writes is committed put =
      subst (λ (vs : List (List (Case ℤ))). IsRunTo catalog told (front ++ txn ∷ []) vs) (sym put)
      (let left = run-committed catalog told front txn behind split program (sym request) values run.after writes is committed in
      run-more catalog told front txn behind split placed values (put_all values writes) run left
      (within-runs catalog told front txn behind split program (sym request) values run.after writes (put_all values writes) is left))

  pub one-open : (new : List (List (Case ℤ))) (writes choices : List Read) → AreWritten program values writes → AreChoices txn values writes choices → is_in told.committed txn ≡ false
      → is_in told.open_ones txn ≡ true → new ≡ put_all values choices → IsRunTo catalog told (front ++ txn ∷ []) new
  one-open new writes choices is chosen uncommitted opened put =
      subst (λ (vs : List (List (Case ℤ))). IsRunTo catalog told (front ++ txn ∷ []) vs) (sym put)
      (let left = run-open catalog told front txn behind split program (sym request) values run.after writes choices is chosen uncommitted opened in
      run-more catalog told front txn behind split placed values (put_all values choices) run left
      (within-runs catalog told front txn behind split program (sym request) values run.after writes (put_all values choices) is left))

  pub one-idle : is_in told.committed txn ≡ false → is_in told.open_ones txn ≡ false → IsRunTo catalog told (front ++ txn ∷ []) values
  one-idle uncommitted closed =
      run-more catalog told front txn behind split placed values values run
      (run-idle catalog told front txn behind split program (sym request) values run.after uncommitted closed)
      (within-rests catalog told front txn behind split program (sym request) values run.after uncommitted closed)

  pub one-read : (limit : Option ℕ) → IsTrue (runs told txn) → IfSome limit (ReadsTooMuch program values) → IfSome limit (PassesLimit catalog told)
  one-read None running much = much
  one-read (Some count) running much =
      run-limit catalog told front values count run (passed-read catalog told front txn behind split program (sym request) values run.after count much running)

  pub one-choice : (limit : Option ℕ) (writes : List Read) → AreWritten program values writes
      → IfSome limit (λ count. Any (λ (write : Read). ChoiceNamesTooMany HELD_NAMES txn (get_or values write.item []) write.cases count) writes) → IfSome limit (PassesLimit catalog told)
  one-choice None writes is much = much
  one-choice (Some count) writes is any =
      absurd (choice-within catalog told front txn behind split program (sym request) values run.after writes is count any)

-- What is written and what is chosen has its place.
pub written-within : (program : Program) (values : List (List (Case ℤ))) (writes : List Read) → AreWritten program values writes → All (λ (write : Read). write.item < length values) writes
written-within program values writes is = All-from_members (λ (write : Read). write.item < length values) writes (λ write there. written-place program values writes is write there)

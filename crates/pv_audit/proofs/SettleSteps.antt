-- What an outcome that becomes known does to the first list at which two polyvalues differ.
use Rattle.std.proofs.Common.{◌≡◌, ⊎_elim, Bool, true, false, List, [], ◌∷◌, ◌++◌, refl, sym, ap, subst, ◌∙◌, map}
use Rattle.std.specs.Prelude.{ℤ, All, IsTrue}
use Rattle.std.specs.List.{Contains}
use Rattle.std.proofs.lemmas.Bool.{false≢true, false_from_ne_true}
use Rattle.std.proofs.lemmas.List.{append-nil, append_assoc}
use Rattle.std.proofs.lemmas.List.Elements.{All-head, All-nil, All-tail}
use Rattle.pv_audit.specs.Differences.{AreSameUnder, AreSettled, Leads}
use Rattle.pv_audit.specs.FirstFailures.{IsFirstFailure}
use Rattle.pv_audit.proofs.FirstLists.{first-alike, first-behind, first-in-front, first-mapped}
use Rattle.pv_base.specs.Assignment.{AreAscending, assignments, commits, with_outcome}
use Rattle.pv_base.specs.Polyvalue.{Case, IsCanonical, IsPolyvalue, IsSettled, names, value_at, with_outcomes}
use Rattle.pv_base.specs.declared.limits.TheConstants.{HELD_NAMES}
use Rattle.pv_base.specs.declared.literal.Literal.{Literal}
use Rattle.pv_base.specs.declared.txn.TxnId.{TxnId}
use Rattle.pv_base.proofs.AssignmentLemmas.{commits-with-alike}
use Rattle.pv_base.proofs.ContainsLemmas.{Contains-nil, Contains-cases}
use Rattle.pv_law_canonical.proofs.FilterLemmas.{aborted-already}
use Rattle.pv_law_polyvalues.proofs.AscendingLemmas.{All-from_members, ascending-first, ascending-tail}
use Rattle.pv_law_polyvalues.proofs.ExistenceLemmas.{own-outcome}
use Rattle.pv_law_polyvalues.proofs.PolyvalueLemmas.{depends-named, one-canonical, value_at-agree}
use Rattle.pv_law_polyvalues.proofs.TableLemmas.{assigned-listed}

-- Outcomes put in.

-- Where two assignments agree on a transaction, they agree on it after the same outcomes are put in both.
pub outcomes-alike : (literals : List Literal) (a b : List TxnId) (t : TxnId) → commits a t ≡ commits b t
    → commits (with_outcomes literals a) t ≡ commits (with_outcomes literals b) t
outcomes-alike [] a b t same = same
outcomes-alike (literal ∷ rest) a b t same =
    commits-with-alike literal.txn literal.commits (with_outcomes rest a) (with_outcomes rest b) t (outcomes-alike rest a b t same)

-- To put in the outcomes that an assignment has changes nothing.
pub outcomes-own : (literals : List Literal) (a : List TxnId) → All (λ (literal : Literal). commits a literal.txn ≡ literal.commits) literals → (t : TxnId)
    → commits (with_outcomes literals a) t ≡ commits a t
outcomes-own [] a own t = refl
outcomes-own (literal ∷ rest) a own t =
    let behind = outcomes-own rest a (All-tail (λ (l : Literal). commits a l.txn ≡ l.commits) literal rest own) in
    own-outcome literal.txn literal.commits (with_outcomes rest a)
    (behind literal.txn ∙ All-head (λ (l : Literal). commits a l.txn ≡ l.commits) literal rest own) t
    ∙ behind t

-- What is settled names nothing that it didn't name before.
pub settled-named : (literals : List Literal) (before after : List (Case ℤ)) → IsCanonical after → IsSettled literals before after
    → (t : TxnId) → IsTrue (names after t) → IsTrue (names before t)
settled-named literals before after canonical is =
    depends-named after (names before) canonical
    (λ a b agree. is.same a
    ∙ value_at-agree before (with_outcomes literals a) (with_outcomes literals b) (λ t named. outcomes-alike literals a b t (agree t named))
    ∙ sym (is.same b))

-- The value at an assignment that has the outcomes stays.
pub settled-own : (literals : List Literal) (before after : List (Case ℤ)) (a : List TxnId) → IsSettled literals before after
    → All (λ (literal : Literal). commits a literal.txn ≡ literal.commits) literals → value_at after a ≡ value_at before a
settled-own literals before after a is own =
    is.same a ∙ value_at-agree before (with_outcomes literals a) a (λ t named. outcomes-own literals a own t)

-- One outcome.

-- one outcome
abbrev pub one : TxnId → Bool → List Literal
one txn outcome = record { txn = txn; commits = outcome } ∷ []

module _ (t : TxnId) (ts : List TxnId) (up : AreAscending (t ∷ ts)) where
  aborted-value : (before after : List (Case ℤ)) → IsSettled (one t false) before after → (a : List TxnId) → Contains (assignments ts) a → value_at after a ≡ value_at before a
  aborted-value before after is a h =
      is.same a ∙ ap (value_at before) (aborted-already t a (λ u in-a. ascending-first t ts up u (assigned-listed ts a h u in-a)))

  module _ (first second : List (Case ℤ)) where
    -- Where they differ once the transaction is known to abort, it aborts in the first list at which they differ.
    aborts-first : (first-aborted second-aborted : List (Case ℤ)) (list : List TxnId) → IsSettled (one t false) first first-aborted → IsSettled (one t false) second second-aborted
        → IsFirstFailure (AreSameUnder first-aborted second-aborted) (assignments ts) list → IsFirstFailure (AreSameUnder first second) (assignments (t ∷ ts)) list
    aborts-first first-aborted second-aborted list is is-too found =
        first-in-front (assignments ts) (map (λ (a : List TxnId). t ∷ a) (assignments ts)) list
        (first-alike (assignments ts) list
        (λ a h same. sym (aborted-value first first-aborted is a h) ∙ same ∙ aborted-value second second-aborted is-too a h)
        (λ a h same. aborted-value first first-aborted is a h ∙ same ∙ sym (aborted-value second second-aborted is-too a h))
        found)

    -- Where they are one then, it commits in that list.
    commits-first : (aborted first-committed second-committed : List (Case ℤ)) (list : List TxnId) → IsSettled (one t false) first aborted → IsSettled (one t false) second aborted
        → IsSettled (one t true) first first-committed → IsSettled (one t true) second second-committed
        → IsFirstFailure (AreSameUnder first-committed second-committed) (assignments ts) list → IsFirstFailure (AreSameUnder first second) (assignments (t ∷ ts)) (t ∷ list)
    commits-first aborted first-committed second-committed list out out-too is is-too found =
        first-behind (assignments ts) (map (λ (a : List TxnId). t ∷ a) (assignments ts)) (t ∷ list)
        (All-from_members (AreSameUnder first second) (assignments ts) (λ a h. sym (aborted-value first aborted out a h) ∙ aborted-value second aborted out-too a h))
        (first-mapped (λ (a : List TxnId). t ∷ a) (assignments ts) list
        (first-alike (assignments ts) list
        (λ a h same. sym (is.same a) ∙ same ∙ is-too.same a)
        (λ a h same. is.same a ∙ same ∙ sym (is-too.same a))
        found))

-- Polyvalues that differ, by what they are once an outcome is known.

module _ (t : TxnId) (first second aborted : List (Case ℤ)) (out : IsSettled (one t false) first aborted) (out-too : IsSettled (one t false) second aborted) where
  same-by : (committed : List (Case ℤ)) → IsSettled (one t true) first committed → IsSettled (one t true) second committed → (a : List TxnId) (b : Bool) → commits a t ≡ b
      → value_at first a ≡ value_at second a
  same-by committed is is-too a true h =
      sym (value_at-agree first (with_outcome t true a) a (λ u named. own-outcome t true a h u))
      ∙ sym (is.same a) ∙ is-too.same a
      ∙ value_at-agree second (with_outcome t true a) a (λ u named. own-outcome t true a h u)
  same-by committed is is-too a false h =
      sym (value_at-agree first (with_outcome t false a) a (λ u named. own-outcome t false a h u))
      ∙ sym (out.same a) ∙ out-too.same a
      ∙ value_at-agree second (with_outcome t false a) a (λ u named. own-outcome t false a h u)

  -- Those that are one where the transaction aborts differ where it commits.
  differ-committed : (first-committed second-committed : List (Case ℤ)) → IsCanonical first → IsCanonical second → (first ≡ second → ⊥)
      → IsSettled (one t true) first first-committed → IsSettled (one t true) second second-committed → first-committed ≡ second-committed → ⊥
  differ-committed first-committed second-committed canonical canonical-too differ is is-too same =
      differ (one-canonical first second canonical canonical-too
      (λ a. same-by first-committed is (subst (IsSettled (one t true) second) (sym same) is-too) a (commits a t) refl))

-- Those that name nothing differ everywhere.
differ-at-last : (first second : List (Case ℤ)) → IsCanonical first → IsCanonical second → (first ≡ second → ⊥)
    → ((t : TxnId) → IsTrue (names first t) → ⊥) → ((t : TxnId) → IsTrue (names second t) → ⊥)
    → IsFirstFailure (AreSameUnder first second) (assignments []) []
differ-at-last first second canonical canonical-too differ none none-too = record {
  before = [];
  after = [];
  split = refl;
  hold = All-nil (AreSameUnder first second);
  fails = λ same. differ (one-canonical first second canonical canonical-too
      (λ a. value_at-agree first a [] (λ t named. absurd (none t named)) ∙ same ∙ value_at-agree second [] a (λ t named. absurd (none-too t named))));
}

-- Of the transactions that are left, the first isn't named once it is known.
names-left : (t : TxnId) (ts : List TxnId) (outcome : Bool) (before after : List (Case ℤ)) → IsCanonical after → IsSettled (one t outcome) before after
    → ((u : TxnId) → IsTrue (names before u) → Contains (t ∷ ts) u) → (u : TxnId) → IsTrue (names after u) → Contains ts u
names-left t ts outcome before after canonical is listed u named =
    ⊎_elim
    (λ same. absurd (false≢true (sym (All-head (λ (l : Literal). names after l.txn ≡ false) (record { txn = t; commits = outcome }) [] is.unnamed)
    ∙ ap (names after) same ∙ named)))
    (λ behind. behind)
    (Contains-cases t ts u (listed u (settled-named (one t outcome) before after canonical is u named)))

-- One that they don't name can be passed over.
names-passed : (t : TxnId) (ts : List TxnId) (cases : List (Case ℤ)) → names cases t ≡ false
    → ((u : TxnId) → IsTrue (names cases u) → Contains (t ∷ ts) u) → (u : TxnId) → IsTrue (names cases u) → Contains ts u
names-passed t ts cases unnamed listed u named =
    ⊎_elim (λ same. absurd (false≢true (sym unnamed ∙ ap (names cases) same ∙ named))) (λ behind. behind) (Contains-cases t ts u (listed u named))

-- The search for the first list.

pub leads-start : (first second : List (Case ℤ)) (txns named : List TxnId) → IsPolyvalue HELD_NAMES first → IsPolyvalue HELD_NAMES second → (first ≡ second → ⊥)
    → AreAscending txns → ((t : TxnId) → IsTrue (names first t) → Contains txns t) → ((t : TxnId) → IsTrue (names second t) → Contains txns t)
    → ((t : TxnId) → IsTrue (names first t) → Contains named t) → ((t : TxnId) → IsTrue (names second t) → Contains named t)
    → Leads first second txns named first second txns []
leads-start first second txns named is is-too differ up left left-too listed listed-too = record {
  polyvalue = is;
  polyvalue_too = is-too;
  differ = differ;
  ascending = up;
  names_left = left;
  names_left_too = left-too;
  names_listed = listed;
  names_listed_too = listed-too;
  leads = λ more found. found;
}

module _ (first second : List (Case ℤ)) (txns named : List TxnId) (now now-too : List (Case ℤ)) (t : TxnId) (left list : List TxnId)
    (so-far : Leads first second txns named now now-too (t ∷ left) list) where
  pub leads-passed : (Contains named t → ⊥) → Leads first second txns named now now-too left list
  leads-passed unlisted = record {
    polyvalue = so-far.polyvalue;
    polyvalue_too = so-far.polyvalue_too;
    differ = so-far.differ;
    ascending = ascending-tail t left so-far.ascending;
    names_left = names-passed t left now (false_from_ne_true (names now t) (λ is. unlisted (so-far.names_listed t is))) so-far.names_left;
    names_left_too = names-passed t left now-too (false_from_ne_true (names now-too t) (λ is. unlisted (so-far.names_listed_too t is))) so-far.names_left_too;
    names_listed = so-far.names_listed;
    names_listed_too = so-far.names_listed_too;
    leads = λ more found. so-far.leads more (first-in-front (assignments left) (map (λ (a : List TxnId). t ∷ a) (assignments left)) more found);
  }

  module _ (next next-too : List (Case ℤ)) where
    pub leads-aborted : AreSettled t false now now-too next next-too → (next ≡ next-too → ⊥) → Leads first second txns named next next-too left list
    leads-aborted is differ = record {
      polyvalue = is.polyvalue;
      polyvalue_too = is.polyvalue_too;
      differ = differ;
      ascending = ascending-tail t left so-far.ascending;
      names_left = names-left t left false now next is.polyvalue.canonical is.first_is so-far.names_left;
      names_left_too = names-left t left false now-too next-too is.polyvalue_too.canonical is.second_is so-far.names_left_too;
      names_listed = λ u there. so-far.names_listed u (settled-named (one t false) now next is.polyvalue.canonical is.first_is u there);
      names_listed_too = λ u there. so-far.names_listed_too u (settled-named (one t false) now-too next-too is.polyvalue_too.canonical is.second_is u there);
      leads = λ more found. so-far.leads more (aborts-first t left so-far.ascending now now-too next next-too more is.first_is is.second_is found);
    }

    pub leads-committed : (aborted aborted-too : List (Case ℤ)) (longer : List TxnId) → AreSettled t false now now-too aborted aborted-too → aborted ≡ aborted-too
        → AreSettled t true now now-too next next-too → longer ≡ list ++ t ∷ [] → Leads first second txns named next next-too left longer
    leads-committed aborted aborted-too longer out same is longer-is =
        let out-too : IsSettled (one t false) now-too aborted = subst (IsSettled (one t false) now-too) (sym same) out.second_is in
        record {
          polyvalue = is.polyvalue;
          polyvalue_too = is.polyvalue_too;
          differ = differ-committed t now now-too aborted out.first_is out-too next next-too so-far.polyvalue.canonical so-far.polyvalue_too.canonical so-far.differ
              is.first_is is.second_is;
          ascending = ascending-tail t left so-far.ascending;
          names_left = names-left t left true now next is.polyvalue.canonical is.first_is so-far.names_left;
          names_left_too = names-left t left true now-too next-too is.polyvalue_too.canonical is.second_is so-far.names_left_too;
          names_listed = λ u there. so-far.names_listed u (settled-named (one t true) now next is.polyvalue.canonical is.first_is u there);
          names_listed_too = λ u there. so-far.names_listed_too u (settled-named (one t true) now-too next-too is.polyvalue_too.canonical is.second_is u there);
          leads = λ more found.
              subst (IsFirstFailure (AreSameUnder first second) (assignments txns))
              (sym (ap (λ (l : List TxnId). l ++ more) longer-is ∙ append_assoc list (t ∷ []) more))
              (so-far.leads (t ∷ more) (commits-first t left so-far.ascending now now-too aborted next next-too more out.first_is out-too is.first_is is.second_is found));
        }

pub leads-end : (first second : List (Case ℤ)) (txns named : List TxnId) (now now-too : List (Case ℤ)) (list : List TxnId)
    → Leads first second txns named now now-too [] list → IsFirstFailure (AreSameUnder first second) (assignments txns) list
leads-end first second txns named now now-too list is =
    subst (IsFirstFailure (AreSameUnder first second) (assignments txns)) (append-nil list)
    (is.leads [] (differ-at-last now now-too is.polyvalue.canonical is.polyvalue_too.canonical is.differ
    (λ t there. Contains-nil t (is.names_left t there)) (λ t there. Contains-nil t (is.names_left_too t there))))

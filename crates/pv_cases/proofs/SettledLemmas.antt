-- Values once some outcomes are known: of cases that name nothing, of those that name none of the first transaction, and of tests.
use Rattle.std.proofs.Common.{◌≡◌, ◌⊎◌, ⊎_elim, Bool, true, false, List, [], ◌∷◌, ◌++◌, if◌then◌else◌, IsTrue, refl, sym, ap, subst, ◌∙◌}
use Rattle.std.specs.List.{All, Contains}
use Rattle.std.proofs.lemmas.Bool.{false≢true, false_from_ne_true}
use Rattle.std.proofs.lemmas.List.Elements.{All-nil, All-cons, All-contains}
use Rattle.pv_base.specs.declared.literal.Literal.{Literal}
use Rattle.pv_base.specs.declared.txn.TxnId.{TxnId}
use Rattle.pv_base.specs.Assignment.{precedes, commits, with_outcome}
use Rattle.pv_base.specs.Polyvalue.{Case, value_at, names, under, with_outcomes, AreOutcomes, IsChoice, IsSettled, NamesOnlyAfter}
use Rattle.pv_law_polyvalues.proofs.AscendingLemmas.{All-from_members}
use Rattle.pv_base.proofs.OrderLemmas.{pairs-first, pairs-tail}
use Rattle.pv_base.proofs.AssignmentLemmas.{commits-with-other, commits-with-same, precedes-irrefl, precedes-other', precedes-trans}
use Rattle.pv_base.proofs.ContainsLemmas.{Contains-first, Contains-behind}
use Rattle.pv_law_polyvalues.proofs.PolyvalueLemmas.{behind-unnamed, unnamed-free, value_at-agree, value_at-tested}

-- The outcomes of ascending literals without the first ..
pub outcomes-rest : (literal : Literal) (rest : List Literal) → AreOutcomes (literal ∷ rest) → AreOutcomes rest
outcomes-rest literal rest are = pairs-tail (λ (l m : Literal). IsTrue (precedes l.txn m.txn)) literal rest are

-- .. whose transaction precedes theirs. So what precedes it precedes all.
pub before-outcomes : (t : TxnId) (literal : Literal) (rest : List Literal) → AreOutcomes (literal ∷ rest) → IsTrue (precedes t literal.txn)
    → All (λ l. IsTrue (precedes t l.txn)) (literal ∷ rest)
before-outcomes t literal rest are before =
    All-cons (λ (l : Literal). IsTrue (precedes t l.txn)) literal rest before
    (All-from_members (λ (l : Literal). IsTrue (precedes t l.txn)) rest
    (λ l h. precedes-trans t literal.txn l.txn before (pairs-first (λ (l m : Literal). IsTrue (precedes l.txn m.txn)) literal rest are l h)))

-- A transaction that precedes those of the literals keeps its outcome.
commits-before : (t : TxnId) (literals : List Literal) → ((l : Literal) → Contains literals l → IsTrue (precedes t l.txn)) → (a : List TxnId)
    → commits (with_outcomes literals a) t ≡ commits a t
commits-before t [] before a = refl
commits-before t (literal ∷ literals) before a =
    commits-with-other literal.txn literal.commits (with_outcomes literals a) t (precedes-other' t literal.txn (before literal (Contains-first literal literals)))
    ∙ commits-before t literals (λ l h. before l (Contains-behind literal literals l h)) a

module _ {V : Type 0} where
  -- What the cases name, the others name.
  abbrev pub NamesKept : List (Case V) → List (Case V) → Type 0
  NamesKept cases others = (u : TxnId) → IsTrue (names cases u) → IsTrue (names others u)

  pub kept-unnamed : (cases others : List (Case V)) → NamesKept cases others → (t : TxnId) → names others t ≡ false → names cases t ≡ false
  kept-unnamed cases others kept t unnamed = false_from_ne_true (names cases t) (λ named. false≢true (sym unnamed ∙ kept t named))

  pub settled-by-none : (cases : List (Case V)) → IsSettled [] cases cases
  settled-by-none cases = record { same = λ a. refl; unnamed = All-nil (λ (l : Literal). names cases l.txn ≡ false) }

  -- Cases that name nothing are settled as they are.
  pub nothing-settled : (literals : List Literal) (cases : List (Case V)) → ((u : TxnId) → names cases u ≡ false) → IsSettled literals cases cases
  nothing-settled literals cases nothing = record {
    same = λ a. value_at-agree cases a (with_outcomes literals a) (λ u named. absurd (false≢true (sym (nothing u) ∙ named)));
    unnamed = All-from_members (λ (l : Literal). names cases l.txn ≡ false) literals (λ l h. nothing l.txn);
  }

  -- An outcome of a transaction that isn't named changes nothing.
  pub unnamed-settled : (literal : Literal) (rest : List Literal) (before after : List (Case V)) → names before literal.txn ≡ false → NamesKept after before
      → IsSettled rest before after → IsSettled (literal ∷ rest) before after
  unnamed-settled literal rest before after unnamed kept is = record {
    same = λ a. is.same a ∙ sym (unnamed-free literal.txn before unnamed literal.commits (with_outcomes rest a));
    unnamed = All-cons (λ (l : Literal). names after l.txn ≡ false) literal rest (kept-unnamed after before kept literal.txn unnamed) is.unnamed;
  }

  -- The outcome of the first transaction takes one side of its test.
  pub side-settled : (literal : Literal) (rest : List Literal) (aborted committed after : List (Case V))
      → NamesOnlyAfter literal.txn (if literal.commits then committed else aborted) → NamesKept after (if literal.commits then committed else aborted)
      → IsSettled rest (if literal.commits then committed else aborted) after
      → IsSettled (literal ∷ rest) (under literal.txn false aborted ++ under literal.txn true committed) after
  side-settled literal rest aborted committed after later kept is =
      let side = if literal.commits then committed else aborted in
      let unnamed = behind-unnamed literal.txn side later in record {
        same = λ a. let b = with_outcomes rest a in
            is.same a
            ∙ sym (unnamed-free literal.txn side unnamed literal.commits b)
            ∙ ap (λ (o : Bool). value_at (if o then committed else aborted) (with_outcome literal.txn literal.commits b)) (sym (commits-with-same literal.txn literal.commits b))
            ∙ sym (value_at-tested literal.txn aborted committed (with_outcome literal.txn literal.commits b));
        unnamed = All-cons (λ (l : Literal). names after l.txn ≡ false) literal rest (kept-unnamed after side kept literal.txn unnamed) is.unnamed;
      }

  settled-sides : (b : Bool) (a c : List TxnId) (aborted committed aborted' committed' : List (Case V)) → value_at aborted' a ≡ value_at aborted c
      → value_at committed' a ≡ value_at committed c → value_at (if b then committed' else aborted') a ≡ value_at (if b then committed else aborted) c
  settled-sides true a c aborted committed aborted' committed' first second = second
  settled-sides false a c aborted committed aborted' committed' first second = first

  -- Outcomes of later transactions are put in on both sides of a test.
  pub test-settled : (t : TxnId) (literals : List Literal) (aborted committed aborted' committed' after : List (Case V)) → All (λ l. IsTrue (precedes t l.txn)) literals
      → IsSettled literals aborted aborted' → IsSettled literals committed committed' → IsChoice t aborted' committed' after
      → ((u : TxnId) → IsTrue (names after u) → (t ≡ u) ⊎ (IsTrue (names aborted' u) ⊎ IsTrue (names committed' u)))
      → IsSettled literals (under t false aborted ++ under t true committed) after
  test-settled t literals aborted committed aborted' committed' after before first second choice all =
      let early : (l : Literal) → Contains literals l → IsTrue (precedes t l.txn) = λ l h. All-contains (λ (l : Literal). IsTrue (precedes t l.txn)) literals l before h in record {
        same = λ a. let b = with_outcomes literals a in
            choice a
            ∙ settled-sides (commits a t) a b aborted committed aborted' committed' (first.same a) (second.same a)
            ∙ ap (λ (o : Bool). value_at (if o then committed else aborted) b) (sym (commits-before t literals early a))
            ∙ sym (value_at-tested t aborted committed b);
        unnamed = All-from_members (λ (l : Literal). names after l.txn ≡ false) literals (λ l h.
            false_from_ne_true (names after l.txn) (λ named. ⊎_elim
            (λ same. precedes-irrefl t (subst (λ (u : TxnId). IsTrue (precedes t u)) (sym same) (early l h)))
            (⊎_elim
            (λ here. false≢true (sym (All-contains (λ (l : Literal). names aborted' l.txn ≡ false) literals l first.unnamed h) ∙ here))
            (λ here. false≢true (sym (All-contains (λ (l : Literal). names committed' l.txn ≡ false) literals l second.unnamed h) ∙ here)))
            (all l.txn named)));
      }

-- Cases that are read into nodes: a leaf, and a test whose sides were read one after the other.
use Rattle.std.proofs.Common.{◌≡◌, ℕ, true, false, List, [], ◌∷◌, ◌++◌, length, sym, ap, ap₂, subst, ◌∙◌, append_assoc, arith}
use Rattle.std.proofs.lemmas.List.{append-nil}
use Rattle.pv_base.specs.declared.literal.Literal.{Literal}
use Rattle.pv_base.specs.declared.txn.TxnId.{TxnId}
use Rattle.pv_base.specs.Polyvalue.{Case, under, IsCanonical, sure, tested}
use Rattle.pv_cases.specs.CasesAt.{under_all}
use Rattle.pv_cases.proofs.CasesAtLemmas.{behind-none, behind-tested}
use Rattle.pv_tree.specs.Meanings.{cases_at, IsAt, IsRead, Keeps}
use Rattle.pv_tree.specs.Nodes.{AreBelow}

module _ {V : Type 0} where
  -- A case whose literals are those of the way is a leaf.
  pub read-leaf : (way : List Literal) (case : Case V) (cases rest : List (Case V)) (meanings : List (List (Case V))) (number : ℕ) → cases ≡ case ∷ rest → case.when ≡ way
      → IsAt meanings number (record { when = []; value = case.value } ∷ []) → IsRead way cases meanings number rest
  read-leaf way case cases rest meanings number is same at =
      let alone : List (Case V) = record { when = []; value = case.value } ∷ [] in
      record {
        there = at.there;
        canonical = subst IsCanonical (sym at.is) (sure case.value);
        is = is
            ∙ (λ i. record { when = (same ∙ sym (append-nil way)) i; value = case.value } ∷ rest)
            ∙ ap (λ (c : List (Case V)). under_all way c ++ rest) (sym at.is);
      }

  -- What was read is what it was once there are more nodes.
  pub read-kept : (way : List Literal) (cases rest : List (Case V)) (old new : List (List (Case V))) (number : ℕ) → Keeps old new → IsRead way cases old number rest
      → IsRead way cases new number rest
  read-kept way cases rest old new number keeps is =
      let same = sym (keeps.kept number is.there) in record {
        there = omega (arith, is.there, keeps.longer);
        canonical = subst IsCanonical same is.canonical;
        is = subst (λ (c : List (Case V)). cases ≡ under_all way c ++ rest) same is.is;
      }

  joined : (way first second : List Literal) (txn : TxnId) (cases middle rest aborted committed : List (Case V)) → first ≡ way ++ record { txn = txn; commits = false } ∷ []
      → second ≡ way ++ record { txn = txn; commits = true } ∷ [] → cases ≡ under_all first aborted ++ middle → middle ≡ under_all second committed ++ rest
      → cases ≡ under_all way (under txn false aborted ++ under txn true committed) ++ rest
  joined way first second txn cases middle rest aborted committed is-first is-second front back =
      front
      ∙ ap₂ (λ (w : List Literal) (m : List (Case V)). under_all w aborted ++ m) is-first (back ∙ ap (λ (w : List Literal). under_all w committed ++ rest) is-second)
      ∙ sym (append_assoc (under_all (way ++ record { txn = txn; commits = false } ∷ []) aborted) (under_all (way ++ record { txn = txn; commits = true } ∷ []) committed) rest)
      ∙ ap (λ (c : List (Case V)). c ++ rest) (sym (behind-tested way txn aborted committed))

  -- Both sides of a test were read, and the test is made.
  pub read-test : (way first second : List Literal) (txn : TxnId) (cases middle rest : List (Case V)) (old sides new : List (List (Case V))) (aborted committed number : ℕ)
      → first ≡ way ++ record { txn = txn; commits = false } ∷ [] → second ≡ way ++ record { txn = txn; commits = true } ∷ []
      → IsRead first cases old aborted middle → Keeps old sides → IsRead second middle sides committed rest → AreBelow sides (length sides) txn aborted committed
      → IsAt new number (under txn false (cases_at sides aborted) ++ under txn true (cases_at sides committed)) → IsRead way cases new number rest
  read-test way first second txn cases middle rest old sides new aborted committed number is-first is-second front keeps back below at =
      let front = read-kept first cases middle old sides aborted keeps front in
      let s = below.sides in
      record {
        there = at.there;
        canonical = subst IsCanonical (sym at.is)
            (tested txn (cases_at sides aborted) (cases_at sides committed) s.aborted_canonical s.committed_canonical s.aborted_after s.committed_after s.differ);
        is = joined way first second txn cases middle rest (cases_at sides aborted) (cases_at sides committed) is-first is-second front.is back.is
            ∙ ap (λ (c : List (Case V)). under_all way c ++ rest) (sym at.is);
      }

  -- Where nothing is in front and nothing is left, the cases are those of the node.
  pub read-whole : (way : List Literal) (cases rest : List (Case V)) (meanings : List (List (Case V))) (number : ℕ) → way ≡ [] → rest ≡ [] → IsRead way cases meanings number rest
      → cases_at meanings number ≡ cases
  read-whole way cases rest meanings number none end is =
      sym (
      is.is
      ∙ ap₂ (λ (w : List Literal) (r : List (Case V)). under_all w (cases_at meanings number) ++ r) none end
      ∙ append-nil (under_all [] (cases_at meanings number))
      ∙ behind-none (cases_at meanings number)
      )

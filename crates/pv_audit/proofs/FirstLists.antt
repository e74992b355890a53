-- The first list of which a claim is false: of lists joined, of lists with one more transaction, for a claim that is as good, and that there is one alone.
use Rattle.std.proofs.Common.{◌≡◌, List, [], ◌∷◌, ◌++◌, sym, ap, subst, ◌∙◌, map}
use Rattle.std.specs.Prelude.{All}
use Rattle.std.specs.List.{Contains}
use Rattle.std.proofs.lemmas.List.{append_assoc, map-append}
use Rattle.std.proofs.lemmas.List.Elements.{All-append, All-contains, All-head, All-map, All-tail, Contains-append_left, Contains-append_right}
use Rattle.pv_audit.specs.FirstFailures.{IsFirstFailure}
use Rattle.pv_base.specs.declared.txn.TxnId.{TxnId}
use Rattle.pv_base.proofs.Basics.{heads, tails}
use Rattle.pv_base.proofs.ContainsLemmas.{Contains-first}
use Rattle.pv_law_polyvalues.proofs.AscendingLemmas.{All-from_members}

module _ {P : List TxnId → Type 0} where
  -- It is the first one too where more lists stand behind.
  pub first-in-front : (xs ys : List (List TxnId)) (list : List TxnId) → IsFirstFailure P xs list → IsFirstFailure P (xs ++ ys) list
  first-in-front xs ys list is = record {
    before = is.before;
    after = is.after ++ ys;
    split = ap (λ (lists : List (List TxnId)). lists ++ ys) is.split ∙ append_assoc is.before (list ∷ is.after) ys;
    hold = is.hold;
    fails = is.fails;
  }

  -- It is the first one too behind lists of which the claim is true.
  pub first-behind : (xs ys : List (List TxnId)) (list : List TxnId) → All P xs → IsFirstFailure P ys list → IsFirstFailure P (xs ++ ys) list
  first-behind xs ys list hold is = record {
    before = xs ++ is.before;
    after = is.after;
    split = ap (λ (lists : List (List TxnId)). xs ++ lists) is.split ∙ sym (append_assoc xs is.before (list ∷ is.after));
    hold = All-append P xs is.before hold is.hold;
    fails = is.fails;
  }

  -- Of lists that are made of others the first one is made of the first.
  pub first-mapped : (f : List TxnId → List TxnId) (xs : List (List TxnId)) (list : List TxnId) → IsFirstFailure (λ a. P (f a)) xs list → IsFirstFailure P (map f xs) (f list)
  first-mapped f xs list is = record {
    before = map f is.before;
    after = map f is.after;
    split = ap (map f) is.split ∙ map-append f is.before (list ∷ is.after);
    hold = All-map P f is.before is.hold;
    fails = is.fails;
  }

  -- It is one of the lists.
  pub first-listed : (xs : List (List TxnId)) (list : List TxnId) → IsFirstFailure P xs list → Contains xs list
  first-listed xs list is =
      subst (λ (lists : List (List TxnId)). Contains lists list) (sym is.split)
      (Contains-append_right is.before (list ∷ is.after) list (Contains-first list is.after))

-- A claim that is as good of each of the lists has the same first one.
pub first-alike : {P Q : List TxnId → Type 0} (xs : List (List TxnId)) (list : List TxnId) → ((a : List TxnId) → Contains xs a → P a → Q a)
    → ((a : List TxnId) → Contains xs a → Q a → P a) → IsFirstFailure P xs list → IsFirstFailure Q xs list
first-alike {P} {Q} xs list there back is =
    let listed = λ (a : List TxnId) (h : Contains (is.before ++ list ∷ is.after) a). subst (λ (lists : List (List TxnId)). Contains lists a) (sym is.split) h in
    record {
      before = is.before;
      after = is.after;
      split = is.split;
      hold = All-from_members Q is.before
          (λ a h. there a (listed a (Contains-append_left is.before (list ∷ is.after) a h)) (All-contains P is.before a is.hold h));
      fails = λ claim. is.fails (back list (first-listed xs list is) claim);
    }

-- There is one first list alone.

module _ (P : List TxnId → Type 0) where
  none-before : (front front' after after' : List (List TxnId)) (list other : List TxnId) → front ++ list ∷ after ≡ front' ++ other ∷ after'
      → All P front → All P front' → (P list → ⊥) → (P other → ⊥) → list ≡ other
  none-before [] [] after after' list other same hold hold' fails fails' = heads same
  none-before [] (a ∷ front') after after' list other same hold hold' fails fails' =
      absurd (fails (subst P (sym (heads same)) (All-head P a front' hold')))
  none-before (a ∷ front) [] after after' list other same hold hold' fails fails' =
      absurd (fails' (subst P (heads same) (All-head P a front hold)))
  none-before (a ∷ front) (b ∷ front') after after' list other same hold hold' fails fails' =
      none-before front front' after after' list other (tails same) (All-tail P a front hold) (All-tail P b front' hold') fails fails'

  pub one-first : (lists : List (List TxnId)) (list other : List TxnId) → IsFirstFailure P lists list → IsFirstFailure P lists other → list ≡ other
  one-first lists list other is is-too =
      none-before is.before is-too.before is.after is-too.after list other (sym is.split ∙ is-too.split) is.hold is-too.hold is.fails is-too.fails

  -- Where a list is the first one, not all are as claimed.
  pub first-not-all : (lists : List (List TxnId)) (list : List TxnId) → IsFirstFailure P lists list → ((a : List TxnId) → Contains lists a → P a) → ⊥
  first-not-all lists list is all = is.fails (all list (first-listed lists list is))

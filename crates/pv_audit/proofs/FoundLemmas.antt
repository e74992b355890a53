-- The first element that passes a test: in lists joined, and in a list that is gone through.
use Rattle.std.proofs.Common.{◌≡◌, ◌<◌, ◌≤◌, ◌+◌, ℕ, Bool, true, false, Option, Some, None, List, [], ◌∷◌, ◌++◌, cond, drop, get_or, length, refl, ap, ◌∙◌}
use Rattle.std.specs.List.{find}
use Rattle.std.proofs.lemmas.List.{at_drop_all, at_drop_more}
use Rattle.pv_audit.specs.Reports.{Report, is_misplaced, is_stray, misplaced, or_else}
use Rattle.pv_base.specs.declared.txn.TxnId.{TxnId}

pub find-append : (p : TxnId → Bool) (xs ys : List TxnId) → find p (xs ++ ys) ≡ or_else (find p xs) (find p ys)
find-append p [] ys = refl
find-append p (x ∷ xs) ys = go (p x) (find-append p xs ys)
  where
    go : (b : Bool) → find p (xs ++ ys) ≡ or_else (find p xs) (find p ys) → cond b (Some x) (find p (xs ++ ys)) ≡ or_else (cond b (Some x) (find p xs)) (find p ys)
    go true later = refl
    go false later = later

-- Where the next one passes, it is the first.
pub found-here : (p : TxnId → Bool) (txns : List TxnId) (i : ℕ) (d : TxnId) → i < length txns → p (get_or txns i d) ≡ true → find p (drop i txns) ≡ Some (get_or txns i d)
found-here p txns i d within passes =
    at_drop_more (λ (left : List TxnId). find p left) txns i d within
    ∙ ap (λ (b : Bool). cond b (Some (get_or txns i d)) (find p (drop (i + 1) txns))) passes

-- Where it doesn't, the first is behind it.
pub found-behind : (p : TxnId → Bool) (txns : List TxnId) (i : ℕ) (d : TxnId) → i < length txns → p (get_or txns i d) ≡ false → find p (drop i txns) ≡ find p (drop (i + 1) txns)
found-behind p txns i d within fails =
    at_drop_more (λ (left : List TxnId). find p left) txns i d within
    ∙ ap (λ (b : Bool). cond b (Some (get_or txns i d)) (find p (drop (i + 1) txns))) fails

-- At the end none does.
pub found-none : (p : TxnId → Bool) (txns : List TxnId) (i : ℕ) → length txns ≤ i → find p (drop i txns) ≡ None
found-none p txns i past = at_drop_all (λ (left : List TxnId). find p left) txns i past

-- what stands first in one list or else in another, by what stands in each
pub else-front : (first second : Option TxnId) (txn : TxnId) → first ≡ Some txn → or_else first second ≡ Some txn
else-front first second txn is = ap (λ (o : Option TxnId). or_else o second) is

pub else-behind : (first second : Option TxnId) → first ≡ None → or_else first second ≡ second
else-behind first second none = ap (λ (o : Option TxnId). or_else o second) none

-- Where none of the order is misplaced, the first that is astray is among the committed or else among the open ones.
pub placed-is : (told : Report) → find (is_misplaced told) told.ordered ≡ None → misplaced told ≡ or_else (find (is_stray told) told.committed) (find (is_stray told) told.open_ones)
placed-is told none =
    else-behind (find (is_misplaced told) told.ordered) (find (is_stray told) (told.committed ++ told.open_ones)) none
    ∙ find-append (is_stray told) told.committed told.open_ones

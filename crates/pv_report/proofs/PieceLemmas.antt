-- Pieces that are put into a buffer, one behind another.
use Rattle.std.proofs.Common.{◌≡◌, ℕ, List, ◌++◌, codes, ap, ◌∙◌, append_assoc}

-- One piece is put behind another.
pub put_behind : (before between text x y : List ℕ) → between ≡ before ++ x → text ≡ between ++ y → text ≡ before ++ (x ++ y)
put_behind before between text x y first second = second ∙ ap (λ (l : List ℕ). l ++ y) first ∙ append_assoc before x y

-- A cause is put behind `refuse T `.
pub put_cause : (before between text txn cause : List ℕ) → between ≡ before ++ (codes "refuse " ++ (txn ++ codes " ")) → text ≡ between ++ cause
    → text ≡ before ++ (codes "refuse " ++ (txn ++ (codes " " ++ cause)))
put_cause before between text txn cause first second =
    put_behind before between text (codes "refuse " ++ (txn ++ codes " ")) cause first second
    ∙ ap (λ (l : List ℕ). before ++ (codes "refuse " ++ l)) (append_assoc txn (codes " ") cause)

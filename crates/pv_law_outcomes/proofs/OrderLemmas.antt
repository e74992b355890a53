-- The order with one more place, and lists that are cut in two.
use Rattle.std.proofs.Common.{◌≡◌, ◌⊎◌, ⊎_elim, List, [], ◌∷◌, ◌++◌, inl, inr, refl, sym, ap, subst, ◌∙◌}
use Rattle.std.specs.List.{Contains}
use Rattle.pv_base.proofs.Basics.{heads, tails}
use Rattle.pv_law_outcomes.specs.Coherent.{AreOnce}
use Rattle.pv_protocol.specs.State.{Placed}

-- nothing has no end
pub no-end : {X : Type 0} (x : X) (xs after : List X) → [] ≡ xs ++ x ∷ after → ⊥
no-end x [] after is = cc
no-end x (y ∷ xs) after is = cc

-- A list with one more at its end that is cut in two is cut at its end, or before it.
pub cut-either : {X : Type 0} (xs : List X) (x : X) (before : List X) (y : X) (after : List X) → xs ++ x ∷ [] ≡ before ++ y ∷ after
    → ((before ≡ xs) × (x ≡ y)) ⊎ ((rest : List X) × (xs ≡ before ++ y ∷ rest))
cut-either [] x [] y after is = inl (refl, heads is)
cut-either [] x (b ∷ before) y after is = absurd (no-end y before after (tails is))
cut-either (z ∷ xs) x [] y after is = inr (xs, ap (λ h. h ∷ xs) (heads is))
cut-either (z ∷ xs) x (b ∷ before) y after is =
    ⊎_elim
    (λ here. inl (ap (λ h. h ∷ before) (sym (heads is)) ∙ ap (λ t. z ∷ t) here.0, here.1))
    (λ there. inr (there.0, ap (λ h. h ∷ xs) (heads is) ∙ ap (λ t. b ∷ t) there.1))
    (cut-either xs x before y after (tails is))

pub once-more : (order : List Placed) (placed : Placed) → AreOnce order → ((other : Placed) → Contains order other → other.txn ≡ placed.txn → ⊥)
    → AreOnce (order ++ placed ∷ [])
once-more order placed once new before after place other is h same =
    ⊎_elim
    (λ last. new other (subst (λ all. Contains all other) last.0 h) (same ∙ sym (ap (λ (p : Placed). p.txn) last.1)))
    (λ inner. once before inner.0 place other inner.1 h same)
    (cut-either order placed before place after is)

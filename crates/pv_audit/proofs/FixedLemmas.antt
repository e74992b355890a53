-- Lines of a fixed number of words.
use Rattle.std.proofs.Common.{◌≡◌, ℕ, ◌<◌, ◌≤◌, List, [], ◌∷◌, length, get_or, Bor, refl, arith}
use Rattle.pv_script.specs.LineFaults.{texts}

pub texts-two : (args : List (Bor (List ℕ))) (d e : Bor (List ℕ)) → 2 ≤ length args → length args < 3 → texts args ≡ (get_or args 0 d).now ∷ (get_or args 1 e).now ∷ []
texts-two [] d e some few = absurd (omega arith)
texts-two (a ∷ []) d e some few = absurd (omega arith)
texts-two (a ∷ b ∷ []) d e some few = refl
texts-two (a ∷ b ∷ c ∷ args) d e some few = absurd (omega arith)

pub texts-four : (args : List (Bor (List ℕ))) (d e f g : Bor (List ℕ)) → 4 ≤ length args → length args < 5
    → texts args ≡ (get_or args 0 d).now ∷ (get_or args 1 e).now ∷ (get_or args 2 f).now ∷ (get_or args 3 g).now ∷ []
texts-four [] d e f g some few = absurd (omega arith)
texts-four (a ∷ []) d e f g some few = absurd (omega arith)
texts-four (a ∷ b ∷ []) d e f g some few = absurd (omega arith)
texts-four (a ∷ b ∷ c ∷ []) d e f g some few = absurd (omega arith)
texts-four (a ∷ b ∷ c ∷ x ∷ []) d e f g some few = refl
texts-four (a ∷ b ∷ c ∷ x ∷ more ∷ args) d e f g some few = absurd (omega arith)

-- There are as many words as there are texts.
pub same-length : (args : List (Bor (List ℕ))) (words : List (List ℕ)) → texts args ≡ words → length args ≡ length words
same-length [] [] is = refl
same-length [] (w ∷ words) is = absurd (let never : ⊥ = cc in never)
same-length (a ∷ args) [] is = absurd (let never : ⊥ = cc in never)
same-length (a ∷ args) (w ∷ words) is = let rest = same-length args words (let tail : texts args ≡ words = cc in tail) in omega (arith, rest)

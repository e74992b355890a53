-- Words behind a first one.
use Rattle.std.proofs.Common.{◌≡◌, ℕ, List, [], ◌∷◌, Bor, length, refl, sym, ap, ◌∙◌, arith}
use Rattle.pv_script.specs.LineFaults.{texts}

-- the words behind the first
pub behind : {X : Type 0} {x y : X} {xs ys : List X} → x ∷ xs ≡ y ∷ ys → xs ≡ ys
behind same = cc

-- Where there are words, they aren't none.
pub some-words : (words : List (Bor (List ℕ))) (word : List ℕ) (rest : List (List ℕ)) → words ≡ [] → texts words ≡ word ∷ rest → ⊥
some-words words word rest none are = let never : [] ≡ word ∷ rest = ap texts (sym none) ∙ are in cc

-- No words have no texts, and no texts are of no words.
pub no-texts : (words : List (Bor (List ℕ))) → texts words ≡ [] → length words ≡ 0
no-texts [] none = refl
no-texts (w ∷ words) none = absurd (let never : ⊥ = cc in never)

pub none-texts : (words : List (Bor (List ℕ))) → length words ≡ 0 → texts words ≡ []
none-texts [] none = refl
none-texts (w ∷ words) none = absurd (omega (arith, none))

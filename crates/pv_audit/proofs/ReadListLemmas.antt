-- Lists of words that are read one by one.
use Rattle.std.proofs.Common.{◌≡◌, ◌⊎◌, ⊎_elim, inl, inr, ℕ, zero, suc, ◌+◌, ◌<◌, List, [], ◌∷◌, ◌++◌, length, get_or, map, take, drop, Bor, ap, subst, ◌∙◌, sym, refl, arith, drop-cons}
use Rattle.std.specs.List.{All, Contains}
use Rattle.std.proofs.lemmas.List.{take_more}
use Rattle.std.proofs.lemmas.List.Elements.{All-head, All-tail}
use Rattle.pv_base.proofs.ContainsLemmas.{Contains-behind, Contains-cases, Contains-first, Contains-nil}
use Rattle.pv_audit.proofs.CutLemmas.{same-head}
use Rattle.pv_script.specs.LineFaults.{texts}

-- Words of which one isn't the text of a thing aren't the texts of things.
pub unread : {A : Type 0} (Good : A → Type 0) (text : A → List ℕ) (words : List (Bor (List ℕ))) (i : ℕ) (word : Bor (List ℕ)) → i < length words → word ≡ get_or words i word
    → ((x : A) → Good x → word.now ≡ text x → ⊥) → (xs : List A) → All Good xs → texts words ≡ map text xs → ⊥
unread Good text [] i word below at none xs good same = omega (arith, below)
unread Good text (w ∷ words) i word below at none [] good same = cc
unread Good text (w ∷ words) zero word below at none (x ∷ xs) good same =
    let head : w.now ≡ text x = cc in
    none x (All-head Good x xs good) (let read : word.now ≡ text x = cc in read)
unread Good text (w ∷ words) (suc i) word below at none (x ∷ xs) good same =
    let tail : texts words ≡ map text xs = cc in
    unread Good text words i word (omega (arith, below)) at none xs (All-tail Good x xs good) tail

-- The same of the word at a place.
pub unread-at : {A : Type 0} (Good : A → Type 0) (text : A → List ℕ) (words : List (Bor (List ℕ))) (i : ℕ) (d : Bor (List ℕ)) → i < length words
    → ((x : A) → Good x → (get_or words i d).now ≡ text x → ⊥) → (xs : List A) → All Good xs → texts words ≡ map text xs → ⊥
unread-at Good text [] i d below none xs good same = omega (arith, below)
unread-at Good text (w ∷ words) i d below none [] good same = cc
unread-at Good text (w ∷ words) zero d below none (x ∷ xs) good same =
    let head : w.now ≡ text x = cc in
    none x (All-head Good x xs good) head
unread-at Good text (w ∷ words) (suc i) d below none (x ∷ xs) good same =
    let tail : texts words ≡ map text xs = cc in
    unread-at Good text words i d (omega (arith, below)) none xs (All-tail Good x xs good) tail

-- ---- words that are passed one by one

texts-push : (front : List (Bor (List ℕ))) (word : Bor (List ℕ)) → texts (front ++ word ∷ []) ≡ texts front ++ word.now ∷ []
texts-push [] word = refl
texts-push (w ∷ front) word = ap (λ (l : List (List ℕ)). w.now ∷ l) (texts-push front word)

contains-last : {X : Type 0} (xs : List X) (y x : X) → Contains (xs ++ y ∷ []) x → Contains xs x ⊎ (y ≡ x)
contains-last [] y x has = ⊎_elim (λ (same : y ≡ x). inr same) (λ (none : Contains [] x). absurd (Contains-nil x none)) (Contains-cases y [] x has)
contains-last {X} (z ∷ xs) y x has =
    ⊎_elim
    (λ (same : z ≡ x). inl (subst (λ (v : X). Contains (z ∷ xs) v) same (Contains-first z xs)))
    (λ (behind : Contains (xs ++ y ∷ []) x). ⊎_elim (λ (among : Contains xs x). inl (Contains-behind z xs x among)) (λ (last : y ≡ x). inr last) (contains-last xs y x behind))
    (Contains-cases z (xs ++ y ∷ []) x has)

-- Words are without this one as far as one more that it isn't.
pub texts-free : (words : List (Bor (List ℕ))) (i : ℕ) (d : Bor (List ℕ)) (x : List ℕ) → i < length words → (Contains (texts (take i words)) x → ⊥) → ((get_or words i d).now ≡ x → ⊥)
    → Contains (texts (take (i + 1) words)) x → ⊥
texts-free words i d x below free other has =
    let more : texts (take (i + 1) words) ≡ texts (take i words) ++ (get_or words i d).now ∷ [] =
    ap texts (take_more words i d below) ∙ texts-push (take i words) (get_or words i d) in
    ⊎_elim free other (contains-last (texts (take i words)) (get_or words i d).now x (subst (λ (l : List (List ℕ)). Contains l x) more has))

-- What stands at a place is the first word from there on.
pub texts-next : (words : List (Bor (List ℕ))) (i : ℕ) (d : Bor (List ℕ)) (word : List ℕ) (behind : List (List ℕ)) → i < length words → texts (drop i words) ≡ word ∷ behind
    → word ≡ (get_or words i d).now
texts-next words i d word behind below is = sym (same-head (sym (ap texts (drop-cons words i d below)) ∙ is))

-- Words that are joined by spaces, and cut at them again.
use Rattle.std.proofs.Common.{◌≡◌, ℕ, suc, Bool, true, false, List, [], ◌∷◌, ◌++◌, length, map, refl, sym, ap, ◌∙◌, arith, eqb-true, append_assoc}
use Rattle.std.specs.Prelude.{◌==◌, not}
use Rattle.std.specs.List.{All, list_all, slice_split, join_with_byte}
use Rattle.std.proofs.lemmas.Bool.{and_parts, false_from_ne_true, false≢true}
use Rattle.std.proofs.lemmas.List.{append-nil}
use Rattle.std.proofs.lemmas.List.Elements.{All-nil, All-cons}
use Rattle.std.proofs.lemmas.List.Splits.{slice_split_none, slice_split_at}
use Rattle.pv_protocol.specs.LineText.{spaced, certainty, answers_text}
use Rattle.pv_audit.specs.Words.{answer_words, certainty_word}

abbrev pub is_space : ℕ → Bool
is_space b = b == 32

-- The word has no space,
abbrev pub is_free : List ℕ → Bool
is_free word = list_all (λ b. not (is_space b)) word

-- and none of the words has one.
abbrev pub are_free : List (List ℕ) → Bool
are_free words = list_all is_free words

abbrev pub joined : List (List ℕ) → List ℕ
joined words = join_with_byte 32 words

-- ---- cut again

isnt : (b : Bool) → not b ≡ true → b ≡ false
isnt true never = absurd (false≢true never)
isnt false is = refl

All-free : (word : List ℕ) → is_free word ≡ true → All (λ b. is_space b ≡ false) word
All-free [] free = All-nil (λ b. is_space b ≡ false)
All-free (b ∷ word) free =
    let parts = and_parts (not (is_space b)) (is_free word) free in
    All-cons (λ c. is_space c ≡ false) b word (isnt (is_space b) parts.0) (All-free word parts.1)

-- Words without spaces that are joined by spaces are cut at them into what they were.
pub split-joined : (word : List ℕ) (words : List (List ℕ)) → are_free (word ∷ words) ≡ true → slice_split is_space (joined (word ∷ words)) ≡ word ∷ words
split-joined word [] free =
    let parts = and_parts (is_free word) true free in
    slice_split_none is_space word (All-free word parts.0)
split-joined word (next ∷ words) free =
    let parts = and_parts (is_free word) (are_free (next ∷ words)) free in
    slice_split_at is_space word 32 (joined (next ∷ words)) (All-free word parts.0) refl
    ∙ ap (λ (rest : List (List ℕ)). word ∷ rest) (split-joined next words parts.1)

-- ---- joined

-- a word before others
pub joined-cons : (word next : List ℕ) (words : List (List ℕ)) → joined (word ∷ next ∷ words) ≡ word ++ 32 ∷ joined (next ∷ words)
joined-cons word next words = refl

-- words before others
pub joined-append : (word : List ℕ) (words : List (List ℕ)) (next : List ℕ) (others : List (List ℕ))
    → joined ((word ∷ words) ++ next ∷ others) ≡ joined (word ∷ words) ++ 32 ∷ joined (next ∷ others)
joined-append word [] next others = refl
joined-append word (second ∷ words) next others =
    ap (λ (rest : List ℕ). word ++ 32 ∷ rest) (joined-append second words next others)
    ∙ sym (append_assoc word (32 ∷ joined (second ∷ words)) (32 ∷ joined (next ∷ others)))

-- each text of a list behind a word
pub joined-spaced : {A : Type 0} (text : A → List ℕ) (word : List ℕ) (things : List A) → joined (word ∷ map text things) ≡ word ++ spaced text things
joined-spaced text word [] = sym (append-nil word)
joined-spaced text word (thing ∷ things) = ap (λ (rest : List ℕ). word ++ 32 ∷ rest) (joined-spaced text (text thing) things)

-- possible answers
many : (n : ℕ) → (suc (suc n) == 1) ≡ false
many n = false_from_ne_true (suc (suc n) == 1) (λ is. absurd (omega (arith, eqb-true (suc (suc n)) 1 is)))

certainty-word : {A : Type 0} (answers : List A) → certainty answers ≡ 32 ∷ certainty_word (length answers)
certainty-word [] = refl
certainty-word (answer ∷ []) = refl
certainty-word (answer ∷ other ∷ answers) = rw (many (length answers)) refl

pub joined-answers : {A : Type 0} (text : A → List ℕ) (answers : List A) → answers_text text answers ≡ 32 ∷ joined (answer_words text answers)
joined-answers text answers =
    ap (λ (word : List ℕ). word ++ spaced text answers) (certainty-word answers)
    ∙ ap (λ (rest : List ℕ). 32 ∷ rest) (sym (joined-spaced text (certainty_word (length answers)) answers))

-- The condition of a case, read by its words.
use Rattle.std.proofs.Common.{◌≡◌, ℕ, List, [], ◌∷◌, map, Option, Some, None, Result, Ok, Err, IfOk, IfNone, sym, ap₂, ◌∙◌}
use Rattle.std.specs.Prelude.{codes}
use Rattle.std.specs.List.{All}
use Rattle.pv_audit.specs.Printed.{IsTxn}
use Rattle.pv_audit.specs.Words.{when_words}
use Rattle.pv_audit.proofs.CutLemmas.{same-head}
use Rattle.pv_audit.proofs.PartsLemmas.{behind}
use Rattle.pv_base.specs.declared.literal.Literal.{Literal}
use Rattle.pv_protocol.specs.LineText.{literal_text}

-- A condition begins with `if`,
pub no-if : (words : List (List ℕ)) (word : List ℕ) (rest : List (List ℕ)) → words ≡ word ∷ rest → (word ≡ codes "if" → ⊥) → (when : List Literal) → words ≡ when_words when → ⊥
no-if words word rest split other [] is = let never : word ∷ rest ≡ [] = sym split ∙ is in cc
no-if words word rest split other (literal ∷ literals) is = other (same-head (sym split ∙ is))

-- has a literal behind that,
pub no-literals : (words : List (List ℕ)) (word : List ℕ) (rest : List (List ℕ)) → words ≡ word ∷ rest → rest ≡ [] → (when : List Literal) → words ≡ when_words when → ⊥
no-literals words word rest split none [] is = let never : word ∷ rest ≡ [] = sym split ∙ is in cc
no-literals words word rest split none (literal ∷ literals) is =
    let never : [] ≡ map literal_text (literal ∷ literals) = sym none ∙ behind (sym split ∙ is) in cc

-- and nothing but literals.
pub no-when : (words : List (List ℕ)) (word : List ℕ) (rest : List (List ℕ)) → words ≡ word ∷ rest
    → ((literals : List Literal) → All (λ literal. IsTxn literal.txn) literals → rest ≡ map literal_text literals → ⊥) → (when : List Literal) → All (λ literal. IsTxn literal.txn) when
    → words ≡ when_words when → ⊥
no-when words word rest split none [] fits is = let never : word ∷ rest ≡ [] = sym split ∙ is in cc
no-when words word rest split none (literal ∷ literals) fits is = none (literal ∷ literals) fits (behind (sym split ∙ is))

pub some-when : (words : List (List ℕ)) (word : List ℕ) (rest : List (List ℕ)) → words ≡ word ∷ rest → word ≡ codes "if" → (rest ≡ [] → ⊥) → (literals : List Literal)
    → rest ≡ map literal_text literals → words ≡ when_words literals
some-when words word rest split first some [] is = absurd (some is)
some-when words word rest split first some (literal ∷ literals) is = split ∙ ap₂ (λ (w : List ℕ) (ws : List (List ℕ)). w ∷ ws) first is

-- The same where it isn't known whether literals were found.
pub no-when-found : {V E : Type 0} (words : List (List ℕ)) (word : List ℕ) (rest : List (List ℕ)) (result : Result (Option V) E) → words ≡ word ∷ rest
    → IfOk result (λ found. IfNone found ((literals : List Literal) → All (λ literal. IsTxn literal.txn) literals → rest ≡ map literal_text literals → ⊥))
    → IfOk result (λ found. IfNone found ((when : List Literal) → All (λ literal. IsTxn literal.txn) when → words ≡ when_words when → ⊥))
no-when-found words word rest (Ok None) split none = no-when words word rest split none
no-when-found words word rest (Ok (Some v)) split none = tt
no-when-found words word rest (Err e) split none = tt

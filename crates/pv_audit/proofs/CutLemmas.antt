-- Texts that are cut at a byte.
use Rattle.std.proofs.Common.{◌≡◌, ℕ, false, List, [], ◌∷◌, ◌++◌, refl, sym, subst, ◌∙◌}
use Rattle.std.specs.Prelude.{codes}
use Rattle.std.specs.Fmt.{decimal}
use Rattle.std.specs.List.{Contains}
use Rattle.std.specs.Str.{bytes_eq}
use Rattle.std.proofs.lemmas.Bool.{both_ways}
use Rattle.std.proofs.lemmas.List.Elements.{Contains-append_right}
use Rattle.std.proofs.lemmas.Slice.Eq.{bytes_eq-Decides}
use Rattle.pv_audit.proofs.NumberLemmas.{decimal-without}
use Rattle.pv_base.specs.Txn.{txn_text}
use Rattle.pv_base.specs.declared.txn.TxnId.{TxnId}
use Rattle.pv_base.proofs.ContainsLemmas.{Contains-first, Contains-behind}

-- There is one way to cut a list at the first place of a value.
pub one-cut : {X : Type 0} (b : X) (xs ys us vs : List X) → (Contains xs b → ⊥) → (Contains us b → ⊥) → xs ++ b ∷ ys ≡ us ++ b ∷ vs → (xs ≡ us) × (ys ≡ vs)
one-cut b [] ys [] vs free none is = (refl, let same : ys ≡ vs = cc in same)
one-cut {X} b [] ys (u ∷ us) vs free none is =
    absurd (none (let same : b ≡ u = cc in subst (λ (x : X). Contains (u ∷ us) x) (sym same) (Contains-first u us)))
one-cut {X} b (x ∷ xs) ys [] vs free none is =
    absurd (free (let same : x ≡ b = cc in subst (λ (z : X). Contains (x ∷ xs) z) same (Contains-first x xs)))
one-cut b (x ∷ xs) ys (u ∷ us) vs free none is =
    let first : x ≡ u = cc in
    let tail : xs ++ b ∷ ys ≡ us ++ b ∷ vs = cc in
    let rest = one-cut b xs ys us vs (λ c. free (Contains-behind x xs b c)) (λ c. none (Contains-behind u us b c)) tail in
    ((λ i. first i ∷ rest.0 i), rest.1)

pub cut-has : {X : Type 0} (b : X) (xs ys : List X) → Contains (xs ++ b ∷ ys) b
cut-has b xs ys = Contains-append_right xs (b ∷ ys) b (Contains-first b ys)

-- ---- words that differ

pub same-head : {X : Type 0} {x y : X} {xs ys : List X} → x ∷ xs ≡ y ∷ ys → x ≡ y
same-head same = cc

pub words-differ : (word other : List ℕ) → bytes_eq word other ≡ false → word ≡ other → ⊥
words-differ word other differ same = both_ways (bytes_eq word other) differ ((bytes_eq-Decides word other).1 same)

-- ---- transactions

-- A transaction has a dot in it,
pub txn-dotted : (word : List ℕ) (txn : TxnId) → word ≡ txn_text txn → Contains word 46
txn-dotted word txn is = subst (λ (w : List ℕ). Contains w 46) (sym is) (cut-has 46 (decimal txn.site.0) (decimal txn.epoch ++ (codes "." ++ decimal txn.number)))

-- and behind it another one.
pub txn-first : (word front behind : List ℕ) (txn : TxnId) → word ≡ txn_text txn → (Contains front 46 → ⊥) → word ≡ front ++ 46 ∷ behind
    → (front ≡ decimal txn.site.0) × (behind ≡ decimal txn.epoch ++ 46 ∷ decimal txn.number)
txn-first word front behind txn is free cut =
    one-cut 46 front behind (decimal txn.site.0) (decimal txn.epoch ++ 46 ∷ decimal txn.number) free
    (decimal-without txn.site.0 46 refl) (sym cut ∙ is)

pub txn-second : (behind middle last : List ℕ) (txn : TxnId) → behind ≡ decimal txn.epoch ++ 46 ∷ decimal txn.number → (Contains middle 46 → ⊥)
    → behind ≡ middle ++ 46 ∷ last → (middle ≡ decimal txn.epoch) × (last ≡ decimal txn.number)
txn-second behind middle last txn is free cut =
    one-cut 46 middle last (decimal txn.epoch) (decimal txn.number) free (decimal-without txn.epoch 46 refl) (sym cut ∙ is)

-- ---- ways

pub way-marked : (word : List ℕ) (from to : ℕ) → word ≡ decimal from ++ (codes ">" ++ decimal to) → Contains word 62
way-marked word from to is = subst (λ (w : List ℕ). Contains w 62) (sym is) (cut-has 62 (decimal from) (decimal to))

pub way-parts : (word front behind : List ℕ) (from to : ℕ) → word ≡ decimal from ++ (codes ">" ++ decimal to) → (Contains front 62 → ⊥)
    → word ≡ front ++ 62 ∷ behind → (front ≡ decimal from) × (behind ≡ decimal to)
way-parts word front behind from to is free cut =
    one-cut 62 front behind (decimal from) (decimal to) free (decimal-without from 62 refl) (sym cut ∙ is)

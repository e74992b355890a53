-- Literals and sums have a sign before them.
use Rattle.std.proofs.Common.{◌≡◌, ℕ, ℤ, pos, negsuc, suc, ◌<◌, ◌^◌, Bool, true, false, cond, Option, Some, None, IfNone, List, [], ◌∷◌, ◌++◌, refl, sym, subst, ◌∙◌}
use Rattle.std.specs.Fmt.{decimal, signed_decimal}
use Rattle.std.specs.List.{Contains}
use Rattle.pv_audit.specs.Printed.{IsSum}
use Rattle.pv_audit.proofs.CutLemmas.{same-head, cut-has}
use Rattle.pv_audit.proofs.NumberLemmas.{decimal-without}
use Rattle.pv_audit.proofs.PartsLemmas.{behind}
use Rattle.pv_base.specs.Txn.{txn_text}
use Rattle.pv_base.specs.declared.literal.Literal.{Literal}
use Rattle.pv_base.specs.declared.txn.TxnId.{TxnId}
use Rattle.pv_protocol.specs.LineText.{literal_text}

-- what stands before a transaction
abbrev pub sign : Bool → ℕ
sign commits = cond commits 43 45

-- a literal is its sign and its transaction
pub literal-parts : (literal : Literal) → literal_text literal ≡ sign literal.commits ∷ txn_text literal.txn
literal-parts literal = go literal.commits
  where
    go : (commits : Bool) → cond commits (43 ∷ []) (45 ∷ []) ++ txn_text literal.txn ≡ sign commits ∷ txn_text literal.txn
    go true = refl
    go false = refl

pub no-bytes : (word : List ℕ) (literal : Literal) → word ≡ [] → word ≡ literal_text literal → ⊥
no-bytes word literal none is = let never : [] ≡ sign literal.commits ∷ txn_text literal.txn = sym none ∙ is ∙ literal-parts literal in cc

pub no-sign : (word name : List ℕ) (byte : ℕ) (literal : Literal) → word ≡ byte ∷ name → (byte ≡ 43 → ⊥) × (byte ≡ 45 → ⊥) → word ≡ literal_text literal → ⊥
no-sign word name byte literal split other is = go literal.commits (same-head (sym split ∙ is ∙ literal-parts literal))
  where
    go : (commits : Bool) → byte ≡ sign commits → ⊥
    go true same = other.0 same
    go false same = other.1 same

pub literal-name : (word name : List ℕ) (byte : ℕ) (literal : Literal) → word ≡ byte ∷ name → word ≡ literal_text literal → name ≡ txn_text literal.txn
literal-name word name byte literal split is = behind (sym split ∙ is ∙ literal-parts literal)

pub signed-literal : (word name : List ℕ) (byte : ℕ) (commits : Bool) (txn : TxnId) → word ≡ byte ∷ name → byte ≡ sign commits → name ≡ txn_text txn
    → word ≡ literal_text (record { txn = txn; commits = commits })
signed-literal word name byte commits txn split is named =
    split ∙ (λ i. is i ∷ named i) ∙ sym (literal-parts (record { txn = txn; commits = commits }))

-- ---- sums

-- A sum without `-` isn't below 0.
pub plain-sum : (word : List ℕ) → ((digits : List ℕ) → word ≡ 45 ∷ digits → ⊥) → ((n : ℕ) → n < 2 ^ 127 → word ≡ decimal n → ⊥) → (z : ℤ) → IsSum z → word ≡ signed_decimal z → ⊥
plain-sum word plain none (pos n) fits is = none n fits is
plain-sum word plain none (negsuc n) fits is = plain (decimal (suc n)) is

-- One with `-` is.
pub minus-sum : (word digits : List ℕ) → word ≡ 45 ∷ digits → ((n : ℕ) → n < 2 ^ 127 → digits ≡ decimal (suc n) → ⊥) → (z : ℤ) → IsSum z → word ≡ signed_decimal z → ⊥
minus-sum word digits split none (pos n) fits is = decimal-without n 45 refl (subst (λ (w : List ℕ). Contains w 45) (sym split ∙ is) (cut-has 45 [] digits))
minus-sum word digits split none (negsuc n) fits is = none n fits (behind (sym split ∙ is))

-- The same where it isn't known whether digits were found.
pub minus-none : {A : Type 0} (word digits : List ℕ) (found : Option A) → word ≡ 45 ∷ digits → IfNone found ((n : ℕ) → n < 2 ^ 127 → digits ≡ decimal (suc n) → ⊥)
    → IfNone found ((z : ℤ) → IsSum z → word ≡ signed_decimal z → ⊥)
minus-none word digits (Some x) split none = tt
minus-none word digits None split none = minus-sum word digits split none

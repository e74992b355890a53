-- What lines hold is plain: names of items, transactions and numbers need no escape, and are UTF-8.
use Rattle.std.proofs.Common.{◌≡◌, ℕ, zero, suc, ◌<◌, ◌/◌, ◌%◌, ◌==◌, ℤ, pos, negsuc, List, [], ◌∷◌, ◌++◌, Bool, true, false, cond, codes, length, decimal, nat_le, nat_lt, refl, ap₂, ◌∙◌, arith}
use Rattle.std.specs.Prelude.{◌&&◌, not, IsTrue, All}
use Rattle.std.specs.Fmt.{digits, digits_onto, digit_glyph, signed_decimal}
use Rattle.std.specs.List.{list_all}
use Rattle.std.specs.Str.{IsUtf8}
use Rattle.std.proofs.lemmas.Bool.{and_parts}
use Rattle.std.proofs.lemmas.Bool.Decides.{nat_tests}
use Rattle.std.proofs.lemmas.List.Elements.{All-nil, All-cons}
use Rattle.std.proofs.lemmas.List.Folds.{list_all-append}
use Rattle.std.proofs.lemmas.Str.{IsUtf8-from_ascii}
use Rattle.std.proofs.lemmas.Str.Ascii.{IsAscii-from_all}
use Rattle.pv_base.specs.Name.{continues_name, is_lower, is_name, is_spelled_as_name, is_keyword}
use Rattle.pv_base.specs.Txn.{txn_text}
use Rattle.pv_base.specs.declared.limits.TheConstants.{MAX_NAME}
use Rattle.pv_base.specs.declared.literal.Literal.{Literal}
use Rattle.pv_base.specs.declared.txn.TxnId.{TxnId}
use Rattle.pv_protocol.specs.LineText.{literal_text}
use Rattle.pv_report.specs.Shown.{is_plain_byte, is_plain}

-- one plain text behind another
plain-append : (xs ys : List ℕ) → is_plain xs ≡ true → is_plain ys ≡ true → is_plain (xs ++ ys) ≡ true
plain-append xs ys first second = list_all-append is_plain_byte xs ys ∙ ap₂ (λ (x y : Bool). x && y) first second

-- ---- numbers

glyph-plain : (n : ℕ) → is_plain_byte (digit_glyph false (n % 10)) ≡ true
glyph-plain n =
    let small : n % 10 < 10 = omega arith in
    let digit : nat_lt (n % 10) 10 ≡ true = grind (arith, nat_tests, small) in
    rw digit (grind (arith, nat_tests, small))

digits_onto-plain : (k n : ℕ) (text : List ℕ) → is_plain text ≡ true → is_plain (digits_onto k 10 false n text) ≡ true
digits_onto-plain zero n text plain = plain
digits_onto-plain (suc k) n text plain =
    let more : is_plain (digit_glyph false (n % 10) ∷ text) ≡ true = ap₂ (λ (x y : Bool). x && y) (glyph-plain n) plain in
    by_last (n / 10 == 0) _ _ more (digits_onto-plain k (n / 10) (digit_glyph false (n % 10) ∷ text) more)
  where
    by_last : (last : Bool) (xs ys : List ℕ) → is_plain xs ≡ true → is_plain ys ≡ true → is_plain (cond last xs ys) ≡ true
    by_last true xs ys first second = first
    by_last false xs ys first second = second

pub decimal-plain : (n : ℕ) → is_plain (decimal n) ≡ true
unfolding digits
decimal-plain n = digits_onto-plain 64 n [] refl

pub signed-plain : (z : ℤ) → is_plain (signed_decimal z) ≡ true
signed-plain (pos n) = decimal-plain n
signed-plain (negsuc n) = decimal-plain (suc n)

-- ---- transactions and names

pub txn-plain : (txn : TxnId) → is_plain (txn_text txn) ≡ true
txn-plain txn =
    plain-append (decimal txn.site.0) _ (decimal-plain txn.site.0)
    (plain-append (decimal txn.epoch) (codes "." ++ decimal txn.number) (decimal-plain txn.epoch) (decimal-plain txn.number))

pub literal-plain : (literal : Literal) → is_plain (literal_text literal) ≡ true
literal-plain literal = by_sign literal.commits
  where
    by_sign : (commits : Bool) → is_plain (cond commits (codes "+") (codes "-") ++ txn_text literal.txn) ≡ true
    by_sign true = txn-plain literal.txn
    by_sign false = txn-plain literal.txn

continued-plain : (text : List ℕ) → list_all continues_name text ≡ true → is_plain text ≡ true
continued-plain [] named = refl
continued-plain (b ∷ text) named =
    let parts = and_parts (continues_name b) (list_all continues_name text) named in
    let plain : is_plain_byte b ≡ true = grind (arith, nat_tests, parts.0) in
    ap₂ (λ (x y : Bool). x && y) plain (continued-plain text parts.1)

spelled-plain : (text : List ℕ) → is_spelled_as_name text ≡ true → is_plain text ≡ true
unfolding is_spelled_as_name
spelled-plain [] named = refl
spelled-plain (b ∷ text) named =
    let parts = and_parts (is_lower b) (list_all continues_name text) named in
    let plain : is_plain_byte b ≡ true = grind (arith, nat_tests, parts.0) in
    ap₂ (λ (x y : Bool). x && y) plain (continued-plain text parts.1)

pub name-plain : (text : List ℕ) → IsTrue (is_name text) → is_plain text ≡ true
unfolding is_name
name-plain text named =
    let parts = and_parts (nat_le (length text) MAX_NAME && is_spelled_as_name text) (not (is_keyword text)) named in
    spelled-plain text (and_parts (nat_le (length text) MAX_NAME) (is_spelled_as_name text) parts.0).1

-- ---- UTF-8

plain-small : (text : List ℕ) → is_plain text ≡ true → All (λ b. b < 128) text
plain-small [] plain = All-nil (λ b. b < 128)
plain-small (b ∷ text) plain =
    let parts = and_parts (is_plain_byte b) (is_plain text) plain in
    let small : b < 128 = grind (arith, nat_tests, parts.0) in
    All-cons (λ b. b < 128) b text small (plain-small text parts.1)

pub plain-utf8 : (text : List ℕ) → is_plain text ≡ true → IsUtf8 text
plain-utf8 text plain = IsUtf8-from_ascii text (IsAscii-from_all text (plain-small text plain))

-- What is plain is UTF-8, so it isn't refused.
pub refused-plain : (text : List ℕ) → is_plain text ≡ true → (IsUtf8 text → ⊥) → ⊥
refused-plain text plain refused = refused (plain-utf8 text plain)

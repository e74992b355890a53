-- The words of a line that is put together of words with one space between them.
use Rattle.std.proofs.Common.{◌≡◌, ◌∙◌, ℕ, ◌+◌, ◌<◌, ◌≤◌, Bool, true, false, not, ◌&&◌, ◌||◌, ◌==◌, nat_le, List, [], ◌∷◌, ◌++◌, length, cond, eqb, filter, refl, sym, ap, ap₂, arith, eqb-true, le-leb, leb-true, length-append}
use Rattle.std.specs.Cmp.Derive.{both_true}
use Rattle.std.specs.List.{list_all, slice_split}
use Rattle.std.proofs.lemmas.Bool.{false_from_ne_true, false≢true}
use Rattle.std.proofs.lemmas.List.Folds.{list_all-append}
use Rattle.std.proofs.lemmas.List.Splits.{slice_split_at, slice_split_none}
use Rattle.std.proofs.Math.Dec.{eqb-suc-zero}
use Rattle.pv_base.specs.Name.{is_blank}
use Rattle.pv_base.proofs.Basics.{and-left, and-right}
use Rattle.pv_model.specs.LineForms.{after_blanks, after_word}
use Rattle.pv_model.specs.Text.{is_text_byte, words}
use Rattle.pv_law_transcript.proofs.LineLemmas.{none-pass}

-- a byte of text that is no blank
abbrev pub is_word_byte : ℕ → Bool
is_word_byte b = nat_le 33 b && nat_le b 126

-- one or more such bytes
abbrev pub is_word : List ℕ → Bool
is_word word = not (length word == 0) && list_all is_word_byte word

pub some-bytes : (word : List ℕ) → 0 < length word → not (length word == 0) ≡ true
some-bytes [] some = absurd (omega (arith, some))
some-bytes (b ∷ bs) some = ap not (eqb-suc-zero (length bs))

pub all-weaken : (p q : ℕ → Bool) → ((b : ℕ) → p b ≡ true → q b ≡ true) → (bs : List ℕ) → list_all p bs ≡ true → list_all q bs ≡ true
all-weaken p q so [] all = refl
all-weaken p q so (b ∷ bs) all = both_true (so b (and-left (p b) (list_all p bs) all)) (all-weaken p q so bs (and-right (p b) (list_all p bs) all))

other-byte : (n b : ℕ) → is_word_byte n ≡ false → is_word_byte b ≡ true → eqb b n ≡ false
other-byte n b none is = false_from_ne_true (eqb b n) (λ yes. false≢true (sym none ∙ sym (ap is_word_byte (eqb-true b n yes)) ∙ is))

pub no_blank : (b : ℕ) → is_word_byte b ≡ true → is_blank b ≡ false
no_blank b is = ap₂ (λ (x y : Bool). x || y) (other-byte 32 b refl is) (other-byte 9 b refl is)

pub text_byte : (b : ℕ) → is_word_byte b ≡ true → is_text_byte b ≡ true
text_byte b is =
    let low : 33 ≤ b = leb-true 33 b (and-left (nat_le 33 b) (nat_le b 126) is) in
    ap₂ (λ (x y : Bool). x || y) (other-byte 9 b refl is) (both_true (le-leb 32 b (omega arith)) (and-right (nat_le 33 b) (nat_le b 126) is))

pub solid : (word : List ℕ) → is_word word ≡ true → list_all is_word_byte word ≡ true
solid word is = and-right (not (length word == 0)) (list_all is_word_byte word) is

word-kept : (word : List ℕ) (parts : List (List ℕ)) → is_word word ≡ true
    → filter (λ (w : List ℕ). not (length w == 0)) (word ∷ parts) ≡ word ∷ filter (λ (w : List ℕ). not (length w == 0)) parts
word-kept word parts is =
    ap (λ (yes : Bool). cond yes (word ∷ filter (λ (w : List ℕ). not (length w == 0)) parts) (filter (λ (w : List ℕ). not (length w == 0)) parts))
    (and-left (not (length word == 0)) (list_all is_word_byte word) is)

pub words-cons : (word after : List ℕ) → is_word word ≡ true → words (word ++ 32 ∷ after) ≡ word ∷ words after
unfolding words
words-cons word after is =
    ap (filter (λ (w : List ℕ). not (length w == 0))) (slice_split_at is_blank word 32 after (none-pass is_blank is_word_byte no_blank word (solid word is)) refl)
    ∙ word-kept word (slice_split is_blank after) is

pub words-last : (word : List ℕ) → is_word word ≡ true → words word ≡ word ∷ []
unfolding words
words-last word is =
    ap (filter (λ (w : List ℕ). not (length w == 0))) (slice_split_none is_blank word (none-pass is_blank is_word_byte no_blank word (solid word is)))
    ∙ word-kept word [] is

pub text-last : (word : List ℕ) → is_word word ≡ true → list_all is_text_byte word ≡ true
text-last word is = all-weaken is_word_byte is_text_byte text_byte word (solid word is)

pub text-cons : (word after : List ℕ) → is_word word ≡ true → list_all is_text_byte after ≡ true → list_all is_text_byte (word ++ 32 ∷ after) ≡ true
text-cons word after is text = list_all-append is_text_byte word (32 ∷ after) ∙ both_true (text-last word is) text

pub length-cons : (word after : List ℕ) → length (word ++ 32 ∷ after) ≡ length word + (1 + length after)
length-cons word after = let sum = length-append word (32 ∷ after) in omega (arith, sum)

pub after_blanks-word : (word rest : List ℕ) → is_word word ≡ true → after_blanks (word ++ rest) ≡ word ++ rest
after_blanks-word [] rest is = absurd (false≢true is)
after_blanks-word (b ∷ bs) rest is =
    ap (λ (yes : Bool). cond yes (after_blanks (bs ++ rest)) (b ∷ (bs ++ rest))) (no_blank b (and-left (is_word_byte b) (list_all is_word_byte bs) (solid (b ∷ bs) is)))

pub after_word-word : (word rest : List ℕ) → list_all is_word_byte word ≡ true → after_word (word ++ 32 ∷ rest) ≡ 32 ∷ rest
after_word-word [] rest all = refl
after_word-word (b ∷ bs) rest all =
    ap (λ (yes : Bool). cond yes (b ∷ (bs ++ 32 ∷ rest)) (after_word (bs ++ 32 ∷ rest))) (no_blank b (and-left (is_word_byte b) (list_all is_word_byte bs) all))
    ∙ after_word-word bs rest (and-right (is_word_byte b) (list_all is_word_byte bs) all)

-- What the words of a line have to be, field by field.
use Rattle.std.proofs.Common.{◌≡◌, ℕ, suc, ◌<◌, ◌≤◌, true, false, List, [], ◌∷◌, length, get_or, Bor, refl, sym, ap, ◌∙◌, arith}
use Rattle.std.specs.Prelude.{IsTrue, ℤ, nat_le, nat_lt, ◌&&◌}
use Rattle.std.specs.List.{list_all, Contains}
use Rattle.std.proofs.lemmas.Bool.{and_from, and_left, and_right, le-leb}
use Rattle.pv_base.specs.declared.limits.TheConstants.{MAX_CALL, MAX_PUMP}
use Rattle.pv_base.specs.Name.{is_digit}
use Rattle.pv_model.specs.LineCauses.{mode_words}
use Rattle.pv_model.specs.LineForms.{Field, number, site, value, mode, are_digits, has_good_number}
use Rattle.pv_model.specs.Meaning.{fits_i64}
use Rattle.pv_model.specs.Schedule.{IsIn}
use Rattle.pv_model.specs.Text.{number_of_digits, digits_of, number_of_signed, IsDecimal, IsSignedDecimal}
use Rattle.pv_script.specs.LineFaults.{texts, IsFieldFault}
use Rattle.pv_script.specs.declared.schedule.LineCause.TheVariants.{BadNumber, BadMode}

are_digits-some : (word : List ℕ) → 0 < length word → IsTrue (list_all is_digit word) → are_digits word ≡ true
are_digits-some [] some digits = absurd (omega arith)
are_digits-some (b ∷ bs) some digits = digits

-- ---- words that are good

pub good-number : (sites least most n : ℕ) (word : List ℕ) → IsIn least most word n → has_good_number sites (number least most, word) ≡ true
good-number sites least most n word is =
    let same = is.0.value in
    and_from (are_digits word) (nat_le least (number_of_digits word) && nat_le (number_of_digits word) most) (are_digits-some word is.0.some is.0.digits)
    (and_from (nat_le least (number_of_digits word)) (nat_le (number_of_digits word) most) (le-leb least (number_of_digits word) (rw same at is.1)) (le-leb (number_of_digits word) most (rw same at is.2)))

pub good-site : (sites n : ℕ) (word : List ℕ) → IsDecimal word n → n < sites → has_good_number sites (site, word) ≡ true
good-site sites n word is below =
    let same = is.value in
    and_from (are_digits word) (nat_lt (number_of_digits word) sites) (are_digits-some word is.some is.digits)
    (le-leb (suc (number_of_digits word)) sites (omega arith))

pub good-value : (sites : ℕ) (z : ℤ) (word : List ℕ) → IsSignedDecimal word z → IsTrue (fits_i64 z) → has_good_number sites (value, word) ≡ true
good-value sites z word is fits =
    and_from (are_digits (digits_of word)) (fits_i64 (number_of_signed word)) (are_digits-some (digits_of word) is.some is.digits)
    (ap fits_i64 (sym is.value) ∙ fits)

-- ---- one word

pub texts-one : (args : List (Bor (List ℕ))) (d : Bor (List ℕ)) → 1 ≤ length args → length args < 2 → texts args ≡ (get_or args 0 d).now ∷ []
texts-one [] d some few = absurd (omega arith)
texts-one (word ∷ []) d some few = refl
texts-one (word ∷ more ∷ args) d some few = absurd (omega arith)

pub bad-one : (field : Field) (sites : ℕ) (word : List ℕ) → has_good_number sites (field, word) ≡ false
    → IsFieldFault sites ((field ∷ []) ∷ []) (word ∷ []) BadNumber
bad-one field sites word bad = (λ none. cc, rw bad refl)

pub bad-most : (sites : ℕ) (word : List ℕ) → has_good_number sites (number 1 MAX_PUMP, word) ≡ false
    → IsFieldFault sites ([] ∷ (number 1 MAX_PUMP ∷ []) ∷ []) (word ∷ []) BadNumber
bad-most sites word bad = (λ none. cc, rw bad refl)

-- ---- a site, a call and a mode

pub texts-three : (args : List (Bor (List ℕ))) (d e f : Bor (List ℕ)) → 3 ≤ length args → length args < 4
    → texts args ≡ (get_or args 0 d).now ∷ (get_or args 1 e).now ∷ (get_or args 2 f).now ∷ []
texts-three [] d e f some few = absurd (omega arith)
texts-three (a ∷ []) d e f some few = absurd (omega arith)
texts-three (a ∷ b ∷ []) d e f some few = absurd (omega arith)
texts-three (a ∷ b ∷ c ∷ []) d e f some few = refl
texts-three (a ∷ b ∷ c ∷ more ∷ args) d e f some few = absurd (omega arith)

abbrev ArmForms : List (List Field)
ArmForms = (site ∷ number 1 MAX_CALL ∷ mode ∷ []) ∷ []

pub bad-call : (sites : ℕ) (at call left : List ℕ) → has_good_number sites (number 1 MAX_CALL, call) ≡ false
    → IsFieldFault sites ArmForms (at ∷ call ∷ left ∷ []) BadNumber
bad-call sites at call left bad =
    (λ none. cc, and_right (has_good_number sites (site, at)) _ (and_left (has_good_number sites (number 1 MAX_CALL, call)) true bad))

pub bad-mode : (sites n k : ℕ) (at call left : List ℕ) → IsDecimal at n → n < sites → IsIn 1 MAX_CALL call k → (Contains mode_words left → ⊥)
    → IsFieldFault sites ArmForms (at ∷ call ∷ left ∷ []) BadMode
bad-mode sites n k at call left is below within bad =
    (λ none. cc, and_from (has_good_number sites (site, at)) _ (good-site sites n at is below) (and_from (has_good_number sites (number 1 MAX_CALL, call)) true (good-number sites 1 MAX_CALL k call within) refl), left, (2, omega arith, refl), bad)

pub bad-alone : (field : Field) (sites : ℕ) (args : List (Bor (List ℕ))) (d : Bor (List ℕ)) → 1 ≤ length args → length args < 2
    → has_good_number sites (field, (get_or args 0 d).now) ≡ false → IsFieldFault sites ((field ∷ []) ∷ []) (texts args) BadNumber
bad-alone field sites [] d some few bad = absurd (omega arith)
bad-alone field sites (word ∷ []) d some few bad = bad-one field sites word.now bad
bad-alone field sites (word ∷ more ∷ args) d some few bad = absurd (omega arith)

pub bad-call-at : (sites : ℕ) (args : List (Bor (List ℕ))) (d : Bor (List ℕ)) → 3 ≤ length args → length args < 4
    → has_good_number sites (number 1 MAX_CALL, (get_or args 1 d).now) ≡ false → IsFieldFault sites ArmForms (texts args) BadNumber
bad-call-at sites args d some few bad = rw (texts-three args d d d some few) (bad-call sites (get_or args 0 d).now (get_or args 1 d).now (get_or args 2 d).now bad)

pub bad-mode-at : (sites n k : ℕ) (args : List (Bor (List ℕ))) (d : Bor (List ℕ)) → 3 ≤ length args → length args < 4
    → IsDecimal (get_or args 0 d).now n → n < sites → IsIn 1 MAX_CALL (get_or args 1 d).now k → (Contains mode_words (get_or args 2 d).now → ⊥)
    → IsFieldFault sites ArmForms (texts args) BadMode
bad-mode-at sites n k args d some few is below within bad =
    rw (texts-three args d d d some few) (bad-mode sites n k (get_or args 0 d).now (get_or args 1 d).now (get_or args 2 d).now is below within bad)

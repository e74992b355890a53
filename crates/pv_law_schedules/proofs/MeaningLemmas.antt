-- A line that fits is an event or declares something.
use Rattle.std.proofs.Common.{◌≡◌, ⊎_elim, ℕ, ◌<◌, true, false, Some, None, List, [], ◌∷◌, length, refl, sym, ap, subst, ◌∙◌, arith}
use Rattle.std.specs.Prelude.{◌==◌, ◌&&◌, nat_le, nat_lt, cond, codes}
use Rattle.std.specs.List.{list_all, Contains}
use Rattle.std.proofs.lemmas.Bool.{false≢true, leb-true, ltb-true}
use Rattle.pv_base.specs.declared.limits.TheConstants.{MAX_CALL}
use Rattle.pv_base.specs.Name.{is_digit}
use Rattle.pv_base.specs.declared.mode.Mode.{Mode}
use Rattle.pv_base.specs.declared.mode.Mode.TheVariants.{Lost, Kept, Torn}
use Rattle.pv_model.specs.LineCauses.{Before, or_default, mode_words}
use Rattle.pv_model.specs.LineForms as fields
use Rattle.pv_model.specs.LineForms.{Script, Field, line_forms, leading_word, later_words, first_word, forms_of, takes_program, program_text, site_and_text, arguments, form_of, fields_of, fields_in, beside, are_digits, has_good_number}
use Rattle.pv_model.specs.Meaning.{fits_i64}
use Rattle.pv_model.specs.Schedule.{IsIn, IsDeclaredSite, IsMode, IsOne, IsAlone, IsArm}
use Rattle.pv_model.specs.Text.{TextLine, words, IsDecimal, IsSignedDecimal, number_of_digits, digits_of, number_of_signed}
use Rattle.pv_base.proofs.ContainsLemmas.{Contains-nil, Contains-cases}
use Rattle.pv_law_schedules.proofs.LineFormLemmas.{Each, Suits, Fits, look, form_of-look, arguments-plain}
use Rattle.pv_base.proofs.Basics.{and-left, and-right}
use Rattle.pv_law_schedules.proofs.NoCauseLemmas.{one-form}

-- Numbers that suit are in range.

digits-some : (w : List ℕ) → are_digits w ≡ true → 0 < length w
digits-some [] good = absurd (false≢true good)
digits-some (b ∷ bs) good = omega arith

digits-all : (w : List ℕ) → are_digits w ≡ true → list_all is_digit w ≡ true
digits-all [] good = refl
digits-all (b ∷ bs) good = good

is-number : (w : List ℕ) → are_digits w ≡ true → IsDecimal w (number_of_digits w)
is-number w good = record { some = digits-some w good; digits = digits-all w good; value = refl }

pub in-good : (sites least most : ℕ) (w : List ℕ) → has_good_number sites (fields.number least most, w) ≡ true → IsIn least most w (number_of_digits w)
in-good sites least most w good =
    let both = and-right (are_digits w) (nat_le least (number_of_digits w) && nat_le (number_of_digits w) most) good in (
      is-number w (and-left (are_digits w) (nat_le least (number_of_digits w) && nat_le (number_of_digits w) most) good),
      leb-true least (number_of_digits w) (and-left (nat_le least (number_of_digits w)) (nat_le (number_of_digits w) most) both),
      leb-true (number_of_digits w) most (and-right (nat_le least (number_of_digits w)) (nat_le (number_of_digits w) most) both),
    )

pub site-good : (before : Before) (w : List ℕ) → has_good_number (or_default 0 before.sites) (fields.site, w) ≡ true → IsDeclaredSite before w (number_of_digits w)
site-good before w good = (
  is-number w (and-left (are_digits w) (nat_lt (number_of_digits w) (or_default 0 before.sites)) good),
  ltb-true (number_of_digits w) (or_default 0 before.sites) (and-right (are_digits w) (nat_lt (number_of_digits w) (or_default 0 before.sites)) good),
)

pub value-good : (sites : ℕ) (w : List ℕ) → has_good_number sites (fields.value, w) ≡ true → IsSignedDecimal w (number_of_signed w) × (fits_i64 (number_of_signed w) ≡ true)
value-good sites w good =
    let digits = and-left (are_digits (digits_of w)) (fits_i64 (number_of_signed w)) good in (
      record { some = digits-some (digits_of w) digits; digits = digits-all (digits_of w) digits; value = refl },
      and-right (are_digits (digits_of w)) (fits_i64 (number_of_signed w)) good,
    )

mode-good : (w : List ℕ) → Contains mode_words w → (m : Mode) × IsMode w m
mode-good w c =
    ⊎_elim (λ e. (Lost, sym e)) (λ more. ⊎_elim (λ e. (Kept, sym e)) (λ last. ⊎_elim (λ e. (Torn, sym e)) (λ none. absurd (Contains-nil w none))
    (Contains-cases (codes "torn") [] w last)) (Contains-cases (codes "kept") (codes "torn" ∷ []) w more)) (Contains-cases (codes "lost") (codes "kept" ∷ codes "torn" ∷ []) w c)

-- Lists of so many words.

list-nil : (ws : List (List ℕ)) → 0 ≡ length ws → ws ≡ []
list-nil [] e = refl
list-nil (w ∷ ws) e = absurd (omega (arith, e))

pub list-one : (ws : List (List ℕ)) → 1 ≡ length ws → (w : List ℕ) × (ws ≡ w ∷ [])
list-one [] e = absurd (omega (arith, e))
list-one (w ∷ []) e = (w, refl)
list-one (w ∷ x ∷ ws) e = absurd (omega (arith, e))

pub list-two : (ws : List (List ℕ)) → 2 ≡ length ws → (w x : List ℕ) × (ws ≡ w ∷ x ∷ [])
list-two [] e = absurd (omega (arith, e))
list-two (w ∷ ws) e = let one = list-one ws (omega (arith, e)) in (w, one.0, ap (λ (l : List (List ℕ)). w ∷ l) one.1)

pub list-three : (ws : List (List ℕ)) → 3 ≡ length ws → (w x y : List ℕ) × (ws ≡ w ∷ x ∷ y ∷ [])
list-three [] e = absurd (omega (arith, e))
list-three (w ∷ ws) e = let two = list-two ws (omega (arith, e)) in (w, two.0, two.1, ap (λ (l : List (List ℕ)). w ∷ l) two.2)

-- What a line with this first word says.

-- the words of a line without a program
pub split-words : (script : Script) (line : TextLine) (word : List ℕ) → (word ≡ [] → ⊥) → takes_program word ≡ false → first_word line ≡ word
    → words line ≡ word ∷ arguments script line
split-words script line word some plain first = go (words line) refl
  where
    go : (ws : List (List ℕ)) → words line ≡ ws → words line ≡ word ∷ arguments script line
    go [] e = absurd (some (sym first ∙ ap leading_word e))
    go (w ∷ more) e =
        let same : w ≡ word = sym (ap leading_word e) ∙ first in
        let given : words line ≡ word ∷ more = e ∙ ap (λ (x : List ℕ). x ∷ more) same in
        given ∙ ap (λ (ws : List (List ℕ)). word ∷ ws) (sym (arguments-plain script line word more plain given))

-- so many words, each of which suits
pub record Reads (before : Before) (line : TextLine) (word : List ℕ) (form : List Field) (count : ℕ) : Type 0 where
  pub given : List (List ℕ)
  pub args : arguments before.script line ≡ given
  pub many : count ≡ length given
  pub suit : Each (Suits before word) (beside form given)

abbrev pub HasOnly : Script → List ℕ → ℕ → List Field → Type 0
HasOnly script word count form = (n : ℕ) → look script word n ≡ cond (count == n) (Some form) None

pub reads : (before : Before) (line : TextLine) (word : List ℕ) (form : List Field) (count : ℕ) → Fits before line → first_word line ≡ word
    → form_of before.script line ≡ Some form → count ≡ length (arguments before.script line) → Reads before line word form count
reads before line word form count fits first found many = record {
  given = arguments before.script line;
  args = refl;
  many = many;
  suit = subst (λ (w : List ℕ). Each (Suits before w) (beside form (arguments before.script line))) first (rw found at fits.each);
}

pub reads-only : (before : Before) (line : TextLine) (word : List ℕ) (form : List Field) (count : ℕ) → Fits before line → first_word line ≡ word → HasOnly before.script word count form → Reads before line word form count
reads-only before line word form count fits first only =
    let at : look before.script word (length (arguments before.script line)) ≡ Some fits.form =
    subst (λ (w : List ℕ). look before.script w (length (arguments before.script line)) ≡ Some fits.form) first (sym (form_of-look before.script line) ∙ fits.formed) in
    let is = one-form count (length (arguments before.script line)) form fits.form (sym (only (length (arguments before.script line))) ∙ at) in
    reads before line word form count fits first (fits.formed ∙ ap Some (sym is.1)) is.0

-- a first word that isn't empty and takes no program
pub record IsPlain (word : List ℕ) : Type 0 where
  pub some : word ≡ [] → ⊥
  pub plain : takes_program word ≡ false

abbrev pub OneNumber : List ℕ → ℕ → ℕ → TextLine → Type 0
OneNumber word least most line = (n : ℕ) × IsOne word (λ w. IsIn least most w n) line

pub one-number : (before : Before) (line : TextLine) (word : List ℕ) (least most : ℕ) → IsPlain word → first_word line ≡ word → Reads before line word (fields.number least most ∷ []) 1 → OneNumber word least most line
one-number before line word least most plain first is =
    let one = list-one is.given is.many in
    let said : words line ≡ word ∷ one.0 ∷ [] = split-words before.script line word plain.some plain.plain first ∙ ap (λ (ws : List (List ℕ)). word ∷ ws) (is.args ∙ one.1) in
    let suit = rw (one.1) at is.suit in
    (number_of_digits one.0, (one.0, said, in-good (or_default 0 before.sites) least most one.0 suit.0))

abbrev pub OneSite : Before → List ℕ → TextLine → Type 0
OneSite before word line = (n : ℕ) × IsOne word (λ w. IsDeclaredSite before w n) line

pub one-site : (before : Before) (line : TextLine) (word : List ℕ) → IsPlain word → first_word line ≡ word → Reads before line word (fields.site ∷ []) 1 → OneSite before word line
one-site before line word plain first is =
    let one = list-one is.given is.many in
    let said : words line ≡ word ∷ one.0 ∷ [] = split-words before.script line word plain.some plain.plain first ∙ ap (λ (ws : List (List ℕ)). word ∷ ws) (is.args ∙ one.1) in
    let suit = rw (one.1) at is.suit in
    (number_of_digits one.0, (one.0, said, site-good before one.0 suit.0))

pub alone : (before : Before) (line : TextLine) (word : List ℕ) → IsPlain word → first_word line ≡ word → Reads before line word [] 0 → IsAlone word line
alone before line word plain first is =
    split-words before.script line word plain.some plain.plain first ∙ ap (λ (ws : List (List ℕ)). word ∷ ws) (is.args ∙ list-nil is.given is.many)

abbrev pub SomeArm : Before → List ℕ → TextLine → Type 0
SomeArm before word line = (site call : ℕ) × (mode : Mode) × IsArm before word site call mode line

pub some-arm : (before : Before) (line : TextLine) (word : List ℕ) → IsPlain word → first_word line ≡ word → Reads before line word (fields.site ∷ fields.number 1 MAX_CALL ∷ fields.mode ∷ []) 3 → SomeArm before word line
some-arm before line word plain first is =
    let three = list-three is.given is.many in
    let said : words line ≡ word ∷ three.0 ∷ three.1 ∷ three.2 ∷ [] = split-words before.script line word plain.some plain.plain first ∙ ap (λ (ws : List (List ℕ)). word ∷ ws) (is.args ∙ three.3) in
    let suit = rw (three.3) at is.suit in
    let mode = mode-good three.2 suit.1.1.0 in
    (number_of_digits three.0, number_of_digits three.1, mode.0, (three.0, three.1, three.2, said, site-good before three.0 suit.0, in-good (or_default 0 before.sites) 1 MAX_CALL three.1 suit.1.0, mode.1))

-- The lines of a schedule's text, one after another.
use Rattle.std.proofs.Common.{◌≡◌, ℕ, zero, suc, ◌+◌, Bool, true, false, List, [], ◌∷◌, ◌++◌, filter, drop, length, take, get_or, cond, refl, sym, ap, ◌∙◌, add-one, arith}
use Rattle.std.specs.Prelude.{◌&&◌}
use Rattle.std.specs.List.{list_all}
use Rattle.std.specs.Str.Lines.{strip_carriage_return}
use Rattle.std.proofs.lemmas.Bool.{and_right}
use Rattle.std.proofs.lemmas.List.{append-nil, append_assoc}
use Rattle.pv_base.specs.Name.{is_blank}
use Rattle.pv_model.specs.FirstMisplaced.{without_numbers}
use Rattle.pv_model.specs.LineForms.{before_blanks}
use Rattle.pv_model.specs.Schedule.{significant}
use Rattle.pv_model.specs.Text.{TextLine, is_significant, lines, numbered, significant_from}
use Rattle.pv_run.specs.Traced.{first_said, said_texts}

-- ---- the lines that count

counts-step : (n : ℕ) (line : TextLine) (later : List TextLine) (counts : Bool) → is_significant line ≡ counts
    → without_numbers (significant_from (n + 1) later) ≡ filter is_significant later
    → without_numbers (significant_from n (line ∷ later)) ≡ cond counts (line ∷ filter is_significant later) (filter is_significant later)
counts-step n line later true is more =
    ap (λ (yes : Bool). without_numbers (cond yes ((n, line) ∷ significant_from (n + 1) later) (significant_from (n + 1) later))) is ∙ ap (λ (ls : List TextLine). line ∷ ls) more
counts-step n line later false is more =
    ap (λ (yes : Bool). without_numbers (cond yes ((n, line) ∷ significant_from (n + 1) later) (significant_from (n + 1) later))) is ∙ more

-- However they are numbered, they are those that count.
counted : (n : ℕ) (all : List TextLine) → without_numbers (significant_from n all) ≡ filter is_significant all
counted n [] = refl
counted n (line ∷ later) = counts-step n line later (is_significant line) refl (counted (n + 1) later)

significant-lines : (text : List ℕ) → significant text ≡ filter is_significant (lines text)
unfolding numbered
significant-lines text = counted 1 (lines text)

-- The first line of a text counts, or not.
first-counts : (text later : List ℕ) (line : TextLine) → lines text ≡ line ∷ lines later → is_significant line ≡ true → significant text ≡ line ∷ significant later
first-counts text later line is counts =
    significant-lines text ∙ ap (filter is_significant) is ∙ ap (λ (yes : Bool). cond yes (line ∷ filter is_significant (lines later)) (filter is_significant (lines later))) counts
    ∙ ap (λ (ls : List TextLine). line ∷ ls) (sym (significant-lines later))

pub first-line-counts : (text first later : List ℕ) (line : TextLine) (test : Bool) → lines text ≡ strip_carriage_return first ∷ lines later → line ≡ strip_carriage_return first
    → test ≡ is_significant line → test ≡ true → significant text ≡ line ∷ significant later
first-line-counts text first later line test is stripped tested counts =
    first-counts text later line (is ∙ ap (λ (l : TextLine). l ∷ lines later) (sym stripped)) (sym tested ∙ counts)

pub first-line-skipped : (text first later : List ℕ) (line : TextLine) (test : Bool) → lines text ≡ strip_carriage_return first ∷ lines later → line ≡ strip_carriage_return first
    → test ≡ is_significant line → test ≡ false → significant text ≡ significant later
first-line-skipped text first later line test is stripped tested skipped =
    significant-lines text ∙ ap (filter is_significant) (is ∙ ap (λ (l : TextLine). l ∷ lines later) (sym stripped))
    ∙ ap (λ (yes : Bool). cond yes (line ∷ filter is_significant (lines later)) (filter is_significant (lines later))) (sym tested ∙ skipped)
    ∙ sym (significant-lines later)

-- An empty text has none.
pub significant-nil : (text : List ℕ) → length text ≡ 0 → significant text ≡ []
unfolding numbered lines
significant-nil [] none = refl
significant-nil (b ∷ bs) none = absurd (omega (arith, none))

-- ---- several of them

drop-suc : {A : Type 0} (n : ℕ) (xs : List A) → drop 1 (drop n xs) ≡ drop (suc n) xs
drop-suc zero xs = refl
drop-suc (suc n) [] = refl
drop-suc (suc n) (x ∷ xs) = drop-suc n xs

pub drop-next : {A : Type 0} (n : ℕ) (xs : List A) → drop 1 (drop n xs) ≡ drop (n + 1) xs
drop-next n xs = drop-suc n xs ∙ ap (λ (k : ℕ). drop k xs) (sym (add-one n))

said-next : (n : ℕ) (said : List TextLine) → said_texts (take n said) ++ first_said (drop n said) ≡ said_texts (take (suc n) said)
said-next zero [] = refl
said-next zero (line ∷ said) = sym (append-nil (first_said (line ∷ said)))
said-next (suc n) [] = refl
said-next (suc n) (line ∷ said) =
    append_assoc (first_said (line ∷ [])) (said_texts (take n said)) (first_said (drop n said)) ∙ ap (λ (text : List ℕ). first_said (line ∷ []) ++ text) (said-next n said)

-- One more line comes after the others.
pub said-on : (n : ℕ) (said : List TextLine) (first before after : List ℕ) → before ≡ first ++ said_texts (take n said) → after ≡ before ++ first_said (drop n said)
    → after ≡ first ++ said_texts (take (n + 1) said)
said-on n said first before after so_far more =
    more ∙ ap (λ (text : List ℕ). text ++ first_said (drop n said)) so_far ∙ append_assoc first (said_texts (take n said)) (first_said (drop n said))
    ∙ ap (λ (text : List ℕ). first ++ text) (said-next n said) ∙ ap (λ (k : ℕ). first ++ said_texts (take k said)) (sym (add-one n))

-- ---- the blanks at the end of a line

-- The last byte is a blank that doesn't count, or ends the text.
pub trims : (bs : List ℕ) (k : ℕ) (test : Bool) → k + 1 ≡ length bs → is_blank (get_or bs k 0) ≡ test
    → (before_blanks bs ≡ cond test (before_blanks (take k bs)) bs) × (list_all is_blank bs ≡ cond test (list_all is_blank (take k bs)) false)
trims [] k test last is = absurd (omega (arith, last))
trims (b ∷ bs) zero test last is = one bs (omega (arith, last)) test is
  where
    one : (more : List ℕ) → length more ≡ 0 → (test : Bool) → is_blank b ≡ test
        → (before_blanks (b ∷ more) ≡ cond test [] (b ∷ more)) × (list_all is_blank (b ∷ more) ≡ cond test true false)
    one [] none true is = (ap (λ (x : Bool). cond (x && true) [] (b ∷ [])) is, ap (λ (x : Bool). x && true) is)
    one [] none false is = (ap (λ (x : Bool). cond (x && true) [] (b ∷ [])) is, ap (λ (x : Bool). x && true) is)
    one (c ∷ more) none test is = absurd (omega (arith, none))
trims (b ∷ bs) (suc k) true last is =
    let more = trims bs k true (omega (arith, last)) is in
    let all : list_all is_blank (b ∷ bs) ≡ list_all is_blank (b ∷ take k bs) = ap (λ (x : Bool). is_blank b && x) more.1 in
    (ap (λ (x : Bool). cond x [] (b ∷ before_blanks bs)) all ∙ ap (λ (rest : List ℕ). cond (list_all is_blank (b ∷ take k bs)) [] (b ∷ rest)) more.0, all)
trims (b ∷ bs) (suc k) false last is =
    let more = trims bs k false (omega (arith, last)) is in
    let some : list_all is_blank (b ∷ bs) ≡ false = and_right (is_blank b) (list_all is_blank bs) more.1 in
    (ap (λ (x : Bool). cond x [] (b ∷ before_blanks bs)) some ∙ ap (λ (rest : List ℕ). b ∷ rest) more.0, some)

-- What is before the blanks at the end, as they are taken off.
use Rattle.std.proofs.Common.{◌≡◌, ℕ, zero, suc, ◌+◌, Bool, true, false, List, [], ◌∷◌, length, take, get_or, cond, sym, ap, ◌∙◌, arith}
use Rattle.std.specs.Prelude.{◌&&◌}
use Rattle.std.specs.List.{list_all}
use Rattle.std.proofs.lemmas.Bool.{and_left, and_right}
use Rattle.pv_base.specs.Name.{is_blank}
use Rattle.pv_model.specs.LineForms.{before_blanks}

-- the last byte is no blank
pub keeps : (bs : List ℕ) (k : ℕ) → k + 1 ≡ length bs → is_blank (get_or bs k 0) ≡ false → (before_blanks bs ≡ bs) × (list_all is_blank bs ≡ false)
keeps [] k within text = absurd (omega arith)
keeps (b ∷ bs) zero within text = go bs (omega arith)
  where
    go : (more : List ℕ) → length more ≡ 0 → (before_blanks (b ∷ more) ≡ b ∷ more) × (list_all is_blank (b ∷ more) ≡ false)
    go [] none = let some : list_all is_blank (b ∷ []) ≡ false = and_left (is_blank b) true text in (ap (λ (blank : Bool). cond blank [] (b ∷ [])) some, some)
    go (c ∷ more) none = absurd (omega arith)
keeps (b ∷ bs) (suc k) within text =
    let more = keeps bs k (omega arith) text in
    let some : list_all is_blank (b ∷ bs) ≡ false = and_right (is_blank b) (list_all is_blank bs) more.1 in
    (ap (λ (blank : Bool). cond blank [] (b ∷ before_blanks bs)) some ∙ ap (λ (rest : List ℕ). b ∷ rest) more.0, some)

-- the last byte is a blank
pub drops : (bs : List ℕ) (k : ℕ) → k + 1 ≡ length bs → is_blank (get_or bs k 0) ≡ true
    → (before_blanks (take k bs) ≡ before_blanks bs) × (list_all is_blank (take k bs) ≡ list_all is_blank bs)
drops [] k within blank = absurd (omega arith)
drops (b ∷ bs) zero within blank = go bs (omega arith)
  where
    go : (more : List ℕ) → length more ≡ 0 → ([] ≡ before_blanks (b ∷ more)) × (true ≡ list_all is_blank (b ∷ more))
    go [] none = let all : list_all is_blank (b ∷ []) ≡ true = ap (λ (x : Bool). x && true) blank in (sym (ap (λ (x : Bool). cond x [] (b ∷ [])) all), sym all)
    go (c ∷ more) none = absurd (omega arith)
drops (b ∷ bs) (suc k) within blank =
    let more = drops bs k (omega arith) blank in
    let all : list_all is_blank (b ∷ take k bs) ≡ list_all is_blank (b ∷ bs) = ap (λ (x : Bool). is_blank b && x) more.1 in
    (ap (λ (x : Bool). cond x [] (b ∷ before_blanks (take k bs))) all ∙ ap (λ (rest : List ℕ). cond (list_all is_blank (b ∷ bs)) [] (b ∷ rest)) more.0, all)

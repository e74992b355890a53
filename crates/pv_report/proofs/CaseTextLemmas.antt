-- The text of cases, the first one apart.
use Rattle.std.proofs.Common.{◌≡◌, ℕ, ℤ, List, [], ◌∷◌, ◌++◌, sym, ap, ◌∙◌, append_assoc}
use Rattle.std.specs.Prelude.{codes, flat_map}
use Rattle.std.proofs.lemmas.List.{append-nil}
use Rattle.pv_base.specs.Polyvalue.{Case}
use Rattle.pv_protocol.specs.LineText.{case_text, cases_text}

-- the text of the cases behind the first
abbrev pub others_text : List (Case ℤ) → List ℕ
others_text others = flat_map (λ case. codes " ; " ++ case_text case) others

-- Behind the first case each one has ` ; ` before it.
cases_text-cons : (first : Case ℤ) (others : List (Case ℤ)) → cases_text (first ∷ others) ≡ case_text first ++ others_text others
cases_text-cons first [] = sym (append-nil (case_text first))
cases_text-cons first (other ∷ others) =
    ap (λ (rest : List ℕ). case_text first ++ (codes " ; " ++ rest)) (cases_text-cons other others)
    ∙ ap (λ (rest : List ℕ). case_text first ++ rest) (sym (append_assoc (codes " ; ") (case_text other) (others_text others)))

-- The first case is written, and then the others.
pub cases-written : (cases : List (Case ℤ)) (first : Case ℤ) (others : List (Case ℤ)) (old between new : List ℕ)
    → cases ≡ first ∷ others → between ≡ old ++ case_text first → new ≡ between ++ others_text others → new ≡ old ++ cases_text cases
cases-written cases first others old between new parts before after =
    after ∙ ap (λ (l : List ℕ). l ++ others_text others) before ∙ append_assoc old (case_text first) (others_text others)
    ∙ ap (λ (l : List ℕ). old ++ l) (sym (ap cases_text parts ∙ cases_text-cons first others))

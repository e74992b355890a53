-- Every text is a program or is refused.
use Rattle.std.proofs.Common.{◌≡◌, ℕ, ◌+◌, ◌≤◌, Bool, true, false, Option, Some, None, List, length, refl, inl, inr}
use Rattle.std.specs.Prelude.{nat_le, ◌⊎◌}
use Rattle.std.proofs.lemmas.Bool.{leb-true, leb-false}
use Rattle.pv_base.specs.declared.limits.TheConstants.{MAX_LINE}
use Rattle.pv_base.specs.Catalog.{Declared}
use Rattle.pv_model.specs.Syntax.{Program}
use Rattle.pv_model.specs.Tokens.{Token, HasTokens}
use Rattle.pv_model.specs.ProgramText.{Kind, item_in, IsProgramText, Refusal, too_large, at_fault, IsRefused}
use Rattle.pv_law_programs.specs.Prediction.{at_start, first_fault}
use Rattle.pv_law_programs.proofs.LeftmostLemmas.{refused}
use Rattle.pv_law_programs.proofs.AcceptedLemmas.{accepted-reads}
use Rattle.pv_law_programs.proofs.SomeTokens.{some_tokens}

-- a text is a program, or is refused
abbrev Answer : Declared → List ℕ → Type 0
Answer catalog text = ((p : Program) × IsProgramText catalog text p) ⊎ ((r : Refusal) × IsRefused catalog text r)

answer_of : (catalog : Declared) (text : List ℕ) (ts : List (ℕ × Token)) (x : Option (Kind × ℕ)) → length text ≤ MAX_LINE → HasTokens text ts
    → first_fault (item_in catalog) (length text + 1) at_start ts ≡ x → Answer catalog text
answer_of catalog text ts None short has e = inl (accepted-reads catalog text ts short has e)
answer_of catalog text ts (Some f) short has e = inr (at_fault f.0 f.1, refused catalog text ts f.0 f.1 short has e)

by_size : (catalog : Declared) (text : List ℕ) (b : Bool) → nat_le (length text) MAX_LINE ≡ b → Answer catalog text
by_size catalog text true e =
    let ts = some_tokens text in
    answer_of catalog text ts.0 (first_fault (item_in catalog) (length text + 1) at_start ts.0) (leb-true (length text) MAX_LINE e) ts.1 refl
by_size catalog text false e = inr (too_large (length text), (refl, leb-false (length text) MAX_LINE e))

pub some_answer : (catalog : Declared) (text : List ℕ) → ((p : Program) × IsProgramText catalog text p) ⊎ ((r : Refusal) × IsRefused catalog text r)
some_answer catalog text = by_size catalog text (nat_le (length text) MAX_LINE) refl

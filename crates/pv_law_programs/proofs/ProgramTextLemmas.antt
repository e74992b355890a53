-- A text is one program at most, and is refused in one way at most.
use Rattle.std.proofs.Common.{◌≡◌, ℕ, List, refl, sym, ap, ◌∙◌, subst, inl, inr, arith}
use Rattle.pv_base.specs.Catalog.{Declared}
use Rattle.pv_model.specs.Syntax.{Program}
use Rattle.pv_model.specs.FirstMisplaced.{without_numbers}
use Rattle.pv_model.specs.Tokens.{Token}
use Rattle.pv_model.specs.ProgramText.{item_in, AreProgram, IsProgramText, Kind, malformed, unknown_name, too_deep, kind_rank, ComesFirst, Refusal, too_large, at_fault, IsRefused}
use Rattle.pv_law_programs.proofs.TokenLemmas.{one_token_list}
use Rattle.pv_law_programs.proofs.GrammarLemmas.{one_program}

pub one_program_text : (catalog : Declared) (text : List ℕ) (p q : Program) → IsProgramText catalog text p → IsProgramText catalog text q → p ≡ q
one_program_text catalog text p q a b =
    let tokens : a.tokens ≡ b.tokens = one_token_list a.has b.has in
    let moved = subst (λ (ts : List (ℕ × Token)). AreProgram (item_in catalog) (without_numbers ts) p) tokens a.are in
    one_program (item_in catalog) (without_numbers b.tokens) p q moved b.are

one_rank : (a b : Kind) → kind_rank a ≡ kind_rank b → a ≡ b
one_rank malformed malformed e = refl
one_rank unknown_name unknown_name e = refl
one_rank too_deep too_deep e = refl
one_rank malformed unknown_name e = absurd (omega (arith, e))
one_rank malformed too_deep e = absurd (omega (arith, e))
one_rank unknown_name malformed e = absurd (omega (arith, e))
one_rank unknown_name too_deep e = absurd (omega (arith, e))
one_rank too_deep malformed e = absurd (omega (arith, e))
one_rank too_deep unknown_name e = absurd (omega (arith, e))

both_first : (a b : Kind) (m n : ℕ) → ComesFirst a m b n → ComesFirst b n a m → at_fault a m ≡ at_fault b n
both_first a b m n (inl x) (inl y) = absurd (omega (arith, x, y))
both_first a b m n (inl x) (inr y) = absurd (omega (arith, x, y.0))
both_first a b m n (inr x) (inl y) = absurd (omega (arith, x.0, y))
both_first a b m n (inr x) (inr y) =
    let kind = one_rank a b (omega (arith, x.1, y.1)) in
    λ i. at_fault (kind i) (x.0 i)

pub one_refusal : (catalog : Declared) (text : List ℕ) (r s : Refusal) → IsRefused catalog text r → IsRefused catalog text s → r ≡ s
one_refusal catalog text (too_large m) (too_large n) p q = ap too_large (p.0 ∙ sym q.0)
one_refusal catalog text (too_large m) (at_fault b n) p q = absurd (omega (arith, p.0, p.1, q.0))
one_refusal catalog text (at_fault a m) (too_large n) p q = absurd (omega (arith, q.0, q.1, p.0))
one_refusal catalog text (at_fault a m) (at_fault b n) p q =
    both_first a b m n (p.1.first b n q.1.has) (q.1.first a m p.1.has)

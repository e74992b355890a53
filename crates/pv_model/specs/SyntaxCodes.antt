-- A device that no claim names: programs as lists, from which they can be had back. A type that is seen as a program needs such a code.
use Rattle.std.specs.Prelude.{◌≡◌, ℕ, zero, suc, ℤ, List, [], ◌∷◌, ◌⊎◌, get_or, refl}
use Rattle.std.proofs.Common.{inl, inr, ap, ◌∙◌}
use Rattle.std.specs.Coded.{Coded, code_by, coded_list, coded_ℕ, coded_ℤ, coded×, coded⊎}
use Rattle.pv_model.specs.Syntax.{Op, or, and, equal, unequal, less, at_most, greater, at_least, plus, sub, times, over, rest, lesser, larger, Expr, number, item, minus, negation, two, Program, end, assign, require, certain, return, when, when_else}

abbrev ops : List Op
ops =
    or ∷ and ∷ equal ∷ unequal ∷ less ∷ at_most ∷ greater ∷ at_least ∷ plus ∷ sub ∷ times ∷ over ∷ rest ∷ lesser ∷ larger ∷ []

abbrev op_at : ℕ → Op
op_at n = get_or ops n or

abbrev op_place : Op → ℕ
op_place or = 0
op_place and = 1
op_place equal = 2
op_place unequal = 3
op_place less = 4
op_place at_most = 5
op_place greater = 6
op_place at_least = 7
op_place plus = 8
op_place sub = 9
op_place times = 10
op_place over = 11
op_place rest = 12
op_place lesser = 13
op_place larger = 14

pub op_at-op_place : (op : Op) → op_at (op_place op) ≡ op
op_at-op_place or = refl
op_at-op_place and = refl
op_at-op_place equal = refl
op_at-op_place unequal = refl
op_at-op_place less = refl
op_at-op_place at_most = refl
op_at-op_place greater = refl
op_at-op_place at_least = refl
op_at-op_place plus = refl
op_at-op_place sub = refl
op_at-op_place times = refl
op_at-op_place over = refl
op_at-op_place rest = refl
op_at-op_place lesser = refl
op_at-op_place larger = refl

-- a number, an item, or what is done with the expressions before it: 0 for minus, 1 for not, and 2 more than the place of an operator
abbrev Instruction : Type 0
Instruction = ℤ ⊎ (ℕ ⊎ ℕ)

-- the instructions of an expression, each after those of its parts, and then these
abbrev instructions : Expr → List Instruction → List Instruction
instructions (number z) more = inl z ∷ more
instructions (item n) more = inr (inl n) ∷ more
instructions (minus e) more = instructions e (inr (inr 0) ∷ more)
instructions (negation e) more = instructions e (inr (inr 1) ∷ more)
instructions (two op left right) more = instructions left (instructions right (inr (inr (suc (suc (op_place op)))) ∷ more))

-- what an instruction makes of the expressions before it, the last one first
abbrev done_by : Instruction → List Expr → List Expr
done_by (inl z) done = number z ∷ done
done_by (inr (inl n)) done = item n ∷ done
done_by (inr (inr zero)) (e ∷ done) = minus e ∷ done
done_by (inr (inr (suc zero))) (e ∷ done) = negation e ∷ done
done_by (inr (inr (suc (suc n)))) (right ∷ left ∷ done) = two (op_at n) left right ∷ done
done_by (inr (inr n)) done = done

abbrev all_done : List Instruction → List Expr → List Expr
all_done [] done = done
all_done (instruction ∷ more) done = all_done more (done_by instruction done)

pub all_done-instructions : (e : Expr) (more : List Instruction) (done : List Expr) → all_done (instructions e more) done ≡ all_done more (e ∷ done)
all_done-instructions (number z) more done = refl
all_done-instructions (item n) more done = refl
all_done-instructions (minus e) more done = all_done-instructions e (inr (inr 0) ∷ more) done
all_done-instructions (negation e) more done = all_done-instructions e (inr (inr 1) ∷ more) done
all_done-instructions (two op left right) more done =
    let instruction : Instruction = inr (inr (suc (suc (op_place op)))) in
    all_done-instructions left (instructions right (instruction ∷ more)) done
    ∙ all_done-instructions right (instruction ∷ more) (left ∷ done)
    ∙ ap (λ (o : Op). all_done more (two o left right ∷ done)) (op_at-op_place op)

abbrev last_expr : List Expr → Expr
last_expr [] = item 0
last_expr (e ∷ done) = e

abbrev pub expr_code : Coded Expr
expr_code =
    code_by (List Instruction) (coded_list (coded⊎ coded_ℤ (coded⊎ coded_ℕ coded_ℕ))) (λ e. instructions e []) (λ all. last_expr (all_done all [])) (λ e. ap last_expr (all_done-instructions e [] []))

-- the kind of a statement from 0 in the order of their declaration, its item and its expression
abbrev Sign : Type 0
Sign = ℕ × (ℕ × Expr)

-- the signs of a program, each after those of its parts, and then these
abbrev signs : Program → List Sign → List Sign
signs end more = (0, (0, item 0)) ∷ more
signs (assign n e next) more = signs next ((1, (n, e)) ∷ more)
signs (require e next) more = signs next ((2, (0, e)) ∷ more)
signs (certain n next) more = signs next ((3, (n, item 0)) ∷ more)
signs (return e next) more = signs next ((4, (0, e)) ∷ more)
signs (when e body next) more = signs body (signs next ((5, (0, e)) ∷ more))
signs (when_else e body other next) more = signs body (signs other (signs next ((6, (0, e)) ∷ more)))

-- what a sign makes of the programs before it, the last one first
abbrev signed : ℕ → ℕ → Expr → List Program → List Program
signed zero n e done = end ∷ done
signed (suc zero) n e (next ∷ done) = assign n e next ∷ done
signed (suc (suc zero)) n e (next ∷ done) = require e next ∷ done
signed (suc (suc (suc zero))) n e (next ∷ done) = certain n next ∷ done
signed (suc (suc (suc (suc zero)))) n e (next ∷ done) = return e next ∷ done
signed (suc (suc (suc (suc (suc zero))))) n e (next ∷ body ∷ done) = when e body next ∷ done
signed (suc (suc (suc (suc (suc (suc k)))))) n e (next ∷ other ∷ body ∷ done) = when_else e body other next ∷ done
signed k n e done = done

abbrev all_signed : List Sign → List Program → List Program
all_signed [] done = done
all_signed (sign ∷ more) done = all_signed more (signed sign.0 sign.1.0 sign.1.1 done)

pub all_signed-signs : (p : Program) (more : List Sign) (done : List Program) → all_signed (signs p more) done ≡ all_signed more (p ∷ done)
all_signed-signs end more done = refl
all_signed-signs (assign n e next) more done = all_signed-signs next ((1, (n, e)) ∷ more) done
all_signed-signs (require e next) more done = all_signed-signs next ((2, (0, e)) ∷ more) done
all_signed-signs (certain n next) more done = all_signed-signs next ((3, (n, item 0)) ∷ more) done
all_signed-signs (return e next) more done = all_signed-signs next ((4, (0, e)) ∷ more) done
all_signed-signs (when e body next) more done =
    let sign : Sign = (5, (0, e)) in
    all_signed-signs body (signs next (sign ∷ more)) done ∙ all_signed-signs next (sign ∷ more) (body ∷ done)
all_signed-signs (when_else e body other next) more done =
    let sign : Sign = (6, (0, e)) in
    all_signed-signs body (signs other (signs next (sign ∷ more))) done
    ∙ all_signed-signs other (signs next (sign ∷ more)) (body ∷ done)
    ∙ all_signed-signs next (sign ∷ more) (other ∷ body ∷ done)

abbrev last_program : List Program → Program
last_program [] = end
last_program (p ∷ done) = p

abbrev pub program_code : Coded Program
program_code =
    code_by (List Sign) (coded_list (coded× coded_ℕ (coded× coded_ℕ expr_code))) (λ p. signs p []) (λ all. last_program (all_signed all [])) (λ p. ap last_program (all_signed-signs p [] []))

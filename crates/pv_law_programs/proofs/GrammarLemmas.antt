-- Tokens are one program at most.
use Rattle.std.proofs.Common.{◌≡◌, ℕ, suc, pos, Bool, false, Option, List, [], ◌∷◌, refl, sym, ap, ◌∙◌, subst}
use Rattle.std.specs.Prelude.{IsTrue, nat_le, ◌==◌}
use Rattle.std.proofs.lemmas.Bool.{eq-eqb}
use Rattle.pv_model.specs.Syntax.{Op, Expr, Program}
use Rattle.pv_model.specs.Syntax.Op.{or, and, equal, unequal, less, at_most, greater, at_least, plus, sub, times, over, rest, lesser, larger}
use Rattle.pv_model.specs.Syntax.Expr.{number, item, minus, negation, two}
use Rattle.pv_model.specs.Syntax.Program.{assign, require, certain, return, when, when_else}
use Rattle.pv_model.specs.Tokens.{Token}
use Rattle.pv_model.specs.Grammar.{Nested, Chain, disjunction, conjunction, sum, product, Phrase, chain, negated, comparison, unary, joins, compares, is_min_or_max, side, Reads, chained, not, not_negated, compared, not_compared, negative, numeral, named, in_brackets, of_two, GoesOn, no_more, one_more, ReadsProgram, assigns, requires, requires_certain, returns, asks, asks_else, ReadsNext, last, next}
use Rattle.pv_model.specs.ProgramText.{without_nestings, AreProgram}
use Rattle.pv_base.proofs.Basics.{never, Some_inj, heads, tails}

-- how far from the outside the operator joins: 0 where it doesn't stand between two sides
abbrev pub level : Op → ℕ
level or = 1
level and = 2
level equal = 3
level unequal = 3
level less = 3
level at_most = 3
level greater = 3
level at_least = 3
level plus = 4
level sub = 4
level times = 5
level over = 5
level rest = 5
level lesser = 0
level larger = 0

-- the operators of lower levels don't go on this part
abbrev pub limit : Phrase → ℕ
limit (chain disjunction) = 1
limit (chain conjunction) = 2
limit (chain sum) = 4
limit (chain product) = 5
limit negated = 3
limit comparison = 3
limit unary = 6

abbrev pub stops_at : Phrase → Op → Bool
stops_at phrase op = nat_le (suc (level op)) (limit phrase)

-- what follows doesn't go on this part
abbrev pub EndsPhrase : Phrase → List Token → Type 0
EndsPhrase phrase (Token.operator op ∷ ts) = IsTrue (stops_at phrase op)
EndsPhrase phrase _ = Unit {0}

-- what follows doesn't go on a program
abbrev pub EndsProgram : List Token → Type 0
EndsProgram (Token.operator op ∷ ts) = ⊥
EndsProgram (Token.then_next ∷ ts) = ⊥
EndsProgram (Token.otherwise ∷ ts) = ⊥
EndsProgram _ = Unit {0}

abbrev pub E : List Nested → List Token
E ts = without_nestings ts

abbrev pub tag : Token → ℕ
tag (Token.name x) = 0
tag (Token.number x) = 1
tag (Token.operator x) = 2
tag Token.negates = 3
tag Token.asks = 4
tag Token.otherwise = 5
tag Token.requires = 6
tag Token.returns = 7
tag Token.becomes = 8
tag Token.opens = 9
tag Token.closes = 10
tag Token.opens_body = 11
tag Token.closes_body = 12
tag Token.then_next = 13
tag Token.parts = 14
tag Token.certain = 15
tag (Token.stray x) = 16

-- Tokens with other tags are others.
pub differ : {x y : Token} {xs ys : List Token} → x ∷ xs ≡ y ∷ ys → (tag x == tag y) ≡ false → ⊥
differ {x} {y} {xs} {ys} e h = never (sym h ∙ ap (λ (t : Token). tag t == tag y) (heads e) ∙ eq-eqb (tag y) (tag y) refl)

pub operator_inj : {a b : Op} → Token.operator a ≡ Token.operator b → a ≡ b
operator_inj e = cc

number_inj : {a b : ℕ} → Token.number a ≡ Token.number b → a ≡ b
number_inj e = cc

name_inj : {a b : List ℕ} → Token.name a ≡ Token.name b → a ≡ b
name_inj e = cc

pub joined_stops_side : (c : Chain) (op : Op) → IsTrue (joins c op) → IsTrue (stops_at (side c) op)
joined_stops_side disjunction or h = refl
joined_stops_side disjunction _ h = absurd (never h)
joined_stops_side conjunction and h = refl
joined_stops_side conjunction _ h = absurd (never h)
joined_stops_side sum plus h = refl
joined_stops_side sum sub h = refl
joined_stops_side sum _ h = absurd (never h)
joined_stops_side product times h = refl
joined_stops_side product over h = refl
joined_stops_side product rest h = refl
joined_stops_side product _ h = absurd (never h)

pub joined_is_no_stop : (c : Chain) (op : Op) → IsTrue (joins c op) → IsTrue (stops_at (chain c) op) → ⊥
joined_is_no_stop disjunction or h k = never k
joined_is_no_stop disjunction _ h k = never h
joined_is_no_stop conjunction and h k = never k
joined_is_no_stop conjunction _ h k = never h
joined_is_no_stop sum plus h k = never k
joined_is_no_stop sum sub h k = never k
joined_is_no_stop sum _ h k = never h
joined_is_no_stop product times h k = never k
joined_is_no_stop product over h k = never k
joined_is_no_stop product rest h k = never k
joined_is_no_stop product _ h k = never h

pub compared_stops_sum : (op : Op) → IsTrue (compares op) → IsTrue (stops_at (chain sum) op)
compared_stops_sum equal h = refl
compared_stops_sum unequal h = refl
compared_stops_sum less h = refl
compared_stops_sum at_most h = refl
compared_stops_sum greater h = refl
compared_stops_sum at_least h = refl
compared_stops_sum _ h = absurd (never h)

pub compared_is_no_stop : (op : Op) → IsTrue (compares op) → IsTrue (stops_at comparison op) → ⊥
compared_is_no_stop equal h k = never k
compared_is_no_stop unequal h k = never k
compared_is_no_stop less h k = never k
compared_is_no_stop at_most h k = never k
compared_is_no_stop greater h k = never k
compared_is_no_stop at_least h k = never k
compared_is_no_stop _ h k = never h

pub stop_of_side : (c : Chain) (op : Op) → IsTrue (stops_at (chain c) op) → IsTrue (stops_at (side c) op)
stop_of_side disjunction or h = absurd (never h)
stop_of_side disjunction and h = absurd (never h)
stop_of_side disjunction equal h = absurd (never h)
stop_of_side disjunction unequal h = absurd (never h)
stop_of_side disjunction less h = absurd (never h)
stop_of_side disjunction at_most h = absurd (never h)
stop_of_side disjunction greater h = absurd (never h)
stop_of_side disjunction at_least h = absurd (never h)
stop_of_side disjunction plus h = absurd (never h)
stop_of_side disjunction sub h = absurd (never h)
stop_of_side disjunction times h = absurd (never h)
stop_of_side disjunction over h = absurd (never h)
stop_of_side disjunction rest h = absurd (never h)
stop_of_side disjunction lesser h = refl
stop_of_side disjunction larger h = refl
stop_of_side conjunction or h = refl
stop_of_side conjunction and h = absurd (never h)
stop_of_side conjunction equal h = absurd (never h)
stop_of_side conjunction unequal h = absurd (never h)
stop_of_side conjunction less h = absurd (never h)
stop_of_side conjunction at_most h = absurd (never h)
stop_of_side conjunction greater h = absurd (never h)
stop_of_side conjunction at_least h = absurd (never h)
stop_of_side conjunction plus h = absurd (never h)
stop_of_side conjunction sub h = absurd (never h)
stop_of_side conjunction times h = absurd (never h)
stop_of_side conjunction over h = absurd (never h)
stop_of_side conjunction rest h = absurd (never h)
stop_of_side conjunction lesser h = refl
stop_of_side conjunction larger h = refl
stop_of_side sum or h = refl
stop_of_side sum and h = refl
stop_of_side sum equal h = refl
stop_of_side sum unequal h = refl
stop_of_side sum less h = refl
stop_of_side sum at_most h = refl
stop_of_side sum greater h = refl
stop_of_side sum at_least h = refl
stop_of_side sum plus h = absurd (never h)
stop_of_side sum sub h = absurd (never h)
stop_of_side sum times h = absurd (never h)
stop_of_side sum over h = absurd (never h)
stop_of_side sum rest h = absurd (never h)
stop_of_side sum lesser h = refl
stop_of_side sum larger h = refl
stop_of_side product or h = refl
stop_of_side product and h = refl
stop_of_side product equal h = refl
stop_of_side product unequal h = refl
stop_of_side product less h = refl
stop_of_side product at_most h = refl
stop_of_side product greater h = refl
stop_of_side product at_least h = refl
stop_of_side product plus h = refl
stop_of_side product sub h = refl
stop_of_side product times h = absurd (never h)
stop_of_side product over h = absurd (never h)
stop_of_side product rest h = absurd (never h)
stop_of_side product lesser h = refl
stop_of_side product larger h = refl

pub stop_of_sum : (op : Op) → IsTrue (stops_at comparison op) → IsTrue (stops_at (chain sum) op)
stop_of_sum or h = refl
stop_of_sum and h = refl
stop_of_sum equal h = absurd (never h)
stop_of_sum unequal h = absurd (never h)
stop_of_sum less h = absurd (never h)
stop_of_sum at_most h = absurd (never h)
stop_of_sum greater h = absurd (never h)
stop_of_sum at_least h = absurd (never h)
stop_of_sum plus h = absurd (never h)
stop_of_sum sub h = absurd (never h)
stop_of_sum times h = absurd (never h)
stop_of_sum over h = absurd (never h)
stop_of_sum rest h = absurd (never h)
stop_of_sum lesser h = refl
stop_of_sum larger h = refl

EndsPhrase-side : (c : Chain) (ts : List Token) → EndsPhrase (chain c) ts → EndsPhrase (side c) ts
EndsPhrase-side c [] h = tt
EndsPhrase-side c (Token.name x ∷ ts) h = tt
EndsPhrase-side c (Token.number x ∷ ts) h = tt
EndsPhrase-side c (Token.operator op ∷ ts) h = stop_of_side c op h
EndsPhrase-side c (Token.negates ∷ ts) h = tt
EndsPhrase-side c (Token.asks ∷ ts) h = tt
EndsPhrase-side c (Token.otherwise ∷ ts) h = tt
EndsPhrase-side c (Token.requires ∷ ts) h = tt
EndsPhrase-side c (Token.returns ∷ ts) h = tt
EndsPhrase-side c (Token.becomes ∷ ts) h = tt
EndsPhrase-side c (Token.opens ∷ ts) h = tt
EndsPhrase-side c (Token.closes ∷ ts) h = tt
EndsPhrase-side c (Token.opens_body ∷ ts) h = tt
EndsPhrase-side c (Token.closes_body ∷ ts) h = tt
EndsPhrase-side c (Token.then_next ∷ ts) h = tt
EndsPhrase-side c (Token.parts ∷ ts) h = tt
EndsPhrase-side c (Token.certain ∷ ts) h = tt
EndsPhrase-side c (Token.stray x ∷ ts) h = tt

pub EndsPhrase-sum : (ts : List Token) → EndsPhrase comparison ts → EndsPhrase (chain sum) ts
EndsPhrase-sum [] h = tt
EndsPhrase-sum (Token.name x ∷ ts) h = tt
EndsPhrase-sum (Token.number x ∷ ts) h = tt
EndsPhrase-sum (Token.operator op ∷ ts) h = stop_of_sum op h
EndsPhrase-sum (Token.negates ∷ ts) h = tt
EndsPhrase-sum (Token.asks ∷ ts) h = tt
EndsPhrase-sum (Token.otherwise ∷ ts) h = tt
EndsPhrase-sum (Token.requires ∷ ts) h = tt
EndsPhrase-sum (Token.returns ∷ ts) h = tt
EndsPhrase-sum (Token.becomes ∷ ts) h = tt
EndsPhrase-sum (Token.opens ∷ ts) h = tt
EndsPhrase-sum (Token.closes ∷ ts) h = tt
EndsPhrase-sum (Token.opens_body ∷ ts) h = tt
EndsPhrase-sum (Token.closes_body ∷ ts) h = tt
EndsPhrase-sum (Token.then_next ∷ ts) h = tt
EndsPhrase-sum (Token.parts ∷ ts) h = tt
EndsPhrase-sum (Token.certain ∷ ts) h = tt
EndsPhrase-sum (Token.stray x ∷ ts) h = tt

EndsPhrase-expr : (ts : List Token) → EndsProgram ts → EndsPhrase (chain disjunction) ts
EndsPhrase-expr [] h = tt
EndsPhrase-expr (Token.name x ∷ ts) h = tt
EndsPhrase-expr (Token.number x ∷ ts) h = tt
EndsPhrase-expr (Token.operator op ∷ ts) h = absurd h
EndsPhrase-expr (Token.negates ∷ ts) h = tt
EndsPhrase-expr (Token.asks ∷ ts) h = tt
EndsPhrase-expr (Token.otherwise ∷ ts) h = tt
EndsPhrase-expr (Token.requires ∷ ts) h = tt
EndsPhrase-expr (Token.returns ∷ ts) h = tt
EndsPhrase-expr (Token.becomes ∷ ts) h = tt
EndsPhrase-expr (Token.opens ∷ ts) h = tt
EndsPhrase-expr (Token.closes ∷ ts) h = tt
EndsPhrase-expr (Token.opens_body ∷ ts) h = tt
EndsPhrase-expr (Token.closes_body ∷ ts) h = tt
EndsPhrase-expr (Token.then_next ∷ ts) h = tt
EndsPhrase-expr (Token.parts ∷ ts) h = tt
EndsPhrase-expr (Token.certain ∷ ts) h = tt
EndsPhrase-expr (Token.stray x ∷ ts) h = tt

pub sub_is_no_prefix : (op : Op) → Token.operator sub ≡ Token.operator op → IsTrue (is_min_or_max op) → ⊥
sub_is_no_prefix op e h = let same : sub ≡ op = cc in never (subst (λ (o : Op). IsTrue (is_min_or_max o)) (sym same) h)

-- the parts that don't begin with `not`
abbrev IsInner : Phrase → Type 0
IsInner (chain disjunction) = ⊥
IsInner (chain conjunction) = ⊥
IsInner negated = ⊥
IsInner _ = Unit {0}

inner_side : (c : Chain) → IsInner (chain c) → IsInner (side c)
inner_side disjunction h = absurd h
inner_side conjunction h = absurd h
inner_side sum h = tt
inner_side product h = tt

module _ (item_of : List ℕ → Option ℕ) where
  pub begins_with_no_not : {phrase : Phrase} {d : ℕ} {ts r : List Nested} {e : Expr} (xs : List Token) → Reads item_of phrase d ts r e → IsInner phrase → E ts ≡ Token.negates ∷ xs → ⊥
  begins_with_no_not xs (chained c d ts mid r left e p g) h eq = begins_with_no_not xs p (inner_side c h) eq
  begins_with_no_not xs (not d ts r e p) h eq = h
  begins_with_no_not xs (not_negated d ts r e p) h eq = absurd h
  begins_with_no_not xs (compared op d ts mid r left right c p q) h eq = begins_with_no_not xs p tt eq
  begins_with_no_not xs (not_compared d ts r e p) h eq = begins_with_no_not xs p tt eq
  begins_with_no_not xs (negative d ts r e p) h eq = differ eq refl
  begins_with_no_not xs (numeral n d r l) h eq = differ eq refl
  begins_with_no_not xs (named word n d r i) h eq = differ eq refl
  begins_with_no_not xs (in_brackets d ts r e p) h eq = differ eq refl
  begins_with_no_not xs (of_two op d ts mid r left right m p q) h eq = differ eq refl

  -- No expression begins with the word `certain`.
  pub begins_with_no_certain : {phrase : Phrase} {d : ℕ} {ts r : List Nested} {e : Expr} (xs : List Token) → Reads item_of phrase d ts r e
      → E ts ≡ Token.certain ∷ xs → ⊥
  begins_with_no_certain xs (chained c d ts mid r left e p g) eq = begins_with_no_certain xs p eq
  begins_with_no_certain xs (not d ts r e p) eq = differ eq refl
  begins_with_no_certain xs (not_negated d ts r e p) eq = begins_with_no_certain xs p eq
  begins_with_no_certain xs (compared op d ts mid r left right c p q) eq = begins_with_no_certain xs p eq
  begins_with_no_certain xs (not_compared d ts r e p) eq = begins_with_no_certain xs p eq
  begins_with_no_certain xs (negative d ts r e p) eq = differ eq refl
  begins_with_no_certain xs (numeral n d r l) eq = differ eq refl
  begins_with_no_certain xs (named word n d r i) eq = differ eq refl
  begins_with_no_certain xs (in_brackets d ts r e p) eq = differ eq refl
  begins_with_no_certain xs (of_two op d ts mid r left right m p q) eq = differ eq refl

  -- A side stops where the chain behind it goes on or stops.
  pub goes_on_stops : {c : Chain} {left e : Expr} {d : ℕ} {mid r : List Nested} → GoesOn item_of c left d mid r e → EndsPhrase (chain c) (E r) → EndsPhrase (side c) (E mid)
  goes_on_stops (no_more c left d r) h = EndsPhrase-side c (E r) h
  goes_on_stops (one_more c op left right e d ts mid r j p g) h = joined_stops_side c op j

  mutual
    one_expr : {phrase : Phrase} {d k : ℕ} {ts us r s : List Nested} {e f : Expr} → Reads item_of phrase d ts r e → Reads item_of phrase k us s f
        → EndsPhrase phrase (E r) → EndsPhrase phrase (E s) → E ts ≡ E us → (e ≡ f) × (E r ≡ E s)
    one_expr (chained c d ts mid r left e p g) (chained c2 d2 ts2 mid2 r2 left2 e2 p2 g2) h h2 eq =
        let first = one_expr p p2 (goes_on_stops g h) (goes_on_stops g2 h2) eq in one_chain g g2 h h2 first.0 first.1
    one_expr (not d ts r e p) (not d2 ts2 r2 e2 p2) h h2 eq =
        let same = one_expr p p2 h h2 (tails eq) in (ap negation same.0, same.1)
    one_expr (not d ts r e p) (not_negated d2 ts2 r2 e2 p2) h h2 eq =
        absurd (begins_with_no_not _ p2 tt (sym eq))
    one_expr (not_negated d ts r e p) (not d2 ts2 r2 e2 p2) h h2 eq =
        absurd (begins_with_no_not _ p tt eq)
    one_expr (not_negated d ts r e p) (not_negated d2 ts2 r2 e2 p2) h h2 eq =
        one_expr p p2 h h2 eq
    one_expr (compared op d ts mid r left right c p q) (compared op2 d2 ts2 mid2 r2 left2 right2 c2 p2 q2) h h2 eq =
        let first = one_expr p p2 (compared_stops_sum op c) (compared_stops_sum op2 c2) eq in let same : op ≡ op2 = operator_inj (heads first.1) in let second = one_expr q q2 (EndsPhrase-sum (E r) h) (EndsPhrase-sum (E r2) h2) (tails first.1) in ((λ i. two (same i) (first.0 i) (second.0 i)), second.1)
    one_expr (compared op d ts mid r left right c p q) (not_compared d2 ts2 r2 e2 p2) h h2 eq =
        let first = one_expr p p2 (compared_stops_sum op c) (EndsPhrase-sum (E r2) h2) eq in absurd (compared_is_no_stop op c (subst (λ (l : List Token). EndsPhrase comparison l) (sym first.1) h2))
    one_expr (not_compared d ts r e p) (compared op2 d2 ts2 mid2 r2 left2 right2 c2 p2 q2) h h2 eq =
        let first = one_expr p p2 (EndsPhrase-sum (E r) h) (compared_stops_sum op2 c2) eq in absurd (compared_is_no_stop op2 c2 (subst (λ (l : List Token). EndsPhrase comparison l) first.1 h))
    one_expr (not_compared d ts r e p) (not_compared d2 ts2 r2 e2 p2) h h2 eq =
        one_expr p p2 (EndsPhrase-sum (E r) h) (EndsPhrase-sum (E r2) h2) eq
    one_expr (negative d ts r e p) (negative d2 ts2 r2 e2 p2) h h2 eq =
        let same = one_expr p p2 h h2 (tails eq) in (ap minus same.0, same.1)
    one_expr (negative d ts r e p) (numeral n2 d2 r2 l2) h h2 eq =
        absurd (differ eq refl)
    one_expr (negative d ts r e p) (named word2 n2 d2 r2 i2) h h2 eq =
        absurd (differ eq refl)
    one_expr (negative d ts r e p) (in_brackets d2 ts2 r2 e2 p2) h h2 eq =
        absurd (differ eq refl)
    one_expr (negative d ts r e p) (of_two op2 d2 ts2 mid2 r2 left2 right2 m2 p2 q2) h h2 eq =
        absurd (sub_is_no_prefix op2 (heads eq) m2)
    one_expr (numeral n d r l) (negative d2 ts2 r2 e2 p2) h h2 eq =
        absurd (differ eq refl)
    one_expr (numeral n d r l) (numeral n2 d2 r2 l2) h h2 eq =
        let same : n ≡ n2 = number_inj (heads eq) in (ap (λ m. number (pos m)) same, tails eq)
    one_expr (numeral n d r l) (named word2 n2 d2 r2 i2) h h2 eq =
        absurd (differ eq refl)
    one_expr (numeral n d r l) (in_brackets d2 ts2 r2 e2 p2) h h2 eq =
        absurd (differ eq refl)
    one_expr (numeral n d r l) (of_two op2 d2 ts2 mid2 r2 left2 right2 m2 p2 q2) h h2 eq =
        absurd (differ eq refl)
    one_expr (named word n d r i) (negative d2 ts2 r2 e2 p2) h h2 eq =
        absurd (differ eq refl)
    one_expr (named word n d r i) (numeral n2 d2 r2 l2) h h2 eq =
        absurd (differ eq refl)
    one_expr (named word n d r i) (named word2 n2 d2 r2 i2) h h2 eq =
        let same : word ≡ word2 = name_inj (heads eq) in (ap item (Some_inj (sym i ∙ ap item_of same ∙ i2)), tails eq)
    one_expr (named word n d r i) (in_brackets d2 ts2 r2 e2 p2) h h2 eq =
        absurd (differ eq refl)
    one_expr (named word n d r i) (of_two op2 d2 ts2 mid2 r2 left2 right2 m2 p2 q2) h h2 eq =
        absurd (differ eq refl)
    one_expr (in_brackets d ts r e p) (negative d2 ts2 r2 e2 p2) h h2 eq =
        absurd (differ eq refl)
    one_expr (in_brackets d ts r e p) (numeral n2 d2 r2 l2) h h2 eq =
        absurd (differ eq refl)
    one_expr (in_brackets d ts r e p) (named word2 n2 d2 r2 i2) h h2 eq =
        absurd (differ eq refl)
    one_expr (in_brackets d ts r e p) (in_brackets d2 ts2 r2 e2 p2) h h2 eq =
        let same = one_expr p p2 tt tt (tails eq) in (same.0, tails same.1)
    one_expr (in_brackets d ts r e p) (of_two op2 d2 ts2 mid2 r2 left2 right2 m2 p2 q2) h h2 eq =
        absurd (differ eq refl)
    one_expr (of_two op d ts mid r left right m p q) (negative d2 ts2 r2 e2 p2) h h2 eq =
        absurd (sub_is_no_prefix op (sym (heads eq)) m)
    one_expr (of_two op d ts mid r left right m p q) (numeral n2 d2 r2 l2) h h2 eq =
        absurd (differ eq refl)
    one_expr (of_two op d ts mid r left right m p q) (named word2 n2 d2 r2 i2) h h2 eq =
        absurd (differ eq refl)
    one_expr (of_two op d ts mid r left right m p q) (in_brackets d2 ts2 r2 e2 p2) h h2 eq =
        absurd (differ eq refl)
    one_expr (of_two op d ts mid r left right m p q) (of_two op2 d2 ts2 mid2 r2 left2 right2 m2 p2 q2) h h2 eq =
        let same : op ≡ op2 = operator_inj (heads eq) in let first = one_expr p p2 tt tt (tails (tails eq)) in let second = one_expr q q2 tt tt (tails first.1) in ((λ i. two (same i) (first.0 i) (second.0 i)), tails second.1)

    one_chain : {c : Chain} {left left2 e f : Expr} {d k : ℕ} {ts us r s : List Nested} → GoesOn item_of c left d ts r e → GoesOn item_of c left2 k us s f
        → EndsPhrase (chain c) (E r) → EndsPhrase (chain c) (E s) → left ≡ left2 → E ts ≡ E us → (e ≡ f) × (E r ≡ E s)
    one_chain (no_more c left d r) (no_more c2 left2 d2 r2) h h2 l eq = (l, eq)
    one_chain (no_more c left d r) (one_more c2 op2 left2 right2 e2 d2 ts2 mid2 r2 j2 p2 g2) h h2 l eq =
        absurd (joined_is_no_stop c2 op2 j2 (subst (λ (x : List Token). EndsPhrase (chain c2) x) eq h))
    one_chain (one_more c op left right e d ts mid r j p g) (no_more c2 left2 d2 r2) h h2 l eq =
        absurd (joined_is_no_stop c op j (subst (λ (x : List Token). EndsPhrase (chain c) x) (sym eq) h2))
    one_chain (one_more c op left right e d ts mid r j p g) (one_more c2 op2 left2 right2 e2 d2 ts2 mid2 r2 j2 p2 g2) h h2 l eq =
        let same : op ≡ op2 = operator_inj (heads eq) in
        let first = one_expr p p2 (goes_on_stops g h) (goes_on_stops g2 h2) (tails eq) in
        one_chain g g2 h h2 (λ i. two (same i) (l i) (first.0 i)) first.1

  pub next_stops : {d : ℕ} {mid r : List Nested} {p : Program} → ReadsNext item_of d mid r p → EndsProgram (E r) → EndsPhrase (chain disjunction) (E mid)
  next_stops (last d r) h = EndsPhrase-expr (E r) h
  next_stops (next d ts r p q) h = tt

  -- Behind a statement that stops there is no "else".
  pub next_is_no_else : {d : ℕ} {mid r : List Nested} {p : Program} (xs : List Token) → ReadsNext item_of d mid r p → EndsProgram (E r) → E mid ≡ Token.otherwise ∷ xs → ⊥
  next_is_no_else xs (last d r) h eq = subst (λ (l : List Token). EndsProgram l) eq h
  next_is_no_else xs (next d ts r p q) h eq = differ eq refl

  mutual
    one_read : {d k : ℕ} {ts us r s : List Nested} {p q : Program} → ReadsProgram item_of d ts r p → ReadsProgram item_of k us s q
        → EndsProgram (E r) → EndsProgram (E s) → E ts ≡ E us → (p ≡ q) × (E r ≡ E s)
    one_read (assigns word n d ts mid r e nx i x y) (assigns word2 n2 d2 ts2 mid2 r2 e2 nx2 i2 x2 y2) h h2 eq =
        let same : word ≡ word2 = name_inj (heads eq) in let n_same : n ≡ n2 = Some_inj (sym i ∙ ap item_of same ∙ i2) in let first = one_expr x x2 (next_stops y h) (next_stops y2 h2) (tails (tails eq)) in let second = one_next y y2 h h2 first.1 in ((λ j. assign (n_same j) (first.0 j) (second.0 j)), second.1)
    one_read (assigns word n d ts mid r e nx i x y) (requires d2 ts2 mid2 r2 e2 nx2 x2 y2) h h2 eq =
        absurd (differ eq refl)
    one_read (assigns word n d ts mid r e nx i x y) (requires_certain word2 n2 d2 mid2 r2 nx2 i2 y2) h h2 eq =
        absurd (differ eq refl)
    one_read (assigns word n d ts mid r e nx i x y) (returns d2 ts2 mid2 r2 e2 nx2 x2 y2) h h2 eq =
        absurd (differ eq refl)
    one_read (assigns word n d ts mid r e nx i x y) (asks d2 ts2 inside2 mid2 r2 test2 body2 nx2 x2 b2 y2) h h2 eq =
        absurd (differ eq refl)
    one_read (assigns word n d ts mid r e nx i x y) (asks_else d2 ts2 inside2 second2 mid2 r2 test2 body2 other2 nx2 x2 b2 o2 y2) h h2 eq =
        absurd (differ eq refl)
    one_read (requires d ts mid r e nx x y) (assigns word2 n2 d2 ts2 mid2 r2 e2 nx2 i2 x2 y2) h h2 eq =
        absurd (differ eq refl)
    one_read (requires d ts mid r e nx x y) (requires d2 ts2 mid2 r2 e2 nx2 x2 y2) h h2 eq =
        let first = one_expr x x2 (next_stops y h) (next_stops y2 h2) (tails eq) in let second = one_next y y2 h h2 first.1 in ((λ j. require (first.0 j) (second.0 j)), second.1)
    one_read (requires d ts mid r e nx x y) (requires_certain word2 n2 d2 mid2 r2 nx2 i2 y2) h h2 eq =
        absurd (begins_with_no_certain _ x (tails eq))
    one_read (requires d ts mid r e nx x y) (returns d2 ts2 mid2 r2 e2 nx2 x2 y2) h h2 eq =
        absurd (differ eq refl)
    one_read (requires d ts mid r e nx x y) (asks d2 ts2 inside2 mid2 r2 test2 body2 nx2 x2 b2 y2) h h2 eq =
        absurd (differ eq refl)
    one_read (requires d ts mid r e nx x y) (asks_else d2 ts2 inside2 second2 mid2 r2 test2 body2 other2 nx2 x2 b2 o2 y2) h h2 eq =
        absurd (differ eq refl)
    one_read (requires_certain word n d mid r nx i y) (assigns word2 n2 d2 ts2 mid2 r2 e2 nx2 i2 x2 y2) h h2 eq =
        absurd (differ eq refl)
    one_read (requires_certain word n d mid r nx i y) (requires d2 ts2 mid2 r2 e2 nx2 x2 y2) h h2 eq =
        absurd (begins_with_no_certain _ x2 (sym (tails eq)))
    one_read (requires_certain word n d mid r nx i y) (requires_certain word2 n2 d2 mid2 r2 nx2 i2 y2) h h2 eq =
        let same : word ≡ word2 = name_inj (heads (tails (tails eq))) in let n_same : n ≡ n2 = Some_inj (sym i ∙ ap item_of same ∙ i2) in let second = one_next y y2 h h2 (tails (tails (tails eq))) in ((λ j. certain (n_same j) (second.0 j)), second.1)
    one_read (requires_certain word n d mid r nx i y) (returns d2 ts2 mid2 r2 e2 nx2 x2 y2) h h2 eq =
        absurd (differ eq refl)
    one_read (requires_certain word n d mid r nx i y) (asks d2 ts2 inside2 mid2 r2 test2 body2 nx2 x2 b2 y2) h h2 eq =
        absurd (differ eq refl)
    one_read (requires_certain word n d mid r nx i y) (asks_else d2 ts2 inside2 second2 mid2 r2 test2 body2 other2 nx2 x2 b2 o2 y2) h h2 eq =
        absurd (differ eq refl)
    one_read (returns d ts mid r e nx x y) (assigns word2 n2 d2 ts2 mid2 r2 e2 nx2 i2 x2 y2) h h2 eq =
        absurd (differ eq refl)
    one_read (returns d ts mid r e nx x y) (requires d2 ts2 mid2 r2 e2 nx2 x2 y2) h h2 eq =
        absurd (differ eq refl)
    one_read (returns d ts mid r e nx x y) (requires_certain word2 n2 d2 mid2 r2 nx2 i2 y2) h h2 eq =
        absurd (differ eq refl)
    one_read (returns d ts mid r e nx x y) (returns d2 ts2 mid2 r2 e2 nx2 x2 y2) h h2 eq =
        let first = one_expr x x2 (next_stops y h) (next_stops y2 h2) (tails eq) in let second = one_next y y2 h h2 first.1 in ((λ j. return (first.0 j) (second.0 j)), second.1)
    one_read (returns d ts mid r e nx x y) (asks d2 ts2 inside2 mid2 r2 test2 body2 nx2 x2 b2 y2) h h2 eq =
        absurd (differ eq refl)
    one_read (returns d ts mid r e nx x y) (asks_else d2 ts2 inside2 second2 mid2 r2 test2 body2 other2 nx2 x2 b2 o2 y2) h h2 eq =
        absurd (differ eq refl)
    one_read (asks d ts inside mid r test body nx x b y) (assigns word2 n2 d2 ts2 mid2 r2 e2 nx2 i2 x2 y2) h h2 eq =
        absurd (differ eq refl)
    one_read (asks d ts inside mid r test body nx x b y) (requires d2 ts2 mid2 r2 e2 nx2 x2 y2) h h2 eq =
        absurd (differ eq refl)
    one_read (asks d ts inside mid r test body nx x b y) (requires_certain word2 n2 d2 mid2 r2 nx2 i2 y2) h h2 eq =
        absurd (differ eq refl)
    one_read (asks d ts inside mid r test body nx x b y) (returns d2 ts2 mid2 r2 e2 nx2 x2 y2) h h2 eq =
        absurd (differ eq refl)
    one_read (asks d ts inside mid r test body nx x b y) (asks d2 ts2 inside2 mid2 r2 test2 body2 nx2 x2 b2 y2) h h2 eq =
        let first = one_expr x x2 tt tt (tails eq) in let inner = one_read b b2 tt tt (tails first.1) in let second = one_next y y2 h h2 (tails inner.1) in ((λ j. when (first.0 j) (inner.0 j) (second.0 j)), second.1)
    one_read (asks d ts inside mid r test body nx x b y) (asks_else d2 ts2 inside2 second2 mid2 r2 test2 body2 other2 nx2 x2 b2 o2 y2) h h2 eq =
        let first = one_expr x x2 tt tt (tails eq) in let inner = one_read b b2 tt tt (tails first.1) in absurd (next_is_no_else _ y h (tails inner.1))
    one_read (asks_else d ts inside second mid r test body other nx x b o y) (assigns word2 n2 d2 ts2 mid2 r2 e2 nx2 i2 x2 y2) h h2 eq =
        absurd (differ eq refl)
    one_read (asks_else d ts inside second mid r test body other nx x b o y) (requires d2 ts2 mid2 r2 e2 nx2 x2 y2) h h2 eq =
        absurd (differ eq refl)
    one_read (asks_else d ts inside second mid r test body other nx x b o y) (requires_certain word2 n2 d2 mid2 r2 nx2 i2 y2) h h2 eq =
        absurd (differ eq refl)
    one_read (asks_else d ts inside second mid r test body other nx x b o y) (returns d2 ts2 mid2 r2 e2 nx2 x2 y2) h h2 eq =
        absurd (differ eq refl)
    one_read (asks_else d ts inside second mid r test body other nx x b o y) (asks d2 ts2 inside2 mid2 r2 test2 body2 nx2 x2 b2 y2) h h2 eq =
        let first = one_expr x x2 tt tt (tails eq) in let inner = one_read b b2 tt tt (tails first.1) in absurd (next_is_no_else _ y2 h2 (sym (tails inner.1)))
    one_read (asks_else d ts inside second mid r test body other nx x b o y) (asks_else d2 ts2 inside2 second2 mid2 r2 test2 body2 other2 nx2 x2 b2 o2 y2) h h2 eq =
        let first = one_expr x x2 tt tt (tails eq) in let inner = one_read b b2 tt tt (tails first.1) in let outer = one_read o o2 tt tt (tails (tails (tails inner.1))) in let second = one_next y y2 h h2 (tails outer.1) in ((λ j. when_else (first.0 j) (inner.0 j) (outer.0 j) (second.0 j)), second.1)

    one_next : {d k : ℕ} {ts us r s : List Nested} {p q : Program} → ReadsNext item_of d ts r p → ReadsNext item_of k us s q
        → EndsProgram (E r) → EndsProgram (E s) → E ts ≡ E us → (p ≡ q) × (E r ≡ E s)
    one_next (last d r) (last d2 r2) h h2 eq = (refl, eq)
    one_next (last d r) (next d2 ts2 r2 p2 q2) h h2 eq = absurd (subst (λ (l : List Token). EndsProgram l) eq h)
    one_next (next d ts r p q) (last d2 r2) h h2 eq = absurd (subst (λ (l : List Token). EndsProgram l) (sym eq) h2)
    one_next (next d ts r p q) (next d2 ts2 r2 p2 q2) h h2 eq = one_read q q2 h h2 (tails eq)

  pub one_program : (tokens : List Token) (p q : Program) → AreProgram item_of tokens p → AreProgram item_of tokens q → p ≡ q
  one_program tokens p q a b = (one_read a.reads b.reads tt tt (sym a.same ∙ b.same)).0

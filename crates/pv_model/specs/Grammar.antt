-- The grammar of programs: which tokens are which program. Each token stands with its nesting.
use Rattle.std.specs.Prelude.{◌≡◌, ℕ, suc, ◌^◌, ◌<◌, pos, Bool, true, false, Option, Some, List, ◌∷◌, IsTrue}
use Rattle.pv_model.specs.Syntax.{Op, Expr, Program}
use Rattle.pv_model.specs.Syntax.Op.{or, and, equal, unequal, less, at_most, greater, at_least, plus, sub, times, over, rest, lesser, larger}
use Rattle.pv_model.specs.Syntax.Expr.{number, item, minus, negation, two}
use Rattle.pv_model.specs.Syntax.Program.{end, assign, require, certain, return, when, when_else}
use Rattle.pv_model.specs.Tokens.{Token}

-- a token with its nesting, which is the number of `(`, `{`, unary `-` and `not` that are open around it
abbrev pub Nested : Type 0
Nested = ℕ × Token

-- the chains of sides, from the loosest: sides are joined by `or`; by `and`; by `+` and `-`; by `*`, `/` and `%`
pub data Chain : Type 0 where
  disjunction : Chain
  conjunction : Chain
  sum : Chain
  product : Chain

-- whether the operator joins the sides of this chain
abbrev pub joins : Chain → Op → Bool
joins disjunction or = true
joins conjunction and = true
joins sum plus = true
joins sum sub = true
joins product times = true
joins product over = true
joins product rest = true
joins _ _ = false

-- whether the operator compares
abbrev pub compares : Op → Bool
compares equal = true
compares unequal = true
compares less = true
compares at_most = true
compares greater = true
compares at_least = true
compares _ = false

-- whether the operator is written before its two sides
abbrev pub is_min_or_max : Op → Bool
is_min_or_max lesser = true
is_min_or_max larger = true
is_min_or_max _ = false

-- the phrases of an expression
pub data Phrase : Type 0 where
  chain : Chain → Phrase
  negated : Phrase
  comparison : Phrase
  unary : Phrase

-- what the sides of a chain are
abbrev pub side : Chain → Phrase
side disjunction = chain conjunction
side conjunction = negated
side sum = chain product
side product = unary

module _ (item_of : List ℕ → Option ℕ) where
  mutual
    -- Tokens up to a rest are this phrase, whose tree is this; the number is the nesting of what stands at its outside.
    pub data Reads : Phrase → ℕ → List Nested → List Nested → Expr → Type 0 where
      -- sides joined by operators, grouped to the left
      chained : (c : Chain) (d : ℕ) (ts mid after : List Nested) (left e : Expr) → Reads (side c) d ts mid left → GoesOn c left d mid after e
          → Reads (chain c) d ts after e
      -- neg = "not" neg | comp
      not : (d : ℕ) (ts after : List Nested) (e : Expr) → Reads negated (suc d) ts after e → Reads negated d ((d, Token.negates) ∷ ts) after (negation e)
      not_negated : (d : ℕ) (ts after : List Nested) (e : Expr) → Reads comparison d ts after e → Reads negated d ts after e
      -- comp = sum [ operator sum ]
      compared : (op : Op) (d : ℕ) (ts mid after : List Nested) (left right : Expr) → IsTrue (compares op)
          → Reads (chain sum) d ts ((d, Token.operator op) ∷ mid) left → Reads (chain sum) d mid after right → Reads comparison d ts after (two op left right)
      not_compared : (d : ℕ) (ts after : List Nested) (e : Expr) → Reads (chain sum) d ts after e → Reads comparison d ts after e
      -- "-" unary
      negative : (d : ℕ) (ts after : List Nested) (e : Expr) → Reads unary (suc d) ts after e → Reads unary d ((d, Token.operator sub) ∷ ts) after (minus e)
      -- a number, at most 9223372036854775807
      numeral : (n d : ℕ) (after : List Nested) → n < 2 ^ 63 → Reads unary d ((d, Token.number n) ∷ after) after (number (pos n))
      -- the name of an item
      named : (word : List ℕ) (n d : ℕ) (after : List Nested) → item_of word ≡ Some n → Reads unary d ((d, Token.name word) ∷ after) after (item n)
      -- "(" expr ")"
      in_brackets : (d : ℕ) (ts after : List Nested) (e : Expr) → Reads (chain disjunction) (suc d) ts ((d, Token.closes) ∷ after) e
          → Reads unary d ((d, Token.opens) ∷ ts) after e
      -- ( "min" | "max" ) "(" expr "," expr ")"
      of_two : (op : Op) (d : ℕ) (ts mid after : List Nested) (left right : Expr) → IsTrue (is_min_or_max op)
          → Reads (chain disjunction) (suc d) ts ((suc d, Token.parts) ∷ mid) left → Reads (chain disjunction) (suc d) mid ((d, Token.closes) ∷ after) right
          → Reads unary d ((d, Token.operator op) ∷ (d, Token.opens) ∷ ts) after (two op left right)

    -- After `left` a chain goes on with no more sides, or with an operator and a side, which are grouped with `left` first.
    pub data GoesOn : Chain → Expr → ℕ → List Nested → List Nested → Expr → Type 0 where
      no_more : (c : Chain) (left : Expr) (d : ℕ) (after : List Nested) → GoesOn c left d after after left
      one_more : (c : Chain) (op : Op) (left right e : Expr) (d : ℕ) (ts mid after : List Nested) → IsTrue (joins c op)
          → Reads (side c) d ts mid right → GoesOn c (two op left right) d mid after e → GoesOn c left d ((d, Token.operator op) ∷ ts) after e

  -- expr
  abbrev pub ReadsExpr : ℕ → List Nested → List Nested → Expr → Type 0
  ReadsExpr = Reads (chain disjunction)

  mutual
    -- Tokens up to a rest are this program, which has a statement at least.
    pub data ReadsProgram : ℕ → List Nested → List Nested → Program → Type 0 where
      -- name ":=" expr
      assigns : (word : List ℕ) (n d : ℕ) (ts mid after : List Nested) (e : Expr) (next : Program) → item_of word ≡ Some n
          → ReadsExpr d ts mid e → ReadsNext d mid after next → ReadsProgram d ((d, Token.name word) ∷ (d, Token.becomes) ∷ ts) after (assign n e next)
      -- "require" expr
      requires : (d : ℕ) (ts mid after : List Nested) (e : Expr) (next : Program) → ReadsExpr d ts mid e → ReadsNext d mid after next
          → ReadsProgram d ((d, Token.requires) ∷ ts) after (require e next)
      -- "require" "certain" name
      requires_certain : (word : List ℕ) (n d : ℕ) (mid after : List Nested) (next : Program) → item_of word ≡ Some n → ReadsNext d mid after next
          → ReadsProgram d ((d, Token.requires) ∷ (d, Token.certain) ∷ (d, Token.name word) ∷ mid) after (certain n next)
      -- "return" expr
      returns : (d : ℕ) (ts mid after : List Nested) (e : Expr) (next : Program) → ReadsExpr d ts mid e → ReadsNext d mid after next
          → ReadsProgram d ((d, Token.returns) ∷ ts) after (return e next)
      -- "if" expr "{" program "}"
      asks : (d : ℕ) (ts inside mid after : List Nested) (test : Expr) (body next : Program) → ReadsExpr d ts ((d, Token.opens_body) ∷ inside) test
          → ReadsProgram (suc d) inside ((d, Token.closes_body) ∷ mid) body → ReadsNext d mid after next
          → ReadsProgram d ((d, Token.asks) ∷ ts) after (when test body next)
      -- "if" expr "{" program "}" "else" "{" program "}"
      asks_else : (d : ℕ) (ts inside second mid after : List Nested) (test : Expr) (body other next : Program)
          → ReadsExpr d ts ((d, Token.opens_body) ∷ inside) test
          → ReadsProgram (suc d) inside ((d, Token.closes_body) ∷ (d, Token.otherwise) ∷ (d, Token.opens_body) ∷ second) body
          → ReadsProgram (suc d) second ((d, Token.closes_body) ∷ mid) other → ReadsNext d mid after next
          → ReadsProgram d ((d, Token.asks) ∷ ts) after (when_else test body other next)

    -- After a statement a program ends, or goes on with ";" and the statements after it.
    pub data ReadsNext : ℕ → List Nested → List Nested → Program → Type 0 where
      last : (d : ℕ) (after : List Nested) → ReadsNext d after after end
      next : (d : ℕ) (ts after : List Nested) (p : Program) → ReadsProgram d ts after p → ReadsNext d ((d, Token.then_next) ∷ ts) after p

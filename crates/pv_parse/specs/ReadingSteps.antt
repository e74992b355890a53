-- What a step of reading promises, whatever is expected after what it reads.
use Rattle.std.specs.Prelude.{◌≡◌, ℕ, ◌≤◌, Bool, true, false, Option, Some, None, List, [], ◌∷◌, length, IsTrue}
use Rattle.pv_base.specs.declared.limits.TheConstants.{MAX_DEPTH}
use Rattle.pv_base.specs.Catalog.{Declared}
use Rattle.pv_model.specs.Syntax as model
use Rattle.pv_model.specs.Tokens.{Token}
use Rattle.pv_model.specs.Grammar.{Phrase, Reads}
use Rattle.pv_model.specs.ProgramText.{Kind, malformed, unknown_name, too_deep, item_in}
use Rattle.pv_law_programs.specs.Prediction.{Symbol, phrase, punctuation, Punctuation, Expected, placed, first_fault}
use Rattle.pv_ast.specs.declared.expr.Op.{Op}
use Rattle.pv_ast.specs.OpView.{op_of}
use Rattle.pv_parse.specs.declared.error.ParseError.{ParseError}
use Rattle.pv_parse.specs.declared.error.ParseError.TheVariants.{TooLarge, Malformed, UnknownName, TooDeep, NoMemory}

-- tokens, each with its column
abbrev pub Columned : Type 0
Columned = List (ℕ × Token)

-- what a text is read with: the items, and the column after the text
pub record Context : Type 0 where
  pub catalog : Declared
  pub after_text : ℕ

-- the first fault of tokens where these things are expected
abbrev pub fault_in : Context → List Expected → Columned → Option (Kind × ℕ)
fault_in context expected tokens = first_fault (item_in context.catalog) context.after_text expected tokens

-- the tokens after the first
abbrev pub rest_of : Columned → Columned
rest_of [] = []
rest_of (t ∷ ts) = ts

-- the column of the first token, or the one after the text
abbrev pub next_column : Context → Columned → ℕ
next_column context [] = context.after_text
next_column context (t ∷ ts) = t.0

-- The token is next.
abbrev pub IsNext : Context → Token → Columned → Type 0
IsNext context token tokens = tokens ≡ (next_column context tokens, token) ∷ rest_of tokens

-- Whether the operator may stand before one side.
abbrev pub is_minus : model.Op → Bool
is_minus model.sub = true
is_minus _ = false

-- Whether no operator is next.
abbrev pub has_no_operator : Columned → Bool
has_no_operator [] = true
has_no_operator ((column, Token.operator op) ∷ ts) = false
has_no_operator (t ∷ ts) = true

-- The error names the first fault of tokens. `NoMemory` may come at any place.
abbrev pub IsErrorFor : Option (Kind × ℕ) → ParseError → Type 0
IsErrorFor fault (TooLarge n) = ⊥
IsErrorFor fault (Malformed column) = fault ≡ Some (malformed, column)
IsErrorFor fault (UnknownName column) = fault ≡ Some (unknown_name, column)
IsErrorFor fault (TooDeep column) = fault ≡ Some (too_deep, column)
IsErrorFor fault NoMemory = Unit {0}

-- The error names the first fault of tokens where this and anything after it is expected.
abbrev pub FailsWith : Context → Expected → Columned → ParseError → Type 0
FailsWith context e tokens error = (more : List Expected) → IsErrorFor (fault_in context (e ∷ more) tokens) error

-- Tokens up to a rest are a phrase of an expression. The tokens before the rest are the longest phrase that stands first.
pub record ReadsPhrase (context : Context) (p : Phrase) (d : ℕ) (before after : Columned) (e : model.Expr) : Type 0 where
  pub fault : (more : List Expected) → fault_in context ((d, phrase p) ∷ more) before ≡ fault_in context more after
  pub reads : (more : List Expected) → Reads (item_in context.catalog) p d (placed ((d, phrase p) ∷ more) before) (placed more after) e
  pub fewer : length after ≤ length before

-- The next token is this punctuation.
pub record PassesPunctuation (context : Context) (m : Punctuation) (token : Token) (d : ℕ) (before after : Columned) : Type 0 where
  pub fault : (more : List Expected) → fault_in context ((d, punctuation m) ∷ more) before ≡ fault_in context more after
  pub place : (more : List Expected) → placed ((d, punctuation m) ∷ more) before ≡ (d, token) ∷ placed more after
  pub fewer : length after ≤ length before

-- What may be left out is left out: the next token doesn't go on with it.
pub record Skips (context : Context) (e : Expected) (tokens : Columned) : Type 0 where
  pub fault : (more : List Expected) → fault_in context (e ∷ more) tokens ≡ fault_in context more tokens
  pub place : (more : List Expected) → placed (e ∷ more) tokens ≡ placed more tokens

-- The token before the rest is this one, at a nesting that is allowed.
pub record PassesToken (token : Token) (d : ℕ) (before after : Columned) : Type 0 where
  pub column : ℕ
  pub split : before ≡ (column, token) ∷ after
  pub shallow : d ≤ MAX_DEPTH

-- An operator that is wanted is passed. Where none stands next, nothing is passed, and nothing more is expected here.
abbrev pub TakesOperator : Context → Symbol → (model.Op → Bool) → ℕ → Columned → Columned → Option Op → Type 0
TakesOperator context s is_wanted d before after None = Skips context (d, s) before × (after ≡ before)
TakesOperator context s is_wanted d before after (Some op) = IsTrue (is_wanted (op_of op)) × PassesToken (Token.operator (op_of op)) d before after

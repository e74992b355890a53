-- What a step of reading statements and programs promises, whatever is expected after what it reads.
use Rattle.std.specs.Prelude.{◌≡◌, ℕ, ◌+◌, ◌≤◌, Some, List, ◌∷◌, length}
use Rattle.pv_base.specs.declared.limits.TheConstants.{MAX_DEPTH}
use Rattle.pv_ast.specs.ProgramView.{followed_by}
use Rattle.pv_ast.specs.declared.program.Stmt.{Stmt}
use Rattle.pv_model.specs.Syntax as model
use Rattle.pv_model.specs.Tokens.{Token}
use Rattle.pv_model.specs.Grammar.{Nested, ReadsProgram, ReadsNext}
use Rattle.pv_model.specs.ProgramText.{item_in}
use Rattle.pv_law_programs.specs.Prediction.{punctuation, opens_body, closes_body, program, requirement, next, Expected, placed}
use Rattle.pv_parse.specs.declared.error.ParseError.{ParseError}
use Rattle.pv_parse.specs.ReadingSteps.{Columned, Context, fault_in, IsErrorFor}

-- Tokens up to a rest are a program, and no more of them are.
pub record ReadsWhole (context : Context) (d : ℕ) (before after : Columned) (p : model.Program) : Type 0 where
  pub fault : (more : List Expected) → fault_in context ((d, program) ∷ more) before ≡ fault_in context more after
  pub reads : (more : List Expected) → ReadsProgram (item_in context.catalog) d (placed ((d, program) ∷ more) before) (placed more after) p
  pub fewer : length after ≤ length before

-- Tokens up to a rest are a statement. With whatever goes on after it they are a program.
pub record ReadsStmt (context : Context) (d : ℕ) (before after : Columned) (stmt : Stmt) : Type 0 where
  pub fault : (more : List Expected) → fault_in context ((d, program) ∷ more) before ≡ fault_in context ((d, next) ∷ more) after
  pub reads : (more : List Expected) (later : List Nested) (p : model.Program) → ReadsNext (item_in context.catalog) d (placed ((d, next) ∷ more) after) later p
      → ReadsProgram (item_in context.catalog) d (placed ((d, program) ∷ more) before) later (followed_by stmt p)
  pub fewer : length after ≤ length before

-- Tokens up to a rest are what is required. With the word `require` before it and with whatever goes on after it they are a program.
pub record ReadsRequired (context : Context) (d : ℕ) (before after : Columned) (stmt : Stmt) : Type 0 where
  pub fault : (more : List Expected) → fault_in context ((d, requirement) ∷ more) before ≡ fault_in context more after
  pub reads : (more : List Expected) (later : List Nested) (p : model.Program) → ReadsNext (item_in context.catalog) d (placed more after) later p
      → ReadsProgram (item_in context.catalog) d ((d, Token.requires) ∷ placed ((d, requirement) ∷ more) before) later (followed_by stmt p)
  pub fewer : length after ≤ length before

-- The next token is the item's name.
pub record PassesName (context : Context) (d : ℕ) (before after : Columned) (item : ℕ) : Type 0 where
  pub word : List ℕ
  pub column : ℕ
  pub split : before ≡ (column, Token.name word) ∷ after
  pub known : item_in context.catalog word ≡ Some item
  pub shallow : d ≤ MAX_DEPTH

-- what is expected of a program in braces, and then more
abbrev pub braced : ℕ → List Expected → List Expected
braced d more = (d, punctuation opens_body) ∷ (d + 1, program) ∷ (d, punctuation closes_body) ∷ more

-- Tokens up to a rest are a program in braces.
pub record ReadsBody (context : Context) (d : ℕ) (before after : Columned) (p : model.Program) : Type 0 where
  pub fault : (more : List Expected) → fault_in context (braced d more) before ≡ fault_in context more after
  pub inside : Columned
  pub closing : Columned
  pub opened : (more : List Expected) → placed ((d, punctuation opens_body) ∷ more) before ≡ (d, Token.opens_body) ∷ placed more inside
  pub reads : (more : List Expected) → ReadsProgram (item_in context.catalog) (d + 1) (placed ((d + 1, program) ∷ more) inside) (placed more closing) p
  pub closed : (more : List Expected) → placed ((d, punctuation closes_body) ∷ more) closing ≡ (d, Token.closes_body) ∷ placed more after
  pub fewer : length after ≤ length before

-- The error names the first fault of tokens where a program in braces is expected.
abbrev pub StopsBraced : Context → ℕ → Columned → ParseError → Type 0
StopsBraced context d tokens error = (more : List Expected) → IsErrorFor (fault_in context (braced d more) tokens) error

-- The tokens that may be left out with what they begin.
use Rattle.std.specs.Prelude.{◌≡◌, ℕ, ◌<◌, Bool, true, false, not, [], ◌∷◌, IsTrue}
use Rattle.pv_base.specs.declared.limits.TheConstants.{MAX_DEPTH}
use Rattle.pv_model.specs.Tokens.{Token}
use Rattle.pv_parse.specs.declared.error.ParseError.{ParseError}
use Rattle.pv_parse.specs.declared.error.ParseError.TheVariants.{TooDeep}
use Rattle.pv_parse.specs.declared.cursor.Word.{Word}
use Rattle.pv_parse.specs.declared.cursor.Word.TheVariants.{Not, Else, Certain, Next}
use Rattle.pv_parse.specs.ReadingSteps.{Columned, PassesToken, rest_of}

-- the token that a word is
abbrev pub token_of_word : Word → Token
token_of_word Not = Token.negates
token_of_word Else = Token.otherwise
token_of_word Certain = Token.certain
token_of_word Next = Token.then_next

abbrev pub is_word : Word → Token → Bool
is_word Not Token.negates = true
is_word Else Token.otherwise = true
is_word Certain Token.certain = true
is_word Next Token.then_next = true
is_word _ _ = false

-- Whether another token is next, or none.
abbrev pub has_no_word : Word → Columned → Bool
has_no_word word [] = true
has_no_word word (t ∷ ts) = not (is_word word t.1)

-- The word is passed, or isn't next and nothing is passed.
abbrev pub TakesWord : Word → ℕ → Columned → Columned → Bool → Type 0
TakesWord word d before after true = PassesToken (token_of_word word) d before after
TakesWord word d before after false = IsTrue (has_no_word word before) × (after ≡ before)

-- The word is next, and nested too deeply.
pub record FailsTooDeep (word : Word) (d : ℕ) (before : Columned) (error : ParseError) : Type 0 where
  pub column : ℕ
  pub next : before ≡ (column, token_of_word word) ∷ rest_of before
  pub is : error ≡ TooDeep column
  pub deep : MAX_DEPTH < d

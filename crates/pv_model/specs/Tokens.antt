-- The tokens of a program text, each with its column.
use Rattle.std.specs.Prelude.{◌≡◌, ℕ, suc, ◌+◌, ◌≤◌, Bool, false, not, ◌&&◌, nat_le, Option, Some, None, List, [], ◌∷◌, ◌++◌, length, find, if◌then◌else◌, IsTrue, codes}
use Rattle.pv_base.specs.declared.limits.TheConstants.{MAX_NAME}
use Rattle.std.specs.List.{list_all}
use Rattle.std.specs.Option.{option_map_or}
use Rattle.std.specs.Str.{bytes_eq}
use Rattle.pv_base.specs.Name.{is_blank, is_digit, is_spelled_as_name}
use Rattle.pv_model.specs.Syntax.{Op}
use Rattle.pv_model.specs.Syntax.Op.{or, and, equal, unequal, less, at_most, greater, at_least, plus, sub, times, over, rest, lesser, larger}
use Rattle.pv_model.specs.Text.{number_of_digits}

-- A token. `stray` is a byte that begins no token; no program has it.
pub data Token : Type 0 where
  name : List ℕ → Token
  number : ℕ → Token
  operator : Op → Token
  negates : Token
  asks : Token
  otherwise : Token
  requires : Token
  certain : Token
  returns : Token
  becomes : Token
  opens : Token
  closes : Token
  opens_body : Token
  closes_body : Token
  then_next : Token
  parts : Token
  stray : ℕ → Token

-- the words and symbols that stand for themselves
unfoldable pub words_and_symbols : List (List ℕ × Token)
words_and_symbols =
    (codes "or", operator or) ∷ (codes "and", operator and) ∷ (codes "not", negates)
    ∷ (codes "min", operator lesser) ∷ (codes "max", operator larger)
    ∷ (codes "if", asks) ∷ (codes "else", otherwise) ∷ (codes "require", requires) ∷ (codes "return", returns)
    ∷ (codes "certain", certain)
    ∷ (codes "=", operator equal) ∷ (codes "<>", operator unequal) ∷ (codes "<", operator less)
    ∷ (codes "<=", operator at_most) ∷ (codes ">", operator greater) ∷ (codes ">=", operator at_least)
    ∷ (codes "+", operator plus) ∷ (codes "-", operator sub)
    ∷ (codes "*", operator times) ∷ (codes "/", operator over) ∷ (codes "%", operator rest)
    ∷ (codes ":=", becomes) ∷ (codes "(", opens) ∷ (codes ")", closes)
    ∷ (codes "{", opens_body) ∷ (codes "}", closes_body) ∷ (codes ";", then_next) ∷ (codes ",", parts) ∷ []

-- a lower-case letter and then up to 15 lower-case letters, digits and `_`
abbrev pub is_name_word : List ℕ → Bool
is_name_word bytes = nat_le (length bytes) MAX_NAME && is_spelled_as_name bytes

-- one or more decimal digits, of any value
unfoldable pub is_digits : List ℕ → Bool
is_digits [] = false
is_digits (b ∷ bs) = is_digit b && list_all is_digit bs

-- the name or the number that bytes are
abbrev pub name_or_number : List ℕ → Option Token
name_or_number bytes =
    if is_name_word bytes then Some (name bytes) else
    (if is_digits bytes then Some (number (number_of_digits bytes)) else None)

-- The token that bytes are, if they are one token: a word or symbol that stands for itself, else a name or a number.
unfoldable pub token_of : List ℕ → Option Token
token_of bytes = option_map_or (λ entry. Some entry.1) (find (λ entry. bytes_eq bytes entry.0) words_and_symbols) (name_or_number bytes)

-- Bytes begin with this token, and no longer front of them is a token.
pub record BeginsWithToken (bytes : List ℕ) (front : List ℕ) (token : Token) (after : List ℕ) : Type 0 where
  pub split : bytes ≡ front ++ after
  pub is : token_of front ≡ Some token
  pub longest : (longer other : List ℕ) (t : Token) → bytes ≡ longer ++ other → token_of longer ≡ Some t → length longer ≤ length front

-- No front of these bytes is a token.
abbrev pub BeginsWithNone : List ℕ → Type 0
BeginsWithNone bytes = (front after : List ℕ) → bytes ≡ front ++ after → token_of front ≡ None

-- Bytes from this column on are these tokens, each with its column. A byte that is no blank and begins no token is stray.
pub data AreTokens : ℕ → List ℕ → List (ℕ × Token) → Type 0 where
  at_end : (column : ℕ) → AreTokens column [] []
  at_blank : (column b : ℕ) (bytes : List ℕ) (tokens : List (ℕ × Token)) → IsTrue (is_blank b) → AreTokens (suc column) bytes tokens
      → AreTokens column (b ∷ bytes) tokens
  at_token : (column : ℕ) (bytes front : List ℕ) (token : Token) (after : List ℕ) (tokens : List (ℕ × Token)) → BeginsWithToken bytes front token after
      → AreTokens (column + length front) after tokens → AreTokens column bytes ((column, token) ∷ tokens)
  at_stray : (column b : ℕ) (bytes : List ℕ) (tokens : List (ℕ × Token)) → IsTrue (not (is_blank b)) → BeginsWithNone (b ∷ bytes)
      → AreTokens (suc column) bytes tokens → AreTokens column (b ∷ bytes) ((column, stray b) ∷ tokens)

-- A text has these tokens. Columns count its bytes from 1.
abbrev pub HasTokens : List ℕ → List (ℕ × Token) → Type 0
HasTokens text tokens = AreTokens 1 text tokens

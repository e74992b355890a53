-- The tokens that the code makes, as plain data.
use Rattle.std.specs.Prelude.{◌≡◌, ℕ, ◌+◌, ◌≤◌, ◌==◌, ◌&&◌, false, List, [], ◌∷◌, length, drop, find, Option, None, IsTrue}
use Rattle.std.specs.Option.{option_map}
use Rattle.std.specs.Str.{bytes_eq}
use denote.Ref.{Bor}
use Rattle.pv_base.specs.Name.{is_lower, is_digit}
use Rattle.pv_ast.specs.OpView.{op_of}
use Rattle.pv_model.specs.Text.{number_of_digits}
use Rattle.pv_model.specs.Tokens as model
use Rattle.pv_parse.specs.declared.token.Located.{Located}
use Rattle.pv_parse.specs.declared.token.Token.{Token}
use Rattle.pv_parse.specs.declared.token.Token.TheVariants.{Name, Number, Operator, Not, If, Else, Require, Return, Becomes, Open, Close, OpenBody, CloseBody, Next, Comma, Certain, Stray}

-- a token
abbrev pub token_of : Token → model.Token
token_of (Name word) = model.name word.now
token_of (Number digits) = model.number (number_of_digits digits.now)
token_of (Operator op) = model.operator (op_of op)
token_of Not = model.negates
token_of If = model.asks
token_of Else = model.otherwise
token_of Require = model.requires
token_of Return = model.returns
token_of Becomes = model.becomes
token_of Open = model.opens
token_of Close = model.closes
token_of OpenBody = model.opens_body
token_of CloseBody = model.closes_body
token_of Next = model.then_next
token_of Comma = model.parts
token_of Certain = model.certain
token_of (Stray byte) = model.stray byte

-- a token with its column
abbrev pub located_of : Located → ℕ × model.Token
located_of located = (located.column, token_of located.token)

-- What a number's token holds is one or more digits.
abbrev pub HasDigits : Token → Type 0
HasDigits (Number digits) = IsTrue (model.is_digits digits.now)
HasDigits _ = Unit {0}

-- the token beside the first text of a table that bytes are
unfoldable pub token_beside : List ℕ → List (Bor (List ℕ) × Token) → Option Token
token_beside bytes table = option_map (λ entry. entry.1) (find (λ entry. bytes_eq bytes entry.0.now) table)

-- the token beside two bytes in a table
unfoldable pub pair_beside : ℕ × ℕ → List ((ℕ × ℕ) × Token) → Option Token
pair_beside bytes table = option_map (λ entry. entry.1) (find (λ entry. bytes.0 == entry.0.0 && bytes.1 == entry.0.1) table)

-- the token beside a byte in a table
unfoldable pub single_beside : ℕ → List (ℕ × Token) → Option Token
single_beside byte table = option_map (λ entry. entry.1) (find (λ entry. byte == entry.0) table)

-- the token that bytes are, if they are a word or symbol that stands for itself
unfoldable pub listed_token : List ℕ → Option model.Token
listed_token bytes = option_map (λ entry. entry.1) (find (λ entry. bytes_eq bytes entry.0) model.words_and_symbols)

-- the token that the first two bytes are, if they are a word or symbol that stands for itself
abbrev pub listed_pair : List ℕ → Option model.Token
listed_pair [] = None
listed_pair (first ∷ []) = None
listed_pair (first ∷ second ∷ rest) = listed_token (first ∷ second ∷ [])

-- Bytes begin with this token, which is this long, or with a stray byte: whatever tokens are after it, it stands before them.
pub record StartsWith (bytes : List ℕ) (token : model.Token) (size : ℕ) : Type 0 where
  pub some : 1 ≤ size
  pub within : size ≤ length bytes
  pub first : (column : ℕ) (tokens : List (ℕ × model.Token)) → model.AreTokens (column + size) (drop size bytes) tokens →
      model.AreTokens column bytes ((column, token) ∷ tokens)

-- A byte begins neither a word nor a number.
pub record IsOther (byte : ℕ) : Type 0 where
  pub no_lower : is_lower byte ≡ false
  pub no_digit : is_digit byte ≡ false

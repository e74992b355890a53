-- Which token a program may go on with, as a reader from left to right knows it by one token of lookahead (Lewis and Stearns, 1968).
use Rattle.std.specs.Prelude.{ℕ, suc, ◌^◌, Bool, true, false, nat_lt, Option, Some, None, List, [], ◌∷◌, if◌then◌else◌}
use Rattle.pv_base.specs.declared.limits.TheConstants.{MAX_DEPTH}
use Rattle.std.specs.List.{list_all}
use Rattle.std.specs.Option.{option_map_or}
use Rattle.pv_model.specs.Syntax.{Op}
use Rattle.pv_model.specs.Syntax.Op.{sub, lesser, larger}
use Rattle.pv_model.specs.Tokens.{Token}
use Rattle.pv_model.specs.Grammar.{Nested, Chain, disjunction, conjunction, sum, product, Phrase, chain, negated, comparison, unary, joins, compares, side}
use Rattle.pv_model.specs.ProgramText.{Kind, malformed, unknown_name, too_deep}

-- the punctuation that has to come after other tokens
pub data Punctuation : Type 0 where
  becomes : Punctuation
  opens : Punctuation
  closes : Punctuation
  opens_body : Punctuation
  closes_body : Punctuation
  comma : Punctuation

abbrev pub is_punctuation : Punctuation → Token → Bool
is_punctuation becomes Token.becomes = true
is_punctuation opens Token.opens = true
is_punctuation closes Token.closes = true
is_punctuation opens_body Token.opens_body = true
is_punctuation closes_body Token.closes_body = true
is_punctuation comma Token.parts = true
is_punctuation _ _ = false

-- What may be expected: a phrase of an expression; more sides of a chain, or none; an operator that compares and a sum, or none;
-- punctuation; a program; what is required, a test or that an item be certain; the name of an item; `;` and more of a program, or none; `else` and
-- its program, or none.
pub data Symbol : Type 0 where
  phrase : Phrase → Symbol
  more : Chain → Symbol
  comparing : Symbol
  punctuation : Punctuation → Symbol
  program : Symbol
  requirement : Symbol
  item_name : Symbol
  next : Symbol
  other : Symbol

-- what is expected, with the nesting at its outside
abbrev pub Expected : Type 0
Expected = ℕ × Symbol

-- whether nothing has to come
abbrev pub is_optional : Symbol → Bool
is_optional (more c) = true
is_optional comparing = true
is_optional next = true
is_optional other = true
is_optional _ = false

-- Whether a text may end where this is expected.
abbrev pub may_end : List Expected → Bool
may_end expected = list_all (λ e. is_optional e.1) expected

-- what is expected after an operator that stands before its sides
abbrev pub after_prefix : ℕ → Op → List Expected → Option (List Expected)
after_prefix d sub expected = Some ((suc d, phrase unary) ∷ expected)
after_prefix d lesser expected =
    Some ((d, punctuation opens) ∷ (suc d, phrase (chain disjunction)) ∷ (suc d, punctuation comma) ∷ (suc d, phrase (chain disjunction)) ∷ (d, punctuation closes) ∷ expected)
after_prefix d larger expected =
    Some ((d, punctuation opens) ∷ (suc d, phrase (chain disjunction)) ∷ (suc d, punctuation comma) ∷ (suc d, phrase (chain disjunction)) ∷ (d, punctuation closes) ∷ expected)
after_prefix d _ expected = None

-- What is expected after a token that begins a phrase, where these things are expected after the phrase.
abbrev pub after_unary : ℕ → Token → List Expected → Option (List Expected)
after_unary d (Token.number n) expected = if nat_lt n (2 ^ 63) then Some expected else None
after_unary d (Token.name word) expected = Some expected
after_unary d (Token.operator op) expected = after_prefix d op expected
after_unary d Token.opens expected = Some ((suc d, phrase (chain disjunction)) ∷ (d, punctuation closes) ∷ expected)
after_unary d _ expected = None

abbrev pub after_sum : ℕ → Token → List Expected → Option (List Expected)
after_sum d t expected = after_unary d t ((d, more product) ∷ (d, more sum) ∷ expected)

abbrev pub after_negated : ℕ → Token → List Expected → Option (List Expected)
after_negated d Token.negates expected = Some ((suc d, phrase negated) ∷ expected)
after_negated d t expected = after_sum d t ((d, comparing) ∷ expected)

abbrev pub after_phrase : Phrase → ℕ → Token → List Expected → Option (List Expected)
after_phrase unary d t expected = after_unary d t expected
after_phrase (chain product) d t expected = after_unary d t ((d, more product) ∷ expected)
after_phrase (chain sum) d t expected = after_sum d t expected
after_phrase comparison d t expected = after_sum d t ((d, comparing) ∷ expected)
after_phrase negated d t expected = after_negated d t expected
after_phrase (chain conjunction) d t expected = after_negated d t ((d, more conjunction) ∷ expected)
after_phrase (chain disjunction) d t expected = after_negated d t ((d, more conjunction) ∷ (d, more disjunction) ∷ expected)

-- what is expected after a token that begins a statement
abbrev pub after_program : ℕ → Token → List Expected → Option (List Expected)
after_program d (Token.name word) expected = Some ((d, punctuation becomes) ∷ (d, phrase (chain disjunction)) ∷ (d, next) ∷ expected)
after_program d Token.requires expected = Some ((d, requirement) ∷ (d, next) ∷ expected)
after_program d Token.returns expected = Some ((d, phrase (chain disjunction)) ∷ (d, next) ∷ expected)
after_program d Token.asks expected =
    Some ((d, phrase (chain disjunction)) ∷ (d, punctuation opens_body) ∷ (suc d, program) ∷ (d, punctuation closes_body) ∷ (d, other) ∷ (d, next) ∷ expected)
after_program d _ expected = None

-- what is expected after a token that begins what is required
abbrev pub after_required : ℕ → Token → List Expected → Option (List Expected)
after_required d Token.certain expected = Some ((d, item_name) ∷ expected)
after_required d t expected = after_phrase (chain disjunction) d t expected

-- what is expected after the name of an item
abbrev pub after_name : Token → List Expected → Option (List Expected)
after_name (Token.name word) expected = Some expected
after_name _ expected = None

-- What is expected after a token that goes on with what may be left out, or begins what must come; nothing where the token does neither.
abbrev pub after_symbol : Symbol → ℕ → Token → List Expected → Option (List Expected)
after_symbol (phrase p) d t expected = after_phrase p d t expected
after_symbol (more c) d (Token.operator op) expected = if joins c op then Some ((d, phrase (side c)) ∷ (d, more c) ∷ expected) else None
after_symbol comparing d (Token.operator op) expected = if compares op then Some ((d, phrase (chain sum)) ∷ expected) else None
after_symbol (punctuation m) d t expected = if is_punctuation m t then Some expected else None
after_symbol program d t expected = after_program d t expected
after_symbol requirement d t expected = after_required d t expected
after_symbol item_name d t expected = after_name t expected
after_symbol next d Token.then_next expected = Some ((d, program) ∷ expected)
after_symbol other d Token.otherwise expected = Some ((d, punctuation opens_body) ∷ (suc d, program) ∷ (d, punctuation closes_body) ∷ expected)
after_symbol _ d t expected = None

-- The nesting of a token, and what is expected after it; nothing where none of what is expected has the token next.
unfoldable pub step : List Expected → Token → Option (ℕ × List Expected)
step [] t = None
step (e ∷ expected) t =
    option_map_or (λ more. Some (e.0, more)) (after_symbol e.1 e.0 t expected) (if is_optional e.1 then step expected t else None)

-- what is expected where a program begins
abbrev pub at_start : List Expected
at_start = (0, program) ∷ []

-- Tokens, as far as they can continue, with their nestings.
unfoldable pub placed : List Expected → List (ℕ × Token) → List Nested
placed expected [] = []
placed expected (t ∷ ts) = option_map_or (λ now. (now.0, t.1) ∷ placed now.1 ts) (step expected t.1) []

-- Whether the token is a name that no item has.
abbrev pub is_unknown : (List ℕ → Option ℕ) → Token → Bool
is_unknown item_of (Token.name word) = option_map_or (λ n. false) (item_of word) true
is_unknown item_of _ = false

-- The first fault of tokens where these things are expected, if they have one. A text that ends too early has it at the column `after`.
unfoldable pub first_fault : (List ℕ → Option ℕ) → ℕ → List Expected → List (ℕ × Token) → Option (Kind × ℕ)
first_fault item_of after expected [] = if may_end expected then None else Some (malformed, after)
first_fault item_of after expected (t ∷ ts) =
    option_map_or
    (λ now.
    if is_unknown item_of t.1 then Some (unknown_name, t.0) else
    (if nat_lt MAX_DEPTH now.0 then Some (too_deep, t.0) else first_fault item_of after now.1 ts))
    (step expected t.1) (Some (malformed, t.0))

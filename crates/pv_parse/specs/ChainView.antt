-- Chains and punctuation as plain data.
use Rattle.pv_parse.specs.declared.parser.Chain.{Chain}
use Rattle.pv_parse.specs.declared.parser.Chain.TheVariants.{Disjunction, Conjunction, Sum, Product}
use Rattle.pv_parse.specs.declared.parser.Punctuation.{Punctuation}
use Rattle.pv_parse.specs.declared.parser.Punctuation.TheVariants.{Becomes, Open, Close, OpenBody, CloseBody, Comma}
use Rattle.pv_model.specs.Grammar as grammar
use Rattle.pv_law_programs.specs.Prediction as prediction
use Rattle.pv_model.specs.Tokens.{Token}

abbrev pub chain_of : Chain → grammar.Chain
chain_of Disjunction = grammar.disjunction
chain_of Conjunction = grammar.conjunction
chain_of Sum = grammar.sum
chain_of Product = grammar.product

abbrev pub punctuation_of : Punctuation → prediction.Punctuation
punctuation_of Becomes = prediction.becomes
punctuation_of Open = prediction.opens
punctuation_of Close = prediction.closes
punctuation_of OpenBody = prediction.opens_body
punctuation_of CloseBody = prediction.closes_body
punctuation_of Comma = prediction.comma

-- the token that punctuation is
abbrev pub token_of_punctuation : Punctuation → Token
token_of_punctuation Becomes = Token.becomes
token_of_punctuation Open = Token.opens
token_of_punctuation Close = Token.closes
token_of_punctuation OpenBody = Token.opens_body
token_of_punctuation CloseBody = Token.closes_body
token_of_punctuation Comma = Token.parts

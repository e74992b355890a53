-- How a refused line and its cause are printed.
use Rattle.std.specs.Prelude.{ℕ, List, ◌++◌, codes}
use Rattle.std.specs.Fmt.{decimal}
use Rattle.pv_lines.specs.declared.cause.Cause.{Cause}
use Rattle.pv_lines.specs.declared.cause.Cause.TheVariants.{TooLong, NotText, DecidersExpected, UnknownWord, Twice, WrongCount, BadNumber, BadMode, BadCases}

-- what is wrong with a line, as it is printed
unfoldable pub cause_text : Cause → List ℕ
cause_text TooLong = codes "too long"
cause_text NotText = codes "not text"
cause_text DecidersExpected = codes "deciders expected"
cause_text UnknownWord = codes "unknown word"
cause_text Twice = codes "twice"
cause_text WrongCount = codes "wrong count"
cause_text BadNumber = codes "bad number"
cause_text BadMode = codes "bad mode"
cause_text BadCases = codes "bad cases"

-- what is written of a text whose line of this number is refused
unfoldable pub refusal_text : ℕ → Cause → List ℕ
refusal_text number cause = codes "line " ++ (decimal number ++ (codes ": " ++ (cause_text cause ++ codes "\n")))

-- From what is read of all tokens to what the text is, or is refused for.
use Rattle.std.proofs.Common.{◌≡◌, ℕ, ◌+◌, ◌≤◌, Some, None, IfSome, List, [], ◌∷◌, length, refl, ◌∙◌, subst}
use Rattle.pv_base.specs.Answer.{HasOneAnswer}
use Rattle.pv_base.specs.Catalog.{Declared}
use Rattle.pv_base.specs.declared.limits.TheConstants.{MAX_LINE}
use Rattle.pv_model.specs.Syntax as model
use Rattle.pv_model.specs.Tokens.{Token, HasTokens}
use Rattle.pv_model.specs.ProgramText.{malformed, unknown_name, too_deep, item_in, IsProgramText, IsRefused}
use Rattle.pv_model.specs.Grammar.{ReadsProgram}
use Rattle.pv_law_programs.specs.Prediction.{program, step, at_start, placed, first_fault}
use Rattle.pv_law_programs.proofs.AcceptedLemmas.{placed-of}
use Rattle.pv_law_programs.proofs.LeftmostLemmas.{refused}
use Rattle.pv_law_programs.proofs.NoRefusalLemmas.{no_refusal}
use Rattle.pv_law_programs.proofs.ProgramTextLemmas.{one_program_text, one_refusal}
use Rattle.pv_law_programs.proofs.SomeAnswer.{some_answer}
use Rattle.pv_parse.specs.declared.error.ParseError.{ParseError}
use Rattle.pv_parse.specs.declared.error.ParseError.TheVariants.{TooLarge, Malformed, UnknownName, TooDeep, NoMemory}
use Rattle.pv_parse.specs.ReadingSteps.{Columned, Context, fault_in, FailsWith}
use Rattle.pv_parse.specs.ReadingPrograms.{ReadsWhole}
use Rattle.pv_parse.specs.Refusals.{refusal_of, IsWholeProgram, IsFirstError}

no_more : (context : Context) → fault_in context [] [] ≡ None
unfolding first_fault
no_more context = refl

more_than : (context : Context) (t : ℕ × Token) (ts : Columned) → fault_in context [] (t ∷ ts) ≡ Some (malformed, t.0)
unfolding first_fault step
more_than context t ts = refl

nothing_placed : placed [] [] ≡ []
unfolding placed
nothing_placed = refl

pub reads-all : (context : Context) (before : Columned) (p : model.Program) → ReadsWhole context 0 before [] p → IsWholeProgram context before p
reads-all context before p r = record { reads = subst (λ ts. ReadsProgram (item_in context.catalog) 0 (placed at_start before) ts p) nothing_placed (r.reads []); faultless = r.fault [] ∙ no_more context }

-- A token is left behind the program.
pub faults-more : (context : Context) (before : Columned) (t : ℕ × Token) (ts : Columned) (p : model.Program) → ReadsWhole context 0 before (t ∷ ts) p → IsFirstError context before (Malformed t.0)
faults-more context before t ts p r = r.fault [] ∙ more_than context t ts

pub faults-of : (context : Context) (before : Columned) (error : ParseError) → FailsWith context (0, program) before error → IsFirstError context before error
faults-of context before error h = h []

-- the source of a text
abbrev pub source_for : Declared → List ℕ → Context
source_for catalog text = record { catalog = catalog; after_text = length text + 1 }

pub program-text : (catalog : Declared) (text : List ℕ) (tokens : Columned) (p : model.Program) → length text ≤ MAX_LINE → HasTokens text tokens → IsWholeProgram (source_for catalog text) tokens p
    → IsProgramText catalog text p
program-text catalog text tokens p short has r =
    let is = placed-of (item_in catalog) (length text + 1) tokens r.faultless in
    record { short = short; tokens = tokens; has = has; are = record { placed = placed at_start tokens; same = is.0; reads = r.reads }; shallow = is.1 }

pub refused-text : (catalog : Declared) (text : List ℕ) (tokens : Columned) (error : ParseError) → length text ≤ MAX_LINE → HasTokens text tokens → IsFirstError (source_for catalog text) tokens error
    → IfSome (refusal_of error) (IsRefused catalog text)
refused-text catalog text tokens (TooLarge n) short has f = absurd f
refused-text catalog text tokens (Malformed column) short has f = refused catalog text tokens malformed column short has f
refused-text catalog text tokens (UnknownName column) short has f = refused catalog text tokens unknown_name column short has f
refused-text catalog text tokens (TooDeep column) short has f = refused catalog text tokens too_deep column short has f
refused-text catalog text tokens NoMemory short has f = tt

-- Each text has exactly one answer.
pub one : (catalog : Declared) (text : List ℕ) → HasOneAnswer (IsProgramText catalog text) (IsRefused catalog text)
one catalog text = record {
  some = some_answer catalog text;
  one_value = one_program_text catalog text;
  one_fault = one_refusal catalog text;
  not_both = no_refusal catalog text;
}

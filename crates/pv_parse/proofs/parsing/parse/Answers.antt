-- What all tokens are or are at fault for, the text is or is refused for.
use Rattle.std.proofs.Common.{rules, ℕ, ◌≡◌, ◌≤◌, length, List, Err, Result, IfSome, refl, sym, subst}
use Rattle.std.proofs.lemmas.Result.{err_from_is_err_and}
use Rattle.pv_base.proofs.AnswerLemmas.{answered}
use Rattle.pv_base.specs.declared.limits.TheConstants.{MAX_LINE}
use Rattle.pv_model.specs.ProgramText.{IsProgramText, IsRefused}
use Rattle.pv_model.specs.Syntax.{Program}
use Rattle.pv_base.specs.Catalog.{Declared}
use Rattle.pv_parse.specs.declared.error.ParseError.{ParseError}
use Rattle.pv_parse.specs.declared.error.ParseError.TheVariants.{TooLarge, NoMemory}
use Rattle.pv_base.specs.Answer.{Answers}
use Rattle.pv_parse.specs.Refusals.{refusal_of}
use Rattle.pv_parse.proofs.ParseLemmas.{program-text, refused-text, one}
use Rattle.pv_parse.proofs.parsing.parse.Goals as goal

-- A refusal that the text has is the answer.
refused-so : (catalog : Declared) (text : List ℕ) (result : Result Program ParseError) (error : ParseError) → result ≡ Err error → IfSome (refusal_of error) (IsRefused catalog text)
    → Answers (IsProgramText catalog text) (IsRefused catalog text) (λ p. p) refusal_of result
refused-so catalog text result error is reported =
    subst (λ r. Answers (IsProgramText catalog text) (IsRefused catalog text) (λ p. p) refusal_of r) (sym is)
    (answered (IsProgramText catalog text) (IsRefused catalog text) (one catalog text) (λ p. p) refusal_of (Err error) tt reported)

pub returns-then-text-gt-MAX_LINE-clause-answer : goal.returns-then-text-gt-MAX_LINE-clause-answer
returns-then-text-gt-MAX_LINE-clause-answer c =
    refused-so c.args.catalog.now c.args.text.now _ (TooLarge (length c.args.text.now)) refl (refl, c.if-text-gt-MAX_LINE.true)

pub returns-in_err-all-clause-answer : goal.returns-in_err-all-clause-answer
returns-in_err-all-clause-answer c =
    let is = err_from_is_err_and c.from_residual.result c.from_residual.ensures.1 in
    refused-so c.args.catalog.now c.args.text.now c.from_residual.result NoMemory (search (rules, is)) tt

pub returns-in_err-program-clause-answer : goal.returns-in_err-program-clause-answer
returns-in_err-program-clause-answer c =
    let is = err_from_is_err_and c.from_residual-in_err-program.result c.from_residual-in_err-program.ensures.1 in
    let short : length c.args.text.now ≤ MAX_LINE = search rules in
    let faults = rw (c.new.ensures, c.deref.ensures.value) at c.in_err-program.ensures.faults in
    refused-so c.args.catalog.now c.args.text.now c.from_residual-in_err-program.result _ (search (rules, is)) (refused-text c.args.catalog.now c.args.text.now _ _ short c.in_ok-all.ensures.tokens faults)

pub returns-clause-answer : goal.returns-clause-answer
returns-clause-answer c =
    let catalog = c.args.catalog.now in
    let text = c.args.text.now in
    let short : length text ≤ MAX_LINE = search rules in
    let read = rw (c.new.ensures, c.deref.ensures.value) at c.in_ok-program.ensures.read in
    answered (IsProgramText catalog text) (IsRefused catalog text) (one catalog text) (λ p. p) refusal_of _
    (program-text catalog text _ c.in_ok-program.program short c.in_ok-all.ensures.tokens read) tt

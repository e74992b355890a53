-- By what is known of the transaction's outcome.
use Rattle.std.specs.Prelude.{IfSome}
use Rattle.std.proofs.Common.{◌≡◌, ◌∙◌, ℕ, ℤ, List, Some, None, true, false, ap, sym, subst}
use Rattle.pv_base.specs.declared.limits.TheConstants.{HELD_NAMES}
use Rattle.pv_base.specs.declared.faults.NameError.TheVariants as error
use Rattle.pv_base.specs.Polyvalue.{Case}
use Rattle.pv_cases.specs.NameLimits as names_limit
use Rattle.pv_cases.specs.NameLimits.{ChoiceNamesTooMany}
use Rattle.pv_law_polyvalues.proofs.ExistenceLemmas.{one-choice-names}
use Rattle.pv_store.specs.Held.{outcome_in}
use Rattle.pv_store.specs.Promise.{after_promise}
use Rattle.pv_store.specs.Refusals.{if_too_many, names_count}
use Rattle.pv_store.proofs.PromiseLemmas.{after-abort, after-choice, after-commit, choice-names, many-some, narrow-taken, polyvalue-taken}
use Rattle.pv_store.proofs.promise.promised.Goals as goal

pub returns-in-Some-true-clause-value : goal.returns-in-Some-true-clause-value
returns-in-Some-true-clause-value c = λ catalog records front item writes is.
    let told : outcome_in c.args.outcomes.now.outcomes c.args.txn ≡ Some true = sym c.get.ensures ∙ c.in-Some-true.is ∙ ap Some c.in-Some-true.field-0-test in
    let now = c.in_ok-settled-in-Some-true in
    after-commit c.args.outcomes.now.outcomes c.args.txn c.args.new.now c.args.old.now catalog records front item writes is told
    now.field-0 now.ensures.polyvalue.canonical (now.ensures.value records is.known)

pub returns-in-Some-true-clause-answer : goal.returns-in-Some-true-clause-answer
returns-in-Some-true-clause-answer c = λ catalog records front item writes is.
    let now = c.in_ok-settled-in-Some-true in
    record {
      accepted = subst (λ (cases : List (Case ℤ)). if_too_many (names_count cases) ≡ None) (returns-in-Some-true-clause-value c catalog records front item writes is)
          (polyvalue-taken now.field-0 now.ensures.polyvalue);
      refused = tt;
    }

pub returns-in-Some-false-clause-value : goal.returns-in-Some-false-clause-value
returns-in-Some-false-clause-value c = λ catalog records front item writes is.
    let told : outcome_in c.args.outcomes.now.outcomes c.args.txn ≡ Some false = sym c.get.ensures ∙ c.in-Some-false.is ∙ ap Some c.in-Some-false.field-0-test in
    c.in_ok-copy-in-Some-false.ensures.equal
    ∙ after-abort c.args.outcomes.now.outcomes c.args.txn c.args.new.now c.args.old.now catalog records front item writes is told

pub returns-in-Some-false-clause-answer : goal.returns-in-Some-false-clause-answer
returns-in-Some-false-clause-answer c = λ catalog records front item writes is.
    let told : outcome_in c.args.outcomes.now.outcomes c.args.txn ≡ Some false = sym c.get.ensures ∙ c.in-Some-false.is ∙ ap Some c.in-Some-false.field-0-test in
    record {
      accepted = subst (λ (cases : List (Case ℤ)). if_too_many (names_count cases) ≡ None)
          (after-abort c.args.outcomes.now.outcomes c.args.txn c.args.new.now c.args.old.now catalog records front item writes is told)
          (narrow-taken c.args.old.now is.narrow);
      refused = tt;
    }

pub returns-in-Ok-clause-value : goal.returns-in-Ok-clause-value
returns-in-Ok-clause-value c = λ catalog records front item writes is.
    let told : outcome_in c.args.outcomes.now.outcomes c.args.txn ≡ None = sym c.get.ensures ∙ c.in-None.is in
    let settled = c.in_ok-new-in-None in
    after-choice c.args.outcomes.now.outcomes c.args.txn c.args.new.now c.args.old.now catalog records front item writes is told
    settled.new settled.ensures.polyvalue.canonical (settled.ensures.value records is.known)
    c.in-Ok.value c.in-Ok.ensures.answer.given.polyvalue.canonical c.in-Ok.ensures.answer.given.choice

pub returns-in-Ok-clause-answer : goal.returns-in-Ok-clause-answer
returns-in-Ok-clause-answer c = λ catalog records front item writes is.
    record {
      accepted = subst (λ (cases : List (Case ℤ)). if_too_many (names_count cases) ≡ None) (returns-in-Ok-clause-value c catalog records front item writes is)
          (polyvalue-taken c.in-Ok.value c.in-Ok.ensures.answer.given.polyvalue);
      refused = tt;
    }

pub returns-in-Err-TooManyOutcomes-clause-answer : goal.returns-in-Err-TooManyOutcomes-clause-answer
returns-in-Err-TooManyOutcomes-clause-answer c = λ catalog records front item writes is.
    let told : outcome_in c.args.outcomes.now.outcomes c.args.txn ≡ None = sym c.get.ensures ∙ c.in-None.is in
    let settled = c.in_ok-new-in-None in
    let told_count = c.in-Err-TooManyOutcomes.count in
    let there : ChoiceNamesTooMany HELD_NAMES c.args.txn c.args.old.now settled.new told_count =
    subst (λ (e : error.the_data). IfSome (names_limit.count_of e) (ChoiceNamesTooMany HELD_NAMES c.args.txn c.args.old.now settled.new)) c.in-Err-TooManyOutcomes.field-0-is
    c.in-Err-TooManyOutcomes.ensures.answer.refused in
    let count = names_count (after_promise catalog records front c.args.txn writes item) in
    let same : told_count ≡ count = one-choice-names c.args.txn c.args.old.now settled.new told_count count there.names
    (choice-names c.args.outcomes.now.outcomes c.args.txn c.args.new.now c.args.old.now catalog records front item writes is told
    settled.new settled.ensures.polyvalue.canonical (settled.ensures.value records is.known)) in
    record {
      accepted = tt;
      refused = subst (λ (n : ℕ). if_too_many n ≡ Some told_count) same (many-some told_count there.over);
    }

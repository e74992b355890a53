-- Values have one list of sums, or name one count of outcomes that is too many.
use Rattle.std.proofs.Common.{◌≡◌, ⊎_elim, ℕ, ℤ, List, Result, Err, Ok, IfSome, inl, inr, refl, sym, ap, ◌∙◌}
use Rattle.pv_base.specs.Answer.{Answers, HasOneAnswer}
use Rattle.pv_base.specs.Polyvalue.{Case}
use Rattle.pv_base.proofs.AnswerLemmas.{answered}
use Rattle.pv_cases.specs.NameLimits.{NameTooMany}
use Rattle.pv_cases.proofs.NameLimitLemmas.{few-or-many, one-count, not-few}
use Rattle.pv_cases.proofs.RefusedLemmas.{refused-so}
use Rattle.pv_law_polyvalues.proofs.NameLemmas.{some-names, one-names, NamesAtMost-from}
use Rattle.pv_model.specs.PossibleAnswers.{sums}
use Rattle.pv_query.specs.AllSums.{AreAllSums, count_of, together}
use Rattle.pv_query.specs.declared.adding.SumError.{SumError}

module _ (limit : ℕ) (values : List (List (Case ℤ))) where
  one-all-sums : HasOneAnswer (AreAllSums limit values) (NameTooMany limit (together values))
  one-all-sums = record {
    some = ⊎_elim
        (λ few. let listed = some-names (together values) in
        inl (sums values listed.0, record { txns = listed.0; named = listed.1; few = few listed.0 listed.1; sums = refl }))
        (λ many. inr many)
        (few-or-many limit (together values));
    one_value = λ numbers others are them.
        are.sums ∙ ap (sums values) (one-names (together values) (together values) are.txns them.txns (λ t. refl) are.named them.named) ∙ sym them.sums;
    one_fault = one-count limit (together values);
    not_both = λ numbers count are wrong. not-few limit (together values) count (NamesAtMost-from limit (together values) are.txns are.named are.few) wrong;
  }

  module _ {X : Type 0} (value_of : X → List ℤ) where
    -- An error is the answer where what it reports is so.
    pub refused-sums : (result : Result X SumError) (error : SumError) → result ≡ Err error → IfSome (count_of error) (NameTooMany limit (together values))
        → Answers (AreAllSums limit values) (NameTooMany limit (together values)) value_of count_of result
    refused-sums = refused-so (AreAllSums limit values) (NameTooMany limit (together values)) one-all-sums value_of count_of

    -- All sums are the answer.
    pub given-sums : (numbers : X) → AreAllSums limit values (value_of numbers)
        → Answers (AreAllSums limit values) (NameTooMany limit (together values)) value_of count_of (Ok numbers)
    given-sums numbers are = answered (AreAllSums limit values) (NameTooMany limit (together values)) one-all-sums value_of count_of (Ok numbers) are tt

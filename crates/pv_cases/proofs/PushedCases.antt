-- What is put under_all a list of cases where those of a tree are pushed.
use Rattle.std.proofs.Common.{◌≡◌, ℕ, ◌-◌, true, false, List, [], ◌∷◌, ◌++◌, length, take, sym, ap, ap₂, ◌∙◌, length-append, arith}
use Rattle.std.proofs.lemmas.List.{append-nil}
use Rattle.std.proofs.Math.Seq.{take-append_seam}
use Rattle.pv_base.specs.declared.literal.Literal.{Literal}
use Rattle.pv_base.specs.declared.txn.TxnId.{TxnId}
use Rattle.pv_base.specs.Polyvalue.{Case}
use Rattle.pv_cases.proofs.CasesAtLemmas.{pushed-tested}
use Rattle.pv_cases.proofs.TestedCases.{IsTested}
use Rattle.pv_cases.specs.CasesAt.{under_all}

-- What is pushed of a test: one side under the way and "doesn't commit", and then the other under the way and "commits".
pub pushed-test : {V : Type 0} (cases : List (Case V)) (way first second : List Literal) (txn : TxnId) (aborted committed one other old middle new : List (Case V)) →
    IsTested txn aborted committed cases → one ≡ aborted → other ≡ committed →
    first ≡ way ++ record { txn = txn; commits = false } ∷ [] → second ≡ way ++ record { txn = txn; commits = true } ∷ [] →
    middle ≡ old ++ under_all first one → new ≡ middle ++ under_all second other → new ≡ old ++ under_all way cases
pushed-test {V} cases way first second txn aborted committed one other old middle new top is-aborted is-committed is-first is-second added added-too =
    pushed-tested way first second txn aborted committed old middle new is-first is-second
    (added ∙ ap (λ (side : List (Case V)). old ++ under_all first side) is-aborted)
    (added-too ∙ ap (λ (side : List (Case V)). middle ++ under_all second side) is-committed)
    ∙ ap (λ (all : List (Case V)). old ++ under_all way all) (sym top.is)

-- what is pushed of a sure value
pub pushed-sure : {V : Type 0} (cases : List (Case V)) (way copied : List Literal) (value : V) (old new : List (Case V)) →
    cases ≡ record { when = []; value = value } ∷ [] → copied ≡ way → new ≡ old ++ record { when = copied; value = value } ∷ [] → new ≡ old ++ under_all way cases
pushed-sure {V} cases way copied value old new only same pushed =
    pushed
    ∙ ap (λ (when : List Literal). old ++ record { when = when; value = value } ∷ []) (same ∙ sym (append-nil way))
    ∙ ap (λ (all : List (Case V)). old ++ under_all way all) (sym only)

-- Taking off what was put on leaves the list as it was.
pub popped-way : {A : Type 0} (way whole popped : List A) (x : A) (count : ℕ) → whole ≡ way ++ x ∷ [] → count ≡ length whole →
    popped ≡ take (count - 1) whole → popped ≡ way
popped-way way whole popped x count is long rest =
    let less : count - 1 ≡ length way = omega (arith, long, ap length is, length-append way (x ∷ [])) in
    rest ∙ ap₂ take less is ∙ take-append_seam way (x ∷ [])

-- What a grant is to its transaction, by what is tested of it.
use Rattle.std.proofs.Common.{◌≡◌, Bool, true, false, Some, None, Option, IsTrue, refl, sym, ap, subst, ◌∙◌}
use Rattle.std.specs.Prelude.{not, if◌then◌else◌, IfErr, Result, Ok, Err}
use Rattle.pv_coord.specs.Answers.{Arrival, ignored, waits, last, arrival, arrival_at, CanApply}
use Rattle.pv_coord.specs.Coordinator.{Coordinator, Grants, locking_work, fits, completes, CanTake, is_last}
use Rattle.pv_coord.specs.Work.{Work, is_grant_ignored, has_all_grants, with_grant}
use Rattle.pv_protocol.specs.Coordinate.{reads_of}

-- the arrival by the two tests
abbrev arrival_by : Bool → Bool → Work → Grants → Arrival
arrival_by unfit whole work grants =
    if unfit then ignored else
    (if whole then last (reads_of (with_grant work grants.taken).entry) work.entry.program grants else waits grants)

pub ignored-at : (work : Work) (grants : Grants) → is_grant_ignored work grants.taken ≡ true → ignored ≡ arrival_at work grants
ignored-at work grants unfit = sym (ap (λ (b : Bool). arrival_by b (has_all_grants (with_grant work grants.taken)) work grants) unfit)

pub waits-at : (work : Work) (grants : Grants) → is_grant_ignored work grants.taken ≡ false → has_all_grants (with_grant work grants.taken) ≡ false
    → waits grants ≡ arrival_at work grants
waits-at work grants fit part =
    sym (ap (λ (b : Bool). arrival_by b (has_all_grants (with_grant work grants.taken)) work grants) fit ∙ ap (λ (b : Bool). arrival_by false b work grants) part)

pub last-at : (work : Work) (grants : Grants) → is_grant_ignored work grants.taken ≡ false → has_all_grants (with_grant work grants.taken) ≡ true
    → last (reads_of (with_grant work grants.taken).entry) work.entry.program grants ≡ arrival_at work grants
last-at work grants fit whole =
    sym (ap (λ (b : Bool). arrival_by b (has_all_grants (with_grant work grants.taken)) work grants) fit ∙ ap (λ (b : Bool). arrival_by false b work grants) whole)

-- What holds anyway holds of an error.
pub if-error : {T E P : Type 0} (result : Result T E) → P → IfErr result (λ _. P)
if-error (Ok value) holds = tt
if-error (Err error) holds = holds

noticed-by : (whole : Bool) (work : Work) (grants : Grants) → arrival_by false whole work grants ≡ ignored → ⊥
noticed-by true work grants is = let wrong : ⊥ = cc in wrong
noticed-by false work grants is = let wrong : ⊥ = cc in wrong

-- Notice is taken of a grant that fits.
pub noticed : (work : Work) (grants : Grants) → is_grant_ignored work grants.taken ≡ false → arrival_at work grants ≡ ignored → ⊥
noticed work grants fit is =
    noticed-by (has_all_grants (with_grant work grants.taken)) work grants
    (sym (ap (λ (b : Bool). arrival_by b (has_all_grants (with_grant work grants.taken)) work grants) fit) ∙ is)

apply-by : (coord : Coordinator) (work : Work) (grants : Grants) (unfit whole : Bool) → (unfit ≡ false → CanTake coord grants) → whole ≡ is_last coord grants
    → CanApply coord (arrival_by unfit whole work grants)
apply-by coord work grants true whole may all = tt
apply-by coord work grants false true may all = (may refl, all)
apply-by coord work grants false false may all = (may refl, all)

apply-held : (coord : Coordinator) (grants : Grants) (held : Option Work) → locking_work coord grants.txn ≡ held → CanApply coord (arrival held grants)
apply-held coord grants None is = tt
apply-held coord grants (Some work) is =
    apply-by coord work grants (is_grant_ignored work grants.taken) (has_all_grants (with_grant work grants.taken))
    (λ fit. subst (λ (held : Option Work). IsTrue (fits held grants.taken)) (sym is) (ap not fit))
    (sym (ap (λ (held : Option Work). completes held grants.taken) is))

-- The change of an answer may be applied.
pub can-apply : (coord : Coordinator) (grants : Grants) → CanApply coord (arrival (locking_work coord grants.txn) grants)
can-apply coord grants = apply-held coord grants (locking_work coord grants.txn) refl

-- The kind, and then what the kind has.
use Rattle.std.proofs.Common.{◌≡◌, ◌∙◌, ◌==◌, ◌&&◌, ℕ, Bool, true, false, IsTrue, inl, inr, eq-eqb, sym, subst, arith}
use Rattle.std.proofs.lemmas.Bool.{and_parts, eqb-true, true≢false}
use Rattle.std.proofs.lemmas.Bool.Decides.{nat_tests}
use Rattle.std.proofs.lemmas.Result.{err_from_is_err_and}
use Rattle.pv_base.specs.BigEndian.{IsNumber}
use Rattle.pv_format.specs.Layout.{is_record_kind, record_layout}
use Rattle.pv_format.specs.RecordSpelling.{IsReadAs}
use Rattle.pv_format.specs.Spelling.{◌followed_by◌}
use Rattle.pv_fields.specs.Decoding.{Passes}
use Rattle.pv_fields.proofs.PartLemmas.{number_allowed, passes_after_number, passes_as, stops_after_number, stops_number, stops_short}
use Rattle.pv_replay.specs.Content.{SpellsContentOf, promises_sure}
use Rattle.pv_replay.specs.Faults.{fault_of}
use Rattle.pv_replay.specs.Values.{record_of}
use Rattle.pv_replay.proofs.ContentLemmas.{after_kind, only_sure, record_by_parts, stopped_by}
use Rattle.pv_replay.proofs.record.take_record.Goals as goal
use Rattle.pv_replay.proofs.record.take_record.Goals.{then-kind-lt1-via-then-kind-lt1, then-kind-lt1-via-else-kind-lt1+then-kind-gt4}

pub returns-in_err-kind-clause-stops : goal.returns-in_err-kind-clause-stops
returns-in_err-kind-clause-stops c =
    let p = err_from_is_err_and c.from_residual.result c.from_residual.ensures.1 in
    rw (p.1, p.2)
    (inl (λ next. stops_short 1 is_record_kind c.args.take.now c.u8.new.self c.in_err-kind.field-0.0 c.in_err-kind.ensures.short (λ kind. after_kind kind next)))

pub returns-in_err-value-clause-stops : goal.returns-in_err-value-clause-stops
returns-in_err-value-clause-stops c =
    let p = err_from_is_err_and c.from_residual-in_err-value.result c.from_residual-in_err-value.ensures.1 in
    let allowed : IsTrue (is_record_kind c.in_ok-kind.kind) = grind (arith, nat_tests) in
    let number = number_allowed 1 c.in_ok-kind.kind is_record_kind c.args.take.now c.u8.new.self c.in_ok-kind.ensures.taken (omega arith) allowed in
    rw (p.1, p.2)
    (stopped_by c.args.take.now c.take_content.new.take (fault_of c.in_err-value.field-0.0)
    (stops_after_number (IsNumber 1 c.in_ok-kind.kind) 1 is_record_kind c.in_ok-kind.kind after_kind c.args.take.now c.u8.new.self number
    (fault_of c.in_err-value.field-0.0) c.in_err-value.ensures.stops))

pub returns-then-kind-lt1-clause-stops : goal.returns-then-kind-lt1-clause-stops
returns-then-kind-lt1-clause-stops c =
    rw c.place-place.ensures.place
    (inl (λ next.
    stops_number 1 c.in_ok-kind.kind c.args.take.now c.u8.new.self c.in_ok-kind.ensures.taken (omega arith) is_record_kind
    (elim c.then-kind-lt1.branch [ then-kind-lt1-via-then-kind-lt1 w ↦ grind (arith, nat_tests) | then-kind-lt1-via-else-kind-lt1+then-kind-gt4 w ↦ grind (arith, nat_tests) ])
    (λ kind. after_kind kind next)))

right_wrong : (first second : Bool) → (first && second) ≡ false → first ≡ true → second ≡ false
right_wrong true second wrong is = wrong
right_wrong false second wrong is = absurd (true≢false (sym is))

pub returns-then-has_wrong_kind-clause-stops : goal.returns-then-has_wrong_kind-clause-stops
returns-then-has_wrong_kind-clause-stops c =
    let value = record_of c.in_ok-value.value in
    let allowed : IsTrue (is_record_kind c.in_ok-kind.kind) = grind (arith, nat_tests) in
    let number = number_allowed 1 c.in_ok-kind.kind is_record_kind c.args.take.now c.u8.new.self c.in_ok-kind.ensures.taken (omega arith) allowed in
    let passes = passes_after_number (IsNumber 1 c.in_ok-kind.kind) 1 is_record_kind c.in_ok-kind.kind after_kind c.args.take.now c.u8.new.self number
    (SpellsContentOf c.in_ok-kind.kind value) c.take_content.new.take c.in_ok-value.ensures.passes in
    let wrong = and_parts (c.in_ok-kind.kind == 4) (promises_sure value) (sym c.has_wrong_kind.ensures ∙ c.if-has_wrong_kind.true) in
    inr (only_sure value c.args.take.now c.take_content.new.take wrong.1
    (subst (λ (kind : ℕ). Passes (IsNumber 1 kind followed_by SpellsContentOf kind value) record_layout c.args.take.now c.take_content.new.take)
    (eqb-true c.in_ok-kind.kind 4 wrong.0) passes))

pub returns-clause-passes : goal.returns-clause-passes
returns-clause-passes c =
    let value = record_of c.in_ok-value.value in
    let allowed : IsTrue (is_record_kind c.in_ok-kind.kind) = grind (arith, nat_tests) in
    let number = number_allowed 1 c.in_ok-kind.kind is_record_kind c.args.take.now c.u8.new.self c.in_ok-kind.ensures.taken (omega arith) allowed in
    let passes = passes_after_number (IsNumber 1 c.in_ok-kind.kind) 1 is_record_kind c.in_ok-kind.kind after_kind c.args.take.now c.u8.new.self number
    (SpellsContentOf c.in_ok-kind.kind value) c.take_content.new.take c.in_ok-value.ensures.passes in
    passes_as (IsNumber 1 c.in_ok-kind.kind followed_by SpellsContentOf c.in_ok-kind.kind value) (IsReadAs value) record_layout c.args.take.now c.take_content.new.take
    (λ bytes s. record_by_parts c.in_ok-kind.kind value bytes c.in_ok-value.ensures.kind
    (λ four. right_wrong (c.in_ok-kind.kind == 4) (promises_sure value) (sym c.has_wrong_kind.ensures ∙ c.if-has_wrong_kind.false) (eq-eqb c.in_ok-kind.kind 4 four)) s)
    passes

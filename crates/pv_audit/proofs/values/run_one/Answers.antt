-- One transaction of the order: without a request it isn't one; else it is committed, open, or neither.
use Rattle.std.proofs.Common.{ℤ, IfSome, List, [], length, get_or, ap, sym, subst, ◌∙◌}
use Rattle.std.specs.List.{Any}
use Rattle.std.proofs.lemmas.Result.{err_from_is_err_and}
use Rattle.pv_audit.specs.RunView.{limit_of}
use Rattle.pv_audit.specs.Values.{AreWritten, AreChoices, ReadsTooMuch}
use Rattle.pv_audit.proofs.PutLemmas.{length-put_all}
use Rattle.pv_audit.proofs.RunLemmas.{run-without, one-committed, one-open, one-idle, one-read, one-choice, runs-committed, runs-open, written-within}
use Rattle.pv_base.specs.Polyvalue.{Case}
use Rattle.pv_base.specs.declared.limits.TheConstants.{HELD_NAMES}
use Rattle.pv_cases.specs.NameLimits.{ChoiceNamesTooMany}
use Rattle.pv_model.specs.Alternatives.{Read}
use Rattle.pv_audit.proofs.values.run_one.Goals as goal

pub returns-in_default-clause-run : goal.returns-in_default-clause-run
returns-in_default-clause-run c = λ catalog told front behind can split run.
    run-without told front c.args.txn behind can.placed split (c.in_default.ensures.first told.begun can.requests)

pub returns-in_err-writes-clause-limit : goal.returns-in_err-writes-clause-limit
returns-in_err-writes-clause-limit c = λ catalog told front behind can split run.
    let committed = sym (c.has.ensures told.committed can.sorted.committed) ∙ c.if-has.true in
    let much : IfSome (limit_of c.in_err-writes.field-0.0) (ReadsTooMuch c.in-Some.request.program.now c.args.values.now.items) =
    subst (λ (values : List (List (Case ℤ))). IfSome (limit_of c.in_err-writes.field-0.0) (ReadsTooMuch c.in-Some.request.program.now values)) c.deref.ensures.value
    c.in_err-writes.ensures.limit in
    let p = err_from_is_err_and c.from_residual.result c.from_residual.ensures.1 in
    rw (p.1, p.2)
    (one-read catalog told front c.args.txn behind can.placed split c.in-Some.request.program.now (c.in-Some.ensures.first told.begun can.requests) c.args.values.now.items run
    (limit_of c.in_err-writes.field-0.0) (runs-committed told c.args.txn committed) much)

pub returns-then-has-clause-count : goal.returns-then-has-clause-count
returns-then-has-clause-count c =
    ap (λ (values : List (List (Case ℤ))). length values) c.put_all.ensures ∙ length-put_all c.args.values.now.items c.in_ok-writes.writes.items

pub returns-then-has-clause-run : goal.returns-then-has-clause-run
returns-then-has-clause-run c = λ catalog told front behind can split run.
    let committed = sym (c.has.ensures told.committed can.sorted.committed) ∙ c.if-has.true in
    let is : AreWritten c.in-Some.request.program.now c.args.values.now.items c.in_ok-writes.writes.items =
    subst (λ (values : List (List (Case ℤ))). AreWritten c.in-Some.request.program.now values c.in_ok-writes.writes.items) c.deref.ensures.value c.in_ok-writes.ensures.written in
    one-committed catalog told front c.args.txn behind can.placed split c.in-Some.request.program.now (c.in-Some.ensures.first told.begun can.requests) c.args.values.now.items run
    c.put_all.new.values.items c.in_ok-writes.writes.items is committed c.put_all.ensures

pub returns-then-not-has-clause-run : goal.returns-then-not-has-clause-run
returns-then-not-has-clause-run c = λ catalog told front behind can split run.
    let uncommitted = sym (c.has.ensures told.committed can.sorted.committed) ∙ c.if-has.false in
    let closed = sym (c.has-2.ensures told.open_ones can.sorted.open_ones) ∙ c.if-not-has.true in
    one-idle catalog told front c.args.txn behind can.placed split c.in-Some.request.program.now (c.in-Some.ensures.first told.begun can.requests) c.args.values.now.items run
    uncommitted closed

pub returns-in_err-writes-2-clause-limit : goal.returns-in_err-writes-2-clause-limit
returns-in_err-writes-2-clause-limit c = λ catalog told front behind can split run.
    let opened = sym (c.has-2.ensures told.open_ones can.sorted.open_ones) ∙ c.if-not-has.false in
    let much : IfSome (limit_of c.in_err-writes-2.field-0.0) (ReadsTooMuch c.in-Some.request.program.now c.args.values.now.items) =
    subst (λ (values : List (List (Case ℤ))). IfSome (limit_of c.in_err-writes-2.field-0.0) (ReadsTooMuch c.in-Some.request.program.now values)) c.deref-2.ensures.value
    c.in_err-writes-2.ensures.limit in
    let p = err_from_is_err_and c.from_residual-in_err-writes-2.result c.from_residual-in_err-writes-2.ensures.1 in
    rw (p.1, p.2)
    (one-read catalog told front c.args.txn behind can.placed split c.in-Some.request.program.now (c.in-Some.ensures.first told.begun can.requests) c.args.values.now.items run
    (limit_of c.in_err-writes-2.field-0.0) (runs-open told c.args.txn opened) much)

pub choices_of-requires : goal.choices_of-requires
choices_of-requires c =
    let is : AreWritten c.in-Some.request.program.now c.deref-3.result.now c.deref-4.result.now =
    subst (λ (values : List (List (Case ℤ))). AreWritten c.in-Some.request.program.now values c.deref-4.result.now) (c.deref-2.ensures.value ∙ sym c.deref-3.ensures.value)
    (subst (λ (writes : List Read). AreWritten c.in-Some.request.program.now c.deref-2.result.now writes) (sym c.deref-4.ensures.value) c.in_ok-writes-2.ensures.written) in
    written-within c.in-Some.request.program.now c.deref-3.result.now c.deref-4.result.now is

pub returns-in_err-choices-clause-limit : goal.returns-in_err-choices-clause-limit
returns-in_err-choices-clause-limit c = λ catalog told front behind can split run.
    let is : AreWritten c.in-Some.request.program.now c.args.values.now.items c.deref-4.result.now =
    subst (λ (values : List (List (Case ℤ))). AreWritten c.in-Some.request.program.now values c.deref-4.result.now) c.deref-2.ensures.value
    (subst (λ (writes : List Read). AreWritten c.in-Some.request.program.now c.deref-2.result.now writes) (sym c.deref-4.ensures.value) c.in_ok-writes-2.ensures.written) in
    let much = subst
    (λ (values : List (List (Case ℤ))). IfSome (limit_of c.in_err-choices.field-0.0)
    (λ count. Any (λ (write : Read). ChoiceNamesTooMany HELD_NAMES c.args.txn (get_or values write.item []) write.cases count) c.deref-4.result.now))
    c.deref-3.ensures.value c.in_err-choices.ensures.limit in
    let p = err_from_is_err_and c.from_residual-in_err-choices.result c.from_residual-in_err-choices.ensures.1 in
    rw (p.1, p.2)
    (one-choice catalog told front c.args.txn behind can.placed split c.in-Some.request.program.now (c.in-Some.ensures.first told.begun can.requests) c.args.values.now.items run
    (limit_of c.in_err-choices.field-0.0) c.deref-4.result.now is much)

pub returns-clause-count : goal.returns-clause-count
returns-clause-count c =
    ap (λ (values : List (List (Case ℤ))). length values) c.put_all-2.ensures ∙ length-put_all c.args.values.now.items c.in_ok-choices.choices.items

pub returns-clause-run : goal.returns-clause-run
returns-clause-run c = λ catalog told front behind can split run.
    let uncommitted = sym (c.has.ensures told.committed can.sorted.committed) ∙ c.if-has.false in
    let opened = sym (c.has-2.ensures told.open_ones can.sorted.open_ones) ∙ c.if-not-has.false in
    let is : AreWritten c.in-Some.request.program.now c.args.values.now.items c.deref-4.result.now =
    subst (λ (values : List (List (Case ℤ))). AreWritten c.in-Some.request.program.now values c.deref-4.result.now) c.deref-2.ensures.value
    (subst (λ (writes : List Read). AreWritten c.in-Some.request.program.now c.deref-2.result.now writes) (sym c.deref-4.ensures.value) c.in_ok-writes-2.ensures.written) in
    let chosen : AreChoices c.args.txn c.args.values.now.items c.deref-4.result.now c.in_ok-choices.choices.items =
    subst (λ (values : List (List (Case ℤ))). AreChoices c.args.txn values c.deref-4.result.now c.in_ok-choices.choices.items) c.deref-3.ensures.value c.in_ok-choices.ensures.choices in
    one-open catalog told front c.args.txn behind can.placed split c.in-Some.request.program.now (c.in-Some.ensures.first told.begun can.requests) c.args.values.now.items run
    c.put_all-2.new.values.items c.deref-4.result.now c.in_ok-choices.choices.items is chosen uncommitted opened c.put_all-2.ensures

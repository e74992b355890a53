-- A leaf, or a test with its two sides.
use Rattle.std.proofs.Common.{⊎_elim, true, ◌≡◌, ◌∙◌, ◌++◌, ◌∷◌, [], ◌-◌, ℕ, suc, ℤ, List, ap₂, FitsSigned, w64, inl, inr, rules, subst, arith}
use Rattle.std.proofs.lemmas.Int.{to_z-of_z}
use Rattle.std.proofs.lemmas.Result.{err_from_is_err_and, on_ok_weaker, IfErr-weaker}
use Rattle.pv_base.specs.BigEndian.{big_endian}
use Rattle.pv_base.specs.declared.literal.Literal.{Literal}
use Rattle.pv_bytes.specs.Reading.{HasTaken}
use Rattle.pv_cases.proofs.PushedCases.{popped-way}
use Rattle.pv_format.specs.Layout.{node_layout}
use Rattle.pv_fields.specs.Decoding.{Stops}
use Rattle.pv_replay.specs.Faults.{fault_of}
use Rattle.pv_replay.specs.Nodes.{IsNodeRead}
use Rattle.pv_replay.proofs.LeftLemmas.{gone_further, gone_nowhere}
use Rattle.pv_replay.proofs.NodeLemmas.{aborted_stops, committed_stops, kind_bad, kind_short, leaf_read, leaf_short, test_read, txn_stops}
use Rattle.pv_replay.proofs.poly.+node.Goals as goal

pub take_node-returns-in_err-kind-clause-stops : goal.take_node-returns-in_err-kind-clause-stops
take_node-returns-in_err-kind-clause-stops t c =
    let p = err_from_is_err_and c.from_residual.result c.from_residual.ensures.1 in
    rw (p.1, p.2) (kind_short c.args.tests c.args.take.now c.u8.new.self c.in_err-kind.field-0.0 c.in_err-kind.ensures.short)

pub take_node-returns-in_err-value-clause-stops : goal.take_node-returns-in_err-value-clause-stops
take_node-returns-in_err-value-clause-stops t c =
    let p = err_from_is_err_and c.from_residual-in_err-value.result c.from_residual-in_err-value.ensures.1 in
    let leaf = subst (λ (kind : ℕ). HasTaken (big_endian 1 kind) c.args.take.now c.u8.new.self) c.if-kind-eq0.true c.in_ok-kind.ensures.taken in
    rw (p.1, p.2) (leaf_short c.args.tests c.args.take.now c.u8.new.self c.i64.new.self leaf c.in_err-value.field-0.0 c.in_err-value.ensures.short)

pub take_node-returns-then-kind-eq0-clause-read : goal.take_node-returns-then-kind-eq0-clause-read
take_node-returns-then-kind-eq0-clause-read t c =
    let fits : FitsSigned w64 c.in_ok-value.value = search rules in
    let leaf = subst (λ (kind : ℕ). HasTaken (big_endian 1 kind) c.args.take.now c.u8.new.self) c.if-kind-eq0.true c.in_ok-kind.ensures.taken in
    leaf_read c.args.tests c.in_ok-value.value c.args.take.now c.u8.new.self c.i64.new.self leaf c.in_ok-value.ensures.taken fits c.args.way.now.items c.args.cases.now.items c.push.new.self.items
    (c.in_ok-push.ensures.items ∙ ap₂ (λ (when : List Literal) (value : ℤ). c.args.cases.now.items ++ record { when = when; value = value } ∷ []) (c.in_ok-when.ensures ∙ c.deref.ensures.value) (to_z-of_z w64 c.in_ok-value.value fits))

pub take_node-returns-then-kind-ne1-clause-stops : goal.take_node-returns-then-kind-ne1-clause-stops
take_node-returns-then-kind-ne1-clause-stops t c =
    rw c.place-place.ensures.place
    (kind_bad c.args.tests c.in_ok-kind.kind c.args.take.now c.u8.new.self c.in_ok-kind.ensures.taken (omega arith) c.if-kind-eq0.false
    (⊎_elim (λ no_test. inl no_test) (λ both. inr both.1) c.then-kind-ne1.either))

pub take_node-returns-in_err-txn-clause-stops : goal.take_node-returns-in_err-txn-clause-stops
take_node-returns-in_err-txn-clause-stops t c =
    let p = err_from_is_err_and c.from_residual-in_err-txn.result c.from_residual-in_err-txn.ensures.1 in
    let one : c.in_ok-kind.kind ≡ 1 = omega arith in
    let more : suc (c.args.tests - 1) ≡ c.args.tests = omega arith in
    let test = subst (λ (kind : ℕ). HasTaken (big_endian 1 kind) c.args.take.now c.u8.new.self) one c.in_ok-kind.ensures.taken in
    rw (p.1, p.2)
    (subst (λ (tests : ℕ). Stops (node_layout tests) c.args.take.now (fault_of c.in_err-txn.field-0.0)) more
    (txn_stops (c.args.tests - 1) c.args.take.now c.u8.new.self test (fault_of c.in_err-txn.field-0.0) c.in_err-txn.ensures.stops))

pub take_node-returns-in_err-take_side-clause-stops : goal.take_node-returns-in_err-take_side-clause-stops
take_node-returns-in_err-take_side-clause-stops t c =
    let p = err_from_is_err_and c.from_residual-in_err-take_side.result c.from_residual-in_err-take_side.ensures.1 in
    let one : c.in_ok-kind.kind ≡ 1 = omega arith in
    let more : suc (c.args.tests - 1) ≡ c.args.tests = omega arith in
    let test = subst (λ (kind : ℕ). HasTaken (big_endian 1 kind) c.args.take.now c.u8.new.self) one c.in_ok-kind.ensures.taken in
    rw (p.1, p.2)
    (subst (λ (tests : ℕ). Stops (node_layout tests) c.args.take.now (fault_of c.in_err-take_side.field-0.0)) more
    (aborted_stops (c.args.tests - 1) c.args.take.now c.u8.new.self test c.in_ok-txn.txn c.take_txn.new.take c.in_ok-txn.ensures.passes
    (fault_of c.in_err-take_side.field-0.0) c.in_err-take_side.ensures.stops))

pub take_node-returns-clause-read : goal.take_node-returns-clause-read
take_node-returns-clause-read t c =
    let one : c.in_ok-kind.kind ≡ 1 = omega arith in
    let more : suc (c.args.tests - 1) ≡ c.args.tests = omega arith in
    let test = subst (λ (kind : ℕ). HasTaken (big_endian 1 kind) c.args.take.now c.u8.new.self) one c.in_ok-kind.ensures.taken in
    let aborted = c.in_ok-take_side.ensures.read in
    on_ok_weaker c.take_side-2.result
    (λ committed.
    subst (λ (tests : ℕ). IsNodeRead tests c.args.way.now.items c.args.cases.now.items c.take_side-2.new.cases.items c.args.take.now c.take_side-2.new.take) more
    (test_read (c.args.tests - 1) c.args.take.now c.u8.new.self test c.in_ok-txn.txn c.take_txn.new.take c.in_ok-txn.ensures.passes c.args.way.now.items c.args.cases.now.items
    c.take_side.new.cases.items c.take_side.new.take aborted c.take_side-2.new.cases.items c.take_side-2.new.take
    (subst (λ (way : List Literal). IsNodeRead (c.args.tests - 1) (way ++ record { txn = c.in_ok-txn.txn; commits = true } ∷ []) c.take_side.new.cases.items c.take_side-2.new.cases.items
    c.take_side.new.take c.take_side-2.new.take) c.in_ok-take_side.ensures.way committed)))
    c.take_side-2.ensures.read

pub take_node-returns-clause-way : goal.take_node-returns-clause-way
take_node-returns-clause-way t c = on_ok_weaker c.take_side-2.result (λ same. same ∙ c.in_ok-take_side.ensures.way) c.take_side-2.ensures.way

pub take_node-returns-clause-stops : goal.take_node-returns-clause-stops
take_node-returns-clause-stops t c =
    let one : c.in_ok-kind.kind ≡ 1 = omega arith in
    let more : suc (c.args.tests - 1) ≡ c.args.tests = omega arith in
    let test = subst (λ (kind : ℕ). HasTaken (big_endian 1 kind) c.args.take.now c.u8.new.self) one c.in_ok-kind.ensures.taken in
    IfErr-weaker c.take_side-2.result (λ e. Stops (node_layout (c.args.tests - 1)) c.take_side.new.take (fault_of e)) _
    (λ e stops.
    subst (λ (tests : ℕ). Stops (node_layout tests) c.args.take.now (fault_of e)) more
    (committed_stops (c.args.tests - 1) c.args.take.now c.u8.new.self test c.in_ok-txn.txn c.take_txn.new.take c.in_ok-txn.ensures.passes c.args.way.now.items c.args.cases.now.items
    c.take_side.new.cases.items c.take_side.new.take c.in_ok-take_side.ensures.read (fault_of e) stops))
    c.take_side-2.ensures.stops

-- What is left.

pub take_node-returns-in_err-value-clause-left : goal.take_node-returns-in_err-value-clause-left
take_node-returns-in_err-value-clause-left t c =
    gone_further c.args.take.now c.u8.new.self c.i64.new.self (_, c.in_ok-kind.ensures.taken) (gone_nowhere c.u8.new.self c.i64.new.self c.in_err-value.ensures.short.stays)

pub take_node-returns-in_err-when-clause-left : goal.take_node-returns-in_err-when-clause-left
take_node-returns-in_err-when-clause-left t c = gone_further c.args.take.now c.u8.new.self c.i64.new.self (_, c.in_ok-kind.ensures.taken) (_, c.in_ok-value.ensures.taken)

pub take_node-returns-in_err-push-clause-left : goal.take_node-returns-in_err-push-clause-left
take_node-returns-in_err-push-clause-left t c = gone_further c.args.take.now c.u8.new.self c.i64.new.self (_, c.in_ok-kind.ensures.taken) (_, c.in_ok-value.ensures.taken)

pub take_node-returns-then-kind-eq0-clause-left : goal.take_node-returns-then-kind-eq0-clause-left
take_node-returns-then-kind-eq0-clause-left t c = gone_further c.args.take.now c.u8.new.self c.i64.new.self (_, c.in_ok-kind.ensures.taken) (_, c.in_ok-value.ensures.taken)

pub take_node-returns-in_err-txn-clause-left : goal.take_node-returns-in_err-txn-clause-left
take_node-returns-in_err-txn-clause-left t c = gone_further c.args.take.now c.u8.new.self c.take_txn.new.take (_, c.in_ok-kind.ensures.taken) c.in_err-txn.ensures.left

pub take_node-returns-in_err-take_side-clause-left : goal.take_node-returns-in_err-take_side-clause-left
take_node-returns-in_err-take_side-clause-left t c =
    gone_further c.args.take.now c.take_txn.new.take c.take_side.new.take
    (gone_further c.args.take.now c.u8.new.self c.take_txn.new.take (_, c.in_ok-kind.ensures.taken) c.in_ok-txn.ensures.left) c.in_err-take_side.ensures.left

pub take_node-returns-clause-left : goal.take_node-returns-clause-left
take_node-returns-clause-left t c =
    gone_further c.args.take.now c.take_side.new.take c.take_side-2.new.take
    (gone_further c.args.take.now c.take_txn.new.take c.take_side.new.take
    (gone_further c.args.take.now c.u8.new.self c.take_txn.new.take (_, c.in_ok-kind.ensures.taken) c.in_ok-txn.ensures.left) c.in_ok-take_side.ensures.left)
    c.take_side-2.ensures.left

-- A side is a node behind one literal more.

pub take_side-returns-clause-read : goal.take_side-returns-clause-read
take_side-returns-clause-read t c =
    subst (λ (way : List Literal). IsNodeRead c.args.tests way c.args.cases.now.items c.take_node.new.cases.items c.args.take.now c.take_node.new.take)
    c.in_ok-push.ensures.items c.in_ok-take_node.ensures.read

pub take_side-returns-clause-way : goal.take_side-returns-clause-way
take_side-returns-clause-way t c =
    popped-way c.args.way.now.items c.take_node.new.way.items c.pop.new.self.items c.args.literal _
    (c.in_ok-take_node.ensures.way ∙ c.in_ok-push.ensures.items) c.take_node.new.way.ok.0 c.pop.ensures.rest

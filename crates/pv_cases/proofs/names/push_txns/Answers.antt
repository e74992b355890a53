-- A literal's transaction is pushed, or is there.
use Rattle.std.proofs.Common.{◌≡◌, false, List, get_or, length, take, inl, ap, sym, subst, ◌∙◌}
use Rattle.std.proofs.lemmas.List.{take_all}
use Rattle.pv_base.specs.declared.literal.Literal.{Literal}
use Rattle.pv_base.specs.declared.txn.TxnId.{TxnId}
use Rattle.pv_base.specs.Assignment.{is_same_txn}
use Rattle.pv_cases.specs.Names.{mentions, Adds}
use Rattle.pv_cases.proofs.AddedNames.{adds-next, adds-present, adds-push, kept-pushed}
use Rattle.pv_cases.proofs.names.push_txns.Goals as goal
use Rattle.pv_cases.proofs.names.push_txns.Goals.{then-not-is_on+in_ok-push, else-not-is_on}

-- what a place past the end would have
abbrev nowhere : Literal
nowhere = record { txn = record { site = record { 0 = 0 }; epoch = 0; number = 0 }; commits = false }

pub loop-place-preserved : goal.loop-place-preserved
loop-place-preserved c =
    let old = c.args.txns.now.items in
    let now = c.loop-place.txns.items in
    let new = c.if-not-is_on.txns.items in
    let txn = (get_or c.args.when.now c.loop-place.place nowhere).txn in
    let next = adds-next (λ (txn : TxnId) (literal : Literal). is_same_txn txn literal.txn) c.args.when.now c.loop-place.place nowhere old now new
    c.loop-place-test.true c.loop-place.invariant.added in
    elim c.if-not-is_on.branch [
      | then-not-is_on+in_ok-push w ↦
          let pushed = ap (λ (txns : _). txns.items) w.txns-is ∙ w.in_ok-push.ensures.items in
          record { added = next (adds-push txn now new pushed); kept = kept-pushed old now new txn c.loop-place.invariant.kept pushed }
      | else-not-is_on w ↦
          let same = ap (λ (txns : _). txns.items) w.txns-is in
          record {
            added = next (adds-present txn now new ((c.loop-place.invariant.added txn).1 (inl (c.requires txn (c.is_on.ensures w.if-not-is_on.false)))) same);
            kept = subst (λ (list : List TxnId). take (length old) list ≡ old) (sym same) c.loop-place.invariant.kept;
          }
    ]

pub returns-clause-names : goal.returns-clause-names
returns-clause-names c =
    subst (λ (when : List Literal). Adds (mentions when) c.args.txns.now.items c.loop-place.txns.items)
    (take_all c.loop-place.place c.args.when.now c.loop-place-test.false) c.loop-place.invariant.added

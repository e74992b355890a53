use Rattle.std.proofs.Common.{◌≡◌, None, ◌∙◌, sym, ap}
use Rattle.std.specs.Option.{option_map}
use Rattle.pv_locks.proofs.IndexLemmas.{conflict-is, in-place}
use Rattle.pv_locks.proofs.locks.standing_answer.Goals as goal
use Rattle.pv_locks.specs.GrantAnswer.{at_conflict, at_standing}
use Rattle.pv_locks.specs.Holders.{conflict_over}
use Rattle.pv_protocol.specs.Keyed.{of_txn}
use Rattle.pv_protocol.specs.State.{Grant}

pub first_conflict-requires : goal.first_conflict-requires
first_conflict-requires c = in-place c.args.grants.now c.args.holders.now c.requires

pub returns-in-None : goal.returns-in-None
returns-in-None c =
    let grants = c.args.grants.now in
    let none : of_txn (λ (g : Grant). g.txn) c.args.txn grants ≡ None = sym c.standing.ensures ∙ ap (option_map (λ g. g.now)) c.in_default.is in
    let free = sym (conflict-is grants c.args.holders.now c.requires c.args.wants.now) ∙ sym c.first_conflict.ensures ∙ ap (option_map conflict_over) c.in-None.is in
    sym (ap (at_standing grants c.args.wants.now) none ∙ ap at_conflict free)

pub returns-in-Some-first_conflict : goal.returns-in-Some-first_conflict
returns-in-Some-first_conflict c =
    let grants = c.args.grants.now in
    let none : of_txn (λ (g : Grant). g.txn) c.args.txn grants ≡ None = sym c.standing.ensures ∙ ap (option_map (λ g. g.now)) c.in_default.is in
    let found = sym (conflict-is grants c.args.holders.now c.requires c.args.wants.now) ∙ sym c.first_conflict.ensures
    ∙ ap (option_map conflict_over) c.in-Some-first_conflict.is in
    sym (ap (at_standing grants c.args.wants.now) none ∙ ap at_conflict found)

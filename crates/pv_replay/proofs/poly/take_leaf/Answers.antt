-- A leaf, or the value that isn't whole.
use Rattle.std.proofs.Common.{[], ◌∷◌, ℤ, FitsSigned, w64, of_z, to_z, ap, rules, arith}
use Rattle.std.proofs.lemmas.Int.{to_z-of_z}
use Rattle.pv_base.specs.declared.limits.TheConstants.{HELD_NAMES}
use Rattle.pv_replay.proofs.LeftLemmas.{gone_further}
use Rattle.pv_replay.proofs.NodeLemmas.{leaf_kind, leaf_read, leaf_short}
use Rattle.pv_replay.proofs.poly.take_leaf.Goals as goal

pub returns-in-Ok-clause-read : goal.returns-in-Ok-clause-read
returns-in-Ok-clause-read c =
    let value = c.in-Ok.value in
    let fits : FitsSigned w64 value = search rules in
    let leaf = leaf_kind c.in_ok-u8.field-0 c.requires.0 c.args.take.now c.u8.new.self (omega arith) c.requires.1 c.in_ok-u8.ensures.taken in
    leaf_read HELD_NAMES value c.args.take.now c.u8.new.self c.i64.new.self leaf c.in-Ok.ensures.taken fits [] [] (record { when = []; value = to_z w64 (of_z w64 value) } ∷ [])
    (ap (λ (number : ℤ). record { when = []; value = number } ∷ []) (to_z-of_z w64 value fits))

pub returns-in-Ok-clause-left : goal.returns-in-Ok-clause-left
returns-in-Ok-clause-left c = gone_further c.args.take.now c.u8.new.self c.i64.new.self (_, c.in_ok-u8.ensures.taken) (_, c.in-Ok.ensures.taken)

pub returns-in-Err-clause-stops : goal.returns-in-Err-clause-stops
returns-in-Err-clause-stops c =
    let leaf = leaf_kind c.in_ok-u8.field-0 c.requires.0 c.args.take.now c.u8.new.self (omega arith) c.requires.1 c.in_ok-u8.ensures.taken in
    leaf_short HELD_NAMES c.args.take.now c.u8.new.self c.i64.new.self leaf c.in-Err.short c.in-Err.ensures.short

-- What the kind has was read.
use Rattle.std.proofs.Common.{inl, refl}
use Rattle.pv_wire.proofs.body.take_outcome.Goals as goal

pub returns-clause-passes : goal.returns-clause-passes
returns-clause-passes c = record { kind_is = inl refl; txn_is = refl; passes = c.in_ok-commits.ensures.passes }

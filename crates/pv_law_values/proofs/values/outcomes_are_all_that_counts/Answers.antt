-- The lemmas on what depends on a set, where the set has all transactions.
use Rattle.std.proofs.Common.{true}
use Rattle.pv_law_values.proofs.SupportLemmas.{item-fixed, number-fixed, reply-after-fixed, row-fixed, every-read, every-records, every-value}
use Rattle.pv_law_values.proofs.values.outcomes_are_all_that_counts.Goals as goal
use Rattle.pv_protocol.specs.Coordinate.{reads_of}

pub returns-clause-value : goal.returns-clause-value
returns-clause-value c = λ cases a b agree. number-fixed (λ t. true) cases (every-value cases) a b (λ t every. agree t)

pub returns-clause-item : goal.returns-clause-item
returns-clause-item c = λ catalog records item a b agree. item-fixed (λ t. true) catalog records item (every-records records) a b (λ t every. agree t)

pub returns-clause-row : goal.returns-clause-row
returns-clause-row c = λ records entry item a b agree. row-fixed (λ t. true) records entry (every-read (reads_of entry)) item a b (λ t every. agree t)

pub returns-clause-reply : goal.returns-clause-reply
returns-clause-reply c = λ records entry a b agree. reply-after-fixed (λ t. true) records entry (every-read (reads_of entry)) a b (λ t every. agree t)

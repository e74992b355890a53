use Rattle.std.proofs.Common.{rules}
use Rattle.std.proofs.lemmas.Fn.{filter_same}
use Rattle.pv_locks.proofs.holders.retain_lasting.Goals as goal

-- The closure tells whether the holder's grant lasts.
pub returns-clause-left : goal.returns-clause-left
returns-clause-left c = filter_same _ _ _ (λ x b g k. search rules) _ _ c.retain.ensures.filtered

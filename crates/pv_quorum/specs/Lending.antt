-- How a decider lends its log.
use Rattle.pv_quorum.specs.DeciderState.{DeciderState}

-- the decider with this log in place of its own
abbrev pub with_log : {W : Type 0} → DeciderState W → W → DeciderState W
with_log decider lent = record decider { log = lent }

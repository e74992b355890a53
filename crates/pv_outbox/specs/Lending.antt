-- How an outbox lends its log.
use Rattle.pv_outbox.specs.OutboxState.{OutboxState}

-- the outbox with this log in place of its own
abbrev pub with_log : {W : Type 0} → OutboxState W → W → OutboxState W
with_log outbox lent = record outbox { log = lent }

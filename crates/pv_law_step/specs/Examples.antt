-- Examples of steps: one site that takes the messages that it sends itself, and a participant that is left in doubt.
use Rattle.std.specs.Prelude.{ℕ, zero, suc, ℤ, pos, Bool, true, false, List, [], ◌∷◌, ◌++◌, codes}
use Rattle.std.specs.Option.{option_to_list}
use Rattle.pv_base.specs.declared.limits.TheConstants.{MAX_JOURNAL, READ_NAMES, HELD_NAMES}
use Rattle.pv_base.specs.declared.literal.Literal.{Literal}
use Rattle.pv_base.specs.declared.txn.TxnId.{TxnId}
use Rattle.pv_base.specs.Polyvalue.{Case}
use Rattle.pv_format.specs.Message.{lock, prepare}
use Rattle.pv_format.specs.Record.{Record, epoch_begun}
use Rattle.pv_model.specs.Alternatives.{Read}
use Rattle.pv_model.specs.Syntax as syntax
use Rattle.pv_protocol.specs.Start.{just_started}
use Rattle.pv_protocol.specs.State.{Setup, Running, Input, submit, receive, tick, Note, Outgoing, Step}
use Rattle.pv_protocol.specs.Step.{site_step}

-- the site's transaction of this number, in its first epoch
abbrev pub txn_at : ℕ → ℕ → TxnId
txn_at site number = record { site = record { 0 = site }; epoch = 1; number = number }

-- a literal: the transaction has this outcome
abbrev pub when : TxnId → Bool → Literal
when txn outcome = record { txn = txn; commits = outcome }

-- a value that doesn't depend on an outcome
abbrev pub sure : ℤ → List (Case ℤ)
sure value = record { when = []; value = value } ∷ []

-- a value that is one of these by the outcome of the transaction
abbrev pub either : TxnId → ℤ → ℤ → List (Case ℤ)
either txn aborted committed =
    record { when = when txn false ∷ []; value = aborted } ∷ record { when = when txn true ∷ []; value = committed } ∷ []

-- an item and its new value
abbrev pub write : ℕ → List (Case ℤ) → Read
write item cases = record { item = item; cases = cases }

-- two items: `a` of 100 at site 0, and `b` of 50 at site 1
abbrev pub bank : Setup
bank = record {
  catalog = record {
    sites = 2;
    journal = MAX_JOURNAL;
    items = record { name = codes "a"; site = 0; value = pos 100 } ∷ record { name = codes "b"; site = 1; value = pos 50 } ∷ [];
  };
  read_names = READ_NAMES;
  held_names = HELD_NAMES;
}

-- the program `a := a + 1`
abbrev pub raise : syntax.Program
raise = syntax.assign 0 (syntax.two syntax.plus (syntax.item 0) (syntax.number (pos 1))) syntax.end

-- a site's records and memory, what it has sent and not taken, and what it has reported
pub record Play : Type 0 where
  pub records : List Record
  pub running : Running
  pub waiting : List Outgoing
  pub notes : List Note

-- after a step
abbrev pub played : Play → Step → Play
played play step = record {
  records = play.records ++ option_to_list step.appended;
  running = step.running;
  waiting = play.waiting ++ step.sends;
  notes = play.notes ++ step.notes;
}

-- the site takes an input
abbrev pub take : Setup → ℕ → Play → Input → Play
take setup me play input = played play (site_step setup me play.records play.running input)

-- the site takes its first message
abbrev pub take_first : Setup → ℕ → Play → List Outgoing → Play
take_first setup me play [] = play
take_first setup me play (sent ∷ rest) = take setup me (record play { waiting = rest }) (receive me sent.message)

-- the site takes its messages, so many
abbrev pub pump : ℕ → Setup → ℕ → Play → Play
pump zero setup me play = play
pump (suc count) setup me play = let next : Play = take_first setup me play play.waiting in pump count setup me next

-- a site that has just started
abbrev pub started : Play
started = record { records = epoch_begun 1 ∷ []; running = just_started 1; waiting = []; notes = [] }

-- the site takes inputs
abbrev pub take_all : Setup → ℕ → Play → List Input → Play
take_all setup me play [] = play
take_all setup me play (input ∷ inputs) = let next : Play = take setup me play input in take_all setup me next inputs

-- site 0 raises `a`
unfoldable pub alone : Play
alone = pump 6 bank 0 (take bank 0 started (submit raise))

-- Site 1 grants `b` to a transaction of site 0, prepares 60, and hears no more of it for two ticks.
unfoldable pub almost_in_doubt : Play
almost_in_doubt =
    take_all bank 1 started
    (receive 0 (lock (txn_at 0 0) (record { item = 1; exclusive = true } ∷ []))
    ∷ receive 0 (prepare (txn_at 0 0) (record { epoch = 1; number = 0 }) (write 1 (sure (pos 60)) ∷ []))
    ∷ tick ∷ tick ∷ [])

-- Then it ticks a third time.
unfoldable pub in_doubt : Play
in_doubt = take bank 1 almost_in_doubt tick

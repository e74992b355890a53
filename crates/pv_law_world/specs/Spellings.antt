-- Lines, each with its text.
use Rattle.std.specs.Prelude.{ℕ, ℤ, pos, negsuc, true, false, List, [], ◌∷◌, codes}
use Rattle.pv_base.specs.Polyvalue.{Case}
use Rattle.pv_law_world.specs.ExampleLines.{either, sure, t, u}
use Rattle.pv_base.specs.declared.reply.Decline.TheVariants.{Require, Overflow, ZeroDivisor}
use Rattle.pv_base.specs.declared.reply.Reply.TheVariants.{Value, Nothing, Declined}
use Rattle.pv_protocol.specs.Lines.{Line, MessageKind}
use Rattle.pv_protocol.specs.State as state

-- a line of a run with items `a` and `b`, and its text without the line feed
pub record Spelled : Type 0 where
  pub line : Line
  pub text : List ℕ

-- a value under the outcomes of both of site 0's transactions, where the first doesn't commit
abbrev pub two_names : List (Case ℤ)
two_names =
    record { when = record { txn = t; commits = false } ∷ (record { txn = u; commits = false } ∷ []); value = pos 1 }
    ∷ (record { when = record { txn = t; commits = false } ∷ (record { txn = u; commits = true } ∷ []); value = pos 2 }
    ∷ (record { when = record { txn = t; commits = true } ∷ []; value = pos 3 } ∷ []))

-- lines of each kind
abbrev pub examples : List Spelled
examples =
    record { line = Line.txn t; text = codes "txn 0.1.0" }
    ∷ record { line = Line.commit t (Nothing ∷ []); text = codes "commit 0.1.0 certain nothing" }
    ∷ record { line = Line.commit u (Value (negsuc 4) ∷ Declined ZeroDivisor ∷ Declined Overflow ∷ []); text = codes "commit 0.1.1 possible -5 declined-zero-divisor declined-overflow" }
    ∷ record { line = Line.refuse u (state.conflict 1 0 t); text = codes "refuse 0.1.1 conflict 1 a 0.1.0" }
    ∷ record { line = Line.refuse t (state.outcome_limit 12); text = codes "refuse 0.1.0 outcome-limit 12" }
    ∷ record { line = Line.refuse t (state.uncertain 0 1); text = codes "refuse 0.1.0 uncertain a 1" }
    ∷ record { line = Line.refuse t (state.expired 1); text = codes "refuse 0.1.0 expired 1" }
    ∷ record { line = Line.refuse t (state.grant_lost 1); text = codes "refuse 0.1.0 grant-lost 1" }
    ∷ record { line = Line.refuse t (state.journal_full 0 66); text = codes "refuse 0.1.0 journal-full 0 66" }
    ∷ record { line = Line.full 0 39; text = codes "full 0 39" }
    ∷ record { line = Line.spent 1; text = codes "spent 1" }
    ∷ record { line = Line.down 1; text = codes "down 1" }
    ∷ record { line = Line.up 1; text = codes "up 1" }
    ∷ record { line = Line.stopped 1; text = codes "stopped 1" }
    ∷ record { line = Line.fault 1; text = codes "fault 1" }
    ∷ record { line = Line.started 1 2; text = codes "started 1 2" }
    ∷ record { line = Line.no_message 99; text = codes "no message 99" }
    ∷ record { line = Line.commit u (Declined Require ∷ []); text = codes "commit 0.1.1 certain declined-require" }
    ∷ record { line = Line.sent 0 0 1 MessageKind.lock t; text = codes "sent 0 0>1 lock 0.1.0" }
    ∷ record { line = Line.sent 1 1 0 MessageKind.granted t; text = codes "sent 1 1>0 granted 0.1.0" }
    ∷ record { line = Line.sent 2 1 0 MessageKind.denied u; text = codes "sent 2 1>0 denied 0.1.1" }
    ∷ record { line = Line.sent 5 0 1 MessageKind.prepare t; text = codes "sent 5 0>1 prepare 0.1.0" }
    ∷ record { line = Line.sent 6 1 0 MessageKind.yes t; text = codes "sent 6 1>0 yes 0.1.0" }
    ∷ record { line = Line.sent 7 1 0 MessageKind.no t; text = codes "sent 7 1>0 no 0.1.0" }
    ∷ record { line = Line.sent 8 0 1 MessageKind.outcome t; text = codes "sent 8 0>1 outcome 0.1.0" }
    ∷ record { line = Line.sent 9 1 0 MessageKind.ask t; text = codes "sent 9 1>0 ask 0.1.0" }
    ∷ record { line = Line.order (t ∷ u ∷ []); text = codes "order 0.1.0 0.1.1" }
    ∷ record { line = Line.committed (t ∷ []); text = codes "committed 0.1.0" }
    ∷ record { line = Line.open_ones []; text = codes "open" }
    ∷ record { line = Line.item 0 (sure 90); text = codes "item a 90" }
    ∷ record { line = Line.item 1 (either 50 60); text = codes "item b 50 if -0.1.0 ; 60 if +0.1.0" }
    ∷ record { line = Line.item 1 two_names; text = codes "item b 1 if -0.1.0 -0.1.1 ; 2 if -0.1.0 +0.1.1 ; 3 if +0.1.0" }
    ∷ record { line = Line.item_locked 1 t; text = codes "item b locked 0.1.0" }
    ∷ record { line = Line.item_down 1; text = codes "item b down" }
    ∷ record { line = Line.end; text = codes "end" }
    ∷ record { line = Line.total (pos 150 ∷ []); text = codes "total certain 150" }
    ∷ record { line = Line.total (pos 150 ∷ pos 160 ∷ []); text = codes "total possible 150 160" }
    ∷ record { line = Line.total_locked 1; text = codes "total locked b" }
    ∷ record { line = Line.total_down 1; text = codes "total down 1" }
    ∷ record { line = Line.total_limit 13; text = codes "total outcome-limit 13" }
    ∷ []

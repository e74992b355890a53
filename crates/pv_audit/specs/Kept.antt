-- The requests that are kept, as the plain data of the definitions.
use Rattle.std.specs.Prelude.{◌≡◌, ℕ, List, All, map, length}
use Rattle.pv_audit.specs.Reports.{request_of}
use Rattle.pv_audit.specs.declared.begun.Begun.{Begun}
use Rattle.pv_audit.specs.declared.begun.Request.{Request}
use Rattle.pv_base.specs.Catalog.{Item}
use Rattle.pv_base.specs.declared.txn.TxnId.{TxnId}
use Rattle.pv_model.specs.Check.{IsPlan}
use Rattle.pv_model.specs.Serial.{Ordered}

-- a transaction with its request
abbrev pub ordered_of : TxnId × Request → Ordered
ordered_of kept = record { txn = kept.0; program = kept.1.program.now }

-- Of each transaction the first of these requests is kept.
abbrev pub KeepsFirst : Begun → List Ordered → Type 0
KeepsFirst begun requests = (txn : TxnId) → request_of (map ordered_of begun.requests.entries) txn ≡ request_of requests txn

-- The request has the plan of its program, over so many items.
pub record IsPlanned (count : ℕ) (request : Request) : Type 0 where
  pub items : List Item
  pub counted : length items ≡ count
  pub plan : IsPlan request.program.now items request.plan.now.parts.items

-- Each request that is kept has its plan.
abbrev pub KeepsPlans : ℕ → Begun → Type 0
KeepsPlans count begun = All (λ kept. IsPlanned count kept.1) begun.requests.entries

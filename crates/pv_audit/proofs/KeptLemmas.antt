-- Requests that are kept by transaction.
use Rattle.std.proofs.Common.{◌≡◌, Bool, true, false, cond, Option, Some, None, IfSome, ℕ, List, [], ◌∷◌, ◌++◌, map, refl, sym, ap, ◌∙◌}
use Rattle.std.specs.Prelude.{◌==◌, ◌&&◌}
use Rattle.std.specs.List.{All}
use Rattle.std.specs.Map.{lookup}
use Rattle.std.proofs.lemmas.List.Elements.{All-head, All-tail}
use Rattle.std.specs.Option.{option_map, option_or}
use Rattle.std.proofs.lemmas.List.Folds.{find-append}
use Rattle.pv_audit.specs.Kept.{ordered_of, IsPlanned}
use Rattle.pv_audit.specs.Reports.{request_of}
use Rattle.pv_audit.specs.declared.begun.Request.{Request}
use Rattle.pv_base.specs.Assignment.{is_same_txn}
use Rattle.pv_base.proofs.AssignmentLemmas.{same-eq, same-sym}
use Rattle.pv_base.specs.contracts.txn.TxnIdPartialEq.TheImpl as txn_eq
use Rattle.pv_base.specs.declared.txn.TxnId.{TxnId}
use Rattle.pv_model.specs.Serial.{Ordered}

-- the test of keys that the map makes
abbrev pub is_key : TxnId → TxnId → Bool
is_key = txn_eq.ghosts.eq

and-assoc : (a b c : Bool) → a && (b && c) ≡ (a && b) && c
and-assoc true b c = refl
and-assoc false b c = refl

pub is_key-same : (t u : TxnId) → is_key t u ≡ is_same_txn t u
is_key-same t u = and-assoc (t.site.0 == u.site.0) (t.epoch == u.epoch) (t.number == u.number)

-- the transaction with the program of a request
abbrev pub with_request : TxnId → Request → Ordered
with_request txn request = record { txn = txn; program = request.program.now }

-- What is found by a transaction is its request.
pub lookup-kept : (entries : List (TxnId × Request)) (txn : TxnId) → option_map (with_request txn) (lookup (is_key txn) entries) ≡ request_of (map ordered_of entries) txn
lookup-kept [] txn = refl
lookup-kept (entry ∷ entries) txn =
    ap (λ (b : Bool). option_map (with_request txn) (cond b (Some entry.1) (lookup (is_key txn) entries)))
    (is_key-same txn entry.0 ∙ same-sym txn entry.0)
    ∙ by (is_same_txn entry.0 txn) refl (lookup-kept entries txn)
  where
    by : (b : Bool) → is_same_txn entry.0 txn ≡ b → option_map (with_request txn) (lookup (is_key txn) entries) ≡ request_of (map ordered_of entries) txn
        → option_map (with_request txn) (cond b (Some entry.1) (lookup (is_key txn) entries)) ≡ cond b (Some (ordered_of entry)) (request_of (map ordered_of entries) txn)
    by true same rest = ap (λ (t : TxnId). Some (with_request t entry.1)) (sym (same-eq {t = entry.0} {u = txn} same))
    by false other rest = rest

-- What is found by a transaction has its plan.
pub lookup-planned : (count : ℕ) (entries : List (TxnId × Request)) (txn : TxnId) → All (λ (kept : TxnId × Request). IsPlanned count kept.1) entries
    → IfSome (lookup (is_key txn) entries) (IsPlanned count)
lookup-planned count [] txn plans = tt
lookup-planned count (entry ∷ entries) txn plans =
    by (is_key txn entry.0) (lookup-planned count entries txn (All-tail (λ (kept : TxnId × Request). IsPlanned count kept.1) entry entries plans))
  where
    by : (b : Bool) → IfSome (lookup (is_key txn) entries) (IsPlanned count) → IfSome (cond b (Some entry.1) (lookup (is_key txn) entries)) (IsPlanned count)
    by true rest = All-head (λ (kept : TxnId × Request). IsPlanned count kept.1) entry entries plans
    by false rest = rest

-- ---- one request more

-- The first request of each transaction among these is the same.
abbrev pub AreSameRequests : List Ordered → List Ordered → Type 0
AreSameRequests requests others = (txn : TxnId) → request_of requests txn ≡ request_of others txn

pub requests-append : (requests more : List Ordered) (txn : TxnId) → request_of (requests ++ more) txn ≡ option_or (request_of requests txn) (request_of more txn)
requests-append requests more txn = find-append (λ (entry : Ordered). is_same_txn entry.txn txn) requests more

-- A request of a transaction that had none is kept behind the others.
pub kept-more : (kept requests more : List Ordered) → AreSameRequests kept requests → AreSameRequests (kept ++ more) (requests ++ more)
kept-more kept requests more same txn =
    requests-append kept more txn ∙ ap (λ (o : Option Ordered). option_or o (request_of more txn)) (same txn) ∙ sym (requests-append requests more txn)

-- A request of a transaction that has one is passed over.
pub kept-already : (kept requests : List Ordered) (entry had : Ordered) → request_of kept entry.txn ≡ Some had → AreSameRequests kept requests → AreSameRequests kept (requests ++ entry ∷ [])
kept-already kept requests entry had has same txn =
    same txn ∙ by (is_same_txn entry.txn txn) refl ∙ sym (requests-append requests (entry ∷ []) txn)
  where
    none-more : (o : Option Ordered) → o ≡ option_or o None
    none-more None = refl
    none-more (Some e) = refl

    by : (b : Bool) → is_same_txn entry.txn txn ≡ b → request_of requests txn ≡ option_or (request_of requests txn) (cond b (Some entry) None)
    by true is =
        let found : request_of requests txn ≡ Some had = sym (same txn) ∙ ap (request_of kept) (sym (same-eq {t = entry.txn} {u = txn} is)) ∙ has in
        found ∙ ap (λ (o : Option Ordered). option_or o (Some entry)) (sym found)
    by false other = none-more (request_of requests txn)

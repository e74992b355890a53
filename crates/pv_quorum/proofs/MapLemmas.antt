-- Maps by transaction.
use Rattle.std.proofs.Common.{◌≡◌, Bool, true, false, cond, Option, Some, List, refl, ap, ◌∙◌}
use Rattle.std.specs.Prelude.{if◌then◌else◌, ◌==◌, ◌&&◌}
use Rattle.std.specs.Map.{lookup}
use Rattle.std.specs.Option.{unwrap_or}
use Rattle.pv_base.specs.Assignment.{is_same_txn}
use Rattle.pv_base.proofs.AssignmentLemmas.{same-sym}
use Rattle.pv_base.specs.contracts.txn.TxnIdPartialEq.TheImpl as txn_eq
use Rattle.pv_base.specs.declared.txn.TxnId.{TxnId}
use Rattle.pv_quorum.specs.MemoryView.{nothing, known_at}
use Rattle.pv_quorum.specs.declared.known.Known.{Known}

and-assoc : (a b c : Bool) → a && (b && c) ≡ (a && b) && c
and-assoc true b c = refl
and-assoc false b c = refl

-- The map's test of keys is the same transaction.
key-same : (t u : TxnId) → txn_eq.ghosts.eq t u ≡ is_same_txn t u
key-same t u = and-assoc (t.site.0 == u.site.0) (t.epoch == u.epoch) (t.number == u.number)

unwrap-by : (test : Bool) (known : Known) (found : Option Known) → unwrap_or (cond test (Some known) found) nothing ≡ (if test then known else unwrap_or found nothing)
unwrap-by true known found = refl
unwrap-by false known found = refl

-- In a map in which one transaction was put, that is known of it, and of the others what was.
pub known-put : (old new : List (TxnId × Known)) (txn : TxnId) (known : Known)
    → ((other : TxnId) → lookup (txn_eq.ghosts.eq other) new ≡ cond (txn_eq.ghosts.eq txn other) (Some known) (lookup (txn_eq.ghosts.eq other) old))
    → (other : TxnId) → known_at new other ≡ (if is_same_txn other txn then known else known_at old other)
known-put old new txn known updates other =
    ap (λ found. unwrap_or found nothing) (updates other)
    ∙ unwrap-by (txn_eq.ghosts.eq txn other) known (lookup (txn_eq.ghosts.eq other) old)
    ∙ ap (λ (test : Bool). if test then known else known_at old other) (key-same txn other ∙ same-sym txn other)

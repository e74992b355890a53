-- What a map holds with one entry more.
use Rattle.std.proofs.Common.{◌≡◌, ℕ, ◌<◌, Bool, true, false, Option, Some, None, Result, Ok, Err, List, [], ◌∷◌, ◌++◌, min, refl, ◌∙◌, arith}
use Rattle.std.specs.Prelude.{IsOk, OnOk, if◌then◌else◌, is_some}
use Rattle.std.specs.Map.{lookup}
use Rattle.std.proofs.lemmas.Bool.{false≢true, true≢false}
use Rattle.indexmap.specs.IndexMap.{insert_entry}
use Rattle.pv_base.specs.Assignment.{is_same_txn}
use Rattle.pv_base.specs.declared.txn.TxnId.{TxnId}
use Rattle.pv_outbox.proofs.WaitingLemmas.{is_key, is_key-same}
use Rattle.indexmap.proofs.MapLemmas.{absent_from_lookup, insert_entry-absent}

none-of : {X : Type 0} (found : Option X) → is_some found ≡ false → found ≡ None
none-of None is = refl
none-of (Some x) is = absurd (true≢false is)

ok-of : {T E P : Type 0} (result : Result T E) → IsOk result → OnOk result P → P
ok-of (Ok x) ok p = p
ok-of (Err e) ok p = absurd (false≢true ok)

pub put-last : {K V T E : Type 0} (eq : K → K → Bool) (entries new : List (K × V)) (key : K) (value : V) (result : Result T E) → IsOk result
    → OnOk result (new ≡ insert_entry eq entries key value) → is_some (lookup (eq key) entries) ≡ false → new ≡ entries ++ (key, value) ∷ []
put-last eq entries new key value result ok inserted absent =
    ok-of result ok inserted ∙ insert_entry-absent eq key value entries (absent_from_lookup (eq key) entries (none-of (lookup (eq key) entries) absent))

pub first-room : (a b c : ℕ) → 0 < min a (min b c) → 0 < a
first-room a b c room = omega (arith, room)

pub second-room : (a b c : ℕ) → 0 < min a (min b c) → 0 < b
second-room a b c room = omega (arith, room)

-- Where there was none, there is this one more.
pub if-false : {X : Type 0} (b : Bool) (one other : X) → b ≡ false → (if b then one else other) ≡ other
if-false true one other is = absurd (true≢false is)
if-false false one other is = refl

-- The map finds transactions as the law does.
pub keys-same : (txn : TxnId) → is_key txn ≡ is_same_txn txn
keys-same txn = λ k. λ other. is_key-same txn other k

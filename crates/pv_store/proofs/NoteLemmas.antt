-- What is held of transactions, with one more record.
use Rattle.std.proofs.Common.{◌≡◌, ◌<◌, ◌∙◌, Bool, true, false, Some, None, Option, List, [], ◌∷◌, ◌++◌, ◌||◌, ◌&&◌, refl, sym, ap}
use Rattle.std.specs.Prelude.{if◌then◌else◌, is_none}
use Rattle.std.specs.Option.{option_or}
use Rattle.pv_base.specs.Assignment.{is_same_txn}
use Rattle.pv_base.specs.declared.txn.TxnId.{TxnId}
use Rattle.pv_base.proofs.AssignmentLemmas.{same-eq}
use Rattle.pv_format.specs.Record.{Record, epoch_begun, prepared, outcome_known}
use Rattle.pv_law_values.proofs.RecordsMore.{known-more, is_prepared-more}
use Rattle.pv_model.specs.Alternatives.{Read}
use Rattle.pv_protocol.specs.Records.{is_prepared}
use Rattle.pv_store.specs.Held.{AreKnown, ArePrepared, is_promised, outcome_in}
use Rattle.pv_store.specs.Kept.{HasRoom, Room}

-- Where there is room for any record, there is room for this one.
pub room-for-any : (room : Room) (one : Record) → 0 < room.promises → 0 < room.outcomes → HasRoom room one
room-for-any room (epoch_begun epoch) promises outcomes = tt
room-for-any room (prepared txn writes) promises outcomes = promises
room-for-any room (outcome_known txn commits) promises outcomes = outcomes

or-comm : (a b : Bool) → a || b ≡ b || (a || false)
or-comm true true = refl
or-comm true false = refl
or-comm false true = refl
or-comm false false = refl

pub prepared-more : (txns more : List TxnId) (txn : TxnId) → ((other : TxnId) → is_promised more other ≡ (is_same_txn other txn || is_promised txns other))
    → (writes : List Read) (records : List Record) → ArePrepared txns records → ArePrepared more (records ++ prepared txn writes ∷ [])
prepared-more txns more txn adds writes records are t =
    adds t
    ∙ ap (λ old. is_same_txn t txn || old) (are t)
    ∙ or-comm (is_same_txn t txn) (is_prepared records t)
    ∙ sym (is_prepared-more records (prepared txn writes) t)

told-by : (same : Bool) (commits : Bool) (own old : Option Bool) → (same ≡ true → own ≡ old)
    → (if same && is_none own then Some commits else old) ≡ option_or old (if same then Some commits else None)
told-by true commits None old equal = ap (λ (o : Option Bool). option_or o (Some commits)) (equal refl)
told-by true commits (Some own) old equal = sym (equal refl) ∙ ap (λ (o : Option Bool). option_or o (Some commits)) (equal refl)
told-by false commits own None equal = refl
told-by false commits own (Some outcome) equal = refl

pub known-with : (outcomes more : List (TxnId × Bool)) (txn : TxnId) (commits : Bool)
    → ((other : TxnId) → outcome_in more other ≡ (if is_same_txn other txn && is_none (outcome_in outcomes txn) then Some commits else outcome_in outcomes other))
    → (records : List Record) → AreKnown outcomes records → AreKnown more (records ++ outcome_known txn commits ∷ [])
known-with outcomes more txn commits adds records are t =
    adds t
    ∙ told-by (is_same_txn t txn) commits (outcome_in outcomes txn) (outcome_in outcomes t) (λ same. ap (outcome_in outcomes) (sym (same-eq {t = t} {u = txn} same)))
    ∙ ap (λ (old : Option Bool). option_or old (if is_same_txn t txn then Some commits else None)) (are t)
    ∙ sym (known-more records (outcome_known txn commits) t)

pub other-by : (same : Bool) (commits : Bool) → (if same then Some commits else None) ≡ None → same ≡ false
other-by true commits none = absurd (let no : ⊥ = cc in no)
other-by false commits none = refl

-- Where nothing is known with the record, the record tells nothing.
pub none-told : (old more : Option Bool) → is_none (option_or old more) ≡ true → more ≡ None
none-told None None is = refl
none-told None (Some outcome) is = absurd (let no : ⊥ = cc in no)
none-told (Some old) more is = absurd (let no : ⊥ = cc in no)

-- What stands at a transaction goes where a record tells its outcome.
pub untold-stay : (same commits had : Bool) → (if same then false else had) ≡ (is_none (if same then Some commits else None) && had)
untold-stay true commits had = refl
untold-stay false commits had = refl

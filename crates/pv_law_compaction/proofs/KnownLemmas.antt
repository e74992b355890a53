-- Outcomes that are recorded are known.
use Rattle.std.proofs.Common.{◌≡◌, ◌⊎◌, ⊎_elim, ℕ, Bool, true, false, Some, List, [], ◌∷◌, refl, sym, ap, subst, ◌∙◌}
use Rattle.std.specs.Prelude.{if◌then◌else◌}
use Rattle.std.specs.List.{Contains}
use Rattle.std.proofs.lemmas.Bool.{true≢false}
use Rattle.pv_base.proofs.AssignmentLemmas.{same-refl}
use Rattle.pv_base.proofs.ContainsLemmas.{Contains-first, Contains-behind, Contains-nil, Contains-cases}
use Rattle.pv_base.specs.Assignment.{is_same_txn}
use Rattle.pv_base.specs.declared.txn.TxnId.{TxnId}
use Rattle.pv_format.specs.Contents.{greatest_epoch}
use Rattle.pv_format.specs.Record.{Record, epoch_begun, prepared, outcome_known}
use Rattle.pv_law_acts.proofs.RecordLemmas.{known-listed}
use Rattle.pv_protocol.specs.Records.{known}

told-first : (decided t : TxnId) (said b : Bool) (records : List Record) (test : Bool) → is_same_txn t decided ≡ test
    → (outcome_known decided said ≡ outcome_known t b) ⊎ Contains records (outcome_known t b)
    → (Contains records (outcome_known t b) → (c : Bool) × (known records t ≡ Some c))
    → (c : Bool) × ((if is_same_txn t decided then Some said else known records t) ≡ Some c)
told-first decided t said b records true same which later = (said, ap (λ (own : Bool). if own then Some said else known records t) same)
told-first decided t said b records false other which later =
    let found : (c : Bool) × (known records t ≡ Some c) =
    ⊎_elim
    (λ same. let of : decided ≡ t = cc in absurd (true≢false (sym (subst (λ (u : TxnId). is_same_txn t u ≡ true) (sym of) (same-refl t)) ∙ other)))
    later
    which in
    (found.0, ap (λ (own : Bool). if own then Some said else known records t) other ∙ found.1)

-- Where an outcome is recorded, one is known.
pub listed-known : (records : List Record) (t : TxnId) (b : Bool) → Contains records (outcome_known t b) → (c : Bool) × (known records t ≡ Some c)
listed-known [] t b h = absurd (Contains-nil _ h)
listed-known (epoch_begun epoch ∷ records) t b h =
    ⊎_elim (λ same. absurd (let wrong : ⊥ = cc in wrong)) (λ behind. listed-known records t b behind) (Contains-cases (epoch_begun epoch) records (outcome_known t b) h)
listed-known (prepared promised writes ∷ records) t b h =
    ⊎_elim (λ same. absurd (let wrong : ⊥ = cc in wrong)) (λ behind. listed-known records t b behind) (Contains-cases (prepared promised writes) records (outcome_known t b) h)
listed-known (outcome_known decided said ∷ records) t b h =
    told-first decided t said b records (is_same_txn t decided) refl (Contains-cases (outcome_known decided said) records (outcome_known t b) h)
    (λ behind. listed-known records t b behind)

-- Where only commits are recorded, each of them is known.
pub known-yes : (records : List Record) (t : TxnId) → ((b : Bool) → Contains records (outcome_known t b) → b ≡ true) → Contains records (outcome_known t true)
    → known records t ≡ Some true
known-yes records t only h =
    let found = listed-known records t true h in
    found.1 ∙ ap Some (only found.0 (known-listed records t found.0 found.1))

-- Records without a start have no epoch.
pub no-epoch : (records : List Record) → ((epoch : ℕ) → Contains records (epoch_begun epoch) → ⊥) → greatest_epoch records ≡ 0
no-epoch [] none = refl
no-epoch (epoch_begun epoch ∷ records) none = absurd (none epoch (Contains-first (epoch_begun epoch) records))
no-epoch (prepared txn writes ∷ records) none = no-epoch records (λ epoch h. none epoch (Contains-behind (prepared txn writes) records (epoch_begun epoch) h))
no-epoch (outcome_known txn commits ∷ records) none = no-epoch records (λ epoch h. none epoch (Contains-behind (outcome_known txn commits) records (epoch_begun epoch) h))

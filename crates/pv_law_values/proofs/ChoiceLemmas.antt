-- What known outcomes make of an assignment, and what is left of it when it is cut.
use Rattle.std.proofs.Common.{◌≡◌, Bool, true, false, ◌&&◌, Some, None, Option, List, [], ◌∷◌, ◌++◌, refl, sym, ap, ◌∙◌}
use Rattle.std.specs.Prelude.{if◌then◌else◌}
use Rattle.std.proofs.lemmas.Map.Views.{any-filter_same}
use Rattle.pv_base.specs.declared.txn.TxnId.{TxnId}
use Rattle.pv_base.specs.Assignment.{is_same_txn, commits, AgreeOn}
use Rattle.pv_base.proofs.AssignmentLemmas.{same-eq}
use Rattle.pv_format.specs.Record.{Record, epoch_begun, prepared, outcome_known}
use Rattle.pv_law_step.proofs.OutcomeLemmas.{or_assigned, choice-is, choice-alike}
use Rattle.pv_law_values.specs.Cut.{among}
use Rattle.pv_law_values.specs.Heeds.{Heeds}
use Rattle.pv_protocol.specs.Records.{known, choice}

heeding : (outcome : Option Bool) (assigned : Bool) → ((b : Bool) → outcome ≡ Some b → assigned ≡ b) → or_assigned outcome assigned ≡ assigned
heeding None assigned heeds = refl
heeding (Some b) assigned heeds = sym (heeds b refl)

-- An assignment that heeds the records stays as it is.
pub choice-heeding : (records : List Record) (a : List TxnId) → Heeds records a → (t : TxnId) → commits (choice records a) t ≡ commits a t
choice-heeding records a heeds t = choice-is records a t ∙ heeding (known records t) (commits a t) (heeds t)

-- Known outcomes don't part assignments that agree.
pub choice-agree : (records : List Record) (set : TxnId → Bool) (a b : List TxnId) → AgreeOn set a b → AgreeOn set (choice records a) (choice records b)
choice-agree records set a b agree = λ t in_set. choice-alike records a b t (λ undecided. agree t in_set)

known-by : (b : Bool) (x y : Option Bool) (z : Bool) (more : Option Bool) → (x ≡ Some z → more ≡ Some z) → (if b then y else x) ≡ Some z → (if b then y else more) ≡ Some z
known-by true x y z more later is = is
known-by false x y z more later is = later is

-- What is known stays so with more records behind.
pub known-longer : (records more : List Record) (t : TxnId) (outcome : Bool) → known records t ≡ Some outcome → known (records ++ more) t ≡ Some outcome
known-longer [] more t outcome is = absurd (let wrong : ⊥ = cc in wrong)
known-longer (epoch_begun epoch ∷ records) more t outcome is = known-longer records more t outcome is
known-longer (prepared txn writes ∷ records) more t outcome is = known-longer records more t outcome is
known-longer (outcome_known decided b ∷ records) more t outcome is =
    known-by (is_same_txn t decided) (known records t) (Some b) outcome (known (records ++ more) t) (known-longer records more t outcome) is

-- An assignment that heeds records heeds the front of them.
pub heeds-front : (records more : List Record) (a : List TxnId) → Heeds (records ++ more) a → Heeds records a
heeds-front records more a heeds = λ t outcome is. heeds t outcome (known-longer records more t outcome is)

-- Of the transactions of the list the cut assignment says what the assignment says, and no other one commits.
pub commits-among : (txns a : List TxnId) (t : TxnId) → commits (among txns a) t ≡ (commits txns t && commits a t)
commits-among txns a t = any-filter_same (λ u. is_same_txn u t) (commits txns) (commits txns t) (λ u same. ap (commits txns) (same-eq {t = u} {u = t} same)) a

-- On the transactions of the list it agrees with the assignment.
pub among-agrees : (txns a : List TxnId) → AgreeOn (commits txns) (among txns a) a
among-agrees txns a = λ t listed. commits-among txns a t ∙ ap (λ b. b && commits a t) listed

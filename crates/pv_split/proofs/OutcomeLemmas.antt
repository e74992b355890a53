-- What reads name together, and that rows depend only on these outcomes.
use Rattle.std.proofs.Common.{◌≡◌, ℤ, Bool, ◌||◌, List, [], ◌∷◌, map, length, IsTrue, refl, sym, ap, ◌∙◌, filter}
use Rattle.std.specs.List.{Contains}
use Rattle.std.proofs.lemmas.Bool.{or_left, or_right}
use Rattle.std.proofs.lemmas.List.Folds.{list_any-append}
use Rattle.std.specs.Prelude.{Option, pos}
use Rattle.std.specs.List.{list_any}
use Rattle.std.specs.Option.{unwrap_or}
use Rattle.pv_base.specs.declared.txn.TxnId.{TxnId}
use Rattle.pv_base.specs.Assignment.{is_same_txn, commits, assignments}
use Rattle.pv_base.specs.Polyvalue.{Case, names, AreNames}
use Rattle.pv_model.specs.Alternatives.{Read, all_cases, number_at, rows_at}
use Rattle.pv_model.specs.Meaning.{Row}
use Rattle.pv_base.proofs.MapLemmas.{same-mapped}
use Rattle.pv_law_polyvalues.proofs.NameLemmas.{one-names}
use Rattle.pv_law_polyvalues.proofs.TableLemmas.{chosen-is-assignment, value_at-chosen}

-- Two lists of what is named have one length.
pub same_count : (reads : List Read) (txns us : List TxnId) → AreNames (all_cases reads) txns → AreNames (all_cases reads) us → length txns ≡ length us
same_count reads txns us are them = ap length (one-names (all_cases reads) (all_cases reads) txns us (λ t. refl) are them)

-- What depends only on some outcomes.

-- the assignment of these transactions that agrees with this one
abbrev pub chosen : List TxnId → List TxnId → List TxnId
chosen txns a = filter (λ t. commits a t) txns

-- What two functions have at the assignments of some transactions they have everywhere, where they depend only on these.
pub everywhere : {Y : Type 0} (f g : List TxnId → Y) (txns : List TxnId) → map f (assignments txns) ≡ map g (assignments txns)
    → ((a : List TxnId) → f (chosen txns a) ≡ f a) → ((a : List TxnId) → g (chosen txns a) ≡ g a) → (a : List TxnId) → f a ≡ g a
everywhere f g txns same first second a =
    sym (first a) ∙ same-mapped f g (assignments txns) same (chosen txns a) (chosen-is-assignment a txns) ∙ second a

-- Some literal of the case names the transaction.
abbrev asks : TxnId → Case ℤ → Bool
asks t case = list_any (λ literal. is_same_txn t literal.txn) case.when

pub rows_at-chosen : (reads : List Read) (txns : List TxnId) → ((t : TxnId) → IsTrue (names (all_cases reads) t) → Contains txns t)
    → (a : List TxnId) → rows_at reads (chosen txns a) ≡ rows_at reads a
rows_at-chosen [] txns named a = refl
rows_at-chosen (read ∷ reads) txns named a =
    let both : (t : TxnId) → names (all_cases (read ∷ reads)) t ≡ (names read.cases t || names (all_cases reads) t) = λ t. list_any-append (asks t) read.cases (all_cases reads) in
    let first = value_at-chosen read.cases txns (λ t is. named t (both t ∙ or_left (names read.cases t) (names (all_cases reads) t) is)) a in
    let rest = rows_at-chosen reads txns (λ t is. named t (both t ∙ or_right (names read.cases t) (names (all_cases reads) t) is)) a in
    ap (λ (value : Option ℤ). record { item = read.item; value = unwrap_or value (pos 0) } ∷ rows_at reads (chosen txns a)) first
    ∙ ap (λ (rows : List Row). record { item = read.item; value = number_at read.cases a } ∷ rows) rest

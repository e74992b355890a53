-- Records give no item too many outcomes under a configuration with more items either: those that were there show what they showed, and nothing is written to the others.
use Rattle.std.proofs.Common.{◌≡◌, ℕ, ◌+◌, ◌<◌, ◌≤◌, Option, Some, None, List, [], ◌∷◌, ◌++◌, length, map, All, IsTrue, append_assoc, refl, sym, ap, ◌∙◌, subst, arith}
use Rattle.std.specs.Prelude.{ℤ, IsSome, slice_get}
use Rattle.std.specs.List.{Contains}
use Rattle.std.specs.Ordering.{int_eq}
use mathlib.Core.Logic.{dite}
use native.Mathlib.Decide.{dec_le}
use Rattle.std.proofs.lemmas.List.{length-map}
use Rattle.std.proofs.lemmas.List.Elements.{All-contains_itself, All-head, All-tail, All-weaker, Contains-append_left}
use Rattle.std.proofs.lemmas.Option.{slice_get_within}
use Rattle.pv_base.specs.Canonical.{canonical_cases}
use Rattle.pv_base.specs.Catalog.{Declared, Item}
use Rattle.pv_base.specs.Named.{names_of}
use Rattle.pv_base.specs.Polyvalue.{Case}
use Rattle.pv_base.specs.declared.limits.TheConstants.{HELD_NAMES}
use Rattle.pv_base.specs.declared.txn.TxnId.{TxnId}
use Rattle.pv_format.specs.Record.{Record, epoch_begun, outcome_known, prepared}
use Rattle.pv_law_acts.specs.Seen.{records_at}
use Rattle.pv_law_agreement.proofs.WriteLemmas.{exclusive-assigned, written-listed}
use Rattle.pv_law_growth.proofs.GrowthLemmas.{front-get}
use Rattle.pv_law_growth.specs.Growth.{HasGrown}
use Rattle.pv_law_outcomes.specs.Coherent.{IsCoherent}
use Rattle.pv_model.specs.Alternatives.{Read}
use Rattle.pv_protocol.specs.Lock.{is_home, is_of_site}
use Rattle.pv_protocol.specs.Records.{choice}
use Rattle.pv_protocol.specs.Shown.{declared_or_zero, item_within, names_after, names_after_write, names_within, newest, shown_within, written}
use Rattle.pv_protocol.specs.State.{Setup}
use Rattle.pv_protocol.specs.Width.{IsNarrow}
use Rattle.pv_protocol.specs.World.{World}

-- What a site of a run promises is of items of the catalog.
pub promised-below : (setup : Setup) (world : World) (n : ℕ) → IsCoherent setup world → (txn : TxnId) (writes : List Read) (item : ℕ)
    → Contains (records_at world n) (prepared txn writes) → IsSome (written item writes) → item < length setup.catalog.items
promised-below setup world n coherent txn writes item there some =
    let writing = (coherent.records n (prepared txn writes) there).writing in
    let items = setup.catalog.items in
    let assigned = exclusive-assigned items writing.placed.program n item (subst (λ (xs : List ℕ). Contains xs item) writing.items (written-listed item writes some)) in
    let within = slice_get_within (map (λ (declared : Item). declared.site) items) item n assigned.home in
    omega (arith, within, length-map items (λ (declared : Item). declared.site))

no-write : (cases : Option (List (Case ℤ))) → (IsSome cases → ⊥) → cases ≡ None
no-write None not = refl
no-write (Some cases) not = absurd (not refl)

module _ (catalog later : Declared) (grown : HasGrown catalog later) (n : ℕ) (records : List Record) (narrow : IsNarrow HELD_NAMES catalog n records)
    (below : (txn : TxnId) (writes : List Read) (item : ℕ) → Contains records (prepared txn writes) → IsSome (written item writes) → item < length catalog.items) where
  -- ## An item that wasn't there
  module _ (item : ℕ) (beyond : length catalog.items ≤ item) where
    no-names-after : (kept : Record) → Contains records kept → names_after records item [] kept ≡ []
    no-names-after (prepared txn writes) there =
        ap (names_after_write records txn [])
        (no-write (written item writes) (λ some. let known = below txn writes item there some in absurd (omega (arith, known, beyond))))
    no-names-after (epoch_begun epoch) there = refl
    no-names-after (outcome_known txn commits) there = refl

    no-names : (front : List Record) → All (Contains records) front → names_within records item [] front ≡ []
    no-names [] all = refl
    no-names (first ∷ front) all =
        ap (λ (names : List TxnId). names_within records item names front) (no-names-after first (All-head (Contains records) first front all))
        ∙ no-names front (All-tail (Contains records) first front all)

    new-few : (front : List Record) → All (Contains records) front → length (names_of (shown_within later records front item)) ≤ HELD_NAMES
    unfolding shown_within canonical_cases
    new-few front all =
        subst (λ (names : List TxnId). length (names_of (canonical_cases int_eq names (item_within later records front item))) ≤ HELD_NAMES) (sym (no-names front all))
        (omega arith)

  -- ## An item that was there
  module _ (item : ℕ) (known : item < length catalog.items) where
    same-item : slice_get later.items item ≡ slice_get catalog.items item
    same-item = ap (λ (items : List Item). slice_get items item) grown.items ∙ front-get catalog.items grown.more item known

    same-within : (front : List Record) → shown_within later records front item ≡ shown_within catalog records front item
    unfolding shown_within
    same-within front =
        ap
        (λ (declared : Option Item).
        canonical_cases int_eq (names_within records item [] front) (λ (assignment : List TxnId). newest item (choice records assignment) (declared_or_zero declared) front))
        same-item

    old-few : (before after : List Record) (txn : TxnId) (writes : List Read) → IsTrue (is_home later n item) → records ≡ before ++ prepared txn writes ∷ after
        → length (names_of (shown_within later records (before ++ prepared txn writes ∷ []) item)) ≤ HELD_NAMES
    old-few before after txn writes home is =
        subst (λ (cases : List (Case ℤ)). length (names_of cases) ≤ HELD_NAMES) (sym (same-within (before ++ prepared txn writes ∷ [])))
        (narrow.few before after txn writes item (subst (λ (declared : Option Item). IsTrue (is_of_site n declared)) same-item home) is)

  front-there : (before after : List Record) (last : Record) → records ≡ before ++ last ∷ after → All (Contains records) (before ++ last ∷ [])
  front-there before after last is =
      let front = before ++ last ∷ [] in
      let whole : records ≡ front ++ after = is ∙ sym (append_assoc before (last ∷ []) after) in
      All-weaker (Contains front) (Contains records)
      (λ kept there. subst (λ (all : List Record). Contains all kept) (sym whole) (Contains-append_left front after kept there)) front (All-contains_itself front)

  pub narrow-grown : IsNarrow HELD_NAMES later n records
  narrow-grown = record {
    few = λ before after txn writes item home is.
        dite (dec_le (item + 1) (length catalog.items)) (λ known. old-few item (omega (arith, known)) before after txn writes home is)
        (λ beyond. new-few item (omega (arith, beyond)) (before ++ prepared txn writes ∷ []) (front-there before after (prepared txn writes) is));
  }

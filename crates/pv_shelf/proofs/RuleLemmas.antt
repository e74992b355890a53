-- Each step on a shelf keeps its rule.
use Rattle.std.proofs.Common.{◌≡◌, ◌≢◌, ℕ, ◌+◌, List, [], ◌∷◌, ◌++◌, set, refl, sym, subst, ⊎_elim}
use mathlib.Core.Option.{some, some-ne-none}
use mathlib.Core.List.{IsPrefix}
use base.Growing.{prefix_refl, prefix_trans}
use lib.ListN.{get_elem?}
use Rattle.left_right.specs.Register.{Admits, TurnsAt, Forks, Merges}
use Rattle.atomic_table.proofs.Lists.{at_set, at_snoc}
use Rattle.pv_shelf.specs.Part.{Part}
use Rattle.pv_shelf.specs.Log.{IsLog}
use Rattle.pv_shelf.specs.Rule.{IsKept, Finds, having_seen}
use Rattle.pv_shelf.specs.declared.side.Side.{Side}
use Rattle.pv_shelf.specs.declared.view.View.{View}
use Rattle.pv_shelf.proofs.LogLemmas.{log-nil}

abbrev Kept : Side → List View → Type 0
Kept shown views = IsKept shown.parts.items views

-- All of these views have seen a beginning of the log.
abbrev Seen : List Part → List View → Type 0
Seen log views = (place : ℕ) (v : View) → get_elem? views place ≡ some v → IsPrefix v.seen log

seen-push : (log : List Part) (views : List View) (u : View) → Seen log views → IsPrefix u.seen log → Seen log (views ++ u ∷ [])
seen-push log views u seen its place v at =
    ⊎_elim (λ before. seen place v before) (λ (same : u ≡ v). subst (λ (w : View). IsPrefix w.seen log) same its) (at_snoc views u v place at)

seen-set : (log : List Part) (views : List View) (place : ℕ) (u : View) → Seen log views → IsPrefix u.seen log → Seen log (set views place u)
seen-set log views place u seen its other v at =
    ⊎_elim (λ (t : (other ≡ place) × (u ≡ v)). subst (λ (w : View). IsPrefix w.seen log) t.1 its)
    (λ (t : (other ≢ place) × (get_elem? views other ≡ some v)). seen other v t.1) (at_set views place other u v at)

-- on a new shelf
pub opens : (shown : Side) → shown.parts.items ≡ [] → Kept shown (having_seen [] ∷ [])
opens shown none = record {
  log = subst IsLog (sym none) log-nil;
  seen = seen-push shown.parts.items [] (having_seen []) (λ place v at. absurd (some-ne-none v (sym at))) (shown.parts.items, refl);
}

-- A reader may come at any time.
pub admits : Admits Kept (having_seen [])
admits shown views kept = record { log = kept.log; seen = seen-push shown.parts.items views (having_seen []) kept.seen (shown.parts.items, refl) }

-- a look, and a publication
pub finds : (place : ℕ) (v : View) (x y : Side) → (IsLog x.parts.items → IsLog y.parts.items) → IsPrefix x.parts.items y.parts.items
    → TurnsAt Kept place v x y (λ before _ shown after. Finds before shown.parts.items after)
finds place v x y log grows views kept at =
    let now = y.parts.items in
    let view : View = record { seen = now; looks = v.looks + 1 } in (
      view,
      record {
        log = log kept.log;
        seen = seen-set now views place view (λ other u there. prefix_trans u.seen x.parts.items now (kept.seen other u there) grows) (prefix_refl now);
      },
      record { log = log kept.log; grows = prefix_trans v.seen x.parts.items now (kept.seen place v at) grows; seen = refl; looks = refl },
    )

-- The writer tells what it has seen.
pub forks : (place : ℕ) (v : View) → Forks Kept place v v v
forks place v shown views kept at =
    let log = shown.parts.items in
    let its = kept.seen place v at in
    record { log = kept.log; seen = seen-push log (set views place v) v (seen-set log views place v kept.seen its) its }

-- A reader is told that.
pub merges : (place : ℕ) (v : View) (other : ℕ) (told : View) → Merges Kept place v other told told (having_seen [])
merges place v other told shown views kept at apart there =
    let log = shown.parts.items in
    let its : IsPrefix told.seen log =
    ⊎_elim (λ (t : (other ≡ place) × (told ≡ told)). absurd (apart t.0)) (λ (t : (other ≢ place) × (get_elem? views other ≡ some told)). kept.seen other told t.1)
    (at_set views place other told told there) in
    record {
      log = kept.log;
      seen = seen-set log (set views place told) other (having_seen []) (seen-set log views place told kept.seen its) (log, refl);
    }

-- Records that are narrow give no item too many outcomes, so a file that holds them isn't refused for that.
use Rattle.std.proofs.Common.{◌≡◌, inl, inr, ℕ, ◌≤◌, Bool, Option, Some, None, if◌then◌else◌, List, [], ◌∷◌, ◌++◌, All, append_assoc, refl, sym, ap, ◌∙◌, subst}
use Rattle.std.specs.List.{Contains}
use Rattle.std.specs.Option.{option_or}
use Rattle.std.proofs.lemmas.Bool.{le-ltb}
use Rattle.std.proofs.lemmas.Option.{none-some}
use Rattle.std.proofs.lemmas.List.Elements.{All-contains_itself, All-head, All-tail, All-weaker}
use Rattle.pv_base.specs.Catalog.{Declared}
use Rattle.pv_base.specs.declared.limits.TheConstants.{HELD_NAMES}
use Rattle.pv_base.specs.declared.txn.TxnId.{TxnId}
use Rattle.pv_disk_model.specs.Size.{Contents}
use Rattle.pv_format.specs.Contents.{SpellRecords}
use Rattle.pv_format.specs.Journal.{IsJournal}
use Rattle.pv_format.specs.Record.{Record, epoch_begun, outcome_known, prepared}
use Rattle.pv_law_format.proofs.ReplayLemmas.{one-replay}
use Rattle.pv_law_step.proofs.HomeLemmas.{items-home}
use Rattle.pv_model.specs.Alternatives.{Read}
use Rattle.pv_protocol.specs.Here.{Here}
use Rattle.pv_protocol.specs.Shown.{shown_within}
use Rattle.pv_protocol.specs.State.{Site}
use Rattle.pv_protocol.specs.Width.{IsNarrow}
use Rattle.pv_site.specs.SiteState.{setup_of}
use Rattle.pv_store.specs.Refusals.{first_too_many, first_too_many_after, names_count, site_items, too_many_in, width}
use Rattle.pv_law_hosted.specs.Claims.{HoldsSite}

module _ (catalog : Declared) (site : ℕ) (records : List Record) where
  -- The item's value names few enough after the front.
  abbrev IsFew : List Record → ℕ → Type 0
  IsFew front item = names_count (shown_within catalog records front item) ≤ HELD_NAMES

  few-counts : (front : List Record) (items : List ℕ) → All (IsFew front) items → first_too_many catalog records front items ≡ None
  few-counts front [] few = refl
  few-counts front (item ∷ items) few =
      let count = width catalog records front item in
      let later = first_too_many catalog records front items in
      ap (λ (b : Bool). option_or (if b then Some count else None) later) (le-ltb HELD_NAMES count (All-head (IsFew front) item items few))
      ∙ few-counts front items (All-tail (IsFew front) item items few)

  -- What is asked of a site's items, whatever it has in memory.
  abbrev here : Here
  here = record { me = site; setup = setup_of catalog; records = records; surplus = 0; running = record { epoch = 0; next_txn = 0; next_grant = 0; entries = []; grants = [] } }

  abbrev items : List ℕ
  items = site_items catalog site

  module _ (narrow : IsNarrow HELD_NAMES catalog site records) where
    few-after : (before after : List Record) (txn : TxnId) (writes : List Read) → records ≡ before ++ prepared txn writes ∷ after
        → All (IsFew (before ++ prepared txn writes ∷ [])) items
    few-after before after txn writes is =
        All-weaker (Contains items) (IsFew (before ++ prepared txn writes ∷ [])) (λ item there. narrow.few before after txn writes item (items-home here item there) is) items
        (All-contains_itself items)

    goes-on : (before : List Record) (first : Record) (after : List Record) → records ≡ before ++ first ∷ after → records ≡ (before ++ first ∷ []) ++ after
    goes-on before first after is = is ∙ sym (append_assoc before (first ∷ []) after)

    counts-after : (before after : List Record) → records ≡ before ++ after → first_too_many_after catalog records items before after ≡ None
    counts-after before [] is = refl
    counts-after before (prepared txn writes ∷ after) is =
        let front = before ++ prepared txn writes ∷ [] in
        ap (λ (first : Option ℕ). option_or first (first_too_many_after catalog records items front after)) (few-counts front items (few-after before after txn writes is))
        ∙ counts-after front after (goes-on before (prepared txn writes) after is)
    counts-after before (epoch_begun epoch ∷ after) is = counts-after (before ++ epoch_begun epoch ∷ []) after (goes-on before (epoch_begun epoch) after is)
    counts-after before (outcome_known txn commits ∷ after) is =
        counts-after (before ++ outcome_known txn commits ∷ []) after (goes-on before (outcome_known txn commits) after is)

    pub narrow-counts : too_many_in catalog site records ≡ None
    unfolding too_many_in
    narrow-counts = counts-after [] records refl

-- The limit of journals has no part in it.
pub narrow-raised : (catalog : Declared) (limit site : ℕ) (records : List Record) → IsNarrow HELD_NAMES catalog site records
    → IsNarrow HELD_NAMES (record catalog { journal = limit }) site records
unfolding shown_within
narrow-raised catalog limit site records narrow = record { few = narrow.few }

none-counts : (catalog : Declared) (site : ℕ) → too_many_in catalog site [] ≡ None
unfolding too_many_in
none-counts catalog site = refl

module _ (one : (bytes : List ℕ) (contents others : Contents) → IsJournal contents bytes → IsJournal others bytes → contents ≡ others)
    (catalog : Declared) (n : ℕ) (file : List ℕ) (others : Contents) (records : List Record) (count : ℕ)
    (journal : IsJournal others file) (spelled : SpellRecords records others) (many : too_many_in catalog n records ≡ Some count) where
  too-many : (there : List Record) (contents : Contents) → IsJournal contents file → SpellRecords there contents → too_many_in catalog n there ≡ None → ⊥
  too-many there contents held told none =
      let same = one-replay contents records there (subst (SpellRecords records) (one file others contents journal held) spelled) told in
      none-some count (sym none ∙ ap (too_many_in catalog n) (sym same) ∙ many)

  -- A file that holds a site's narrow records isn't refused for too many outcomes.
  pub left-narrow : (site : Site) → HoldsSite file site → IsNarrow HELD_NAMES catalog n site.records → ⊥
  left-narrow site (inl left) narrow = too-many site.records left.0 left.1 left.2 (narrow-counts catalog n site.records narrow)
  left-narrow site (inr left) narrow = too-many [] [] left.0 tt (none-counts catalog n)

-- What a compacted list says of the values of a site's items, and that it is narrow.
use Rattle.std.proofs.Common.{◌≡◌, ◌⊎◌, ⊎_elim, ℕ, ℤ, pos, Bool, true, false, not, ◌≤◌, Some, None, Option, List, [], ◌∷◌, ◌++◌, inl, inr, length, refl, sym, ap, subst, ◌∙◌, filter, arith}
use Rattle.std.specs.Prelude.{IsTrue, is_none, if◌then◌else◌}
use Rattle.std.specs.List.{Contains}
use Rattle.std.specs.Option.{unwrap_or}
use Rattle.std.specs.Ordering.{int_eq}
use Rattle.std.proofs.lemmas.Bool.{false≢true}
use Rattle.std.proofs.lemmas.List.Elements.{Contains-append_left, Contains-append_right}
use Rattle.pv_base.proofs.ContainsLemmas.{Contains-first, Contains-behind, Contains-nil, Contains-cases, Contains-filter}
use Rattle.pv_base.proofs.MapLemmas.{Contains-map, Contains-unmap}
use Rattle.pv_base.specs.Assignment.{commits, AgreeOn}
use Rattle.pv_base.specs.Canonical.{canonical_cases, are_same_cases}
use Rattle.pv_base.specs.Catalog.{Declared}
use Rattle.pv_base.specs.Named.{names_of}
use Rattle.pv_base.specs.Polyvalue.{Case}
use Rattle.pv_base.specs.declared.txn.TxnId.{TxnId}
use Rattle.pv_format.specs.Record.{Record, epoch_begun, prepared, outcome_known}
use Rattle.pv_law_acts.proofs.ListLemmas.{listed-either}
use Rattle.pv_law_acts.proofs.RecordLemmas.{known-listed}
use Rattle.pv_law_canonical.proofs.ComparedLemmas.{same-cases}
use Rattle.pv_law_compaction.proofs.CompactLemmas.{in-saved, compacted, compacted-promise, compacted-outcome, compacted-known}
use Rattle.pv_law_compaction.proofs.GroupLemmas.{IsSaving, own-listed, grouped-whole, grouped-each, written-listed, listed-written, saved-group}
use Rattle.pv_law_compaction.specs.Compact.{sure, is_changed, shown_of, changed_values, grouped}
use Rattle.pv_law_compaction.specs.Given.{is_given, DependOnGiven}
use Rattle.pv_law_polyvalues.proofs.ExistenceLemmas.{numbers-exact}
use Rattle.pv_law_step.proofs.OutcomeLemmas.{or_assigned, choice-is, choice-alike, choice-known}
use Rattle.pv_law_step.proofs.ShownLemmas.{if-same, shown-value}
use Rattle.pv_law_step.proofs.WidthLemmas.{narrow-now}
use Rattle.pv_law_values.proofs.ChoiceLemmas.{choice-heeding}
use Rattle.pv_law_values.proofs.ShownMore.{shown-alike}
use Rattle.pv_law_values.proofs.SupportLemmas.{newest-same}
use Rattle.pv_model.specs.Alternatives.{Read, number_at}
use Rattle.pv_protocol.specs.Lock.{is_home}
use Rattle.pv_protocol.specs.Outcome.{items_from}
use Rattle.pv_protocol.specs.Records.{known, is_undecided, choice}
use Rattle.pv_protocol.specs.Shown.{written, written_or, value_after, newest, declared_value, item_within, item_value, shown_within, shown}
use Rattle.pv_protocol.specs.Width.{IsNarrow}

-- Known outcomes that are put in twice change nothing more.
pub value-chosen : (catalog : Declared) (records : List Record) (item : ℕ) (a : List TxnId) → item_value catalog records item (choice records a) ≡ item_value catalog records item a
value-chosen catalog records item a =
    newest-same item (choice records (choice records a)) (choice records a)
    (choice-heeding records (choice records a) (λ t outcome is. choice-known records a t outcome is)) records (declared_value catalog item)

-- Before any record nothing is named.
named-by-none : (catalog : Declared) (records : List Record) (item : ℕ) → length (names_of (shown_within catalog records [] item)) ≡ 0
unfolding shown_within canonical_cases
named-by-none catalog records item = refl

module _ (catalog : Declared) (site : ℕ) (records : List Record) where
  abbrev kept_list : List Record
  kept_list = compacted records site catalog

  abbrev chosen : List TxnId → List TxnId
  chosen a = choice kept_list a

  module _ (item : ℕ) where
    -- the shown value, at an assignment with the outcomes that the compacted list knows
    abbrev saved_at : List TxnId → ℤ
    saved_at a = number_at (shown catalog records item) (chosen a)

    -- A record leaves the item's value as it is, whatever commits, or makes it the shown one.
    abbrev LeavesOrSaves : Record → Type 0
    LeavesOrSaves kept =
        ((a : List TxnId) (old : ℤ) → value_after item (chosen a) old kept ≡ old) ⊎ ((a : List TxnId) (old : ℤ) → value_after item (chosen a) old kept ≡ saved_at a)

    -- What is written in a group is shown.
    group-shown : (group : List Read) (cases : List (Case ℤ)) → Contains (grouped (changed_values catalog site records)) group → written item group ≡ Some cases
        → cases ≡ shown catalog records item
    group-shown group cases h is =
        let write = written-listed item group cases is in
        let found = Contains-unmap (shown_of catalog records) (filter (is_changed catalog records) (items_from site 0 catalog.items)) write.0
        (grouped-whole (changed_values catalog site records) group write.0 h write.1.0) in
        sym write.1.1.1
        ∙ sym (subst (λ (read : Read). shown catalog records read.item ≡ read.cases) found.1.1 refl)
        ∙ ap (shown catalog records) write.1.1.0

    saves : (t : TxnId) (group : List Read) → IsSaving site 0 (grouped (changed_values catalog site records)) t group → (cases : List (Case ℤ)) → written item group ≡ Some cases
        → (a : List TxnId) (old : ℤ) → value_after item (chosen a) old (prepared t group) ≡ saved_at a
    saves t group saving cases is a old =
        let committed : commits (chosen a) t ≡ true = choice-known kept_list a t true
        (compacted-known records site catalog t (in-saved records site catalog (outcome_known t true) saving.commits)) in
        ap (λ (b : Bool). if b then written_or old (written item group) (chosen a) else old) committed
        ∙ ap (λ found. written_or old found (chosen a)) is
        ∙ ap (λ (these : List (Case ℤ)). number_at these (chosen a)) (group-shown group cases saving.group is)

    promise-by : (t : TxnId) (group : List Read) → IsSaving site 0 (grouped (changed_values catalog site records)) t group → (found : Option (List (Case ℤ))) → written item group ≡ found
        → LeavesOrSaves (prepared t group)
    promise-by t group saving None is =
        inl (λ a old. ap (λ found. if commits (chosen a) t then written_or old found (chosen a) else old) is ∙ if-same (commits (chosen a) t) old)
    promise-by t group saving (Some cases) is = inr (saves t group saving cases is)

    each-kept : (kept : Record) → Contains kept_list kept → LeavesOrSaves kept
    each-kept (epoch_begun epoch) h = inl (λ a old. refl)
    each-kept (outcome_known t b) h = inl (λ a old. refl)
    each-kept (prepared t writes) h =
        ⊎_elim
        (λ saving. promise-by t writes saving (written item writes) refl)
        (λ doubt. subst LeavesOrSaves (sym doubt.is) (inl (λ a old. if-same (commits (chosen a) doubt.txn) old)))
        (compacted-promise records site catalog t writes h)

    -- So after each front of the list the item has its declared value or the shown one.

    abbrev AreSo : List Record → Type 0
    AreSo list = (kept : Record) → Contains list kept → LeavesOrSaves kept

    rest-so : (first : Record) (list : List Record) → AreSo (first ∷ list) → AreSo list
    rest-so first list each kept h = each kept (Contains-behind first list kept h)

    -- It is the old one, or the shown one, the same whatever commits.
    data IsEither (value : List TxnId → ℤ) : Type 0 where
      declared : ((a : List TxnId) → value a ≡ declared_value catalog item) → IsEither value
      saved : ((a : List TxnId) → value a ≡ saved_at a) → IsEither value

    either-after : (first : Record) (value : List TxnId → ℤ) → LeavesOrSaves first → IsEither value → IsEither (λ a. value_after item (chosen a) (value a) first)
    either-after first value (inr makes) which = saved (λ a. makes a (value a))
    either-after first value (inl leaves) (declared is) = declared (λ a. leaves a (value a) ∙ is a)
    either-after first value (inl leaves) (saved is) = saved (λ a. leaves a (value a) ∙ is a)

    either : (list : List Record) → AreSo list → (value : List TxnId → ℤ) → IsEither value → IsEither (λ a. newest item (chosen a) (value a) list)
    either [] each value which = which
    either (first ∷ list) each value which =
        either list (rest-so first list each) (λ a. value_after item (chosen a) (value a) first) (either-after first value (each first (Contains-first first list)) which)

    -- Once it is the shown one it stays so.
    stays-saved : (list : List Record) → AreSo list → (a : List TxnId) (value : ℤ) → value ≡ saved_at a → newest item (chosen a) value list ≡ saved_at a
    stays-saved [] each a value is = is
    stays-saved (first ∷ list) each a value is =
        stays-saved list (rest-so first list each) a (value_after item (chosen a) value first)
        (⊎_elim (λ leaves. leaves a value ∙ is) (λ makes. makes a value) (each first (Contains-first first list)))

    made-saved : (list : List Record) → AreSo list → (kept : Record) → Contains list kept → (a : List TxnId) → ((old : ℤ) → value_after item (chosen a) old kept ≡ saved_at a)
        → (value : ℤ) → newest item (chosen a) value list ≡ saved_at a
    made-saved [] each kept h a makes value = absurd (Contains-nil kept h)
    made-saved (first ∷ list) each kept h a makes value =
        ⊎_elim
        (λ same. stays-saved list (rest-so first list each) a (value_after item (chosen a) value first) (ap (value_after item (chosen a) value) same ∙ makes value))
        (λ behind. made-saved list (rest-so first list each) kept behind a makes (value_after item (chosen a) value first))
        (Contains-cases first list kept h)

    -- Where the item is shown as declared, both are one.
    unchanged : (a : List TxnId) → is_changed catalog records item ≡ false → declared_value catalog item ≡ saved_at a
    unchanged a same =
        let cases = shown catalog records item in
        let d : ℤ = declared_value catalog item in
        let is : cases ≡ sure d = (same-cases numbers-exact cases (sure d)).0 (passes (are_same_cases int_eq cases (sure d)) same) in
        sym (ap (λ (these : List (Case ℤ)). number_at these (chosen a)) is)
      where
        passes : (b : Bool) → not b ≡ false → b ≡ true
        passes true h = refl
        passes false h = absurd (false≢true (sym h))

    changed-saved : IsTrue (is_home catalog site item) → (a : List TxnId) → is_changed catalog records item ≡ true → item_within catalog kept_list kept_list item a ≡ saved_at a
    changed-saved home a changed =
        let read = shown_of catalog records item in
        let listed : Contains (changed_values catalog site records) read =
        Contains-map (shown_of catalog records) (filter (is_changed catalog records) (items_from site 0 catalog.items)) item
        (Contains-filter (is_changed catalog records) (items_from site 0 catalog.items) item changed (own-listed catalog site item home)) in
        let found = grouped-each (changed_values catalog site records) read listed in
        let promise = saved-group site 0 (grouped (changed_values catalog site records)) found.group found.is in
        let there : Contains kept_list (prepared promise.0 found.group) = in-saved records site catalog (prepared promise.0 found.group) promise.1 in
        let wrote = listed-written found.group read found.has in
        ⊎_elim
        (λ saving. made-saved kept_list each-kept (prepared promise.0 found.group) there a (λ old. saves promise.0 found.group saving wrote.0 wrote.1 a old) (declared_value catalog item))
        (λ doubt. let empty : prepared promise.0 found.group ≡ prepared doubt.txn [] = doubt.is in let no : found.group ≡ [] = cc in
        absurd (Contains-nil read (subst (λ (list : List Read). Contains list read) no found.has)))
        (compacted-promise records site catalog promise.0 found.group there)

    kept-saved : IsTrue (is_home catalog site item) → (a : List TxnId) → item_value catalog kept_list item a ≡ saved_at a
    kept-saved home a = by (is_changed catalog records item) refl where
      both : IsEither (λ b. item_within catalog kept_list kept_list item b) → is_changed catalog records item ≡ false → item_within catalog kept_list kept_list item a ≡ saved_at a
      both (declared is) same = is a ∙ unchanged a same
      both (saved is) same = is a

      by : (b : Bool) → is_changed catalog records item ≡ b → item_within catalog kept_list kept_list item a ≡ saved_at a
      by true changed = changed-saved home a changed
      by false same = both (either kept_list each-kept (λ b. declared_value catalog item) (declared (λ b. refl))) same

    saved-value : (a : List TxnId) → saved_at a ≡ item_value catalog records item (chosen a)
    saved-value a = ap (λ value. unwrap_or value (pos 0)) (shown-value catalog records records item (chosen a))

  -- Of a given transaction that isn't known the compacted list knows nothing either.

  unknown-kept : (t : TxnId) → IsTrue (is_given t) → is_undecided records t ≡ true → (outcome : Option Bool) → known kept_list t ≡ outcome → outcome ≡ None
  unknown-kept t given unknown None is = refl
  unknown-kept t given unknown (Some b) is =
      ⊎_elim
      (λ was. absurd (false≢true (sym (ap is_none was.1) ∙ unknown)))
      (λ ungiven. absurd (false≢true (sym ungiven ∙ given)))
      (compacted-outcome records site catalog t b (known-listed kept_list t b is)).1

  chosen-alike : (a : List TxnId) → AgreeOn is_given (choice records (chosen a)) (choice records a)
  chosen-alike a = λ t given. choice-alike records (chosen a) a t
      (λ unknown. choice-is kept_list a t ∙ ap (λ outcome. or_assigned outcome (commits a t)) (unknown-kept t given unknown (known kept_list t) refl))

  module _ (depends : DependOnGiven catalog site records) (item : ℕ) (home : IsTrue (is_home catalog site item)) where
    chosen-value : (a : List TxnId) → item_value catalog records item (chosen a) ≡ item_value catalog records item a
    chosen-value a =
        sym (value-chosen catalog records item (chosen a))
        ∙ depends item home (choice records (chosen a)) (choice records a) (chosen-alike a)
        ∙ value-chosen catalog records item a

    -- Each item has the same value by the compacted list, whatever commits.
    pub compacted-value : (a : List TxnId) → item_value catalog kept_list item a ≡ item_value catalog records item a
    compacted-value a = kept-saved item home a ∙ saved-value item a ∙ chosen-value a

    front-narrow : (limit : ℕ) → IsNarrow limit catalog site records → (front : List Record) → IsEither item (λ a. item_within catalog kept_list front item a)
        → length (names_of (shown_within catalog kept_list front item)) ≤ limit
    front-narrow limit narrow front (declared is) =
        omega (
          arith,
          ap (λ (cases : List (Case ℤ)). length (names_of cases)) (shown-alike catalog kept_list front records [] item is),
          named-by-none catalog records item,
        )
    front-narrow limit narrow front (saved is) =
        omega (
          arith,
          ap (λ (cases : List (Case ℤ)). length (names_of cases)) (shown-alike catalog kept_list front records records item (λ a. is a ∙ saved-value item a ∙ chosen-value a)),
          narrow-now limit catalog site records narrow item home,
        )

  in-front : (before after : List Record) (last kept : Record) → Contains (before ++ last ∷ []) kept → Contains (before ++ last ∷ after) kept
  in-front before after last kept h =
      ⊎_elim
      (λ early. Contains-append_left before (last ∷ after) kept early)
      (λ same. Contains-append_right before (last ∷ after) kept (subst (Contains (last ∷ after)) same (Contains-first last after)))
      (listed-either before last kept h)

  pub compacted-narrow : (limit : ℕ) → IsNarrow limit catalog site records → DependOnGiven catalog site records → IsNarrow limit catalog site kept_list
  compacted-narrow limit narrow depends = record {
    few = λ before after t writes item home split.
        front-narrow depends item home limit narrow (before ++ prepared t writes ∷ [])
        (either item (before ++ prepared t writes ∷ [])
        (λ kept h. each-kept item kept (subst (λ list. Contains list kept) (sym split) (in-front before after (prepared t writes) kept h)))
        (λ a. declared_value catalog item) (declared (λ a. refl)));
  }

  pub compacted-depends : DependOnGiven catalog site records → DependOnGiven catalog site kept_list
  compacted-depends depends = λ item home a b agree.
      compacted-value depends item home a ∙ depends item home a b agree ∙ sym (compacted-value depends item home b)

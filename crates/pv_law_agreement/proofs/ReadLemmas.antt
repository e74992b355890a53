-- What a transaction has read is what the serial run has before it; so what it writes is what the serial run leaves.
use Rattle.std.proofs.Common.{◌≡◌, ◌⊎◌, ⊎_elim, ℕ, ◌<◌, ℤ, pos, zero, suc, Bool, true, false, Some, List, [], ◌∷◌, ◌++◌, inl, inr, map, length, refl, sym, ap, subst, ◌∙◌, arith}
use Rattle.std.specs.Prelude.{◌==◌, IsSome, is_some, if◌then◌else◌, slice_get}
use Rattle.std.specs.List.{Contains, flat_map}
use Rattle.std.specs.Option.{unwrap_or}
use Rattle.std.proofs.lemmas.List.Elements.{All-contains, Contains-append_right}
use Rattle.pv_base.proofs.Basics.{Some_inj, never}
use Rattle.pv_base.proofs.ContainsLemmas.{Contains-first, Contains-behind, Contains-nil, Contains-cases}
use Rattle.pv_base.proofs.MapLemmas.{Contains-map, Contains-unmap}
use Rattle.pv_base.specs.Assignment.{commits}
use Rattle.pv_base.specs.Catalog.{Item, Declared}
use Rattle.pv_base.specs.Polyvalue.{Case}
use Rattle.pv_base.specs.Want.{Want}
use Rattle.pv_base.specs.declared.grant.GrantId.{GrantId}
use Rattle.pv_base.specs.declared.txn.TxnId.{TxnId}
use Rattle.pv_law_acts.specs.Guards.{MaySendPrepare}
use Rattle.pv_law_acts.specs.Seen.{records_at, WorksAgeless, wants_at, place_in_order}
use Rattle.pv_law_agreement.proofs.PlaceLemmas.{one-placed, programs-append}
use Rattle.pv_law_agreement.proofs.WriteLemmas.{made-of, some-value, listed-written, assigns-names, exclusive-assigned, named-wanted, named-participates}
use Rattle.pv_law_agreement.specs.Grounds.{HasGrounds, IsRightEntry}
use Rattle.pv_law_agreement.specs.Serialized.{IsSerialized}
use Rattle.pv_law_agreement.specs.Values.{AreBefore, AreAfter}
use Rattle.pv_law_programs.proofs.AlikeRows.{own_rows_alone}
use Rattle.pv_law_step.proofs.ComputedLemmas.{new-value}
use Rattle.pv_law_values.proofs.ChoiceLemmas.{choice-heeding}
use Rattle.pv_law_values.proofs.SerialLemmas.{serial-through, serial-lacks, has-declared}
use Rattle.pv_law_values.proofs.SupportLemmas.{rows-fixed, every-read}
use Rattle.pv_model.specs.Alternatives.{Read, number_at, rows_at}
use Rattle.pv_model.specs.Check.{names_item, IsAt}
use Rattle.pv_model.specs.Items.{lacks}
use Rattle.pv_model.specs.Meaning.{Row, value_in, exec}
use Rattle.pv_model.specs.Plan.{want_of, wants_of}
use Rattle.pv_model.specs.ProgramLaws.{HaveSameValuesOf}
use Rattle.pv_model.specs.Serial.{Ordered, declared_rows, serial}
use Rattle.pv_protocol.specs.Committed.{Fits, programs_of}
use Rattle.pv_protocol.specs.Coordinate.{reads_of, row_after, new_value, exclusive_items}
use Rattle.pv_protocol.specs.Records.{choice}
use Rattle.pv_protocol.specs.Shown.{written}
use Rattle.pv_protocol.specs.State.{Setup, voting, Taken, TakenGrant, Entry, Placed}
use Rattle.pv_protocol.specs.World.{World}

-- The rows of what was read.

value-of : (item : ℕ) (read : Read) (reads : List Read) (a : List TxnId) (b : Bool) → (read.item == item) ≡ b
    → ((cases : List (Case ℤ)) → written item reads ≡ Some cases → value_in (rows_at reads a) item ≡ number_at cases a)
    → (cases : List (Case ℤ)) → (if b then Some read.cases else written item reads) ≡ Some cases
    → (if b then number_at read.cases a else value_in (rows_at reads a) item) ≡ number_at cases a
value-of item read reads a true here later cases is = ap (λ cs. number_at cs a) (Some_inj is)
value-of item read reads a false here later cases is = later cases is

-- An item that was read has its value.
pub read-value : (item : ℕ) (reads : List Read) (a : List TxnId) (cases : List (Case ℤ)) → written item reads ≡ Some cases → value_in (rows_at reads a) item ≡ number_at cases a
read-value item [] a cases is = absurd (let wrong : ⊥ = cc in wrong)
read-value item (read ∷ reads) a cases is = value-of item read reads a (read.item == item) refl (read-value item reads a) cases is

-- .. and a row.
pub read-there : (item : ℕ) (reads : List Read) (a : List TxnId) → IsSome (written item reads) → lacks (rows_at reads a) item ≡ false
read-there item [] a is = absurd (never is)
read-there item (read ∷ reads) a is = by (read.item == item) (read-there item reads a) is
  where
    by : (b : Bool) → (IsSome (written item reads) → lacks (rows_at reads a) item ≡ false) → IsSome (if b then Some read.cases else written item reads)
        → (if b then false else lacks (rows_at reads a) item) ≡ false
    by true later is = refl
    by false later is = later is

-- What is found in lists one after another.

in-front : (item : ℕ) (xs ys : List Read) (cases : List (Case ℤ)) → written item (xs ++ ys) ≡ Some cases → (written item xs ≡ Some cases) ⊎ (written item ys ≡ Some cases)
in-front item [] ys cases is = inr is
in-front item (x ∷ xs) ys cases is = by (x.item == item) (in-front item xs ys cases) is
  where
    by : (b : Bool) → (written item (xs ++ ys) ≡ Some cases → (written item xs ≡ Some cases) ⊎ (written item ys ≡ Some cases))
        → (if b then Some x.cases else written item (xs ++ ys)) ≡ Some cases
        → ((if b then Some x.cases else written item xs) ≡ Some cases) ⊎ (written item ys ≡ Some cases)
    by true later is = inl is
    by false later is = later is

-- the grant with which an item came that was read
pub record ReadFrom (entry : Entry) (item : ℕ) (cases : List (Case ℤ)) : Type 0 where
  pub taken : Taken
  pub listed : Contains entry.taken taken
  pub has : written item taken.values ≡ Some cases

read-from-some : (item : ℕ) (takens : List Taken) (cases : List (Case ℤ)) → written item (flat_map (λ (t : Taken). t.values) takens) ≡ Some cases
    → (t : Taken) × Contains takens t × (written item t.values ≡ Some cases)
read-from-some item [] cases is = absurd (let wrong : ⊥ = cc in wrong)
read-from-some item (t ∷ takens) cases is =
    ⊎_elim
    (λ here. (t, Contains-first t takens, here))
    (λ behind. let found = read-from-some item takens cases behind in (found.0, Contains-behind t takens found.0 found.1, found.2))
    (in-front item t.values (flat_map (λ (t : Taken). t.values) takens) cases is)

pub read-from : (entry : Entry) (item : ℕ) (cases : List (Case ℤ)) → written item (reads_of entry) ≡ Some cases → ReadFrom entry item cases
read-from entry item cases is = let found = read-from-some item entry.taken cases is in record { taken = found.0; listed = found.1; has = found.2 }

some-either : (item : ℕ) (xs ys : List Read) → IsSome (written item xs) ⊎ IsSome (written item ys) → IsSome (written item (xs ++ ys))
some-either item [] ys (inl is) = absurd (never is)
some-either item [] ys (inr is) = is
some-either item (x ∷ xs) ys either = by (x.item == item) (some-either item xs ys) either
  where
    by : (b : Bool) → (IsSome (written item xs) ⊎ IsSome (written item ys) → IsSome (written item (xs ++ ys))) → IsSome (if b then Some x.cases else written item xs) ⊎ IsSome (written item ys)
        → IsSome (if b then Some x.cases else written item (xs ++ ys))
    by true later either = refl
    by false later either = later either

pub some-taken : (item : ℕ) (takens : List Taken) (t : Taken) → Contains takens t → IsSome (written item t.values) → IsSome (written item (flat_map (λ (t : Taken). t.values) takens))
some-taken item [] t h is = absurd (Contains-nil t h)
some-taken item (first ∷ takens) t h is =
    some-either item first.values (flat_map (λ (t : Taken). t.values) takens)
    (⊎_elim
    (λ same. inl (ap (λ (t : Taken). is_some (written item t.values)) same ∙ is))
    (λ behind. inr (some-taken item takens t behind is))
    (Contains-cases first takens t h))

-- What a list is cut at is listed.
pub Contains-at : {X : Type 0} (front : List X) (x : X) (rest : List X) → Contains (front ++ x ∷ rest) x
Contains-at front x rest = Contains-append_right front (x ∷ rest) x (Contains-first x rest)

-- An item of the catalog.
declared-at : (items : List Item) (n : ℕ) → n < length items → (item : Item) × (slice_get items n ≡ Some item) × IsAt items n item.site
declared-at [] n within = absurd (omega (arith, within))
declared-at (item ∷ items) zero within = (item, refl, refl)
declared-at (item ∷ items) (suc n) within = declared-at items n (omega (arith, within))

module _ (setup : Setup) (w : World) (grounds : HasGrounds setup w) (n : ℕ) (txn : TxnId) (entry : Entry) (works : WorksAgeless w n txn entry) (votes : entry.stage ≡ voting) where
  abbrev right : IsRightEntry setup w n txn entry
  right = grounds.entries n txn entry works

  -- Each item of the program was read.
  pub all-read : (item : ℕ) → names_item entry.program item ≡ true → IsSome (written item (reads_of entry)) × ((d : Declared) → d ≡ setup.catalog → lacks (declared_rows d) item ≡ false)
  all-read item named =
      let items = right.runs.runnable in
      let within : item < length setup.catalog.items = All-contains (λ (k : ℕ). k < length setup.catalog.items) items.items item items.known (items.are.whole item named) in
      let declared = declared-at setup.catalog.items item within in
      let site = declared.0.site in
      let there = named-participates setup.catalog.items entry.program site item declared.2 named in
      let part = grounds.whole (place_in_order entry) (right.placed votes) site there in
      let back = Contains-unmap (λ (t : Taken). taken_grant t) entry.taken part.0 part.1 in
      let taken = right.taken back.0 back.1.0 in
      let same : back.0.site ≡ site = ap (λ (g : TakenGrant). g.site) back.1.1 ∙ part.2 in
      let wanted = Contains-map (λ (w : Want). w.item) (wants_of entry.program setup.catalog.items site) (want_of entry.program item) (named-wanted setup.catalog.items entry.program site item declared.2 named) in (
        some-taken item entry.taken back.0 back.1.0
            (listed-written item back.0.values
            (subst (λ xs. Contains xs item) (sym taken.items) (subst (λ s. Contains (map (λ (w : Want). w.item) (wants_of entry.program setup.catalog.items s)) item) (sym same) wanted))),
        λ d is. subst (λ c. lacks (declared_rows c) item ≡ false) (sym is) (has-declared setup.catalog item declared.0 declared.1),
      )
    where
      taken_grant : Taken → TakenGrant
      taken_grant t = record { site = t.site; grant = t.grant }

  module _ (before : (taken : Taken) → Contains entry.taken taken → AreBefore setup.catalog w txn taken.values) (front rest : List Placed) (placed : Placed) (cut : w.order ≡ front ++ placed ∷ rest) (is : placed.txn ≡ txn)
      (a : List TxnId) (fits : Fits w a) (in_a : commits a txn ≡ true) where
    abbrev left : List Row
    left = serial (declared_rows setup.catalog) (programs_of front) a

    -- What was read is what the serial run has there.
    pub reads-alike : HaveSameValuesOf (names_item entry.program) (rows_at (reads_of entry) a) left
    reads-alike item named =
        let all = all-read item named in
        let found = some-value (written item (reads_of entry)) all.0 in
        let from = read-from entry item found.0 found.1 in (
          read-there item (reads_of entry) a all.0 ∙ sym (serial-lacks (declared_rows setup.catalog) (programs_of front) a item ∙ all.1 setup.catalog refl),
          read-value item (reads_of entry) a found.0 found.1 ∙ before from.taken from.listed front rest placed cut is a fits in_a item found.0 from.has,
        )

    -- At an assignment that fits the known outcomes change nothing.
    pub rows-known : rows_at (reads_of entry) (choice (records_at w n) a) ≡ rows_at (reads_of entry) a
    rows-known = rows-fixed (λ t. true) (reads_of entry) (every-read (reads_of entry)) (choice (records_at w n) a) a (λ t every. choice-heeding (records_at w n) a (grounds.heeded a fits n) t)

    same-program : placed.program ≡ entry.program
    same-program =
        let listed = subst (λ o. Contains o placed) (sym cut) (Contains-at front placed rest) in
        ap (λ (p : Placed). p.program) (one-placed w.order grounds.distinct placed (place_in_order entry) listed (right.placed votes) (is ∙ sym right.is))

    -- The new value of an item is what the serial run leaves.
    pub row-alike : (item : ℕ) → names_item entry.program item ≡ true
        → row_after (records_at w n) entry item a ≡ value_in (serial (declared_rows setup.catalog) (programs_of (front ++ placed ∷ [])) a) item
    row-alike item named =
        let here : Ordered = record { txn = placed.txn; program = placed.program } in
        ap (λ (rows : List Row). value_in (exec entry.program rows).rows item) rows-known
        ∙ ((own_rows_alone (names_item entry.program) entry.program (rows_at (reads_of entry) a) left (λ k h. h) reads-alike).1 item named).1
        ∙ ap (λ p. value_in (exec p left).rows item) (sym same-program)
        ∙ ap (λ (rows : List Row). value_in rows item) (sym (serial-through (declared_rows setup.catalog) (programs_of front) here a (ap (commits a) is ∙ in_a)))
        ∙ ap (λ o. value_in (serial (declared_rows setup.catalog) o a) item) (sym (programs-append front (placed ∷ [])))

-- What a coordinator asks a vote on is what the serial run leaves.
pub asked-after : (setup : Setup) (w : World) → HasGrounds setup w → IsSerialized setup w → (from to : ℕ) (txn : TxnId) (id : GrantId) (writes : List Read)
    → MaySendPrepare setup w from to txn id writes → AreAfter setup.catalog w txn writes
asked-after setup w grounds before from to txn id writes may front rest placed cut is a fits in_a item cases wrote =
    let made = made-of (new_value (records_at w from) may.entry) item (exclusive_items (wants_at setup may.entry to)) cases (subst (λ ws. written item ws ≡ Some cases) may.computed wrote) in
    let assigned = exclusive-assigned setup.catalog.items may.entry.program to item made.1 in
    ap (λ cs. number_at cs a) made.0
    ∙ ap (λ o. unwrap_or o (pos 0)) (new-value (records_at w from) may.entry item a)
    ∙ row-alike setup w grounds from txn may.entry may.works may.asks (before.taken from txn may.entry may.works may.asks) front rest placed cut is a fits in_a item
    (assigns-names may.entry.program item assigned.assigned)

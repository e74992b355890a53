-- What a sound site sends is in range, and it stays sound.
use Rattle.std.proofs.Common.{◌≡◌, ℕ, ◌<◌, ◌≤◌, Bool, List, [], ◌∷◌, length, map, refl, sym, ap, subst, ◌∙◌, arith}
use Rattle.std.specs.Prelude.{All, IsTrue}
use Rattle.std.specs.List.{Contains}
use Rattle.std.proofs.lemmas.List.Elements.{All-contains, All-cons, All-map, All-nil}
use Rattle.std.proofs.lemmas.List.{length-map}
use Rattle.pv_base.specs.declared.limits.TheConstants.{HELD_NAMES}
use Rattle.pv_base.specs.declared.txn.TxnId.{TxnId}
use Rattle.pv_base.specs.Catalog.{Declared}
use Rattle.pv_base.specs.Named.{names_of}
use Rattle.pv_base.specs.Want.{Want}
use Rattle.pv_format.specs.Message.{Message}
use Rattle.pv_format.specs.Range.{IsTxnWithin, AreItemsInRange, IsCaseWithin, IsPolyvalueWithin, AreReadsWithin, AreWantsInRange}
use Rattle.pv_format.specs.Record.{Record}
use Rattle.pv_law_step.proofs.ComputedLemmas.{new-canonical, new-value, new-names}
use Rattle.pv_law_step.proofs.FitLemmas.{AllFit, value-in-fits, exec-fits}
use Rattle.pv_law_step.proofs.Lists.{all-from, all-head, all-tail, all-flat}
use Rattle.pv_law_step.proofs.NameLists.{names-ascend, names-listed, listed-names, undecided-listed}
use Rattle.pv_law_step.proofs.ValueRanges.{names-in-range, number-fits, polyvalue-in-range, shown-in-range}
use Rattle.pv_law_step.proofs.WantRanges.{part-in-range}
use Rattle.pv_law_step.proofs.WidthLemmas.{narrow-now}
use Rattle.pv_law_polyvalues.proofs.AscendingLemmas.{fewer-ascending}
use Rattle.pv_base.proofs.MapLemmas.{map-map}
use Rattle.pv_model.specs.Alternatives.{Read, all_cases, rows_at}
use Rattle.pv_model.specs.Meaning.{exec}
use Rattle.pv_protocol.specs.Coordinate.{reads_of, names_taken, row_after, new_value, writes_to}
use Rattle.pv_protocol.specs.Granted.{asked_of}
use Rattle.pv_protocol.specs.Here.{Here, participants, outcome_sends}
use Rattle.pv_protocol.specs.Lock.{is_home, values_of}
use Rattle.pv_protocol.specs.Records.{choice}
use Rattle.pv_protocol.specs.Shown.{shown}
use Rattle.pv_protocol.specs.Sound.{IsTakenInRange, IsHereInRange, IsSentInRange}
use Rattle.pv_protocol.specs.WellFormed.{CanRun}
use Rattle.pv_protocol.specs.State.{Taken, Entry}

-- The values of an entry.

rows-fit : (sites : ℕ) (reads : List Read) → All (λ (read : Read). IsPolyvalueWithin sites read.cases) reads → (a : List TxnId) → AllFit (rows_at reads a)
rows-fit sites [] all a = tt
rows-fit sites (read ∷ reads) all a = (
  number-fits sites read.cases (all-head (λ (r : Read). IsPolyvalueWithin sites r.cases) read reads all).each a,
  rows-fit sites reads (all-tail (λ (r : Read). IsPolyvalueWithin sites r.cases) read reads all) a,
)

module _ (sites : ℕ) (entry : Entry) (taken : All (IsTakenInRange sites) entry.taken) where
  reads-in-range : All (λ (read : Read). IsPolyvalueWithin sites read.cases) (reads_of entry)
  reads-in-range =
      all-flat (λ (read : Read). IsPolyvalueWithin sites read.cases) (λ (t : Taken). t.values) entry.taken
      (λ t h. (All-contains (IsTakenInRange sites) entry.taken t taken h).values.values)

  cases-in-range : All (IsCaseWithin sites) (all_cases (reads_of entry))
  cases-in-range =
      all-flat (IsCaseWithin sites) (λ (read : Read). read.cases) (reads_of entry)
      (λ read h. (All-contains (λ (r : Read). IsPolyvalueWithin sites r.cases) (reads_of entry) read reads-in-range h).each)

  -- New values are in range, where the program's numbers are and what was taken names few outcomes.
  pub new-in-range : (catalog : Declared) → CanRun catalog entry.program → length (names_taken entry) ≤ HELD_NAMES → (records : List Record) (item : ℕ)
      → IsPolyvalueWithin sites (new_value records entry item)
  new-in-range catalog can few records item =
      let value = new_value records entry item in
      let within : (t : TxnId) → Contains (names_of value) t → Contains (names_taken entry) t =
      λ t h. undecided-listed records (names_taken entry) t (new-names records entry item t (listed-names value t h)) in
      polyvalue-in-range sites value (new-canonical records entry item)
      (omega (arith, fewer-ascending (names_of value) (names_taken entry) (names-ascend value) within, few))
      (λ t named. names-in-range sites (all_cases (reads_of entry)) cases-in-range t (listed-names (all_cases (reads_of entry)) t (within t (names-listed value t named))))
      (row_after records entry item) (new-value records entry item)
      (λ a. value-in-fits (exec entry.program (rows_at (reads_of entry) (choice records a))).rows item
      (exec-fits entry.program (rows_at (reads_of entry) (choice records a)) can.numbers (rows-fit sites (reads_of entry) reads-in-range (choice records a))))

map-itself : {X : Type 0} (xs : List X) → map (λ x. x) xs ≡ xs
map-itself [] = refl
map-itself (x ∷ xs) = ap (λ rest. x ∷ rest) (map-itself xs)

pub writes-in-range : (sites : ℕ) (entry : Entry) (records : List Record) (items : List ℕ) → AreItemsInRange items → ((item : ℕ) → IsPolyvalueWithin sites (new_value records entry item))
    → AreReadsWithin sites 0 (writes_to records entry items)
writes-in-range sites entry records items are values = record {
  enough = omega arith;
  items = subst AreItemsInRange (sym (map-map (λ (read : Read). read.item) (λ item. record { item = item; cases = new_value records entry item }) items ∙ map-itself items)) are;
  values = All-map (λ (read : Read). IsPolyvalueWithin sites read.cases) (λ item. record { item = item; cases = new_value records entry item }) items
      (all-from (λ item. IsPolyvalueWithin sites (new_value records entry item)) items (λ item h. values item));
}

-- What a site sends.

module _ (sites : ℕ) (here : Here) (sound : IsHereInRange sites here) where
  pub me-in-range : here.me < sites
  me-in-range = omega (arith, sound.me, sound.bound)

  pub shown-here : (item : ℕ) → IsTrue (is_home here.setup.catalog here.me item) → IsPolyvalueWithin sites (shown here.setup.catalog here.records item)
  shown-here item home =
      shown-in-range sites here.setup.catalog sound.setup.values here.records here.records sound.records item
      (omega (arith, narrow-now here.setup.held_names here.setup.catalog here.me here.records sound.narrow item home, sound.setup.held))

  pub values-in-range : (wants : List Want) → AreWantsInRange wants → All (λ (want : Want). IsTrue (is_home here.setup.catalog here.me want.item)) wants
      → AreReadsWithin sites 1 (values_of here wants)
  values-in-range wants are homes = record {
    enough = omega (arith, are.enough, length-map {B = Read} wants (λ (want : Want). record { item = want.item; cases = shown here.setup.catalog here.records want.item }));
    items = subst AreItemsInRange (sym (map-map (λ (read : Read). read.item) (λ (want : Want). record { item = want.item; cases = shown here.setup.catalog here.records want.item }) wants)) are.items;
    values = All-map (λ (read : Read). IsPolyvalueWithin sites read.cases) (λ (want : Want). record { item = want.item; cases = shown here.setup.catalog here.records want.item }) wants
        (all-from (λ (want : Want). IsPolyvalueWithin sites (shown here.setup.catalog here.records want.item)) wants
        (λ want h. shown-here want.item (All-contains (λ (w : Want). IsTrue (is_home here.setup.catalog here.me w.item)) wants want homes h)));
  }

  pub participant-in-range : (entry : Entry) → CanRun here.setup.catalog entry.program → (site : ℕ) → Contains (participants here entry) site
      → (site < sites) × AreWantsInRange (asked_of here entry site)
  participant-in-range entry can site h =
      let is = part-in-range here.setup.catalog entry.program sound.setup.items can site h sound.setup.homes in (omega (arith, is.0, sound.bound), is.1)

  pub outcome-in-range : (txn : TxnId) → IsTxnWithin sites txn → (commits : Bool) (receivers : List ℕ) → ((site : ℕ) → Contains receivers site → site < sites)
      → All (IsSentInRange sites here) (outcome_sends txn commits receivers)
  outcome-in-range txn is commits receivers each =
      All-map (IsSentInRange sites here) (λ site. record { to = site; message = Message.outcome_reported txn commits }) receivers
      (all-from (λ site. IsSentInRange sites here (record { to = site; message = Message.outcome_reported txn commits })) receivers
      (λ site h. record { from = me-in-range; to = each site h; txn = is; body = tt }))

  pub one-in-range : (to : ℕ) (message : Message) → IsSentInRange sites here (record { to = to; message = message }) → All (IsSentInRange sites here) (record { to = to; message = message } ∷ [])
  one-in-range to message is = All-cons (IsSentInRange sites here) (record { to = to; message = message }) [] is (All-nil (IsSentInRange sites here))

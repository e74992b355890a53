-- Each number in what an event prints is within its type, in a world that is in range.
use Rattle.std.proofs.Common.{◌≡◌, ◌∙◌, ℕ, suc, ◌+◌, ◌*◌, ◌<◌, ◌≤◌, ◌^◌, ℤ, pos, true, Some, None, Option, All, List, [], ◌∷◌, ◌++◌, filter, length, map, refl, sym, ap, subst, arith, length-append}
use lib.IntN.{negsuc}
use Rattle.std.specs.Prelude.{◌==◌, not, nat_lt, slice_get, unsigned_abs, ◌+ℤ◌, IsTrue}
use Rattle.std.specs.Int.{w64}
use Rattle.std.specs.Int.RustNames.{FitsSigned}
use Rattle.std.specs.List.{flat_map, list_any}
use Rattle.std.specs.Ordering.{int_eq}
use Rattle.std.proofs.lemmas.Bool.Decides.{nat_tests}
use Rattle.std.proofs.lemmas.Int.{ints}
use Rattle.std.proofs.lemmas.List.Elements.{All-append, All-cons, All-contains, All-filter, All-map, All-nil}
use Rattle.pv_audit.specs.Printed.{AreCases, IsCase, IsSite, IsSum, IsTxn, IsWithin}
use Rattle.pv_base.specs.Assignment.{assignments}
use Rattle.pv_base.specs.Catalog.{Item}
use Rattle.pv_base.specs.Named.{names_of}
use Rattle.pv_base.specs.Polyvalue.{Case}
use Rattle.pv_base.specs.declared.limits.TheConstants.{HELD_NAMES, MAX_ITEMS}
use Rattle.pv_base.specs.declared.literal.Literal.{Literal}
use Rattle.pv_base.specs.declared.txn.TxnId.{TxnId}
use Rattle.pv_format.specs.Message.{Envelope, txn_of}
use Rattle.pv_format.specs.Range.{IsCaseWithin, IsEnvelopeWithin, IsPolyvalueWithin, IsTxnWithin}
use Rattle.pv_law_step.proofs.FitLemmas.{small}
use Rattle.pv_law_step.proofs.Lists.{OfSome, all-from, all-head, all-tail}
use Rattle.pv_law_step.proofs.SoundLemmas.{shown-here}
use Rattle.pv_law_step.proofs.StepCases.{if_case}
use Rattle.pv_law_step.proofs.ValueRanges.{number-fits}
use Rattle.pv_law_traces.proofs.NameCounts.{names-of-all, polyvalue-names}
use Rattle.pv_law_world.proofs.RangeLemmas.{up-within}
use Rattle.pv_law_world.specs.Ranges.{IsSiteInRange, IsWorldInRange}
use Rattle.pv_model.specs.Alternatives.{number_at}
use Rattle.pv_model.specs.PossibleAnswers.{sum_at, sums, without_repeats}
use Rattle.pv_protocol.specs.Committed.{holder_of, is_committed, is_open, wants_alone}
use Rattle.pv_protocol.specs.Here.{Here}
use Rattle.pv_protocol.specs.Lines.{Line, kind_of}
use Rattle.pv_protocol.specs.Lock.{is_home, is_of_site}
use Rattle.pv_protocol.specs.Report.{Reading, cases, locked, down, item_line, item_lines, reading_at, reading_of, readings, readings_from, report_of, sent_from, sent_lines, shown_unless_held, total_from, total_of, txns_in_order}
use Rattle.pv_protocol.specs.Shown.{shown}
use Rattle.pv_protocol.specs.Sound.{IsHeldInRange, IsHereInRange, IsSetupInRange}
use Rattle.pv_protocol.specs.State.{Grant, Placed, Running, Setup}
use Rattle.pv_protocol.specs.World.{World, site_at}

eqb-same : (n : ℕ) → (n == n) ≡ true
eqb-same n = grind (arith, nat_tests)

-- ---- values

-- A sum is no further from 0 than its parts together.
abs-sum : (x y : ℤ) → unsigned_abs (x +ℤ y) ≤ unsigned_abs x + unsigned_abs y
abs-sum (pos n) (pos m) = omega (arith, ints)
abs-sum (pos n) (negsuc m) = omega (arith, ints)
abs-sum (negsuc n) (pos m) = omega (arith, ints)
abs-sum (negsuc n) (negsuc m) = omega (arith, ints)

abs-fits : (z : ℤ) → FitsSigned w64 z → unsigned_abs z ≤ 2 ^ 63
abs-fits (pos n) fits = omega (arith, ints, fits)
abs-fits (negsuc n) fits = omega (arith, ints, fits)

sum-is : (z : ℤ) → unsigned_abs z ≤ 2 ^ 126 → IsSum z
sum-is (pos n) small = omega (arith, ints, small)
sum-is (negsuc n) small = omega (arith, ints, small)

module _ (setup : Setup) (setup_fine : IsSetupInRange setup) where
  abbrev sites : ℕ
  sites = setup.catalog.sites

  pub site-is : (n : ℕ) → n < sites → IsSite n
  site-is n below = omega (arith, below, setup_fine.sites)

  txn-is : (t : TxnId) → IsTxnWithin sites t → IsTxn t
  txn-is t is = record { site = site-is t.site.0 is.site; epoch = is.epoch; number = is.number }

  pub one : (line : Line) → IsWithin line → All IsWithin (line ∷ [])
  one line is = All-cons IsWithin line [] is (All-nil IsWithin)

  -- The cases of a polyvalue in range are printed ones.
  cases-are : (value : List (Case ℤ)) → IsPolyvalueWithin sites value → AreCases value
  cases-are value is = record {
    polyvalue = is.polyvalue;
    each = all-from IsCase value (λ case h.
        let fine = All-contains (IsCaseWithin sites) value case is.each h in
        record {
          value = sym (small case.value fine.value);
          txns = all-from (λ (literal : Literal). IsTxn literal.txn) case.when (λ literal k.
              txn-is literal.txn (All-contains (λ (l : Literal). IsTxnWithin sites l.txn) case.when literal fine.literals k));
        });
  }

  -- ---- totals

  abbrev AreValues : List (List (Case ℤ)) → Type 0
  AreValues values = All (IsPolyvalueWithin sites) values

  sum-small : (values : List (List (Case ℤ))) → AreValues values → (a : List TxnId) → unsigned_abs (sum_at values a) ≤ 2 ^ 63 * length values
  sum-small [] are a = omega (arith, ints)
  sum-small (value ∷ values) are a =
      let first = abs-fits (number_at value a) (number-fits sites value (all-head (IsPolyvalueWithin sites) value values are).each a) in
      let rest = sum-small values (all-tail (IsPolyvalueWithin sites) value values are) a in
      let both = abs-sum (number_at value a) (sum_at values a) in
      omega (arith, first, rest, both)

  once-are : (sums : List ℤ) → All IsSum sums → All IsSum (without_repeats int_eq sums)
  once-are [] all = all
  once-are (sum ∷ sums) all =
      All-cons IsSum sum _ (all-head IsSum sum sums all)
      (All-filter (λ other. not (int_eq sum other)) IsSum (without_repeats int_eq sums) (once-are sums (all-tail IsSum sum sums all)))

  sums-are : (values : List (List (Case ℤ))) (names : List TxnId) → AreValues values → length values ≤ MAX_ITEMS → All IsSum (sums values names)
  sums-are values names are few =
      once-are (map (sum_at values) (assignments names))
      (All-map IsSum (sum_at values) (assignments names)
      (all-from (λ (a : List TxnId). IsSum (sum_at values a)) (assignments names) (λ a h.
      sum-is (sum_at values a) (let small = sum-small values are a in omega (arith, small, few)))))

  total-is : (limit : ℕ) (values : List (List (Case ℤ))) → AreValues values → length values ≤ MAX_ITEMS → IsWithin (total_from limit values 0 [])
  total-is limit values are few =
      let names = names_of (flat_map (λ value. value) values) in
      let each = all-from (λ (value : List (Case ℤ)). length (names_of value) ≤ HELD_NAMES) values
      (λ value h. polyvalue-names HELD_NAMES value (All-contains (IsPolyvalueWithin sites) values value are h).polyvalue) in
      let count = names-of-all (λ (value : List (Case ℤ)). value) HELD_NAMES values each in
      if_case IsWithin (nat_lt limit (length names)) (λ over. omega (arith, count, few)) (λ under. sums-are values names are few)

  -- ---- what can be read

  -- A reading that is in range.
  abbrev IsReading : Reading → Type 0
  IsReading (cases value) = IsPolyvalueWithin sites value
  IsReading (locked holder) = IsTxnWithin sites holder
  IsReading (down site) = site < sites

  item-is : (n : ℕ) (reading : Reading) → IsReading reading → IsWithin (item_line n reading)
  item-is n (cases value) is = cases-are value is
  item-is n (locked holder) is = txn-is holder is
  item-is n (down site) is = tt

  items-are : (n : ℕ) (list : List Reading) → All IsReading list → All IsWithin (item_lines n list)
  items-are n [] are = All-nil IsWithin
  items-are n (reading ∷ list) are =
      All-cons IsWithin (item_line n reading) (item_lines (n + 1) list) (item-is n reading (all-head IsReading reading list are))
      (items-are (n + 1) list (all-tail IsReading reading list are))

  totals-are : (limit : ℕ) (values : List (List (Case ℤ))) (n : ℕ) (list : List Reading) → AreValues values → All IsReading list → length values + length list ≤ MAX_ITEMS
      → IsWithin (total_from limit values n list)
  totals-are limit values n [] are each few = total-is limit values are (omega (arith, few))
  totals-are limit values n (cases value ∷ list) are each few =
      totals-are limit (values ++ value ∷ []) (n + 1) list
      (All-append (IsPolyvalueWithin sites) values (value ∷ []) are
      (All-cons (IsPolyvalueWithin sites) value [] (all-head IsReading (cases value) list each) (All-nil (IsPolyvalueWithin sites))))
      (all-tail IsReading (cases value) list each) (omega (arith, few, length-append values (value ∷ [])))
  totals-are limit values n (locked holder ∷ list) are each few = tt
  totals-are limit values n (down site ∷ list) are each few = site-is site (all-head IsReading (down site) list each)

  -- ---- a world in range

  -- a site of the world that is up
  abbrev pub here_in : World → ℕ → Running → Here
  here_in world n running = record { me = n; setup = setup; records = (site_at world n).records; surplus = 0; running = running }

  module _ (world : World) (fine : IsWorldInRange setup world) where
    pub here-is : (n : ℕ) (running : Running) → (site_at world n).running ≡ Some running → IsHereInRange sites (here_in world n running)
    here-is n running is =
        let within : n < sites = subst (λ (count : ℕ). n < count) fine.count (up-within world.sites n running is) in
        let site : IsSiteInRange setup n (site_at world n) = fine.sites n within in
        record {
          me = within;
          bound = omega arith;
          most = setup_fine.sites;
          setup = setup_fine;
          records = site.records;
          narrow = site.narrow;
          room = site.room;
          running = site.running running is;
        }

    holder-is : (n k : ℕ) (grants : List Grant) → All (IsHeldInRange sites setup.catalog k) grants → OfSome (IsTxnWithin sites) (holder_of grants n)
    holder-is n k [] all = tt
    holder-is n k (grant ∷ grants) all =
        if_case (OfSome (IsTxnWithin sites)) (list_any (wants_alone n) grant.wants) (λ here. (all-head (IsHeldInRange sites setup.catalog k) grant grants all).txn)
        (λ behind. holder-is n k grants (all-tail (IsHeldInRange sites setup.catalog k) grant grants all))

    unless-held : (holder : Option TxnId) (value : List (Case ℤ)) → OfSome (IsTxnWithin sites) holder → IsPolyvalueWithin sites value → IsReading (shown_unless_held holder value)
    unless-held None value held is = is
    unless-held (Some holder) value held is = held

    reading-by : (n : ℕ) (item : Item) → item.site < sites → IsTrue (is_home setup.catalog item.site n) → (running : Option Running) → (site_at world item.site).running ≡ running
        → IsReading (reading_at item.site running n (shown setup.catalog (site_at world item.site).records n))
    reading-by n item below home None is = below
    reading-by n item below home (Some running) is =
        let here = here-is item.site running is in
        unless-held (holder_of running.grants n) _ (holder-is n item.site running.grants here.running.grants)
        (shown-here sites (here_in world item.site running) here n home)

    readings-are : (n : ℕ) (items : List Item) → ((k : ℕ) → slice_get items k ≡ slice_get setup.catalog.items (n + k)) → All (λ (item : Item). item.site < sites) items
        → All IsReading (readings_from setup world n items)
    readings-are n [] same homes = All-nil IsReading
    readings-are n (item ∷ items) same homes =
        let place : n + 0 ≡ n = omega arith in
        let found : slice_get setup.catalog.items n ≡ Some item = ap (slice_get setup.catalog.items) (sym place) ∙ sym (same 0) in
        let home : is_home setup.catalog item.site n ≡ true = ap (is_of_site item.site) found ∙ eqb-same item.site in
        All-cons IsReading (reading_of setup world n item) (readings_from setup world (n + 1) items)
        (reading-by n item (all-head (λ (i : Item). i.site < sites) item items homes) home (site_at world item.site).running refl)
        (readings-are (n + 1) items
        (λ k. let next : n + suc k ≡ (n + 1) + k = omega arith in same (suc k) ∙ ap (slice_get setup.catalog.items) next)
        (all-tail (λ (i : Item). i.site < sites) item items homes))

    all-readings : All IsReading (readings setup world)
    all-readings = readings-are 0 setup.catalog.items (λ k. let same : k ≡ 0 + k = omega arith in ap (slice_get setup.catalog.items) same) setup_fine.homes

    readings-count : (n : ℕ) (items : List Item) → length (readings_from setup world n items) ≡ length items
    readings-count n [] = refl
    readings-count n (item ∷ items) = ap suc (readings-count (n + 1) items)

    pub total-within : All IsWithin (total_of setup world)
    unfolding total_of
    total-within =
        one (total_from setup.held_names [] 0 (readings setup world))
        (totals-are setup.held_names [] 0 (readings setup world) (All-nil (IsPolyvalueWithin sites)) all-readings
        (omega (arith, readings-count 0 setup.catalog.items, setup_fine.items)))

    -- ---- a report, where each transaction of the order is in range

    txns-are : (order : List Placed) → All (λ (placed : Placed). IsTxnWithin sites placed.txn) order → All IsTxn (txns_in_order order)
    txns-are order all =
        All-map IsTxn (λ (placed : Placed). placed.txn) order
        (all-from (λ (placed : Placed). IsTxn placed.txn) order
        (λ placed h. txn-is placed.txn (All-contains (λ (p : Placed). IsTxnWithin sites p.txn) order placed all h)))

    three-within : (ordered done open_ones : List TxnId) (rest : List Line) → All IsTxn ordered → All IsTxn done → All IsTxn open_ones → All IsWithin rest
        → All IsWithin (Line.order ordered ∷ (Line.committed done ∷ (Line.open_ones open_ones ∷ rest)))
    three-within ordered done open_ones rest first second third are =
        All-cons IsWithin (Line.order ordered) (Line.committed done ∷ (Line.open_ones open_ones ∷ rest)) first
        (All-cons IsWithin (Line.committed done) (Line.open_ones open_ones ∷ rest) second (All-cons IsWithin (Line.open_ones open_ones) rest third are))

    pub report-within : All (λ (placed : Placed). IsTxnWithin sites placed.txn) world.order → All IsWithin (report_of setup world)
    unfolding report_of
    report-within ordered =
        let done = filter (λ (placed : Placed). is_committed world placed.txn) world.order in
        let left = filter (is_open world) world.order in
        let items = item_lines 0 (readings setup world) in
        three-within (txns_in_order world.order) (txns_in_order done) (txns_in_order left) (items ++ Line.end ∷ [])
        (txns-are world.order ordered)
        (txns-are done (All-filter (λ (placed : Placed). is_committed world placed.txn) (λ (placed : Placed). IsTxnWithin sites placed.txn) world.order ordered))
        (txns-are left (All-filter (is_open world) (λ (placed : Placed). IsTxnWithin sites placed.txn) world.order ordered))
        (All-append IsWithin items (Line.end ∷ []) (items-are 0 (readings setup world) all-readings) (one Line.end tt))

    -- ---- the messages, where they are few

    sent-are : (n : ℕ) (sent : List Envelope) → All (IsEnvelopeWithin sites) sent → n + length sent ≤ 2 ^ 64 → All IsWithin (sent_from n sent)
    sent-are n [] all few = All-nil IsWithin
    sent-are n (envelope ∷ sent) all few =
        let is = all-head (IsEnvelopeWithin sites) envelope sent all in
        All-cons IsWithin (Line.sent n envelope.from envelope.to (kind_of envelope.message) (txn_of envelope.message)) (sent_from (n + 1) sent)
        (omega (arith, few), site-is envelope.from is.from, site-is envelope.to is.to, txn-is (txn_of envelope.message) is.txn)
        (sent-are (n + 1) sent (all-tail (IsEnvelopeWithin sites) envelope sent all) (omega (arith, few)))

    pub messages-within : length world.sent ≤ 2 ^ 64 → All IsWithin (sent_lines world)
    unfolding sent_lines
    messages-within few = sent-are 0 world.sent fine.sent (omega (arith, few))

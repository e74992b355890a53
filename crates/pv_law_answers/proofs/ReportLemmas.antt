-- What a report prints of an item has the serial value.
use Rattle.std.proofs.Common.{◌≡◌, ⊎_elim, ℕ, ℤ, zero, suc, ◌+◌, true, Some, None, Option, List, [], ◌∷◌, ◌++◌, filter, refl, sym, ap, subst, ◌∙◌, arith}
use Rattle.std.specs.Prelude.{slice_get, is_none}
use Rattle.std.specs.List.{Contains}
use Rattle.std.proofs.lemmas.List.Elements.{All-contains, Contains-append_cases, Contains-append_left}
use Rattle.std.proofs.lemmas.Bool.{false≢true}
use Rattle.pv_base.proofs.Basics.{Some_inj}
use Rattle.pv_base.proofs.ContainsLemmas.{Contains-first, Contains-behind, Contains-nil, Contains-cases}
use Rattle.pv_base.specs.Catalog.{Item}
use Rattle.pv_base.specs.Polyvalue.{Case, value_at}
use Rattle.pv_base.specs.declared.txn.TxnId.{TxnId}
use Rattle.pv_law_acts.specs.Seen.{records_at, memory_at}
use Rattle.pv_law_answers.proofs.RunLemmas.{follows-there, is-transition, worlds-agree, there}
use Rattle.pv_law_answers.specs.Reported.{ReportsShowEachReadable, ReportsShowSerialValues}
use Rattle.pv_law_events.specs.Reached.{AreReached}
use Rattle.pv_law_step.proofs.ShownLemmas.{shown-value}
use Rattle.pv_law_world.proofs.DisarmLemmas.{site-disarmed}
use Rattle.pv_law_world.specs.Transitions.{AreTransitions}
use Rattle.pv_model.specs.Events.{Event, report}
use Rattle.pv_model.specs.Meaning.{value_in}
use Rattle.pv_protocol.specs.Agreement.{Agrees}
use Rattle.pv_protocol.specs.Anywhere as anywhere
use Rattle.pv_protocol.specs.Anywhere.{MayCome, MayFollow, IsRunWithFaults, disarmed}
use Rattle.pv_protocol.specs.Attempt.{at_once, begun}
use Rattle.pv_protocol.specs.Committed.{Fits, is_committed, is_open, is_readable, holder_of, serial_rows}
use Rattle.pv_protocol.specs.Lines.{Line}
use Rattle.pv_protocol.specs.Places.{Place, world_before}
use Rattle.pv_protocol.specs.Report.{Reading, cases, locked, down, item_line, item_lines, reading_at, reading_of, readings_from, shown_unless_held, report_of, txns_in_order}
use Rattle.pv_protocol.specs.Run.{worlds_of}
use Rattle.pv_protocol.specs.Shown.{shown, item_value}
use Rattle.pv_protocol.specs.State.{Setup, Running, Site}
use Rattle.pv_protocol.specs.World.{World, opening}
use Rattle.pv_protocol.specs.WorldStep.{Transition, transition_of}

-- A line of an item's cases is of the item that can be read with them.
of-cases : (k : ℕ) (reading : Reading) (n : ℕ) (value : List (Case ℤ)) → item_line k reading ≡ Line.item n value → (k ≡ n) × (reading ≡ cases value)
of-cases k (cases other) n value is = let same : other ≡ value = cc in (let own : k ≡ n = cc in own, ap cases same)
of-cases k (locked holder) n value is = absurd (let wrong : ⊥ = cc in wrong)
of-cases k (down site) n value is = absurd (let wrong : ⊥ = cc in wrong)

-- An item that can be read isn't held, and shows these cases.

unheld : (holder : Option TxnId) (value reported : List (Case ℤ)) → shown_unless_held holder value ≡ cases reported → (is_none holder ≡ true) × (value ≡ reported)
unheld None value reported is = (refl, let same : value ≡ reported = cc in same)
unheld (Some holder) value reported is = absurd (let wrong : ⊥ = cc in wrong)

readable-with : (site : ℕ) (memory : Option Running) (n : ℕ) (value reported : List (Case ℤ)) → reading_at site memory n value ≡ cases reported → (is_readable memory n ≡ true) × (value ≡ reported)
readable-with site None n value reported is = absurd (let wrong : ⊥ = cc in wrong)
readable-with site (Some running) n value reported is = unheld (holder_of running.grants n) value reported is

-- An item's line stands behind the three on transactions.

behind-first : (first : Line) (rest : List Line) (line : Line) → (first ≡ line → ⊥) → Contains (first ∷ rest) line → Contains rest line
behind-first first rest line other h = ⊎_elim (λ same. absurd (other same)) (λ behind. behind) (Contains-cases first rest line h)

behind-three : (ordered done open_ones : List TxnId) (rest : List Line) (n : ℕ) (value : List (Case ℤ))
    → Contains (Line.order ordered ∷ (Line.committed done ∷ (Line.open_ones open_ones ∷ rest))) (Line.item n value) → Contains rest (Line.item n value)
behind-three ordered done open_ones rest n value h =
    behind-first (Line.open_ones open_ones) rest (Line.item n value) (λ (same : Line.open_ones open_ones ≡ Line.item n value). let wrong : ⊥ = cc in wrong)
    (behind-first (Line.committed done) (Line.open_ones open_ones ∷ rest) (Line.item n value) (λ (same : Line.committed done ≡ Line.item n value). let wrong : ⊥ = cc in wrong)
    (behind-first (Line.order ordered) (Line.committed done ∷ (Line.open_ones open_ones ∷ rest)) (Line.item n value) (λ (same : Line.order ordered ≡ Line.item n value). let wrong : ⊥ = cc in wrong) h))

under-three : (ordered done open_ones : List TxnId) (rest : List Line) (line : Line) → Contains rest line
    → Contains (Line.order ordered ∷ (Line.committed done ∷ (Line.open_ones open_ones ∷ rest))) line
under-three ordered done open_ones rest line h =
    Contains-behind (Line.order ordered) (Line.committed done ∷ (Line.open_ones open_ones ∷ rest)) line
    (Contains-behind (Line.committed done) (Line.open_ones open_ones ∷ rest) line (Contains-behind (Line.open_ones open_ones) rest line h))

-- What can be read isn't held.
shown-readable : (site : ℕ) (memory : Option Running) (n : ℕ) (value : List (Case ℤ)) → is_readable memory n ≡ true → reading_at site memory n value ≡ cases value
shown-readable site None n value is = absurd (false≢true is)
shown-readable site (Some running) n value is = by (holder_of running.grants n) is where
  by : (holder : Option TxnId) → is_none holder ≡ true → shown_unless_held holder value ≡ cases value
  by None none = refl
  by (Some holder) none = absurd (false≢true none)

module _ (setup : Setup) (world : World) where
  -- The item is declared, and can be read with these cases.
  record IsRead (items : List Item) (i n : ℕ) (value : List (Case ℤ)) : Type 0 where
    item : Item
    declared : slice_get items i ≡ Some item
    read : reading_of setup world n item ≡ cases value

  read-in : (items : List Item) (k n : ℕ) (value : List (Case ℤ)) → Contains (item_lines k (readings_from setup world k items)) (Line.item n value)
      → (i : ℕ) × ((k + i ≡ n) × IsRead items i n value)
  read-in [] k n value h = absurd (Contains-nil (Line.item n value) h)
  read-in (item ∷ items) k n value h =
      ⊎_elim
      (λ here.
      let is = of-cases k (reading_of setup world k item) n value here in
      (0, (let own : k ≡ n = is.0 in omega (arith, own), record { item = item; declared = refl; read = subst (λ m. reading_of setup world m item ≡ cases value) is.0 is.1 })))
      (λ behind.
      let rest = read-in items (k + 1) n value behind in
      let own : (k + 1) + rest.0 ≡ n = rest.1.0 in
      (suc rest.0, (omega (arith, own), record { item = rest.1.1.item; declared = rest.1.1.declared; read = rest.1.1.read })))
      (Contains-cases (item_line k (reading_of setup world k item)) (item_lines (k + 1) (readings_from setup world (k + 1) items)) (Line.item n value) h)

  -- A report's line of an item.
  report-read : (n : ℕ) (value : List (Case ℤ)) → Contains (report_of setup world) (Line.item n value) → IsRead setup.catalog.items n n value
  unfolding report_of
  report-read n value h =
      let lines = item_lines 0 (readings_from setup world 0 setup.catalog.items) in
      let items = behind-three _ _ _ (lines ++ Line.end ∷ []) n value h in
      let within = ⊎_elim (λ front. front)
      (λ last. absurd (Contains-nil (Line.item n value) (behind-first Line.end [] (Line.item n value) (λ (same : Line.end ≡ Line.item n value). let wrong : ⊥ = cc in wrong) last)))
      (Contains-append_cases lines (Line.end ∷ []) (Line.item n value) items) in
      let found = read-in setup.catalog.items 0 n value within in
      let from_first : 0 + found.0 ≡ n = found.1.0 in
      let own : found.0 ≡ n = omega (arith, from_first) in
      subst (λ i. IsRead setup.catalog.items i n value) own found.1.1

  -- The line of an item stands in the report.

  written-in : (items : List Item) (k i : ℕ) (item : Item) → slice_get items i ≡ Some item
      → Contains (item_lines k (readings_from setup world k items)) (item_line (k + i) (reading_of setup world (k + i) item))
  written-in [] k i item is = absurd (let wrong : ⊥ = cc in wrong)
  written-in (first ∷ items) k zero item is =
      let lines = item_lines k (readings_from setup world k (first ∷ items)) in
      let own : k ≡ k + 0 = omega arith in
      subst (λ m. Contains lines (item_line m (reading_of setup world m item))) own
      (subst (λ x. Contains lines (item_line k (reading_of setup world k x))) (Some_inj is)
      (Contains-first (item_line k (reading_of setup world k first)) (item_lines (k + 1) (readings_from setup world (k + 1) items))))
  written-in (first ∷ items) k (suc i) item is =
      let more = item_lines (k + 1) (readings_from setup world (k + 1) items) in
      let own : (k + 1) + i ≡ k + suc i = omega arith in
      Contains-behind (item_line k (reading_of setup world k first)) more (item_line (k + suc i) (reading_of setup world (k + suc i) item))
      (subst (λ m. Contains more (item_line m (reading_of setup world m item))) own (written-in items (k + 1) i item is))

  pub report-written : (n : ℕ) (item : Item) → slice_get setup.catalog.items n ≡ Some item → is_readable (memory_at world item.site) n ≡ true
      → Contains (report_of setup world) (Line.item n (shown setup.catalog (records_at world item.site) n))
  unfolding report_of
  report-written n item is readable =
      let lines = item_lines 0 (readings_from setup world 0 setup.catalog.items) in
      let value = shown setup.catalog (records_at world item.site) n in
      let own : 0 + n ≡ n = omega arith in
      let line : Contains lines (Line.item n value) =
      subst (λ reading. Contains lines (item_line n reading)) (shown-readable item.site (memory_at world item.site) n value readable)
      (subst (λ m. Contains lines (item_line m (reading_of setup world m item))) own (written-in setup.catalog.items 0 n item is)) in
      under-three (txns_in_order world.order) (txns_in_order (filter (λ placed. is_committed world placed.txn) world.order)) (txns_in_order (filter (is_open world) world.order))
      (lines ++ Line.end ∷ []) (Line.item n value) (Contains-append_left lines (Line.end ∷ []) (Line.item n value) line)

  -- And where the world after it has its sites as they were.
  pub report-shows : (after : World) → ((n : ℕ) → records_at after n ≡ records_at world n) → ((n : ℕ) → memory_at after n ≡ memory_at world n)
      → (n : ℕ) (item : Item) → slice_get setup.catalog.items n ≡ Some item → is_readable (memory_at after item.site) n ≡ true
      → Contains (report_of setup world) (Line.item n (shown setup.catalog (records_at after item.site) n))
  report-shows after records memories n item is readable =
      subst (λ rs. Contains (report_of setup world) (Line.item n (shown setup.catalog rs n))) (sym (records item.site))
      (report-written n item is (subst (λ (memory : Option Running). is_readable memory n ≡ true) (memories item.site) readable))

  -- What is printed has the serial value, where the world after it agrees and its sites are as they were.
  pub report-serial : (after : World) → ((n : ℕ) → records_at after n ≡ records_at world n) → ((n : ℕ) → memory_at after n ≡ memory_at world n) → Agrees setup after
      → (n : ℕ) (value : List (Case ℤ)) → Contains (report_of setup world) (Line.item n value) → (a : List TxnId) → Fits after a
      → value_at value a ≡ Some (value_in (serial_rows setup after a) n)
  report-serial after records memories agree n value listed a fits =
      let read = report-read n value listed in
      let site = read.item.site in
      let shows = readable-with site (memory_at world site) n (shown setup.catalog (records_at world site) n) value read.read in
      let serial = agree a fits n read.item read.declared (subst (λ (memory : Option Running). is_readable memory n ≡ true) (sym (memories site)) shows.0) in
      ap (λ v. value_at v a) (sym shows.1)
      ∙ shown-value setup.catalog (records_at world site) (records_at world site) n a
      ∙ ap (λ rs. Some (item_value setup.catalog rs n a)) (sym (records site))
      ∙ ap (λ (v : ℤ). Some v) serial

-- A report's transition prints the report, and changes nothing.

once-come : (reported : List Line) (left : World) (lines : List Line) (after : World) → MayCome (at_once reported left) lines after → (lines ≡ reported) × (after ≡ left)
once-come reported left lines after (anywhere.without_attempt lines' after') = (refl, refl)

any-report : (setup : Setup) (now : World) (event : Event) (lines : List Line) (left : World) → MayCome (begun setup now event) lines left → event ≡ report → (lines ≡ report_of setup now) × (left ≡ now)
unfolding begun
any-report setup now event lines left comes is = once-come (report_of setup now) now lines left (subst (λ e. MayCome (begun setup now e) lines left) is comes)

run-report : (setup : Setup) (now : World) (t : Transition) → t ≡ transition_of setup now t.event → t.event ≡ report → (t.lines ≡ report_of setup now) × (t.world ≡ now)
unfolding transition_of begun
run-report setup now t is event =
    let same : t ≡ transition_of setup now report = is ∙ ap (transition_of setup now) event in (ap (λ (u : Transition). u.lines) same, ap (λ (u : Transition). u.world) same)

module _ (setup : Setup) (all : List Transition) (reached : AreReached setup (worlds_of (opening setup) all)) where
  agrees-after : (place : Place all) → Agrees setup place.transition.world
  agrees-after place =
      All-contains (Agrees setup) (worlds_of (opening setup) all) place.transition.world (worlds-agree setup (worlds_of (opening setup) all) reached) (there setup all reached place).after

  -- A report's transition prints the report of a world with the same sites.
  record IsReportOf (now : World) (t : Transition) : Type 0 where
    lines : t.lines ≡ report_of setup now
    records : (n : ℕ) → records_at t.world n ≡ records_at now n
    memories : (n : ℕ) → memory_at t.world n ≡ memory_at now n

  any-there : IsRunWithFaults setup (opening setup) all → (place : Place all) → place.transition.event ≡ report → IsReportOf (world_before (opening setup) place) place.transition
  any-there run place is =
      let now = world_before (opening setup) place in
      let follows : MayFollow setup now place.transition = follows-there setup (opening setup) place.earlier place.transition place.later (subst (IsRunWithFaults setup (opening setup)) place.split run) in
      let came = any-report setup now place.transition.event place.transition.lines follows.left follows.comes is in
      let after : place.transition.world ≡ disarmed now = follows.after ∙ ap disarmed came.1 in
      record {
        lines = came.0;
        records = λ m. ap (λ w. records_at w m) after ∙ ap (λ (s : Site). s.records) (site-disarmed now m);
        memories = λ m. ap (λ w. memory_at w m) after ∙ ap (λ (s : Site). s.running) (site-disarmed now m);
      }

  run-there : AreTransitions setup (opening setup) all → (place : Place all) → place.transition.event ≡ report → IsReportOf (world_before (opening setup) place) place.transition
  run-there are place is =
      let now = world_before (opening setup) place in
      let came = run-report setup now place.transition (is-transition setup (opening setup) place.earlier place.transition place.later (subst (AreTransitions setup (opening setup)) place.split are)) is in
      record { lines = came.0; records = λ m. ap (λ w. records_at w m) came.1; memories = λ m. ap (λ w. memory_at w m) came.1 }

  serial-there : (place : Place all) → IsReportOf (world_before (opening setup) place) place.transition → (n : ℕ) (value : List (Case ℤ)) → Contains place.transition.lines (Line.item n value)
      → (a : List TxnId) → Fits place.transition.world a → value_at value a ≡ Some (value_in (serial_rows setup place.transition.world a) n)
  serial-there place is n value listed a fits =
      report-serial setup (world_before (opening setup) place) place.transition.world is.records is.memories (agrees-after place) n value
      (subst (λ lines. Contains lines (Line.item n value)) is.lines listed) a fits

  shows-there : (place : Place all) → IsReportOf (world_before (opening setup) place) place.transition → (n : ℕ) (item : Item) → slice_get setup.catalog.items n ≡ Some item
      → is_readable (memory_at place.transition.world item.site) n ≡ true → Contains place.transition.lines (Line.item n (shown setup.catalog (records_at place.transition.world item.site) n))
  shows-there place is n item declared readable =
      subst (λ lines. Contains lines (Line.item n (shown setup.catalog (records_at place.transition.world item.site) n))) (sym is.lines)
      (report-shows setup (world_before (opening setup) place) place.transition.world is.records is.memories n item declared readable)

  pub any-reports-serial : IsRunWithFaults setup (opening setup) all → ReportsShowSerialValues setup all
  any-reports-serial run place is = serial-there place (any-there run place is)

  pub run-reports-serial : AreTransitions setup (opening setup) all → ReportsShowSerialValues setup all
  run-reports-serial are place is = serial-there place (run-there are place is)

  pub any-reports-show : IsRunWithFaults setup (opening setup) all → ReportsShowEachReadable setup all
  any-reports-show run place is = shows-there place (any-there run place is)

  pub run-reports-show : AreTransitions setup (opening setup) all → ReportsShowEachReadable setup all
  run-reports-show are place is = shows-there place (run-there are place is)

-- A report of a world is right where its order's transactions are those of requests, each once, and its items have serial values.
use Rattle.std.proofs.Common.{◌≡◌, ⊎_elim, Bool, true, false, ◌||◌, ◌&&◌, not, Option, Some, None, List, [], ◌∷◌, ◌++◌, inr, cond, refl, sym, ap, ap₂, subst, ◌∙◌, filter}
use Rattle.std.specs.Prelude.{All, IsTrue, is_none}
use Rattle.std.specs.List.{Contains, find}
use Rattle.std.proofs.lemmas.Bool.{and_from, both_ways, false≢true, false_from_ne_true, not_from_true, or_cases, or_from, or_left, and_parts}
use Rattle.std.proofs.lemmas.List.Elements.{All-contains, All-head, All-tail, Contains-append_cases, filter_passes}
use Rattle.std.proofs.lemmas.List.Folds.{list_any-append}
use Rattle.pv_audit.specs.Agreement.{AreOpen, LineAgrees, with_committed}
use Rattle.pv_audit.specs.Reports.{Report, is_in, is_misplaced, is_stray, misplaced, or_else, or_nothing, request_of, stands_twice, with_programs}
use Rattle.pv_base.specs.Assignment.{commits, is_same_txn}
use Rattle.pv_base.specs.declared.txn.TxnId.{TxnId}
use Rattle.pv_base.proofs.AssignmentLemmas.{same-from-eq}
use Rattle.pv_base.proofs.ContainsLemmas.{Contains-behind, Contains-first}
use Rattle.pv_base.proofs.MapLemmas.{Contains-map, Contains-unmap}
use Rattle.pv_law_acts.proofs.ListLemmas.{listed-any}
use Rattle.pv_law_answers.specs.Orders.{CommittedFit, committed_in}
use Rattle.pv_law_audits.specs.RightReports.{IsOfRequests, IsRight, ShowSerialValues, told_in}
use Rattle.pv_law_canonical.proofs.FilterLemmas.{kept-listed}
use Rattle.pv_law_polyvalues.proofs.AscendingLemmas.{All-from_members}
use Rattle.pv_law_polyvalues.proofs.TableLemmas.{commits-contained, contained-commits}
use Rattle.pv_model.specs.Meaning.{value_in}
use Rattle.pv_model.specs.Serial.{Ordered, declared_rows, serial}
use Rattle.pv_protocol.specs.Committed.{Fits, is_committed, is_open, programs_of}
use Rattle.pv_protocol.specs.Lines.{Line}
use Rattle.pv_protocol.specs.Report.{txns_in_order}
use Rattle.pv_protocol.specs.State.{Placed, Setup}
use Rattle.pv_protocol.specs.World.{World}

-- Where none passes, none is found.
found-nothing : (p : TxnId → Bool) (txns : List TxnId) → ((t : TxnId) → Contains txns t → p t ≡ false) → find p txns ≡ None
found-nothing p [] none = refl
found-nothing p (t ∷ txns) none =
    ap (λ (b : Bool). cond b (Some t) (find p txns)) (none t (Contains-first t txns)) ∙ found-nothing p txns (λ u there. none u (Contains-behind t txns u there))

-- The programs of the requests are those of the order.
programs-told : (begun : List Ordered) (order : List Placed) → All (λ (placed : Placed). request_of begun placed.txn ≡ Some (record { txn = placed.txn; program = placed.program })) order
    → with_programs begun (txns_in_order order) ≡ programs_of order
programs-told begun [] own = refl
programs-told begun (placed ∷ order) own =
    let P = λ (p : Placed). request_of begun p.txn ≡ Some (record { txn = p.txn; program = p.program }) in
    ap (λ (found : Option Ordered). or_nothing found ++ with_programs begun (txns_in_order order)) (All-head P placed order own)
    ∙ ap (λ (rest : List Ordered). record { txn = placed.txn; program = placed.program } ∷ rest) (programs-told begun order (All-tail P placed order own))

module _ (setup : Setup) (world : World) (begun : List Ordered) (items : List Line) (of : IsOfRequests begun world.order) (fit : CommittedFit world)
    (shown : ShowSerialValues setup world items) where
  in-order : (keeps : Placed → Bool) (t : TxnId) → Contains (txns_in_order (filter keeps world.order)) t
      → (placed : Placed) × (Contains world.order placed × ((keeps placed ≡ true) × (placed.txn ≡ t)))
  in-order keeps t there =
      let found = Contains-unmap (λ (p : Placed). p.txn) (filter keeps world.order) t there in
      (found.0, (kept-listed keeps world.order found.0 found.1.0, (All-contains (λ (p : Placed). keeps p ≡ true) (filter keeps world.order) found.0 (filter_passes keeps world.order) found.1.0, found.1.1)))

  committed-is : (t : TxnId) → is_in (committed_in world) t ≡ true → is_committed world t ≡ true
  committed-is t is =
      let at = in-order (λ (p : Placed). is_committed world p.txn) t (commits-contained (committed_in world) t is) in
      subst (λ (u : TxnId). is_committed world u ≡ true) at.1.1.1 at.1.1.0

  open-is : (t : TxnId) → is_in (txns_in_order (filter (is_open world) world.order)) t ≡ true → (placed : Placed) × (Contains world.order placed × ((is_open world placed ≡ true) × (placed.txn ≡ t)))
  open-is t is = in-order (is_open world) t (commits-contained (txns_in_order (filter (is_open world) world.order)) t is)

  in-ordered : (placed : Placed) (t : TxnId) → Contains world.order placed → placed.txn ≡ t → is_in (txns_in_order world.order) t ≡ true
  in-ordered placed t there same =
      contained-commits (txns_in_order world.order) t (subst (Contains (txns_in_order world.order)) same (Contains-map (λ (p : Placed). p.txn) world.order placed there))

  abbrev told : Report
  told = told_in world begun items

  -- Each transaction of the order has its place.
  none-misplaced : (t : TxnId) → Contains (txns_in_order world.order) t → is_misplaced told t ≡ false
  none-misplaced t there =
      let found = Contains-unmap (λ (p : Placed). p.txn) world.order t there in
      let once = All-contains (λ (p : Placed). stands_twice (txns_in_order world.order) p.txn ≡ false) world.order found.0 of.once found.1.0 in
      let own = All-contains (λ (p : Placed). request_of begun p.txn ≡ Some (record { txn = p.txn; program = p.program })) world.order found.0 of.own found.1.0 in
      or_from (stands_twice (txns_in_order world.order) t) (is_none (request_of begun t))
      (subst (λ (u : TxnId). stands_twice (txns_in_order world.order) u ≡ false) found.1.1 once)
      (subst (λ (u : TxnId). is_none (request_of begun u) ≡ false) found.1.1 (ap is_none own))

  -- No committed or open one is astray.
  not-both : (t : TxnId) → (is_in told.committed t && is_in told.open_ones t) ≡ false
  not-both t =
      false_from_ne_true (is_in told.committed t && is_in told.open_ones t)
      (λ both.
      let parts = and_parts (is_in told.committed t) (is_in told.open_ones t) both in
      let at = open-is t parts.1 in
      let out = (and_parts (not (is_committed world at.0.txn)) _ at.1.1.0).0 in
      both_ways _ (not-is (is_committed world at.0.txn) out) (subst (λ (u : TxnId). is_committed world u ≡ true) (sym at.1.1.1) (committed-is t parts.0)))
    where
      not-is : (b : Bool) → not b ≡ true → b ≡ false
      not-is true h = absurd (false≢true h)
      not-is false h = refl

  none-astray : (t : TxnId) → Contains (told.committed ++ told.open_ones) t → is_stray told t ≡ false
  none-astray t there =
      or_from (not (is_in told.ordered t)) (is_in told.committed t && is_in told.open_ones t)
      (not_from_true (is_in told.ordered t)
      (⊎_elim
      (λ committed. (let at = in-order (λ (p : Placed). is_committed world p.txn) t committed in in-ordered at.0 t at.1.0 at.1.1.1))
      (λ among. (let at = in-order (is_open world) t among in in-ordered at.0 t at.1.0 at.1.1.1))
      (Contains-append_cases told.committed told.open_ones t there)))
      (not-both t)

  world-placed : misplaced told ≡ None
  world-placed =
      ap₂ or_else (found-nothing (is_misplaced told) told.ordered none-misplaced) (found-nothing (is_stray told) (told.committed ++ told.open_ones) none-astray)

  -- The assignment of the committed transactions and some of the open ones fits.
  fits : (txns : List TxnId) → AreOpen told txns → Fits world (with_committed told txns)
  fits txns are = record {
    whole = λ t is. both t ∙ or_left (commits told.committed t) (commits txns t) (fit.whole t is);
    only = λ t is.
        ⊎_elim
        (λ committed. fit.only t committed)
        (λ among.
        let at = open-is t (All-contains (λ u. IsTrue (is_in told.open_ones u)) txns t are (commits-contained txns t among)) in
        inr (listed-any (λ placed. is_same_txn placed.txn t && is_open world placed) world.order at.0 at.1.0
        (and_from (is_same_txn at.0.txn t) (is_open world at.0) (same-from-eq at.1.1.1) at.1.1.0)))
        (or_cases (commits told.committed t) (commits txns t) (sym (both t) ∙ is));
  }
    where
      both : (t : TxnId) → commits (with_committed told txns) t ≡ (commits told.committed t || commits txns t)
      both t = list_any-append (λ (u : TxnId). is_same_txn u t) told.committed txns

  -- Each line agrees.
  line-agrees : (txns : List TxnId) → AreOpen told txns → (line : Line) → Contains items line → LineAgrees setup.catalog told txns line
  line-agrees txns are (Line.txn t) there = tt
  line-agrees txns are (Line.commit t replies) there = tt
  line-agrees txns are (Line.refuse t cause) there = tt
  line-agrees txns are (Line.full site long) there = tt
  line-agrees txns are (Line.spent site) there = tt
  line-agrees txns are (Line.down site) there = tt
  line-agrees txns are (Line.up site) there = tt
  line-agrees txns are (Line.stopped site) there = tt
  line-agrees txns are (Line.fault site) there = tt
  line-agrees txns are (Line.started site epoch) there = tt
  line-agrees txns are (Line.no_message n) there = tt
  line-agrees txns are (Line.sent n from to kind t) there = tt
  line-agrees txns are (Line.order list) there = tt
  line-agrees txns are (Line.committed list) there = tt
  line-agrees txns are (Line.open_ones list) there = tt
  line-agrees txns are (Line.item n cases) there =
      shown n cases there (with_committed told txns) (fits txns are)
      ∙ ap (λ (order : List Ordered). Some (value_in (serial (declared_rows setup.catalog) order (with_committed told txns)) n)) (sym (programs-told begun world.order of.own))
  line-agrees txns are (Line.item_locked n t) there = tt
  line-agrees txns are (Line.item_down n) there = tt
  line-agrees txns are Line.end there = tt
  line-agrees txns are (Line.total sums) there = tt
  line-agrees txns are (Line.total_locked n) there = tt
  line-agrees txns are (Line.total_down site) there = tt
  line-agrees txns are (Line.total_limit names) there = tt

  pub world-right : IsRight setup.catalog told
  world-right = record {
    placed = world-placed;
    agrees = λ txns are. All-from_members (LineAgrees setup.catalog told txns) items (line-agrees txns are);
  }

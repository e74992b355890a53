-- In each world of a run what sites work on, and what stands in the order, has the program of the first request that began it.
use Rattle.std.proofs.Common.{◌≡◌, ◌⊎◌, inl, inr, Bool, false, Some, None, Option, List, [], ◌∷◌, ◌++◌, append_assoc, refl, sym, ap, ap₂, subst, ◌∙◌}
use Rattle.std.specs.Prelude.{All, ⊤, if◌then◌else◌}
use Rattle.std.specs.List.{Contains}
use Rattle.std.specs.Option.{option_or}
use Rattle.std.proofs.lemmas.List.{append-nil}
use Rattle.std.proofs.lemmas.List.Elements.{All-append, All-cons, All-contains, All-nil, All-weaker}
use Rattle.std.proofs.lemmas.List.Folds.{find-append}
use Rattle.pv_audit.specs.Reports.{begun_by, request_of, stands_twice}
use Rattle.pv_base.proofs.AssignmentLemmas.{same-eq, same-refl}
use Rattle.pv_base.proofs.ContainsLemmas.{Contains-first}
use Rattle.pv_base.specs.Assignment.{is_same_txn}
use Rattle.pv_base.specs.declared.txn.TxnId.{TxnId}
use Rattle.pv_law_acts.proofs.ListLemmas.{found-listed}
use Rattle.pv_law_acts.proofs.PassedLemmas.{passed-later}
use Rattle.pv_law_acts.specs.Acts.{Acts, no_act}
use Rattle.pv_law_acts.specs.Seen.{IsPassed}
use Rattle.pv_law_answers.proofs.TxnNumbers.{IsGiven, any-giving, run-giving}
use Rattle.pv_law_audits.specs.RightReports.{IsOfRequests}
use Rattle.pv_law_events.proofs.EventActs.{IsKnown, then-acts}
use Rattle.pv_law_events.proofs.RunActs.{AreKnown}
use Rattle.pv_law_step.proofs.ProgramSteps.{IsPlaced, Works}
use Rattle.pv_law_outcomes.proofs.DecidedLemmas.{IsSettled, always-settled}
use Rattle.pv_law_requests.proofs.OnceLemmas.{stands-once}
use Rattle.pv_law_requests.proofs.OwnEvents.{AreOwn, BeginsSo, follow-own, opening-own, transition-own}
use Rattle.pv_law_requests.specs.Requests.{OrdersAreOfRequests, begun_in}
use Rattle.pv_law_step.proofs.Appended.{found-passes}
use Rattle.pv_law_step.proofs.Lists.{all-from}
use Rattle.pv_law_world.specs.Transitions as transitions
use Rattle.pv_law_world.specs.Transitions.{AreTransitions}
use Rattle.pv_model.specs.Events.{Event}
use Rattle.pv_model.specs.Serial.{Ordered}
use Rattle.pv_model.specs.Syntax.{Program}
use Rattle.pv_protocol.specs.Anywhere as anywhere
use Rattle.pv_protocol.specs.Anywhere.{IsRunWithFaults, MayFollow}
use Rattle.pv_protocol.specs.Lines.{Line}
use Rattle.pv_protocol.specs.Report.{txns_in_order}
use Rattle.pv_protocol.specs.Run.{world_after}
use Rattle.pv_protocol.specs.State.{Placed, Setup}
use Rattle.pv_protocol.specs.World.{World, opening}
use Rattle.pv_protocol.specs.WorldStep.{Transition, transition_of}

-- The first of these requests that began the transaction has this program.
abbrev IsRequested : List Ordered → TxnId → Program → Type 0
IsRequested begun txn program = request_of begun txn ≡ Some (record { txn = txn; program = program })

module _ (begun more : List Ordered) where
  requested-append : (txn : TxnId) → request_of (begun ++ more) txn ≡ option_or (request_of begun txn) (request_of more txn)
  requested-append txn = find-append (λ (entry : Ordered). is_same_txn entry.txn txn) begun more

  -- A request stays the first one.
  requested-more : (txn : TxnId) (program : Program) → IsRequested begun txn program → IsRequested (begun ++ more) txn program
  requested-more txn program is = requested-append txn ∙ ap (λ (found : Option Ordered). option_or found (request_of more txn)) is

  own-more : (world : World) → AreOwn (IsRequested begun) world → AreOwn (IsRequested (begun ++ more)) world
  own-more world own = record {
    works = λ n running is.
        All-weaker (Works (IsRequested begun)) (Works (IsRequested (begun ++ more))) (λ entry here. requested-more entry.txn entry.program here) running.entries
        (own.works n running is);
    order = All-weaker (IsPlaced (IsRequested begun)) (IsPlaced (IsRequested (begun ++ more))) (λ placed here. requested-more placed.txn placed.program here) world.order own.order;
  }

-- Each of these requests began a transaction whose number is passed.
abbrev ArePassed : World → List Ordered → Type 0
ArePassed world begun = All (λ (entry : Ordered). IsPassed world entry.txn) begun

none-requested : (world : World) (begun : List Ordered) (txn : TxnId) → ArePassed world begun → (IsPassed world txn → ⊥) → request_of begun txn ≡ None
none-requested world begun txn passed new = by (request_of begun txn) refl where
  by : (found : Option Ordered) → request_of begun txn ≡ found → found ≡ None
  by None is = refl
  by (Some entry) is =
      absurd
      (new
      (subst (IsPassed world) (same-eq {t = entry.txn} {u = txn} (found-passes (λ (e : Ordered). is_same_txn e.txn txn) begun entry is))
      (All-contains (λ (e : Ordered). IsPassed world e.txn) begun entry passed (found-listed (λ (e : Ordered). is_same_txn e.txn txn) begun entry is))))

-- What a line says has begun is passed where the number in the line is.
begun-passed : (world : World) (event : Event) (lines : List Line) → ((txn : TxnId) → Contains lines (Line.txn txn) → IsPassed world txn) → ArePassed world (begun_by event lines)
begun-passed world (Event.submit n query text program) (Line.txn txn ∷ []) passed =
    All-cons (λ (entry : Ordered). IsPassed world entry.txn) (record { txn = txn; program = program }) [] (passed txn (Contains-first (Line.txn txn) []))
    (All-nil (λ (entry : Ordered). IsPassed world entry.txn))
begun-passed world event lines passed = All-nil (λ (entry : Ordered). IsPassed world entry.txn)

module _ (setup : Setup) where
  -- What is so of the requests so far and the world behind them.
  record IsBehind (begun : List Ordered) (world : World) : Type 0 where
    own : AreOwn (IsRequested begun) world
    passed : ArePassed world begun

  opening-behind : IsBehind [] (opening setup)
  opening-behind = record { own = opening-own (IsRequested []) setup; passed = All-nil (λ (entry : Ordered). IsPassed (opening setup) entry.txn) }

  -- The transition may come in this world: with armed faults, or with faults anywhere.
  abbrev pub MayGo : World → Transition → Type 0
  MayGo world transition = (transition ≡ transition_of setup world transition.event) ⊎ MayFollow setup world transition

  abbrev pub MayAllGo : World → List Transition → Type 0
  MayAllGo world [] = ⊤
  MayAllGo world (transition ∷ later) = MayGo world transition × MayAllGo transition.world later

  pub run-goes : (world : World) (all : List Transition) → AreTransitions setup world all → MayAllGo world all
  run-goes world [] are = tt
  run-goes world (transition ∷ later) (transitions.one_more world' transition' later' is rest) = (inl is, run-goes transition.world later rest)

  pub any-goes : (world : World) (all : List Transition) → IsRunWithFaults setup world all → MayAllGo world all
  any-goes world [] run = tt
  any-goes world (transition ∷ later) (anywhere.goes_on world' transition' later' follows rest) = (inr follows, any-goes transition.world later rest)

  -- Each number that it prints is new in it, and then passed.
  go-gives : (world : World) (transition : Transition) → IsKnown setup world → MayGo world transition → (txn : TxnId) → Contains transition.lines (Line.txn txn)
      → IsGiven world transition.world txn
  go-gives world transition known (inl is) txn printed =
      run-giving setup world (transition ∷ []) (transitions.one_more world transition [] is (transitions.none transition.world)) [] transition [] refl known txn printed
  go-gives world transition known (inr follows) txn printed =
      any-giving setup world (transition ∷ []) (anywhere.goes_on world transition [] follows (anywhere.ends transition.world)) [] transition [] refl known txn printed

  go-own : (P : TxnId → Program → Type 0) (world : World) (transition : Transition) → MayGo world transition → AreOwn P world → BeginsSo P transition.event transition.lines
      → AreOwn P transition.world
  go-own P world transition (inl is) own begins =
      subst (λ (t : Transition). AreOwn P t.world) (sym is)
      (transition-own P setup world transition.event own (subst (λ (t : Transition). BeginsSo P transition.event t.lines) is begins))
  go-own P world transition (inr follows) own begins = follow-own P setup world transition own follows begins

  behind-one : (begun : List Ordered) (world : World) (transition : Transition) → IsKnown setup world → Acts setup world transition.world → MayGo world transition → IsBehind begun world
      → IsBehind (begun ++ begun_by transition.event transition.lines) transition.world
  behind-one begun world transition known acts goes behind =
      let new = begun_by transition.event transition.lines in
      let gives = go-gives world transition known goes in
      record {
        own = go-own (IsRequested (begun ++ new)) world transition goes (own-more begun new world behind.own) begins;
        passed = All-append (λ (entry : Ordered). IsPassed transition.world entry.txn) begun new
            (All-weaker (λ (entry : Ordered). IsPassed world entry.txn) (λ (entry : Ordered). IsPassed transition.world entry.txn)
            (λ entry passed. passed-later setup entry.txn world transition.world acts passed) begun behind.passed)
            (begun-passed transition.world transition.event transition.lines (λ txn printed. (gives txn printed).passed));
      }
    where
      begins : BeginsSo (IsRequested (begun ++ begun_by transition.event transition.lines)) transition.event transition.lines
      begins n query text program txn event lines =
          let printed : Contains transition.lines (Line.txn txn) = subst (λ (l : List Line). Contains l (Line.txn txn)) (sym lines) (Contains-first (Line.txn txn) []) in
          let none = none-requested world begun txn behind.passed (go-gives world transition known goes txn printed).unpassed in
          let one : Ordered = record { txn = txn; program = program } in
          let is : begun_by transition.event transition.lines ≡ one ∷ [] = ap₂ begun_by event lines in
          requested-append begun (begun_by transition.event transition.lines) txn
          ∙ ap₂ (λ (found : Option Ordered) (more : List Ordered). option_or found (request_of more txn)) none is
          ∙ ap (λ (b : Bool). if b then Some one else None) (same-refl txn)

  behind-all : (begun : List Ordered) (world : World) (earlier later : List Transition) → AreKnown setup world (earlier ++ later) → MayAllGo world (earlier ++ later) → IsBehind begun world
      → IsBehind (begun ++ begun_in earlier) (world_after world earlier)
  behind-all begun world [] later known goes behind = subst (λ (all : List Ordered). IsBehind all world) (sym (append-nil begun)) behind
  behind-all begun world (transition ∷ earlier) later known goes behind =
      let new = begun_by transition.event transition.lines in
      subst (λ (all : List Ordered). IsBehind all (world_after transition.world earlier)) (append_assoc begun new (begun_in earlier))
      (behind-all (begun ++ new) transition.world earlier later known.1 goes.1 (behind-one begun world transition known.0.0 known.0.1 goes.0 behind))

  pub known-acts : (world : World) (earlier later : List Transition) → AreKnown setup world (earlier ++ later) → Acts setup world (world_after world earlier)
  known-acts world [] later known = no_act world
  known-acts world (transition ∷ earlier) later known =
      then-acts setup world transition.world (world_after transition.world earlier) known.0.1 (known-acts transition.world earlier later known.1)

  behind-right : (begun : List Ordered) (world : World) → IsSettled setup world → IsBehind begun world → IsOfRequests begun world.order
  behind-right begun world settled behind = record {
    once = all-from (λ (placed : Placed). stands_twice (txns_in_order world.order) placed.txn ≡ false) world.order
        (λ placed there. stands-once placed.txn world.order settled.sound.right.once);
    own = behind.own.order;
  }

  pub all-of-requests : (all : List Transition) → AreKnown setup (opening setup) all → MayAllGo (opening setup) all → OrdersAreOfRequests (opening setup) all
  all-of-requests all known goes earlier later split =
      let known_here = subst (AreKnown setup (opening setup)) split known in
      let here = world_after (opening setup) earlier in
      behind-right (begun_in earlier) here (always-settled setup here (known-acts (opening setup) earlier later known_here))
      (behind-all [] (opening setup) earlier later known_here (subst (MayAllGo (opening setup)) split goes) opening-behind)

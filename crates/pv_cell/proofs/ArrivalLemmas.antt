-- What a box makes of what a ring brought.
use Rattle.std.proofs.Common.{◌≡◌, ◌≢◌, ℕ, ◌-◌, ◌^◌, Option, None, Some, List, refl, sym, ap, ◌∙◌, subst, inl, inr, ⊎_elim, if◌then◌else◌}
use Rattle.std.specs.Prelude.{Result, Ok, Err, IfErr, IfOk, is_none, ⊤}
use Rattle.pv_base.specs.Answer.{Answers}
use Rattle.pv_base.specs.declared.txn.SiteId.{SiteId}
use Rattle.pv_disk_model.specs.LogModel.{LogModel}
use Rattle.pv_format.specs.FirstFault.{EnvelopeFault, Fault}
use Rattle.pv_format.specs.Message as model
use Rattle.pv_format.specs.MessageSpelling.{SpellsEnvelope}
use Rattle.pv_history.specs.Entries.{intake_of}
use Rattle.pv_history.specs.declared.entry.Taken.TheVariants as entry
use Rattle.pv_law_histories.specs.History as law
use Rattle.pv_mail.specs.Arrivals.{IsStray}
use Rattle.pv_mail.specs.declared.arrival.Arrival.TheVariants as arrival
use Rattle.pv_mail.specs.declared.ends.Parcel.{Parcel}
use Rattle.pv_model.specs.LiveScript as live
use Rattle.pv_model.specs.Check.{Part}
use Rattle.pv_model.specs.Plan.{plan_of}
use Rattle.pv_model.specs.Syntax.{Program}
use Rattle.pv_protocol.specs.WellFormed.{CanRun}
use Rattle.pv_script.specs.LiveView.{request_of}
use Rattle.pv_script.specs.declared.live.Request.{Request}
use Rattle.pv_wire.specs.Faults.{fault_of}
use Rattle.pv_wire.specs.Values.{envelope_of, message_of}
use Rattle.pv_wire.specs.declared.error.WireError.{WireError}
use Rattle.pv_wire.specs.declared.error.WireError.TheVariants.{BadKind, Short, Extra, BadField, BadPoly, NoMemory}
use Rattle.pv_wire.specs.declared.message.Envelope.{Envelope}
use Rattle.pv_cell.specs.Box.{me_of}
use Rattle.pv_cell.specs.Changes.{Loses, TakesIn, kept_of}
use Rattle.pv_cell.specs.Visits.{TakesArrival}
use Rattle.pv_cell.specs.declared.site_box.SiteBox.{SiteBox}
use Rattle.pv_cell.specs.declared.visit.Visit.{Visit}
use Rattle.pv_cell.specs.declared.visit.Visit.TheVariants.{Took, Idle, Worn, Lost, Stray}

abbrev IsThere : Option Fault → Type 0
IsThere None = ⊥
IsThere (Some fault) = ⊤

module _ {W : Type 0} (M : LogModel W) (old : SiteBox W) where
  -- What is lost before the site hears of it, and nobody hears of.
  pub nothing-lost : Loses M (kept_of old) (kept_of old) None
  nothing-lost = record { changed = refl; site = inl refl; tells = refl }

  -- ## Parcels
  module _ (from : SiteId) (parcel : Parcel) where
    abbrev at_site : model.Message → model.Envelope
    at_site message = record { from = from.0; to = me_of old; message = message }

    module _ (result : Result Envelope WireError)
        (answers : Answers (λ envelope. SpellsEnvelope envelope parcel.bytes.items) (EnvelopeFault parcel.bytes.items) envelope_of fault_of result) where
      -- Bytes that have a fault spell nothing.
      faulty : (error : WireError) → result ≡ Err error → IsThere (fault_of error) → IsStray old.site.catalog (me_of old) (arrival.Parcel from parcel)
      faulty error is there =
          inr (λ message spelled.
          subst IsThere (subst (λ (r : Result Envelope WireError). IfErr r (λ e. fault_of e ≡ None)) is (answers.gives (at_site message) spelled).1) there)

      pub unread-takes : (error : WireError) → result ≡ Err error
          → TakesArrival M old old (arrival.Parcel from parcel) (if is_none (fault_of error) then Lost else Stray)
      unread-takes NoMemory is = nothing-lost
      unread-takes (BadKind byte) is = (faulty (BadKind byte) is tt, refl)
      unread-takes (Short place) is = (faulty (Short place) is tt, refl)
      unread-takes (Extra place) is = (faulty (Extra place) is tt, refl)
      unread-takes (BadField place) is = (faulty (BadField place) is tt, refl)
      unread-takes (BadPoly place) is = (faulty (BadPoly place) is tt, refl)

      module _ (envelope : Envelope) (is : result ≡ Ok envelope) where
        spelled-is : (message : model.Message) → SpellsEnvelope (at_site message) parcel.bytes.items → envelope_of envelope ≡ at_site message
        spelled-is message spelled =
            subst (λ (r : Result Envelope WireError). IfOk r (λ x. envelope_of x ≡ at_site message)) is (answers.gives (at_site message) spelled).0

        -- It isn't from that site to this one.
        pub elsewhere : ((envelope.from.0 ≡ from.0) × (envelope.to.0 ≡ me_of old) → ⊥) → TakesArrival M old old (arrival.Parcel from parcel) Stray
        elsewhere other = (
          inr (λ message spelled.
              let same = spelled-is message spelled in other (ap (λ (e : model.Envelope). e.from) same, ap (λ (e : model.Envelope). e.to) same)),
          refl,
        )

        module _ (from_is : envelope.from.0 ≡ from.0) (to_is : envelope.to.0 ≡ me_of old) where
          pub spelled : SpellsEnvelope (at_site (message_of envelope.message)) parcel.bytes.items
          spelled =
              subst (λ (e : model.Envelope). SpellsEnvelope e parcel.bytes.items)
              (λ i. record { from = from_is i; to = to_is i; message = message_of envelope.message })
              (subst (λ (r : Result Envelope WireError). IfOk r (λ x. SpellsEnvelope (envelope_of x) parcel.bytes.items)) is answers.given)

          pub parcel-takes : parcel.stamp ≢ 2 ^ 64 - 1 → (new : SiteBox W) (visit : Visit)
              → TakesIn M old new (intake_of (entry.Parcel from parcel.stamp parcel.place envelope.message)) visit
              → TakesArrival M old new (arrival.Parcel from parcel) visit
          parcel-takes stamp new Took takes = (
            ⊎_elim (λ greatest. stamp greatest) (λ none. none (message_of envelope.message) spelled),
            (law.parcel from.0 parcel.stamp parcel.place (message_of envelope.message), (message_of envelope.message, refl, spelled), takes.1),
          )
          parcel-takes stamp new Lost takes = takes.1
          parcel-takes stamp new Idle takes = absurd takes
          parcel-takes stamp new Worn takes = absurd takes
          parcel-takes stamp new Stray takes = absurd takes

  -- ## Requests
  module _ (client : ℕ) (request : Request) where
    abbrev Runs : Program → List Part → Type 0
    Runs program parts = CanRun old.site.catalog program × (parts ≡ plan_of program old.site.catalog.items)

    pub request-takes : Runs request.program request.plan.parts.items → (new : SiteBox W) (visit : Visit)
        → TakesIn M old new (intake_of (entry.Request client request)) visit → TakesArrival M old new (arrival.Request client request) visit
    request-takes runs new Took takes = ((λ stray. stray runs), (law.request client (request_of request), refl, takes.1))
    request-takes runs new Lost takes = takes.1
    request-takes runs new Idle takes = absurd takes
    request-takes runs new Worn takes = absurd takes
    request-takes runs new Stray takes = absurd takes

    -- What comes of a copy comes of the request.
    pub copy-takes : (copy : Request) → request_of copy ≡ request_of request → copy.plan.parts.items ≡ request.plan.parts.items → (new : SiteBox W) (visit : Visit)
        → TakesArrival M old new (arrival.Request client copy) visit → TakesArrival M old new (arrival.Request client request) visit
    copy-takes copy same plan new visit takes = by-visit visit takes
      where
        asked : Runs request.program request.plan.parts.items → Runs copy.program copy.plan.parts.items
        asked runs =
            let program : request.program ≡ copy.program = sym (ap (λ (r : live.Request). r.program) same) in (
              subst (λ (p : Program). CanRun old.site.catalog p) program runs.0,
              plan ∙ (runs.1 ∙ ap (λ (p : Program). plan_of p old.site.catalog.items) program),
            )

        stray-too : IsStray old.site.catalog (me_of old) (arrival.Request client copy) → IsStray old.site.catalog (me_of old) (arrival.Request client request)
        stray-too stray = λ runs. stray (asked runs)

        stray-back : IsStray old.site.catalog (me_of old) (arrival.Request client request) → IsStray old.site.catalog (me_of old) (arrival.Request client copy)
        stray-back stray = λ runs. stray
            (
            let program : copy.program ≡ request.program = ap (λ (r : live.Request). r.program) same in (
              subst (λ (p : Program). CanRun old.site.catalog p) program runs.0,
              sym plan ∙ (runs.1 ∙ ap (λ (p : Program). plan_of p old.site.catalog.items) program),
            )
            )

        by-visit : (visit : Visit) → TakesArrival M old new (arrival.Request client copy) visit → TakesArrival M old new (arrival.Request client request) visit
        by-visit Took takes = ((λ stray. takes.0 (stray-back stray)), (takes.1.0, takes.1.1 ∙ ap (λ (r : live.Request). law.request client r) same, takes.1.2))
        by-visit Lost takes =
            subst (λ (n : ℕ). Loses M (kept_of old) (kept_of new) (Some record { client = client; number = n }))
            (ap (λ (r : live.Request). r.number) same) takes
        by-visit Stray takes = (stray-too takes.0, takes.1)
        by-visit Idle takes = absurd takes
        by-visit Worn takes = absurd takes

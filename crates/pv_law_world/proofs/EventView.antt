-- Each event begins in one of the few ways. All other laws on what events do go by these.
use Rattle.std.proofs.Common.{◌≡◌, ℕ, Some, None, refl, sym, ap, subst}
use Rattle.pv_base.specs.Catalog.{Declared}
use Rattle.pv_law_world.specs.EventView.{Beginning, Printed, begun_by, IsAsked, IsGuarded, Begins}
use Rattle.pv_law_world.specs.Transitions.{site_of}
use Rattle.pv_model.specs.Events.{Event}
use Rattle.pv_model.specs.Syntax.{Program}
use Rattle.pv_protocol.specs.Attempt.{Begun, begun}
use Rattle.pv_protocol.specs.State.{Setup, Input, submit, receive, tick}
use Rattle.pv_protocol.specs.WellFormed.{CanRun, IsWellFormed}
use Rattle.pv_protocol.specs.World.{World}

-- how the event begins
abbrev pub view-of-event : (event : Event) → (beginning : Beginning) × Begins event beginning
unfolding begun
view-of-event (Event.submit n query text program) = (Beginning.gives n (submit program), record { same = λ setup world. refl; guard = (query, (text, refl)) })
view-of-event (Event.deliver number) = (Beginning.delivers number, record { same = λ setup world. refl; guard = refl })
view-of-event (Event.pump most) = (Beginning.prints Printed.nothing, record { same = λ setup world. refl; guard = λ n. refl })
view-of-event (Event.lose number) = (Beginning.loses number, record { same = λ setup world. refl; guard = λ n. refl })
view-of-event (Event.drop n) = (Beginning.drops n, record { same = λ setup world. refl; guard = λ n. refl })
view-of-event (Event.tick n) = (Beginning.gives n tick, record { same = λ setup world. refl; guard = refl })
view-of-event (Event.stop n) = (Beginning.halts n, record { same = λ setup world. refl; guard = λ n. refl })
view-of-event (Event.start n) =
    (Beginning.opens n, record { same = λ setup world. refl; guard = record { timeless = λ n. refl; of = λ world. refl; within = λ catalog well. well } })
view-of-event (Event.arm n call mode stops) =
    (Beginning.arms n (Some (record { call = call; mode = mode; stops = stops })), record { same = λ setup world. refl; guard = λ n. refl })
view-of-event (Event.mend n) = (Beginning.arms n None, record { same = λ setup world. refl; guard = λ n. refl })
view-of-event (Event.checkpoint n) =
    (Beginning.packs n, record { same = λ setup world. refl; guard = record { timeless = λ n. refl; of = λ world. refl; within = λ catalog well. well } })
view-of-event Event.sent = (Beginning.prints Printed.messages, record { same = λ setup world. refl; guard = λ n. refl })
view-of-event Event.report = (Beginning.prints Printed.reported, record { same = λ setup world. refl; guard = λ n. refl })
view-of-event Event.total = (Beginning.prints Printed.summed, record { same = λ setup world. refl; guard = λ n. refl })

-- What holds of each beginning that an event of this kind may have holds of what the event comes to.
pub by-beginning : (P : Begun → Type 0) (setup : Setup) (world : World) (event : Event) → ((beginning : Beginning) → IsGuarded event beginning → P (begun_by setup world beginning))
    → P (begun setup world event)
by-beginning P setup world event each = let view = view-of-event event in subst P (sym (view.1.same setup world)) (each view.0 view.1.guard)

-- A site that is asked is the event's own.
pub asked-site : (world : World) (event : Event) (n : ℕ) (input : Input) → IsAsked event n input → site_of world event ≡ Some n
asked-site world event n (submit program) (query, (text, is)) = ap (site_of world) is
asked-site world event n (receive from message) never = absurd never
asked-site world event n tick is = ap (site_of world) is

-- A program that a well-formed event asks for can run.
pub asked-runs : (catalog : Declared) (event : Event) (n : ℕ) (program : Program) → IsAsked event n (submit program) → IsWellFormed catalog event → CanRun catalog program
asked-runs catalog event n program (query, (text, is)) well = (subst (IsWellFormed catalog) is well).1

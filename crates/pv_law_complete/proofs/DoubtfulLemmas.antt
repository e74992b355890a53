-- What meets the premises on votes, found by computing.
use Rattle.std.proofs.Common.{◌≡◌, ◌<◌, Some, [], ◌∷◌, refl, sym, subst, arith}
use Rattle.std.specs.Prelude.{All, slice_get}
use Rattle.std.specs.List.{Contains}
use Rattle.std.proofs.lemmas.List.Elements.{All-head}
use Rattle.pv_base.proofs.ContainsLemmas.{Contains-first}
use Rattle.pv_base.specs.Canonical.{canonical_cases}
use Rattle.pv_format.specs.Message.{prepare}
use Rattle.pv_law_acts.specs.Seen.{memory_at, HoldsAgeless, holdings_in, Sent}
use Rattle.pv_law_answers.proofs.AskerLemmas.{each-fine}
use Rattle.pv_law_refusals.proofs.RefusedLemmas.{raise-fine}
use Rattle.pv_law_refusals.specs.Refused.{raise_b}
use Rattle.pv_law_complete.proofs.CommitLemmas.{there-sent}
use Rattle.pv_law_complete.specs.Doubtful.{until_raised, raised, second, held, writes}
use Rattle.pv_law_events.proofs.PremiseLemmas.{can-run}
use Rattle.pv_law_events.specs.Eventful.{small}
use Rattle.pv_law_world.specs.ExampleLines.{u}
use Rattle.pv_law_step.specs.Examples.{bank}
use Rattle.pv_law_world.specs.Schedules.{pump_all}
use Rattle.pv_model.specs.Meaning.{exec}
use Rattle.pv_model.specs.Plan.{plan_of}
use Rattle.pv_protocol.specs.Attempt.{begun}
use Rattle.pv_protocol.specs.Coordinate.{new_value, reply_value}
use Rattle.pv_protocol.specs.Granted.{on_denied, on_granted}
use Rattle.pv_protocol.specs.Lock.{on_lock, on_submit}
use Rattle.pv_protocol.specs.Outcome.{is_named_here, named_here, on_ask, on_outcome}
use Rattle.pv_protocol.specs.Records.{journal_bytes}
use Rattle.pv_protocol.specs.Run.{transitions_of}
use Rattle.pv_protocol.specs.Shown.{shown_within}
use Rattle.pv_protocol.specs.Tick.{on_tick}
use Rattle.pv_protocol.specs.Vote.{on_no, on_prepare, on_yes}
use Rattle.pv_protocol.specs.WellFormed.{IsWellFormed}
use Rattle.pv_protocol.specs.WorldStep.{transition_of}

one-below : 1 < 2
one-below = omega arith

zero-below : 0 < 2
zero-below = omega arith

pub raised-fine : All (IsWellFormed small.catalog) until_raised
raised-fine =
    each-fine until_raised
    ((zero-below, can-run), (tt, (one-below, (one-below, (one-below, (All-head (IsWellFormed bank.catalog) raise_b (pump_all ∷ []) raise-fine, (tt, (tt, tt))))))))

one-holds : holdings_in (memory_at raised 1) ≡ held ∷ []
unfolding canonical_cases exec plan_of begun new_value reply_value on_denied on_granted on_lock on_submit is_named_here named_here on_ask on_outcome journal_bytes transitions_of shown_within on_tick on_no on_prepare on_yes transition_of
one-holds = refl

pub holds-second : HoldsAgeless raised 1 held
holds-second = subst (λ all. Contains all held) (sym one-holds) (Contains-first held [])

asked-there : slice_get raised.sent 11 ≡ Some (record { from = 0; to = 1; message = prepare u second writes })
unfolding canonical_cases exec plan_of begun new_value reply_value on_denied on_granted on_lock on_submit is_named_here named_here on_ask on_outcome journal_bytes transitions_of shown_within on_tick on_no on_prepare on_yes transition_of
asked-there = refl

pub vote-asked : Sent raised 0 1 (prepare u second writes)
vote-asked = there-sent raised 11 (record { from = 0; to = 1; message = prepare u second writes }) asked-there

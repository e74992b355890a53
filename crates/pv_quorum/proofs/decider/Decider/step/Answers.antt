-- The decider made its step, by what became of the record.
use Rattle.std.proofs.Common.{◌≡◌, true, List, Ok, Err, refl, sym, ap, subst, ◌∙◌}
use Rattle.std.specs.Prelude.{if◌then◌else◌}
use Rattle.pv_base.specs.Assignment.{is_same_txn}
use Rattle.pv_base.specs.declared.txn.TxnId.{TxnId}
use Rattle.pv_law_quorum.specs.Decider.{Here, step}
use Rattle.pv_quorum.specs.DeciderState.{DeciderState, StandsFor, setup_of}
use Rattle.pv_quorum.specs.Knows.{IsRecorded, Knows}
use Rattle.pv_quorum.specs.MemoryView.{known_at}
use Rattle.pv_quorum.specs.Spelling.{txn_in}
use Rattle.pv_quorum.specs.Steps.{HasMade, Steps}
use Rattle.pv_quorum.specs.Values.{input_of, record_of, txn_of}
use Rattle.pv_quorum.specs.Writing.{Writes}
use Rattle.pv_quorum.specs.declared.error.QuorumError.{QuorumError}
use Rattle.pv_quorum.specs.declared.error.QuorumError.TheVariants.{Fault, NoMemory}
use Rattle.pv_quorum.specs.declared.known.Known.{Known}
use Rattle.pv_quorum.specs.declared.writing.Written.{Written}
use Rattle.pv_quorum.proofs.DeciderLemmas.{given, made-alone, made-broken, made-full, made-recorded}
use Rattle.pv_quorum.proofs.decider.Decider.step.Goals as goal

pub returns-in_default-clause-step : goal.returns-in_default-clause-step
returns-in_default-clause-step g c =
    let inside = c.self.inside in
    let found : c.known-known.result ≡ known_at inside.memory.known (txn_of c.args.input.now) =
    c.known-known.ensures ∙ ap (λ (pairs : List (TxnId × Known)). known_at pairs c.txn-txn.result) c.reserve.ensures.same ∙ ap (known_at inside.memory.known) c.txn-txn.ensures in
    subst
    (λ (old : DeciderState g.row.L.Denot). (here : Here) → StandsFor g.L.Log.model old here
    → HasMade g.L.Log.model old (record { me = inside.me; count = inside.count; known = c.put.new.self.known; is_down = inside.down; log = inside.log }) here
    (given g.L.Log.model inside.me inside.count inside.down inside.log inside.memory.known c.args.input.now c.in_ok-made.made)
    (step (setup_of old.count (g.L.Log.model.limit old.log)) here (input_of c.args.input.now)))
    c.self.view_is
    (λ here stands.
    made-alone g.L.Log.model inside.me inside.count inside.down inside.log inside.memory.known c.args.input.now c.in_ok-made.made here stands
    (c.in_ok-made.ensures (setup_of inside.count (g.L.Log.model.limit inside.log)) here refl stands.me stands.range
    (subst (Knows here (txn_of c.args.input.now)) (sym found) (stands.knows (txn_of c.args.input.now))))
    c.in_default.is c.put.new.self.known
    (λ other. c.put.ensures other
    ∙ ap (λ (t : TxnId). if is_same_txn other t then record c.known-known.result { proposal = c.in_ok-made.made.proposal } else known_at c.reserve.new.self.known other) c.txn-txn.ensures
    ∙ ap (λ (pairs : List (TxnId × Known)). if is_same_txn other (txn_of c.args.input.now) then record c.known-known.result { proposal = c.in_ok-made.made.proposal } else known_at pairs other) c.reserve.ensures.same
    ∙ ap (λ (known : Known). if is_same_txn other (txn_of c.args.input.now) then record known { proposal = c.in_ok-made.made.proposal } else known_at inside.memory.known other) found))

pub returns-in-Ok-Done-clause-step : goal.returns-in-Ok-Done-clause-step
returns-in-Ok-Done-clause-step g c =
    let inside = c.self.inside in
    let found : c.known-known.result ≡ known_at inside.memory.known (txn_of c.args.input.now) =
    c.known-known.ensures ∙ ap (λ (pairs : List (TxnId × Known)). known_at pairs c.txn-txn.result) c.reserve.ensures.same ∙ ap (known_at inside.memory.known) c.txn-txn.ensures in
    subst
    (λ (old : DeciderState g.row.L.Denot). (here : Here) → StandsFor g.L.Log.model old here
    → HasMade g.L.Log.model old (record { me = inside.me; count = inside.count; known = c.put-in-Ok-Done.new.self.known; is_down = inside.down; log = c.write.new.log }) here
    (given g.L.Log.model inside.me inside.count inside.down inside.log inside.memory.known c.args.input.now c.in_ok-made.made)
    (step (setup_of old.count (g.L.Log.model.limit old.log)) here (input_of c.args.input.now)))
    c.self.view_is
    (λ here stands.
    made-recorded g.L.Log.model inside.me inside.count inside.down inside.log inside.memory.known c.args.input.now c.in_ok-made.made here stands
    (c.in_ok-made.ensures (setup_of inside.count (g.L.Log.model.limit inside.log)) here refl stands.me stands.range
    (subst (Knows here (txn_of c.args.input.now)) (sym found) (stands.knows (txn_of c.args.input.now))))
    c.in-Some.entry c.in-Some.is c.write.new.log (subst (λ (w : Written). Writes g.L.Log.model inside.log c.write.new.log (record_of c.in-Some.entry) (Ok w)) c.in-Ok-Done.field-0-is c.in-Ok-Done.ensures.written) c.and.result c.put-in-Ok-Done.new.self.known
    (λ other. c.put-in-Ok-Done.ensures other
    ∙ ap (λ (t : TxnId). if is_same_txn other t then c.and.result else known_at c.reserve.new.self.known other) c.txn-txn.ensures
    ∙ ap (λ (pairs : List (TxnId × Known)). if is_same_txn other (txn_of c.args.input.now) then c.and.result else known_at pairs other) c.reserve.ensures.same)
    c.and.ensures.proposal
    (λ recorded. c.and.ensures.recorded here.records stands.range
    (subst (λ (known : Known). IsRecorded (txn_in (record_of c.in-Some.entry)) here.records
    (record known { proposal = c.in_ok-made.made.proposal })) (sym found) recorded))
    c.and.ensures.range c.requires.input.site)

pub returns-in-Ok-Full-clause-step : goal.returns-in-Ok-Full-clause-step
returns-in-Ok-Full-clause-step g c =
    let inside = c.self.inside in
    let found : c.known-known.result ≡ known_at inside.memory.known (txn_of c.args.input.now) =
    c.known-known.ensures ∙ ap (λ (pairs : List (TxnId × Known)). known_at pairs c.txn-txn.result) c.reserve.ensures.same ∙ ap (known_at inside.memory.known) c.txn-txn.ensures in
    subst
    (λ (old : DeciderState g.row.L.Denot). (here : Here) → StandsFor g.L.Log.model old here
    → HasMade g.L.Log.model old (record { me = inside.me; count = inside.count; known = c.reserve.new.self.known; is_down = inside.down; log = c.write.new.log }) here c.full_step.result
    (step (setup_of old.count (g.L.Log.model.limit old.log)) here (input_of c.args.input.now)))
    c.self.view_is
    (λ here stands.
    made-full g.L.Log.model inside.me inside.count inside.down inside.log inside.memory.known c.args.input.now c.in_ok-made.made here stands
    (c.in_ok-made.ensures (setup_of inside.count (g.L.Log.model.limit inside.log)) here refl stands.me stands.range
    (subst (Knows here (txn_of c.args.input.now)) (sym found) (stands.knows (txn_of c.args.input.now))))
    c.in-Some.entry c.in-Some.is c.in-Ok-Full.length c.write.new.log (subst (λ (w : Written). Writes g.L.Log.model inside.log c.write.new.log (record_of c.in-Some.entry) (Ok w)) c.in-Ok-Full.field-0-is c.in-Ok-Full.ensures.written) c.reserve.new.self.known c.reserve.ensures.same
    c.full_step.result c.full_step.ensures.step c.full_step.ensures.sends)

pub returns-in-Err-Fault-clause-step : goal.returns-in-Err-Fault-clause-step
returns-in-Err-Fault-clause-step g c =
    let inside = c.self.inside in
    let found : c.known-known.result ≡ known_at inside.memory.known (txn_of c.args.input.now) =
    c.known-known.ensures ∙ ap (λ (pairs : List (TxnId × Known)). known_at pairs c.txn-txn.result) c.reserve.ensures.same ∙ ap (known_at inside.memory.known) c.txn-txn.ensures in
    subst
    (λ (old : DeciderState g.row.L.Denot). (here : Here) → StandsFor g.L.Log.model old here
    → Steps g.L.Log.model old (record { me = inside.me; count = inside.count; known = c.reserve.new.self.known; is_down = true; log = c.write.new.log }) here
    (input_of c.args.input.now) (Err Fault))
    c.self.view_is
    (λ here stands.
    made-broken g.L.Log.model inside.me inside.count inside.down inside.log inside.memory.known c.args.input.now c.in_ok-made.made here stands
    (c.in_ok-made.ensures (setup_of inside.count (g.L.Log.model.limit inside.log)) here refl stands.me stands.range
    (subst (Knows here (txn_of c.args.input.now)) (sym found) (stands.knows (txn_of c.args.input.now))))
    c.in-Some.entry c.in-Some.is Fault c.write.new.log (subst (λ (e : QuorumError). Writes g.L.Log.model inside.log c.write.new.log (record_of c.in-Some.entry) (Err e)) c.in-Err-Fault.field-0-is c.in-Err-Fault.ensures.written)
    c.reserve.new.self.known c.reserve.ensures.same c.write.ensures.range c.requires.input.site true (λ same. refl) (λ wrong. absurd (cc)))

pub returns-in-Err-NoMemory-clause-step : goal.returns-in-Err-NoMemory-clause-step
returns-in-Err-NoMemory-clause-step g c =
    let inside = c.self.inside in
    let found : c.known-known.result ≡ known_at inside.memory.known (txn_of c.args.input.now) =
    c.known-known.ensures ∙ ap (λ (pairs : List (TxnId × Known)). known_at pairs c.txn-txn.result) c.reserve.ensures.same ∙ ap (known_at inside.memory.known) c.txn-txn.ensures in
    subst
    (λ (old : DeciderState g.row.L.Denot). (here : Here) → StandsFor g.L.Log.model old here
    → Steps g.L.Log.model old (record { me = inside.me; count = inside.count; known = c.reserve.new.self.known; is_down = inside.down; log = c.write.new.log }) here
    (input_of c.args.input.now) (Err NoMemory))
    c.self.view_is
    (λ here stands.
    made-broken g.L.Log.model inside.me inside.count inside.down inside.log inside.memory.known c.args.input.now c.in_ok-made.made here stands
    (c.in_ok-made.ensures (setup_of inside.count (g.L.Log.model.limit inside.log)) here refl stands.me stands.range
    (subst (Knows here (txn_of c.args.input.now)) (sym found) (stands.knows (txn_of c.args.input.now))))
    c.in-Some.entry c.in-Some.is NoMemory c.write.new.log (subst (λ (e : QuorumError). Writes g.L.Log.model inside.log c.write.new.log (record_of c.in-Some.entry) (Err e)) c.in-Err-NoMemory.field-0-is c.in-Err-NoMemory.ensures.written)
    c.reserve.new.self.known c.reserve.ensures.same c.write.ensures.range c.requires.input.site inside.down (λ wrong. absurd (cc)) (λ same. refl))

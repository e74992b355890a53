-- A life is a run, and so the law speaks of it.
use Rattle.std.proofs.Common.{◌∙◌, Some, Ok, None, ◌∷◌, ◌++◌, refl, ap, subst, List}
use Rattle.pv_law_outbox.specs.Runs.{Event, Run, holds, learns, releases, has_none}
use Rattle.pv_law_outbox.proofs.RunLemmas.{at-event, gone-once, held-stays, kept-in, learnt-stays}
use Rattle.pv_outbox.specs.Life.{answers, hold, learn, take}
use Rattle.pv_outbox.proofs.AnsweredLemmas.{answered-once, left-by, parted, stopped-is}
use Rattle.pv_outbox.proofs.LifeLemmas.{continues}
use Rattle.pv_outbox.proofs.laws.lives_are_runs.Goals as goal

pub returns-clause-runs : goal.returns-clause-runs
returns-clause-runs g c = λ contents old acts end spelled life.
    let is = (continues g.L.Log.model acts end).from_left (Some contents) old contents refl spelled life in
    (is.events, is.records, is.run, is.are, is.there)

pub returns-clause-once : goal.returns-clause-once
returns-clause-once g c = λ contents old acts end spelled life.
    let is = (continues g.L.Log.model acts end).from_left (Some contents) old contents refl spelled life in
    answered-once acts is.events is.are (gone-once old is.events is.records is.run)

pub returns-clause-released : goal.returns-clause-released
returns-clause-released g c = λ contents old before since output end spelled life.
    let acts = before ++ answers (take (Ok (Some output))) ∷ since in
    let is = (continues g.L.Log.model acts end).from_left (Some contents) old contents refl spelled life in
    let parts = parted before (answers (take (Ok (Some output)))) since is.events is.are in
    let run = subst (λ (events : List Event). Run old events is.records) (parts.whole ∙ ap (λ (e : Event). parts.front ++ e ∷ parts.back) parts.is) is.run in
    let at = at-event old parts.front (releases output) parts.back is.records run in
    (parts.front, at.mid, at.run, parts.first, at.happens.may)

pub returns-clause-none : goal.returns-clause-none
returns-clause-none g c = λ contents old before since end spelled life.
    let acts = before ++ answers (take (Ok None)) ∷ since in
    let is = (continues g.L.Log.model acts end).from_left (Some contents) old contents refl spelled life in
    let parts = parted before (answers (take (Ok None))) since is.events is.are in
    let run = subst (λ (events : List Event). Run old events is.records) (parts.whole ∙ ap (λ (e : Event). parts.front ++ e ∷ parts.back) parts.is) is.run in
    let at = at-event old parts.front has_none parts.back is.records run in
    (parts.front, at.mid, at.run, parts.first, at.happens.0)

pub returns-clause-stopped : goal.returns-clause-stopped
returns-clause-stopped g c = λ contents old before since act end spelled stops life.
    let acts = before ++ act ∷ since in
    let is = (continues g.L.Log.model acts end).from_left (Some contents) old contents refl spelled life in
    let parts = parted before act since is.events is.are in
    let run = subst (λ (events : List Event). Run old events is.records) parts.whole is.run in
    let at = at-event old parts.front parts.event parts.back is.records run in
    let stopped = stopped-is act parts.event stops parts.is in
    let left = left-by before since parts.front parts.back at.mid at.next parts.first parts.rest stopped.answer parts.event stopped.is at.happens
    (gone-once old (parts.front ++ parts.event ∷ parts.back) is.records run) in
    (parts.front, parts.back, at.mid, at.next, is.records, at.run, parts.first, left, at.rest, parts.rest, is.there)

pub returns-clause-held : goal.returns-clause-held
returns-clause-held g c = λ contents old before since output when end spelled life.
    let acts = before ++ answers (hold output when (Ok tt)) ∷ since in
    let is = (continues g.L.Log.model acts end).from_left (Some contents) old contents refl spelled life in
    let parts = parted before (answers (hold output when (Ok tt))) since is.events is.are in
    let run = subst (λ (events : List Event). Run old events is.records) (parts.whole ∙ ap (λ (e : Event). parts.front ++ e ∷ parts.back) parts.is) is.run in
    let at = at-event old parts.front (holds output when) parts.back is.records run in
    (is.records, is.there, (kept-in at.next parts.back is.records at.rest).held output when (held-stays at.mid output when at.next at.happens))

pub returns-clause-learnt : goal.returns-clause-learnt
returns-clause-learnt g c = λ contents old before since txn commits end spelled life.
    let acts = before ++ answers (learn txn commits (Ok tt)) ∷ since in
    let is = (continues g.L.Log.model acts end).from_left (Some contents) old contents refl spelled life in
    let parts = parted before (answers (learn txn commits (Ok tt))) since is.events is.are in
    let run = subst (λ (events : List Event). Run old events is.records) (parts.whole ∙ ap (λ (e : Event). parts.front ++ e ∷ parts.back) parts.is) is.run in
    let at = at-event old parts.front (learns txn commits) parts.back is.records run in
    (is.records, is.there, (kept-in at.next parts.back is.records at.rest).outcomes txn commits (learnt-stays at.mid txn commits at.next at.happens))

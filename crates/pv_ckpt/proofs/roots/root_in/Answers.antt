use Rattle.std.proofs.Common.{rules, ◌≡◌, ◌≤◌, ◌<◌, ◌≢◌, length, take, slice_index}
use Rattle.pv_law_checkpoints.specs.Roots.{start}
use Rattle.pv_ckpt.proofs.RootLemmas.{early_end, other_start, shut_roots}
use Rattle.pv_ckpt.proofs.roots.root_in.Goals as goal

pub returns-then-place-lt8-clause-none : goal.returns-then-place-lt8-clause-none
returns-then-place-lt8-clause-none c =
    let front = c.args.front.now in
    let at = c.agreement-place.result in
    let reached : at ≤ length front = search rules in
    let same : take at front ≡ take at start = search rules in
    let differ : at < length front → slice_index front at ≢ slice_index start at = λ inside. search rules in
    other_start front at c.if-place-lt8.true reached same differ

pub returns-then-size-lt-LEAST-clause-none : goal.returns-then-size-lt-LEAST-clause-none
returns-then-size-lt-LEAST-clause-none c =
    let front = c.args.front.now in
    let at : c.agreement-place.result ≡ 8 = search rules in
    let same : take 8 front ≡ take 8 start = search rules in
    early_end front same c.if-size-lt-LEAST.true

pub returns-in-None-clause-none : goal.returns-in-None-clause-none
returns-in-None-clause-none c =
    let front = c.args.front.now in
    let at : c.agreement-place.result ≡ 8 = search rules in
    let same : take 8 front ≡ take 8 start = search rules in
    shut_roots front same c.if-size-lt-LEAST.false (c.root_in_force.ensures.first_shut c.in-None.is) (c.root_in_force.ensures.second_shut c.in-None.is)

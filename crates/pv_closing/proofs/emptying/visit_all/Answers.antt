-- One box after another is visited.
use Rattle.std.proofs.Common.{◌<◌, length, arith, sym, subst}
use Rattle.pv_closing.proofs.ClosingLemmas.{go-nowhere, one-goes, quiet-more, still-whole}
use Rattle.pv_closing.proofs.emptying.visit_all.Goals as goal
use Rattle.pv_closing.specs.Closing.{IsWhole}

pub loop-at-init : goal.loop-at-init
loop-at-init g c = record {
  on = go-nowhere g.L.Log.model c.boxes_stay_the_same.ensures.none c.args.boxes.now.items c.requires;
  quiet = λ none k any less. absurd (omega (arith, less));
}

pub visit-found-requires : goal.visit-found-requires
visit-found-requires g c =
    let M = g.L.Log.model in
    let x = c.index_mut.result.now in
    let mid = c.loop-at.boxes.items in
    let within : c.loop-at.at < length mid = omega (arith, c.loop-at-test.true, c.len-at-end.ensures, c.args.boxes.now.ok.0, c.loop-at.invariant.on.0) in
    subst (IsWhole M) (sym c.index_mut.ensures.value) (still-whole M c.args.boxes.now.items mid c.loop-at.invariant.on c.loop-at.at x within)

pub loop-at-preserved : goal.loop-at-preserved
loop-at-preserved g c =
    let M = g.L.Log.model in
    let at = c.loop-at.at in
    let old = c.args.boxes.now.items in
    let mid = c.loop-at.boxes.items in
    let x = c.index_mut.result.now in
    let y = c.visit-found.new.one in
    let within : at < length mid = omega (arith, c.loop-at-test.true, c.len-at-end.ensures, c.args.boxes.now.ok.0, c.loop-at.invariant.on.0) in
    record {
      on = one-goes M c.boxes_stay_the_same.ensures.both old mid at x y c.loop-at.invariant.on within c.index_mut.ensures.value c.visit-found.ensures.on;
      quiet = λ none. quiet-more M mid at y within (c.loop-at.invariant.quiet (c.visit-found.ensures.before none)) (c.visit-found.ensures.quiet none);
    }

pub returns-clause-quiet : goal.returns-clause-quiet
returns-clause-quiet g c none k any less =
    c.loop-at.invariant.quiet none k any
    (omega (arith, less, c.loop-at-test.false, c.len-at-end.ensures, c.args.boxes.now.ok.0, c.loop-at.invariant.on.0))

-- What is published and pending stays a log, whether or not the part was added.
use Rattle.std.proofs.Common.{◌≡◌, ◌<◌, List, ◌++◌, drop, length, rules, sym, ap, subst, ◌∙◌}
use Rattle.pv_shelf.specs.Part.{Part}
use Rattle.pv_shelf.specs.Log.{IsLog, width_of}
use Rattle.pv_shelf.specs.Shelves.{published, pending}
use Rattle.pv_shelf.specs.declared.face.Face.{Face}
use Rattle.pv_shelf.proofs.LogLemmas.{log-added}
use Rattle.pv_shelf.proofs.writer.ShelfWriter.add.Goals as goal

pub invariant_of-self : goal.invariant_of-self
invariant_of-self c =
    let old = c.args.self.now in
    let new = c.append.new.self in
    let more = drop new.behind new.log.items in
    let part : Part = record { steps = c.args.steps; faces = c.in_ok-faces.faces.items } in
    let same : new.desk.shown.value.parts.items ≡ published old = search rules in
    let wide : length part.faces ≡ width_of (published old) = ap (λ (faces : List Face). length faces) c.in_ok-faces.ensures.equal ∙ c.requires.faces in
    record {
      log = subst (λ (xs : List Part). IsLog (xs ++ more)) (sym same)
          (log-added _ c.append.result (published old) (pending old) more part c.append.ensures.pending old.log old.some c.requires.later wide);
      some = subst (λ (xs : List Part). 0 < length xs) (sym same) old.some;
    }

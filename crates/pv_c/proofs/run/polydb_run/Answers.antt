-- What C gets is the answer of the run.
use Rattle.std.proofs.Common.{refl, Ok, Err, subst, length, List, ℕ}
use Rattle.pv_c.proofs.run.polydb_run.Goals as goal
use Rattle.pv_c.specs.Run.{PutsText, Runs}

pub returns-in_default : goal.returns-in_default
returns-in_default c = (Err c.in_default.field-0, tt, (refl, refl, refl))

pub returns : goal.returns
returns c = (
  Ok c.in-Ok.ran,
  subst (λ (input : List ℕ). Runs input (Ok c.in-Ok.ran)) c.given.ensures (c.in-Ok.ensures.answer, c.in-Ok.ensures.exact),
  subst (λ (text : List ℕ). PutsText c.in-Ok.ran.status text c.args.out.now c.put.new.out (length c.as_slice-text.result.now) c.put.result) c.as_slice-text.ensures.value c.put.ensures,
)

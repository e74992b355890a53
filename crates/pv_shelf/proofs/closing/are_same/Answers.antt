use Rattle.std.proofs.Common.{◌∙◌, sym}
use Rattle.pv_shelf.proofs.FaceLemmas.{parts-decided}
use Rattle.pv_shelf.proofs.closing.are_same.Goals as goal

pub returns : goal.returns
returns c = λ said. (parts-decided c.args.parts.now c.args.others.now).0 (sym c.eq.ensures ∙ said)

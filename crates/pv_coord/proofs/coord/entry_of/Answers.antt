use Rattle.std.proofs.Common.{Some, ap, sym, ◌∙◌}
use Rattle.pv_coord.proofs.KeyedLemmas.{found-at}
use Rattle.pv_coord.specs.Work.{txn_of}
use Rattle.pv_coord.proofs.coord.entry_of.Goals as goal

pub returns-in-Some : goal.returns-in-Some
returns-in-Some c =
    let place = c.in-Some.ensures in
    ap Some c.index-entries-place.is
    ∙ sym (found-at txn_of c.args.entries.now c.requires.ordered c.in-Some.place c.index-entries-place.result place.within c.args.txn (sym (place.same _)))

use Rattle.std.proofs.Common.{◌≡◌, true, false, sym, ap, ◌∙◌, Bool, Some, None, rules}
use Rattle.std.specs.Prelude.{if◌then◌else◌}
use Rattle.pv_coord.proofs.KeyedLemmas.{only, found-both}
use Rattle.pv_coord.specs.Work.{Work, txn_of}
use Rattle.pv_protocol.specs.Coordinate.{is_locking}
use Rattle.pv_coord.proofs.coord.locking_entry.Goals as goal

-- the test
abbrev pub passes : Work → Bool
passes work = is_locking work.entry.stage

pub returns-then-not-is_locking : goal.returns-then-not-is_locking
returns-then-not-is_locking c =
    let fails : passes c.in-Some.entry.now ≡ false = search rules in
    sym (found-both txn_of passes c.args.entries.now c.requires.ordered c.args.txn ∙ ap (only txn_of passes) (sym c.in-Some.ensures)
    ∙ ap (λ (b : Bool). if b then Some c.in-Some.entry.now else None) fails)

pub returns-else-not-is_locking : goal.returns-else-not-is_locking
returns-else-not-is_locking c =
    let holds : passes c.in-Some.entry.now ≡ true = search rules in
    sym (found-both txn_of passes c.args.entries.now c.requires.ordered c.args.txn ∙ ap (only txn_of passes) (sym c.in-Some.ensures)
    ∙ ap (λ (b : Bool). if b then Some c.in-Some.entry.now else None) holds)

pub returns-in-None : goal.returns-in-None
returns-in-None c = sym (found-both txn_of passes c.args.entries.now c.requires.ordered c.args.txn ∙ ap (only txn_of passes) (sym c.in-None.ensures))

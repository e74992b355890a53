use Rattle.std.proofs.Common.{sym, ap, ◌∙◌}
use Rattle.pv_bytes.specs.Reading.{Rest}
use Rattle.pv_journal.proofs.ReadLemmas.{whole_number}
use Rattle.pv_journal.proofs.reading.number_in.Goals as goal

pub returns : goal.returns
returns c =
    whole_number c.args.bytes.now c.u32.new.self.left c.in-Ok.number (ap (λ (r : Rest). r.left) (sym c.new.ensures) ∙ c.in-Ok.ensures.taken.bytes) c.requires

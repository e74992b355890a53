-- A log without contents is as long as no records make it.
use Rattle.std.proofs.Common.{◌≡◌, ◌∙◌, ap₂, [], List, ℕ, arith}
use Rattle.std.specs.Global.{Vec}
use Rattle.pv_law_step.proofs.JournalLemmas.{no-records-long}
use Rattle.pv_replay.specs.Values.{contents_of, records_of}
use Rattle.pv_replay.specs.declared.record.Record.{Record}
use Rattle.pv_site.proofs.surplus.Surplus.none.Goals as goal
use Rattle.pv_site.specs.Surplus.{surplus_of}

nothing-over : surplus_of [] [] ≡ 0
nothing-over = omega (arith, no-records-long)

pub returns : goal.returns
returns c =
    c.of.ensures
    ∙ (ap₂ (λ (contents : List (Vec ℕ)) (records : List Record). surplus_of (contents_of contents) (records_of records)) c.new.ensures.items c.new-2.ensures.items ∙ nothing-over)

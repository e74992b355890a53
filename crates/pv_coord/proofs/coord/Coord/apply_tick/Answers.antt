use Rattle.std.proofs.Common.{◌≡◌, List, length, ap, ◌∙◌, arith}
use Rattle.std.proofs.lemmas.List.{length-map}
use Rattle.pv_coord.proofs.Ageing.{written-back}
use Rattle.pv_coord.proofs.Expiries.{older_one}
use Rattle.pv_coord.proofs.Kept.{kept-tick}
use Rattle.pv_coord.specs.Coordinator.{CoordMemory, older, lasting}
use Rattle.pv_coord.specs.Work.{Work}
use Rattle.pv_coord.proofs.coord.Coord.apply_tick.Goals as goal

pub left : (c : goal.After-keep_young) → c.keep_young.new.entries.items ≡ lasting (older c.self.inside.entries.items)
left c =
    let aged : c.age.new.entries ≡ older c.self.inside.entries.items = c.age.ensures ∙ ap older c.deref_mut.ensures.value in
    let long = ap (λ (works : List Work). length works) aged ∙ length-map c.self.inside.entries.items older_one in
    let all = ap (λ (works : List Work). length works) c.deref_mut.ensures.value in
    c.keep_young.ensures.lasting
    ∙ ap lasting (written-back c.age.new.entries c.self.inside.entries.items c.self.inside.entries.len
    (omega (arith, long, all, c.deref_mut.ensures.len)) (omega (arith, all, c.deref_mut.ensures.len)))
    ∙ ap lasting aged

pub invariant_of-self : goal.invariant_of-self
invariant_of-self c = rw (left c) (kept-tick _ c.self.invariant)

pub returns-clause-older : goal.returns-clause-older
returns-clause-older c = rw (left c) (ap (λ (memory : CoordMemory). record memory.contents { entries = lasting (older memory.contents.entries) }) c.self.view_is)

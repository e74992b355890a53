use Rattle.std.proofs.Common.{◌∙◌, ap}
use Rattle.std.specs.Prelude.{find, ◌||◌}
use Rattle.pv_base.specs.Want.{Want}
use Rattle.pv_locks.proofs.ItemLemmas.{find-at}
use Rattle.pv_locks.proofs.holders.first_in_the_way.Goals as goal
use Rattle.pv_locks.specs.Holders.{is_holder_in_the_way}
use Rattle.pv_locks.specs.declared.holders.Holder.{Holder}

pub returns : goal.returns
returns c =
    c.first_beside.ensures ∙ ap (find (λ (h : Holder). c.want.inside.exclusive || h.exclusive)) c.of_item.ensures
    ∙ find-at (record { item = c.want.inside.item.0; exclusive = c.want.inside.exclusive }) c.args.holders.now
    ∙ ap (λ (want : Want). find (is_holder_in_the_way want) c.args.holders.now) c.want.view_is

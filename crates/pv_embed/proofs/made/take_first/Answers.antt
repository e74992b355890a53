use Rattle.std.proofs.Common.{◌≢◌, ◌≤◌, [], rules}
use Rattle.pv_embed.proofs.MadeLemmas.{none_taken, last_taken, all-later}
use Rattle.pv_embed.specs.Outputs.{outputs_of}
use Rattle.pv_embed.proofs.made.take_first.Goals as goal

pub returns-then-made-stored-clause-takes : goal.returns-then-made-stored-clause-takes
returns-then-made-stored-clause-takes c =
    none_taken c.args.me.0 c.args.stored c.args.queue.now.items c.in_ok-made.made.now c.in_ok-made.ensures.value c.requires (search rules)

pub returns-then-is_empty-clause-takes : goal.returns-then-is_empty-clause-takes
returns-then-is_empty-clause-takes c =
    last_taken c.args.me.0 c.args.stored c.args.queue.now.items c.pop_front.new.self.items c.in_ok-made.made.now c.take-output.new.self c.take-output.result
    c.in_ok-made.ensures.item.3.0 c.in_ok-made.ensures.value c.requires (search rules) c.take-output.ensures.length c.take-output.ensures.takes (search rules)
    c.pop_front.ensures.rest

pub returns-then-is_empty-clause-some : goal.returns-then-is_empty-clause-some
returns-then-is_empty-clause-some c =
    all-later (λ each. outputs_of c.args.me.0 each ≢ []) c.args.queue.now.items c.pop_front.new.self.items c.take-output.new.self c.requires c.pop_front.ensures.rest

pub returns-then-is_empty-clause-lengths : goal.returns-then-is_empty-clause-lengths
returns-then-is_empty-clause-lengths c = λ most kept.
    all-later (λ each. each.length ≤ most) c.args.queue.now.items c.pop_front.new.self.items c.take-output.new.self kept c.pop_front.ensures.rest

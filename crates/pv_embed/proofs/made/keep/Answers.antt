use Rattle.std.proofs.Common.{◌≢◌, ◌≤◌, [], ap, ◌∙◌, subst, sym, All, List}
use Rattle.std.specs.Prelude.{flat_map}
use Rattle.pv_embed.proofs.MadeLemmas.{held-more, held-none, all-more}
use Rattle.pv_embed.specs.Outputs.{held_of, outputs_of}
use Rattle.pv_embed.specs.declared.made.Made.{Made}
use Rattle.pv_embed.proofs.made.keep.Goals as goal

pub returns-then-is_empty-clause-held : goal.returns-then-is_empty-clause-held
returns-then-is_empty-clause-held c = λ from. held-none from c.args.queue.now.items c.args.made ((c.is_empty.ensures from).0 c.if-is_empty.true)

pub returns-clause-held : goal.returns-clause-held
returns-clause-held c = λ from. ap (flat_map (held_of from)) c.push_back_reserved.ensures.items ∙ held-more from c.args.queue.now.items c.args.made

pub returns-clause-some : goal.returns-clause-some
returns-clause-some c = λ from kept.
    let some : outputs_of from c.args.made ≢ [] = λ none. let yes = (c.is_empty.ensures from).1 none in let no = c.if-is_empty.false in cc in
    subst (All (λ (each : Made). outputs_of from each ≢ [])) (sym {A = List Made} c.push_back_reserved.ensures.items)
    (all-more (λ each. outputs_of from each ≢ []) c.args.queue.now.items c.args.made kept some)

pub returns-clause-lengths : goal.returns-clause-lengths
returns-clause-lengths c = λ most kept within.
    subst (All (λ (each : Made). each.length ≤ most)) (sym c.push_back_reserved.ensures.items) (all-more (λ each. each.length ≤ most) c.args.queue.now.items c.args.made kept within)

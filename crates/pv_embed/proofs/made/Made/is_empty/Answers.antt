use Rattle.std.proofs.Common.{rules, ◌≡◌, length, nat_eq, ap, ◌∙◌}
use Rattle.std.proofs.lemmas.Bool.{eqb-true}
use Rattle.std.specs.Vec.Iter.{into_iter_items}
use Rattle.pv_embed.proofs.MadeLemmas.{no_sends}
use Rattle.pv_embed.proofs.made.Made.is_empty.Goals as goal

pub returns-else-len-eq0 : goal.returns-else-len-eq0
returns-else-len-eq0 c = λ from.
    let count : c.len.result ≡ length (into_iter_items c.args.self.now.sends) = search rules in
    ((λ is. absurd (c.if-len-eq0.false (eqb-true _ _ is))), (λ none. ap (λ n. nat_eq n 0) (count ∙ no_sends from c.args.self.now none)))

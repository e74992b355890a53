-- Lines that are forms are counted; a broken one is one, where no other stands with it.
use Rattle.std.proofs.Common.{ℕ, ◌==◌, not, ap, ◌∙◌, map, rules}
use Rattle.std.proofs.lemmas.List.{length-map}
use Rattle.pv_script.specs.LineView.{line_of}
use Rattle.pv_audit.proofs.BelowLemmas.{many-broken, one-form}
use Rattle.pv_audit.proofs.below.Below.is_one.Goals as goal

pub returns-then-is_none : goal.returns-then-is_none
returns-then-is_none c = λ catalog lines are.
    one-form catalog lines (map line_of c.args.self.now.lines.items) c.args.self.now.broken c.args.self.now.more _ (c.is_none.ensures ∙ ap not c.if-is_none.true)
    (ap (λ (n : ℕ). n == 1) (search (rules, length-map))) are

pub returns-then-self : goal.returns-then-self
returns-then-self c = λ catalog lines are.
    many-broken catalog lines (map line_of c.args.self.now.lines.items) c.args.self.now.broken c.args.self.now.more (c.is_none.ensures ∙ ap not c.if-is_none.false) c.if-self.true are

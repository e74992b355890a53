-- A blank is passed, and a token stands before the tokens of what is behind it.
use Rattle.std.proofs.Common.{sym, ◌∙◌, arith}
use Rattle.pv_parse.proofs.TokenListLemmas.{before_blank, before_token, digits_more, all_found}
use Rattle.pv_parse.proofs.token.tokens_of.Goals as goal

pub loop-rest-preserved-then-is_blank : goal.loop-rest-preserved-then-is_blank
loop-rest-preserved-then-is_blank c = (
  omega arith,
  before_blank c.args.text.now c.loop-rest.column c.loop-rest.rest.now c.split_at.result.1.now c.loop-rest.found.items c.in-len1-up.len_at_least
      (sym c.is_blank.ensures ∙ c.if-is_blank.true) c.split_at.ensures.back c.loop-rest.invariant.1,
  c.loop-rest.invariant.2,
)

pub loop-rest-preserved : goal.loop-rest-preserved
loop-rest-preserved c =
    let starts = c.first_token-size.ensures.token in (
      omega (arith, starts.within),
      before_token c.args.text.now c.loop-rest.rest.now c.split_at-in-len1-up.result.1.now c.loop-rest.found.items c.push.new.self.items
          _ c.first_token-size.result.1 starts c.split_at-in-len1-up.ensures.back c.in_ok-push.ensures.items c.loop-rest.invariant.1,
      digits_more c.loop-rest.found.items c.push.new.self.items _ c.in_ok-push.ensures.items c.loop-rest.invariant.2 c.first_token-size.ensures.digits,
    )

pub returns-clause-tokens : goal.returns-clause-tokens
returns-clause-tokens c = all_found c.args.text.now c.loop-rest.column c.loop-rest.rest.now c.loop-rest.found.items c.in_default.len_below c.loop-rest.invariant.1

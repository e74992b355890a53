-- What waits has bytes; it is taken where they were written, and else waits.
use Rattle.std.proofs.Common.{◌≡◌, ap, subst, ◌∙◌, sym, ◌≤◌, ℕ, List, Option, Some, Ok, IfSome}
use Rattle.pv_base.specs.Catalog.{Declared}
use Rattle.pv_base.specs.declared.failure.NoMemory.{NoMemory}
use Rattle.pv_embed.specs.Hosted.{stored_length}
use Rattle.pv_embed.specs.Outputs.{out_of}
use Rattle.pv_handle.proofs.ByteLemmas.{front}
use Rattle.pv_handle.proofs.TagLemmas.{gives-tag}
use Rattle.pv_handle.proofs.TakeLemmas.{brought-is, brought-good, brought-stored, waiting-good, takes, left-keeps}
use Rattle.pv_handle.proofs.bytes.ByteSite.take.Goals as goal
use Rattle.pv_handle.specs.ByteSite.{GivesOut, TakesBytes}
use Rattle.pv_handle.specs.ByteState.{ByteState}
use Rattle.pv_handle.specs.Tags.{LetsGo, TellsTag}
use Rattle.pv_handle.specs.Waiting.{left_after}
use Rattle.pv_handle.specs.declared.bytes.Waiting.{Waiting}
use Rattle.pv_handle.specs.declared.tags.Tag.{Tag}

pub give_output-requires : goal.give_output-requires
give_output-requires c =
    let good = brought-good c.self.inside c.bring.new.site c.bring.new.waiting c.self.invariant c.bring.ensures.held c.bring.ensures.site c.bring.ensures.stored in
    waiting-good c.bring.new.site c.bring.new.waiting c.in-Some.waiting c.me.result.0 c.catalog.result.now good c.in-Some.is c.me.ensures c.catalog.ensures

pub invariant_of-self-2 : goal.invariant_of-self-2
invariant_of-self-2 c =
    let keeps = left-keeps c.self.inside c.bring.new.site c.bring.new.waiting c.self.invariant c.bring.ensures.held c.bring.ensures.site c.bring.ensures.stored c.in_ok-given.given
    c.let_go.new.waiting c.let_go.ensures.left in
    record { stored = keeps.stored; given = keeps.given }

pub returns : goal.returns
returns c =
    let after = c.bring.new.site in
    let waiting = c.in-Some.waiting in
    let given = c.in_ok-given.given in
    let is : front (Some waiting) after ≡ c.args.self.now.hosted =
    ap (λ (w : Option Waiting). front w after) (sym c.in-Some.is)
    ∙ (brought-is c.self.inside after c.bring.new.waiting c.self.invariant c.bring.ensures.held c.bring.ensures.site c.bring.ensures.stored ∙ ap (λ (state : ByteState). state.hosted) c.self.view_is) in
    let stored : waiting.length ≤ stored_length after =
    subst (λ (w : Option Waiting). IfSome w (λ (waits : Waiting). waits.length ≤ stored_length after)) c.in-Some.is
    (brought-stored c.self.inside after c.bring.new.waiting c.self.invariant c.bring.ensures.held c.bring.ensures.site c.bring.ensures.stored) in
    let gives : GivesOut after.site.me after.site.catalog (out_of waiting.output) c.args.out.now c.give_output.new.out given =
    subst (λ (me : ℕ). GivesOut me after.site.catalog (out_of waiting.output) c.args.out.now c.give_output.new.out given) c.me.ensures
    (subst (λ (catalog : Declared). GivesOut c.me.result.0 catalog (out_of waiting.output) c.args.out.now c.give_output.new.out given) c.catalog.ensures c.in_ok-given.ensures.given) in (
      subst (λ (w : Option Waiting). TakesBytes {E = NoMemory} c.args.out.now c.give_output.new.out c.args.self.now.hosted (front w after) (Ok given))
          (sym (c.let_go.ensures.left ∙ ap (left_after given) c.in-Some.is))
          (takes c.args.self.now.hosted after waiting is stored c.args.out.now c.give_output.new.out given gives),
      ap (λ (state : ByteState). state.taken) c.self.view_is,
      subst (λ (tags : List Tag). TellsTag {E = NoMemory} c.args.self.now.hosted.held tags c.let_go.new.tags.items c.let_go.result (Ok given)) (ap (λ (state : ByteState). state.tags) c.self.view_is)
          (gives-tag c.args.self.now.hosted after waiting is c.self.inside.tags.items c.let_go.new.tags.items c.let_go.result given
          (subst (λ (w : Option Waiting). LetsGo w c.self.inside.tags.items c.let_go.new.tags.items c.let_go.result given) c.in-Some.is c.let_go.ensures.tag)),
    )
